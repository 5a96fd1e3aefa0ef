-- What is seen of a run that waited, and of the same run with the answer.
use Rattle.std.specs.Prelude.{◌≡◌, ◌⊎◌, ℕ, List, ◌∷◌, ◌++◌, Option}
use Rattle.ec_link.specs.declared.logged.Logged.{Logged}
use Rattle.ec_link.specs.declared.request.Request.{Request}
use Rattle.ec_meaning_defs.specs.evaluation.State.{Answer}
use Rattle.ec_meaning_defs.specs.evaluation.Whole.{Observed}

-- What was printed and said are fronts of what is printed and said then. The first that is said behind is the request that waited over this slot, with this answer. Its slot is that of its connection, or that of the answer
pub record GoesOnFrom (slot : Option ℕ) (request : Request) (answer : Answer) (o o' : Observed) : Type 0 where
  pub printed : List ℕ
  pub output : o'.output ≡ o.output ++ printed
  pub complained : List ℕ
  pub errors : o'.errors ≡ o.errors ++ complained
  pub exchange : Logged
  pub rest : List Logged
  pub conversation : o'.conversation ≡ o.conversation ++ exchange ∷ rest
  pub asked : exchange.request ≡ request
  pub answered : exchange.reply ≡ answer.1
  pub over_slot : (exchange.slot ≡ slot) ⊎ (exchange.slot ≡ answer.0)
