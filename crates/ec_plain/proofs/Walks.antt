-- An expression leads to what its steps make of what its beginning leads to.
use Rattle.std.proofs.Common.{◌≡◌, ◌∙◌, refl, ap, sym, ℕ, suc, ◌+◌, ◌<◌, length, get_or, drop, drop-cons, add-one, List, [], ◌∷◌, Result, Ok, Err}
use Rattle.ec_base.specs.declared.stop.Trap.{Trap}
use Rattle.ec_code.specs.Trees.{Step, one, two, walked, stepped, one_made, two_made}
use Rattle.ec_code.specs.declared.step.Binary.{Binary}
use Rattle.ec_code.specs.declared.step.Binary.TheVariants as binary
use Rattle.ec_code.specs.declared.step.Unary.{Unary}
use Rattle.ec_code.specs.declared.step.Unary.TheVariants as unary
use Rattle.ec_code.specs.declared.step.Update.{Update}
use Rattle.ec_meaning_defs.specs.evaluation.Evaluate.{Context, World, Step as Knowing, eval}
use Rattle.ec_meaning_defs.specs.evaluation.Results.{value, over, on_value, at_address, tried}
use Rattle.ec_meaning_defs.specs.evaluation.State.{State, Ending}
use Rattle.ec_memory_defs.specs.Memory.{ValueData, number, address, load}
use Rattle.ec_memory_defs.specs.Kinds.{kind_type}
use Rattle.ec_meaning_defs.specs.resolved.Resolved.{Exp}
use Rattle.ec_values.specs.declared.word.Stop.{Stop}
use Rattle.ec_values.specs.declared.word.Word.{Word}
use Rattle.ec_plain.specs.Answered.{answered}
use Rattle.ec_plain.specs.Steps.{one_on, two_on, step_on, followed, both_on}

module _ (step : Knowing) (w : World) (c : Context) where
  one_leads : (u : Unary) (e : Exp) (s : State) → eval step w c (one_made u e) s ≡ on_value (eval step w c e s) (one_on c.line u)
  one_leads (unary.Member offset) e s = refl
  one_leads (unary.Load kind) e s = refl
  one_leads (unary.Whole size) e s = refl
  one_leads (unary.Put bytes) e s = refl
  one_leads (unary.Convert from to) e s = refl
  one_leads (unary.Negate t) e s = refl
  one_leads (unary.Flip t) e s = refl
  one_leads unary.Not e s = refl

  update_old : (n : Update) (a : Exp) (v : ValueData) (t : State) (p : ℕ) (r : Result ValueData Trap) → tried c.line r t (λ old. on_value (eval step w c a t) (both_on c.line (binary.Update n) (address p) old)) ≡ on_value (tried c.line r t (λ old. value old t)) (λ old u. on_value (eval step w c a u) (both_on c.line (binary.Update n) (address p) old))
  update_old n a v t p (Ok old) = refl
  update_old n a v t p (Err trap) = refl

  update_on : (n : Update) (a : Exp) (v : ValueData) (t : State) → at_address v t (λ p. tried c.line (load t.memory p (kind_type n.kind)) t (λ old. on_value (eval step w c a t) (both_on c.line (binary.Update n) (address p) old))) ≡ two_on step w c (binary.Update n) a v t
  update_on n a (number z) t = refl
  update_on n a (address p) t = update_old n a (address p) t p (load t.memory p (kind_type n.kind))

  two_leads : (b : Binary) (e a : Exp) (s : State) → eval step w c (two_made b e a) s ≡ on_value (eval step w c e s) (two_on step w c b a)
  two_leads (binary.Store kind) e a s = refl
  two_leads (binary.Copy size) e a s = refl
  two_leads (binary.Update n) e a s = λ i. on_value (eval step w c e s) (λ v t. update_on n a v t i)
  two_leads (binary.Operate op) e a s = refl
  two_leads binary.Both e a s = refl
  two_leads binary.Either e a s = refl

  leads : (e : Exp) (x : Step) (s : State) → eval step w c (stepped e x) s ≡ on_value (eval step w c e s) (step_on step w c x)
  leads e (one u) s = one_leads u e s
  leads e (two b a) s = two_leads b e a s

  pub walk_leads : (e : Exp) (xs : List Step) (s : State) → eval step w c (walked e xs) s ≡ followed step w c xs (eval step w c e s)
  walk_leads e [] s = refl
  walk_leads e (x ∷ xs) s = walk_leads (stepped e x) xs s ∙ ap (followed step w c xs) (leads e x s)

  pub followed_over : (xs : List Step) (e : Ending) (s : State) → followed step w c xs (over e s) ≡ over e s
  followed_over [] e s = refl
  followed_over (x ∷ xs) e s = followed_over xs e s

-- the item at an index, and what stands behind it
pub drop_item : {A : Type 0} (xs : List A) (i : ℕ) (x : A) → i < length xs → x ≡ get_or xs i x → drop i xs ≡ x ∷ drop (i + 1) xs
drop_item xs i x h e = drop-cons xs i x h ∙ ap (λ y. y ∷ drop (suc i) xs) (sym e) ∙ ap (λ n. x ∷ drop n xs) (sym (add-one i))

pub answered_as : (line : ℕ) (r r' : Result Word Stop) (s : State) → r ≡ r' → answered line r s ≡ answered line r' s
answered_as line r r' s p = ap (λ x. answered line x s) p
