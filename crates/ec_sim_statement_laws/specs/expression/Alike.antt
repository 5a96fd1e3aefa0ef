-- That a rule finds in what is written what it finds in the source.
use Rattle.std.specs.Prelude.{◌≡◌, []}
use Rattle.ec_typing_defs.specs.Worlds.{World, Out, Rule}
use Rattle.ec_resolving_defs.specs.Storage.{Storage, Reached, Resolving}
use Rattle.ec_sim_statement_laws.specs.expression.Worlds.{AreAlike}

-- where things are in a source, and in what is written of it
pub record SameStorage (s t : Storage) : Type 0 where
  pub defined : t.defined ≡ s.defined
  pub before_literals : t.before_literals ≡ s.before_literals
  pub sites : t.sites ≡ s.sites
  pub globals : t.globals ≡ s.globals
  pub literals : t.literals ≡ s.literals
  pub block : t.block ≡ s.block

-- no function, call of the library or embedded statement is added
pub record AddsNone (s t : Storage) : Type 0 where
  pub functions : t.functions ≡ s.functions
  pub calls : t.calls ≡ s.calls
  pub statements : t.statements ≡ s.statements

-- What the checks and the resolved walk find in a source, and what they find in what is written, from these storages: the same answer, which calls no library, with no fault, and behind it the same is known
pub record FindAlike {A B : Type 0} (CallsNoLibrary : A → Type 0) (seen : A → B)
    (s t : Storage) (o p : Out B) (r q : Reached A) : Type 0 where
  pub answer : q.answer ≡ r.answer
  pub silent : CallsNoLibrary r.answer
  pub worlds : AreAlike r.world q.world
  pub storages : SameStorage r.storage q.storage
  pub adds_none : AddsNone s r.storage
  pub adds_none_there : AddsNone t q.storage
  -- the walk finds what the checks find
  pub checked : seen r.answer ≡ o.answer
  pub checked_world : r.world ≡ o.world
  pub checked_there : p.answer ≡ o.answer
  pub checked_world_there : q.world ≡ p.world
  pub without_fault : p.found ≡ []

-- wherever nothing is wrong with the source
pub record IsAlike {A B : Type 0} (CallsNoLibrary : A → Type 0) (seen : A → B)
    (source written : Rule B) (m n : Resolving A) : Type 0 where
  pub finds : (s t : Storage) (w v : World) → SameStorage s t → AreAlike w v
      → (source w).found ≡ []
      → FindAlike CallsNoLibrary seen s t (source w) (written v) (m s w) (n t v)
