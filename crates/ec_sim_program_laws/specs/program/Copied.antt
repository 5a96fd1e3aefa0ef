-- That a rule finds in what is written a copy of what it finds in the source.
use Rattle.std.specs.Prelude.{◌≡◌, ℕ, List, [], ◌++◌, Option, Some, None, length, map}
use Rattle.ec_ctypes.specs.trees.Units.{TopData, UnitData}
use Rattle.ec_meaning_defs.specs.resolved.Resolved.{Stm}
use Rattle.ec_typing_defs.specs.Worlds.{World, Out, Rule}
use Rattle.ec_resolving_defs.specs.Storage.{LibraryCall, StatementForm, Storage, Reached, Resolving}
use Rattle.ec_meaning_defs.specs.observed.Run.{IsFront}
use Rattle.ec_sim_world_laws.specs.growth.Growth.{Grows}
use Rattle.ec_sim_statement_laws.specs.statement.Copies.{AreFunctionCopies}
use Rattle.ec_sim_statement_laws.specs.expression.Worlds.{AreAlike}
use Rattle.ec_sim_world_laws.specs.known.Known.{IsKnown, AreFound}
use Rattle.ec_sim_world_laws.specs.known.Positions.{IsBefore}
use Rattle.ec_sim_statement_laws.specs.expression.Alike.{SameStorage}

-- A source and what is written of it, as they are known at the end
pub record Whole : Type 1 where
  -- what may stand on a line in the place of the embedded statement of a number
  pub Stands : ℕ → ℕ → Stm → Type 0
  -- the forms of the embedded statements, and the calls of the library in what is written
  pub forms : List StatementForm
  pub calls : List LibraryCall
  -- the numbers of the embedded statements in the order of the text
  pub numbers : List ℕ
  -- the source, and what is known behind it
  pub source : UnitData
  pub world : World

-- What is still to come: the embedded statements with these numbers, and behind a part that doesn't stand in a function these items of the program
pub record Ahead : Type 0 where
  pub numbers : List ℕ
  pub tops : Option (List TopData)

abbrev pub in_function : List ℕ → Ahead
in_function ns = record { numbers = ns; tops = None }

abbrev pub at_top : List ℕ → List TopData → Ahead
at_top ns ts = record { numbers = ns; tops = Some ts }

abbrev pub IsAt : UnitData → Option (List TopData) → World → Type 0
IsAt u None w = Unit {0}
IsAt u (Some ts) w = IsBefore u ts w

-- That is still to come behind these, which are found as they stand in the source
pub record AreToCome (g : Whole) (ahead : Ahead) (s : Storage) (w : World) : Type 0 where
  pub in_order : map (λ f. f.number) s.statements ++ ahead.numbers ≡ g.numbers
  pub denoted : length w.denoted ≡ length s.statements
  pub known : IsKnown g.source s w
  pub found : AreFound g.source s w s.statements w.denoted
  pub position : IsAt g.source ahead.tops w

-- What the checks and the resolved walk find in a source, and what they find in what is written, from these storages. What is like the other is so by the forms and calls of the whole
pub record FindCopies (g : Whole) {A B : Type 0} (IsLike : A → B → Type 0) (ahead : Ahead)
    (s t : Storage) (o p : Out (Unit {0})) (r : Reached A) (q : Reached B) : Type 0 where
  pub worlds : AreAlike r.world q.world
  pub storages : SameStorage r.storage q.storage
  pub to_come : AreToCome g ahead r.storage r.world
  -- statements and calls are only appended
  pub forms_grow : IsFront s.statements r.storage.statements
  pub calls_grow : IsFront t.calls q.storage.calls
  pub like : IsFront r.storage.statements g.forms → IsFront q.storage.calls g.calls
      → IsLike r.answer q.answer
  pub functions : IsFront r.storage.statements g.forms → IsFront q.storage.calls g.calls
      → AreFunctionCopies g.Stands s.functions t.functions
      → AreFunctionCopies g.Stands r.storage.functions q.storage.functions
  -- the walk finds what the checks find
  pub checked_world : r.world ≡ o.world
  pub checked_world_there : q.world ≡ p.world
  pub without_fault : p.found ≡ []

-- wherever nothing is wrong with the source, from where these statements are to come to where those are
pub record IsCopied (g : Whole) {A B : Type 0} (IsLike : A → B → Type 0) (ahead behind : Ahead)
    (source written : Rule (Unit {0})) (m : Resolving A) (n : Resolving B) : Type 0 where
  pub finds : (s t : Storage) (w v : World) → SameStorage s t → AreAlike w v
      → AreToCome g ahead s w → (source w).found ≡ [] → Grows (source w).world g.world
      → FindCopies g IsLike behind s t (source w) (written v) (m s w) (n t v)

-- What a rule finds of which nothing is written: no more is known than before, but for what is denoted
pub record FindNothing (g : Whole) (ahead : Ahead) (s t : Storage) (v : World)
    (o : Out (Unit {0})) (r : Reached (Unit {0})) : Type 0 where
  pub worlds : AreAlike r.world v
  pub storages : SameStorage r.storage t
  pub to_come : AreToCome g ahead r.storage r.world
  pub forms_grow : IsFront s.statements r.storage.statements
  pub functions : r.storage.functions ≡ s.functions
  pub checked_world : r.world ≡ o.world

pub record IsGone (g : Whole) (ahead behind : Ahead) (source : Rule (Unit {0}))
    (m : Resolving (Unit {0})) : Type 0 where
  pub finds : (s t : Storage) (w v : World) → SameStorage s t → AreAlike w v
      → AreToCome g ahead s w → (source w).found ≡ [] → Grows (source w).world g.world
      → FindNothing g behind s t v (source w) (m s w)

-- nothing is compared
abbrev pub Any : {A B : Type 0} → A → B → Type 0
Any a b = Unit {0}
