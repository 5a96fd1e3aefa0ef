-- That a rule finds what a rule of the checks finds.
use Rattle.std.specs.Prelude.{◌≡◌}
use Rattle.ec_typing_defs.specs.Operands.{OperandData}
use Rattle.ec_typing_defs.specs.Statements as Checked
use Rattle.ec_typing_defs.specs.Worlds.{World, Rule}
use Rattle.ec_resolving_defs.specs.Storage.{Storage, Resolving}
use Rattle.ec_resolving_defs.specs.Operands.{Found}
use Rattle.ec_resolving_defs.specs.Statements.{Around}

-- Wherever things are, its answer is that of the checks, as far as they look, and so is what is known behind it.
pub record Finds {A B : Type 0} (seen : A → B) (m : Resolving A) (n : Rule B) : Type 0 where
  pub answer : (s : Storage) (w : World) → seen (m s w).answer ≡ (n w).answer
  pub world : (s : Storage) (w : World) → (m s w).world ≡ (n w).world

-- the whole answer
abbrev pub itself : {A : Type 0} → A → A
itself a = a

-- nothing of it
abbrev pub nothing_of : {A : Type 0} → A → Unit {0}
nothing_of a = tt

-- what the checks find out about an expression
abbrev pub operand_of : Found → OperandData
operand_of f = f.operand

-- the type of an initializer
abbrev pub type_of : {A B : Type 0} → A × B → A
type_of p = p.0

-- what stands round a statement, as far as resolving looks
abbrev pub around_of : Checked.Around → Around
around_of a = record { embs = a.embs; labels = a.labels; result = a.result }
