-- What the state of the walk stands for, and what a function of the walk ensures.
use Rattle.std.specs.Prelude.{◌≡◌, Bool, true, false, List, [], ◌∷◌, map, Option, Some, None, option_map, Result, IfOk, if◌then◌else◌}
use Rattle.ec_base.specs.declared.fault.FaultKind.{FaultKind}
use Rattle.ec_base.specs.declared.stop.OutOfMemory.{OutOfMemory}
use Rattle.ec_base.specs.declared.stop.Stop.TheVariants.{Refused}
use Rattle.ec_ctypes.specs.views.Types.{ty_view}
use Rattle.ec_language.specs.First.{Violation, comes_before}
use Rattle.ec_typing_defs.specs.Worlds.{Place, World, Out}
use Rattle.ec_scopes.specs.declared.state.Checker.{Checker}
use Rattle.ec_scopes.specs.Entries.{found_view, scope_view, outer_view}
use Rattle.ec_scopes.specs.Structs.{infos}

-- what is known
unfoldable pub world_of : Checker → World
world_of c =
    record {
      written = c.written;
      here = scope_view c.here;
      outer = outer_view c.outer;
      structs = infos c.structs.0 c.structs.1;
      closed = c.structs.1;
      types = map ty_view c.types;
      denoted = c.denoted;
      defined = c.defined;
      labels = c.labels;
      places = c.places;
    }

-- the first violation so far
unfoldable pub notes_of : Checker → Option Violation
notes_of c = option_map found_view c.first

-- one more violation, which is kept where it comes before what was kept
abbrev pub noted_one : Violation → Option Violation → Option Violation
noted_one v None = Some v
noted_one v (Some w) = if comes_before v w then Some v else Some w

-- all of these
abbrev pub noted : List Violation → Option Violation → Option Violation
noted [] n = n
noted (v ∷ vs) n = noted vs (noted_one v n)

-- this fault, where something was found
abbrev pub noted_instead : Place → FaultKind → Bool → Option Violation → Option Violation
noted_instead at kind true n =
    noted_one (record { place = at.number; stop = Refused kind at.line }) n
noted_instead at kind false n = n

-- The code answered this and went from the one state to the other, as the rule says.
pub record IsDone {A : Type 0} (o : Out A) (old new : Checker) (answer : A) : Type 0 where
  pub answer_is : answer ≡ o.answer
  pub world_is : world_of new ≡ o.world
  pub notes_is : notes_of new ≡ noted o.found (notes_of old)

-- the same, with the answer as `view` shows it, unless memory ran out
abbrev pub Does : {A B : Type 0} → (B → A) → Out A →
    Checker → Result B OutOfMemory → Checker → Type 0
Does view o old result new = IfOk result (λ b. IsDone o old new (view b))
