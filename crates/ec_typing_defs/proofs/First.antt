-- The answer tells the first violation.
use Rattle.std.proofs.Common.{◌≡◌, ℕ, List, [], Option, Some, None, Ok, Err, sym}
use Rattle.ec_base.specs.declared.stop.Stop.{Stop}
use Rattle.ec_ctypes.specs.trees.Units.{UnitData}
use Rattle.ec_ctypes.specs.trees.Checked.{MarkData, TypedData}
use Rattle.ec_language.specs.First.{Violation, IsFirst, IsAmong, first_of, stop_at}
use Rattle.ec_typing_defs.specs.Worlds.{World}
use Rattle.ec_typing_defs.specs.Answers.{answer_by, typed_of}

-- what is known of the first of a list
abbrev pub FirstIs : Type 0
FirstIs = (vs : List Violation) (v : Violation) → first_of vs ≡ Some v → IsFirst (IsAmong vs) v

abbrev pub NoneIsFirst : Type 0
NoneIsFirst = (vs : List Violation) → first_of vs ≡ None → vs ≡ []

module _ (first_is_some : FirstIs) (first_is_none : NoneIsFirst) (u : UnitData) (hosts : List ℕ) (handlers : List MarkData) (w : World) where
  pub refused_first : (vs : List Violation) (first : Option Violation) (stop : Stop) → first_of vs ≡ first → answer_by u hosts handlers w (stop_at first) ≡ Err stop
      → (v : Violation) × IsFirst (IsAmong vs) v × (v.stop ≡ stop)
  refused_first vs None stop p q = absurd (cc)
  refused_first vs (Some v) stop p q = (v, first_is_some vs v p, let e : v.stop ≡ stop = cc in e)

  pub typed_without : (vs : List Violation) (first : Option Violation) (typed : TypedData) → first_of vs ≡ first → answer_by u hosts handlers w (stop_at first) ≡ Ok typed
      → (vs ≡ []) × (typed ≡ typed_of u hosts handlers w)
  typed_without vs None typed p q = (first_is_none vs p, let e : typed_of u hosts handlers w ≡ typed = cc in sym e)
  typed_without vs (Some v) typed p q = absurd (cc)
