-- The action that a WHENEVER sets (PostgreSQL manual, "Setting Callbacks"). A WHENEVER holds for all statements below it in the text until the same condition is set again, whatever the flow of control.
use Rattle.std.specs.Prelude.{ℕ, Bool, true, false, ◌&&◌, nat_lt, List, [], ◌∷◌, Option, Some, None, option_map}
use Rattle.std.specs.List.{filter}
use Rattle.ec_ctypes.specs.declared.embedded.emb.Cond.{Cond}
use Rattle.ec_ctypes.specs.declared.embedded.emb.Cond.TheVariants.{NotFound, Warning, Error}
use Rattle.ec_ctypes.specs.trees.Checked.{MarkData}
use Rattle.ec_ctypes.specs.trees.Embedded.{ActionData, EmbData, whenever, include_sqlca, declare_cursor}

abbrev pub same_cond : Cond → Cond → Bool
same_cond NotFound NotFound = true
same_cond Warning Warning = true
same_cond Error Error = true
same_cond _ _ = false

-- a directive: it is not executed
abbrev pub is_directive : EmbData → Bool
is_directive e = elim e.kind [
  | whenever c a ↦ true
  | include_sqlca ↦ true
  | declare_cursor c ps p ↦ true
  | _ ↦ false
]

-- a WHENEVER, with its place
abbrev pub mark_of : EmbData → Option MarkData
mark_of e = elim e.kind [ whenever c a ↦ Some (e.place, c, a) | _ ↦ None ]

abbrev pub with_mark : Option MarkData → List MarkData → List MarkData
with_mark None ms = ms
with_mark (Some m) ms = m ∷ ms

-- every WHENEVER, in the order of the text
abbrev pub marks_in : List EmbData → List MarkData
marks_in [] = []
marks_in (e ∷ es) = with_mark (mark_of e) (marks_in es)

-- it is for the condition, and stands before the place
abbrev pub holds_at : ℕ → Cond → MarkData → Bool
holds_at place cond m = nat_lt m.0 place && same_cond cond m.1

abbrev pub last_of : {A : Type 0} → List A → Option A
last_of [] = None
last_of (x ∷ []) = Some x
last_of (x ∷ y ∷ ys) = last_of (y ∷ ys)

-- the last of these for the condition before the place
abbrev pub action_among : List MarkData → ℕ → Cond → Option ActionData
action_among ms place cond = option_map (λ m. m.2) (last_of (filter (holds_at place cond) ms))

-- The action for the condition at a statement of this place: that of the last WHENEVER for it that stands before the place in the text. Where there is none, the program goes on.
abbrev pub handler : List EmbData → ℕ → Cond → Option ActionData
handler es place cond = action_among (marks_in es) place cond
