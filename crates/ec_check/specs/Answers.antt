-- What the checks answer.
use Rattle.std.specs.Prelude.{◌≡◌, ℕ, Bool, List, Result, Ok, Err}
use Rattle.ec_base.specs.declared.stop.Stop.{Stop}
use Rattle.ec_base.specs.declared.stop.Stop.TheVariants.{Refused, Limit, OutOfMemory}
use Rattle.ec_ctypes.specs.declared.checked.typed.Typed.{Typed}
use Rattle.ec_ctypes.specs.trees.Units.{UnitData}
use Rattle.ec_ctypes.specs.trees.Checked.{MarkData}
use Rattle.ec_ctypes.specs.views.Checked.{typed_view}
use Rattle.ec_typing_defs.specs.Answers.{check_answer}

-- The program with its types, or the first of its violations. Want of memory alone is free.
abbrev pub Checks : Bool → UnitData → List ℕ → List MarkData → Result Typed Stop → Type 0
Checks written u hosts handlers (Ok typed) =
    check_answer written u hosts handlers ≡ Ok (typed_view typed)
Checks written u hosts handlers (Err (Refused kind line)) =
    check_answer written u hosts handlers ≡ Err (Refused kind line)
Checks written u hosts handlers (Err (Limit kind)) =
    check_answer written u hosts handlers ≡ Err (Limit kind)
Checks written u hosts handlers (Err OutOfMemory) = Unit {0}
