-- What the calls answer, in the words of the definitions.
use Rattle.std.specs.Prelude.{◌≡◌, ℕ, Bool, true, List, Option, Some, None, Result, Ok, Err, is_ok}
use Rattle.ec_base.specs.declared.stop.Trap.{Trap}
use Rattle.ec_convert.specs.declared.stop.ConvStop.{ConvStop}
use Rattle.ec_convert.specs.declared.stop.ConvStop.TheVariants as stops
use Rattle.ec_memory_defs.specs.Memory.{Memory}
use Rattle.ec_transfer_defs.specs.Conversion.{trapped, refused, Stored}

-- a text, or the trap in its place; memory may be wanted for a text alone
abbrev pub GivesText : Result (List ℕ) ConvStop → Result (List ℕ) Trap → Type 0
GivesText (Ok text) r = r ≡ Ok text
GivesText (Err (stops.Trapped trap)) r = r ≡ Err trap
GivesText (Err (stops.Code code)) r = ⊥
GivesText (Err stops.OutOfMemory) r = is_ok r ≡ true

-- there is a text
abbrev pub HasText : Result (Option (List ℕ)) Trap → Type 0
HasText (Ok (Some text)) = Unit {0}
HasText (Ok None) = ⊥
HasText (Err trap) = ⊥

-- a parameter, or the trap in its place; memory may be wanted for a text alone
abbrev pub GivesParameter : Result (Option (List ℕ)) ConvStop →
    Result (Option (List ℕ)) Trap → Type 0
GivesParameter (Ok text) r = r ≡ Ok text
GivesParameter (Err (stops.Trapped trap)) r = r ≡ Err trap
GivesParameter (Err (stops.Code code)) r = ⊥
GivesParameter (Err stops.OutOfMemory) r = HasText r

-- what a call that stores answers, with the memory behind it. It never answers want of memory
abbrev pub leaves : Result Bool ConvStop → Memory → Option Stored
leaves (Ok cut) m = Some (Ok cut, m)
leaves (Err (stops.Trapped trap)) m = Some (Err (trapped trap), m)
leaves (Err (stops.Code code)) m = Some (Err (refused code), m)
leaves (Err stops.OutOfMemory) m = None
