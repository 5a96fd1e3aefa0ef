-- Of faults at one place, that of the lowest number.
use Rattle.std.specs.Prelude.{nat_lt, List, [], ◌∷◌, Option, Some, None, if◌then◌else◌}
use Rattle.ec_base.specs.declared.fault.FaultKind.{FaultKind}
use Rattle.ec_base.specs.Numbers.{fault_number}

abbrev pub lower : FaultKind → Option FaultKind → Option FaultKind
lower a None = Some a
lower a (Some b) = if nat_lt (fault_number b) (fault_number a) then Some b else Some a

abbrev pub lower_of : Option FaultKind → Option FaultKind → Option FaultKind
lower_of None b = b
lower_of (Some a) b = lower a b

unfoldable pub least : List FaultKind → Option FaultKind
least [] = None
least (k ∷ ks) = lower k (least ks)
