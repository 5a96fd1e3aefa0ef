-- How faults, limits and traps are printed.
use Rattle.std.specs.Prelude.{ℕ, List, codes}
use Rattle.ec_base.specs.declared.fault.FaultKind.{FaultKind}
use Rattle.ec_base.specs.declared.fault.FaultKind.TheVariants.{F1, F2, F3, F4, F5, F6, F7, F8, F9, F10, F11, F12, F13, F14, F15, F16, F17, F18, F19, F20, F21, F22, F23, F24, F25, F26, F27, F28, F29, F30, F31, F32}
use Rattle.ec_base.specs.declared.fault.LimitKind.{LimitKind}
use Rattle.ec_base.specs.declared.fault.LimitKind.TheVariants.{L1, L2, L3, L4, L5, L6, L7, L8, L9, L10, L11}
use Rattle.ec_base.specs.declared.stop.Trap.{Trap}
use Rattle.ec_base.specs.declared.stop.Trap.TheVariants.{Outside, Dead, Null, Unset, Overflow, Shift, Zero, NoValue, BadLen, Spent}

-- the number and the name of a fault
abbrev pub fault_text : FaultKind → List ℕ
fault_text F1 = codes "F1 unclosed comment"
fault_text F2 = codes "F2 unclosed quote"
fault_text F3 = codes "F3 unclosed statement"
fault_text F4 = codes "F4 bad byte"
fault_text F5 = codes "F5 bad number"
fault_text F6 = codes "F6 bad escape"
fault_text F7 = codes "F7 syntax"
fault_text F8 = codes "F8 statement form"
fault_text F9 = codes "F9 left-out form"
fault_text F10 = codes "F10 redeclared"
fault_text F11 = codes "F11 undeclared"
fault_text F12 = codes "F12 reserved name"
fault_text F13 = codes "F13 VARCHAR length"
fault_text F14 = codes "F14 types"
fault_text F15 = codes "F15 no place"
fault_text F16 = codes "F16 call"
fault_text F17 = codes "F17 format"
fault_text F18 = codes "F18 jump"
fault_text F19 = codes "F19 constant"
fault_text F20 = codes "F20 no main"
fault_text F21 = codes "F21 no host"
fault_text F22 = codes "F22 host type"
fault_text F23 = codes "F23 indicator"
fault_text F24 = codes "F24 array input"
fault_text F25 = codes "F25 struct shapes"
fault_text F26 = codes "F26 unknown cursor"
fault_text F27 = codes "F27 cursor twice"
fault_text F28 = codes "F28 cursor host"
fault_text F29 = codes "F29 directive place"
fault_text F30 = codes "F30 handler"
fault_text F31 = codes "F31 unknown part"
fault_text F32 = codes "F32 unbalanced condition"

-- the number of a limit
abbrev pub limit_text : LimitKind → List ℕ
limit_text L1 = codes "L1"
limit_text L2 = codes "L2"
limit_text L3 = codes "L3"
limit_text L4 = codes "L4"
limit_text L5 = codes "L5"
limit_text L6 = codes "L6"
limit_text L7 = codes "L7"
limit_text L8 = codes "L8"
limit_text L9 = codes "L9"
limit_text L10 = codes "L10"
limit_text L11 = codes "L11"

-- the name of a trap
abbrev pub trap_text : Trap → List ℕ
trap_text Outside = codes "Outside"
trap_text Dead = codes "Dead"
trap_text Null = codes "Null"
trap_text Unset = codes "Unset"
trap_text Overflow = codes "Overflow"
trap_text Shift = codes "Shift"
trap_text Zero = codes "Zero"
trap_text NoValue = codes "NoValue"
trap_text BadLen = codes "BadLen"
trap_text Spent = codes "Spent"
