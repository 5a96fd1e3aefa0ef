-- The numbers of faults and limits.
use Rattle.std.specs.Prelude.{ℕ}
use Rattle.ec_base.specs.declared.fault.FaultKind.{FaultKind}
use Rattle.ec_base.specs.declared.fault.FaultKind.TheVariants.{F1, F2, F3, F4, F5, F6, F7, F8, F9, F10, F11, F12, F13, F14, F15, F16, F17, F18, F19, F20, F21, F22, F23, F24, F25, F26, F27, F28, F29, F30, F31, F32}
use Rattle.ec_base.specs.declared.fault.LimitKind.{LimitKind}
use Rattle.ec_base.specs.declared.fault.LimitKind.TheVariants.{L1, L2, L3, L4, L5, L6, L7, L8, L9, L10, L11}

-- 7 of F7
abbrev pub fault_number : FaultKind → ℕ
fault_number F1 = 1
fault_number F2 = 2
fault_number F3 = 3
fault_number F4 = 4
fault_number F5 = 5
fault_number F6 = 6
fault_number F7 = 7
fault_number F8 = 8
fault_number F9 = 9
fault_number F10 = 10
fault_number F11 = 11
fault_number F12 = 12
fault_number F13 = 13
fault_number F14 = 14
fault_number F15 = 15
fault_number F16 = 16
fault_number F17 = 17
fault_number F18 = 18
fault_number F19 = 19
fault_number F20 = 20
fault_number F21 = 21
fault_number F22 = 22
fault_number F23 = 23
fault_number F24 = 24
fault_number F25 = 25
fault_number F26 = 26
fault_number F27 = 27
fault_number F28 = 28
fault_number F29 = 29
fault_number F30 = 30
fault_number F31 = 31
fault_number F32 = 32

-- 6 of L6
abbrev pub limit_number : LimitKind → ℕ
limit_number L1 = 1
limit_number L2 = 2
limit_number L3 = 3
limit_number L4 = 4
limit_number L5 = 5
limit_number L6 = 6
limit_number L7 = 7
limit_number L8 = 8
limit_number L9 = 9
limit_number L10 = 10
limit_number L11 = 11
