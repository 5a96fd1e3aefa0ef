-- What reading a written text gives.
use Rattle.std.specs.Prelude.{◌≡◌, ◌⊎◌, Result, Ok, Err}
use Rattle.ec_base.specs.declared.fault.LimitKind.TheVariants.{L2, L3, L6}
use Rattle.ec_base.specs.declared.stop.Stop.{Stop}
use Rattle.ec_base.specs.declared.stop.Stop.TheVariants.{Limit}
use Rattle.ec_ctypes.specs.trees.Units.{UnitData}
use Rattle.ec_writing_defs.specs.Programs.{last_line}

-- the program as it is read back: it is the same, with the line of its text's end
abbrev pub read_back : UnitData → UnitData
read_back u = record u { last = record { 0 = last_line u } }

-- The answer is the program, or one of the limits that a text can pass: too many tokens, too deep or too long an expression, too many bytes.
abbrev pub IsReadBack : UnitData → Result UnitData Stop → Type 0
IsReadBack u a =
    (a ≡ Ok (read_back u)) ⊎ (a ≡ Err (Limit L2)) ⊎ (a ≡ Err (Limit L3))
    ⊎ (a ≡ Err (Limit L6))
