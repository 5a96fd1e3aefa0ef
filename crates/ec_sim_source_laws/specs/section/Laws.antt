-- Programs of the written shape have no declare section and no VARCHAR.
use Rattle.std.specs.Prelude.{◌≡◌, true, Ok}
use Rattle.ec_ctypes.specs.trees.Units.{UnitData}
use Rattle.ec_host_defs.specs.sections.Answers.{hosts_answer}
use Rattle.ec_host_defs.specs.sections.Declared.{hosts_of}
use Rattle.ec_writing_defs.specs.Shapes.{is_written_shape}

abbrev pub WrittenHaveNoSections : Type 0
WrittenHaveNoSections = (u : UnitData) → is_written_shape u ≡ true
    → hosts_answer u ≡ Ok (hosts_of u)
