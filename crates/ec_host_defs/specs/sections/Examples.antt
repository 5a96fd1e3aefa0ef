-- Programs, as examples write them, and what is said of their marks and VARCHARs.
use Rattle.std.specs.Prelude.{ℕ, false, List, codes, Result, Ok, Err}
use Prim.Native.String.{String}
use Rattle.ec_base.specs.declared.fault.FaultKind.{FaultKind}
use Rattle.ec_base.specs.declared.stop.Stop.{Stop}
use Rattle.ec_base.specs.declared.stop.Stop.TheVariants.{Refused}
use Rattle.ec_ctypes.specs.trees.Units.{UnitData}
use Rattle.ec_language.specs.ReadText.{read_text}
use Rattle.ec_host_defs.specs.sections.Answers.{hosts_answer}

abbrev pub hosts_by : Result UnitData Stop → Result (List ℕ) Stop
hosts_by (Ok u) = hosts_answer u
hosts_by (Err stop) = Err stop

-- of a text
abbrev pub hosts_in : String → Result (List ℕ) Stop
hosts_in text = hosts_by (read_text false (codes text))

abbrev pub refused : FaultKind → ℕ → Result (List ℕ) Stop
refused kind line = Err (Refused kind (record { 0 = line }))
