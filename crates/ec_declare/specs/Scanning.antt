-- What is kept of the places so far: as much as tells the first fault.
use Rattle.std.specs.Prelude.{ℕ, zero, suc, Bool, true, false, not, ◌&&◌, ◌||◌, List, [], ◌∷◌, Option, Some, None}
use Rattle.ec_base.specs.declared.fault.FaultKind.{FaultKind}
use Rattle.ec_base.specs.declared.fault.FaultKind.TheVariants.{F9, F13}
use Rattle.ec_base.specs.declared.line.Line.{Line}
use Rattle.ec_base.specs.declared.stop.Stop.{Stop}
use Rattle.ec_base.specs.declared.stop.Stop.TheVariants.{Refused}
use Rattle.ec_host_defs.specs.sections.Answers.{section_at}
use Rattle.ec_host_defs.specs.sections.Places.{PlaceData, holds, mark, Places}
use Rattle.ec_host_defs.specs.sections.Uses.{UsesData}

-- how many sections are open, whether the last mark opens one, the line of the outermost open mark where no fault stands before it, and the first fault but for open marks
pub record ScanData : Type 0 where
  pub depth : ℕ
  pub section : Bool
  pub pending : Option Line
  pub first : Option Stop

abbrev pub at_start : ScanData
at_start = record { depth = 0; section = false; pending = None; first = None }

abbrev pub or_else : Option Stop → Option Stop → Option Stop
or_else (Some a) b = Some a
or_else None b = b

-- the fault of the lowest number
abbrev pub fault_of : Bool → UsesData → Option FaultKind
fault_of section uses = elim (uses.left_out || (uses.any && not section)) [
  | true ↦ Some F9
  | false ↦ elim (section && uses.lacks_length) [ true ↦ Some F13 | false ↦ None ]
]

abbrev pub stop_on : Line → Option FaultKind → Option Stop
stop_on line None = None
stop_on line (Some kind) = Some (Refused kind line)

-- an outermost mark waits for its partner, unless a fault stands before it
abbrev pub waiting : Option Stop → Line → Option Line
waiting None line = Some line
waiting (Some stop) line = None

abbrev pub opened : ℕ → Line → ScanData → ScanData
opened zero line s = record s { depth = 1; section = true; pending = waiting s.first line }
opened (suc depth) line s = record s {
  depth = suc (suc depth);
  section = true;
  first = or_else s.first (Some (Refused F9 line));
}

abbrev pub closed : ℕ → Line → ScanData → ScanData
closed zero line s = record s { section = false; first = or_else s.first (Some (Refused F9 line)) }
closed (suc zero) line s = record s { depth = 0; section = false; pending = None }
closed (suc (suc depth)) line s = record s { depth = suc depth; section = false }

abbrev pub step : PlaceData → ScanData → ScanData
step (holds last line uses) s = record s {
  first = or_else s.first (stop_on line (fault_of (section_at last s.section) uses));
}
step (mark true line) s = opened s.depth line s
step (mark false line) s = closed s.depth line s

-- the places one after the other
abbrev pub feed : Places → ScanData → ScanData
feed [] s = s
feed (p ∷ ps) s = feed ps (step p s)

abbrev pub stop_by : Option Line → Option Stop → Option Stop
stop_by None first = first
stop_by (Some line) first = Some (Refused F9 line)

abbrev pub stop_of : ScanData → Option Stop
stop_of s = stop_by s.pending s.first
