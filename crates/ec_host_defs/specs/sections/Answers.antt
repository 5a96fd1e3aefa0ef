-- The faults of marks and VARCHARs, and the table of what is declared in sections.
use Rattle.std.specs.Prelude.{ℕ, zero, suc, ◌+◌, Bool, true, false, not, ◌&&◌, ◌||◌, List, [], ◌∷◌, ◌++◌, map, Option, Some, None, Result, Ok, Err}
use Rattle.ec_base.specs.declared.fault.FaultKind.{FaultKind}
use Rattle.ec_base.specs.declared.fault.FaultKind.TheVariants.{F9, F13}
use Rattle.ec_base.specs.declared.line.Line.{Line}
use Rattle.ec_base.specs.declared.stop.Stop.{Stop}
use Rattle.ec_base.specs.declared.stop.Stop.TheVariants.{Refused}
use Rattle.ec_ctypes.specs.trees.Units.{UnitData}
use Rattle.ec_language.specs.First.{Violation, first_of, stop_at}
use Rattle.ec_host_defs.specs.sections.Declared.{hosts_of}
use Rattle.ec_host_defs.specs.sections.Places.{PlaceData, holds, mark, Places, of_tops}
use Rattle.ec_host_defs.specs.sections.Uses.{UsesData}

abbrev pub fault_unless : Bool → FaultKind → List FaultKind
fault_unless true kind = []
fault_unless false kind = kind ∷ []

-- Outside of a section VARCHAR is left out, and a pointer to one and a parameter everywhere (F9); in a section one without a length is a fault (F13).
abbrev pub faults_of : Bool → UsesData → List FaultKind
faults_of section uses = fault_unless (not uses.left_out && (section || not uses.any)) F9
    ++ fault_unless (not (section && uses.lacks_length)) F13

-- Whether a mark that opens a section has its partner in what follows, where so many sections were opened in between. Marks pair like brackets.
abbrev pub is_closed : ℕ → Places → Bool
is_closed depth [] = false
is_closed depth (holds last line uses ∷ ps) = is_closed depth ps
is_closed depth (mark true line ∷ ps) = is_closed (suc depth) ps
is_closed zero (mark false line ∷ ps) = true
is_closed (suc depth) (mark false line ∷ ps) = is_closed depth ps

-- the sections that are open behind a place
abbrev pub depth_behind : ℕ → PlaceData → ℕ
depth_behind depth (holds last line uses) = depth
depth_behind depth (mark true line) = suc depth
depth_behind zero (mark false line) = zero
depth_behind (suc depth) (mark false line) = depth

-- whether the last mark so far opens a section
abbrev pub section_behind : Bool → PlaceData → Bool
section_behind section (holds last line uses) = section
section_behind section (mark opens line) = opens

-- whether uses stand in a section, by the last mark between their place and them, or else by the last one before the place
abbrev pub section_at : Option Bool → Bool → Bool
section_at None section = section
section_at (Some opens) section = opens

abbrev pub is_none_open : ℕ → Bool
is_none_open zero = true
is_none_open (suc depth) = false

-- what is wrong at a place, where so many sections are open, and before these places. A mark has its partner, and opens no section in a section (F9).
abbrev pub faults_at : ℕ → Bool → PlaceData → Places → List FaultKind
faults_at depth section (holds last line uses) ps = faults_of (section_at last section) uses
faults_at depth section (mark true line) ps = fault_unless (is_none_open depth && is_closed 0 ps) F9
faults_at depth section (mark false line) ps = fault_unless (not (is_none_open depth)) F9

abbrev pub line_of : PlaceData → Line
line_of (holds last line uses) = line
line_of (mark opens line) = line

abbrev pub violations_at : ℕ → PlaceData → List FaultKind → List Violation
violations_at n p kinds = map (λ kind. record { place = n; stop = Refused kind (line_of p) }) kinds

-- the violations of these places, the first of which has this number
abbrev pub violations_from : ℕ → ℕ → Bool → Places → List Violation
violations_from n depth section [] = []
violations_from n depth section (p ∷ ps) = violations_at n p (faults_at depth section p ps)
    ++ violations_from (n + 1) (depth_behind depth p) (section_behind section p) ps

-- all violations of the marks and VARCHARs of a program
abbrev pub violations : UnitData → List Violation
violations u = violations_from 0 0 false (of_tops u.tops)

abbrev pub stop_of_unit : UnitData → Option Stop
stop_of_unit u = stop_at (first_of (violations u))

abbrev pub answer_by : List ℕ → Option Stop → Result (List ℕ) Stop
answer_by hosts None = Ok hosts
answer_by hosts (Some stop) = Err stop

-- the first violation, or the numbers of what is declared in sections
abbrev pub hosts_answer : UnitData → Result (List ℕ) Stop
hosts_answer u = answer_by (hosts_of u) (stop_of_unit u)
