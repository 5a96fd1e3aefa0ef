-- The text of a transcript as it is read: line by line, and then what stands behind the last one.
use Rattle.std.specs.Prelude.{◌≡◌, ℕ, ◌+◌, ◌==◌, if◌then◌else◌, List, [], ◌∷◌, Option, Some, None, Result, Ok, Err}
use Rattle.ec_link.specs.declared.logged.Logged.{Logged}
use Rattle.std.specs.Str.{bytes_eq}
use Rattle.ec_transcript.specs.declared.version.Version.{Version}
use Rattle.ec_transcript.specs.declared.version.Version.TheVariants.{One, Two}
use Rattle.ec_transcript.specs.Text.{Bytes, header}
use Rattle.ec_transcript.specs.States.{Slots, State, start, between, asked, said, tabled, step}
use Rattle.ec_transcript.specs.Lines.{readers}
use Rattle.ec_transcript.specs.Views.{state_of}
use Rattle.ec_transcript.specs.declared.states.State as states
use Rattle.ec_transcript.specs.declared.whole.Transcript.{Transcript}
use Rattle.ec_transcript.specs.declared.stop.ReadStop.{ReadStop}
use Rattle.ec_transcript.specs.declared.stop.ReadStop.TheVariants.{Bad, OutOfMemory}

-- what stands before the first newline, and from there on
abbrev pub upto : Bytes → Bytes × Bytes
upto [] = ([], [])
upto (b ∷ text) = if b == 10 then ([], b ∷ text) else (b ∷ (upto text).0, (upto text).1)

-- a byte before lines and a rest: in the first line, if there is one
abbrev pub put_by : ℕ → List Bytes → Bytes → List Bytes × Bytes
put_by b [] rest = ([], b ∷ rest)
put_by b (line ∷ lines) rest = ((b ∷ line) ∷ lines, rest)

-- the lines that have their newline, and what stands behind the last of these
abbrev pub split : Bytes → List Bytes × Bytes
split [] = ([], [])
split (b ∷ text) = if b == 10 then ([] ∷ (split text).0, (split text).1) else put_by b (split text).0 (split text).1

-- a transcript, or the line at which there is none
pub data Outcome : Type 0 where
  good : Slots → List Logged → Outcome
  bad : ℕ → Outcome

-- the end counts as a line
abbrev pub at_end : ℕ → State → Bytes → Outcome
at_end n (between slots log) [] = good slots log
at_end n (between slots log) (b ∷ rest) = bad n
at_end n start rest = bad n
at_end n (asked slots log slot) rest = bad n
at_end n (said slots log slot request) rest = bad n
at_end n (tabled slots log o) rest = bad n

-- what comes of a step
abbrev pub stepped : ℕ → Option State → (State → Outcome) → Outcome
stepped n None next = bad n
stepped n (Some state) next = next state

-- what comes of lines and the end behind them, at line n
abbrev pub read_lines : Version → List Bytes → Bytes → ℕ → State → Outcome
read_lines version [] rest n state = at_end n state rest
read_lines version (line ∷ lines) rest n state =
    stepped n (step (readers version) state line) (λ next. read_lines version lines rest (n + 1) next)

-- the version that a first line names, if it names one
abbrev pub version_of : Bytes → Version
version_of line = if bytes_eq line (header One) then One else Two

-- what comes of a text
abbrev pub read_text : Bytes → Outcome
read_text text = read_lines (version_of (upto text).0) (split text).0 (split text).1 1 start

-- the answer is the outcome, unless memory ran out
abbrev pub Gives : Result Transcript ReadStop → Outcome → Type 0
Gives (Ok t) outcome = outcome ≡ good t.slots t.log
Gives (Err OutOfMemory) outcome = Unit {0}
Gives (Err (Bad line)) outcome = outcome ≡ bad line.0

-- the state behind a line
abbrev pub Advances : Result states.State ReadStop → ℕ → Option State → Type 0
Advances (Ok next) n stepped = stepped ≡ Some (state_of next)
Advances (Err OutOfMemory) n stepped = Unit {0}
Advances (Err (Bad line)) n stepped = (stepped ≡ None) × (line.0 ≡ n)
