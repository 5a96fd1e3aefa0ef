-- Transcripts: which texts are those of which slots and logs, and the first line at which a text is none.
use Rattle.std.specs.Prelude.{◌≡◌, ◌≤◌, ℕ, ◌-◌, List, [], ◌∷◌, ◌++◌, length, map, take, Result, Ok, Err}
use Rattle.ec_link.specs.declared.logged.Logged.{Logged}
use Rattle.ec_transcript.specs.declared.version.Version.{Version}
use Rattle.ec_transcript.specs.declared.stop.ReadStop.{ReadStop}
use Rattle.ec_transcript.specs.declared.stop.ReadStop.TheVariants.{Bad, OutOfMemory}
use Rattle.ec_transcript.specs.declared.whole.Transcript.{Transcript}
use Rattle.ec_transcript.specs.Fitting.{fitting}
use Rattle.ec_transcript.specs.States.{Slots, FitsTranscript}
use Rattle.ec_transcript.specs.Text.{Bytes, ended, text_of}
use Rattle.ec_transcript.specs.Whole.{split}

-- The text is the transcript, in that version, of these slots and this log: there are at most 64 slots, the log is
-- clean and names only these, and in version 1 it has no notice.
pub record IsTranscript (version : Version) (text : Bytes) (slots : Slots) (log : List Logged) : Type 0 where
  pub fits : FitsTranscript (fitting version) slots log
  pub text_is : text ≡ text_of version slots log

-- the lines of a text, each with its newline, and then its end, which counts as a line: what stands behind the last
-- newline
abbrev pub lines_and_end : Bytes → List Bytes
lines_and_end text = map ended (split text).0 ++ (split text).1 ∷ []

-- a transcript that begins with these lines
pub record Begins (lines : List Bytes) : Type 0 where
  pub version : Version
  pub text : Bytes
  pub slots : Slots
  pub log : List Logged
  pub is : IsTranscript version text slots log
  pub rest : List Bytes
  pub lines_are : lines_and_end text ≡ lines ++ rest

-- line n is the first one at which no transcript begins with the lines so far
pub record IsFirstBad (text : Bytes) (n : ℕ) : Type 0 where
  pub positive : 1 ≤ n
  pub within : n ≤ length (lines_and_end text)
  pub live : Begins (take (n - 1) (lines_and_end text))
  pub dead : Begins (take n (lines_and_end text)) → ⊥

-- a transcript in one of the versions
pub record IsRead (text : Bytes) (slots : Slots) (log : List Logged) : Type 0 where
  pub version : Version
  pub is : IsTranscript version text slots log

-- What was read of a text: what it is the transcript of, or the first line at which it is none, unless memory ran out.
abbrev pub IsReading : Bytes → Result Transcript ReadStop → Type 0
IsReading text (Ok found) = IsRead text found.slots found.log
IsReading text (Err (Bad line)) = IsFirstBad text line.0
IsReading text (Err OutOfMemory) = Unit {0}

-- these slots and this log were read, unless memory ran out
abbrev pub FindsThese : Slots → List Logged → Result Transcript ReadStop → Type 0
FindsThese slots log (Ok found) = (found.slots ≡ slots) × (found.log ≡ log)
FindsThese slots log (Err OutOfMemory) = Unit {0}
FindsThese slots log (Err (Bad line)) = ⊥
