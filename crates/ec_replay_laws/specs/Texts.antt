-- Runs that were recorded as texts.
use Rattle.std.specs.Prelude.{◌≡◌, ℕ, Bool, true, false, List, map}
use Rattle.ec_link.specs.declared.logged.Logged.{Logged}
use Rattle.ec_link.specs.SlotState.{SlotState, free, ready}
use Rattle.ec_meaning_defs.specs.evaluation.Whole.{Observed}
use Rattle.ec_transcript.specs.declared.version.Version.{Version}
use Rattle.ec_transcript.specs.declared.version.Version.TheVariants.{Two}
use Rattle.ec_transcript.specs.Clean.{clean}
use Rattle.ec_transcript.specs.Fitting.{any_state}
use Rattle.ec_transcript.specs.States.{Slots, FitsTranscript}
use Rattle.ec_transcript.specs.Text.{Bytes, text_of}
use Rattle.ec_transcript.specs.Transcripts.{IsTranscript, IsRead}
use Rattle.ec_replay_laws.specs.Parts.{RepliesAsRecorded}
use Rattle.ec_replay_laws.specs.Runs.{Meaning, Ran, RanPart, IsSameRun, IsFrontOfRun, SaysTheSame, SaysAFront}

-- how a slot of a transcript stands before the run
abbrev pub state_of : Bool × Bytes → SlotState
state_of (true, name) = ready name
state_of (false, name) = free name

-- the slots of a transcript, with their marks and in their order
abbrev pub states_of : Slots → List SlotState
states_of slots = map state_of slots

-- A run over the links that a text is read as: slots with these marks, and for each slot a link that replays what the
-- recorded log has for it.
pub record RanOver (meaning : Meaning) (text : Bytes) (log : List Logged)
    (seen : Observed) : Type 0 where
  pub slots : Slots
  pub recorded : List Logged
  pub read : IsRead text slots recorded
  pub ran : Ran meaning (states_of slots) log seen
  pub replies : RepliesAsRecorded recorded log

-- such a run that broke off
pub record RanPartOver (meaning : Meaning) (text : Bytes) (log : List Logged)
    (printed complained : List ℕ) : Type 0 where
  pub slots : Slots
  pub recorded : List Logged
  pub read : IsRead text slots recorded
  pub ran : RanPart meaning (states_of slots) log printed complained
  pub replies : RepliesAsRecorded recorded log

-- A run over the links of the transcript of a run says the same as that run.
abbrev pub IsReplayed : Meaning → Type 0
IsReplayed meaning =
    (version : Version) (text : Bytes) (slots : Slots) (recorded log : List Logged)
    (seen seen' : Observed) → IsTranscript version text slots recorded
    → Ran meaning (states_of slots) recorded seen → RanOver meaning text log seen'
    → IsSameRun recorded log seen seen'

-- Where it broke off, it said and printed fronts.
abbrev pub PartIsReplayed : Meaning → Type 0
PartIsReplayed meaning =
    (version : Version) (text : Bytes) (slots : Slots) (recorded log : List Logged)
    (seen : Observed) (printed complained : List ℕ) → IsTranscript version text slots recorded
    → Ran meaning (states_of slots) recorded seen
    → RanPartOver meaning text log printed complained
    → IsFrontOfRun recorded log seen printed complained

-- So it does over the links of what is written of a run, where what was said is clean: its text has the log itself.
abbrev pub WrittenIsReplayed : Meaning → Type 0
WrittenIsReplayed meaning =
    (slots : Slots) (recorded log : List Logged) (seen seen' : Observed)
    → FitsTranscript any_state slots recorded → clean recorded ≡ recorded
    → Ran meaning (states_of slots) recorded seen
    → RanOver meaning (text_of Two slots (clean recorded)) log seen'
    → IsSameRun recorded log seen seen'

-- Everything that holds of runs of a program over what it recorded: that it says the same, or a front where it broke off,
-- over the log of a run and over the text that is read or was written of it.
pub record IsReplayable (meaning : Meaning) : Type 0 where
  pub whole : SaysTheSame meaning
  pub part : SaysAFront meaning
  pub read : IsReplayed meaning
  pub read_part : PartIsReplayed meaning
  pub written : WrittenIsReplayed meaning
