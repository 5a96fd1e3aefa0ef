-- The transcript that a recording has on standard error, in place of what its program puts there.
use Rattle.std.specs.Prelude.{◌≡◌, ℕ, Bool, true, false, List, map, Option}
use Rattle.ec_base.specs.Putting.{Took}
use Rattle.ec_link.specs.declared.logged.Logged.{Logged}
use Rattle.ec_link.specs.declared.rack.Rack.{Rack}
use Rattle.ec_link.specs.Rack.{slots_of}
use Rattle.ec_link.specs.Slot.{states}
use Rattle.ec_link.specs.SlotState.{SlotState, free, ready, taken, dropped}
use Rattle.ec_meaning_defs.specs.evaluation.Whole.{Observed}
use Rattle.ec_meaning_defs.specs.observed.Run.{IsFront}
use Rattle.ec_transcript.specs.declared.version.Version.TheVariants.{Two}
use Rattle.ec_transcript.specs.Clean.{clean}
use Rattle.ec_transcript.specs.Text.{text_of}
use Rattle.ec_cli.specs.Answers.{grown}
use Rattle.ec_cli.specs.declared.form.Form.{Form}
use Rattle.ec_cli.specs.declared.form.Form.TheVariants.{Recorded}

-- A slot as a transcript has it: whether it is ready, and the name of its server. One that can't be connected is written as
-- a free one.
abbrev pub mark_of : SlotState → Bool × List ℕ
mark_of (free name) = (false, name)
mark_of (ready name) = (true, name)
mark_of (taken name) = (false, name)
mark_of (dropped name) = (false, name)

abbrev pub marks_of : List SlotState → List (Bool × List ℕ)
marks_of slots = map mark_of slots

-- the transcript of what was said over slots that stood so at the start
abbrev pub transcript : List SlotState → List Logged → List ℕ
transcript slots log = text_of Two (marks_of slots) (clean log)

-- what is observed of a recording: the transcript in place of what the program puts on standard error
abbrev pub with_transcript : List SlotState → Observed → Observed
with_transcript slots o = record o { errors = transcript slots o.conversation }

module _ {E : Type 0} (told : E → Option (List ℕ)) (tells : E → ℕ) where
  -- a front of the transcript was put, and the output may have failed behind it
  pub record RecordsPart (slots : List SlotState) (log : List Logged) (err err' : E) : Type 0 where
    pub front : List ℕ
    pub is_front : IsFront front (transcript slots log)
    pub took : Took told tells err err' front

-- however a recording ends, it puts a front of the transcript of what was said over the rack, and nothing else
abbrev pub RecordsAs : {E X : Type 0} {F : X → Type 0} → (E → Option (List ℕ)) → (E → ℕ) →
    Form → E → E → Rack X F → Rack X F → Type 0
RecordsAs told tells form err err' rack rack' = form ≡ Recorded →
    RecordsPart told tells (states (slots_of rack)) (grown rack rack') err err'
