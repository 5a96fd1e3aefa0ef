-- What a call that runs a source, written C or a generated program answers, and what it leaves.
use Rattle.std.specs.Prelude.{◌≡◌, ℕ, ◌⊎◌, List, ◌++◌, Option, Result, Ok, Err}
use Rattle.std.specs.declared.alloc.Global.{Global as Allocator}
use Rattle.std.specs.declared.dyn_box.DynBox.{DynBox}
use Rattle.ec_base.specs.declared.fault.FaultKind.{FaultKind}
use Rattle.ec_base.specs.declared.fault.LimitKind.{LimitKind}
use Rattle.ec_base.specs.declared.fault.LimitKind.TheVariants.{L7, L8}
use Rattle.ec_base.specs.declared.line.Line.{Line}
use Rattle.ec_base.specs.declared.stop.Stop.{Stop}
use Rattle.ec_base.specs.declared.stop.Stop.TheVariants as stops
use Rattle.ec_base.specs.Causes.{Rose}
use Rattle.ec_link.specs.declared.rack.Rack.{Rack}
use Rattle.ec_link.specs.declared.logged.Logged.{Logged}
use Rattle.ec_link.specs.Logged.{Talk}
use Rattle.ec_link.specs.Rack.{slots_of, log_of}
use Rattle.ec_link.specs.Slot.{states, link_at, talk_at}
use Rattle.ec_link.specs.SlotState.{ready_slot}
use Rattle.ec_link.specs.Told.{KeepsTalks, SparesDropped}
use Rattle.ec_meaning_defs.specs.observed.Headline.{ReadsWithin}
use Rattle.ec_meaning_defs.specs.observed.Observed.{answers_in}
use Rattle.ec_meaning_defs.specs.evaluation.State as evaluation
use Rattle.ec_meaning_defs.specs.evaluation.State.{Answer}
use Rattle.ec_meaning_defs.specs.evaluation.Whole.{Observed}
use Rattle.ec_execution_defs.specs.Runs.{Runs, RunsPart}
use Rattle.ec_runtime.specs.Racks.{KeepsLinks}
use Rattle.ec_sound_text_laws.specs.Endings.{IsNeverStuck}
use Rattle.ec_execute.specs.declared.running.RunEnd.{RunEnd}
use Rattle.ec_execute.specs.declared.running.RunEnd.TheVariants as ends
use Rattle.ec_cli.specs.Answers.{IsCrowded, Announces, ComesWhere, grown}
use Rattle.ec_cli.specs.Forms.{Program, IsRunAs, Meaning, program_meaning, shown}
use Rattle.ec_cli.specs.Racks.{RunsOver}
use Rattle.ec_cli.specs.Recordings.{RecordsAs}
use Rattle.ec_cli.specs.Taking.{HasText, Gives, limit_on, IsWithin, IsBeyond, IsLarge, IsPassed}
use Rattle.ec_cli.specs.declared.form.Form.{Form}
use Rattle.ec_cli.specs.declared.form.Form.TheVariants.{Generated}
use Rattle.ec_replay_laws.specs.Parts.{RepliesAsRecorded}
use Rattle.ec_replay_laws.specs.Runs.{Ran, IsSameRun, SaysTheSame}
use Rattle.ec_cli.specs.declared.ending.Ending.{Ending}
use Rattle.ec_cli.specs.declared.ending.Ending.TheVariants.{Wrote, Exited, Trapped, TurnsSpent, Usage, Refused, Limit, ReadFault, WriteFault, OutOfMemory}

-- ---- endings

-- endings of a program that was run to its end
abbrev pub IsOfProgram : Ending → Type 0
IsOfProgram (Exited status) = Unit {0}
IsOfProgram (Trapped trap line) = Unit {0}
IsOfProgram TurnsSpent = Unit {0}
IsOfProgram Wrote = ⊥
IsOfProgram Usage = ⊥
IsOfProgram (Refused kind line) = ⊥
IsOfProgram (Limit kind) = ⊥
IsOfProgram ReadFault = ⊥
IsOfProgram WriteFault = ⊥
IsOfProgram OutOfMemory = ⊥

-- endings of a program that was carried out, the whole or a part of it
abbrev pub IsOfCarried : Ending → Type 0
IsOfCarried (Exited status) = Unit {0}
IsOfCarried (Trapped trap line) = Unit {0}
IsOfCarried TurnsSpent = Unit {0}
IsOfCarried WriteFault = Unit {0}
IsOfCarried OutOfMemory = Unit {0}
IsOfCarried Wrote = ⊥
IsOfCarried Usage = ⊥
IsOfCarried (Refused kind line) = ⊥
IsOfCarried (Limit kind) = ⊥
IsOfCarried ReadFault = ⊥

-- endings of the command
abbrev pub IsOfExecution : Ending → Type 0
IsOfExecution Wrote = ⊥
IsOfExecution Usage = ⊥
IsOfExecution (Exited status) = Unit {0}
IsOfExecution (Trapped trap line) = Unit {0}
IsOfExecution TurnsSpent = Unit {0}
IsOfExecution (Refused kind line) = Unit {0}
IsOfExecution (Limit kind) = Unit {0}
IsOfExecution ReadFault = Unit {0}
IsOfExecution WriteFault = Unit {0}
IsOfExecution OutOfMemory = Unit {0}

-- the call ends as the program does
abbrev pub EndsAs : evaluation.Ending → Ending → Type 0
EndsAs (evaluation.exited status) ending = ending ≡ Exited status
EndsAs (evaluation.trapped trap line) ending = ending ≡ Trapped trap (record { 0 = line })
EndsAs evaluation.turns_spent ending = ending ≡ TurnsSpent
EndsAs (evaluation.waits slot request) ending = ⊥
EndsAs evaluation.stuck ending = ⊥

-- the ending of a run
abbrev pub ending_of_program : RunEnd → Ending
ending_of_program (ends.Exited status) = Exited status
ending_of_program (ends.Trapped trap line) = Trapped trap line
ending_of_program ends.TurnsSpent = TurnsSpent
ending_of_program ends.WriteFault = WriteFault
ending_of_program ends.OutOfMemory = OutOfMemory

-- a limit of a text: every one but those on slots and on numbers of programs, which are none of a text's
abbrev pub limit_of : LimitKind → Ending
limit_of L7 = OutOfMemory
limit_of L8 = OutOfMemory
limit_of kind = Limit kind

-- the ending of a text that is refused
abbrev pub text_refusal : Stop → Ending
text_refusal (stops.Refused kind line) = Refused kind line
text_refusal (stops.Limit kind) = limit_of kind
text_refusal stops.OutOfMemory = OutOfMemory

-- ---- what a text decides

-- the text is refused for this fault at this line
abbrev pub IsRefusedAs : Form → List ℕ → FaultKind → ℕ → Type 0
IsRefusedAs form text kind line =
    IsRunAs form text (Err (stops.Refused kind (record { 0 = line })))

-- its text is refused for this fault at this line
pub record RefusesRun (form : Form) (input input' : Option (List ℕ))
    (kind : FaultKind) (line : ℕ) : Type 0 where
  pub text : List ℕ
  pub from : HasText form input input' text
  pub fault : IsRefusedAs form text kind line

-- its text passes this limit, or there is no text: more than 2^24 bytes came, or its number is too large
pub record LimitsRun (form : Form) (input input' : Option (List ℕ))
    (kind : LimitKind) : Type 0 where
  pub text : List ℕ
  pub from : HasText form input input' text
  pub limit : IsRunAs form text (Err (stops.Limit kind))

abbrev pub PassesAs : Form → Option (List ℕ) → Option (List ℕ) → LimitKind → Type 0
PassesAs form input input' kind =
    ((kind ≡ limit_on form) × IsPassed form input input') ⊎ LimitsRun form input input' kind

-- a text is refused, or there was no memory for it
abbrev pub RefusesText : Form → List ℕ → Ending → Type 0
RefusesText form text (Refused kind line) = IsRunAs form text (Err (stops.Refused kind line))
RefusesText form text (Limit kind) =
    (kind ≡ L7 → ⊥) × (kind ≡ L8 → ⊥) × IsRunAs form text (Err (stops.Limit kind))
RefusesText form text OutOfMemory = Unit {0}
RefusesText form text (Exited status) = ⊥
RefusesText form text (Trapped trap line) = ⊥
RefusesText form text TurnsSpent = ⊥
RefusesText form text Wrote = ⊥
RefusesText form text Usage = ⊥
RefusesText form text ReadFault = ⊥
RefusesText form text WriteFault = ⊥

-- what the call ends with, where the text is run as this program or refused for this
abbrev pub Concludes : (form : Form) → ℕ → Option (ℕ × List ℕ) → List Answer →
    Result (Program form) Stop → Ending → Type 0
Concludes form turns ready answers (Ok program) ending =
    EndsAs (program_meaning form program turns ready answers).ending ending
Concludes form turns ready answers (Err stop) ending = ending ≡ text_refusal stop

abbrev pub AnswersProgram : Form → ℕ → Option (ℕ × List ℕ) → List Answer → List ℕ → Ending →
    Type 0
AnswersProgram form turns ready answers text ending =
    (answer : Result (Program form) Stop) × IsRunAs form text answer
    × Concludes form turns ready answers answer ending

-- What a text decides, where nothing fails: beyond the limit on what is run it is refused for that; any other text is
-- refused as its phases say, or ends as its program does. Want of memory may come at any point.
abbrev pub DecidesExecution : Form → ℕ → Option (ℕ × List ℕ) → List Answer → List ℕ → Ending →
    Type 0
DecidesExecution form turns ready answers text ending =
    (ending ≡ OutOfMemory)
    ⊎ (IsBeyond form text × (ending ≡ Limit (limit_on form)))
    ⊎ (IsWithin form text × AnswersProgram form turns ready answers text ending)

-- ---- runs

-- a meaning over the slots and the log of a rack
abbrev pub meaning_over : {X : Type 0} {F : X → Type 0} →
    Meaning → ℕ → Rack X F → Rack X F → Observed
meaning_over meaning turns rack rack' =
    meaning turns (ready_slot (states (slots_of rack))) (answers_in (grown rack rack'))

-- Where the links say what they would say that replay a recorded run of the program, over slots that stood alike, the run
-- is that one: the same is said, and the same is seen of it.
abbrev pub SaysAgain : {X : Type 0} {F : X → Type 0} →
    Meaning → ℕ → Rack X F → Rack X F → Type 0
SaysAgain meaning turns rack rack' =
    (recorded : List Logged) (seen : Observed)
    → Ran (meaning turns) (states (slots_of rack)) recorded seen
    → RepliesAsRecorded recorded (grown rack rack')
    → IsSameRun recorded (grown rack rack') seen (meaning_over meaning turns rack rack')

-- what is shown of it
abbrev pub shown_over : {X : Type 0} {F : X → Type 0} →
    Form → Meaning → ℕ → Rack X F → Rack X F → Observed
shown_over form meaning turns rack rack' =
    shown form (states (slots_of rack)) (meaning_over meaning turns rack rack')

-- the last line was put behind what was done
pub record BeforeLine {E : Type 0} (told : E → Option (List ℕ))
    (tells : E → ℕ) (last : E) (line : List ℕ) (Done : E → Type 0) : Type 0 where
  pub between : E
  pub done : Done between
  pub announced : Announces told tells between last line

module _ {O E X : Type 0} {F : X → Type 0} (held : O → Option (List ℕ)) (puts : O → ℕ)
    (told : E → Option (List ℕ)) (tells : E → ℕ) (talk : DynBox X Allocator F → Option Talk)
    (faults : DynBox X Allocator F → ℕ) where
  -- nothing was run
  pub record Untouched (out out' : O) (err err' : E) (rack rack' : Rack X F) : Type 0 where
    pub output : out' ≡ out
    pub errors : err' ≡ err
    pub links : rack' ≡ rack

  -- the whole of what is shown of a run was carried out, and the connections were given back
  pub record CarriedOut (observed : Observed) (out out' : O)
      (err err' : E) (rack rack' : Rack X F) (ending : Ending) : Type 0 where
    pub ended : evaluation.Ending
    pub ends : EndsAs ended ending
    pub runs : Runs held puts told tells observed (grown rack rack') ended out out' err err'
    pub slots : RunsOver (slots_of rack) (grown rack rack') (slots_of rack')

  -- a part of it was
  pub record CarriedPart (observed : Observed) (out out' : O)
      (err err' : E) (rack rack' : Rack X F) : Type 0 where
    pub part : RunsPart held puts told tells observed (grown rack rack') out out' err err'
    pub slots : RunsOver (slots_of rack) (grown rack rack') (slots_of rack')

  -- what carrying it out does, by its ending
  pub record Carries (observed : Observed) (out out' : O)
      (err err' : E) (rack rack' : Rack X F) (ending : Ending) : Type 0 where
    pub whole : IsOfProgram ending → CarriedOut observed out out' err err' rack rack' ending
    pub part : (ending ≡ WriteFault) ⊎ (ending ≡ OutOfMemory) →
        CarriedPart observed out out' err err' rack rack'
    pub ends : IsOfCarried ending
    pub talks : KeepsTalks (talk_at talk (slots_of rack))
        (talk_at talk (slots_of rack')) (grown rack rack')
    pub links : KeepsLinks talk faults (link_at (slots_of rack))
        (link_at (slots_of rack')) (grown rack rack')
    pub dropped : SparesDropped (states (slots_of rack))
        (states (slots_of rack')) (grown rack rack')
    pub logged : log_of rack' ≡ log_of rack ++ grown rack rack'
    pub fault : ending ≡ WriteFault → Rose (puts out) (puts out') ⊎ Rose (tells err) (tells err')
    pub steady : (ending ≡ WriteFault → ⊥) → (puts out' ≡ puts out) × (tells err' ≡ tells err)

  -- it was carried out, or there was no memory to begin
  abbrev pub MayCarry : Observed → O → O → E → E → Rack X F → Rack X F → Ending → Type 0
  MayCarry observed out out' err err' rack rack' ending =
      Carries observed out out' err err' rack rack' ending
      ⊎ ((ending ≡ OutOfMemory) × Untouched out out' err err' rack rack')

  -- what a text leads to
  abbrev pub ExecutesText : Form → ℕ → List ℕ → O → O → E → E → Rack X F → Rack X F → Ending →
      Type 0
  ExecutesText form turns text out out' err err' rack rack' ending =
      ((program : Program form) × IsRunAs form text (Ok program)
      × Carries (shown_over form (program_meaning form program) turns rack rack')
      out out' err err' rack rack' ending × RecordsAs told tells form err err' rack rack'
      × SaysTheSame (program_meaning form program turns)
      × IsNeverStuck (program_meaning form program))
      ⊎ (RefusesText form text ending × Untouched out out' err err' rack rack')

  module _ {I : Type 0} (left : I → Option (List ℕ)) where
    -- the text was read or made, and the whole of what its program means was carried out
    pub record ExecutesWhole (form : Form) (turns : ℕ) (input input' : I) (out out' : O)
        (err err' : E) (rack rack' : Rack X F) (ending : Ending) : Type 0 where
      pub text : List ℕ
      pub from : HasText form (left input) (left input') text
      pub program : Program form
      pub is : IsRunAs form text (Ok program)
      pub carried : CarriedOut (shown_over form (program_meaning form program) turns rack rack')
          out out' err err' rack rack' ending
      pub again : SaysAgain (program_meaning form program) turns rack rack'
      pub never_stuck : IsNeverStuck (program_meaning form program)

    -- a part of it was
    pub record ExecutesPart (form : Form) (turns : ℕ) (input input' : I) (out out' : O)
        (err err' : E) (rack rack' : Rack X F) : Type 0 where
      pub text : List ℕ
      pub from : HasText form (left input) (left input') text
      pub program : Program form
      pub is : IsRunAs form text (Ok program)
      pub carried : CarriedPart (shown_over form (program_meaning form program) turns rack rack')
          out out' err err' rack rack'
      pub never_stuck : IsNeverStuck (program_meaning form program)

    -- nothing was run, or a part
    abbrev pub MayExecute : Form → ℕ → I → I → O → O → E → E → Rack X F → Rack X F → Type 0
    MayExecute form turns input input' out out' err err' rack rack' =
        Untouched out out' err err' rack rack'
        ⊎ ExecutesPart form turns input input' out out' err err' rack rack'

    -- everything that is promised of a call that runs a text, but of the last line
    pub record Executes (reads : I → ℕ) (form : Form) (turns : ℕ) (input input' : I) (out out' : O)
        (err err' : E) (rack rack' : Rack X F) (ending : Ending) : Type 0 where
      pub whole : IsOfProgram ending →
          ExecutesWhole form turns input input' out out' err err' rack rack' ending
      pub part : ending ≡ WriteFault →
          ExecutesPart form turns input input' out out' err err' rack rack'
      pub want : ending ≡ OutOfMemory →
          MayExecute form turns input input' out out' err err' rack rack'
      pub other : IsOfProgram ending ⊎ (ending ≡ WriteFault)
          ⊎ (ending ≡ OutOfMemory) ⊎ Untouched out out' err err' rack rack'
      pub ends : IsOfExecution ending
      pub crowded : ComesWhere (Limit L7) ending (IsCrowded rack)
      pub numbered : ComesWhere (Limit L8) ending (IsLarge form × (IsCrowded rack → ⊥))
      pub unread : ending ≡ Limit L7 → input' ≡ input
      pub made : (number : ℕ) → form ≡ Generated number → input' ≡ input
      pub recorded : RecordsAs told tells form err err' rack rack'
      pub talks : KeepsTalks (talk_at talk (slots_of rack))
          (talk_at talk (slots_of rack')) (grown rack rack')
      pub links : KeepsLinks talk faults (link_at (slots_of rack))
          (link_at (slots_of rack')) (grown rack rack')
      pub dropped : SparesDropped (states (slots_of rack))
          (states (slots_of rack')) (grown rack rack')
      pub logged : log_of rack' ≡ log_of rack ++ grown rack rack'
      pub refused : (kind : FaultKind) (line : Line) → ending ≡ Refused kind line →
          RefusesRun form (left input) (left input') kind line.0
      pub limit : (kind : LimitKind) → (kind ≡ L7 → ⊥) →
          ending ≡ Limit kind → PassesAs form (left input) (left input') kind
      pub read_fault : ending ≡ ReadFault → Rose (reads input) (reads input')
      pub write_fault : ending ≡ WriteFault →
          Rose (puts out) (puts out') ⊎ Rose (tells err) (tells err')
      pub within : ReadsWithin (left input) (left input')
      pub reads_steady : (ending ≡ ReadFault → ⊥) → reads input' ≡ reads input
      pub puts_steady : (ending ≡ WriteFault → ⊥) → puts out' ≡ puts out
      pub tells_steady : (ending ≡ WriteFault → ⊥) → tells err' ≡ tells err
      pub decides : (text : List ℕ) → (IsCrowded rack → ⊥) → Gives form (left input) text
          → (Rose (reads input) (reads input') → ⊥) →
          (Rose (puts out) (puts out') → ⊥) → (Rose (tells err) (tells err') → ⊥)
          → DecidesExecution form turns (ready_slot (states (slots_of rack)))
          (answers_in (grown rack rack')) text ending
