-- What has a line in a transcript of a version.
use Rattle.std.specs.Prelude.{◌≡◌, ℕ, zero, suc, ◌<◌, ◌^◌, true, false, List, [], ◌∷◌, Option, Some, None, IfSome, ⊤, Bool, ℤ, pos, negsuc}
use Rattle.ec_link.specs.declared.request.Request.{Request}
use Rattle.ec_link.specs.declared.request.Request.TheVariants.{Connect, Text, Prepare, Exec, Deallocate, Close}
use Rattle.ec_link.specs.declared.reply.Reply.{Reply}
use Rattle.ec_link.specs.declared.reply.Reply.TheVariants.{Done, Refused}
use Rattle.ec_link.specs.declared.table.Col.{Col}
use Rattle.ec_transcript.specs.declared.version.Version.{Version}
use Rattle.ec_transcript.specs.declared.version.Version.TheVariants.{One, Two}
use Rattle.ec_transcript.specs.Text.{Bytes}
use Rattle.ec_transcript.specs.Clean.{is_clean}
use Rattle.ec_transcript.specs.States.{Fits}

-- bytes
abbrev pub Small : Bytes → Type 0
Small [] = ⊤
Small (b ∷ t) = (b < 256) × Small t

abbrev pub SmallField : Option Bytes → Type 0
SmallField None = ⊤
SmallField (Some t) = Small t

abbrev pub SmallFields : List (Option Bytes) → Type 0
SmallFields [] = ⊤
SmallFields (f ∷ fs) = SmallField f × SmallFields fs

-- the texts of a request are bytes
abbrev pub FitsRequest : Request → Type 0
FitsRequest (Connect target user password) = Small target × SmallField user × SmallField password
FitsRequest (Text text params) = Small text × SmallFields params
FitsRequest (Prepare name text) = Small name × Small text
FitsRequest (Exec name params) = Small name × SmallFields params
FitsRequest (Deallocate name) = Small name
FitsRequest Close = ⊤

abbrev pub FitsSlot : Bool × Bytes → Type 0
FitsSlot slot = Small slot.1

-- five bytes that are clean
abbrev pub CleanState : ℕ → Bytes → Type 0
CleanState zero [] = ⊤
CleanState zero (b ∷ t) = ⊥
CleanState (suc n) [] = ⊥
CleanState (suc n) (b ∷ t) = (is_clean b ≡ true) × CleanState n t

-- version 1 tells of no notice
abbrev pub TellsNotice : Version → Bool → Type 0
TellsNotice One notice = notice ≡ false
TellsNotice Two notice = ⊤

-- a reply of one line: a count is below 2 ^ 64, a state is clean, and a notice is one that the version tells of
abbrev pub FitsTold : Version → Reply → Type 0
FitsTold version (Done n t notice) = IfSome n (λ k. k < 2 ^ 64) × TellsNotice version notice
FitsTold version (Refused state message t) = CleanState 5 state.0 × Small message
FitsTold version _ = ⊤

-- a code is an int
abbrev pub FitsCode : ℤ → Type 0
FitsCode (pos n) = n < 2 ^ 31
FitsCode (negsuc n) = n < 2 ^ 31

abbrev pub FitsCol : Col → Type 0
FitsCol c = Small c.name × FitsCode c.code

-- what has a line in a transcript of that version
abbrev pub fitting : Version → Fits
fitting version = record {
  Slot = FitsSlot;
  Request = FitsRequest;
  Reply = FitsTold version;
  Notice = TellsNotice version;
  Col = FitsCol;
  Row = SmallFields;
}

-- five bytes
abbrev pub IsState : ℕ → Bytes → Type 0
IsState zero [] = ⊤
IsState zero (b ∷ t) = ⊥
IsState (suc n) [] = ⊥
IsState (suc n) (b ∷ t) = (b < 256) × IsState n t

-- a reply of one line whose state, if it has one, is five bytes of any kind
abbrev pub AnyTold : Reply → Type 0
AnyTold (Refused state message t) = IsState 5 state.0 × Small message
AnyTold told = FitsTold Two told

-- what has a line in a transcript of version 2 once its states are clean: every value of these types
abbrev pub any_state : Fits
any_state = record {
  Slot = FitsSlot;
  Request = FitsRequest;
  Reply = AnyTold;
  Notice = TellsNotice Two;
  Col = FitsCol;
  Row = SmallFields;
}
