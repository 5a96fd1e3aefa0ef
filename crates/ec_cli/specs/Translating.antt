-- What a call that translates a source answers, and what it leaves.
use Rattle.std.specs.Prelude.{◌≡◌, ℕ, ◌^◌, ◌<◌, ◌≤◌, ◌⊎◌, List, length, Option, Some, Result, Ok, Err}
use Rattle.std.specs.Io.KnownBytes.{Appends}
use Rattle.ec_base.specs.declared.fault.FaultKind.{FaultKind}
use Rattle.ec_base.specs.declared.fault.LimitKind.{LimitKind}
use Rattle.ec_base.specs.declared.fault.LimitKind.TheVariants.{L6}
use Rattle.ec_base.specs.declared.line.Line.{Line}
use Rattle.ec_base.specs.declared.stop.Stop.{Stop}
use Rattle.ec_base.specs.declared.stop.Stop.TheVariants as stops
use Rattle.ec_base.specs.Causes.{Rose}
use Rattle.ec_base.specs.Putting.{Puts, PutsPart}
use Rattle.ec_meaning_defs.specs.observed.Headline.{IsRead, RefusesAt, IsTooLong, ReadsWithin}
use Rattle.ec_execute.specs.source.Meanings.{KeepsMeaning}
use Rattle.ec_phases_defs.specs.translation.Translations.{IsTranslation}
use Rattle.ec_cli.specs.declared.ending.Ending.{Ending}
use Rattle.ec_cli.specs.declared.ending.Ending.TheVariants.{Wrote, Exited, Trapped, TurnsSpent, Usage, Refused, Limit, ReadFault, WriteFault, OutOfMemory}

-- endings of a translation
abbrev pub IsOfTranslation : Ending → Type 0
IsOfTranslation Wrote = Unit {0}
IsOfTranslation (Refused kind line) = Unit {0}
IsOfTranslation (Limit kind) = Unit {0}
IsOfTranslation ReadFault = Unit {0}
IsOfTranslation WriteFault = Unit {0}
IsOfTranslation OutOfMemory = Unit {0}
IsOfTranslation (Exited status) = ⊥
IsOfTranslation (Trapped trap line) = ⊥
IsOfTranslation TurnsSpent = ⊥
IsOfTranslation Usage = ⊥

-- the ending of a text that is refused
abbrev pub refusal_of : Stop → Ending
refusal_of (stops.Refused kind line) = Refused kind line
refusal_of (stops.Limit kind) = Limit kind
refusal_of stops.OutOfMemory = OutOfMemory

-- the text is refused for this fault at this line
abbrev pub IsRefused : List ℕ → FaultKind → ℕ → Type 0
IsRefused text kind line = IsTranslation text (Err (stops.Refused kind (record { 0 = line })))

-- the ending of a text with this translation, or that is refused so
abbrev pub ending_with : Result (List ℕ) Stop → Ending
ending_with (Ok written) = Wrote
ending_with (Err stop) = refusal_of stop

-- the ending is that of what is written of the text, or of what it is refused for
abbrev pub AnswersTranslation : List ℕ → Ending → Type 0
AnswersTranslation text ending =
    (answer : Result (List ℕ) Stop) × IsTranslation text answer × (ending ≡ ending_with answer)

-- What a text decides, where nothing fails: more than 2^24 bytes pass the limit; any other text is translated, or refused
-- as the phases say. Want of memory may come at any point.
abbrev pub DecidesTranslation : List ℕ → Ending → Type 0
DecidesTranslation text ending =
    (ending ≡ OutOfMemory)
    ⊎ ((2 ^ 24 < length text) × (ending ≡ Limit L6))
    ⊎ ((length text ≤ 2 ^ 24) × AnswersTranslation text ending)

-- the input was read to its end, and the whole of what is written of it was put, which means what
-- the source means, if that is run
pub record WritesWhole (input input' output output' : Option (List ℕ)) : Type 0 where
  pub text : List ℕ
  pub read : IsRead input input' text
  pub written : List ℕ
  pub is : IsTranslation text (Ok written)
  pub means : KeepsMeaning text written
  pub put : Appends output output' written

-- the input was read to its end and passes this limit, or more than 2^24 bytes came
pub record LimitsText (input input' : Option (List ℕ)) (kind : LimitKind) : Type 0 where
  pub text : List ℕ
  pub read : IsRead input input' text
  pub limit : IsTranslation text (Err (stops.Limit kind))

abbrev pub PassesLimit : Option (List ℕ) → Option (List ℕ) → LimitKind → Type 0
PassesLimit input input' kind =
    ((kind ≡ L6) × IsTooLong input input') ⊎ LimitsText input input' kind

module _ {O : Type 0} (held : O → Option (List ℕ)) (puts : O → ℕ) where
  -- what a text is translated to was put, or a front of it; a text that is refused leaves the output
  abbrev pub TranslatesText : List ℕ → O → O → Ending → Type 0
  TranslatesText text out out' Wrote =
      (written : List ℕ) × IsTranslation text (Ok written) × KeepsMeaning text written
      × Puts held puts out out' written
  TranslatesText text out out' WriteFault =
      (written : List ℕ) × IsTranslation text (Ok written) × PutsPart held puts out out' written
  TranslatesText text out out' (Refused kind line) =
      IsTranslation text (Err (stops.Refused kind line)) × (out' ≡ out)
  TranslatesText text out out' (Limit kind) =
      IsTranslation text (Err (stops.Limit kind)) × (out' ≡ out)
  TranslatesText text out out' OutOfMemory = out' ≡ out
  TranslatesText text out out' (Exited status) = ⊥
  TranslatesText text out out' (Trapped trap line) = ⊥
  TranslatesText text out out' TurnsSpent = ⊥
  TranslatesText text out out' Usage = ⊥
  TranslatesText text out out' ReadFault = ⊥

module _ {I O : Type 0} (left : I → Option (List ℕ)) (reads : I → ℕ)
    (held : O → Option (List ℕ)) (puts : O → ℕ) where
  -- the input was read to its end, and a front of what is written of it was put
  pub record WritesPart (input input' : I) (out out' : O) : Type 0 where
    pub text : List ℕ
    pub read : IsRead (left input) (left input') text
    pub written : List ℕ
    pub is : IsTranslation text (Ok written)
    pub put : PutsPart held puts out out' written

  -- everything that is promised of a call that translates
  pub record Translates (input input' : I) (out out' : O) (ending : Ending) : Type 0 where
    pub wrote : ending ≡ Wrote → WritesWhole (left input) (left input') (held out) (held out')
    pub part : ending ≡ WriteFault → WritesPart input input' out out'
    pub untouched : (ending ≡ Wrote → ⊥) → (ending ≡ WriteFault → ⊥) → out' ≡ out
    pub ends : IsOfTranslation ending
    pub refused : (kind : FaultKind) (line : Line) → ending ≡ Refused kind line
        → RefusesAt IsRefused (left input) (left input') kind line.0
    pub limit : (kind : LimitKind) → ending ≡ Limit kind
        → PassesLimit (left input) (left input') kind
    pub read_fault : ending ≡ ReadFault → Rose (reads input) (reads input')
    pub write_fault : ending ≡ WriteFault → Rose (puts out) (puts out')
    pub within : ReadsWithin (left input) (left input')
    pub reads_steady : (ending ≡ ReadFault → ⊥) → reads input' ≡ reads input
    pub puts_steady : (ending ≡ WriteFault → ⊥) → puts out' ≡ puts out
    pub decides : (text : List ℕ) → left input ≡ Some text
        → (Rose (reads input) (reads input') → ⊥) → (Rose (puts out) (puts out') → ⊥)
        → DecidesTranslation text ending
