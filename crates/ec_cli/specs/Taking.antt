-- Where the text of a run comes from: it is read from the input, or made.
use Rattle.std.specs.Prelude.{◌≡◌, ℕ, ◌^◌, ◌<◌, ◌≤◌, ◌⊎◌, List, length, Option, Some}
use Rattle.ec_base.specs.Causes.{Rose}
use Rattle.ec_base.specs.declared.fault.LimitKind.{LimitKind}
use Rattle.ec_base.specs.declared.fault.LimitKind.TheVariants.{L6, L8}
use Rattle.ec_base.specs.declared.stop.InputStop.{InputStop}
use Rattle.ec_base.specs.declared.stop.InputStop.TheVariants as input_stop
use Rattle.ec_base.specs.Reading.{ReadsPart}
use Rattle.ec_generate.specs.Generated.{generated}
use Rattle.ec_meaning_defs.specs.observed.Headline.{IsRead, IsTooLong, ReadsWithin}
use Rattle.ec_cli.specs.declared.ending.Ending.{Ending}
use Rattle.ec_cli.specs.declared.ending.Ending.TheVariants.{Limit, ReadFault, OutOfMemory}
use Rattle.ec_cli.specs.declared.form.Form.{Form}
use Rattle.ec_cli.specs.declared.form.Form.TheVariants.{Source, Written, Recorded, Generated}

-- the greatest number of a program that is made
abbrev pub most_generated : ℕ
most_generated = 10000

-- The text is that of the input, which was read to its end, or that of a generated program, and nothing was read.
abbrev pub HasText : Form → Option (List ℕ) → Option (List ℕ) → List ℕ → Type 0
HasText Source input input' text = IsRead input input' text
HasText Written input input' text = IsRead input input' text
HasText Recorded input input' text = IsRead input input' text
HasText (Generated number) input input' text = (text ≡ generated number) × (input' ≡ input)

-- an input that tells its bytes gives the text, or it is made
abbrev pub Gives : Form → Option (List ℕ) → List ℕ → Type 0
Gives Source input text = input ≡ Some text
Gives Written input text = input ≡ Some text
Gives Recorded input text = input ≡ Some text
Gives (Generated number) input text = text ≡ generated number

-- the limit on what is run: on its bytes, or on the number of a generated program
abbrev pub limit_on : Form → LimitKind
limit_on Source = L6
limit_on Written = L6
limit_on Recorded = L6
limit_on (Generated number) = L8

-- the text is within it, or beyond
abbrev pub IsWithin : Form → List ℕ → Type 0
IsWithin Source text = length text ≤ 2 ^ 24
IsWithin Written text = length text ≤ 2 ^ 24
IsWithin Recorded text = length text ≤ 2 ^ 24
IsWithin (Generated number) text = number ≤ most_generated

abbrev pub IsBeyond : Form → List ℕ → Type 0
IsBeyond Source text = 2 ^ 24 < length text
IsBeyond Written text = 2 ^ 24 < length text
IsBeyond Recorded text = 2 ^ 24 < length text
IsBeyond (Generated number) text = most_generated < number

-- the number of a generated program is too large
abbrev pub IsLarge : Form → Type 0
IsLarge Source = ⊥
IsLarge Written = ⊥
IsLarge Recorded = ⊥
IsLarge (Generated number) = most_generated < number

-- more bytes came than the limit, or the number is too large
abbrev pub IsPassed : Form → Option (List ℕ) → Option (List ℕ) → Type 0
IsPassed Source input input' = IsTooLong input input'
IsPassed Written input input' = IsTooLong input input'
IsPassed Recorded input input' = IsTooLong input input'
IsPassed (Generated number) input input' = most_generated < number

-- a text is the one that is made, if it is to be
abbrev pub IsMadeFor : Form → List ℕ → Type 0
IsMadeFor Source text = Unit {0}
IsMadeFor Written text = Unit {0}
IsMadeFor Recorded text = Unit {0}
IsMadeFor (Generated number) text = text ≡ generated number

-- the ending where reading the input stopped
abbrev pub stopped_ending : InputStop → Ending
stopped_ending input_stop.Fault = ReadFault
stopped_ending input_stop.TooLong = Limit L6
stopped_ending input_stop.OutOfMemory = OutOfMemory

module _ {I : Type 0} (left : I → Option (List ℕ)) (reads : I → ℕ) where
  -- reading the input stopped, and the call ends so
  pub record Stops (input input' : I) (ending : Ending) : Type 0 where
    pub stop : InputStop
    pub part : ReadsPart left reads input input' (2 ^ 24) stop
    pub ends : ending ≡ stopped_ending stop

  -- a text was taken
  pub record Takes (form : Form) (input input' : I) (text : List ℕ) : Type 0 where
    pub from : HasText form (left input) (left input') text
    pub within : IsWithin form text
    pub made : IsMadeFor form text
    pub bounded : ReadsWithin (left input) (left input')
    pub steady : reads input' ≡ reads input
    pub given : (told : List ℕ) → Gives form (left input) told → told ≡ text
    pub unread : (number : ℕ) → form ≡ Generated number → input' ≡ input

  -- none was, and the call ends so
  pub record Lacks (form : Form) (input input' : I) (ending : Ending) : Type 0 where
    pub ends : (ending ≡ ReadFault) ⊎ (ending ≡ Limit (limit_on form)) ⊎ (ending ≡ OutOfMemory)
    pub fault : ending ≡ ReadFault → Rose (reads input) (reads input')
    pub passed : ending ≡ Limit (limit_on form) → IsPassed form (left input) (left input')
    pub beyond : (told : List ℕ) → Gives form (left input) told →
        ending ≡ Limit (limit_on form) → IsBeyond form told
    pub numbered : IsLarge form → (ending ≡ Limit L8) ⊎ (ending ≡ OutOfMemory)
    pub bounded : ReadsWithin (left input) (left input')
    pub steady : (ending ≡ ReadFault → ⊥) → reads input' ≡ reads input
    pub unread : (number : ℕ) → form ≡ Generated number → input' ≡ input
