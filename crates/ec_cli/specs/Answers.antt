-- What a call of the tool leaves, whatever its command.
use Rattle.std.specs.Prelude.{◌≡◌, ℕ, ◌<◌, ◌⊎◌, List, length, Option}
use Rattle.ec_base.specs.Putting.{Puts, PutsPart}
use Rattle.ec_link.specs.declared.logged.Logged.{Logged}
use Rattle.ec_link.specs.declared.rack.Rack.{Rack}
use Rattle.ec_link.specs.Logged.{growth_of}
use Rattle.ec_link.specs.Rack.{slots_of, log_of}
use Rattle.ec_cli.specs.declared.ending.Ending.{Ending}
use Rattle.ec_cli.specs.declared.ending.Ending.TheVariants.{Wrote, Exited, Trapped, TurnsSpent, Usage, Refused, Limit, ReadFault, WriteFault, OutOfMemory}

-- the rack has more slots than the tool takes
abbrev pub IsCrowded : {X : Type 0} {F : X → Type 0} → Rack X F → Type 0
IsCrowded rack = 64 < length (slots_of rack)

-- this answer comes exactly where that holds, but that want of memory may come in its place
pub record ComesWhere (answer ending : Ending) (Holds : Type 0) : Type 0 where
  pub only : ending ≡ answer → Holds
  pub there : Holds → (ending ≡ answer) ⊎ (ending ≡ OutOfMemory)

-- nothing was run, by the ending alone
abbrev pub IsRefusal : Ending → Type 0
IsRefusal Usage = Unit {0}
IsRefusal (Refused kind line) = Unit {0}
IsRefusal (Limit kind) = Unit {0}
IsRefusal ReadFault = Unit {0}
IsRefusal Wrote = ⊥
IsRefusal (Exited status) = ⊥
IsRefusal (Trapped trap line) = ⊥
IsRefusal TurnsSpent = ⊥
IsRefusal WriteFault = ⊥
IsRefusal OutOfMemory = ⊥

-- a line was put, or its front where the sink failed
abbrev pub Announces : {S : Type 0} → (S → Option (List ℕ)) → (S → ℕ) → S → S → List ℕ → Type 0
Announces held faults old new text = Puts held faults old new text
    ⊎ PutsPart held faults old new text

-- what the log of a rack grew by in a call
abbrev pub grown : {X : Type 0} {F : X → Type 0} → Rack X F → Rack X F → List Logged
grown rack rack' = growth_of (log_of rack) (log_of rack')
