-- What the code keeps, and what it stands for.
use Rattle.std.specs.Prelude.{◌≡◌, ◌≤◌, ℕ, Option, Some, None, All, length, ⊤, if◌then◌else◌}
use Rattle.ec_transcript.specs.States.{Told, whole, opens, Open, State, start, between, asked, said, tabled, is_named}
use Rattle.ec_transcript.specs.declared.states.Open as code
use Rattle.ec_transcript.specs.declared.states.State as states
use Rattle.ec_transcript.specs.declared.states.State.TheVariants.{Start, Between, Asked, Said, Tabled}
use Rattle.ec_transcript.specs.declared.lines.Told as declared
use Rattle.ec_transcript.specs.declared.lines.Told.TheVariants.{Whole, Opens}

-- what the first line of a reply said
abbrev pub told_of : declared.Told → Told
told_of (Whole told) = whole told
told_of (Opens t width height notice) = opens t width height notice

-- an exchange whose table isn't whole yet
abbrev pub open_of : code.Open → Open
open_of o = record {
  slot = o.slot;
  request = o.request;
  tx = o.tx;
  width = o.width;
  height = o.height;
  notice = o.notice;
  cols = o.cols;
  rows = o.rows;
}

-- where a transcript stands
abbrev pub state_of : states.State → State
state_of Start = start
state_of (Between slots log) = between slots log
state_of (Asked slots log slot) = asked slots log slot
state_of (Said slots log slot request) = said slots log slot request
state_of (Tabled slots log o) = tabled slots log (open_of o)

-- at most 64 slots, and each row of an open table is as wide as it
abbrev pub Sound : State → Type 0
Sound start = ⊤
Sound (between slots log) = length slots ≤ 64
Sound (asked slots log slot) = length slots ≤ 64
Sound (said slots log slot request) = length slots ≤ 64
Sound (tabled slots log o) = (length slots ≤ 64) × All (λ row. length row ≡ o.width) o.rows

-- a slot, if it is one of the first n
abbrev pub named_of : ℕ → Option ℕ → Option (Option ℕ)
named_of n slot = if is_named n slot then Some slot else None
