-- What is said over links that replay a recorded log.
use Rattle.std.specs.Prelude.{◌≡◌, ℕ, List}
use Rattle.ec_link.specs.declared.logged.Logged.{Logged}
use Rattle.ec_link.specs.Logged.{Talk, talk_of}
use Rattle.ec_replay.specs.Laws.{requests_of}
use Rattle.ec_replay.specs.Part.{talk_over}

-- This is what is said over a link that replays the part, where it is asked these requests.
abbrev pub IsSaidOver : Talk → Talk → Type 0
IsSaidOver part said = said ≡ talk_over part (requests_of said)

-- What a log has for each slot was said over a link that replays what the recorded log has for that slot.
abbrev pub RepliesAsRecorded : List Logged → List Logged → Type 0
RepliesAsRecorded recorded log = (i : ℕ) → IsSaidOver (talk_of i recorded) (talk_of i log)

-- what was recorded is itself what is said over its links
abbrev pub SaysItself : Type 0
SaysItself = (recorded : List Logged) → RepliesAsRecorded recorded recorded
