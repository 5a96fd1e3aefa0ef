-- What a part of a call says, and how many requests it may still make.
use Rattle.std.specs.Prelude.{◌≡◌, ℕ, suc, ◌<◌, List, ◌++◌, length, Option, Some, None}
use Rattle.ec_link.specs.declared.logged.Logged.{Logged}
use Rattle.ec_meaning_defs.specs.evaluation.State.{Answer, State}
use Rattle.ec_call_defs.specs.Connections.{exchange}
use Rattle.ec_call_defs.specs.Outcomes.{Outcome, gives, finished, over}
use Rattle.ec_stopping_defs.specs.Resuming.{Behind, begun, replies, controls, commits, prepares, deallocates, closes, Asking, asks, connects}

-- these exchanges are all that was said; nothing was printed, no answer was taken from those that are left, and no turn
pub record OnlySays (said : List Logged) (old new : State) : Type 0 where
  pub output : new.output ≡ old.output
  pub errors : new.errors ≡ old.errors
  pub conversation : new.conversation ≡ old.conversation ++ said
  pub answers : new.answers ≡ old.answers
  pub turns : new.turns ≡ old.turns

-- a request with its answer. A request to connect is over the slot that its answer has
abbrev pub exchange_of : Asking → Answer → Logged
exchange_of (asks slot request behind) answer = exchange (Some slot) request answer.1
exchange_of (connects name request) answer = exchange answer.0 request answer.1

-- how many requests a call still makes at most, the one that waits among them
abbrev pub requests_behind : Behind → ℕ
requests_behind (begun request outputs) = 1
requests_behind (replies outputs) = 0
requests_behind controls = 0
requests_behind (commits on) = 0
requests_behind (prepares name text) = 0
requests_behind (deallocates name) = 0
requests_behind (closes name rest) = length rest

abbrev pub requests_left : Asking → ℕ
requests_left (asks slot request behind) = suc (requests_behind behind)
requests_left (connects name request) = 1

-- where it asks further, it has fewer requests to make than so many
abbrev pub IsNearer : ℕ → Outcome (Option Asking) → Type 0
IsNearer n (gives None s) = Unit {0}
IsNearer n (gives (Some u) s) = requests_left u < n
IsNearer n (finished s) = Unit {0}
IsNearer n (over halt s) = Unit {0}
