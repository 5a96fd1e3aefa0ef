-- What several programs say over one set of connections: which of them made which exchange, in order.
use Rattle.std.specs.Prelude.{◌≡◌, ℕ, suc, ◌==◌, List, [], ◌∷◌, map, slice_get, Some, None, if◌then◌else◌}
use Rattle.ec_link.specs.declared.logged.Logged.{Logged}

-- One exchange, and the number of the program that made it. The first program has the number 1.
pub record Event : Type 0 where
  pub program : ℕ
  pub exchange : Logged

-- the exchanges that the program of this number made
abbrev pub exchanges_of : ℕ → List Event → List Logged
exchanges_of k [] = []
exchanges_of k (e ∷ events) =
    if e.program == k then e.exchange ∷ exchanges_of k events else exchanges_of k events

-- the exchanges of all, in order
abbrev pub exchanges_in : List Event → List Logged
exchanges_in events = map (λ e. e.exchange) events

-- the programs that made them, in order
abbrev pub schedule_of : List Event → List ℕ
schedule_of events = map (λ e. e.program) events

-- Conversations are interleaved in a log under a schedule, a list of the programs' numbers: of the events, one for each
-- entry of the schedule, those of each program, alone and in order, are its conversation.
pub record Interleaves (schedule : List ℕ) (conversations : List (List Logged)) (log : List Logged) : Type 0 where
  pub events : List Event
  pub scheduled : schedule_of events ≡ schedule
  pub logged : exchanges_in events ≡ log
  pub each : (n : ℕ) (conversation : List Logged) → slice_get conversations n ≡ Some conversation
      → exchanges_of (suc n) events ≡ conversation
  pub none_else : (n : ℕ) → slice_get conversations n ≡ None → exchanges_of (suc n) events ≡ []
  pub none_before : exchanges_of 0 events ≡ []
