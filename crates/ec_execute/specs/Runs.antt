-- What the run of a program over a rack leaves: the first ready slot is taken, calls are made, and the slots of the connections
-- that are open at the end are free again.
use Rattle.std.specs.Prelude.{◌≡◌, ℕ, List, [], reverse, Option}
use Rattle.std.specs.declared.alloc.Global.{Global}
use Rattle.std.specs.declared.dyn_box.DynBox.{DynBox}
use Rattle.ec_link.specs.declared.connection.Conn.{Conn}
use Rattle.ec_link.specs.declared.logged.Logged.{Logged}
use Rattle.ec_link.specs.declared.rack.Rack.{Rack}
use Rattle.ec_link.specs.Logged.{Talk}
use Rattle.ec_link.specs.Rack.{slots_of, log_of}
use Rattle.ec_link.specs.Slot.{states}
use Rattle.ec_link.specs.SlotState.{ready_slot}
use Rattle.ec_meaning_defs.specs.observed.Observed.{answers_in}
use Rattle.ec_execution_defs.specs.Programs.{Executable, meaning}
use Rattle.ec_meaning_defs.specs.evaluation.Whole.{ready_connections, ready_name}
use Rattle.ec_runtime.specs.Calling.{TakesFirst, connections_of, conns_of}
use Rattle.ec_runtime.specs.Racks.{AllTaken, GivesAll, Moves}
use Rattle.ec_runtime.specs.declared.library.Library.{Library}
use Rattle.ec_execute.specs.declared.running.RunEnd.{RunEnd}
use Rattle.ec_execute.specs.Ends.{Performs}

module _ {X : Type 0} {F : X → Type 0} where
  module _ (talk : DynBox X Global F → Option Talk) (faults : DynBox X Global F → ℕ) where
    -- this was said over connections, and those that are open then were given back, the one opened last first
    pub record GivenBack (opened : Rack X F) (was : List (Conn X F)) (last : Rack X F)
        (growth : List Logged) : Type 0 where
      pub closing : Rack X F
      pub now : List (Conn X F)
      pub moves : Moves talk faults opened was closing now growth
      pub held : AllTaken (states (slots_of closing)) now
      pub given : GivesAll (slots_of closing) (reverse now) (slots_of last)
      pub logged : log_of last ≡ log_of closing

    -- a connection to the first ready slot, if there is one, was opened, this was said, and every connection was given back
    pub record Connects (first last : Rack X F) (growth : List Logged) : Type 0 where
      pub opened : Rack X F
      pub was : List (Conn X F)
      pub taken : TakesFirst (slots_of first) was (slots_of opened)
      pub logged : log_of opened ≡ log_of first
      pub given_back : GivenBack opened was last growth

    module _ {O E : Type 0} (held : O → Option (List ℕ)) (puts : O → ℕ)
        (told : E → Option (List ℕ)) (tells : E → ℕ) (x : Executable) (turns : ℕ)
        (out out' : O) (err err' : E) where
      -- a program was run over the first ready slot of a rack, if there is one
      pub record Ran (first last : Rack X F) (end : RunEnd) : Type 0 where
        pub growth : List Logged
        pub connects : Connects first last growth
        pub performs : Performs held puts told tells
            (meaning x turns (ready_slot (states (slots_of first))) (answers_in growth)) growth
            out out' err err' end
