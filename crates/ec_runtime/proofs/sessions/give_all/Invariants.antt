use Rattle.std.proofs.Common.{◌≡◌, length, map, reverse, List}
use Rattle.ec_link.specs.declared.slot.Slot.{Slot}
use Rattle.ec_link.specs.Rack.{slots_of, log_of}
use Rattle.ec_link.specs.Slot.{states}
use Rattle.ec_runtime.specs.Racks.{AllTaken, GivesAll}
use Rattle.ec_runtime.proofs.sessions.give_all.Given as goal

abbrev pub invariant-loop-session : goal.invariant-loop-session
invariant-loop-session g l =
    AllTaken (states (slots_of l.rack)) (map (λ o. o.conn) l.sessions.items)
    × (log_of l.rack ≡ log_of l.initial.rack)
    × ((after : List (Slot _ _)) → GivesAll (slots_of l.rack) (reverse (map (λ o. o.conn) l.sessions.items)) after
    → GivesAll (slots_of l.initial.rack) (reverse (map (λ o. o.conn) l.initial.sessions.items)) after)

abbrev pub decreases-loop-session : goal.decreases-loop-session
decreases-loop-session g l = length l.sessions.items
