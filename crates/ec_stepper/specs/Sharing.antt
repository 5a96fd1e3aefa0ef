-- Machines that share a rack.
use Rattle.std.specs.Prelude.{◌≡◌, List, [], ◌∷◌, ◌++◌}
use Rattle.ec_link.specs.declared.connection.Conn.{Conn}
use Rattle.ec_link.specs.declared.logged.Logged.{Logged}
use Rattle.ec_link.specs.declared.rack.Rack.{Rack}
use Rattle.ec_link.specs.Conn.{slot_of}
use Rattle.ec_link.specs.Rack.{log_of}
use Rattle.ec_runtime.specs.Calling.{Holds, conns_of}
use Rattle.ec_runtime.specs.Racks.{Beside}
use Rattle.ec_stepper.specs.declared.machine.Machine.{Machine}
use Rattle.ec_stepper.specs.Advancing.{SparesOthers}
use Rattle.ec_stepper.specs.Running.{IsOf}

module _ {X : Type 0} {F : X → Type 0} where
  -- no slot is that of connections on both sides
  abbrev pub AreApart : List (Conn X F) → List (Conn X F) → Type 0
  AreApart [] others = Unit {0}
  AreApart (conn ∷ conns) others = Beside (slot_of conn) others × AreApart conns others

  -- a machine stands over a rack beside these connections of another one
  pub record StandsBeside (rack : Rack X F) (m : Machine X F) (others : List (Conn X F)) : Type 0 where
    pub of : IsOf (log_of rack) m
    pub holds : Holds m.library.connections rack
    pub apart : AreApart (conns_of m.library.connections) others

  -- what others say over their own connections leaves a machine where it stands
  abbrev pub StandsStill : Machine X F → Rack X F → Type 0
  StandsStill m old =
      (new : Rack X F) (was now : List (Conn X F)) (growth : List Logged)
      → log_of new ≡ log_of old ++ growth → SparesOthers old was new now
      → StandsBeside old m was → StandsBeside new m now
