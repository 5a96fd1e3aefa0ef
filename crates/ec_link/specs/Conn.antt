-- What a connection shows.
use Rattle.std.specs.Prelude.{ℕ, Option, Some, Result, Ok, Err, List, [], ◌∷◌}
use Rattle.std.specs.declared.alloc.Global.{Global}
use Rattle.std.specs.declared.dyn_box.DynBox.{DynBox}
use Rattle.ec_link.specs.declared.connection.Conn.{Conn}

module _ {X : Type 0} {F : X → Type 0} where
  -- the number of a connection's slot
  abbrev pub slot_of : Conn X F → ℕ
  slot_of conn = conn.slot

  -- the link of a connection
  abbrev pub link_of : Conn X F → DynBox X Global F
  link_of conn = conn.link

  -- the connection that a call opened, if it did
  abbrev pub opened : {E : Type 0} → Result (Option (Conn X F)) E → List (Conn X F)
  opened (Ok (Some conn)) = conn ∷ []
  opened _ = []

  -- the connection that a call handed back, if it did
  abbrev pub handed_back : Result (Unit {0}) (Conn X F) → List (Conn X F)
  handed_back (Err conn) = conn ∷ []
  handed_back _ = []
