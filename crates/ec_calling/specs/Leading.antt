-- What calls leave of a rack, a library and its places, and of a session over them.
use Rattle.std.specs.Prelude.{◌≡◌, ℕ, suc, List, [], ◌∷◌, ◌++◌, length, Option}
use Rattle.std.specs.Borrow.{MutBor}
use Rattle.std.specs.declared.alloc.Global.{Global}
use Rattle.std.specs.declared.dyn_box.DynBox.{DynBox}
use Rattle.ec_link.specs.declared.logged.Logged.{Logged}
use Rattle.ec_link.specs.declared.rack.Rack.{Rack}
use Rattle.ec_link.specs.Logged.{Talk}
use Rattle.ec_link.specs.Rack.{log_of}
use Rattle.ec_runtime.specs.Calling.{conns_of}
use Rattle.ec_runtime.specs.declared.library.Library.{Library}
use Rattle.ec_runtime.specs.Racks.{Moves}
use Rattle.ec_calling.specs.declared.call.Call.{Call}

-- the places of exchanges that come behind so many others
abbrev pub places_of : ℕ → List Logged → List ℕ
places_of n [] = []
places_of n (x ∷ xs) = n ∷ places_of (suc n) xs

-- `talk` and `faults` are the members of the links
module _ {X : Type 0} {F : X → Type 0} (talk : DynBox X Global F → Option Talk)
    (faults : DynBox X Global F → ℕ) where
  -- what was said over the connections of a library, with the places of that
  pub record Moved (old : Rack X F) (was : Library X F) (before : List ℕ)
      (new : Rack X F) (now : Library X F) (after : List ℕ) : Type 0 where
    pub growth : List Logged
    pub moves : Moves talk faults old (conns_of was.connections) new
        (conns_of now.connections) growth
    pub noted : after ≡ before ++ places_of (length (log_of old)) growth

  -- some calls of a program, made over one rack, with one library and one list of places
  pub record Leads (calls : List Call) (old : MutBor (Rack X F)) (was : MutBor (Library X F))
      (before : MutBor (List ℕ)) (calls' : List Call) (new : MutBor (Rack X F))
      (now : MutBor (Library X F)) (after : MutBor (List ℕ)) : Type 0 where
    pub growth : List Logged
    pub moves : Moves talk faults old.now (conns_of was.now.connections) new.now
        (conns_of now.now.connections) growth
    pub noted : after.now ≡ before.now ++ places_of (length (log_of old.now)) growth
    pub same_rack : new.ghost_name ≡ old.ghost_name
    pub same_library : now.ghost_name ≡ was.ghost_name
    pub same_places : after.ghost_name ≡ before.ghost_name
    pub same_calls : calls' ≡ calls
