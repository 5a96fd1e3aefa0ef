-- The front of a message in the room that there is for it.
use Rattle.std.specs.Prelude.{◌≡◌, ℕ, List, ◌++◌, length}
use Rattle.ec_transfer_defs.specs.Area.{kept_front, in_sqlerrmc}

-- where the room holds the front of a message, which ends at a place, it then holds that of the message with more behind it
abbrev pub Adds : List ℕ → ℕ → List ℕ → List ℕ → Type 0
Adds before end more after = (message : List ℕ) → before ≡ in_sqlerrmc message →
    end ≡ length (kept_front message) → after ≡ in_sqlerrmc (message ++ more)

-- where the front of that message ends
abbrev pub Reaches : ℕ → List ℕ → ℕ → Type 0
Reaches end more after = (message : List ℕ) → end ≡ length (kept_front message) →
    after ≡ length (kept_front (message ++ more))
