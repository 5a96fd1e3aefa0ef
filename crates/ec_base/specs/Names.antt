-- What a contract sees of the places where the bytes of a name stand.
use Rattle.std.specs.Prelude.{ℕ, ◌≤◌, List, take}
use Rattle.ec_base.specs.declared.name.Letters.{Letters}
use Rattle.ec_base.specs.declared.name.Letters.TheVariants.{Inline, Block}

-- the bytes, in order
abbrev pub letters_view : Letters → List ℕ
letters_view (Inline count bytes) = take count bytes
letters_view (Block bytes) = bytes.value

-- there are no more bytes than places for them
abbrev pub FitsRoom : Letters → Type 0
FitsRoom (Inline count bytes) = count ≤ 22
FitsRoom (Block bytes) = Unit {0}
