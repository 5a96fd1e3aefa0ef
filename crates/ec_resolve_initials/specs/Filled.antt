-- What an initializer stores behind other parts, as the definition has it.
use Rattle.std.specs.Prelude.{ℕ, zero, suc, List, ◌++◌, take}
use Rattle.ec_language.specs.Letters.{Text}
use Rattle.ec_resolving_defs.specs.Initializers.{PartData}

-- parts behind others
abbrev pub parts_behind : List PartData → List PartData → List PartData
parts_behind before ps = before ++ ps

-- the bytes of a literal that an array of this length takes, which is 0 where it is left out
abbrev pub literal_front : ℕ → Text → Text
literal_front zero text = text
literal_front (suc n) text = take (suc n) text
