-- What the tables tell of members and leaves, where a host stands.
use Rattle.std.specs.Prelude.{◌≡◌, ℕ, List, [], ◌∷◌}
use Rattle.ec_ctypes.specs.trees.Types.{TyData}
use Rattle.ec_language.specs.Letters.{Text}
use Rattle.ec_host_defs.specs.Leaves.{LeafData}
use Rattle.ec_typing_defs.specs.Worlds.{World}
use Rattle.ec_typing_defs.specs.Answers.{struct_order, renumbered, structs_of}
use Rattle.ec_sim_statement_laws.specs.argument.Pointers.{HasMember, LiesIn}
use Rattle.ec_sim_world_laws.specs.place.Structs.{AreListed}

-- where a part of a source stands, and behind the whole source
module _ (w z : World) where
  -- the struct has this member, whose type is that in the tables
  pub record IsMember (k : ℕ) (name : Text) (there : TyData) : Type 0 where
    pub type : TyData
    pub offset : ℕ
    pub is : HasMember w (struct_order z) (structs_of z) k name type offset
    pub same : there ≡ renumbered (struct_order z) type
    pub are_listed : AreListed w type

  -- a leaf lies in a host of this type
  pub record Lies (t : TyData) (l : LeafData) : Type 0 where
    pub type : TyData
    pub is : LiesIn w (struct_order z) (structs_of z) t type l

  abbrev pub AllLie : TyData → List LeafData → Type 0
  AllLie t [] = Unit {0}
  AllLie t (l ∷ ls) = Lies t l × AllLie t ls
