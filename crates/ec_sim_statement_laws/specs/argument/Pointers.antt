-- What the pointers in the arguments of a written call are resolved to, where the call stands.
use Rattle.std.specs.Prelude.{◌≡◌, ℕ, true, false, List, [], ◌∷◌, Some, option_map}
use Rattle.ec_ctypes.specs.Layout.{member_of}
use Rattle.ec_ctypes.specs.trees.Exprs.{ExprData}
use Rattle.ec_ctypes.specs.trees.Types.{TyData, void, arithmetic, pointer, array, structure, StructData}
use Rattle.ec_host_defs.specs.Leaves.{Path, LeafData}
use Rattle.ec_host_defs.specs.Places.{size_of}
use Rattle.ec_typing_defs.specs.Answers.{place_of, renumbered}
use Rattle.ec_typing_defs.specs.Operands.{OperandData, member_type}
use Rattle.ec_typing_defs.specs.Worlds.{Place, World, members_of, is_complete}
use Rattle.ec_meaning_defs.specs.resolved.Resolved.{Exp}
use Rattle.ec_resolving_defs.specs.Conversions.{size_in}
use Rattle.ec_resolving_defs.specs.Storage.{Storage, Resolving, reached, ◌>>=◌}
use Rattle.ec_resolving_defs.specs.Operands.{Found, found, offset_among, value_rule}
use Rattle.ec_resolving_defs.specs.Expressions.{expr}

-- an expression as a value
abbrev pub value_of : Place → ExprData → Resolving Found
value_of at e = expr at e >>= value_rule at

-- where a part of a program stands
module _ (at : Place) (s : Storage) (w : World) where
  -- The expression is a place of this type with this address, and makes nothing
  pub record IsPlace (e : ExprData) (t : TyData) (x : Exp) : Type 0 where
    pub operand : OperandData
    pub is : expr at e s w ≡ reached (found operand x true) s w
    pub type : operand.type ≡ Some t
    pub place : operand.is_place ≡ true

  -- its value is this pointer to one of this type, and it makes nothing
  pub record IsPointer (e : ExprData) (t : TyData) (x : Exp) : Type 0 where
    pub operand : OperandData
    pub is : value_of at e s w ≡ reached (found operand x false) s w
    pub type : operand.type ≡ Some (pointer t)

-- what a pointer to a place of this type leads to: an array is the pointer to its first element
abbrev pub target_of : TyData → TyData
target_of void = void
target_of (arithmetic a) = arithmetic a
target_of (pointer t) = pointer t
target_of (array t n) = t
target_of (structure k) = structure k

-- ---- what is known of structs where a host stands

-- These are the structs of the program in the order of its tables: the struct of a number has there its place in the order
module _ (w : World) (order : List ℕ) (structs : List StructData) where
  -- the struct has a member of this type where the layout has it
  pub record HasMember (k : ℕ) (name : List ℕ) (t : TyData) (offset : ℕ) : Type 0 where
    pub type : member_type name (members_of k w) ≡ Some (Some t)
    pub place : offset_among w name (members_of k w) ≡ Some offset
    pub laid_out : option_map (λ m. m.0) (member_of structs (place_of k order) name) ≡ Some offset

  -- the members of a path lead from a struct to a type
  pub data Leads : TyData → Path → TyData → Type 0 where
    leads_here : {t : TyData} → Leads t [] t
    leads_on : {k : ℕ} {name : List ℕ} {offset : ℕ} {t u : TyData} {path : Path}
        → HasMember k name t offset → Leads t path u
        → Leads (structure k) ((place_of k order, name) ∷ path) u

  -- the first element of an array is complete, and has the size that the layout gives
  pub record HasElements (u apart : TyData) : Type 0 where
    pub complete : is_complete w u ≡ true
    pub size : size_in w u ≡ size_of structs apart

  -- a leaf of this type lies in a host of that type; the types in the leaf are those of the tables
  pub data LiesIn : TyData → TyData → LeafData → Type 0 where
    in_itself : {t u element apart : TyData} {path : Path} {count : ℕ} → Leads t path u
        → LiesIn t u (record {
          in_first = false;
          path = path;
          whole = renumbered order u;
          element = element;
          count = count;
          apart = apart;
        })
    in_first_of : {t u element apart : TyData} {path : Path} {n count : ℕ}
        → HasElements t apart → Leads t path u
        → LiesIn (array t n) u (record {
          in_first = true;
          path = path;
          whole = renumbered order u;
          element = element;
          count = count;
          apart = apart;
        })
