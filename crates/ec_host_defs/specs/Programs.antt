-- The types of references, by the declarations that their variables denote.
use Rattle.std.specs.Prelude.{ℕ, Bool, true, false, ◌&&◌, ◌||◌, ◌==◌, List, [], ◌∷◌, length, slice_get, Option, Some, None, option_map, option_and_then, is_some}
use Rattle.ec_ctypes.specs.trees.Types.{TyData, pointer, array, structure, MemberData, StructData}
use Rattle.ec_ctypes.specs.trees.Exprs.{ExprData, identifier, index, member, arrow}
use Rattle.ec_language.specs.Letters.{Text, same_text}
use Rattle.ec_typing_defs.specs.statement_parts.References.{names_in}

-- what hosts are looked at with: the structs, the types of the declarations by their numbers, and the numbers of those in a section and of functions
pub record ProgramData : Type 0 where
  pub structs : List StructData
  pub names : List (ℕ × TyData)
  pub hosts : List ℕ
  pub functions : List ℕ

-- the declarations that the variables of references denote, in their order
abbrev pub Denoted : Type 0
Denoted = List (Option ℕ)

abbrev pub is_among : ℕ → List ℕ → Bool
is_among n [] = false
is_among n (k ∷ ks) = n == k || is_among n ks

-- ---- types

abbrev pub element_of : TyData → Option TyData
element_of (pointer t) = Some t
element_of (array t n) = Some t
element_of _ = None

abbrev pub member_among : Text → List MemberData → Option TyData
member_among name [] = None
member_among name (m ∷ ms) =
    elim (same_text name m.0) [ true ↦ Some m.1 | false ↦ member_among name ms ]

abbrev pub member_type : List StructData → Text → TyData → Option TyData
member_type structs name (structure k) =
    option_and_then (λ d. member_among name d.members) (slice_get structs k)
member_type structs name _ = None

-- the type of a reference, by that of its variable (ISO/IEC 9899:1999, 6.5.2.1 and 6.5.2.3)
abbrev pub type_along : List StructData → TyData → ExprData → Option TyData
type_along structs t (identifier x) = Some t
type_along structs t (index a b) = option_and_then element_of (type_along structs t a)
type_along structs t (member e m) = option_and_then (member_type structs m) (type_along structs t e)
type_along structs t (arrow e m) = option_and_then
    (λ s. option_and_then (member_type structs m) (element_of s)) (type_along structs t e)
type_along structs t _ = None

abbrev pub declared_type : ProgramData → ℕ → Option TyData
declared_type p k = option_map (λ n. n.1) (slice_get p.names k)

-- a function has no type as a host
abbrev pub variable_type : ProgramData → Option ℕ → Option TyData
variable_type p None = None
variable_type p (Some k) = elim (is_among k p.functions) [ true ↦ None | false ↦ declared_type p k ]

abbrev pub variable_of : Denoted → Option ℕ
variable_of [] = None
variable_of (d ∷ ds) = d

-- the type of a reference whose variable and indexes denote these
abbrev pub reference_type : ProgramData → ExprData → Denoted → Option TyData
reference_type p e ds =
    option_and_then (λ t. type_along p.structs t e) (variable_type p (variable_of ds))

-- ---- sections and indexes

-- its variable is declared in a section
abbrev pub is_host : ProgramData → Option ℕ → Bool
is_host p None = false
is_host p (Some k) = is_among k p.hosts

abbrev pub all_some : Denoted → Bool
all_some [] = true
all_some (d ∷ ds) = is_some d && all_some ds

-- its indexes are variables
abbrev pub has_variable_indexes : Denoted → Bool
has_variable_indexes [] = true
has_variable_indexes (d ∷ ds) = all_some ds

-- ---- the declarations of one reference among those of a statement

abbrev pub names_count : ExprData → ℕ
names_count e = length (names_in e)

abbrev pub option_count : Option ExprData → ℕ
option_count None = 0
option_count (Some e) = names_count e
