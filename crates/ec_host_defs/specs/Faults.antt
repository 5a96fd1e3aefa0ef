-- The faults of hosts (F21 to F25) and cursors (F26 to F28).
use Rattle.std.specs.Prelude.{ℕ, ◌+◌, Bool, true, false, not, ◌&&◌, ◌==◌, nat_le, List, [], ◌∷◌, ◌++◌, take, drop, length, slice_get, Option, Some, None, is_some}
use Rattle.std.specs.List.{list_all}
use Rattle.ec_base.specs.declared.fault.FaultKind.{FaultKind}
use Rattle.ec_base.specs.declared.fault.FaultKind.TheVariants.{F21, F22, F23, F24, F25, F26, F27, F28}
use Rattle.ec_ctypes.specs.trees.Types.{TyData, array, StructData}
use Rattle.ec_ctypes.specs.trees.Exprs.{ExprData}
use Rattle.ec_ctypes.specs.trees.Embedded.{HostData, EmbData}
use Rattle.ec_typing_defs.specs.statement_parts.Cursors.{declared_cursor, opened_cursor, declared_above}
use Rattle.ec_typing_defs.specs.statement_parts.References.{names_of}
use Rattle.ec_host_defs.specs.Elements.{is_element, is_indicator, is_text}
use Rattle.ec_host_defs.specs.Leaves.{LeafData, ShapeData, one_element, elements, one_struct, many_structs, shape_of_host, leaves}
use Rattle.ec_host_defs.specs.Programs.{ProgramData, Denoted, reference_type, is_host, variable_of, has_variable_indexes, names_count, option_count}
use Rattle.ec_host_defs.specs.Uses.{RoleData, text_role, input_role, output_role, number_role, item_role, Uses}

abbrev pub fault_unless : Bool → FaultKind → List FaultKind
fault_unless true kind = []
fault_unless false kind = kind ∷ []

-- ---- values

-- an array, but no array of characters
abbrev pub is_plain_array : List StructData → TyData → Bool
is_plain_array structs (array t n) = not (is_element structs (array t n))
is_plain_array structs _ = false

-- the types that may stand at its place (F22)
abbrev pub suits_role : List StructData → RoleData → TyData → Bool
suits_role structs text_role t = is_text structs t
suits_role structs input_role t = is_some (leaves structs t)
suits_role structs output_role t = is_some (leaves structs t)
suits_role structs number_role t = is_element structs t
suits_role structs item_role t = is_element structs t

-- a value that is sent is no array (F24)
abbrev pub is_array_input : List StructData → RoleData → TyData → Bool
is_array_input structs input_role t = is_plain_array structs t
is_array_input structs _ t = false

abbrev pub value_faults : List StructData → RoleData → Option TyData → List FaultKind
value_faults structs role None = F22 ∷ []
value_faults structs role (Some t) = fault_unless (suits_role structs role t) F22
    ++ fault_unless (not (is_array_input structs role t)) F24

-- ---- indicators

abbrev pub leaf_count : Option (List LeafData) → Option ℕ
leaf_count None = None
leaf_count (Some ls) = Some (length ls)

abbrev pub same_count : Option ℕ → Option ℕ → Bool
same_count None n = true
same_count (Some m) None = true
same_count (Some m) (Some n) = m == n

-- all leaves are of an indicator's type
abbrev pub are_indicators : Option (List LeafData) → Bool
are_indicators None = false
are_indicators (Some ls) = list_all (λ l. is_indicator l.element) ls

-- of an array of so many elements: an array of at least as many
abbrev pub is_indicator_array : ℕ → TyData → Bool
is_indicator_array n (array t m) = is_indicator t && nat_le n m
is_indicator_array n _ = false

-- Of a struct or an array of structs: the same of as many members. F25 where their numbers or those of the elements differ, F23 for another type.
abbrev pub struct_faults : List StructData → TyData → TyData → Bool → List FaultKind
struct_faults structs t i same = fault_unless (are_indicators (leaves structs i)) F23
    ++ fault_unless
    (same && same_count (leaf_count (leaves structs t)) (leaf_count (leaves structs i))) F25

-- by the shapes of the host and of its indicator
abbrev pub shape_faults : List StructData → TyData →
    TyData → ShapeData → Option ShapeData → List FaultKind
shape_faults structs t i one_element s = fault_unless (is_indicator i) F23
shape_faults structs t i (elements u n) s = fault_unless (is_indicator_array n i) F23
shape_faults structs t i (one_struct k) (Some (one_struct j)) = struct_faults structs t i true
shape_faults structs t i (one_struct k) _ = F23 ∷ []
shape_faults structs t i (many_structs k n) (Some (many_structs j m)) =
    struct_faults structs t i (n == m)
shape_faults structs t i (many_structs k n) _ = F23 ∷ []

abbrev pub typed_faults : List StructData → TyData → TyData → List FaultKind
typed_faults structs t i = elim (shape_of_host structs t) [
  | None ↦ []
  | Some s ↦ shape_faults structs t i s (shape_of_host structs i)
]

-- A name, a text or an item has none.
abbrev pub may_have_indicator : RoleData → Bool
may_have_indicator text_role = false
may_have_indicator input_role = true
may_have_indicator output_role = true
may_have_indicator number_role = true
may_have_indicator item_role = false

abbrev pub indicator_type_faults : List StructData → Option TyData → Option TyData → List FaultKind
indicator_type_faults structs t None = F23 ∷ []
indicator_type_faults structs None (Some i) = []
indicator_type_faults structs (Some t) (Some i) = typed_faults structs t i

-- ---- hosts

-- the variable of a reference stands in a section (F21), and its indexes are variables (F22)
abbrev pub reference_faults : ProgramData → Denoted → List FaultKind
reference_faults p ds =
    fault_unless (is_host p (variable_of ds)) F21 ++ fault_unless (has_variable_indexes ds) F22

abbrev pub indicator_faults : ProgramData → RoleData →
    Option TyData → Option ExprData → Denoted → List FaultKind
indicator_faults p role t None ds = []
indicator_faults p role t (Some e) ds =
    reference_faults p ds ++ (fault_unless (may_have_indicator role) F23
    ++ indicator_type_faults p.structs t (reference_type p e ds))

-- of a host, by what the variables of its value and of its indicator denote
abbrev pub host_faults : ProgramData → RoleData → HostData → Denoted → Denoted → List FaultKind
host_faults p role h ds is =
    reference_faults p ds ++ (value_faults p.structs role (reference_type p h.value ds)
    ++ indicator_faults p role (reference_type p h.value ds) h.indicator is)

abbrev pub host_count : HostData → ℕ
host_count h = names_count h.value + option_count h.indicator

abbrev pub value_part : HostData → Denoted → Denoted
value_part h ds = take (names_count h.value) ds

abbrev pub indicator_part : HostData → Denoted → Denoted
indicator_part h ds = take (option_count h.indicator) (drop (names_count h.value) ds)

abbrev pub uses_faults : ProgramData → Uses → Denoted → List FaultKind
uses_faults p [] ds = []
uses_faults p (u ∷ us) ds = host_faults p u.0 u.1 (value_part u.1 ds) (indicator_part u.1 ds)
    ++ uses_faults p us (drop (host_count u.1) ds)

-- ---- cursors

abbrev pub same_denoted : Denoted → Denoted → Bool
same_denoted [] [] = true
same_denoted (None ∷ ds) (None ∷ es) = same_denoted ds es
same_denoted (Some j ∷ ds) (Some k ∷ es) = j == k && same_denoted ds es
same_denoted _ _ = false

abbrev pub row_at : List Denoted → ℕ → Denoted
row_at rows n = elim (slice_get rows n) [ None ↦ [] | Some ds ↦ ds ]

-- what the variables of its cursor denote at OPEN, behind its own
abbrev pub cursor_part : EmbData → Denoted → Denoted
cursor_part e ds = drop (length (names_of e)) ds

-- OPEN of a cursor that isn't declared above (F26), or where a variable of the cursor's hosts isn't the same declaration (F28)
abbrev pub open_faults : List Denoted → Option ℕ → EmbData → Denoted → List FaultKind
open_faults rows None e ds = F26 ∷ []
open_faults rows (Some k) e ds = fault_unless (same_denoted (row_at rows k) (cursor_part e ds)) F28

abbrev pub opening_faults : List EmbData → List Denoted → ℕ → EmbData → List FaultKind
opening_faults es rows n e = elim (opened_cursor e) [
  | None ↦ []
  | Some c ↦ open_faults rows (declared_above es n c) e (row_at rows n)
]

-- a second DECLARE of a cursor (F27)
abbrev pub declaring_faults : List EmbData → ℕ → EmbData → List FaultKind
declaring_faults es n e = elim (declared_cursor e) [
  | None ↦ []
  | Some c ↦ fault_unless (not (is_some (declared_above es n c))) F27
]
