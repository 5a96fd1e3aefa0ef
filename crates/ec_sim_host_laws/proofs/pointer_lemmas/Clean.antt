-- Where a host is not at fault, its type is known and is not void, and so is that of its indicator.
use Rattle.std.proofs.Common.{◌≡◌, ◌∙◌, ℕ, zero, suc, Bool, true, false, List, [], ◌∷◌, ◌++◌, Option, Some, None, refl, sym, subst, slice_get, option_map, codes}
use Rattle.std.specs.Prelude.{not, is_some, option_and_then}
use Rattle.ec_base.specs.declared.fault.FaultKind.{FaultKind}
use Rattle.ec_base.specs.declared.fault.FaultKind.TheVariants.{F22, F23, F24}
use Rattle.ec_ctypes.specs.declared.types.arith.Arith.TheVariants as arith_of
use Rattle.ec_ctypes.specs.trees.Embedded.{HostData}
use Rattle.ec_ctypes.specs.trees.Exprs.{ExprData}
use Rattle.ec_ctypes.specs.trees.Types.{TyData, void, arithmetic, pointer, array, structure, StructData}
use Rattle.ec_host_defs.specs.Elements.{char_symbol, array_symbol, capacity, struct_symbol, varchar_symbol, is_element}
use Rattle.ec_host_defs.specs.Faults.{fault_unless, suits_role, is_array_input, value_faults, may_have_indicator, indicator_type_faults, typed_faults, shape_faults, reference_faults, indicator_faults, host_faults}
use Rattle.ec_host_defs.specs.Leaves.{LeafData, ShapeData, one_element, elements, one_struct, many_structs, other_shape, shape_of_host, leaves_by, leaves_or_none, paired, hosted, own_leaf}
use Rattle.ec_host_defs.specs.Programs.{ProgramData, Denoted, reference_type, member_among, member_type}
use Rattle.ec_host_defs.specs.Uses.{RoleData, text_role, input_role, output_role, number_role, item_role}
use Rattle.ec_typing_defs.specs.Answers.{struct_order, renumbered, struct_data, structs_of, listed_members}
use Rattle.ec_typing_defs.specs.Expressions.{varchar_members}
use Rattle.ec_typing_defs.specs.Library.{points_to_text}
use Rattle.ec_typing_defs.specs.Types.{is_void}
use Rattle.ec_typing_defs.specs.Worlds.{listed, StructInfo, World}
use Rattle.ec_sim_statement_laws.specs.argument.Bound.{IsOne}
use Rattle.ec_sim_host_laws.specs.table.Tables.{IsVarchar, VarcharsAre}
use Rattle.ec_sim_host_laws.specs.fit.Fits.{is_value}
use Rattle.ec_sim_host_laws.proofs.pointer_lemmas.Basics.{false_not, cons_not, left_none, right_none, get_map}

unless_true : (b : Bool) (kind : FaultKind) → fault_unless b kind ≡ [] → b ≡ true
unless_true true kind e = refl
unless_true false kind e = cons_not e

module _ (structs : List StructData) where
  -- ---- values

  pub record ValueKnown (role : RoleData) (o : Option TyData) : Type 0 where
    pub type : TyData
    pub is : o ≡ Some type
    pub suits : suits_role structs role type ≡ true
    pub no_void : is_void type ≡ false

  suits_no_void : (role : RoleData) (t : TyData) → suits_role structs role t ≡ true → is_void t ≡ false
  suits_no_void text_role void e = false_not e
  suits_no_void input_role void e = false_not e
  suits_no_void output_role void e = false_not e
  suits_no_void number_role void e = false_not e
  suits_no_void item_role void e = false_not e
  suits_no_void role (arithmetic a) e = refl
  suits_no_void role (pointer t) e = refl
  suits_no_void role (array t n) e = refl
  suits_no_void role (structure k) e = refl

  value_known : (role : RoleData) (o : Option TyData) → value_faults structs role o ≡ [] → ValueKnown role o
  value_known role None e = cons_not e
  value_known role (Some t) e = record { type = t; is = refl; suits = suits; no_void = suits_no_void role t suits }
    where
      suits : suits_role structs role t ≡ true
      suits = unless_true (suits_role structs role t) F22
          (left_none (fault_unless (suits_role structs role t) F22) (fault_unless (not (is_array_input structs role t)) F24) e)

  -- ---- indicators

  pub record IndicatorKnown (o : Option TyData) : Type 0 where
    pub type : TyData
    pub is : o ≡ Some type
    pub no_void : is_void type ≡ false

  abbrev shape_by : TyData → Bool → Option ShapeData
  shape_by t b = elim b [ true ↦ Some one_element | false ↦ other_shape structs t ]

  element_shape : (t : TyData) → is_element structs t ≡ true → is_some (shape_of_host structs t) ≡ true
  element_shape t e = λ j. is_some (shape_by t (e j))

  leaves_shape : (t : TyData) (o : Option ShapeData) → is_some (option_and_then (leaves_by structs t) o) ≡ true → is_some o ≡ true
  leaves_shape t None e = e
  leaves_shape t (Some s) e = refl

  has_shape : (role : RoleData) (t : TyData) → is_value role ≡ true → suits_role structs role t ≡ true → is_some (shape_of_host structs t) ≡ true
  has_shape text_role t v e = false_not v
  has_shape input_role t v e = leaves_shape t (shape_of_host structs t) e
  has_shape output_role t v e = leaves_shape t (shape_of_host structs t) e
  has_shape number_role t v e = element_shape t e
  has_shape item_role t v e = element_shape t e

  abbrev void_faults : TyData → Option ShapeData → List FaultKind
  void_faults t o = elim o [ None ↦ [] | Some s ↦ shape_faults structs t void s None ]

  void_faulty : (t : TyData) (o : Option ShapeData) → is_some o ≡ true → void_faults t o ≡ [] → is_void void ≡ false
  void_faulty t None h e = false_not h
  void_faulty t (Some one_element) h e = cons_not e
  void_faulty t (Some (elements u n)) h e = cons_not e
  void_faulty t (Some (one_struct k)) h e = cons_not e
  void_faulty t (Some (many_structs k n)) h e = cons_not e

  indicator_no_void : (t i : TyData) → is_some (shape_of_host structs t) ≡ true → typed_faults structs t i ≡ [] → is_void i ≡ false
  indicator_no_void t void h e = void_faulty t (shape_of_host structs t) h e
  indicator_no_void t (arithmetic a) h e = refl
  indicator_no_void t (pointer u) h e = refl
  indicator_no_void t (array u n) h e = refl
  indicator_no_void t (structure k) h e = refl

  indicator_known : (role : RoleData) (t : TyData) (o : Option TyData) → is_value role ≡ true → suits_role structs role t ≡ true
      → indicator_type_faults structs (Some t) o ≡ [] → IndicatorKnown o
  indicator_known role t None v s e = cons_not e
  indicator_known role t (Some i) v s e = record { type = i; is = refl; no_void = indicator_no_void t i (has_shape role t v s) e }

  -- ---- hosts of one leaf

  pub element_is_one : (t : TyData) (i : Option TyData) → is_element structs t ≡ true → IsOne (hosted structs (Some t) i)
  element_is_one t i e = subst (λ b. IsOne (paired (found b) (leaves_or_none structs i))) (sym e) (one (leaves_or_none structs i))
    where
      found : Bool → List LeafData
      found b = elim (option_and_then (leaves_by structs t) (shape_by t b)) [ None ↦ [] | Some ls ↦ ls ]

      one : (is : List LeafData) → IsOne (paired (own_leaf t t 1 ∷ []) is)
      one [] = tt
      one (i ∷ is) = tt

-- ---- hosts

module _ (p : ProgramData) (role : RoleData) where
  module _ (h : HostData) (ds is : Denoted) (clean : host_faults p role h ds is ≡ []) where
    behind_reference : value_faults p.structs role (reference_type p h.value ds) ++ indicator_faults p role (reference_type p h.value ds) h.indicator is ≡ []
    behind_reference = right_none (reference_faults p ds)
        (value_faults p.structs role (reference_type p h.value ds) ++ indicator_faults p role (reference_type p h.value ds) h.indicator is) clean

    pub host_value_known : ValueKnown p.structs role (reference_type p h.value ds)
    host_value_known = value_known p.structs role (reference_type p h.value ds)
        (left_none (value_faults p.structs role (reference_type p h.value ds)) (indicator_faults p role (reference_type p h.value ds) h.indicator is) behind_reference)

    pub without_indicator_fault : indicator_faults p role (reference_type p h.value ds) h.indicator is ≡ []
    without_indicator_fault =
        right_none (value_faults p.structs role (reference_type p h.value ds)) (indicator_faults p role (reference_type p h.value ds) h.indicator is) behind_reference

  pub host_indicator_known : (e : ExprData) (o : Option TyData) (is : Denoted) → is_value role ≡ true → ValueKnown p.structs role o
      → indicator_faults p role o (Some e) is ≡ [] → IndicatorKnown p.structs (reference_type p e is)
  host_indicator_known e o is v k clean = indicator_known p.structs role k.type (reference_type p e is) v k.suits
      ((λ j. indicator_type_faults p.structs (sym k.is j) (reference_type p e is))
      ∙ right_none (fault_unless (may_have_indicator role) F23) (indicator_type_faults p.structs o (reference_type p e is))
      (right_none (reference_faults p is) (fault_unless (may_have_indicator role) F23 ++ indicator_type_faults p.structs o (reference_type p e is)) clean))

-- ---- texts

pub chars_are_text : (t : TyData) (n : ℕ) → is_some (char_symbol t n) ≡ true → points_to_text t ≡ true
chars_are_text void n e = false_not e
chars_are_text (arithmetic arith_of.Char) n e = refl
chars_are_text (arithmetic arith_of.UChar) n e = refl
chars_are_text (arithmetic arith_of.Bool) n e = false_not e
chars_are_text (arithmetic arith_of.Short) n e = false_not e
chars_are_text (arithmetic arith_of.UShort) n e = false_not e
chars_are_text (arithmetic arith_of.Int) n e = false_not e
chars_are_text (arithmetic arith_of.UInt) n e = false_not e
chars_are_text (arithmetic arith_of.Long) n e = false_not e
chars_are_text (arithmetic arith_of.ULong) n e = false_not e
chars_are_text (arithmetic arith_of.LLong) n e = false_not e
chars_are_text (arithmetic arith_of.ULLong) n e = false_not e
chars_are_text (pointer t) n e = false_not e
chars_are_text (array t m) n e = false_not e
chars_are_text (structure k) n e = false_not e

pub array_is_text : (t : TyData) (n : ℕ) → is_some (array_symbol t n) ≡ true → points_to_text t ≡ true
array_is_text t zero e = false_not e
array_is_text t (suc n) e = chars_are_text t (suc n) e

pub same_points : (order : List ℕ) (t : TyData) → points_to_text (renumbered order t) ≡ points_to_text t
same_points order void = refl
same_points order (arithmetic a) = refl
same_points order (pointer t) = refl
same_points order (array t n) = refl
same_points order (structure k) = refl

-- the characters of a VARCHAR, in the tables
pub record HasChars (o : Option TyData) : Type 0 where
  pub count : ℕ
  pub is : o ≡ Some (array (arithmetic arith_of.Char) count)

module _ (z : World) (varchars : VarcharsAre z) where
  abbrev arr_in : Option StructData → Option TyData
  arr_in o = option_and_then (λ d. member_among (codes "arr") d.members) o

  by_length : (n : Option ℕ) → is_some (varchar_symbol (capacity (listed_members (struct_order z) (listed (varchar_members n))))) ≡ true
      → HasChars (member_among (codes "arr") (listed_members (struct_order z) (listed (varchar_members n))))
  by_length None e = false_not e
  by_length (Some n) e = record { count = n; is = refl }

  by_varchar : (info : StructInfo) (k : ℕ) → slice_get z.structs k ≡ Some info → (b : Bool) → info.varchar ≡ b
      → is_some (elim b [ true ↦ varchar_symbol (capacity (listed_members (struct_order z) info.members)) | false ↦ None ]) ≡ true
      → HasChars (member_among (codes "arr") (listed_members (struct_order z) info.members))
  by_varchar info k is false v e = false_not e
  by_varchar info k is true v e = of_members (varchars k info is v)
    where
      of_members : IsVarchar info → HasChars (member_among (codes "arr") (listed_members (struct_order z) info.members))
      of_members m = subst (λ ms. HasChars (member_among (codes "arr") (listed_members (struct_order z) ms))) (sym m.is)
          (by_length m.length (sym (λ j. is_some (varchar_symbol (capacity (listed_members (struct_order z) (m.is j))))) ∙ e))

  by_info : (k : ℕ) (o : Option StructInfo) → slice_get z.structs k ≡ o → is_some (struct_symbol (struct_data (struct_order z) o)) ≡ true
      → HasChars (member_among (codes "arr") (struct_data (struct_order z) o).members)
  by_info k None is e = false_not e
  by_info k (Some info) is e = by_varchar info k is info.varchar refl e

  by_number : (o : Option ℕ) → is_some (option_and_then struct_symbol (option_map (λ k. struct_data (struct_order z) (slice_get z.structs k)) o)) ≡ true
      → HasChars (arr_in (option_map (λ k. struct_data (struct_order z) (slice_get z.structs k)) o))
  by_number None e = false_not e
  by_number (Some k) e = by_info k (slice_get z.structs k) refl e

  pub varchar_chars : (k : ℕ) → is_element (structs_of z) (structure k) ≡ true → HasChars (member_type (structs_of z) (codes "arr") (structure k))
  varchar_chars k e = subst (λ o. HasChars (arr_in o)) (sym there)
      (by_number (slice_get (struct_order z) k) (sym (λ j. is_some (option_and_then struct_symbol (there j))) ∙ e))
    where
      there : slice_get (structs_of z) k ≡ option_map (λ k. struct_data (struct_order z) (slice_get z.structs k)) (slice_get (struct_order z) k)
      there = get_map (λ k. struct_data (struct_order z) (slice_get z.structs k)) (struct_order z) k
