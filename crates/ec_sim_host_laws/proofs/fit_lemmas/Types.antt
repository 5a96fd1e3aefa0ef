-- The types of references: each array in them has a number, and is within the limit.
use Rattle.std.proofs.Common.{◌≡◌, ◌∙◌, ℕ, zero, suc, ◌+◌, Bool, true, false, List, [], ◌∷◌, ◌++◌, Option, Some, None, refl, sym, subst, eqb-true, ◌==◌, slice_get, option_map, if◌then◌else◌}
use Rattle.std.specs.Prelude.{option_and_then}
use Rattle.ec_ctypes.specs.declared.types.sizes.Shape.{Shape}
use Rattle.ec_ctypes.specs.trees.Types.{TyData, void, arithmetic, pointer, array, structure, StructData}
use Rattle.ec_ctypes.specs.trees.Exprs.{ExprData, identifier, index, member, arrow}
use Rattle.ec_ctypes.specs.Layout.{shape_of, struct_shape}
use Rattle.ec_language.specs.Letters.{Text, same_text}
use Rattle.ec_host_defs.specs.Programs.{Denoted, element_of, member_among, member_type, type_along, is_among, declared_type, variable_type, variable_of, reference_type}
use Rattle.ec_typing_defs.specs.Statements.{type_or_void}
use Rattle.ec_typing_defs.specs.Worlds.{MembersData, unlisted, begun, listed, StructInfo, World, shapes_in, shape_in, is_within}
use Rattle.ec_typing_defs.specs.Expressions.{Members, typed_members}
use Rattle.ec_typing_defs.specs.Answers.{unclosed, struct_order, place_of, renumbered, struct_members, listed_members, struct_data, structs_of, numbered_from}
use Rattle.ec_sim_world_laws.specs.place.References.{tables_of}
use Rattle.ec_sim_world_laws.specs.place.Structs.{IsListed, AreListed, IsAmong, EachMember, IsClosed, AreClosed, IsWithin}
use Rattle.ec_sim_world_laws.proofs.closing_lemmas.Lists.{none_not, false_not, some_is, get_map, get_front, among_by, each_behind, each_among}
use Rattle.ec_sim_world_laws.proofs.closing_lemmas.Orders.{each_member}
use Rattle.ec_sim_host_laws.specs.table.Tables.{is_fitting, IsFittingIn, AreFitting, AreSound}
use Rattle.ec_sim_host_laws.proofs.fit_lemmas.Options.{Follows, follows, second_true}

-- the shapes of listed types are those of the tables
abbrev pub ShapesAreSame : World → Type 0
ShapesAreSame z = (t : TyData) → AreListed z t → shape_of (structs_of z) (renumbered (struct_order z) t) ≡ shape_in z t

-- what is known is known there
pub all_within : (z : World) → AreSound z → IsWithin z z
all_within z s = record {
  types = λ k t e. e;
  stay = λ k h. record { there = h.info; is = h.is; members = refl; shape = refl };
  here = s.closed;
  there = s.closed;
}

-- ---- forms of types

abbrev pub element_or : TyData → TyData → TyData
element_or d (array t n) = t
element_or d _ = d

abbrev pub count_or : ℕ → TyData → ℕ
count_or d (array t n) = n
count_or d _ = d

abbrev pub number_or : ℕ → TyData → ℕ
number_or d (structure k) = k
number_or d _ = d

abbrev pub IsArray : TyData → Type 0
IsArray (array t n) = Unit {0}
IsArray _ = ⊥

abbrev pub IsStructure : TyData → Type 0
IsStructure (structure k) = Unit {0}
IsStructure _ = ⊥

-- ---- the places of structs

abbrev place_by : (b : Bool) (k : ℕ) (xs : List ℕ) → ℕ
place_by b k xs = if b then 0 else suc (place_of k xs)

placed : (xs ys : List ℕ) (k : ℕ) → IsAmong xs k → slice_get xs (place_of k (xs ++ ys)) ≡ Some k
placed [] ys k e = false_not e
placed (x ∷ xs) ys k e = by_test (x == k) refl e (λ e. placed xs ys k e)
  where
    by_test : (b : Bool) → (x == k) ≡ b → among_by b k xs ≡ true → (IsAmong xs k → slice_get xs (place_of k (xs ++ ys)) ≡ Some k)
        → slice_get (x ∷ xs) (place_by b k (xs ++ ys)) ≡ Some k
    by_test true same e more = λ j. Some (eqb-true x k same j)
    by_test false other e more = more e

at_place : (xs : List ℕ) (k : ℕ) {j : ℕ} → slice_get xs (place_of k xs) ≡ Some j → j ≡ k
at_place [] k e = none_not e
at_place (x ∷ xs) k {j} e = by_test (x == k) refl e (λ e. at_place xs k e)
  where
    by_test : (b : Bool) → (x == k) ≡ b → slice_get (x ∷ xs) (place_by b k xs) ≡ Some j → (slice_get xs (place_of k xs) ≡ Some j → j ≡ k) → j ≡ k
    by_test true same e more = sym (some_is e) ∙ eqb-true x k same
    by_test false other e more = more e

-- ---- types of the world

-- a type in the tables, as it is known
pub record Known (z : World) (t : TyData) : Type 0 where
  pub type : TyData
  pub is : t ≡ renumbered (struct_order z) type
  pub fitting : is_fitting z type ≡ true

-- one whose structs are listed
pub record Good (z : World) (t : TyData) : Type 0 where
  pub type : TyData
  pub is : t ≡ renumbered (struct_order z) type
  pub fitting : is_fitting z type ≡ true
  pub are_listed : AreListed z type

-- a struct that is listed, with its shape
pub record Here (z : World) (k : ℕ) : Type 0 where
  pub info : StructInfo
  pub is : slice_get z.structs k ≡ Some info
  pub members : Members
  pub are : info.members ≡ listed members
  pub inside : EachMember (IsListed z) members
  pub shape : Shape
  pub has_shape : info.shape ≡ Some shape
  pub is_shape : option_and_then (struct_shape (shapes_in z)) (typed_members members) ≡ Some shape

module _ (z : World) (s : AreSound z) where
  abbrev order : List ℕ
  order = struct_order z

  abbrev structs : List StructData
  structs = structs_of z

  -- ---- structs

  in_order : (k : ℕ) → IsAmong z.closed k → slice_get order (place_of k order) ≡ Some k
  in_order k e = get_front z.closed (unclosed z.closed 0 z.structs) (place_of k order) (placed z.closed (unclosed z.closed 0 z.structs) k e)

  pub in_table : (k : ℕ) → IsAmong z.closed k → slice_get structs (place_of k order) ≡ Some (struct_data order (slice_get z.structs k))
  in_table k e =
      get_map (λ k. struct_data order (slice_get z.structs k)) order (place_of k order)
      ∙ (λ j. option_map (λ k. struct_data order (slice_get z.structs k)) (in_order k e j))

  here_of : (before : List ℕ) → ((j : ℕ) → IsAmong before j → IsListed z j) → (k : ℕ) → IsClosed z before k → Here z k
  here_of before are k h = record {
    info = h.info;
    is = h.is;
    members = h.members;
    are = h.are;
    inside = each_member (IsAmong before) (IsListed z) are h.members h.inside;
    shape = h.shape;
    has_shape = h.has_shape;
    is_shape = h.is_shape;
  }

  all_here : (before ks : List ℕ) → ((j : ℕ) → IsAmong before j → IsListed z j) → AreClosed z before ks → (j : ℕ) → IsAmong ks j → Here z j
  all_here before [] are h j e = false_not e
  all_here before (k ∷ ks) are h j e =
      each_among (Here z) k ks (here_of before are k h.0)
      (all_here (before ++ k ∷ []) ks (each_behind (IsListed z) before k are (listed_of h.0)) h.1) j e
    where
      listed_of : IsClosed z before k → IsListed z k
      listed_of c = record { info = c.info; is = c.is; members = c.members; are = c.are }

  pub here : (k : ℕ) → IsListed z k → Here z k
  here k l = all_here [] z.closed (λ j e. false_not e) s.closed.closed k (s.closed.listed k l)

  -- ---- types that are listed

  same_struct : (j k : ℕ) → place_of j order ≡ place_of k order → IsListed z k → IsListed z j
  same_struct j k e l =
      subst (IsListed z) (at_place order j ((λ i. slice_get order (e i)) ∙ in_order k (s.closed.listed k l))) l

  listed_alike : (u t : TyData) → renumbered order u ≡ renumbered order t → AreListed z t → AreListed z u
  listed_alike void t e l = tt
  listed_alike (arithmetic a) t e l = tt
  listed_alike (pointer u) t e l = tt
  listed_alike (array u n) void e l = absurd (subst IsArray e tt)
  listed_alike (array u n) (arithmetic a) e l = absurd (subst IsArray e tt)
  listed_alike (array u n) (pointer t) e l = absurd (subst IsArray e tt)
  listed_alike (array u n) (array t m) e l = listed_alike u t (λ i. element_or void (e i)) l
  listed_alike (array u n) (structure k) e l = absurd (subst IsArray e tt)
  listed_alike (structure j) void e l = absurd (subst IsStructure e tt)
  listed_alike (structure j) (arithmetic a) e l = absurd (subst IsStructure e tt)
  listed_alike (structure j) (pointer t) e l = absurd (subst IsStructure e tt)
  listed_alike (structure j) (array t m) e l = absurd (subst IsStructure e tt)
  listed_alike (structure j) (structure k) e l = same_struct j k (λ i. number_or 0 (e i)) l

  pub good : {there : TyData} → Known z there → (t : TyData) → there ≡ renumbered order t → AreListed z t → Good z there
  good k t e l = record { type = k.type; is = k.is; fitting = k.fitting; are_listed = listed_alike k.type t (sym k.is ∙ e) l }

  -- ---- variables

  known : (t : TyData) → is_fitting z t ≡ true → Known z (renumbered order t)
  known t f = record { type = t; is = refl; fitting = f }

  numbered_known : (n : ℕ) (ts : List TyData) (k : ℕ) {there : TyData} → ((i : ℕ) (t : TyData) → slice_get ts i ≡ Some t → is_fitting z t ≡ true)
      → option_map (λ m. m.1) (slice_get (numbered_from n order ts) k) ≡ Some there → Known z there
  numbered_known n [] k f e = none_not e
  numbered_known n (t ∷ ts) zero f e = subst (Known z) (some_is e) (known t (f 0 t refl))
  numbered_known n (t ∷ ts) (suc k) f e = numbered_known (n + 1) ts k (λ i t e. f (suc i) t e) e

  -- ---- suffixes

  element_known : {whole there : TyData} → Known z whole → element_of whole ≡ Some there → Known z there
  element_known {whole} {there} k e = go k.type k.fitting (sym (λ i. element_of (k.is i)) ∙ e)
    where
      go : (t : TyData) → is_fitting z t ≡ true → element_of (renumbered order t) ≡ Some there → Known z there
      go void f e = none_not e
      go (arithmetic a) f e = none_not e
      go (pointer t) f e = subst (Known z) (some_is e) (known t f)
      go (array t zero) f e = false_not f
      go (array t (suc n)) f e = subst (Known z) (some_is e) (known t (second_true (is_within (shape_in z (array t (suc n)))) (is_fitting z t) f))
      go (structure k) f e = none_not e

  void_or_known : (t : Option TyData) → IsFittingIn z t → Known z (renumbered order (type_or_void t))
  void_or_known None f = known void refl
  void_or_known (Some t) f = known t f

  among_known : (name : Text) (ms : Members) {there : TyData} → AreFitting z ms → member_among name (struct_members order ms) ≡ Some there → Known z there
  among_known name [] f e = none_not e
  among_known name (m ∷ ms) {there} f e = by_name (same_text name m.0) e (λ e. among_known name ms f.1 e)
    where
      by_name : (b : Bool) → elim b [ true ↦ Some (renumbered order (type_or_void m.1)) | false ↦ member_among name (struct_members order ms) ] ≡ Some there
          → (member_among name (struct_members order ms) ≡ Some there → Known z there) → Known z there
      by_name true e more = subst (Known z) (some_is e) (void_or_known m.1 f.0)
      by_name false e more = more e

  struct_known : (name : Text) (k : ℕ) {there : TyData} → member_among name (struct_data order (slice_get z.structs k)).members ≡ Some there → Known z there
  struct_known name k {there} e = by_info (slice_get z.structs k) refl e
    where
      by_members : (info : StructInfo) → slice_get z.structs k ≡ Some info → (ms : MembersData) → info.members ≡ ms
          → member_among name (listed_members order ms) ≡ Some there → Known z there
      by_members info is unlisted are e = none_not e
      by_members info is begun are e = none_not e
      by_members info is (listed ms) are e =
          among_known name ms (s.fit.members k ms ((λ i. option_map (λ s. s.members) (is i)) ∙ (λ i. Some (are i)))) e

      by_info : (o : Option StructInfo) → slice_get z.structs k ≡ o → member_among name (struct_data order o).members ≡ Some there → Known z there
      by_info None is e = none_not e
      by_info (Some info) is e = by_members info is info.members refl e

  member_known : (name : Text) (whole : TyData) {there : TyData} → member_type structs name whole ≡ Some there → Known z there
  member_known name void e = none_not e
  member_known name (arithmetic a) e = none_not e
  member_known name (pointer t) e = none_not e
  member_known name (array t n) e = none_not e
  member_known name (structure j) {there} e =
      by_number (slice_get order j)
      (sym (λ i. option_and_then (λ d. member_among name d.members) (get_map (λ k. struct_data order (slice_get z.structs k)) order j i)) ∙ e)
    where
      by_number : (o : Option ℕ) → option_and_then (λ d. member_among name d.members) (option_map (λ k. struct_data order (slice_get z.structs k)) o) ≡ Some there
          → Known z there
      by_number None e = none_not e
      by_number (Some k) e = struct_known name k e

  along_known : (t : TyData) → Known z t → (e : ExprData) {there : TyData} → type_along structs t e ≡ Some there → Known z there
  along_known t k (identifier x) is = subst (Known z) (some_is is) k
  along_known t k (index a b) {there} is = at_element (follows element_of (type_along structs t a) is) (λ whole is. along_known t k a is)
    where
      at_element : Follows element_of (type_along structs t a) there → ((whole : TyData) → type_along structs t a ≡ Some whole → Known z whole) → Known z there
      at_element f more = element_known (more f.value f.is) f.then'
  along_known t k (member a m) {there} is = at_member (follows (member_type structs m) (type_along structs t a) is)
    where
      at_member : Follows (member_type structs m) (type_along structs t a) there → Known z there
      at_member f = member_known m f.value f.then'
  along_known t k (arrow a m) {there} is = at_member (follows (λ s. option_and_then (member_type structs m) (element_of s)) (type_along structs t a) is)
    where
      behind : (whole : TyData) → Follows (member_type structs m) (element_of whole) there → Known z there
      behind whole f = member_known m f.value f.then'

      at_member : Follows (λ s. option_and_then (member_type structs m) (element_of s)) (type_along structs t a) there → Known z there
      at_member f = behind f.value (follows (member_type structs m) (element_of f.value) f.then')
  along_known t k _ is = none_not is

  -- ---- references

  module _ (hosts functions : List ℕ) where
    variable_known : (d : Option ℕ) {there : TyData} → variable_type (tables_of z hosts functions) d ≡ Some there → Known z there
    variable_known None e = none_not e
    variable_known (Some k) {there} e = by_function (is_among k functions) e
      where
        by_function : (b : Bool) → elim b [ true ↦ None | false ↦ declared_type (tables_of z hosts functions) k ] ≡ Some there → Known z there
        by_function true e = none_not e
        by_function false e = numbered_known 0 z.types k s.fit.types e

    pub reference_known : (e : ExprData) (ds : Denoted) {there : TyData} → reference_type (tables_of z hosts functions) e ds ≡ Some there → Known z there
    reference_known e ds {there} is =
        with_variable (follows (λ t. type_along structs t e) (variable_type (tables_of z hosts functions) (variable_of ds)) is)
      where
        with_variable : Follows (λ t. type_along structs t e) (variable_type (tables_of z hosts functions) (variable_of ds)) there → Known z there
        with_variable f = along_known f.value (variable_known (variable_of ds) f.is) e f.then'
