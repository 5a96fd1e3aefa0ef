-- The pointers that are written for hosts and texts are arguments, and their numbers fit.
use Rattle.std.proofs.Common.{◌≡◌, ◌∙◌, ℕ, Bool, true, false, List, [], ◌∷◌, map, take, drop, Option, Some, None, refl, sym, subst, codes}
use Rattle.std.specs.Prelude.{option_and_then}
use Rattle.ec_arguments.specs.Arguments.{held}
use Rattle.ec_arguments.specs.Rules.{fits_place}
use Rattle.ec_ctypes.specs.declared.types.arith.Arith.TheVariants.{Char}
use Rattle.ec_ctypes.specs.trees.Checked.{IndicatorData, PlaceData}
use Rattle.ec_ctypes.specs.trees.Embedded.{HostData}
use Rattle.ec_ctypes.specs.trees.Exprs.{ExprData, member as member_expr}
use Rattle.ec_ctypes.specs.trees.Types.{TyData, void, arithmetic, pointer, array, structure}
use Rattle.ec_expansion_defs.specs.Calls.{text_of}
use Rattle.ec_host_defs.specs.Bound.{pairs_of, host_places}
use Rattle.ec_host_defs.specs.Elements.{is_text}
use Rattle.ec_host_defs.specs.Faults.{value_part, indicator_part}
use Rattle.ec_host_defs.specs.Leaves.{LeafData, Pair, leaves, leaves_or_none, paired, hosted}
use Rattle.ec_host_defs.specs.Places.{indicator_place, leaf_place, leaf_pointer, text_pointer}
use Rattle.ec_host_defs.specs.Programs.{ProgramData, Denoted, variable_type, type_along, reference_type, names_count, member_type}
use Rattle.ec_host_defs.specs.Uses.{RoleData, text_role, input_role, output_role, number_role, item_role}
use Rattle.ec_language.specs.Letters.{Text}
use Rattle.ec_typing_defs.specs.Answers.{struct_order, place_of as place_in, renumbered, structs_of}
use Rattle.ec_typing_defs.specs.Embedded.{denoted_by}
use Rattle.ec_typing_defs.specs.Known.{is_reserved}
use Rattle.ec_typing_defs.specs.Library.{points_to_text}
use Rattle.ec_typing_defs.specs.Types.{is_void}
use Rattle.ec_typing_defs.specs.Worlds.{Place, ScopeData, World, or_else, look_up, look_up_in}
use Rattle.ec_meaning_defs.specs.resolved.Resolved.{Exp, member}
use Rattle.ec_resolving_defs.specs.Storage.{Storage}
use Rattle.ec_sim_statement_laws.specs.argument.Bound.{IsOne}
use Rattle.ec_sim_statement_laws.specs.argument.Pointers.{IsPlace, IsPointer}
use Rattle.ec_sim_statement_laws.proofs.argument_lemmas.Pointers.{leaf_pointed, member_of_place}
use Rattle.ec_sim_world_laws.specs.call.Pointers.{text_there}
use Rattle.ec_sim_statement_laws.specs.expression.Worlds.{AllKeepReserved}
use Rattle.ec_sim_world_laws.specs.place.Places.{IsMember, AllLie}
use Rattle.ec_sim_world_laws.specs.place.References.{IsReference, variable_in, tables_of, IsPlaceOf}
use Rattle.ec_sim_world_laws.specs.place.Structs.{IsListed, EachStruct, AreListed, Stays}
use Rattle.ec_sim_host_laws.specs.fit.Fits.{place_of, is_value, is_one, AllFit, AreSome, HasType, HostFits}
use Rattle.ec_sim_host_laws.proofs.pointer_lemmas.Basics.{none_not, false_not}
use Rattle.ec_sim_host_laws.proofs.pointer_lemmas.Clean.{ValueKnown, IndicatorKnown, element_is_one, host_value_known, without_indicator_fault, host_indicator_known, chars_are_text, array_is_text, same_points, HasChars, varchar_chars}
use Rattle.ec_sim_host_laws.proofs.pointer_lemmas.Forms.{Form, reference_form, reference_held, leaf_form}
use Rattle.ec_sim_host_laws.proofs.pointer_lemmas.Pointing.{IsPointed}
use Rattle.ec_sim_host_laws.proofs.pointer_lemmas.Taken.{Here}
use Rattle.ec_sim_host_laws.proofs.pointer_lemmas.UsesStand.{RefStands, UseStands}
use Rattle.ec_sim_host_laws.proofs.pointer_lemmas.Values.{pointer_value, array_value, leads_by_type, pointed}

each_struct : {P Q : ℕ → Type 0} → ((k : ℕ) → P k → Q k) → (t : TyData) → EachStruct P t → EachStruct Q t
each_struct f void h = h
each_struct f (arithmetic a) h = h
each_struct f (pointer t) h = h
each_struct f (array t n) h = each_struct f t h
each_struct f (structure k) h = f k h

none_outside : (ss : List ScopeData) (x : Text) → is_reserved x ≡ true → AllKeepReserved ss → look_up_in ss x ≡ None
none_outside [] x r h = refl
none_outside (s ∷ ss) x r h = (λ i. or_else (h.0 x r i) (look_up_in ss x)) ∙ none_outside ss x r h.1

-- an array in the tables is one here, of elements that are text where those are
record IsArray (order : List ℕ) (u t : TyData) : Type 0 where
  element : TyData
  count : ℕ
  is : t ≡ array element count
  same : u ≡ renumbered order element

abbrev element_or : TyData → TyData → TyData
element_or u (array t n) = t
element_or u _ = u

abbrev IsAnArray : TyData → Type 0
IsAnArray (array t n) = Unit {0}
IsAnArray _ = ⊥

array_by : (order : List ℕ) (u : TyData) (n : ℕ) (t : TyData) → array u n ≡ renumbered order t → IsArray order u t
array_by order u n void e = absurd (subst IsAnArray e tt)
array_by order u n (arithmetic a) e = absurd (subst IsAnArray e tt)
array_by order u n (pointer t) e = absurd (subst IsAnArray e tt)
array_by order u n (array t m) e = record { element = t; count = m; is = refl; same = λ j. element_or u (e j) }
array_by order u n (structure k) e = absurd (subst IsAnArray e tt)

module _ (at : Place) (s : Storage) (w z : World) (hosts functions : List ℕ) (g : Here w z hosts functions) where
  abbrev p : ProgramData
  p = tables_of z hosts functions

  -- ---- one reference

  unknown : (x : Text) → is_reserved x ≡ true → look_up x w ≡ None
  unknown x r = (λ i. or_else (g.reserved_here x r i) (look_up_in w.outer x)) ∙ none_outside w.outer x r g.reserved_outer

  abbrev typed_by : ExprData → Option ℕ → Option TyData
  typed_by e v = option_and_then (λ t. type_along p.structs t e) (variable_type p v)

  -- its name is not reserved, since it stands for something
  name_free : (e : ExprData) (ds : Denoted) → RefStands at w p e ds → (there : TyData) → reference_type p e (take (names_count e) ds) ≡ Some there
      → is_reserved (variable_in e) ≡ false
  name_free e ds h there is = by_test (is_reserved (variable_in e)) refl
    where
      by_test : (b : Bool) → is_reserved (variable_in e) ≡ b → b ≡ false
      by_test true r = none_not (sym (λ j. typed_by e ((h.variable ∙ (λ i. denoted_by (unknown (variable_in e) r i))) j)) ∙ is)
      by_test false r = refl

  -- what is known of a reference that has a type
  record RefKnown (e : ExprData) (there : TyData) : Type 0 where
    form : IsReference e
    free : is_reserved (variable_in e) ≡ false
    place : IsPlaceOf at s w z e there

  ref_known : (e : ExprData) (ds : Denoted) → RefStands at w p e ds → (there : TyData) → reference_type p e (take (names_count e) ds) ≡ Some there
      → is_void there ≡ false → RefKnown e there
  ref_known e ds h there is v = record {
    form = h.form;
    free = name_free e ds h there is;
    place = g.laws.references at s w z hosts functions g.within g.names e h.form h.indexes h.clean (take (names_count e) ds) h.variable there is v;
  }

  stay_listed : (k : ℕ) → IsListed w k → IsListed z k
  stay_listed k h = there (g.within.stay k h)
    where
      there : Stays z k h.info → IsListed z k
      there s = record { info = s.there; is = s.is; members = h.members; are = s.members ∙ h.are }

  has_type : (e : ExprData) (ds : Denoted) (there : TyData) → reference_type p e ds ≡ Some there → RefKnown e there → HasType z p e ds
  has_type e ds there is k = record {
    form = k.form;
    type = k.place.type;
    is = is ∙ (λ j. Some (k.place.same j));
    are_listed = each_struct stay_listed k.place.type k.place.are_listed;
  }

  -- ---- leaves

  abbrev LeavesPointed : ExprData → List LeafData → Type 0
  LeavesPointed e [] = Unit {0}
  LeavesPointed e (l ∷ ls) = IsPointed at s w (leaf_pointer e l) × LeavesPointed e ls

  lying_pointed : (e : ExprData) (there : TyData) (k : RefKnown e there) (ls : List LeafData) → AllLie w z k.place.type ls → LeavesPointed e ls
  lying_pointed e there k [] a = tt
  lying_pointed e there k (l ∷ ls) a =
      (pointed at s w (leaf_form l e k.form k.free) (leaf_pointed at s w (struct_order z) (structs_of z) a.0.is k.place.is), lying_pointed e there k ls a.1)

  abbrev or_none : Option (List LeafData) → List LeafData
  or_none o = elim o [ None ↦ [] | Some ls ↦ ls ]

  known_pointed : (e : ExprData) (there : TyData) (k : RefKnown e there) → LeavesPointed e (leaves_or_none p.structs (Some there))
  known_pointed e there k = by_leaves (leaves p.structs there) refl
    where
      by_leaves : (o : Option (List LeafData)) → leaves p.structs there ≡ o → LeavesPointed e (or_none o)
      by_leaves None are = tt
      by_leaves (Some ls) are = lying_pointed e there k ls
          (g.laws.lie w z g.within k.place.type k.place.are_listed ls (sym (λ j. leaves p.structs (k.place.same j)) ∙ are))

  -- ---- places

  abbrev pub IndicatorPointed : Option IndicatorData → Type 0
  IndicatorPointed None = Unit {0}
  IndicatorPointed (Some i) = IsPointed at s w i.1

  pub record PlaceStands (role : RoleData) (q : PlaceData) : Type 0 where
    pub value : IsPointed at s w q.value
    pub indicator : IndicatorPointed q.ind
    pub fits : fits_place (place_of q) ≡ true
    pub single : is_one role ≡ true → q.count ≡ 1

  abbrev pub PlacesStand : RoleData → List PlaceData → Type 0
  PlacesStand role [] = Unit {0}
  PlacesStand role (q ∷ qs) = PlaceStands role q × PlacesStand role qs

  abbrev IndicatorsPointed : Option ExprData → List LeafData → Type 0
  IndicatorsPointed None is = Unit {0}
  IndicatorsPointed (Some e) is = LeavesPointed e is

  no_indicator : (i : Option ExprData) → IndicatorPointed (indicator_place p.structs i None)
  no_indicator None = tt
  no_indicator (Some e) = tt

  one_indicator : (i : Option ExprData) (l : LeafData) (ls : List LeafData) → IndicatorsPointed i (l ∷ ls) → IndicatorPointed (indicator_place p.structs i (Some l))
  one_indicator None l ls a = tt
  one_indicator (Some e) l ls a = a.0

  more_indicators : (i : Option ExprData) (l : LeafData) (ls : List LeafData) → IndicatorsPointed i (l ∷ ls) → IndicatorsPointed i ls
  more_indicators None l ls a = tt
  more_indicators (Some e) l ls a = a.1

  module _ (role : RoleData) (h : HostData) where
    pairs_stand : (ls is : List LeafData) → LeavesPointed h.value ls → IndicatorsPointed h.indicator is → AllFit p.structs role h (paired ls is)
        → PlacesStand role (map (leaf_place p.structs h.value h.indicator) (paired ls is))
    pairs_stand [] is a b f = tt
    pairs_stand (l ∷ ls) [] a b f =
        (record { value = a.0; indicator = no_indicator h.indicator; fits = f.0.fits; single = f.0.single }, pairs_stand ls [] a.1 b f.1)
    pairs_stand (l ∷ ls) (i ∷ is) a b f = (
      record { value = a.0; indicator = one_indicator h.indicator i is b; fits = f.0.fits; single = f.0.single },
      pairs_stand ls is a.1 (more_indicators h.indicator i is b) f.1,
    )

  abbrev pub OneFor : RoleData → List Pair → Type 0
  OneFor number_role qs = IsOne qs
  OneFor item_role qs = IsOne qs
  OneFor _ qs = Unit {0}

  -- a host that comes next
  pub record HostStands (role : RoleData) (h : HostData) (ds : Denoted) : Type 0 where
    pub places : PlacesStand role (host_places p h ds).made
    pub are_some : AreSome (pairs_of p h ds)
    pub one : OneFor role (pairs_of p h ds)

  one_for : (role : RoleData) (o i : Option TyData) → ValueKnown p.structs role o → OneFor role (hosted p.structs o i)
  one_for text_role o i k = tt
  one_for input_role o i k = tt
  one_for output_role o i k = tt
  one_for number_role o i k = subst (λ t. IsOne (hosted p.structs t i)) (sym k.is) (element_is_one p.structs k.type i k.suits)
  one_for item_role o i k = subst (λ t. IsOne (hosted p.structs t i)) (sym k.is) (element_is_one p.structs k.type i k.suits)

  module _ (role : RoleData) (is_a_value : is_value role ≡ true) (v : ExprData) (ds : Denoted) where
    leaves_by : (e : ExprData) (o : Option TyData) (there : TyData) → o ≡ Some there → RefKnown e there → LeavesPointed e (leaves_or_none p.structs o)
    leaves_by e o there is k = subst (λ o. LeavesPointed e (leaves_or_none p.structs o)) (sym is) (known_pointed e there k)

    host_alone : UseStands at w p role (record { value = v; indicator = None }) ds → HostStands role (record { value = v; indicator = None }) ds
    host_alone u = of_known (host_value_known p role h (value_part h ds) (indicator_part h ds) u.without_fault)
      where
        h : HostData
        h = record { value = v; indicator = None }

        of_known : ValueKnown p.structs role (reference_type p v (take (names_count v) ds)) → HostStands role (record { value = v; indicator = None }) ds
        of_known k = of_reference (ref_known v ds u.value k.type k.is k.no_void)
          where
            of_reference : RefKnown v k.type → HostStands role (record { value = v; indicator = None }) ds
            of_reference r = of_fit (g.fit role h (value_part h ds) (indicator_part h ds) is_a_value (has_type v (take (names_count v) ds) k.type k.is r) tt u.without_fault)
              where
                of_fit : HostFits p.structs role h (hosted p.structs (reference_type p v (take (names_count v) ds)) None) → HostStands role (record { value = v; indicator = None }) ds
                of_fit f = record {
                  places = pairs_stand role h (leaves_or_none p.structs (reference_type p v (take (names_count v) ds))) []
                      (leaves_by v (reference_type p v (take (names_count v) ds)) k.type k.is r) tt f.all;
                  are_some = f.are_some;
                  one = one_for role (reference_type p v (take (names_count v) ds)) None k;
                }

    host_indicated : (i : ExprData) → UseStands at w p role (record { value = v; indicator = Some i }) ds → HostStands role (record { value = v; indicator = Some i }) ds
    host_indicated i u = of_known (host_value_known p role h (value_part h ds) (indicator_part h ds) u.without_fault)
      where
        h : HostData
        h = record { value = v; indicator = Some i }

        es : Denoted
        es = drop (names_count v) ds

        of_known : ValueKnown p.structs role (reference_type p v (take (names_count v) ds)) → HostStands role (record { value = v; indicator = Some i }) ds
        of_known k = of_both (host_indicator_known p role i (reference_type p v (take (names_count v) ds)) (take (names_count i) es) is_a_value k
            (without_indicator_fault p role h (value_part h ds) (indicator_part h ds) u.without_fault))
          where
            of_both : IndicatorKnown p.structs (reference_type p i (take (names_count i) es)) → HostStands role (record { value = v; indicator = Some i }) ds
            of_both n = of_references (ref_known v ds u.value k.type k.is k.no_void) (ref_known i es u.indicator n.type n.is n.no_void)
              where
                of_references : RefKnown v k.type → RefKnown i n.type → HostStands role (record { value = v; indicator = Some i }) ds
                of_references r q = of_fit (g.fit role h (value_part h ds) (indicator_part h ds) is_a_value (has_type v (take (names_count v) ds) k.type k.is r)
                    (has_type i (take (names_count i) es) n.type n.is q) u.without_fault)
                  where
                    of_fit : HostFits p.structs role h (hosted p.structs (reference_type p v (take (names_count v) ds)) (reference_type p i (take (names_count i) es)))
                        → HostStands role (record { value = v; indicator = Some i }) ds
                    of_fit f = record {
                      places = pairs_stand role h (leaves_or_none p.structs (reference_type p v (take (names_count v) ds)))
                          (leaves_or_none p.structs (reference_type p i (take (names_count i) es)))
                          (leaves_by v (reference_type p v (take (names_count v) ds)) k.type k.is r)
                          (leaves_by i (reference_type p i (take (names_count i) es)) n.type n.is q) f.all;
                      are_some = f.are_some;
                      one = one_for role (reference_type p v (take (names_count v) ds)) (reference_type p i (take (names_count i) es)) k;
                    }

    host_by : (i : Option ExprData) → UseStands at w p role (record { value = v; indicator = i }) ds → HostStands role (record { value = v; indicator = i }) ds
    host_by None u = host_alone u
    host_by (Some i) u = host_indicated i u

  pub host_stands : (role : RoleData) → is_value role ≡ true → (h : HostData) (ds : Denoted) → UseStands at w p role h ds → HostStands role h ds
  host_stands role v h ds u = host_by role v h.value ds h.indicator u

  -- ---- texts

  pub record TextPointed (e : ExprData) : Type 0 where
    pub value : IsPointed at s w e
    pub leads : text_there at w e ≡ true
    pub is_held : text_of e ≡ held e

  text_pointed : {e : ExprData} {t : TyData} {x : Exp} → Form e → IsPointer at s w e t x → points_to_text t ≡ true → text_of e ≡ held e → TextPointed e
  text_pointed f i leads is_held = record { value = pointed at s w f i; leads = leads_by_type at s w i ∙ leads; is_held = is_held }

  module _ (e : ExprData) (form : IsReference e) (free : is_reserved (variable_in e) ≡ false) where
    text_by : (t : TyData) (y : Exp) → IsPlace at s w e t y → AreListed w t → is_text p.structs (renumbered (struct_order z) t) ≡ true
        → TextPointed (text_pointer (Some (renumbered (struct_order z) t)) e)
    text_by void y q l i = false_not i
    text_by (arithmetic a) y q l i = false_not i
    text_by (pointer u) y q l i = text_pointed (reference_form e form free) (pointer_value at s w q)
        (sym (same_points (struct_order z) u) ∙ chars_are_text (renumbered (struct_order z) u) 0 i) (reference_held e form free)
    text_by (array u n) y q l i = text_pointed (reference_form e form free) (array_value at s w q)
        (sym (same_points (struct_order z) u) ∙ array_is_text (renumbered (struct_order z) u) n i) (reference_held e form free)
    text_by (structure k) y q l i = of_chars (varchar_chars z g.sound.varchars (place_in k (struct_order z)) i)
      where
        of_chars : HasChars (member_type (structs_of z) (codes "arr") (structure (place_in k (struct_order z)))) → TextPointed (member_expr e (codes "arr"))
        of_chars c = of_member (g.laws.members w z g.within k l (codes "arr") (array (arithmetic Char) c.count) c.is)
          where
            of_member : IsMember w z k (codes "arr") (array (arithmetic Char) c.count) → TextPointed (member_expr e (codes "arr"))
            of_member m = of_array (array_by (struct_order z) (arithmetic Char) c.count m.type m.same)
              where
                of_array : IsArray (struct_order z) (arithmetic Char) m.type → TextPointed (member_expr e (codes "arr"))
                of_array a = text_pointed (reference_form (member_expr e (codes "arr")) form free)
                    (array_value at s w (subst (λ t. IsPlace at s w (member_expr e (codes "arr")) t (member m.offset y)) a.is (member_of_place at s w q m.is.type m.is.place)))
                    (sym (same_points (struct_order z) a.element) ∙ sym (λ j. points_to_text (a.same j))) refl

  pub text_stands : (h : HostData) (ds : Denoted) → UseStands at w p text_role h ds → TextPointed (text_pointer (reference_type p h.value (take (names_count h.value) ds)) h.value)
  text_stands h ds u = of_known (host_value_known p text_role h (value_part h ds) (indicator_part h ds) u.without_fault)
    where
      of_known : ValueKnown p.structs text_role (reference_type p h.value (take (names_count h.value) ds))
          → TextPointed (text_pointer (reference_type p h.value (take (names_count h.value) ds)) h.value)
      of_known k = of_reference (ref_known h.value ds u.value k.type k.is k.no_void)
        where
          of_reference : RefKnown h.value k.type → TextPointed (text_pointer (reference_type p h.value (take (names_count h.value) ds)) h.value)
          of_reference r = subst (λ t. TextPointed (text_pointer t h.value)) (sym (k.is ∙ (λ j. Some (r.place.same j))))
              (text_by h.value r.form r.free r.place.type r.place.address r.place.is r.place.are_listed (subst (λ t. is_text p.structs t ≡ true) r.place.same k.suits))
