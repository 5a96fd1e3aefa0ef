-- The call that is written for a statement: its pointers are arguments, and it keeps the rules.
use Rattle.std.proofs.Common.{◌≡◌, ◌∙◌, ℕ, suc, Bool, true, false, List, [], ◌∷◌, ◌++◌, map, Option, Some, None, refl, sym, subst}
use Rattle.std.specs.Prelude.{◌&&◌, nat_eq, if◌then◌else◌, option_map}
use Rattle.ec_arguments.specs.Arguments as library
use Rattle.ec_arguments.specs.Arguments.{TextArg, absent, word, held, Member, host, constant, descriptor, ItemMember, Call}
use Rattle.ec_arguments.specs.Rules.{fits_element, element_size, fits_indicators, fits_place, is_single, is_value, is_target, are_hosts, are_targets, is_settable, are_settings, is_optional_text, is_given_text, are_inputs, are_outputs, is_statement, is_call}
use Rattle.ec_arguments.specs.Writing.{arguments}
use Rattle.ec_ctypes.specs.declared.checked.library.Sym.{Sym}
use Rattle.ec_ctypes.specs.declared.checked.library.Sym.TheVariants as symbol
use Rattle.ec_ctypes.specs.declared.embedded.emb.Item.{Item}
use Rattle.ec_ctypes.specs.trees.Checked.{IndicatorData, PlaceData}
use Rattle.ec_ctypes.specs.trees.Embedded.{HostData, TextArgData, word_arg, host_arg, host_with_indicator, InputData, host_input, const_input, InsData, listed_ins, area_ins, OutsData, no_outs, listed_outs, area_outs, PartData, bytes_part, host_part, EmbData, EmbKindData, connect, set_connection, disconnect, autocommit, trans, server_text, declare_cursor, open_cursor, execute_immediate, prepare, execute, deallocate, allocate_area, free_area, get_count, get_items, set_count, set_items, whenever, include_sqlca}
use Rattle.ec_ctypes.specs.trees.Exprs.{ExprData}
use Rattle.ec_expansion_defs.specs.Calls.{bytes_in, text_of, indicator_of, host_of, is_const, is_descriptor, member_of, member_at, items_from, kinds_of, opens, call_by}
use Rattle.ec_host_defs.specs.Bound as bound
use Rattle.ec_host_defs.specs.Bound.{cursor_parts, pairs_of, text_expr, text_option_expr, host_places, input_places, part_places, get_places, set_places, ins_places, outs_places, kind_bound, statement_bound}
use Rattle.ec_host_defs.specs.Faults.{cursor_part}
use Rattle.ec_host_defs.specs.Leaves.{Pair}
use Rattle.ec_host_defs.specs.Places.{constant_place, leaf_place}
use Rattle.ec_host_defs.specs.Programs.{ProgramData, Denoted}
use Rattle.ec_host_defs.specs.Uses.{RoleData, input_role, output_role, number_role, item_role, Uses, text_uses, text_option_uses, input_uses, part_uses, output_uses, get_uses, set_uses, each_uses, ins_uses, outs_uses, kind_uses}
use Rattle.ec_language.specs.Letters.{Text}
use Rattle.ec_typing_defs.specs.Worlds.{Place, World}
use Rattle.ec_resolving_defs.specs.Storage.{Storage, ReferenceForm}
use Rattle.ec_direct_defs.specs.Statements.{Around}
use Rattle.ec_sim_statement_laws.specs.argument.Bound.{cursor_of, IsOne}
use Rattle.ec_sim_world_laws.specs.call.Calls.{cut_of}
use Rattle.ec_sim_world_laws.specs.call.Pointers.{text_there}
use Rattle.ec_sim_world_laws.specs.place.References.{tables_of}
use Rattle.ec_sim_host_laws.specs.host.Hosts.{CursorStands, StatementStands}
use Rattle.ec_sim_host_laws.specs.fit.Fits as fits
use Rattle.ec_sim_host_laws.specs.pointer.Pointers.{AreSettable, ItemsAreSet, CallStands}
use Rattle.ec_sim_host_laws.proofs.pointer_lemmas.Basics.{none_not, some_is, false_not, left_true, both_true}
use Rattle.ec_sim_host_laws.proofs.pointer_lemmas.Pointed.{IndicatorPointed, PlaceStands, PlacesStand, HostStands, host_stands, TextPointed, text_stands}
use Rattle.ec_sim_host_laws.proofs.pointer_lemmas.Pointing.{TextHas, IndicatorHas, MemberHas, MembersHave, ItemsHave, StatementHas, CallHas, are_arguments, are_simple, call_has}
use Rattle.ec_sim_host_laws.proofs.pointer_lemmas.Taken.{Here}
use Rattle.ec_sim_host_laws.proofs.pointer_lemmas.UsesStand.{UseStands, UsesStand, statement_uses, parts_uses, text_first, option_first, input_first, part_first, parts_first, ins_first}

-- ---- a host is seen as one

no_constant : (s : Sym) (n size count step : ℕ) → fits_element (element_size s n) size count step ≡ true → is_const s ≡ false
no_constant symbol.Const n size count step e = false_not e
no_constant _ n size count step e = refl

no_descriptor : (s : Sym) (n size count step : ℕ) → fits_element (element_size s n) size count step ≡ true → is_descriptor s ≡ false
no_descriptor symbol.Descriptor n size count step e = false_not e
no_descriptor _ n size count step e = refl

seen_host : (q : PlaceData) → fits_place (fits.place_of q) ≡ true → member_of q ≡ host_of q
seen_host q e =
    (λ j. if no_constant q.sym q.size q.size q.count q.step element j then constant (bytes_in q.value) else (if is_descriptor q.sym then descriptor (text_of q.value) else host_of q))
    ∙ (λ j. if no_descriptor q.sym q.size q.size q.count q.step element j then descriptor (text_of q.value) else host_of q)
  where
    element : fits_element (element_size q.sym q.size) q.size q.count q.step ≡ true
    element = left_true (fits_element (element_size q.sym q.size) q.size q.count q.step) (fits_indicators (fits.place_of q).ind q.count) e

items_behind : (n : ℕ) (ks : List Item) (q : PlaceData) (ps : List PlaceData) → items_from (suc n) ks (q ∷ ps) ≡ items_from n ks ps
items_behind n [] q ps = refl
items_behind n (k ∷ ks) q ps = λ j. (k, member_at n ps) ∷ items_behind (suc n) ks q ps j

module _ (at : Place) (s : Storage) (w z : World) (hosts functions : List ℕ) (g : Here w z hosts functions) where
  abbrev p : ProgramData
  p = tables_of z hosts functions

  abbrev is_text : ExprData → Bool
  is_text = text_there at w

  abbrev Stand : Uses → Denoted → Type 0
  Stand us ds = UsesStand at w p us ds

  abbrev Has : Member ExprData → Type 0
  Has m = MemberHas at s w m

  abbrev Have : List (Member ExprData) → Type 0
  Have ms = MembersHave at s w ms

  -- ---- texts

  record GivenStands (a : TextArg ExprData) : Type 0 where
    has : TextHas at s w a
    rule : is_given_text is_text a ≡ true

  record OptionalStands (a : TextArg ExprData) : Type 0 where
    has : TextHas at s w a
    rule : is_optional_text is_text a ≡ true

  optional_of : (a : TextArg ExprData) → GivenStands a → OptionalStands a
  optional_of absent h = false_not h.rule
  optional_of (word bytes) h = record { has = tt; rule = refl }
  optional_of (held e) h = record { has = h.has; rule = h.rule }

  of_pointer : (e : ExprData) → TextPointed at s w z hosts functions g e → GivenStands (text_of e)
  of_pointer e h = subst GivenStands (sym h.is_held) (record { has = h.value; rule = h.leads })

  given_text : (a : TextArgData) (ds : Denoted) → Stand (text_uses a) ds → GivenStands (text_of (text_expr p a ds).made)
  given_text (word_arg bytes) ds h = record { has = tt; rule = refl }
  given_text (host_arg e) ds h = of_pointer (text_expr p (host_arg e) ds).made (text_stands at s w z hosts functions g (record { value = e; indicator = None }) ds h.0)
  given_text (host_with_indicator e i) ds h =
      of_pointer (text_expr p (host_with_indicator e i) ds).made (text_stands at s w z hosts functions g (record { value = e; indicator = Some i }) ds h.0)

  optional_text : (a : Option TextArgData) (ds : Denoted) → Stand (text_option_uses a) ds → OptionalStands (text_of (text_option_expr p a ds).made)
  optional_text None ds h = record { has = tt; rule = refl }
  optional_text (Some a) ds h = optional_of (text_of (text_expr p a ds).made) (given_text a ds h)

  -- ---- hosts

  abbrev stands : (role : RoleData) → fits.is_value role ≡ true → (h : HostData) (ds : Denoted) → UseStands at w p role h ds → HostStands at s w z hosts functions g role h ds
  stands role v h ds u = host_stands at s w z hosts functions g role v h ds u

  abbrev Placed : RoleData → PlaceData → Type 0
  Placed role q = PlaceStands at s w z hosts functions g role q

  abbrev AllPlaced : RoleData → List PlaceData → Type 0
  AllPlaced role qs = PlacesStand at s w z hosts functions g role qs

  indicator_has : (i : Option IndicatorData) → IndicatorPointed at s w z hosts functions g i → IndicatorHas at s w (option_map indicator_of i)
  indicator_has None h = tt
  indicator_has (Some i) h = h

  host_has : (role : RoleData) (q : PlaceData) → Placed role q → Has (host_of q)
  host_has role q h = (h.value, indicator_has q.ind h.indicator)

  single_of : (role : RoleData) → fits.is_one role ≡ true → (q : PlaceData) → Placed role q → is_single (fits.place_of q) ≡ true
  single_of role one q h = both_true (nat_eq q.count 1) (fits_place (fits.place_of q)) (λ j. nat_eq (h.single one j) 1) h.fits

  -- a value that is read once
  record ValueStands (m : Member ExprData) : Type 0 where
    has : Has m
    rule : is_value m ≡ true

  -- a place that is stored into once
  record TargetStands (m : Member ExprData) : Type 0 where
    has : Has m
    rule : is_target m ≡ true

  value_of : (role : RoleData) → fits.is_one role ≡ true → (q : PlaceData) → Placed role q → ValueStands (member_of q)
  value_of role one q h = subst ValueStands (sym (seen_host q h.fits)) (record { has = host_has role q h; rule = single_of role one q h })

  target_of : (role : RoleData) → fits.is_one role ≡ true → (q : PlaceData) → Placed role q → TargetStands (member_of q)
  target_of role one q h = subst TargetStands (sym (seen_host q h.fits)) (record { has = host_has role q h; rule = single_of role one q h })

  abbrev ValuesStand : List PlaceData → Type 0
  ValuesStand [] = Unit {0}
  ValuesStand (q ∷ qs) = ValueStands (member_of q) × ValuesStand qs

  values_of : (role : RoleData) → fits.is_one role ≡ true → (qs : List PlaceData) → AllPlaced role qs → ValuesStand qs
  values_of role one [] h = tt
  values_of role one (q ∷ qs) h = (value_of role one q h.0, values_of role one qs h.1)

  values_front : (qs rs : List PlaceData) → ValuesStand qs → ValuesStand rs → ValuesStand (qs ++ rs)
  values_front [] rs h k = k
  values_front (q ∷ qs) rs h k = (h.0, values_front qs rs h.1 k)

  -- ---- lists of inputs

  record InputsStand (ms : List (Member ExprData)) : Type 0 where
    have : Have ms
    rule : are_inputs is_text ms ≡ true

  input_front : (m : Member ExprData) (ms : List (Member ExprData)) → ValueStands m → InputsStand ms → InputsStand (m ∷ ms)
  input_front (host q) ms h k = record { have = (h.has, k.have); rule = both_true (is_single q) (are_inputs is_text ms) h.rule k.rule }
  input_front (constant bytes) ms h k = record { have = (tt, k.have); rule = k.rule }
  input_front (descriptor name) ms h k = false_not h.rule

  inputs_front : (qs rs : List PlaceData) → ValuesStand qs → InputsStand (map member_of rs) → InputsStand (map member_of (qs ++ rs))
  inputs_front [] rs h k = k
  inputs_front (q ∷ qs) rs h k = input_front (member_of q) (map member_of (qs ++ rs)) h.0 (inputs_front qs rs h.1 k)

  inputs_of : (qs : List PlaceData) → ValuesStand qs → InputsStand (map member_of qs)
  inputs_of [] h = record { have = tt; rule = refl }
  inputs_of (q ∷ qs) h = input_front (member_of q) (map member_of qs) h.0 (inputs_of qs h.1)

  one_input : (role : RoleData) → fits.is_value role ≡ true → fits.is_one role ≡ true → (i : InputData) (ds : Denoted) → Stand (input_uses role i) ds
      → ValuesStand (input_places p i ds).made
  one_input role v one (host_input h) ds k = values_of role one (host_places p h ds).made (stands role v h ds k.0).places
  one_input role v one (const_input bytes) ds k = (record { has = tt; rule = refl }, tt)

  each_input : (is : List InputData) (ds : Denoted) → Stand (each_uses (input_uses input_role) is) ds → ValuesStand (bound.each_of (input_places p) is ds).made
  each_input [] ds h = tt
  each_input (i ∷ is) ds h =
      let both = input_first at w p input_role i (each_uses (input_uses input_role) is) ds h in
      values_front (input_places p i ds).made (bound.each_of (input_places p) is (input_places p i ds).left).made
      (one_input input_role refl refl i ds both.0) (each_input is (input_places p i ds).left both.1)

  one_part : (a : PartData) (ds : Denoted) → Stand (part_uses a) ds → ValuesStand (part_places p a ds).made
  one_part (bytes_part bytes) ds h = tt
  one_part (host_part h) ds k = values_of input_role refl (host_places p h ds).made (stands input_role refl h ds k.0).places

  each_part : (parts : List PartData) (ds : Denoted) → Stand (each_uses part_uses parts) ds → ValuesStand (bound.each_of (part_places p) parts ds).made
  each_part [] ds h = tt
  each_part (a ∷ parts) ds h =
      let both = part_first at w p a (each_uses part_uses parts) ds h in
      values_front (part_places p a ds).made (bound.each_of (part_places p) parts (part_places p a ds).left).made
      (one_part a ds both.0) (each_part parts (part_places p a ds).left both.1)

  ins_stand : (is : InsData) (ds : Denoted) → Stand (ins_uses is) ds → InputsStand (map member_of (ins_places p is ds).made)
  ins_stand (listed_ins is) ds h = inputs_of (bound.each_of (input_places p) is ds).made (each_input is ds h)
  ins_stand (area_ins a) ds h = of_name (given_text a ds h)
    where
      of_name : GivenStands (text_of (text_expr p a ds).made) → InputsStand (descriptor (text_of (text_expr p a ds).made) ∷ [])
      of_name n = record { have = (n.has, tt); rule = n.rule }

  -- ---- lists of outputs

  record HostsStand (ms : List (Member ExprData)) : Type 0 where
    have : Have ms
    rule : are_hosts ms ≡ true

  record OutputsStand (ms : List (Member ExprData)) : Type 0 where
    have : Have ms
    rule : are_outputs is_text ms ≡ true

  host_front : (role : RoleData) (q : PlaceData) (ms : List (Member ExprData)) → Placed role q → HostsStand ms → HostsStand (member_of q ∷ ms)
  host_front role q ms h k = subst (λ m. HostsStand (m ∷ ms)) (sym (seen_host q h.fits))
      (record { have = (host_has role q h, k.have); rule = both_true (fits_place (fits.place_of q)) (are_hosts ms) h.fits k.rule })

  hosts_front : (role : RoleData) (qs rs : List PlaceData) → AllPlaced role qs → HostsStand (map member_of rs) → HostsStand (map member_of (qs ++ rs))
  hosts_front role [] rs h k = k
  hosts_front role (q ∷ qs) rs h k = host_front role q (map member_of (qs ++ rs)) h.0 (hosts_front role qs rs h.1 k)

  each_output : (hs : List HostData) (ds : Denoted) → Stand (each_uses output_uses hs) ds → HostsStand (map member_of (bound.each_of (host_places p) hs ds).made)
  each_output [] ds h = record { have = tt; rule = refl }
  each_output (a ∷ hs) ds h = hosts_front output_role (host_places p a ds).made (bound.each_of (host_places p) hs (host_places p a ds).left).made
      (stands output_role refl a ds h.0).places (each_output hs (host_places p a ds).left h.1)

  as_outputs : (ms : List (Member ExprData)) → HostsStand ms → OutputsStand ms
  as_outputs [] h = record { have = tt; rule = refl }
  as_outputs (host q ∷ ms) h = record { have = h.have; rule = h.rule }
  as_outputs (constant bytes ∷ ms) h = false_not h.rule
  as_outputs (descriptor name ∷ ms) h = false_not h.rule

  outs_stand : (os : OutsData) (ds : Denoted) → Stand (outs_uses os) ds → OutputsStand (map member_of (outs_places p os ds).made)
  outs_stand no_outs ds h = record { have = tt; rule = refl }
  outs_stand (listed_outs hs) ds h = as_outputs (map member_of (bound.each_of (host_places p) hs ds).made) (each_output hs ds h)
  outs_stand (area_outs a) ds h = of_name (given_text a ds h)
    where
      of_name : GivenStands (text_of (text_expr p a ds).made) → OutputsStand (descriptor (text_of (text_expr p a ds).made) ∷ [])
      of_name n = record { have = (n.has, tt); rule = n.rule }

  -- ---- one place

  record OneOf (qs : List PlaceData) : Type 0 where
    one : PlaceData
    are : qs ≡ one ∷ []
    value : ValueStands (member_of one)

  record OneTarget (qs : List PlaceData) : Type 0 where
    one : PlaceData
    are : qs ≡ one ∷ []
    target : TargetStands (member_of one)

  one_value : (role : RoleData) → fits.is_one role ≡ true → (h : HostData) (qs : List Pair) → IsOne qs → AllPlaced role (map (leaf_place p.structs h.value h.indicator) qs)
      → OneOf (map (leaf_place p.structs h.value h.indicator) qs)
  one_value role one h [] is k = absurd is
  one_value role one h (q ∷ []) is k = record {
    one = leaf_place p.structs h.value h.indicator q;
    are = refl;
    value = value_of role one (leaf_place p.structs h.value h.indicator q) k.0;
  }
  one_value role one h (q ∷ r ∷ qs) is k = absurd is

  one_target : (role : RoleData) → fits.is_one role ≡ true → (h : HostData) (qs : List Pair) → IsOne qs → AllPlaced role (map (leaf_place p.structs h.value h.indicator) qs)
      → OneTarget (map (leaf_place p.structs h.value h.indicator) qs)
  one_target role one h [] is k = absurd is
  one_target role one h (q ∷ []) is k = record {
    one = leaf_place p.structs h.value h.indicator q;
    are = refl;
    target = target_of role one (leaf_place p.structs h.value h.indicator q) k.0;
  }
  one_target role one h (q ∷ r ∷ qs) is k = absurd is

  number_target : (h : HostData) (ds : Denoted) → UseStands at w p number_role h ds → OneTarget (host_places p h ds).made
  number_target h ds u = of_host (stands number_role refl h ds u)
    where
      of_host : HostStands at s w z hosts functions g number_role h ds → OneTarget (host_places p h ds).made
      of_host k = one_target number_role refl h (pairs_of p h ds) k.one k.places

  item_target : (h : HostData) (ds : Denoted) → UseStands at w p item_role h ds → OneTarget (host_places p h ds).made
  item_target h ds u = of_host (stands item_role refl h ds u)
    where
      of_host : HostStands at s w z hosts functions g item_role h ds → OneTarget (host_places p h ds).made
      of_host k = one_target item_role refl h (pairs_of p h ds) k.one k.places

  constant_value : (bytes : Text) → OneOf (constant_place bytes ∷ [])
  constant_value bytes = record { one = constant_place bytes; are = refl; value = record { has = tt; rule = refl } }

  number_value : (i : InputData) (ds : Denoted) → Stand (input_uses number_role i) ds → OneOf (input_places p i ds).made
  number_value (host_input h) ds u = of_host (stands number_role refl h ds u.0)
    where
      of_host : HostStands at s w z hosts functions g number_role h ds → OneOf (host_places p h ds).made
      of_host k = one_value number_role refl h (pairs_of p h ds) k.one k.places
  number_value (const_input bytes) ds u = constant_value bytes

  item_value : (i : InputData) (ds : Denoted) → Stand (input_uses item_role i) ds → OneOf (input_places p i ds).made
  item_value (host_input h) ds u = of_host (stands item_role refl h ds u.0)
    where
      of_host : HostStands at s w z hosts functions g item_role h ds → OneOf (host_places p h ds).made
      of_host k = one_value item_role refl h (pairs_of p h ds) k.one k.places
  item_value (const_input bytes) ds u = constant_value bytes

  value_first : (qs : List PlaceData) → OneOf qs → ValueStands (member_at 0 qs)
  value_first qs o = subst (λ qs. ValueStands (member_at 0 qs)) (sym o.are) o.value

  target_first : (qs : List PlaceData) → OneTarget qs → TargetStands (member_at 0 qs)
  target_first qs o = subst (λ qs. TargetStands (member_at 0 qs)) (sym o.are) o.target

  -- ---- items

  record GetsStand (is : List (ItemMember ExprData)) : Type 0 where
    have : ItemsHave at s w is
    rule : are_targets is ≡ true

  record SetsStand (is : List (ItemMember ExprData)) : Type 0 where
    have : ItemsHave at s w is
    rule : are_settings is ≡ true

  gets_front : (k : Item) (ks : List Item) (qs rest : List PlaceData) → OneTarget qs → GetsStand (items_from 0 ks rest) → GetsStand (items_from 0 (k ∷ ks) (qs ++ rest))
  gets_front k ks qs rest o more = subst (λ qs. GetsStand (items_from 0 (k ∷ ks) (qs ++ rest))) (sym o.are)
      (subst (λ is. GetsStand ((k, member_of o.one) ∷ is)) (sym (items_behind 0 ks o.one rest))
      (record { have = (o.target.has, more.have); rule = both_true (is_target (member_of o.one)) (are_targets (items_from 0 ks rest)) o.target.rule more.rule }))

  each_get : (is : List (Item × HostData)) (ds : Denoted) → Stand (each_uses get_uses is) ds → GetsStand (items_from 0 (kinds_of is) (bound.each_of (get_places p) is ds).made)
  each_get [] ds h = record { have = tt; rule = refl }
  each_get (i ∷ is) ds h = gets_front i.0 (kinds_of is) (host_places p i.1 ds).made (bound.each_of (get_places p) is (host_places p i.1 ds).left).made
      (item_target i.1 ds h.0) (each_get is (host_places p i.1 ds).left h.1)

  sets_front : (k : Item) (ks : List Item) (qs rest : List PlaceData) → is_settable k ≡ true → OneOf qs → SetsStand (items_from 0 ks rest)
      → SetsStand (items_from 0 (k ∷ ks) (qs ++ rest))
  sets_front k ks qs rest settable o more = subst (λ qs. SetsStand (items_from 0 (k ∷ ks) (qs ++ rest))) (sym o.are)
      (subst (λ is. SetsStand ((k, member_of o.one) ∷ is)) (sym (items_behind 0 ks o.one rest))
      (record {
        have = (o.value.has, more.have);
        rule = both_true (is_settable k && is_value (member_of o.one)) (are_settings (items_from 0 ks rest))
            (both_true (is_settable k) (is_value (member_of o.one)) settable o.value.rule) more.rule;
      }))

  each_set : (is : List (Item × InputData)) (ds : Denoted) → AreSettable is → Stand (each_uses set_uses is) ds
      → SetsStand (items_from 0 (kinds_of is) (bound.each_of (set_places p) is ds).made)
  each_set [] ds a h = record { have = tt; rule = refl }
  each_set (i ∷ is) ds a h =
      let both = input_first at w p item_role i.1 (each_uses set_uses is) ds h in
      sets_front i.0 (kinds_of is) (input_places p i.1 ds).made (bound.each_of (set_places p) is (input_places p i.1 ds).left).made a.0
      (item_value i.1 ds both.0) (each_set is (input_places p i.1 ds).left a.1 both.1)

  -- ---- calls

  record Stands (c : Call ExprData) : Type 0 where
    has : CallHas at s w c
    rules : is_call is_text c ≡ true

  by_call : {a b : Call ExprData} → Some a ≡ Some b → Stands a → Stands b
  by_call e h = subst Stands (some_is e) h

  record AskedStands (x : library.Statement ExprData) : Type 0 where
    has : StatementHas at s w x
    rule : is_statement is_text x ≡ true

  asked_opens : (name : Option Text) (text : Text) → AskedStands (opens name text)
  asked_opens None text = record { has = tt; rule = refl }
  asked_opens (Some name) text = record { has = tt; rule = refl }

  running : (a : TextArg ExprData) (x : library.Statement ExprData) (ins outs : List (Member ExprData)) → OptionalStands a → AskedStands x → InputsStand ins → OutputsStand outs
      → Stands (library.run a x ins outs)
  running a x ins outs h k i o = record {
    has = (h.has, k.has, i.have, o.have);
    rules = both_true (is_optional_text is_text a && is_statement is_text x && are_inputs is_text ins) (are_outputs is_text outs)
        (both_true (is_optional_text is_text a && is_statement is_text x) (are_inputs is_text ins)
        (both_true (is_optional_text is_text a) (is_statement is_text x) h.rule k.rule) i.rule) o.rule;
  }

  connecting : (target user password name : TextArg ExprData) → GivenStands target → OptionalStands user → OptionalStands password → OptionalStands name
      → Stands (library.connect target user password name)
  connecting target user password name t u v n = record {
    has = (t.has, u.has, v.has, n.has);
    rules = both_true (is_given_text is_text target && is_optional_text is_text user && is_optional_text is_text password) (is_optional_text is_text name)
        (both_true (is_given_text is_text target && is_optional_text is_text user) (is_optional_text is_text password)
        (both_true (is_given_text is_text target) (is_optional_text is_text user) t.rule u.rule) v.rule) n.rule;
  }

  setting_connection : (a : TextArg ExprData) → GivenStands a → Stands (library.set_connection a)
  setting_connection a h = record { has = h.has; rules = h.rule }

  disconnecting : (a : TextArg ExprData) → GivenStands a → Stands (library.disconnect a)
  disconnecting a h = record { has = h.has; rules = h.rule }

  setting_autocommit : (on : Bool) (a : TextArg ExprData) → OptionalStands a → Stands (library.set_autocommit on a)
  setting_autocommit on a h = record { has = h.has; rules = h.rule }

  controlling : (a : TextArg ExprData) (text : Text) → OptionalStands a → Stands (library.control a text)
  controlling a text h = record { has = h.has; rules = h.rule }

  preparing : (a : TextArg ExprData) (name : Text) (b : TextArg ExprData) → OptionalStands a → GivenStands b → Stands (library.prepare a name b)
  preparing a name b h k = record { has = (h.has, k.has); rules = both_true (is_optional_text is_text a) (is_given_text is_text b) h.rule k.rule }

  deallocating : (a : TextArg ExprData) (name : Text) → OptionalStands a → Stands (library.deallocate a name)
  deallocating a name h = record { has = h.has; rules = h.rule }

  allocating : (a : TextArg ExprData) → GivenStands a → Stands (library.allocate_descriptor a)
  allocating a h = record { has = h.has; rules = h.rule }

  freeing : (a : TextArg ExprData) → GivenStands a → Stands (library.deallocate_descriptor a)
  freeing a h = record { has = h.has; rules = h.rule }

  getting_count : (a : TextArg ExprData) (m : Member ExprData) → GivenStands a → TargetStands m → Stands (library.get_count a m)
  getting_count a m h k = record { has = (h.has, k.has); rules = both_true (is_given_text is_text a) (is_target m) h.rule k.rule }

  setting_count : (a : TextArg ExprData) (m : Member ExprData) → GivenStands a → ValueStands m → Stands (library.set_count a m)
  setting_count a m h k = record { has = (h.has, k.has); rules = both_true (is_given_text is_text a) (is_value m) h.rule k.rule }

  getting_items : (a : TextArg ExprData) (m : Member ExprData) (is : List (ItemMember ExprData)) → GivenStands a → ValueStands m → GetsStand is → Stands (library.get_items a m is)
  getting_items a m is h k i = record {
    has = (h.has, k.has, i.have);
    rules = both_true (is_given_text is_text a && is_value m) (are_targets is) (both_true (is_given_text is_text a) (is_value m) h.rule k.rule) i.rule;
  }

  setting_items : (a : TextArg ExprData) (m : Member ExprData) (is : List (ItemMember ExprData)) → GivenStands a → ValueStands m → SetsStand is → Stands (library.set_items a m is)
  setting_items a m is h k i = record {
    has = (h.has, k.has, i.have);
    rules = both_true (is_given_text is_text a && is_value m) (are_settings is) (both_true (is_given_text is_text a) (is_value m) h.rule k.rule) i.rule;
  }

  -- the index first, and behind it what the items are set from
  setting_behind : (a : TextArg ExprData) (ks : List Item) (qs rest : List PlaceData) → GivenStands a → OneOf qs → SetsStand (items_from 0 ks rest)
      → Stands (library.set_items a (member_at 0 (qs ++ rest)) (items_from 1 ks (qs ++ rest)))
  setting_behind a ks qs rest h o i = subst (λ qs. Stands (library.set_items a (member_at 0 (qs ++ rest)) (items_from 1 ks (qs ++ rest)))) (sym o.are)
      (subst (λ is. Stands (library.set_items a (member_of o.one) is)) (sym (items_behind 0 ks o.one rest))
      (setting_items a (member_of o.one) (items_from 0 ks rest) h o.value i))

  no_outputs : OutputsStand []
  no_outputs = record { have = tt; rule = refl }

  no_inputs : InputsStand []
  no_inputs = record { have = tt; rule = refl }

  plain : (x : library.Statement ExprData) → StatementHas at s w x → is_statement is_text x ≡ true → AskedStands x
  plain x h r = record { has = h; rule = r }

  asked_text : (a : TextArg ExprData) → GivenStands a → AskedStands (library.immediate a)
  asked_text a h = record { has = h.has; rule = h.rule }

  module _ (prepared : Option Text) (d : Option EmbData) (rs : List ReferenceForm) where
    abbrev CursorUses : EmbKindData → Denoted → Type 0
    CursorUses k cursors = elim k [ open_cursor name ins ↦ UsesStand at w p (each_uses part_uses (cursor_parts d)) cursors | _ ↦ Unit {0} ]

    kind_stands : (k : EmbKindData) (e : EmbData) (own : ExprData) (ds cursors : Denoted) → OptionalStands (text_of own) → ItemsAreSet (record e { kind = k })
        → Stand (kind_uses (record e { kind = k })) ds → CursorUses k cursors → (c : Call ExprData)
        → call_by prepared k (kind_bound p (record e { kind = k }) d own ds cursors) ≡ Some c → Stands c
    kind_stands (connect target name user password) e own ds cursors a i h k c eq =
        let t = text_first at w p target (text_option_uses name ++ (text_option_uses user ++ text_option_uses password)) ds h in
        let n = option_first at w p name (text_option_uses user ++ text_option_uses password) (text_expr p target ds).left t.1 in
        let u = option_first at w p user (text_option_uses password) (text_option_expr p name (text_expr p target ds).left).left n.1 in
        by_call eq (connecting (text_of (text_expr p target ds).made)
        (text_of (text_option_expr p user (text_option_expr p name (text_expr p target ds).left).left).made)
        (text_of (text_option_expr p password (text_option_expr p user (text_option_expr p name (text_expr p target ds).left).left).left).made)
        (text_of (text_option_expr p name (text_expr p target ds).left).made)
        (given_text target ds t.0)
        (optional_text user (text_option_expr p name (text_expr p target ds).left).left u.0)
        (optional_text password (text_option_expr p user (text_option_expr p name (text_expr p target ds).left).left).left u.1)
        (optional_text name (text_expr p target ds).left n.0))
    kind_stands (set_connection name) e own ds cursors a i h k c eq = by_call eq (setting_connection (text_of (text_expr p name ds).made) (given_text name ds h))
    kind_stands (disconnect name) e own ds cursors a i h k c eq = by_call eq (disconnecting (text_of (text_expr p name ds).made) (given_text name ds h))
    kind_stands (autocommit on) e own ds cursors a i h k c eq = by_call eq (setting_autocommit on (text_of own) a)
    kind_stands (trans text) e own ds cursors a i h k c eq = by_call eq (controlling (text_of own) text a)
    kind_stands (server_text parts os) e own ds cursors a i h k c eq =
        let b = parts_first at w p parts (outs_uses os) ds h in
        let left = (bound.each_of (part_places p) parts ds).left in
        by_call eq (running (text_of own) (library.normal (bound.sent_from p 1 parts ds)) (map member_of (bound.each_of (part_places p) parts ds).made) (map member_of (outs_places p os left).made)
        a (plain (library.normal (bound.sent_from p 1 parts ds)) tt refl) (inputs_of (bound.each_of (part_places p) parts ds).made (each_part parts ds b.0)) (outs_stand os left b.1))
    kind_stands (declare_cursor cursor parts name) e own ds cursors a i h k c eq = none_not eq
    kind_stands (open_cursor cursor is) e own ds cursors a i h k c eq =
        let text = bound.sent_from p 1 (cursor_parts d) cursors in
        let first = (bound.each_of (part_places p) (cursor_parts d) cursors).made in
        by_call eq (running (text_of own) (opens prepared text) (map member_of (first ++ (ins_places p is ds).made)) []
        a (asked_opens prepared text) (inputs_front first (ins_places p is ds).made (each_part (cursor_parts d) cursors k) (ins_stand is ds h)) no_outputs)
    kind_stands (execute_immediate text) e own ds cursors a i h k c eq =
        by_call eq (running (text_of own) (library.immediate (text_of (text_expr p text ds).made)) [] [] a (asked_text (text_of (text_expr p text ds).made) (given_text text ds h)) no_inputs no_outputs)
    kind_stands (prepare name text) e own ds cursors a i h k c eq =
        by_call eq (preparing (text_of own) name (text_of (text_expr p text ds).made) a (given_text text ds h))
    kind_stands (execute name is os) e own ds cursors a i h k c eq =
        let b = ins_first at w p is (outs_uses os) ds h in
        let left = (ins_places p is ds).left in
        by_call eq (running (text_of own) (library.prepared name) (map member_of (ins_places p is ds).made) (map member_of (outs_places p os left).made)
        a (plain (library.prepared name) tt refl) (ins_stand is ds b.0) (outs_stand os left b.1))
    kind_stands (deallocate name) e own ds cursors a i h k c eq = by_call eq (deallocating (text_of own) name a)
    kind_stands (allocate_area area) e own ds cursors a i h k c eq = by_call eq (allocating (text_of (text_expr p area ds).made) (given_text area ds h))
    kind_stands (free_area area) e own ds cursors a i h k c eq = by_call eq (freeing (text_of (text_expr p area ds).made) (given_text area ds h))
    kind_stands (get_count area h) e own ds cursors a i u k c eq =
        let b = text_first at w p area ((number_role, h) ∷ []) ds u in
        let left = (text_expr p area ds).left in
        by_call eq (getting_count (text_of (text_expr p area ds).made) (member_at 0 (host_places p h left).made) (given_text area ds b.0)
        (target_first (host_places p h left).made (number_target h left b.1.0)))
    kind_stands (get_items area index items) e own ds cursors a i u k c eq =
        let b = text_first at w p area (input_uses number_role index ++ each_uses get_uses items) ds u in
        let left = (text_expr p area ds).left in
        let n = input_first at w p number_role index (each_uses get_uses items) left b.1 in
        let more = (input_places p index left).left in
        by_call eq (getting_items (text_of (text_expr p area ds).made) (member_at 0 (input_places p index left).made) (items_from 0 (kinds_of items) (bound.each_of (get_places p) items more).made)
        (given_text area ds b.0) (value_first (input_places p index left).made (number_value index left n.0)) (each_get items more n.1))
    kind_stands (set_count area value) e own ds cursors a i u k c eq =
        let b = text_first at w p area (input_uses number_role value) ds u in
        let left = (text_expr p area ds).left in
        by_call eq (setting_count (text_of (text_expr p area ds).made) (member_at 0 (input_places p value left).made) (given_text area ds b.0)
        (value_first (input_places p value left).made (number_value value left b.1)))
    kind_stands (set_items area index items) e own ds cursors a i u k c eq =
        let b = text_first at w p area (input_uses number_role index ++ each_uses set_uses items) ds u in
        let left = (text_expr p area ds).left in
        let n = input_first at w p number_role index (each_uses set_uses items) left b.1 in
        let more = (input_places p index left).left in
        by_call eq (setting_behind (text_of (text_expr p area ds).made) (kinds_of items) (input_places p index left).made (bound.each_of (set_places p) items more).made
        (given_text area ds b.0) (number_value index left n.0) (each_set items more i n.1))
    kind_stands (whenever condition action) e own ds cursors a i h k c eq = none_not eq
    kind_stands include_sqlca e own ds cursors a i h k c eq = none_not eq

    cursor_uses : (k : EmbKindData) (e : EmbData) (x : Around) → CursorStands at s w p (record e { kind = k }) (cursor_of prepared d (record e { kind = k }) x.denoted rs)
        → CursorUses k (cursor_part (record e { kind = k }) x.denoted)
    cursor_uses (open_cursor name ins) e x h =
        parts_uses at w p s (cursor_parts d) (record { denoted = cursor_part (record e { kind = open_cursor name ins }) x.denoted; references = rs }) h.references h.without_fault
    cursor_uses _ e x h = tt

    call_stands : (e : EmbData) (x : Around) → ItemsAreSet e → StatementStands at s w p e (cursor_of prepared d e x.denoted rs) x → (c : Call ExprData)
        → call_by prepared e.kind (statement_bound p e d x.denoted) ≡ Some c → Stands c
    call_stands e x i h c eq =
        let b = option_first at w p e.at (kind_uses e) x.denoted (statement_uses at w p s e.kind e x h.references h.without_fault) in
        kind_stands e.kind e (text_option_expr p e.at x.denoted).made (text_option_expr p e.at x.denoted).left (cursor_part e x.denoted)
        (optional_text e.at x.denoted b.0) i b.1 (cursor_uses e.kind e x h.cursor) c eq

    pub written_stands : (e : EmbData) (x : Around) → ItemsAreSet e → StatementStands at s w p e (cursor_of prepared d e x.denoted rs) x → (line : ℕ) (c : Call ExprData)
        → call_by prepared e.kind (statement_bound p e d x.denoted) ≡ Some c → CallStands at s w line c
    written_stands e x i h line c eq = of_call (call_stands e x i h c eq)
      where
        of_call : Stands c → CallStands at s w line c
        of_call k = record {
          pointers = are_arguments at s w (arguments (cut_of line c)) (call_has at s w c k.has);
          simple = are_simple at s w (arguments (cut_of line c)) (call_has at s w c k.has);
          rules = k.rules;
        }
