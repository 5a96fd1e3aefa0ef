-- What is bound for the hosts of a statement, where it stands, has numbers of type long.
use Rattle.std.proofs.Common.{◌≡◌, ◌∙◌, ℕ, true, false, List, [], ◌∷◌, ◌++◌, map, take, drop, Option, Some, None, refl}
use Rattle.ec_written_laws.specs.bound.Counts.{has_long_counts, have_long_counts, is_counted}
use Rattle.ec_ctypes.specs.declared.embedded.emb.Item.{Item}
use Rattle.ec_ctypes.specs.trees.Checked.{PlaceData}
use Rattle.ec_ctypes.specs.trees.Embedded.{HostData, InputData, host_input, const_input, InsData, listed_ins, area_ins, OutsData, no_outs, listed_outs, area_outs, PartData, bytes_part, host_part, EmbData, EmbKindData, server_text, open_cursor, execute, get_count, get_items, set_count, set_items}
use Rattle.ec_ctypes.specs.trees.Exprs.{ExprData}
use Rattle.ec_ctypes.specs.trees.Types.{TyData, void, arithmetic, pointer, array, structure}
use Rattle.ec_language.specs.Letters.{Text}
use Rattle.ec_host_defs.specs.Bound as bound
use Rattle.ec_host_defs.specs.Bound.{cursor_parts, pairs_of, text_expr, text_option_expr, host_places, input_places, part_places, get_places, set_places, ins_places, outs_places, kind_bound, statement_bound}
use Rattle.ec_host_defs.specs.Faults.{value_part, indicator_part, cursor_part}
use Rattle.ec_host_defs.specs.Leaves.{Pair}
use Rattle.ec_host_defs.specs.Places.{leaf_place}
use Rattle.ec_host_defs.specs.Programs.{ProgramData, Denoted, reference_type, names_count}
use Rattle.ec_host_defs.specs.Uses.{RoleData, input_role, output_role, number_role, item_role, Uses, input_uses, part_uses, output_uses, get_uses, set_uses, each_uses, ins_uses, outs_uses, kind_uses, uses_of}
use Rattle.ec_typing_defs.specs.Types.{is_void}
use Rattle.ec_typing_defs.specs.Worlds.{Place, World}
use Rattle.ec_resolving_defs.specs.Storage.{Storage, ReferenceForm}
use Rattle.ec_direct_defs.specs.Statements.{Around}
use Rattle.ec_sim_statement_laws.specs.argument.Bound.{cursor_of}
use Rattle.ec_sim_world_laws.specs.place.References.{NamesAreDeclared, tables_of, IsPlaceOf}
use Rattle.ec_sim_world_laws.specs.place.Structs.{IsListed, EachStruct, IsWithin, Stays}
use Rattle.ec_sim_host_laws.specs.host.Hosts.{CursorStands}
use Rattle.ec_sim_host_laws.specs.fit.Fits as fits
use Rattle.ec_sim_host_laws.specs.fit.Fits.{AllFit, HasType, OptionHasType, HostFits, HostsFit}
use Rattle.ec_sim_host_laws.proofs.pointer_lemmas.Basics.{both_true}
use Rattle.ec_sim_host_laws.proofs.pointer_lemmas.Clean.{ValueKnown, IndicatorKnown, host_value_known, without_indicator_fault, host_indicator_known}
use Rattle.ec_sim_host_laws.proofs.pointer_lemmas.Taken.{ReferencesArePlaces}
use Rattle.ec_sim_host_laws.proofs.pointer_lemmas.UsesStand.{RefStands, UseStands, UsesStand, statement_uses, parts_uses, text_first, option_first, input_first, part_first, parts_first, ins_first}
use Rattle.ec_sim_source_laws.specs.count.Counted.{StatementsAreCounted}
use Rattle.ec_sim_source_laws.proofs.count_lemmas.Long.{place_long, front_long}

each_struct : {P Q : ℕ → Type 0} → ((k : ℕ) → P k → Q k) → (t : TyData) → EachStruct P t → EachStruct Q t
each_struct f void h = h
each_struct f (arithmetic a) h = h
each_struct f (pointer t) h = h
each_struct f (array t n) h = each_struct f t h
each_struct f (structure k) h = f k h

abbrev pub AreLong : List PlaceData → Type 0
AreLong qs = have_long_counts qs ≡ true

-- where a statement stands
pub record Here (w z : World) (hosts functions : List ℕ) : Type 0 where
  pub places : ReferencesArePlaces
  pub within : IsWithin w z
  pub names : NamesAreDeclared w functions
  pub fit : HostsFit z (tables_of z hosts functions)

module _ (at : Place) (s : Storage) (w z : World) (hosts functions : List ℕ) (g : Here w z hosts functions) where
  abbrev p : ProgramData
  p = tables_of z hosts functions

  abbrev Stand : Uses → Denoted → Type 0
  Stand us ds = UsesStand at w p us ds

  -- ---- hosts

  stay_listed : (k : ℕ) → IsListed w k → IsListed z k
  stay_listed k h = there (g.within.stay k h)
    where
      there : Stays z k h.info → IsListed z k
      there s = record { info = s.there; is = s.is; members = h.members; are = s.members ∙ h.are }

  has_type : (e : ExprData) (ds : Denoted) → RefStands at w p e ds → (there : TyData) → reference_type p e (take (names_count e) ds) ≡ Some there → is_void there ≡ false
      → HasType z p e (take (names_count e) ds)
  has_type e ds h there is v =
      of_place (g.places at s w z hosts functions g.within g.names e h.form h.indexes h.clean (take (names_count e) ds) h.variable there is v)
    where
      of_place : IsPlaceOf at s w z e there → HasType z p e (take (names_count e) ds)
      of_place k = record {
        form = h.form;
        type = k.type;
        is = is ∙ (λ j. Some (k.same j));
        are_listed = each_struct stay_listed k.type k.are_listed;
      }

  module _ (role : RoleData) (is_a_value : fits.is_value role ≡ true) (v : ExprData) (ds : Denoted) where
    abbrev Fits : Option ExprData → Type 0
    Fits i = HostFits p.structs role (record { value = v; indicator = i }) (pairs_of p (record { value = v; indicator = i }) ds)

    of_value : (i : Option ExprData) → UseStands at w p role (record { value = v; indicator = i }) ds → ValueKnown p.structs role (reference_type p v (take (names_count v) ds))
        → HasType z p v (take (names_count v) ds)
    of_value i u k = has_type v ds u.value k.type k.is k.no_void

    fits_by : (i : Option ExprData) → UseStands at w p role (record { value = v; indicator = i }) ds → Fits i
    fits_by None u =
        g.fit role (record { value = v; indicator = None }) (take (names_count v) ds) (indicator_part (record { value = v; indicator = None }) ds) is_a_value
        (of_value None u (host_value_known p role (record { value = v; indicator = None }) (take (names_count v) ds) (indicator_part (record { value = v; indicator = None }) ds) u.without_fault))
        tt u.without_fault
    fits_by (Some i) u = of_known (host_value_known p role h (value_part h ds) (indicator_part h ds) u.without_fault)
      where
        h : HostData
        h = record { value = v; indicator = Some i }

        es : Denoted
        es = drop (names_count v) ds

        of_known : ValueKnown p.structs role (reference_type p v (take (names_count v) ds)) → Fits (Some i)
        of_known k = of_both (host_indicator_known p role i (reference_type p v (take (names_count v) ds)) (take (names_count i) es) is_a_value k
            (without_indicator_fault p role h (value_part h ds) (indicator_part h ds) u.without_fault))
          where
            of_both : IndicatorKnown p.structs (reference_type p i (take (names_count i) es)) → Fits (Some i)
            of_both n = g.fit role h (value_part h ds) (indicator_part h ds) is_a_value (of_value (Some i) u k) (has_type i es u.indicator n.type n.is n.no_void) u.without_fault

  host_fits : (role : RoleData) → fits.is_value role ≡ true → (h : HostData) (ds : Denoted) → UseStands at w p role h ds → HostFits p.structs role h (pairs_of p h ds)
  host_fits role v h ds u = fits_by role v h.value ds h.indicator u

  pairs_long : (role : RoleData) (h : HostData) (qs : List Pair) → AllFit p.structs role h qs → AreLong (map (leaf_place p.structs h.value h.indicator) qs)
  pairs_long role h [] f = refl
  pairs_long role h (q ∷ qs) f =
      both_true (has_long_counts (leaf_place p.structs h.value h.indicator q)) (have_long_counts (map (leaf_place p.structs h.value h.indicator) qs))
      (place_long (leaf_place p.structs h.value h.indicator q) f.0.fits) (pairs_long role h qs f.1)

  host_long : (role : RoleData) → fits.is_value role ≡ true → (h : HostData) (ds : Denoted) → UseStands at w p role h ds → AreLong (host_places p h ds).made
  host_long role v h ds u = pairs_long role h (pairs_of p h ds) (host_fits role v h ds u).all

  -- ---- inputs and outputs

  one_input : (role : RoleData) → fits.is_value role ≡ true → (i : InputData) (ds : Denoted) → Stand (input_uses role i) ds → AreLong (input_places p i ds).made
  one_input role v (host_input h) ds k = host_long role v h ds k.0
  one_input role v (const_input bytes) ds k = refl

  each_input : (is : List InputData) (ds : Denoted) → Stand (each_uses (input_uses input_role) is) ds → AreLong (bound.each_of (input_places p) is ds).made
  each_input [] ds h = refl
  each_input (i ∷ is) ds h =
      let both = input_first at w p input_role i (each_uses (input_uses input_role) is) ds h in
      front_long (input_places p i ds).made (bound.each_of (input_places p) is (input_places p i ds).left).made
      (one_input input_role refl i ds both.0) (each_input is (input_places p i ds).left both.1)

  one_part : (a : PartData) (ds : Denoted) → Stand (part_uses a) ds → AreLong (part_places p a ds).made
  one_part (bytes_part bytes) ds h = refl
  one_part (host_part h) ds k = host_long input_role refl h ds k.0

  pub each_part : (parts : List PartData) (ds : Denoted) → Stand (each_uses part_uses parts) ds → AreLong (bound.each_of (part_places p) parts ds).made
  each_part [] ds h = refl
  each_part (a ∷ parts) ds h =
      let both = part_first at w p a (each_uses part_uses parts) ds h in
      front_long (part_places p a ds).made (bound.each_of (part_places p) parts (part_places p a ds).left).made
      (one_part a ds both.0) (each_part parts (part_places p a ds).left both.1)

  ins_long : (is : InsData) (ds : Denoted) → Stand (ins_uses is) ds → AreLong (ins_places p is ds).made
  ins_long (listed_ins is) ds h = each_input is ds h
  ins_long (area_ins a) ds h = refl

  each_output : (hs : List HostData) (ds : Denoted) → Stand (each_uses output_uses hs) ds → AreLong (bound.each_of (host_places p) hs ds).made
  each_output [] ds h = refl
  each_output (a ∷ hs) ds h =
      front_long (host_places p a ds).made (bound.each_of (host_places p) hs (host_places p a ds).left).made
      (host_long output_role refl a ds h.0) (each_output hs (host_places p a ds).left h.1)

  outs_long : (os : OutsData) (ds : Denoted) → Stand (outs_uses os) ds → AreLong (outs_places p os ds).made
  outs_long no_outs ds h = refl
  outs_long (listed_outs hs) ds h = each_output hs ds h
  outs_long (area_outs a) ds h = refl

  -- ---- items

  each_get : (is : List (Item × HostData)) (ds : Denoted) → Stand (each_uses get_uses is) ds → AreLong (bound.each_of (get_places p) is ds).made
  each_get [] ds h = refl
  each_get (i ∷ is) ds h =
      front_long (host_places p i.1 ds).made (bound.each_of (get_places p) is (host_places p i.1 ds).left).made
      (host_long item_role refl i.1 ds h.0) (each_get is (host_places p i.1 ds).left h.1)

  each_set : (is : List (Item × InputData)) (ds : Denoted) → Stand (each_uses set_uses is) ds → AreLong (bound.each_of (set_places p) is ds).made
  each_set [] ds h = refl
  each_set (i ∷ is) ds h =
      let both = input_first at w p item_role i.1 (each_uses set_uses is) ds h in
      front_long (input_places p i.1 ds).made (bound.each_of (set_places p) is (input_places p i.1 ds).left).made
      (one_input item_role refl i.1 ds both.0) (each_set is (input_places p i.1 ds).left both.1)

  -- ---- statements

  module _ (d : Option EmbData) where
    -- the hosts of the cursor that a statement opens
    abbrev pub CursorIsLong : EmbKindData → Denoted → Type 0
    CursorIsLong k cursors = elim k [ open_cursor name ins ↦ AreLong (bound.each_of (part_places p) (cursor_parts d) cursors).made | _ ↦ Unit {0} ]

    kind_counted : (k : EmbKindData) (e : EmbData) (own : ExprData) (ds cursors : Denoted) → Stand (kind_uses (record e { kind = k })) ds → CursorIsLong k cursors
        → is_counted (kind_bound p (record e { kind = k }) d own ds cursors) ≡ true
    kind_counted (server_text parts os) e own ds cursors h k =
        let b = parts_first at w p parts (outs_uses os) ds h in
        let left = (bound.each_of (part_places p) parts ds).left in
        both_true (have_long_counts (bound.each_of (part_places p) parts ds).made) (have_long_counts (outs_places p os left).made) (each_part parts ds b.0) (outs_long os left b.1)
    kind_counted (open_cursor cursor is) e own ds cursors h k =
        let first = (bound.each_of (part_places p) (cursor_parts d) cursors).made in
        both_true (have_long_counts (first ++ (ins_places p is ds).made)) true (front_long first (ins_places p is ds).made k (ins_long is ds h)) refl
    kind_counted (execute name is os) e own ds cursors h k =
        let b = ins_first at w p is (outs_uses os) ds h in
        let left = (ins_places p is ds).left in
        both_true (have_long_counts (ins_places p is ds).made) (have_long_counts (outs_places p os left).made) (ins_long is ds b.0) (outs_long os left b.1)
    kind_counted (get_count area h) e own ds cursors u k =
        let b = text_first at w p area ((number_role, h) ∷ []) ds u in
        host_long number_role refl h (text_expr p area ds).left b.1.0
    kind_counted (get_items area index items) e own ds cursors u k =
        let b = text_first at w p area (input_uses number_role index ++ each_uses get_uses items) ds u in
        let left = (text_expr p area ds).left in
        let n = input_first at w p number_role index (each_uses get_uses items) left b.1 in
        let more = (input_places p index left).left in
        both_true (have_long_counts (input_places p index left).made) (have_long_counts (bound.each_of (get_places p) items more).made)
        (one_input number_role refl index left n.0) (each_get items more n.1)
    kind_counted (set_count area value) e own ds cursors u k =
        let b = text_first at w p area (input_uses number_role value) ds u in
        let left = (text_expr p area ds).left in
        both_true (have_long_counts (input_places p value left).made) true (one_input number_role refl value left b.1) refl
    kind_counted (set_items area index items) e own ds cursors u k =
        let b = text_first at w p area (input_uses number_role index ++ each_uses set_uses items) ds u in
        let left = (text_expr p area ds).left in
        let n = input_first at w p number_role index (each_uses set_uses items) left b.1 in
        let more = (input_places p index left).left in
        both_true (have_long_counts ((input_places p index left).made ++ (bound.each_of (set_places p) items more).made)) true
        (front_long (input_places p index left).made (bound.each_of (set_places p) items more).made (one_input number_role refl index left n.0) (each_set items more n.1)) refl
    kind_counted _ e own ds cursors h k = refl

    -- by what its variables denote
    pub statement_counted : (e : EmbData) (ds : Denoted) → Stand (uses_of e) ds → CursorIsLong e.kind (cursor_part e ds) → is_counted (statement_bound p e d ds) ≡ true
    statement_counted e ds h k =
        let b = option_first at w p e.at (kind_uses e) ds h in
        kind_counted e.kind e (text_option_expr p e.at ds).made (text_option_expr p e.at ds).left (cursor_part e ds) b.1 k

    pub cursor_long : (prepared : Option Text) (rs : List ReferenceForm) (k : EmbKindData) (e : EmbData) (x : Around)
        → CursorStands at s w p (record e { kind = k }) (cursor_of prepared d (record e { kind = k }) x.denoted rs)
        → CursorIsLong k (cursor_part (record e { kind = k }) x.denoted)
    cursor_long prepared rs (open_cursor name ins) e x h =
        let cursors = cursor_part (record e { kind = open_cursor name ins }) x.denoted in
        each_part (cursor_parts d) cursors (parts_uses at w p s (cursor_parts d) (record { denoted = cursors; references = rs }) h.references h.without_fault)
    cursor_long prepared rs _ e x h = tt

pub statements_counted : ReferencesArePlaces → StatementsAreCounted
statements_counted places at s w z hosts functions within names sound fit prepared d rs e x stands =
    statement_counted at s w z hosts functions here d e x.denoted
    (statement_uses at w (tables_of z hosts functions) s e.kind e x stands.references stands.without_fault)
    (cursor_long at s w z hosts functions here d prepared rs e.kind e x stands.cursor)
  where
    here : Here w z hosts functions
    here = record { places = places; within = within; names = names; fit = fit }
