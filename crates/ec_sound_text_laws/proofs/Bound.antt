-- What is bound for a statement is flat, since no type stands in its references.
use Rattle.std.proofs.Common.{◌≡◌, Bool, true, false, ◌&&◌, List, [], ◌∷◌, map, refl, Option, Some, None}
use Rattle.ec_ctypes.specs.trees.Checked.{IndicatorData, PlaceData, BoundData}
use Rattle.ec_ctypes.specs.trees.Types.{TyData, void, arithmetic, pointer, array, structure}
use Rattle.ec_ctypes.specs.trees.Exprs.{ExprData, integer, character, identifier, index, member, arrow, ExprList, no_exprs, exprs}
use Rattle.ec_ctypes.specs.trees.Embedded.{HostData, TextArgData, word_arg, host_arg, host_with_indicator, InputData, host_input, const_input, InsData, listed_ins, area_ins, OutsData, no_outs, listed_outs, area_outs, PartData, bytes_part, host_part, EmbKindData, connect, set_connection, disconnect, autocommit, trans, server_text, declare_cursor, open_cursor, execute_immediate, prepare, execute, deallocate, allocate_area, free_area, get_count, get_items, set_count, set_items, whenever, include_sqlca, EmbData}
use Rattle.ec_host_defs.specs.Bound.{Made, each_of, cursor_parts, pairs_of, host_places, input_places, part_places, text_expr, text_option_expr, area_place, ins_places, outs_places, get_places, set_places, kind_bound, statement_bound}
use Rattle.ec_host_defs.specs.Faults.{cursor_part}
use Rattle.ec_host_defs.specs.Leaves.{Path, LeafData, Pair}
use Rattle.ec_host_defs.specs.Places.{first_of_array, along, pointer_to, leaf_pointer, indicator_place, leaf_place, text_pointer}
use Rattle.ec_host_defs.specs.Programs.{ProgramData, Denoted}
use Rattle.ec_sim_program_laws.specs.types.Flat.{IsFlat, AreFlat}
use Rattle.ec_written_laws.specs.bound.Names.{is_simple_index, is_simple, are_simple}
use Rattle.ec_written_laws.proofs.bound_lemmas.Each.{OfList, list_both, OfExprOption, OfHost, OfText, OfTextOption, OfInput, OfPart, OfGot, OfSet, OfIns, OfOuts, OfKind}
use Rattle.ec_written_laws.proofs.bound_lemmas.Forms.{Simple, Bytes, SimpleAction}
use Rattle.ec_written_laws.proofs.bound_lemmas.StatementTokens.{IsSource}

pub both : (x y : Bool) → (x && y) ≡ true → (x ≡ true) × (y ≡ true)
both true y e = (refl, e)
both false y e = absurd (cc)

-- ---- references

index_flat : (e : ExprData) → is_simple_index e ≡ true → IsFlat e
index_flat (identifier x) h = tt
index_flat (integer n t) h = tt
index_flat _ h = absurd (cc)

simple_flat : (e : ExprData) → is_simple e ≡ true → IsFlat e
simple_flat (integer n t) h = tt
simple_flat (character c) h = tt
simple_flat (identifier x) h = tt
simple_flat (index a b) h = let p = both (is_simple a) (is_simple_index b) h in (simple_flat a p.0, index_flat b p.1)
simple_flat (member e m) h = simple_flat e h
simple_flat (arrow e m) h = simple_flat e h
simple_flat _ h = absurd (cc)

pub are_simple_flat : (es : ExprList) → are_simple es ≡ true → AreFlat es
are_simple_flat no_exprs h = tt
are_simple_flat (exprs e es) h = let p = both (is_simple e) (are_simple es) h in (simple_flat e p.0, are_simple_flat es p.1)

-- ---- places

abbrev pub IndicatorIsFlat : Option IndicatorData → Type 0
IndicatorIsFlat None = Unit {0}
IndicatorIsFlat (Some i) = IsFlat i.1

pub record PlaceIsFlat (p : PlaceData) : Type 0 where
  pub value : IsFlat p.value
  pub indicator : IndicatorIsFlat p.ind

along_flat : (path : Path) (e : ExprData) → IsFlat e → IsFlat (along e path)
along_flat [] e h = h
along_flat (step ∷ path) e h = along_flat path (member e step.1) h

first_flat : (b : Bool) (e : ExprData) → IsFlat e → IsFlat (first_of_array b e)
first_flat true e h = (h, tt)
first_flat false e h = h

pointer_flat : (t : TyData) (e : ExprData) → IsFlat e → IsFlat (pointer_to t e)
pointer_flat (array t n) e h = h
pointer_flat _ e h = h

leaf_flat : (e : ExprData) (l : LeafData) → Simple e → IsFlat (leaf_pointer e l)
leaf_flat e l h = pointer_flat l.whole (along (first_of_array l.in_first e) l.path) (along_flat l.path (first_of_array l.in_first e) (first_flat l.in_first e (simple_flat e h)))

-- all that is bound
pub record BoundIsFlat (b : BoundData) : Type 0 where
  pub texts : OfList IsFlat b.texts
  pub ins : OfList PlaceIsFlat b.ins
  pub outs : OfList PlaceIsFlat b.outs

module _ (p : ProgramData) where
  indicated : (i : Option ExprData) (l : Option LeafData) → OfExprOption Simple Bytes i → IndicatorIsFlat (indicator_place p.structs i l)
  indicated None l h = tt
  indicated (Some e) None h = tt
  indicated (Some e) (Some l) h = leaf_flat e l h

  leaves_flat : (e : ExprData) (i : Option ExprData) (qs : List Pair) → Simple e → OfExprOption Simple Bytes i → OfList PlaceIsFlat (map (leaf_place p.structs e i) qs)
  leaves_flat e i [] h k = tt
  leaves_flat e i (q ∷ qs) h k = (record { value = leaf_flat e q.0 h; indicator = indicated i q.1 k }, leaves_flat e i qs h k)

  host_flat : (h : HostData) → OfHost Simple Bytes h → (ds : Denoted) → OfList PlaceIsFlat (host_places p h ds).made
  host_flat h k ds = leaves_flat h.value h.indicator (pairs_of p h ds) k.0 k.1

  input_flat : (i : InputData) → OfInput Simple Bytes i → (ds : Denoted) → OfList PlaceIsFlat (input_places p i ds).made
  input_flat (host_input h) k ds = host_flat h k ds
  input_flat (const_input b) k ds = (record { value = tt; indicator = tt }, tt)

  part_flat : (x : PartData) → OfPart Simple Bytes x → (ds : Denoted) → OfList PlaceIsFlat (part_places p x ds).made
  part_flat (bytes_part b) k ds = tt
  part_flat (host_part h) k ds = host_flat h k ds

  each_flat : {A : Type 0} (P : A → Type 0) (f : A → Denoted → Made (List PlaceData)) → ((a : A) → P a → (ds : Denoted) → OfList PlaceIsFlat (f a ds).made) → (xs : List A) → OfList P xs → (ds : Denoted) → OfList PlaceIsFlat (each_of f xs ds).made
  each_flat P f k [] h ds = tt
  each_flat P f k (x ∷ xs) h ds = list_both PlaceIsFlat (f x ds).made _ (k x h.0 ds) (each_flat P f k xs h.1 (f x ds).left)

  pointed_flat : (t : Option TyData) (e : ExprData) → IsFlat e → IsFlat (text_pointer t e)
  pointed_flat None e h = h
  pointed_flat (Some (structure k)) e h = h
  pointed_flat (Some void) e h = h
  pointed_flat (Some (arithmetic a)) e h = h
  pointed_flat (Some (pointer t)) e h = h
  pointed_flat (Some (array t m)) e h = h

  text_flat : (a : TextArgData) → OfText Simple Bytes a → (ds : Denoted) → IsFlat (text_expr p a ds).made
  text_flat (word_arg b) h ds = tt
  text_flat (host_arg e) h ds = pointed_flat _ e (simple_flat e h)
  text_flat (host_with_indicator e i) h ds = pointed_flat _ e (simple_flat e h.0)

  text_option_flat : (a : Option TextArgData) → OfTextOption Simple Bytes a → (ds : Denoted) → IsFlat (text_option_expr p a ds).made
  text_option_flat None h ds = tt
  text_option_flat (Some a) h ds = text_flat a h ds

  area_flat : (a : TextArgData) → OfText Simple Bytes a → (ds : Denoted) → OfList PlaceIsFlat (area_place p a ds).made
  area_flat a h ds = (record { value = text_flat a h ds; indicator = tt }, tt)

  ins_flat : (i : InsData) → OfIns Simple Bytes i → (ds : Denoted) → OfList PlaceIsFlat (ins_places p i ds).made
  ins_flat (listed_ins is) h ds = each_flat (OfInput Simple Bytes) (input_places p) input_flat is h ds
  ins_flat (area_ins a) h ds = area_flat a h ds

  outs_flat : (o : OutsData) → OfOuts Simple Bytes o → (ds : Denoted) → OfList PlaceIsFlat (outs_places p o ds).made
  outs_flat no_outs h ds = tt
  outs_flat (listed_outs hs) h ds = each_flat (OfHost Simple Bytes) (host_places p) host_flat hs h ds
  outs_flat (area_outs a) h ds = area_flat a h ds

  parts_flat : (ps : List PartData) → OfList (OfPart Simple Bytes) ps → (ds : Denoted) → OfList PlaceIsFlat (each_of (part_places p) ps ds).made
  parts_flat ps h ds = each_flat (OfPart Simple Bytes) (part_places p) part_flat ps h ds

  kind_flat : (e : EmbData) (d : Option EmbData) (at : ExprData) (ds cursors : Denoted) → OfKind Simple Bytes SimpleAction e.kind → OfList (OfPart Simple Bytes) (cursor_parts d) → IsFlat at → BoundIsFlat (kind_bound p e d at ds cursors)
  kind_flat e d at ds cursors h parts w = go e.kind h
    where
      go : (kind : EmbKindData) → OfKind Simple Bytes SimpleAction kind → BoundIsFlat (kind_bound p (record e { kind = kind }) d at ds cursors)
      go (connect target name user password) h =
          let t = text_expr p target ds in
          let m = text_option_expr p name t.left in
          let u = text_option_expr p user m.left in
          record { texts = (text_flat target h.0 ds, (text_option_flat user h.2 m.left, (text_option_flat password h.3 u.left, (text_option_flat name h.1 t.left, tt)))); ins = tt; outs = tt }
      go (set_connection name) h = record { texts = (text_flat name h ds, tt); ins = tt; outs = tt }
      go (disconnect name) h = record { texts = (text_flat name h ds, tt); ins = tt; outs = tt }
      go (autocommit on) h = record { texts = (w, tt); ins = tt; outs = tt }
      go (trans text) h = record { texts = (w, tt); ins = tt; outs = tt }
      go (server_text ps outs) h = record { texts = (w, tt); ins = parts_flat ps h.0 ds; outs = outs_flat outs h.1 (each_of (part_places p) ps ds).left }
      go (declare_cursor cursor ps prepared) h = record { texts = tt; ins = tt; outs = tt }
      go (open_cursor cursor is) h =
          record { texts = (w, tt); ins = list_both PlaceIsFlat (each_of (part_places p) (cursor_parts d) cursors).made (ins_places p is ds).made (parts_flat (cursor_parts d) parts cursors) (ins_flat is h ds); outs = tt }
      go (execute_immediate text) h = record { texts = (w, (text_flat text h ds, tt)); ins = tt; outs = tt }
      go (prepare name text) h = record { texts = (w, (text_flat text h ds, tt)); ins = tt; outs = tt }
      go (execute name is outs) h = record { texts = (w, tt); ins = ins_flat is h.0 ds; outs = outs_flat outs h.1 (ins_places p is ds).left }
      go (deallocate name) h = record { texts = (w, tt); ins = tt; outs = tt }
      go (allocate_area area) h = record { texts = (text_flat area h ds, tt); ins = tt; outs = tt }
      go (free_area area) h = record { texts = (text_flat area h ds, tt); ins = tt; outs = tt }
      go (get_count area host) h = record { texts = (text_flat area h.0 ds, tt); ins = tt; outs = host_flat host h.1 (text_expr p area ds).left }
      go (get_items area i items) h =
          record { texts = (text_flat area h.0 ds, tt); ins = input_flat i h.1 (text_expr p area ds).left; outs = each_flat (OfGot Simple Bytes) (get_places p) (λ x. host_flat x.1) items h.2 (input_places p i (text_expr p area ds).left).left }
      go (set_count area value) h = record { texts = (text_flat area h.0 ds, tt); ins = input_flat value h.1 (text_expr p area ds).left; outs = tt }
      go (set_items area i items) h =
          record { texts = (text_flat area h.0 ds, tt); ins = list_both PlaceIsFlat (input_places p i (text_expr p area ds).left).made (each_of (set_places p) items (input_places p i (text_expr p area ds).left).left).made (input_flat i h.1 (text_expr p area ds).left) (each_flat (OfSet Simple Bytes) (set_places p) (λ x. input_flat x.1) items h.2 (input_places p i (text_expr p area ds).left).left); outs = tt }
      go (whenever condition action) h = record { texts = tt; ins = tt; outs = tt }
      go include_sqlca h = record { texts = tt; ins = tt; outs = tt }

  pub statement_flat : (e : EmbData) (d : Option EmbData) (ds : Denoted) → IsSource e → OfList (OfPart Simple Bytes) (cursor_parts d) → BoundIsFlat (statement_bound p e d ds)
  statement_flat e d ds h parts = kind_flat e d (text_option_expr p e.at ds).made (text_option_expr p e.at ds).left (cursor_part e ds) h.1 parts (text_option_flat e.at h.0 ds)
