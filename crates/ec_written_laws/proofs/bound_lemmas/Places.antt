-- What is bound for a statement whose references and texts can be written, and whose structs have members with plain names: it can be written, if its sizes and counts can.
use Rattle.std.proofs.Common.{◌≡◌, ℕ, zero, suc, ◌+◌, ◌≤◌, Bool, true, false, ◌&&◌, List, [], ◌∷◌, ◌++◌, map, take, drop, length, refl, sym, ap, ◌∙◌, subst, Option, Some, None, if◌then◌else◌, arith}
use Rattle.std.specs.Prelude.{codes, nat_le, nat_lt, slice_get, option_map, option_and_then, ◌==◌, ◌/◌, ◌%◌}
use Rattle.std.specs.Fmt.{decimal, digits, digits_onto, digit_glyph}
use Rattle.std.proofs.lemmas.Bool.Decides.{nat_tests}
use Rattle.ec_ctypes.specs.declared.embedded.emb.Item.{Item}
use Rattle.ec_ctypes.specs.declared.types.sizes.Shape.{Shape}
use Rattle.ec_ctypes.specs.Layout.{shape_of, limited}
use Rattle.ec_ctypes.specs.trees.Checked.{IndicatorData, PlaceData, BoundData}
use Rattle.ec_ctypes.specs.trees.Types.{TyData, void, arithmetic, pointer, array, structure, MemberData, StructData}
use Rattle.ec_ctypes.specs.trees.Exprs.{ExprData, string}
use Rattle.ec_ctypes.specs.trees.Embedded.{HostData, TextArgData, word_arg, host_arg, host_with_indicator, InputData, host_input, const_input, InsData, listed_ins, area_ins, OutsData, no_outs, listed_outs, area_outs, PartData, bytes_part, host_part, ActionData, EmbKindData, connect, set_connection, disconnect, autocommit, trans, server_text, declare_cursor, open_cursor, execute_immediate, prepare, execute, deallocate, allocate_area, free_area, get_count, get_items, set_count, set_items, whenever, include_sqlca, EmbData}
use Rattle.ec_language.specs.Letters.{Text, each}
use Rattle.ec_language.proofs.Ends.{both as both_true}
use Rattle.ec_embedded.specs.Parameters.{parameters}
use Rattle.ec_host_defs.specs.Bound.{Made, made, then, each_of, cursor_parts, pairs_of, host_places, input_places, part_places, text_expr, text_option_expr, area_place, ins_places, outs_places, get_places, set_places, sent_from, connect_bound, open_bound, kind_bound, statement_bound}
use Rattle.ec_host_defs.specs.Elements.{is_element, plain_struct}
use Rattle.ec_host_defs.specs.Faults.{cursor_part, host_count}
use Rattle.ec_host_defs.specs.Leaves.{Path, Way, both, with_step, LeafData, ShapeData, one_element, elements, one_struct, many_structs, member_ways, members_ways, ways_within, ways, leaf_of_struct, leaf_of_structs, own_leaf, shape_of_host, leaves_by, leaves, Pair, alone, paired, leaves_or_none, hosted}
use Rattle.ec_host_defs.specs.Places.{first_of_array, along, pointer_to, leaf_pointer, size_of, indicator_place, leaf_place, text_pointer}
use Rattle.ec_host_defs.specs.Programs.{ProgramData, Denoted, names_count, reference_type}
use Rattle.ec_writing_defs.specs.Shapes.{is_plain_name, is_byte, is_written_expr}
use Rattle.ec_written_laws.specs.written.Bounds.{is_long, is_written_indicator, is_written_place, are_written_places, are_written_texts, is_written_bound}
use Rattle.ec_written_laws.specs.bound.Counts.{has_long_count, has_long_counts, have_long_counts, is_counted}
use Rattle.ec_written_laws.proofs.bound_lemmas.Rules.{join}
use Rattle.ec_written_laws.proofs.bound_lemmas.Each.{OfList, list_map, list_both, OfExprOption, OfHost, OfText, OfTextOption, OfInput, OfPart, OfGot, OfSet, OfIns, OfOuts, OfKind, OfStatement}
use Rattle.ec_written_laws.proofs.bound_lemmas.Forms.{Bytes, joined}

-- ---- numbers in texts

glyph_byte : (n : ℕ) → is_byte (digit_glyph false (n % 10)) ≡ true
glyph_byte n = go (nat_lt (n % 10) 10)
  where
    go : (x : Bool) → nat_lt (if x then 48 + n % 10 else 87 + n % 10) 256 ≡ true
    go true = grind (arith, nat_tests)
    go false = grind (arith, nat_tests)

digits_bytes : (k n : ℕ) (acc : Text) → Bytes acc → Bytes (digits_onto k 10 false n acc)
digits_bytes zero n acc h = h
digits_bytes (suc k) n acc h = go (n / 10 == 0) (digits_bytes k (n / 10) (digit_glyph false (n % 10) ∷ acc) (join (glyph_byte n) h))
  where
    go : (x : Bool) → Bytes (digits_onto k 10 false (n / 10) (digit_glyph false (n % 10) ∷ acc)) → Bytes (if x then digit_glyph false (n % 10) ∷ acc else digits_onto k 10 false (n / 10) (digit_glyph false (n % 10) ∷ acc))
    go true more = join (glyph_byte n) h
    go false more = more

decimal_bytes : (n : ℕ) → Bytes (decimal n)
unfolding digits
decimal_bytes n = digits_bytes 64 n [] refl

parameters_bytes : (first count : ℕ) → Bytes (parameters first count)
parameters_bytes first zero = refl
parameters_bytes first (suc zero) = join refl (decimal_bytes first)
parameters_bytes first (suc (suc count)) = join refl (joined (decimal first) (codes ", " ++ parameters (suc first) (suc count)) (decimal_bytes first) (joined (codes ", ") (parameters (suc first) (suc count)) refl (parameters_bytes (suc first) (suc count))))

-- ---- leaves

abbrev PlainPath : Path → Type 0
PlainPath path = OfList (λ step. is_plain_name step.1 ≡ true) path

abbrev PlainWays : List Way → Type 0
PlainWays ws = OfList (λ w. PlainPath w.0) ws

abbrev PlainWaysOption : Option (List Way) → Type 0
PlainWaysOption None = Unit {0}
PlainWaysOption (Some ws) = PlainWays ws

abbrev PlainLeaves : List LeafData → Type 0
PlainLeaves ls = OfList (λ l. PlainPath l.path) ls

abbrev PlainLeavesOption : Option (List LeafData) → Type 0
PlainLeavesOption None = Unit {0}
PlainLeavesOption (Some ls) = PlainLeaves ls

abbrev PlainSecond : Option LeafData → Type 0
PlainSecond None = Unit {0}
PlainSecond (Some l) = PlainPath l.path

abbrev PlainPair : Pair → Type 0
PlainPair p = PlainPath p.0.path × PlainSecond p.1

abbrev pub PlainMemberData : List MemberData → Type 0
PlainMemberData ms = OfList (λ m. is_plain_name m.0 ≡ true) ms

-- the members of each struct have plain names
abbrev pub PlainData : List StructData → Type 0
PlainData ds = OfList (λ d. PlainMemberData d.members) ds

pub struct_plain : (ds : List StructData) (k : ℕ) (d : StructData) → PlainData ds → slice_get ds k ≡ Some d → PlainMemberData d.members
struct_plain [] k d h e = absurd (cc)
struct_plain (x ∷ ds) zero d h e = let same : x ≡ d = cc in subst (λ y. PlainMemberData y.members) same h.0
struct_plain (x ∷ ds) (suc k) d h e = struct_plain ds k d h.1 e

both_plain : (xs ys : Option (List Way)) → PlainWaysOption xs → PlainWaysOption ys → PlainWaysOption (both xs ys)
both_plain None ys h k = tt
both_plain (Some xs) None h k = tt
both_plain (Some xs) (Some ys) h k = list_both _ xs ys h k

stepped_plain : (k : ℕ) (x : Text) (ws : Option (List Way)) → is_plain_name x ≡ true → PlainWaysOption ws → PlainWaysOption (option_map (map (with_step (k, x))) ws)
stepped_plain k x None h p = tt
stepped_plain k x (Some ws) h p = go ws p
  where
    go : (ws : List Way) → PlainWays ws → PlainWays (map (with_step (k, x)) ws)
    go [] p = tt
    go (w ∷ ws) p = ((h, p.0), go ws p.1)

module _ (structs : List StructData) (plain : PlainData structs) where
  inside_plain : (inside : ℕ → Option (List Way)) (o : Option ℕ) → ((k : ℕ) → PlainWaysOption (inside k)) → PlainWaysOption (option_and_then inside o)
  inside_plain inside None f = tt
  inside_plain inside (Some k) f = f k

  member_plain : (inside : ℕ → Option (List Way)) (k : ℕ) (m : MemberData) → ((j : ℕ) → PlainWaysOption (inside j)) → is_plain_name m.0 ≡ true → PlainWaysOption (member_ways structs inside k m)
  member_plain inside k m f h = go (is_element structs m.1)
    where
      go : (b : Bool) → PlainWaysOption (elim b [ true ↦ Some (((k, m.0) ∷ [], m.1) ∷ []) | false ↦ option_map (map (with_step (k, m.0))) (option_and_then inside (plain_struct structs m.1)) ])
      go true = ((h, tt), tt)
      go false = stepped_plain k m.0 _ h (inside_plain inside (plain_struct structs m.1) f)

  members_plain : (inside : ℕ → Option (List Way)) (k : ℕ) (ms : List MemberData) → ((j : ℕ) → PlainWaysOption (inside j)) → PlainMemberData ms → PlainWaysOption (members_ways structs inside k ms)
  members_plain inside k [] f h = tt
  members_plain inside k (m ∷ ms) f h = both_plain _ _ (member_plain inside k m f h.0) (members_plain inside k ms f h.1)

  ways_plain : (depth k : ℕ) → PlainWaysOption (ways_within depth structs k)
  ways_plain zero k = tt
  ways_plain (suc depth) k = go (λ j. ways_plain depth j) (slice_get structs k) refl
    where
      go : ((j : ℕ) → PlainWaysOption (ways_within depth structs j)) → (o : Option StructData) → slice_get structs k ≡ o → PlainWaysOption (option_and_then (λ d. members_ways structs (ways_within depth structs) k d.members) o)
      go f None e = tt
      go f (Some d) e = members_plain (ways_within depth structs) k d.members f (struct_plain structs k d plain e)

  leaves_by_plain : (t : TyData) (s : ShapeData) → PlainLeavesOption (leaves_by structs t s)
  leaves_by_plain t one_element = (tt, tt)
  leaves_by_plain t (elements u n) = (tt, tt)
  leaves_by_plain t (one_struct k) = go (ways structs k) (ways_plain (length structs) k)
    where
      each_way : (ws : List Way) → PlainWays ws → PlainLeaves (map leaf_of_struct ws)
      each_way [] h = tt
      each_way (w ∷ ws) h = (h.0, each_way ws h.1)

      go : (o : Option (List Way)) → PlainWaysOption o → PlainLeavesOption (option_map (map leaf_of_struct) o)
      go None h = tt
      go (Some ws) h = each_way ws h
  leaves_by_plain t (many_structs k n) = go (ways structs k) (ways_plain (length structs) k)
    where
      each_way : (ws : List Way) → PlainWays ws → PlainLeaves (map (leaf_of_structs k n) ws)
      each_way [] h = tt
      each_way (w ∷ ws) h = (h.0, each_way ws h.1)

      go : (o : Option (List Way)) → PlainWaysOption o → PlainLeavesOption (option_map (map (leaf_of_structs k n)) o)
      go None h = tt
      go (Some ws) h = each_way ws h

  leaves_plain : (t : TyData) → PlainLeavesOption (leaves structs t)
  leaves_plain t = go (shape_of_host structs t)
    where
      go : (s : Option ShapeData) → PlainLeavesOption (option_and_then (leaves_by structs t) s)
      go None = tt
      go (Some s) = leaves_by_plain t s

  or_none_plain : (t : Option TyData) → PlainLeaves (leaves_or_none structs t)
  or_none_plain None = tt
  or_none_plain (Some t) = go (leaves structs t) (leaves_plain t)
    where
      go : (o : Option (List LeafData)) → PlainLeavesOption o → PlainLeaves (elim o [ None ↦ [] | Some ls ↦ ls ])
      go None h = tt
      go (Some ls) h = h

  paired_plain : (ls is : List LeafData) → PlainLeaves ls → PlainLeaves is → OfList PlainPair (paired ls is)
  paired_plain [] is h k = tt
  paired_plain (l ∷ ls) [] h k = ((h.0, tt), paired_plain ls [] h.1 tt)
  paired_plain (l ∷ ls) (i ∷ is) h k = ((h.0, k.0), paired_plain ls is h.1 k.1)

  hosted_plain : (t i : Option TyData) → OfList PlainPair (hosted structs t i)
  hosted_plain t i = paired_plain (leaves_or_none structs t) (leaves_or_none structs i) (or_none_plain t) (or_none_plain i)

-- ---- places

-- a size that is within the limit
size_long : (structs : List StructData) (t : TyData) → is_long (size_of structs t) ≡ true
size_long structs t = go (shape_of structs t)
  where
    small : (n : ℕ) → nat_le n 16777216 ≡ true → is_long n ≡ true
    small n h = few n (grind (arith, nat_tests))
      where
        few : (n : ℕ) → nat_le n 9223372036854775807 ≡ true → is_long n ≡ true
        few n h = h

    by : (x : Bool) (s : Shape) → nat_le s.size 16777216 ≡ x → is_long (elim (if x then Some s else None) as (λ _. ℕ) [ None ↦ 0 | Some shape ↦ shape.size ]) ≡ true
    by true s e = small s.size e
    by false s e = refl

    go : (o : Option Shape) → is_long (elim (limited o) as (λ _. ℕ) [ None ↦ 0 | Some shape ↦ shape.size ]) ≡ true
    go None = refl
    go (Some s) = by (nat_le s.size 16777216) s refl

module _ (n : ℕ) where
  abbrev pub Written : ExprData → Type 0
  Written e = is_written_expr n e ≡ true

  -- all but its size and its counts
  record IsPlaced (p : PlaceData) : Type 0 where
    value : Written p.value
    step : is_long p.step ≡ true
    indicator : has_long_count p.ind ≡ true → is_written_indicator n p.ind ≡ true

  placed_written : (p : PlaceData) → IsPlaced p → has_long_counts p ≡ true → is_written_place n p ≡ true
  placed_written p h c =
      let q = both_true (is_long p.size && is_long p.count) (has_long_count p.ind) c in
      let r = both_true (is_long p.size) (is_long p.count) q.0 in
      join h.value (join (join r.0 (join r.1 h.step)) (h.indicator q.1))

  all_placed : (ps : List PlaceData) → OfList IsPlaced ps → have_long_counts ps ≡ true → are_written_places n ps ≡ true
  all_placed [] h c = refl
  all_placed (p ∷ ps) h c = let q = both_true (has_long_counts p) (have_long_counts ps) c in join (placed_written p h.0 q.0) (all_placed ps h.1 q.1)

  along_written : (path : Path) (e : ExprData) → PlainPath path → Written e → Written (along e path)
  along_written [] e h k = k
  along_written (step ∷ path) e h k = along_written path _ h.1 (join h.0 k)

  first_written : (b : Bool) (e : ExprData) → Written e → Written (first_of_array b e)
  first_written true e h = join h refl
  first_written false e h = h

  pointer_written : (t : TyData) (e : ExprData) → Written e → Written (pointer_to t e)
  pointer_written (array t m) e h = h
  pointer_written void e h = h
  pointer_written (arithmetic a) e h = h
  pointer_written (pointer t) e h = h
  pointer_written (structure k) e h = h

  leaf_written : (e : ExprData) (l : LeafData) → PlainPath l.path → Written e → Written (leaf_pointer e l)
  leaf_written e l h k = pointer_written l.whole _ (along_written l.path _ h (first_written l.in_first e k))

  -- the parts of the cursor that a statement opens
  abbrev pub PartsOption : Option EmbData → Type 0
  PartsOption None = Unit {0}
  PartsOption (Some d) = OfList (OfPart Written Bytes) (cursor_parts (Some d))

  module _ (p : ProgramData) (plain : PlainData p.structs) where
    indicated : (i : Option ExprData) (l : Option LeafData) → OfExprOption Written Bytes i → PlainSecond l → has_long_count (indicator_place p.structs i l) ≡ true → is_written_indicator n (indicator_place p.structs i l) ≡ true
    indicated None l h k c = refl
    indicated (Some e) None h k c = refl
    indicated (Some e) (Some l) h k c = join (leaf_written e l k h) (join c (size_long p.structs l.apart))

    leaf_placed : (e : ExprData) (i : Option ExprData) (q : Pair) → Written e → OfExprOption Written Bytes i → PlainPair q → IsPlaced (leaf_place p.structs e i q)
    leaf_placed e i q h k l = record { value = leaf_written e q.0 l.0 h; step = size_long p.structs q.0.apart; indicator = indicated i q.1 k l.1 }

    leaves_placed : (e : ExprData) (i : Option ExprData) (qs : List Pair) → Written e → OfExprOption Written Bytes i → OfList PlainPair qs → OfList IsPlaced (map (leaf_place p.structs e i) qs)
    leaves_placed e i [] h k l = tt
    leaves_placed e i (q ∷ qs) h k l = (leaf_placed e i q h k l.0, leaves_placed e i qs h k l.1)

    host_placed : (h : HostData) → OfHost Written Bytes h → (ds : Denoted) → OfList IsPlaced (host_places p h ds).made
    host_placed h k ds = leaves_placed h.value h.indicator (pairs_of p h ds) k.0 k.1 (hosted_plain p.structs plain _ _)

    input_placed : (i : InputData) → OfInput Written Bytes i → (ds : Denoted) → OfList IsPlaced (input_places p i ds).made
    input_placed (host_input h) k ds = host_placed h k ds
    input_placed (const_input b) k ds = (record { value = k; step = refl; indicator = λ c. refl }, tt)

    part_placed : (x : PartData) → OfPart Written Bytes x → (ds : Denoted) → OfList IsPlaced (part_places p x ds).made
    part_placed (bytes_part b) k ds = tt
    part_placed (host_part h) k ds = host_placed h k ds

    each_placed : {A : Type 0} (P : A → Type 0) (f : A → Denoted → Made (List PlaceData)) → ((a : A) → P a → (ds : Denoted) → OfList IsPlaced (f a ds).made) → (xs : List A) → OfList P xs → (ds : Denoted) → OfList IsPlaced (each_of f xs ds).made
    each_placed P f k [] h ds = tt
    each_placed P f k (x ∷ xs) h ds = list_both IsPlaced (f x ds).made _ (k x h.0 ds) (each_placed P f k xs h.1 (f x ds).left)

    pointed_written : (t : Option TyData) (e : ExprData) → Written e → Written (text_pointer t e)
    pointed_written None e h = h
    pointed_written (Some (structure k)) e h = join refl h
    pointed_written (Some void) e h = h
    pointed_written (Some (arithmetic a)) e h = h
    pointed_written (Some (pointer t)) e h = h
    pointed_written (Some (array t m)) e h = h

    text_written : (a : TextArgData) → OfText Written Bytes a → (ds : Denoted) → Written (text_expr p a ds).made
    text_written (word_arg b) h ds = h
    text_written (host_arg e) h ds = pointed_written _ e h
    text_written (host_with_indicator e i) h ds = pointed_written _ e h.0

    text_option_written : (a : Option TextArgData) → OfTextOption Written Bytes a → (ds : Denoted) → Written (text_option_expr p a ds).made
    text_option_written None h ds = refl
    text_option_written (Some a) h ds = text_written a h ds

    area_placed : (a : TextArgData) → OfText Written Bytes a → (ds : Denoted) → OfList IsPlaced (area_place p a ds).made
    area_placed a h ds = (record { value = text_written a h ds; step = refl; indicator = λ c. refl }, tt)

    ins_placed : (i : InsData) → OfIns Written Bytes i → (ds : Denoted) → OfList IsPlaced (ins_places p i ds).made
    ins_placed (listed_ins is) h ds = each_placed (OfInput Written Bytes) (input_places p) input_placed is h ds
    ins_placed (area_ins a) h ds = area_placed a h ds

    outs_placed : (o : OutsData) → OfOuts Written Bytes o → (ds : Denoted) → OfList IsPlaced (outs_places p o ds).made
    outs_placed no_outs h ds = tt
    outs_placed (listed_outs hs) h ds = each_placed (OfHost Written Bytes) (host_places p) host_placed hs h ds
    outs_placed (area_outs a) h ds = area_placed a h ds

    sent_bytes : (first : ℕ) (ps : List PartData) → OfList (OfPart Written Bytes) ps → (ds : Denoted) → Bytes (sent_from p first ps ds)
    sent_bytes first [] h ds = refl
    sent_bytes first (bytes_part b ∷ ps) h ds = joined b (sent_from p first ps ds) h.0 (sent_bytes first ps h.1 ds)
    sent_bytes first (host_part x ∷ ps) h ds =
        let count = length (pairs_of p x ds) in
        joined (parameters first count) (sent_from p (first + count) ps (drop (host_count x) ds)) (parameters_bytes first count) (sent_bytes (first + count) ps h.1 (drop (host_count x) ds))

    -- ---- statements

    -- all that is bound, but for sizes and counts
    record IsBound (b : BoundData) : Type 0 where
      text : Bytes b.text
      texts : are_written_texts n b.texts ≡ true
      ins : OfList IsPlaced b.ins
      outs : OfList IsPlaced b.outs

    opened_parts : (d : Option EmbData) → PartsOption d → OfList (OfPart Written Bytes) (cursor_parts d)
    opened_parts None h = tt
    opened_parts (Some d) h = h

    kind_is_bound : (A : ActionData → Type 0) (e : EmbData) (d : Option EmbData) (at : ExprData) (ds cursors : Denoted) → OfKind Written Bytes A e.kind → PartsOption d → Written at → IsBound (kind_bound p e d at ds cursors)
    kind_is_bound A e d at ds cursors h parts w = go e.kind h
      where
        go : (kind : EmbKindData) → OfKind Written Bytes A kind → IsBound (kind_bound p (record e { kind = kind }) d at ds cursors)
        go (connect target name user password) h =
            let t = text_expr p target ds in
            let m = text_option_expr p name t.left in
            let u = text_option_expr p user m.left in
            record { text = refl; texts = join (text_written target h.0 ds) (join (text_option_written user h.2 m.left) (join (text_option_written password h.3 u.left) (join (text_option_written name h.1 t.left) refl))); ins = tt; outs = tt }
        go (set_connection name) h = record { text = refl; texts = join (text_written name h ds) refl; ins = tt; outs = tt }
        go (disconnect name) h = record { text = refl; texts = join (text_written name h ds) refl; ins = tt; outs = tt }
        go (autocommit on) h = record { text = refl; texts = join w refl; ins = tt; outs = tt }
        go (trans text) h = record { text = refl; texts = join w refl; ins = tt; outs = tt }
        go (server_text ps outs) h = record { text = sent_bytes 1 ps h.0 ds; texts = join w refl; ins = each_placed (OfPart Written Bytes) (part_places p) part_placed ps h.0 ds; outs = outs_placed outs h.1 (each_of (part_places p) ps ds).left }
        go (declare_cursor cursor ps prepared) h = record { text = refl; texts = refl; ins = tt; outs = tt }
        go (open_cursor cursor is) h =
            record { text = sent_bytes 1 (cursor_parts d) (opened_parts d parts) cursors; texts = join w refl; ins = list_both IsPlaced (each_of (part_places p) (cursor_parts d) cursors).made (ins_places p is ds).made (each_placed (OfPart Written Bytes) (part_places p) part_placed (cursor_parts d) (opened_parts d parts) cursors) (ins_placed is h ds); outs = tt }
        go (execute_immediate text) h = record { text = refl; texts = join w (join (text_written text h ds) refl); ins = tt; outs = tt }
        go (prepare name text) h = record { text = refl; texts = join w (join (text_written text h ds) refl); ins = tt; outs = tt }
        go (execute name is outs) h = record { text = refl; texts = join w refl; ins = ins_placed is h.0 ds; outs = outs_placed outs h.1 (ins_places p is ds).left }
        go (deallocate name) h = record { text = refl; texts = join w refl; ins = tt; outs = tt }
        go (allocate_area area) h = record { text = refl; texts = join (text_written area h ds) refl; ins = tt; outs = tt }
        go (free_area area) h = record { text = refl; texts = join (text_written area h ds) refl; ins = tt; outs = tt }
        go (get_count area host) h = record { text = refl; texts = join (text_written area h.0 ds) refl; ins = tt; outs = host_placed host h.1 (text_expr p area ds).left }
        go (get_items area index items) h =
            record { text = refl; texts = join (text_written area h.0 ds) refl; ins = input_placed index h.1 (text_expr p area ds).left; outs = each_placed (OfGot Written Bytes) (get_places p) (λ i. host_placed i.1) items h.2 (input_places p index (text_expr p area ds).left).left }
        go (set_count area value) h = record { text = refl; texts = join (text_written area h.0 ds) refl; ins = input_placed value h.1 (text_expr p area ds).left; outs = tt }
        go (set_items area index items) h =
            record { text = refl; texts = join (text_written area h.0 ds) refl; ins = list_both IsPlaced (input_places p index (text_expr p area ds).left).made (each_of (set_places p) items (input_places p index (text_expr p area ds).left).left).made (input_placed index h.1 (text_expr p area ds).left) (each_placed (OfSet Written Bytes) (set_places p) (λ i. input_placed i.1) items h.2 (input_places p index (text_expr p area ds).left).left); outs = tt }
        go (whenever condition action) h = record { text = refl; texts = refl; ins = tt; outs = tt }
        go include_sqlca h = record { text = refl; texts = refl; ins = tt; outs = tt }

    pub statement_written : (A : ActionData → Type 0) (e : EmbData) (d : Option EmbData) (ds : Denoted) → OfStatement Written Bytes A e → PartsOption d → is_counted (statement_bound p e d ds) ≡ true → is_written_bound n (statement_bound p e d ds) ≡ true
    statement_written A e d ds h parts c =
        let b = kind_is_bound A e d (text_option_expr p e.at ds).made (text_option_expr p e.at ds).left (cursor_part e ds) h.1 parts (text_option_written e.at h.0 ds) in
        let q = both_true (have_long_counts (statement_bound p e d ds).ins) (have_long_counts (statement_bound p e d ds).outs) c in
        join b.text (join b.texts (join (all_placed (statement_bound p e d ds).ins b.ins q.0) (all_placed (statement_bound p e d ds).outs b.outs q.1)))
