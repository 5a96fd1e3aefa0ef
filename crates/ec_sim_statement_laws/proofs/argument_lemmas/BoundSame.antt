-- The call that is written for a statement, with the places to which its pointers lead, is that of the statement by its places.
use Rattle.std.proofs.Common.{◌≡◌, ◌∙◌, ℕ, zero, suc, Bool, true, false, List, [], ◌∷◌, ◌++◌, map, Option, Some, None, refl, sym, append_assoc}
use Rattle.std.specs.Prelude.{slice_get, option_map, option_and_then, if◌then◌else◌}
use Rattle.ec_arguments.specs.Arguments as library
use Rattle.ec_arguments.specs.Arguments.{TextArg, Member, ItemMember, Call, host, descriptor, held}
use Rattle.ec_ctypes.specs.declared.embedded.emb.Item.{Item}
use Rattle.ec_ctypes.specs.declared.types.arith.Arith.{Arith}
use Rattle.ec_ctypes.specs.declared.types.arith.Arith.TheVariants as arith_of
use Rattle.ec_ctypes.specs.trees.Checked.{PlaceData}
use Rattle.ec_ctypes.specs.trees.Embedded.{HostData, TextArgData, word_arg, host_arg, host_with_indicator, InputData, host_input, const_input, InsData, listed_ins, area_ins, OutsData, no_outs, listed_outs, area_outs, PartData, bytes_part, host_part, EmbData, EmbKindData, connect, set_connection, disconnect, autocommit, trans, server_text, declare_cursor, open_cursor, execute_immediate, prepare, execute, deallocate, allocate_area, free_area, get_count, get_items, set_count, set_items, whenever, include_sqlca}
use Rattle.ec_ctypes.specs.trees.Exprs.{ExprData}
use Rattle.ec_ctypes.specs.trees.Types.{TyData, void, arithmetic, pointer, array, structure, StructData}
use Rattle.ec_language.specs.Letters.{Text}
use Rattle.ec_expansion_defs.specs.Calls as written
use Rattle.ec_expansion_defs.specs.Calls.{text_of, is_const, is_descriptor, member_of, member_at, items_from, kinds_of, bytes_in}
use Rattle.ec_host_defs.specs.Bound as bound
use Rattle.ec_host_defs.specs.Bound.{pairs_of, cursor_parts, text_expr, text_option_expr, input_places, part_places, host_places, ins_places, outs_places, get_places, set_places, sent_from}
use Rattle.ec_host_defs.specs.Elements.{symbol_of, struct_symbol, varchar_symbol, capacity}
use Rattle.ec_host_defs.specs.Leaves.{LeafData, Pair}
use Rattle.ec_host_defs.specs.Places as places
use Rattle.ec_host_defs.specs.Places.{symbol_or_none, symbol_in, leaf_pointer, size_of, indicator_place, constant_place}
use Rattle.ec_host_defs.specs.Programs.{ProgramData, Denoted}
use Rattle.ec_meaning_defs.specs.resolved.Resolved.{Exp}
use Rattle.ec_resolving_defs.specs.Storage.{ReferenceForm}
use Rattle.ec_phases_defs.specs.written.Calls.{text_with, indicator_with, member_with, item_with, statement_with}
use Rattle.ec_direct_defs.specs.Leaves as leaves_of
use Rattle.ec_direct_defs.specs.Leaves.{Leaf, leaf_place, leaf_at}
use Rattle.ec_direct_defs.specs.Statements as direct
use Rattle.ec_direct_defs.specs.Statements.{Around, Cursor, Sent, Input, stored, gets_count, gets_items, sets_count, sets_items, first_of, opened_by, reference_at, indicator_at, host_leaves, input, part, text_arg, text_option, sent, outputs, get_leaves, set_inputs}
use Rattle.ec_sim_statement_laws.proofs.argument_lemmas.OwnLeaves.{own_pairs}
use Rattle.ec_sim_statement_laws.specs.statement.Calls.{indicator_of, host_of, input_of, area_of, ins_of, outs_of, asked_of, got_of, given_of}
use Rattle.ec_sim_statement_laws.specs.argument.Bound.{cursor_of, IsOne, IndicatorIs, PairsAre, TextIs, OptionIs, InputIs, InputsAre, InsAre, PartsAre, HostsAre, OutputsAre, OneHostIs, OneInputIs, GetsAre, SetsAre, KindIs, IsCall}

-- what is made behind other parts, by the declarations that are left
behind : {A : Type 0} {y : A} (f : Denoted → A) {ds es : Denoted} → ds ≡ es → f es ≡ y → f ds ≡ y
behind f e h = (λ j. f (e j)) ∙ h

no_more : {A : Type 0} (xs : List A) → xs ≡ xs ++ []
no_more [] = refl
no_more (x ∷ xs) = λ j. x ∷ no_more xs j

map_append : {A B : Type 0} (f : A → B) (xs ys : List A) → map f (xs ++ ys) ≡ map f xs ++ map f ys
map_append f [] ys = refl
map_append f (x ∷ xs) ys = λ j. f x ∷ map_append f xs ys j

-- ---- the symbol of a leaf is none of those of constants and descriptors

-- of a type
record IsHost (structs : List StructData) (t : TyData) : Type 0 where
  constant : is_const (symbol_or_none (symbol_of structs t)).0 ≡ false
  area : is_descriptor (symbol_or_none (symbol_of structs t)).0 ≡ false

module _ (structs : List StructData) where
  arith_host : (a : Arith) → IsHost structs (arithmetic a)
  arith_host arith_of.Bool = record { constant = refl; area = refl }
  arith_host arith_of.Char = record { constant = refl; area = refl }
  arith_host arith_of.UChar = record { constant = refl; area = refl }
  arith_host arith_of.Short = record { constant = refl; area = refl }
  arith_host arith_of.UShort = record { constant = refl; area = refl }
  arith_host arith_of.Int = record { constant = refl; area = refl }
  arith_host arith_of.UInt = record { constant = refl; area = refl }
  arith_host arith_of.Long = record { constant = refl; area = refl }
  arith_host arith_of.ULong = record { constant = refl; area = refl }
  arith_host arith_of.LLong = record { constant = refl; area = refl }
  arith_host arith_of.ULLong = record { constant = refl; area = refl }

  pointer_host : (a : Arith) → IsHost structs (pointer (arithmetic a))
  pointer_host arith_of.Char = record { constant = refl; area = refl }
  pointer_host arith_of.UChar = record { constant = refl; area = refl }
  pointer_host _ = record { constant = refl; area = refl }

  array_host : (a : Arith) (n : ℕ) → IsHost structs (array (arithmetic a) (suc n))
  array_host arith_of.Char n = record { constant = refl; area = refl }
  array_host arith_of.UChar n = record { constant = refl; area = refl }
  array_host _ n = record { constant = refl; area = refl }

  capacity_constant : (n : Option ℕ) → is_const (symbol_or_none (varchar_symbol n)).0 ≡ false
  capacity_constant None = refl
  capacity_constant (Some zero) = refl
  capacity_constant (Some (suc n)) = refl

  capacity_area : (n : Option ℕ) → is_descriptor (symbol_or_none (varchar_symbol n)).0 ≡ false
  capacity_area None = refl
  capacity_area (Some zero) = refl
  capacity_area (Some (suc n)) = refl

  varchar_constant : (d : StructData) (b : Bool) → is_const (symbol_or_none (elim b [ true ↦ varchar_symbol (capacity d.members) | false ↦ None ])).0 ≡ false
  varchar_constant d true = capacity_constant (capacity d.members)
  varchar_constant d false = refl

  varchar_area : (d : StructData) (b : Bool) → is_descriptor (symbol_or_none (elim b [ true ↦ varchar_symbol (capacity d.members) | false ↦ None ])).0 ≡ false
  varchar_area d true = capacity_area (capacity d.members)
  varchar_area d false = refl

  struct_constant : (d : Option StructData) → is_const (symbol_or_none (option_and_then struct_symbol d)).0 ≡ false
  struct_constant None = refl
  struct_constant (Some d) = varchar_constant d d.varchar

  struct_area : (d : Option StructData) → is_descriptor (symbol_or_none (option_and_then struct_symbol d)).0 ≡ false
  struct_area None = refl
  struct_area (Some d) = varchar_area d d.varchar

  type_host : (t : TyData) → IsHost structs t
  type_host void = record { constant = refl; area = refl }
  type_host (arithmetic a) = arith_host a
  type_host (pointer void) = record { constant = refl; area = refl }
  type_host (pointer (arithmetic a)) = pointer_host a
  type_host (pointer (pointer t)) = record { constant = refl; area = refl }
  type_host (pointer (array t n)) = record { constant = refl; area = refl }
  type_host (pointer (structure k)) = record { constant = refl; area = refl }
  type_host (array t zero) = record { constant = refl; area = refl }
  type_host (array void (suc n)) = record { constant = refl; area = refl }
  type_host (array (arithmetic a) (suc n)) = array_host a n
  type_host (array (pointer t) (suc n)) = record { constant = refl; area = refl }
  type_host (array (array t m) (suc n)) = record { constant = refl; area = refl }
  type_host (array (structure k) (suc n)) = record { constant = refl; area = refl }
  type_host (structure k) = record { constant = struct_constant (slice_get structs k); area = struct_area (slice_get structs k) }

  -- so it is seen as a host
  seen_host : (e : ExprData) (i : Option ExprData) (q : Pair) → member_of (places.leaf_place structs e i q) ≡ written.host_of (places.leaf_place structs e i q)
  seen_host e i q =
      (λ j. if host_type.constant j then library.constant (bytes_in data_of.value) else (if is_descriptor data_of.sym then descriptor (text_of data_of.value) else written.host_of data_of))
      ∙ (λ j. if host_type.area j then descriptor (text_of data_of.value) else written.host_of data_of)
    where
      data_of : PlaceData
      data_of = places.leaf_place structs e i q

      host_type : IsHost structs q.0.element
      host_type = type_host q.0.element

module _ (p : ProgramData) (g : ExprData → Exp) where
  -- ---- hosts

  indicator_same : (i : Option ExprData) (y : Exp) (l : Option LeafData) → IndicatorIs p g i y l
      → option_map (indicator_with g) (option_map written.indicator_of (indicator_place p.structs i l))
      ≡ option_map (indicator_of p.structs) (leaves_of.indicator_at p.structs (elim i [ None ↦ None | Some e ↦ Some y ]) l)
  indicator_same None y l h = refl
  indicator_same (Some e) y None h = refl
  indicator_same (Some e) y (Some l) h = λ j.
      Some (record { sym = (symbol_in p.structs l).0; value = h j; count = l.count; step = size_of p.structs l.apart })

  pair_same : (h : HostData) (x : Around) (q : Pair) → g (leaf_pointer h.value q.0) ≡ leaf_place p.structs (reference_at 0 x) q.0 → IndicatorIs p g h.indicator (reference_at 1 x) q.1
      → member_with g (member_of (places.leaf_place p.structs h.value h.indicator q)) ≡ host_of p.structs (leaf_at p.structs (reference_at 0 x) (indicator_at h x) q)
  pair_same h x q is own =
      (λ j. member_with g (seen_host p.structs h.value h.indicator q j))
      ∙ (λ j. host (record {
        sym = (symbol_in p.structs q.0).0;
        value = is j;
        size = (symbol_in p.structs q.0).1;
        count = q.0.count;
        step = size_of p.structs q.0.apart;
        ind = indicator_same h.indicator (reference_at 1 x) q.1 own j;
      }))

  module _ (h : HostData) (x : Around) where
    inputs_are : (qs : List Pair) → PairsAre p g h (reference_at 0 x) (reference_at 1 x) qs
        → map (member_with g) (map member_of (map (places.leaf_place p.structs h.value h.indicator) qs))
        ≡ map (input_of p.structs) (map stored (map (leaf_at p.structs (reference_at 0 x) (indicator_at h x)) qs))
    inputs_are [] a = refl
    inputs_are (q ∷ qs) a = λ j. pair_same h x q a.0 a.1 j ∷ inputs_are qs a.2 j

    -- the leaves of a host are found alike
    found : (host_leaves p h x).made ≡ map (leaf_at p.structs (reference_at 0 x) (indicator_at h x)) (pairs_of p h x.denoted)
    found = λ j. map (leaf_at p.structs (reference_at 0 x) (indicator_at h x)) (own_pairs p h x.denoted j)

    leaves_are : (qs : List Pair) → PairsAre p g h (reference_at 0 x) (reference_at 1 x) qs
        → map (member_with g) (map member_of (map (places.leaf_place p.structs h.value h.indicator) qs))
        ≡ map (host_of p.structs) (map (leaf_at p.structs (reference_at 0 x) (indicator_at h x)) qs)
    leaves_are [] a = refl
    leaves_are (q ∷ qs) a = λ j. pair_same h x q a.0 a.1 j ∷ leaves_are qs a.2 j

    host_inputs : PairsAre p g h (reference_at 0 x) (reference_at 1 x) (pairs_of p h x.denoted)
        → map (member_with g) (map member_of (host_places p h x.denoted).made) ≡ map (input_of p.structs) (map stored (host_leaves p h x).made)
    host_inputs a = inputs_are (pairs_of p h x.denoted) a ∙ (λ j. map (input_of p.structs) (map stored (sym found j)))

    host_targets : PairsAre p g h (reference_at 0 x) (reference_at 1 x) (pairs_of p h x.denoted)
        → map (member_with g) (map member_of (host_places p h x.denoted).made) ≡ map (host_of p.structs) (host_leaves p h x).made
    host_targets a = leaves_are (pairs_of p h x.denoted) a ∙ (λ j. map (host_of p.structs) (sym found j))

  abbrev seen_as : List PlaceData → List (Member Exp)
  seen_as ps = map (member_with g) (map member_of ps)

  seen_append : (ps qs : List PlaceData) → seen_as (ps ++ qs) ≡ seen_as ps ++ seen_as qs
  seen_append ps qs = (λ j. map (member_with g) (map_append member_of ps qs j)) ∙ map_append (member_with g) (map member_of ps) (map member_of qs)

  -- ---- inputs and outputs

  input_same : (i : InputData) (x : Around) → InputIs p g i x → seen_as (input_places p i x.denoted).made ≡ map (input_of p.structs) (input p i x).made
  input_same (host_input h) x is = host_inputs h x is
  input_same (const_input bytes) x is = refl

  input_left : (i : InputData) (x : Around) → (input_places p i x.denoted).left ≡ (input p i x).left.denoted
  input_left (host_input h) x = refl
  input_left (const_input bytes) x = refl

  inputs_same : (is : List InputData) (x : Around) → InputsAre p g is x
      → seen_as (bound.each_of (input_places p) is x.denoted).made ≡ map (input_of p.structs) (direct.each_of (input p) is x).made
  inputs_same [] x h = refl
  inputs_same (i ∷ is) x h =
      seen_append (input_places p i x.denoted).made (bound.each_of (input_places p) is (input_places p i x.denoted).left).made
      ∙ (λ j. input_same i x h.0 j ++ seen_as (bound.each_of (input_places p) is (input_left i x j)).made)
      ∙ (λ j. map (input_of p.structs) (input p i x).made ++ inputs_same is (input p i x).left h.1 j)
      ∙ sym (map_append (input_of p.structs) (input p i x).made (direct.each_of (input p) is (input p i x).left).made)

  inputs_left : (is : List InputData) (x : Around) → (bound.each_of (input_places p) is x.denoted).left ≡ (direct.each_of (input p) is x).left.denoted
  inputs_left [] x = refl
  inputs_left (i ∷ is) x = behind (λ ds. (bound.each_of (input_places p) is ds).left) (input_left i x) (inputs_left is (input p i x).left)

  parts_same : (ps : List PartData) (x : Around) → PartsAre p g ps x
      → seen_as (bound.each_of (part_places p) ps x.denoted).made ≡ map (input_of p.structs) (direct.each_of (part p) ps x).made
  parts_same [] x h = refl
  parts_same (bytes_part bytes ∷ ps) x h = parts_same ps x h.1
  parts_same (host_part a ∷ ps) x h =
      seen_append (host_places p a x.denoted).made (bound.each_of (part_places p) ps (host_leaves p a x).left.denoted).made
      ∙ (λ j. host_inputs a x h.0 j ++ parts_same ps (host_leaves p a x).left h.1 j)
      ∙ sym (map_append (input_of p.structs) (map stored (host_leaves p a x).made) (direct.each_of (part p) ps (host_leaves p a x).left).made)

  parts_left : (ps : List PartData) (x : Around) → (bound.each_of (part_places p) ps x.denoted).left ≡ (direct.each_of (part p) ps x).left.denoted
  parts_left [] x = refl
  parts_left (bytes_part bytes ∷ ps) x = parts_left ps x
  parts_left (host_part a ∷ ps) x = parts_left ps (host_leaves p a x).left

  hosts_same : (hs : List HostData) (x : Around) → HostsAre p g hs x
      → seen_as (bound.each_of (host_places p) hs x.denoted).made ≡ map (host_of p.structs) (direct.each_of (host_leaves p) hs x).made
  hosts_same [] x h = refl
  hosts_same (a ∷ hs) x h =
      seen_append (host_places p a x.denoted).made (bound.each_of (host_places p) hs (host_leaves p a x).left.denoted).made
      ∙ (λ j. host_targets a x h.0 j ++ hosts_same hs (host_leaves p a x).left h.1 j)
      ∙ sym (map_append (host_of p.structs) (host_leaves p a x).made (direct.each_of (host_leaves p) hs (host_leaves p a x).left).made)

  -- ---- texts

  text_same : (a : TextArgData) (x : Around) → TextIs p g a x → text_with g (text_of (text_expr p a x.denoted).made) ≡ (text_arg p a x).made
  text_same (word_arg bytes) x h = refl
  text_same (host_arg e) x h = (λ j. text_with g (h.is_held j)) ∙ (λ j. held (h.is j))
  text_same (host_with_indicator e i) x h = (λ j. text_with g (h.is_held j)) ∙ (λ j. held (h.is j))

  text_left : (a : TextArgData) (x : Around) → (text_expr p a x.denoted).left ≡ (text_arg p a x).left.denoted
  text_left (word_arg bytes) x = refl
  text_left (host_arg e) x = refl
  text_left (host_with_indicator e i) x = refl

  option_same : (a : Option TextArgData) (x : Around) → OptionIs p g a x → text_with g (text_of (text_option_expr p a x.denoted).made) ≡ (text_option p a x).made
  option_same None x h = refl
  option_same (Some a) x h = text_same a x h

  option_left : (a : Option TextArgData) (x : Around) → (text_option_expr p a x.denoted).left ≡ (text_option p a x).left.denoted
  option_left None x = refl
  option_left (Some a) x = text_left a x

  outs_same : (outs : OutsData) (x : Around) → OutputsAre p g outs x → seen_as (outs_places p outs x.denoted).made ≡ outs_of p.structs (outputs p outs x)
  outs_same no_outs x h = refl
  outs_same (listed_outs hs) x h = hosts_same hs x h
  outs_same (area_outs a) x h = λ j. descriptor (text_same a x h j) ∷ []

  ins_same : (ins : InsData) (x : Around) → InsAre p g ins x → seen_as (ins_places p ins x.denoted).made ≡ ins_of p.structs (sent p ins x).made
  ins_same (listed_ins is) x h = inputs_same is x h ∙ no_more (map (input_of p.structs) (direct.each_of (input p) is x).made)
  ins_same (area_ins a) x h = λ j. descriptor (text_same a x h j) ∷ []

  ins_left : (ins : InsData) (x : Around) → (ins_places p ins x.denoted).left ≡ (sent p ins x).left.denoted
  ins_left (listed_ins is) x = inputs_left is x
  ins_left (area_ins a) x = text_left a x

  -- a text behind other parts
  text_behind : (a : TextArgData) (x : Around) {ds : Denoted} → ds ≡ x.denoted → TextIs p g a x → text_with g (text_of (text_expr p a ds).made) ≡ (text_arg p a x).made
  text_behind a x e h = behind (λ ds. text_with g (text_of (text_expr p a ds).made)) e (text_same a x h)

  text_left_behind : (a : TextArgData) (x : Around) {ds : Denoted} → ds ≡ x.denoted → (text_expr p a ds).left ≡ (text_arg p a x).left.denoted
  text_left_behind a x e = behind (λ ds. (text_expr p a ds).left) e (text_left a x)

  option_behind : (a : Option TextArgData) (x : Around) {ds : Denoted} → ds ≡ x.denoted → OptionIs p g a x → text_with g (text_of (text_option_expr p a ds).made) ≡ (text_option p a x).made
  option_behind a x e h = behind (λ ds. text_with g (text_of (text_option_expr p a ds).made)) e (option_same a x h)

  option_left_behind : (a : Option TextArgData) (x : Around) {ds : Denoted} → ds ≡ x.denoted → (text_option_expr p a ds).left ≡ (text_option p a x).left.denoted
  option_left_behind a x e = behind (λ ds. (text_option_expr p a ds).left) e (option_left a x)

  -- ---- hosts of one value

  record OneOf (h : HostData) (x : Around) (qs : List Pair) : Type 0 where
    one : PlaceData
    leaf : Leaf Exp
    are_places : map (places.leaf_place p.structs h.value h.indicator) qs ≡ one ∷ []
    are_leaves : (host_leaves p h x).made ≡ leaf ∷ []
    same : member_with g (member_of one) ≡ host_of p.structs leaf

  one_of : (h : HostData) (x : Around) (qs : List Pair) → (host_leaves p h x).made ≡ map (leaf_at p.structs (reference_at 0 x) (indicator_at h x)) qs
      → IsOne qs → PairsAre p g h (reference_at 0 x) (reference_at 1 x) qs → OneOf h x qs
  one_of h x [] e one is = absurd one
  one_of h x (q ∷ []) e one is = record {
    one = places.leaf_place p.structs h.value h.indicator q;
    leaf = leaf_at p.structs (reference_at 0 x) (indicator_at h x) q;
    are_places = refl;
    are_leaves = e;
    same = pair_same h x q is.0 is.1;
  }
  one_of h x (q ∷ r ∷ qs) e one is = absurd one

  one_host : (h : HostData) (x : Around) → OneHostIs p g h x → OneOf h x (pairs_of p h x.denoted)
  one_host h x is = one_of h x (pairs_of p h x.denoted) (found h x) is.0 is.1

  record OneInput (i : InputData) (x : Around) : Type 0 where
    one : PlaceData
    value : Input Exp
    are_places : (input_places p i x.denoted).made ≡ one ∷ []
    are_values : (input p i x).made ≡ value ∷ []
    same : member_with g (member_of one) ≡ input_of p.structs value

  one_input : (i : InputData) (x : Around) → OneInputIs p g i x → OneInput i x
  one_input (host_input h) x is = from_host (one_host h x is)
    where
      from_host : OneOf h x (pairs_of p h x.denoted) → OneInput (host_input h) x
      from_host o = record { one = o.one; value = stored o.leaf; are_places = o.are_places; are_values = λ j. map stored (o.are_leaves j); same = o.same }
  one_input (const_input bytes) x is = record { one = constant_place bytes; value = direct.constant bytes; are_places = refl; are_values = refl; same = refl }

  items_behind : (n : ℕ) (ks : List Item) (q : PlaceData) (ps : List PlaceData) → items_from (suc n) ks (q ∷ ps) ≡ items_from n ks ps
  items_behind n [] q ps = refl
  items_behind n (k ∷ ks) q ps = λ j. (k, member_at n ps) ∷ items_behind (suc n) ks q ps j

  gets_same : (is : List (Item × HostData)) (x : Around) → GetsAre p g is x
      → map (item_with g) (items_from 0 (kinds_of is) (bound.each_of (get_places p) is x.denoted).made) ≡ map (got_of p.structs) (direct.each_of (get_leaves p) is x).made
  gets_same [] x h = refl
  gets_same (i ∷ is) x h = from_host (one_host i.1 x h.0) (gets_same is (host_leaves p i.1 x).left h.1)
    where
      further : Around
      further = (host_leaves p i.1 x).left

      from_host : OneOf i.1 x (pairs_of p i.1 x.denoted)
          → map (item_with g) (items_from 0 (kinds_of is) (bound.each_of (get_places p) is further.denoted).made) ≡ map (got_of p.structs) (direct.each_of (get_leaves p) is further).made
          → map (item_with g) (items_from 0 (kinds_of (i ∷ is)) (bound.each_of (get_places p) (i ∷ is) x.denoted).made) ≡ map (got_of p.structs) (direct.each_of (get_leaves p) (i ∷ is) x).made
      from_host o more =
          (λ j. map (item_with g) (items_from 0 (i.0 ∷ kinds_of is) (o.are_places j ++ (bound.each_of (get_places p) is further.denoted).made)))
          ∙ (λ j. (i.0, o.same j) ∷ map (item_with g) (items_behind 0 (kinds_of is) o.one (bound.each_of (get_places p) is further.denoted).made j))
          ∙ (λ j. (i.0, host_of p.structs o.leaf) ∷ more j)
          ∙ sym (λ j. map (got_of p.structs) (map (λ l. (i.0, l)) (o.are_leaves j) ++ (direct.each_of (get_leaves p) is further).made))

  sets_same : (is : List (Item × InputData)) (x : Around) → SetsAre p g is x
      → map (item_with g) (items_from 0 (kinds_of is) (bound.each_of (set_places p) is x.denoted).made) ≡ map (given_of p.structs) (direct.each_of (set_inputs p) is x).made
  sets_same [] x h = refl
  sets_same (i ∷ is) x h = from_input (one_input i.1 x h.0) (sets_same is (input p i.1 x).left h.1)
    where
      further : Around
      further = (input p i.1 x).left

      from_input : OneInput i.1 x
          → map (item_with g) (items_from 0 (kinds_of is) (bound.each_of (set_places p) is further.denoted).made) ≡ map (given_of p.structs) (direct.each_of (set_inputs p) is further).made
          → map (item_with g) (items_from 0 (kinds_of (i ∷ is)) (bound.each_of (set_places p) (i ∷ is) x.denoted).made) ≡ map (given_of p.structs) (direct.each_of (set_inputs p) (i ∷ is) x).made
      from_input o more =
          (λ j. map (item_with g) (items_from 0 (i.0 ∷ kinds_of is) (o.are_places j ++ (bound.each_of (set_places p) is (input_left i.1 x j)).made)))
          ∙ (λ j. (i.0, o.same j) ∷ map (item_with g) (items_behind 0 (kinds_of is) o.one (bound.each_of (set_places p) is further.denoted).made j))
          ∙ (λ j. (i.0, input_of p.structs o.value) ∷ more j)
          ∙ sym (λ j. map (given_of p.structs) (map (λ l. (i.0, l)) (o.are_values j) ++ (direct.each_of (set_inputs p) is further).made))

  -- ---- statements

  opened_same : (name : Option Text) (text : Text) → statement_with g (written.opens name text) ≡ asked_of p.structs (opened_by p name text)
  opened_same None text = refl
  opened_same (Some name) text = refl

  module _ (prepared : Option Text) (d : Option EmbData) (rs : List ReferenceForm) where
    kind_same : (k : EmbKindData) (e : EmbData) (x : Around) → OptionIs p g e.at x
        → KindIs p g (record e { kind = k }) (cursor_of prepared d (record e { kind = k }) x.denoted rs) (text_option p e.at x).left
        → IsCall p g prepared d rs (record e { kind = k }) x
    kind_same (connect target name user password) e x at_is is = record {
      call = _;
      statement = _;
      written = refl;
      resolved = refl;
      same = λ j. library.connect (text_behind target x0 l0 is.0 j) (option_behind user x2 l2 is.2 j) (option_behind password x3 l3 is.3 j) (option_behind name x1 l1 is.1 j);
    }
      where
        x0 : Around
        x0 = (text_option p e.at x).left

        x1 : Around
        x1 = (text_arg p target x0).left

        x2 : Around
        x2 = (text_option p name x1).left

        x3 : Around
        x3 = (text_option p user x2).left

        l0 : (text_option_expr p e.at x.denoted).left ≡ x0.denoted
        l0 = option_left e.at x

        l1 : (text_expr p target (text_option_expr p e.at x.denoted).left).left ≡ x1.denoted
        l1 = text_left_behind target x0 l0

        l2 : (text_option_expr p name (text_expr p target (text_option_expr p e.at x.denoted).left).left).left ≡ x2.denoted
        l2 = option_left_behind name x1 l1

        l3 : (text_option_expr p user (text_option_expr p name (text_expr p target (text_option_expr p e.at x.denoted).left).left).left).left ≡ x3.denoted
        l3 = option_left_behind user x2 l2
    kind_same (set_connection name) e x at_is is = record {
      call = _;
      statement = _;
      written = refl;
      resolved = refl;
      same = λ j. library.set_connection (text_behind name (text_option p e.at x).left (option_left e.at x) is j);
    }
    kind_same (disconnect name) e x at_is is = record {
      call = _;
      statement = _;
      written = refl;
      resolved = refl;
      same = λ j. library.disconnect (text_behind name (text_option p e.at x).left (option_left e.at x) is j);
    }
    kind_same (autocommit on) e x at_is is = record {
      call = _;
      statement = _;
      written = refl;
      resolved = refl;
      same = λ j. library.set_autocommit on (option_same e.at x at_is j);
    }
    kind_same (trans text) e x at_is is = record {
      call = _;
      statement = _;
      written = refl;
      resolved = refl;
      same = λ j. library.control (option_same e.at x at_is j) text;
    }
    kind_same (server_text parts outs) e x at_is is = record {
      call = _;
      statement = _;
      written = refl;
      resolved = refl;
      same =
          (λ j. library.run (option_same e.at x at_is j) (library.normal (sent_from p 1 parts (option_left e.at x j)))
          (seen_as (bound.each_of (part_places p) parts (option_left e.at x j)).made)
          (seen_as (outs_places p outs (bound.each_of (part_places p) parts (option_left e.at x j)).left).made))
          ∙ (λ j. library.run (text_option p e.at x).made (library.normal (sent_from p 1 parts x0.denoted))
          ((parts_same parts x0 is.0 ∙ no_more (map (input_of p.structs) (direct.each_of (part p) parts x0).made)) j)
          (seen_as (outs_places p outs (parts_left parts x0 j)).made))
          ∙ (λ j. library.run (text_option p e.at x).made (library.normal (sent_from p 1 parts x0.denoted))
          (map (input_of p.structs) (direct.each_of (part p) parts x0).made ++ [])
          (outs_same outs (direct.each_of (part p) parts x0).left is.1 j));
    }
      where
        x0 : Around
        x0 = (text_option p e.at x).left
    kind_same (declare_cursor name parts own) e x at_is is = absurd is
    kind_same (open_cursor name ins) e x at_is is = record {
      call = _;
      statement = _;
      written = refl;
      resolved = refl;
      same = λ j. library.run (option_same e.at x at_is j) (opened_same prepared (sent_from p 1 c.parts c.around.denoted) j) (values j) [];
    }
      where
        x0 : Around
        x0 = (text_option p e.at x).left

        c : Cursor
        c = cursor_of prepared d (record e { kind = open_cursor name ins }) x.denoted rs

        hosts : List PlaceData
        hosts = (bound.each_of (part_places p) c.parts c.around.denoted).made

        hosts_there : List (Input Exp)
        hosts_there = (direct.each_of (part p) c.parts c.around).made

        own : Sent Exp
        own = (sent p ins x0).made

        values : seen_as (hosts ++ (ins_places p ins (text_option_expr p e.at x.denoted).left).made)
            ≡ map (input_of p.structs) (hosts_there ++ own.values) ++ area_of p.structs own.area
        values =
            seen_append hosts (ins_places p ins (text_option_expr p e.at x.denoted).left).made
            ∙ (λ j. parts_same c.parts c.around is.0 j ++ seen_as (ins_places p ins (option_left e.at x j)).made)
            ∙ (λ j. map (input_of p.structs) hosts_there ++ ins_same ins x0 is.1 j)
            ∙ sym ((λ j. map_append (input_of p.structs) hosts_there own.values j ++ area_of p.structs own.area)
            ∙ append_assoc (map (input_of p.structs) hosts_there) (map (input_of p.structs) own.values) (area_of p.structs own.area))
    kind_same (execute_immediate text) e x at_is is = record {
      call = _;
      statement = _;
      written = refl;
      resolved = refl;
      same = λ j. library.run (option_same e.at x at_is j) (library.immediate (text_behind text (text_option p e.at x).left (option_left e.at x) is j)) [] [];
    }
    kind_same (prepare name text) e x at_is is = record {
      call = _;
      statement = _;
      written = refl;
      resolved = refl;
      same = λ j. library.prepare (option_same e.at x at_is j) name (text_behind text (text_option p e.at x).left (option_left e.at x) is j);
    }
    kind_same (execute name ins outs) e x at_is is = record {
      call = _;
      statement = _;
      written = refl;
      resolved = refl;
      same =
          (λ j. library.run (option_same e.at x at_is j) (library.prepared name)
          (seen_as (ins_places p ins (option_left e.at x j)).made)
          (seen_as (outs_places p outs (ins_places p ins (option_left e.at x j)).left).made))
          ∙ (λ j. library.run (text_option p e.at x).made (library.prepared name) (ins_same ins x0 is.0 j) (seen_as (outs_places p outs (ins_left ins x0 j)).made))
          ∙ (λ j. library.run (text_option p e.at x).made (library.prepared name) (ins_of p.structs (sent p ins x0).made) (outs_same outs (sent p ins x0).left is.1 j));
    }
      where
        x0 : Around
        x0 = (text_option p e.at x).left
    kind_same (deallocate name) e x at_is is = record {
      call = _;
      statement = _;
      written = refl;
      resolved = refl;
      same = λ j. library.deallocate (option_same e.at x at_is j) name;
    }
    kind_same (allocate_area a) e x at_is is = record {
      call = _;
      statement = _;
      written = refl;
      resolved = refl;
      same = λ j. library.allocate_descriptor (text_behind a (text_option p e.at x).left (option_left e.at x) is j);
    }
    kind_same (free_area a) e x at_is is = record {
      call = _;
      statement = _;
      written = refl;
      resolved = refl;
      same = λ j. library.deallocate_descriptor (text_behind a (text_option p e.at x).left (option_left e.at x) is j);
    }
    kind_same (get_count a h) e x at_is is = from_host (one_host h x1 is.1)
      where
        x0 : Around
        x0 = (text_option p e.at x).left

        x1 : Around
        x1 = (text_arg p a x0).left

        l1 : (text_expr p a (text_option_expr p e.at x.denoted).left).left ≡ x1.denoted
        l1 = text_left_behind a x0 (option_left e.at x)

        from_host : OneOf h x1 (pairs_of p h x1.denoted) → IsCall p g prepared d rs (record e { kind = get_count a h }) x
        from_host o = record {
          call = _;
          statement = gets_count (text_arg p a x0).made o.leaf;
          written = refl;
          resolved = λ j. first_of p (o.are_leaves j) (λ l. gets_count (text_arg p a x0).made l);
          same =
              (λ j. library.get_count (text_behind a x0 (option_left e.at x) is.0 j) (member_with g (member_at 0 (host_places p h (l1 j)).made)))
              ∙ (λ j. library.get_count (text_arg p a x0).made (member_with g (member_at 0 (o.are_places j))))
              ∙ (λ j. library.get_count (text_arg p a x0).made (o.same j));
        }
    kind_same (get_items a index items) e x at_is is = from_input (one_input index x1 is.1)
      where
        x0 : Around
        x0 = (text_option p e.at x).left

        x1 : Around
        x1 = (text_arg p a x0).left

        x2 : Around
        x2 = (input p index x1).left

        name : TextArg Exp
        name = (text_arg p a x0).made

        l1 : (text_expr p a (text_option_expr p e.at x.denoted).left).left ≡ x1.denoted
        l1 = text_left_behind a x0 (option_left e.at x)

        seen_items : List PlaceData → List (ItemMember Exp)
        seen_items ps = map (item_with g) (items_from 0 (kinds_of items) ps)

        from_input : OneInput index x1 → IsCall p g prepared d rs (record e { kind = get_items a index items }) x
        from_input o = record {
          call = _;
          statement = gets_items name o.value (direct.each_of (get_leaves p) items x2).made;
          written = refl;
          resolved = λ j. first_of p (o.are_values j) (λ i. gets_items name i (direct.each_of (get_leaves p) items x2).made);
          same =
              (λ j. library.get_items (text_behind a x0 (option_left e.at x) is.0 j) (member_with g (member_at 0 (input_places p index (l1 j)).made))
              (seen_items (bound.each_of (get_places p) items (input_places p index (l1 j)).left).made))
              ∙ (λ j. library.get_items name (member_with g (member_at 0 (o.are_places j))) (seen_items (bound.each_of (get_places p) items (input_left index x1 j)).made))
              ∙ (λ j. library.get_items name (o.same j) (gets_same items x2 is.2 j));
        }
    kind_same (set_count a value) e x at_is is = from_input (one_input value x1 is.1)
      where
        x0 : Around
        x0 = (text_option p e.at x).left

        x1 : Around
        x1 = (text_arg p a x0).left

        l1 : (text_expr p a (text_option_expr p e.at x.denoted).left).left ≡ x1.denoted
        l1 = text_left_behind a x0 (option_left e.at x)

        from_input : OneInput value x1 → IsCall p g prepared d rs (record e { kind = set_count a value }) x
        from_input o = record {
          call = _;
          statement = sets_count (text_arg p a x0).made o.value;
          written = refl;
          resolved = λ j. first_of p (o.are_values j) (λ i. sets_count (text_arg p a x0).made i);
          same =
              (λ j. library.set_count (text_behind a x0 (option_left e.at x) is.0 j) (member_with g (member_at 0 (input_places p value (l1 j)).made)))
              ∙ (λ j. library.set_count (text_arg p a x0).made (member_with g (member_at 0 (o.are_places j))))
              ∙ (λ j. library.set_count (text_arg p a x0).made (o.same j));
        }
    kind_same (set_items a index items) e x at_is is = from_input (one_input index x1 is.1)
      where
        x0 : Around
        x0 = (text_option p e.at x).left

        x1 : Around
        x1 = (text_arg p a x0).left

        x2 : Around
        x2 = (input p index x1).left

        name : TextArg Exp
        name = (text_arg p a x0).made

        l1 : (text_expr p a (text_option_expr p e.at x.denoted).left).left ≡ x1.denoted
        l1 = text_left_behind a x0 (option_left e.at x)

        further : List PlaceData
        further = (bound.each_of (set_places p) items x2.denoted).made

        called : TextArg Exp → List PlaceData → Call Exp
        called t ps = library.set_items t (member_with g (member_at 0 ps)) (map (item_with g) (items_from 1 (kinds_of items) ps))

        from_input : OneInput index x1 → IsCall p g prepared d rs (record e { kind = set_items a index items }) x
        from_input o = record {
          call = _;
          statement = sets_items name o.value (direct.each_of (set_inputs p) items x2).made;
          written = refl;
          resolved = λ j. first_of p (o.are_values j) (λ i. sets_items name i (direct.each_of (set_inputs p) items x2).made);
          same =
              (λ j. called (text_behind a x0 (option_left e.at x) is.0 j)
              ((input_places p index (l1 j)).made ++ (bound.each_of (set_places p) items (input_places p index (l1 j)).left).made))
              ∙ (λ j. called name (o.are_places j ++ (bound.each_of (set_places p) items (input_left index x1 j)).made))
              ∙ (λ j. library.set_items name (member_with g (member_of o.one)) (map (item_with g) (items_behind 0 (kinds_of items) o.one further j)))
              ∙ (λ j. library.set_items name (o.same j) (sets_same items x2 is.2 j));
        }
    kind_same (whenever condition action) e x at_is is = absurd is
    kind_same include_sqlca e x at_is is = absurd is

    pub call_same : (e : EmbData) (x : Around) → OptionIs p g e.at x
        → KindIs p g e (cursor_of prepared d e x.denoted rs) (text_option p e.at x).left
        → IsCall p g prepared d rs e x
    call_same e x at_is is = kind_same e.kind e x at_is is
