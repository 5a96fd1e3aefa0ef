-- The types of the members of a flat struct are no deeper than the limit of array lengths.
use Rattle.std.proofs.Common.{◌≡◌, ◌≤◌, ℕ, zero, suc, Bool, true, false, not, List, [], ◌∷◌, length, refl, ap, Option, Some, None, arith, if◌then◌else◌}
use Rattle.ec_base.specs.declared.fault.FaultKind.TheVariants.{F14}
use Rattle.ec_ctypes.specs.trees.Types.{TyData, void, arithmetic, pointer, array, structure}
use Rattle.ec_ctypes.specs.trees.Exprs.{DimList, no_dims, dims, DeclaratorData, declarator, DeclaratorList, no_declarators, declarators, DeclData, decl, DeclList, no_decls, decls}
use Rattle.ec_language.specs.Letters.{Text, same_text}
use Rattle.ec_typing_defs.specs.Expressions.{Members, member_named, has_init, init_parts, is_varchar, varchar_member, base, members, member_decl, member_items, member_item, lengths, last_length, outer_lengths, length_at}
use Rattle.ec_typing_defs.specs.Operands.{pointers, array_of, arrays, declared_type, elements_rule, within_rule, complete_rule}
use Rattle.ec_typing_defs.specs.Tables.{put}
use Rattle.ec_typing_defs.specs.Worlds.{Place, World, Rule, chain, pure, ask, note, demand, place, is_complete}
use Rattle.ec_sim_world_laws.proofs.closing_lemmas.Lists.{false_not}
use Rattle.ec_sim_world_laws.proofs.known_lemmas.EntriesTypes.{is_no_array, IsNoArray, base_gives}
use Rattle.ec_sim_program_laws.specs.types.Flat.{dims_count, MembersAreFlat, DeclIsFlat, ItemsAreFlat, ItemIsFlat}
use Rattle.ec_sim_program_laws.proofs.flat_lemmas.FirstRules.{depth, IsUpTo, AreShort}

-- ---- types

no_depth : (t : TyData) → is_no_array t ≡ true → depth t ≤ 0
no_depth void h = omega arith
no_depth (arithmetic a) h = omega arith
no_depth (pointer t) h = omega arith
no_depth (array t n) h = false_not h
no_depth (structure k) h = omega arith

behind_stars : (stars : ℕ) (t : TyData) → is_no_array t ≡ true → is_no_array (pointers stars t) ≡ true
behind_stars zero t h = h
behind_stars (suc n) t h = behind_stars n (pointer t) refl

array_up : (m : ℕ) (n : Option ℕ) (t : Option TyData) → IsUpTo m t → IsUpTo (suc m) (array_of n t)
array_up m None t h = tt
array_up m (Some n) None h = tt
array_up m (Some n) (Some t) h = omega (arith, h)

arrays_up : (t : TyData) → is_no_array t ≡ true → (ns : List (Option ℕ)) → IsUpTo (length ns) (arrays t ns)
arrays_up t h [] = no_depth t h
arrays_up t h (n ∷ ns) = array_up (length ns) n (arrays t ns) (arrays_up t h ns)

up_to : (n m : ℕ) (t : Option TyData) → n ≤ m → IsUpTo n t → IsUpTo m t
up_to n m None l h = tt
up_to n m (Some t) l h = omega (arith, l, h)

declared_up : (t : Option TyData) (stars : ℕ) (ns : List (Option ℕ)) → IsNoArray t → length ns ≤ 64 → IsUpTo 64 (declared_type t stars ns)
declared_up None stars ns h l = tt
declared_up (Some t) stars ns h l = up_to (length ns) 64 (arrays (pointers stars t) ns) l (arrays_up (pointers stars t) (behind_stars stars t h) ns)

-- ---- members

put_short : (name : Text) (t : Option TyData) (ms : Members) → IsUpTo 64 t → AreShort ms → AreShort (put name t ms)
put_short name t [] p h = (p, tt)
put_short name t (m ∷ ms) p h = by_test (same_text name m.0) (put_short name t ms p h.1)
  where
    by_test : (b : Bool) → AreShort (put name t ms) → AreShort (if b then (m.0, t) ∷ ms else m ∷ put name t ms)
    by_test true rest = (p, h.1)
    by_test false rest = (h.0, rest)

-- one rule or the other
abbrev pick : Bool → Rule (Option TyData) → Rule (Option TyData) → Rule (Option TyData)
pick b m n = elim b [ true ↦ m | false ↦ n ]

complete_up : (at : Place) (t : Option TyData) (w : World) → IsUpTo 64 t → IsUpTo 64 (complete_rule at t w).answer
unfolding complete_rule chain pure ask note
complete_up at None w h = tt
complete_up at (Some t) w h = go (is_complete w t)
  where
    go : (b : Bool) → IsUpTo 64 (pick b (pure (Some t)) (chain (note at F14) (λ _. pure None)) w).answer
    go true = h
    go false = tt

named_short : (at : Place) (name : Text) (t : Option TyData) (ms : Members) (w : World) → IsUpTo 64 t → AreShort ms → AreShort (member_named at name t ms w).answer
unfolding member_named chain pure
named_short at name t ms w p h = put_short name (complete_rule at t (within_rule at t w).world).answer ms (complete_up at t (within_rule at t w).world p) h

lengths_are : (at : Place) (ds : DimList) (w : World) → length (lengths at ds w).answer ≡ dims_count ds
unfolding chain pure
lengths_are at no_dims w = refl
lengths_are at (dims d ds) w = ap suc (lengths_are at ds (length_at at d w).world)

one_further : (n m : ℕ) → n ≤ m → suc n ≤ suc m
one_further n m h = omega (arith, h)

outer_are : (at : Place) (ds : DimList) (w : World) → length (outer_lengths at ds w).answer ≤ dims_count ds
unfolding chain pure
outer_are at no_dims w = omega arith
outer_are at (dims d no_dims) w = omega arith
outer_are at (dims d (dims e ds)) w = one_further (length (outer_lengths at (dims e ds) (length_at at d w).world).answer) (dims_count (dims e ds)) (outer_are at (dims e ds) (length_at at d w).world)

varchar_gives : (at : Place) (n : Option ℕ) (w : World) → IsNoArray (varchar_member at n w).answer
unfolding varchar_member chain pure
varchar_gives at n w = refl

few : (n m : ℕ) → n ≡ m → m ≤ 64 → n ≤ 64
few n m e h = omega (arith, e, h)

fewer : (n m : ℕ) → n ≤ m → m ≤ 64 → n ≤ 64
fewer n m e h = omega (arith, e, h)

-- behind three rules, whatever they do
tail_short : {A B C : Type 0} (at : Place) (name : Text) (t : Option TyData) (ms : Members) (k : Rule A) (l : Rule B) (m : Rule C) (w : World) → IsUpTo 64 t → AreShort ms
    → AreShort (chain k (λ a. chain l (λ b. chain m (λ c. member_named at name t ms))) w).answer
unfolding chain
tail_short at name t ms k l m w p h = named_short at name t ms (m (l (k w).world).world).world p h

item_short : (at : Place) (v : Bool) (t : Option TyData) (d : DeclaratorData) (ms : Members) (w : World) → IsNoArray t → ItemIsFlat d → AreShort ms → AreShort (member_item at v t d ms w).answer
unfolding chain
item_short at false t (declarator stars name ns init) ms w b f h =
    let x = lengths at ns w in
    tail_short at name (declared_type t stars x.answer) ms (elements_rule at t stars x.answer) (demand at F14 (not (has_init init))) (init_parts at init) x.world
    (declared_up t stars x.answer b (few (length x.answer) (dims_count ns) (lengths_are at ns w) f.0)) h
item_short at true t (declarator stars name ns init) ms w b f h =
    let x = last_length at ns w in
    let own = varchar_member at x.answer x.world in
    let y = outer_lengths at ns own.world in
    tail_short at name (declared_type own.answer stars y.answer) ms (elements_rule at own.answer stars y.answer) (demand at F14 (not (has_init init))) (init_parts at init) y.world
    (declared_up own.answer stars y.answer (varchar_gives at x.answer x.world) (fewer (length y.answer) (dims_count ns) (outer_are at ns own.world) f.0)) h

items_short : (at : Place) (v : Bool) (t : Option TyData) (ds : DeclaratorList) (ms : Members) (w : World) → IsNoArray t → ItemsAreFlat ds → AreShort ms → AreShort (member_items at v t ds ms w).answer
unfolding chain pure
items_short at v t no_declarators ms w b f h = h
items_short at v t (declarators d ds) ms w b f h =
    let y = member_item at v t d ms w in
    items_short at v t ds y.answer y.world b f.1 (item_short at v t d ms w b f.0 h)

decl_short : (d : DeclData) (ms : Members) (w : World) → DeclIsFlat d → AreShort ms → AreShort (member_decl d ms w).answer
unfolding chain
decl_short (decl b items section line) ms w f h =
    let p = place line w in
    let t = base p.answer b p.world in
    items_short p.answer (is_varchar b) t.answer items ms t.world (base_gives p.answer b p.world) f.1 h

pub members_short : (ds : DeclList) (ms : Members) (w : World) → MembersAreFlat ds → AreShort ms → AreShort (members ds ms w).answer
unfolding chain pure
members_short no_decls ms w f h = h
members_short (decls d ds) ms w f h = let y = member_decl d ms w in members_short ds y.answer y.world f.1 (decl_short d ms w f.0 h)
