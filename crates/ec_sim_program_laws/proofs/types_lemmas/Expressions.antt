-- Expressions have types where nothing is wrong, and so do types and declarators in them.
use Rattle.std.proofs.Common.{◌≡◌, ◌∙◌, ℕ, zero, suc, ◌≤◌, Bool, true, false, List, [], ◌∷◌, ◌++◌, length, Option, Some, None, refl, sym, ap, subst, slice_set, option_map, arith, if◌then◌else◌}
use Rattle.std.specs.Prelude.{option_and_then}
use Rattle.std.proofs.lemmas.Bool.{false≢true}
use Rattle.ec_base.specs.declared.fault.FaultKind.TheVariants.{F10, F11, F14, F16}
use Rattle.ec_base.specs.declared.fault.LimitKind.TheVariants.{L1}
use Rattle.ec_ctypes.specs.declared.tree.expr.UnOp.{UnOp}
use Rattle.ec_ctypes.specs.declared.tree.expr.UnOp.TheVariants.{Addr, Deref, Plus, Minus, Not, Flip}
use Rattle.ec_ctypes.specs.trees.Types.{TyData, pointer, structure}
use Rattle.ec_ctypes.specs.trees.Exprs.{ExprData, integer, character, string, identifier, unary, binary, assign, bump, call, call_other, index, member, arrow, cast, size_type, size_expr, ExprList, no_exprs, exprs, BaseData, words, varchar, tagged, struct_base, DimData, open_dim, dim, DimList, no_dims, dims, InitData, one, many, InitList, no_inits, inits, InitOption, no_init, some_init, DeclaratorData, declarator, DeclaratorList, no_declarators, declarators, DeclData, decl, DeclList, no_decls, decls}
use Rattle.ec_ctypes.specs.Layout.{struct_shape}
use Rattle.ec_language.specs.Letters.{Text, same_text}
use Rattle.ec_host_defs.specs.sections.Lengths.{ends_in_length}
use Rattle.ec_typing_defs.specs.Tables.{find, put}
use Rattle.ec_typing_defs.specs.Known.{ArgumentsData, all_expressions, is_identifier, is_no_expression}
use Rattle.ec_typing_defs.specs.Types.{word_types, type_in_rows, same_words, words_type}
use Rattle.ec_typing_defs.specs.Operands.{OperandData, value_rule, unary_rule, pointers, array_of, arrays, declared_type}
use Rattle.ec_typing_defs.specs.Worlds.{Place, MembersData, unlisted, begun, listed, StructInfo, Rule, World, chain, pure, ask, change, note, new_struct, set_struct, struct_named, members_of, shapes_in, is_listed, with_tag}
use Rattle.ec_typing_defs.specs.Expressions.{Members, varchar_members, capacity, varchar_info, closed_struct, type_or_fault, tag_type, tag_rule, tagged_struct, begin_again, begin_by, begin_struct, end_struct, member_named, is_varchar, varchar_struct, varchar_object, varchar_member, expr, args, base, members, member_decl, member_items, member_item, lengths, last_length, outer_lengths, length_at, init_parts, init_exprs, all_init_exprs, typed_members}
use Rattle.ec_sim_world_laws.specs.growth.Growth.{Grows, is_unlisted}
use Rattle.ec_sim_world_laws.proofs.growth_lemmas.Rules as growth
use Rattle.ec_sim_world_laws.proofs.growth_lemmas.Expressions as grown
use Rattle.ec_sim_world_laws.specs.closing.Closing.{IsTyped, members_at}
use Rattle.ec_sim_world_laws.proofs.closing_lemmas.Lists.{some_is, set_here, get_last}
use Rattle.ec_sim_world_laws.proofs.closing_lemmas.Rules.{there, keep_same, free_tag_same}
use Rattle.ec_sim_program_laws.specs.types.Flat.{max_lengths, dims_count}
use Rattle.ec_sim_program_laws.specs.types.Types.{max_nesting}
use Rattle.ec_sim_program_laws.proofs.types_lemmas.Fits.{Fits, FitAll, FitsBase, SomeDecls, FitMembers, HasDeclarators, FitsDecl, FitItems, FitsItem, FitDims, FitsDim, FitsInit, FitsPart, FitParts}
use Rattle.ec_sim_program_laws.proofs.types_lemmas.Structs.{depth, GoodIn, AllGood, SomeGood, GoodStruct, GoodStructs, some_all, all_stay, struct_stays, one_more, one_set, not_listed, stay_in_front, stay_but, has_shape, struct_shaped}
use Rattle.ec_sim_program_laws.proofs.types_lemmas.Rules.{Sound, Shallow, stays_by, Any, NoMore, Typing, both_none, chained, from, to, Stays, beside, carried, constant, pure_types, asked_any, fault, demand_types, place_types, chosen, free_name_types, change_types}
use Rattle.ec_sim_program_laws.proofs.types_lemmas.Operands.{HasType, BothTyped, name_has, value_has, address_has, unary_has, binary_has, index_has, assign_has, compound_has, bump_has, call_has, member_has, arrow_has, cast_has, size_has, IsLength, length_is, within_kept, elements_kept, WholeIn, complete_kept}

-- ---- types by words and tags

-- a type that is no array
abbrev pub IsAtom : Option TyData → Type 0
IsAtom None = ⊥
IsAtom (Some t) = depth t ≡ zero

abbrev AllAtoms : List (List Text × TyData) → Type 0
AllAtoms [] = Unit {0}
AllAtoms (r ∷ rs) = (depth r.1 ≡ zero) × AllAtoms rs

-- where words make a type
abbrev IsAtomIf : Option TyData → Type 0
IsAtomIf None = Unit {0}
IsAtomIf (Some t) = depth t ≡ zero

rows_atom : (rs : List (List Text × TyData)) (ws : List Text) → AllAtoms rs → IsAtomIf (type_in_rows rs ws)
rows_atom [] ws h = tt
rows_atom (r ∷ rs) ws h = go (same_words r.0 ws) (rows_atom rs ws h.1)
  where
    go : (b : Bool) → IsAtomIf (type_in_rows rs ws) → IsAtomIf (if b then Some r.1 else type_in_rows rs ws)
    go true rest = h.0
    go false rest = rest

words_atoms : AllAtoms word_types
words_atoms = (refl, (refl, (refl, (refl, (refl, (refl, (refl, (refl, (refl, (refl, (refl, (refl, (refl, (refl, (refl, (refl, (refl, (refl, (refl, (refl, (refl, (refl, (refl, (refl, (refl, (refl, (refl, (refl, tt))))))))))))))))))))))))))))

fault_or_type : (at : Place) (t : Option TyData) → IsAtomIf t → Typing Any (λ w s. IsAtom s) (type_or_fault at t)
unfolding type_or_fault
fault_or_type at (Some t) h = pure_types (Some t) (λ w r. h)
fault_or_type at None h = fault at F14 None

tag_is : (at : Place) (k : Option ℕ) → Typing Any (λ w s. IsAtom s) (tag_type at k)
tag_is at (Some k) = pure_types (Some (structure k)) (λ w r. refl)
tag_is at None = fault at F11 None

tag_has : (at : Place) (t : Text) → Typing Any (λ w s. IsAtom s) (tag_rule at t)
unfolding tag_rule
tag_has at t = asked_any _ _ (λ k. tag_is at k)

-- ---- types of declarators

-- a type with so many arrays in one another at most
abbrev pub IsWithin : ℕ → Option TyData → Type 0
IsWithin n None = ⊥
IsWithin n (Some t) = depth t ≤ n

abbrev pub AllSome : List (Option ℕ) → Type 0
AllSome [] = Unit {0}
AllSome (None ∷ ns) = ⊥
AllSome (Some n ∷ ns) = AllSome ns

-- so many lengths at most, and each is known
abbrev pub AreSizes : ℕ → List (Option ℕ) → Type 0
AreSizes n ns = AllSome ns × (length ns ≤ n)

more_within : (n m : ℕ) (o : Option TyData) → IsWithin n o → IsWithin (suc n) (array_of (Some m) o)
more_within n m None h = h
more_within n m (Some t) h = omega (arith, h)

arrays_within : (t : TyData) → depth t ≡ zero → (ns : List (Option ℕ)) → AllSome ns → IsWithin (length ns) (arrays t ns)
arrays_within t e [] h = omega (arith, e)
arrays_within t e (None ∷ ns) h = absurd h
arrays_within t e (Some n ∷ ns) h = more_within (length ns) n (arrays t ns) (arrays_within t e ns h)

pointers_atom : (n : ℕ) (t : TyData) → depth t ≡ zero → depth (pointers n t) ≡ zero
pointers_atom zero t e = e
pointers_atom (suc n) t e = pointers_atom n (pointer t) refl

wider : (m n : ℕ) (o : Option TyData) → m ≤ n → IsWithin m o → IsWithin n o
wider m n None l h = h
wider m n (Some t) l h = omega (arith, l, h)

pub declared_within : (t : Option TyData) (stars : ℕ) (ns : List (Option ℕ)) → IsAtom t → AllSome ns → IsWithin (length ns) (declared_type t stars ns)
declared_within None stars ns a h = absurd a
declared_within (Some t) stars ns a h = arrays_within (pointers stars t) (pointers_atom stars t a) ns h

pub declared_flat : (t : Option TyData) (stars n : ℕ) (ns : List (Option ℕ)) → IsAtom t → AreSizes n ns → n ≤ max_lengths → IsWithin max_nesting (declared_type t stars ns)
declared_flat t stars n ns a h l = wider n max_nesting (declared_type t stars ns) (omega (arith, l)) (wider (length ns) n (declared_type t stars ns) h.1 (declared_within t stars ns a h.0))

pub within_typed : (n : ℕ) (o : Option TyData) → IsWithin n o → IsTyped o
within_typed n None h = h
within_typed n (Some t) h = tt

pub atom_typed : (stars : ℕ) (t : Option TyData) → IsAtom t → IsTyped (declared_type t stars [])
atom_typed stars t a = within_typed zero (declared_type t stars []) (declared_within t stars [] a tt)

-- ---- structs

begun_not : (ts : List StructInfo) (info : StructInfo) → info.members ≡ begun → (ms : Members) → info.members ≡ listed ms → GoodStruct ts info ms
begun_not ts info e = not_listed ts info (ap (λ m. is_listed (Some m)) e)

-- one struct more whose members are not listed
more_sound : (info : StructInfo) (w : World) → is_listed (Some info.members) ≡ false → Sound w → Sound (record w { structs = w.structs ++ info ∷ [] })
more_sound info w e sound = record { here = sound.here; outer = sound.outer; structs = one_more w.structs info (not_listed (w.structs ++ info ∷ []) info e) sound.structs }

members_last : (ss : List StructInfo) (info : StructInfo) → members_at (ss ++ info ∷ []) (length ss) ≡ Some info.members
members_last ss info = ap (option_map (λ s. s.members)) (get_last ss info)

-- a struct whose members are being listed
pub record Begun (w : World) (k : ℕ) : Type 0 where
  pub sound : Sound w
  pub now : members_at w.structs k ≡ Some begun

tagged_begun : (t : Text) (w : World) → Sound w → Begun (tagged_struct t begun w).world (tagged_struct t begun w).answer
unfolding tagged_struct chain new_struct change pure
tagged_begun t w sound = record {
  sound = let s = more_sound (struct_named (Some t) begun) w refl sound in record { here = s.here; outer = s.outer; structs = s.structs };
  now = members_last w.structs (struct_named (Some t) begun);
}

-- a tag alone
pub tagged_sound : (t : Text) → Typing Any NoMore (tagged_struct t unlisted)
unfolding tagged_struct chain new_struct change pure
tagged_sound t = record {
  growing = grown.tagged_grows t unlisted;
  rows = λ w. refl;
  types = λ w sound r found shallow. (let s = more_sound (struct_named (Some t) unlisted) w refl sound in record { here = s.here; outer = s.outer; structs = s.structs }, tt);
}

set_begins : (at : Place) (t : Text) (k : ℕ) (w : World) → members_of k w ≡ Some unlisted → Sound w → Begun (begin_again at t k (Some unlisted) w).world (begin_again at t k (Some unlisted) w).answer
unfolding chain set_struct change pure
set_begins at t k w is sound = record {
  sound = record { here = sound.here; outer = sound.outer; structs = one_set w.structs k (struct_named (Some t) begun) is refl (not_listed (slice_set w.structs k (struct_named (Some t) begun)) (struct_named (Some t) begun) refl) sound.structs };
  now = ap (option_map (λ s. s.members)) (set_here w.structs k (struct_named (Some t) begun) (there w.structs k unlisted is).is);
}

anew : (at : Place) (t : Text) (w : World) → Sound w → Begun (chain (note at F10) (λ u. tagged_struct t begun) w).world (chain (note at F10) (λ u. tagged_struct t begun) w).answer
unfolding chain note
anew at t w sound = tagged_begun t w sound

again_begun : (at : Place) (t : Text) (k : ℕ) (w : World) (ms : Option MembersData) → members_of k w ≡ ms → Sound w → Begun (begin_again at t k ms w).world (begin_again at t k ms w).answer
again_begun at t k w (Some unlisted) is sound = set_begins at t k w is sound
again_begun at t k w (Some begun) is sound = anew at t w sound
again_begun at t k w (Some (listed ms)) is sound = anew at t w sound
again_begun at t k w None is sound = anew at t w sound

by_begun : (at : Place) (t : Text) (k : Option ℕ) (w : World) → Sound w → Begun (begin_by at t k w).world (begin_by at t k w).answer
unfolding chain ask
by_begun at t None w sound = tagged_begun t w sound
by_begun at t (Some k) w sound = again_begun at t k w (members_of k w) refl sound

struct_begun : (at : Place) (t : Option Text) (w : World) → Sound w → Begun (begin_struct at t w).world (begin_struct at t w).answer
unfolding begin_struct new_struct chain ask
struct_begun at None w sound = record { sound = more_sound (struct_named None begun) w refl sound; now = members_last w.structs (struct_named None begun) }
struct_begun at (Some t) w sound = subst (λ z. Begun (begin_by at t (find t z.here.tags) z).world (begin_by at t (find t z.here.tags) z).answer) (sym (free_tag_same at t w)) (by_begun at t (find t w.here.tags) w sound)

-- the struct that these members give
closed_good : (t : Option Text) (k : ℕ) (ms : Members) (y : World) → Begun y k → SomeGood y.structs ms
    → GoodStructs (slice_set y.structs k (closed_struct t ms (option_and_then (struct_shape (shapes_in y)) (typed_members ms)) y))
closed_good t k ms y b good = one_set y.structs k info b.now refl new b.sound.structs
  where
    info : StructInfo
    info = closed_struct t ms (option_and_then (struct_shape (shapes_in y)) (typed_members ms)) y

    here : GoodStruct y.structs info ms
    here = record { good = good; first = refl; shape = has_shape info (struct_shaped y.structs b.sound.structs ms good) }

    new : (ns : Members) → info.members ≡ listed ns → GoodStruct (slice_set y.structs k info) info ns
    new ns are = subst (λ xs. GoodStruct (slice_set y.structs k info) info xs) (members_same are)
        (struct_stays y.structs (slice_set y.structs k info) (stay_but y.structs k info (ap is_listed b.now)) info ms here)
      where
        members_same : {ms ns : Members} → listed ms ≡ listed ns → ms ≡ ns
        members_same {ms} {ns} e = λ j. members_or (e j)
          where
            members_or : MembersData → Members
            members_or unlisted = ms
            members_or begun = ms
            members_or (listed os) = os

end_sound : (at : Place) (t : Option Text) (k : ℕ) (ms : Members) (y : World) → Begun y k → SomeGood y.structs ms → Sound (end_struct at t k ms y).world × IsAtom (end_struct at t k ms y).answer
unfolding end_struct chain ask set_struct change pure
end_sound at t k ms y b good =
    (subst (λ z. Sound z) (sym (keep_same at L1 _ _)) (record { here = b.sound.here; outer = b.sound.outer; structs = closed_good t k ms y b good }), refl)

end_rows : (at : Place) (t : Option Text) (k : ℕ) (ms : Members) (y : World) → (end_struct at t k ms y).world.denoted ≡ y.denoted
unfolding end_struct chain ask set_struct change pure
end_rows at t k ms y = ap (λ z. z.denoted) (keep_same at L1 _ _)

again_rows : (at : Place) (t : Text) (k : ℕ) (ms : Option MembersData) (w : World) → (begin_again at t k ms w).world.denoted ≡ w.denoted
unfolding chain note set_struct change pure tagged_struct new_struct
again_rows at t k (Some unlisted) w = refl
again_rows at t k (Some begun) w = refl
again_rows at t k (Some (listed ms)) w = refl
again_rows at t k None w = refl

by_rows : (at : Place) (t : Text) (k : Option ℕ) (w : World) → (begin_by at t k w).world.denoted ≡ w.denoted
unfolding chain ask change pure tagged_struct new_struct
by_rows at t None w = refl
by_rows at t (Some k) w = again_rows at t k (members_of k w) w

begin_rows : (at : Place) (t : Option Text) (w : World) → (begin_struct at t w).world.denoted ≡ w.denoted
unfolding begin_struct new_struct chain ask
begin_rows at None w = refl
begin_rows at (Some t) w = subst (λ z. (begin_by at t (find t z.here.tags) z).world.denoted ≡ w.denoted) (sym (free_tag_same at t w)) (by_rows at t (find t w.here.tags) w)

-- what begins with few types there does so here
end_shallow : (at : Place) (t : Option Text) (k : ℕ) (ms : Members) (y : World) → members_at y.structs k ≡ Some begun → Shallow (end_struct at t k ms y).world → Shallow y
unfolding end_struct chain ask set_struct change pure
end_shallow at t k ms y now shallow j info is e = (subst (λ z. Shallow z) (keep_same at L1 _ _) shallow) j info (stay_but y.structs k _ (ap is_listed now) j (ap (λ o. is_listed (option_map (λ s. s.members) o)) is ∙ e) ∙ is) e

-- ---- members

-- these members have types
abbrev pub AreGood : Members → World → Type 0
AreGood ms w = AllGood w.structs ms

abbrev pub SomeAreGood : World → Members → Type 0
SomeAreGood w ms = SomeGood w.structs ms

good_stay : (ms : Members) → Stays (AreGood ms)
good_stay ms w z g h = all_stay w.structs z.structs (stays_by g) ms h

put_good : (ss : List StructInfo) (name : Text) (t : Option TyData) (ms : Members) → GoodIn ss t → AllGood ss ms → SomeGood ss (put name t ms)
put_good ss name t [] g h = (g, tt)
put_good ss name t (m ∷ ms) g h = go (same_text name m.0) (some_all ss (put name t ms) (put_good ss name t ms g h.1))
  where
    go : (b : Bool) → AllGood ss (put name t ms) → SomeGood ss (if b then (m.0, t) ∷ ms else m ∷ put name t ms)
    go true rest = (g, h.1)
    go false rest = (h.0, rest)

good_of : (ss : List StructInfo) (t s : Option TyData) → s ≡ t → WholeIn ss s → IsWithin max_nesting t → GoodIn ss s
good_of ss t None e h l = h
good_of ss t (Some s) e h l = (h, subst (IsWithin max_nesting) (sym e) l)

named_good : (at : Place) (name : Text) (t : Option TyData) (ms : Members) → Typing (λ w. AreGood ms w × IsWithin max_nesting t) SomeAreGood (member_named at name t ms)
unfolding member_named
named_good at name t ms =
    chained (within_kept at t) (λ u. chained (from (λ w r. (within_typed max_nesting t r.1, r)) (complete_kept at t)) (λ s. chained (demand_types _ _ _) (λ v. chained (free_name_types at name) (λ x.
    pure_types _ (λ w r. put_good w.structs name s ms (good_of w.structs t s r.0 r.1.0 r.1.1.1) r.1.1.0)))))

-- ---- VARCHAR

varchar_some : (n : Option ℕ) → IsLength n → (ss : List StructInfo) → SomeGood ss (varchar_members (capacity n))
varchar_some None h ss = absurd h
varchar_some (Some zero) h ss = absurd h
varchar_some (Some (suc n)) h ss = ((tt, omega arith), ((tt, omega arith), tt))

varchar_sound : (at : Place) (t : Option Text) (n : Option ℕ) (w : World) → IsLength n → Sound w → Sound (varchar_struct at t n w).world
unfolding varchar_struct chain ask new_struct change pure
varchar_sound at t n w l sound = subst (λ z. Sound z) (sym (keep_same at L1 _ _)) (record { here = sound.here; outer = sound.outer; structs = one_more w.structs info new sound.structs })
  where
    info : StructInfo
    info = varchar_info t (capacity n) w

    here : GoodStruct w.structs info (varchar_members (capacity n))
    here = record { good = varchar_some n l w.structs; first = refl; shape = has_shape info (struct_shaped w.structs sound.structs (varchar_members (capacity n)) (varchar_some n l w.structs)) }

    members_same : {ms ns : Members} → listed ms ≡ listed ns → ms ≡ ns
    members_same {ms} {ns} e = λ j. members_or (e j)
      where
        members_or : MembersData → Members
        members_or unlisted = ms
        members_or begun = ms
        members_or (listed os) = os

    new : (ns : Members) → info.members ≡ listed ns → GoodStruct (w.structs ++ info ∷ []) info ns
    new ns are = subst (λ xs. GoodStruct (w.structs ++ info ∷ []) info xs) (members_same are)
        (struct_stays w.structs (w.structs ++ info ∷ []) (stay_in_front w.structs (info ∷ [])) info (varchar_members (capacity n)) here)

varchar_grows : (at : Place) (t : Option Text) (n : Option ℕ) → growth.Growing (varchar_struct at t n)
unfolding varchar_struct
varchar_grows at t n = growth.asked _ _ (λ info. growth.chained (growth.new_struct_grows _) (λ k. growth.chained (growth.close_grows k) (λ a. growth.chained (growth.keep_grows _ _ _) (λ b. growth.pure_grows _))))

varchar_rows : (at : Place) (t : Option Text) (n : Option ℕ) (w : World) → (varchar_struct at t n w).world.denoted ≡ w.denoted
unfolding varchar_struct chain ask new_struct change pure
varchar_rows at t n w = ap (λ z. z.denoted) (keep_same at L1 _ _)

varchar_types : (at : Place) (t : Option Text) (n : Option ℕ) → Typing (λ w. IsLength n) NoMore (varchar_struct at t n)
varchar_types at t n = record { growing = varchar_grows at t n; rows = varchar_rows at t n; types = λ w sound r found shallow. (varchar_sound at t n w r sound, tt) }

retagged : (t : Text) (k : ℕ) → Typing Any NoMore (change (with_tag t k))
retagged t k = change_types _ (growth.names_grow _ (λ w. refl)) (λ w. refl) (λ w sound r. (record { here = sound.here; outer = sound.outer; structs = sound.structs }, tt))

pub object_varchar : (at : Place) (name : Text) (n : Option ℕ) → Typing (λ w. IsLength n) (λ w t. IsAtom t) (varchar_object at name n)
unfolding varchar_object
object_varchar at name n = chained (varchar_types at _ n) (λ k. asked_any _ _ (λ before. chained (retagged _ k) (λ a. chained (demand_types _ _ _) (λ b. pure_types _ (λ w r. refl)))))

member_varchar : (at : Place) (n : Option ℕ) → Typing (λ w. IsLength n) (λ w t. IsAtom t) (varchar_member at n)
unfolding varchar_member
member_varchar at n = chained (varchar_types at _ n) (λ k. pure_types _ (λ w r. refl))

-- ---- the parts

pub valued : {R : World → Type 0} (at : Place) {m : Rule OperandData} → Typing R HasType m → Typing R HasType (chain m (value_rule at))
valued at h = chained h (λ o. value_has at o)

unary_by : (at : Place) (op : UnOp) {m : Rule OperandData} → Typing Any HasType m → Typing Any HasType (chain (chain m (value_rule at)) (unary_rule at op))
unary_by at op h = chained (valued at h) (λ o. unary_has at op o)

-- with a type that was found before
also : (x : OperandData) {m : Rule OperandData} → Typing Any HasType m → Typing (λ w. IsTyped x.type) (λ w y. BothTyped x y w) m
also x h = carried (λ w. IsTyped x.type) (constant (IsTyped x.type)) h

-- a base, which is VARCHAR only where a declaration declares one
abbrev pub IsBase : Bool → Option TyData → Type 0
IsBase true t = Unit {0}
IsBase false t = IsAtom t

base_atom : (b : Bool) (t : Option TyData) → b ≡ false → IsBase b t → IsAtom t
base_atom true t e h = absurd (false≢true (sym e))
base_atom false t e h = h

pub plain_base : (b : BaseData) {m : Rule (Option TyData)} → is_varchar b ≡ false → Typing Any (λ w t. IsBase (is_varchar b) t) m → Typing Any (λ w t. IsAtom t) m
plain_base b e h = to (λ w t r. base_atom (is_varchar b) t e r) h

-- a length that is known, or left out
abbrev pub IsTypedLength : Option ℕ → Type 0
IsTypedLength None = ⊥
IsTypedLength (Some n) = Unit {0}

length_typed : (n : Option ℕ) → IsLength n → IsTypedLength n
length_typed None h = h
length_typed (Some n) h = tt

-- what has nothing to do with what is known holds behind it, too
with_base : (X : Type 0) {R : World → Type 0} {m : Rule Members} → Typing R SomeAreGood m → Typing (λ w. X × R w) (λ w more. SomeGood w.structs more × X) m
with_base X h = to (λ w more r. (r.1, r.0)) (beside (λ w. X) (constant X) h)

sizes_more : (k : ℕ) (n : Option ℕ) (ns : List (Option ℕ)) → IsTypedLength n → AreSizes k ns → AreSizes (suc k) (n ∷ ns)
sizes_more k None ns h s = absurd h
sizes_more k (Some n) ns h s = (s.0, omega (arith, s.1))

-- Its members are looked at, and then it is closed.
struct_has : (at : Place) (t : Option Text) (ds : DeclList) → Typing (AreGood []) SomeAreGood (members ds []) → Typing Any (λ w s. IsAtom s) (base at (struct_base t ds))
unfolding chain
struct_has at t ds h = record {
  growing = grown.base_grows at (struct_base t ds);
  rows = λ w.
      let b = begin_struct at t w in
      let y = members ds [] b.world in
      end_rows at t b.answer y.answer y.world ∙ h.rows b.world ∙ begin_rows at t w;
  types = λ w sound r found shallow.
      let b = begin_struct at t w in
      let y = members ds [] b.world in
      let begins = struct_begun at t w sound in
      let e = both_none b.found (y.found ++ (end_struct at t b.answer y.answer y.world).found) found in
      let f = both_none y.found (end_struct at t b.answer y.answer y.world).found e.1 in
      let still = still_begun b.world y.world b.answer (h.growing.grows b.world) begins.now in
      go w b.answer y.answer y.world (h.types b.world begins.sound tt f.0) still shallow;
}
  where
    still_begun : (w z : World) (k : ℕ) → Grows w z → members_at w.structs k ≡ Some begun → members_at z.structs k ≡ Some begun
    still_begun w z k g e = let x = there w.structs k begun e in ap (option_map (λ s. s.members)) (g.structs k x.info x.is (ap is_unlisted (some_is x.are))) ∙ x.are

    go : (w : World) (k : ℕ) (ms : Members) (y : World) → (Shallow y → Sound y × SomeGood y.structs ms) → members_at y.structs k ≡ Some begun → Shallow (end_struct at t k ms y).world
        → Sound (end_struct at t k ms y).world × IsAtom (end_struct at t k ms y).answer
    go w k ms y f still shallow = let p = f (end_shallow at t k ms y still shallow) in end_sound at t k ms y (record { sound = p.0; now = still }) p.1

mutual
  pub expr_has : (at : Place) (e : ExprData) → Fits e → Typing Any HasType (expr at e)
  expr_has at (integer n t) h = pure_types _ (λ w r. tt)
  expr_has at (character c) h = pure_types _ (λ w r. tt)
  expr_has at (string s) h = pure_types _ (λ w r. tt)
  expr_has at (identifier x) h = name_has at x
  expr_has at (unary Addr e) h = chained (expr_has at e h) (λ o. address_has at o)
  expr_has at (unary Deref e) h = unary_by at Deref (expr_has at e h)
  expr_has at (unary Plus e) h = unary_by at Plus (expr_has at e h)
  expr_has at (unary Minus e) h = unary_by at Minus (expr_has at e h)
  expr_has at (unary Not e) h = unary_by at Not (expr_has at e h)
  expr_has at (unary Flip e) h = unary_by at Flip (expr_has at e h)
  expr_has at (binary op a b) h = chained (valued at (expr_has at a h.0)) (λ x. chained (also x (valued at (expr_has at b h.1))) (λ y. binary_has at op x y))
  expr_has at (assign None a b) h = chained (expr_has at a h.0) (λ x. chained (also x (valued at (expr_has at b h.1))) (λ y. assign_has at x y))
  expr_has at (assign (Some op) a b) h = chained (expr_has at a h.0) (λ x. chained (also x (valued at (expr_has at b h.1))) (λ y. compound_has at op x y))
  expr_has at (bump before up e) h = chained (expr_has at e h) (λ o. bump_has at o)
  expr_has at (call f es) h = asked_any _ _ (λ forms. chained (args_have at forms es h) (λ os. call_has at f es os))
  expr_has at (call_other f es) h =
      chained (chosen (is_identifier f) (pure_types {P = NoMore} _ (λ w r. tt)) (from (λ w r. tt) (to (λ w o r. tt) (expr_has at f h.0)))) (λ a. chained (args_have at all_expressions es h.1) (λ os. fault at F16 _))
  expr_has at (index a b) h = chained (valued at (expr_has at a h.0)) (λ x. chained (also x (valued at (expr_has at b h.1))) (λ y. index_has at x y))
  expr_has at (member e m) h = chained (expr_has at e h) (λ o. member_has at o m)
  expr_has at (arrow e m) h = chained (valued at (expr_has at e h)) (λ o. arrow_has at o m)
  expr_has at (cast b stars e) h =
      chained (plain_base b h.0 (base_has at b h.1)) (λ t. chained (carried (λ w. IsAtom t) (constant (IsAtom t)) (expr_has at e h.2)) (λ o. from (λ w r. (atom_typed stars t r.0, r.1)) (cast_has at (declared_type t stars []) o)))
  expr_has at (size_type b stars) h = chained (plain_base b h.0 (base_has at b h.1)) (λ t. from (λ w r. atom_typed stars t r) (size_has at (declared_type t stars [])))
  expr_has at (size_expr e) h = chained (expr_has at e h) (λ o. size_has at o.type)

  pub args_have : (at : Place) (forms : ArgumentsData) (es : ExprList) → FitAll es → Typing Any NoMore (args at forms es)
  args_have at forms no_exprs h = pure_types _ (λ w r. tt)
  args_have at forms (exprs e es) h =
      chained (chosen (is_no_expression forms e) (pure_types {P = NoMore} _ (λ w r. tt)) (from (λ w r. tt) (to (λ w o r. tt) (valued at (expr_has at e h.0))))) (λ o. chained (args_have at _ es h.1) (λ os. pure_types _ (λ w r. tt)))

  pub base_has : (at : Place) (b : BaseData) → FitsBase b → Typing Any (λ w t. IsBase (is_varchar b) t) (base at b)
  base_has at (words ws) h = fault_or_type at (words_type ws) (rows_atom word_types ws words_atoms)
  base_has at varchar h = pure_types _ (λ w r. tt)
  base_has at (tagged t) h = tag_has at t
  base_has at (struct_base t ds) h = struct_has at t ds (members_begin ds h.0 h.1)

  -- from no members
  members_begin : (ds : DeclList) → SomeDecls ds → FitMembers ds → Typing (AreGood []) SomeAreGood (members ds [])
  members_begin no_decls s h = absurd s
  members_begin (decls d ds) s h = chained (decl_good d [] h.0 h.1) (λ more. members_good ds more h.2)

  members_good : (ds : DeclList) (ms : Members) → FitMembers ds → Typing (λ w. SomeGood w.structs ms) SomeAreGood (members ds ms)
  members_good no_decls ms h = pure_types ms (λ w r. r)
  members_good (decls d ds) ms h = chained (from (λ w r. some_all w.structs ms r) (decl_good d ms h.0 h.1)) (λ more. members_good ds more h.2)

  decl_good : (d : DeclData) (ms : Members) → HasDeclarators d → FitsDecl d → Typing (AreGood ms) SomeAreGood (member_decl d ms)
  decl_good (decl b no_declarators section line) ms s h = absurd s
  decl_good (decl b (declarators d ds) section line) ms s h =
      chained (carried (AreGood ms) (good_stay ms) (place_types line)) (λ at. chained (from (λ w r. (r.0, tt)) (beside (AreGood ms) (good_stay ms) (base_has at b h.0))) (λ t.
      chained (item_good at (is_varchar b) t d ms h.1.0) (λ more. items_good at (is_varchar b) t ds more h.1.1)))

  items_good : (at : Place) (v : Bool) (t : Option TyData) (ds : DeclaratorList) (ms : Members) → FitItems v ds → Typing (λ w. SomeGood w.structs ms × IsBase v t) SomeAreGood (member_items at v t ds ms)
  items_good at v t no_declarators ms h = pure_types ms (λ w r. r.0)
  items_good at v t (declarators d ds) ms h = chained (from (λ w r. (some_all w.structs ms r.0, r.1)) (item_good at v t d ms h.0)) (λ more. items_good at v t ds more h.1)

  -- its base is known behind it, too
  item_good : (at : Place) (v : Bool) (t : Option TyData) (d : DeclaratorData) (ms : Members) → FitsItem v d → Typing (λ w. AreGood ms w × IsBase v t) (λ w more. SomeGood w.structs more × IsBase v t) (member_item at v t d ms)
  item_good at false t (declarator stars name ns init) ms h =
      chained (carried (λ w. AreGood ms w × IsAtom t) (λ w z g r. (good_stay ms w z g r.0, r.1)) (lengths_have at ns h.2)) (λ sizes. chained (elements_kept at t stars sizes) (λ u. chained (demand_types _ _ _) (λ v.
      chained (carried (λ w. (AreGood ms w × IsAtom t) × AreSizes (dims_count ns) sizes) (λ w z g r. ((good_stay ms w z g r.0.0, r.0.1), r.1)) (init_parts_have at init h.3)) (λ x.
      from (λ w r. (r.0.0.1, (r.0.0.0, declared_flat t stars (dims_count ns) sizes r.0.0.1 r.0.1 h.1))) (with_base (IsAtom t) (named_good at name (declared_type t stars sizes) ms))))))
  item_good at true t (declarator stars name ns init) ms h =
      chained (from (λ w r. r.0) (carried (AreGood ms) (good_stay ms) (last_is at ns h.0 h.2))) (λ n. chained (beside (AreGood ms) (good_stay ms) (member_varchar at n)) (λ own.
      chained (carried (λ w. AreGood ms w × IsAtom own) (λ w z g r. (good_stay ms w z g r.0, r.1)) (outer_have at ns h.2)) (λ sizes. chained (elements_kept at own stars sizes) (λ u. chained (demand_types _ _ _) (λ v.
      chained (carried (λ w. (AreGood ms w × IsAtom own) × AreSizes (dims_count ns) sizes) (λ w z g r. ((good_stay ms w z g r.0.0, r.0.1), r.1)) (init_parts_have at init h.3)) (λ x.
      from (λ w r. (tt, (r.0.0.0, declared_flat own stars (dims_count ns) sizes r.0.0.1 r.0.1 h.1))) (with_base (Unit {0}) (named_good at name (declared_type own stars sizes) ms))))))))

  pub lengths_have : (at : Place) (ds : DimList) → FitDims ds → Typing Any (λ w ns. AreSizes (dims_count ds) ns) (lengths at ds)
  lengths_have at no_dims h = pure_types [] (λ w r. (tt, omega arith))
  lengths_have at (dims d ds) h =
      chained (length_has at d h.0) (λ n. chained (carried (λ w. IsTypedLength n) (constant (IsTypedLength n)) (lengths_have at ds h.1)) (λ ns. pure_types (n ∷ ns) (λ w r. sizes_more (dims_count ds) n ns r.0 r.1)))

  pub last_is : (at : Place) (ds : DimList) → ends_in_length ds ≡ true → FitDims ds → Typing Any (λ w n. IsLength n) (last_length at ds)
  last_is at no_dims e h = absurd (false≢true e)
  last_is at (dims open_dim no_dims) e h = absurd (false≢true e)
  last_is at (dims (dim a) no_dims) e h = chained (valued at (expr_has at a h.0)) (λ o. length_is at o)
  last_is at (dims d (dims c ds)) e h = last_is at (dims c ds) e h.1

  pub outer_have : (at : Place) (ds : DimList) → FitDims ds → Typing Any (λ w ns. AreSizes (dims_count ds) ns) (outer_lengths at ds)
  outer_have at no_dims h = pure_types [] (λ w r. (tt, omega arith))
  outer_have at (dims d no_dims) h = pure_types [] (λ w r. (tt, omega arith))
  outer_have at (dims d (dims e ds)) h =
      chained (length_has at d h.0) (λ n. chained (carried (λ w. IsTypedLength n) (constant (IsTypedLength n)) (outer_have at (dims e ds) h.1)) (λ ns. pure_types (n ∷ ns) (λ w r. sizes_more (dims_count (dims e ds)) n ns r.0 r.1)))

  length_has : (at : Place) (d : DimData) → FitsDim d → Typing Any (λ w n. IsTypedLength n) (length_at at d)
  length_has at open_dim h = pure_types (Some 0) (λ w r. tt)
  length_has at (dim e) h = to (λ w n r. length_typed n r) (chained (valued at (expr_has at e h)) (λ o. length_is at o))

  init_parts_have : (at : Place) (i : InitOption) → FitsInit i → Typing Any NoMore (init_parts at i)
  init_parts_have at no_init h = pure_types tt (λ w r. tt)
  init_parts_have at (some_init i) h = init_exprs_have at i h

  init_exprs_have : (at : Place) (i : InitData) → FitsPart i → Typing Any NoMore (init_exprs at i)
  init_exprs_have at (one e) h = chained (valued at (expr_has at e h)) (λ o. pure_types tt (λ w r. tt))
  init_exprs_have at (many is) h = all_inits_have at is h

  all_inits_have : (at : Place) (is : InitList) → FitParts is → Typing Any NoMore (all_init_exprs at is)
  all_inits_have at no_inits h = pure_types tt (λ w r. tt)
  all_inits_have at (inits i is) h = chained (init_exprs_have at i h.0) (λ u. all_inits_have at is h.1)
