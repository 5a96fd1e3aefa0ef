-- Members that are passed one after the other, as the definition has them.
use Rattle.std.proofs.Common.{◌≡◌, ◌∙◌, ℕ, zero, suc, ◌+◌, ◌<◌, Bool, true, false, List, [], ◌∷◌, length, drop, map, Option, Some, None, is_some, option_map, option_and_then, slice_get, nat_le, if◌then◌else◌, add-one, refl, sym, ap, arith}
use Rattle.std.proofs.lemmas.Bool.{false≢true, true≢false}
use Rattle.ec_ctypes.specs.declared.types.sizes.Shape.{Shape}
use Rattle.ec_ctypes.specs.Layout.{no_members, with_member, offset_behind, shape_among, member_behind}
use Rattle.ec_ctypes.specs.trees.Types.{TyData, MemberData}
use Rattle.ec_language.specs.Letters.{Text, same_text}
use Rattle.ec_meaning_defs.specs.resolved.Resolved.{Exp}
use Rattle.ec_resolving_defs.specs.Operands.{member_at, member_exp, offset_among}
use Rattle.ec_scopes.specs.declared.measures.Measure.{Measure}
use Rattle.ec_scopes.specs.declared.measures.Measure.TheVariants.{Unknown, Within, TooLarge}
use Rattle.ec_scopes.specs.Entries.{named_view}
use Rattle.ec_scopes.specs.Measures.{measured}
use Rattle.ec_scopes.specs.Offsets as kept
use Rattle.ec_typing_defs.specs.Expressions.{Members, typed_members}
use Rattle.ec_typing_defs.specs.Tables.{Named}
use Rattle.ec_typing_defs.specs.Worlds.{World, MembersData, unlisted, begun, listed, members_of, max_size, shapes_in}
use Rattle.ec_resolve_forms.specs.members.Offsets.{found_behind, is_untyped, is_untyped_at, offset_by, offset_from, offset_in, passed_at, passed_shape, passed_type}

-- ---- what is measured

is_unknown : Measure → Bool
is_unknown Unknown = true
is_unknown (Within s) = false
is_unknown TooLarge = false

within : Measure → Option Shape
within Unknown = None
within (Within s) = Some s
within TooLarge = None

is_large : Measure → Bool
is_large Unknown = false
is_large (Within s) = false
is_large TooLarge = true

pub no_shape : (o : Option Shape) → Unknown ≡ measured o → None ≡ o
unfolding is_unknown
no_shape None h = refl
no_shape (Some s) h = by (nat_le s.size max_size) h
  where
    by : (b : Bool) → Unknown ≡ (if b then Within s else TooLarge) → None ≡ Some s
    by true e = absurd (true≢false (ap is_unknown e))
    by false e = absurd (true≢false (ap is_unknown e))

pub some_shape : (o : Option Shape) (t : Shape) → Within t ≡ measured o → Some t ≡ o
unfolding is_unknown within is_large
some_shape None t h = absurd (false≢true (ap is_unknown h))
some_shape (Some s) t h = by (nat_le s.size max_size) h
  where
    by : (b : Bool) → Within t ≡ (if b then Within s else TooLarge) → Some t ≡ Some s
    by true e = ap within e
    by false e = absurd (false≢true (ap is_large e))

-- ---- members

get_map : {A B : Type 0} (f : A → B) (xs : List A) (k : ℕ) → slice_get (map f xs) k ≡ option_map f (slice_get xs k)
get_map f [] k = refl
get_map f (x ∷ xs) zero = refl
get_map f (x ∷ xs) (suc k) = get_map f xs k

-- a member that is read by its number
pub member_read : {V W : Type 0} (f : V → W) (ms : Named V) (k : ℕ) (n : Text) (v : V) → Some n ≡ option_map (λ e. e.0) (slice_get ms k) → Some v ≡ option_map (λ e. e.1) (slice_get ms k) → ◌≡◌ {A = Option (Text × W)} (Some (n, f v)) (slice_get (named_view f ms) k)
member_read {V} {W} f ms k n v name value = by (slice_get ms k) name value ∙ sym (get_map (λ e. (e.0, f e.1)) ms k)
  where
    by : (o : Option (Text × V)) → Some n ≡ option_map (λ e. e.0) o → Some v ≡ option_map (λ e. e.1) o → ◌≡◌ {A = Option (Text × W)} (Some (n, f v)) (option_map (λ e. (e.0, f e.1)) o)
    by None p q = cc
    by (Some e) p q = let a : n ≡ e.0 = cc in let b : v ≡ e.1 = cc in (λ i. Some (a i, f (b i)))

-- there is none of this number
pub none_read : {V W A : Type 0} (f : V → W) (g : Text × V → A) (ms : Named V) (k : ℕ) → None ≡ option_map g (slice_get ms k) → ◌≡◌ {A = Option (Text × W)} None (slice_get (named_view f ms) k)
none_read {V} {W} f g ms k h = by (slice_get ms k) h ∙ sym (get_map (λ e. (e.0, f e.1)) ms k)
  where
    by : (o : Option (Text × V)) → None ≡ option_map g o → ◌≡◌ {A = Option (Text × W)} None (option_map (λ e. (e.0, f e.1)) o)
    by None p = refl
    by (Some e) p = cc

-- one member after the other
offset_next : (shapes : List (Option Shape)) (before : Shape) (name : Text) (ms : Members) (i : ℕ) → i < length ms
    → offset_from shapes before name (drop i ms) ≡ found_behind (passed_at shapes before name (slice_get ms i)) (λ more. offset_from shapes more name (drop (suc i) ms))
offset_next shapes before name [] i lt = absurd (omega (arith, lt))
offset_next shapes before name (m ∷ ms) zero lt = refl
offset_next shapes before name (m ∷ ms) (suc i) lt = offset_next shapes before name ms i (omega (arith, lt))

pub offset_step : (shapes : List (Option Shape)) (before : Shape) (name : Text) (ms : Members) (i : ℕ) → i < length ms
    → offset_from shapes before name (drop i ms) ≡ found_behind (passed_at shapes before name (slice_get ms i)) (λ more. offset_from shapes more name (drop (i + 1) ms))
offset_step shapes before name ms i lt =
    offset_next shapes before name ms i lt ∙ ap (λ n. found_behind (passed_at shapes before name (slice_get ms i)) (λ more. offset_from shapes more name (drop n ms))) (sym (add-one i))

typed_next : (ms : Members) (i : ℕ) → i < length ms → is_some (typed_members (drop i ms)) ≡ (if is_untyped_at (slice_get ms i) then false else is_some (typed_members (drop (suc i) ms)))
typed_next [] i lt = absurd (omega (arith, lt))
typed_next (m ∷ ms) zero lt = by m.1 (typed_members ms)
  where
    by : (o : Option TyData) (l : Option (List MemberData)) → is_some (elim o [ None ↦ None | Some t ↦ option_and_then (λ more. Some ((m.0, t) ∷ more)) l ]) ≡ (if is_untyped o then false else is_some l)
    by None l = refl
    by (Some t) None = refl
    by (Some t) (Some l) = refl
typed_next (m ∷ ms) (suc i) lt = typed_next ms i (omega (arith, lt))

pub typed_step : (ms : Members) (i : ℕ) → i < length ms → is_some (typed_members (drop i ms)) ≡ (if is_untyped_at (slice_get ms i) then false else is_some (typed_members (drop (i + 1) ms)))
typed_step ms i lt = typed_next ms i lt ∙ ap (λ n. if is_untyped_at (slice_get ms i) then false else is_some (typed_members (drop n ms))) (sym (add-one i))

-- where each member has a type, the offset is found by the types and shapes one after the other
offset_law : (shapes : List (Option Shape)) (name : Text) (before : Shape) (ms : Members) → is_some (typed_members ms) ≡ true
    → option_and_then (λ ds. option_map (λ d. d.0) (member_behind shapes before name ds)) (typed_members ms) ≡ offset_from shapes before name ms
offset_law shapes name before [] h = refl
offset_law shapes name before (m ∷ ms) h = by_type m.1 h (λ b e. offset_law shapes name b ms e)
  where
    by_shape : (t : TyData) (ds : List MemberData) (s : Option Shape) (b : Bool) → ((more : Shape) → option_map (λ d. d.0) (member_behind shapes more name ds) ≡ offset_from shapes more name ms)
        → option_map (λ d. d.0) (option_and_then (λ member. if b then Some (offset_behind before.size member, t) else member_behind shapes (with_member before member) name ds) s) ≡ found_behind (passed_shape before b s) (λ more. offset_from shapes more name ms)
    by_shape t ds None true rest = refl
    by_shape t ds None false rest = refl
    by_shape t ds (Some s) true rest = refl
    by_shape t ds (Some s) false rest = rest (with_member before s)

    by_rest : (t : TyData) (l : Option (List MemberData)) → is_some (option_and_then (λ more. Some ((m.0, t) ∷ more)) l) ≡ true
        → ((more : Shape) → is_some l ≡ true → option_and_then (λ ds. option_map (λ d. d.0) (member_behind shapes more name ds)) l ≡ offset_from shapes more name ms)
        → option_and_then (λ ds. option_map (λ d. d.0) (member_behind shapes before name ds)) (option_and_then (λ more. Some ((m.0, t) ∷ more)) l) ≡ found_behind (passed_shape before (same_text m.0 name) (shape_among shapes t)) (λ more. offset_from shapes more name ms)
    by_rest t None e rest = absurd (false≢true e)
    by_rest t (Some ds) e rest = by_shape t ds (shape_among shapes t) (same_text m.0 name) (λ more. rest more refl)

    by_type : (o : Option TyData) → is_some (elim o [ None ↦ None | Some t ↦ option_and_then (λ more. Some ((m.0, t) ∷ more)) (typed_members ms) ]) ≡ true
        → ((more : Shape) → is_some (typed_members ms) ≡ true → option_and_then (λ ds. option_map (λ d. d.0) (member_behind shapes more name ds)) (typed_members ms) ≡ offset_from shapes more name ms)
        → option_and_then (λ ds. option_map (λ d. d.0) (member_behind shapes before name ds)) (elim o [ None ↦ None | Some t ↦ option_and_then (λ more. Some ((m.0, t) ∷ more)) (typed_members ms) ]) ≡ found_behind (passed_type shapes before (same_text m.0 name) o) (λ more. offset_from shapes more name ms)
    by_type None e rest = absurd (false≢true e)
    by_type (Some t) e rest = by_rest t (typed_members ms) e rest

pub all_typed : (shapes : List (Option Shape)) (name : Text) (ms : Members) → is_some (typed_members ms) ≡ true → offset_from shapes no_members name ms ≡ offset_by shapes name ms
all_typed shapes name ms h = sym (offset_law shapes name no_members ms h)

pub some_untyped : (shapes : List (Option Shape)) (name : Text) (ms : Members) → is_some (typed_members ms) ≡ false → None ≡ offset_by shapes name ms
some_untyped shapes name ms h = by (typed_members ms) h
  where
    by : (l : Option (List MemberData)) → is_some l ≡ false → None ≡ option_and_then (λ ds. option_map (λ d. d.0) (member_behind shapes no_members name ds)) l
    by None e = refl
    by (Some ds) e = absurd (true≢false e)

-- the address of a member, by its offset
pub member_found : (w : World) (k : Option ℕ) (name : Text) (e : Exp) → member_at e (offset_in w k name) ≡ member_exp w k name e
member_found w None name e = refl
member_found w (Some k) name e = refl

pub named_length : {V W : Type 0} (f : V → W) (es : Named V) → length (named_view f es) ≡ length es
named_length f [] = refl
named_length f (e ∷ es) = ap suc (named_length f es)

-- an offset that the checks keep
among : (w : World) (name : Text) (o : Option MembersData) → kept.offset_among (shapes_in w) name o ≡ offset_among w name o
among w name None = refl
among w name (Some unlisted) = refl
among w name (Some begun) = refl
among w name (Some (listed ms)) = refl

pub kept_offset : (w : World) (k : ℕ) (name : Text) (offset : ℕ) → kept.offset_among (shapes_in w) name (members_of k w) ≡ Some offset → Some offset ≡ offset_in w (Some k) name
kept_offset w k name offset h = sym h ∙ among w name (members_of k w)
