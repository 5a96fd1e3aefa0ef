-- Structs stay closed in their order by the rules that others are put together from, and by rules that are put together so.
use Rattle.std.proofs.Common.{◌≡◌, ◌⊎◌, inl, inr, ℕ, Bool, true, false, List, [], ◌∷◌, ◌++◌, refl, sym, ap, subst, ◌∙◌, Option, Some, None, if◌then◌else◌, length, slice_get, slice_set, option_map}
use Rattle.std.specs.Prelude.{option_and_then}
use Rattle.ec_base.specs.declared.fault.FaultKind.{FaultKind}
use Rattle.ec_base.specs.declared.fault.LimitKind.{LimitKind}
use Rattle.ec_base.specs.declared.line.Line.{Line}
use Rattle.ec_ctypes.specs.trees.Types.{TyData}
use Rattle.ec_ctypes.specs.Layout.{struct_shape}
use Rattle.ec_language.specs.Letters.{Text}
use Rattle.ec_typing_defs.specs.Worlds.{Place, EntryData, MembersData, unlisted, begun, listed, is_listed, StructInfo, ScopeData, World, Rule, chain, pure, ask, change, note, demand, keep_within, instead, place, left_to, enter, leave, scoped, declare, know_better, declare_label, free_name, free_tag, number_as, new_struct}
use Rattle.ec_typing_defs.specs.Expressions.{Members, typed_members}
use Rattle.ec_sim_world_laws.specs.place.Structs.{IsAmong, EachMember}
use Rattle.ec_sim_world_laws.specs.closing.Closing.{AreDistinct, AreSized, members_at, shapes_at, IsInOrder, StructsInOrder, AreInTheirOrder}
use Rattle.ec_sim_world_laws.proofs.closing_lemmas.Lists.{none_not, false_not, get_behind, get_front, get_last, none_at_end, set_elsewhere, set_here, among_front, among_last}
use Rattle.ec_sim_world_laws.proofs.closing_lemmas.Orders.{each_member, Same, shape_same, ListedStay, closed_stay, one_closed, closed_listed}

-- ---- what is known

-- the structs are in their order there, what was closed is so, and a struct whose members are being listed further out stays so
pub record Kept (w z : World) : Type 0 where
  pub order : AreInTheirOrder z
  pub being : (k : ℕ) → members_at w.structs k ≡ Some begun → members_at z.structs k ≡ Some begun
  pub among : (k : ℕ) → IsAmong w.closed k → IsAmong z.closed k

pub kept_itself : (w : World) → AreInTheirOrder w → Kept w w
kept_itself w order = record { order = order; being = λ k e. e; among = λ k e. e }

pub kept_further : (w x z : World) → Kept w x → Kept x z → Kept w z
kept_further w x z p q = record {
  order = q.order;
  being = λ k e. q.being k (p.being k e);
  among = λ k e. q.among k (p.among k e);
}

-- by the rule, wherever it stands
pub record Keeping {A : Type 0} (m : Rule A) : Type 0 where
  pub keeps : (w : World) → AreInTheirOrder w → Kept w (m w).world

pub chained : {A B : Type 0} {m : Rule A} {f : A → Rule B} → Keeping m → ((a : A) → Keeping (f a)) → Keeping (chain m f)
unfolding chain
chained {m = m} {f = f} h k = record {
  keeps = λ w order.
      let p = h.keeps w order in
      kept_further w (m w).world (f (m w).answer (m w).world).world p ((k (m w).answer).keeps (m w).world p.order);
}

pub pure_keeps : {A : Type 0} (a : A) → Keeping (pure a)
unfolding pure
pure_keeps a = record { keeps = kept_itself }

ask_keeps : {A : Type 0} (g : World → A) → Keeping (ask g)
unfolding ask
ask_keeps g = record { keeps = kept_itself }

pub asked : {A B : Type 0} (g : World → A) (f : A → Rule B) → ((a : A) → Keeping (f a)) → Keeping (chain (ask g) f)
asked g f k = chained (ask_keeps g) k

note_keeps : (at : Place) (kind : FaultKind) → Keeping (note at kind)
unfolding note
note_keeps at kind = record { keeps = kept_itself }

pub noted : {A : Type 0} (at : Place) (kind : FaultKind) (m : Rule A) → Keeping m → Keeping (chain (note at kind) (λ u. m))
noted at kind m h = chained (note_keeps at kind) (λ u. h)

pub fault : {A : Type 0} (at : Place) (kind : FaultKind) (a : A) → Keeping (chain (note at kind) (λ u. pure a))
fault at kind a = noted at kind (pure a) (pure_keeps a)

pub demand_keeps : (at : Place) (kind : FaultKind) (b : Bool) → Keeping (demand at kind b)
unfolding demand
demand_keeps at kind true = pure_keeps tt
demand_keeps at kind false = note_keeps at kind

pub keep_keeps : (at : Place) (kind : LimitKind) (b : Bool) → Keeping (keep_within at kind b)
unfolding keep_within
keep_keeps at kind true = pure_keeps tt
keep_keeps at kind false = record { keeps = kept_itself }

pub instead_keeps : (at : Place) (kind : FaultKind) (m : Rule (Unit {0})) → Keeping m → Keeping (instead at kind m)
unfolding instead
instead_keeps at kind m h = record { keeps = h.keeps }

pub change_keeps : (g : World → World) → ((w : World) → AreInTheirOrder w → Kept w (g w)) → Keeping (change g)
unfolding change
change_keeps g k = record { keeps = k }

-- a world of which other parts change
pub named_anew : (w : World) (here : ScopeData) (outer : List ScopeData) (labels : _) (places : ℕ) → AreInTheirOrder w → Kept w (record w { here = here; outer = outer; labels = labels; places = places })
named_anew w here outer labels places order = record { order = order; being = λ k e. e; among = λ k e. e }

pub names_keep : (g : World → World) → ((w : World) → g w ≡ record w { here = (g w).here; outer = (g w).outer; labels = (g w).labels; places = (g w).places }) → Keeping (change g)
names_keep g is = change_keeps g (λ w order. subst (λ z. Kept w z) (sym (is w)) (named_anew w (g w).here (g w).outer (g w).labels (g w).places order))

pub place_keeps : (line : Line) → Keeping (place line)
unfolding place
place_keeps line = record { keeps = λ w order. named_anew w w.here w.outer w.labels _ order }

pub chosen : {A : Type 0} (b : Bool) {x y : Rule A} → Keeping x → Keeping y → Keeping (elim b [ true ↦ x | false ↦ y ])
chosen true h k = h
chosen false h k = k

pub decided : {A : Type 0} (b : Bool) {x y : Rule A} → Keeping x → Keeping y → Keeping (if b then x else y)
decided true h k = h
decided false h k = k

pub if_some : {A B : Type 0} (o : Option A) {x : Rule B} {f : A → Rule B} → Keeping x → ((a : A) → Keeping (f a)) → Keeping (elim o [ None ↦ x | Some a ↦ f a ])
if_some None h k = h
if_some (Some a) h k = k a

-- ---- scopes

pub enter_keeps : Keeping enter
unfolding enter
enter_keeps = names_keep _ (λ w. refl)

pub leave_keeps : Keeping leave
unfolding leave
leave_keeps = change_keeps _ (λ w order. go w w.outer order)
  where
    go : (w : World) (ss : List ScopeData) → AreInTheirOrder w → Kept w (left_to ss w)
    go w [] order = named_anew w _ _ w.labels w.places order
    go w (s ∷ ss) order = named_anew w _ _ w.labels w.places order

pub scoped_keeps : {m : Rule (Unit {0})} → Keeping m → Keeping (scoped m)
scoped_keeps h = chained enter_keeps (λ a. chained h (λ b. leave_keeps))

pub free_name_keeps : (at : Place) (name : Text) → Keeping (free_name at name)
unfolding free_name
free_name_keeps at name = demand_keeps _ _ _

pub free_tag_keeps : (at : Place) (tag : Text) → Keeping (free_tag at tag)
unfolding free_tag
free_tag_keeps at tag = asked _ _ (λ reserved. demand_keeps _ _ _)

pub declare_keeps : (at : Place) (name : Text) (entry : EntryData) → Keeping (declare at name entry)
unfolding declare
declare_keeps at name entry = asked _ _ (λ before. chained (names_keep _ (λ w. refl)) (λ a. chained (demand_keeps _ _ _) (λ b. free_name_keeps at name)))

pub better_keeps : (name : Text) (entry : EntryData) → Keeping (know_better name entry)
unfolding know_better
better_keeps name entry = names_keep _ (λ w. refl)

pub label_keeps : (at : Place) (name : Text) → Keeping (declare_label at name)
unfolding declare_label
label_keeps at name = asked _ _ (λ before. chained (names_keep _ (λ w. refl)) (λ a. chained (demand_keeps _ _ _) (λ b. free_name_keeps at name)))

-- ---- declarations and structs

pub number_keeps : (t : TyData) → Keeping (number_as t)
unfolding number_as
number_keeps t = change_keeps _ (λ w order. record { order = order; being = λ k e. e; among = λ k e. e })

pub demand_same : (at : Place) (kind : FaultKind) (b : Bool) (w : World) → (demand at kind b w).world ≡ w
unfolding demand note pure
demand_same at kind true w = refl
demand_same at kind false w = refl

pub keep_same : (at : Place) (kind : LimitKind) (b : Bool) (w : World) → (keep_within at kind b w).world ≡ w
unfolding keep_within pure
keep_same at kind true w = refl
keep_same at kind false w = refl

pub free_tag_same : (at : Place) (tag : Text) (w : World) → (free_tag at tag w).world ≡ w
unfolding free_tag chain ask
free_tag_same at tag w = demand_same _ _ _ _

-- ---- lists of structs that change

pub record There (ss : List StructInfo) (k : ℕ) (ms : MembersData) : Type 0 where
  pub info : StructInfo
  pub is : slice_get ss k ≡ Some info
  pub are : Some info.members ≡ Some ms

pub there : (ss : List StructInfo) (k : ℕ) (ms : MembersData) → members_at ss k ≡ Some ms → There ss k ms
there ss k ms e = go (slice_get ss k) refl e
  where
    go : (o : Option StructInfo) → slice_get ss k ≡ o → option_map (λ s. s.members) o ≡ Some ms → There ss k ms
    go None is e = none_not e
    go (Some info) is e = record { info = info; is = is; are = e }

-- a struct that is listed
listed_front : (ss more : List StructInfo) (k : ℕ) → is_listed (members_at ss k) ≡ true → slice_get (ss ++ more) k ≡ slice_get ss k
listed_front ss more k e = go (slice_get ss k) refl e
  where
    go : (o : Option StructInfo) → slice_get ss k ≡ o → is_listed (option_map (λ s. s.members) o) ≡ true → slice_get (ss ++ more) k ≡ slice_get ss k
    go None is e = false_not e
    go (Some info) is e = get_front ss more k is ∙ sym is

pub begun_front : (ss more : List StructInfo) (k : ℕ) → members_at ss k ≡ Some begun → members_at (ss ++ more) k ≡ Some begun
begun_front ss more k e = let t = there ss k begun e in ap (option_map (λ s. s.members)) (get_front ss more k t.is) ∙ t.are

members_last : (ss : List StructInfo) (info : StructInfo) → members_at (ss ++ info ∷ []) (length ss) ≡ Some info.members
members_last ss info = ap (option_map (λ s. s.members)) (get_last ss info)

-- one struct more, whose members are not listed
one_more : (ss : List StructInfo) (closed : List ℕ) (info : StructInfo) → is_listed (Some info.members) ≡ false → StructsInOrder ss closed → StructsInOrder (ss ++ info ∷ []) closed
one_more ss closed info not_so order = record {
  closed = closed_stay ss (ss ++ info ∷ []) (listed_front ss (info ∷ [])) closed order.closed;
  listed = λ j e. go j e (get_behind ss info j);
}
  where
    go : (j : ℕ) → is_listed (members_at (ss ++ info ∷ []) j) ≡ true → (slice_get (ss ++ info ∷ []) j ≡ slice_get ss j) ⊎ (j ≡ length ss) → IsAmong closed j
    go j e (inl same) = order.listed j (sym (ap (λ o. is_listed (option_map (λ s. s.members) o)) same) ∙ e)
    go j e (inr is) = false_not (sym not_so ∙ sym (ap is_listed (members_last ss info)) ∙ sym (ap (λ i. is_listed (members_at (ss ++ info ∷ []) i)) is) ∙ e)

-- one struct more, which is closed at once
one_more_closed : (ss : List StructInfo) (closed : List ℕ) (info : StructInfo) → StructsInOrder ss closed → IsInOrder (ss ++ info ∷ []) closed (length ss)
    → StructsInOrder (ss ++ info ∷ []) (closed ++ length ss ∷ [])
one_more_closed ss closed info order one = record {
  closed = one_closed (ss ++ info ∷ []) closed (length ss) (closed_stay ss (ss ++ info ∷ []) (listed_front ss (info ∷ [])) closed order.closed) one;
  listed = λ j e. go j e (get_behind ss info j);
}
  where
    go : (j : ℕ) → is_listed (members_at (ss ++ info ∷ []) j) ≡ true → (slice_get (ss ++ info ∷ []) j ≡ slice_get ss j) ⊎ (j ≡ length ss) → IsAmong (closed ++ length ss ∷ []) j
    go j e (inl same) = among_front closed (length ss ∷ []) j (order.listed j (sym (ap (λ o. is_listed (option_map (λ s. s.members) o)) same) ∙ e))
    go j e (inr is) = subst (λ i. IsAmong (closed ++ length ss ∷ []) i) (sym is) (among_last closed (length ss))

-- What holds of the members so far: no two have one name, their types have sizes, and in them lie structs that are closed.
pub record Good (closed : List ℕ) (ms : Members) : Type 0 where
  pub distinct : AreDistinct ms
  pub sized : AreSized ms
  pub inside : EachMember (IsAmong closed) ms

-- the struct that such members give, behind one more
pub new_in_order : (ss : List StructInfo) (closed : List ℕ) (info : StructInfo) (ms : Members) → StructsInOrder ss closed → Good closed ms
    → info.members ≡ listed ms → info.shape ≡ option_and_then (struct_shape (shapes_at ss)) (typed_members ms) → StructsInOrder (ss ++ info ∷ []) (closed ++ length ss ∷ [])
new_in_order ss closed info ms order good are is_shape = one_more_closed ss closed info order (record {
  info = info;
  is = get_last ss info;
  members = ms;
  are = are;
  distinct = good.distinct;
  sized = good.sized;
  inside = good.inside;
  is_shape = is_shape
      ∙ sym (shape_same ss (ss ++ info ∷ []) ms (each_member (IsAmong closed) (Same ss (ss ++ info ∷ [])) (λ j a. listed_front ss (info ∷ []) j (closed_listed ss closed order.closed j a)) ms good.inside));
})

-- a struct that is set to something else, where it was not listed
set_stay : (ss : List StructInfo) (k : ℕ) (info : StructInfo) → is_listed (members_at ss k) ≡ false → ListedStay ss (slice_set ss k info)
set_stay ss k info not_so j e = go (set_elsewhere ss k j info)
  where
    go : (slice_get (slice_set ss k info) j ≡ slice_get ss j) ⊎ (j ≡ k) → slice_get (slice_set ss k info) j ≡ slice_get ss j
    go (inl same) = same
    go (inr is) = false_not (sym not_so ∙ sym (ap (λ i. is_listed (members_at ss i)) is) ∙ e)

members_here : (ss : List StructInfo) (k : ℕ) (info : StructInfo) {ms : MembersData} → There ss k ms → members_at (slice_set ss k info) k ≡ Some info.members
members_here ss k info t = ap (option_map (λ s. s.members)) (set_here ss k info t.is)

-- its members begin
pub set_begun : (ss : List StructInfo) (closed : List ℕ) (k : ℕ) (info : StructInfo) → info.members ≡ begun → members_at ss k ≡ Some unlisted
    → StructsInOrder ss closed → StructsInOrder (slice_set ss k info) closed
set_begun ss closed k info begins e order = record {
  closed = closed_stay ss (slice_set ss k info) (set_stay ss k info (ap is_listed e)) closed order.closed;
  listed = λ j h. go j h (set_elsewhere ss k j info);
}
  where
    go : (j : ℕ) → is_listed (members_at (slice_set ss k info) j) ≡ true → (slice_get (slice_set ss k info) j ≡ slice_get ss j) ⊎ (j ≡ k) → IsAmong closed j
    go j h (inl same) = order.listed j (sym (ap (λ o. is_listed (option_map (λ s. s.members) o)) same) ∙ h)
    go j h (inr is) = false_not
        (sym (ap (λ m. is_listed (Some m)) begins) ∙ sym (ap is_listed (members_here ss k info (there ss k unlisted e))) ∙ sym (ap (λ i. is_listed (members_at (slice_set ss k info) i)) is) ∙ h)

-- Its members are these, and it is closed.
pub set_closed : (ss : List StructInfo) (closed : List ℕ) (k : ℕ) (info : StructInfo) (ms : Members) → members_at ss k ≡ Some begun → StructsInOrder ss closed → Good closed ms
    → info.members ≡ listed ms → info.shape ≡ option_and_then (struct_shape (shapes_at ss)) (typed_members ms) → StructsInOrder (slice_set ss k info) (closed ++ k ∷ [])
set_closed ss closed k info ms e order good are is_shape = record {
  closed = one_closed (slice_set ss k info) closed k (closed_stay ss (slice_set ss k info) stay closed order.closed) (record {
    info = info;
    is = set_here ss k info (there ss k begun e).is;
    members = ms;
    are = are;
    distinct = good.distinct;
    sized = good.sized;
    inside = good.inside;
    is_shape = is_shape ∙ sym (shape_same ss (slice_set ss k info) ms (each_member (IsAmong closed) (Same ss (slice_set ss k info)) (λ j a. stay j (closed_listed ss closed order.closed j a)) ms good.inside));
  });
  listed = λ j h. go j h (set_elsewhere ss k j info);
}
  where
    stay : ListedStay ss (slice_set ss k info)
    stay = set_stay ss k info (ap is_listed e)

    go : (j : ℕ) → is_listed (members_at (slice_set ss k info) j) ≡ true → (slice_get (slice_set ss k info) j ≡ slice_get ss j) ⊎ (j ≡ k) → IsAmong (closed ++ k ∷ []) j
    go j h (inl same) = among_front closed (k ∷ []) j (order.listed j (sym (ap (λ o. is_listed (option_map (λ s. s.members) o)) same) ∙ h))
    go j h (inr is) = subst (λ i. IsAmong (closed ++ k ∷ []) i) (sym is) (among_last closed k)

-- ---- structs that are begun here

unfoldable pub is_begun : Option MembersData → Bool
is_begun None = false
is_begun (Some unlisted) = false
is_begun (Some begun) = true
is_begun (Some (listed ms)) = false

-- the members of this struct are being listed there, and were not so here
pub record Begins (w z : World) (k : ℕ) : Type 0 where
  pub kept : Kept w z
  pub now : members_at z.structs k ≡ Some begun
  pub before : is_begun (members_at w.structs k) ≡ false

pub record Beginning (m : Rule ℕ) : Type 0 where
  pub begins : (w : World) → AreInTheirOrder w → Begins w (m w).world (m w).answer

pub new_struct_keeps : (info : StructInfo) → is_listed (Some info.members) ≡ false → Keeping (new_struct info)
unfolding new_struct
new_struct_keeps info not_so = record {
  keeps = λ w order. record { order = one_more w.structs w.closed info not_so order; being = λ k e. begun_front w.structs (info ∷ []) k e; among = λ k e. e };
}

pub new_struct_begins : (info : StructInfo) → info.members ≡ begun → Beginning (new_struct info)
unfolding new_struct is_begun
new_struct_begins info is = record {
  begins = λ w order. record {
    kept = (new_struct_keeps info (ap (λ m. is_listed (Some m)) is)).keeps w order;
    now = members_last w.structs info ∙ ap (λ m. Some m) is;
    before = ap (λ o. is_begun (option_map (λ s. s.members) o)) (none_at_end w.structs);
  };
}

pub begins_then : {A : Type 0} {m : Rule ℕ} {f : ℕ → Rule A} → Beginning m → ((k : ℕ) → Keeping (f k)) → Beginning (chain m (λ k. chain (f k) (λ a. pure k)))
unfolding chain pure
begins_then {m = m} {f = f} b h = record {
  begins = λ w order.
      let p = b.begins w order in
      let q = (h (m w).answer).keeps (m w).world p.kept.order in
      record { kept = kept_further w (m w).world (f (m w).answer (m w).world).world p.kept q; now = q.being (m w).answer p.now; before = p.before };
}

pub asked_begins : {A : Type 0} (g : World → A) (f : A → Rule ℕ) → ((a : A) → Beginning (f a)) → Beginning (chain (ask g) f)
unfolding chain ask
asked_begins g f k = record { begins = λ w order. (k (g w)).begins w order }

pub noted_begins : (at : Place) (kind : FaultKind) (m : Rule ℕ) → Beginning m → Beginning (chain (note at kind) (λ u. m))
unfolding chain note
noted_begins at kind m b = record { begins = b.begins }

-- behind a rule that leaves what is known as it is
pub begins_behind : {A : Type 0} (m : Rule A) (f : A → Rule ℕ) → ((w : World) → (m w).world ≡ w) → ((a : A) → Beginning (f a)) → Beginning (chain m f)
unfolding chain
begins_behind m f same k = record {
  begins = λ w order. subst (λ z. Begins z (f (m w).answer (m w).world).world (f (m w).answer (m w).world).answer) (same w)
      ((k (m w).answer).begins (m w).world (subst (λ z. AreInTheirOrder z) (sym (same w)) order));
}

-- ---- members that are gathered

pub record Gathered (w z : World) (ms : Members) : Type 0 where
  pub kept : Kept w z
  pub good : Good z.closed ms

-- a rule that adds members to these
pub record Gathering (ms : Members) (m : Rule Members) : Type 0 where
  pub gathers : (w : World) → AreInTheirOrder w → Good w.closed ms → Gathered w (m w).world (m w).answer

pub good_further : (w z : World) (ms : Members) → Kept w z → Good w.closed ms → Good z.closed ms
good_further w z ms p g = record { distinct = g.distinct; sized = g.sized; inside = each_member (IsAmong w.closed) (IsAmong z.closed) p.among ms g.inside }

pub good_none : (closed : List ℕ) → Good closed []
good_none closed = record { distinct = tt; sized = tt; inside = tt }

pub pure_gathers : (ms : Members) → Gathering ms (pure ms)
unfolding pure
pure_gathers ms = record { gathers = λ w order good. record { kept = kept_itself w order; good = good } }

-- behind another rule
pub gathers_behind : {A : Type 0} {ms : Members} {m : Rule A} {f : A → Rule Members} → Keeping m → ((a : A) → Gathering ms (f a)) → Gathering ms (chain m f)
unfolding chain
gathers_behind {ms = ms} {m = m} {f = f} h k = record {
  gathers = λ w order good.
      let p = h.keeps w order in
      let q = (k (m w).answer).gathers (m w).world p.order (good_further w (m w).world ms p good) in
      record { kept = kept_further w (m w).world (f (m w).answer (m w).world).world p q.kept; good = q.good };
}

pub gathers_more : {ms : Members} {m : Rule Members} {f : Members → Rule Members} → Gathering ms m → ((more : Members) → Gathering more (f more)) → Gathering ms (chain m f)
unfolding chain
gathers_more {ms = ms} {m = m} {f = f} h k = record {
  gathers = λ w order good.
      let p = h.gathers w order good in
      let q = (k (m w).answer).gathers (m w).world p.kept.order p.good in
      record { kept = kept_further w (m w).world (f (m w).answer (m w).world).world p.kept q.kept; good = q.good };
}

-- Its members are looked at, and then it is closed.
pub struct_keeps : {A : Type 0} (m : Rule ℕ) (f : Rule Members) (g : ℕ → Members → Rule A) → Beginning m → Gathering [] f
    → ((k : ℕ) (ms : Members) (w y : World) → is_begun (members_at w.structs k) ≡ false → members_at y.structs k ≡ Some begun → Kept w y → Good y.closed ms → Kept w (g k ms y).world)
    → Keeping (chain m (λ k. chain f (g k)))
unfolding chain
struct_keeps m f g b h c = record {
  keeps = λ w order.
      let p = b.begins w order in
      let k = (m w).answer in
      let q = h.gathers (m w).world p.kept.order (good_none (m w).world.closed) in
      let y = f (m w).world in
      c k y.answer w y.world p.before (q.kept.being k p.now) (kept_further w (m w).world y.world p.kept q.kept) q.good;
}
