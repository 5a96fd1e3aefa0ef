-- What is known grows by the rules that others are put together from, and by rules that are put together so.
use Rattle.std.proofs.Common.{◌≡◌, ◌⊎◌, inl, inr, ℕ, zero, suc, Bool, true, false, List, [], ◌∷◌, ◌++◌, refl, sym, ap, subst, ◌∙◌, append_assoc, append-nil, Option, Some, None, if◌then◌else◌}
use Rattle.std.specs.Prelude.{length, slice_get, slice_set}
use Rattle.std.proofs.lemmas.Bool.{false≢true}
use Rattle.ec_base.specs.declared.fault.FaultKind.{FaultKind}
use Rattle.ec_base.specs.declared.fault.LimitKind.{LimitKind}
use Rattle.ec_base.specs.declared.line.Line.{Line}
use Rattle.ec_ctypes.specs.trees.Types.{TyData}
use Rattle.ec_language.specs.Letters.{Text}
use Rattle.ec_typing_defs.specs.Worlds.{Place, EntryData, StructInfo, ScopeData, World, Rule, chain, pure, ask, change, note, demand, keep_within, instead, place, left_to, enter, leave, scoped, declare, know_better, declare_label, free_name, free_tag, number_as, new_struct}
use Rattle.ec_meaning_defs.specs.observed.Run.{IsFront}
use Rattle.ec_sim_world_laws.specs.growth.Growth.{is_unlisted, Grows}

-- ---- lists

pub begins_itself : {A : Type 0} (xs : List A) → IsFront xs xs
begins_itself xs = record { rest = []; same = sym (append-nil xs) }

pub begins_joined : {A : Type 0} (xs more : List A) → IsFront xs (xs ++ more)
begins_joined xs more = record { rest = more; same = refl }

pub begins_further : {A : Type 0} (xs ys zs : List A) → IsFront xs ys → IsFront ys zs → IsFront xs zs
begins_further xs ys zs p q = record {
  rest = p.rest ++ q.rest;
  same = q.same ∙ ap (λ front. front ++ q.rest) p.same ∙ append_assoc xs p.rest q.rest;
}

pub stays_in_front : {A : Type 0} (xs more : List A) (k : ℕ) (x : A) → slice_get xs k ≡ Some x → slice_get (xs ++ more) k ≡ Some x
stays_in_front [] more k x e = absurd (cc)
stays_in_front (y ∷ ys) more zero x e = e
stays_in_front (y ∷ ys) more (suc k) x e = stays_in_front ys more k x e

pub none_at_end : {A : Type 0} (xs : List A) → slice_get xs (length xs) ≡ None
none_at_end [] = refl
none_at_end (x ∷ xs) = none_at_end xs

pub set_elsewhere : {A : Type 0} (xs : List A) (k j : ℕ) (y : A) → (slice_get (slice_set xs k y) j ≡ slice_get xs j) ⊎ (j ≡ k)
set_elsewhere [] k j y = inl refl
set_elsewhere (x ∷ xs) zero zero y = inr refl
set_elsewhere (x ∷ xs) zero (suc j) y = inl refl
set_elsewhere (x ∷ xs) (suc k) zero y = inl refl
set_elsewhere (x ∷ xs) (suc k) (suc j) y = go (set_elsewhere xs k j y)
  where
    go : (slice_get (slice_set xs k y) j ≡ slice_get xs j) ⊎ (j ≡ k) → (slice_get (slice_set xs k y) j ≡ slice_get xs j) ⊎ (suc j ≡ suc k)
    go (inl same) = inl same
    go (inr is) = inr (ap (λ n. suc n) is)

-- ---- what is known

pub grows_itself : (w : World) → Grows w w
grows_itself w = record {
  written = refl;
  defined = refl;
  types = begins_itself w.types;
  denoted = begins_itself w.denoted;
  closed = begins_itself w.closed;
  structs = λ k info e u. e;
}

pub grows_further : (w x z : World) → Grows w x → Grows x z → Grows w z
grows_further w x z p q = record {
  written = q.written ∙ p.written;
  defined = q.defined ∙ p.defined;
  types = begins_further w.types x.types z.types p.types q.types;
  denoted = begins_further w.denoted x.denoted z.denoted p.denoted q.denoted;
  closed = begins_further w.closed x.closed z.closed p.closed q.closed;
  structs = λ k info e u. q.structs k info (p.structs k info e u) u;
}

-- by the rule, wherever it stands
pub record Growing {A : Type 0} (m : Rule A) : Type 0 where
  pub grows : (w : World) → Grows w (m w).world

pub chained : {A B : Type 0} {m : Rule A} {f : A → Rule B} → Growing m → ((a : A) → Growing (f a)) → Growing (chain m f)
unfolding chain
chained {m = m} {f = f} h k = record {
  grows = λ w. grows_further w (m w).world (f (m w).answer (m w).world).world (h.grows w) ((k (m w).answer).grows (m w).world);
}

pub pure_grows : {A : Type 0} (a : A) → Growing (pure a)
unfolding pure
pure_grows a = record { grows = λ w. grows_itself w }

ask_grows : {A : Type 0} (g : World → A) → Growing (ask g)
unfolding ask
ask_grows g = record { grows = λ w. grows_itself w }

pub asked : {A B : Type 0} (g : World → A) (f : A → Rule B) → ((a : A) → Growing (f a)) → Growing (chain (ask g) f)
asked g f k = chained (ask_grows g) k

note_grows : (at : Place) (kind : FaultKind) → Growing (note at kind)
unfolding note
note_grows at kind = record { grows = λ w. grows_itself w }

pub noted : {A : Type 0} (at : Place) (kind : FaultKind) (m : Rule A) → Growing m → Growing (chain (note at kind) (λ u. m))
noted at kind m h = chained (note_grows at kind) (λ u. h)

pub fault : {A : Type 0} (at : Place) (kind : FaultKind) (a : A) → Growing (chain (note at kind) (λ u. pure a))
fault at kind a = noted at kind (pure a) (pure_grows a)

pub demand_grows : (at : Place) (kind : FaultKind) (b : Bool) → Growing (demand at kind b)
unfolding demand
demand_grows at kind true = pure_grows tt
demand_grows at kind false = note_grows at kind

pub keep_grows : (at : Place) (kind : LimitKind) (b : Bool) → Growing (keep_within at kind b)
unfolding keep_within
keep_grows at kind true = pure_grows tt
keep_grows at kind false = record { grows = λ w. grows_itself w }

pub instead_grows : (at : Place) (kind : FaultKind) (m : Rule (Unit {0})) → Growing m → Growing (instead at kind m)
unfolding instead
instead_grows at kind m h = record { grows = h.grows }

pub change_grows : (g : World → World) → ((w : World) → Grows w (g w)) → Growing (change g)
unfolding change
change_grows g k = record { grows = k }

-- a world of which other parts change
pub named_anew : (w : World) (here : ScopeData) (outer : List ScopeData) (labels : _) (places : ℕ) → Grows w (record w { here = here; outer = outer; labels = labels; places = places })
named_anew w here outer labels places = record {
  written = refl;
  defined = refl;
  types = begins_itself w.types;
  denoted = begins_itself w.denoted;
  closed = begins_itself w.closed;
  structs = λ k info e u. e;
}

pub names_grow : (g : World → World) → ((w : World) → g w ≡ record w { here = (g w).here; outer = (g w).outer; labels = (g w).labels; places = (g w).places }) → Growing (change g)
names_grow g is = change_grows g (λ w. subst (λ z. Grows w z) (sym (is w)) (named_anew w (g w).here (g w).outer (g w).labels (g w).places))

pub place_grows : (line : Line) → Growing (place line)
unfolding place
place_grows line = record { grows = λ w. named_anew w w.here w.outer w.labels _ }

pub chosen : {A : Type 0} (b : Bool) {x y : Rule A} → Growing x → Growing y → Growing (elim b [ true ↦ x | false ↦ y ])
chosen true h k = h
chosen false h k = k

pub decided : {A : Type 0} (b : Bool) {x y : Rule A} → Growing x → Growing y → Growing (if b then x else y)
decided true h k = h
decided false h k = k

pub if_some : {A B : Type 0} (o : Option A) {x : Rule B} {f : A → Rule B} → Growing x → ((a : A) → Growing (f a)) → Growing (elim o [ None ↦ x | Some a ↦ f a ])
if_some None h k = h
if_some (Some a) h k = k a

-- ---- scopes

pub enter_grows : Growing enter
unfolding enter
enter_grows = names_grow _ (λ w. refl)

pub leave_grows : Growing leave
unfolding leave
leave_grows = change_grows _ (λ w. go w w.outer)
  where
    go : (w : World) (ss : List ScopeData) → Grows w (left_to ss w)
    go w [] = named_anew w _ _ w.labels w.places
    go w (s ∷ ss) = named_anew w _ _ w.labels w.places

pub scoped_grows : {m : Rule (Unit {0})} → Growing m → Growing (scoped m)
scoped_grows h = chained enter_grows (λ a. chained h (λ b. leave_grows))

pub free_name_grows : (at : Place) (name : Text) → Growing (free_name at name)
unfolding free_name
free_name_grows at name = demand_grows _ _ _

pub free_tag_grows : (at : Place) (tag : Text) → Growing (free_tag at tag)
unfolding free_tag
free_tag_grows at tag = asked _ _ (λ reserved. demand_grows _ _ _)

pub declare_grows : (at : Place) (name : Text) (entry : EntryData) → Growing (declare at name entry)
unfolding declare
declare_grows at name entry = asked _ _ (λ before. chained (names_grow _ (λ w. refl)) (λ a. chained (demand_grows _ _ _) (λ b. free_name_grows at name)))

pub better_grows : (name : Text) (entry : EntryData) → Growing (know_better name entry)
unfolding know_better
better_grows name entry = names_grow _ (λ w. refl)

pub label_grows : (at : Place) (name : Text) → Growing (declare_label at name)
unfolding declare_label
label_grows at name = asked _ _ (λ before. chained (names_grow _ (λ w. refl)) (λ a. chained (demand_grows _ _ _) (λ b. free_name_grows at name)))

-- ---- declarations and structs

pub number_grows : (t : TyData) → Growing (number_as t)
unfolding number_as
number_grows t = change_grows _ (λ w. record {
  written = refl;
  defined = refl;
  types = begins_joined w.types _;
  denoted = begins_itself w.denoted;
  closed = begins_itself w.closed;
  structs = λ k info e u. e;
})

pub new_struct_grows : (info : StructInfo) → Growing (new_struct info)
unfolding new_struct
new_struct_grows info = record {
  grows = λ w. record {
    written = refl;
    defined = refl;
    types = begins_itself w.types;
    denoted = begins_itself w.denoted;
    closed = begins_itself w.closed;
    structs = λ k i e u. stays_in_front w.structs (info ∷ []) k i e;
  };
}

pub close_grows : (k : ℕ) → Growing (change (λ w. record w { closed = w.closed ++ k ∷ [] }))
close_grows k = change_grows _ (λ w. record {
  written = refl;
  defined = refl;
  types = begins_itself w.types;
  denoted = begins_itself w.denoted;
  closed = begins_joined w.closed _;
  structs = λ k info e u. e;
})

-- ---- structs that are begun here

-- the struct is not there, or its members are not listed so far
abbrev pub IsFree : World → ℕ → Type 0
IsFree w k = (info : StructInfo) → slice_get w.structs k ≡ Some info → is_unlisted info.members ≡ true

-- what is known grows but for this struct
pub record GrowsBut (k : ℕ) (w z : World) : Type 0 where
  pub written : z.written ≡ w.written
  pub defined : z.defined ≡ w.defined
  pub types : IsFront w.types z.types
  pub denoted : IsFront w.denoted z.denoted
  pub closed : IsFront w.closed z.closed
  pub structs : (j : ℕ) → (slice_get z.structs j ≡ slice_get w.structs j) ⊎ (j ≡ k)

-- that struct is none that stays
pub grows_behind : (k : ℕ) (w x z : World) → IsFree w k → Grows w x → GrowsBut k x z → Grows w z
grows_behind k w x z free p q = record {
  written = q.written ∙ p.written;
  defined = q.defined ∙ p.defined;
  types = begins_further w.types x.types z.types p.types q.types;
  denoted = begins_further w.denoted x.denoted z.denoted p.denoted q.denoted;
  closed = begins_further w.closed x.closed z.closed p.closed q.closed;
  structs = λ j info e u. go j info e u (q.structs j);
}
  where
    go : (j : ℕ) (info : StructInfo) → slice_get w.structs j ≡ Some info → is_unlisted info.members ≡ false
        → (slice_get z.structs j ≡ slice_get x.structs j) ⊎ (j ≡ k) → slice_get z.structs j ≡ Some info
    go j info e u (inl same) = same ∙ p.structs j info e u
    go j info e u (inr is) = absurd (false≢true (sym u ∙ free info (subst (λ n. slice_get w.structs n ≡ Some info) is e)))

-- a rule that begins a struct
pub record Beginning (m : Rule ℕ) : Type 0 where
  pub begins : (w : World) → Grows w (m w).world × IsFree w (m w).answer

pub growing_too : {m : Rule ℕ} → Beginning m → Growing m
growing_too b = record { grows = λ w. (b.begins w).0 }

pub new_struct_begins : (info : StructInfo) → Beginning (new_struct info)
unfolding new_struct
new_struct_begins info = record { begins = λ w. ((new_struct_grows info).grows w, λ i e. absurd (none w i e)) }
  where
    nothing_there : (i : StructInfo) → None ≡ Some i → ⊥
    nothing_there i e = cc

    none : (w : World) (i : StructInfo) → slice_get w.structs (length w.structs) ≡ Some i → ⊥
    none w i e = nothing_there i (sym (none_at_end w.structs) ∙ e)

pub begins_then : {A : Type 0} {m : Rule ℕ} {f : ℕ → Rule A} → Beginning m → ((k : ℕ) → Growing (f k)) → Beginning (chain m (λ k. chain (f k) (λ a. pure k)))
unfolding chain pure
begins_then {m = m} {f = f} b h = record {
  begins = λ w. (grows_further w (m w).world (f (m w).answer (m w).world).world (b.begins w).0 ((h (m w).answer).grows (m w).world), (b.begins w).1);
}

pub asked_begins : {A : Type 0} (g : World → A) (f : A → Rule ℕ) → ((a : A) → Beginning (f a)) → Beginning (chain (ask g) f)
unfolding chain ask
asked_begins g f k = record { begins = λ w. (k (g w)).begins w }

pub noted_begins : (at : Place) (kind : FaultKind) (m : Rule ℕ) → Beginning m → Beginning (chain (note at kind) (λ u. m))
unfolding chain note
noted_begins at kind m b = record { begins = b.begins }

-- behind a rule that leaves what is known as it is
pub begins_behind : {A : Type 0} (m : Rule A) (f : A → Rule ℕ) → ((w : World) → (m w).world ≡ w) → ((a : A) → Beginning (f a)) → Beginning (chain m f)
unfolding chain
begins_behind m f same k = record {
  begins = λ w. subst (λ z. Grows z (f (m w).answer (m w).world).world × IsFree z (f (m w).answer (m w).world).answer) (same w) ((k (m w).answer).begins (m w).world);
}

pub demand_same : (at : Place) (kind : FaultKind) (b : Bool) (w : World) → (demand at kind b w).world ≡ w
unfolding demand note pure
demand_same at kind true w = refl
demand_same at kind false w = refl

pub keep_same : (at : Place) (kind : LimitKind) (b : Bool) (w : World) → (keep_within at kind b w).world ≡ w
unfolding keep_within pure
keep_same at kind true w = refl
keep_same at kind false w = refl

pub free_tag_same : (at : Place) (tag : Text) (w : World) → (free_tag at tag w).world ≡ w
unfolding free_tag chain ask
free_tag_same at tag w = demand_same _ _ _ _

-- Its members are looked at, and then it is closed.
pub struct_grows : {A B : Type 0} (m : Rule ℕ) (f : ℕ → Rule A) (g : ℕ → A → Rule B) → Beginning m → ((k : ℕ) → Growing (f k)) → ((k : ℕ) (a : A) (w : World) → GrowsBut k w (g k a w).world)
    → Growing (chain m (λ k. chain (f k) (g k)))
unfolding chain
struct_grows m f g b h c = record {
  grows = λ w.
      let p = b.begins w in
      let k = (m w).answer in
      let y = f k (m w).world in
      grows_behind k w y.world (g k y.answer y.world).world p.1 (grows_further w (m w).world y.world p.0 ((h k).grows (m w).world)) (c k y.answer y.world);
}
