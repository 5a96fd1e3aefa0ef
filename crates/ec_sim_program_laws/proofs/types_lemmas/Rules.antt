-- Rules behind which all has a type where nothing was wrong.
use Rattle.std.proofs.Common.{◌≡◌, ◌∙◌, ◌⊎◌, inl, inr, ℕ, ◌≤◌, Bool, true, false, List, [], ◌∷◌, ◌++◌, length, Option, Some, None, refl, subst, slice_get, if◌then◌else◌}
use Rattle.std.specs.Prelude.{map}
use Rattle.ec_base.specs.declared.fault.FaultKind.{FaultKind}
use Rattle.ec_base.specs.declared.fault.LimitKind.{LimitKind}
use Rattle.ec_base.specs.declared.line.Line.{Line}
use Rattle.ec_ctypes.specs.trees.Types.{TyData}
use Rattle.ec_language.specs.Letters.{Text}
use Rattle.ec_typing_defs.specs.Tables.{Named, find, put}
use Rattle.ec_typing_defs.specs.Worlds.{Place, EntryData, ScopeData, is_listed, StructInfo, World, Rule, chain, pure, ask, change, note, demand, keep_within, instead, place, or_else, look_up, look_up_in, left_to, enter, leave, scoped, declare, know_better, declare_label, free_name, free_tag, number_as, with_name}
use Rattle.ec_sim_world_laws.specs.growth.Growth.{Grows}
use Rattle.ec_sim_world_laws.proofs.growth_lemmas.Rules as growth
use Rattle.ec_sim_world_laws.proofs.closing_lemmas.Lists.{none_not}
use Rattle.ec_sim_world_laws.proofs.closing_lemmas.Orders.{ListedStay}
use Rattle.ec_sim_world_laws.proofs.known_lemmas.EntriesTables.{find_put}
use Rattle.ec_sim_program_laws.specs.types.Types.{max_nesting, IsTypedEntry, AreTypedNames, AreTypedScopes}
use Rattle.ec_sim_program_laws.proofs.types_lemmas.Structs.{GoodStructs, they_stay, listed_not}

-- ---- what is known

-- what names stand for has types, and members of structs do
pub record Sound (w : World) : Type 0 where
  pub here : AreTypedNames w.here.names
  pub outer : AreTypedScopes w.outer
  pub structs : GoodStructs w.structs

-- no struct that is listed begins with too many types
abbrev pub Shallow : World → Type 0
Shallow w = (k : ℕ) (info : StructInfo) → slice_get w.structs k ≡ Some info → is_listed (Some info.members) ≡ true → length info.first ≤ max_nesting

pub stays_by : {w z : World} → Grows w z → ListedStay w.structs z.structs
stays_by {w} {z} g = they_stay w.structs z.structs g.structs

pub shallow_before : {w z : World} → Grows w z → Shallow z → Shallow w
shallow_before g shallow k info is e = shallow k info (g.structs k info is (listed_not info.members e)) e

-- ---- rules

-- nothing more is said
abbrev pub Any : World → Type 0
Any w = Unit {0}

abbrev pub NoMore : {A : Type 0} → World → A → Type 0
NoMore w a = Unit {0}

-- where this holds, and nothing is wrong by the rule, all has types behind it, and that holds of its answer
pub record Typing {A : Type 0} (R : World → Type 0) (P : World → A → Type 0) (m : Rule A) : Type 0 where
  pub growing : growth.Growing m
  pub rows : (w : World) → (m w).world.denoted ≡ w.denoted
  pub types : (w : World) → Sound w → R w → (m w).found ≡ [] → Shallow (m w).world → Sound (m w).world × P (m w).world (m w).answer

pub both_none : {A : Type 0} (vs us : List A) → vs ++ us ≡ [] → (vs ≡ []) × (us ≡ [])
both_none [] us e = (refl, e)
both_none (v ∷ vs) us e = absurd (cc)

pub chained : {A B : Type 0} {R : World → Type 0} {P : World → A → Type 0} {Q : World → B → Type 0} {m : Rule A} {f : A → Rule B}
    → Typing R P m → ((a : A) → Typing (λ w. P w a) Q (f a)) → Typing R Q (chain m f)
unfolding chain
chained {m = m} {f = f} h k = record {
  growing = growth.chained h.growing (λ a. (k a).growing);
  rows = λ w. (k (m w).answer).rows (m w).world ∙ h.rows w;
  types = λ w sound r found shallow.
      let e = both_none (m w).found (f (m w).answer (m w).world).found found in
      let p = h.types w sound r e.0 (shallow_before ((k (m w).answer).growing.grows (m w).world) shallow) in
      (k (m w).answer).types (m w).world p.0 p.1 e.1 shallow;
}

-- what holds before it may be more, and what holds behind it less
pub from : {A : Type 0} {R S : World → Type 0} {P : World → A → Type 0} {m : Rule A} → ((w : World) → R w → S w) → Typing S P m → Typing R P m
from g h = record { growing = h.growing; rows = h.rows; types = λ w sound r found shallow. h.types w sound (g w r) found shallow }

pub to : {A : Type 0} {R : World → Type 0} {P Q : World → A → Type 0} {m : Rule A} → ((w : World) (a : A) → P w a → Q w a) → Typing R P m → Typing R Q m
to {m = m} g h = record {
  growing = h.growing;
  rows = h.rows;
  types = λ w sound r found shallow. let p = h.types w sound r found shallow in (p.0, g (m w).world (m w).answer p.1);
}

-- what stays as more becomes known
abbrev pub Stays : (World → Type 0) → Type 0
Stays X = (w z : World) → Grows w z → X w → X z

-- this holds behind it too
pub beside : {A : Type 0} {R : World → Type 0} {P : World → A → Type 0} {m : Rule A} (X : World → Type 0) → Stays X → Typing R P m
    → Typing (λ w. X w × R w) (λ w a. X w × P w a) m
beside {m = m} X stays h = record {
  growing = h.growing;
  rows = h.rows;
  types = λ w sound r found shallow. let p = h.types w sound r.1 found shallow in (p.0, (stays w (m w).world (h.growing.grows w) r.0, p.1));
}

pub carried : {A : Type 0} {P : World → A → Type 0} {m : Rule A} (X : World → Type 0) → Stays X → Typing Any P m → Typing X (λ w a. X w × P w a) m
carried X stays h = from (λ w x. (x, tt)) (beside X stays h)

-- what has nothing to do with what is known
pub constant : (X : Type 0) → Stays (λ w. X)
constant X w z g x = x

pub pure_types : {A : Type 0} {R : World → Type 0} {P : World → A → Type 0} (a : A) → ((w : World) → R w → P w a) → Typing R P (pure a)
unfolding pure
pure_types a g = record { growing = growth.pure_grows a; rows = λ w. refl; types = λ w sound r found shallow. (sound, g w r) }

pub asked : {A B : Type 0} {R : World → Type 0} {Q : World → B → Type 0} (g : World → A) (f : A → Rule B) (X : World → A → Type 0)
    → ((w : World) → Sound w → R w → X w (g w)) → ((a : A) → Typing (λ w. X w a) Q (f a)) → Typing R Q (chain (ask g) f)
unfolding chain ask
asked g f X x k = record {
  growing = growth.asked g f (λ a. (k a).growing);
  rows = λ w. (k (g w)).rows w;
  types = λ w sound r found shallow. (k (g w)).types w sound (x w sound r) found shallow;
}

pub asked_any : {A B : Type 0} {R : World → Type 0} {Q : World → B → Type 0} (g : World → A) (f : A → Rule B) → ((a : A) → Typing R Q (f a)) → Typing R Q (chain (ask g) f)
asked_any {R = R} g f k = asked g f (λ w a. R w) (λ w sound r. r) k

pub fault : {A : Type 0} {R : World → Type 0} {P : World → A → Type 0} (at : Place) (kind : FaultKind) (a : A) → Typing R P (chain (note at kind) (λ u. pure a))
unfolding chain note pure
fault at kind a = record { growing = growth.fault at kind a; rows = λ w. refl; types = λ w sound r found shallow. absurd (cc) }

-- where it doesn't hold there is a fault
pub demanded : {B : Type 0} {R : World → Type 0} {Q : World → B → Type 0} (at : Place) (kind : FaultKind) (b : Bool) {f : Unit {0} → Rule B}
    → ((u : Unit {0}) → Typing (λ w. (b ≡ true) × R w) Q (f u)) → Typing R Q (chain (demand at kind b) f)
unfolding chain demand note pure
demanded at kind true {f} k = record {
  growing = growth.chained (growth.demand_grows at kind true) (λ u. (k u).growing);
  rows = λ w. (k tt).rows w;
  types = λ w sound r found shallow. (k tt).types w sound (refl, r) found shallow;
}
demanded at kind false {f} k = record {
  growing = growth.chained (growth.demand_grows at kind false) (λ u. (k u).growing);
  rows = λ w. (k tt).rows w;
  types = λ w sound r found shallow. absurd (cc);
}

pub demand_types : {R : World → Type 0} (at : Place) (kind : FaultKind) (b : Bool) → Typing R (λ w u. R w) (demand at kind b)
unfolding demand note pure
demand_types at kind true = record { growing = growth.demand_grows at kind true; rows = λ w. refl; types = λ w sound r found shallow. (sound, r) }
demand_types at kind false = record { growing = growth.demand_grows at kind false; rows = λ w. refl; types = λ w sound r found shallow. absurd (cc) }

-- what was demanded is known
pub demand_known : {R : World → Type 0} (at : Place) (kind : FaultKind) (b : Bool) → Typing R (λ w u. (b ≡ true) × R w) (demand at kind b)
unfolding demand note pure
demand_known at kind true = record { growing = growth.demand_grows at kind true; rows = λ w. refl; types = λ w sound r found shallow. (sound, (refl, r)) }
demand_known at kind false = record { growing = growth.demand_grows at kind false; rows = λ w. refl; types = λ w sound r found shallow. absurd (cc) }

pub keep_types : {R : World → Type 0} (at : Place) (kind : LimitKind) (b : Bool) → Typing R (λ w u. R w) (keep_within at kind b)
unfolding keep_within pure
keep_types at kind true = record { growing = growth.keep_grows at kind true; rows = λ w. refl; types = λ w sound r found shallow. (sound, r) }
keep_types at kind false = record { growing = growth.keep_grows at kind false; rows = λ w. refl; types = λ w sound r found shallow. absurd (cc) }

none_mapped : {A B : Type 0} (f : A → B) (vs : List A) → map f vs ≡ [] → vs ≡ []
none_mapped f [] e = refl
none_mapped f (v ∷ vs) e = absurd (cc)

pub instead_types : {R : World → Type 0} (at : Place) (kind : FaultKind) (m : Rule (Unit {0})) → Typing R NoMore m → Typing R NoMore (instead at kind m)
unfolding instead
instead_types at kind m h = record {
  growing = growth.instead_grows at kind m h.growing;
  rows = h.rows;
  types = λ w sound r found shallow. h.types w sound r (none_mapped _ (m w).found found) shallow;
}

-- other parts of what is known change
pub change_types : {R : World → Type 0} {P : World → Unit {0} → Type 0} (g : World → World) → growth.Growing (change g) → ((w : World) → (g w).denoted ≡ w.denoted) → ((w : World) → Sound w → R w → Sound (g w) × P (g w) tt) → Typing R P (change g)
unfolding change
change_types g h d k = record { growing = h; rows = d; types = λ w sound r found shallow. k w sound r }

pub place_types : (line : Line) → Typing Any NoMore (place line)
unfolding place
place_types line = record { growing = growth.place_grows line; rows = λ w. refl; types = λ w sound r found shallow. (record { here = sound.here; outer = sound.outer; structs = sound.structs }, tt) }

pub chosen : {A : Type 0} {R : World → Type 0} {P : World → A → Type 0} (b : Bool) {x y : Rule A} → Typing (λ w. (b ≡ true) × R w) P x → Typing (λ w. (b ≡ false) × R w) P y
    → Typing R P (elim b [ true ↦ x | false ↦ y ])
chosen true h k = from (λ w r. (refl, r)) h
chosen false h k = from (λ w r. (refl, r)) k

pub decided : {A : Type 0} {R : World → Type 0} {P : World → A → Type 0} (b : Bool) {x y : Rule A} → Typing R P x → Typing R P y → Typing R P (if b then x else y)
decided true h k = h
decided false h k = k

pub if_some : {A B : Type 0} {R : World → Type 0} {P : World → B → Type 0} (o : Option A) {x : Rule B} {f : A → Rule B} → ((o ≡ None) → Typing R P x) → ((a : A) → o ≡ Some a → Typing R P (f a))
    → Typing R P (elim o [ None ↦ x | Some a ↦ f a ])
if_some None h k = h refl
if_some (Some a) h k = k a refl

-- ---- scopes

no_names_typed : AreTypedNames []
no_names_typed x entry e = none_not e

pub enter_types : Typing Any NoMore enter
unfolding enter
enter_types = change_types _ growth.enter_grows (λ w. refl) (λ w sound r. (record { here = no_names_typed; outer = (sound.here, sound.outer); structs = sound.structs }, tt))

left_sound : (w : World) (ss : List ScopeData) → AreTypedScopes ss → GoodStructs w.structs → Sound (left_to ss w)
left_sound w [] h s = record { here = no_names_typed; outer = tt; structs = s }
left_sound w (x ∷ ss) h s = record { here = h.0; outer = h.1; structs = s }

left_rows : (w : World) (ss : List ScopeData) → (left_to ss w).denoted ≡ w.denoted
left_rows w [] = refl
left_rows w (x ∷ ss) = refl

pub leave_types : Typing Any NoMore leave
unfolding leave
leave_types = change_types _ growth.leave_grows (λ w. left_rows w w.outer) (λ w sound r. (left_sound w w.outer sound.outer sound.structs, tt))

pub scoped_types : {m : Rule (Unit {0})} → Typing Any NoMore m → Typing Any NoMore (scoped m)
scoped_types h = chained enter_types (λ a. chained h (λ b. leave_types))

pub free_name_types : {R : World → Type 0} (at : Place) (name : Text) → Typing R (λ w u. R w) (free_name at name)
unfolding free_name
free_name_types at name = demand_types _ _ _

pub free_tag_types : {R : World → Type 0} (at : Place) (tag : Text) → Typing R (λ w u. R w) (free_tag at tag)
unfolding free_tag
free_tag_types at tag = asked_any _ _ (λ reserved. demand_types _ _ _)

pub put_typed : (name : Text) (entry : EntryData) (es : Named EntryData) → IsTypedEntry entry → AreTypedNames es → AreTypedNames (put name entry es)
put_typed name entry es h all x e is = go (find_put x name entry e es is)
  where
    go : (entry ≡ e) ⊎ (find x es ≡ Some e) → IsTypedEntry e
    go (inl same) = subst IsTypedEntry same h
    go (inr found) = all x e found

pub with_name_sound : (name : Text) (entry : EntryData) (w : World) → IsTypedEntry entry → Sound w → Sound (with_name name entry w)
with_name_sound name entry w h sound = record { here = put_typed name entry w.here.names h sound.here; outer = sound.outer; structs = sound.structs }

pub declare_types : (at : Place) (name : Text) (entry : EntryData) → Typing (λ w. IsTypedEntry entry) NoMore (declare at name entry)
unfolding declare
declare_types at name entry = asked_any _ _ (λ before. chained (change_types {P = NoMore} _ (growth.names_grow _ (λ w. refl)) (λ w. refl) (λ w sound r. (with_name_sound name entry w r sound, tt))) (λ a. chained (demand_types _ _ _) (λ b. to (λ w u x. tt) (free_name_types at name))))

pub better_types : (name : Text) (entry : EntryData) → Typing (λ w. IsTypedEntry entry) NoMore (know_better name entry)
unfolding know_better
better_types name entry = change_types _ (growth.names_grow _ (λ w. refl)) (λ w. refl) (λ w sound r. (with_name_sound name entry w r sound, tt))

pub label_types : (at : Place) (name : Text) → Typing Any NoMore (declare_label at name)
unfolding declare_label
label_types at name = asked_any _ _ (λ before. chained (change_types {P = NoMore} _ (growth.names_grow _ (λ w. refl)) (λ w. refl) (λ w sound r. (record { here = sound.here; outer = sound.outer; structs = sound.structs }, tt))) (λ a. chained (demand_types _ _ _) (λ b. to (λ w u x. tt) (free_name_types at name))))

pub number_types : (t : TyData) → Typing Any NoMore (number_as t)
unfolding number_as
number_types t = change_types _ (growth.number_grows t) (λ w. refl) (λ w sound r. (record { here = sound.here; outer = sound.outer; structs = sound.structs }, tt))

-- ---- names

abbrev pub EntryIn : Option EntryData → Type 0
EntryIn None = Unit {0}
EntryIn (Some e) = IsTypedEntry e

one_typed : (x : Text) (names : Named EntryData) → AreTypedNames names → EntryIn (find x names)
one_typed x names all = go (find x names) refl
  where
    go : (o : Option EntryData) → find x names ≡ o → EntryIn o
    go None is = tt
    go (Some e) is = all x e is

either_typed : (a b : Option EntryData) → EntryIn a → EntryIn b → EntryIn (or_else a b)
either_typed None b p q = q
either_typed (Some e) b p q = p

scopes_typed : (x : Text) (ss : List ScopeData) → AreTypedScopes ss → EntryIn (look_up_in ss x)
scopes_typed x [] h = tt
scopes_typed x (s ∷ ss) h = either_typed (find x s.names) (look_up_in ss x) (one_typed x s.names h.0) (scopes_typed x ss h.1)

pub name_typed : (x : Text) (w : World) → Sound w → EntryIn (look_up x w)
name_typed x w sound = either_typed (find x w.here.names) (look_up_in w.outer x) (one_typed x w.here.names sound.here) (scopes_typed x w.outer sound.outer)
