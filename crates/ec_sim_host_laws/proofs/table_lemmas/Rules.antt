-- Tables stay as they are to be by the rules that others are put together from, and by rules that are put together so.
use Rattle.std.proofs.Common.{◌≡◌, ◌⊎◌, inl, inr, ℕ, Bool, true, false, List, [], ◌∷◌, ◌++◌, refl, sym, ap, subst, ◌∙◌, Option, Some, None, if◌then◌else◌, length, map, slice_get, slice_set, option_map}
use Rattle.ec_base.specs.declared.fault.FaultKind.{FaultKind}
use Rattle.ec_base.specs.declared.fault.LimitKind.{LimitKind}
use Rattle.ec_base.specs.declared.line.Line.{Line}
use Rattle.ec_ctypes.specs.trees.Types.{TyData}
use Rattle.ec_language.specs.First.{Violation}
use Rattle.ec_language.specs.Letters.{Text}
use Rattle.ec_typing_defs.specs.Worlds.{Place, EntryData, MembersData, unlisted, begun, listed, is_listed, StructInfo, ScopeData, World, Rule, chain, pure, ask, change, note, demand, keep_within, instead, place, left_to, enter, leave, scoped, declare, know_better, declare_label, free_name, free_tag, number_as, new_struct, is_within}
use Rattle.ec_typing_defs.specs.Expressions.{Members}
use Rattle.ec_sim_world_laws.specs.growth.Growth.{is_unlisted, StructsStay}
use Rattle.ec_sim_world_laws.specs.closing.Closing.{members_at}
use Rattle.ec_sim_world_laws.proofs.closing_lemmas.Lists.{false_not, some_is, get_behind, get_last, none_at_end, set_elsewhere, set_here}
use Rattle.ec_sim_world_laws.proofs.closing_lemmas.Orders.{ListedStay}
use Rattle.ec_sim_world_laws.proofs.closing_lemmas.Rules.{there}
use Rattle.ec_sim_host_laws.specs.table.Tables.{IsVarchar}
use Rattle.ec_sim_host_laws.proofs.table_lemmas.Fitting.{IsFit, AreFit, fit_stays, are_fit_stay}

-- ---- what holds where nothing was found

-- where it is asked for
abbrev pub OnlyIf : Bool → Type 0 → Type 0
OnlyIf true P = P
OnlyIf false P = Unit {0}

pub if_so : (quiet : Bool) {P : Type 0} → P → OnlyIf quiet P
if_so true p = p
if_so false p = tt

pub if_then : (quiet : Bool) {P Q : Type 0} → (P → Q) → OnlyIf quiet P → OnlyIf quiet Q
if_then true f p = f p
if_then false f p = tt

pub if_both : (quiet : Bool) {P Q R : Type 0} → (P → Q → R) → OnlyIf quiet P → OnlyIf quiet Q → OnlyIf quiet R
if_both true f p q = f p q
if_both false f p q = tt

abbrev pub Nothing : List Violation → Type 0
Nothing vs = vs ≡ []

no_more : (vs us : List Violation) → Nothing (vs ++ us) → Nothing vs × Nothing us
no_more [] us e = (refl, e)
no_more (v ∷ vs) us e = absurd (cc)

pub nothing_before : (quiet : Bool) (vs us : List Violation) → OnlyIf quiet (Nothing (vs ++ us)) → OnlyIf quiet (Nothing vs)
nothing_before quiet vs us e = if_then quiet (λ n. (no_more vs us n).0) e

pub nothing_behind : (quiet : Bool) (vs us : List Violation) → OnlyIf quiet (Nothing (vs ++ us)) → OnlyIf quiet (Nothing us)
nothing_behind quiet vs us e = if_then quiet (λ n. (no_more vs us n).1) e

none_mapped : (f : Violation → Violation) (vs : List Violation) → Nothing (map f vs) → Nothing vs
none_mapped f [] e = refl
none_mapped f (v ∷ vs) e = absurd (cc)

-- ---- tables

-- the types of declarations and members fit, and structs do
pub record TablesFit (ss : List StructInfo) (ts : List TyData) : Type 0 where
  pub types : (k : ℕ) (t : TyData) → slice_get ts k ≡ Some t → IsFit ss t
  pub members : (k : ℕ) (ms : Members) → members_at ss k ≡ Some (listed ms) → AreFit ss ms
  pub structs : (k : ℕ) (info : StructInfo) → slice_get ss k ≡ Some info → is_within info.shape ≡ true

pub record Sound (quiet : Bool) (ss : List StructInfo) (ts : List TyData) : Type 0 where
  pub varchars : (k : ℕ) (info : StructInfo) → slice_get ss k ≡ Some info → info.varchar ≡ true → IsVarchar info
  pub fit : OnlyIf quiet (TablesFit ss ts)

-- they are so there, and structs that are listed or being listed stay as they are here
pub record Kept (quiet : Bool) (ss us : List StructInfo) (ts : List TyData) : Type 0 where
  pub sound : Sound quiet us ts
  pub stay : StructsStay ss us

pub stay_itself : (ss : List StructInfo) → StructsStay ss ss
stay_itself ss k info e u = e

pub stay_further : (ss us vs : List StructInfo) → StructsStay ss us → StructsStay us vs → StructsStay ss vs
stay_further ss us vs p q k info e u = q k info (p k info e u) u

pub kept_itself : {quiet : Bool} {ss : List StructInfo} {ts : List TyData} → Sound quiet ss ts → Kept quiet ss ss ts
kept_itself {ss = ss} s = record { sound = s; stay = stay_itself ss }

pub kept_further : {quiet : Bool} {ss us vs : List StructInfo} {ts rs : List TyData} → Kept quiet ss us ts → Kept quiet us vs rs → Kept quiet ss vs rs
kept_further {ss = ss} {us = us} {vs = vs} p q = record { sound = q.sound; stay = stay_further ss us vs p.stay q.stay }

listed_known : (m : MembersData) → is_listed (Some m) ≡ true → is_unlisted m ≡ false
listed_known unlisted e = false_not e
listed_known begun e = refl
listed_known (listed ms) e = refl

pub listed_stay : (ss us : List StructInfo) → StructsStay ss us → ListedStay ss us
listed_stay ss us stay k e = go (slice_get ss k) refl e
  where
    go : (o : Option StructInfo) → slice_get ss k ≡ o → is_listed (option_map (λ s. s.members) o) ≡ true → slice_get us k ≡ slice_get ss k
    go None is e = false_not e
    go (Some info) is e = stay k info is (listed_known info.members e) ∙ sym is

-- ---- rules

-- by the rule, wherever it stands: regardless of what it finds, or where it finds nothing
pub record Keeping (quiet : Bool) {A : Type 0} (m : Rule A) : Type 0 where
  pub keeps : (w : World) → Sound quiet w.structs w.types → OnlyIf quiet (Nothing (m w).found) → Kept quiet w.structs (m w).world.structs (m w).world.types

pub chained : {quiet : Bool} {A B : Type 0} {m : Rule A} {f : A → Rule B} → Keeping quiet m → ((a : A) → Keeping quiet (f a)) → Keeping quiet (chain m f)
unfolding chain
chained {quiet = quiet} {m = m} {f = f} h k = record {
  keeps = λ w s e.
      let n = f (m w).answer (m w).world in
      let p = h.keeps w s (nothing_before quiet (m w).found n.found e) in
      kept_further p ((k (m w).answer).keeps (m w).world p.sound (nothing_behind quiet (m w).found n.found e));
}

-- where something is known of the answer of the first
pub chained_from : {quiet : Bool} {A B : Type 0} {m : Rule A} {f : A → Rule B} (P : A → Type 0) → Keeping quiet m → ((w : World) → P (m w).answer) → ((a : A) → P a → Keeping quiet (f a)) → Keeping quiet (chain m f)
unfolding chain
chained_from {quiet = quiet} {m = m} {f = f} P h has k = record {
  keeps = λ w s e.
      let n = f (m w).answer (m w).world in
      let p = h.keeps w s (nothing_before quiet (m w).found n.found e) in
      kept_further p ((k (m w).answer (has w)).keeps (m w).world p.sound (nothing_behind quiet (m w).found n.found e));
}

pub pure_keeps : {quiet : Bool} {A : Type 0} (a : A) → Keeping quiet (pure a)
unfolding pure
pure_keeps a = record { keeps = λ w s e. kept_itself s }

ask_keeps : {quiet : Bool} {A : Type 0} (g : World → A) → Keeping quiet (ask g)
unfolding ask
ask_keeps g = record { keeps = λ w s e. kept_itself s }

pub asked : {quiet : Bool} {A B : Type 0} (g : World → A) (f : A → Rule B) → ((a : A) → Keeping quiet (f a)) → Keeping quiet (chain (ask g) f)
asked g f k = chained (ask_keeps g) k

note_keeps : {quiet : Bool} (at : Place) (kind : FaultKind) → Keeping quiet (note at kind)
unfolding note
note_keeps at kind = record { keeps = λ w s e. kept_itself s }

pub noted : {quiet : Bool} {A : Type 0} (at : Place) (kind : FaultKind) (m : Rule A) → Keeping quiet m → Keeping quiet (chain (note at kind) (λ u. m))
noted at kind m h = chained (note_keeps at kind) (λ u. h)

pub fault : {quiet : Bool} {A : Type 0} (at : Place) (kind : FaultKind) (a : A) → Keeping quiet (chain (note at kind) (λ u. pure a))
fault at kind a = noted at kind (pure a) (pure_keeps a)

pub demand_keeps : {quiet : Bool} (at : Place) (kind : FaultKind) (b : Bool) → Keeping quiet (demand at kind b)
unfolding demand
demand_keeps at kind true = pure_keeps tt
demand_keeps at kind false = note_keeps at kind

pub keep_keeps : {quiet : Bool} (at : Place) (kind : LimitKind) (b : Bool) → Keeping quiet (keep_within at kind b)
unfolding keep_within
keep_keeps at kind true = pure_keeps tt
keep_keeps at kind false = record { keeps = λ w s e. kept_itself s }

pub instead_keeps : {quiet : Bool} (at : Place) (kind : FaultKind) (m : Rule (Unit {0})) → Keeping quiet m → Keeping quiet (instead at kind m)
unfolding instead
instead_keeps {quiet = quiet} at kind m h = record { keeps = λ w s e. h.keeps w s (if_then quiet (λ n. none_mapped _ (m w).found n) e) }

pub change_keeps : {quiet : Bool} (g : World → World) → ((w : World) → Sound quiet w.structs w.types → Kept quiet w.structs (g w).structs (g w).types) → Keeping quiet (change g)
unfolding change
change_keeps g k = record { keeps = λ w s e. k w s }

pub place_keeps : {quiet : Bool} (line : Line) → Keeping quiet (place line)
unfolding place
place_keeps line = record { keeps = λ w s e. kept_itself s }

pub chosen : {quiet : Bool} {A : Type 0} (b : Bool) {x y : Rule A} → Keeping quiet x → Keeping quiet y → Keeping quiet (elim b [ true ↦ x | false ↦ y ])
chosen true h k = h
chosen false h k = k

pub decided : {quiet : Bool} {A : Type 0} (b : Bool) {x y : Rule A} → Keeping quiet x → Keeping quiet y → Keeping quiet (if b then x else y)
decided true h k = h
decided false h k = k

pub if_some : {quiet : Bool} {A B : Type 0} (o : Option A) {x : Rule B} {f : A → Rule B} → Keeping quiet x → ((a : A) → Keeping quiet (f a)) → Keeping quiet (elim o [ None ↦ x | Some a ↦ f a ])
if_some None h k = h
if_some (Some a) h k = k a

-- ---- scopes and names

pub enter_keeps : {quiet : Bool} → Keeping quiet enter
unfolding enter
enter_keeps = change_keeps _ (λ w s. kept_itself s)

pub leave_keeps : {quiet : Bool} → Keeping quiet leave
unfolding leave
leave_keeps {quiet = quiet} = change_keeps _ (λ w s. go w w.outer s)
  where
    go : (w : World) (scopes : List ScopeData) → Sound quiet w.structs w.types → Kept quiet w.structs (left_to scopes w).structs (left_to scopes w).types
    go w [] s = kept_itself s
    go w (x ∷ xs) s = kept_itself s

pub scoped_keeps : {quiet : Bool} {m : Rule (Unit {0})} → Keeping quiet m → Keeping quiet (scoped m)
scoped_keeps h = chained enter_keeps (λ a. chained h (λ b. leave_keeps))

pub free_name_keeps : {quiet : Bool} (at : Place) (name : Text) → Keeping quiet (free_name at name)
unfolding free_name
free_name_keeps at name = demand_keeps _ _ _

pub free_tag_keeps : {quiet : Bool} (at : Place) (tag : Text) → Keeping quiet (free_tag at tag)
unfolding free_tag
free_tag_keeps at tag = asked _ _ (λ reserved. demand_keeps _ _ _)

pub declare_keeps : {quiet : Bool} (at : Place) (name : Text) (entry : EntryData) → Keeping quiet (declare at name entry)
unfolding declare
declare_keeps at name entry = asked _ _ (λ before. chained (change_keeps _ (λ w s. kept_itself s)) (λ a. chained (demand_keeps _ _ _) (λ b. free_name_keeps at name)))

pub better_keeps : {quiet : Bool} (name : Text) (entry : EntryData) → Keeping quiet (know_better name entry)
unfolding know_better
better_keeps name entry = change_keeps _ (λ w s. kept_itself s)

pub label_keeps : {quiet : Bool} (at : Place) (name : Text) → Keeping quiet (declare_label at name)
unfolding declare_label
label_keeps at name = asked _ _ (λ before. chained (change_keeps _ (λ w s. kept_itself s)) (λ a. chained (demand_keeps _ _ _) (λ b. free_name_keeps at name)))

-- ---- at one place, where something is known

pub record At (quiet : Bool) {A : Type 0} (w : World) (m : Rule A) : Type 0 where
  pub goes : Sound quiet w.structs w.types → OnlyIf quiet (Nothing (m w).found) → Kept quiet w.structs (m w).world.structs (m w).world.types

pub wherever : {quiet : Bool} {A : Type 0} {m : Rule A} → ((w : World) → At quiet w m) → Keeping quiet m
wherever h = record { keeps = λ w s e. (h w).goes s e }

pub here : {quiet : Bool} {A : Type 0} {m : Rule A} (w : World) → Keeping quiet m → At quiet w m
here w h = record { goes = h.keeps w }

-- with what holds of its answer behind the first, where it finds nothing
pub followed_by : {quiet : Bool} {A B : Type 0} {m : Rule A} {f : A → Rule B} {w : World} (P : World → A → Type 0) → Keeping quiet m
    → (OnlyIf quiet (Nothing (m w).found) → P (m w).world (m w).answer)
    → ((x : World) (a : A) → ListedStay w.structs x.structs → P x a → At quiet x (f a)) → At quiet w (chain m f)
unfolding chain
followed_by {quiet = quiet} {m = m} {f = f} {w = w} P h has k = record {
  goes = λ s e.
      let n = f (m w).answer (m w).world in
      let none = nothing_before quiet (m w).found n.found e in
      let p = h.keeps w s none in
      kept_further p ((k (m w).world (m w).answer (listed_stay w.structs (m w).world.structs p.stay) (has none)).goes p.sound (nothing_behind quiet (m w).found n.found e));
}

pub quietly : {quiet : Bool} {A B : Type 0} {m : Rule A} {f : A → Rule B} {w : World} → Keeping quiet m
    → ((x : World) (a : A) → ListedStay w.structs x.structs → At quiet x (f a)) → At quiet w (chain m f)
quietly h k = followed_by (λ x a. Unit {0}) h (λ e. tt) (λ x a stay p. k x a stay)

pub asked_at : {quiet : Bool} {A B : Type 0} (g : World → A) (f : A → Rule B) (w : World) → At quiet w (f (g w)) → At quiet w (chain (ask g) f)
unfolding chain ask
asked_at g f w h = record { goes = h.goes }

pub at_then : {quiet : Bool} {A B : Type 0} {m : Rule A} {f : A → Rule B} {w : World} → At quiet w m → ((a : A) → Keeping quiet (f a)) → At quiet w (chain m f)
unfolding chain
at_then {quiet = quiet} {m = m} {f = f} {w = w} h k = record {
  goes = λ s e.
      let n = f (m w).answer (m w).world in
      let p = h.goes s (nothing_before quiet (m w).found n.found e) in
      kept_further p ((k (m w).answer).keeps (m w).world p.sound (nothing_behind quiet (m w).found n.found e));
}

-- ---- declarations

type_behind : (ts : List TyData) (t : TyData) (P : TyData → Type 0) → ((k : ℕ) (s : TyData) → slice_get ts k ≡ Some s → P s) → P t → (k : ℕ) (s : TyData) → slice_get (ts ++ t ∷ []) k ≡ Some s → P s
type_behind ts t P h p k s e = go (get_behind ts t k)
  where
    go : (slice_get (ts ++ t ∷ []) k ≡ slice_get ts k) ⊎ (k ≡ length ts) → P s
    go (inl same) = h k s (sym same ∙ e)
    go (inr is) = subst P (some_is (sym (get_last ts t) ∙ sym (ap (slice_get (ts ++ t ∷ [])) is) ∙ e)) p

-- one declaration more, whose type fits
pub number_at : {quiet : Bool} (w : World) (t : TyData) → OnlyIf quiet (IsFit w.structs t) → At quiet w (number_as t)
unfolding number_as change
number_at {quiet = quiet} w t fits = record {
  goes = λ s e. record {
    sound = record {
      varchars = s.varchars;
      fit = if_both quiet (λ f tables. record { types = type_behind w.types t (IsFit w.structs) tables.types f; members = tables.members; structs = tables.structs }) fits s.fit;
    };
    stay = stay_itself w.structs;
  };
}

-- ---- structs that change

-- not listed, and not being listed
abbrev pub is_fresh : Option MembersData → Bool
is_fresh None = true
is_fresh (Some m) = is_unlisted m

-- Only this struct is another, which was not listed.
pub record Changed (ss us : List StructInfo) (k : ℕ) (info : StructInfo) : Type 0 where
  pub each : (j : ℕ) → (slice_get us j ≡ slice_get ss j) ⊎ ((j ≡ k) × (slice_get us k ≡ Some info))
  pub before : is_listed (members_at ss k) ≡ false

pub new_changed : (ss : List StructInfo) (info : StructInfo) → Changed ss (ss ++ info ∷ []) (length ss) info
new_changed ss info = record {
  each = λ j. go j (get_behind ss info j);
  before = ap (λ o. is_listed (option_map (λ s. s.members) o)) (none_at_end ss);
}
  where
    go : (j : ℕ) → (slice_get (ss ++ info ∷ []) j ≡ slice_get ss j) ⊎ (j ≡ length ss) → (slice_get (ss ++ info ∷ []) j ≡ slice_get ss j) ⊎ ((j ≡ length ss) × (slice_get (ss ++ info ∷ []) (length ss) ≡ Some info))
    go j (inl same) = inl same
    go j (inr is) = inr (is, get_last ss info)

pub set_changed : (ss : List StructInfo) (k : ℕ) (info : StructInfo) {ms : MembersData} → members_at ss k ≡ Some ms → is_listed (Some ms) ≡ false → Changed ss (slice_set ss k info) k info
set_changed ss k info {ms} e not_so = record {
  each = λ j. go j (set_elsewhere ss k j info);
  before = ap is_listed e ∙ not_so;
}
  where
    go : (j : ℕ) → (slice_get (slice_set ss k info) j ≡ slice_get ss j) ⊎ (j ≡ k) → (slice_get (slice_set ss k info) j ≡ slice_get ss j) ⊎ ((j ≡ k) × (slice_get (slice_set ss k info) k ≡ Some info))
    go j (inl same) = inl same
    go j (inr is) = inr (is, set_here ss k info (there ss k ms e).is)

module _ (ss us : List StructInfo) (k : ℕ) (info : StructInfo) (changed : Changed ss us k info) where
  listed_elsewhere : ListedStay ss us
  listed_elsewhere j e = go (changed.each j)
    where
      go : (slice_get us j ≡ slice_get ss j) ⊎ ((j ≡ k) × (slice_get us k ≡ Some info)) → slice_get us j ≡ slice_get ss j
      go (inl same) = same
      go (inr p) = false_not (sym changed.before ∙ sym (ap (λ i. is_listed (members_at ss i)) p.0) ∙ e)

  -- what holds of each struct before, and of this one
  each_info : (P : StructInfo → Type 0) → ((j : ℕ) (i : StructInfo) → slice_get ss j ≡ Some i → P i) → P info → (j : ℕ) (i : StructInfo) → slice_get us j ≡ Some i → P i
  each_info P h p j i e = go (changed.each j)
    where
      go : (slice_get us j ≡ slice_get ss j) ⊎ ((j ≡ k) × (slice_get us k ≡ Some info)) → P i
      go (inl same) = h j i (sym same ∙ e)
      go (inr q) = subst P (some_is (sym q.1 ∙ sym (ap (slice_get us) q.0) ∙ e)) p

  each_members : ((ms : Members) → Some info.members ≡ Some (listed ms) → AreFit ss ms) → ((j : ℕ) (ms : Members) → members_at ss j ≡ Some (listed ms) → AreFit ss ms)
      → (j : ℕ) (ms : Members) → members_at us j ≡ Some (listed ms) → AreFit us ms
  each_members own h j ms e = are_fit_stay ss us listed_elsewhere ms (go (changed.each j))
    where
      go : (slice_get us j ≡ slice_get ss j) ⊎ ((j ≡ k) × (slice_get us k ≡ Some info)) → AreFit ss ms
      go (inl same) = h j ms (sym (ap (option_map (λ s. s.members)) same) ∙ e)
      go (inr q) = own ms (sym (ap (option_map (λ s. s.members)) q.1) ∙ sym (ap (members_at us) q.0) ∙ e)

  pub changed_sound : {quiet : Bool} {ts : List TyData} → (info.varchar ≡ true → IsVarchar info)
      → OnlyIf quiet ((is_within info.shape ≡ true) × ((ms : Members) → Some info.members ≡ Some (listed ms) → AreFit ss ms)) → Sound quiet ss ts → Sound quiet us ts
  changed_sound {quiet = quiet} is_varchar fits s = record {
    varchars = each_info (λ i. i.varchar ≡ true → IsVarchar i) s.varchars is_varchar;
    fit = if_both quiet (λ f tables. record {
      types = λ j t e. fit_stays ss us listed_elsewhere t (tables.types j t e);
      members = each_members f.1 tables.members;
      structs = each_info (λ i. is_within i.shape ≡ true) tables.structs f.0;
    }) fits s.fit;
  }

  -- where it was not being listed further out
  pub stay_behind : (front : List StructInfo) → is_fresh (members_at front k) ≡ true → StructsStay front ss → StructsStay front us
  stay_behind front fresh stay j i e u = go (changed.each j)
    where
      go : (slice_get us j ≡ slice_get ss j) ⊎ ((j ≡ k) × (slice_get us k ≡ Some info)) → slice_get us j ≡ Some i
      go (inl same) = same ∙ stay j i e u
      go (inr q) = false_not (sym u ∙ sym (ap (λ o. is_fresh (option_map (λ s. s.members) o)) e) ∙ ap (λ n. is_fresh (members_at front n)) q.0 ∙ fresh)

-- a struct without members
pub record IsBlank (info : StructInfo) : Type 0 where
  pub varchar : info.varchar ≡ false
  pub shape : is_within info.shape ≡ true
  pub members : is_listed (Some info.members) ≡ false

blank_members : (ss : List StructInfo) (info : StructInfo) → IsBlank info → (ms : Members) → Some info.members ≡ Some (listed ms) → AreFit ss ms
blank_members ss info b ms e = false_not (sym b.members ∙ ap is_listed e)

pub blank_kept : {quiet : Bool} {ss us : List StructInfo} {ts : List TyData} (k : ℕ) (info : StructInfo) → IsBlank info → Changed ss us k info → is_fresh (members_at ss k) ≡ true → Sound quiet ss ts → Kept quiet ss us ts
blank_kept {quiet = quiet} {ss = ss} {us = us} k info b changed fresh s = record {
  sound = changed_sound ss us k info changed (λ e. false_not (sym b.varchar ∙ e)) (if_so quiet (b.shape, blank_members ss info b)) s;
  stay = stay_behind ss us k info changed ss fresh (stay_itself ss);
}

pub fresh_at_end : (ss : List StructInfo) → is_fresh (members_at ss (length ss)) ≡ true
fresh_at_end ss = ap (λ o. is_fresh (option_map (λ s. s.members) o)) (none_at_end ss)

-- ---- structs that are begun here

pub members_last : (ss : List StructInfo) (info : StructInfo) → members_at (ss ++ info ∷ []) (length ss) ≡ Some info.members
members_last ss info = ap (option_map (λ s. s.members)) (get_last ss info)

-- a struct whose members are being listed stays so
pub begun_stays : (ss us : List StructInfo) → StructsStay ss us → (k : ℕ) → members_at ss k ≡ Some begun → members_at us k ≡ Some begun
begun_stays ss us stay k e =
    let t = there ss k begun e in
    ap (option_map (λ s. s.members)) (stay k t.info t.is (ap is_fresh t.are)) ∙ t.are

-- the members of this struct are being listed there, and were not so here
pub record Begins (quiet : Bool) (ss us : List StructInfo) (ts : List TyData) (k : ℕ) : Type 0 where
  pub kept : Kept quiet ss us ts
  pub now : members_at us k ≡ Some begun
  pub fresh : is_fresh (members_at ss k) ≡ true

pub record Beginning (quiet : Bool) (m : Rule ℕ) : Type 0 where
  pub begins : (w : World) → Sound quiet w.structs w.types → OnlyIf quiet (Nothing (m w).found) → Begins quiet w.structs (m w).world.structs (m w).world.types (m w).answer

pub new_struct_keeps : {quiet : Bool} (info : StructInfo) → IsBlank info → Keeping quiet (new_struct info)
unfolding new_struct
new_struct_keeps info b = record { keeps = λ w s e. blank_kept (length w.structs) info b (new_changed w.structs info) (fresh_at_end w.structs) s }

pub new_struct_begins : {quiet : Bool} (info : StructInfo) → IsBlank info → info.members ≡ begun → Beginning quiet (new_struct info)
unfolding new_struct
new_struct_begins info b is = record {
  begins = λ w s e. record {
    kept = blank_kept (length w.structs) info b (new_changed w.structs info) (fresh_at_end w.structs) s;
    now = members_last w.structs info ∙ ap (λ m. Some m) is;
    fresh = fresh_at_end w.structs;
  };
}

pub begins_then : {quiet : Bool} {A : Type 0} {m : Rule ℕ} {f : ℕ → Rule A} → Beginning quiet m → ((k : ℕ) → Keeping quiet (f k)) → Beginning quiet (chain m (λ k. chain (f k) (λ a. pure k)))
unfolding chain pure
begins_then {quiet = quiet} {m = m} {f = f} b h = record {
  begins = λ w s e.
      let n = f (m w).answer (m w).world in
      let p = b.begins w s (nothing_before quiet (m w).found (n.found ++ []) e) in
      let q = (h (m w).answer).keeps (m w).world p.kept.sound (nothing_before quiet n.found [] (nothing_behind quiet (m w).found (n.found ++ []) e)) in
      record { kept = kept_further p.kept q; now = begun_stays (m w).world.structs n.world.structs q.stay (m w).answer p.now; fresh = p.fresh };
}

pub asked_begins : {quiet : Bool} {A : Type 0} (g : World → A) (f : A → Rule ℕ) → ((a : A) → Beginning quiet (f a)) → Beginning quiet (chain (ask g) f)
unfolding chain ask
asked_begins g f k = record { begins = λ w s e. (k (g w)).begins w s e }

pub noted_begins : {quiet : Bool} (at : Place) (kind : FaultKind) (m : Rule ℕ) → Beginning quiet m → Beginning quiet (chain (note at kind) (λ u. m))
unfolding chain note
noted_begins {quiet = quiet} at kind m b = record { begins = λ w s e. b.begins w s (nothing_behind quiet (_ ∷ []) (m w).found e) }

-- behind a rule that leaves what is known as it is
pub begins_behind : {quiet : Bool} {A : Type 0} (m : Rule A) (f : A → Rule ℕ) → ((w : World) → (m w).world ≡ w) → ((a : A) → Beginning quiet (f a)) → Beginning quiet (chain m f)
unfolding chain
begins_behind {quiet = quiet} m f same k = record {
  begins = λ w s e.
      let n = f (m w).answer (m w).world in
      subst (λ z. Begins quiet z.structs n.world.structs n.world.types n.answer) (same w)
      ((k (m w).answer).begins (m w).world (subst (λ z. Sound quiet z.structs z.types) (sym (same w)) s) (nothing_behind quiet (m w).found n.found e));
}

-- ---- members that are gathered

pub record Gathered (quiet : Bool) (ss us : List StructInfo) (ts : List TyData) (ms : Members) : Type 0 where
  pub kept : Kept quiet ss us ts
  pub fit : OnlyIf quiet (AreFit us ms)

-- a rule that adds members to these
pub record Gathering (quiet : Bool) (ms : Members) (m : Rule Members) : Type 0 where
  pub gathers : (w : World) → Sound quiet w.structs w.types → OnlyIf quiet (AreFit w.structs ms) → OnlyIf quiet (Nothing (m w).found)
      → Gathered quiet w.structs (m w).world.structs (m w).world.types (m w).answer

pub fit_further : {quiet : Bool} {ss us : List StructInfo} {ts : List TyData} (ms : Members) → Kept quiet ss us ts → OnlyIf quiet (AreFit ss ms) → OnlyIf quiet (AreFit us ms)
fit_further {quiet = quiet} {ss = ss} {us = us} ms p f = if_then quiet (are_fit_stay ss us (listed_stay ss us p.stay) ms) f

pub pure_gathers : {quiet : Bool} (ms : Members) → Gathering quiet ms (pure ms)
unfolding pure
pure_gathers ms = record { gathers = λ w s f e. record { kept = kept_itself s; fit = f } }

-- behind another rule, with what holds of its answer
pub gathers_from : {quiet : Bool} {A : Type 0} {ms : Members} {m : Rule A} {f : A → Rule Members} (P : A → Type 0) → Keeping quiet m → ((w : World) → P (m w).answer) → ((a : A) → P a → Gathering quiet ms (f a)) → Gathering quiet ms (chain m f)
unfolding chain
gathers_from {quiet = quiet} {ms = ms} {m = m} {f = f} P h has k = record {
  gathers = λ w s g e.
      let n = f (m w).answer (m w).world in
      let p = h.keeps w s (nothing_before quiet (m w).found n.found e) in
      let q = (k (m w).answer (has w)).gathers (m w).world p.sound (fit_further ms p g) (nothing_behind quiet (m w).found n.found e) in
      record { kept = kept_further p q.kept; fit = q.fit };
}

pub gathers_behind : {quiet : Bool} {A : Type 0} {ms : Members} {m : Rule A} {f : A → Rule Members} → Keeping quiet m → ((a : A) → Gathering quiet ms (f a)) → Gathering quiet ms (chain m f)
gathers_behind h k = gathers_from (λ a. Unit {0}) h (λ w. tt) (λ a p. k a)

pub gathers_more : {quiet : Bool} {ms : Members} {m : Rule Members} {f : Members → Rule Members} → Gathering quiet ms m → ((more : Members) → Gathering quiet more (f more)) → Gathering quiet ms (chain m f)
unfolding chain
gathers_more {quiet = quiet} {ms = ms} {m = m} {f = f} h k = record {
  gathers = λ w s g e.
      let n = f (m w).answer (m w).world in
      let p = h.gathers w s g (nothing_before quiet (m w).found n.found e) in
      let q = (k (m w).answer).gathers (m w).world p.kept.sound p.fit (nothing_behind quiet (m w).found n.found e) in
      record { kept = kept_further p.kept q.kept; fit = q.fit };
}

-- Its members are looked at, and then it is closed.
pub struct_keeps : {quiet : Bool} {A : Type 0} (m : Rule ℕ) (f : Rule Members) (g : ℕ → Members → Rule A) → Beginning quiet m → Gathering quiet [] f
    → ((k : ℕ) (ms : Members) (ss : List StructInfo) (y : World) → is_fresh (members_at ss k) ≡ true → members_at y.structs k ≡ Some begun → Kept quiet ss y.structs y.types → OnlyIf quiet (AreFit y.structs ms)
    → OnlyIf quiet (Nothing (g k ms y).found) → Kept quiet ss (g k ms y).world.structs (g k ms y).world.types)
    → Keeping quiet (chain m (λ k. chain f (g k)))
unfolding chain
struct_keeps {quiet = quiet} m f g b h c = record {
  keeps = λ w s e.
      let k = (m w).answer in
      let y = f (m w).world in
      let n = g k y.answer y.world in
      let behind = nothing_behind quiet (m w).found (y.found ++ n.found) e in
      let p = b.begins w s (nothing_before quiet (m w).found (y.found ++ n.found) e) in
      let q = h.gathers (m w).world p.kept.sound (if_so quiet tt) (nothing_before quiet y.found n.found behind) in
      c k y.answer w.structs y.world p.fresh (begun_stays (m w).world.structs y.world.structs q.kept.stay k p.now) (kept_further p.kept q.kept) q.fit
      (nothing_behind quiet y.found n.found behind);
}
