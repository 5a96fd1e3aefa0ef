-- Rules that find nothing: what holds then of each part, and that no tag that is known is EXEC.
use Rattle.std.proofs.Common.{◌≡◌, ℕ, Bool, true, false, ◌&&◌, List, [], ◌∷◌, ◌++◌, refl, ap, ◌∙◌, Option, Some, None, if◌then◌else◌}
use Rattle.ec_base.specs.declared.fault.FaultKind.{FaultKind}
use Rattle.ec_base.specs.declared.fault.LimitKind.{LimitKind}
use Rattle.ec_base.specs.declared.line.Line.{Line}
use Rattle.ec_language.specs.First.{Violation}
use Rattle.ec_language.specs.Letters.{Text, same_text}
use Rattle.ec_language.proofs.Ends.{both}
use Rattle.ec_language.proofs.Marks.{same_text_is}
use Rattle.ec_typing_defs.specs.Tables.{Named, find, put}
use Rattle.ec_typing_defs.specs.Worlds.{Place, EntryData, StructInfo, ScopeData, World, Rule, chain, pure, ask, change, note, demand, keep_within, place, or_else, tag_in, tag_up, left_to, enter, leave, scoped, declare, know_better, declare_label, free_name, number_as, new_struct, set_struct}
use Rattle.ec_written_laws.specs.kept.Phases.{by_checks}

pub join : {x y : Bool} → x ≡ true → y ≡ true → (x && y) ≡ true
join p q = λ i. p i && q i

-- ---- tags

abbrev pub may_be_tag : Text → Bool
may_be_tag t = by_checks.tag t

abbrev pub clean_tags : Named ℕ → Bool
clean_tags [] = true
clean_tags (e ∷ es) = may_be_tag e.0 && clean_tags es

abbrev pub clean_scopes : List ScopeData → Bool
clean_scopes [] = true
clean_scopes (s ∷ ss) = clean_tags s.tags && clean_scopes ss

abbrev pub is_clean : World → Bool
is_clean w = clean_tags w.here.tags && clean_scopes w.outer

pub put_clean : (t : Text) (k : ℕ) (es : Named ℕ) → may_be_tag t ≡ true → clean_tags es ≡ true → clean_tags (put t k es) ≡ true
put_clean t k [] h c = join h refl
put_clean t k (e ∷ es) h c = let p = both (may_be_tag e.0) (clean_tags es) c in go (same_text t e.0) (put_clean t k es h p.1)
  where
    go : (b : Bool) → clean_tags (put t k es) ≡ true → clean_tags (if b then (e.0, k) ∷ es else e ∷ put t k es) ≡ true
    go true x = c
    go false x = join (both (may_be_tag e.0) (clean_tags es) c).0 x

pub found_tag : (t : Text) (k : ℕ) (es : Named ℕ) → clean_tags es ≡ true → find t es ≡ Some k → may_be_tag t ≡ true
found_tag t k [] c e = absurd (cc)
found_tag t k (x ∷ es) c e = let p = both (may_be_tag x.0) (clean_tags es) c in go (same_text t x.0) refl e (found_tag t k es p.1) p.0
  where
    go : (b : Bool) → same_text t x.0 ≡ b → (if b then Some x.1 else find t es) ≡ Some k → (find t es ≡ Some k → may_be_tag t ≡ true) → may_be_tag x.0 ≡ true → may_be_tag t ≡ true
    go true s e more h = ap may_be_tag (same_text_is t x.0 s) ∙ h
    go false s e more h = more e

either_of : (t : Text) (x y : Option ℕ) (k : ℕ) → or_else x y ≡ Some k → ((j : ℕ) → x ≡ Some j → may_be_tag t ≡ true) → ((j : ℕ) → y ≡ Some j → may_be_tag t ≡ true) → may_be_tag t ≡ true
either_of t None y k e f g = g k e
either_of t (Some j) y k e f g = f j refl

tag_in_is : (t : Text) (k : ℕ) (ss : List ScopeData) → clean_scopes ss ≡ true → tag_in ss t ≡ Some k → may_be_tag t ≡ true
tag_in_is t k [] c e = absurd (cc)
tag_in_is t k (s ∷ ss) c e =
    let p = both (clean_tags s.tags) (clean_scopes ss) c in
    either_of t (find t s.tags) (tag_in ss t) k e (λ j f. found_tag t j s.tags p.0 f) (λ j f. tag_in_is t j ss p.1 f)

-- a tag that is found
pub tag_up_is : (t : Text) (k : ℕ) (w : World) → is_clean w ≡ true → tag_up t w ≡ Some k → may_be_tag t ≡ true
tag_up_is t k w c e =
    let p = both (clean_tags w.here.tags) (clean_scopes w.outer) c in
    either_of t (find t w.here.tags) (tag_in w.outer t) k e (λ j f. found_tag t j w.here.tags p.0 f) (λ j f. tag_in_is t j w.outer p.1 f)

-- ---- rules

-- Where the rule finds nothing this holds, and tags stay clean.
pub record Holds {A : Type 0} (m : Rule A) (Q : Type 0) : Type 0 where
  pub run : (w : World) → is_clean w ≡ true → (m w).found ≡ [] → (is_clean (m w).world ≡ true) × Q

abbrev pub Quiet : {A : Type 0} → Rule A → Type 0
Quiet m = Holds m (Unit {0})

no_more : (vs us : List Violation) → vs ++ us ≡ [] → (vs ≡ []) × (us ≡ [])
no_more [] us e = (refl, e)
no_more (v ∷ vs) us e = absurd (cc)

pub chained : {A B : Type 0} {m : Rule A} {f : A → Rule B} {P Q : Type 0} → Holds m P → ((a : A) → P → Holds (f a) Q) → Holds (chain m f) Q
unfolding chain
chained {m = m} {f = f} h k = record {
  run = λ w c e.
      let p = no_more (m w).found (f (m w).answer (m w).world).found e in
      let x = h.run w c p.0 in
      (k (m w).answer x.1).run (m w).world x.0 p.1;
}

-- what the first says is kept
pub gives : {A : Type 0} {m : Rule A} {P Q : Type 0} → Holds m P → (P → Q) → Holds m Q
gives h f = record { run = λ w c e. let x = h.run w c e in (x.0, f x.1) }

pub quiet_of : {A : Type 0} {m : Rule A} {P : Type 0} → Holds m P → Quiet m
quiet_of h = gives h (λ p. tt)

-- the same with all that the opened rules are made of
ask_run : {A B : Type 0} (g : World → A) (f : A → Rule B) (Q : Type 0) → ((w : World) → is_clean w ≡ true → Holds (f (g w)) Q) → Holds (chain (ask g) f) Q
unfolding chain ask
ask_run g f Q k = record { run = λ w c e. (k w c).run w c e }

pure_run : {A : Type 0} (a : A) (Q : Type 0) → Q → Holds (pure a) Q
unfolding pure
pure_run a Q q = record { run = λ w c e. (c, q) }

no_violation : (v : Violation) → v ∷ [] ≡ [] → ⊥
no_violation v e = cc

note_run : (at : Place) (kind : FaultKind) (Q : Type 0) → Holds (note at kind) Q
unfolding note
note_run at kind Q = record { run = λ w c e. absurd (no_violation _ e) }

demand_run : (at : Place) (kind : FaultKind) (b : Bool) → Holds (demand at kind b) (b ≡ true)
unfolding demand
demand_run at kind true = pure_run tt (true ≡ true) refl
demand_run at kind false = note_run at kind (false ≡ true)

keep_run : (at : Place) (kind : LimitKind) (b : Bool) → Quiet (keep_within at kind b)
unfolding keep_within
keep_run at kind true = pure_run tt (Unit {0}) tt
keep_run at kind false = record { run = λ w c e. absurd (no_violation _ e) }

change_run : (g : World → World) → ((w : World) → is_clean w ≡ true → is_clean (g w) ≡ true) → Quiet (change g)
unfolding change
change_run g k = record { run = λ w c e. (k w c, tt) }

pub asked : {A B : Type 0} (g : World → A) (f : A → Rule B) {Q : Type 0} → ((w : World) → is_clean w ≡ true → Holds (f (g w)) Q) → Holds (chain (ask g) f) Q
asked g f {Q = Q} k = ask_run g f Q k

pub pure_holds : {A : Type 0} (a : A) {Q : Type 0} → Q → Holds (pure a) Q
pure_holds a {Q = Q} q = pure_run a Q q

pub note_holds : (at : Place) (kind : FaultKind) {Q : Type 0} → Holds (note at kind) Q
note_holds at kind {Q = Q} = note_run at kind Q

-- nothing follows a fault
pub fault : {A : Type 0} (at : Place) (kind : FaultKind) (f : Unit {0} → Rule A) {Q : Type 0} → Holds (chain (note at kind) f) Q
fault at kind f = chained {P = ⊥} (note_holds at kind) (λ a p. absurd p)

pub demand_holds : (at : Place) (kind : FaultKind) (b : Bool) → Holds (demand at kind b) (b ≡ true)
demand_holds at kind b = demand_run at kind b

pub demand_quiet : (at : Place) (kind : FaultKind) (b : Bool) → Quiet (demand at kind b)
demand_quiet at kind b = gives (demand_holds at kind b) (λ e. tt)

pub keep_quiet : (at : Place) (kind : LimitKind) (b : Bool) → Quiet (keep_within at kind b)
keep_quiet at kind b = keep_run at kind b

pub change_holds : (g : World → World) → ((w : World) → is_clean w ≡ true → is_clean (g w) ≡ true) → Quiet (change g)
change_holds g k = change_run g k

pub place_quiet : (line : Line) → Quiet (place line)
unfolding place
place_quiet line = record { run = λ w c e. (c, tt) }

pub chosen : {A : Type 0} (b : Bool) {x y : Rule A} {Q : Type 0} → Holds x Q → Holds y Q → Holds (elim b [ true ↦ x | false ↦ y ]) Q
chosen true h k = h
chosen false h k = k

pub decided : {A : Type 0} (b : Bool) {x y : Rule A} {Q : Type 0} → Holds x Q → Holds y Q → Holds (if b then x else y) Q
decided true h k = h
decided false h k = k

pub if_some : {A B : Type 0} (o : Option A) {x : Rule B} {f : A → Rule B} {Q : Type 0} → Holds x Q → ((a : A) → Holds (f a) Q) → Holds (elim o [ None ↦ x | Some a ↦ f a ]) Q
if_some None h k = h
if_some (Some a) h k = k a

-- ---- scopes

pub enter_quiet : Quiet enter
unfolding enter
enter_quiet = change_holds _ (λ w c. c)

pub leave_quiet : Quiet leave
unfolding leave
leave_quiet = change_holds _ (λ w c. go w w.outer (both (clean_tags w.here.tags) (clean_scopes w.outer) c).1)
  where
    go : (w : World) (ss : List ScopeData) → clean_scopes ss ≡ true → is_clean (left_to ss w) ≡ true
    go w [] c = refl
    go w (s ∷ ss) c = c

pub scoped_holds : {m : Rule (Unit {0})} {Q : Type 0} → Holds m Q → Holds (scoped m) Q
scoped_holds h = chained enter_quiet (λ a p. chained h (λ b q. gives leave_quiet (λ u. q)))

pub free_name_quiet : (at : Place) (name : Text) → Quiet (free_name at name)
unfolding free_name
free_name_quiet at name = demand_quiet _ _ _

pub declare_quiet : (at : Place) (name : Text) (entry : EntryData) → Quiet (declare at name entry)
unfolding declare
declare_quiet at name entry = asked _ _ (λ w c. chained (change_holds _ (λ v d. d)) (λ a p. chained (demand_quiet _ _ _) (λ b q. free_name_quiet at name)))

pub better_quiet : (name : Text) (entry : EntryData) → Quiet (know_better name entry)
unfolding know_better
better_quiet name entry = change_holds _ (λ w c. c)

pub label_quiet : (at : Place) (name : Text) → Quiet (declare_label at name)
unfolding declare_label
label_quiet at name = asked _ _ (λ w c. chained (change_holds _ (λ v d. d)) (λ a p. chained (demand_quiet _ _ _) (λ b q. free_name_quiet at name)))

pub number_quiet : (t : _) → Quiet (number_as t)
unfolding number_as
number_quiet t = change_holds _ (λ w c. c)

pub new_struct_quiet : (info : StructInfo) → Quiet (new_struct info)
unfolding new_struct
new_struct_quiet info = record { run = λ w c e. (c, tt) }

pub set_struct_quiet : (k : ℕ) (info : StructInfo) → Quiet (set_struct k info)
unfolding set_struct
set_struct_quiet k info = change_holds _ (λ w c. c)
