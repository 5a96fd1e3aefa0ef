-- Rules that find nothing: what holds then of each part, and that names are free and members have plain names.
use Rattle.std.proofs.Common.{◌≡◌, ℕ, Bool, true, false, not, ◌&&◌, ◌||◌, List, [], ◌∷◌, ◌++◌, refl, sym, ap, ◌∙◌, subst, Option, Some, None, if◌then◌else◌}
use Rattle.std.specs.Prelude.{slice_set, codes}
use Rattle.ec_base.specs.declared.fault.FaultKind.{FaultKind}
use Rattle.ec_base.specs.declared.fault.FaultKind.TheVariants.{F12}
use Rattle.ec_base.specs.declared.fault.LimitKind.{LimitKind}
use Rattle.ec_base.specs.declared.line.Line.{Line}
use Rattle.ec_ctypes.specs.trees.Types.{TyData}
use Rattle.ec_language.specs.First.{Violation}
use Rattle.ec_language.specs.Letters.{Text, same_text}
use Rattle.ec_language.proofs.Classes.{neither, turn_not}
use Rattle.ec_language.proofs.Ends.{both}
use Rattle.ec_language.proofs.Marks.{same_text_is}
use Rattle.ec_typing_defs.specs.Known.{reserved_words, names_in, known_functions, begins_with, is_reserved}
use Rattle.ec_typing_defs.specs.Tables.{Named, find, put, is_one_of}
use Rattle.ec_typing_defs.specs.Worlds.{Place, EntryData, MembersData, unlisted, begun, listed, StructInfo, ScopeData, World, Rule, chain, pure, ask, change, note, demand, keep_within, place, or_else, look_up_in, look_up, with_name, left_to, enter, leave, scoped, declare, know_better, declare_label, free_name, number_as, new_struct, set_struct}
use Rattle.ec_writing_defs.specs.Shapes.{is_plain_name, is_area_word, is_free_name}

pub join : {x y : Bool} → x ≡ true → y ≡ true → (x && y) ≡ true
join p q = λ i. p i && q i

-- ---- names

abbrev pub FreeNames : Named EntryData → Type 0
FreeNames [] = Unit {0}
FreeNames (e ∷ es) = (is_free_name e.0 ≡ true) × FreeNames es

abbrev pub FreeScopes : List ScopeData → Type 0
FreeScopes [] = Unit {0}
FreeScopes (s ∷ ss) = FreeNames s.names × FreeScopes ss

abbrev pub PlainMembers : Named (Option TyData) → Type 0
PlainMembers [] = Unit {0}
PlainMembers (m ∷ ms) = (is_plain_name m.0 ≡ true) × PlainMembers ms

abbrev pub HasPlainMembers : MembersData → Type 0
HasPlainMembers unlisted = Unit {0}
HasPlainMembers begun = Unit {0}
HasPlainMembers (listed ms) = PlainMembers ms

abbrev pub PlainStructs : List StructInfo → Type 0
PlainStructs [] = Unit {0}
PlainStructs (s ∷ ss) = HasPlainMembers s.members × PlainStructs ss

-- Names in scope can begin an expression, and those of members are names.
abbrev pub Clean : World → Type 0
Clean w = FreeNames w.here.names × FreeScopes w.outer × PlainStructs w.structs

pub put_free : (x : Text) (entry : EntryData) (es : Named EntryData) → is_free_name x ≡ true → FreeNames es → FreeNames (put x entry es)
put_free x entry [] h c = (h, tt)
put_free x entry (e ∷ es) h c = go (same_text x e.0) (put_free x entry es h c.1)
  where
    go : (b : Bool) → FreeNames (put x entry es) → FreeNames (if b then (e.0, entry) ∷ es else e ∷ put x entry es)
    go true more = c
    go false more = (c.0, more)

pub put_plain : (x : Text) (t : Option TyData) (ms : Named (Option TyData)) → is_plain_name x ≡ true → PlainMembers ms → PlainMembers (put x t ms)
put_plain x t [] h c = (h, tt)
put_plain x t (m ∷ ms) h c = go (same_text x m.0) (put_plain x t ms h c.1)
  where
    go : (b : Bool) → PlainMembers (put x t ms) → PlainMembers (if b then (m.0, t) ∷ ms else m ∷ put x t ms)
    go true more = c
    go false more = (c.0, more)

found_free : (x : Text) (entry : EntryData) (es : Named EntryData) → FreeNames es → find x es ≡ Some entry → is_free_name x ≡ true
found_free x entry [] c e = absurd (cc)
found_free x entry (y ∷ es) c e = go (same_text x y.0) refl e (found_free x entry es c.1)
  where
    go : (b : Bool) → same_text x y.0 ≡ b → (if b then Some y.1 else find x es) ≡ Some entry → (find x es ≡ Some entry → is_free_name x ≡ true) → is_free_name x ≡ true
    go true s e more = ap is_free_name (same_text_is x y.0 s) ∙ c.0
    go false s e more = more e

either_of : (x : Text) (a b : Option EntryData) (entry : EntryData) → or_else a b ≡ Some entry → ((f : EntryData) → a ≡ Some f → is_free_name x ≡ true) → ((f : EntryData) → b ≡ Some f → is_free_name x ≡ true) → is_free_name x ≡ true
either_of x None b entry e f g = g entry e
either_of x (Some a) b entry e f g = f a refl

outer_free : (x : Text) (entry : EntryData) (ss : List ScopeData) → FreeScopes ss → look_up_in ss x ≡ Some entry → is_free_name x ≡ true
outer_free x entry [] c e = absurd (cc)
outer_free x entry (s ∷ ss) c e = either_of x (find x s.names) (look_up_in ss x) entry e (λ f g. found_free x f s.names c.0 g) (λ f g. outer_free x f ss c.1 g)

-- a name that is found
pub look_up_free : (x : Text) (entry : EntryData) (w : World) → Clean w → look_up x w ≡ Some entry → is_free_name x ≡ true
look_up_free x entry w c e = either_of x (find x w.here.names) (look_up_in w.outer x) entry e (λ f g. found_free x f w.here.names c.0 g) (λ f g. outer_free x f w.outer c.1 g)

-- a name that is not reserved stands for no member of the communication area
pub unreserved : (x : Text) → is_plain_name x ≡ true → not (is_reserved x) ≡ true → is_free_name x ≡ true
unreserved x h r = join h (go (is_area_word x) refl)
  where
    reserved : is_one_of reserved_words x ≡ false
    reserved =
        let words = is_one_of reserved_words x in
        let functions = is_one_of (names_in known_functions) x in
        let calls = begins_with (codes "ECPG") x in
        let tags = begins_with (codes "varchar_") x in
        (neither words functions (neither (words || functions) calls (neither (words || functions || calls) tags (turn_not (is_reserved x) r)).0).0).0

    clash : (y : Text) → same_text x y ≡ true → is_one_of reserved_words y ≡ true → ⊥
    clash y s o = let same = ap (is_one_of reserved_words) (same_text_is x y s) in absurd (cc (reserved, o, same))

    area : (a b : Bool) → same_text x (codes "SQLCODE") ≡ a → same_text x (codes "SQLSTATE") ≡ b → (a || b) ≡ true → ⊥
    area true b s t e = clash (codes "SQLCODE") s refl
    area false true s t e = clash (codes "SQLSTATE") t refl
    area false false s t e = cc

    go : (b : Bool) → is_area_word x ≡ b → not b ≡ true
    go true e = absurd (area _ _ refl refl e)
    go false e = refl

-- ---- structs

pub more_structs : (ss : List StructInfo) (s : StructInfo) → PlainStructs ss → HasPlainMembers s.members → PlainStructs (ss ++ s ∷ [])
more_structs [] s c h = (h, tt)
more_structs (r ∷ ss) s c h = (c.0, more_structs ss s c.1 h)

pub set_plain : (ss : List StructInfo) (k : ℕ) (s : StructInfo) → PlainStructs ss → HasPlainMembers s.members → PlainStructs (slice_set ss k s)
set_plain [] k s c h = tt
set_plain (r ∷ ss) ℕ.zero s c h = (h, c.1)
set_plain (r ∷ ss) (ℕ.suc k) s c h = (c.0, set_plain ss k s c.1 h)

-- ---- rules

-- Where the rule finds nothing this holds of its answer, and of the worlds before and behind it.
pub record Runs {A : Type 0} (I J : World → Type 0) (m : Rule A) (Q : A → Type 0) : Type 0 where
  pub run : (w : World) → I w → (m w).found ≡ [] → J (m w).world × Q (m w).answer

-- It keeps names as they are to be.
abbrev pub Holds : {A : Type 0} → Rule A → (A → Type 0) → Type 0
Holds m Q = Runs Clean Clean m Q

abbrev pub Quiet : {A : Type 0} → Rule A → Type 0
Quiet m = Runs Clean Clean m (λ a. Unit {0})

no_more : (vs us : List Violation) → vs ++ us ≡ [] → (vs ≡ []) × (us ≡ [])
no_more [] us e = (refl, e)
no_more (v ∷ vs) us e = absurd (cc)

pub chained : {A B : Type 0} {I J K : World → Type 0} {m : Rule A} {f : A → Rule B} {P : A → Type 0} {Q : B → Type 0} → Runs I J m P → ((a : A) → P a → Runs J K (f a) Q) → Runs I K (chain m f) Q
unfolding chain
chained {m = m} {f = f} h k = record {
  run = λ w c e.
      let p = no_more (m w).found (f (m w).answer (m w).world).found e in
      let x = h.run w c p.0 in
      (k (m w).answer x.1).run (m w).world x.0 p.1;
}

-- what the first says is kept
pub gives : {A : Type 0} {I J : World → Type 0} {m : Rule A} {P Q : A → Type 0} → Runs I J m P → ((a : A) → P a → Q a) → Runs I J m Q
gives h f = record { run = λ w c e. let x = h.run w c e in (x.0, f _ x.1) }

pub quiet_of : {A : Type 0} {I J : World → Type 0} {m : Rule A} {P : A → Type 0} → Runs I J m P → Runs I J m (λ a. Unit {0})
quiet_of h = gives h (λ a p. tt)

-- the same with all that the opened rules are made of
ask_run : {A B : Type 0} (g : World → A) (f : A → Rule B) (I J : World → Type 0) (Q : B → Type 0) → ((w : World) → I w → Runs I J (f (g w)) Q) → Runs I J (chain (ask g) f) Q
unfolding chain ask
ask_run g f I J Q k = record { run = λ w c e. (k w c).run w c e }

pure_run : {A : Type 0} (a : A) (I : World → Type 0) (Q : A → Type 0) → Q a → Runs I I (pure a) Q
unfolding pure
pure_run a I Q q = record { run = λ w c e. (c, q) }

no_violation : (v : Violation) → v ∷ [] ≡ [] → ⊥
no_violation v e = cc

note_run : (at : Place) (kind : FaultKind) (I J : World → Type 0) (Q : Unit {0} → Type 0) → Runs I J (note at kind) Q
unfolding note
note_run at kind I J Q = record { run = λ w c e. absurd (no_violation _ e) }

demand_run : (at : Place) (kind : FaultKind) (b : Bool) (I : World → Type 0) → Runs I I (demand at kind b) (λ u. b ≡ true)
unfolding demand
demand_run at kind true I = pure_run tt I (λ u. true ≡ true) refl
demand_run at kind false I = note_run at kind I I (λ u. false ≡ true)

keep_run : (at : Place) (kind : LimitKind) (b : Bool) → Quiet (keep_within at kind b)
unfolding keep_within
keep_run at kind true = pure_run tt Clean (λ u. Unit {0}) tt
keep_run at kind false = record { run = λ w c e. absurd (no_violation _ e) }

pub change_run : (g : World → World) (I J : World → Type 0) → ((w : World) → I w → J (g w)) → Runs I J (change g) (λ u. Unit {0})
unfolding change
change_run g I J k = record { run = λ w c e. (k w c, tt) }

pub asked : {A B : Type 0} (g : World → A) (f : A → Rule B) {I J : World → Type 0} {Q : B → Type 0} → ((w : World) → I w → Runs I J (f (g w)) Q) → Runs I J (chain (ask g) f) Q
asked g f {I = I} {J = J} {Q = Q} k = ask_run g f I J Q k

pub pure_holds : {A : Type 0} (a : A) {I : World → Type 0} {Q : A → Type 0} → Q a → Runs I I (pure a) Q
pure_holds a {I = I} {Q = Q} q = pure_run a I Q q

pub note_holds : (at : Place) (kind : FaultKind) {I J : World → Type 0} {Q : Unit {0} → Type 0} → Runs I J (note at kind) Q
note_holds at kind {I = I} {J = J} {Q = Q} = note_run at kind I J Q

-- nothing follows a fault
pub fault : {A : Type 0} (at : Place) (kind : FaultKind) (f : Unit {0} → Rule A) {Q : A → Type 0} → Holds (chain (note at kind) f) Q
fault at kind f = chained {J = Clean} {P = λ u. ⊥} (note_holds at kind) (λ a p. absurd p)

pub demand_holds : (at : Place) (kind : FaultKind) (b : Bool) → Holds (demand at kind b) (λ u. b ≡ true)
demand_holds at kind b = demand_run at kind b Clean

pub demand_quiet : (at : Place) (kind : FaultKind) (b : Bool) → Quiet (demand at kind b)
demand_quiet at kind b = quiet_of (demand_holds at kind b)

pub keep_quiet : (at : Place) (kind : LimitKind) (b : Bool) → Quiet (keep_within at kind b)
keep_quiet at kind b = keep_run at kind b

pub change_holds : (g : World → World) → ((w : World) → Clean w → Clean (g w)) → Quiet (change g)
change_holds g k = change_run g Clean Clean k

pub place_quiet : (line : Line) → Quiet (place line)
unfolding place
place_quiet line = record { run = λ w c e. (c, tt) }

pub chosen : {A : Type 0} (b : Bool) {x y : Rule A} {Q : A → Type 0} → Holds x Q → Holds y Q → Holds (elim b [ true ↦ x | false ↦ y ]) Q
chosen true h k = h
chosen false h k = k

pub decided : {A : Type 0} (b : Bool) {x y : Rule A} {Q : A → Type 0} → (b ≡ true → Holds x Q) → Holds y Q → Holds (if b then x else y) Q
decided true h k = h refl
decided false h k = k

pub if_some : {A B : Type 0} (o : Option A) {x : Rule B} {f : A → Rule B} {Q : B → Type 0} → Holds x Q → ((a : A) → Holds (f a) Q) → Holds (elim o [ None ↦ x | Some a ↦ f a ]) Q
if_some None h k = h
if_some (Some a) h k = k a

-- ---- scopes

pub enter_quiet : Quiet enter
unfolding enter
enter_quiet = change_holds _ (λ w c. (tt, (c.0, c.1), c.2))

pub leave_quiet : Quiet leave
unfolding leave
leave_quiet = change_holds _ (λ w c. go w w.outer c.1 c.2)
  where
    go : (w : World) (ss : List ScopeData) → FreeScopes ss → PlainStructs w.structs → Clean (left_to ss w)
    go w [] c s = (tt, tt, s)
    go w (r ∷ ss) c s = (c.0, c.1, s)

pub scoped_holds : {m : Rule (Unit {0})} {Q : Type 0} → Holds m (λ u. Q) → Holds (scoped m) (λ u. Q)
scoped_holds h = chained enter_quiet (λ a p. chained h (λ b q. gives leave_quiet (λ u v. q)))

-- names are free as soon as this one is
abbrev pub CleanWith : Text → World → Type 0
CleanWith x w = is_free_name x ≡ true → Clean w

-- the name is free behind the test of it
pub free_name_holds : (at : Place) (x : Text) → is_plain_name x ≡ true → Runs (CleanWith x) Clean (free_name at x) (λ u. is_free_name x ≡ true)
unfolding free_name
free_name_holds at x h = record {
  run = λ w c e.
      let r = (demand_run at F12 (not (is_reserved x)) (CleanWith x)).run w c e in
      let free = unreserved x h r.1 in
      (r.0 free, free);
}

pub free_name_quiet : (at : Place) (x : Text) → Quiet (free_name at x)
unfolding free_name
free_name_quiet at x = demand_quiet _ _ _

pub put_name_holds : (x : Text) (entry : EntryData) → Runs Clean (CleanWith x) (change (with_name x entry)) (λ u. Unit {0})
put_name_holds x entry = change_run (with_name x entry) Clean (CleanWith x) (λ w c free. (put_free x entry w.here.names free c.0, c.1, c.2))

pub declare_holds : (at : Place) (x : Text) (entry : EntryData) → is_plain_name x ≡ true → Holds (declare at x entry) (λ u. is_free_name x ≡ true)
unfolding declare
declare_holds at x entry h = asked _ _ (λ w c. chained (put_name_holds x entry) (λ a p. chained (quiet_of (demand_run at _ _ (CleanWith x))) (λ b q. free_name_holds at x h)))

pub better_quiet : (x : Text) (entry : EntryData) → is_free_name x ≡ true → Quiet (know_better x entry)
unfolding know_better
better_quiet x entry h = change_holds _ (λ w c. (put_free x entry w.here.names h c.0, c.1, c.2))

pub label_quiet : (at : Place) (name : Text) → Quiet (declare_label at name)
unfolding declare_label free_name
label_quiet at name = asked _ _ (λ w c. chained (change_holds _ (λ v d. d)) (λ a p. chained (demand_quiet _ _ _) (λ b q. demand_quiet _ _ _)))

pub number_quiet : (t : TyData) → Quiet (number_as t)
unfolding number_as
number_quiet t = change_holds _ (λ w c. c)

pub new_struct_quiet : (info : StructInfo) → HasPlainMembers info.members → Quiet (new_struct info)
unfolding new_struct
new_struct_quiet info h = record { run = λ w c e. ((c.0, c.1, more_structs w.structs info c.2 h), tt) }

pub set_struct_quiet : (k : ℕ) (info : StructInfo) → HasPlainMembers info.members → Quiet (set_struct k info)
unfolding set_struct
set_struct_quiet k info h = change_holds _ (λ w c. (c.0, c.1, set_plain w.structs k info c.2 h))
