-- Rules that find in what is written what they find in the source, and how they are put together.
use Rattle.std.specs.Prelude.{◌≡◌, ◌+◌, Bool, true, false, List, [], ◌∷◌, ◌++◌, map, Option, Some, None, if◌then◌else◌}
use Rattle.std.proofs.Common.{◌∙◌, sym, subst, refl, append_assoc}
use Rattle.std.proofs.lemmas.Bool.{true≢false}
use Rattle.ec_base.specs.declared.fault.FaultKind.{FaultKind}
use Rattle.ec_base.specs.declared.fault.LimitKind.{LimitKind}
use Rattle.ec_base.specs.declared.stop.Stop.TheVariants.{Refused}
use Rattle.ec_base.specs.declared.line.Line.{Line}
use Rattle.ec_ctypes.specs.trees.Types.{TyData}
use Rattle.ec_language.specs.First.{Violation}
use Rattle.ec_typing_defs.specs.Worlds.{Place, World, Out, Rule, chain as check_chain, followed as check_followed, pure as check_pure, ask as check_ask, change, note, demand, keep_within, instead, place}
use Rattle.ec_typing_defs.specs.Operands.{OperandData, unknown, given}
use Rattle.ec_resolving_defs.specs.Storage.{Storage, Reached, Resolving, chain, followed, pure, checks, ask, stored, arrange}
use Rattle.ec_resolving_defs.specs.Operands.{Found, with_form}
use Rattle.ec_resolving_defs.specs.Agreement.{itself, operand_of}
use Rattle.ec_sim_statement_laws.specs.expression.Worlds.{AreAlike}
use Rattle.ec_sim_statement_laws.specs.expression.Alike.{SameStorage, AddsNone, FindAlike, IsAlike}
use Rattle.ec_sim_statement_laws.specs.expression.Known.{with_places}
use Rattle.ec_sim_statement_laws.specs.expression.Silent.{Nothing, FoundCallsNone}

-- ---- what nothing is found in

abbrev pub is_none_of : {A : Type 0} → List A → Bool
is_none_of [] = true
is_none_of (x ∷ xs) = false

pub some_found : {A : Type 0} {x : A} {xs : List A} → x ∷ xs ≡ [] → ⊥
some_found e = true≢false (λ i. is_none_of (sym e i))

pub none_before : {A : Type 0} (xs ys : List A) → xs ++ ys ≡ [] → xs ≡ []
none_before [] ys e = refl
none_before (x ∷ xs) ys e = absurd (some_found e)

pub none_behind : {A : Type 0} (xs ys : List A) → xs ++ ys ≡ [] → ys ≡ []
none_behind [] ys e = e
none_behind (x ∷ xs) ys e = absurd (some_found e)

pub none_mapped : {A B : Type 0} (f : A → B) (xs : List A) → map f xs ≡ [] → xs ≡ []
none_mapped f [] e = refl
none_mapped f (x ∷ xs) e = absurd (some_found e)

-- ---- rules of the checks alone

pub record CheckFinds {A : Type 0} (o p : Out A) : Type 0 where
  pub answer : p.answer ≡ o.answer
  pub without_fault : p.found ≡ []
  pub worlds : AreAlike o.world p.world

-- wherever nothing is wrong with the source
pub record CheckAlike {A : Type 0} (source written : Rule A) : Type 0 where
  pub finds : (w v : World) → AreAlike w v → (source w).found ≡ []
      → CheckFinds (source w) (written v)

check_follow : {A B : Type 0} (o p : Out A) (f g : A → Rule B) → CheckFinds o p
    → CheckFinds (f o.answer o.world) (g o.answer p.world)
    → CheckFinds (check_followed o f) (check_followed p g)
check_follow o p f g x y = record {
  answer = (λ i. (g (x.answer i) p.world).answer) ∙ y.answer;
  without_fault =
      (λ i. x.without_fault i ++ (g (x.answer i) p.world).found) ∙ y.without_fault;
  worlds = subst (λ a. AreAlike (f o.answer o.world).world (g a p.world).world)
      (sym x.answer) y.worlds;
}

pub check_chain_alike : {A B : Type 0} (c d : Rule A) (f g : A → Rule B)
    → CheckAlike c d → ((a : A) → CheckAlike (f a) (g a))
    → CheckAlike (check_chain c f) (check_chain d g)
unfolding check_chain
check_chain_alike c d f g p q = record {
  finds = λ w v alike e.
      let x : CheckFinds (c w) (d v) = p.finds w v alike
      (none_before (c w).found (f (c w).answer (c w).world).found e)
      in check_follow (c w) (d v) f g x ((q (c w).answer).finds (c w).world (d v).world x.worlds
      (none_behind (c w).found (f (c w).answer (c w).world).found e));
}

pub check_pure_alike : {A : Type 0} (a : A) → CheckAlike (check_pure a) (check_pure a)
unfolding check_pure
check_pure_alike a = record {
  finds = λ w v alike e. record { answer = refl; without_fault = refl; worlds = alike };
}

-- what is known, where it is the same in both
pub check_ask_alike : {A : Type 0} (f g : World → A)
    → ((w v : World) → AreAlike w v → g v ≡ f w) → CheckAlike (check_ask f) (check_ask g)
unfolding check_ask
check_ask_alike f g same = record {
  finds = λ w v alike e.
      record { answer = same w v alike; without_fault = refl; worlds = alike };
}

-- what is known may differ, where what is done with it is alike
pub asked_alike : {A B : Type 0} (f g : World → A) (k l : A → Rule B)
    → ((w v : World) → AreAlike w v → CheckAlike (k (f w)) (l (g v)))
    → CheckAlike (check_chain (check_ask f) k) (check_chain (check_ask g) l)
unfolding check_chain check_ask
asked_alike f g k l p = record {
  finds = λ w v alike e.
      let x : CheckFinds (k (f w) w) (l (g v) v) = (p w v alike).finds w v alike e
      in record { answer = x.answer; without_fault = x.without_fault; worlds = x.worlds };
}

abbrev next_at : World → Line → Place
next_at w line = record { number = w.places; line = line }

abbrev place_passed : World → World
place_passed w = record w { places = w.places + 1 }

-- the places of both differ
pub check_placed : {A : Type 0} (a b : Line) (f g : Place → Rule A)
    → ((at there : Place) → CheckAlike (f at) (g there))
    → CheckAlike (check_chain (place a) f) (check_chain (place b) g)
unfolding check_chain place
check_placed a b f g p = record {
  finds = λ w v alike e.
      let x : CheckFinds (f (next_at w a) (place_passed w)) (g (next_at v b) (place_passed v)) =
      (p (next_at w a) (next_at v b)).finds (place_passed w) (place_passed v)
      (with_places w v alike (w.places + 1) (v.places + 1)) e
      in record { answer = x.answer; without_fault = x.without_fault; worlds = x.worlds };
}

pub change_alike : (f g : World → World)
    → ((w v : World) → AreAlike w v → AreAlike (f w) (g v)) → CheckAlike (change f) (change g)
unfolding change
change_alike f g kept = record {
  finds = λ w v alike e.
      record { answer = refl; without_fault = refl; worlds = kept w v alike };
}

-- A fault of the source: whatever stands in what is written
pub noted : (at : Place) (kind : FaultKind) (d : Rule (Unit {0})) → CheckAlike (note at kind) d
unfolding note
noted at kind d = record { finds = λ w v alike e. absurd (some_found e) }

pub noted_first : {A : Type 0} (at : Place) (kind : FaultKind) (f : Unit {0} → Rule A) (d : Rule A)
    → CheckAlike (check_chain (note at kind) f) d
unfolding check_chain note
noted_first at kind f d = record { finds = λ w v alike e. absurd (some_found e) }

-- a test that holds in what is written where it holds in the source
pub demand_alike : (at there : Place) (kind : FaultKind) (a b : Bool) → (a ≡ true → b ≡ true)
    → CheckAlike (demand at kind a) (demand there kind b)
unfolding demand note check_pure
demand_alike at there kind false b p = record { finds = λ w v alike e. absurd (some_found e) }
demand_alike at there kind true true p = record {
  finds = λ w v alike e. record { answer = refl; without_fault = refl; worlds = alike };
}
demand_alike at there kind true false p = absurd (true≢false (sym (p refl)))

pub within_alike : (at there : Place) (kind : LimitKind) (a b : Bool) → (a ≡ true → b ≡ true)
    → CheckAlike (keep_within at kind a) (keep_within there kind b)
unfolding keep_within check_pure
within_alike at there kind false b p = record { finds = λ w v alike e. absurd (some_found e) }
within_alike at there kind true true p = record {
  finds = λ w v alike e. record { answer = refl; without_fault = refl; worlds = alike };
}
within_alike at there kind true false p = absurd (true≢false (sym (p refl)))

-- behind a test it is known that it holds
pub demanded : {A : Type 0} (at there : Place) (kind : FaultKind) (a b : Bool)
    (f g : Unit {0} → Rule A) → (a ≡ true → b ≡ true) → (a ≡ true → CheckAlike (f tt) (g tt))
    → CheckAlike (check_chain (demand at kind a) f) (check_chain (demand there kind b) g)
unfolding check_chain demand note
demanded at there kind false b f g p q = record { finds = λ w v alike e. absurd (some_found e) }
demanded at there kind true b f g p q =
    check_chain_alike _ _ _ _ (demand_alike at there kind true b p) (λ _. q refl)

abbrev as_fault : Place → FaultKind → Violation → Violation
as_fault at kind v = record { place = at.number; stop = Refused kind at.line }

pub instead_alike : (at there : Place) (kind : FaultKind) (c d : Rule (Unit {0}))
    → CheckAlike c d → CheckAlike (instead at kind c) (instead there kind d)
unfolding instead
instead_alike at there kind c d p = record {
  finds = λ w v alike e.
      let x : CheckFinds (c w) (d v) = p.finds w v alike (none_mapped _ (c w).found e)
      in record {
        answer = refl;
        without_fault = λ i. map (as_fault there kind) (x.without_fault i);
        worlds = x.worlds;
      };
}

-- the same test in both
pub check_choice : {A : Type 0} (b : Bool) (c d e f : Rule A) → CheckAlike c d → CheckAlike e f
    → CheckAlike (if b then c else e) (if b then d else f)
check_choice true c d e f p q = p
check_choice false c d e f p q = q

pub check_either : {A : Type 0} (b : Bool) (c d e f : Rule A) → CheckAlike c d → CheckAlike e f
    → CheckAlike (elim b [ true ↦ c | false ↦ e ]) (elim b [ true ↦ d | false ↦ f ])
check_either true c d e f p q = p
check_either false c d e f p q = q

-- a rule that speaks only where its part has a type
pub given_alike : (t : Option TyData) (f g : TyData → Rule OperandData)
    → ((t : TyData) → CheckAlike (f t) (g t)) → CheckAlike (given t f) (given t g)
given_alike None f g p = check_pure_alike unknown
given_alike (Some t) f g p = p t

-- What only tells a fault: it changes nothing
pub record QuietAlike (source written : Rule (Unit {0})) : Type 0 where
  pub here : (w : World) → (source w).world ≡ w
  pub there : (v : World) → (written v).world ≡ v
  pub without_fault : (w v : World) → AreAlike w v → (source w).found ≡ [] → (written v).found ≡ []

pub demand_quietly : (at there : Place) (kind : FaultKind) (a b : Bool) → (a ≡ true → b ≡ true)
    → QuietAlike (demand at kind a) (demand there kind b)
unfolding demand note check_pure
demand_quietly at there kind false true p = record {
  here = λ w. refl;
  there = λ v. refl;
  without_fault = λ w v alike e. absurd (some_found e);
}
demand_quietly at there kind false false p = record {
  here = λ w. refl;
  there = λ v. refl;
  without_fault = λ w v alike e. absurd (some_found e);
}
demand_quietly at there kind true true p = record {
  here = λ w. refl;
  there = λ v. refl;
  without_fault = λ w v alike e. refl;
}
demand_quietly at there kind true false p = absurd (true≢false (sym (p refl)))

pub pure_quietly : QuietAlike (check_pure tt) (check_pure tt)
unfolding check_pure
pure_quietly = record {
  here = λ w. refl;
  there = λ v. refl;
  without_fault = λ w v alike e. refl;
}

pub asked_quietly : {A : Type 0} (f g : World → A) (k l : A → Rule (Unit {0}))
    → ((w v : World) → AreAlike w v → g v ≡ f w) → ((a : A) → QuietAlike (k a) (l a))
    → QuietAlike (check_chain (check_ask f) k) (check_chain (check_ask g) l)
unfolding check_chain check_ask
asked_quietly f g k l same p = record {
  here = λ w. (p (f w)).here w;
  there = λ v. (p (g v)).there v;
  without_fault = λ w v alike e.
      (λ i. (l (same w v alike i) v).found) ∙ (p (f w)).without_fault w v alike e;
}

-- ---- rules of both walks

-- no function, call or statement is added, and then none more
pub adds_none_more : (s t u : Storage) → AddsNone s t → AddsNone t u → AddsNone s u
adds_none_more s t u p q = record {
  functions = q.functions ∙ p.functions;
  calls = q.calls ∙ p.calls;
  statements = q.statements ∙ p.statements;
}

pub adds_nothing : (s : Storage) → AddsNone s s
adds_nothing s = record { functions = refl; calls = refl; statements = refl }

follow : {A B C D : Type 0} {P : A → Type 0} {Q : C → Type 0} {seen : A → B} {seen' : C → D}
    (s t : Storage) (o p : Out B) (r q : Reached A) (f g : B → Rule D) (k l : A → Resolving C)
    → FindAlike P seen s t o p r q
    → FindAlike Q seen' r.storage q.storage (f (seen r.answer) r.world)
    (g (seen r.answer) q.world) (k r.answer r.storage r.world) (l r.answer q.storage q.world)
    → FindAlike Q seen' s t (check_followed o f) (check_followed p g) (followed r k) (followed q l)
follow {seen} {seen'} s t o p r q f g k l x y = record {
  answer = (λ i. (l (x.answer i) q.storage q.world).answer) ∙ y.answer;
  silent = y.silent;
  worlds = subst (λ a. AreAlike (k r.answer r.storage r.world).world
      (l a q.storage q.world).world) (sym x.answer) y.worlds;
  storages = subst (λ a. SameStorage (k r.answer r.storage r.world).storage
      (l a q.storage q.world).storage) (sym x.answer) y.storages;
  adds_none = adds_none_more s r.storage _ x.adds_none y.adds_none;
  adds_none_there = subst (λ a. AddsNone t (l a q.storage q.world).storage) (sym x.answer)
      (adds_none_more t q.storage _ x.adds_none_there y.adds_none_there);
  checked = y.checked ∙ (λ i. (f (x.checked i) (x.checked_world i)).answer);
  checked_world = y.checked_world ∙ (λ i. (f (x.checked i) (x.checked_world i)).world);
  checked_there =
      ((λ i. (g ((x.checked_there ∙ sym x.checked) i) (sym x.checked_world_there i)).answer)
      ∙ y.checked_there) ∙ (λ i. (f (x.checked i) (x.checked_world i)).answer);
  checked_world_there = ((λ i. (l (x.answer i) q.storage q.world).world) ∙ y.checked_world_there)
      ∙ (λ i. (g (sym (x.checked_there ∙ sym x.checked) i) (x.checked_world_there i)).world);
  without_fault = (λ i. x.without_fault i
      ++ (g ((x.checked_there ∙ sym x.checked) i) (sym x.checked_world_there i)).found)
      ∙ y.without_fault;
}

pub chain_alike : {A B C D : Type 0} {P : A → Type 0} {Q : C → Type 0} {seen : A → B}
    {seen' : C → D} (c d : Rule B) (f g : B → Rule D) (m n : Resolving A) (k l : A → Resolving C)
    → IsAlike P seen c d m n
    → ((a : A) → P a → IsAlike Q seen' (f (seen a)) (g (seen a)) (k a) (l a))
    → IsAlike Q seen' (check_chain c f) (check_chain d g) (chain m k) (chain n l)
unfolding chain check_chain
chain_alike {P} {Q} {seen} {seen'} c d f g m n k l p next = record {
  finds = λ s t w v same alike e.
      let x : FindAlike P seen s t (c w) (d v) (m s w) (n t v) = p.finds s t w v same alike
      (none_before (c w).found (f (c w).answer (c w).world).found e)
      in follow s t (c w) (d v) (m s w) (n t v) f g k l x
      ((next (m s w).answer x.silent).finds (m s w).storage (n t v).storage (m s w).world
      (n t v).world x.storages x.worlds
      ((λ i. (f (x.checked i) (x.checked_world i)).found)
      ∙ none_behind (c w).found (f (c w).answer (c w).world).found e));
}

pub pure_alike : {A B : Type 0} {P : A → Type 0} (seen : A → B) (a : A) → P a
    → IsAlike P seen (check_pure (seen a)) (check_pure (seen a)) (pure a) (pure a)
unfolding pure check_pure
pure_alike seen a p = record {
  finds = λ s t w v same alike e. record {
    answer = refl;
    silent = p;
    worlds = alike;
    storages = same;
    adds_none = adds_nothing s;
    adds_none_there = adds_nothing t;
    checked = refl;
    checked_world = refl;
    checked_there = refl;
    checked_world_there = refl;
    without_fault = refl;
  };
}

-- what the checks find, made into something else that is found
pub checked_alike : {A B : Type 0} {P : B → Type 0} (seen : B → A) (f : A → B) (c d : Rule A)
    → ((a : A) → seen (f a) ≡ a) → ((a : A) → P (f a)) → CheckAlike c d
    → IsAlike P seen c d (chain (checks c) (λ a. pure (f a))) (chain (checks d) (λ a. pure (f a)))
unfolding chain checks pure
checked_alike seen f c d back silent p = record {
  finds = λ s t w v same alike e.
      let x : CheckFinds (c w) (d v) = p.finds w v alike e
      in record {
        answer = λ i. f (x.answer i);
        silent = silent (c w).answer;
        worlds = x.worlds;
        storages = same;
        adds_none = adds_nothing s;
        adds_none_there = adds_nothing t;
        checked = back (c w).answer;
        checked_world = refl;
        checked_there = x.answer;
        checked_world_there = refl;
        without_fault = x.without_fault;
      };
}

pub checks_alike : {A : Type 0} (c d : Rule A) → CheckAlike c d
    → IsAlike Nothing itself c d (checks c) (checks d)
unfolding checks
checks_alike c d p = record {
  finds = λ s t w v same alike e.
      let x : CheckFinds (c w) (d v) = p.finds w v alike e
      in record {
        answer = x.answer;
        silent = tt;
        worlds = x.worlds;
        storages = same;
        adds_none = adds_nothing s;
        adds_none_there = adds_nothing t;
        checked = refl;
        checked_world = refl;
        checked_there = x.answer;
        checked_world_there = refl;
        without_fault = x.without_fault;
      };
}

-- with a form beside the operand
pub form_alike : (f : OperandData → Found) (c d : Rule OperandData)
    → ((o : OperandData) → (f o).operand ≡ o) → ((o : OperandData) → FoundCallsNone (f o))
    → CheckAlike c d → IsAlike FoundCallsNone operand_of c d (with_form f c) (with_form f d)
form_alike f c d back silent p = checked_alike operand_of f c d back silent p

-- what is asked, where it is the same in both
pub ask_alike : {A : Type 0} {P : A → Type 0} (f g : World → A)
    → ((w v : World) → AreAlike w v → g v ≡ f w) → ((w : World) → P (f w))
    → IsAlike P itself (check_ask f) (check_ask g) (ask f) (ask g)
unfolding ask check_ask
ask_alike f g same p = record {
  finds = λ s t w v sames alike e. record {
    answer = same w v alike;
    silent = p w;
    worlds = alike;
    storages = sames;
    adds_none = adds_nothing s;
    adds_none_there = adds_nothing t;
    checked = refl;
    checked_world = refl;
    checked_there = same w v alike;
    checked_world_there = refl;
    without_fault = refl;
  };
}

-- what is asked for a form alone
pub ask_first : {A B C : Type 0} {P : B → Type 0} {seen : B → C} (Q : A → Type 0)
    (f g : World → A) (c d : Rule C) (k l : A → Resolving B)
    → ((w v : World) → AreAlike w v → g v ≡ f w) → ((w : World) → Q (f w))
    → ((a : A) → Q a → IsAlike P seen c d (k a) (l a))
    → IsAlike P seen c d (chain (ask f) k) (chain (ask g) l)
unfolding chain ask
ask_first {P} {seen} Q f g c d k l same q p = record {
  finds = λ s t w v sames alike e.
      subst (λ a. FindAlike P seen s t (c w) (d v) (k (f w) s w) (l a t v))
      (sym (same w v alike)) ((p (f w) (q w)).finds s t w v sames alike e);
}

pub stored_first : {A B C : Type 0} {P : B → Type 0} {seen : B → C} (Q : A → Type 0)
    (f g : Storage → A) (c d : Rule C) (k l : A → Resolving B)
    → ((s t : Storage) → SameStorage s t → g t ≡ f s) → ((s : Storage) → Q (f s))
    → ((a : A) → Q a → IsAlike P seen c d (k a) (l a))
    → IsAlike P seen c d (chain (stored f) k) (chain (stored g) l)
unfolding chain stored
stored_first {P} {seen} Q f g c d k l same q p = record {
  finds = λ s t w v sames alike e.
      subst (λ a. FindAlike P seen s t (c w) (d v) (k (f s) s w) (l a t v))
      (sym (same s t sames)) ((p (f s) (q s)).finds s t w v sames alike e);
}

-- objects are arranged, and no function, call or statement is added
pub arrange_first : {B C : Type 0} {P : B → Type 0} {seen : B → C} (f g : Storage → Storage)
    (c d : Rule C) (k l : Unit {0} → Resolving B)
    → ((s t : Storage) → SameStorage s t → SameStorage (f s) (g t))
    → ((s : Storage) → AddsNone s (f s)) → ((t : Storage) → AddsNone t (g t))
    → IsAlike P seen c d (k tt) (l tt)
    → IsAlike P seen c d (chain (arrange f) k) (chain (arrange g) l)
unfolding chain arrange
arrange_first {P} {seen} f g c d k l same adds adds_there p = record {
  finds = λ s t w v sames alike e.
      let x : FindAlike P seen (f s) (g t) (c w) (d v) (k tt (f s) w) (l tt (g t) v) =
      p.finds (f s) (g t) w v (same s t sames) alike e
      in record {
        answer = x.answer;
        silent = x.silent;
        worlds = x.worlds;
        storages = x.storages;
        adds_none = adds_none_more s (f s) _ (adds s) x.adds_none;
        adds_none_there = adds_none_more t (g t) _ (adds_there t) x.adds_none_there;
        checked = x.checked;
        checked_world = x.checked_world;
        checked_there = x.checked_there;
        checked_world_there = x.checked_world_there;
        without_fault = x.without_fault;
      };
}

-- a rule of the checks that only tells a fault, before what both walks find
pub quiet_first : {B C : Type 0} {P : B → Type 0} {seen : B → C} (n n' : Rule (Unit {0}))
    (c d : Unit {0} → Rule C) (k l : Resolving B)
    → QuietAlike n n' → IsAlike P seen (c tt) (d tt) k l
    → IsAlike P seen (check_chain n c) (check_chain n' d) k l
unfolding check_chain
quiet_first {P} {seen} n n' c d k l q p = record {
  finds = λ s t w v same alike e.
      let x : FindAlike P seen s t (c tt w) (d tt v) (k s w) (l t v) = p.finds s t w v same alike
      ((λ i. (c tt (sym (q.here w) i)).found)
      ∙ none_behind (n w).found (c tt (n w).world).found e)
      in record {
        answer = x.answer;
        silent = x.silent;
        worlds = x.worlds;
        storages = x.storages;
        adds_none = x.adds_none;
        adds_none_there = x.adds_none_there;
        checked = x.checked ∙ (λ i. (c tt (sym (q.here w) i)).answer);
        checked_world = x.checked_world ∙ (λ i. (c tt (sym (q.here w) i)).world);
        checked_there = ((λ i. (d tt (q.there v i)).answer) ∙ x.checked_there)
            ∙ (λ i. (c tt (sym (q.here w) i)).answer);
        checked_world_there =
            x.checked_world_there ∙ (λ i. (d tt (sym (q.there v) i)).world);
        without_fault = (λ i. q.without_fault w v alike
            (none_before (n w).found (c tt (n w).world).found e) i
            ++ (d tt (q.there v i)).found) ∙ x.without_fault;
      };
}

-- a fault of the source, somewhere in it: whatever stands in what is written, and whatever it is resolved to
pub faulty_alike : {A B : Type 0} {P : A → Type 0} {seen : A → B} (c d : Rule B)
    (m n : Resolving A) → ((s t : Storage) (w v : World) → SameStorage s t → AreAlike w v
    → (c w).found ≡ [] → ⊥) → IsAlike P seen c d m n
faulty_alike c d m n faulty = record {
  finds = λ s t w v same alike e. absurd (faulty s t w v same alike e);
}

-- what is known, where it is this in both
pub known_first : {A B C : Type 0} {P : B → Type 0} {seen : B → C} (a b : A)
    (f g : World → A) (c d : Rule C) (k l : A → Resolving B)
    → ((w v : World) → AreAlike w v → f w ≡ a) → ((w v : World) → AreAlike w v → g v ≡ b)
    → IsAlike P seen c d (k a) (l b) → IsAlike P seen c d (chain (ask f) k) (chain (ask g) l)
unfolding chain ask
known_first {P} {seen} a b f g c d k l p q r = record {
  finds = λ s t w v sames alike e.
      subst (λ x. FindAlike P seen s t (c w) (d v) (k (f w) s w) (l x t v)) (sym (q w v alike))
      (subst (λ x. FindAlike P seen s t (c w) (d v) (k x s w) (l b t v)) (sym (p w v alike))
      (r.finds s t w v sames alike e));
}

-- the places of both differ
pub placed_alike : {A B : Type 0} {P : A → Type 0} {seen : A → B} (a b : Line)
    (f g : Place → Rule B) (k l : Place → Resolving A)
    → ((at there : Place) → IsAlike P seen (f at) (g there) (k at) (l there))
    → IsAlike P seen (check_chain (place a) f) (check_chain (place b) g)
    (chain (checks (place a)) k) (chain (checks (place b)) l)
unfolding check_chain place chain checks
placed_alike {P} {seen} a b f g k l p = record {
  finds = λ s t w v same alike e.
      let x : FindAlike P seen s t (f (next_at w a) (place_passed w))
      (g (next_at v b) (place_passed v)) (k (next_at w a) s (place_passed w))
      (l (next_at v b) t (place_passed v)) =
      (p (next_at w a) (next_at v b)).finds s t (place_passed w) (place_passed v) same
      (with_places w v alike (w.places + 1) (v.places + 1)) e
      in record {
        answer = x.answer;
        silent = x.silent;
        worlds = x.worlds;
        storages = x.storages;
        adds_none = x.adds_none;
        adds_none_there = x.adds_none_there;
        checked = x.checked;
        checked_world = x.checked_world;
        checked_there = x.checked_there;
        checked_world_there = x.checked_world_there;
        without_fault = x.without_fault;
      };
}

-- Rules of the checks may be grouped in another way: the found ones are none in each part
pub regrouped : {A B C D : Type 0} {P : A → Type 0} {seen : A → D} (c : Rule B) (f : B → Rule C)
    (g : C → Rule D) (d : Rule D) (m n : Resolving A)
    → IsAlike P seen (check_chain (check_chain c f) g) d m n
    → IsAlike P seen (check_chain c (λ b. check_chain (f b) g)) d m n
unfolding check_chain
regrouped {P} {seen} c f g d m n p = record {
  finds = λ s t w v same alike e.
      let x : FindAlike P seen s t (check_chain (check_chain c f) g w) (d v) (m s w) (n t v) =
      p.finds s t w v same alike (append_assoc (c w).found (f (c w).answer (c w).world).found
      (g (f (c w).answer (c w).world).answer (f (c w).answer (c w).world).world).found ∙ e)
      in record {
        answer = x.answer;
        silent = x.silent;
        worlds = x.worlds;
        storages = x.storages;
        adds_none = x.adds_none;
        adds_none_there = x.adds_none_there;
        checked = x.checked;
        checked_world = x.checked_world;
        checked_there = x.checked_there;
        checked_world_there = x.checked_world_there;
        without_fault = x.without_fault;
      };
}

pub grouped : {A B C D : Type 0} {P : A → Type 0} {seen : A → D} (c : Rule B) (f : B → Rule C)
    (g : C → Rule D) (d : Rule D) (m n : Resolving A)
    → IsAlike P seen (check_chain c (λ b. check_chain (f b) g)) d m n
    → IsAlike P seen (check_chain (check_chain c f) g) d m n
unfolding check_chain
grouped {P} {seen} c f g d m n p = record {
  finds = λ s t w v same alike e.
      let x : FindAlike P seen s t (check_chain c (λ b. check_chain (f b) g) w) (d v)
      (m s w) (n t v) =
      p.finds s t w v same alike
      (sym (append_assoc (c w).found (f (c w).answer (c w).world).found
      (g (f (c w).answer (c w).world).answer (f (c w).answer (c w).world).world).found) ∙ e)
      in record {
        answer = x.answer;
        silent = x.silent;
        worlds = x.worlds;
        storages = x.storages;
        adds_none = x.adds_none;
        adds_none_there = x.adds_none_there;
        checked = x.checked;
        checked_world = x.checked_world;
        checked_there = x.checked_there;
        checked_world_there = x.checked_world_there;
        without_fault = x.without_fault;
      };
}

-- nothing more is done in what is written
pub ended_there : {A : Type 0} {P : A → Type 0} (c d : Rule A) (m n : Resolving A)
    → IsAlike P itself c d m n
    → IsAlike P itself c (check_chain d (λ a. check_pure a)) m (chain n (λ a. pure a))
unfolding check_chain check_pure chain pure
ended_there {P} c d m n p = record {
  finds = λ s t w v same alike e.
      let x : FindAlike P itself s t (c w) (d v) (m s w) (n t v) = p.finds s t w v same alike e
      in record {
        answer = x.answer;
        silent = x.silent;
        worlds = x.worlds;
        storages = x.storages;
        adds_none = x.adds_none;
        adds_none_there = x.adds_none_there;
        checked = x.checked;
        checked_world = x.checked_world;
        checked_there = x.checked_there;
        checked_world_there = x.checked_world_there;
        without_fault = λ i. x.without_fault i ++ [];
      };
}

pub chosen_alike : {A B : Type 0} {P : A → Type 0} {seen : A → B} (b : Bool) (c d e f : Rule B)
    (m n k l : Resolving A) → IsAlike P seen c d m n → IsAlike P seen e f k l
    → IsAlike P seen (elim b [ true ↦ c | false ↦ e ]) (elim b [ true ↦ d | false ↦ f ])
    (elim b [ true ↦ m | false ↦ k ]) (elim b [ true ↦ n | false ↦ l ])
chosen_alike true c d e f m n k l p q = p
chosen_alike false c d e f m n k l p q = q

-- a place of the source alone, and one of what is written alone
pub placed_here : {A B : Type 0} {P : A → Type 0} {seen : A → B} (a : Line)
    (f : Place → Rule B) (d : Rule B) (k : Place → Resolving A) (n : Resolving A)
    → ((at : Place) → IsAlike P seen (f at) d (k at) n)
    → IsAlike P seen (check_chain (place a) f) d (chain (checks (place a)) k) n
unfolding check_chain place chain checks
placed_here {P} {seen} a f d k n p = record {
  finds = λ s t w v same alike e.
      let x : FindAlike P seen s t (f (next_at w a) (place_passed w)) (d v)
      (k (next_at w a) s (place_passed w)) (n t v) =
      (p (next_at w a)).finds s t (place_passed w) v same
      (with_places w v alike (w.places + 1) v.places) e
      in record {
        answer = x.answer;
        silent = x.silent;
        worlds = x.worlds;
        storages = x.storages;
        adds_none = x.adds_none;
        adds_none_there = x.adds_none_there;
        checked = x.checked;
        checked_world = x.checked_world;
        checked_there = x.checked_there;
        checked_world_there = x.checked_world_there;
        without_fault = x.without_fault;
      };
}

pub placed_there : {A B : Type 0} {P : A → Type 0} {seen : A → B} (b : Line)
    (c : Rule B) (g : Place → Rule B) (m : Resolving A) (l : Place → Resolving A)
    → ((there : Place) → IsAlike P seen c (g there) m (l there))
    → IsAlike P seen c (check_chain (place b) g) m (chain (checks (place b)) l)
unfolding check_chain place chain checks
placed_there {P} {seen} b c g m l p = record {
  finds = λ s t w v same alike e.
      let x : FindAlike P seen s t (c w) (g (next_at v b) (place_passed v)) (m s w)
      (l (next_at v b) t (place_passed v)) =
      (p (next_at v b)).finds s t w (place_passed v) same
      (with_places w v alike w.places (v.places + 1)) e
      in record {
        answer = x.answer;
        silent = x.silent;
        worlds = x.worlds;
        storages = x.storages;
        adds_none = x.adds_none;
        adds_none_there = x.adds_none_there;
        checked = x.checked;
        checked_world = x.checked_world;
        checked_there = x.checked_there;
        checked_world_there = x.checked_world_there;
        without_fault = x.without_fault;
      };
}

-- a fault in the second of two parts is one of the whole
pub faulty_behind : {A B : Type 0} (c : Rule A) (f : A → Rule B)
    → ((a : A) (w : World) → (f a w).found ≡ [] → ⊥)
    → (w : World) → (check_chain c f w).found ≡ [] → ⊥
unfolding check_chain
faulty_behind c f p w e = p (c w).answer (c w).world (none_behind (c w).found _ e)
