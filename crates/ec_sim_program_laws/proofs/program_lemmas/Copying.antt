-- Rules that find copies, and how they are put together.
use Rattle.std.proofs.Common.{◌≡◌, ◌∙◌, ℕ, ◌+◌, List, [], ◌++◌, Option, None, refl, sym, subst, ap, append_assoc, append-nil}
use Rattle.ec_ctypes.specs.trees.Units.{TopData}
use Rattle.ec_base.specs.declared.line.Line.{Line}
use Rattle.ec_typing_defs.specs.Worlds.{Place, World, Rule, chain as check_chain, pure as check_pure, change, place, enter, leave, entered, left}
use Rattle.ec_resolving_defs.specs.Storage.{Reached, Resolving, chain, pure, checks, stored, arrange, in_block, inside_block, back_in_block}
use Rattle.ec_resolving_defs.specs.Statements.{scoped}
use Rattle.ec_meaning_defs.specs.observed.Run.{IsFront}
use Rattle.ec_sim_world_laws.specs.growth.Growth.{Grows, GrowsBy}
use Rattle.ec_sim_statement_laws.specs.statement.Copies.{AreFunctionCopies}
use Rattle.ec_sim_statement_laws.specs.expression.Alike.{FindAlike, IsAlike}
use Rattle.ec_sim_statement_laws.specs.expression.Known.{entered_alike}
use Rattle.ec_sim_statement_laws.specs.expression.Rules.{none_before, none_behind, QuietAlike}
use Rattle.ec_sim_world_laws.specs.known.Known.{Keeps}
use Rattle.ec_sim_world_laws.specs.known.Laws.{WalkKeeps}
use Rattle.ec_sim_program_laws.specs.program.Copied.{Whole, Ahead, in_function, IsAt, FindCopies, IsCopied, FindNothing, IsGone}
use Rattle.ec_sim_program_laws.proofs.program_lemmas.Coming.{Passes, come_behind, come_still, come_at, come_stored}
use Rattle.ec_sim_program_laws.proofs.program_lemmas.DenotingRules.{DenotesNone}
use Rattle.ec_sim_program_laws.proofs.program_lemmas.Around.{with_places_here, with_places_there, left_alike, left_denoted, left_types, grows_before_left, inside_same, back_same}

-- ---- what grows

pub begins_itself : {A : Type 0} (xs : List A) → IsFront xs xs
begins_itself xs = record { rest = []; same = sym (append-nil xs) }

pub begins_further : {A : Type 0} (xs ys zs : List A) → IsFront xs ys → IsFront ys zs → IsFront xs zs
begins_further xs ys zs p q = record {
  rest = p.rest ++ q.rest;
  same = q.same ∙ ap (λ front. front ++ q.rest) p.same ∙ append_assoc xs p.rest q.rest;
}

pub begins_same : {A : Type 0} (xs ys : List A) → ys ≡ xs → IsFront xs ys
begins_same xs ys e = record { rest = []; same = e ∙ sym (append-nil xs) }

pub grows_further : (w x z : World) → Grows w x → Grows x z → Grows w z
grows_further w x z p q = record {
  written = q.written ∙ p.written;
  defined = q.defined ∙ p.defined;
  types = begins_further w.types x.types z.types p.types q.types;
  denoted = begins_further w.denoted x.denoted z.denoted p.denoted q.denoted;
  closed = begins_further w.closed x.closed z.closed p.closed q.closed;
  structs = λ k info e u. q.structs k info (p.structs k info e u) u;
}

module _ (g : Whole) where
  -- ---- one after the other

  pub copied_chain : {A B C D : Type 0} {IsLike : A → B → Type 0} {IsLike' : C → D → Type 0}
      {ns ms ls : Ahead} (c d e f : Rule (Unit {0})) (m : Resolving A) (n : Resolving B) (k : A → Resolving C) (l : B → Resolving D)
      → IsCopied g IsLike ns ms c d m n → GrowsBy e
      → ((a : A) (b : B) → IsCopied g (λ x y. IsLike a b → IsLike' x y) ms ls e f (k a) (l b))
      → IsCopied g IsLike' ns ls (check_chain c (λ _. e)) (check_chain d (λ _. f)) (chain m k) (chain n l)
  unfolding chain check_chain
  copied_chain {IsLike = R} {IsLike' = R'} {ns} {ms} {ls} c d e f m n k l p grows q = record {
    finds = λ s t w v same alike here none more.
        let x : FindCopies g R ms s t (c w) (d v) (m s w) (n t v) =
        p.finds s t w v same alike here (none_before (c w).found (e (c w).world).found none) (grows_further (c w).world (e (c w).world).world g.world (grows (c w).world) more)
        in let y : FindCopies g (λ a b. R (m s w).answer (n t v).answer → R' a b) ls (m s w).storage (n t v).storage (e (m s w).world) (f (n t v).world)
        (k (m s w).answer (m s w).storage (m s w).world) (l (n t v).answer (n t v).storage (n t v).world) =
        (q (m s w).answer (n t v).answer).finds (m s w).storage (n t v).storage (m s w).world (n t v).world x.storages x.worlds x.to_come
        ((λ i. (e (x.checked_world i)).found) ∙ none_behind (c w).found (e (c w).world).found none)
        (subst (λ u. Grows (e u).world g.world) (sym x.checked_world) more)
        in record {
          worlds = y.worlds;
          storages = y.storages;
          to_come = y.to_come;
          forms_grow = begins_further s.statements (m s w).storage.statements _ x.forms_grow y.forms_grow;
          calls_grow = begins_further t.calls (n t v).storage.calls _ x.calls_grow y.calls_grow;
          like = λ forms calls. y.like forms calls (x.like (begins_further (m s w).storage.statements _ g.forms y.forms_grow forms) (begins_further (n t v).storage.calls _ g.calls y.calls_grow calls));
          functions = λ forms calls before. y.functions forms calls (x.functions (begins_further (m s w).storage.statements _ g.forms y.forms_grow forms) (begins_further (n t v).storage.calls _ g.calls y.calls_grow calls) before);
          checked_world = y.checked_world ∙ (λ i. (e (x.checked_world i)).world);
          checked_world_there = y.checked_world_there ∙ (λ i. (f (x.checked_world_there i)).world);
          without_fault = (λ i. x.without_fault i ++ (f (sym x.checked_world_there i)).found) ∙ y.without_fault;
        };
  }

  -- what is found alike first, from where these items are to come to where those are
  pub alike_passed : {A B C D : Type 0} {P : A → Type 0} {seen : A → B} {IsLike : C → D → Type 0} {ns : List ℕ} {tops tops' : Option (List TopData)} {ms : Ahead}
      (c d : Rule B) (e f : B → Rule (Unit {0})) (m n : Resolving A) (k : A → Resolving C) (l : A → Resolving D)
      → IsAlike P seen c d m n → DenotesNone c → Keeps g.source m → Passes g.source tops tops' c
      → ((a : A) → P a → IsCopied g IsLike (record { numbers = ns; tops = tops' }) ms (e (seen a)) (f (seen a)) (k a) (l a))
      → IsCopied g IsLike (record { numbers = ns; tops = tops }) ms (check_chain c e) (check_chain d f) (chain m k) (chain n l)
  unfolding chain check_chain
  alike_passed {P = P} {seen = seen} {IsLike = R} {ns} {tops} {tops'} {ms} c d e f m n k l p denotes keeps passes q = record {
    finds = λ s t w v same alike here none more.
        let x : FindAlike P seen s t (c w) (d v) (m s w) (n t v) =
        p.finds s t w v same alike (none_before (c w).found (e (c w).answer (c w).world).found none)
        in let a = (m s w).answer
        in let y : FindCopies g R ms (m s w).storage (n t v).storage (e (seen a) (m s w).world) (f (seen a) (n t v).world)
        (k a (m s w).storage (m s w).world) (l a (n t v).storage (n t v).world) =
        (q a x.silent).finds (m s w).storage (n t v).storage (m s w).world (n t v).world x.storages x.worlds
        (come_behind g (record { numbers = ns; tops = tops }) (record { numbers = ns; tops = tops' }) s (m s w).storage w (m s w).world here refl x.adds_none.statements
        ((λ i. (x.checked_world i).denoted) ∙ denotes.kept w) (keeps.known s w here.known) (keeps.grows s w) (keeps.sites s w)
        (subst (λ u. IsAt g.source tops' u) (sym x.checked_world) (passes w here.position)))
        ((λ i. (e (x.checked i) (x.checked_world i)).found) ∙ none_behind (c w).found (e (c w).answer (c w).world).found none)
        (subst (λ u. Grows u g.world) (λ i. (e (sym x.checked i) (sym x.checked_world i)).world) more)
        in let z : FindCopies g R ms (m s w).storage (n t v).storage (e (seen a) (m s w).world) (f (seen a) (n t v).world)
        (k a (m s w).storage (m s w).world) (l (n t v).answer (n t v).storage (n t v).world) =
        subst (λ b. FindCopies g R ms (m s w).storage (n t v).storage (e (seen a) (m s w).world) (f (seen a) (n t v).world)
        (k a (m s w).storage (m s w).world) (l b (n t v).storage (n t v).world)) (sym x.answer) y
        in record {
          worlds = z.worlds;
          storages = z.storages;
          to_come = z.to_come;
          forms_grow = begins_further s.statements (m s w).storage.statements _ (begins_same s.statements (m s w).storage.statements x.adds_none.statements) z.forms_grow;
          calls_grow = begins_further t.calls (n t v).storage.calls _ (begins_same t.calls (n t v).storage.calls x.adds_none_there.calls) z.calls_grow;
          like = z.like;
          functions = λ forms calls before. z.functions forms calls
              (subst (λ fs. AreFunctionCopies g.Stands (m s w).storage.functions fs) (sym x.adds_none_there.functions)
              (subst (λ fs. AreFunctionCopies g.Stands fs t.functions) (sym x.adds_none.functions) before));
          checked_world = z.checked_world ∙ (λ i. (e (x.checked i) (x.checked_world i)).world);
          checked_world_there = z.checked_world_there ∙ (λ i. (f ((x.checked ∙ sym x.checked_there) i) (x.checked_world_there i)).world);
          without_fault = (λ i. x.without_fault i ++ (f ((x.checked_there ∙ sym x.checked) i) (sym x.checked_world_there i)).found) ∙ z.without_fault;
        };
  }

  -- in a function
  pub alike_first : {A B C D : Type 0} {P : A → Type 0} {seen : A → B} {IsLike : C → D → Type 0} {ns : List ℕ} {ms : Ahead}
      (c d : Rule B) (e f : B → Rule (Unit {0})) (m n : Resolving A) (k : A → Resolving C) (l : A → Resolving D)
      → IsAlike P seen c d m n → DenotesNone c → Keeps g.source m
      → ((a : A) → P a → IsCopied g IsLike (in_function ns) ms (e (seen a)) (f (seen a)) (k a) (l a))
      → IsCopied g IsLike (in_function ns) ms (check_chain c e) (check_chain d f) (chain m k) (chain n l)
  alike_first {ns = ns} c d e f m n k l p denotes keeps q = alike_passed {ns = ns} {tops = None} {tops' = None} c d e f m n k l p denotes keeps (λ w h. tt) q

  -- what is like, in another way
  pub copied_as : {A B : Type 0} {IsLike IsLike' : A → B → Type 0} {ns ms : Ahead} {c d : Rule (Unit {0})} {m : Resolving A} {n : Resolving B}
      → IsCopied g IsLike ns ms c d m n → ((a : A) (b : B) → IsLike a b → IsLike' a b) → IsCopied g IsLike' ns ms c d m n
  copied_as {IsLike = R} {ms = ms} {c} {d} {m} {n} p q = record {
    finds = λ s t w v same alike here none more.
        let x : FindCopies g R ms s t (c w) (d v) (m s w) (n t v) = p.finds s t w v same alike here none more
        in record {
          worlds = x.worlds;
          storages = x.storages;
          to_come = x.to_come;
          forms_grow = x.forms_grow;
          calls_grow = x.calls_grow;
          like = λ forms calls. q (m s w).answer (n t v).answer (x.like forms calls);
          functions = x.functions;
          checked_world = x.checked_world;
          checked_world_there = x.checked_world_there;
          without_fault = x.without_fault;
        };
  }

  -- an answer made of what is found
  pub copied_then : {A B C D : Type 0} {IsLike : A → B → Type 0} {IsLike' : C → D → Type 0} {ns ms : Ahead} {c d : Rule (Unit {0})} {m : Resolving A} {n : Resolving B} (f : A → C) (h : B → D)
      → IsCopied g IsLike ns ms c d m n → ((a : A) (b : B) → IsLike a b → IsLike' (f a) (h b))
      → IsCopied g IsLike' ns ms c d (chain m (λ a. pure (f a))) (chain n (λ b. pure (h b)))
  unfolding chain pure
  copied_then {IsLike = R} {ms = ms} {c} {d} {m} {n} f h p q = record {
    finds = λ s t w v same alike here none more.
        let x : FindCopies g R ms s t (c w) (d v) (m s w) (n t v) = p.finds s t w v same alike here none more
        in record {
          worlds = x.worlds;
          storages = x.storages;
          to_come = x.to_come;
          forms_grow = x.forms_grow;
          calls_grow = x.calls_grow;
          like = λ forms calls. q (m s w).answer (n t v).answer (x.like forms calls);
          functions = x.functions;
          checked_world = x.checked_world;
          checked_world_there = x.checked_world_there;
          without_fault = x.without_fault;
        };
  }

  -- of what is found in the source alone
  pub copied_then_here : {A B C : Type 0} {IsLike : A → B → Type 0} {IsLike' : C → B → Type 0} {ns ms : Ahead} {c d : Rule (Unit {0})} {m : Resolving A} {n : Resolving B} (f : A → C)
      → IsCopied g IsLike ns ms c d m n → ((a : A) (b : B) → IsLike a b → IsLike' (f a) b)
      → IsCopied g IsLike' ns ms c d (chain m (λ a. pure (f a))) n
  unfolding chain pure
  copied_then_here {IsLike = R} {ms = ms} {c} {d} {m} {n} f p q = record {
    finds = λ s t w v same alike here none more.
        let x : FindCopies g R ms s t (c w) (d v) (m s w) (n t v) = p.finds s t w v same alike here none more
        in record {
          worlds = x.worlds;
          storages = x.storages;
          to_come = x.to_come;
          forms_grow = x.forms_grow;
          calls_grow = x.calls_grow;
          like = λ forms calls. q (m s w).answer (n t v).answer (x.like forms calls);
          functions = x.functions;
          checked_world = x.checked_world;
          checked_world_there = x.checked_world_there;
          without_fault = x.without_fault;
        };
  }

  -- nothing is looked at
  pub pure_copied : {A B : Type 0} {IsLike : A → B → Type 0} {ns : Ahead} (a : A) (b : B) → IsLike a b
      → IsCopied g IsLike ns ns (check_pure tt) (check_pure tt) (pure a) (pure b)
  unfolding pure check_pure
  pure_copied a b like = record {
    finds = λ s t w v same alike here none more. record {
      worlds = alike;
      storages = same;
      to_come = here;
      forms_grow = begins_itself s.statements;
      calls_grow = begins_itself t.calls;
      like = λ forms calls. like;
      functions = λ forms calls before. before;
      checked_world = refl;
      checked_world_there = refl;
      without_fault = refl;
    };
  }

  -- what is found alike and is the end of it
  pub alike_last : {A : Type 0} {P : A → Type 0} {seen : A → Unit {0}} {ns : List ℕ} {c d : Rule (Unit {0})} {m n : Resolving A}
      → IsAlike P seen c d m n → DenotesNone c → Keeps g.source m → IsCopied g (λ x y. (y ≡ x) × P x) (in_function ns) (in_function ns) c d m n
  alike_last {P = P} {seen = seen} {ns} {c} {d} {m} {n} p denotes keeps = record {
    finds = λ s t w v same alike here none more.
        let x : FindAlike P seen s t (c w) (d v) (m s w) (n t v) = p.finds s t w v same alike none
        in record {
          worlds = x.worlds;
          storages = x.storages;
          to_come = come_behind g (in_function ns) (in_function ns) s (m s w).storage w (m s w).world here refl x.adds_none.statements
              ((λ i. (x.checked_world i).denoted) ∙ denotes.kept w) (keeps.known s w here.known) (keeps.grows s w) (keeps.sites s w) tt;
          forms_grow = begins_same s.statements (m s w).storage.statements x.adds_none.statements;
          calls_grow = begins_same t.calls (n t v).storage.calls x.adds_none_there.calls;
          like = λ forms calls. (x.answer, x.silent);
          functions = λ forms calls before.
              subst (λ fs. AreFunctionCopies g.Stands (m s w).storage.functions fs) (sym x.adds_none_there.functions)
              (subst (λ fs. AreFunctionCopies g.Stands fs t.functions) (sym x.adds_none.functions) before);
          checked_world = x.checked_world;
          checked_world_there = x.checked_world_there;
          without_fault = x.without_fault;
        };
  }

  -- a place in what is written
  pub placed_there : {A B : Type 0} {IsLike : A → B → Type 0} {ns ms : Ahead} (line : Line) {c : Rule (Unit {0})} (f : Place → Rule (Unit {0})) {m : Resolving A} (l : Place → Resolving B)
      → ((there : Place) → IsCopied g IsLike ns ms c (f there) m (l there))
      → IsCopied g IsLike ns ms c (check_chain (place line) f) m (chain (checks (place line)) l)
  unfolding chain check_chain checks place
  placed_there {IsLike = R} {ms = ms} line {c} f {m} l p = record {
    finds = λ s t w v same alike here none more.
        let there : Place = record { number = v.places; line = line }
        in let u : World = record v { places = v.places + 1 }
        in let x : FindCopies g R ms s t (c w) (f there u) (m s w) (l there t u) =
        (p there).finds s t w u same (with_places_there w v alike (v.places + 1)) here none more
        in record {
          worlds = x.worlds;
          storages = x.storages;
          to_come = x.to_come;
          forms_grow = x.forms_grow;
          calls_grow = x.calls_grow;
          like = x.like;
          functions = x.functions;
          checked_world = x.checked_world;
          checked_world_there = x.checked_world_there;
          without_fault = x.without_fault;
        };
  }

  -- ---- what stands in another order

  pub grouped_here : {A B C D : Type 0} {IsLike : D → B → Type 0} {ns ms : Ahead} {c d : Rule (Unit {0})} (m : Resolving A) (k : A → Resolving C) (l : C → Resolving D) {n : Resolving B}
      → IsCopied g IsLike ns ms c d (chain m (λ a. chain (k a) l)) n → IsCopied g IsLike ns ms c d (chain (chain m k) l) n
  unfolding chain
  grouped_here m k l p = record { finds = p.finds }

  pub grouped_there : {A B C D : Type 0} {IsLike : B → D → Type 0} {ns ms : Ahead} {c d : Rule (Unit {0})} {n : Resolving B} (m : Resolving A) (k : A → Resolving C) (l : C → Resolving D)
      → IsCopied g IsLike ns ms c d n (chain m (λ a. chain (k a) l)) → IsCopied g IsLike ns ms c d n (chain (chain m k) l)
  unfolding chain
  grouped_there m k l p = record { finds = p.finds }

  pub answered_here : {A B C : Type 0} {IsLike : C → B → Type 0} {ns ms : Ahead} {c d : Rule (Unit {0})} (a : A) (k : A → Resolving C) {n : Resolving B}
      → IsCopied g IsLike ns ms c d (k a) n → IsCopied g IsLike ns ms c d (chain (pure a) k) n
  unfolding chain pure
  answered_here a k p = record { finds = p.finds }

  pub answered_there : {A B C : Type 0} {IsLike : C → B → Type 0} {ns ms : Ahead} {c d : Rule (Unit {0})} {m : Resolving C} (a : A) (k : A → Resolving B)
      → IsCopied g IsLike ns ms c d m (k a) → IsCopied g IsLike ns ms c d m (chain (pure a) k)
  unfolding chain pure
  answered_there a k p = record { finds = p.finds }

  pub checked_grouped_here : {A B D E : Type 0} {IsLike : A → B → Type 0} {ns ms : Ahead} (c : Rule D) (e : D → Rule E) (f : E → Rule (Unit {0})) {d : Rule (Unit {0})} {m : Resolving A} {n : Resolving B}
      → IsCopied g IsLike ns ms (check_chain c (λ a. check_chain (e a) f)) d m n → IsCopied g IsLike ns ms (check_chain (check_chain c e) f) d m n
  unfolding check_chain
  checked_grouped_here {IsLike = R} {ms = ms} c e f {d} {m} {n} p = record {
    finds = λ s t w v same alike here none more.
        let x : FindCopies g R ms s t (check_chain c (λ a. check_chain (e a) f) w) (d v) (m s w) (n t v) =
        p.finds s t w v same alike here (sym (append_assoc (c w).found (e (c w).answer (c w).world).found (f (e (c w).answer (c w).world).answer (e (c w).answer (c w).world).world).found) ∙ none) more
        in record {
          worlds = x.worlds;
          storages = x.storages;
          to_come = x.to_come;
          forms_grow = x.forms_grow;
          calls_grow = x.calls_grow;
          like = x.like;
          functions = x.functions;
          checked_world = x.checked_world;
          checked_world_there = x.checked_world_there;
          without_fault = x.without_fault;
        };
  }

  pub checked_grouped_there : {A B D E : Type 0} {IsLike : A → B → Type 0} {ns ms : Ahead} {d : Rule (Unit {0})} (c : Rule D) (e : D → Rule E) (f : E → Rule (Unit {0})) {m : Resolving A} {n : Resolving B}
      → IsCopied g IsLike ns ms d (check_chain c (λ a. check_chain (e a) f)) m n → IsCopied g IsLike ns ms d (check_chain (check_chain c e) f) m n
  unfolding check_chain
  checked_grouped_there {IsLike = R} {ms = ms} {d} c e f {m} {n} p = record {
    finds = λ s t w v same alike here none more.
        let x : FindCopies g R ms s t (d w) (check_chain c (λ a. check_chain (e a) f) v) (m s w) (n t v) = p.finds s t w v same alike here none more
        in record {
          worlds = x.worlds;
          storages = x.storages;
          to_come = x.to_come;
          forms_grow = x.forms_grow;
          calls_grow = x.calls_grow;
          like = x.like;
          functions = x.functions;
          checked_world = x.checked_world;
          checked_world_there = x.checked_world_there;
          without_fault = append_assoc (c v).found (e (c v).answer (c v).world).found (f (e (c v).answer (c v).world).answer (e (c v).answer (c v).world).world).found ∙ x.without_fault;
        };
  }

  pub checked_answer_here : {A B D : Type 0} {IsLike : A → B → Type 0} {ns ms : Ahead} (a : D) (e : D → Rule (Unit {0})) {d : Rule (Unit {0})} {m : Resolving A} {n : Resolving B}
      → IsCopied g IsLike ns ms (e a) d m n → IsCopied g IsLike ns ms (check_chain (check_pure a) e) d m n
  unfolding check_chain check_pure
  checked_answer_here {IsLike = R} {ms = ms} a e {d} {m} {n} p = record {
    finds = λ s t w v same alike here none more.
        let x : FindCopies g R ms s t (e a w) (d v) (m s w) (n t v) = p.finds s t w v same alike here none more
        in record {
          worlds = x.worlds;
          storages = x.storages;
          to_come = x.to_come;
          forms_grow = x.forms_grow;
          calls_grow = x.calls_grow;
          like = x.like;
          functions = x.functions;
          checked_world = x.checked_world;
          checked_world_there = x.checked_world_there;
          without_fault = x.without_fault;
        };
  }

  -- ---- what nothing is written of

  pub gone_copied : {A B : Type 0} {IsLike : A → B → Type 0} {ns ms : Ahead} {c : Rule (Unit {0})} {m : Resolving (Unit {0})} (a : A) (b : B)
      → IsGone g ns ms c m → IsLike a b → IsCopied g IsLike ns ms c (check_pure tt) (chain m (λ _. pure a)) (pure b)
  unfolding chain pure check_pure
  gone_copied {ms = ms} {c} {m} a b p like = record {
    finds = λ s t w v same alike here none more.
        let x : FindNothing g ms s t v (c w) (m s w) = p.finds s t w v same alike here none more
        in record {
          worlds = x.worlds;
          storages = x.storages;
          to_come = x.to_come;
          forms_grow = x.forms_grow;
          calls_grow = begins_itself t.calls;
          like = λ forms calls. like;
          functions = λ forms calls before. subst (λ fs. AreFunctionCopies g.Stands fs t.functions) (sym x.functions) before;
          checked_world = x.checked_world;
          checked_world_there = refl;
          without_fault = refl;
        };
  }

  pub gone_first : {A B : Type 0} {IsLike : A → B → Type 0} {ns ms ls : Ahead} (c e : Rule (Unit {0})) {d : Rule (Unit {0})} (m : Resolving (Unit {0})) (k : Resolving A) {n : Resolving B}
      → IsGone g ns ms c m → GrowsBy e → IsCopied g IsLike ms ls e d k n
      → IsCopied g IsLike ns ls (check_chain c (λ _. e)) d (chain m (λ _. k)) n
  unfolding chain check_chain
  gone_first {IsLike = R} {ms = ms} {ls = ls} c e {d} m k {n} p grows q = record {
    finds = λ s t w v same alike here none more.
        let x : FindNothing g ms s t v (c w) (m s w) =
        p.finds s t w v same alike here (none_before (c w).found (e (c w).world).found none) (grows_further (c w).world (e (c w).world).world g.world (grows (c w).world) more)
        in let y : FindCopies g R ls (m s w).storage t (e (m s w).world) (d v) (k (m s w).storage (m s w).world) (n t v) =
        q.finds (m s w).storage t (m s w).world v x.storages x.worlds x.to_come
        ((λ i. (e (x.checked_world i)).found) ∙ none_behind (c w).found (e (c w).world).found none)
        (subst (λ u. Grows (e u).world g.world) (sym x.checked_world) more)
        in record {
          worlds = y.worlds;
          storages = y.storages;
          to_come = y.to_come;
          forms_grow = begins_further s.statements (m s w).storage.statements _ x.forms_grow y.forms_grow;
          calls_grow = y.calls_grow;
          like = y.like;
          functions = λ forms calls before. y.functions forms calls (subst (λ fs. AreFunctionCopies g.Stands fs t.functions) (sym x.functions) before);
          checked_world = y.checked_world ∙ (λ i. (e (x.checked_world i)).world);
          checked_world_there = y.checked_world_there;
          without_fault = y.without_fault;
        };
  }

  -- ---- blocks

  pub copied_block : {A B : Type 0} {IsLike : A → B → Type 0} {ns ms : Ahead} (k : ℕ) (c d : Rule (Unit {0})) (m : Resolving A) (n : Resolving B)
      → IsCopied g IsLike ns ms c d m n
      → IsCopied g (λ x y. (y.0 ≡ x.0) × IsLike x.1 y.1) ns ms c d (in_block k m) (in_block k n)
  unfolding chain stored arrange pure
  copied_block {IsLike = R} {ns} {ms} k c d m n p = record {
    finds = λ s t w v same alike here none more.
        let x : FindCopies g R ms (inside_block k s) (inside_block k t) (c w) (d v) (m (inside_block k s) w) (n (inside_block k t) v) =
        p.finds (inside_block k s) (inside_block k t) w v (inside_same k s t same) alike (come_stored g ns s (inside_block k s) w here refl refl) none more
        in record {
          worlds = x.worlds;
          storages = back_same s.block t.block (m (inside_block k s) w).storage (n (inside_block k t) v).storage same.block x.storages;
          to_come = come_stored g ms (m (inside_block k s) w).storage (back_in_block s.block (m (inside_block k s) w).storage) (m (inside_block k s) w).world x.to_come refl refl;
          forms_grow = x.forms_grow;
          calls_grow = x.calls_grow;
          like = λ forms calls. ((λ i. (x.storages.block i).sizes), x.like forms calls);
          functions = x.functions;
          checked_world = x.checked_world;
          checked_world_there = x.checked_world_there;
          without_fault = x.without_fault;
        };
  }

  -- what only tells a fault, where it tells none
  pub quiet_copied : {A B : Type 0} {IsLike : A → B → Type 0} {ns : Ahead} (c d : Rule (Unit {0})) (a : A) (b : B) → QuietAlike c d → IsLike a b
      → IsCopied g IsLike ns ns c d (pure a) (pure b)
  unfolding pure
  quiet_copied c d a b q like = record {
    finds = λ s t w v same alike here none more. record {
      worlds = alike;
      storages = same;
      to_come = here;
      forms_grow = begins_itself s.statements;
      calls_grow = begins_itself t.calls;
      like = λ forms calls. like;
      functions = λ forms calls before. before;
      checked_world = sym (q.here w);
      checked_world_there = sym (q.there v);
      without_fault = q.without_fault w v alike none;
    };
  }

  -- two answers one behind the other, made into another
  pub paired_here : {A B C D : Type 0} {IsLike : D → B → Type 0} {ns ms : Ahead} {c d : Rule (Unit {0})} (m : Resolving A) (h : A → A) (k : Resolving C) (f : A × C → D) {n : Resolving B}
      → IsCopied g IsLike ns ms c d (chain {A = A × C} (chain m (λ more. chain k (λ rest. pure {A = A × C} (more, rest)))) (λ p. pure (f (h p.0, p.1)))) n
      → IsCopied g IsLike ns ms c d (chain (chain m (λ more. pure (h more))) (λ xs. chain k (λ rest. pure (f (xs, rest))))) n
  unfolding chain pure
  paired_here m h k f p = record { finds = p.finds }

  pub answers_here : {A B C E F D : Type 0} {IsLike : D → B → Type 0} {ns ms : Ahead} {c d : Rule (Unit {0})} (m : Resolving A) (k : Resolving C) (h : A → E) (j : E → F) (f : F → C → D) {n : Resolving B}
      → IsCopied g IsLike ns ms c d (chain {A = A × C} (chain m (λ more. chain k (λ rest. pure {A = A × C} (more, rest)))) (λ p. pure (f (j (h p.0)) p.1))) n
      → IsCopied g IsLike ns ms c d (chain m (λ xs. chain (pure (h xs)) (λ x. chain (pure (j x)) (λ y. chain k (λ rest. pure (f y rest)))))) n
  unfolding chain pure
  answers_here m k h j f p = record { finds = p.finds }

  -- ---- where these items are to come

  pub passed_before : {A B : Type 0} {IsLike : A → B → Type 0} {ns : List ℕ} {tops tops' : Option (List TopData)} {ms : Ahead} {c d : Rule (Unit {0})} {m : Resolving A} {n : Resolving B}
      → ((w : World) → IsAt g.source tops w → IsAt g.source tops' w) → IsCopied g IsLike (record { numbers = ns; tops = tops' }) ms c d m n
      → IsCopied g IsLike (record { numbers = ns; tops = tops }) ms c d m n
  passed_before {ns = ns} {tops} {tops'} q p = record {
    finds = λ s t w v same alike here none more.
        p.finds s t w v same alike (come_at g (record { numbers = ns; tops = tops }) (record { numbers = ns; tops = tops' }) s w here refl (q w here.position)) none more;
  }

  pub passed_behind : {A B : Type 0} {IsLike : A → B → Type 0} {ns ms : List ℕ} {tops tops' : Option (List TopData)} {c d : Rule (Unit {0})} {m : Resolving A} {n : Resolving B}
      → Passes g.source tops tops' c → IsCopied g IsLike (record { numbers = ns; tops = tops }) (in_function ms) c d m n
      → IsCopied g IsLike (record { numbers = ns; tops = tops }) (record { numbers = ms; tops = tops' }) c d m n
  passed_behind {IsLike = R} {ns} {ms} {tops} {tops'} {c} {d} {m} {n} q p = record {
    finds = λ s t w v same alike here none more.
        let x : FindCopies g R (in_function ms) s t (c w) (d v) (m s w) (n t v) = p.finds s t w v same alike here none more
        in record {
          worlds = x.worlds;
          storages = x.storages;
          to_come = come_at g (in_function ms) (record { numbers = ms; tops = tops' }) (m s w).storage (m s w).world x.to_come refl
              (subst (λ u. IsAt g.source tops' u) (sym x.checked_world) (q w here.position));
          forms_grow = x.forms_grow;
          calls_grow = x.calls_grow;
          like = x.like;
          functions = x.functions;
          checked_world = x.checked_world;
          checked_world_there = x.checked_world_there;
          without_fault = x.without_fault;
        };
  }

module _ (g : Whole) (walk : WalkKeeps g.source) where
  -- a place in the source, and one in what is written
  pub placed_here : {A B : Type 0} {IsLike : A → B → Type 0} {ns ms : Ahead} (line : Line) (e : Place → Rule (Unit {0})) {d : Rule (Unit {0})} (k : Place → Resolving A) {n : Resolving B}
      → ((at : Place) → IsCopied g IsLike ns ms (e at) d (k at) n)
      → IsCopied g IsLike ns ms (check_chain (place line) e) d (chain (checks (place line)) k) n
  unfolding chain check_chain checks place
  placed_here {IsLike = R} {ns} {ms} line e {d} k {n} p = record {
    finds = λ s t w v same alike here none more.
        let at : Place = record { number = w.places; line = line }
        in let u : World = record w { places = w.places + 1 }
        in let x : FindCopies g R ms s t (e at u) (d v) (k at s u) (n t v) =
        (p at).finds s t u v same (with_places_here w v alike (w.places + 1))
        (come_still g ns s w u here refl refl ((walk.places line).known s w here.known) ((walk.places line).grows s w)) none more
        in record {
          worlds = x.worlds;
          storages = x.storages;
          to_come = x.to_come;
          forms_grow = x.forms_grow;
          calls_grow = x.calls_grow;
          like = x.like;
          functions = x.functions;
          checked_world = x.checked_world;
          checked_world_there = x.checked_world_there;
          without_fault = x.without_fault;
        };
  }

  pub placed : {A B : Type 0} {IsLike : A → B → Type 0} {ns ms : Ahead} (line line' : Line) (e f : Place → Rule (Unit {0})) (k : Place → Resolving A) (l : Place → Resolving B)
      → ((at there : Place) → IsCopied g IsLike ns ms (e at) (f there) (k at) (l there))
      → IsCopied g IsLike ns ms (check_chain (place line) e) (check_chain (place line') f) (chain (checks (place line)) k) (chain (checks (place line')) l)
  placed line line' e f k l p = placed_here line e k (λ at. placed_there g line' f l (λ there. p at there))

  -- ---- scopes

  pub copied_scoped : {A B : Type 0} {IsLike : A → B → Type 0} {ns ms : Ahead} (c d : Rule (Unit {0})) (m : Resolving A) (n : Resolving B)
      → IsCopied g IsLike ns ms c d m n
      → IsCopied g IsLike ns ms (check_chain enter (λ _. check_chain c (λ _. leave))) (check_chain enter (λ _. check_chain d (λ _. leave))) (scoped m) (scoped n)
  unfolding chain check_chain checks pure enter leave change
  copied_scoped {IsLike = R} {ns} {ms} c d m n p = record {
    finds = λ s t w v same alike here none more.
        let x : FindCopies g R ms s t (c (entered w)) (d (entered v)) (m s (entered w)) (n t (entered v)) =
        p.finds s t (entered w) (entered v) same (entered_alike w v alike) (come_still g ns s w (entered w) here refl refl (walk.enters.known s w here.known) (walk.enters.grows s w))
        (none_before (c (entered w)).found [] none) (grows_before_left (c (entered w)).world g.world more)
        in record {
          worlds = left_alike (m s (entered w)).world (n t (entered v)).world x.worlds;
          storages = x.storages;
          to_come =
              let r : Reached _ = m s (entered w)
              in come_still g ms r.storage r.world (left r.world) x.to_come (left_denoted r.world) (left_types r.world) (walk.leaves.known r.storage r.world x.to_come.known) (walk.leaves.grows r.storage r.world);
          forms_grow = x.forms_grow;
          calls_grow = x.calls_grow;
          like = x.like;
          functions = x.functions;
          checked_world = λ i. left (x.checked_world i);
          checked_world_there = λ i. left (x.checked_world_there i);
          without_fault = append-nil (d (entered v)).found ∙ x.without_fault;
        };
  }
