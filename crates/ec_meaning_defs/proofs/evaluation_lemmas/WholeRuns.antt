-- The laws on whole runs, from the induction.
use Rattle.std.proofs.Common.{◌≡◌, ℕ, zero, suc, ◌+◌, ◌≤◌, inl, inr, List, [], ◌∷◌, ◌++◌, map, refl, sym, ap, ◌∙◌, subst, arith, append_assoc, append-nil}
use Rattle.std.specs.Prelude.{slice_get, Option}
use Rattle.ec_link.specs.declared.request.Request.{Request}
use Rattle.ec_meaning_defs.specs.resolved.Programs.{Function, Program, opening_objects}
use Rattle.ec_meaning_defs.specs.resolved.Resolved.{Stm, on_line, nothing, evaluate, declare, initialize, block, choose, loop, leave, next, return, goto, label, select, embedded_statement, Stms, no_stms, stms}
use Rattle.ec_meaning_defs.specs.evaluation.State.{Answer, State, Ending, exited, trapped, turns_spent, waits, stuck}
use Rattle.ec_meaning_defs.specs.evaluation.Results.{Res, value, on, broke, continued, went, back, over, turn}
use Rattle.ec_meaning_defs.specs.evaluation.Evaluate.{Task, calls, turn_of, look_for, World, Step}
use Rattle.ec_meaning_defs.specs.evaluation.Execute.{act, meaning}
use Rattle.ec_meaning_defs.specs.evaluation.Whole.{opened, main_run, whole_within, whole, without_atoms}
use Rattle.ec_meaning_defs.specs.evaluation.Expanded.{written, written_all, written_function, written_program, written_task, itself}
use Rattle.ec_meaning_defs.specs.evaluation.Agree.{richer, before_goto, Beside, beside, Same, same_value, same_on, same_broke, same_continued, same_went, same_back, same_over, stops_first, Endings, IsOwn, Kept, Alike, before, Related, Agree, Always, Never, IsSpent, WhenSpent, IsWaiting, IsNot, Any, Grows, TakesFirst, GoesOnWith, WhenAnswered, GoesOn, Below, Extends, state_of, richer_result, CountsTurns, OnlyAdds, TakesMoreTurns, TakesMoreAnswers}
use Rattle.ec_meaning_defs.proofs.evaluation_lemmas.Induction.{act_good, tasks_related, whole_by, whole_same, turn_same}

-- ---- answers that are the same

pub plain : (s : State) → richer 0 [] s ≡ s
plain s =
    let e : s.turns + 0 ≡ s.turns = omega arith in
    λ i. record s { turns = e i; answers = append-nil s.answers i }

pub alike : (P : State → Type 0) (G : State → State → Type 0) {o o' : Res} → Same P Never G 0 [] o o' → o' ≡ o
alike P G (same_value {v = v} (beside {s = s} p)) = ap (λ t. value v t) (plain s)
alike P G (same_on (beside {s = s} p)) = ap on (plain s)
alike P G (same_broke (beside {s = s} p)) = ap broke (plain s)
alike P G (same_continued (beside {s = s} p)) = ap continued (plain s)
alike P G (same_went {l = l} (beside {s = s} p)) = ap (λ t. went l t) (plain s)
alike P G (same_back {v = v} (beside {s = s} p)) = ap (λ t. back v t) (plain s)
alike P G (same_over {e = e} b (beside {s = s} p)) = ap (λ t. over e t) (plain s)
alike P G (stops_first p e) = absurd e

pub richer_alike : (P : State → Type 0) (E : Endings) (D : Ending → Type 0) (G : State → State → Type 0) (d : ℕ) (more : List Answer)
    → ((e : Ending) (s t : State) → E.first e s t → D e) → {o o' : Res} → Same P E G d more o o' → IsNot D o → o' ≡ richer_result d more o
richer_alike P E D G d more h (same_value (beside p)) n = refl
richer_alike P E D G d more h (same_on (beside p)) n = refl
richer_alike P E D G d more h (same_broke (beside p)) n = refl
richer_alike P E D G d more h (same_continued (beside p)) n = refl
richer_alike P E D G d more h (same_went (beside p)) n = refl
richer_alike P E D G d more h (same_back (beside p)) n = refl
richer_alike P E D G d more h (same_over b (beside p)) n = refl
richer_alike P E D G d more h (stops_first {e = a} {s = s} {o = o} p e) n = absurd (n (h a s (state_of o) e))

-- what is kept holds at the end
pub holds_at_end : (P : State → Type 0) (kept : Kept P Never Any 0 []) {o o' : Res} → Same P Never Any 0 [] o o' → P (state_of o)
holds_at_end P kept (same_value (beside p)) = p
holds_at_end P kept (same_on (beside p)) = p
holds_at_end P kept (same_broke (beside p)) = p
holds_at_end P kept (same_continued (beside p)) = p
holds_at_end P kept (same_went (beside {s = s} p)) = kept.turn (before_goto s) s.turns refl p
holds_at_end P kept (same_back (beside p)) = p
holds_at_end P kept (same_over b (beside p)) = p
holds_at_end P kept (stops_first p e) = p

-- where the first waits, the second goes on from there
grows_itself : (s : State) → Grows s s
grows_itself s = record {
  printed = ([], sym (append-nil s.output));
  complained = ([], sym (append-nil s.errors));
  said = ([], sym (append-nil s.conversation));
}

-- the ending of a run that waits, in both only where there are no further answers
waits_still : (more : List Answer) (e : Ending) (s t : State) → Grows s t → (IsWaiting e → more ≡ []) → IsWaiting e → GoesOnWith more e s t
waits_still more (exited n) s t g h w = w
waits_still more (trapped trap line) s t g h w = w
waits_still more turns_spent s t g h w = w
waits_still [] (waits slot request) s t g h w = (g, tt)
waits_still (a ∷ more) (waits slot request) s t g h w = absurd (not_none (h tt))
  where
    not_none : {A : Type 0} {x : A} {xs : List A} → (x ∷ xs) ≡ [] → ⊥
    not_none e = cc e
waits_still more stuck s t g h w = w

grows_richer : (more : List Answer) (s : State) → Grows s (richer 0 more s)
grows_richer more s = record {
  printed = ([], sym (append-nil s.output));
  complained = ([], sym (append-nil s.errors));
  said = ([], sym (append-nil s.conversation));
}

pub goes_on : (more : List Answer) {o o' : Res} → Same Always (WhenAnswered more) Grows 0 more o o' → GoesOn more o o'
goes_on more (same_value p) = tt
goes_on more (same_on p) = tt
goes_on more (same_broke p) = tt
goes_on more (same_continued p) = tt
goes_on more (same_went p) = tt
goes_on more (same_back p) = tt
goes_on more (same_over {e = e} b (beside {s = s} p)) = λ w. waits_still more e s (richer 0 more s) (grows_richer more s) b w
goes_on more (stops_first p e) = λ w. e

-- ---- a program that is written as itself

mutual
  unwritten : (x : Stm) → written itself x ≡ x
  unwritten (on_line n x) = ap (on_line n) (unwritten x)
  unwritten nothing = refl
  unwritten (evaluate e) = refl
  unwritten (declare i size) = refl
  unwritten (initialize i size es) = refl
  unwritten (block sizes b) = ap (block sizes) (all_unwritten b)
  unwritten (choose e a b) = cc (unwritten a, unwritten b)
  unwritten (loop first test behind x) = ap (loop first test behind) (unwritten x)
  unwritten leave = refl
  unwritten next = refl
  unwritten (return e) = refl
  unwritten (goto l) = refl
  unwritten (label l x) = ap (label l) (unwritten x)
  unwritten (select e x) = ap (select e) (unwritten x)
  unwritten (embedded_statement n) = refl

  all_unwritten : (x : Stms) → written_all itself x ≡ x
  all_unwritten no_stms = refl
  all_unwritten (stms a b) = cc (unwritten a, all_unwritten b)

functions_unwritten : (fs : List Function) → map (written_function itself) fs ≡ fs
functions_unwritten [] = refl
functions_unwritten (f ∷ fs) = λ i. record f { body = all_unwritten f.body i } ∷ functions_unwritten fs i

task_unwritten : (t : Task) → written_task itself t ≡ t
task_unwritten (calls line f vs) = refl
task_unwritten (turn_of c test behind x) = ap (λ y. turn_of c test behind y) (unwritten x)
task_unwritten (look_for c l b) = ap (λ y. look_for c l y) (all_unwritten b)

abbrev run_with : Step → Program → World → State → Res
run_with step p w s = opened (opening_objects p) s (λ t. main_run step w (slice_get p.functions p.main) t)

module _ (P : State → Type 0) (E : Endings) (G : State → State → Type 0) (d : ℕ) (more : List Answer) (kept : Kept P E G d more) (step : Step) (agree : Agree P E G d more step step itself) where
  -- tasks that do the same in one program
  record Twins (w w' : World) : Type 0 where
    same : (t : Task) (s s' : State) → Beside (λ u. P (before t u)) d more s s' → Same P E G d more (w t s) (w' t s')
    later : (t : Task) (u : State) → G u (state_of (w' t u))

  related_twins : (w w' : World) → Twins w w' → Related P E G d more itself w w'
  related_twins w w' twins = record {
    same = λ t s s' q. subst (λ x. Same P E G d more (w t s) (w' x s')) (sym (task_unwritten t)) (twins.same t s s' q);
    later = λ t u. subst (λ x. G u (state_of (w' x u))) (sym (task_unwritten t)) (twins.later t u);
  }

  act_twins : (fs : List Function) (w w' : World) → Twins w w' → (t : Task) → Alike P E G d more (λ s. act step fs w t s) (λ s. act step fs w' t s)
  act_twins fs w w' twins t =
      let a = act_good P E G d more kept step step itself agree w w' (related_twins w w' twins) fs t in
      let b = subst (λ gs. Alike P E G d more (λ s. act step fs w t s) (λ s. act step gs w' (written_task itself t) s)) (functions_unwritten fs) a in
      subst (λ x. Alike P E G d more (λ s. act step fs w t s) (λ s. act step fs w' x s)) (task_unwritten t) b

  whole_twins : (p : Program) (w w' : World) → Twins w w' → (s s' : State) → Beside P d more s s' → Same P E G d more (run_with step p w s) (run_with step p w' s')
  whole_twins p w w' twins s s' q =
      let a = (whole_by P E G d more kept step step itself agree w w' (related_twins w w' twins) p).same s s' q in
      subst (λ gs. Same P E G d more (run_with step p w s) (opened (opening_objects p) s' (λ t. main_run step w' (slice_get gs p.main) t))) (functions_unwritten p.functions) a

  -- the tasks of one program with as many turns at most
  meaning_twins : (fs : List Function) (n : ℕ) → Twins (meaning step fs n) (meaning step fs n)
  meaning_twins fs n =
      let a = tasks_related P E G d more kept step step itself agree fs n in
      let b = subst (λ gs. Related P E G d more itself (meaning step fs n) (meaning step gs n)) (functions_unwritten fs) a in
      record {
        same = λ t s s' q. subst (λ x. Same P E G d more (meaning step fs n t s) (meaning step fs n x s')) (task_unwritten t) (b.same t s s' q);
        later = λ t u. subst (λ x. G u (state_of (meaning step fs n x u))) (task_unwritten t) (b.later t u);
      }

  pub within_twins : (p : Program) (n : ℕ) (s s' : State) → Beside P d more s s' → Same P E G d more (whole_within step p n s) (whole_within step p n s')
  within_twins p n s s' q = whole_twins p (meaning step p.functions n) (meaning step p.functions n) (meaning_twins p.functions n) s s' q

-- ---- steps that agree

pub always_kept : Kept Always Never Any 0 []
always_kept = record { memory = λ s m p. tt; printed = λ s o e p. tt; turn = λ s k e p. tt; both = λ e own. tt; spent = inr refl; first_later = λ e s t u a b. a; same_later = λ s. tt; later_still = λ s t u a b. tt; memory_later = λ s m. tt; printed_later = λ s o e. tt; turn_later = λ s k. tt; richer_later = λ s. tt }

pub agreeing_same : (step step' : Step) (text : ℕ → Stm) → Agree Always Never Any 0 [] step step' text → (p : Program) (s : State) → whole step p s ≡ whole step' (written_program text p) s
agreeing_same step step' text agree p s =
    let a = alike Always Any (whole_same Always Never Any 0 [] always_kept step step' text agree p s.turns s (richer 0 [] s) (beside tt)) in
    sym a ∙ ap (λ t. whole_within step' (written_program text p) s.turns t) (plain s)

-- ---- turns that are enough

pub below_kept : (n : ℕ) → Kept (Below n) Never Any 0 []
below_kept n = record { memory = λ s m p. p; printed = λ s o e p. p; turn = λ s k e p. omega (arith, e, p); both = λ e own. tt; spent = inr refl; first_later = λ e s t u a b. a; same_later = λ s. tt; later_still = λ s t u a b. tt; memory_later = λ s m. tt; printed_later = λ s o e. tt; turn_later = λ s k. tt; richer_later = λ s. tt }

near_weaker : (P Q : State → Type 0) (d : ℕ) (more : List Answer) → ((s : State) → P s → Q s) → {s s' : State} → Beside P d more s s' → Beside Q d more s s'
near_weaker P Q d more h (beside {s = s} p) = beside (h s p)

same_weaker : (P Q : State → Type 0) (d : ℕ) (more : List Answer) → ((s : State) → P s → Q s) → {o o' : Res} → Same P Never Any d more o o' → Same Q Never Any d more o o'
same_weaker P Q d more h (same_value p) = same_value (near_weaker P Q d more h p)
same_weaker P Q d more h (same_on p) = same_on (near_weaker P Q d more h p)
same_weaker P Q d more h (same_broke p) = same_broke (near_weaker P Q d more h p)
same_weaker P Q d more h (same_continued p) = same_continued (near_weaker P Q d more h p)
same_weaker P Q d more h (same_went p) = same_went (near_weaker (λ t. P (before_goto t)) (λ t. Q (before_goto t)) d more (λ s q. h (before_goto s) q) p)
same_weaker P Q d more h (same_back p) = same_back (near_weaker P Q d more h p)
same_weaker P Q d more h (same_over b p) = same_over b (near_weaker P Q d more h p)
same_weaker P Q d more h (stops_first p e) = absurd e

-- a turn that neither has
spent_same : (s : State) (k : State → Res) → s.turns ≤ 0 → Same (Below 0) Never Any 0 [] (over turns_spent s) (turn (richer 0 [] s) k)
spent_same s k h = go (s.turns + 0) (omega arith)
  where
    go : (m : ℕ) → m ≤ 0 → Same (Below 0) Never Any 0 [] (over turns_spent s) (elim m [ zero ↦ over turns_spent (richer 0 [] s) | suc n ↦ k (record (richer 0 [] s) { turns = n }) ])
    go zero i = same_over tt (beside h)
    go (suc n) i = absurd (omega arith)

-- the turn behind a state with at most n + 1 of them
one_less : (n : ℕ) {s s' t t' : State} → Beside (Below (suc n)) 0 [] s s' → before_goto t ≡ s → Beside (Below (suc n)) 0 [] t t' → Beside (Below n) 0 [] t t'
one_less n {s = s} {t = t} (beside p) e (beside q) = beside (let f : suc t.turns ≡ s.turns = ap (λ u. u.turns) e in omega (arith, f, p))

module _ (step : Step) (counts : CountsTurns step) (fs : List Function) where
  fuel_same : (n m : ℕ) → n ≤ m → (t : Task) (s s' : State) → Beside (λ u. Below n (before t u)) 0 [] s s' → Same (Below n) Never Any 0 [] (meaning step fs n t s) (meaning step fs m t s')
  fuel_same zero zero h (calls line f vs) s s' p = same_over tt p
  fuel_same zero zero h (turn_of c test behind x) s s' p = same_over tt p
  fuel_same zero zero h (look_for c l b) s s' (beside p) = absurd (omega (arith, p))
  fuel_same zero (suc m) h (calls line f vs) s s' (beside p) = spent_same s (λ u. act step fs (meaning step fs m) (calls line f vs) u) p
  fuel_same zero (suc m) h (turn_of c test behind x) s s' (beside p) = spent_same s (λ u. act step fs (meaning step fs m) (turn_of c test behind x) u) p
  fuel_same zero (suc m) h (look_for c l b) s s' (beside p) = absurd (omega (arith, p))
  fuel_same (suc n) zero h t s s' p = absurd (omega (arith, h))
  fuel_same (suc n) (suc m) h (calls line f vs) s s' p =
      turn_same (Below (suc n)) Never Any 0 [] (below_kept (suc n)) p (λ t t' e q.
      same_weaker (Below n) (Below (suc n)) 0 [] (λ u i. omega (arith, i))
      ((act_twins (Below n) Never Any 0 [] (below_kept n) step (counts n) fs (meaning step fs n) (meaning step fs m) (record { same = λ a u u' r. fuel_same n m (omega (arith, h)) a u u' r; later = λ a u. tt }) (calls line f vs)).same t t' (one_less n p e q))) (λ t. tt)
  fuel_same (suc n) (suc m) h (turn_of c test behind x) s s' p =
      turn_same (Below (suc n)) Never Any 0 [] (below_kept (suc n)) p (λ t t' e q.
      same_weaker (Below n) (Below (suc n)) 0 [] (λ u i. omega (arith, i))
      ((act_twins (Below n) Never Any 0 [] (below_kept n) step (counts n) fs (meaning step fs n) (meaning step fs m) (record { same = λ a u u' r. fuel_same n m (omega (arith, h)) a u u' r; later = λ a u. tt }) (turn_of c test behind x)).same t t' (one_less n p e q))) (λ t. tt)
  fuel_same (suc n) (suc m) h (look_for c l b) s s' p =
      same_weaker (Below n) (Below (suc n)) 0 [] (λ u i. omega (arith, i))
      ((act_twins (Below n) Never Any 0 [] (below_kept n) step (counts n) fs (meaning step fs n) (meaning step fs m) (record { same = λ a u u' r. fuel_same n m (omega (arith, h)) a u u' r; later = λ a u. tt }) (look_for c l b)).same s s' (near_weaker (λ u. Below (suc n) (before_goto u)) (Below n) 0 [] (λ u i. omega (arith, i)) p))

pub enough_turns : (step : Step) → CountsTurns step → (p : Program) (n : ℕ) (s : State) → s.turns ≤ n → whole_within step p n s ≡ whole step p s
enough_turns step counts p n s h =
    let same = whole_twins (Below s.turns) Never Any 0 [] (below_kept s.turns) step (counts s.turns) p (meaning step p.functions s.turns) (meaning step p.functions n) (record { same = λ a u u' r. fuel_same step counts p.functions s.turns n h a u u' r; later = λ a u. tt }) s (richer 0 [] s) (beside (let e : s.turns ≤ s.turns = omega arith in e)) in
    sym (ap (λ t. whole_within step p n t) (plain s)) ∙ alike (Below s.turns) Any same

-- ---- more turns, further answers

pub spent_kept : (d : ℕ) → Kept Always WhenSpent Any d []
spent_kept d = record { memory = λ s m p. tt; printed = λ s o e p. tt; turn = λ s k e p. tt; both = λ e own. tt; spent = inl (λ s t g. refl); first_later = λ e s t u a b. a; same_later = λ s. tt; later_still = λ s t u a b. tt; memory_later = λ s m. tt; printed_later = λ s o e. tt; turn_later = λ s k. tt; richer_later = λ s. tt }

pub more_turns : (step : Step) → CountsTurns step → TakesMoreTurns step → (p : Program) (s : State) (d : ℕ) → IsNot IsSpent (whole step p s) → whole step p (richer d [] s) ≡ richer_result d [] (whole step p s)
more_turns step counts takes p s d not_spent =
    let e = enough_turns step counts p (s.turns + d) s (omega arith) in
    let same = within_twins Always WhenSpent Any d [] (spent_kept d) step (takes d) p (s.turns + d) s (richer d [] s) (beside tt) in
    richer_alike Always WhenSpent IsSpent Any d [] (λ e s t a. a) same (subst (IsNot IsSpent) (sym e) not_spent) ∙ ap (richer_result d []) e

joined_front : {A : Type 0} (xs ys zs : List A) (f : (more : List A) × (ys ≡ xs ++ more)) (g : (more : List A) × (zs ≡ ys ++ more)) → (more : List A) × (zs ≡ xs ++ more)
joined_front xs ys zs f g = (f.0 ++ g.0, g.1 ∙ ap (λ a. a ++ g.0) f.1 ∙ append_assoc xs f.0 g.0)

pub grows_on : (s t u : State) → Grows s t → Grows t u → Grows s u
grows_on s t u a b = record {
  printed = joined_front s.output t.output u.output a.printed b.printed;
  complained = joined_front s.errors t.errors u.errors a.complained b.complained;
  said = joined_front s.conversation t.conversation u.conversation a.said b.said;
}

-- the printed bytes, and nothing else
grows_printed : (s : State) (output errors : List ℕ) → Grows s (record s { output = s.output ++ output; errors = s.errors ++ errors })
grows_printed s output errors = record { printed = (output, refl); complained = (errors, refl); said = ([], sym (append-nil s.conversation)) }

takes_later : (more : List Answer) (slot : Option ℕ) (request : Request) (s t u : State) → TakesFirst slot request more s t → Grows t u → TakesFirst slot request more s u
takes_later [] slot request s t u a g = tt
takes_later (x ∷ more) slot request s t u a g = record {
  exchange = a.exchange;
  rest = a.rest ++ g.said.0;
  said = g.said.1 ∙ ap (λ c. c ++ g.said.0) a.said ∙ append_assoc s.conversation (a.exchange ∷ a.rest) g.said.0;
  asked = a.asked;
  answered = a.answered;
  over_slot = a.over_slot;
}

goes_later : (more : List Answer) (e : Ending) (s t u : State) → GoesOnWith more e s t → Grows t u → GoesOnWith more e s u
goes_later more (exited n) s t u a g = a
goes_later more (trapped trap line) s t u a g = a
goes_later more turns_spent s t u a g = a
goes_later more (waits slot request) s t u a g = (grows_on s t u a.0 g, takes_later more slot request s t u a.1 g)
goes_later more stuck s t u a g = a

own_both : (more : List Answer) (e : Ending) → IsOwn e → IsWaiting e → more ≡ []
own_both more (exited n) own w = absurd w
own_both more (trapped trap line) own w = absurd w
own_both more turns_spent own w = absurd w
own_both more (waits slot request) own w = absurd own
own_both more stuck own w = absurd w

is_waiting : (more : List Answer) (e : Ending) (s t : State) → GoesOnWith more e s t → IsWaiting e
is_waiting more (exited n) s t a = a
is_waiting more (trapped trap line) s t a = a
is_waiting more turns_spent s t a = a
is_waiting more (waits slot request) s t a = tt
is_waiting more stuck s t a = a

pub waiting_kept : (more : List Answer) → Kept Always (WhenAnswered more) Grows 0 more
waiting_kept more = record {
  memory = λ s m p. tt;
  printed = λ s o e p. tt;
  turn = λ s k e p. tt;
  both = own_both more;
  spent = inr refl;
  first_later = goes_later more;
  same_later = grows_itself;
  later_still = grows_on;
  memory_later = λ s m. record { printed = ([], sym (append-nil s.output)); complained = ([], sym (append-nil s.errors)); said = ([], sym (append-nil s.conversation)) };
  printed_later = grows_printed;
  turn_later = λ s k. record { printed = ([], sym (append-nil s.output)); complained = ([], sym (append-nil s.errors)); said = ([], sym (append-nil s.conversation)) };
  richer_later = λ s. record { printed = ([], sym (append-nil s.output)); complained = ([], sym (append-nil s.errors)); said = ([], sym (append-nil s.conversation)) };
}

no_more_turns : (more : List Answer) (s : State) → (richer 0 more s).turns ≡ s.turns
no_more_turns more s = omega arith

pub more_answers : (step : Step) → TakesMoreAnswers step → (p : Program) (s : State) (more : List Answer) → IsNot IsWaiting (whole step p s) → whole step p (richer 0 more s) ≡ richer_result 0 more (whole step p s)
more_answers step takes p s more not_waiting =
    ap (λ n. whole_within step p n (richer 0 more s)) (no_more_turns more s)
    ∙ richer_alike Always (WhenAnswered more) IsWaiting Grows 0 more (is_waiting more) (within_twins Always (WhenAnswered more) Grows 0 more (waiting_kept more) step (takes more) p s.turns s (richer 0 more s) (beside tt)) not_waiting

pub more_go_on : (step : Step) → TakesMoreAnswers step → (p : Program) (s : State) (more : List Answer) → GoesOn more (whole step p s) (whole step p (richer 0 more s))
more_go_on step takes p s more =
    subst (GoesOn more (whole step p s)) (sym (ap (λ n. whole_within step p n (richer 0 more s)) (no_more_turns more s)))
    (goes_on more (within_twins Always (WhenAnswered more) Grows 0 more (waiting_kept more) step (takes more) p s.turns s (richer 0 more s) (beside tt)))

-- ---- a run only adds

pub extends_kept : (old : State) → Kept (Extends old) Never Any 0 []
extends_kept old = record {
  memory = λ s m p. record { grows = record { printed = p.grows.printed; complained = p.grows.complained; said = p.grows.said }; turns = p.turns };
  printed = λ s o e p. record { grows = grows_on old s _ p.grows (grows_printed s o e); turns = p.turns };
  turn = λ s k e p. record { grows = record { printed = p.grows.printed; complained = p.grows.complained; said = p.grows.said }; turns = omega (arith, e, p.turns) };
  both = λ e own. tt;
  spent = inr refl;
  first_later = λ e s t u a b. a;
  same_later = λ s. tt;
  later_still = λ s t u a b. tt;
  memory_later = λ s m. tt;
  printed_later = λ s o e. tt;
  turn_later = λ s k. tt;
  richer_later = λ s. tt;
}

extends_itself : (s : State) → Extends s s
extends_itself s = record { grows = grows_itself s; turns = omega arith }

pub only_adds : (step : Step) → OnlyAdds step → (p : Program) (s : State) → Extends s (state_of (whole step p s))
only_adds step adds p s =
    holds_at_end (Extends s) (extends_kept s) (within_twins (Extends s) Never Any 0 [] (extends_kept s) step (adds s) p s.turns s (richer 0 [] s) (beside (extends_itself s)))

-- ---- the step of programs without embedded statements and calls of the library

without_agrees : (P : State → Type 0) (E : Endings) (G : State → State → Type 0) (d : ℕ) (more : List Answer) → E.both stuck → ((s : State) → G s s) → Agree P E G d more without_atoms without_atoms itself
without_agrees P E G d more b g = record {
  no_label = λ l n. refl;
  embeds = λ w w' r c n. record { same = λ s s' p. same_over b p; later = g };
  libraries = λ w w' r c n vs. record { same = λ s s' p. same_over b p; later = g };
}

pub without_counts : CountsTurns without_atoms
without_counts n = without_agrees (Below n) Never Any 0 [] tt (λ s. tt)

pub without_adds : OnlyAdds without_atoms
without_adds old = without_agrees (Extends old) Never Any 0 [] tt (λ s. tt)

pub without_takes_turns : TakesMoreTurns without_atoms
without_takes_turns d = without_agrees Always WhenSpent Any d [] tt (λ s. tt)

pub without_takes_answers : TakesMoreAnswers without_atoms
without_takes_answers more = without_agrees Always (WhenAnswered more) Grows 0 more (λ w. absurd w) grows_itself
