-- A task among tasks of more turns than are left is what its parts do among these same tasks.
use Rattle.std.proofs.Common.{◌≡◌, ℕ, zero, suc, ◌+◌, ◌<◌, ◌≤◌, inr, List, [], ◌∷◌, map, refl, sym, ap, ◌∙◌, subst, arith}
use Rattle.ec_meaning_defs.specs.resolved.Programs.{Function}
use Rattle.ec_meaning_defs.specs.resolved.Resolved.{Stm, on_line, nothing, evaluate, declare, initialize, block, choose, loop, leave, next, return, goto, label, select, embedded_statement, Stms, no_stms, stms}
use Rattle.ec_meaning_defs.specs.evaluation.State.{Answer, State, turns_spent}
use Rattle.ec_meaning_defs.specs.evaluation.Results.{Res, over, turn}
use Rattle.ec_meaning_defs.specs.evaluation.Evaluate.{Task, calls, turn_of, look_for, World, Step}
use Rattle.ec_meaning_defs.specs.evaluation.Execute.{act, meaning, started}
use Rattle.ec_meaning_defs.specs.evaluation.Expanded.{written, written_all, written_function, written_task, itself}
use Rattle.ec_meaning_defs.specs.evaluation.Agree.{richer, before_goto, Beside, beside, Same, same_value, same_on, same_broke, same_continued, same_went, same_back, same_over, stops_first, Endings, Kept, Alike, before, Related, Agree, Never, Any, Below, state_of, CountsTurns}
use Rattle.ec_meaning_defs.proofs.evaluation_lemmas.Induction.{act_good, turn_same}
use Rattle.ec_meaning_defs.proofs.evaluation_lemmas.WholeRuns.{alike, plain}

-- ---- a program that is written as itself

mutual
  pub unwritten : (x : Stm) → written itself x ≡ x
  unwritten (on_line n x) = ap (on_line n) (unwritten x)
  unwritten nothing = refl
  unwritten (evaluate e) = refl
  unwritten (declare i size) = refl
  unwritten (initialize i size es) = refl
  unwritten (block sizes b) = ap (block sizes) (all_unwritten b)
  unwritten (choose e a b) = cc (unwritten a, unwritten b)
  unwritten (loop first test behind x) = ap (loop first test behind) (unwritten x)
  unwritten leave = refl
  unwritten next = refl
  unwritten (return e) = refl
  unwritten (goto l) = refl
  unwritten (label l x) = ap (label l) (unwritten x)
  unwritten (select e x) = ap (select e) (unwritten x)
  unwritten (embedded_statement n) = refl

  pub all_unwritten : (x : Stms) → written_all itself x ≡ x
  all_unwritten no_stms = refl
  all_unwritten (stms a b) = cc (unwritten a, all_unwritten b)

pub functions_unwritten : (fs : List Function) → map (written_function itself) fs ≡ fs
functions_unwritten [] = refl
functions_unwritten (f ∷ fs) = λ i. record f { body = all_unwritten f.body i } ∷ functions_unwritten fs i

task_unwritten : (t : Task) → written_task itself t ≡ t
task_unwritten (calls line f vs) = refl
task_unwritten (turn_of c test behind x) = ap (λ y. turn_of c test behind y) (unwritten x)
task_unwritten (look_for c l b) = ap (λ y. look_for c l y) (all_unwritten b)

module _ (P : State → Type 0) (E : Endings) (G : State → State → Type 0) (d : ℕ) (more : List Answer) (kept : Kept P E G d more) (step : Step) (agree : Agree P E G d more step step itself) where
  -- tasks that do the same in one program
  record Twins (w w' : World) : Type 0 where
    same : (t : Task) (s s' : State) → Beside (λ u. P (before t u)) d more s s' → Same P E G d more (w t s) (w' t s')
    later : (t : Task) (u : State) → G u (state_of (w' t u))

  related_twins : (w w' : World) → Twins w w' → Related P E G d more itself w w'
  related_twins w w' twins = record {
    same = λ t s s' q. subst (λ x. Same P E G d more (w t s) (w' x s')) (sym (task_unwritten t)) (twins.same t s s' q);
    later = λ t u. subst (λ x. G u (state_of (w' x u))) (sym (task_unwritten t)) (twins.later t u);
  }

  act_twins : (fs : List Function) (w w' : World) → Twins w w' → (t : Task) → Alike P E G d more (λ s. act step fs w t s) (λ s. act step fs w' t s)
  act_twins fs w w' twins t =
      let a = act_good P E G d more kept step step itself agree w w' (related_twins w w' twins) fs t in
      let b = subst (λ gs. Alike P E G d more (λ s. act step fs w t s) (λ s. act step gs w' (written_task itself t) s)) (functions_unwritten fs) a in
      subst (λ x. Alike P E G d more (λ s. act step fs w t s) (λ s. act step fs w' x s)) (task_unwritten t) b

-- ---- turns that are enough

below_kept : (n : ℕ) → Kept (Below n) Never Any 0 []
below_kept n = record { memory = λ s m p. p; printed = λ s o e p. p; turn = λ s k e p. omega (arith, e, p); both = λ e own. tt; spent = inr refl; first_later = λ e s t u a b. a; same_later = λ s. tt; later_still = λ s t u a b. tt; memory_later = λ s m. tt; printed_later = λ s o e. tt; turn_later = λ s k. tt; richer_later = λ s. tt }

near_weaker : (P Q : State → Type 0) (d : ℕ) (more : List Answer) → ((s : State) → P s → Q s) → {s s' : State} → Beside P d more s s' → Beside Q d more s s'
near_weaker P Q d more h (beside {s = s} p) = beside (h s p)

same_weaker : (P Q : State → Type 0) (d : ℕ) (more : List Answer) → ((s : State) → P s → Q s) → {o o' : Res} → Same P Never Any d more o o' → Same Q Never Any d more o o'
same_weaker P Q d more h (same_value p) = same_value (near_weaker P Q d more h p)
same_weaker P Q d more h (same_on p) = same_on (near_weaker P Q d more h p)
same_weaker P Q d more h (same_broke p) = same_broke (near_weaker P Q d more h p)
same_weaker P Q d more h (same_continued p) = same_continued (near_weaker P Q d more h p)
same_weaker P Q d more h (same_went p) = same_went (near_weaker (λ t. P (before_goto t)) (λ t. Q (before_goto t)) d more (λ s q. h (before_goto s) q) p)
same_weaker P Q d more h (same_back p) = same_back (near_weaker P Q d more h p)
same_weaker P Q d more h (same_over b p) = same_over b (near_weaker P Q d more h p)
same_weaker P Q d more h (stops_first p e) = absurd e

-- a turn that neither has
spent_same : (s : State) (k : State → Res) → s.turns ≤ 0 → Same (Below 0) Never Any 0 [] (over turns_spent s) (turn (richer 0 [] s) k)
spent_same s k h = go (s.turns + 0) (omega arith)
  where
    go : (m : ℕ) → m ≤ 0 → Same (Below 0) Never Any 0 [] (over turns_spent s) (elim m [ zero ↦ over turns_spent (richer 0 [] s) | suc n ↦ k (record (richer 0 [] s) { turns = n }) ])
    go zero i = same_over tt (beside h)
    go (suc n) i = absurd (omega arith)

-- the turn behind a state with at most n + 1 of them
one_less : (n : ℕ) {s s' t t' : State} → Beside (Below (suc n)) 0 [] s s' → before_goto t ≡ s → Beside (Below (suc n)) 0 [] t t' → Beside (Below n) 0 [] t t'
one_less n {s = s} {t = t} (beside p) e (beside q) = beside (let f : suc t.turns ≡ s.turns = ap (λ u. u.turns) e in omega (arith, f, p))

module _ (step : Step) (counts : CountsTurns step) (fs : List Function) where
  fuel_same : (n m : ℕ) → n ≤ m → (t : Task) (s s' : State) → Beside (λ u. Below n (before t u)) 0 [] s s' → Same (Below n) Never Any 0 [] (meaning step fs n t s) (meaning step fs m t s')
  fuel_same zero zero h (calls line f vs) s s' p = same_over tt p
  fuel_same zero zero h (turn_of c test behind x) s s' p = same_over tt p
  fuel_same zero zero h (look_for c l b) s s' (beside p) = absurd (omega (arith, p))
  fuel_same zero (suc m) h (calls line f vs) s s' (beside p) = spent_same s (λ u. act step fs (meaning step fs m) (calls line f vs) u) p
  fuel_same zero (suc m) h (turn_of c test behind x) s s' (beside p) = spent_same s (λ u. act step fs (meaning step fs m) (turn_of c test behind x) u) p
  fuel_same zero (suc m) h (look_for c l b) s s' (beside p) = absurd (omega (arith, p))
  fuel_same (suc n) zero h t s s' p = absurd (omega (arith, h))
  fuel_same (suc n) (suc m) h (calls line f vs) s s' p =
      turn_same (Below (suc n)) Never Any 0 [] (below_kept (suc n)) p (λ t t' e q.
      same_weaker (Below n) (Below (suc n)) 0 [] (λ u i. omega (arith, i))
      ((act_twins (Below n) Never Any 0 [] (below_kept n) step (counts n) fs (meaning step fs n) (meaning step fs m) (record { same = λ a u u' r. fuel_same n m (omega (arith, h)) a u u' r; later = λ a u. tt }) (calls line f vs)).same t t' (one_less n p e q))) (λ t. tt)
  fuel_same (suc n) (suc m) h (turn_of c test behind x) s s' p =
      turn_same (Below (suc n)) Never Any 0 [] (below_kept (suc n)) p (λ t t' e q.
      same_weaker (Below n) (Below (suc n)) 0 [] (λ u i. omega (arith, i))
      ((act_twins (Below n) Never Any 0 [] (below_kept n) step (counts n) fs (meaning step fs n) (meaning step fs m) (record { same = λ a u u' r. fuel_same n m (omega (arith, h)) a u u' r; later = λ a u. tt }) (turn_of c test behind x)).same t t' (one_less n p e q))) (λ t. tt)
  fuel_same (suc n) (suc m) h (look_for c l b) s s' p =
      same_weaker (Below n) (Below (suc n)) 0 [] (λ u i. omega (arith, i))
      ((act_twins (Below n) Never Any 0 [] (below_kept n) step (counts n) fs (meaning step fs n) (meaning step fs m) (record { same = λ a u u' r. fuel_same n m (omega (arith, h)) a u u' r; later = λ a u. tt }) (look_for c l b)).same s s' (near_weaker (λ u. Below (suc n) (before_goto u)) (Below n) 0 [] (λ u i. omega (arith, i)) p))

  more_twins : (j : ℕ) → Twins (Below j) Never Any 0 [] (below_kept j) step (counts j) (meaning step fs j) (meaning step fs (suc j))
  more_twins j = record { same = λ a u u' r. fuel_same j (suc j) (omega arith) a u u' r; later = λ a u. tt }

  -- what a task does once its turn is taken, with a further turn for the tasks in it
  acts_on : (j : ℕ) (t : Task) (u : State) → u.turns ≤ j → act step fs (meaning step fs j) t u ≡ act step fs (meaning step fs (suc j)) t u
  acts_on j t u h =
      sym (alike (Below j) Any ((act_twins (Below j) Never Any 0 [] (below_kept j) step (counts j) fs (meaning step fs j) (meaning step fs (suc j)) (more_twins j) t).same u (richer 0 [] u) (beside h)))
      ∙ ap (λ v. act step fs (meaning step fs (suc j)) t v) (plain u)

  abbrev taken : ℕ → Task → State → ℕ → Res
  taken j t s m = elim m [ zero ↦ over turns_spent s | suc n ↦ act step fs (meaning step fs j) t (record s { turns = n }) ]

  turns_on : (j : ℕ) (t : Task) (s : State) (m : ℕ) → m ≤ suc j → taken j t s m ≡ taken (suc j) t s m
  turns_on j t s zero i = refl
  turns_on j t s (suc n) i = acts_on j t (record s { turns = n }) (omega (arith, i))

  turn_on : (j : ℕ) (t : Task) (s : State) → s.turns ≤ suc j → turn s (λ u. act step fs (meaning step fs j) t u) ≡ turn s (λ u. act step fs (meaning step fs (suc j)) t u)
  turn_on j t s h = turns_on j t s s.turns h

  -- a task among tasks of more turns than are left
  pub task_on : (n : ℕ) (t : Task) (s : State) → s.turns < n → meaning step fs n t s ≡ started t s (λ u. act step fs (meaning step fs n) t u)
  task_on zero t s h = absurd (omega (arith, h))
  task_on (suc j) (calls line f vs) s h = turn_on j (calls line f vs) s (omega (arith, h))
  task_on (suc j) (turn_of c test behind x) s h = turn_on j (turn_of c test behind x) s (omega (arith, h))
  task_on (suc j) (look_for c l b) s h = acts_on j (look_for c l b) s (omega (arith, h))
