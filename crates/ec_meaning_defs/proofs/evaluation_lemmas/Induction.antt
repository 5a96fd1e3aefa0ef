-- The induction over the tree and the turns, once for all pairs of steps that agree.
use Rattle.std.proofs.Common.{◌≡◌, ℕ, zero, suc, ◌+◌, inl, inr, List, [], ◌∷◌, ◌++◌, map, Option, Some, None, Bool, true, false, Result, Ok, Err, refl, sym, ap, subst, arith}
use Rattle.std.specs.Prelude.{not as negation, option_map, slice_get, nat_eq, ◌||◌, ◌&&◌, pos, ◌⊎◌, ℤ}
use Rattle.ec_base.specs.declared.stop.Trap.{Trap}
use Rattle.ec_base.specs.declared.stop.Trap.TheVariants.{NoValue}
use Rattle.ec_meaning_defs.specs.functions.Functions.{Effect, answers, traps as traps_there, ends, misfit as no_call, effect_of, status_of}
use Rattle.ec_memory_defs.specs.Cells.{set_cells}
use Rattle.ec_memory_defs.specs.Memory.{Memory, ValueData, number, address, number_of, ScalarType, scalar_size, last_number, make, moved, cells_at, load as loaded, store as stored, copy as copied, put as put_bytes, unset, fill, with_object}
use Rattle.ec_meaning_defs.specs.resolved.Labels.{same, is_named, holds, holds_any}
use Rattle.ec_meaning_defs.specs.resolved.Operations.{is_true, truth, value_as, negated, flipped, number_worked, Worked, gives, traps, misfit, worked}
use Rattle.ec_meaning_defs.specs.resolved.Programs.{Function, Program, opening_objects}
use Rattle.ec_meaning_defs.specs.resolved.Resolved.{Mark, named, case, default, Update, Exp, object, slot, member, constant, load, whole as all_of, store, copy, put, update, convert, negate, flip, not, operate, both, either, choice, call, known, library_call, faulty, Exps, no_exps, exps, Stm, on_line, nothing, evaluate, declare, initialize, block, choose, loop, leave, next, return, goto, label, select, embedded_statement, Stms, no_stms, stms}
use Rattle.ec_meaning_defs.specs.evaluation.State.{Answer, State, Ending, exited, trapped, turns_spent, stuck}
use Rattle.ec_meaning_defs.specs.evaluation.Results.{no_value, Res, value, on, broke, continued, went, back, over, on_value, on_done, after_body, after_switch, tried, changed, worked_out, at_address, on_number, present, done_there, turn, made, given, ended_to, closing, function_end, without_value, without_answer, answered, exits_with, returned, finished}
use Rattle.ec_meaning_defs.specs.evaluation.Evaluate.{Context, Task, calls, turn_of, look_for, World, Step, updated, eval, collect}
use Rattle.ec_meaning_defs.specs.evaluation.Execute.{tested, again, settle, inside, enter, declared, initialized, returning, run, run_all, look, look_all, body_run, in_function, called, act, meaning}
use Rattle.ec_meaning_defs.specs.evaluation.Whole.{opened, main_run, whole_within}
use Rattle.ec_meaning_defs.specs.evaluation.Expanded.{written, written_all, written_function, written_program, written_task}
use Rattle.ec_meaning_defs.specs.evaluation.Agree.{richer, before_goto, Beside, beside, Same, same_value, same_on, same_broke, same_continued, same_went, same_back, same_over, stops_first, Endings, IsOwn, Kept, Alike, before, Related, Agree, state_of}

pub the_other : (a b : Bool) → (a || b) ≡ true → a ≡ false → b ≡ true
the_other true b h e = cc
the_other false b h e = h

both_true : (a b : Bool) → (a && b) ≡ true → b ≡ true
both_true true b h = h
both_true false b h = cc

-- labels stay where they are
module _ (text : ℕ → Stm) (no_label : (l : Mark) (n : ℕ) → holds l (text n) ≡ false) where
  mutual
    holds_written : (l : Mark) (x : Stm) → holds l (written text x) ≡ holds l x
    holds_written l (on_line n x) = holds_written l x
    holds_written l nothing = refl
    holds_written l (evaluate e) = refl
    holds_written l (declare i size) = refl
    holds_written l (initialize i size es) = refl
    holds_written l (block sizes b) = any_written l b
    holds_written l (choose e a b) = cc (holds_written l a, holds_written l b)
    holds_written l (loop first test behind x) = holds_written l x
    holds_written l leave = refl
    holds_written l next = refl
    holds_written l (return e) = refl
    holds_written l (goto m) = refl
    holds_written l (label m x) = ap (λ b. same m l || b) (holds_written l x)
    holds_written l (select e x) = ap (λ b. is_named l && b) (holds_written l x)
    holds_written l (embedded_statement n) = no_label l n

    any_written : (l : Mark) (x : Stms) → holds_any l (written_all text x) ≡ holds_any l x
    any_written l no_stms = refl
    any_written l (stms a b) = cc (holds_written l a, any_written l b)

function_written : (text : ℕ → Stm) (fs : List Function) (f : ℕ) → slice_get (map (written_function text) fs) f ≡ option_map (written_function text) (slice_get fs f)
function_written text [] f = refl
function_written text (g ∷ fs) zero = refl
function_written text (g ∷ fs) (suc f) = function_written text fs f

module _ (P : State → Type 0) (E : Endings) (G : State → State → Type 0) (d : ℕ) (more : List Answer) (kept : Kept P E G d more) where
  abbrev Near : State → State → Type 0
  Near = Beside P d more

  abbrev Like : Res → Res → Type 0
  Like = Same P E G d more

  abbrev Good : (State → Res) → (State → Res) → Type 0
  Good = Alike P E G d more

  -- ---- states beside one another

  with_memory : {s s' : State} → Near s s' → (m : Memory) → Near (record s { memory = m }) (record s' { memory = m })
  with_memory (beside {s = s} p) m = beside (kept.memory s m p)

  ended_near : (n : ℕ) {s s' : State} → Near s s' → Near (ended_to n s) (ended_to n s')
  ended_near n (beside {s = s} p) = beside (kept.memory s _ p)

  ended_goto : (n : ℕ) {s s' : State} → Beside (λ t. P (before_goto t)) d more s s' → Beside (λ t. P (before_goto t)) d more (ended_to n s) (ended_to n s')
  ended_goto n (beside {s = s} p) = beside (kept.memory (before_goto s) _ p)

  -- once its turn is taken, a `goto` has the state behind it
  pub after_goto : {s s' : State} → Beside (λ t. P (before_goto t)) d more s s' → Near s s'
  after_goto (beside {s = s} p) = beside (kept.turn (before_goto s) s.turns refl p)

  goto_near : {s s' t t' : State} → Near s s' → before_goto t ≡ s → Near t t' → Beside (λ u. P (before_goto u)) d more t t'
  goto_near (beside p) e (beside q) = beside (subst P (sym e) p)

  -- ---- parts that go on, alone

  value_good : (v : ValueData) → Good (λ s. value v s) (λ s. value v s)
  value_good v = record { same = λ s s' p. same_value p; later = λ u. kept.same_later u }

  on_good : Good (λ s. on s) (λ s. on s)
  on_good = record { same = λ s s' p. same_on p; later = λ u. kept.same_later u }

  broke_good : Good (λ s. broke s) (λ s. broke s)
  broke_good = record { same = λ s s' p. same_broke p; later = λ u. kept.same_later u }

  continued_good : Good (λ s. continued s) (λ s. continued s)
  continued_good = record { same = λ s s' p. same_continued p; later = λ u. kept.same_later u }

  back_good : (v : Option ValueData) → Good (λ s. back v s) (λ s. back v s)
  back_good v = record { same = λ s s' p. same_back p; later = λ u. kept.same_later u }

  pub over_good : (e : Ending) → IsOwn e → Good (λ s. over e s) (λ s. over e s)
  over_good e own = record { same = λ s s' p. same_over (kept.both e own) p; later = λ u. kept.same_later u }

  -- ---- one behind the other

  value_later : (o : Res) (k : ValueData → State → Res) → ((v : ValueData) (u : State) → G u (state_of (k v u))) → G (state_of o) (state_of (on_value o k))
  value_later (value v s) k g = g v s
  value_later (on s) k g = kept.same_later s
  value_later (broke s) k g = kept.same_later s
  value_later (continued s) k g = kept.same_later s
  value_later (went l s) k g = kept.same_later s
  value_later (back v s) k g = kept.same_later s
  value_later (over e s) k g = kept.same_later s

  value_same : {o o' : Res} {k k' : ValueData → State → Res} → Like o o' → ((v : ValueData) → Good (k v) (k' v)) → Like (on_value o k) (on_value o' k')
  value_same (same_value {v = v} {s = s} {s' = s'} p) h = (h v).same s s' p
  value_same (same_on p) h = same_on p
  value_same (same_broke p) h = same_broke p
  value_same (same_continued p) h = same_continued p
  value_same (same_went p) h = same_went p
  value_same (same_back p) h = same_back p
  value_same (same_over b p) h = same_over b p
  value_same {k' = k'} (stops_first {e = a} {s = s} {o = o} p e) h =
      stops_first p (kept.first_later a s (state_of o) (state_of (on_value o k')) e (value_later o k' (λ v u. (h v).later u)))

  value_then : {m m' : State → Res} {k k' : ValueData → State → Res} → Good m m' → ((v : ValueData) → Good (k v) (k' v)) → Good (λ s. on_value (m s) k) (λ s. on_value (m' s) k')
  value_then {m' = m'} {k' = k'} a h = record {
    same = λ s s' p. value_same (a.same s s' p) h;
    later = λ u. kept.later_still u (state_of (m' u)) (state_of (on_value (m' u) k')) (a.later u) (value_later (m' u) k' (λ v t. (h v).later t));
  }

  done_later : (o : Res) (k : State → Res) → ((u : State) → G u (state_of (k u))) → G (state_of o) (state_of (on_done o k))
  done_later (value v s) k g = kept.same_later s
  done_later (on s) k g = g s
  done_later (broke s) k g = kept.same_later s
  done_later (continued s) k g = kept.same_later s
  done_later (went l s) k g = kept.same_later s
  done_later (back v s) k g = kept.same_later s
  done_later (over e s) k g = kept.same_later s

  done_same : {o o' : Res} {k k' : State → Res} → Like o o' → Good k k' → Like (on_done o k) (on_done o' k')
  done_same (same_value p) h = same_value p
  done_same (same_on {s = s} {s' = s'} p) h = h.same s s' p
  done_same (same_broke p) h = same_broke p
  done_same (same_continued p) h = same_continued p
  done_same (same_went p) h = same_went p
  done_same (same_back p) h = same_back p
  done_same (same_over b p) h = same_over b p
  done_same {k' = k'} (stops_first {e = a} {s = s} {o = o} p e) h =
      stops_first p (kept.first_later a s (state_of o) (state_of (on_done o k')) e (done_later o k' h.later))

  done_then : {m m' k k' : State → Res} → Good m m' → Good k k' → Good (λ s. on_done (m s) k) (λ s. on_done (m' s) k')
  done_then {m' = m'} {k' = k'} a h = record {
    same = λ s s' p. done_same (a.same s s' p) h;
    later = λ u. kept.later_still u (state_of (m' u)) (state_of (on_done (m' u) k')) (a.later u) (done_later (m' u) k' h.later);
  }

  body_later : (o : Res) (k : State → Res) → ((u : State) → G u (state_of (k u))) → G (state_of o) (state_of (after_body o k))
  body_later (value v s) k g = kept.same_later s
  body_later (on s) k g = g s
  body_later (broke s) k g = kept.same_later s
  body_later (continued s) k g = g s
  body_later (went l s) k g = kept.same_later s
  body_later (back v s) k g = kept.same_later s
  body_later (over e s) k g = kept.same_later s

  body_same : {o o' : Res} {k k' : State → Res} → Like o o' → Good k k' → Like (after_body o k) (after_body o' k')
  body_same (same_value p) h = same_value p
  body_same (same_on {s = s} {s' = s'} p) h = h.same s s' p
  body_same (same_broke p) h = same_on p
  body_same (same_continued {s = s} {s' = s'} p) h = h.same s s' p
  body_same (same_went p) h = same_went p
  body_same (same_back p) h = same_back p
  body_same (same_over b p) h = same_over b p
  body_same {k' = k'} (stops_first {e = a} {s = s} {o = o} p e) h =
      stops_first p (kept.first_later a s (state_of o) (state_of (after_body o k')) e (body_later o k' h.later))

  body_then : {m m' k k' : State → Res} → Good m m' → Good k k' → Good (λ s. after_body (m s) k) (λ s. after_body (m' s) k')
  body_then {m' = m'} {k' = k'} a h = record {
    same = λ s s' p. body_same (a.same s s' p) h;
    later = λ u. kept.later_still u (state_of (m' u)) (state_of (after_body (m' u) k')) (a.later u) (body_later (m' u) k' h.later);
  }

  -- what is made of an answer
  inside_good : (f : Res → Res) → ((o o' : Res) → Like o o' → Like (f o) (f o')) → ((o : Res) → G (state_of o) (state_of (f o))) → {m m' : State → Res} → Good m m' → Good (λ s. f (m s)) (λ s. f (m' s))
  inside_good f same later {m = m} {m' = m'} a = record {
    same = λ s s' p. same (m s) (m' s') (a.same s s' p);
    later = λ u. kept.later_still u (state_of (m' u)) (state_of (f (m' u))) (a.later u) (later (m' u));
  }

  without_value_good : (line : ℕ) (used : Bool) → Good (λ s. without_value line used s) (λ s. without_value line used s)
  without_value_good line true = over_good (trapped NoValue line) tt
  without_value_good line false = value_good no_value

  answered_later : (line : ℕ) (used : Bool) (o : Res) → G (state_of o) (state_of (answered line used o))
  answered_later line used (value v s) = kept.same_later s
  answered_later line used (on s) = kept.same_later s
  answered_later line used (broke s) = kept.same_later s
  answered_later line used (continued s) = kept.same_later s
  answered_later line used (went l s) = kept.same_later s
  answered_later line used (back None s) = (without_value_good line used).later s
  answered_later line used (back (Some v) s) = kept.same_later s
  answered_later line used (over e s) = kept.same_later s

  answered_same : (line : ℕ) (used : Bool) {o o' : Res} → Like o o' → Like (answered line used o) (answered line used o')
  answered_same line used (same_value p) = same_over (kept.both stuck tt) p
  answered_same line used (same_on p) = same_over (kept.both stuck tt) p
  answered_same line used (same_broke p) = same_over (kept.both stuck tt) p
  answered_same line used (same_continued p) = same_over (kept.both stuck tt) p
  answered_same line used (same_went p) = same_over (kept.both stuck tt) (after_goto p)
  answered_same line used (same_back {v = None} {s = s} {s' = s'} p) = (without_value_good line used).same s s' p
  answered_same line used (same_back {v = Some v} p) = same_value p
  answered_same line used (same_over b p) = same_over b p
  answered_same line used (stops_first {e = a} {s = s} {o = o} p e) =
      stops_first p (kept.first_later a s (state_of o) (state_of (answered line used o)) e (answered_later line used o))

  answered_good : (line : ℕ) (used : Bool) {m m' : State → Res} → Good m m' → Good (λ s. answered line used (m s)) (λ s. answered line used (m' s))
  answered_good line used a = inside_good (answered line used) (λ o o' q. answered_same line used q) (answered_later line used) a

  silent_later : (o : Res) → G (state_of o) (state_of (without_answer o))
  silent_later (value v s) = kept.same_later s
  silent_later (on s) = kept.same_later s
  silent_later (broke s) = kept.same_later s
  silent_later (continued s) = kept.same_later s
  silent_later (went l s) = kept.same_later s
  silent_later (back v s) = kept.same_later s
  silent_later (over e s) = kept.same_later s

  silent_same : {o o' : Res} → Like o o' → Like (without_answer o) (without_answer o')
  silent_same (same_value p) = same_over (kept.both stuck tt) p
  silent_same (same_on p) = same_value p
  silent_same (same_broke p) = same_over (kept.both stuck tt) p
  silent_same (same_continued p) = same_over (kept.both stuck tt) p
  silent_same (same_went p) = same_over (kept.both stuck tt) (after_goto p)
  silent_same (same_back p) = same_over (kept.both stuck tt) p
  silent_same (same_over b p) = same_over b p
  silent_same (stops_first {e = a} {s = s} {o = o} p e) =
      stops_first p (kept.first_later a s (state_of o) (state_of (without_answer o)) e (silent_later o))

  silent_good : {m m' : State → Res} → Good m m' → Good (λ s. without_answer (m s)) (λ s. without_answer (m' s))
  silent_good a = inside_good without_answer (λ o o' q. silent_same q) silent_later a

  switch_later : (o : Res) → G (state_of o) (state_of (after_switch o))
  switch_later (value v s) = kept.same_later s
  switch_later (on s) = kept.same_later s
  switch_later (broke s) = kept.same_later s
  switch_later (continued s) = kept.same_later s
  switch_later (went l s) = kept.same_later s
  switch_later (back v s) = kept.same_later s
  switch_later (over e s) = kept.same_later s

  switch_same : {o o' : Res} → Like o o' → Like (after_switch o) (after_switch o')
  switch_same (same_value p) = same_value p
  switch_same (same_on p) = same_on p
  switch_same (same_broke p) = same_on p
  switch_same (same_continued p) = same_continued p
  switch_same (same_went p) = same_went p
  switch_same (same_back p) = same_back p
  switch_same (same_over b p) = same_over b p
  switch_same (stops_first {e = a} {s = s} {o = o} p e) =
      stops_first p (kept.first_later a s (state_of o) (state_of (after_switch o)) e (switch_later o))

  switch_good : {m m' : State → Res} → Good m m' → Good (λ s. after_switch (m s)) (λ s. after_switch (m' s))
  switch_good a = inside_good after_switch (λ o o' q. switch_same q) switch_later a

  closing_later : (n : ℕ) (o : Res) → G (state_of o) (state_of (closing n o))
  closing_later n (value v s) = kept.same_later s
  closing_later n (on s) = kept.memory_later s _
  closing_later n (broke s) = kept.memory_later s _
  closing_later n (continued s) = kept.memory_later s _
  closing_later n (went l s) = kept.memory_later s _
  closing_later n (back v s) = kept.memory_later s _
  closing_later n (over e s) = kept.same_later s

  closing_same : (n : ℕ) {o o' : Res} → Like o o' → Like (closing n o) (closing n o')
  closing_same n (same_value p) = same_value p
  closing_same n (same_on p) = same_on (ended_near n p)
  closing_same n (same_broke p) = same_broke (ended_near n p)
  closing_same n (same_continued p) = same_continued (ended_near n p)
  closing_same n (same_went p) = same_went (ended_goto n p)
  closing_same n (same_back p) = same_back (ended_near n p)
  closing_same n (same_over b p) = same_over b p
  closing_same n (stops_first {e = a} {s = s} {o = o} p e) =
      stops_first p (kept.first_later a s (state_of o) (state_of (closing n o)) e (closing_later n o))

  -- the objects that were there before end in neither
  closing_near : {s s' : State} → Near s s' → {o o' : Res} → Like o o' → Like (closing (last_number s.memory) o) (closing (last_number s'.memory) o')
  closing_near (beside {s = s} p) h = closing_same (last_number s.memory) h

  closing_good : {m m' : State → Res} → Good m m' → Good (λ s. closing (last_number s.memory) (m s)) (λ s. closing (last_number s.memory) (m' s))
  closing_good {m' = m'} a = record {
    same = λ s s' p. closing_near p (a.same s s' p);
    later = λ u. kept.later_still u (state_of (m' u)) (state_of (closing (last_number u.memory) (m' u))) (a.later u) (closing_later (last_number u.memory) (m' u));
  }

  function_end_later : (otherwise : Option ValueData) (o : Res) → G (state_of o) (state_of (function_end otherwise o))
  function_end_later otherwise (value v s) = kept.same_later s
  function_end_later otherwise (on s) = kept.same_later s
  function_end_later otherwise (broke s) = kept.same_later s
  function_end_later otherwise (continued s) = kept.same_later s
  function_end_later otherwise (went l s) = kept.same_later s
  function_end_later otherwise (back v s) = kept.same_later s
  function_end_later otherwise (over e s) = kept.same_later s

  function_end_same : (otherwise : Option ValueData) {o o' : Res} → Like o o' → Like (function_end otherwise o) (function_end otherwise o')
  function_end_same otherwise (same_value p) = same_over (kept.both stuck tt) p
  function_end_same otherwise (same_on p) = same_back p
  function_end_same otherwise (same_broke p) = same_over (kept.both stuck tt) p
  function_end_same otherwise (same_continued p) = same_over (kept.both stuck tt) p
  function_end_same otherwise (same_went p) = same_over (kept.both stuck tt) (after_goto p)
  function_end_same otherwise (same_back p) = same_back p
  function_end_same otherwise (same_over b p) = same_over b p
  function_end_same otherwise (stops_first {e = a} {s = s} {o = o} p e) =
      stops_first p (kept.first_later a s (state_of o) (state_of (function_end otherwise o)) e (function_end_later otherwise o))

  function_end_good : (otherwise : Option ValueData) {m m' : State → Res} → Good m m' → Good (λ s. function_end otherwise (m s)) (λ s. function_end otherwise (m' s))
  function_end_good otherwise a = inside_good (function_end otherwise) (λ o o' q. function_end_same otherwise q) (function_end_later otherwise) a

  exits_good : (v : Option ValueData) → Good (λ s. exits_with v s) (λ s. exits_with v s)
  exits_good None = over_good stuck tt
  exits_good (Some v) = over_good (exited (status_of (number_of v))) tt

  returned_good : (first : Bool) (v : Option ValueData) → Good (λ s. returned first v s) (λ s. returned first v s)
  returned_good true v = exits_good v
  returned_good false v = back_good v

  finished_later : (otherwise : Option ValueData) (o : Res) → G (state_of o) (state_of (finished otherwise o))
  finished_later otherwise (value v s) = kept.same_later s
  finished_later otherwise (on s) = (exits_good otherwise).later s
  finished_later otherwise (broke s) = kept.same_later s
  finished_later otherwise (continued s) = kept.same_later s
  finished_later otherwise (went l s) = kept.same_later s
  finished_later otherwise (back v s) = kept.same_later s
  finished_later otherwise (over e s) = kept.same_later s

  finished_same : (otherwise : Option ValueData) {o o' : Res} → Like o o' → Like (finished otherwise o) (finished otherwise o')
  finished_same otherwise (same_value p) = same_over (kept.both stuck tt) p
  finished_same otherwise (same_on {s = s} {s' = s'} p) = (exits_good otherwise).same s s' p
  finished_same otherwise (same_broke p) = same_over (kept.both stuck tt) p
  finished_same otherwise (same_continued p) = same_over (kept.both stuck tt) p
  finished_same otherwise (same_went p) = same_over (kept.both stuck tt) (after_goto p)
  finished_same otherwise (same_back p) = same_over (kept.both stuck tt) p
  finished_same otherwise (same_over b p) = same_over b p
  finished_same otherwise (stops_first {e = a} {s = s} {o = o} p e) =
      stops_first p (kept.first_later a s (state_of o) (state_of (finished otherwise o)) e (finished_later otherwise o))

  finished_good : (otherwise : Option ValueData) {m m' : State → Res} → Good m m' → Good (λ s. finished otherwise (m s)) (λ s. finished otherwise (m' s))
  finished_good otherwise a = inside_good (finished otherwise) (λ o o' q. finished_same otherwise q) (finished_later otherwise) a

  -- ---- what memory, operations and functions give

  result_same : {A : Type 0} (line : ℕ) (r : Result A Trap) {s s' : State} → Near s s' → {k k' : A → State → Res} → ((a : A) → Good (k a) (k' a)) → Like (tried line r s (λ a. k a s)) (tried line r s' (λ a. k' a s'))
  result_same line (Ok a) {s} {s'} p h = (h a).same s s' p
  result_same line (Err trap) p h = same_over (kept.both (trapped trap line) tt) p

  tried_same : {A : Type 0} (line : ℕ) (f : Memory → Result A Trap) {s s' : State} → Near s s' → {k k' : A → State → Res} → ((a : A) → Good (k a) (k' a)) → Like (tried line (f s.memory) s (λ a. k a s)) (tried line (f s'.memory) s' (λ a. k' a s'))
  tried_same line f (beside {s = s} p) {k} {k'} h = result_same line (f s.memory) (beside p) {k = k} {k' = k'} h

  tried_later : {A : Type 0} (line : ℕ) (r : Result A Trap) (u : State) (k : A → Res) → ((a : A) → G u (state_of (k a))) → G u (state_of (tried line r u k))
  tried_later line (Ok a) u k g = g a
  tried_later line (Err trap) u k g = kept.same_later u

  tried_good : {A : Type 0} (line : ℕ) (f : Memory → Result A Trap) {k k' : A → State → Res} → ((a : A) → Good (k a) (k' a)) → Good (λ t. tried line (f t.memory) t (λ a. k a t)) (λ t. tried line (f t.memory) t (λ a. k' a t))
  tried_good line f {k} {k'} h = record {
    same = λ s s' p. tried_same line f p {k = k} {k' = k'} h;
    later = λ u. tried_later line (f u.memory) u (λ a. k' a u) (λ a. (h a).later u);
  }

  memory_good : (m : Memory) {k k' : State → Res} → Good k k' → Good (λ s. k (record s { memory = m })) (λ s. k' (record s { memory = m }))
  memory_good m {k' = k'} h = record {
    same = λ s s' p. h.same (record s { memory = m }) (record s' { memory = m }) (with_memory p m);
    later = λ u. kept.later_still u (record u { memory = m }) (state_of (k' (record u { memory = m }))) (kept.memory_later u m) (h.later (record u { memory = m }));
  }

  changed_good : (line : ℕ) (f : Memory → Result Memory Trap) {k k' : State → Res} → Good k k' → Good (λ s. changed line (f s.memory) s k) (λ s. changed line (f s.memory) s k')
  changed_good line f {k} {k'} h =
      tried_good line f {k = λ m s. k (record s { memory = m })} {k' = λ m s. k' (record s { memory = m })} (λ m. memory_good m h)

  work_same : (line : ℕ) (r : Worked) {s s' : State} → Near s s' → {k k' : ValueData → State → Res} → ((v : ValueData) → Good (k v) (k' v)) → Like (worked_out line r s (λ v. k v s)) (worked_out line r s' (λ v. k' v s'))
  work_same line (gives v) {s} {s'} p h = (h v).same s s' p
  work_same line (traps trap) p h = same_over (kept.both (trapped trap line) tt) p
  work_same line misfit p h = same_over (kept.both stuck tt) p

  worked_same : (line : ℕ) (f : Memory → Worked) {s s' : State} → Near s s' → {k k' : ValueData → State → Res} → ((v : ValueData) → Good (k v) (k' v)) → Like (worked_out line (f s.memory) s (λ v. k v s)) (worked_out line (f s'.memory) s' (λ v. k' v s'))
  worked_same line f (beside {s = s} p) {k} {k'} h = work_same line (f s.memory) (beside p) {k = k} {k' = k'} h

  work_later : (line : ℕ) (r : Worked) (u : State) (k : ValueData → Res) → ((v : ValueData) → G u (state_of (k v))) → G u (state_of (worked_out line r u k))
  work_later line (gives v) u k g = g v
  work_later line (traps trap) u k g = kept.same_later u
  work_later line misfit u k g = kept.same_later u

  worked_good : (line : ℕ) (f : Memory → Worked) {k k' : ValueData → State → Res} → ((v : ValueData) → Good (k v) (k' v)) → Good (λ t. worked_out line (f t.memory) t (λ v. k v t)) (λ t. worked_out line (f t.memory) t (λ v. k' v t))
  worked_good line f {k} {k'} h = record {
    same = λ s s' p. worked_same line f p {k = k} {k' = k'} h;
    later = λ u. work_later line (f u.memory) u (λ v. k' v u) (λ v. (h v).later u);
  }

  address_good : (v : ValueData) {k k' : ℕ → State → Res} → ((a : ℕ) → Good (k a) (k' a)) → Good (λ t. at_address v t (λ a. k a t)) (λ t. at_address v t (λ a. k' a t))
  address_good (address a) h = h a
  address_good (number z) h = over_good stuck tt

  number_good : (v : ValueData) {k k' : ℤ → State → Res} → ((z : ℤ) → Good (k z) (k' z)) → Good (λ t. on_number v t (λ z. k z t)) (λ t. on_number v t (λ z. k' z t))
  number_good (number z) h = h z
  number_good (address a) h = over_good stuck tt

  present_good : {A : Type 0} (x : Option A) {k k' : A → State → Res} → ((a : A) → Good (k a) (k' a)) → Good (λ t. present x t (λ a. k a t)) (λ t. present x t (λ a. k' a t))
  present_good (Some a) h = h a
  present_good None h = over_good stuck tt

  effect_done : (line : ℕ) (effect : Effect) (s : State) → P s → Like (done_there line effect s) (done_there line effect (richer d more s))
  effect_done line (answers v m output errors) s p = same_value (beside (kept.printed (record s { memory = m }) output errors (kept.memory s m p)))
  effect_done line (traps_there trap) s p = same_over (kept.both (trapped trap line) tt) (beside p)
  effect_done line (ends status) s p = same_over (kept.both (exited status) tt) (beside p)
  effect_done line no_call s p = same_over (kept.both stuck tt) (beside p)

  effect_same : (line : ℕ) (f : Memory → Effect) {s s' : State} → Near s s' → Like (done_there line (f s.memory) s) (done_there line (f s'.memory) s')
  effect_same line f (beside {s = s} p) = effect_done line (f s.memory) s p

  effect_later : (line : ℕ) (effect : Effect) (u : State) → G u (state_of (done_there line effect u))
  effect_later line (answers v m output errors) u =
      kept.later_still u (record u { memory = m }) (record u { memory = m; output = u.output ++ output; errors = u.errors ++ errors }) (kept.memory_later u m) (kept.printed_later (record u { memory = m }) output errors)
  effect_later line (traps_there trap) u = kept.same_later u
  effect_later line (ends status) u = kept.same_later u
  effect_later line no_call u = kept.same_later u

  effect_good : (line : ℕ) (f : Memory → Effect) → Good (λ t. done_there line (f t.memory) t) (λ t. done_there line (f t.memory) t)
  effect_good line f = record { same = λ s s' p. effect_same line f p; later = λ u. effect_later line (f u.memory) u }

  -- ---- turns

  turn_grows : (u : State) (k : State → Res) → ((t : State) → G t (state_of (k t))) → (n : ℕ) → G u (state_of (elim n [ zero ↦ over turns_spent u | suc m ↦ k (record u { turns = m }) ]))
  turn_grows u k g zero = kept.same_later u
  turn_grows u k g (suc m) = kept.later_still u (record u { turns = m }) (state_of (k (record u { turns = m }))) (kept.turn_later u m) (g (record u { turns = m }))

  -- a turn that the first run takes, the second takes too
  turn_beside : (s : State) (p : P s) (k k' : State → Res) → ((t t' : State) → before_goto t ≡ s → Near t t' → Like (k t) (k' t')) → ((t : State) → G t (state_of (k' t))) → Like (turn s k) (turn (richer d more s) k')
  turn_beside s p k k' h g = go s.turns refl
    where
      none : ((t u : State) → G t u → E.first turns_spent t u) ⊎ (d ≡ 0) → Like (over turns_spent s) (elim (0 + d) [ zero ↦ over turns_spent (richer d more s) | suc n ↦ k' (record (richer d more s) { turns = n }) ])
      none (inl e) =
          stops_first p (e s _ (kept.later_still s (richer d more s) (state_of (elim (0 + d) [ zero ↦ over turns_spent (richer d more s) | suc n ↦ k' (record (richer d more s) { turns = n }) ])) (kept.richer_later s) (turn_grows (richer d more s) k' g (0 + d))))
      none (inr e) =
          subst (λ x. Like (over turns_spent s) (elim x [ zero ↦ over turns_spent (richer d more s) | suc n ↦ k' (record (richer d more s) { turns = n }) ]))
          (sym (let f : 0 + d ≡ 0 = omega (arith, e) in f)) (same_over (kept.both turns_spent tt) (beside p))

      some : (n : ℕ) → s.turns ≡ suc n → Like (k (record s { turns = n })) (k' (richer d more (record s { turns = n })))
      some n e = h (record s { turns = n }) (richer d more (record s { turns = n })) (ap (λ m. record s { turns = m }) (sym e)) (beside (kept.turn s n e p))

      go : (m : ℕ) → s.turns ≡ m → Like (elim m [ zero ↦ over turns_spent s | suc n ↦ k (record s { turns = n }) ]) (elim (m + d) [ zero ↦ over turns_spent (richer d more s) | suc n ↦ k' (record (richer d more s) { turns = n }) ])
      go zero e = none kept.spent
      go (suc n) e =
          subst (λ x. Like (k (record s { turns = n })) (elim x [ zero ↦ over turns_spent (richer d more s) | suc n ↦ k' (record (richer d more s) { turns = n }) ]))
          (sym (let f : suc n + d ≡ suc (n + d) = omega arith in f)) (some n e)

  pub turn_same : {s s' : State} → Near s s' → {k k' : State → Res} → ((t t' : State) → before_goto t ≡ s → Near t t' → Like (k t) (k' t')) → ((t : State) → G t (state_of (k' t))) → Like (turn s k) (turn s' k')
  turn_same (beside {s = s} p) {k} {k'} h g = turn_beside s p k k' h g

  pub turn_good : {k k' : State → Res} → Good k k' → Good (λ s. turn s k) (λ s. turn s k')
  turn_good {k' = k'} h = record {
    same = λ s s' p. turn_same p (λ t t' e q. h.same t t' q) h.later;
    later = λ u. turn_grows u k' h.later u.turns;
  }

  goto_good : (l : ℕ) → Good (λ s. turn s (λ t. went l t)) (λ s. turn s (λ t. went l t))
  goto_good l = record {
    same = λ s s' p. turn_same p (λ t t' e q. same_went (goto_near p e q)) (λ t. kept.same_later t);
    later = λ u. turn_grows u (λ t. went l t) (λ t. kept.same_later t) u.turns;
  }

  -- ---- objects

  made_good : (line : ℕ) (sizes objects : List ℕ) {k k' : List ℕ → State → Res} → ((objects : List ℕ) → Good (k objects) (k' objects)) → Good (λ s. made line sizes objects s k) (λ s. made line sizes objects s k')
  made_good line [] objects h = h objects
  made_good line (size ∷ sizes) objects {k} {k'} h =
      tried_good line (λ m. make m size) {k = λ r s. made line sizes (objects ++ r.0 ∷ []) (record s { memory = r.1 }) k} {k' = λ r s. made line sizes (objects ++ r.0 ∷ []) (record s { memory = r.1 }) k'} (λ r. memory_good r.1 (made_good line sizes (objects ++ r.0 ∷ []) h))

  given_good : (line : ℕ) (kinds : List ScalarType) (ps : List ℕ) (vs : List ValueData) {k k' : State → Res} → Good k k' → Good (λ s. given line kinds ps vs s k) (λ s. given line kinds ps vs s k')
  given_good line [] [] [] h = h
  given_good line (kind ∷ kinds) (a ∷ ps) (v ∷ vs) h = changed_good line (λ m. stored m a kind v) (given_good line kinds ps vs h)
  given_good line _ _ _ h = over_good stuck tt

  opened_good : (objects : List (List ℕ)) {k k' : State → Res} → Good k k' → Good (λ s. opened objects s k) (λ s. opened objects s k')
  opened_good [] h = h
  opened_good (bytes ∷ objects) {k} {k'} h =
      tried_good 1 (λ m. with_object m (set_cells bytes)) {k = λ r s. opened objects (record s { memory = r.1 }) k} {k' = λ r s. opened objects (record s { memory = r.1 }) k'} (λ r. memory_good r.1 (opened_good objects h))

  -- ---- choices

  pick_same : (b b' : Bool) → b' ≡ b → {x y x' y' : Res} → (b ≡ true → Like x x') → (b ≡ false → Like y y') → Like (elim b [ true ↦ x | false ↦ y ]) (elim b' [ true ↦ x' | false ↦ y' ])
  pick_same true true e h g = h refl
  pick_same true false e h g = cc
  pick_same false true e h g = cc
  pick_same false false e h g = g refl

  -- by two tests that are equal
  pick_good : (b b' : Bool) → b' ≡ b → {x y x' y' : State → Res} → (b ≡ true → Good x x') → (b ≡ false → Good y y') → Good (λ s. elim b [ true ↦ x s | false ↦ y s ]) (λ s. elim b' [ true ↦ x' s | false ↦ y' s ])
  pick_good true true e h g = h refl
  pick_good true false e h g = cc
  pick_good false true e h g = cc
  pick_good false false e h g = g refl

  bool_good : (b : Bool) {x y x' y' : State → Res} → Good x x' → Good y y' → Good (λ s. elim b [ true ↦ x s | false ↦ y s ]) (λ s. elim b [ true ↦ x' s | false ↦ y' s ])
  bool_good true h g = h
  bool_good false h g = g

  pub before_near : (t : Task) {s s' : State} → Beside (λ u. P (before t u)) d more s s' → Near s s'
  before_near (calls line f vs) p = p
  before_near (turn_of c test behind x) p = p
  before_near (look_for c l b) p = after_goto p

  -- ---- expressions and statements

  module _ (step step' : Step) (text : ℕ → Stm) (agree : Agree P E G d more step step' text) where
    module _ (w w' : World) (related : Related P E G d more text w w') where
      call_good : (line f : ℕ) (vs : List ValueData) → Good (λ s. w (calls line f vs) s) (λ s. w' (calls line f vs) s)
      call_good line f vs = record { same = λ s s' p. related.same (calls line f vs) s s' p; later = λ u. related.later (calls line f vs) u }

      turn_of_good : (c : Context) (test behind : Option Exp) (x : Stm) → Good (λ s. w (turn_of c test behind x) s) (λ s. w' (turn_of c test behind (written text x)) s)
      turn_of_good c test behind x = record { same = λ s s' p. related.same (turn_of c test behind x) s s' p; later = λ u. related.later (turn_of c test behind x) u }

      updated_good : (line : ℕ) (u : Update) (a : ℕ) (old new : ValueData) → Good (λ s. updated line u a old new s) (λ s. updated line u a old new s)
      updated_good line u a old new =
          changed_good line (λ m. stored m a u.kind (value_as u.kind new)) (value_good (elim u.gives_old [ true ↦ old | false ↦ value_as u.kind new ]))

      mutual
        pub eval_good : (c : Context) (e : Exp) → Good (λ s. eval step w c e s) (λ s. eval step' w' c e s)
        eval_good c (object n) = value_good _
        eval_good c (slot i) = present_good (slice_get c.objects i) (λ a. value_good (address a))
        eval_good c (member offset e) =
            value_then (eval_good c e) (λ v. address_good v (λ a. tried_good c.line (λ m. moved m a (pos offset) 1) (λ b. value_good (address b))))
        eval_good c (constant v) = value_good v
        eval_good c (load kind e) =
            value_then (eval_good c e) (λ v. address_good v (λ a. tried_good c.line (λ m. loaded m a kind) (λ x. value_good x)))
        eval_good c (all_of size e) =
            value_then (eval_good c e) (λ v. address_good v (λ a. tried_good c.line (λ m. cells_at m a size) (λ x. value_good (address a))))
        eval_good c (store kind e a) =
            value_then (eval_good c e) (λ v. value_then (eval_good c a) (λ x.
            address_good v (λ b. changed_good c.line (λ m. stored m b kind x) (value_good x))))
        eval_good c (copy size e a) =
            value_then (eval_good c e) (λ v. value_then (eval_good c a) (λ x.
            address_good v (λ b. address_good x (λ f. changed_good c.line (λ m. copied m b f size) (value_good (address b))))))
        eval_good c (put bytes e) =
            value_then (eval_good c e) (λ v. address_good v (λ a. changed_good c.line (λ m. put_bytes m a bytes) (value_good (address a))))
        eval_good c (update n e a) =
            value_then (eval_good c e) (λ v. address_good v (λ b. tried_good c.line (λ m. loaded m b n.kind) (λ old.
            value_then (eval_good c a) (λ x. worked_good c.line (λ m. worked n.operation m (value_as n.widened old) x) (λ new.
            updated_good c.line n b old new)))))
        eval_good c (convert from to e) = value_then (eval_good c e) (λ v. value_good (value_as to v))
        eval_good c (negate type e) =
            value_then (eval_good c e) (λ v. number_good v (λ z. worked_good c.line (λ m. number_worked (negated type z)) (λ x. value_good x)))
        eval_good c (flip type e) = value_then (eval_good c e) (λ v. number_good v (λ z. value_good (number (flipped type z))))
        eval_good c (not e) = value_then (eval_good c e) (λ v. value_good (truth (negation (is_true v))))
        eval_good c (operate op a b) =
            value_then (eval_good c a) (λ x. value_then (eval_good c b) (λ y. worked_good c.line (λ m. worked op m x y) (λ z. value_good z)))
        eval_good c (both a b) =
            value_then (eval_good c a) (λ x. bool_good (is_true x) (value_then (eval_good c b) (λ y. value_good (truth (is_true y)))) (value_good (truth false)))
        eval_good c (either a b) =
            value_then (eval_good c a) (λ x. bool_good (is_true x) (value_good (truth true)) (value_then (eval_good c b) (λ y. value_good (truth (is_true y)))))
        eval_good c (choice e a b) = value_then (eval_good c e) (λ v. bool_good (is_true v) (eval_good c a) (eval_good c b))
        eval_good c (call f used es) = collect_good c [] es (λ vs. answered_good c.line used (call_good c.line f vs))
        eval_good c (known f es) = collect_good c [] es (λ vs. effect_good c.line (λ m. effect_of f m vs))
        eval_good c (library_call n es) = collect_good c [] es (λ vs. silent_good (agree.libraries w w' related c n vs))
        eval_good c faulty = over_good stuck tt

        pub collect_good : (c : Context) (vs : List ValueData) (es : Exps) {k k' : List ValueData → State → Res} → ((vs : List ValueData) → Good (k vs) (k' vs)) → Good (λ s. collect step w c vs es s k) (λ s. collect step' w' c vs es s k')
        collect_good c vs no_exps h = h vs
        collect_good c vs (exps e es) h = value_then (eval_good c e) (λ v. collect_good c (vs ++ v ∷ []) es h)

      tested_good : (c : Context) (test behind : Option Exp) (x : Stm) → Good (λ s. tested step w c test behind x s) (λ s. tested step' w' c test behind (written text x) s)
      tested_good c None behind x = turn_of_good c None behind x
      tested_good c (Some e) behind x =
          value_then (eval_good c e) (λ v. bool_good (is_true v) (turn_of_good c (Some e) behind x) on_good)

      again_good : (c : Context) (test behind : Option Exp) (x : Stm) → Good (λ s. again step w c test behind x s) (λ s. again step' w' c test behind (written text x) s)
      again_good c test None x = tested_good c test None x
      again_good c test (Some e) x = value_then (eval_good c e) (λ v. tested_good c test (Some e) x)

      went_later : (c : Context) (l : ℕ) (b : Stms) (s : State) (t : Bool) → G s (state_of (elim t [ true ↦ w' (look_for c l (written_all text b)) s | false ↦ went l s ]))
      went_later c l b s true = related.later (look_for c l b) s
      went_later c l b s false = kept.same_later s

      settle_later : (c : Context) (b : Stms) (o : Res) → G (state_of o) (state_of (settle w' c (written_all text b) o))
      settle_later c b (value v s) = kept.same_later s
      settle_later c b (on s) = kept.same_later s
      settle_later c b (broke s) = kept.same_later s
      settle_later c b (continued s) = kept.same_later s
      settle_later c b (went l s) = went_later c l b s (holds_any (named l) (written_all text b))
      settle_later c b (back v s) = kept.same_later s
      settle_later c b (over e s) = kept.same_later s

      settle_same : (c : Context) (b : Stms) {o o' : Res} → Like o o' → Like (settle w c b o) (settle w' c (written_all text b) o')
      settle_same c b (same_value p) = same_value p
      settle_same c b (same_on p) = same_on p
      settle_same c b (same_broke p) = same_broke p
      settle_same c b (same_continued p) = same_continued p
      settle_same c b (same_went {l = l} {s = s} {s' = s'} p) =
          pick_same (holds_any (named l) b) (holds_any (named l) (written_all text b)) (any_written text agree.no_label (named l) b) (λ e. related.same (look_for c l b) s s' p) (λ e. same_went p)
      settle_same c b (same_back p) = same_back p
      settle_same c b (same_over own p) = same_over own p
      settle_same c b (stops_first {e = a} {s = s} {o = o} p e) =
          stops_first p (kept.first_later a s (state_of o) (state_of (settle w' c (written_all text b) o)) e (settle_later c b o))

      settle_good : (c : Context) (b : Stms) {m m' : State → Res} → Good m m' → Good (λ s. settle w c b (m s)) (λ s. settle w' c (written_all text b) (m' s))
      settle_good c b {m' = m'} a = record {
        same = λ s s' p. settle_same c b (a.same s s' p);
        later = λ u. kept.later_still u (state_of (m' u)) (state_of (settle w' c (written_all text b) (m' u))) (a.later u) (settle_later c b (m' u));
      }

      enter_good : (c : Context) (sizes : List ℕ) (b : Stms) (go go' : Context → State → Res) → ((k : Context) → Good (go k) (go' k)) → Good (λ s. enter w c sizes b go s) (λ s. enter w' c sizes (written_all text b) go' s)
      enter_good c sizes b go go' h =
          closing_good (made_good c.line sizes c.objects (λ objects. settle_good (inside c objects) b (h (inside c objects))))

      declared_good : (c : Context) (i size : ℕ) → Good (λ s. declared c i size s) (λ s. declared c i size s)
      declared_good c i size = present_good (slice_get c.objects i) (λ a. changed_good c.line (λ m. unset m a size) on_good)

      initialized_good : (c : Context) (i size : ℕ) (es : Exps) → Good (λ s. initialized step w c i size es s) (λ s. initialized step' w' c i size es s)
      initialized_good c i size es =
          present_good (slice_get c.objects i) (λ a. changed_good c.line (λ m. fill m a size 0) (collect_good c [] es (λ vs. on_good)))

      returning_good : (c : Context) (e : Option Exp) → Good (λ s. returning step w c e s) (λ s. returning step' w' c e s)
      returning_good c None = returned_good c.first None
      returning_good c (Some e) = value_then (eval_good c e) (λ v. returned_good c.first (Some v))

      -- the statement that a `switch` chooses, if it does the same from each mark that it holds
      found_good : (l : Mark) (c : Context) (x : Stm) {y y' : State → Res} → (holds l x ≡ true → Good (λ s. look step w l c x s) (λ s. look step' w' l c (written text x) s)) → Good y y'
          → Good (λ s. elim (holds l x) [ true ↦ after_switch (look step w l c x s) | false ↦ y s ]) (λ s. elim (holds l (written text x)) [ true ↦ after_switch (look step' w' l c (written text x) s) | false ↦ y' s ])
      found_good l c x h g =
          pick_good (holds l x) (holds l (written text x)) (holds_written text agree.no_label l x) (λ i. switch_good (h i)) (λ i. g)

      chosen_good : (c : Context) (z : ℤ) (x : Stm) → ((l : Mark) → holds l x ≡ true → Good (λ s. look step w l c x s) (λ s. look step' w' l c (written text x) s))
          → Good (λ s. elim (holds (case z) x) [ true ↦ after_switch (look step w (case z) c x s) | false ↦ elim (holds default x) [ true ↦ after_switch (look step w default c x s) | false ↦ on s ] ]) (λ s. elim (holds (case z) (written text x)) [ true ↦ after_switch (look step' w' (case z) c (written text x) s) | false ↦ elim (holds default (written text x)) [ true ↦ after_switch (look step' w' default c (written text x) s) | false ↦ on s ] ])
      chosen_good c z x h = found_good (case z) c x (h (case z)) (found_good default c x (h default) on_good)

      mutual
        pub run_good : (c : Context) (x : Stm) → Good (λ s. run step w c x s) (λ s. run step' w' c (written text x) s)
        run_good c (on_line n x) = run_good (record c { line = n }) x
        run_good c nothing = on_good
        run_good c (evaluate e) = value_then (eval_good c e) (λ v. on_good)
        run_good c (declare i size) = declared_good c i size
        run_good c (initialize i size es) = initialized_good c i size es
        run_good c (block sizes b) =
            enter_good c sizes b (λ k t. run_all step w k b t) (λ k t. run_all step' w' k (written_all text b) t) (λ k. run_all_good k b)
        run_good c (choose e a b) = value_then (eval_good c e) (λ v. bool_good (is_true v) (run_good c a) (run_good c b))
        run_good c (loop first test behind x) = bool_good first (tested_good c test behind x) (turn_of_good c test behind x)
        run_good c leave = broke_good
        run_good c next = continued_good
        run_good c (return e) = returning_good c e
        run_good c (goto l) = goto_good l
        run_good c (label l x) = run_good c x
        run_good c (select e x) = value_then (eval_good c e) (λ v. number_good v (λ z. chosen_good c z x (λ l i. look_good l c x i)))
        run_good c (embedded_statement n) = agree.embeds w w' related c n

        pub run_all_good : (c : Context) (x : Stms) → Good (λ s. run_all step w c x s) (λ s. run_all step' w' c (written_all text x) s)
        run_all_good c no_stms = on_good
        run_all_good c (stms a b) = done_then (run_good c a) (run_all_good c b)

        look_good : (l : Mark) (c : Context) (x : Stm) → holds l x ≡ true → Good (λ s. look step w l c x s) (λ s. look step' w' l c (written text x) s)
        look_good l c (on_line n x) h = look_good l (record c { line = n }) x h
        look_good l c nothing h = on_good
        look_good l c (evaluate e) h = on_good
        look_good l c (declare i size) h = on_good
        look_good l c (initialize i size es) h = on_good
        look_good l c (block sizes b) h =
            enter_good c sizes b (λ k t. look_all step w l k b t) (λ k t. look_all step' w' l k (written_all text b) t) (λ k. look_all_good l k b)
        look_good l c (choose e a b) h =
            pick_good (holds l a) (holds l (written text a)) (holds_written text agree.no_label l a)
            (λ i. look_good l c a i) (λ i. look_good l c b (the_other (holds l a) (holds l b) h i))
        look_good l c (loop first test behind x) h = body_then (look_good l c x h) (again_good c test behind x)
        look_good l c leave h = on_good
        look_good l c next h = on_good
        look_good l c (return e) h = on_good
        look_good l c (goto m) h = on_good
        look_good l c (label m x) h =
            pick_good (same m l) (same m l) refl (λ i. run_good c x) (λ i. look_good l c x (the_other (same m l) (holds l x) h i))
        look_good l c (select e x) h = switch_good (look_good l c x (both_true (is_named l) (holds l x) h))
        look_good l c (embedded_statement n) h = cc

        pub look_all_good : (l : Mark) (c : Context) (x : Stms) → Good (λ s. look_all step w l c x s) (λ s. look_all step' w' l c (written_all text x) s)
        look_all_good l c no_stms = on_good
        look_all_good l c (stms a b) =
            pick_good (holds l a) (holds l (written text a)) (holds_written text agree.no_label l a)
            (λ i. done_then (look_good l c a i) (run_all_good c b)) (λ i. look_all_good l c b)

      body_run_good : (c : Context) (f : Function) → Good (λ s. body_run step w c f s) (λ s. body_run step' w' c (written_function text f) s)
      body_run_good c f = settle_good c f.body (run_all_good c f.body)

      called_good : (line : ℕ) (f : Option Function) (vs : List ValueData) → Good (λ s. called step w line f vs s) (λ s. called step' w' line (option_map (written_function text) f) vs s)
      called_good line None vs = over_good stuck tt
      called_good line (Some f) vs =
          function_end_good f.otherwise (closing_good
          (made_good line (map scalar_size f.parameters) [] (λ ps. given_good line f.parameters ps vs
          (made_good line f.objects ps (λ objects. body_run_good (in_function line objects false) f)))))

      -- a task does the same, if every task does with a turn less
      pub act_good : (fs : List Function) (t : Task) → Good (λ s. act step fs w t s) (λ s. act step' (map (written_function text) fs) w' (written_task text t) s)
      act_good fs (calls line f vs) =
          subst (λ o. Good (λ s. called step w line (slice_get fs f) vs s) (λ s. called step' w' line o vs s)) (sym (function_written text fs f)) (called_good line (slice_get fs f) vs)
      act_good fs (turn_of c test behind x) = body_then (run_good c x) (again_good c test behind x)
      act_good fs (look_for c l b) = settle_good c b (look_all_good (named l) c b)

      main_good : (f : Option Function) → Good (λ s. main_run step w f s) (λ s. main_run step' w' (option_map (written_function text) f) s)
      main_good None = over_good stuck tt
      main_good (Some f) =
          finished_good f.otherwise (made_good 1 f.objects [] (λ objects. body_run_good (in_function 1 objects true) f))

      main_of_good : (fs : List Function) (f : ℕ) → Good (λ s. main_run step w (slice_get fs f) s) (λ s. main_run step' w' (slice_get (map (written_function text) fs) f) s)
      main_of_good fs f =
          subst (λ o. Good (λ s. main_run step w (slice_get fs f) s) (λ s. main_run step' w' o s)) (sym (function_written text fs f)) (main_good (slice_get fs f))

      -- a whole run, if its tasks do
      pub whole_by : (p : Program) → Good (λ s. opened (opening_objects p) s (λ t. main_run step w (slice_get p.functions p.main) t)) (λ s. opened (opening_objects p) s (λ t. main_run step' w' (slice_get (map (written_function text) p.functions) p.main) t))
      whole_by p = opened_good (opening_objects p) (main_of_good p.functions p.main)

    module _ (fs : List Function) (n : ℕ) (related : Related P E G d more text (meaning step fs n) (meaning step' (map (written_function text) fs) n)) where
      acts : (t : Task) → Good (λ s. act step fs (meaning step fs n) t s) (λ s. act step' (map (written_function text) fs) (meaning step' (map (written_function text) fs) n) (written_task text t) s)
      acts t = act_good (meaning step fs n) (meaning step' (map (written_function text) fs) n) related fs t

      tasks_same : (t : Task) (s s' : State) → Beside (λ u. P (before t u)) d more s s' → Like (meaning step fs (suc n) t s) (meaning step' (map (written_function text) fs) (suc n) (written_task text t) s')
      tasks_same (calls line f vs) s s' p = (turn_good (acts (calls line f vs))).same s s' p
      tasks_same (turn_of c test behind x) s s' p = (turn_good (acts (turn_of c test behind x))).same s s' p
      tasks_same (look_for c l b) s s' p = (acts (look_for c l b)).same s s' (after_goto p)

      tasks_later : (t : Task) (u : State) → G u (state_of (meaning step' (map (written_function text) fs) (suc n) (written_task text t) u))
      tasks_later (calls line f vs) u = (turn_good (acts (calls line f vs))).later u
      tasks_later (turn_of c test behind x) u = (turn_good (acts (turn_of c test behind x))).later u
      tasks_later (look_for c l b) u = (acts (look_for c l b)).later u

    pub tasks_related : (fs : List Function) (n : ℕ) → Related P E G d more text (meaning step fs n) (meaning step' (map (written_function text) fs) n)
    tasks_related fs zero = record { same = λ t s s' p. same_over (kept.both turns_spent tt) (before_near t p); later = λ t u. kept.same_later u }
    tasks_related fs (suc n) = record { same = tasks_same fs n (tasks_related fs n); later = tasks_later fs n (tasks_related fs n) }

    pub whole_same : (p : Program) (n : ℕ) (s s' : State) → Near s s' → Like (whole_within step p n s) (whole_within step' (written_program text p) n s')
    whole_same p n s s' q =
        (whole_by (meaning step p.functions n) (meaning step' (map (written_function text) p.functions) n) (tasks_related p.functions n) p).same s s' q
