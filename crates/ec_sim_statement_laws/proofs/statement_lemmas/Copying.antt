-- Two programs of which the second is a copy of the first do the same, if what stands in the place of each embedded statement does what the statement does: by induction over the copies and the turns.
use Rattle.std.proofs.Common.{◌≡◌, ◌∙◌, ℕ, zero, suc, Bool, true, false, List, [], ◌∷◌, ◌++◌, map, Option, Some, None, refl, sym, subst, inl}
use Rattle.std.specs.Prelude.{ℤ, slice_get, ◌||◌, ◌&&◌}
use Rattle.ec_memory_defs.specs.Memory.{ValueData, scalar_size, last_number, fill}
use Rattle.ec_meaning_defs.specs.resolved.Labels.{same, is_named, holds, holds_any}
use Rattle.ec_meaning_defs.specs.resolved.Operations.{is_true}
use Rattle.ec_meaning_defs.specs.resolved.Programs.{Function, Program, sqlca_bytes, global_bytes, literal_bytes}
use Rattle.ec_meaning_defs.specs.resolved.Resolved.{Mark, named, case, default, Exp, embedded, Stm, on_line, block, Stms, no_stms, stms}
use Rattle.ec_meaning_defs.specs.evaluation.State.{State}
use Rattle.ec_meaning_defs.specs.evaluation.Results.{Res, value, on, broke, continued, went, back, over, on_value, on_done, after_body, after_switch, on_number, changed, present, turn, made, given, closing, function_end, returned, finished}
use Rattle.ec_meaning_defs.specs.evaluation.Evaluate.{World, Context, Step, Task, calls, turn_of, look_for, eval}
use Rattle.ec_meaning_defs.specs.evaluation.Execute.{tested, again, settle, inside, enter, returning, run, run_all, look, look_all, body_run, in_function, called, act, meaning}
use Rattle.ec_meaning_defs.specs.evaluation.Whole.{opened, main_run, whole}
use Rattle.ec_sim_statement_laws.specs.statement.Clean.{CallsNone, CallsNoneIn}
use Rattle.ec_sim_statement_laws.specs.statement.Copies.{Declares, unset, filled, AreApart, ended, another, IsCopy, standing, empty, evaluated, declared, blocks, chooses, loops, leaves, continues, returns, jumps, labelled, selects, embedded as stands_for, AreCopies, end, both, gone, apart, IsFunctionCopy, AreFunctionCopies, IsProgramCopy}
use Rattle.ec_sim_statement_laws.specs.statement.Lives.{TidyWorld, TidyStep}
use Rattle.ec_sim_statement_laws.proofs.statement_lemmas.Blocks.{settle_bare}
use Rattle.ec_sim_statement_laws.proofs.statement_lemmas.Plain.{eval_alike, collect_alike, clash_false, left_false, right_false}
use Rattle.ec_sim_statement_laws.proofs.statement_lemmas.TidyRuns.{closed_already, all_leave, meaning_tidy}

abbrev pick : Bool → Res → Res → Res
pick t x y = elim t [ true ↦ x | false ↦ y ]

-- a test that two runs make alike
pick_same : (t t' : Bool) → t' ≡ t → {x y x' y' : Res} → (t ≡ true → x ≡ x') → (t ≡ false → y ≡ y') → pick t x y ≡ pick t' x' y'
pick_same true t' e {x} {y} {x'} {y'} f g = f refl ∙ (λ j. pick (sym e j) x' y')
pick_same false t' e {x} {y} {x'} {y'} f g = g refl ∙ (λ j. pick (sym e j) x' y')

the_other : {a b : Bool} → a ≡ false → (a || b) ≡ true → b ≡ true
the_other {a} {b} is e = subst (λ t. (t || b) ≡ true) is e

-- where no statement holds the label
none_held : (step : Step) (w : World) (l : Mark) (c : Context) (b : Stms) → holds_any l b ≡ false → (s : State) → look_all step w l c b s ≡ on s
none_held step w l c no_stms e s = refl
none_held step w l c (stms a b) e s =
    (λ j. pick (left_false (holds l a) (holds_any l b) e j) (on_done (look step w l c a s) (λ t. run_all step w c b t)) (look_all step w l c b s))
    ∙ none_held step w l c b (right_false (holds l a) (holds_any l b) e) s

inside_is : (a b : Bool) → (a && b) ≡ true → b ≡ true
inside_is true b e = e
inside_is false b e = clash_false e

done_then : (o : Res) (f g : State → Res) → on_done (on_done o f) g ≡ on_done o (λ s. on_done (f s) g)
done_then (value v s) f g = refl
done_then (on s) f g = refl
done_then (broke s) f g = refl
done_then (continued s) f g = refl
done_then (went l s) f g = refl
done_then (back v s) f g = refl
done_then (over e s) f g = refl

-- ---- declarations hold no label

unlabelled : (l : Mark) {x : Stm} → Declares x → holds l x ≡ false
unlabelled l (unset i size) = refl
unlabelled l (filled i size es h) = refl

none_together : (l : Mark) {line : ℕ} {ds there rest : Stms} → AreApart line ds there rest → holds_any l ds ≡ false
none_together l (ended rest) = refl
none_together l (another d h) = λ j. unlabelled l d j || none_together l h j

held_apart : (l : Mark) {line : ℕ} {ds there rest : Stms} → AreApart line ds there rest → holds_any l there ≡ holds_any l rest
held_apart l (ended rest) = refl
held_apart l (another d h) = λ j. unlabelled l d j || held_apart l h j

looked_past : (step : Step) (w : World) (l : Mark) (c : Context) {line : ℕ} {ds there rest : Stms} → AreApart line ds there rest → (s : State)
    → look_all step w l c there s ≡ look_all step w l c rest s
looked_past step w l c (ended rest) s = refl
looked_past step w l c {line} (another {x = x} {there = there} d h) s =
    (λ j. pick (unlabelled l d j) (on_done (look step w l c (on_line line x) s) (λ t. run_all step w c there t)) (look_all step w l c there s))
    ∙ looked_past step w l c h s

module _ (P : ℕ → ℕ → Stm → Type 0) (labels : (line n : ℕ) (y : Stm) → P line n y → (l : Mark) → holds l y ≡ false) where
  mutual
    held : (l : Mark) (line : ℕ) {x y : Stm} → IsCopy P line x y → holds l y ≡ holds l x
    held l line (standing n h) = held l n h
    held l line empty = refl
    held l line (evaluated e none) = refl
    held l line (declared d) = refl
    held l line (blocks sizes h) = any_held l line h
    held l line (chooses e none h g) = λ j. held l line h j || held l line g j
    held l line (loops first test behind t b h) = held l line h
    held l line leaves = refl
    held l line continues = refl
    held l line (returns e none) = refl
    held l line (jumps m) = refl
    held l line (labelled m h) = λ j. same m l || held l line h j
    held l line (selects e none h) = λ j. is_named l && held l line h j
    held l line (stands_for n {y = y} h) = labels line n y h l

    any_held : (l : Mark) (line : ℕ) {a b : Stms} → AreCopies P line a b → holds_any l b ≡ holds_any l a
    any_held l line end = refl
    any_held l line (both h g) = λ j. held l line h j || any_held l line g j
    any_held l line (gone n g) = any_held l line g
    any_held l line (apart n {a = a} d g) = held_apart l d ∙ any_held l line g ∙ (λ j. sym (none_together l d) j || holds_any l a)

  -- what stands for a task in the copy
  data IsTaskCopy : Task → Task → Type 0 where
    same_call : (line f : ℕ) (vs : List ValueData) → IsTaskCopy (calls line f vs) (calls line f vs)
    same_turn : (c : Context) (test behind : Option Exp) {x y : Stm} → CallsNoneIn test → CallsNoneIn behind → IsCopy P c.line x y → IsTaskCopy (turn_of c test behind x) (turn_of c test behind y)
    same_look : (c : Context) (l : ℕ) {a b : Stms} → AreCopies P c.line a b → IsTaskCopy (look_for c l a) (look_for c l b)

  -- the functions of a number are copies, or there are none
  abbrev OptionCopy : Option Function → Option Function → Type 0
  OptionCopy None None = Unit {0}
  OptionCopy None (Some g) = ⊥
  OptionCopy (Some f) None = ⊥
  OptionCopy (Some f) (Some g) = IsFunctionCopy P f g

  found_copy : (fs gs : List Function) → AreFunctionCopies P fs gs → (f : ℕ) → OptionCopy (slice_get fs f) (slice_get gs f)
  found_copy [] [] copies f = tt
  found_copy [] (g ∷ gs) copies f = absurd copies
  found_copy (f ∷ fs) [] copies n = absurd copies
  found_copy (f ∷ fs) (g ∷ gs) copies zero = copies.0
  found_copy (f ∷ fs) (g ∷ gs) copies (suc n) = found_copy fs gs copies.1 n

  module _ (step step' : Step) (tidy_step : TidyStep step) where
    module _ (w w' : World) (tidy : TidyWorld w) (worlds : (t u : Task) → IsTaskCopy t u → (s : State) → w t s ≡ w' u s)
        (embeds : (c : Context) (n : ℕ) (y : Stm) → P c.line n y → (s : State) → step w c (embedded n) s ≡ run step' w' c y s) where
      functions : (line f : ℕ) (vs : List ValueData) (s : State) → w (calls line f vs) s ≡ w' (calls line f vs) s
      functions line f vs s = worlds (calls line f vs) (calls line f vs) (same_call line f vs) s

      expression : (c : Context) (e : Exp) → CallsNone e → (s : State) → eval step w c e s ≡ eval step' w' c e s
      expression c e none s = eval_alike step step' w w' c functions false clash_false e (inl none) s

      turn_same : (c : Context) (test behind : Option Exp) (x y : Stm) → CallsNoneIn test → CallsNoneIn behind → IsCopy P c.line x y → (s : State)
          → w (turn_of c test behind x) s ≡ w' (turn_of c test behind y) s
      turn_same c test behind x y t b h s = worlds (turn_of c test behind x) (turn_of c test behind y) (same_turn c test behind t b h) s

      tested_same : (c : Context) (test behind : Option Exp) (x y : Stm) → CallsNoneIn test → CallsNoneIn behind → IsCopy P c.line x y → (s : State)
          → tested step w c test behind x s ≡ tested step' w' c test behind y s
      tested_same c None behind x y t b h s = turn_same c None behind x y t b h s
      tested_same c (Some e) behind x y t b h s = λ j.
          on_value (expression c e t s j) (λ v u.
          elim (is_true v) [ true ↦ turn_same c (Some e) behind x y t b h u j | false ↦ on u ])

      again_same : (c : Context) (test behind : Option Exp) (x y : Stm) → CallsNoneIn test → CallsNoneIn behind → IsCopy P c.line x y → (s : State)
          → again step w c test behind x s ≡ again step' w' c test behind y s
      again_same c test None x y t b h s = tested_same c test None x y t tt h s
      again_same c test (Some e) x y t b h s = λ j. on_value (expression c e b s j) (λ v u. tested_same c test (Some e) x y t b h u j)

      returning_same : (c : Context) (e : Option Exp) → CallsNoneIn e → (s : State) → returning step w c e s ≡ returning step' w' c e s
      returning_same c None none s = refl
      returning_same c (Some e) none s = λ j. on_value (expression c e none s j) (λ v t. returned c.first (Some v) t)

      settle_same : (c : Context) (a b : Stms) → AreCopies P c.line a b → (o : Res) → settle w c a o ≡ settle w' c b o
      settle_same c a b h (value v s) = refl
      settle_same c a b h (on s) = refl
      settle_same c a b h (broke s) = refl
      settle_same c a b h (continued s) = refl
      settle_same c a b h (went l s) = λ j.
          elim (sym (any_held (named l) c.line h) j) [ true ↦ worlds (look_for c l a) (look_for c l b) (same_look c l h) s j | false ↦ went l s ]
      settle_same c a b h (back v s) = refl
      settle_same c a b h (over e s) = refl

      enter_same : (c : Context) (sizes : List ℕ) (a b : Stms) → AreCopies P c.line a b → (go go' : Context → State → Res)
          → ((objects : List ℕ) (t : State) → go (inside c objects) t ≡ go' (inside c objects) t) → (s : State)
          → enter w c sizes a go s ≡ enter w' c sizes b go' s
      enter_same c sizes a b h go go' f s = λ j.
          closing (last_number s.memory) (made c.line sizes c.objects s (λ objects t. settled_there objects t j))
        where
          settled_there : (objects : List ℕ) (t : State)
              → settle w (inside c objects) a (go (inside c objects) t) ≡ settle w' (inside c objects) b (go' (inside c objects) t)
          settled_there objects t =
              (λ j. settle w (inside c objects) a (f objects t j)) ∙ settle_same (inside c objects) a b h (go' (inside c objects) t)

      -- ---- declarations

      declaration_same : (c : Context) {x : Stm} → Declares x → (s : State) → run step w c x s ≡ run step' w' c x s
      declaration_same c (unset i size) s = refl
      declaration_same c (filled i size es none) s = λ j.
          present (slice_get c.objects i) s (λ p. changed c.line (fill s.memory p size 0) s (λ t.
          collect_alike step step' w w' c functions false clash_false [] es (inl none) t (λ vs u. on u) (λ vs u. on u) (λ vs u. refl) j))

      -- they make no object, so that their block ends none
      block_alone : (c : Context) {line : ℕ} {ds there rest : Stms} → AreApart line ds there rest → (s : State) → run step w c (block [] ds) s ≡ run_all step w c ds s
      block_alone c {ds = ds} h s =
          (λ j. closing (last_number s.memory) (settle_bare w c ds (λ l. none_together l h) (run_all step w c ds s) j))
          ∙ closed_already s.memory (run_all step w c ds s) (all_leave step tidy_step w tidy c ds s)

      one_by_one : (c : Context) (line : ℕ) {ds there rest : Stms} → AreApart line ds there rest → (k : State → Res) → ((t : State) → k t ≡ run_all step' w' c rest t) → (s : State)
          → on_done (run_all step w (record c { line = line }) ds s) k ≡ run_all step' w' c there s
      one_by_one c line (ended rest) k f s = f s
      one_by_one c line (another {x = x} {more = more} d h) k f s =
          done_then (run step w (record c { line = line }) x s) (λ t. run_all step w (record c { line = line }) more t) k
          ∙ (λ j. on_done (declaration_same (record c { line = line }) d s j) (λ t. one_by_one c line h k f t j))

      apart_same : (c : Context) (line : ℕ) {ds there rest : Stms} → AreApart line ds there rest → (k : State → Res) → ((t : State) → k t ≡ run_all step' w' c rest t) → (s : State)
          → on_done (run step w (record c { line = line }) (block [] ds) s) k ≡ run_all step' w' c there s
      apart_same c line h k f s = (λ j. on_done (block_alone (record c { line = line }) h s j) k) ∙ one_by_one c line h k f s

      -- ---- statements

      -- the case of a value, or the default
      found_same : (c : Context) (z : ℤ) {x y : Stm} → IsCopy P c.line x y → ((m : Mark) → holds m x ≡ true → (s : State) → look step w m c x s ≡ look step' w' m c y s) → (s : State)
          → pick (holds (case z) x) (after_switch (look step w (case z) c x s)) (pick (holds default x) (after_switch (look step w default c x s)) (on s))
          ≡ pick (holds (case z) y) (after_switch (look step' w' (case z) c y s)) (pick (holds default y) (after_switch (look step' w' default c y s)) (on s))
      found_same c z {x} {y} h looks s =
          pick_same (holds (case z) x) (holds (case z) y) (held (case z) c.line h)
          (λ here. λ j. after_switch (looks (case z) here s j))
          (λ none. pick_same (holds default x) (holds default y) (held default c.line h)
          (λ here. λ j. after_switch (looks default here s j))
          (λ none. refl))

      mutual
        run_same : (c : Context) {x y : Stm} → IsCopy P c.line x y → (s : State) → run step w c x s ≡ run step' w' c y s
        run_same c (standing n h) s = run_same (record c { line = n }) h s
        run_same c empty s = refl
        run_same c (evaluated e none) s = λ j. on_value (expression c e none s j) (λ v t. on t)
        run_same c (declared d) s = declaration_same c d s
        run_same c (blocks sizes {a = a} {b = b} h) s =
            enter_same c sizes a b h (λ d t. run_all step w d a t) (λ d t. run_all step' w' d b t) (λ objects t. all_same (inside c objects) h t) s
        run_same c (chooses e none h g) s = λ j.
            on_value (expression c e none s j) (λ v t.
            elim (is_true v) [ true ↦ run_same c h t j | false ↦ run_same c g t j ])
        run_same c (loops first test behind {x = x} {y = y} t b h) s = λ j.
            elim first [ true ↦ tested_same c test behind x y t b h s j | false ↦ turn_same c test behind x y t b h s j ]
        run_same c leaves s = refl
        run_same c continues s = refl
        run_same c (returns e none) s = returning_same c e none s
        run_same c (jumps l) s = refl
        run_same c (labelled l h) s = run_same c h s
        run_same c (selects e {x = x} {y = y} none h) s = λ j.
            on_value (expression c e none s j) (λ v t. on_number v t (λ z. found_same c z h (λ m here u. look_same m c h here u) t j))
        run_same c (stands_for n {y = y} h) s = embeds c n y h s

        all_same : (c : Context) {a b : Stms} → AreCopies P c.line a b → (s : State) → run_all step w c a s ≡ run_all step' w' c b s
        all_same c end s = refl
        all_same c (both h g) s = λ j. on_done (run_same c h s j) (λ t. all_same c g t j)
        all_same c (gone n g) s = all_same c g s
        all_same c (apart n {a = a} d g) s = apart_same c n d (λ t. run_all step w c a t) (λ t. all_same c g t) s

        look_same : (l : Mark) (c : Context) {x y : Stm} → IsCopy P c.line x y → holds l x ≡ true → (s : State) → look step w l c x s ≡ look step' w' l c y s
        look_same l c (standing n h) is s = look_same l (record c { line = n }) h is s
        look_same l c empty is s = refl
        look_same l c (evaluated e none) is s = refl
        look_same l c (declared (unset i size)) is s = refl
        look_same l c (declared (filled i size es none)) is s = refl
        look_same l c (blocks sizes {a = a} {b = b} h) is s =
            enter_same c sizes a b h (λ d t. look_all step w l d a t) (λ d t. look_all step' w' l d b t) (λ objects t. all_looked l (inside c objects) h is t) s
        look_same l c (chooses e {a = a} {b = b} none h g) is s =
            pick_same (holds l a) (holds l b) (held l c.line h)
            (λ here. look_same l c h here s)
            (λ none. look_same l c g (the_other none is) s)
        look_same l c (loops first test behind {x = x} {y = y} t b h) is s = λ j.
            after_body (look_same l c h is s j) (λ u. again_same c test behind x y t b h u j)
        look_same l c leaves is s = refl
        look_same l c continues is s = refl
        look_same l c (returns e none) is s = refl
        look_same l c (jumps m) is s = refl
        look_same l c (labelled m h) is s =
            pick_same (same m l) (same m l) refl
            (λ here. run_same c h s)
            (λ none. look_same l c h (the_other none is) s)
        look_same l c (selects e {x = x} none h) is s = λ j. after_switch (look_same l c h (inside_is (is_named l) (holds l x) is) s j)
        look_same l c (stands_for n h) is s = clash_false is

        all_looked : (l : Mark) (c : Context) {a b : Stms} → AreCopies P c.line a b → holds_any l a ≡ true → (s : State) → look_all step w l c a s ≡ look_all step' w' l c b s
        all_looked l c end is s = refl
        all_looked l c (both {x = x} {y = y} h g) is s =
            pick_same (holds l x) (holds l y) (held l c.line h)
            (λ here. λ j. on_done (look_same l c h here s j) (λ u. all_same c g u j))
            (λ none. all_looked l c g (the_other none is) s)
        all_looked l c (gone n g) is s = all_looked l c g is s
        all_looked l c (apart n {ds = ds} {a = a} d g) is s =
            (λ j. pick (none_together l d j) (on_done (look step w l c (on_line n (block [] ds)) s) (λ t. run_all step w c a t)) (look_all step w l c a s))
            ∙ all_looked l c g (the_other (none_together l d) is) s
            ∙ sym (looked_past step' w' l c d s)

      -- ---- tasks

      body_same : (c : Context) (f g : Function) → AreCopies P c.line f.body g.body → (s : State) → body_run step w c f s ≡ body_run step' w' c g s
      body_same c f g h s =
          (λ j. settle w c f.body (all_same c h s j)) ∙ settle_same c f.body g.body h (run_all step' w' c g.body s)

      called_same : (line : ℕ) (f g : Option Function) → OptionCopy f g → (vs : List ValueData) (s : State)
          → called step w line f vs s ≡ called step' w' line g vs s
      called_same line None None h vs s = refl
      called_same line None (Some g) h vs s = absurd h
      called_same line (Some f) None h vs s = absurd h
      called_same line (Some f) (Some g) h vs s = λ j.
          function_end (sym h.otherwise j) (closing (last_number s.memory)
          (made line (map scalar_size (sym h.parameters j)) [] s (λ ps t. given line (sym h.parameters j) ps vs t (λ u.
          made line (sym h.objects j) ps u (λ objects r. body_same (in_function line objects false) f g (h.body line) r j)))))

      act_same : (fs gs : List Function) → AreFunctionCopies P fs gs → (t u : Task) → IsTaskCopy t u → (s : State) → act step fs w t s ≡ act step' gs w' u s
      act_same fs gs copies t u (same_call line f vs) s =
          called_same line (slice_get fs f) (slice_get gs f) (found_copy fs gs copies f) vs s
      act_same fs gs copies t u (same_turn c test behind {x = x} {y = y} none_tested none_behind h) s = λ j.
          after_body (run_same c h s j) (λ r. again_same c test behind x y none_tested none_behind h r j)
      act_same fs gs copies t u (same_look c l {a = a} {b = b} h) s = by_test (holds_any (named l) a) refl
        where
          nothing_looked : holds_any (named l) a ≡ false → look_all step w (named l) c a s ≡ look_all step' w' (named l) c b s
          nothing_looked none = none_held step w (named l) c a none s ∙ sym (none_held step' w' (named l) c b (any_held (named l) c.line h ∙ none) s)

          by_test : (t : Bool) → holds_any (named l) a ≡ t → settle w c a (look_all step w (named l) c a s) ≡ settle w' c b (look_all step' w' (named l) c b s)
          by_test true is =
              (λ j. settle w c a (all_looked (named l) c h is s j)) ∙ settle_same c a b h (look_all step' w' (named l) c b s)
          by_test false none =
              (λ j. settle w c a (nothing_looked none j)) ∙ settle_same c a b h (look_all step' w' (named l) c b s)

    -- ---- whole programs

    module _ (fs gs : List Function) (copies : AreFunctionCopies P fs gs)
        (embeds : (k : ℕ) → ((line f : ℕ) (vs : List ValueData) (s : State) → meaning step fs k (calls line f vs) s ≡ meaning step' gs k (calls line f vs) s)
        → (c : Context) (n : ℕ) (y : Stm) → P c.line n y → (s : State)
        → step (meaning step fs k) c (embedded n) s ≡ run step' (meaning step' gs k) c y s) where
      -- embedded statements, once tasks do the same
      embedded_same : (k : ℕ) → ((t u : Task) → IsTaskCopy t u → (s : State) → meaning step fs k t s ≡ meaning step' gs k u s)
          → (c : Context) (n : ℕ) (y : Stm) → P c.line n y → (s : State) → step (meaning step fs k) c (embedded n) s ≡ run step' (meaning step' gs k) c y s
      embedded_same k tasks = embeds k (λ line f vs s. tasks (calls line f vs) (calls line f vs) (same_call line f vs) s)

      task_acts : (k : ℕ) → ((t u : Task) → IsTaskCopy t u → (s : State) → meaning step fs k t s ≡ meaning step' gs k u s)
          → (t u : Task) → IsTaskCopy t u → (s : State) → act step fs (meaning step fs k) t s ≡ act step' gs (meaning step' gs k) u s
      task_acts k tasks = act_same (meaning step fs k) (meaning step' gs k) (meaning_tidy step tidy_step fs k) tasks (embedded_same k tasks) fs gs copies

      tasks_same : (k : ℕ) (t u : Task) → IsTaskCopy t u → (s : State) → meaning step fs k t s ≡ meaning step' gs k u s
      tasks_same zero t u h s = refl
      tasks_same (suc k) t u (same_call line f vs) s = λ j.
          turn s (λ r. task_acts k (tasks_same k) (calls line f vs) (calls line f vs) (same_call line f vs) r j)
      tasks_same (suc k) t u (same_turn c test behind {x = x} {y = y} none_tested none_behind h) s = λ j.
          turn s (λ r. task_acts k (tasks_same k) (turn_of c test behind x) (turn_of c test behind y) (same_turn c test behind none_tested none_behind h) r j)
      tasks_same (suc k) t u (same_look c l {a = a} {b = b} h) s =
          task_acts k (tasks_same k) (look_for c l a) (look_for c l b) (same_look c l h) s

      main_same : (k : ℕ) (f g : Option Function) → OptionCopy f g → (s : State) → main_run step (meaning step fs k) f s ≡ main_run step' (meaning step' gs k) g s
      main_same k None None h s = refl
      main_same k None (Some g) h s = absurd h
      main_same k (Some f) None h s = absurd h
      main_same k (Some f) (Some g) h s = λ j.
          finished (sym h.otherwise j) (made 1 (sym h.objects j) [] s (λ objects t.
          body_same (meaning step fs k) (meaning step' gs k) (meaning_tidy step tidy_step fs k) (tasks_same k) (embedded_same k (tasks_same k)) (in_function 1 objects true) f g (h.body 1) t j))

  pub whole_same : (step step' : Step) → TidyStep step → (p q : Program) → IsProgramCopy P p q
      → ((k : ℕ) → ((line f : ℕ) (vs : List ValueData) (s : State) → meaning step p.functions k (calls line f vs) s ≡ meaning step' q.functions k (calls line f vs) s)
      → (c : Context) (n : ℕ) (y : Stm) → P c.line n y → (s : State)
      → step (meaning step p.functions k) c (embedded n) s ≡ run step' (meaning step' q.functions k) c y s)
      → (s : State) → whole step p s ≡ whole step' q s
  whole_same step step' tidy_step p q h embeds s = λ j.
      opened (sqlca_bytes ∷ map global_bytes (sym h.globals j) ++ map literal_bytes (sym h.literals j)) s (λ t. at_main t j)
    where
      at_main : (t : State)
          → main_run step (meaning step p.functions s.turns) (slice_get p.functions p.main) t
          ≡ main_run step' (meaning step' q.functions s.turns) (slice_get q.functions q.main) t
      at_main t =
          main_same step step' tidy_step p.functions q.functions h.functions embeds s.turns (slice_get p.functions p.main) (slice_get q.functions p.main) (found_copy p.functions q.functions h.functions p.main) t
          ∙ (λ j. main_run step' (meaning step' q.functions s.turns) (slice_get q.functions (sym h.main j)) t)
