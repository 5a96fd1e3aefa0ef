-- A source and what is written of it mean the same, once both are resolved.
use Rattle.std.proofs.Common.{◌≡◌, ◌∙◌, ℕ, Bool, true, false, List, Option, Some, None, refl, sym, inr}
use Rattle.std.specs.Prelude.{pos, int_lt, slice_get}
use Rattle.ec_ctypes.specs.declared.types.arith.Arith.TheVariants.{Long, Char}
use Rattle.ec_ctypes.specs.trees.Checked.{TypedData}
use Rattle.ec_ctypes.specs.trees.Embedded.{EmbData}
use Rattle.ec_meaning_defs.specs.functions.Functions.{sqlprint}
use Rattle.ec_memory_defs.specs.Memory.{ValueData, load, number_of, integer_type, last_number}
use Rattle.ec_meaning_defs.specs.resolved.Labels.{holds}
use Rattle.ec_meaning_defs.specs.resolved.Programs.{Program}
use Rattle.ec_meaning_defs.specs.resolved.Resolved.{Mark, Exp, known, no_exps, embedded, library, Stm}
use Rattle.ec_resolving_defs.specs.Storage.{ActionForm, goes_on, jumps, prints, stops, leaves, continues, calls_function, ActionForms, LibraryCall, StatementForm}
use Rattle.ec_ctypes.specs.declared.embedded.emb.Cond.{Cond}
use Rattle.ec_ctypes.specs.declared.embedded.emb.Cond.TheVariants.{NotFound, Warning, Error}
use Rattle.ec_meaning_defs.specs.evaluation.State.{State}
use Rattle.ec_meaning_defs.specs.evaluation.Results.{Res, on, went, on_value, on_done, at_address, turn, closing}
use Rattle.ec_meaning_defs.specs.evaluation.Evaluate.{World, Context, calls as calls_task, eval}
use Rattle.ec_meaning_defs.specs.evaluation.Execute.{run, meaning}
use Rattle.ec_meaning_defs.specs.evaluation.Expanded.{written_program}
use Rattle.ec_meaning_defs.specs.evaluation.Whole.{whole, without_atoms}
use Rattle.ec_call_defs.specs.Steps.{settled, library_step}
use Rattle.ec_direct_defs.specs.Statements.{Statement}
use Rattle.ec_direct_defs.specs.Places.{address_of}
use Rattle.ec_direct_defs.specs.Executing.{statement_done}
use Rattle.ec_direct_defs.specs.Handling.{code_place, warning_place, is_number, when, acted, tested, handled}
use Rattle.ec_direct_defs.specs.Direct.{form_of, statement_at, executed_at, stepped, direct_step}
use Rattle.ec_sim_statement_laws.specs.statement.Clean.{CleanProgram}
use Rattle.ec_sim_statement_laws.specs.statement.Copies.{IsProgramCopy}
use Rattle.ec_sim_statement_laws.specs.statement.Lives.{LeavesTidy, TidyWorld, TidyStep}
use Rattle.ec_sim_statement_laws.specs.statement.Whole.{IsWrittenAt}
use Rattle.ec_sim_statement_laws.proofs.statement_lemmas.Bare.{placed_by}
use Rattle.ec_sim_statement_laws.proofs.statement_lemmas.Blocks.{block_same, tests_bare}
use Rattle.ec_sim_statement_laws.proofs.statement_lemmas.Copying.{whole_same}
use Rattle.ec_sim_statement_laws.proofs.statement_lemmas.Keeping.{settled_tidy}
use Rattle.ec_sim_statement_laws.proofs.statement_lemmas.Memories.{tidy_same}
use Rattle.ec_sim_statement_laws.proofs.statement_lemmas.Plain.{eval_alike, handled_alike}
use Rattle.ec_sim_statement_laws.proofs.statement_lemmas.TidyRuns.{closed_already, Gives, value_leaves, done_leaves, at_leaves, tried_leaves, test_leaves, turn_leaves, eval_gives, meaning_tidy}
use Rattle.ec_sim_statement_laws.proofs.statement_lemmas.Written.{program_copy}

-- ---- an embedded statement ends what it makes

nothing_tidy : TidyStep without_atoms
nothing_tidy w tidy c a s = tt

module _ (w : World) (tidy : TidyWorld w) (c : Context) where
  expression_gives : (e : Exp) (s : State) → Gives s.memory (eval without_atoms w c e s)
  expression_gives e s = eval_gives without_atoms nothing_tidy w tidy c e s

  acted_leaves : (a : ActionForm) (s : State) → LeavesTidy s.memory (acted without_atoms w c a s)
  acted_leaves goes_on s = tidy_same s.memory
  acted_leaves (jumps l) s = turn_leaves s (λ t. went l t) (λ n. tidy_same s.memory)
  acted_leaves prints s = value_leaves s.memory (eval without_atoms w c (known sqlprint no_exps) s) _ (expression_gives (known sqlprint no_exps) s) (λ v t. tidy_same t.memory)
  acted_leaves stops s = tt
  acted_leaves leaves s = tidy_same s.memory
  acted_leaves continues s = tidy_same s.memory
  acted_leaves (calls_function e) s = value_leaves s.memory (eval without_atoms w c e s) _ (expression_gives e s) (λ v t. tidy_same t.memory)

  when_leaves : (condition : Cond) (s : State) (go : Bool → Res) → ((b : Bool) → LeavesTidy s.memory (go b)) → LeavesTidy s.memory (when c.line condition s go)
  when_leaves NotFound s go f = tried_leaves s.memory c.line (load s.memory code_place (integer_type Long)) s (λ v. go (is_number (number_of v) (pos 100))) (λ v. f (is_number (number_of v) (pos 100)))
  when_leaves Warning s go f = tried_leaves s.memory c.line (load s.memory warning_place (integer_type Char)) s (λ v. go (is_number (number_of v) (pos 87))) (λ v. f (is_number (number_of v) (pos 87)))
  when_leaves Error s go f = tried_leaves s.memory c.line (load s.memory code_place (integer_type Long)) s (λ v. go (int_lt (number_of v) (pos 0))) (λ v. f (int_lt (number_of v) (pos 0)))

  choice_leaves : (condition : Cond) (a : ActionForm) (s : State) → LeavesTidy s.memory (when c.line condition s (λ holds. elim holds [ true ↦ acted without_atoms w c a s | false ↦ on s ]))
  choice_leaves condition a s = when_leaves condition s _ (λ b. test_leaves s.memory b _ _ (acted_leaves a s) (tidy_same s.memory))

  tested_leaves : (condition : Cond) (a : ActionForm) (s : State) → LeavesTidy s.memory (tested without_atoms w c condition a s)
  tested_leaves condition goes_on s = tidy_same s.memory
  tested_leaves condition (jumps l) s = choice_leaves condition (jumps l) s
  tested_leaves condition prints s = choice_leaves condition prints s
  tested_leaves condition stops s = choice_leaves condition stops s
  tested_leaves condition leaves s = choice_leaves condition leaves s
  tested_leaves condition continues s = choice_leaves condition continues s
  tested_leaves condition (calls_function e) s = choice_leaves condition (calls_function e) s

  handled_leaves : (actions : ActionForms) (s : State) → LeavesTidy s.memory (handled without_atoms w c actions s)
  handled_leaves actions s =
      done_leaves s.memory (tested without_atoms w c NotFound actions.none_found s) _ (tested_leaves NotFound actions.none_found s) (λ t.
      done_leaves t.memory (tested without_atoms w c Warning actions.warning t) _ (tested_leaves Warning actions.warning t) (λ u.
      tested_leaves Error actions.error u))

  address_leaves : (e : Exp) (s : State) (f g : ℕ → State → Res) → ((p : ℕ) (t : State) → LeavesTidy t.memory (f p t)) → LeavesTidy s.memory (address_of without_atoms w c e s f)
  address_leaves e s f g h = value_leaves s.memory (eval without_atoms w c e s) _ (expression_gives e s) (λ v t. at_leaves t.memory v t _ (λ p. h p t))

  module _ (t : TypedData) (forms : List StatementForm) where
    executed_leaves : (line : ℕ) (f : StatementForm) (x : Option (Statement Exp)) (s : State) → LeavesTidy s.memory (executed_at t forms w c line f x s)
    executed_leaves line f None s = tt
    executed_leaves line f (Some x) s =
        placed_by without_atoms without_atoms w w c (λ s a b. LeavesTidy s.memory a) address_leaves x s _
        (λ y r. turn r (λ u. on_done (settled c.line (statement_done t.structs line y u)) (λ v. handled without_atoms w c f.actions v)))
        (λ y same r. turn_leaves r (λ u. on_done (settled c.line (statement_done t.structs line y u)) (λ v. handled without_atoms w c f.actions v)) (λ n.
        done_leaves r.memory (settled c.line (statement_done t.structs line y (record r { turns = n }))) _ (settled_tidy t.structs c.line line y (record r { turns = n })) (λ v. handled_leaves f.actions v)))

    stepped_leaves : (n : ℕ) (e : Option EmbData) (f : Option StatementForm) (s : State) → LeavesTidy s.memory (stepped t forms w c n e f s)
    stepped_leaves n None f s = tt
    stepped_leaves n (Some e) None s = tt
    stepped_leaves n (Some e) (Some f) s = executed_leaves e.line.0 f (statement_at t forms n e f) s

direct_tidy : (t : TypedData) (forms : List StatementForm) → TidyStep (direct_step t forms)
direct_tidy t forms w tidy c (embedded n) s = stepped_leaves w tidy c t forms n (slice_get t.unit.embs n) (form_of n forms) s
direct_tidy t forms w tidy c (library n vs) s = tt

-- ---- what a statement does where functions do the same

module _ (w w' : World) (c : Context) (functions : (line f : ℕ) (vs : List ValueData) (s : State) → w (calls_task line f vs) s ≡ w' (calls_task line f vs) s) where
  without_alike : (e : Exp) (s : State) → eval without_atoms w c e s ≡ eval without_atoms w' c e s
  without_alike e s = eval_alike without_atoms without_atoms w w' c functions true (λ h n vs r. refl) e (inr refl) s

  executed_alike : (t : TypedData) (forms : List StatementForm) (line : ℕ) (f : StatementForm) (x : Statement Exp) (s : State)
      → executed_at t forms w c line f (Some x) s ≡ executed_at t forms w' c line f (Some x) s
  executed_alike t forms line f x s =
      placed_by without_atoms without_atoms w w' c (λ s a b. a ≡ b)
      (λ e s f g h. λ j. on_value (without_alike e s j) (λ v r. at_address v r (λ p. h p r j)))
      x s _ _ (λ y same r. λ j. turn r (λ u. on_done (settled c.line (statement_done t.structs line y u)) (λ v.
      handled_alike without_atoms without_atoms w w' c functions true (λ h n vs q. refl) f.actions (inr refl) v j)))

-- ---- programs

module _ (t : TypedData) (forms : List StatementForm) (calls : List LibraryCall) where
  -- what stands in the place of an embedded statement
  abbrev pub Stands : ℕ → ℕ → Stm → Type 0
  Stands line n x = IsWrittenAt t forms calls (λ _. x) line n

  no_labels : (line n : ℕ) (y : Stm) → Stands line n y → (l : Mark) → holds l y ≡ false
  no_labels line n y h l = (λ j. holds l (h.is_text j)) ∙ tests_bare l line h.form.actions

  in_place : (w w' : World) → TidyWorld w → ((line f : ℕ) (vs : List ValueData) (s : State) → w (calls_task line f vs) s ≡ w' (calls_task line f vs) s)
      → (c : Context) (n : ℕ) (y : Stm) → Stands c.line n y → (s : State)
      → direct_step t forms w c (embedded n) s ≡ run (library_step calls) w' c y s
  in_place w w' tidy functions c n y h s =
      (λ j. stepped t forms w c n (h.is_emb j) (h.is_form j) s)
      ∙ (λ j. executed_at t forms w c (h.stands j) h.form (h.is_statement j) s)
      ∙ sym (closed_already s.memory _ (executed_leaves w tidy c t forms c.line h.form (Some h.statement) s))
      ∙ (λ j. closing (last_number s.memory) (executed_alike w w' c functions t forms c.line h.form h.statement s j))
      ∙ sym (block_same calls h.number w' c.objects c.first c.line t forms h.form h.statement h.is_call h.rules h.targets h.silent s)
      ∙ (λ j. run (library_step calls) w' c (sym h.is_text j) s)

  pub copies_same : (p q : Program) → IsProgramCopy Stands p q → (s : State) → whole (direct_step t forms) p s ≡ whole (library_step calls) q s
  copies_same p q copy s =
      whole_same Stands no_labels (direct_step t forms) (library_step calls) (direct_tidy t forms) p q copy
      (λ k functions c n y h r. in_place (meaning (direct_step t forms) p.functions k) (meaning (library_step calls) q.functions k) (meaning_tidy (direct_step t forms) (direct_tidy t forms) p.functions k) functions c n y h r)
      s

  -- what stands there by its number
  by_number : (text : ℕ → Stm) (line n : ℕ) → IsWrittenAt t forms calls text line n → Stands line n (text n)
  by_number text line n h = record {
    emb = h.emb;
    form = h.form;
    statement = h.statement;
    number = h.number;
    is_emb = h.is_emb;
    is_form = h.is_form;
    is_statement = h.is_statement;
    stands = h.stands;
    is_call = h.is_call;
    is_text = h.is_text;
    rules = h.rules;
    targets = h.targets;
    silent = h.silent;
  }

  pub programs_same : (text : ℕ → Stm) (p : Program) → CleanProgram (IsWrittenAt t forms calls text) p → (s : State)
      → whole (direct_step t forms) p s ≡ whole (library_step calls) (written_program text p) s
  programs_same text p clean s =
      copies_same p (written_program text p) (program_copy (IsWrittenAt t forms calls text) Stands text (by_number text) p clean) s
