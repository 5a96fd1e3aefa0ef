-- The block that is written for a statement does what the statement does with its handlers, and then ends the objects that were made since.
use Rattle.std.proofs.Common.{◌≡◌, ◌∙◌, ℕ, zero, suc, Bool, true, false, List, Some, refl, inl}
use Rattle.std.specs.Prelude.{slice_get}
use Rattle.ec_arguments.specs.Arguments.{name_of}
use Rattle.ec_arguments.specs.Writing.{arguments}
use Rattle.ec_ctypes.specs.declared.embedded.emb.Cond.{Cond}
use Rattle.ec_ctypes.specs.declared.embedded.emb.Cond.TheVariants.{NotFound, Warning, Error}
use Rattle.ec_ctypes.specs.trees.Checked.{TypedData}
use Rattle.ec_ctypes.specs.trees.Types.{StructData}
use Rattle.ec_memory_defs.specs.Memory.{ValueData, number, address, last_number}
use Rattle.ec_meaning_defs.specs.resolved.Labels.{holds, holds_any}
use Rattle.ec_meaning_defs.specs.resolved.Resolved.{Mark, named, Exp, Stms, no_stms, stms}
use Rattle.ec_resolving_defs.specs.Storage.{StatementForm, LibraryCall, ActionForm, goes_on, jumps, prints, stops, leaves, continues, calls_function, ActionForms}
use Rattle.ec_meaning_defs.specs.evaluation.State.{State, Ending, turns_spent}
use Rattle.ec_meaning_defs.specs.evaluation.Results.{Res, value, on, broke, continued, went, back, over, on_value, on_done, at_address, without_answer, turn, closing}
use Rattle.ec_meaning_defs.specs.evaluation.Evaluate.{World, Context, Step, look_for, eval}
use Rattle.ec_meaning_defs.specs.evaluation.Execute.{settle, run, run_all}
use Rattle.ec_meaning_defs.specs.evaluation.Whole.{without_atoms}
use Rattle.ec_call_defs.specs.Outcomes as outcome
use Rattle.ec_call_defs.specs.Steps.{settled, called_of, no_step, library_step}
use Rattle.ec_direct_defs.specs.Statements.{Statement}
use Rattle.ec_direct_defs.specs.Places.{address_of, placed}
use Rattle.ec_direct_defs.specs.Executing.{statement_done}
use Rattle.ec_direct_defs.specs.Handling.{handled}
use Rattle.ec_direct_defs.specs.Direct.{executed_at}
use Rattle.ec_sim_statement_laws.specs.statement.Calls.{call_of, cut_of, keeps_rules, HasTargets}
use Rattle.ec_sim_statement_laws.specs.statement.Steps.{stepped_alone}
use Rattle.ec_sim_statement_laws.specs.statement.Tests.{action_stm, test_before, tests_stms}
use Rattle.ec_sim_statement_laws.specs.statement.Blocks.{call_stm, block_stm, any_calls_library}
use Rattle.ec_sim_statement_laws.proofs.statement_lemmas.Bare.{placed_by}
use Rattle.ec_sim_statement_laws.proofs.statement_lemmas.Kept.{called_same}
use Rattle.ec_sim_statement_laws.proofs.statement_lemmas.Tests.{tests_same}
use Rattle.ec_sim_statement_laws.proofs.statement_lemmas.Plain.{IsPlain, eval_plain, clash_false, handled_alike}

-- ---- what goes on behind a statement goes on behind its places

module _ (k : Res → Res) (passes : (e : Ending) (s : State) → k (over e s) ≡ over e s) where
  turn_then : (s : State) (f : State → Res) → k (turn s f) ≡ turn s (λ t. k (f t))
  turn_then s f = go s.turns
    where
      go : (n : ℕ) → k (elim n [ zero ↦ over turns_spent s | suc m ↦ f (record s { turns = m }) ]) ≡ elim n [ zero ↦ over turns_spent s | suc m ↦ k (f (record s { turns = m })) ]
      go zero = passes turns_spent s
      go (suc m) = refl

  at_then : (v : ValueData) (s : State) (f : ℕ → Res) → k (at_address v s f) ≡ at_address v s (λ p. k (f p))
  at_then (address p) s f = refl
  at_then (number z) s f = passes _ s

  value_then : (o : Res) → IsPlain o → (f : ℕ → State → Res)
      → k (on_value o (λ v t. at_address v t (λ p. f p t))) ≡ on_value o (λ v t. at_address v t (λ p. k (f p t)))
  value_then (value v s) h f = at_then v s (λ p. f p s)
  value_then (on s) h f = absurd h
  value_then (broke s) h f = absurd h
  value_then (continued s) h f = absurd h
  value_then (went l s) h f = absurd h
  value_then (back v s) h f = absurd h
  value_then (over e s) h f = passes e s

  module _ (step : Step) (w : World) (c : Context) where
    address_then : (e : Exp) (s : State) (f : ℕ → State → Res) → k (address_of step w c e s f) ≡ address_of step w c e s (λ p t. k (f p t))
    address_then e s f = value_then (eval step w c e s) (eval_plain step w c e s) f

    placed_then : (x : Statement Exp) (s : State) (f : Statement ℕ → State → Res) → k (placed step w c x s f) ≡ placed step w c x s (λ y t. k (f y t))
    placed_then x s f =
        placed_by step step w w c (λ s a b. k a ≡ b)
        (λ e s f g h. address_then e s f ∙ (λ j. address_of step w c e s (λ p t. h p t j)))
        x s f (λ y t. k (f y t)) (λ y same t. refl)

    -- behind its turn too
    alone_then : (structs : List StructData) (line : ℕ) (x : Statement Exp) (s : State)
        → k (stepped_alone step w c structs line x s)
        ≡ placed step w c x s (λ y t. turn t (λ u. k (settled c.line (statement_done structs line y u))))
    alone_then structs line x s =
        placed_then x s (λ y t. turn t (λ u. settled c.line (statement_done structs line y u)))
        ∙ (λ j. placed step w c x s (λ y t. turn_then t (λ u. settled c.line (statement_done structs line y u)) j))

-- ---- the call as a statement

abbrev as_statement : Res → Res
as_statement o = on_value (without_answer o) (λ v t. on t)

settled_as_statement : (line : ℕ) (o : outcome.Outcome (Unit {0})) → as_statement (settled line o) ≡ settled line o
settled_as_statement line (outcome.gives a s) = refl
settled_as_statement line (outcome.finished s) = refl
settled_as_statement line (outcome.over halt s) = refl

-- ---- no test has a label

action_bare : (l : Mark) (a : ActionForm) → holds l (action_stm a) ≡ false
action_bare l goes_on = refl
action_bare l (jumps m) = refl
action_bare l prints = refl
action_bare l stops = refl
action_bare l leaves = refl
action_bare l continues = refl
action_bare l (calls_function e) = refl

before_bare : (l : Mark) (n : ℕ) (condition : Cond) (a : ActionForm) (rest : Stms) → holds_any l rest ≡ false → holds_any l (test_before n condition a rest) ≡ false
before_bare l n condition goes_on rest h = h
before_bare l n condition (jumps m) rest h = h
before_bare l n condition prints rest h = h
before_bare l n condition stops rest h = h
before_bare l n condition leaves rest h = h
before_bare l n condition continues rest h = h
before_bare l n condition (calls_function e) rest h = h

pub tests_bare : (l : Mark) (n : ℕ) (actions : ActionForms) → holds_any l (tests_stms n actions) ≡ false
tests_bare l n actions =
    before_bare l n NotFound actions.none_found _ (before_bare l n Warning actions.warning _ (before_bare l n Error actions.error no_stms refl))

-- a block without labels answers no `goto`
pub settle_bare : (w : World) (c : Context) (b : Stms) → ((l : Mark) → holds_any l b ≡ false) → (o : Res) → settle w c b o ≡ o
settle_bare w c b h (value v s) = refl
settle_bare w c b h (on s) = refl
settle_bare w c b h (broke s) = refl
settle_bare w c b h (continued s) = refl
settle_bare w c b h (went l s) = λ j. elim (h (named l) j) [ true ↦ w (look_for c l b) s | false ↦ went l s ]
settle_bare w c b h (back v s) = refl
settle_bare w c b h (over e s) = refl

-- ---- the block

module _ (calls : List LibraryCall) (k : ℕ) (w : World) (objects : List ℕ) (first : Bool) (line : ℕ) (t : TypedData) (forms : List StatementForm) (f : StatementForm) (x : Statement Exp)
    (is_call : slice_get calls k ≡ Some (name_of (call_of t.structs x), arguments (cut_of t.structs line x)))
    (rules : keeps_rules t.structs x ≡ true) (targets : HasTargets x) (silent : any_calls_library f.actions ≡ false) where
  abbrev here : Context
  here = record { line = line; objects = objects; first = first }

  call_same : (s : State) → run (library_step calls) w here (call_stm line k) s ≡ stepped_alone without_atoms w here t.structs line x s
  call_same s =
      (λ j. as_statement (called_of no_step w here (is_call j) s))
      ∙ (λ j. as_statement (called_same no_step w here t.structs line x rules targets s j))
      ∙ alone_then as_statement (λ e s. refl) without_atoms w here t.structs line x s
      ∙ (λ j. placed without_atoms w here x s (λ y u. turn u (λ r. settled_as_statement line (statement_done t.structs line y r) j)))

  statements_same : (s : State)
      → run_all (library_step calls) w here (stms (call_stm line k) (tests_stms line f.actions)) s
      ≡ executed_at t forms w here line f (Some x) s
  statements_same s =
      (λ j. on_done (call_same s j) (λ u. tests_same (library_step calls) w here line f.actions u j))
      ∙ (λ j. on_done (stepped_alone without_atoms w here t.structs line x s) (λ u. handled_alike (library_step calls) without_atoms w w here (λ n g vs r. refl) false clash_false f.actions (inl silent) u j))
      ∙ alone_then (λ o. on_done o (λ u. handled without_atoms w here f.actions u)) (λ e s. refl) without_atoms w here t.structs line x s

  pub block_same : (s : State)
      → run (library_step calls) w here (block_stm line k f.actions) s
      ≡ closing (last_number s.memory) (executed_at t forms w here line f (Some x) s)
  block_same s =
      (λ j. closing (last_number s.memory) (settle_bare w here statements (λ l. tests_bare l line f.actions) (run_all (library_step calls) w here statements s) j))
      ∙ (λ j. closing (last_number s.memory) (statements_same s j))
    where
      statements : Stms
      statements = stms (call_stm line k) (tests_stms line f.actions)
