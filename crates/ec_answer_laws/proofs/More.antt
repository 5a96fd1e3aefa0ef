-- With one answer more.
use Rattle.std.proofs.Common.{◌≡◌, ◌∙◌, ℕ, List, [], ◌∷◌, ◌++◌, Option, refl, sym, ap, subst}
use Rattle.ec_link.specs.declared.request.Request.{Request}
use Rattle.ec_meaning_defs.specs.resolved.Programs.{Program}
use Rattle.ec_meaning_defs.specs.evaluation.State.{Answer, State, Ending, exited, trapped, turns_spent, waits, stuck}
use Rattle.ec_meaning_defs.specs.evaluation.Results.{Res, value, on, broke, continued, went, back, over}
use Rattle.ec_meaning_defs.specs.evaluation.Evaluate.{Step}
use Rattle.ec_meaning_defs.specs.evaluation.Whole.{Observed, seen, observed, opening_state, program_meaning, whole}
use Rattle.ec_meaning_defs.specs.evaluation.Agree.{IsWaiting, IsNot, GoesOn, GoesOnWith, TakesMoreAnswers, richer, richer_result, state_of}
use Rattle.ec_meaning_defs.proofs.evaluation_lemmas.WholeRuns.{more_answers, more_go_on, plain}
use Rattle.ec_answer_laws.specs.OneMore.{GoesOnFrom}

-- ---- what is seen of an answer

seen_richer : (more : List Answer) (o : Res) → observed (richer_result 0 more o) ≡ observed o
seen_richer more (value v s) = refl
seen_richer more (on s) = refl
seen_richer more (broke s) = refl
seen_richer more (continued s) = refl
seen_richer more (went l s) = refl
seen_richer more (back v s) = refl
seen_richer more (over e s) = refl

-- what doesn't wait as it is seen doesn't wait
never_waits : (o : Res) → (IsWaiting (observed o).ending → ⊥) → IsNot IsWaiting o
never_waits (value v s) h = tt
never_waits (on s) h = tt
never_waits (broke s) h = tt
never_waits (continued s) h = tt
never_waits (went l s) h = tt
never_waits (back v s) h = tt
never_waits (over e s) h = h

-- the opening state with further answers
opens_richer : (ready : Option (ℕ × List ℕ)) (answers more : List Answer) (turns : ℕ) → richer 0 more (opening_state ready answers turns) ≡ opening_state ready (answers ++ more) turns
opens_richer ready answers more turns =
    let e : richer 0 [] (opening_state ready [] turns) ≡ opening_state ready [] turns = plain (opening_state ready [] turns) in
    λ i. record (opening_state ready (answers ++ more) turns) { turns = (e i).turns }

seen_output : (o : Res) → (observed o).output ≡ (state_of o).output
seen_output (value v s) = refl
seen_output (on s) = refl
seen_output (broke s) = refl
seen_output (continued s) = refl
seen_output (went l s) = refl
seen_output (back v s) = refl
seen_output (over e s) = refl

seen_errors : (o : Res) → (observed o).errors ≡ (state_of o).errors
seen_errors (value v s) = refl
seen_errors (on s) = refl
seen_errors (broke s) = refl
seen_errors (continued s) = refl
seen_errors (went l s) = refl
seen_errors (back v s) = refl
seen_errors (over e s) = refl

seen_conversation : (o : Res) → (observed o).conversation ≡ (state_of o).conversation
seen_conversation (value v s) = refl
seen_conversation (on s) = refl
seen_conversation (broke s) = refl
seen_conversation (continued s) = refl
seen_conversation (went l s) = refl
seen_conversation (back v s) = refl
seen_conversation (over e s) = refl

module _ (slot : Option ℕ) (request : Request) (a : Answer) where
  went_on : (e : Ending) (s : State) (o' : Res) → e ≡ waits slot request → (IsWaiting e → GoesOnWith (a ∷ []) e s (state_of o')) → GoesOnFrom slot request a (seen e s) (observed o')
  went_on e s o' is h =
      let g = subst (λ x. (IsWaiting x → GoesOnWith (a ∷ []) x s (state_of o'))) is h tt in
      record {
        printed = g.0.printed.0;
        output = seen_output o' ∙ g.0.printed.1;
        complained = g.0.complained.0;
        errors = seen_errors o' ∙ g.0.complained.1;
        exchange = g.1.exchange;
        rest = g.1.rest;
        conversation = seen_conversation o' ∙ g.1.said;
        asked = g.1.asked;
        answered = g.1.answered;
        over_slot = g.1.over_slot;
      }

  seen_on : (o o' : Res) → (observed o).ending ≡ waits slot request → GoesOn (a ∷ []) o o' → GoesOnFrom slot request a (observed o) (observed o')
  seen_on (value v s) o' is h = absurd (subst IsWaiting (sym is) tt)
  seen_on (on s) o' is h = absurd (subst IsWaiting (sym is) tt)
  seen_on (broke s) o' is h = absurd (subst IsWaiting (sym is) tt)
  seen_on (continued s) o' is h = absurd (subst IsWaiting (sym is) tt)
  seen_on (went l s) o' is h = absurd (subst IsWaiting (sym is) tt)
  seen_on (back v s) o' is h = absurd (subst IsWaiting (sym is) tt)
  seen_on (over e s) o' is h = went_on e s o' is h

-- ---- whole runs

module _ (step : Step) (takes : TakesMoreAnswers step) (p : Program) (turns : ℕ) (ready : Option (ℕ × List ℕ)) (answers : List Answer) where
  pub unchanged : (more : List Answer) → (IsWaiting (program_meaning step p turns ready answers).ending → ⊥)
      → program_meaning step p turns ready (answers ++ more) ≡ program_meaning step p turns ready answers
  unchanged more h =
      ap (λ s. observed (whole step p s)) (sym (opens_richer ready answers more turns))
      ∙ ap observed (more_answers step takes p (opening_state ready answers turns) more (never_waits (whole step p (opening_state ready answers turns)) h))
      ∙ seen_richer more (whole step p (opening_state ready answers turns))

  pub goes_on : (a : Answer) (slot : Option ℕ) (request : Request) → (program_meaning step p turns ready answers).ending ≡ waits slot request
      → GoesOnFrom slot request a (program_meaning step p turns ready answers) (program_meaning step p turns ready (answers ++ a ∷ []))
  goes_on a slot request is =
      subst (λ s. GoesOnFrom slot request a (program_meaning step p turns ready answers) (observed (whole step p s))) (opens_richer ready answers (a ∷ []) turns)
      (seen_on slot request a (whole step p (opening_state ready answers turns)) (whole step p (richer 0 (a ∷ []) (opening_state ready answers turns))) is
      (more_go_on step takes p (opening_state ready answers turns) (a ∷ [])))
