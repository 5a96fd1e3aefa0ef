-- What a call still has to do only adds to what was said: each of its parts does.
use Rattle.std.proofs.Common.{◌≡◌, ◌∙◌, ℕ, List, [], ◌∷◌, Option, Some, None, refl, sym, subst, append-nil}
use Rattle.ec_link.specs.declared.logged.Logged.{Logged}
use Rattle.ec_meaning_defs.specs.evaluation.Agree.{Grows}
use Rattle.ec_meaning_defs.specs.evaluation.State.{Answer, State}
use Rattle.ec_meaning_defs.proofs.evaluation_lemmas.WholeRuns.{grows_on}
use Rattle.ec_meaning_defs.specs.observed.Run.{IsFront}
use Rattle.ec_call_defs.specs.Growth.{state_of}
use Rattle.ec_call_defs.specs.Outcomes.{Outcome, gives, finished, over, next}
use Rattle.ec_stopping_defs.specs.Resuming.{Asking, residual, resumed, going, stepped}
use Rattle.ec_stopping_defs.specs.Saying.{OnlySays, exchange_of}
use Rattle.ec_stopping_defs.proofs.Once.{resumed_says}
use Rattle.ec_stopping_defs.proofs.Parts.{waits_so, resumed_so, step_waits, step_resumed}
use Rattle.ec_stopping_defs.proofs.Silent.{IsSilent}

says_grows : (said : List Logged) (s t : State) → OnlySays said s t → Grows s t
says_grows said s t h = record {
  printed = ([], h.output ∙ sym (append-nil s.output));
  complained = ([], h.errors ∙ sym (append-nil s.errors));
  said = (said, h.conversation);
}

same_grows : (s : State) → Grows s s
same_grows s = record {
  printed = ([], sym (append-nil s.output));
  complained = ([], sym (append-nil s.errors));
  said = ([], sym (append-nil s.conversation));
}

-- what is grown doesn't speak of the answers that are left
with_answers : (s t : State) (xs : List Answer) → Grows (record s { answers = xs }) t → Grows s t
with_answers s t xs g = record { printed = g.printed; complained = g.complained; said = g.said }

waiting_grows : (s : State) → Grows s (record s { answers = [] })
waiting_grows s = with_answers s (record s { answers = [] }) [] (same_grows (record s { answers = [] }))

module _ (line : ℕ) where
  -- behind a part
  grows_from : (xs : List Answer) → ((u : Asking) (s : State) → s.answers ≡ xs → Grows s (state_of (residual line u s)))
      → (o : Outcome (Option Asking)) → (state_of o).answers ≡ xs → Grows (state_of o) (state_of (next o (going line)))
  grows_from xs h (gives None s) is = same_grows s
  grows_from xs h (gives (Some u) s) is = h u s is
  grows_from xs h (finished s) is = same_grows s
  grows_from xs h (over halt s) is = same_grows s

  -- with these answers left
  grows_over : (xs : List Answer) (u : Asking) (s : State) → s.answers ≡ xs → Grows s (state_of (residual line u s))
  grows_over [] u s is =
      let e : s ≡ record s { answers = [] } = λ i. record s { answers = is i } in
      subst (λ t. Grows s (state_of (residual line u t))) (sym e)
      (subst (λ o. Grows s (state_of o)) (sym (waits_so line u s)) (waiting_grows s))
  grows_over (a ∷ more) u s is =
      let e : s ≡ record s { answers = a ∷ more } = λ i. record s { answers = is i } in
      let t : State = record s { answers = more } in
      let o : Outcome (Option Asking) = resumed line u a t in
      let h : OnlySays (exchange_of u a ∷ []) t (state_of o) = resumed_says line u a t in
      subst (λ x. Grows s (state_of (residual line u x))) (sym e)
      (subst (λ x. Grows s (state_of x)) (sym (resumed_so line u a more s))
      (grows_on s (state_of o) (state_of (next o (going line)))
      (with_answers s (state_of o) more (says_grows (exchange_of u a ∷ []) t (state_of o) h))
      (grows_from more (λ v x is. grows_over more v x is) o h.answers)))

  pub residual_grows : (u : Asking) (s : State) → Grows s (state_of (residual line u s))
  residual_grows u s = grows_over s.answers u s refl

  -- one step alone
  pub stepped_front : (u : Asking) (s : State) → IsFront s.conversation (state_of (stepped line u s)).conversation
  stepped_front u s = over_answers s.answers s refl
    where
      over_answers : (xs : List Answer) (t : State) → t.answers ≡ xs → IsFront t.conversation (state_of (stepped line u t)).conversation
      over_answers [] t is =
          let e : t ≡ record t { answers = [] } = λ i. record t { answers = is i } in
          subst (λ x. IsFront t.conversation (state_of (stepped line u x)).conversation) (sym e)
          (subst (λ o. IsFront t.conversation (state_of o).conversation) (sym (step_waits line u t)) (record { rest = []; same = sym (append-nil t.conversation) }))
      over_answers (a ∷ more) t is =
          let e : t ≡ record t { answers = a ∷ more } = λ i. record t { answers = is i } in
          subst (λ x. IsFront t.conversation (state_of (stepped line u x)).conversation) (sym e)
          (subst (λ o. IsFront t.conversation (state_of o).conversation) (sym (step_resumed line u a more t))
          (record { rest = exchange_of u a ∷ []; same = (resumed_says line u a (record t { answers = more })).conversation }))

  pub residual_front : (u : Asking) (s : State) → IsFront s.conversation (state_of (residual line u s)).conversation
  residual_front u s = let g = (residual_grows u s).said in record { rest = g.0; same = g.1 }

-- a part that says nothing
pub silent_front : {A : Type 0} (m : State → Outcome A) → IsSilent m → (s : State) → IsFront s.conversation (state_of (m s)).conversation
silent_front m h s = record { rest = []; same = (h.silent s).conversation ∙ sym (append-nil s.conversation) }
