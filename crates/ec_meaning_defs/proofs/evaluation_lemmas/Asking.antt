-- The laws hold of a step that takes a turn, makes a request, and takes its answer or waits for it.
use Rattle.std.proofs.Common.{◌≡◌, ℕ, zero, suc, inl, inr, List, [], ◌∷◌, ◌++◌, refl, sym, subst, append-nil}
use Rattle.std.specs.Prelude.{◌⊎◌, None}
use Rattle.ec_link.specs.declared.request.Request.TheVariants.{Close}
use Rattle.ec_meaning_defs.specs.evaluation.State.{Answer, State, turns_spent, waits}
use Rattle.ec_meaning_defs.specs.evaluation.Results.{Res, on, over, on_value, without_answer, turn}
use Rattle.ec_meaning_defs.specs.evaluation.Expanded.{itself, written_program}
use Rattle.ec_meaning_defs.specs.evaluation.Whole.{whole}
use Rattle.ec_meaning_defs.specs.resolved.Programs.{Program}
use Rattle.ec_meaning_defs.specs.evaluation.Agree.{richer, Beside, beside, Same, same_on, same_over, stops_first, Endings, Kept, Alike, Agree, Always, Never, WhenSpent, GoesOnWith, WhenAnswered, Any, Grows, Below, Extends, state_of, CountsTurns, OnlyAdds, TakesMoreTurns, TakesMoreAnswers}
use Rattle.ec_meaning_defs.specs.evaluation.Examples.{asks, asking, as_call}
use Rattle.ec_meaning_defs.proofs.evaluation_lemmas.Induction.{turn_good}
use Rattle.ec_meaning_defs.proofs.evaluation_lemmas.WholeRuns.{always_kept, agreeing_same, below_kept, spent_kept, waiting_kept, extends_kept, grows_on}

-- the state behind an answer
abbrev told : Answer → List Answer → State → State
told a rest s = record s { answers = rest; output = s.output; conversation = s.conversation ++ record { slot = a.0; request = Close; reply = a.1 } ∷ [] }

module _ (P : State → Type 0) (E : Endings) (G : State → State → Type 0) (d : ℕ) (more : List Answer) (kept : Kept P E G d more) (said : (a : Answer) (rest : List Answer) (s : State) → P s → P (told a rest s)) (said_later : (a : Answer) (rest : List Answer) (s : State) → G s (told a rest s)) (stops : ((s : State) → E.first (waits None Close) s (state_of (asks more (richer d more s)))) ⊎ (E.both (waits None Close) × (more ≡ []))) where
  asks_later : (xs : List Answer) (u : State) → G u (state_of (asks xs u))
  asks_later [] u = kept.same_later u
  asks_later (a ∷ rest) u = said_later a rest u

  asks_none : (s : State) → P s → ((t : State) → E.first (waits None Close) t (state_of (asks more (richer d more t)))) ⊎ (E.both (waits None Close) × (more ≡ []))
      → Same P E G d more (over (waits None Close) s) (asks more (richer d more s))
  asks_none s p (inl e) = stops_first p (e s)
  asks_none s p (inr e) = subst (λ xs. Same P E G d more (over (waits None Close) s) (asks xs (richer d more s))) (sym e.1) (same_over e.0 (beside p))

  asks_same : (xs : List Answer) (s : State) → P s → Same P E G d more (asks xs s) (asks (xs ++ more) (richer d more s))
  asks_same [] s p = asks_none s p stops
  asks_same (a ∷ rest) s p = same_on (beside (said a rest s p))

  asks_near : {s s' : State} → Beside P d more s s' → Same P E G d more (asks s.answers s) (asks s'.answers s')
  asks_near (beside {s = s} p) = asks_same s.answers s p

  asks_good : Alike P E G d more (λ s. asks s.answers s) (λ s. asks s.answers s)
  asks_good = record { same = λ s s' p. asks_near p; later = λ u. asks_later u.answers u }

  asking_agrees : Agree P E G d more asking asking itself
  asking_agrees = record {
    no_label = λ l n. refl;
    embeds = λ w w' r c n. turn_good P E G d more kept asks_good;
    libraries = λ w w' r c n vs. turn_good P E G d more kept asks_good;
  }

said_grows : (a : Answer) (rest : List Answer) (s : State) → Grows s (told a rest s)
said_grows a rest s = record {
  printed = ([], sym (append-nil s.output));
  complained = ([], sym (append-nil s.errors));
  said = (record { slot = a.0; request = Close; reply = a.1 } ∷ [], refl);
}

-- a call of the library as a statement
abbrev as_statement : Res → Res
as_statement o = on_value (without_answer o) (λ v t. on t)

asks_plain : (xs : List Answer) (s : State) → as_statement (asks xs s) ≡ asks xs s
asks_plain [] s = refl
asks_plain (a ∷ rest) s = refl

turn_plain : (s : State) → as_statement (turn s (λ t. asks t.answers t)) ≡ turn s (λ t. asks t.answers t)
turn_plain s = go s.turns
  where
    go : (n : ℕ) → as_statement (elim n [ zero ↦ over turns_spent s | suc m ↦ asks s.answers (record s { turns = m }) ]) ≡ elim n [ zero ↦ over turns_spent s | suc m ↦ asks s.answers (record s { turns = m }) ]
    go zero = refl
    go (suc m) = asks_plain s.answers (record s { turns = m })

-- what embedded statements do is what the calls in their place do
pub calls_agree : Agree Always Never Any 0 [] asking asking as_call
calls_agree =
    let a = asks_good Always Never Any 0 [] always_kept (λ a rest s p. tt) (λ a rest s. tt) (inr (tt, refl)) in
    let b = turn_good Always Never Any 0 [] always_kept a in
    record {
      no_label = λ l n. refl;
      embeds = λ w w' r c n. record {
        same = λ s s' p. subst (λ o. Same Always Never Any 0 [] (turn s (λ t. asks t.answers t)) o) (sym (turn_plain s')) (b.same s s' p);
        later = λ u. tt;
      };
      libraries = λ w w' r c n vs. b;
    }

pub asking_counts : CountsTurns asking
asking_counts n = asking_agrees (Below n) Never Any 0 [] (below_kept n) (λ a rest s p. p) (λ a rest s. tt) (inr (tt, refl))

pub asking_adds : OnlyAdds asking
asking_adds old =
    asking_agrees (Extends old) Never Any 0 [] (extends_kept old) (λ a rest s p. record { grows = grows_on old s (told a rest s) p.grows (said_grows a rest s); turns = p.turns }) (λ a rest s. tt) (inr (tt, refl))

pub asking_takes_turns : TakesMoreTurns asking
asking_takes_turns d = asking_agrees Always WhenSpent Any d [] (spent_kept d) (λ a rest s p. tt) (λ a rest s. tt) (inr (tt, refl))

-- the request that waited has the first further answer
pub asking_takes_answers : TakesMoreAnswers asking
asking_takes_answers [] = asking_agrees Always (WhenAnswered []) Grows 0 [] (waiting_kept []) (λ a rest s p. tt) said_grows (inr ((λ w. refl), refl))
asking_takes_answers (a ∷ more) =
    asking_agrees Always (WhenAnswered (a ∷ more)) Grows 0 (a ∷ more) (waiting_kept (a ∷ more)) (λ b rest s p. tt) said_grows (inl (λ s. answers_first s))
  where
    answers_first : (s : State) → GoesOnWith (a ∷ more) (waits None Close) s (told a more (richer 0 (a ∷ more) s))
    answers_first s = (
      record { printed = (said_grows a more s).printed; complained = (said_grows a more s).complained; said = (said_grows a more s).said },
      record {
        exchange = record { slot = a.0; request = Close; reply = a.1 };
        rest = [];
        said = refl;
        asked = refl;
        answered = refl;
        over_slot = inr refl;
      },
    )

pub called_in_place : (p : Program) (s : State) → whole asking p s ≡ whole asking (written_program as_call p) s
called_in_place p s = agreeing_same asking asking as_call calls_agree p s
