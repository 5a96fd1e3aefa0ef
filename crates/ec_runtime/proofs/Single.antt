-- A step from a request makes that request, once.
use Rattle.std.proofs.Common.{◌≡◌, ◌⊎◌, inl, inr, ℕ, List, [], ◌∷◌, ◌++◌, Option, Some, None, Result, Ok, Err, refl, sym, subst, ap, ◌∙◌}
use Rattle.ec_link.specs.declared.logged.Logged.{Logged}
use Rattle.ec_meaning_defs.specs.observed.Observed.{answers_in}
use Rattle.ec_meaning_defs.specs.observed.Run.{IsFront}
use Rattle.ec_meaning_defs.specs.evaluation.State.{Answer, Connection, State}
use Rattle.ec_call_defs.specs.Growth.{state_of}
use Rattle.ec_call_defs.specs.Outcomes.{Outcome, finished, gives, over, stuck, trapped, waiting}
use Rattle.ec_stopping_defs.specs.Resuming.{Asking, stepped}
use Rattle.ec_stopping_defs.specs.Saying.{exchange_of}
use Rattle.ec_stopping_defs.proofs.Once.{resumed_says}
use Rattle.ec_stopping_defs.proofs.Parts.{step_resumed, step_waits}
use Rattle.ec_runtime.specs.declared.stop.Stop.{Stop}
use Rattle.ec_runtime.specs.declared.stop.Stop.TheVariants as stops
use Rattle.ec_runtime.specs.declared.waiting.Waiting.{Waiting}
use Rattle.ec_runtime.specs.Proceeding.{progress_of, IsAsked, IsOnce}
use Rattle.ec_runtime.specs.Says.{Says}
use Rattle.ec_runtime.specs.Waiting.{asking_seen}

-- an outcome that doesn't wait
abbrev Goes : Outcome (Option Asking) → Type 0
Goes (gives u s) = Unit {0}
Goes (finished s) = Unit {0}
Goes (over (trapped trap) s) = Unit {0}
Goes (over (waiting slot r) s) = ⊥
Goes (over stuck s) = Unit {0}

module _ (line : ℕ) (u : Asking) (t : State) (empty : t.conversation ≡ []) where
  abbrev At : List Answer → Outcome (Option Asking)
  At answers = stepped line u (record t { answers = answers })

  -- with an answer it says that exchange
  says_one : (a : Answer) (more : List Answer) → (state_of (At (a ∷ more))).conversation ≡ exchange_of u a ∷ []
  says_one a more =
      ap (λ o. (state_of o).conversation) (step_resumed line u a more t)
      ∙ (resumed_says line u a (record t { answers = more })).conversation
      ∙ ap (λ xs. xs ++ exchange_of u a ∷ []) empty

  leaves_rest : (a : Answer) (more : List Answer) → (state_of (At (a ∷ more))).answers ≡ more
  leaves_rest a more = ap (λ o. (state_of o).answers) (step_resumed line u a more t) ∙ (resumed_says line u a (record t { answers = more })).answers

  once_in : (g : List Logged) → Goes (At (answers_in g ++ [])) → (state_of (At (answers_in g ++ []))).answers ≡ [] → (state_of (At (answers_in g ++ []))).conversation ≡ g → IsAsked u g
  once_in [] goes left said = absurd (subst Goes (step_waits line u t) goes)
  once_in (x ∷ []) goes left said = ((x.slot, x.reply), sym said ∙ says_one (x.slot, x.reply) [])
  once_in (x ∷ y ∷ more) goes left said =
      let both : (y.slot, y.reply) ∷ (answers_in more ++ []) ≡ [] = sym (leaves_rest (x.slot, x.reply) ((y.slot, y.reply) ∷ (answers_in more ++ []))) ∙ left in
      absurd (cc (both))

  front_in : (g : List Logged) → IsFront g (state_of (At (answers_in g ++ []))).conversation → (g ≡ []) ⊎ IsAsked u g
  front_in [] front = inl refl
  front_in (x ∷ more) front = go more (sym (says_one (x.slot, x.reply) (answers_in more ++ [])) ∙ front.same)
    where
      go : (more : List Logged) → exchange_of u (x.slot, x.reply) ∷ [] ≡ (x ∷ more) ++ front.rest → (x ∷ more ≡ []) ⊎ IsAsked u (x ∷ more)
      go [] e = let same : exchange_of u (x.slot, x.reply) ≡ x = cc in inr ((x.slot, x.reply), ap (λ z. z ∷ []) (sym same))
      go (y ∷ ys) e = absurd (cc (e))

  pub once_by : (g : List Logged) (cs : List Connection) (part : Result (Option Waiting) Stop) (v : State) → v.answers ≡ [] → v.conversation ≡ g → Says (asking_seen cs part) (At (answers_in g ++ [])) v
      → (part ≡ Err stops.OutOfMemory → IsFront g (state_of (At (answers_in g ++ []))).conversation) → IsOnce u (progress_of part) g
  once_by g cs (Ok None) v left said h front = once_in g (subst Goes (sym h) tt) (ap (λ o. (state_of o).answers) h ∙ left) (ap (λ o. (state_of o).conversation) h ∙ said)
  once_by g cs (Ok (Some it)) v left said h front = once_in g (subst Goes (sym h) tt) (ap (λ o. (state_of o).answers) h ∙ left) (ap (λ o. (state_of o).conversation) h ∙ said)
  once_by g cs (Err stops.Finished) v left said h front = once_in g (subst Goes (sym h) tt) (ap (λ o. (state_of o).answers) h ∙ left) (ap (λ o. (state_of o).conversation) h ∙ said)
  once_by g cs (Err (stops.Trapped trap)) v left said h front = once_in g (subst Goes (sym h) tt) (ap (λ o. (state_of o).answers) h ∙ left) (ap (λ o. (state_of o).conversation) h ∙ said)
  once_by g cs (Err stops.OutOfMemory) v left said h front = front_in g (front refl)
