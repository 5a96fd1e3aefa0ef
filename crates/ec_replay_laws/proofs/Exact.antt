-- Programs that call the library take their answers exactly.
use Rattle.std.proofs.Common.{◌≡◌, ◌∙◌, ℕ, inr, List, [], ◌∷◌, ◌++◌, Option, None, refl, sym, ap, subst, append_assoc, append-nil}
use Rattle.std.proofs.lemmas.List.{map-append}
use Rattle.ec_arguments.specs.Arguments.{Arg}
use Rattle.ec_ctypes.specs.declared.checked.library.LibName.{LibName}
use Rattle.ec_link.specs.declared.logged.Logged.{Logged}
use Rattle.ec_link.specs.declared.reply.Reply.{Reply}
use Rattle.ec_link.specs.declared.reply.Reply.TheVariants.{Broken}
use Rattle.ec_link.specs.declared.request.Request.{Request}
use Rattle.ec_link.specs.Logged.{replies_of}
use Rattle.ec_meaning_defs.specs.resolved.Programs.{Program}
use Rattle.ec_meaning_defs.specs.resolved.Resolved.{Exp}
use Rattle.ec_meaning_defs.specs.evaluation.State.{Answer, State, Ending, exited, trapped, turns_spent, waits, stuck}
use Rattle.ec_meaning_defs.specs.evaluation.Results.{Res, value, on, broke, continued, went, back, over}
use Rattle.ec_meaning_defs.specs.evaluation.Whole.{Observed, seen, observed, opening_state, program_meaning, whole, whole_within}
use Rattle.ec_meaning_defs.specs.evaluation.Agree.{richer, beside, Same, same_value, same_on, same_broke, same_continued, same_went, same_back, same_over, stops_first, Endings, IsOwn, Kept, IsWaiting, Grows, state_of}
use Rattle.ec_meaning_defs.proofs.evaluation_lemmas.WholeRuns.{plain, within_twins, grows_on, waiting_kept}
use Rattle.ec_call_defs.specs.Steps.{library_step}
use Rattle.ec_replay_laws.specs.Taking.{exchange_with, MayWait, replies_in, GoesOnWith, GoesOnExactly, RunsExactly}
use Rattle.ec_replay_laws.proofs.Calls.{told, KeptByCalls}
use Rattle.ec_replay_laws.proofs.Steps.{library_agrees}

-- ---- what is kept: each answer that is gone has its exchange

abbrev Taken : List Reply → State → Type 0
Taken all s = replies_of s.conversation ++ replies_in s.answers ≡ all

taken_by : (all : List Reply) (slot : Option ℕ) (request : Request) (a : Answer) (rest : List Answer) (s : State)
    → s.answers ≡ a ∷ rest → Taken all s → Taken all (told slot request a.1 rest s)
taken_by all slot request a rest s e p =
    let x : Logged = record { slot = slot; request = request; reply = a.1 } in
    ap (λ rs. rs ++ replies_in rest) (map-append (λ (y : Logged). y.reply) s.conversation (x ∷ []))
    ∙ append_assoc (replies_of s.conversation) (a.1 ∷ []) (replies_in rest)
    ∙ sym (ap (λ xs. replies_of s.conversation ++ replies_in xs) e)
    ∙ p

-- ---- what is said behind

-- the first exchange behind a state without answers is that of a request with an answer
record Follows (a : Answer) (slot : Option ℕ) (request : Request) (s t : State) : Type 0 where
  asks : MayWait slot request
  none : s.answers ≡ []
  grows : Grows s t
  rest : List Logged
  said : t.conversation ≡ s.conversation ++ exchange_with slot request a ∷ rest

abbrev FollowsOn : Answer → Ending → State → State → Type 0
FollowsOn a (exited n) s t = ⊥
FollowsOn a (trapped trap line) s t = ⊥
FollowsOn a turns_spent s t = ⊥
FollowsOn a (waits slot request) s t = Follows a slot request s t
FollowsOn a stuck s t = ⊥

abbrev WhenTaken : Answer → Endings
WhenTaken a = record { both = IsOwn; first = FollowsOn a }

follows_later : (a : Answer) (e : Ending) (s t u : State) → FollowsOn a e s t → Grows t u → FollowsOn a e s u
follows_later a (exited n) s t u f g = f
follows_later a (trapped trap line) s t u f g = f
follows_later a turns_spent s t u f g = f
follows_later a (waits slot request) s t u f g = record {
  asks = f.asks;
  none = f.none;
  grows = grows_on s t u f.grows g;
  rest = f.rest ++ g.said.0;
  said = g.said.1 ∙ ap (λ xs. xs ++ g.said.0) f.said ∙ append_assoc s.conversation (exchange_with slot request a ∷ f.rest) g.said.0;
}
follows_later a stuck s t u f g = f

exact_kept : (all : List Reply) (a : Answer) (more : List Answer) → Kept (Taken all) (WhenTaken a) Grows 0 (a ∷ more)
exact_kept all a more = record {
  memory = λ s m p. p;
  printed = λ s output errors p. p;
  turn = λ s k e p. p;
  both = λ e own. own;
  spent = inr refl;
  first_later = follows_later a;
  same_later = (waiting_kept (a ∷ more)).same_later;
  later_still = grows_on;
  memory_later = (waiting_kept (a ∷ more)).memory_later;
  printed_later = (waiting_kept (a ∷ more)).printed_later;
  turn_later = (waiting_kept (a ∷ more)).turn_later;
  richer_later = (waiting_kept (a ∷ more)).richer_later;
}

-- what is said is behind what was said
said_grows : (slot : Option ℕ) (request : Request) (reply : Reply) (rest : List Answer) (s : State) → Grows s (told slot request reply rest s)
said_grows slot request reply rest s = record {
  printed = ([], sym (append-nil s.output));
  complained = ([], sym (append-nil s.errors));
  said = (record { slot = slot; request = request; reply = reply } ∷ [], refl);
}

exact_by_calls : (all : List Reply) (a : Answer) (more : List Answer) → KeptByCalls (Taken all) (WhenTaken a) Grows 0 (a ∷ more)
exact_by_calls all a more = record {
  said = taken_by all;
  said_later = said_grows;
  session = λ cs n ds s p. p;
  session_later = λ cs n ds s. record { printed = ([], sym (append-nil s.output)); complained = ([], sym (append-nil s.errors)); said = ([], sym (append-nil s.conversation)) };
  waits = λ slot request asks s none. record {
    asks = asks;
    none = none;
    grows = record { printed = ([], sym (append-nil s.output)); complained = ([], sym (append-nil s.errors)); said = (exchange_with slot request a ∷ [], refl) };
    rest = [];
    said = refl;
  };
}

-- ---- what is seen

module _ (a : Answer) (more : List Answer) (all : List Reply) where
  abbrev SameRun : Res → Res → Type 0
  SameRun = Same (Taken all) (WhenTaken a) Grows 0 (a ∷ more)

  not_first : (e : Ending) (s t : State) → (IsWaiting e → ⊥) → FollowsOn a e s t → ⊥
  not_first (exited n) s t ends f = f
  not_first (trapped trap line) s t ends f = f
  not_first turns_spent s t ends f = f
  not_first (waits slot request) s t ends f = ends tt
  not_first stuck s t ends f = f

  seen_settled : {o o' : Res} → SameRun o o' → (IsWaiting (observed o).ending → ⊥) → observed o' ≡ observed o
  seen_settled (same_value (beside p)) ends = refl
  seen_settled (same_on (beside p)) ends = refl
  seen_settled (same_broke (beside p)) ends = refl
  seen_settled (same_continued (beside p)) ends = refl
  seen_settled (same_went (beside p)) ends = refl
  seen_settled (same_back (beside p)) ends = refl
  seen_settled (same_over b (beside p)) ends = refl
  seen_settled (stops_first {e = e} {s = s} {o = o} p f) ends = absurd (not_first e s (state_of o) ends f)

  seen_conversation : (o : Res) → (observed o).conversation ≡ (state_of o).conversation
  seen_conversation (value v s) = refl
  seen_conversation (on s) = refl
  seen_conversation (broke s) = refl
  seen_conversation (continued s) = refl
  seen_conversation (went l s) = refl
  seen_conversation (back v s) = refl
  seen_conversation (over e s) = refl

  seen_output : (o : Res) → (observed o).output ≡ (state_of o).output
  seen_output (value v s) = refl
  seen_output (on s) = refl
  seen_output (broke s) = refl
  seen_output (continued s) = refl
  seen_output (went l s) = refl
  seen_output (back v s) = refl
  seen_output (over e s) = refl

  seen_errors : (o : Res) → (observed o).errors ≡ (state_of o).errors
  seen_errors (value v s) = refl
  seen_errors (on s) = refl
  seen_errors (broke s) = refl
  seen_errors (continued s) = refl
  seen_errors (went l s) = refl
  seen_errors (back v s) = refl
  seen_errors (over e s) = refl

  module _ (slot : Option ℕ) (request : Request) where
    record Goes (o o' : Observed) : Type 0 where
      asks : MayWait slot request
      taken : replies_of o.conversation ≡ all
      next : GoesOnWith (exchange_with slot request a) o o'

    never : {A : Type 0} (e : Ending) → IsOwn e → e ≡ waits slot request → A
    never e own is = absurd (subst IsOwn is own)

    goes : (e : Ending) (s : State) (o' : Res) → e ≡ waits slot request → Taken all s → FollowsOn a e s (state_of o') → Goes (seen e s) (observed o')
    goes e s o' is p f =
        let g = subst (λ x. FollowsOn a x s (state_of o')) is f in
        record {
          asks = g.asks;
          taken = sym (append-nil (replies_of s.conversation)) ∙ sym (ap (λ xs. replies_of s.conversation ++ replies_in xs) g.none) ∙ p;
          next = record {
            rest = g.rest;
            said = seen_conversation o' ∙ g.said;
            printed = record { rest = g.grows.printed.0; same = seen_output o' ∙ g.grows.printed.1 };
            complained = record { rest = g.grows.complained.0; same = seen_errors o' ∙ g.grows.complained.1 };
          };
        }

    seen_waiting : {o o' : Res} → SameRun o o' → (observed o).ending ≡ waits slot request → Goes (observed o) (observed o')
    seen_waiting (same_value p) is = never stuck tt is
    seen_waiting (same_on p) is = never stuck tt is
    seen_waiting (same_broke p) is = never stuck tt is
    seen_waiting (same_continued p) is = never stuck tt is
    seen_waiting (same_went p) is = never stuck tt is
    seen_waiting (same_back p) is = never stuck tt is
    seen_waiting (same_over {e = e} b p) is = never e b is
    seen_waiting (stops_first {e = e} {s = s} {o = o} p f) is = goes e s o is p f

-- ---- whole runs

module _ (calls : List (LibName × List (Arg Exp))) (p : Program) (turns : ℕ) (ready : Option (ℕ × List ℕ)) where
  abbrev run : List Answer → Observed
  run answers = program_meaning (library_step calls) p turns ready answers

  -- the opening state with further answers
  opens_richer : (answers more : List Answer) → richer 0 more (opening_state ready answers turns) ≡ opening_state ready (answers ++ more) turns
  opens_richer answers more =
      let e : richer 0 [] (opening_state ready [] turns) ≡ opening_state ready [] turns = plain (opening_state ready [] turns) in
      λ i. record (opening_state ready (answers ++ more) turns) { turns = (e i).turns }

  runs_on : (answers : List Answer) (a : Answer) (more : List Answer)
      → SameRun a more (replies_in answers) (whole (library_step calls) p (opening_state ready answers turns)) (whole (library_step calls) p (opening_state ready (answers ++ a ∷ more) turns))
  runs_on answers a more =
      let s : State = opening_state ready answers turns in
      let b = within_twins (Taken (replies_in answers)) (WhenTaken a) Grows 0 (a ∷ more) (exact_kept (replies_in answers) a more) (library_step calls)
      (library_agrees (Taken (replies_in answers)) (WhenTaken a) Grows 0 (a ∷ more) (exact_kept (replies_in answers) a more) (exact_by_calls (replies_in answers) a more) calls)
      p turns s (richer 0 (a ∷ more) s) (beside refl) in
      subst (λ t. SameRun a more (replies_in answers) (whole (library_step calls) p s) (whole_within (library_step calls) p turns t)) (opens_richer answers (a ∷ more)) b

  run_settled : (answers more : List Answer) → (IsWaiting (run answers).ending → ⊥) → run (answers ++ more) ≡ run answers
  run_settled answers [] ends = ap run (append-nil answers)
  run_settled answers (a ∷ more) ends = seen_settled a more (replies_in answers) (runs_on answers a more) ends

  nothing : Answer
  nothing = (None, Broken)

  run_waiting : (answers : List Answer) (slot : Option ℕ) (request : Request) → (run answers).ending ≡ waits slot request → GoesOnExactly run answers slot request
  run_waiting answers slot request is =
      let first = λ (a : Answer) (more : List Answer). seen_waiting a more (replies_in answers) slot request (runs_on answers a more) is in
      record {
        asks = (first nothing []).asks;
        taken = (first nothing []).taken;
        next = λ a more. (first a more).next;
      }

  pub runs_exactly : RunsExactly run
  runs_exactly = record { settled = run_settled; waiting = run_waiting }
