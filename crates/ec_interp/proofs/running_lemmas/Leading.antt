-- Runs that go on from where others came to.
use Rattle.std.proofs.Common.{◌≡◌, ◌∙◌, refl, sym, ap, subst, arith, ℕ, ◌<◌, ◌≤◌, List, [], ◌∷◌, ◌++◌, append_assoc, append-nil, Option, Some, None, Bool, true, Result, Ok, Err, inl, inr, map}
use Rattle.std.specs.Prelude.{◌⊎◌, reverse, OnOk, OnErr}
use Rattle.std.specs.Option.{option_map}
use Rattle.ec_base.specs.Causes.{Rose}
use Rattle.ec_base.specs.Putting.{Puts, PutsPart}
use Rattle.ec_base.proofs.Transfers.{Puts-none, Puts-then, Took-puts, Took-then}
use Rattle.ec_code.specs.declared.program.Function.{Function}
use Rattle.ec_code.specs.Views.{function_view}
use Rattle.ec_link.specs.declared.logged.Logged.{Logged}
use Rattle.ec_meaning_defs.specs.observed.Observed.{answers_in}
use Rattle.ec_meaning_defs.specs.resolved.Resolved.{library}
use Rattle.ec_meaning_defs.specs.evaluation.Agree.{Grows, state_of}
use Rattle.ec_meaning_defs.specs.evaluation.Evaluate.{World, Step as Knowing}
use Rattle.ec_meaning_defs.specs.evaluation.Results.{Res, value, on, over, no_value, or_no_value, without_answer}
use Rattle.ec_meaning_defs.specs.evaluation.State.{Answer, State, stuck}
use Rattle.ec_meaning_defs.specs.evaluation.Whole.{main_run}
use Rattle.ec_printf.specs.declared.formats.known.Channel.{Channel}
use Rattle.ec_printf.specs.declared.formats.known.Channel.TheVariants as channels
use Rattle.ec_bytes.specs.declared.scalar.address.Ptr.{Ptr}
use Rattle.ec_memory_defs.specs.Memory.{Memory}
use Rattle.ec_plain.specs.Answered.{context}
use Rattle.ec_machine.specs.declared.frame.Focus.{Focus}
use Rattle.ec_machine.specs.declared.frame.Focus.TheVariants as focus
use Rattle.ec_machine.specs.declared.machine.Machine.{Machine}
use Rattle.ec_machine.specs.declared.stop.End.{End}
use Rattle.ec_machine.specs.declared.stop.Stop.{Stop}
use Rattle.ec_machine.specs.declared.stop.Stop.TheVariants as stop
use Rattle.ec_machine.specs.Frames.{objects_of, resume, waiting}
use Rattle.ec_machine.specs.Goes.{Stands, at, ending_view, env_of, tasks}
use Rattle.ec_machine.specs.Weights.{IsOutside}
use Rattle.ec_machine.proofs.Moves.{resume_over}
use Rattle.ec_values.specs.Words.{word_view}
use Rattle.ec_values.specs.declared.word.Word.{Word}
use Rattle.ec_interp.specs.declared.running.halt.Halt.{Halt}
use Rattle.ec_interp.specs.declared.running.halt.Halt.TheVariants as halt
use Rattle.ec_interp.specs.declared.running.library.Progress.{Progress}
use Rattle.ec_interp.specs.declared.running.library.Progress.TheVariants as progress
use Rattle.ec_interp.specs.running.Halts.{halt_of}
use Rattle.ec_interp.specs.running.LibraryRuns.{AsksWith, BeginsWith, ComesWith, EndsWith, GoesWith, HaltsOnce, HaltsWith, Idle, LeadsWith, Nears, TakesTurn, grown}
use Rattle.ec_interp.specs.running.Printing.{Prints, PrintsPart, on_errors, on_output}
use Rattle.ec_interp.specs.running.Runs.{Run, added, answer_going, answer_with}
use Rattle.ec_interp.specs.running.Sessions.{Adds, AsksOnce, Carried, Going, Leads, OneMore, Part, Said, SameLog, Session, Started, holding, placed, saying}
use Rattle.ec_interp.proofs.running_lemmas.Growing.{calls_grow, grows_on, mains_grow, resumes_grows, stands_grows, unanswered_grows}

-- ---- what was printed and said

-- some state
empty : State
empty = record { memory = []; output = []; errors = []; connections = []; current = None; descriptors = []; conversation = []; answers = []; turns = 0 }

pub grown_none : (s : State) → grown [] [] [] s ≡ s
grown_none s = λ i. record s { output = append-nil s.output i; errors = append-nil s.errors i; conversation = append-nil s.conversation i }

pub grown_twice : (p c : List ℕ) (g : List Logged) (q d : List ℕ) (h : List Logged) (s : State) → grown q d h (grown p c g s) ≡ grown (p ++ q) (c ++ d) (g ++ h) s
grown_twice p c g q d h s = λ i. record s { output = append_assoc s.output p q i; errors = append_assoc s.errors c d i; conversation = append_assoc s.conversation g h i }

-- nothing was printed
saying_grown : (g : List Logged) (s : State) → grown [] [] g s ≡ saying g s
saying_grown g s = λ i. record s { output = append-nil s.output i; errors = append-nil s.errors i; conversation = s.conversation ++ g }

-- nothing was said
pub added_grown : (p c : List ℕ) (s : State) → grown p c [] s ≡ added p c s
added_grown p c s = λ i. record s { output = s.output ++ p; errors = s.errors ++ c; conversation = append-nil s.conversation i }

-- the answers of two logs, and others
pub answers_twice : (g h : List Logged) (rest : List Answer) → answers_in (g ++ h) ++ rest ≡ answers_in g ++ (answers_in h ++ rest)
answers_twice [] h rest = refl
answers_twice (x ∷ g) h rest = λ i. (x.slot, x.reply) ∷ answers_twice g h rest i

pub said_none : (x : Option Session) → Said x x []
said_none None = refl
said_none (Some x) = sym (append-nil x.log)

pub said_twice : (x y z : Option Session) (g h : List Logged) → Said x y g → Said y z h → Said x z (g ++ h)
said_twice None None None g h a b = ap (λ l. l ++ h) a ∙ b
said_twice None None (Some z) g h a b = absurd b
said_twice None (Some y) z g h a b = absurd a
said_twice (Some x) None z g h a b = absurd a
said_twice (Some x) (Some y) None g h a b = absurd b
said_twice (Some x) (Some y) (Some z) g h a b = b ∙ ap (λ l. l ++ h) a ∙ append_assoc x.log g h

-- what was printed and said grows whatever is known, and whatever the memory and the turns are
grows_at : (x : Option Session) (answers : List Answer) (s : State) (m : Machine) (t : State) → Grows (at (placed x answers s) m) t → Grows s t
grows_at None answers s m t g = record { printed = g.printed; complained = g.complained; said = g.said }
grows_at (Some x) answers s m t g = record { printed = g.printed; complained = g.complained; said = g.said }

said_at : (x : Option Session) (answers : List Answer) (s : State) (m : Machine) (t : State) → ((more : List Logged) × (t.conversation ≡ (at (placed x answers s) m).conversation ++ more)) → (more : List Logged) × (t.conversation ≡ s.conversation ++ more)
said_at None answers s m t h = h
said_at (Some x) answers s m t h = h

module _ (knowing : Knowing) (adds : Adds knowing) (fs : List Function) where
  -- nothing was printed or said yet
  pub begins_none : (x y : Option Session) (old : Machine) (f : Focus) → BeginsWith old.turns (λ k s. answer_with knowing fs k old f s) x y [] [] []
  begins_none x y old f = λ k s rest l.
      let o = answer_with knowing fs k old f (placed x rest s) in
      subst (λ t. Grows t (state_of o)) (sym (grown_none s))
      (grows_at x rest s old (state_of o) (stands_grows knowing adds fs k (env_of old) (reverse old.frames) old.line old.text f (at (placed x rest s) old)))

  pub main_begins : (x y : Option Session) (old : Machine) (f : Function) → BeginsWith old.turns (λ k s. main_run knowing (tasks knowing fs k) (Some (function_view f)) (at s old)) x y [] [] []
  main_begins x y old f = λ k s rest l.
      let o = main_run knowing (tasks knowing fs k) (Some (function_view f)) (at (placed x rest s) old) in
      subst (λ t. Grows t (state_of o)) (sym (grown_none s))
      (grows_at x rest s old (state_of o) (mains_grow knowing adds fs k (Some (function_view f)) (at (placed x rest s) old)))

module _ (knowing : Knowing) (fs : List Function) (turns : ℕ) (run : Run) where
  -- ---- from where the run stands, as one step says

  leads_step : (x : Option Session) (r : Result Focus Stop) (new : Machine) (g : Focus) → r ≡ Ok g
      → ((k : ℕ) (s : State) → turns < k → Stands knowing (tasks knowing fs k) s new r (run k s)) → LeadsWith turns run x x [] [] [] knowing fs new g
  leads_step x r new g e goes = λ k s rest l.
      subst (λ y. Stands knowing (tasks knowing fs k) (placed x rest s) new y (run k (placed x rest s))) e (goes k (placed x rest s) l)
      ∙ ap (λ t. answer_with knowing fs k new g (placed x rest t)) (sym (grown_none s))

  ends_step : (x : Option Session) (r : Result Focus Stop) (new : Machine) (e : End) → r ≡ Err (stop.Over e)
      → ((k : ℕ) (s : State) → turns < k → Stands knowing (tasks knowing fs k) s new r (run k s)) → EndsWith turns run x x [] [] [] new e
  ends_step x r new e i goes = λ k s rest l.
      subst (λ y. Stands knowing (tasks knowing fs k) (placed x rest s) new y (run k (placed x rest s))) i (goes k (placed x rest s) l)
      ∙ ap (λ t. over (ending_view e) (at (placed x rest t) new)) (sym (grown_none s))

  -- ---- to a focus, and on

  module _ (x y z : Option Session) (p c : List ℕ) (g : List Logged) (q d : List ℕ) (h : List Logged) (mid : Machine) (f : Focus) (fewer : mid.turns ≤ turns) (leads : LeadsWith turns run x y p c g knowing fs mid f) where
    to_mid : (k : ℕ) (s : State) (rest : List Answer) → turns < k → run k (placed x (answers_in (g ++ h) ++ rest) s) ≡ answer_with knowing fs k mid f (placed y (answers_in h ++ rest) (grown p c g s))
    to_mid k s rest l = ap (λ answers. run k (placed x answers s)) (answers_twice g h rest) ∙ leads k s (answers_in h ++ rest) l

    leads_on : (new : Machine) (f' : Focus) → LeadsWith mid.turns (λ k s. answer_with knowing fs k mid f s) y z q d h knowing fs new f' → LeadsWith turns run x z (p ++ q) (c ++ d) (g ++ h) knowing fs new f'
    leads_on new f' b = λ k s rest l.
        to_mid k s rest l ∙ b k (grown p c g s) rest (omega (arith, fewer, l)) ∙ ap (λ t. answer_with knowing fs k new f' (placed z rest t)) (grown_twice p c g q d h s)

    goes_on : (new : Machine) (g' : Going) → GoesWith mid.turns (λ k s. answer_with knowing fs k mid f s) y z q d h knowing fs new g' → GoesWith turns run x z (p ++ q) (c ++ d) (g ++ h) knowing fs new g'
    goes_on new g' b = λ k s rest l.
        to_mid k s rest l ∙ b k (grown p c g s) rest (omega (arith, fewer, l)) ∙ ap (λ t. answer_going knowing fs k new g' (placed z rest t)) (grown_twice p c g q d h s)

    ends_on : (new : Machine) (e : End) → EndsWith mid.turns (λ k s. answer_with knowing fs k mid f s) y z q d h new e → EndsWith turns run x z (p ++ q) (c ++ d) (g ++ h) new e
    ends_on new e b = λ k s rest l.
        to_mid k s rest l ∙ b k (grown p c g s) rest (omega (arith, fewer, l)) ∙ ap (λ t. over (ending_view e) (at (placed z rest t) new)) (grown_twice p c g q d h s)

    begins_on : BeginsWith mid.turns (λ k s. answer_with knowing fs k mid f s) y z q d h → BeginsWith turns run x z (p ++ q) (c ++ d) (g ++ h)
    begins_on b = λ k s rest l.
        subst (λ o. Grows (grown (p ++ q) (c ++ d) (g ++ h) s) (state_of o)) (sym (to_mid k s rest l))
        (subst (λ t. Grows t (state_of (answer_with knowing fs k mid f (placed y (answers_in h ++ rest) (grown p c g s))))) (grown_twice p c g q d h s)
        (b k (grown p c g s) rest (omega (arith, fewer, l))))

-- ---- bytes that are put

-- the state behind what was put
put_there : (x : Option Session) (rest : List Answer) (m : Machine) (printed complained : List ℕ) (s : State)
    → record (at (placed x rest s) m) { memory = m.store; output = (placed x rest s).output ++ printed; errors = (placed x rest s).errors ++ complained } ≡ at (placed x rest (grown printed complained [] s)) m
put_there None rest m printed complained s = ap (λ t. at t m) (sym (added_grown printed complained s))
put_there (Some x) rest m printed complained s = ap (λ t. at (placed (Some x) rest t) m) (sym (added_grown printed complained s))

pub puts_lead : (knowing : Knowing) (fs : List Function) (x : Option Session) (m : Machine) (channel : Channel) (v : Option Word) (y : Word) → word_view y ≡ or_no_value (option_map word_view v)
    → LeadsWith m.turns (λ k s. answer_with knowing fs k m (focus.Puts channel v) s) x x (on_output channel m.text) (on_errors channel m.text) [] knowing fs m (focus.Value y)
puts_lead knowing fs x m channels.StandardOutput v y e = λ k s rest l.
    λ i. resume knowing (tasks knowing fs k) (env_of m) (reverse m.frames) (value (sym e i) (put_there x rest m m.text [] s i))
puts_lead knowing fs x m channels.StandardError v y e = λ k s rest l.
    λ i. resume knowing (tasks knowing fs k) (env_of m) (reverse m.frames) (value (sym e i) (put_there x rest m [] m.text s i))

-- a front of a text, and the text
front_of : (x : Channel) (front rest text : List ℕ) → text ≡ front ++ rest → (s : State) → Grows (grown (on_output x front) (on_errors x front) [] s) (grown (on_output x text) (on_errors x text) [] s)
front_of channels.StandardOutput front rest text e s = record {
  printed = (rest, ap (λ t. s.output ++ t) e ∙ sym (append_assoc s.output front rest));
  complained = ([], sym (append-nil (s.errors ++ [])));
  said = ([], sym (append-nil (s.conversation ++ [])));
}
front_of channels.StandardError front rest text e s = record {
  printed = ([], sym (append-nil (s.output ++ [])));
  complained = (rest, ap (λ t. s.errors ++ t) e ∙ sym (append_assoc s.errors front rest));
  said = ([], sym (append-nil (s.conversation ++ [])));
}

module _ (knowing : Knowing) (adds : Adds knowing) (fs : List Function) (x y : Option Session) (m : Machine) (v : Option Word) where
  text_out : (channel : Channel) (k : ℕ) (s : State) (rest : List Answer) → Grows (grown (on_output channel m.text) (on_errors channel m.text) [] s) (state_of (answer_with knowing fs k m (focus.Puts channel v) (placed x rest s)))
  text_out channels.StandardOutput k s rest =
      let o = answer_with knowing fs k m (focus.Puts channels.StandardOutput v) (placed x rest s) in
      grows_at x rest (grown m.text [] [] s) m (state_of o)
      (subst (λ t. Grows t (state_of o)) (put_there x rest m m.text [] s)
      (resumes_grows knowing adds fs k (env_of m) (reverse m.frames) (value (or_no_value (option_map word_view v)) (record (at (placed x rest s) m) { memory = m.store; output = (placed x rest s).output ++ m.text; errors = (placed x rest s).errors ++ [] }))))
  text_out channels.StandardError k s rest =
      let o = answer_with knowing fs k m (focus.Puts channels.StandardError v) (placed x rest s) in
      grows_at x rest (grown [] m.text [] s) m (state_of o)
      (subst (λ t. Grows t (state_of o)) (put_there x rest m [] m.text s)
      (resumes_grows knowing adds fs k (env_of m) (reverse m.frames) (value (or_no_value (option_map word_view v)) (record (at (placed x rest s) m) { memory = m.store; output = (placed x rest s).output ++ []; errors = (placed x rest s).errors ++ m.text }))))

  -- a front of the bytes that are put is printed first
  pub puts_begin : (channel : Channel) (front rest : List ℕ) → m.text ≡ front ++ rest → BeginsWith m.turns (λ k s. answer_with knowing fs k m (focus.Puts channel v) s) x y (on_output channel front) (on_errors channel front) []
  puts_begin channel front rest e = λ k s more l.
      grows_on (grown (on_output channel front) (on_errors channel front) [] s) (grown (on_output channel m.text) (on_errors channel m.text) [] s) (state_of (answer_with knowing fs k m (focus.Puts channel v) (placed x more s)))
      (front_of channel front rest m.text e s) (text_out channel k s more)

-- ---- calls of the library

-- what is equal is put in place
pub started_with : (knowing : Knowing) (n : ℕ) {line turns turns' : ℕ} {given given' : List Word} {scope scope' : List Ptr} {m m' : Memory} {x y : Option Session} {g : Option Going} {r : Result Progress Stop} → scope ≡ scope' → given ≡ given'
    → Started knowing n (map word_view given) line scope m turns x m' turns' y g r → Started knowing n (map word_view given') line scope' m turns x m' turns' y g r
started_with knowing n {line} {turns} {turns'} {given} {given'} {scope} {scope'} {m} {m'} {x} {y} {g} {r} p q h =
    subst (λ sc. Started knowing n (map word_view given') line sc m turns x m' turns' y g r) p (subst (λ ws. Started knowing n (map word_view ws) line scope m turns x m' turns' y g r) q h)

-- only a call that waits is kept
pub leads_done : (line : ℕ) (g : Option Going) (o : Res) (s : State) → Leads line (Ok progress.Done) g o s → o ≡ on s
leads_done line None o s h = h
leads_done line (Some g) o s h = absurd h

leads_over : (line : ℕ) (e : End) (g : Option Going) (o : Res) (s : State) → Leads line (Err (stop.Over e)) g o s → o ≡ over (ending_view e) s
leads_over line e None o s h = h
leads_over line e (Some g) o s h = absurd h

leads_left : (line : ℕ) (g : Option Going) (o : Res) (s : State) → Leads line (Err stop.OutOfMemory) g o s → (more : List Logged) × ((state_of o).conversation ≡ s.conversation ++ more)
leads_left line None o s h = h
leads_left line (Some g) o s h = absurd h

kept_none : (line : ℕ) (r : Result Progress Stop) (g : Option Going) (o : Res) (s : State) → (r ≡ Ok progress.Asks → ⊥) → Leads line r g o s → g ≡ None
kept_none line r None o s n h = refl
kept_none line (Ok progress.Done) (Some g) o s n h = absurd h
kept_none line (Ok progress.Asks) (Some g) o s n h = absurd (n refl)
kept_none line (Err (stop.Over e)) (Some g) o s n h = absurd h
kept_none line (Err stop.OutOfMemory) (Some g) o s n h = absurd h

module _ (knowing : Knowing) (fs : List Function) (x y : Option Session) (m : Machine) (part : Part) (store : Memory) (turns : ℕ) (g : Option Going) (growth : List Logged) where
  abbrev behind_call : Machine
  behind_call = record m { store = store; turns = turns }

  -- the whole run, from the part of the call on
  abbrev pub from_part : Run
  from_part k s = resume knowing (tasks knowing fs k) (env_of m) (reverse m.frames) (without_answer (part (tasks knowing fs k) m.first (at s m)))

  -- what a part of this answer leads to
  module _ (r r' : Result Progress Stop) (e : r ≡ r') (carried : Carried part m.line.0 m.store m.turns x store turns y g r growth) where
    part_does : (k : ℕ) (s : State) (rest : List Answer)
        → Leads m.line.0 r' g (part (tasks knowing fs k) m.first (holding m.store m.turns (placed x (answers_in growth ++ rest) s))) (holding store turns (placed y rest (saying growth s)))
    part_does k s rest =
        subst (λ r. Leads m.line.0 r g (part (tasks knowing fs k) m.first (holding m.store m.turns (placed x (answers_in growth ++ rest) s))) (holding store turns (placed y rest (saying growth s)))) e
        (carried.does (tasks knowing fs k) m.first s rest)

  part_leads : (r : Result Progress Stop) (e : r ≡ Ok progress.Done) (carried : Carried part m.line.0 m.store m.turns x store turns y g r growth) (v : Word) → word_view v ≡ no_value
      → LeadsWith m.turns from_part x y [] [] growth knowing fs behind_call (focus.Value v)
  part_leads r e carried v i = λ k s rest l.
      ap (λ o. resume knowing (tasks knowing fs k) (env_of m) (reverse m.frames) (without_answer o)) (leads_done m.line.0 g (part (tasks knowing fs k) m.first (holding m.store m.turns (placed x (answers_in growth ++ rest) s))) (holding store turns (placed y rest (saying growth s))) (part_does r (Ok progress.Done) e carried k s rest))
      ∙ (λ j. resume knowing (tasks knowing fs k) (env_of m) (reverse m.frames) (value (sym i j) (holding store turns (placed y rest (sym (saying_grown growth s) j)))))

  part_asks : (r : Result Progress Stop) (e : r ≡ Ok progress.Asks) (a : Going) (i : g ≡ Some a) (carried : Carried part m.line.0 m.store m.turns x store turns y g r growth)
      → GoesWith m.turns from_part x y [] [] growth knowing fs behind_call a
  part_asks r e a i carried = λ k s rest l.
      ap (λ o. resume knowing (tasks knowing fs k) (env_of m) (reverse m.frames) (without_answer o))
      (subst (λ h. Leads m.line.0 (Ok progress.Asks) h (part (tasks knowing fs k) m.first (holding m.store m.turns (placed x (answers_in growth ++ rest) s))) (holding store turns (placed y rest (saying growth s)))) i
      (part_does r (Ok progress.Asks) e carried k s rest))
      ∙ (λ j. resume knowing (tasks knowing fs k) (env_of m) (reverse m.frames) (without_answer (a m.line.0 (holding store turns (placed y rest (sym (saying_grown growth s) j))))))

  part_ends : (r : Result Progress Stop) (z : End) (e : r ≡ Err (stop.Over z)) (carried : Carried part m.line.0 m.store m.turns x store turns y g r growth)
      → EndsWith m.turns from_part x y [] [] growth behind_call z
  part_ends r z e carried = λ k s rest l.
      ap (λ o. resume knowing (tasks knowing fs k) (env_of m) (reverse m.frames) (without_answer o)) (leads_over m.line.0 z g (part (tasks knowing fs k) m.first (holding m.store m.turns (placed x (answers_in growth ++ rest) s))) (holding store turns (placed y rest (saying growth s))) (part_does r (Err (stop.Over z)) e carried k s rest))
      ∙ resume_over knowing (tasks knowing fs k) (env_of m) (reverse m.frames) (ending_view z) (holding store turns (placed y rest (saying growth s)))
      ∙ ap (λ t. over (ending_view z) (holding store turns (placed y rest t))) (sym (saying_grown growth s))

  part_begins : Adds knowing → ((k : ℕ) (s : State) → Grows s (state_of (part (tasks knowing fs k) m.first s))) → (r : Result Progress Stop) (e : r ≡ Err stop.OutOfMemory) (carried : Carried part m.line.0 m.store m.turns x store turns y g r growth)
      → BeginsWith m.turns from_part x y [] [] growth
  part_begins adds grows r e carried = λ k s rest l.
      let w = tasks knowing fs k in
      let o = part w m.first (holding m.store m.turns (placed x (answers_in growth ++ rest) s)) in
      let p = without_answer o in
      let b = grows_at x (answers_in growth ++ rest) s m (state_of o) (grows k (holding m.store m.turns (placed x (answers_in growth ++ rest) s))) in
      let a : Grows (saying growth s) (state_of o) = record {
        printed = b.printed;
        complained = b.complained;
        said = said_at y rest (saying growth s) behind_call (state_of o) (leads_left m.line.0 g o (holding store turns (placed y rest (saying growth s))) (part_does r (Err stop.OutOfMemory) e carried k s rest));
      } in
      subst (λ t. Grows t (state_of (resume knowing w (env_of m) (reverse m.frames) p))) (sym (saying_grown growth s))
      (grows_on (saying growth s) (state_of p) (state_of (resume knowing w (env_of m) (reverse m.frames) p))
      (grows_on (saying growth s) (state_of o) (state_of p) a (unanswered_grows o))
      (resumes_grows knowing adds fs k (env_of m) (reverse m.frames) p))

-- ---- what is kept

-- a part of a call that doesn't wait keeps none
pub part_idle : (part : Part) (line : ℕ) (m : Memory) (turns : ℕ) (x : Option Session) (m' : Memory) (turns' : ℕ) (y : Option Session) (g : Option Going) (r : Result Progress Stop) (growth : List Logged)
    → Carried part line m turns x m' turns' y g r growth → (r ≡ Ok progress.Asks → ⊥) → World → g ≡ None
part_idle part line m turns x m' turns' y g r growth carried n w =
    kept_none line r g (part w true (holding m turns (placed x (answers_in growth ++ []) empty))) (holding m' turns' (placed y [] (saying growth empty))) n (carried.does w true empty [])

pub never_asks : (r : Result Progress Stop) (z : Stop) → r ≡ Err z → r ≡ Ok progress.Asks → ⊥
never_asks r z e i = cc

pub done_asks : (r : Result Progress Stop) → r ≡ Ok progress.Done → r ≡ Ok progress.Asks → ⊥
done_asks r e i = cc

pub halts_idle : (z : Stop) (g : Option Going) → g ≡ None → Idle (halt_of z) g
halts_idle (stop.Over x) g e = e
halts_idle stop.OutOfMemory g e = e

-- ---- turns and requests that are left

pub never_turns : (z : Stop) (turns turns' n : ℕ) → TakesTurn (halt_of z) turns turns' n
never_turns (stop.Over x) turns turns' n = tt
never_turns stop.OutOfMemory turns turns' n = tt

pub turn_before : (h : Halt) (turns turns' turns'' n : ℕ) → turns' ≤ turns → TakesTurn h turns' turns'' n → TakesTurn h turns turns'' n
turn_before halt.Asks turns turns' turns'' n h t = (omega (arith, h, t.0), t.1)
turn_before (halt.Over e) turns turns' turns'' n i t = tt
turn_before halt.WriteFault turns turns' turns'' n i t = tt
turn_before halt.OutOfMemory turns turns' turns'' n i t = tt

pub nears_turn : (h : Halt) (turns turns' n n' : ℕ) → TakesTurn h turns turns' n' → Nears h turns turns' n n'
nears_turn halt.Asks turns turns' n n' t = inl t
nears_turn (halt.Over e) turns turns' n n' t = tt
nears_turn halt.WriteFault turns turns' n n' t = tt
nears_turn halt.OutOfMemory turns turns' n n' t = tt

pub never_nears : (z : Stop) (turns turns' n n' : ℕ) → Nears (halt_of z) turns turns' n n'
never_nears (stop.Over x) turns turns' n n' = tt
never_nears stop.OutOfMemory turns turns' n n' = tt

-- ---- logs

pub same_log : (x : Option Session) → SameLog x x
same_log None = tt
same_log (Some x) = refl

pub same_logs : (x y z : Option Session) → SameLog x y → SameLog y z → SameLog x z
same_logs None None None a b = tt
same_logs None None (Some z) a b = b
same_logs None (Some y) z a b = absurd a
same_logs (Some x) None z a b = absurd a
same_logs (Some x) (Some y) None a b = absurd b
same_logs (Some x) (Some y) (Some z) a b = b ∙ a

pub one_then : (x y z : Option Session) → OneMore x y → SameLog y z → OneMore x z
one_then None None None a b = tt
one_then None None (Some z) a b = b
one_then None (Some y) z a b = absurd a
one_then (Some x) None z a b = absurd a
one_then (Some x) (Some y) None a b = absurd b
one_then (Some x) (Some y) (Some z) a b = (a.0, b ∙ a.1)

pub once_then : (h : Halt) (x y z : Option Session) → OneMore x y → SameLog y z → HaltsOnce h x z
once_then halt.Asks x y z a b = one_then x y z a b
once_then (halt.Over e) x y z a b = one_then x y z a b
once_then halt.WriteFault x y z a b = one_then x y z a b
once_then halt.OutOfMemory x y z a b = inl (one_then x y z a b)

pub once_stopped : (r : Result Progress Stop) (z : Stop) (x y : Option Session) → r ≡ Err z → AsksOnce r x y → HaltsOnce (halt_of z) x y
once_stopped r (stop.Over e) x y i a = subst (λ q. AsksOnce q x y) i a
once_stopped r stop.OutOfMemory x y i a = subst (λ q. AsksOnce q x y) i a

-- ---- with what the outputs took

module _ {O E : Type 0} (held : O → Option (List ℕ)) (faults : O → ℕ) (held' : E → Option (List ℕ)) (faults' : E → ℕ) (out : O) (err : E) where
  pub prints_none : Prints held faults held' faults' out out err err [] []
  prints_none = record { output = Puts-none out; errors = Puts-none err }

  -- a text that was put on one of them
  pub put_output : {A B : Type 0} (r : Result A B) (x : Channel) (text : List ℕ) (out' : O) → x ≡ channels.StandardOutput → OnOk r (Puts held faults out out' text)
      → OnOk r (Prints held faults held' faults' out out' err err (on_output x text) (on_errors x text))
  put_output (Ok a) x text out' e p = subst (λ y. Prints held faults held' faults' out out' err err (on_output y text) (on_errors y text)) (sym e) (record { output = p; errors = Puts-none err })
  put_output (Err b) x text out' e p = p

  pub put_errors : {A B : Type 0} (r : Result A B) (x : Channel) (text : List ℕ) (err' : E) → x ≡ channels.StandardError → OnOk r (Puts held' faults' err err' text)
      → OnOk r (Prints held faults held' faults' out out err err' (on_output x text) (on_errors x text))
  put_errors (Ok a) x text err' e p = subst (λ y. Prints held faults held' faults' out out err err' (on_output y text) (on_errors y text)) (sym e) (record { output = Puts-none out; errors = p })
  put_errors (Err b) x text err' e p = p

  pub part_output : {A B : Type 0} (r : Result A B) (x : Channel) (text : List ℕ) (out' : O) → x ≡ channels.StandardOutput → OnErr r (PutsPart held faults out out' text)
      → OnErr r (PrintsPart held faults held' faults' out out' err err x text)
  part_output (Ok a) x text out' e p = p
  part_output (Err b) x text out' e p = subst (λ y. PrintsPart held faults held' faults' out out' err err y text) (sym e) (record {
    front = p.front;
    rest = p.rest;
    split = p.split;
    last = record { output = p.took; errors = Took-puts (Puts-none err); failed = inl p.failed };
  })

  pub part_errors : {A B : Type 0} (r : Result A B) (x : Channel) (text : List ℕ) (err' : E) → x ≡ channels.StandardError → OnErr r (PutsPart held' faults' err err' text)
      → OnErr r (PrintsPart held faults held' faults' out out err err' x text)
  part_errors (Ok a) x text err' e p = p
  part_errors (Err b) x text err' e p = subst (λ y. PrintsPart held faults held' faults' out out err err' y text) (sym e) (record {
    front = p.front;
    rest = p.rest;
    split = p.split;
    last = record { output = Took-puts (Puts-none out); errors = p.took; failed = inr p.failed };
  })

  -- where it stands, it came to
  pub comes_there : (knowing : Knowing) (fs : List Function) (x : Option Session) (m : Machine) (f : Focus) → ComesWith held faults held' faults' m.turns (λ k s. answer_with knowing fs k m f s) x x out out err err m knowing fs f
  comes_there knowing fs x m f = record {
    printed = [];
    complained = [];
    growth = [];
    said = said_none x;
    prints = prints_none;
    leads = λ k s rest l. ap (λ t. answer_with knowing fs k m f (placed x rest t)) (sym (grown_none s));
    fewer = omega arith;
  }

  -- a part of a call of the library was carried out
  module _ (knowing : Knowing) (fs : List Function) (x y : Option Session) (m : Machine) (part : Part) (store : Memory) (turns : ℕ) (g : Option Going) (growth : List Logged) (r : Result Progress Stop) (carried : Carried part m.line.0 m.store m.turns x store turns y g r growth) where
    pub comes_called : r ≡ Ok progress.Done → turns ≤ m.turns → (v : Word) → word_view v ≡ no_value
        → ComesWith held faults held' faults' m.turns (from_part knowing fs x y m part store turns g growth) x y out out err err (record m { store = store; turns = turns }) knowing fs (focus.Value v)
    comes_called e h v i = record {
      printed = [];
      complained = [];
      growth = growth;
      said = carried.said;
      prints = prints_none;
      leads = part_leads knowing fs x y m part store turns g growth r e carried v i;
      fewer = h;
    }

    asks_so : (h : Option Going) → g ≡ h → r ≡ Ok progress.Asks → turns ≤ m.turns
        → AsksWith held faults held' faults' m.turns (from_part knowing fs x y m part store turns g growth) x y out out err err (record m { store = store; turns = turns }) knowing fs g
    asks_so None i e l =
        absurd (subst (λ q. Leads m.line.0 q None (part (tasks knowing fs 0) m.first (holding m.store m.turns (placed x (answers_in growth ++ []) empty))) (holding store turns (placed y [] (saying growth empty)))) e
        (subst (λ q. Leads m.line.0 r q (part (tasks knowing fs 0) m.first (holding m.store m.turns (placed x (answers_in growth ++ []) empty))) (holding store turns (placed y [] (saying growth empty)))) i
        (carried.does (tasks knowing fs 0) m.first empty [])))
    asks_so (Some a) i e l = record {
      printed = [];
      complained = [];
      growth = growth;
      said = carried.said;
      prints = prints_none;
      asks = a;
      is = i;
      goes = part_asks knowing fs x y m part store turns g growth r e a i carried;
      fewer = l;
    }

    pub asks_called : r ≡ Ok progress.Asks → turns ≤ m.turns
        → AsksWith held faults held' faults' m.turns (from_part knowing fs x y m part store turns g growth) x y out out err err (record m { store = store; turns = turns }) knowing fs g
    asks_called e l = asks_so g refl e l

    pub halts_called : Adds knowing → ((k : ℕ) (s : State) → Grows s (state_of (part (tasks knowing fs k) m.first s))) → (z : Stop) → r ≡ Err z
        → HaltsWith held faults held' faults' m.turns (from_part knowing fs x y m part store turns g growth) x y out out err err (record m { store = store; turns = turns }) knowing fs g (halt_of z)
    halts_called adds grows (stop.Over z) e = record {
      printed = [];
      complained = [];
      growth = growth;
      said = carried.said;
      prints = prints_none;
      ends = part_ends knowing fs x y m part store turns g growth r z e carried;
    }
    halts_called adds grows stop.OutOfMemory e = record {
      printed = [];
      complained = [];
      growth = growth;
      said = carried.said;
      prints = prints_none;
      begins = part_begins knowing fs x y m part store turns g growth adds grows r e carried;
    }

  module _ (knowing : Knowing) (fs : List Function) (turns : ℕ) (run : Run) where
    pub comes_step : (x : Option Session) (r : Result Focus Stop) (new : Machine) (g : Focus) → r ≡ Ok g → new.turns ≤ turns
        → ((k : ℕ) (s : State) → turns < k → Stands knowing (tasks knowing fs k) s new r (run k s))
        → ComesWith held faults held' faults' turns run x x out out err err new knowing fs g
    comes_step x r new g e h goes = record {
      printed = [];
      complained = [];
      growth = [];
      said = said_none x;
      prints = prints_none;
      leads = leads_step knowing fs turns run x r new g e goes;
      fewer = h;
    }

    pub halts_step : (x : Option Session) (r : Result Focus Stop) (new : Machine) (going : Option Going) (z : Stop) → r ≡ Err z → BeginsWith turns run x x [] [] []
        → ((k : ℕ) (s : State) → turns < k → Stands knowing (tasks knowing fs k) s new r (run k s))
        → HaltsWith held faults held' faults' turns run x x out out err err new knowing fs going (halt_of z)
    halts_step x r new going (stop.Over z) e b goes = record {
      printed = [];
      complained = [];
      growth = [];
      said = said_none x;
      prints = prints_none;
      ends = ends_step knowing fs turns run x r new z e goes;
    }
    halts_step x r new going stop.OutOfMemory e b goes = record {
      printed = [];
      complained = [];
      growth = [];
      said = said_none x;
      prints = prints_none;
      begins = b;
    }

    pub comes_on : (x y z : Option Session) (out₁ out₂ : O) (err₁ err₂ : E) (mid new : Machine) (f f' : Focus)
        → ComesWith held faults held' faults' turns run x y out out₁ err err₁ mid knowing fs f
        → ComesWith held faults held' faults' mid.turns (λ k s. answer_with knowing fs k mid f s) y z out₁ out₂ err₁ err₂ new knowing fs f'
        → ComesWith held faults held' faults' turns run x z out out₂ err err₂ new knowing fs f'
    comes_on x y z out₁ out₂ err₁ err₂ mid new f f' a b = record {
      printed = a.printed ++ b.printed;
      complained = a.complained ++ b.complained;
      growth = a.growth ++ b.growth;
      said = said_twice x y z a.growth b.growth a.said b.said;
      prints = record { output = Puts-then a.prints.output b.prints.output; errors = Puts-then a.prints.errors b.prints.errors };
      leads = leads_on knowing fs turns run x y z a.printed a.complained a.growth b.printed b.complained b.growth mid f a.fewer a.leads new f' b.leads;
      fewer = omega (arith, a.fewer, b.fewer);
    }

    pub halts_on : (x y z : Option Session) (out₁ out₂ : O) (err₁ err₂ : E) (mid new : Machine) (f : Focus) (going : Option Going) (h : Halt)
        → ComesWith held faults held' faults' turns run x y out out₁ err err₁ mid knowing fs f
        → HaltsWith held faults held' faults' mid.turns (λ k s. answer_with knowing fs k mid f s) y z out₁ out₂ err₁ err₂ new knowing fs going h
        → HaltsWith held faults held' faults' turns run x z out out₂ err err₂ new knowing fs going h
    halts_on x y z out₁ out₂ err₁ err₂ mid new f going halt.Asks a b = record {
      printed = a.printed ++ b.printed;
      complained = a.complained ++ b.complained;
      growth = a.growth ++ b.growth;
      said = said_twice x y z a.growth b.growth a.said b.said;
      prints = record { output = Puts-then a.prints.output b.prints.output; errors = Puts-then a.prints.errors b.prints.errors };
      asks = b.asks;
      is = b.is;
      goes = goes_on knowing fs turns run x y z a.printed a.complained a.growth b.printed b.complained b.growth mid f a.fewer a.leads new b.asks b.goes;
      fewer = omega (arith, a.fewer, b.fewer);
    }
    halts_on x y z out₁ out₂ err₁ err₂ mid new f going (halt.Over e) a b = record {
      printed = a.printed ++ b.printed;
      complained = a.complained ++ b.complained;
      growth = a.growth ++ b.growth;
      said = said_twice x y z a.growth b.growth a.said b.said;
      prints = record { output = Puts-then a.prints.output b.prints.output; errors = Puts-then a.prints.errors b.prints.errors };
      ends = ends_on knowing fs turns run x y z a.printed a.complained a.growth b.printed b.complained b.growth mid f a.fewer a.leads new e b.ends;
    }
    halts_on x y z out₁ out₂ err₁ err₂ mid new f going halt.WriteFault a b = record {
      printed = a.printed ++ b.printed;
      complained = a.complained ++ b.complained;
      growth = a.growth ++ b.growth;
      said = said_twice x y z a.growth b.growth a.said b.said;
      prints = record {
        output = Took-then a.prints.output b.prints.output;
        errors = Took-then a.prints.errors b.prints.errors;
        failed = rose a.prints.output.steady a.prints.errors.steady b.prints.failed;
      };
      begins = begins_on knowing fs turns run x y z a.printed a.complained a.growth b.printed b.complained b.growth mid f a.fewer a.leads b.begins;
    }
      where
        rose : faults out₁ ≡ faults out → faults' err₁ ≡ faults' err → Rose (faults out₁) (faults out₂) ⊎ Rose (faults' err₁) (faults' err₂) → Rose (faults out) (faults out₂) ⊎ Rose (faults' err) (faults' err₂)
        rose p q (inl r) = inl (subst (λ n. Rose n (faults out₂)) p r)
        rose p q (inr r) = inr (subst (λ n. Rose n (faults' err₂)) q r)
    halts_on x y z out₁ out₂ err₁ err₂ mid new f going halt.OutOfMemory a b = record {
      printed = a.printed ++ b.printed;
      complained = a.complained ++ b.complained;
      growth = a.growth ++ b.growth;
      said = said_twice x y z a.growth b.growth a.said b.said;
      prints = record { output = Puts-then a.prints.output b.prints.output; errors = Puts-then a.prints.errors b.prints.errors };
      begins = begins_on knowing fs turns run x y z a.printed a.complained a.growth b.printed b.complained b.growth mid f a.fewer a.leads b.begins;
    }

-- what isn't outside of the machine is stepped
pub not_outside : (f : Focus) → ((x : Channel) (v : Option Word) → f ≡ focus.Puts x v → ⊥) → ((n count : ℕ) → f ≡ focus.Calls n count → ⊥) → IsOutside f → ⊥
not_outside (focus.Puts x v) h j i = h x v refl
not_outside (focus.Calls n count) h j i = j n count refl
not_outside (focus.Runs x) h j i = i
not_outside (focus.Looks l x) h j i = i
not_outside (focus.Evaluates x) h j i = i
not_outside (focus.Value v) h j i = i
not_outside (focus.Leads x) h j i = i
