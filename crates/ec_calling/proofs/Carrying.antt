-- A call up to its first request, from its parts.
use Rattle.std.proofs.Common.{◌≡◌, ◌∙◌, ℕ, Bool, true, false, List, [], ◌∷◌, ◌++◌, map, Option, Some, None, Result, Ok, Err, refl, sym, subst, ap, append-nil}
use Rattle.std.specs.Prelude.{slice_get}
use Rattle.ec_arguments.specs.Arguments.{Arg, Cut}
use Rattle.ec_arguments.specs.Rules.{cut}
use Rattle.ec_base.specs.declared.line.Line.{Line}
use Rattle.ec_bytes.specs.declared.scalar.address.Ptr.{Ptr}
use Rattle.ec_call_defs.specs.Library.{cut_done, if_cut, leads, library_call}
use Rattle.ec_call_defs.specs.Outcomes.{Outcome, gives, finished, next, over as halted}
use Rattle.ec_call_defs.specs.Steps.{call_given, called, called_of, given_first, library_step, no_step, settled}
use Rattle.ec_ctypes.specs.declared.checked.library.LibName.{LibName}
use Rattle.ec_meaning_defs.specs.evaluation.Agree.{Grows, state_of}
use Rattle.ec_meaning_defs.specs.evaluation.Evaluate.{World}
use Rattle.ec_meaning_defs.specs.evaluation.Results.{Res, on, over, turn}
use Rattle.ec_meaning_defs.specs.evaluation.State.{Ending, State}
use Rattle.ec_call_defs.proofs.library_step_lemmas.Keeping.{cut_grows, settled_grows, turn_grows}
use Rattle.ec_link.specs.declared.logged.Logged.{Logged}
use Rattle.ec_machine.specs.declared.stop.End.TheVariants as ends
use Rattle.ec_machine.specs.declared.stop.Stop.{Stop}
use Rattle.ec_machine.specs.declared.stop.Stop.TheVariants as stop
use Rattle.ec_machine.specs.Goes.{IsOver}
use Rattle.ec_memory_defs.specs.Memory.{Memory, ValueData}
use Rattle.ec_plain.specs.Answered.{at, context, ending_of}
use Rattle.ec_meaning_defs.specs.resolved.Resolved.{Exp, library}
use Rattle.ec_interp.specs.declared.running.library.Progress.{Progress}
use Rattle.ec_interp.specs.running.Sessions.{Going, Leads, Part, Session, Started, holding, placed, saying}
use Rattle.ec_runtime.specs.declared.library.Library.{Library}
use Rattle.ec_runtime.specs.declared.library.Progress.{Progress as Far}
use Rattle.ec_runtime.specs.declared.library.Progress.TheVariants as far
use Rattle.ec_runtime.specs.declared.stop.CallStop.{CallStop}
use Rattle.ec_runtime.specs.declared.stop.CallStop.TheVariants as calls
use Rattle.ec_runtime.specs.declared.waiting.UnderWay.{UnderWay}
use Rattle.ec_runtime.specs.Calling.{placed_by}
use Rattle.ec_runtime.specs.Proceeding.{IsEnd, Proceeds, Starts, waiting_of}
use Rattle.ec_stopping_defs.proofs.Parts.{cut_so}
use Rattle.ec_stopping_defs.specs.Resuming.{Asking, going, started}
use Rattle.ec_values.specs.declared.word.Stop.{Stop as NoValue}
use Rattle.ec_calling.specs.declared.call.Call.{Call}
use Rattle.ec_calling.specs.Giving.{Evaluated, Halted}
use Rattle.ec_calling.specs.Making.{Begun, answer_of, going_in, going_of, known_at, position, position_at, running, session_at, turned}
use Rattle.ec_calling.specs.Views.{argument_view, call_view}

-- ---- what a part leads to

-- what is left for want of memory adds to what was said
abbrev pub IsFurther : Res → State → Type 0
IsFurther o s = (more : List Logged) × ((state_of o).conversation ≡ s.conversation ++ more)

pub further : (o : Res) (s : State) → Grows s (state_of o) → IsFurther o s
further o s g = (g.said.0, g.said.1)

module _ (line : Line) (n : ℕ) where
  -- behind a part of the call
  abbrev pub From : Outcome (Option Asking) → Res
  From o = settled line.0 (next o (going n))

  ended_so : (o : Outcome (Option Asking)) (s : State) → IsEnd o s → From o ≡ on s
  ended_so (gives None t) s e = ap on e
  ended_so (gives (Some u) t) s e = absurd e
  ended_so (finished t) s e = ap on e
  ended_so (halted halt t) s e = absurd e

  -- it leads where the library says
  pub leads_so : (r : Result Far CallStop) (kept : Option (ℕ × Asking)) (o : Outcome (Option Asking)) (s : State)
      → Proceeds r kept n o s → (r ≡ Err calls.OutOfMemory → IsFurther (From o) s) → Leads line.0 (answer_of line r) (going_in kept) (From o) s
  leads_so (Ok far.Asks) kept o s h f =
      subst (λ k. Leads line.0 (answer_of line (Ok far.Asks)) (going_in k) (From o) s) (sym h.1) (ap From h.2)
  leads_so (Ok far.Done) kept o s h f =
      subst (λ k. Leads line.0 (answer_of line (Ok far.Done)) (going_in k) (From o) s) (sym h.0) (ended_so o s h.1)
  leads_so (Err (calls.Trapped trap)) kept o s h f =
      subst (λ k. Leads line.0 (answer_of line (Err (calls.Trapped trap))) (going_in k) (From o) s) (sym h.0) (ap From h.1)
  leads_so (Err calls.OutOfMemory) kept o s h f =
      subst (λ k. Leads line.0 (answer_of line (Err calls.OutOfMemory)) (going_in k) (From o) s) (sym h) (f refl)

-- ---- a call that the library begins

module _ {X : Type 0} {F : X → Type 0} (c : Cut ℕ) (line : Line) (m m' : Memory) (was now : Library X F) (turns : ℕ) (log : List Logged) where
  abbrev Cutting : Part
  Cutting w first s = settled line.0 (cut_done c s)

  pub served_begun : (r : Result Far CallStop) → Starts c m was m' now r
      → Begun Cutting line.0 (position_at m turns log was) (position_at m' turns log now) (going_of now) (answer_of line r)
  served_begun r p = record {
    quiet = refl;
    does = λ w first s rest.
        let from : State = placed_by m was rest (record s { turns = turns }) in
        let to : State = placed_by m' now rest (record s { turns = turns }) in
        let is : settled line.0 (cut_done c from) ≡ From line c.line (started c from) = ap (settled line.0) (cut_so c from) in
        subst (λ o. Leads line.0 (answer_of line r) (going_of now) o to) (sym is)
        (leads_so line c.line r (waiting_of now) (started c from) to (p (record s { turns = turns }) rest)
        (λ e. let more = (cut_grows line.0 c from).said in subst (λ o. IsFurther o to) is (more.0, more.1)));
  }

-- nothing is under way
pub idle_going : {X : Type 0} {F : X → Type 0} (it : Library X F) → it.under_way ≡ None → going_of it ≡ None
idle_going it e = ap (λ (u : Option UnderWay). going_of (record it { under_way = u })) e

-- ---- parts in which nothing is said

module _ {X : Type 0} {F : X → Type 0} (it : Library X F) (idle : it.under_way ≡ None) (log : List Logged) where
  pub quiet : (part : Part) (line : ℕ) (m m' : Memory) (turns turns' : ℕ) (result : Result Progress Stop)
      → ((w : World) (first : Bool) (u : State) → Leads line result None (part w first (holding m turns u)) (holding m' turns' u))
      → Begun part line (position_at m turns log it) (position_at m' turns' log it) (going_of it) result
  quiet part line m m' turns turns' result h = record {
    quiet = refl;
    does = λ w first s rest.
        subst (λ g. Leads line result g (part w first (holding m turns (placed (known_at log it) rest s))) (holding m' turns' (placed (known_at log it) rest s)))
        (sym (idle_going it idle)) (h w first (placed (known_at log it) rest s));
  }

  -- it isn't made
  pub unserved : (c : Cut ℕ) (line : ℕ) (m : Memory) (turns : ℕ)
      → Begun (λ w first s. settled line (cut_done c s)) line (position_at m turns log it) (position_at m turns log it) (going_of it) (Err stop.OutOfMemory)
  unserved c line m turns = quiet _ line m m turns turns (Err stop.OutOfMemory) (λ w first u. further (settled line (cut_done c (holding m turns u))) (holding m turns u) (cut_grows line c (holding m turns u)))

-- ---- a call with its arguments

module _ (line : ℕ) (name : LibName) (given : List (Arg ℕ)) where
  abbrev Carried : Part
  Carried w first s = settled line (library_call name given s)

  module _ {X : Type 0} {F : X → Type 0} (it : Library X F) (idle : it.under_way ≡ None) (log : List Logged) (m : Memory) (turns : ℕ) where
    pub uncarried : Begun Carried line (position_at m turns log it) (position_at m turns log it) (going_of it) (Err stop.OutOfMemory)
    uncarried = quiet it idle log Carried line m m turns turns (Err stop.OutOfMemory) (λ w first u. further (settled line (library_call name given (holding m turns u))) (holding m turns u) (settled_grows line name given (holding m turns u)))

    -- a list that doesn't cut
    pub uncut : None ≡ cut leads name given → Begun Carried line (position_at m turns log it) (position_at m turns log it) (going_of it) (Err (stop.Over ends.Stuck))
    uncut e = quiet it idle log Carried line m m turns turns (Err (stop.Over ends.Stuck)) (λ w first u j. settled line (if_cut (sym e j) (holding m turns u)))

  -- a list that does
  pub cut_begun : (c c' : Cut ℕ) (m m' : Memory) (turns turns' : ℕ) (x y : Option Session) (g : Option Going) (result : Result Progress Stop) → c ≡ c' → Some c' ≡ cut leads name given
      → Begun (λ w first s. settled line (cut_done c s)) line (position m turns x) (position m' turns' y) g result → Begun Carried line (position m turns x) (position m' turns' y) g result
  cut_begun c c' m m' turns turns' x y g result e f p =
      let is : Some c ≡ cut leads name given = ap Some e ∙ f in
      subst (λ part. Begun part line (position m turns x) (position m' turns' y) g result) (λ j w first s. settled line (if_cut (is j) s)) p

-- ---- a call in a program

-- what a part leads to first
behind : (part part' : Part) (line : ℕ) (m m1 m' : Memory) (turns turns1 turns' : ℕ) (x y : Option Session) (g : Option Going) (result : Result Progress Stop)
    → ((w : World) (first : Bool) (u : State) → part w first (holding m turns u) ≡ part' w first (holding m1 turns1 u))
    → Begun part' line (position m1 turns1 x) (position m' turns' y) g result → Begun part line (position m turns x) (position m' turns' y) g result
behind part part' line m m1 m' turns turns1 turns' x y g result h p = record {
  quiet = p.quiet;
  does = λ w first s rest.
      subst (λ o. Leads line result g o (running (position m' turns' y) rest s)) (sym (h w first (placed x rest s))) (p.does w first s rest);
}

ended : (line : ℕ) (e : Stop) (ending : Ending) (o : Res) (u : State) → IsOver e ending → o ≡ over ending u → Leads line (Err e) None o u
ended line (stop.Over x) ending o u is h = h ∙ ap (λ y. over y u) is
ended line stop.OutOfMemory ending o u is h = absurd is

module _ (scope : List Ptr) (arguments : List (Arg Exp)) (name : LibName) (line : ℕ) (m m1 : Memory) where
  abbrev pub InProgram : Part
  InProgram w first s = called no_step w (context line scope first) name arguments s

  abbrev Turning : List (Arg ℕ) → State → Res
  Turning given t = turn t (λ u. settled line (library_call name given u))

  module _ {X : Type 0} {F : X → Type 0} (it : Library X F) (idle : it.under_way ≡ None) (log : List Logged) where
    -- an argument stops the run
    pub argument_stops : (why : NoValue) (e : Stop) (turns : ℕ) → Halted scope arguments m m1 why → IsOver e (ending_of line why)
        → Begun InProgram line (position_at m turns log it) (position_at m1 turns log it) (going_of it) (Err e)
    argument_stops why e turns h is =
        quiet it idle log InProgram line m m1 turns turns (Err e) (λ w first u. ended line e (ending_of line why) _ (holding m1 turns u) is (h w line first (record u { turns = turns }) Turning))

    -- there is no memory for the arguments
    pub arguments_left : (given : List (Arg ℕ)) (turns : ℕ) → Evaluated scope arguments m m1 given
        → Begun InProgram line (position_at m turns log it) (position_at m1 turns log it) (going_of it) (Err stop.OutOfMemory)
    arguments_left given turns h =
        quiet it idle log InProgram line m m1 turns turns (Err stop.OutOfMemory) (λ w first u.
        further (InProgram w first (holding m turns u)) (holding m1 turns u)
        (subst (λ o. Grows (holding m1 turns u) (state_of o)) (sym (h w line first (record u { turns = turns }) Turning)) (turn_grows line name given (holding m1 turns u))))

  module _ (given : List (Arg ℕ)) (turns turns1 : ℕ) (h : Evaluated scope arguments m m1 given) where
    turned_so : (taken : Bool) → ((s : State) (go : State → Res) → turn (record s { turns = turns }) go ≡ turned taken (record s { turns = turns1 }) go)
        → (w : World) (first : Bool) (u : State)
        → InProgram w first (holding m turns u) ≡ turned taken (holding m1 turns1 u) (λ t. settled line (library_call name given t))
    turned_so taken t w first u =
        h w line first (record u { turns = turns }) Turning ∙ t (at u m1) (λ v. settled line (library_call name given v))

    -- no turn is left
    pub no_turn : {X : Type 0} {F : X → Type 0} (it : Library X F) → it.under_way ≡ None → (log : List Logged)
        → ((s : State) (go : State → Res) → turn (record s { turns = turns }) go ≡ turned false (record s { turns = turns1 }) go)
        → Begun InProgram line (position_at m turns log it) (position_at m1 turns1 log it) (going_of it) (Err (stop.Over ends.TurnsSpent))
    no_turn it idle log t = quiet it idle log InProgram line m m1 turns turns1 (Err (stop.Over ends.TurnsSpent)) (λ w first u. turned_so false t w first u)

    -- with its turn it is begun
    pub in_turn : (m' : Memory) (turns' : ℕ) (x y : Option Session) (g : Option Going) (result : Result Progress Stop)
        → ((s : State) (go : State → Res) → turn (record s { turns = turns }) go ≡ turned true (record s { turns = turns1 }) go)
        → Begun (Carried line name given) line (position m1 turns1 x) (position m' turns' y) g result → Begun InProgram line (position m turns x) (position m' turns' y) g result
    in_turn m' turns' x y g result t p = behind InProgram (Carried line name given) line m m1 m' turns turns1 turns' x y g result (λ w first u. turned_so true t w first u) p

-- ---- the call of a number

-- a call that is there, with values of its first pointers
given_there : (vs : List ValueData) (call : Call) → call_given vs (Some (call_view call)) ≡ Some (call.name, given_first vs (map argument_view call.arguments))
given_there [] call = refl
given_there (v ∷ vs) call = refl

none_there : (vs : List ValueData) → call_given vs None ≡ None
none_there [] = refl
none_there (v ∷ vs) = refl

kept : (s : State) → s ≡ saying [] s
kept s = λ j. record s { conversation = sym (append-nil s.conversation) j }

nothing_said : (x : Session) → x.log ≡ x.log ++ []
nothing_said x = sym (append-nil x.log)

module _ (all : List (LibName × List (Arg Exp))) (number : ℕ) (vs : List ValueData) (line : ℕ) (scope : List Ptr) where
  abbrev Numbered : Option (LibName × List (Arg Exp)) → Part
  Numbered o w first s = called_of no_step w (context line scope first) o s

  -- whatever it is, it was begun
  started_so : (m m' : Memory) (turns turns' : ℕ) (x y : Session) (g : Option Going) (result : Result Progress Stop) (o : Option (LibName × List (Arg Exp))) → o ≡ call_given vs (slice_get all number)
      → y.log ≡ x.log → Begun (Numbered o) line (position m turns (Some x)) (position m' turns' (Some y)) g result
      → Started (library_step all) number vs line scope m turns (Some x) m' turns' (Some y) g result
  started_so m m' turns turns' x y g result o is same p = record {
    said = same ∙ nothing_said x;
    does = λ w first s rest.
        subst (λ t. Leads line result g (library_step all w (context line scope first) (library number vs) (holding m turns (placed (Some x) rest s))) (holding m' turns' (placed (Some y) rest t))) (kept s)
        (subst (λ c. Leads line result g (Numbered c w first (holding m turns (placed (Some x) rest s))) (holding m' turns' (placed (Some y) rest s))) is
        (p.does w first s rest));
  }

  pub numbered : (m m' : Memory) (turns turns' : ℕ) (x y : Session) (g : Option Going) (call : Call) (result : Result Progress Stop) → Some (call_view call) ≡ slice_get all number
      → Begun (InProgram scope (given_first vs (map argument_view call.arguments)) call.name line m m) line (position m turns (Some x)) (position m' turns' (Some y)) g result
      → Started (library_step all) number vs line scope m turns (Some x) m' turns' (Some y) g result
  numbered m m' turns turns' x y g call result e p =
      started_so m m' turns turns' x y g result (Some (call.name, given_first vs (map argument_view call.arguments)))
      (sym (given_there vs call) ∙ ap (call_given vs) e) p.quiet p

  pub unnumbered : {X : Type 0} {F : X → Type 0} (it : Library X F) → it.under_way ≡ None → (log : List Logged) (m : Memory) (turns : ℕ) → None ≡ slice_get all number
      → Started (library_step all) number vs line scope m turns (known_at log it) m turns (known_at log it) (going_of it) (Err (stop.Over ends.Stuck))
  unnumbered it idle log m turns e =
      started_so m m turns turns (session_at log it) (session_at log it) (going_of it) (Err (stop.Over ends.Stuck)) None (sym (none_there vs) ∙ ap (call_given vs) e) refl
      (quiet it idle log (Numbered None) line m m turns turns (Err (stop.Over ends.Stuck)) (λ w first u. refl))
