-- What is done on the spot, seen from the machine: it comes to another part of the run, waits in a frame, or stops.
use Rattle.std.proofs.Common.{◌≡◌, ◌∙◌, refl, sym, ap, subst, arith, ℕ, ◌<◌, ◌≤◌, ◌-◌, zero, suc, List, [], ◌∷◌, ◌++◌, Bool, true, false, Option, Some, None, Result, Ok, Err}
use Rattle.std.specs.Prelude.{reverse, IfOk, IfSome, IsErrAnd}
use Rattle.std.specs.Borrow.{Bor}
use Rattle.ec_bytes.specs.declared.scalar.address.Ptr.{Ptr}
use Rattle.ec_code.specs.declared.expression.Plain.{Plain}
use Rattle.ec_code.specs.declared.program.Function.{Function}
use Rattle.ec_code.specs.Views.{plain_view}
use Rattle.ec_meaning_defs.specs.evaluation.Evaluate.{Context, World, Step as Knowing, eval, turn_of}
use Rattle.ec_code.specs.declared.statement.Statement.{Statement}
use Rattle.ec_meaning_defs.specs.evaluation.Execute.{again, tested}
use Rattle.ec_meaning_defs.specs.evaluation.Results.{Res, back, on, over, value, on_done, on_value}
use Rattle.ec_meaning_defs.specs.evaluation.State.{Ending, State}
use Rattle.ec_memory_defs.specs.Memory.{Memory, ValueData}
use Rattle.ec_plain.specs.Answered.{at as over_memory, answered, context, ending_of}
use Rattle.ec_meaning_defs.specs.resolved.Operations.{is_true}
use Rattle.ec_meaning_defs.specs.resolved.Resolved.{Exp, Stm}
use Rattle.ec_values.specs.Words.{word_view}
use Rattle.ec_values.specs.declared.word.Stop.{Stop as NoValue}
use Rattle.ec_values.specs.declared.word.Word.{Word}
use Rattle.ec_machine.specs.declared.frame.Focus.{Focus}
use Rattle.ec_machine.specs.declared.frame.Frame.{Frame}
use Rattle.ec_machine.specs.declared.machine.Machine.{Machine}
use Rattle.ec_machine.specs.declared.quick.Asked.{Asked}
use Rattle.ec_machine.specs.declared.quick.Asked.TheVariants as asked
use Rattle.ec_machine.specs.declared.labels.Standing.{Standing}
use Rattle.ec_machine.specs.declared.quick.Begun.{Begun}
use Rattle.ec_machine.specs.declared.quick.Begun.TheVariants as begun
use Rattle.ec_machine.specs.declared.quick.Done.{Done}
use Rattle.ec_machine.specs.declared.quick.Done.TheVariants as done
use Rattle.ec_machine.specs.declared.scope.Scope.{Scope}
use Rattle.ec_machine.specs.declared.stop.Stop.{Stop}
use Rattle.ec_machine.specs.declared.stop.Stop.TheVariants as stop
use Rattle.ec_machine.specs.Frames.{Env, below, denote, objects_of, plug, resume}
use Rattle.ec_machine.specs.Goes.{Fits, Goes, IsOver, Stops, at, env_of, tasks}
use Rattle.ec_machine.specs.Quick.{Answers, Asks, Begins, Comes, IsLighter, IsNear, Keeps, Leaves, LeavesSome, Onward, PassesOver, Says}
use Rattle.ec_machine.specs.Weights.{remaining, statement_weight, weight}
use Rattle.ec_machine.proofs.Moves.{lifted, pushed, stands_by}

-- ---- from one part of the run to another

module _ (fs : List Function) (m : Machine) (e : Env) (part : Knowing → World → State → Res) where
  -- no frame was needed
  pub came : (m' : Machine) (part' : Knowing → World → State → Res) → m'.frames ≡ m.frames → m'.turns ≤ m.turns
      → ((knowing : Knowing) (fits : Fits knowing) (k : ℕ) (s : State) → m.turns < k → part knowing (tasks knowing fs k) (at s m) ≡ part' knowing (tasks knowing fs k) (at s m'))
      → (r : Result Focus Stop) (new : Machine) → Goes fs m' e part' r new → Goes fs m e part r new
  came m' part' p q h r new g = λ knowing fits k s l.
      let w = tasks knowing fs k in
      stands_by knowing w s new r (resume knowing w e (reverse m.frames) (part knowing w (at s m))) (resume knowing w e (reverse m'.frames) (part' knowing w (at s m')))
      (λ i. resume knowing w e (reverse (sym p i)) (h knowing fits k s l i))
      (g knowing fits k s (omega (arith, l, q)))

  -- the run is over
  pub halted : (m' : Machine) (x : Stop) → ((knowing : Knowing) (fits : Fits knowing) (k : ℕ) (s : State) → m.turns < k → Stops x (at s m') (part knowing (tasks knowing fs k) (at s m))) → Goes fs m e part (Err x) m'
  halted m' x h = λ knowing fits k s l.
      lifted knowing (tasks knowing fs k) e (reverse m.frames) (at s m') x (part knowing (tasks knowing fs k) (at s m)) (h knowing fits k s l)

-- a frame waits
pub waits : (fs : List Function) (m new : Machine) (part : Knowing → World → State → Res) (g : Frame) (f : Focus) → new.frames ≡ m.frames ++ g ∷ []
    → ((knowing : Knowing) (fits : Fits knowing) (k : ℕ) (s : State) → m.turns < k → part knowing (tasks knowing fs k) (at s m) ≡ plug knowing (tasks knowing fs k) (env_of new) g (denote knowing (tasks knowing fs k) (env_of new) new.line new.text f (at s new)))
    → Goes fs m (below (env_of new) g) part (Ok f) new
waits fs m new part g f p h = λ knowing fits k s l.
    let w = tasks knowing fs k in
    ap (resume knowing w (below (env_of new) g) (reverse m.frames)) (h knowing fits k s l)
    ∙ pushed knowing w (env_of new) m.frames new.frames g (denote knowing w (env_of new) new.line new.text f (at s new)) p

-- ---- what is evaluated

pub stops_over : (x : Stop) (y : Ending) (s : State) (o : Res) → IsOver x y → o ≡ over y s → Stops x s o
stops_over (stop.Over z) y s o j h = h ∙ ap (λ y. over y s) j
stops_over stop.OutOfMemory y s o j h = absurd j

module _ (p : Plain) (xs : List Ptr) (sc : Scope) (st st' : Memory) (r : Result Word NoValue) (scoped : xs ≡ objects_of sc)
    (gives : (knowing : Knowing) (w : World) (line : ℕ) (first : Bool) (s : State) → eval knowing w (context line xs first) (plain_view p) (over_memory s st) ≡ answered line r (over_memory s st'))
    (knowing : Knowing) (w : World) (line : ℕ) (first : Bool) (s : State) where
  answers : eval knowing w (context line (objects_of sc) first) (plain_view p) (over_memory s st) ≡ answered line r (over_memory s st')
  answers = ap (λ ys. eval knowing w (context line ys first) (plain_view p) (over_memory s st)) (sym scoped) ∙ gives knowing w line first s

  pub has_value : (v : Word) → r ≡ Ok v → eval knowing w (context line (objects_of sc) first) (plain_view p) (over_memory s st) ≡ value (word_view v) (over_memory s st')
  has_value v i = answers ∙ ap (λ r. answered line r (over_memory s st')) i

  pub has_none : (why : NoValue) (x : Stop) → r ≡ Err why → IsOver x (ending_of line why) → Stops x (over_memory s st') (eval knowing w (context line (objects_of sc) first) (plain_view p) (over_memory s st))
  has_none why x i j = stops_over x (ending_of line why) (over_memory s st') _ j (answers ∙ ap (λ r. answered line r (over_memory s st')) i)

-- a stop passes what waits for a value
pub stops_value : (x : Stop) (s : State) (o : Res) (k : ValueData → State → Res) → Stops x s o → Stops x s (on_value o k)
stops_value (stop.Over z) s o k h = ap (λ o. on_value o k) h
stops_value stop.OutOfMemory s o k h = tt

pub stops_as : (x : Stop) (s : State) (o o' : Res) → o ≡ o' → Stops x s o' → Stops x s o
stops_as x s o o' p h = subst (Stops x s) (sym p) h

-- what a value says of a test
pub asked_by : (a : Asked) (old new : Memory) (v : ValueData) (o : Res) (if_so if_not : State → Res) (t : State) → Says a (is_true v) → o ≡ elim (is_true v) [ true ↦ if_so t | false ↦ if_not t ] → Asks (Ok a) old new o if_so if_not t
asked_by asked.Holds old new v o if_so if_not t h p = p ∙ ap (λ b. elim b [ true ↦ if_so t | false ↦ if_not t ]) h
asked_by asked.Fails old new v o if_so if_not t h p = p ∙ ap (λ b. elim b [ true ↦ if_so t | false ↦ if_not t ]) h
asked_by asked.Waits old new v o if_so if_not t h p = absurd h

-- ---- fewer turns

pub remaining_less : (t t' : ℕ) (r : Result Focus Stop) (m : Machine) → t' ≤ t → remaining t r m ≤ remaining t' r m
unfolding remaining
remaining_less t t' (Err x) m h = omega arith
remaining_less t t' (Ok f) m h = less (t - m.turns) (t' - m.turns) (weight m.frames f) (omega (arith, h))
  where
    less : (a b n : ℕ) → b ≤ a → elim a as (λ _. ℕ) [ zero ↦ suc n | suc k ↦ 0 ] ≤ elim b as (λ _. ℕ) [ zero ↦ suc n | suc k ↦ 0 ]
    less zero zero n h = omega arith
    less zero (suc b) n h = absurd (omega (arith, h))
    less (suc a) zero n h = omega arith
    less (suc a) (suc b) n h = omega arith

-- ---- answers by cases

pub if_some : {A : Type 0} (r : Result (Option A) Stop) (x : A) (P : A → Type 0) → r ≡ Ok (Some x) → IfOk r (λ f. IfSome f P) → P x
if_some r x P p h = subst (λ r. IfOk r (λ f. IfSome f P)) p h

pub some_as : {A : Type 0} (r : Option A) (P Q : A → Type 0) → ((x : A) → P x → Q x) → IfSome r P → IfSome r Q
some_as (Some x) P Q f h = f x h
some_as None P Q f h = h

module _ (r : Result Asked Stop) (old new : Memory) (o : Res) (if_so if_not : State → Res) (t : State) (h : Asks r old new o if_so if_not t) where
  pub asks_holds : r ≡ Ok asked.Holds → o ≡ if_so t
  asks_holds p = subst (λ r. Asks r old new o if_so if_not t) p h

  pub asks_fails : r ≡ Ok asked.Fails → o ≡ if_not t
  asks_fails p = subst (λ r. Asks r old new o if_so if_not t) p h

  pub asks_waits : r ≡ Ok asked.Waits → new ≡ old
  asks_waits p = subst (λ r. Asks r old new o if_so if_not t) p h

  pub asks_stops : (x : Stop) → r ≡ Err x → Stops x t o
  asks_stops x p = subst (λ r. Asks r old new o if_so if_not t) p h

module _ (r : Result Done Stop) (old new : Memory) (o : Res) (go : State → Res) (t : State) (h : PassesOver r old new o go t) where
  pub passes_all : r ≡ Ok done.All → o ≡ go t
  passes_all p = subst (λ r. PassesOver r old new o go t) p h

  pub passes_nothing : r ≡ Ok done.Nothing → new ≡ old
  passes_nothing p = subst (λ r. PassesOver r old new o go t) p h

  pub passes_stops : (x : Stop) → r ≡ Err x → Stops x t o
  passes_stops x p = subst (λ r. PassesOver r old new o go t) p h

module _ (r : Result Begun Stop) (x : Statement) (o : Res) (left : Statement → Res) (t : State) (h : Begins r x o left t) where
  pub begins_done : r ≡ Ok begun.Done → o ≡ on t
  begins_done p = subst (λ r. Begins r x o left t) p h

  pub begins_leads : (y : Bor Statement) → r ≡ Ok (begun.Leads y) → o ≡ left y.now
  begins_leads y p = subst (λ r. Begins r x o left t) p h

  pub begins_stays : r ≡ Ok begun.Stays → o ≡ left x
  begins_stays p = subst (λ r. Begins r x o left t) p h

  pub begins_stops : (e : Stop) → r ≡ Err e → Stops e t o
  begins_stops e p = subst (λ r. Begins r x o left t) p h

pub leads_lighter : (r : Result Begun Stop) (x : Statement) (y : Bor Statement) → r ≡ Ok (begun.Leads y) → IsLighter r x → statement_weight y.now < statement_weight x
leads_lighter r x y p h = subst (λ r. IsLighter r x) p h

module _ (r : Result (Option (Bor Statement)) Stop) (o : Res) (left : Statement → Res) (t : State) (h : Leaves r o left t) where
  pub leaves_none : r ≡ Ok None → o ≡ on t
  leaves_none p = subst (λ r. Leaves r o left t) p h

  pub leaves_some : (x : Bor Statement) → r ≡ Ok (Some x) → o ≡ left x.now
  leaves_some x p = subst (λ r. Leaves r o left t) p h

  pub leaves_stops : (x : Stop) → r ≡ Err x → Stops x t o
  leaves_stops x p = subst (λ r. Leaves r o left t) p h

module _ (r : Result (Option Standing) Stop) (o : Res) (left : Statement → Res) (rest : List Statement → State → Res) (t : State) (h : LeavesSome r o left rest t) where
  pub list_none : r ≡ Ok None → o ≡ on t
  list_none p = subst (λ r. LeavesSome r o left rest t) p h

  pub list_some : (x : Standing) → r ≡ Ok (Some x) → o ≡ on_done (left x.first.now) (λ u. rest x.rest.now u)
  list_some x p = subst (λ r. LeavesSome r o left rest t) p h

  pub list_stops : (x : Stop) → r ≡ Err x → Stops x t o
  list_stops x p = subst (λ r. LeavesSome r o left rest t) p h

module _ (r : Result (Option Word) Stop) (old new : Memory) (o : Res) (t : State) (h : Answers r old new o t) where
  pub answers_none : r ≡ Ok None → new ≡ old
  answers_none p = subst (λ r. Answers r old new o t) p h

  pub answers_some : (v : Word) → r ≡ Ok (Some v) → o ≡ back (Some (word_view v)) t
  answers_some v p = subst (λ r. Answers r old new o t) p h

  pub answers_stops : (x : Stop) → r ≡ Err x → Stops x t o
  answers_stops x p = subst (λ r. Answers r old new o t) p h

-- ---- parts of a loop

module _ (fs : List Function) (m : Machine) (part further : Machine → Knowing → World → State → Res) (r : Result (Option Focus) Stop) (new : Machine) (h : Onward fs m part r new further) where
  pub onward_none : r ≡ Ok None → Comes fs m part new further
  onward_none p = (subst (λ r. Onward fs m part r new further) p h).0

  pub onward_frames : r ≡ Ok None → new.frames ≡ m.frames
  onward_frames p = (subst (λ r. Onward fs m part r new further) p h).1

  pub onward_some : (f : Focus) → r ≡ Ok (Some f) → Goes fs m (env_of m) (part m) (Ok f) new
  onward_some f p = subst (λ r. Onward fs m part r new further) p h

  pub onward_stops : (x : Stop) → r ≡ Err x → Goes fs m (env_of m) (part m) (Err x) new
  onward_stops x p = subst (λ r. Onward fs m part r new further) p h

  -- and on from there
  pub onward_on : r ≡ Ok None → (more : Machine → Knowing → World → State → Res) (r' : Result (Option Focus) Stop) (new' : Machine) → Onward fs new further r' new' more → Onward fs m part r' new' more
  onward_on p more (Ok None) new' g = ((λ r x i. onward_none p r x (g.0 r x i)), g.1 ∙ onward_frames p)
  onward_on p more (Ok (Some f)) new' g = onward_none p (Ok f) new' g
  onward_on p more (Err x) new' g = onward_none p (Err x) new' g

-- from one machine to another, and on from there
module _ (fs : List Function) (m n : Machine) (part part' further : Machine → Knowing → World → State → Res) (frames : n.frames ≡ m.frames) (env : env_of n ≡ env_of m) (turns : n.turns ≤ m.turns)
    (h : (knowing : Knowing) (fits : Fits knowing) (k : ℕ) (s : State) → m.turns < k → part m knowing (tasks knowing fs k) (at s m) ≡ part' n knowing (tasks knowing fs k) (at s n)) where
  over_to : (r : Result Focus Stop) (new : Machine) → Goes fs n (env_of n) (part' n) r new → Goes fs m (env_of m) (part m) r new
  over_to r new g = came fs m (env_of m) (part m) n (part' n) frames turns h r new (subst (λ e. Goes fs n e (part' n) r new) env g)

  pub onward_came : (r : Result (Option Focus) Stop) (new : Machine) → Onward fs n part' r new further → Onward fs m part r new further
  onward_came (Ok None) new g = ((λ r x i. over_to r x (g.0 r x i)), g.1 ∙ frames)
  onward_came (Ok (Some f)) new g = over_to (Ok f) new g
  onward_came (Err x) new g = over_to (Err x) new g

pub near_as : (t n n' : ℕ) (r : Result (Option Focus) Stop) (m : Machine) → n ≤ n' → IsNear t r m n → IsNear t r m n'
near_as t n n' (Ok None) m h i = tt
near_as t n n' (Ok (Some f)) m h i = omega (arith, h, i)
near_as t n n' (Err x) m h i = tt

pub near_some : (t n : ℕ) (r : Result (Option Focus) Stop) (m : Machine) (f : Focus) → r ≡ Ok (Some f) → IsNear t r m n → remaining t (Ok f) m ≤ n
near_some t n r m f p h = subst (λ r. IsNear t r m n) p h

pub near_err : (t n : ℕ) (r : Result (Option Focus) Stop) (m : Machine) (P : Stop → Type 0) → IsErrAnd r P → IsNear t r m n
near_err t n (Ok f) m P h = absurd h
near_err t n (Err x) m P h = tt

pub test_none : (knowing : Knowing) (w : World) (c : Context) (test behind : Option Exp) (x : Stm) (t : State) → test ≡ None → tested knowing w c test behind x t ≡ w (turn_of c test behind x) t
test_none knowing w c test behind x t p = subst (λ z. tested knowing w c z behind x t ≡ w (turn_of c z behind x) t) (sym p) refl

pub behind_none : (knowing : Knowing) (w : World) (c : Context) (test behind : Option Exp) (x : Stm) (t : State) → behind ≡ None → again knowing w c test behind x t ≡ tested knowing w c test behind x t
behind_none knowing w c test behind x t p = subst (λ z. again knowing w c test z x t ≡ tested knowing w c test z x t) (sym p) refl

-- an argument whose value waits, and one that ends the run
pub keeps_on : (p : Plain) (count : ℕ) (old new : Machine) (r : Result ℕ Stop) (more : ℕ) → r ≡ Ok more → Keeps p count old r new → Keeps p count old (Ok more) new
keeps_on p count old new r more i h = subst (λ r. Keeps p count old r new) i h

pub keeps_not : (p : Plain) (count : ℕ) (old new : Machine) (r : Result ℕ Stop) (x : Stop) → r ≡ Err x → Keeps p count old r new → Keeps p count old (Err x) new
keeps_not p count old new r x i h = subst (λ r. Keeps p count old r new) i h
