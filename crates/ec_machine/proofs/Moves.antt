-- What pushing a frame keeps, and what passes every frame.
use Rattle.std.proofs.Common.{◌≡◌, ℕ, ◌+◌, ◌-◌, ◌≤◌, List, [], ◌∷◌, ◌++◌, length, map, take, drop, Option, Some, None, true, false, refl, sym, ap, ◌∙◌, subst, arith, Result, Ok, Err, append_assoc, length-append}
use Rattle.std.specs.Prelude.{reverse, IsErrAnd}
use Rattle.std.specs.Borrow.{Bor}
use Rattle.std.proofs.lemmas.List.{append-nil, map-append, reverse-append, drop_all, drop-append-le, take_all, take_at, take-append-le}
use Rattle.ec_bytes.specs.declared.scalar.address.Ptr.{Ptr}
use Rattle.ec_code.specs.declared.program.Function.{Function}
use Rattle.ec_code.specs.Trees.{Step}
use Rattle.ec_code.specs.Views.{full_step_view, statements_view}
use Rattle.ec_code.specs.declared.statement.Statement.{Statement}
use Rattle.ec_meaning_defs.specs.resolved.Operations.{is_true}
use Rattle.ec_meaning_defs.specs.resolved.Resolved.{Exp, Stm}
use Rattle.ec_base.specs.declared.line.Line.{Line}
use Rattle.ec_meaning_defs.specs.evaluation.Evaluate.{Context, World, Step as Knowing, turn_of, eval}
use Rattle.ec_meaning_defs.specs.evaluation.Execute.{tested, again, settle}
use Rattle.ec_meaning_defs.specs.evaluation.Results.{Res, on, over, on_value, closing, ended_to}
use Rattle.ec_meaning_defs.specs.evaluation.State.{State, Ending}
use Rattle.ec_memory_defs.specs.Memory.{ValueData}
use Rattle.ec_plain.specs.Answered.{scope_view}
use Rattle.ec_plain.specs.Steps.{followed, step_on}
use Rattle.ec_plain.proofs.Walks.{followed_over}
use Rattle.ec_machine.specs.declared.frame.Flow.{Flow}
use Rattle.ec_machine.specs.declared.frame.Flow.TheVariants as flow
use Rattle.ec_machine.specs.declared.frame.Focus.{Focus}
use Rattle.ec_machine.specs.declared.frame.Focus.TheVariants as focus
use Rattle.ec_machine.specs.declared.frame.Frame.{Frame}
use Rattle.ec_machine.specs.declared.frame.Frame.TheVariants as frame
use Rattle.ec_machine.specs.declared.machine.Machine.{Machine}
use Rattle.ec_machine.specs.declared.scope.Scope.{Scope}
use Rattle.ec_machine.specs.declared.stop.Stop.{Stop}
use Rattle.ec_machine.specs.declared.stop.Stop.TheVariants as stop
use Rattle.ec_machine.specs.Frames.{Env, Grown, cut, last_of, without_last, objects_of, here, below, outside, plug, resume, led}
use Rattle.ec_machine.specs.Goes.{Goes, Returns, Stands, Stops, IsOver, at, ending_view, env_of, tasks}

pub pushed : (knowing : Knowing) (w : World) (e : Env) (fs fs' : List Frame) (f : Frame) (o : Res) → fs' ≡ fs ++ f ∷ [] → resume knowing w (below e f) (reverse fs) (plug knowing w e f o) ≡ resume knowing w e (reverse fs') o
pushed knowing w e fs fs' f o p = sym (ap (λ xs. resume knowing w e xs o) (ap reverse p ∙ reverse-append fs (f ∷ [])))

pub pushed_first : (fs fs' : List Frame) (f : Frame) → fs' ≡ fs ++ f ∷ [] → fs ≡ [] → fs' ≡ f ∷ []
pushed_first fs fs' f p q = p ∙ ap (λ xs. xs ++ f ∷ []) q

plug_over : (knowing : Knowing) (w : World) (e : Env) (f : Frame) (x : Ending) (s : State) → plug knowing w e f (over x s) ≡ over x s
plug_over knowing w e (frame.Steps line xs) x s = followed_over knowing w (here e line) (map full_step_view xs.now) x s
plug_over knowing w e (frame.Right line b v old xs) x s = followed_over knowing w (here e line) (map full_step_view xs.now) x s
plug_over knowing w e (frame.Arguments line callee n es xs) x s = followed_over knowing w (here e line) (map full_step_view xs.now) x s
plug_over knowing w e (frame.Call y) x s = followed_over knowing w (here (outside y e) y.line) (map full_step_view y.steps.now) x s
plug_over knowing w e (frame.Called line n xs) x s = followed_over knowing w (here e line) (map full_step_view xs.now) x s
plug_over knowing w e frame.Do x s = refl
plug_over knowing w e frame.Give x s = refl
plug_over knowing w e (frame.Choose line a b) x s = refl
plug_over knowing w e (frame.Choice line a b) x s = refl
plug_over knowing w e (frame.Select line y) x s = refl
plug_over knowing w e frame.Switch x s = refl
plug_over knowing w e (frame.Test line y) x s = refl
plug_over knowing w e (frame.Behind line y) x s = refl
plug_over knowing w e (frame.Body line y) x s = refl
plug_over knowing w e (frame.Rest line xs) x s = refl
plug_over knowing w e (frame.Settle line xs) x s = refl
plug_over knowing w e (frame.Close mark height count) x s = refl

pub resume_over : (knowing : Knowing) (w : World) (e : Env) (fs : List Frame) (x : Ending) (s : State) → resume knowing w e fs (over x s) ≡ over x s
resume_over knowing w e [] x s = refl
resume_over knowing w e (f ∷ fs) x s = ap (resume knowing w (below e f) fs) (plug_over knowing w e f x s) ∙ resume_over knowing w (below e f) fs x s

-- a flow passes all that waits for a value
pub led_passes : (f : Flow) (s : State) (k : ValueData → State → Res) → on_value (led f s) k ≡ led f s
led_passes flow.On s k = refl
led_passes flow.Broke s k = refl
led_passes flow.Continued s k = refl
led_passes (flow.Went l) s k = refl
led_passes (flow.Back v) s k = refl

pub followed_led : (knowing : Knowing) (w : World) (c : Context) (xs : List Step) (f : Flow) (s : State) → followed knowing w c xs (led f s) ≡ led f s
followed_led knowing w c [] f s = refl
followed_led knowing w c (x ∷ xs) f s = ap (followed knowing w c xs) (led_passes f s (step_on knowing w c x)) ∙ followed_led knowing w c xs f s

-- ---- what a machine stands at

-- an answer that is the end of the run
pub over_stands : (knowing : Knowing) (w : World) (e : Env) (fs : List Frame) (s : State) (m : Machine) (r : Result Focus Stop) (x : Stop) (y : Ending) (o : Res) → r ≡ Err x → IsOver x y → o ≡ over y (at s m) → Stands knowing w s m r (resume knowing w e fs o)
over_stands knowing w e fs s m r x y o i j h = subst (λ r. Stands knowing w s m r (resume knowing w e fs o)) (sym i) (stops x j)
  where
    stops : (x : Stop) → IsOver x y → Stops x (at s m) (resume knowing w e fs o)
    stops (stop.Over z) j = ap (resume knowing w e fs) h ∙ resume_over knowing w e fs y (at s m) ∙ ap (λ y. over y (at s m)) j
    stops stop.OutOfMemory j = absurd j

-- a part of the run as another that does the same
pub goes_as : (fs : List Function) (old new : Machine) (e : Env) (r : Result Focus Stop) (part part' : Knowing → World → State → Res) → ((knowing : Knowing) (w : World) (t : State) → part knowing w t ≡ part' knowing w t) → Goes fs old e part' r new → Goes fs old e part r new
goes_as fs old new e r part part' h g =
    λ knowing fits k s l. subst (λ o. Stands knowing (tasks knowing fs k) s new r (resume knowing (tasks knowing fs k) e (reverse old.frames) o)) (sym (h knowing (tasks knowing fs k) (at s old))) (g knowing fits k s l)

-- a part of the run as another that does the same from where the machine stood
pub goes_at : (fs : List Function) (old new : Machine) (e : Env) (part part' : Knowing → World → State → Res) (r : Result Focus Stop) → ((knowing : Knowing) (w : World) (s : State) → part knowing w (at s old) ≡ part' knowing w (at s old)) → Goes fs old e part' r new → Goes fs old e part r new
goes_at fs old new e part part' r h g =
    λ knowing fits k s l. subst (λ o. Stands knowing (tasks knowing fs k) s new r (resume knowing (tasks knowing fs k) e (reverse old.frames) o)) (sym (h knowing (tasks knowing fs k) s)) (g knowing fits k s l)

-- ---- scopes

pub take_front : (xs ys : List Ptr) → Grown xs ys → take (length xs) ys ≡ xs
take_front xs ys g = ap (take (length xs)) g.1 ∙ take_at xs g.0 (length xs) refl

pub grown_on : (xs ys zs : List Ptr) → Grown xs ys → Grown ys zs → Grown xs zs
grown_on xs ys zs f g = (f.0 ++ g.0, g.1 ∙ ap (λ a. a ++ g.0) f.1 ∙ append_assoc xs f.0 g.0)

pub objects_push : (sc : Scope) (p : Ptr) → objects_of (record { pointers = sc.pointers ++ p ∷ []; count = sc.count + 1 }) ≡ objects_of sc ++ p ∷ []
objects_push sc p =
    let e : length (sc.pointers ++ p ∷ []) - (sc.count + 1) ≡ length sc.pointers - sc.count = omega (arith, length-append sc.pointers (p ∷ [])) in
    let h : length sc.pointers - sc.count ≤ length sc.pointers = omega arith in
    ap (λ n. drop n (sc.pointers ++ p ∷ [])) e ∙ drop-append-le (length sc.pointers - sc.count) sc.pointers (p ∷ []) h

scope_append : (xs : List Ptr) (p : Ptr) → scope_view (xs ++ p ∷ []) ≡ scope_view xs ++ p.0 ∷ []
scope_append xs p = map-append (λ q. q.0) xs (p ∷ [])

pub scope_push : (sc sc' : Scope) (p : Ptr) → sc' ≡ record { pointers = sc.pointers ++ p ∷ []; count = sc.count + 1 } → scope_view (objects_of sc') ≡ scope_view (objects_of sc) ++ p.0 ∷ []
scope_push sc sc' p e = ap (λ x. scope_view (objects_of x)) e ∙ ap scope_view (objects_push sc p) ∙ scope_append (objects_of sc) p

pub no_objects : (xs : List Ptr) → objects_of (record { pointers = xs; count = 0 }) ≡ []
no_objects xs = let e : length xs - 0 ≡ length xs = omega arith in ap (λ n. drop n xs) e ∙ drop_all (length xs) xs (let h : length xs ≤ length xs = omega arith in h)

-- ---- values that wait

pub last_push : {A : Type 0} (xs : List A) (n : ℕ) (x : A) → last_of (n + 1) (xs ++ x ∷ []) ≡ last_of n xs ++ x ∷ []
last_push xs n x =
    let e : length (xs ++ x ∷ []) - (n + 1) ≡ length xs - n = omega (arith, length-append xs (x ∷ [])) in
    let h : length xs - n ≤ length xs = omega arith in
    ap (λ k. drop k (xs ++ x ∷ [])) e ∙ drop-append-le (length xs - n) xs (x ∷ []) h

pub rest_push : {A : Type 0} (xs : List A) (n : ℕ) (x : A) → without_last (n + 1) (xs ++ x ∷ []) ≡ without_last n xs
rest_push xs n x =
    let e : length (xs ++ x ∷ []) - (n + 1) ≡ length xs - n = omega (arith, length-append xs (x ∷ [])) in
    let h : length xs - n ≤ length xs = omega arith in
    ap (λ k. take k (xs ++ x ∷ [])) e ∙ take-append-le (length xs - n) xs (x ∷ []) h

pub none_waits : {A : Type 0} (xs : List A) → last_of 0 xs ≡ []
none_waits xs = let e : length xs - 0 ≡ length xs = omega arith in ap (λ n. drop n xs) e ∙ drop_all (length xs) xs (let h : length xs ≤ length xs = omega arith in h)

pub all_rest : {A : Type 0} (xs : List A) → without_last 0 xs ≡ xs
all_rest xs = let e : length xs - 0 ≡ length xs = omega arith in ap (λ n. take n xs) e ∙ take_all (length xs) xs (let h : length xs ≤ length xs = omega arith in h)

-- ---- exits

pub lifted : (knowing : Knowing) (w : World) (e : Env) (fs : List Frame) (s : State) (x : Stop) (o : Res) → Stops x s o → Stops x s (resume knowing w e fs o)
lifted knowing w e fs s (stop.Over z) o h = ap (resume knowing w e fs) h ∙ resume_over knowing w e fs (ending_view z) s
lifted knowing w e fs s stop.OutOfMemory o h = tt

-- what stopped a part of the run stops the run
pub stops_stand : (knowing : Knowing) (w : World) (e : Env) (fs : List Frame) (s : State) (m : Machine) (r : Result Focus Stop) (x : Stop) (o : Res) → IsErrAnd r (λ y. y ≡ x) → Stops x (at s m) o → Stands knowing w s m r (resume knowing w e fs o)
stops_stand knowing w e fs s m (Ok f) x o i h = absurd i
stops_stand knowing w e fs s m (Err y) x o i h = subst (λ y. Stops y (at s m) (resume knowing w e fs o)) (sym i) (lifted knowing w e fs (at s m) x o h)

-- ---- blocks

pub back_again : (e : Env) (sc : Scope) → Grown e.scope.pointers sc.pointers → cut (length e.scope.pointers) e.scope.count sc ≡ e.scope
back_again e sc g = λ i. record { pointers = take_front e.scope.pointers sc.pointers g i; count = e.scope.count }

pub entered : (knowing : Knowing) (w : World) (e : Env) (sc : Scope) (fs fs₁ fs₂ : List Frame) (mark : ℕ) (line : Line) (b : Bor (List Statement)) (o : Res) → Grown e.scope.pointers sc.pointers
    → fs₁ ≡ fs ++ frame.Close mark (length e.scope.pointers) e.scope.count ∷ [] → fs₂ ≡ fs₁ ++ frame.Settle line b ∷ []
    → resume knowing w e (reverse fs) (closing mark (settle w (here (record e { scope = sc }) line) (statements_view b.now) o)) ≡ resume knowing w (record e { scope = sc }) (reverse fs₂) o
entered knowing w e sc fs fs₁ fs₂ mark line b o g p q =
    ap (λ x. resume knowing w (record e { scope = x }) (reverse fs) (closing mark (settle w (here (record e { scope = sc }) line) (statements_view b.now) o))) (sym (back_again e sc g))
    ∙ pushed knowing w (record e { scope = sc }) fs fs₁ (frame.Close mark (length e.scope.pointers) e.scope.count) (settle w (here (record e { scope = sc }) line) (statements_view b.now) o) p
    ∙ pushed knowing w (record e { scope = sc }) fs₁ fs₂ (frame.Settle line b) o q

-- pointers of which none was added
pub same_pointers : (ps : List Ptr) → Grown ps ps
same_pointers ps = ([], sym (append-nil ps))

-- ---- loops

pub test_there : (knowing : Knowing) (w : World) (c : Context) (test behind : Option Exp) (x : Stm) (y : Exp) (t : State) → test ≡ Some y → tested knowing w c test behind x t ≡ on_value (eval knowing w c y t) (λ v u. elim (is_true v) [ true ↦ w (turn_of c test behind x) u | false ↦ on u ])
test_there knowing w c test behind x y t p = subst (λ z. tested knowing w c z behind x t ≡ on_value (eval knowing w c y t) (λ v u. elim (is_true v) [ true ↦ w (turn_of c z behind x) u | false ↦ on u ])) (sym p) refl

pub behind_there : (knowing : Knowing) (w : World) (c : Context) (test behind : Option Exp) (x : Stm) (y : Exp) (t : State) → behind ≡ Some y → again knowing w c test behind x t ≡ on_value (eval knowing w c y t) (λ v u. tested knowing w c test behind x u)
behind_there knowing w c test behind x y t p = subst (λ z. again knowing w c test z x t ≡ on_value (eval knowing w c y t) (λ v u. tested knowing w c test z x u)) (sym p) refl

-- ---- computations on the way

pub stands_by : (knowing : Knowing) (w : World) (s : State) (m : Machine) (r : Result Focus Stop) (o o' : Res) → o ≡ o' → Stands knowing w s m r o' → Stands knowing w s m r o
stands_by knowing w s m r o o' p h = subst (λ x. Stands knowing w s m r x) (sym p) h

pub closing_led : (n : ℕ) (f : Flow) (s : State) → closing n (led f s) ≡ led f (ended_to n s)
closing_led n flow.On s = refl
closing_led n flow.Broke s = refl
closing_led n flow.Continued s = refl
closing_led n (flow.Went l) s = refl
closing_led n (flow.Back v) s = refl

-- a frame that waits for a value lets a flow pass
pub right_led : (knowing : Knowing) (w : World) (c : Context) (xs : List Step) (k : ValueData → State → Res) (f : Flow) (s : State) → followed knowing w c xs (on_value (led f s) k) ≡ led f s
right_led knowing w c xs k f s = ap (followed knowing w c xs) (led_passes f s k) ∙ followed_led knowing w c xs f s

pub returns_stand : (knowing : Knowing) (w : World) (s : State) (m : Machine) (r : Result Focus Stop) (o : State → Res) → Returns r o → Stands knowing w s m r (resume knowing w (env_of m) (reverse m.frames) (o (at s m)))
returns_stand knowing w s m (Ok (focus.Value v)) o h = ap (resume knowing w (env_of m) (reverse m.frames)) (h (at s m))
returns_stand knowing w s m (Ok (focus.Leads f)) o h = ap (resume knowing w (env_of m) (reverse m.frames)) (h (at s m))
returns_stand knowing w s m (Ok (focus.Runs x)) o h = absurd h
returns_stand knowing w s m (Ok (focus.Looks l x)) o h = absurd h
returns_stand knowing w s m (Ok (focus.Evaluates x)) o h = absurd h
returns_stand knowing w s m (Ok (focus.Puts c v)) o h = absurd h
returns_stand knowing w s m (Ok (focus.Calls n k)) o h = absurd h
returns_stand knowing w s m (Err x) o h = lifted knowing w (env_of m) (reverse m.frames) (at s m) x (o (at s m)) (h (at s m))

-- what the end of a run and a flow do to what waits
pub ruleset stopping = (resume_over, followed_over, followed_led, led_passes, closing_led)

pub behind_none : (knowing : Knowing) (w : World) (c : Context) (test behind : Option Exp) (x : Stm) (t : State) → behind ≡ None → again knowing w c test behind x t ≡ tested knowing w c test None x t
behind_none knowing w c test behind x t p = ap (λ z. again knowing w c test z x t) p

pub closed : (n : ℕ) (x : Stop) (s : State) (o : Res) → Stops x s o → Stops x s (closing n o)
closed n (stop.Over z) s o h = ap (closing n) h
closed n stop.OutOfMemory s o h = tt

pub over_stops : (knowing : Knowing) (w : World) (e : Env) (fs : List Frame) (s : State) (x : Stop) (y : Ending) (o : Res) → IsOver x y → o ≡ over y s → Stops x s (resume knowing w e fs o)
over_stops knowing w e fs s (stop.Over z) y o j h = ap (resume knowing w e fs) h ∙ resume_over knowing w e fs y s ∙ ap (λ y. over y s) j
over_stops knowing w e fs s stop.OutOfMemory y o j h = absurd j
