-- Values that are found on the spot, seen from the machine: it goes on with the value, or stands where the part of the run left it.
use Rattle.std.proofs.Common.{◌≡◌, ◌∙◌, refl, sym, ap, subst, arith, ℕ, ◌<◌, ◌≤◌, List, [], ◌∷◌, ◌++◌, append_assoc, length, map, take, true, false, Option, Some, None, Result, Ok, Err}
use Rattle.std.specs.Prelude.{reverse, IfOk}
use Rattle.std.proofs.lemmas.List.{take_at}
use Rattle.ec_base.specs.declared.line.Line.{Line}
use Rattle.ec_base.specs.declared.stop.Trap.TheVariants.{NoValue}
use Rattle.ec_code.specs.declared.expression.FullStep.{FullStep}
use Rattle.ec_code.specs.declared.program.Function.{Function}
use Rattle.ec_meaning_defs.specs.evaluation.Evaluate.{World, Step as Knowing}
use Rattle.ec_code.specs.Views.{full_step_view}
use Rattle.ec_meaning_defs.specs.evaluation.Results.{Res, back, done_there, ended_to, no_value, on_value, over, value}
use Rattle.ec_meaning_defs.specs.evaluation.State.{Ending, State, stuck, trapped}
use Rattle.ec_printf.specs.declared.formats.known.Known.{Known}
use Rattle.ec_printf.specs.formats.Known.{known_view}
use Rattle.ec_meaning_defs.specs.functions.Functions.{effect_of}
use Rattle.ec_memory_defs.specs.Memory.{ValueData, end_to}
use Rattle.ec_plain.proofs.Walks.{followed_over}
use Rattle.ec_values.specs.Words.{word_view}
use Rattle.ec_values.specs.declared.word.Word.{Word}
use Rattle.ec_machine.specs.declared.frame.Focus.{Focus}
use Rattle.ec_machine.specs.declared.frame.Focus.TheVariants as focus
use Rattle.ec_machine.specs.declared.frame.Frame.{Frame}
use Rattle.ec_machine.specs.declared.frame.Way.{Way}
use Rattle.ec_machine.specs.declared.machine.Machine.{Machine}
use Rattle.ec_machine.specs.declared.quick.Done.{Done}
use Rattle.ec_machine.specs.declared.quick.Done.TheVariants as done
use Rattle.ec_machine.specs.declared.stop.End.TheVariants as ends
use Rattle.ec_machine.specs.declared.stop.Stop.{Stop}
use Rattle.ec_machine.specs.declared.stop.Stop.TheVariants as stop
use Rattle.ec_machine.specs.Found.{Does, DoesNear, Finds, FindsAlone, LeavesNear, StandsAt, Stays}
use Rattle.ec_machine.specs.Frames.{Env, behind_by, cut, here, last_of, left_by, outside, resume, waiting}
use Rattle.ec_machine.specs.Goes.{Fits, Goes, IsOver, Stops, at, env_of, taken, tasks}
use Rattle.ec_machine.specs.Quick.{Onward}
use Rattle.ec_machine.specs.Weights.{remaining}
use Rattle.ec_machine.proofs.Moves.{all_rest, goes_as, none_waits, stands_by}
use Rattle.ec_machine.proofs.Parts.{stops_through}
use Rattle.ec_machine.proofs.Quickly.{came, halted, remaining_less, stops_over}
use Rattle.ec_machine.proofs.Weighing.{err_near, remaining_none}

-- the end of a run passes what is made of a part
abbrev pub Passed : (Knowing → World → Res → Res) → Type 0
Passed around = (knowing : Knowing) (w : World) (e : Ending) (s : State) → around knowing w (over e s) ≡ over e s

abbrev pub Equal : List Function → Machine → (Knowing → World → State → Res) → Word → Machine → Type 0
Equal fs m part v new = (knowing : Knowing) → Fits knowing → (k : ℕ) (s : State) → m.turns < k → part knowing (tasks knowing fs k) (at s m) ≡ value (word_view v) (at s new)

-- ---- what was found

module _ (fs : List Function) (m new : Machine) (e : Env) (line : Line) (around : Knowing → World → Res → Res) (part : Knowing → World → State → Res) (r : Option Word) (left : Result Focus Stop) where
  pub finds_some : (v : Word) → r ≡ Some v → Finds fs m e line around part r left new → Stays m e line new × Equal fs m part v new
  finds_some v p h = subst (λ r. Finds fs m e line around part r left new) p h

  pub finds_none : r ≡ None → Finds fs m e line around part r left new → Goes fs m e (λ knowing w t. around knowing w (part knowing w t)) left new
  finds_none p h = subst (λ r. Finds fs m e line around part r left new) p h

  pub finds_value : (v : Word) → r ≡ Some v → Stays m e line new → Equal fs m part v new → Finds fs m e line around part r left new
  finds_value v p a h = subst (λ r. Finds fs m e line around part r left new) (sym p) (a, h)

  pub finds_left : (so : Result Focus Stop) → r ≡ None → left ≡ so → Goes fs m e (λ knowing w t. around knowing w (part knowing w t)) so new → Finds fs m e line around part r left new
  finds_left so p q g = subst (λ r. Finds fs m e line around part r left new) (sym p) (subst (λ so. Goes fs m e (λ knowing w t. around knowing w (part knowing w t)) so new) (sym q) g)

  pub finds_stop : (x : Stop) → Passed around → r ≡ None → left ≡ Err x → ((knowing : Knowing) (fits : Fits knowing) (k : ℕ) (s : State) → m.turns < k → Stops x (at s new) (part knowing (tasks knowing fs k) (at s m))) → Finds fs m e line around part r left new
  finds_stop x passed p q h = finds_left (Err x) p q
      (halted fs m e (λ knowing w t. around knowing w (part knowing w t)) new x
      (λ knowing fits k s l. stops_through (around knowing (tasks knowing fs k)) (passed knowing (tasks knowing fs k)) x (at s new) (part knowing (tasks knowing fs k) (at s m)) (h knowing fits k s l)))

pub finds_as : (fs : List Function) (m new : Machine) (e : Env) (line : Line) (around : Knowing → World → Res → Res) (part part' : Knowing → World → State → Res) (r : Option Word) (left : Result Focus Stop)
    → ((knowing : Knowing) (w : World) (t : State) → part knowing w t ≡ part' knowing w t) → Finds fs m e line around part' r left new → Finds fs m e line around part r left new
finds_as fs m new e line around part part' (Some v) left h g = (g.0, λ knowing fits k s l. h knowing (tasks knowing fs k) (at s m) ∙ g.1 knowing fits k s l)
finds_as fs m new e line around part part' None left h g =
    goes_as fs m new e left (λ knowing w t. around knowing w (part knowing w t)) (λ knowing w t. around knowing w (part' knowing w t)) (λ knowing w t. ap (around knowing w) (h knowing w t)) g

-- from another machine, which has no more turns
pub finds_from : (fs : List Function) (m n new : Machine) (e : Env) (line : Line) (around : Knowing → World → Res → Res) (part part' : Knowing → World → State → Res) (r : Option Word) (left : Result Focus Stop)
    → n.frames ≡ m.frames → n.turns ≤ m.turns
    → ((knowing : Knowing) (fits : Fits knowing) (k : ℕ) (s : State) → m.turns < k → part knowing (tasks knowing fs k) (at s m) ≡ part' knowing (tasks knowing fs k) (at s n))
    → Finds fs n e line around part' r left new → Finds fs m e line around part r left new
finds_from fs m n new e line around part part' (Some v) left p q h g =
    (record { frames = g.0.frames ∙ p; env = g.0.env; same_line = g.0.same_line }, λ knowing fits k s l. h knowing fits k s l ∙ g.1 knowing fits k s (omega (arith, l, q)))
finds_from fs m n new e line around part part' None left p q h g =
    came fs m e (λ knowing w t. around knowing w (part knowing w t)) n (λ knowing w t. around knowing w (part' knowing w t)) p q (λ knowing fits k s l. ap (around knowing (tasks knowing fs k)) (h knowing fits k s l)) left new g

-- ---- going on with a value

-- the machine stands at it
pub value_stands : (fs : List Function) (m new : Machine) (e : Env) (line : Line) (part : Knowing → World → State → Res) (v : Word) → Stays m e line new → Equal fs m part v new → Goes fs m e part (Ok (focus.Value v)) new
value_stands fs m new e line part v a h = λ knowing fits k s l.
    let w = tasks knowing fs k in
    λ i. resume knowing w (sym a.env i) (reverse (sym a.frames i)) (h knowing fits k s l i)

-- what is made of it goes on
pub value_goes : (fs : List Function) (m mid new : Machine) (e : Env) (line : Line) (around : Knowing → World → Res → Res) (part : Knowing → World → State → Res) (v : Word) (r : Result Focus Stop)
    → Stays m e line mid → mid.turns ≤ m.turns → Equal fs m part v mid → Goes fs mid (env_of mid) (λ knowing w t. around knowing w (value (word_view v) t)) r new
    → Goes fs m e (λ knowing w t. around knowing w (part knowing w t)) r new
value_goes fs m mid new e line around part v r a q h g = λ knowing fits k s l.
    let w = tasks knowing fs k in
    stands_by knowing w s new r (resume knowing w e (reverse m.frames) (around knowing w (part knowing w (at s m)))) (resume knowing w (env_of mid) (reverse mid.frames) (around knowing w (value (word_view v) (at s mid))))
    (λ i. resume knowing w (sym a.env i) (reverse (sym a.frames i)) (around knowing w (h knowing fits k s l i)))
    (g knowing fits k s (omega (arith, l, q)))

-- ---- what needs no turn

pub alone_finds : (fs : List Function) (m new : Machine) (around : Knowing → World → Res → Res) (part : Knowing → World → State → Res) (r : Option Word) (left : Result Focus Stop) → Passed around → FindsAlone m part r left new → Finds fs m (env_of m) m.line around part r left new
alone_finds fs m new around part (Some v) left passed g = (g.0, λ knowing fits k s l. g.1 knowing (tasks knowing fs k) s)
alone_finds fs m new around part None left passed g = finds_stop fs m new (env_of m) m.line around part None left g.0 passed refl g.1.0 (λ knowing fits k s l. g.1.1 knowing (tasks knowing fs k) s)

module _ (m new : Machine) (part : Knowing → World → State → Res) (r : Option Word) (left : Result Focus Stop) where
  pub alone_value : (v : Word) → r ≡ Some v → Stays m (env_of m) m.line new → ((knowing : Knowing) (w : World) (s : State) → part knowing w (at s m) ≡ value (word_view v) (at s new)) → FindsAlone m part r left new
  alone_value v p a h = subst (λ r. FindsAlone m part r left new) (sym p) (a, h)

  pub alone_some : (v : Word) → r ≡ Some v → FindsAlone m part r left new → Stays m (env_of m) m.line new × ((knowing : Knowing) (w : World) (s : State) → part knowing w (at s m) ≡ value (word_view v) (at s new))
  alone_some v p h = subst (λ r. FindsAlone m part r left new) p h

  pub alone_none : r ≡ None → FindsAlone m part r left new → (x : Stop) × ((left ≡ Err x) × ((knowing : Knowing) (w : World) (s : State) → Stops x (at s new) (part knowing w (at s m))))
  alone_none p h = subst (λ r. FindsAlone m part r left new) p h

  pub alone_stop : (x : Stop) → r ≡ None → left ≡ Err x → ((knowing : Knowing) (w : World) (s : State) → Stops x (at s new) (part knowing w (at s m))) → FindsAlone m part r left new
  alone_stop x p q h = subst (λ r. FindsAlone m part r left new) (sym p) (x, (q, h))

-- ---- how much is left

module _ (t : ℕ) (r : Option Word) (left : Result Focus Stop) (m : Machine) where
  pub near_value : (n : ℕ) (v : Word) → r ≡ Some v → LeavesNear t r left m n
  near_value n v p = subst (λ r. LeavesNear t r left m n) (sym p) tt

  pub near_left : (n : ℕ) → r ≡ None → LeavesNear t r left m n → remaining t left m ≤ n
  near_left n p h = subst (λ r. LeavesNear t r left m n) p h

  pub near_none : (n : ℕ) → r ≡ None → remaining t left m ≤ n → LeavesNear t r left m n
  near_none n p h = subst (λ r. LeavesNear t r left m n) (sym p) h

  pub near_stop : (n : ℕ) (x : Stop) → r ≡ None → left ≡ Err x → LeavesNear t r left m n
  near_stop n x p q = near_none n p (subst (λ left. remaining t left m ≤ n) (sym q) (err_near t n x m))

pub leaves_as : (t t' n n' : ℕ) (r : Option Word) (left : Result Focus Stop) (m : Machine) → t' ≤ t → n ≤ n' → LeavesNear t' r left m n → LeavesNear t r left m n'
leaves_as t t' n n' (Some v) left m h i g = tt
leaves_as t t' n n' None left m h i g = omega (arith, remaining_less t t' left m h, i, g)

pub leaves_fewer : (t n : ℕ) (r : Option Word) (left : Result Focus Stop) (m : Machine) → m.turns < t → LeavesNear t r left m n
leaves_fewer t n (Some v) left m h = tt
leaves_fewer t n None left m h = omega (arith, remaining_none t left m h)

pub alone_near : (t n : ℕ) (m new : Machine) (part : Knowing → World → State → Res) (r : Option Word) (left : Result Focus Stop) → FindsAlone m part r left new → LeavesNear t r left new n
alone_near t n m new part (Some v) left g = tt
alone_near t n m new part None left g = near_stop t None left new n g.0 refl g.1.0

-- ---- a frame that is taken back

pub taken_back : (fs fs' fs'' : List Frame) (f : Frame) (n : ℕ) → n ≡ length fs → fs' ≡ fs ++ f ∷ [] → fs'' ≡ fs' → take n fs'' ≡ fs
taken_back fs fs' fs'' f n p q r = (λ i. take (p i) ((r ∙ q) i)) ∙ take_at fs (f ∷ []) (length fs) refl

pub front_back : (fs fs' fs'' more : List Frame) (f : Frame) (n : ℕ) → n ≡ length fs → fs' ≡ fs ++ more → fs'' ≡ fs' ++ f ∷ [] → take n fs'' ≡ fs
front_back fs fs' fs'' more f n p q r = (λ i. take (p i) (r i)) ∙ (λ i. take (length fs) (q i ++ f ∷ [])) ∙ ap (take (length fs)) (append_assoc fs more (f ∷ [])) ∙ take_at fs (more ++ f ∷ []) (length fs) refl

-- ---- further on

-- what is found from where a value left the machine
pub finds_after : (fs : List Function) (m mid new : Machine) (e : Env) (line : Line) (around : Knowing → World → Res → Res) (part part' : Knowing → World → State → Res) (r : Option Word) (left : Result Focus Stop)
    → Stays m e line mid → mid.turns ≤ m.turns
    → ((knowing : Knowing) (fits : Fits knowing) (k : ℕ) (s : State) → m.turns < k → part knowing (tasks knowing fs k) (at s m) ≡ part' knowing (tasks knowing fs k) (at s mid))
    → Finds fs mid (env_of mid) mid.line around part' r left new → Finds fs m e line around part r left new
finds_after fs m mid new e line around part part' r left a q h g =
    finds_from fs m mid new e line around part part' r left a.frames q h
    (subst (λ l. Finds fs mid e l around part' r left new) a.same_line (subst (λ e. Finds fs mid e mid.line around part' r left new) a.env g))

-- what is made of a part by steps, at the same place under another name
pub finds_at : (fs : List Function) (n new : Machine) (e e' : Env) (line line' : Line) (steps : List FullStep) (part : Knowing → World → State → Res) (r : Option Word) (left : Result Focus Stop)
    → e ≡ e' → line ≡ line' → Finds fs n e line (behind_by (here e line) steps) part r left new → Finds fs n e' line' (behind_by (here e' line') steps) part r left new
finds_at fs n new e e' line line' steps part r left p q g =
    subst (λ l. Finds fs n e' l (behind_by (here e' l) steps) part r left new) q (subst (λ e. Finds fs n e line (behind_by (here e line) steps) part r left new) p g)

-- steps that follow a value where the machine stands then
pub goes_behind : (fs : List Function) (m mid new : Machine) (e : Env) (line : Line) (steps : List FullStep) (part : Knowing → World → State → Res) (v : Word) (r : Result Focus Stop)
    → Stays m e line mid → mid.turns ≤ m.turns → Equal fs m part v mid
    → Goes fs mid (env_of mid) (λ knowing w t. behind_by (here (env_of mid) mid.line) steps knowing w (value (word_view v) t)) r new
    → Goes fs m e (λ knowing w t. behind_by (here e line) steps knowing w (part knowing w t)) r new
goes_behind fs m mid new e line steps part v r a q h g =
    value_goes fs m mid new e line (behind_by (here e line) steps) part v r a q h
    (subst (λ l. Goes fs mid (env_of mid) (λ knowing w t. behind_by (here e l) steps knowing w (value (word_view v) t)) r new) a.same_line
    (subst (λ d. Goes fs mid (env_of mid) (λ knowing w t. behind_by (here d mid.line) steps knowing w (value (word_view v) t)) r new) a.env g))

-- no value waits yet
pub no_values_found : (fs : List Function) (m new : Machine) (around : Knowing → World → Res → Res) (r : Option Word) (left : Result Focus Stop) (part : List ValueData → Knowing → World → State → Res)
    → Finds fs m (taken 0 (env_of m)) m.line around (part (waiting 0 (env_of m))) r left new → Finds fs m (env_of m) m.line around (part []) r left new
no_values_found fs m new around r left part g =
    subst (λ e. Finds fs m e m.line around (part []) r left new) (λ i. record (env_of m) { values = all_rest m.values i })
    (subst (λ xs. Finds fs m (taken 0 (env_of m)) m.line around (part xs) r left new) (ap (map word_view) (none_waits m.values)) g)

-- the machine goes on from where a value left it
pub goes_after : (fs : List Function) (m mid new : Machine) (e : Env) (line : Line) (part part' : Knowing → World → State → Res) (r : Result Focus Stop)
    → Stays m e line mid → mid.turns ≤ m.turns
    → ((knowing : Knowing) (fits : Fits knowing) (k : ℕ) (s : State) → m.turns < k → part knowing (tasks knowing fs k) (at s m) ≡ part' knowing (tasks knowing fs k) (at s mid))
    → Goes fs mid (env_of mid) part' r new → Goes fs m e part r new
goes_after fs m mid new e line part part' r a q h g = came fs m e part mid part' a.frames q h r new (subst (λ e. Goes fs mid e part' r new) a.env g)

pub stays_on : (m n p : Machine) → Stays m (env_of m) m.line n → Stays n (env_of n) n.line p → Stays m (env_of m) m.line p
stays_on m n p a b = record { frames = b.frames ∙ a.frames; env = b.env ∙ a.env; same_line = b.same_line ∙ a.same_line }

-- a known function ends the run, and leaves the memory as it was
pub refused : (fs : List Function) (m new : Machine) (count : ℕ) (steps : List FullStep) (known : Known) (r : Option Word) (left : Result Focus Stop) (y : Ending) (x : Stop) (vs : List Word)
    → vs ≡ last_of count m.values → r ≡ None → left ≡ Err x → new.store ≡ m.store → new.turns ≡ m.turns → IsOver x y
    → ((s : State) → done_there m.line.0 (effect_of (known_view known) m.store (map word_view vs)) (at s m) ≡ over y (at s m))
    → Finds fs m (taken count (env_of m)) m.line (behind_by (here (env_of m) m.line) steps) (λ knowing w t. done_there m.line.0 (effect_of (known_view known) t.memory (waiting count (env_of m))) t) r left new
refused fs m new count steps known r left y x vs v p q same turns j h =
    finds_stop fs m new (taken count (env_of m)) m.line (behind_by (here (env_of m) m.line) steps) (λ knowing w t. done_there m.line.0 (effect_of (known_view known) t.memory (waiting count (env_of m))) t) r left x
    (λ knowing w e s. followed_over knowing w (here (env_of m) m.line) (map full_step_view steps) e s) p q
    (λ knowing fits k s l. stops_over x y (at s new) _ j
    (ap (λ v. done_there m.line.0 (effect_of (known_view known) m.store (map word_view v)) (at s m)) (sym v) ∙ h s ∙ (λ i. over y (record s { memory = sym same i; turns = sym turns i }))))

-- ---- functions that ended

module _ (s : State) (m p : Machine) (x : Way) where
  pub ended_with : (v : Word) → p ≡ record m { store = end_to m.store x.mark; scope = cut x.height x.count m.scope; first = x.first; line = x.line } → left_by x (back (Some (word_view v)) (at s m)) ≡ value (word_view v) (at s p)
  ended_with v h = ap (λ p. value (word_view v) (at s p)) (sym h)

  pub ended_unused : x.used ≡ false → p ≡ record m { store = end_to m.store x.mark; scope = cut x.height x.count m.scope; first = x.first; line = x.line } → left_by x (back None (at s m)) ≡ value no_value (at s p)
  ended_unused u h = ap (λ b. elim b [ true ↦ over (trapped NoValue x.line.0) (ended_to x.mark (at s m)) | false ↦ value no_value (ended_to x.mark (at s m)) ]) u ∙ ap (λ p. value no_value (at s p)) (sym h)

  pub ended_used : x.used ≡ true → p ≡ record m { store = end_to m.store x.mark; scope = cut x.height x.count m.scope; first = x.first; line = x.line } → left_by x (back None (at s m)) ≡ over (trapped NoValue x.line.0) (at s p)
  ended_used u h = ap (λ b. elim b [ true ↦ over (trapped NoValue x.line.0) (ended_to x.mark (at s m)) | false ↦ value no_value (ended_to x.mark (at s m)) ]) u ∙ ap (λ p. over (trapped NoValue x.line.0) (at s p)) (sym h)

-- ---- what is done

module _ (fs : List Function) (m new : Machine) (part : Knowing → World → State → Res) (around : Knowing → World → Res → Res) (r : Result Done Stop) (left : Result Focus Stop) (h : Does fs m part around r left new) where
  pub does_all : r ≡ Ok done.All → Stays m (env_of m) m.line new × ((knowing : Knowing) → Fits knowing → (k : ℕ) (s : State) → (go : State → Res) → m.turns < k → on_value (part knowing (tasks knowing fs k) (at s m)) (λ v u. go u) ≡ go (at s new))
  does_all p = subst (λ r. Does fs m part around r left new) p h

  pub does_nothing : r ≡ Ok done.Nothing → Goes fs m (env_of m) (λ knowing w t. around knowing w (part knowing w t)) left new
  does_nothing p = subst (λ r. Does fs m part around r left new) p h

  pub does_stops : (x : Stop) → r ≡ Err x → Goes fs m (env_of m) (λ knowing w t. around knowing w (part knowing w t)) (Err x) new
  does_stops x p = subst (λ r. Does fs m part around r left new) p h

pub does_near : (t n : ℕ) (r : Result Done Stop) (left : Result Focus Stop) (m : Machine) → r ≡ Ok done.Nothing → IfOk r (λ d. DoesNear t d left m n) → remaining t left m ≤ n
does_near t n r left m p h = subst (λ r. IfOk r (λ d. DoesNear t d left m n)) p h

-- what has no meaning behind the body of a function
pub astray_goes : (fs : List Function) (m new : Machine) (r : Result Focus Stop) (x : Way) (part : Knowing → World → State → Res) → r ≡ Err (stop.Over ends.Stuck) → new ≡ record m { store = end_to m.store x.mark }
    → ((knowing : Knowing) (fits : Fits knowing) (k : ℕ) (s : State) → m.turns < k → left_by x (part knowing (tasks knowing fs k) (at s m)) ≡ over stuck (ended_to x.mark (at s m)))
    → Goes fs m (outside x (env_of m)) (λ knowing w t. behind_by (here (outside x (env_of m)) x.line) x.steps.now knowing w (left_by x (part knowing w t))) r new
astray_goes fs m new r x part p q h =
    let e = outside x (env_of m) in
    subst (λ r. Goes fs m e (λ knowing w t. behind_by (here e x.line) x.steps.now knowing w (left_by x (part knowing w t))) r new) (sym p)
    (halted fs m e (λ knowing w t. behind_by (here e x.line) x.steps.now knowing w (left_by x (part knowing w t))) new (stop.Over ends.Stuck)
    (λ knowing fits k s l. let w = tasks knowing fs k in
    ap (behind_by (here e x.line) x.steps.now knowing w) (h knowing fits k s l)
    ∙ followed_over knowing w (here e x.line) (map full_step_view x.steps.now) stuck (ended_to x.mark (at s m))
    ∙ ap (λ n. over stuck (at s n)) (sym q)))

pub onward_left : (fs : List Function) (m new : Machine) (part further : Machine → Knowing → World → State → Res) (left : Result Focus Stop) (r : Result (Option Focus) Stop) → StandsAt left r → Goes fs m (env_of m) (part m) left new → Onward fs m part r new further
onward_left fs m new part further (Ok f) r p g = subst (λ r. Onward fs m part r new further) (sym p) g
onward_left fs m new part further (Err x) r p g = subst (λ r. Onward fs m part r new further) (sym p) g
