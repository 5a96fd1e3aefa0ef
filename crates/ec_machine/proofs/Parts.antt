-- What parts of a step do, over plain variables.
use Rattle.std.proofs.Common.{◌≡◌, ◌∙◌, refl, sym, ap, subst, arith, ℕ, ◌+◌, ◌-◌, ◌<◌, ◌≤◌, List, [], ◌∷◌, ◌++◌, length, get_or, map, take, drop, Option, Result}
use Rattle.std.proofs.lemmas.List.{append-nil, map-append, take_all}
use Rattle.ec_code.specs.declared.expression.FullStep.{FullStep}
use Rattle.ec_code.specs.declared.expression.FullStep.TheVariants as step
use Rattle.ec_code.specs.declared.expression.Expression.{Expression}
use Rattle.ec_code.specs.declared.program.Function.{Function}
use Rattle.ec_code.specs.declared.step.Binary.{Binary}
use Rattle.ec_code.specs.declared.step.Unary.{Unary}
use Rattle.ec_code.specs.Trees.{Step}
use Rattle.ec_code.specs.Views.{expression_view, full_step_view}
use Rattle.ec_meaning_defs.specs.evaluation.Evaluate.{Context, World, Step as Knowing}
use Rattle.ec_meaning_defs.specs.evaluation.Results.{Res, value, over, done_there, or_no_value}
use Rattle.ec_meaning_defs.specs.evaluation.State.{Ending, State}
use Rattle.ec_meaning_defs.specs.functions.Functions.{Channel, standard_output, standard_error, puts_bytes}
use Rattle.ec_memory_defs.specs.Memory.{Memory, ValueData}
use Rattle.ec_plain.specs.Steps.{followed, one_on, two_on}
use Rattle.ec_values.specs.Words.{word_view}
use Rattle.ec_values.specs.declared.word.Word.{Word}
use Rattle.ec_machine.specs.declared.frame.Focus.{Focus}
use Rattle.ec_machine.specs.declared.frame.Frame.{Frame}
use Rattle.ec_machine.specs.declared.machine.Machine.{Machine}
use Rattle.ec_machine.specs.declared.stop.Stop.{Stop}
use Rattle.ec_machine.specs.declared.stop.Stop.TheVariants as stop
use Rattle.ec_machine.specs.Frames.{Env, below, denote, last_of, plug, without_last, waiting}
use Rattle.ec_machine.specs.Goes.{Goes, Stops, ending_view, env_of, taken}
use Rattle.ec_machine.proofs.Moves.{last_push, rest_push}
use Rattle.ec_machine.proofs.Views.{view-One, view-Two}

-- ---- values that wait

module _ (m : Machine) (count more : ℕ) (v : Word) (vs : List Word) (p : vs ≡ m.values ++ v ∷ []) (q : more ≡ count + 1) where
  pub values_wait : waiting count (env_of m) ++ word_view v ∷ [] ≡ waiting more (env_of (record m { values = vs }))
  values_wait = sym ((λ i. map word_view (last_of (q i) (p i))) ∙ ap (map word_view) (last_push m.values count v) ∙ map-append word_view (last_of count m.values) (v ∷ []))

  left : without_last more vs ≡ without_last count m.values
  left = (λ i. without_last (q i) (p i)) ∙ rest_push m.values count v

  pub values_rest : taken more (env_of (record m { values = vs })) ≡ taken count (env_of m)
  values_rest = λ i. record (env_of m) { values = left i }

pub values_pushed : (fs : List Function) (m new : Machine) (r : Result Focus Stop) (count more : ℕ) (v : Word) (vs : List Word) (part : List ValueData → Knowing → World → State → Res) → vs ≡ m.values ++ v ∷ [] → more ≡ count + 1
    → Goes fs (record m { values = vs }) (taken more (env_of (record m { values = vs }))) (part (waiting more (env_of (record m { values = vs })))) r new
    → Goes fs m (taken count (env_of m)) (part (waiting count (env_of m) ++ word_view v ∷ [])) r new
values_pushed fs m new r count more v vs part p q g =
    subst (λ e. Goes fs m e (part (waiting count (env_of m) ++ word_view v ∷ [])) r new) (values_rest m count more v vs p q)
    (subst (λ xs. Goes fs m (taken more (env_of (record m { values = vs }))) (part xs) r new) (sym (values_wait m count more v vs p q)) g)

-- ---- what is put

pub puts_there : (channel : Channel) (line : ℕ) (v : Option ValueData) (m m' : Memory) (text : List ℕ) (s : State) → done_there line (puts_bytes channel v m text) s ≡ done_there line (puts_bytes channel v m text) (record s { memory = m' })
puts_there standard_output line v m m' text s = refl
puts_there standard_error line v m m' text s = refl

-- no bytes are put
pub nothing_put : (channel : Channel) (line : ℕ) (v : Option ValueData) (x : Word) (m : Memory) (text : List ℕ) (s : State) → text ≡ [] → word_view x ≡ or_no_value v → done_there line (puts_bytes channel v m text) s ≡ value (word_view x) (record s { memory = m })
nothing_put standard_output line v x m text s p q = λ i. value (sym q i) (record s { memory = m; output = (ap (λ t. s.output ++ t) p ∙ append-nil s.output) i; errors = append-nil s.errors i })
nothing_put standard_error line v x m text s p q = λ i. value (sym q i) (record s { memory = m; output = append-nil s.output i; errors = (ap (λ t. s.errors ++ t) p ∙ append-nil s.errors) i })

-- ---- ends that pass

pub stops_through : (f : Res → Res) → ((e : Ending) (s : State) → f (over e s) ≡ over e s) → (x : Stop) (s : State) (o : Res) → Stops x s o → Stops x s (f o)
stops_through f h (stop.Over z) s o p = ap f p ∙ h (ending_view z) s
stops_through f h stop.OutOfMemory s o p = tt

-- ---- steps behind a value

module _ (knowing : Knowing) (w : World) (c : Context) (s : State) (x : FullStep) (rest : List Step) (v : ValueData) where
  pub first_One : (u : Unary) → x ≡ step.One u → followed knowing w c (full_step_view x ∷ rest) (value v s) ≡ followed knowing w c rest (one_on c.line u v s)
  first_One u p = ap (λ z. followed knowing w c (z ∷ rest) (value v s)) (ap full_step_view p ∙ view-One u)

  pub first_Two : (b : Binary) (e : Expression) → x ≡ step.Two b e → followed knowing w c (full_step_view x ∷ rest) (value v s) ≡ followed knowing w c rest (two_on knowing w c b (expression_view e) v s)
  first_Two b e p = ap (λ z. followed knowing w c (z ∷ rest) (value v s)) (ap full_step_view p ∙ view-Two b e)

-- ---- frames that are given an answer

pub given_as : (fs : List Function) (m new : Machine) (e : Env) (f g : Frame) (r : Result Focus Stop) (o : State → Res) → f ≡ g → Goes fs m (below e g) (λ knowing w t. plug knowing w e g (o t)) r new → Goes fs m (below e f) (λ knowing w t. plug knowing w e f (o t)) r new
given_as fs m new e f g r o p h = subst (λ z. Goes fs m (below e z) (λ knowing w t. plug knowing w e z (o t)) r new) (sym p) h

pub focus_as : (fs : List Function) (m new : Machine) (f g : Focus) (r : Result Focus Stop) → f ≡ g → Goes fs m (env_of m) (λ knowing w t. denote knowing w (env_of m) m.line m.text g t) r new → Goes fs m (env_of m) (λ knowing w t. denote knowing w (env_of m) m.line m.text f t) r new
focus_as fs m new f g r p h = subst (λ z. Goes fs m (env_of m) (λ knowing w t. denote knowing w (env_of m) m.line m.text z t) r new) (sym p) h

-- ---- slices

pub none_left : {A : Type 0} (xs : List A) → length xs < 1 → xs ≡ []
none_left [] h = refl
none_left (x ∷ xs) h = absurd (omega (arith, h))

pub front_any : {A : Type 0} (xs : List A) (d : A) → 1 ≤ length xs → xs ≡ get_or xs 0 d ∷ take (length xs - 1) (drop 1 xs)
front_any [] d h = absurd (omega (arith, h))
front_any (x ∷ ys) d h = ap (λ zs. x ∷ zs) (sym (take_all (length (x ∷ ys) - 1) ys (omega arith)))

pub front_is : {A : Type 0} (xs : List A) (x : A) → 1 ≤ length xs → x ≡ get_or xs 0 x → xs ≡ x ∷ take (length xs - 1) (drop 1 xs)
front_is xs x h e = front_any xs x h ∙ ap (λ y. y ∷ take (length xs - 1) (drop 1 xs)) (sym e)

pub only_is : {A : Type 0} (xs : List A) (x : A) → length xs ≡ 1 → x ≡ get_or xs 0 x → xs ≡ x ∷ []
only_is [] x h e = absurd (omega (arith, h))
only_is (y ∷ []) x h e = ap (λ z. z ∷ []) (sym e)
only_is (y ∷ z ∷ zs) x h e = absurd (omega (arith, h))
