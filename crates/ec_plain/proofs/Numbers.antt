-- What is found at once is where the steps lead.
use Rattle.std.proofs.Common.{◌≡◌, ◌∙◌, refl, ap, sym, rules, arith, ℕ, suc, ◌-◌, ◌≤◌, ◌<◌, length, get_or, take, drop, take_all, List, [], ◌∷◌, Option, Some, None, Ok, ℤ, Bool}
use Rattle.std.specs.Prelude.{map, IfSome}
use Rattle.ec_bytes.specs.declared.scalar.address.Ptr.{Ptr}
use Rattle.ec_code.specs.Trees.{Step, one, two, leaf_view, walked}
use Rattle.ec_code.specs.Views.{plain_step_view, plain_view}
use Rattle.ec_code.specs.declared.expression.Plain.{Plain, out-Plain, the_lemmas}
use Rattle.ec_code.specs.declared.expression.PlainStep.{PlainStep}
use Rattle.ec_code.specs.declared.step.Binary.TheVariants as binary
use Rattle.ec_code.specs.declared.step.Leaf.{Leaf}
use Rattle.ec_code.specs.declared.step.Leaf.TheVariants as leaf
use Rattle.ec_code.specs.declared.step.Unary.TheVariants as unary
use Rattle.ec_values.specs.declared.word.Word.{Word}
use Rattle.ec_values.specs.Words.{word_view}
use Rattle.ec_meaning_defs.specs.resolved.Operations.{address_worked, gives, worked}
use Rattle.ec_values.specs.Operations.{operation_view}
use Rattle.ec_values.specs.declared.operation.Operation.{Operation}
use Rattle.ec_values.specs.declared.operation.Operation.TheVariants as operation
use Rattle.ec_code.specs.declared.step.Update.{Update}
use Rattle.ec_meaning_defs.specs.resolved.Resolved.{Exp}
use Rattle.ec_meaning_defs.specs.resolved.Resolved as of
use Rattle.ec_meaning_defs.specs.evaluation.Evaluate.{World, Step as Knowing, eval}
use Rattle.ec_meaning_defs.specs.evaluation.Results.{value, tried, on_value, worked_out}
use Rattle.ec_meaning_defs.specs.evaluation.State.{State}
use Rattle.ec_memory_defs.specs.Kinds.{kind_type}
use Rattle.ec_memory_defs.specs.declared.kind.Kind.{Kind}
use Rattle.ec_memory_defs.specs.Memory.{Memory, ValueData, number, address, load, moved}
use Rattle.ec_plain.specs.Answered.{at, context}
use Rattle.ec_plain.specs.Numbers.{Changes, Follows, FollowsPlace, Leads, Operates, Stands, StepLeads, Targets, Updates}
use Rattle.ec_plain.specs.Steps.{both_on, followed, one_on, step_on}
use Rattle.ec_plain.proofs.Walks.{walk_leads}

-- the list from its first item and what stands behind it
pub front_is : {A : Type 0} (xs : List A) (x : A) → 1 ≤ length xs → x ≡ get_or xs 0 x → xs ≡ x ∷ take (length xs - 1) (drop 1 xs)
front_is [] x h e = absurd (omega arith)
front_is (y ∷ ys) x h e =
    let less : suc (length ys) - 1 ≡ length ys = omega arith in
    ap (λ a. a ∷ ys) (sym e) ∙ ap (λ r. x ∷ r) (sym (ap (λ n. take n ys) less ∙ take_all (length ys) ys (omega arith)))

pub none_is : {A : Type 0} (xs : List A) → length xs < 1 → xs ≡ []
none_is [] l = refl
none_is (a ∷ xs) l = absurd (omega arith)

pub one_is : {A : Type 0} (xs : List A) (x : A) → 1 ≤ length xs → length xs < 2 → x ≡ get_or xs 0 x → xs ≡ x ∷ []
one_is [] x h l e = absurd (omega arith)
one_is (a ∷ []) x h l e = ap (λ a. a ∷ []) (sym e)
one_is (a ∷ b ∷ xs) x h l e = absurd (omega arith)

pub two_are : {A : Type 0} (xs : List A) (x y : A) → 2 ≤ length xs → length xs < 3 → x ≡ get_or xs 0 x → y ≡ get_or xs 1 y → xs ≡ x ∷ y ∷ []
two_are [] x y h l d e = absurd (omega arith)
two_are (a ∷ []) x y h l d e = absurd (omega arith)
two_are (a ∷ b ∷ []) x y h l d e = ap (λ a. a ∷ b ∷ []) (sym d) ∙ ap (λ b. x ∷ b ∷ []) (sym e)
two_are (a ∷ b ∷ c ∷ xs) x y h l d e = absurd (omega arith)

module _ (scope : List Ptr) where
  -- the value of a constant
  pub constant_leads : (x : Word) (m : Memory) (r : Option ℤ) → IfSome r (λ z. word_view x ≡ number z) → IfSome r (λ z. Leads scope (leaf_view (leaf.Constant x)) m m (number z))
  constant_leads x m None h = tt
  constant_leads x m (Some z) h = λ knowing w line first s. ap (λ v. value v (at s m)) h

  -- the same of an equal leaf
  pub leaf_as : (l k : Leaf) (m : Memory) (r : Option ℤ) → l ≡ k → IfSome r (λ z. Leads scope (leaf_view k) m m (number z)) → IfSome r (λ z. Leads scope (leaf_view l) m m (number z))
  leaf_as l k m None h f = tt
  leaf_as l k m (Some z) h f = λ knowing w line first s. ap (λ x. eval knowing w (context line scope first) (leaf_view x) (at s m)) h ∙ f knowing w line first s

  -- the value of an object
  pub value_leads : (e : Exp) (kind : Kind) (m : Memory) (p : ℕ) (r : Option ℤ) → Leads scope e m m (address p) → IfSome r (λ z. load m p (kind_type kind) ≡ Ok (number z)) → IfSome r (λ z. Leads scope (of.load (kind_type kind) e) m m (number z))
  value_leads e kind m p None l f = tt
  value_leads e kind m p (Some z) l f = λ knowing w line first s.
      ap (λ r. on_value r (one_on line (unary.Load kind))) (l knowing w line first s)
      ∙ ap (λ a. tried line a (at s m) (λ x. value x (at s m))) f

  -- the same of equal steps
  pub step_as : {A : Type 0} (g : A → ValueData) (x y : Step) (v : ValueData) (m n : Memory) (r : Option A) → x ≡ y → IfSome r (λ a. StepLeads scope y v m n (g a)) → IfSome r (λ a. StepLeads scope x v m n (g a))
  step_as g x y v m n None h f = tt
  step_as g x y v m n (Some a) h f = λ knowing w line first s. ap (λ q. step_on knowing w (context line scope first) q v (at s m)) h ∙ f knowing w line first s

  -- an operation on two numbers
  pub operate_leads : (op : Operation) (a : Exp) (x y : ℤ) (m : Memory) (r : Option ℤ) → Leads scope a m m (number y) → IfSome r (λ z. worked (operation_view op) m (number x) (number y) ≡ gives (number z)) → IfSome r (λ z. StepLeads scope (two (binary.Operate op) a) (number x) m m (number z))
  operate_leads op a x y m None l f = tt
  operate_leads op a x y m (Some z) l f = λ knowing w line first s.
      ap (λ r. on_value r (both_on line (binary.Operate op) (number x) (number x))) (l knowing w line first s)
      ∙ ap (λ g. worked_out line g (at s m) (λ v. value v (at s m))) f

  -- a place that moves by a number
  pub move_leads : (size : ℕ) (a : Exp) (p : ℕ) (by : ℤ) (m : Memory) (r : Option Ptr) → Leads scope a m m (number by) → IfSome r (λ q. moved m p by size ≡ Ok q.0) → IfSome r (λ q. StepLeads scope (two (binary.Operate (operation.PointerPlus size)) a) (address p) m m (address q.0))
  move_leads size a p by m None l f = tt
  move_leads size a p by m (Some q) l f = λ knowing w line first s.
      ap (λ r. on_value r (both_on line (binary.Operate (operation.PointerPlus size)) (address p) (address p))) (l knowing w line first s)
      ∙ ap (λ g. worked_out line (address_worked g) (at s m) (λ v. value v (at s m))) f

  -- the value at a place, and the steps behind it
  pub load_leads : (steps rest : List PlainStep) (kind : Kind) (m : Memory) (p : ℕ) (begun : ℤ) (r : Option ℤ) → map plain_step_view steps ≡ one (unary.Load kind) ∷ map plain_step_view rest → load m p (kind_type kind) ≡ Ok (number begun) → IfSome r (λ z. Follows scope rest begun m z) → IfSome r (λ z. FollowsPlace scope steps p m z)
  load_leads steps rest kind m p begun None h found f = tt
  load_leads steps rest kind m p begun (Some z) h found f = λ knowing w line first s.
      ap (λ ys. followed knowing w (context line scope first) ys (value (address p) (at s m))) h
      ∙ ap (λ a. followed knowing w (context line scope first) (map plain_step_view rest) (tried line a (at s m) (λ x. value x (at s m)))) found
      ∙ f knowing w line first s

  -- the number that two steps make of a place, and the steps behind it
  pub pair_leads : (steps : List PlainStep) (x y : PlainStep) (rest : List PlainStep) (m : Memory) (p : ℕ) (begun : ℤ) (r : Option ℤ) → steps ≡ x ∷ y ∷ rest → FollowsPlace scope (x ∷ y ∷ []) p m begun → IfSome r (λ z. Follows scope rest begun m z) → IfSome r (λ z. FollowsPlace scope steps p m z)
  pair_leads steps x y rest m p begun None h b f = tt
  pair_leads steps x y rest m p begun (Some z) h b f = λ knowing w line first s.
      ap (λ ys. followed knowing w (context line scope first) (map plain_step_view ys) (value (address p) (at s m))) h
      ∙ ap (followed knowing w (context line scope first) (map plain_step_view rest)) (b knowing w line first s)
      ∙ f knowing w line first s

  -- the number at the right of an operation
  pub operates : (step : Step) (op : Operation) (a : Exp) (y : ℤ) (m : Memory) → step ≡ two (binary.Operate op) a → Leads scope a m m (number y) → Operates scope step m op y
  operates step op a y m is l = λ x z w. step_as number step (two (binary.Operate op) a) (number x) m m (Some z) is (operate_leads op a x y m (Some z) l w)

  pub operated : (step : Step) (op : Operation) (x y : ℤ) (m : Memory) (r : Option ℤ) → Operates scope step m op y → IfSome r (λ z. worked (operation_view op) m (number x) (number y) ≡ gives (number z)) → IfSome r (λ z. StepLeads scope step (number x) m m (number z))
  operated step op x y m None o f = tt
  operated step op x y m (Some z) o f = o x z f

  -- what two steps make of a number
  pub follows_two : (steps : List PlainStep) (x y : PlainStep) (begun made : ℤ) (m : Memory) (r : Option ℤ) → steps ≡ x ∷ y ∷ [] → StepLeads scope (plain_step_view x) (number begun) m m (number made) → IfSome r (λ z. StepLeads scope (plain_step_view y) (number made) m m (number z)) → IfSome r (λ z. Follows scope steps begun m z)
  follows_two steps x y begun made m None h b f = tt
  follows_two steps x y begun made m (Some z) h b f = λ knowing w line first s.
      ap (λ ys. followed knowing w (context line scope first) (map plain_step_view ys) (value (number begun) (at s m))) h
      ∙ ap (followed knowing w (context line scope first) (plain_step_view y ∷ [])) (b knowing w line first s)
      ∙ f knowing w line first s

  -- a place that is another leaf
  pub stands_as : (l k : Leaf) (r : Option Ptr) → l ≡ k → IfSome r (λ p. Stands scope (leaf_view k) p.0) → IfSome r (λ p. Stands scope (leaf_view l) p.0)
  stands_as l k None h f = tt
  stands_as l k (Some p) h f = λ m knowing w line first s. ap (λ x. eval knowing w (context line scope first) (leaf_view x) (at s m)) h ∙ f m knowing w line first s

  -- what a target leads to
  pub targeted : (e : Exp) (m n : Memory) (p : ℕ) (step : Step) (r : Option ℤ) → Targets scope e m p step → IfSome r (λ z. StepLeads scope step (address p) m n (number z)) → IfSome r (λ z. Leads scope e m n (number z))
  targeted e m n p step None t f = tt
  targeted e m n p step (Some z) t f = t n z f

  -- what a change leads to
  pub updated_by : (step : Step) (u : Update) (y : ℤ) (p : ℕ) (m n : Memory) (r : Option ℤ) → Updates scope step m u y → IfSome r (λ z. Changes u p y m n z) → IfSome r (λ z. StepLeads scope step (address p) m n (number z))
  updated_by step u y p m n None c f = tt
  updated_by step u y p m n (Some z) c f = c p n z f

-- what two steps make of a number, whatever the scope
pub follow_two : (steps : List PlainStep) (x y : PlainStep) (begun made : ℤ) (m : Memory) (r : Option ℤ) → steps ≡ x ∷ y ∷ [] → ((scope : List Ptr) → StepLeads scope (plain_step_view x) (number begun) m m (number made)) → IfSome r (λ z. (scope : List Ptr) (m : Memory) → StepLeads scope (plain_step_view y) (number made) m m (number z)) → IfSome r (λ z. (scope : List Ptr) → Follows scope steps begun m z)
follow_two steps x y begun made m None h b f = tt
follow_two steps x y begun made m (Some z) h b f = λ scope. follows_two scope steps x y begun made m (Some z) h (b scope) (f scope m)

-- an operation in this memory
pub at_memory : (op : Operation) (x y : ℤ) (m : Memory) (r : Option ℤ) → IfSome r (λ z. (m : Memory) → worked (operation_view op) m (number x) (number y) ≡ gives (number z)) → IfSome r (λ z. worked (operation_view op) m (number x) (number y) ≡ gives (number z))
at_memory op x y m None f = tt
at_memory op x y m (Some z) f = f m

module _ (scope : List Ptr) (e : Plain) where
  -- behind the value of the leaf, the steps
  pub leads_on : (steps : List Step) (m n : Memory) (v x : ValueData) → map plain_step_view (out-Plain e).steps ≡ steps → Leads scope (leaf_view (out-Plain e).leaf) m m v → ((knowing : Knowing) (w : World) (line : ℕ) (first : Bool) (s : State) → followed knowing w (context line scope first) steps (value v (at s m)) ≡ value x (at s n)) → Leads scope (plain_view e) m n x
  leads_on steps m n v x h l f = λ knowing w line first s.
      let whole : plain_view e ≡ walked (leaf_view (out-Plain e).leaf) (map plain_step_view (out-Plain e).steps) = search (rules, the_lemmas) in
      ap (λ y. eval knowing w (context line scope first) y (at s m)) whole
      ∙ walk_leads knowing w (context line scope first) (leaf_view (out-Plain e).leaf) (map plain_step_view (out-Plain e).steps) (at s m)
      ∙ ap (λ ys. followed knowing w (context line scope first) ys (eval knowing w (context line scope first) (leaf_view (out-Plain e).leaf) (at s m))) h
      ∙ ap (followed knowing w (context line scope first) steps) (l knowing w line first s)
      ∙ f knowing w line first s

  -- a leaf alone
  pub leaf_leads : (m : Memory) (r : Option ℤ) → (out-Plain e).steps ≡ [] → IfSome r (λ z. Leads scope (leaf_view (out-Plain e).leaf) m m (number z)) → IfSome r (λ z. Leads scope (plain_view e) m m (number z))
  leaf_leads m None h f = tt
  leaf_leads m (Some z) h f = leads_on [] m m (number z) (number z) (ap (map plain_step_view) h) f (λ knowing w line first s. refl)

  -- a number, and all steps behind it
  pub number_leads : (steps : List PlainStep) (m : Memory) (begun : ℤ) (r : Option ℤ) → steps ≡ (out-Plain e).steps → Leads scope (leaf_view (out-Plain e).leaf) m m (number begun) → IfSome r (λ z. Follows scope steps begun m z) → IfSome r (λ z. Leads scope (plain_view e) m m (number z))
  number_leads steps m begun None h b f = tt
  number_leads steps m begun (Some z) h b f = leads_on (map plain_step_view steps) m m (number begun) (number z) (ap (map plain_step_view) (sym h)) b f

  -- a place, and all steps behind it
  pub place_leads : (l : Leaf) (steps : List PlainStep) (m : Memory) (p : ℕ) (r : Option ℤ) → (out-Plain e).leaf ≡ l → steps ≡ (out-Plain e).steps → Leads scope (leaf_view l) m m (address p) → IfSome r (λ z. FollowsPlace scope steps p m z) → IfSome r (λ z. Leads scope (plain_view e) m m (number z))
  place_leads l steps m p None i h b f = tt
  place_leads l steps m p (Some z) i h b f = leads_on (map plain_step_view steps) m m (address p) (number z) (ap (map plain_step_view) (sym h)) (λ knowing w line first s. ap (λ x. eval knowing w (context line scope first) (leaf_view x) (at s m)) i ∙ b knowing w line first s) f

  -- one step
  pub step_leads : (step : Step) (m n : Memory) (v : ValueData) (r : Option ℤ) → map plain_step_view (out-Plain e).steps ≡ step ∷ [] → Leads scope (leaf_view (out-Plain e).leaf) m m v → IfSome r (λ z. StepLeads scope step v m n (number z)) → IfSome r (λ z. Leads scope (plain_view e) m n (number z))
  step_leads step m n v None h l f = tt
  step_leads step m n v (Some z) h l f = leads_on (step ∷ []) m n v (number z) h l f

  -- two steps, of which the first changes nothing
  pub steps_lead : (step next : Step) (m n : Memory) (v u : ValueData) (r : Option ℤ) → map plain_step_view (out-Plain e).steps ≡ step ∷ next ∷ [] → Leads scope (leaf_view (out-Plain e).leaf) m m v → StepLeads scope step v m m u → IfSome r (λ z. StepLeads scope next u m n (number z)) → IfSome r (λ z. Leads scope (plain_view e) m n (number z))
  steps_lead step next m n v u None h l there f = tt
  steps_lead step next m n v u (Some z) h l there f =
      leads_on (step ∷ next ∷ []) m n v (number z) h l
      (λ knowing w line first s.
      ap (followed knowing w (context line scope first) (next ∷ [])) (there knowing w line first s)
      ∙ f knowing w line first s)

  -- a number of this leaf, and the steps behind it, whatever the scope
  pub few_lead : (l : Leaf) (steps : List PlainStep) (m : Memory) (begun : ℤ) (r : Option ℤ) → (out-Plain e).leaf ≡ l → steps ≡ (out-Plain e).steps → Leads scope (leaf_view l) m m (number begun) → IfSome r (λ z. (scope : List Ptr) → Follows scope steps begun m z) → IfSome r (λ z. Leads scope (plain_view e) m m (number z))
  few_lead l steps m begun None i h b f = tt
  few_lead l steps m begun (Some z) i h b f = number_leads steps m begun (Some z) h (leaf_as scope (out-Plain e).leaf l m (Some begun) i b) (f scope)
