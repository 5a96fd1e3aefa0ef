-- What expressions that hold calls do, one form at a time.
use Rattle.std.proofs.Common.{◌≡◌, ◌∙◌, sym, ap, ℕ, List, [], ◌∷◌, map, Bool, true, false}
use Rattle.ec_code.specs.declared.expression.Expression.{Expression}
use Rattle.ec_code.specs.declared.expression.Expression.TheVariants as expression
use Rattle.ec_code.specs.declared.expression.Full.{Full, out-Full}
use Rattle.ec_code.specs.declared.expression.FullStep.{FullStep}
use Rattle.ec_code.specs.declared.expression.FullStep.TheVariants as step
use Rattle.ec_code.specs.declared.expression.Head.{Head}
use Rattle.ec_code.specs.declared.expression.Head.TheVariants as head
use Rattle.ec_code.specs.declared.expression.Plain.{Plain}
use Rattle.ec_code.specs.declared.step.Binary.{Binary}
use Rattle.ec_code.specs.declared.step.Unary.{Unary}
use Rattle.ec_code.specs.Views.{expression_view, expressions_view, full_step_view, full_view, head_view, plain_view}
use Rattle.ec_meaning_defs.specs.evaluation.Evaluate.{Context, World, Step as Knowing, calls, eval, collect}
use Rattle.ec_meaning_defs.specs.evaluation.Results.{value, answered, done_there, without_answer}
use Rattle.ec_meaning_defs.specs.evaluation.State.{State}
use Rattle.ec_printf.specs.declared.formats.known.Known.{Known}
use Rattle.ec_printf.specs.formats.Known.{known_view}
use Rattle.ec_meaning_defs.specs.functions.Functions.{effect_of}
use Rattle.ec_plain.specs.Steps.{followed, one_on, two_on}
use Rattle.ec_plain.proofs.Walks.{walk_leads}
use Rattle.ec_meaning_defs.specs.resolved.Resolved.{choice, library}
use Rattle.ec_values.specs.Words.{word_view}
use Rattle.ec_values.specs.declared.word.Word.{Word}
use Rattle.ec_machine.proofs.Views.{view-Plain, view-Full, view-full, view-Begun, view-Call, view-Known, view-LibraryCall, view-Choice, view-One, view-Two}

module _ (knowing : Knowing) (w : World) (c : Context) (s : State) where
  pub to_Plain : (x : Expression) (p : Plain) → x ≡ expression.Plain p → eval knowing w c (expression_view x) s ≡ eval knowing w c (plain_view p) s
  to_Plain x p i = ap (λ z. eval knowing w c z s) (ap expression_view i ∙ view-Plain p)

  pub to_Full : (x : Expression) (p : Full) → x ≡ expression.Full p → eval knowing w c (expression_view x) s ≡ eval knowing w c (full_view p) s
  to_Full x p i = ap (λ z. eval knowing w c z s) (ap expression_view i ∙ view-Full p)

  pub to_Choice : (h : Head) (x y z x' y' z' : Expression) → h ≡ head.Choice x y z → x' ≡ x → y' ≡ y → z' ≡ z → eval knowing w c (head_view h) s ≡ eval knowing w c (choice (expression_view x') (expression_view y') (expression_view z')) s
  to_Choice h x y z x' y' z' p i j k = ap (λ q. eval knowing w c q s) (ap head_view p ∙ view-Choice x y z) ∙ (λ n. eval knowing w c (choice (expression_view (sym i n)) (expression_view (sym j n)) (expression_view (sym k n))) s)

  -- the operand of `?:` that a value chooses
  pub chosen_leads : (b : Bool) (x y z : Expression) → z ≡ elim b [ true ↦ x | false ↦ y ] → elim b [ true ↦ eval knowing w c (expression_view x) s | false ↦ eval knowing w c (expression_view y) s ] ≡ eval knowing w c (expression_view z) s
  chosen_leads true x y z p = ap (λ z. eval knowing w c (expression_view z) s) (sym p)
  chosen_leads false x y z p = ap (λ z. eval knowing w c (expression_view z) s) (sym p)

  -- an expression leads to what its steps make of what its beginning leads to
  pub full_leads : (x : Full) (h : Head) (xs : List FullStep) → (out-Full x).head ≡ h → xs ≡ (out-Full x).steps → eval knowing w c (full_view x) s ≡ followed knowing w c (map full_step_view xs) (eval knowing w c (head_view h) s)
  full_leads x h xs i j =
      ap (λ z. eval knowing w c z s) (view-full x)
      ∙ walk_leads knowing w c (head_view (out-Full x).head) (map full_step_view (out-Full x).steps) s
      ∙ (λ k. followed knowing w c (map full_step_view (sym j k)) (eval knowing w c (head_view (i k)) s))

  pub to_Begun : (x : Full) (p : Plain) (xs : List FullStep) → (out-Full x).head ≡ head.Begun p → xs ≡ (out-Full x).steps → eval knowing w c (full_view x) s ≡ followed knowing w c (map full_step_view xs) (eval knowing w c (plain_view p) s)
  to_Begun x p xs i j = full_leads x (head.Begun p) xs i j ∙ ap (λ z. followed knowing w c (map full_step_view xs) (eval knowing w c z s)) (view-Begun p)

  pub to_Call : (x : Full) (f : ℕ) (used : Bool) (es es' : List Expression) (xs : List FullStep) → (out-Full x).head ≡ head.Call f used es → es' ≡ es → xs ≡ (out-Full x).steps → eval knowing w c (full_view x) s ≡ followed knowing w c (map full_step_view xs) (collect knowing w c [] (expressions_view es') s (λ vs t. answered c.line used (w (calls c.line f vs) t)))
  to_Call x f used es es' xs i m j =
      full_leads x (head.Call f used es) xs i j
      ∙ ap (λ z. followed knowing w c (map full_step_view xs) (eval knowing w c z s)) (view-Call f used es)
      ∙ ap (λ z. followed knowing w c (map full_step_view xs) (collect knowing w c [] (expressions_view z) s (λ vs t. answered c.line used (w (calls c.line f vs) t)))) (sym m)

  pub to_Known : (x : Full) (f : Known) (es es' : List Expression) (xs : List FullStep) → (out-Full x).head ≡ head.Known f es → es' ≡ es → xs ≡ (out-Full x).steps → eval knowing w c (full_view x) s ≡ followed knowing w c (map full_step_view xs) (collect knowing w c [] (expressions_view es') s (λ vs t. done_there c.line (effect_of (known_view f) t.memory vs) t))
  to_Known x f es es' xs i m j =
      full_leads x (head.Known f es) xs i j
      ∙ ap (λ z. followed knowing w c (map full_step_view xs) (eval knowing w c z s)) (view-Known f es)
      ∙ ap (λ z. followed knowing w c (map full_step_view xs) (collect knowing w c [] (expressions_view z) s (λ vs t. done_there c.line (effect_of (known_view f) t.memory vs) t))) (sym m)

  pub to_LibraryCall : (x : Full) (n : ℕ) (es es' : List Expression) (xs : List FullStep) → (out-Full x).head ≡ head.LibraryCall n es → es' ≡ es → xs ≡ (out-Full x).steps → eval knowing w c (full_view x) s ≡ followed knowing w c (map full_step_view xs) (collect knowing w c [] (expressions_view es') s (λ vs t. without_answer (knowing w c (library n vs) t)))
  to_LibraryCall x n es es' xs i m j =
      full_leads x (head.LibraryCall n es) xs i j
      ∙ ap (λ z. followed knowing w c (map full_step_view xs) (eval knowing w c z s)) (view-LibraryCall n es)
      ∙ ap (λ z. followed knowing w c (map full_step_view xs) (collect knowing w c [] (expressions_view z) s (λ vs t. without_answer (knowing w c (library n vs) t)))) (sym m)

  pub to_One : (xs rest : List FullStep) (u : Unary) (v : Word) → xs ≡ step.One u ∷ rest → followed knowing w c (map full_step_view xs) (value (word_view v) s) ≡ followed knowing w c (map full_step_view rest) (one_on c.line u (word_view v) s)
  to_One xs rest u v i =
      ap (λ z. followed knowing w c (map full_step_view z) (value (word_view v) s)) i
      ∙ ap (λ z. followed knowing w c (z ∷ map full_step_view rest) (value (word_view v) s)) (view-One u)

  pub to_Two : (xs rest : List FullStep) (b : Binary) (e : Expression) (v : Word) → xs ≡ step.Two b e ∷ rest → followed knowing w c (map full_step_view xs) (value (word_view v) s) ≡ followed knowing w c (map full_step_view rest) (two_on knowing w c b (expression_view e) (word_view v) s)
  to_Two xs rest b e v i =
      ap (λ z. followed knowing w c (map full_step_view z) (value (word_view v) s)) i
      ∙ ap (λ z. followed knowing w c (z ∷ map full_step_view rest) (value (word_view v) s)) (view-Two b e)
