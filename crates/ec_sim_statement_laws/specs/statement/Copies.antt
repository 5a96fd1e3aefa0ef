-- When a resolved program is what is written for a source, as it is resolved: its block stands in the place of each embedded statement, what directives and marks leave is gone, and the objects of one declaration may be declared one by one.
use Rattle.std.specs.Prelude.{◌≡◌, ℕ, Bool, false, List, [], ◌∷◌, Option}
use Rattle.ec_meaning_defs.specs.resolved.Programs.{Function, Program}
use Rattle.ec_meaning_defs.specs.resolved.Resolved.{Exp, Exps, Mark, Stm, on_line, nothing, evaluate, declare, initialize, block, choose, loop, leave, next, return, goto, label, select, embedded_statement, Stms, no_stms, stms}
use Rattle.ec_sim_statement_laws.specs.statement.Blocks.{have_call}
use Rattle.ec_sim_statement_laws.specs.statement.Clean.{CallsNone, CallsNoneIn}

-- a declaration that is reached, and calls no library
pub data Declares : Stm → Type 0 where
  unset : (i size : ℕ) → Declares (declare i size)
  filled : (i size : ℕ) (es : Exps) → have_call es ≡ false → Declares (initialize i size es)

-- The statements of one declaration: together in a block without objects, and one by one on this line before others
pub data AreApart (line : ℕ) : Stms → Stms → Stms → Type 0 where
  ended : (rest : Stms) → AreApart line no_stms rest rest
  another : {x : Stm} {more there rest : Stms} → Declares x → AreApart line more there rest
      → AreApart line (stms x more) (stms (on_line line x) there) rest

-- by what may stand on a line in the place of the embedded statement of a number
module _ (P : ℕ → ℕ → Stm → Type 0) where
  mutual
    -- a statement on this line
    pub data IsCopy : ℕ → Stm → Stm → Type 0 where
      standing : {line : ℕ} (n : ℕ) {x y : Stm} → IsCopy n x y
          → IsCopy line (on_line n x) (on_line n y)
      empty : {line : ℕ} → IsCopy line nothing nothing
      evaluated : {line : ℕ} (e : Exp) → CallsNone e → IsCopy line (evaluate e) (evaluate e)
      declared : {line : ℕ} {x : Stm} → Declares x → IsCopy line x x
      blocks : {line : ℕ} (sizes : List ℕ) {a b : Stms} → AreCopies line a b
          → IsCopy line (block sizes a) (block sizes b)
      chooses : {line : ℕ} (e : Exp) {a b c d : Stm} → CallsNone e → IsCopy line a b
          → IsCopy line c d → IsCopy line (choose e a c) (choose e b d)
      loops : {line : ℕ} (first : Bool) (test behind : Option Exp) {x y : Stm} → CallsNoneIn test
          → CallsNoneIn behind → IsCopy line x y
          → IsCopy line (loop first test behind x) (loop first test behind y)
      leaves : {line : ℕ} → IsCopy line leave leave
      continues : {line : ℕ} → IsCopy line next next
      returns : {line : ℕ} (e : Option Exp) → CallsNoneIn e → IsCopy line (return e) (return e)
      jumps : {line : ℕ} (l : ℕ) → IsCopy line (goto l) (goto l)
      labelled : {line : ℕ} (l : Mark) {x y : Stm} → IsCopy line x y
          → IsCopy line (label l x) (label l y)
      selects : {line : ℕ} (e : Exp) {x y : Stm} → CallsNone e → IsCopy line x y
          → IsCopy line (select e x) (select e y)
      embedded : {line : ℕ} (n : ℕ) {y : Stm} → P line n y
          → IsCopy line (embedded_statement n) y

    -- statements one behind the other
    pub data AreCopies : ℕ → Stms → Stms → Type 0 where
      end : {line : ℕ} → AreCopies line no_stms no_stms
      both : {line : ℕ} {x y : Stm} {a b : Stms} → IsCopy line x y → AreCopies line a b
          → AreCopies line (stms x a) (stms y b)
      -- a directive, a mark, or a declaration that declares nothing
      gone : {line : ℕ} (n : ℕ) {a b : Stms} → AreCopies line a b
          → AreCopies line (stms (on_line n nothing) a) b
      apart : {line : ℕ} (n : ℕ) {ds a there b : Stms} → AreApart n ds there b
          → AreCopies line a b → AreCopies line (stms (on_line n (block [] ds)) a) there

  -- whichever line a call stands on
  pub record IsFunctionCopy (f g : Function) : Type 0 where
    pub parameters : g.parameters ≡ f.parameters
    pub objects : g.objects ≡ f.objects
    pub body : (line : ℕ) → AreCopies line f.body g.body
    pub otherwise : g.otherwise ≡ f.otherwise

  abbrev pub AreFunctionCopies : List Function → List Function → Type 0
  AreFunctionCopies [] [] = Unit {0}
  AreFunctionCopies [] (g ∷ gs) = ⊥
  AreFunctionCopies (f ∷ fs) [] = ⊥
  AreFunctionCopies (f ∷ fs) (g ∷ gs) = IsFunctionCopy f g × AreFunctionCopies fs gs

  pub record IsProgramCopy (p q : Program) : Type 0 where
    pub globals : q.globals ≡ p.globals
    pub literals : q.literals ≡ p.literals
    pub functions : AreFunctionCopies p.functions q.functions
    pub main : q.main ≡ p.main
