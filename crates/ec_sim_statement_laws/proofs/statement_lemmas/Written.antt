-- A program with a statement in the place of each embedded one is a copy of it.
use Rattle.std.proofs.Common.{ℕ, zero, suc, List, [], ◌∷◌, map, refl}
use Rattle.ec_meaning_defs.specs.resolved.Programs.{Function, Program}
use Rattle.ec_meaning_defs.specs.resolved.Resolved.{Stm, on_line, nothing, evaluate, declare, initialize, block, choose, loop, leave, next, return, goto, label, select, embedded_statement, Stms, no_stms, stms}
use Rattle.ec_meaning_defs.specs.evaluation.Expanded.{written, written_all, written_function, written_program}
use Rattle.ec_sim_statement_laws.specs.statement.Clean.{Clean, AllClean, CleanFunctions, CleanProgram}
use Rattle.ec_sim_statement_laws.specs.statement.Copies.{unset, filled, IsCopy, standing, empty, evaluated, declared, blocks, chooses, loops, leaves, continues, returns, jumps, labelled, selects, embedded, AreCopies, end, both, AreFunctionCopies, IsProgramCopy}

module _ (P : ℕ → ℕ → Type 0) (Q : ℕ → ℕ → Stm → Type 0) (text : ℕ → Stm) (stands : (line n : ℕ) → P line n → Q line n (text n)) where
  mutual
    stm_copy : (line : ℕ) (x : Stm) → Clean P line x → IsCopy Q line x (written text x)
    stm_copy line (on_line n x) h = standing n (stm_copy n x h)
    stm_copy line nothing h = empty
    stm_copy line (evaluate e) h = evaluated e h
    stm_copy line (declare i size) h = declared (unset i size)
    stm_copy line (initialize i size es) h = declared (filled i size es h)
    stm_copy line (block sizes b) h = blocks sizes (stms_copy line b h)
    stm_copy line (choose e a b) h = chooses e h.0 (stm_copy line a h.1) (stm_copy line b h.2)
    stm_copy line (loop first test behind x) h = loops first test behind h.0 h.1 (stm_copy line x h.2)
    stm_copy line leave h = leaves
    stm_copy line next h = continues
    stm_copy line (return e) h = returns e h
    stm_copy line (goto l) h = jumps l
    stm_copy line (label l x) h = labelled l (stm_copy line x h)
    stm_copy line (select e x) h = selects e h.0 (stm_copy line x h.1)
    stm_copy line (embedded_statement n) h = embedded n (stands line n h)

    stms_copy : (line : ℕ) (b : Stms) → AllClean P line b → AreCopies Q line b (written_all text b)
    stms_copy line no_stms h = end
    stms_copy line (stms a b) h = both (stm_copy line a h.0) (stms_copy line b h.1)

  functions_copy : (fs : List Function) → CleanFunctions P fs → AreFunctionCopies Q fs (map (written_function text) fs)
  functions_copy [] clean = tt
  functions_copy (f ∷ fs) clean = (
    record { parameters = refl; objects = refl; body = λ line. stms_copy line f.body (clean zero f refl line); otherwise = refl },
    functions_copy fs (λ n g e line. clean (suc n) g e line),
  )

  pub program_copy : (p : Program) → CleanProgram P p → IsProgramCopy Q p (written_program text p)
  program_copy p clean = record { globals = refl; literals = refl; functions = functions_copy p.functions clean; main = refl }
