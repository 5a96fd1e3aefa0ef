-- A program with a statement in the place of each embedded one.
use Rattle.std.specs.Prelude.{ℕ, map}
use Rattle.ec_meaning_defs.specs.resolved.Programs.{Function, Program}
use Rattle.ec_meaning_defs.specs.resolved.Resolved.{Stm, on_line, nothing, evaluate, declare, initialize, block, choose, loop, leave, next, return, goto, label, select, embedded_statement, Stms, no_stms, stms}
use Rattle.ec_meaning_defs.specs.evaluation.Evaluate.{Task, calls, turn_of, look_for}

module _ (text : ℕ → Stm) where
  abbrev mutual
    pub written : Stm → Stm
    written (on_line n x) = on_line n (written x)
    written nothing = nothing
    written (evaluate e) = evaluate e
    written (declare i size) = declare i size
    written (initialize i size es) = initialize i size es
    written (block sizes b) = block sizes (written_all b)
    written (choose e a b) = choose e (written a) (written b)
    written (loop first test behind x) = loop first test behind (written x)
    written leave = leave
    written next = next
    written (return e) = return e
    written (goto l) = goto l
    written (label l x) = label l (written x)
    written (select e x) = select e (written x)
    written (embedded_statement n) = text n

    pub written_all : Stms → Stms
    written_all no_stms = no_stms
    written_all (stms a b) = stms (written a) (written_all b)

  abbrev pub written_function : Function → Function
  written_function f = record f { body = written_all f.body }

  abbrev pub written_program : Program → Program
  written_program p = record p { functions = map written_function p.functions }

  -- what stands for a task in the written program
  abbrev pub written_task : Task → Task
  written_task (calls line f vs) = calls line f vs
  written_task (turn_of c test behind x) = turn_of c test behind (written x)
  written_task (look_for c l b) = look_for c l (written_all b)

-- each embedded statement as itself
abbrev pub itself : ℕ → Stm
itself n = embedded_statement n
