-- The line that tells how the run of a generated program went, behind what the program printed.
use Rattle.std.specs.Prelude.{ℕ, List, [], ◌∷◌, ◌++◌, codes, length, Option, None, Some}
use Rattle.std.specs.Fmt.{decimal}
use Rattle.ec_base.specs.declared.stop.Trap.{Trap}
use Rattle.ec_base.specs.Texts.{trap_text}
use Rattle.ec_generate.specs.Generated.{generated}
use Rattle.ec_meaning_defs.specs.evaluation.State as evaluation
use Rattle.ec_meaning_defs.specs.evaluation.Whole.{Observed}

-- how a program ended, if it came to its end
abbrev pub exited_text : ℕ → List ℕ
exited_text status = codes "exited " ++ decimal status

abbrev pub trapped_text : Trap → ℕ → List ℕ
trapped_text trap line = codes "trapped " ++ trap_text trap ++ codes " at line " ++ decimal line

abbrev pub outcome : evaluation.Ending → Option (List ℕ)
outcome (evaluation.exited status) = Some (exited_text status)
outcome (evaluation.trapped trap line) = Some (trapped_text trap line)
outcome evaluation.turns_spent = Some (codes "turns spent")
outcome (evaluation.waits slot request) = None
outcome evaluation.stuck = None

-- the line of the program of a number, with the length of its source in bytes, the number of its requests, and its outcome
abbrev pub count : ℕ → List ℕ → List ℕ
count number unit = decimal number ++ unit

abbrev pub heading : ℕ → ℕ → ℕ → List ℕ
heading number bytes requests = codes "gen " ++ count number (codes ": ")
    ++ count bytes (codes " bytes, ") ++ count requests (codes " requests, ")

abbrev pub line_with : ℕ → ℕ → ℕ → List ℕ → List ℕ
line_with number bytes requests how = heading number bytes requests ++ how ++ 10 ∷ []

abbrev pub report_line : ℕ → ℕ → ℕ → Option (List ℕ) → List ℕ
report_line number bytes requests None = []
report_line number bytes requests (Some how) = line_with number bytes requests how

-- what is observed of a generated program's run, with its line behind what it printed
abbrev pub with_report : ℕ → Observed → Observed
with_report number o = record o {
  output = o.output ++ report_line number (length (generated number))
      (length o.conversation) (outcome o.ending);
}
