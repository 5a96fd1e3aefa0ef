-- What is shown of several programs when all have ended.
use Rattle.std.specs.Prelude.{ℕ, suc, List, [], ◌∷◌, ◌++◌, codes, length}
use Rattle.std.specs.Fmt.{decimal}
use Rattle.ec_base.specs.Texts.{trap_text}
use Rattle.ec_meaning_defs.specs.evaluation.State.{Ending, exited, trapped, turns_spent, waits, stuck}
use Rattle.ec_meaning_defs.specs.evaluation.Whole.{Observed}

-- how a program ended
abbrev pub ending_text : Ending → List ℕ
ending_text (exited status) = codes "exited " ++ decimal status
ending_text (trapped trap line) = codes "trapped " ++ trap_text trap ++ codes " at line " ++ decimal line
ending_text turns_spent = codes "turns spent"
ending_text (waits slot request) = []
ending_text stuck = []

-- the line of the program of a number: how many bytes it put on each output, and how it ended
abbrev pub heading : ℕ → ℕ → ℕ → List ℕ → List ℕ
heading number printed complained how =
    codes "program " ++ decimal number ++ codes ": " ++ decimal printed ++ codes " bytes, "
    ++ decimal complained ++ codes " bytes, " ++ how ++ 10 ∷ []

-- its line, then what it put on its output, then what it put on its standard error
abbrev pub shown : ℕ → Observed → List ℕ
shown number o =
    heading number (length o.output) (length o.errors) (ending_text o.ending) ++ o.output ++ o.errors

-- the programs from this number on
abbrev pub all_shown : ℕ → List Observed → List ℕ
all_shown number [] = []
all_shown number (o ∷ more) = shown number o ++ all_shown (suc number) more
