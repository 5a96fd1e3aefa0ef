-- The exit status of each ending, and what it says on standard error.
use Rattle.std.specs.Prelude.{ℕ, Bool, true, false, List, [], ◌∷◌, ◌++◌, codes, Option, None, Some}
use Rattle.std.specs.Fmt.{decimal}
use Rattle.ec_base.specs.declared.line.Line.{Line}
use Rattle.ec_base.specs.Texts.{fault_text, limit_text, trap_text}
use Rattle.ec_cli.specs.declared.ending.Ending.{Ending}
use Rattle.ec_cli.specs.declared.ending.Ending.TheVariants.{Wrote, Exited, Trapped, TurnsSpent, Usage, Refused, Limit, ReadFault, WriteFault, OutOfMemory}

abbrev pub status_of : Ending → ℕ
status_of Wrote = 0
status_of (Exited status) = status
status_of Usage = 64
status_of (Refused kind line) = 65
status_of ReadFault = 66
status_of (Trapped trap line) = 67
status_of TurnsSpent = 68
status_of OutOfMemory = 69
status_of WriteFault = 70
status_of (Limit kind) = 71

-- whether a program was run to its end
abbrev pub is_whole : Ending → Bool
is_whole (Exited status) = true
is_whole (Trapped trap line) = true
is_whole TurnsSpent = true
is_whole Wrote = false
is_whole Usage = false
is_whole (Refused kind line) = false
is_whole (Limit kind) = false
is_whole ReadFault = false
is_whole WriteFault = false
is_whole OutOfMemory = false

-- the place that a message names, if it names one
abbrev pub place_text : Option Line → List ℕ
place_text None = []
place_text (Some line) = codes " at line " ++ decimal line.0

-- a line on standard error
abbrev pub message : List ℕ → List ℕ → Option Line → List ℕ
message kind name line = codes "ecpgc: " ++ kind ++ name ++ place_text line ++ 10 ∷ []

-- the last line on standard error. A program that ran, and C that was written, have none
abbrev pub last_line : Ending → List ℕ
last_line Wrote = []
last_line (Exited status) = []
last_line Usage = message [] (codes "usage") None
last_line (Refused kind line) = message [] (fault_text kind) (Some line)
last_line ReadFault = message [] (codes "read fault") None
last_line (Trapped trap line) = message (codes "trap ") (trap_text trap) (Some line)
last_line TurnsSpent = message [] (codes "turns spent") None
last_line OutOfMemory = message [] (codes "out of memory") None
last_line WriteFault = message [] (codes "write fault") None
last_line (Limit kind) = message (codes "limit ") (limit_text kind) None
