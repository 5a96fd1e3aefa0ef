-- What is put of the line of a generated program, by the ending of the call.
use Rattle.std.specs.Prelude.{◌≡◌, ℕ, ◌⊎◌, List, [], codes, Option, None, Some}
use Rattle.ec_base.specs.Putting.{Puts, PutsPart}
use Rattle.ec_cli.specs.declared.ending.Ending.{Ending}
use Rattle.ec_cli.specs.declared.ending.Ending.TheVariants.{Wrote, Exited, Trapped, TurnsSpent, Usage, Refused, Limit, ReadFault, WriteFault, OutOfMemory}
use Rattle.ec_cli.specs.declared.report.Summary.{Summary}
use Rattle.ec_cli.specs.Reports.{exited_text, trapped_text, line_with}

-- how the program ended, if it came to its end
abbrev pub outcome_of : Ending → Option (List ℕ)
outcome_of (Exited status) = Some (exited_text status)
outcome_of (Trapped trap line) = Some (trapped_text trap line.0)
outcome_of TurnsSpent = Some (codes "turns spent")
outcome_of Wrote = None
outcome_of Usage = None
outcome_of (Refused kind line) = None
outcome_of (Limit kind) = None
outcome_of ReadFault = None
outcome_of WriteFault = None
outcome_of OutOfMemory = None

-- its text
abbrev pub text_of : Option (List ℕ) → List ℕ
text_of None = []
text_of (Some how) = how

-- the line with it
abbrev pub line_of : Summary → List ℕ → List ℕ
line_of it how = line_with it.number it.bytes it.requests how

module _ {O : Type 0} (held : O → Option (List ℕ)) (puts : O → ℕ) where
  -- the line was put, and the ending stays, or its front was, and the output failed; where there is no line nothing was
  abbrev pub Reports : Option (List ℕ) → Summary → O → O → Ending → Ending → Type 0
  Reports None it out out' ending ending' = (out' ≡ out) × (ending' ≡ ending)
  Reports (Some how) it out out' ending ending' =
      (Puts held puts out out' (line_of it how) × (ending' ≡ ending))
      ⊎ (PutsPart held puts out out' (line_of it how) × (ending' ≡ WriteFault))
