-- What is found out about the tokens of a statement, and the answer that it gives.
use Rattle.std.specs.Prelude.{ℕ, true, false, [], ◌∷◌, Option, Result, Ok, Err}
use Rattle.ec_base.specs.declared.fault.FaultKind.TheVariants.{F8}
use Rattle.ec_base.specs.declared.fault.LimitKind.TheVariants.{L4}
use Rattle.ec_base.specs.declared.stop.Stop.{Stop}
use Rattle.ec_base.specs.declared.stop.Stop.TheVariants.{Refused, Limit}
use Rattle.ec_ctypes.specs.trees.Embedded.{TextArgData, EmbKindData}
use Rattle.ec_embedded.specs.declared.shapes.failure.Failure.TheVariants as failure
use Rattle.ec_embedded.specs.shapes.ReadShapes.{done, stopped, last}
use Rattle.ec_embedded.specs.ServerText.{Tokens, Reading}
use Rattle.ec_embedded.specs.Terminals.{is, any_word}

-- what is done; or the tokens with the first of which no form goes on, or none of them where the statement ends too soon; or that a limit is passed
pub data Found : Type 0 where
  kind : EmbKindData → Found
  stops : Tokens → Found
  passes : Found

-- by a reading of these tokens
abbrev pub found_in : Tokens → Reading EmbKindData → Found
found_in w (done k n []) = kind k
found_in w (done k n (t ∷ rest)) = stops (t ∷ rest)
found_in w (stopped (failure.Dead k)) = stops (last k w)
found_in w (stopped (failure.OverLimit k)) = passes
found_in w (stopped failure.OutOfMemory) = stops []

-- the line of the first of these tokens, or that of the `;`
abbrev pub line_of : ℕ → Tokens → ℕ
line_of end [] = end
line_of end (t ∷ w) = t.line

-- the line of the first word
abbrev pub word_line : ℕ → Tokens → ℕ
word_line end [] = end
word_line end (t ∷ w) = elim (is any_word t) [ true ↦ t.line | false ↦ word_line end w ]

-- the connection that AT names, and what is done
pub record StatementData : Type 0 where
  pub at : Option TextArgData
  pub kind : EmbKindData

abbrev pub Answer : Type 0
Answer = Result StatementData Stop

-- of a statement whose `;` stands on the line `end`
abbrev pub answer_of : ℕ → Option TextArgData → Found → Answer
answer_of end at (kind k) = Ok (record { at = at; kind = k })
answer_of end at (stops w) = Err (Refused F8 (record { 0 = line_of end w }))
answer_of end at passes = Err (Limit L4)
