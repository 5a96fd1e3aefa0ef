-- Statements and parts of trees, as examples write them.
use Rattle.std.specs.Prelude.{ℕ, ◌+◌, List, codes, Some, None, Result, Ok, Err}
use Rattle.ec_base.specs.declared.fault.FaultKind.TheVariants.{F8, F9}
use Rattle.ec_base.specs.declared.stop.Stop.{Stop}
use Rattle.ec_base.specs.declared.stop.Stop.TheVariants.{Refused}
use Prim.Native.String.{String}
use Rattle.ec_ctypes.specs.trees.Embedded.{HostData, TextArgData, PartData, bytes_part, host_part, EmbKindData}
use Rattle.ec_ctypes.specs.trees.Exprs.{identifier}
use Rattle.ec_language.specs.Line.{newlines}
use Rattle.ec_language.specs.ReadTokens.{statement_units}
use Rattle.ec_language.specs.SqlTokens.{SqlToken}
use Rattle.ec_language.specs.Tokens.{sql_answer}
use Rattle.ec_embedded.specs.Findings.{Answer}
use Rattle.ec_embedded.specs.Statements.{answer}

-- what a statement is whose `EXEC` stands on line 1
abbrev pub answer_by : ℕ → Result (List SqlToken) Stop → Answer
answer_by end (Ok tokens) = answer end tokens
answer_by end (Err stop) = Err stop

abbrev pub answer_to : String → Answer
answer_to text = answer_by (1 + newlines (codes text)) (sql_answer 1 (statement_units (codes text)))

abbrev pub plain : String → HostData
plain t = record { value = identifier (codes t); indicator = None }

abbrev pub b : String → PartData
b t = bytes_part (codes t)

abbrev pub p : String → PartData
p t = host_part (plain t)

abbrev pub with_indicator : String → String → HostData
with_indicator t i =
    record { value = identifier (codes t); indicator = Some (identifier (codes i)) }

-- ---- answers

abbrev pub gives : EmbKindData → Answer
gives k = Ok (record { at = None; kind = k })

abbrev pub at : TextArgData → EmbKindData → Answer
at a k = Ok (record { at = Some a; kind = k })

-- no form goes on with a token on this line
abbrev pub dead_on : ℕ → Answer
dead_on line = Err (Refused F8 (record { 0 = line }))

abbrev pub left_out_on : ℕ → Answer
left_out_on line = Err (Refused F9 (record { 0 = line }))
