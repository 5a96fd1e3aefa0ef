-- A source read and checked, computed: its tree with its embedded statements and the types of its declarations, or why it has none.
use Rattle.std.specs.Prelude.{ℕ, ◌+◌, true, false, List, [], ◌∷◌, codes, Result, Ok, Err}
use Prim.Native.String.{String}
use Rattle.ec_base.specs.declared.fault.FaultKind.{FaultKind}
use Rattle.ec_base.specs.declared.stop.Stop.{Stop}
use Rattle.ec_base.specs.declared.stop.Stop.TheVariants.{Refused}
use Rattle.ec_ctypes.specs.declared.text.piece.Piece.{Piece}
use Rattle.ec_ctypes.specs.trees.Tokens.{TokenData}
use Rattle.ec_ctypes.specs.trees.Embedded.{EmbData}
use Rattle.ec_ctypes.specs.trees.Checked.{TypedData}
use Rattle.ec_ctypes.specs.trees.Units.{UnitData}
use Rattle.ec_language.specs.Line.{newlines}
use Rattle.ec_language.specs.ReadPieces.{read_pieces}
use Rattle.ec_language.specs.ReadTokens.{read_tokens, statement_units}
use Rattle.ec_language.specs.SqlTokens.{SqlToken}
use Rattle.ec_language.specs.SyntaxAnswer.{read_syntax}
use Rattle.ec_language.specs.Tokens.{sql_answer}
use Rattle.ec_embedded.specs.Answers.{placed}
use Rattle.ec_embedded.specs.Statements.{answer}
use Rattle.ec_typing_defs.specs.statement_parts.Handlers.{marks_in}
use Rattle.ec_typing_defs.specs.Answers.{check_answer}
use Rattle.ec_host_defs.specs.sections.Answers.{hosts_answer}
use Rattle.ec_host_defs.specs.Statements.{is_statement, statement_places, with_statement, with_statements}

abbrev pub by_tokens : Piece → ℕ → Result (List SqlToken) Stop → Result EmbData Stop
by_tokens p place (Ok tokens) = placed p.line place (answer (p.line.0 + newlines p.bytes) tokens)
by_tokens p place (Err stop) = Err stop

abbrev pub statement_of : Piece → ℕ → Result EmbData Stop
statement_of p place = by_tokens p place (sql_answer p.line.0 (statement_units p.bytes))

abbrev pub statements_of : List Piece → List ℕ → Result (List EmbData) Stop
statements_of [] ns = Ok []
statements_of (p ∷ ps) [] = Ok []
statements_of (p ∷ ps) (n ∷ ns) =
    elim (is_statement p.kind) [
      | true ↦ with_statement (statement_of p n) (statements_of ps ns)
      | false ↦ statements_of ps (n ∷ ns)
    ]

abbrev pub source_by_tree : List Piece → List TokenData →
    Result UnitData Stop → Result UnitData Stop
source_by_tree ps ts (Ok u) = with_statements u (statements_of ps (statement_places ts))
source_by_tree ps ts (Err stop) = Err stop

abbrev pub source_by_tokens : List Piece → Result (List TokenData) Stop → Result UnitData Stop
source_by_tokens ps (Ok ts) = source_by_tree ps ts (read_syntax ts)
source_by_tokens ps (Err stop) = Err stop

abbrev pub source_by_pieces : Result (List Piece) (FaultKind × ℕ) → Result UnitData Stop
source_by_pieces (Ok ps) = source_by_tokens ps (read_tokens false ps)
source_by_pieces (Err fault) = Err (Refused fault.0 (record { 0 = fault.1 }))

abbrev pub source_of : String → Result UnitData Stop
source_of text = source_by_pieces (read_pieces (codes text))

abbrev pub checked_by : UnitData → Result (List ℕ) Stop → Result TypedData Stop
checked_by u (Ok hosts) = check_answer false u hosts (marks_in u.embs)
checked_by u (Err stop) = Err stop

abbrev pub checked_source : Result UnitData Stop → Result TypedData Stop
checked_source (Ok u) = checked_by u (hosts_answer u)
checked_source (Err stop) = Err stop

abbrev pub checked_text : String → Result TypedData Stop
checked_text text = checked_source (source_of text)
