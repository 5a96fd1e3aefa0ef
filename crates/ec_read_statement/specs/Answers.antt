-- What the answer is, in the steps that code takes.
use Rattle.std.specs.Prelude.{ℕ, Bool, true, false, [], ◌∷◌, codes, ⊤, Option, Some, None, Result, Ok, Err}
use Rattle.ec_base.specs.declared.fault.FaultKind.TheVariants.{F8, F9}
use Rattle.ec_base.specs.declared.fault.LimitKind.TheVariants.{L4}
use Rattle.ec_base.specs.declared.line.Line.{Line}
use Rattle.ec_base.specs.declared.stop.Stop.{Stop}
use Rattle.ec_base.specs.declared.stop.Stop.TheVariants.{Refused, Limit, OutOfMemory}
use Rattle.ec_ctypes.specs.declared.text.piece.Piece.{Piece}
use Rattle.ec_ctypes.specs.declared.embedded.emb.Emb.{Emb}
use Rattle.ec_ctypes.specs.trees.Embedded.{TextArgData, EmbKindData}
use Rattle.ec_ctypes.specs.views.Embedded.{emb_view}
use Rattle.ec_embedded.specs.declared.shapes.failure.Failure.{Failure}
use Rattle.ec_embedded.specs.declared.shapes.failure.Failure.TheVariants as failure
use Rattle.ec_embedded.specs.shapes.ReadShapes.{done, stopped, last}
use Rattle.ec_embedded.specs.Answers.{StatementOrStop}
use Rattle.ec_embedded.specs.Findings.{Found, kind, stops, passes, found_in, line_of, word_line, Answer, answer_of}
use Rattle.ec_embedded.specs.LeftOut.{is_first, is_left_out}
use Rattle.ec_embedded.specs.ServerText.{Tokens, Reading}
use Rattle.ec_embedded.specs.Terminals.{Counts, no_counts}
use Rattle.ec_statement_readers.specs.Readers as form
use Rattle.ec_read_statement.specs.Deciding.{any_statement}

abbrev pub first_line : ℕ → Tokens → Line
first_line end w = record { 0 = line_of end w }

abbrev pub first_word_line : ℕ → Tokens → Line
first_word_line end w = record { 0 = word_line end w }

-- why these tokens have no tree
abbrev pub stop_of : ℕ → Tokens → Failure → Stop
stop_of end w (failure.Dead k) = Refused F8 (first_line end (last k w))
stop_of end w (failure.OverLimit k) = Limit L4
stop_of end w failure.OutOfMemory = OutOfMemory

-- with a token that is left no form goes on
abbrev pub ended : {A : Type 0} → A → Tokens → Result A Stop
ended v [] = Ok v
ended v (t ∷ r) = Err (Refused F8 (record { 0 = t.line }))

-- what was got from all these tokens, of which those of the second list are left
abbrev pub whole_of : {A : Type 0} → ℕ → Tokens → Tokens → Result A Failure → Result A Stop
whole_of end all r (Ok v) = ended v r
whole_of end all r (Err e) = Err (stop_of end all e)

abbrev pub result_of : ℕ → Found → Result EmbKindData Stop
result_of end (kind k) = Ok k
result_of end (stops w) = Err (Refused F8 (first_line end w))
result_of end passes = Err (Limit L4)

-- what is done, or why nothing is
abbrev pub kind_answer : ℕ → Bool → Counts → Tokens → Result EmbKindData Stop
kind_answer end at n w = elim (is_left_out w) [
  | true ↦ Err (Refused F9 (first_word_line end w))
  | false ↦ result_of end (found_in w (any_statement at n w))
]

abbrev pub with_at : Option TextArgData → Result EmbKindData Stop → Answer
with_at at (Ok k) = Ok (record { at = at; kind = k })
with_at at (Err stop) = Err stop

abbrev pub alone : ℕ → Tokens → Answer
alone end w = with_at None (kind_answer end false no_counts w)

abbrev pub behind_name : ℕ → Tokens → Reading TextArgData → Answer
behind_name end all (done a n w) = with_at (Some a) (kind_answer end true n w)
behind_name end all (stopped e) = answer_of end None (found_in all (stopped e))

abbrev pub behind_at : ℕ → Tokens → Answer
behind_at end w = behind_name end w (form.at_name no_counts w)

unfoldable pub answered : ℕ → Tokens → Answer
answered end w = elim (is_first (codes "AT") w) [ true ↦ behind_at end w | false ↦ alone end w ]

-- What is read is what the statement is, or why it is none; want of memory is the one answer with no cause.
abbrev pub IsRead : Piece → ℕ → Result Emb Stop → Type 0
IsRead p place (Ok e) = StatementOrStop p place (Ok (emb_view e))
IsRead p place (Err (Refused fault line)) = StatementOrStop p place (Err (Refused fault line))
IsRead p place (Err (Limit limit)) = StatementOrStop p place (Err (Limit limit))
IsRead p place (Err OutOfMemory) = ⊤
