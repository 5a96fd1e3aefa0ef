-- The plain reading gives the one answer that the tokens of a statement have, and so it is with pieces.
use Rattle.std.proofs.Common.{◌≡◌, ℕ, Bool, true, false, refl, ap, sym, ◌∙◌, codes, Option, Some, None, Result, Ok, Err}
use Rattle.std.specs.Prelude.{is_some}
use Rattle.ec_base.specs.declared.fault.FaultKind.TheVariants.{F9}
use Rattle.ec_base.specs.declared.stop.Stop.{Stop}
use Rattle.ec_base.specs.declared.stop.Stop.TheVariants.{Refused}
use Rattle.ec_ctypes.specs.declared.text.piece.Piece.{Piece}
use Rattle.ec_ctypes.specs.trees.Embedded.{TextArgData, EmbData}
use Rattle.ec_embedded.specs.shapes.Beginnings.{beginning}
use Rattle.ec_embedded.specs.shapes.ReadShapes.{done, stopped, read}
use Rattle.ec_language.specs.Tokens.{HasSqlTokens}
use Rattle.ec_language.proofs.StatementTokens.{one_sql_answer, has_tokens}
use Rattle.ec_embedded.specs.Answers.{IsSaid, left_out, taken, IsAnswer, alone, behind_at, nameless, placed, end_line, StatementOrStop}
use Rattle.ec_embedded.specs.Findings.{found_in, Answer, answer_of, word_line}
use Rattle.ec_embedded.specs.LeftOut.{is_first, is_left_out}
use Rattle.ec_embedded.specs.References.{Of}
use Rattle.ec_embedded.specs.ServerText.{Tokens, Reading}
use Rattle.ec_embedded.specs.Statements.{made, at_form, at_of, kind_at, said, named_at, answer}
use Rattle.ec_embedded.specs.Terminals.{alphabet, Counts, no_counts}
use Rattle.ec_embedded.proofs.Deterministic.{at_chosen}
use Rattle.ec_embedded.proofs.Found.{kind_sound, kind_given, stopped_read, tree_read, begins_so, found_stopped}

-- ---- what is said of tokens

abbrev said_by : ℕ → Option TextArgData → Counts → Tokens → Bool → Answer
said_by end at n w b = elim b as (λ _. Answer) [
  | true ↦ Err (Refused F9 (record { 0 = word_line end w }))
  | false ↦ answer_of end at (found_in w (kind_at (is_some at) n w))
]

said_sound : (end : ℕ) (at : Option TextArgData) (n : Counts) (w : Tokens) (a : Answer) → IsSaid end at n w a → a ≡ said end at n w
said_sound end at n w a (left_out e) = ap (said_by end at n w) (sym e)
said_sound end at n w a (taken found e h) = ap (answer_of end at) (kind_sound (is_some at) n w found h) ∙ ap (said_by end at n w) (sym e)

said_given : (end : ℕ) (at : Option TextArgData) (n : Counts) (w : Tokens) → IsSaid end at n w (said end at n w)
said_given end at n w = go (is_left_out w) refl
  where
    go : (b : Bool) → is_left_out w ≡ b → IsSaid end at n w (said_by end at n w b)
    go true e = left_out e
    go false e = taken (found_in w (kind_at (is_some at) n w)) e (kind_given (is_some at) n w)

-- ---- the answer

abbrev answered_by : ℕ → Tokens → Bool → Answer
answered_by end w b = elim b as (λ _. Answer) [
  | true ↦ named_at end w (made at_of (read alphabet at_form no_counts w))
  | false ↦ said end None no_counts w
]

sound_answer : (end : ℕ) (w : Tokens) (a : Answer) → IsAnswer end w a → a ≡ answer end w
sound_answer end w a (alone b e h) = said_sound end None no_counts w b h ∙ ap (answered_by end w) (sym e)
sound_answer end w a (behind_at b c e f h) =
    said_sound end (Some (at_of b.tree)) b.count b.rest c h
    ∙ ap (λ o. named_at end w (made at_of o)) (sym (tree_read at_form at_chosen no_counts w b f))
    ∙ ap (answered_by end w) (sym e)
sound_answer end w a (nameless b found e f g) =
    let s = stopped_read at_form at_chosen no_counts w b found f g in
    ap (answer_of end None) s.2 ∙ ap (λ o. named_at end w (made at_of o)) (sym s.1) ∙ ap (answered_by end w) (sym e)

pub answered : (end : ℕ) (w : Tokens) → IsAnswer end w (answer end w)
answered end w = go (is_first (codes "AT") w) refl
  where
    named : is_first (codes "AT") w ≡ true → (o : Reading (Of at_form)) → read alphabet at_form no_counts w ≡ o → IsAnswer end w (named_at end w (made at_of o))
    named e (done v n r) d = behind_at (record { tree = v; count = n; rest = r }) (said end (Some (at_of v)) n r) e (begins_so at_form at_chosen no_counts w (done v n r) d) (said_given end (Some (at_of v)) n r)
    named e (stopped k) d = nameless (beginning w (stopped k)) (found_in w (stopped k)) e (begins_so at_form at_chosen no_counts w (stopped k) d) (found_stopped at_form at_chosen no_counts w k d)

    go : (b : Bool) → is_first (codes "AT") w ≡ b → IsAnswer end w (answered_by end w b)
    go true e = named e (read alphabet at_form no_counts w) refl
    go false e = alone (said end None no_counts w) e (said_given end None no_counts w)

pub is_the_answer : (end : ℕ) (w : Tokens) (a : Answer) → IsAnswer end w a → a ≡ answer end w
is_the_answer = sound_answer

pub one_answer : (end : ℕ) (w : Tokens) (a b : Answer) → IsAnswer end w a → IsAnswer end w b → a ≡ b
one_answer end w a b h k = sound_answer end w a h ∙ sym (sound_answer end w b k)

-- ---- pieces

pub piece_answered : (p : Piece) (place : ℕ) → HasSqlTokens p.bytes → (result : Result EmbData Stop) × StatementOrStop p place result
piece_answered p place h =
    let t = has_tokens p.line.0 p.bytes h in
    (placed p.line place (answer (end_line p) t.0), record { tokens = t.0; lexed = t.1; answer = answer (end_line p) t.0; is_answer = answered (end_line p) t.0; is = refl })

same_tokens : (a b : Tokens) → ◌≡◌ {A = Result Tokens Stop} (Ok a) (Ok b) → a ≡ b
same_tokens a b e = cc

pub one_of_piece : (p : Piece) (place : ℕ) (result other : Result EmbData Stop) → StatementOrStop p place result → StatementOrStop p place other → result ≡ other
one_of_piece p place result other h k =
    let same : h.tokens ≡ k.tokens = same_tokens h.tokens k.tokens (one_sql_answer p.line.0 p.bytes (Ok h.tokens) (Ok k.tokens) h.lexed k.lexed) in
    h.is ∙ ap (placed p.line place) (sound_answer (end_line p) h.tokens h.answer h.is_answer ∙ ap (answer (end_line p)) same ∙ sym (sound_answer (end_line p) k.tokens k.answer k.is_answer)) ∙ sym k.is
