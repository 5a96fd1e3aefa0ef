-- What the code answers is what a statement is.
use Rattle.std.specs.Prelude.{◌+◌, ◌-◌, is_some}
use Rattle.std.proofs.Common.{◌≡◌, ◌≢◌, ℕ, Bool, true, false, List, [], ◌∷◌, drop, length, refl, ap, sym, ◌∙◌, subst, codes, Option, Some, None, Result, Ok, Err}
use Rattle.std.proofs.lemmas.List.{drop-map, length-map}
use Rattle.ec_base.specs.declared.fault.FaultKind.TheVariants.{F9}
use Rattle.ec_base.specs.declared.line.Line.{Line}
use Rattle.ec_base.specs.declared.stop.Stop.{Stop}
use Rattle.ec_base.specs.declared.stop.Stop.TheVariants.{Refused, Limit, OutOfMemory}
use Rattle.ec_ctypes.specs.declared.text.piece.Piece.{Piece}
use Rattle.ec_ctypes.specs.declared.embedded.emb.Emb.{Emb}
use Rattle.ec_ctypes.specs.declared.embedded.emb.EmbKind.{EmbKind}
use Rattle.ec_ctypes.specs.trees.Embedded.{TextArgData, EmbKindData, EmbData}
use Rattle.ec_ctypes.specs.views.Embedded.{emb_kind_view, emb_view}
use Rattle.ec_embedded.specs.declared.shapes.failure.Failure.{Failure}
use Rattle.ec_embedded.specs.declared.shapes.failure.Failure.TheVariants as failure
use Rattle.ec_embedded.specs.shapes.ReadShapes.{done, stopped, read, last}
use Rattle.ec_clex.specs.Items.{Told}
use Rattle.ec_clex.specs.Sql.{sql_view, sql_views}
use Rattle.ec_clex.specs.declared.sql.SqlToken as code
use Rattle.ec_language.specs.Letters.{Text}
use Rattle.ec_language.specs.Line.{newlines}
use Rattle.ec_language.specs.Tokens.{SqlTokens, SqlTokensOrStop}
use Rattle.ec_embedded.specs.LeftOut.{is_first, is_left_out}
use Rattle.ec_embedded.specs.ServerText.{Tokens, Reading}
use Rattle.ec_embedded.specs.Answers.{StatementOrStop, placed}
use Rattle.ec_embedded.specs.Findings.{Found, kind, stops, passes, found_in, Answer, answer_of}
use Rattle.ec_embedded.specs.Statements.{at_form, at_of, kind_at, said, named_at, made, answer}
use Rattle.ec_embedded.proofs.OneAnswer.{answered as rules_answered, is_the_answer}
use Rattle.ec_embedded.specs.Terminals.{Counts, no_counts, alphabet}
use Rattle.ec_references.specs.Readers.{State, Reads}
use Rattle.ec_statement_readers.proofs.Forms.{at_read}
use Rattle.ec_read_statement.specs.Answers.{stop_of, whole_of, result_of, kind_answer, first_word_line, with_at, behind_name, answered, IsRead}
use Rattle.ec_read_statement.specs.Deciding.{any_statement}
use Rattle.ec_read_statement.proofs.FormsDecided.{all_decided}

-- ---- tokens

pub last_views : (left : ℕ) (ts : List code.SqlToken) → sql_views (drop (length ts - left) ts) ≡ last left (sql_views ts)
last_views left ts = sym (drop-map sql_view (length ts - left) ts) ∙ ap (λ n. drop (n - left) (sql_views ts)) (sym (length-map ts sql_view))

-- ---- the definition, in the steps of the code

result_is : (end : ℕ) (at : Option TextArgData) (found : Found) → answer_of end at found ≡ with_at at (result_of end found)
result_is end at (kind k) = refl
result_is end at (stops w) = refl
result_is end at passes = refl

said_is : (end : ℕ) (at : Option TextArgData) (n : Counts) (w : Tokens) → said end at n w ≡ with_at at (kind_answer end (is_some at) n w)
said_is end at n w = go (is_left_out w)
  where
    go : (x : Bool) → elim x as (λ _. Answer) [ true ↦ Err (Refused F9 (first_word_line end w)) | false ↦ answer_of end at (found_in w (kind_at (is_some at) n w)) ]
        ≡ with_at at (elim x as (λ _. Result EmbKindData Stop) [ true ↦ Err (Refused F9 (first_word_line end w)) | false ↦ result_of end (found_in w (any_statement (is_some at) n w)) ])
    go true = refl
    go false = result_is end at (found_in w (kind_at (is_some at) n w)) ∙ ap (λ o. with_at at (result_of end (found_in w o))) (all_decided (is_some at) n w)

named_is : (end : ℕ) (all : Tokens) (o : Reading TextArgData) → named_at end all o ≡ behind_name end all o
named_is end all (done a n w) = said_is end (Some a) n w
named_is end all (stopped e) = refl

pub answer_is : (end : ℕ) (w : Tokens) → answer end w ≡ answered end w
unfolding answered
answer_is end w = λ i. elim (is_first (codes "AT") w) as (λ _. Answer) [
  | true ↦ (named_is end w (made at_of (read alphabet at_form no_counts w)) ∙ ap (behind_name end w) (at_read.is no_counts w)) i
  | false ↦ said_is end None no_counts w i
]

-- ---- what the code answers

pub whole_told : (end : ℕ) (all : Tokens) (o : Reading EmbKindData) (got : Result EmbKind Failure) (s : State) (r : Result EmbKind Stop)
    → Reads emb_kind_view o got s → r ≡ whole_of end all s.tokens got → Told emb_kind_view r (result_of end (found_in all o))
whole_told end all o got s r h e = subst (λ x. Told emb_kind_view x (result_of end (found_in all o))) (sym e) (go got s.tokens s.counts h)
  where
    go : (g : Result EmbKind Failure) (q : Tokens) (n : Counts) → Reads emb_kind_view o g (record { tokens = q; counts = n }) → Told emb_kind_view (whole_of end all q g) (result_of end (found_in all o))
    go (Ok k) [] n h = ap (λ x. result_of end (found_in all x)) (sym h)
    go (Ok k) (t ∷ q) n h = ap (λ x. result_of end (found_in all x)) (sym h)
    go (Err (failure.Dead k)) q n h = ap (λ x. result_of end (found_in all x)) (sym (h (λ x. absurd (cc))))
    go (Err (failure.OverLimit k)) q n h = ap (λ x. result_of end (found_in all x)) (sym (h (λ x. absurd (cc))))
    go (Err failure.OutOfMemory) q n h = tt

pub stop_told : (end : ℕ) (all : Tokens) (line : Line) (place : ℕ) (o : Reading TextArgData) (e : Failure) → (e ≢ failure.OutOfMemory → o ≡ stopped e) → Told emb_view (Err (stop_of end all e)) (placed line place (behind_name end all o))
stop_told end all line place o (failure.Dead k) h = ap (λ x. placed line place (behind_name end all x)) (sym (h (λ x. absurd (cc))))
stop_told end all line place o (failure.OverLimit k) h = ap (λ x. placed line place (behind_name end all x)) (sym (h (λ x. absurd (cc))))
stop_told end all line place o failure.OutOfMemory h = tt

-- an error that is passed on
pub error_told : (line : Line) (place : ℕ) (at : Option TextArgData) (e : Stop) (w : Result EmbKindData Stop) → Told emb_kind_view (Err e) w → Told emb_view (Err e) (placed line place (with_at at w))
error_told line place at (Refused fault at_line) w h = ap (λ x. placed line place (with_at at x)) h
error_told line place at (Limit limit) w h = ap (λ x. placed line place (with_at at x)) h
error_told line place at OutOfMemory w h = tt

pub named_error_told : (end : ℕ) (all : Tokens) (line : Line) (place : ℕ) (o : Reading TextArgData) (a : TextArgData) (n : Counts) (q : Tokens) (e : Stop)
    → o ≡ done a n q → Told emb_kind_view (Err e) (kind_answer end true n q) → Told emb_view (Err e) (placed line place (behind_name end all o))
named_error_told end all line place o a n q e is h = subst (λ x. Told emb_view (Err e) (placed line place (behind_name end all x))) (sym is) (error_told line place (Some a) e (kind_answer end true n q) h)

pub named_told : (end : ℕ) (all : Tokens) (line : Line) (place : ℕ) (o : Reading TextArgData) (a : TextArgData) (n : Counts) (q : Tokens) (k : EmbKind)
    → o ≡ done a n q → Ok (emb_kind_view k) ≡ kind_answer end true n q → Ok (record { line = line; place = place; at = Some a; kind = emb_kind_view k }) ≡ placed line place (behind_name end all o)
named_told end all line place o a n q k is h = ap (λ x. placed line place (with_at (Some a) x)) h ∙ ap (λ x. placed line place (behind_name end all x)) (sym is)

-- ---- a piece

-- what is known of a text, by each answer that it has
abbrev Only : Piece → (Result Tokens Stop → Type 0) → Type 0
Only p P = (t : Result Tokens Stop) → SqlTokensOrStop p.line.0 p.bytes t → P t

abbrev IsTokens : Tokens → Result Tokens Stop → Type 0
IsTokens ts t = Ok ts ≡ t

ok_inside : (a b : Tokens) → IsTokens a (Ok b) → a ≡ b
ok_inside a b e = cc

pub at_its_end : (p : Piece) (place : ℕ) (vs ts : List code.SqlToken) (bytes : Text) (k : ℕ) (r : Result Emb Stop) → vs ≡ ts → bytes ≡ p.bytes → k ≡ newlines bytes
    → Told emb_view r (placed p.line place (answered (p.line.0 + k) (sql_views vs))) → Told emb_view r (placed p.line place (answered (p.line.0 + newlines p.bytes) (sql_views ts)))
at_its_end p place vs ts bytes k r e f g h =
    let same : answered (p.line.0 + k) (sql_views vs) ≡ answered (p.line.0 + newlines p.bytes) (sql_views ts) = ap (λ n. answered (p.line.0 + n) (sql_views vs)) (g ∙ ap newlines f) ∙ ap (λ l. answered (p.line.0 + newlines p.bytes) (sql_views l)) e in
    subst (λ x. Told emb_view r (placed p.line place x)) same h

read_told : (p : Piece) (place : ℕ) (ts ws : Tokens) (r : Result Emb Stop) → ts ≡ ws
    → Told emb_view r (placed p.line place (answered (p.line.0 + newlines p.bytes) ts)) → Told emb_view r (placed p.line place (answer (p.line.0 + newlines p.bytes) ws))
read_told p place ts ws r e h = subst (λ x. Told emb_view r (placed p.line place x)) (ap (answered (p.line.0 + newlines p.bytes)) e ∙ sym (answer_is (p.line.0 + newlines p.bytes) ws)) h

pub statement_told : (p : Piece) (place : ℕ) (ts : Tokens) (r : Result Emb Stop) (wanted : Result EmbData Stop) → Only p (IsTokens ts)
    → Told emb_view r (placed p.line place (answered (p.line.0 + newlines p.bytes) ts)) → StatementOrStop p place wanted → Told emb_view r wanted
statement_told p place ts r wanted only h s =
    subst (λ x. Told emb_view r x)
    (sym (s.is ∙ ap (placed p.line place) (is_the_answer (p.line.0 + newlines p.bytes) s.tokens s.answer s.is_answer)))
    (read_told p place ts s.tokens r (ok_inside ts s.tokens (only (Ok s.tokens) s.lexed)) h)

stated : (p : Piece) (place : ℕ) (ws : Tokens) (r : Result EmbData Stop) → SqlTokens p.line.0 p.bytes ws → r ≡ placed p.line place (answer (p.line.0 + newlines p.bytes) ws) → StatementOrStop p place r
stated p place ws r s h = record { tokens = ws; lexed = s; answer = answer (p.line.0 + newlines p.bytes) ws; is_answer = rules_answered (p.line.0 + newlines p.bytes) ws; is = h }

is_read : (p : Piece) (place : ℕ) (ws : Tokens) (r : Result Emb Stop) → SqlTokens p.line.0 p.bytes ws
    → Told emb_view r (placed p.line place (answer (p.line.0 + newlines p.bytes) ws)) → IsRead p place r
is_read p place ws (Ok e) s h = stated p place ws (Ok (emb_view e)) s h
is_read p place ws (Err (Refused fault line)) s h = stated p place ws (Err (Refused fault line)) s h
is_read p place ws (Err (Limit limit)) s h = stated p place ws (Err (Limit limit)) s h
is_read p place ws (Err OutOfMemory) s h = tt

pub answer_told : (p : Piece) (place : ℕ) (ts ws : Tokens) (r : Result Emb Stop) → Only p (IsTokens ts)
    → Told emb_view r (placed p.line place (answered (p.line.0 + newlines p.bytes) ts)) → SqlTokens p.line.0 p.bytes ws → IsRead p place r
answer_told p place ts ws r only h s = is_read p place ws r s (read_told p place ts ws r (ok_inside ts ws (only (Ok ws) s)) h)

pub tokens_told : (ts : Tokens) (stop : Stop) (r : Result Emb Stop) → IsTokens ts (Err stop) → Told emb_view r (Err stop)
tokens_told ts stop r h = absurd (cc)

-- ---- no tokens were got

abbrev IsStop : Stop → Result Tokens Stop → Type 0
IsStop e t = Told sql_views (Err e) t

abbrev Is : Stop → Result Tokens Stop → Type 0
Is e t = Err e ≡ t

pub untold_statement : (p : Piece) (place : ℕ) (e : Stop) (wanted : Result EmbData Stop) → Only p (IsStop e) → StatementOrStop p place wanted → Told emb_view (Err e) wanted
untold_statement p place (Refused fault line) wanted only s = let no : Is (Refused fault line) (Ok s.tokens) = only (Ok s.tokens) s.lexed in absurd (cc)
untold_statement p place (Limit limit) wanted only s = let no : Is (Limit limit) (Ok s.tokens) = only (Ok s.tokens) s.lexed in absurd (cc)
untold_statement p place OutOfMemory wanted only s = tt

pub untold_answer : (p : Piece) (place : ℕ) (e : Stop) (ws : Tokens) → Only p (IsStop e) → SqlTokens p.line.0 p.bytes ws → IsRead p place (Err e)
untold_answer p place (Refused fault line) ws only s = let no : Is (Refused fault line) (Ok ws) = only (Ok ws) s in absurd (cc)
untold_answer p place (Limit limit) ws only s = let no : Is (Limit limit) (Ok ws) = only (Ok ws) s in absurd (cc)
untold_answer p place OutOfMemory ws only s = tt

inside : (e stop : Stop) → Is e (Err stop) → e ≡ stop
inside e stop h = cc

pub stop_is_told : (e stop : Stop) → IsStop e (Err stop) → Told emb_view (Err e) (Err stop)
stop_is_told (Refused fault line) stop h = ap (λ x. Err x) (inside (Refused fault line) stop h)
stop_is_told (Limit limit) stop h = ap (λ x. Err x) (inside (Limit limit) stop h)
stop_is_told OutOfMemory stop h = tt
