-- The embedded statements of a source stand on lines from 1 on, and the texts that they hold themselves are bytes.
use Rattle.std.proofs.Common.{◌≡◌, ℕ, suc, ◌+◌, ◌≤◌, ◌<◌, Bool, true, false, ◌&&◌, List, [], ◌∷◌, length, refl, sym, ap, ◌∙◌, subst, Result, Ok, Err, arith}
use Rattle.std.specs.Prelude.{nat_lt, ◌==◌, if◌then◌else◌}
use Rattle.std.proofs.lemmas.Bool.Decides.{nat_tests}
use Rattle.ec_base.specs.declared.line.Line.{Line}
use Rattle.ec_base.specs.declared.stop.Stop.{Stop}
use Rattle.ec_ctypes.specs.declared.text.piece.Piece.{Piece}
use Rattle.ec_ctypes.specs.trees.Embedded.{EmbData}
use Rattle.ec_ctypes.specs.trees.Units.{UnitData}
use Rattle.ec_language.specs.Letters.{Text, newline, each}
use Rattle.ec_language.specs.Line.{newlines}
use Rattle.ec_language.specs.Pieces.{PiecesUpTo}
use Rattle.ec_language.proofs.ReadLaws.{newlines-append}
use Rattle.ec_embedded.specs.Answers.{placed, end_line, StatementOrStop}
use Rattle.ec_embedded.specs.Findings.{Answer, StatementData}
use Rattle.ec_host_defs.specs.Statements.{with_statement, with_statements}
use Rattle.ec_phases_defs.specs.Sources.{ReadsStatements, end, other, stops, statement, ReadsTree, statements}
use Rattle.ec_writing_defs.specs.Shapes.{is_byte, is_line}
use Rattle.ec_written_laws.specs.written.Bounds.{is_written_statement, are_written_statements}
use Rattle.ec_written_laws.proofs.written_sources_lemmas.StatementTexts.{parted, statement_tokens, answer_is}

-- each with its line
abbrev pub AreStatements : List EmbData → Type 0
AreStatements [] = Unit {0}
AreStatements (e ∷ es) = (is_line e.line.0 ≡ true) × (is_written_statement e.kind ≡ true) × AreStatements es

pub statements_written : (es : List EmbData) → AreStatements es → are_written_statements es ≡ true
statements_written [] h = refl
statements_written (e ∷ es) h = λ i. h.1 i && statements_written es h.2 i

-- ---- one statement

record IsPlaced (line : Line) (a : Answer) (e : EmbData) : Type 0 where
  said : StatementData
  is : a ≡ Ok said
  same_kind : e.kind ≡ said.kind
  same_line : e.line ≡ line

placed_is : (line : Line) (place : ℕ) (a : Answer) (e : EmbData) → Ok e ≡ placed line place a → IsPlaced line a e
placed_is line place (Ok s) e h = let same : e ≡ record { line = line; place = place; at = s.at; kind = s.kind } = cc in record { said = s; is = refl; same_kind = ap (λ (x : EmbData). x.kind) same; same_line = ap (λ (x : EmbData). x.line) same }
placed_is line place (Err stop) e h = absurd (cc)

statement_is : (p : Piece) (place : ℕ) (e : EmbData) → StatementOrStop p place (Ok e) → each is_byte p.bytes ≡ true → is_line p.line.0 ≡ true → (is_line e.line.0 ≡ true) × (is_written_statement e.kind ≡ true)
statement_is p place e s b l =
    let k = placed_is p.line place s.answer e s.is in
    (ap (λ (x : Line). is_line x.0) k.same_line ∙ l, ap is_written_statement k.same_kind ∙ answer_is (end_line p) s.tokens s.answer k.said s.is_answer (statement_tokens p.line.0 p.bytes s.tokens s.lexed b) k.is)

-- ---- all

-- what is known of the pieces of a source
abbrev ArePieces : List Piece → Type 0
ArePieces [] = Unit {0}
ArePieces (p ∷ ps) = (each is_byte p.bytes ≡ true) × (is_line p.line.0 ≡ true) × ArePieces ps

on_line : (n : ℕ) → 0 < n → n ≤ 999999999 → is_line n ≡ true
on_line n h k =
    let a : nat_lt 0 n ≡ true = grind (arith, nat_tests) in
    let b : nat_lt n 1000000000 ≡ true = grind (arith, nat_tests) in
    λ i. a i && b i

pieces_are : (line : ℕ) (text rest : Text) (ps : List Piece) → PiecesUpTo line text ps rest → 0 < line → line + newlines text ≤ 999999999 → each is_byte text ≡ true → ArePieces ps
pieces_are line text rest [] c l m b = tt
pieces_are line text rest (p ∷ ps) c l m b =
    let two = parted p.bytes c.0 (subst (λ t. each is_byte t ≡ true) c.1 b) in
    let lines : newlines text ≡ newlines p.bytes + newlines c.0 = ap newlines c.1 ∙ newlines-append p.bytes c.0 in
    (two.0, ap is_line c.2 ∙ on_line line l (omega (arith, m)), pieces_are (line + newlines p.bytes) c.0 rest ps c.4 (omega (arith, l)) (omega (arith, m, lines)) two.1)

abbrev list_of : Result (List EmbData) Stop → List EmbData
list_of (Ok es) = es
list_of (Err stop) = []

statements_are : (ps : List Piece) (ns : List ℕ) (a : Result (List EmbData) Stop) → ReadsStatements ps ns a → ArePieces ps → AreStatements (list_of a)
statements_are [] ns a (end ms) h = tt
statements_are (p ∷ ps) ns a (other q qs ms b k r) h = statements_are ps ns a r h.2
statements_are (p ∷ ps) (n ∷ ns) a (stops q qs m ms stop k s) h = tt
statements_are (p ∷ ps) (n ∷ ns) a (statement q qs m ms e others b k s r is) h = subst (λ x. AreStatements (list_of x)) (sym is) (go others (statements_are ps ns others r h.2))
  where
    go : (others : Result (List EmbData) Stop) → AreStatements (list_of others) → AreStatements (list_of (with_statement (Ok e) others))
    go (Ok es) j = let q = statement_is p n e s h.0 h.1 in (q.0, q.1, j)
    go (Err stop) j = tt

few_lines : (t : Text) → newlines t ≤ length t
few_lines [] = omega arith
few_lines (b ∷ t) = go (b == newline) (few_lines t)
  where
    go : (x : Bool) → newlines t ≤ length t → (if x then 1 else 0) + newlines t ≤ suc (length t)
    go true h = omega (arith, h)
    go false h = omega (arith, h)

same_statements : (u v : UnitData) (es : Result (List EmbData) Stop) → Ok v ≡ with_statements u es → v.embs ≡ list_of es
same_statements u v (Ok es) e = ap embs_in e
  where
    embs_in : Result UnitData Stop → List EmbData
    embs_in (Ok x) = x.embs
    embs_in (Err stop) = []
same_statements u v (Err stop) e = absurd (cc)

pub source_statements : (text : Text) (v : UnitData) → each is_byte text ≡ true → ReadsTree text (Ok v) → AreStatements v.embs
source_statements text v b (statements pieces ts u es answer l c x is r e) =
    let short : length text ≤ 16777216 = l in
    let few = few_lines text in
    subst AreStatements (sym (same_statements u v es e)) (statements_are pieces _ es r (pieces_are 1 text [] pieces c (omega arith) (omega (arith, short, few)) b))
