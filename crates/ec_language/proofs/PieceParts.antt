-- The parts of pieces, and their tokens: what is read is what the definition says.
use Rattle.std.proofs.Common.{◌≡◌, ℕ, zero, suc, ◌+◌, ◌<◌, Bool, true, false, List, [], ◌∷◌, ◌++◌, length, Some, None, Result, Ok, Err, refl, sym, ap, ◌∙◌, subst, arith, append_assoc, append-nil}
use Rattle.std.specs.Prelude.{codes, ⊤, if◌then◌else◌}
use Rattle.std.specs.List.{concat, list_any}
use Rattle.ec_base.specs.declared.fault.FaultKind.TheVariants.{F9}
use Rattle.ec_base.specs.declared.stop.Stop.{Stop}
use Rattle.ec_ctypes.specs.declared.text.piece.PieceKind.{PieceKind}
use Rattle.ec_ctypes.specs.declared.text.piece.PieceKind.TheVariants.{C, Emb, InPlace, SectionStart, SectionEnd}
use Rattle.ec_ctypes.specs.declared.text.piece.Piece.{Piece}
use Rattle.ec_ctypes.specs.trees.Tokens.{section_start, section_end, TokenData}
use Rattle.ec_language.specs.Letters.{Text, semicolon}
use Rattle.ec_language.specs.Line.{newlines}
use Rattle.ec_language.specs.CText.{CUnits}
use Rattle.ec_language.specs.SqlText.{SqlUnits}
use Rattle.ec_language.specs.SqlTokens.{StatementUnits}
use Rattle.ec_language.specs.Pieces.{behind_start, solid, is_semicolon, is_type_word, same_words, kind_of, Declared, IsPiece, PiecesUpTo, Pieces}
use Rattle.ec_language.specs.Pieces as piece
use Rattle.ec_language.specs.Lexemes.{is_fresh_after}
use Rattle.ec_language.specs.Tokens.{Part, CParts, PieceParts, c_text, statement, opening, closing, declaration, embedded, lines_before, statements_behind, AllParts, TokensOrStop}
use Rattle.ec_language.specs.ReadPieces.{passed, cut, endless, front, begins_semicolon, begins_gap, gap_stop, statement_end, read_pieces}
use Rattle.ec_language.specs.ReadTokens.{ReadParts, with_parts, one_part, c_parts, units_within, text_behind_start, statement_units, declaration_text, statement_parts, marked, declaration_parts, other_parts, is_c, piece_parts, all_parts, tokens_of, read_tokens}
use Rattle.ec_language.specs.TokenRows.{c_alone, statement_alone, Gives, SourceGives}
use Rattle.ec_language.proofs.Classes.{neither}
use Rattle.ec_language.proofs.Walks.{shorter}
use Rattle.ec_language.proofs.CWalks.{front_is}
use Rattle.ec_language.proofs.SqlUnits.{sql_complete, sql_some, sql_semicolon, sql_gap}
use Rattle.ec_language.proofs.SqlWalks.{statement_ends, gap_stop_behind, gap_stop_solid}
use Rattle.ec_language.proofs.Starts.{type_word_solid}
use Rattle.ec_language.proofs.ReadLaws.{pieces_back}
use Rattle.ec_language.proofs.CParts.{parts_complete, parts_sound}
use Rattle.ec_language.proofs.Cuts.{statement_cut, declared_cut}

-- ---- the units of a statement

units_complete : (n : ℕ) (units : List Text) (rest : Text) → SqlUnits units (semicolon ∷ rest) → list_any is_semicolon units ≡ false
    → length (concat units ++ semicolon ∷ rest) < n → units_within n (concat units ++ semicolon ∷ rest) ≡ units
units_complete zero units rest free none l = absurd (omega arith)
units_complete (suc n) [] rest free none l = refl
units_complete (suc n) (u ∷ us) rest free none l =
    let parts = neither (is_semicolon u) (list_any is_semicolon us) none in
    let behind : Text = concat us ++ semicolon ∷ rest in
    let whole : (u ++ concat us) ++ semicolon ∷ rest ≡ u ++ behind = append_assoc u (concat us) (semicolon ∷ rest) in
    let other : begins_semicolon (u ++ behind) ≡ false = sym (sql_semicolon u behind free.0) ∙ parts.0 in
    let next = sql_complete u behind free.0 in
    let less : length behind < length (u ++ behind) = shorter (u ++ behind) u behind refl (sql_some u behind free.0) in
    ap (units_within (suc n)) whole
    ∙ (λ i. elim (other i) [
      | true ↦ []
      | false ↦ elim (next i) [ passed r ↦ front (u ++ behind) r ∷ units_within n r | cut r ↦ [] | endless ↦ [] ]
    ])
    ∙ (λ i. front_is u behind i ∷ units_complete n us rest free.1 parts.1 (omega (arith, ap length whole)) i)

pub statement_units_complete : (bytes : Text) (units : List Text) → StatementUnits bytes units → statement_units bytes ≡ units
statement_units_complete bytes units are =
    let text : text_behind_start bytes ≡ concat units ++ semicolon ∷ [] = λ i. elim (are.start i) [ Some text ↦ text | None ↦ [] ] in
    ap (λ t. units_within (suc (length t)) t) text ∙ units_complete (suc (length (concat units ++ semicolon ∷ []))) units [] are.free are.none (omega arith)

-- ---- the text of a declaration

pub declaration_text_complete : (Units : List Text → Text → Type 0) (bytes : Text) (found : Declared Units bytes []) → declaration_text bytes ≡ concat (found.first ∷ found.others)
declaration_text_complete Units bytes found =
    let body : Text = found.first ++ concat found.others in
    let start : behind_start bytes ≡ Some (concat found.gap ++ body) = ap behind_start (sym (append-nil bytes)) ∙ found.start ∙ ap Some (append-nil (concat found.gap ++ body)) in
    let text : text_behind_start bytes ≡ concat found.gap ++ body = λ i. elim (start i) [ Some text ↦ text | None ↦ [] ] in
    let parted : SqlUnits found.gap body = subst (SqlUnits found.gap) (append-nil body) found.parted in
    let rest : concat found.others ++ [] ≡ concat found.others = append-nil (concat found.others) in
    let solid : begins_gap body ≡ false = ap (λ r. begins_gap (found.first ++ r)) (sym rest) ∙ sym (sql_gap found.first (concat found.others ++ []) found.word) ∙ type_word_solid found.first found.typed in
    ap gap_stop text ∙ gap_stop_behind found.gap body parted found.gaps ∙ gap_stop_solid body solid

-- ---- pieces

abbrev parts_of_kind : Bool → Bool → ℕ → Bool → ℕ → Text → PieceKind → ReadParts
parts_of_kind c written line fresh statements bytes kind = elim (is_c kind) [ true ↦ c_parts c line fresh bytes | false ↦ other_parts written kind line statements bytes ]

pub piece_complete : (written : Bool) (line : ℕ) (fresh : Bool) (statements : ℕ) (p : Piece) (parts : List Part) (last : ℕ) → PieceParts written line fresh statements p parts last
    → piece_parts written line fresh statements p ≡ record { parts = parts; last = last }
piece_complete written line fresh statements p parts last (c_text ps l kind are) =
    ap (parts_of_kind written written line fresh statements p.bytes) kind ∙ parts_complete (length p.bytes) written line fresh p.bytes parts last are (omega arith)
piece_complete written line fresh statements p parts last (statement units ps l kind w are e f) =
    (λ i. parts_of_kind written (w i) line fresh statements p.bytes (kind i))
    ∙ ap (statement_parts line statements p.bytes) (statement_units_complete p.bytes units are)
    ∙ (λ i. record { parts = sym e i; last = sym f i })
piece_complete written line fresh statements p parts last (opening ps l kind w e f) =
    (λ i. parts_of_kind written (w i) line fresh statements p.bytes (kind i)) ∙ (λ i. record { parts = sym e i; last = sym f i })
piece_complete written line fresh statements p parts last (closing ps l kind w e f) =
    (λ i. parts_of_kind written (w i) line fresh statements p.bytes (kind i)) ∙ (λ i. record { parts = sym e i; last = sym f i })
piece_complete written line fresh statements p parts last (declaration found ps inner l kind w are e) =
    let body : Text = concat (found.first ∷ found.others) in
    let first : ℕ = line + lines_before p.bytes body in
    (λ i. parts_of_kind written (w i) line fresh statements p.bytes (kind i))
    ∙ ap (λ t. marked line (c_parts false (line + lines_before p.bytes t) false t)) (declaration_text_complete CUnits p.bytes found)
    ∙ ap (marked line) (parts_complete (length body) false first false body inner last (subst (λ x. CParts x first false body inner last) w are) (omega arith))
    ∙ (λ i. record { parts = sym e i; last = last })
piece_complete written line fresh statements p parts last (embedded ps l kind w e f) =
    (λ i. elim (not_c p.kind kind i) [ true ↦ c_parts written line fresh p.bytes | false ↦ other_parts (w i) p.kind line statements p.bytes ])
    ∙ (λ i. record { parts = sym e i; last = sym f i })
  where
    not_c : (k : PieceKind) → (k ≡ C → ⊥) → is_c k ≡ false
    not_c C h = absurd (h refl)
    not_c _ h = refl

pub all_complete : (written : Bool) (line : ℕ) (fresh : Bool) (statements : ℕ) (pieces : List Piece) (parts : List Part) (last : ℕ) → AllParts written line fresh statements pieces parts last
    → all_parts written line fresh statements pieces ≡ record { parts = parts; last = last }
all_complete written line fresh statements [] parts last are = λ i. record { parts = sym are.0 i; last = sym are.1 i }
all_complete written line fresh statements (p ∷ ps) parts last are =
    let one = piece_complete written line fresh statements p are.0 are.2 are.4 in
    (λ i. with_parts (one i).parts (all_parts written (one i).last (is_fresh_after fresh p.bytes) (statements_behind statements p.kind) ps))
    ∙ ap (with_parts are.0) (all_complete written are.2 (is_fresh_after fresh p.bytes) (statements_behind statements p.kind) ps are.1 last are.5)
    ∙ (λ i. record { parts = sym are.3 i; last = last })

-- ---- tokens

-- What the definition allows is what is read, at all pieces.
pub tokens_complete : (written : Bool) (pieces : List Piece) (answer : Result (List TokenData) Stop) → TokensOrStop written pieces answer → answer ≡ read_tokens written pieces
tokens_complete written pieces answer are = are.3 ∙ ap (tokens_of written) (sym (all_complete written 1 true 0 pieces are.0 are.1 are.2))

pub one_answer : (written : Bool) (pieces : List Piece) (a b : Result (List TokenData) Stop) → TokensOrStop written pieces a → TokensOrStop written pieces b → a ≡ b
one_answer written pieces a b x y = tokens_complete written pieces a x ∙ sym (tokens_complete written pieces b y)

-- ---- pieces of a text have tokens

-- what a piece has to be made of to have parts
abbrev pub Readable : PieceKind → Text → Type 0
Readable C bytes = ⊤
Readable Emb bytes = (units : List Text) × StatementUnits bytes units
Readable InPlace bytes = Declared CUnits bytes []
Readable SectionStart bytes = ⊤
Readable SectionEnd bytes = ⊤

kind_readable : (bytes : Text) (units : List Text) → StatementUnits bytes units → Readable (kind_of units) bytes
kind_readable bytes units are = step (same_words (solid units) (codes "BEGIN" ∷ codes "DECLARE" ∷ codes "SECTION" ∷ [])) (same_words (solid units) (codes "END" ∷ codes "DECLARE" ∷ codes "SECTION" ∷ []))
  where
    step : (x y : Bool) → Readable (if x then SectionStart else if y then SectionEnd else Emb) bytes
    step true y = tt
    step false true = tt
    step false false = (units, are)

pub piece_readable : (kind : PieceKind) (bytes rest : Text) → IsPiece kind bytes rest → Readable kind bytes
piece_readable kind bytes rest (piece.c_text b r units w e free none ends) = tt
piece_readable kind bytes rest (piece.statement k b r units start free none typed same) =
    subst (λ x. Readable x bytes) (sym same) (kind_readable bytes units (statement_cut bytes rest units start free none))
piece_readable kind bytes rest (piece.declaration b r found) = declared_cut bytes rest found

pub piece_sound : (written : Bool) (line : ℕ) (fresh : Bool) (statements : ℕ) (p : Piece) → (written ≡ false → Readable p.kind p.bytes)
    → PieceParts written line fresh statements p (piece_parts written line fresh statements p).parts (piece_parts written line fresh statements p).last
piece_sound written line fresh statements p ready = step p.kind refl written refl ready
  where
    step : (kind : PieceKind) → p.kind ≡ kind → (w : Bool) → written ≡ w → (written ≡ false → Readable kind p.bytes)
        → PieceParts written line fresh statements p (parts_of_kind written w line fresh statements p.bytes kind).parts (parts_of_kind written w line fresh statements p.bytes kind).last
    step C k w e ready = c_text (c_parts written line fresh p.bytes).parts (c_parts written line fresh p.bytes).last k (parts_sound (length p.bytes) written line fresh p.bytes (omega arith))
    step Emb k true e ready = embedded (one_part line (Err F9) (line + newlines p.bytes)).parts (line + newlines p.bytes) (λ c. absurd (cc)) e refl refl
    step Emb k false e ready =
        let units : List Text = statement_units p.bytes in
        let there = ready e in
        statement units (statement_parts line statements p.bytes units).parts (line + newlines p.bytes) k e
        (subst (StatementUnits p.bytes) (sym (statement_units_complete p.bytes there.0 there.1)) there.1) refl refl
    step InPlace k true e ready = embedded (one_part line (Err F9) (line + newlines p.bytes)).parts (line + newlines p.bytes) (λ c. absurd (cc)) e refl refl
    step InPlace k false e ready =
        let found : Declared CUnits p.bytes [] = ready e in
        let body : Text = concat (found.first ∷ found.others) in
        let first : ℕ = line + lines_before p.bytes body in
        let inner : ReadParts = c_parts false first false body in
        let are : CParts written first false body inner.parts inner.last = subst (λ x. CParts x first false body inner.parts inner.last) (sym e) (parts_sound (length body) false first false body (omega arith)) in
        subst (λ t. PieceParts written line fresh statements p (declaration_parts line p.bytes t).parts (declaration_parts line p.bytes t).last) (sym (declaration_text_complete CUnits p.bytes found))
        (declaration found (marked line inner).parts inner.parts inner.last k e are refl)
    step SectionStart k true e ready = embedded (one_part line (Err F9) (line + newlines p.bytes)).parts (line + newlines p.bytes) (λ c. absurd (cc)) e refl refl
    step SectionStart k false e ready = opening (one_part line (Ok section_start) (line + newlines p.bytes)).parts (line + newlines p.bytes) k e refl refl
    step SectionEnd k true e ready = embedded (one_part line (Err F9) (line + newlines p.bytes)).parts (line + newlines p.bytes) (λ c. absurd (cc)) e refl refl
    step SectionEnd k false e ready = closing (one_part line (Ok section_end) (line + newlines p.bytes)).parts (line + newlines p.bytes) k e refl refl

-- pieces of written C always have parts, since what is embedded there is a fault
abbrev pub AllReadable : Bool → List Piece → Type 0
AllReadable written [] = ⊤
AllReadable written (p ∷ ps) = (written ≡ false → Readable p.kind p.bytes) × AllReadable written ps

pub pieces_readable : (written : Bool) (line : ℕ) (text : Text) (pieces : List Piece) (rest : Text) → PiecesUpTo line text pieces rest → AllReadable written pieces
pieces_readable written line text [] rest are = tt
pieces_readable written line text (p ∷ ps) rest are = ((λ e. piece_readable p.kind p.bytes are.0 are.3), pieces_readable written (line + newlines p.bytes) are.0 ps rest are.4)

pub written_readable : (pieces : List Piece) → AllReadable true pieces
written_readable [] = tt
written_readable (p ∷ ps) = ((λ e. absurd (cc)), written_readable ps)

pub all_sound : (written : Bool) (line : ℕ) (fresh : Bool) (statements : ℕ) (pieces : List Piece) → AllReadable written pieces
    → AllParts written line fresh statements pieces (all_parts written line fresh statements pieces).parts (all_parts written line fresh statements pieces).last
all_sound written line fresh statements [] ready = (refl, refl)
all_sound written line fresh statements (p ∷ ps) ready =
    let one : ReadParts = piece_parts written line fresh statements p in
    let others : ReadParts = all_parts written one.last (is_fresh_after fresh p.bytes) (statements_behind statements p.kind) ps in (
      one.parts,
      others.parts,
      one.last,
      refl,
      piece_sound written line fresh statements p ready.0,
      all_sound written one.last (is_fresh_after fresh p.bytes) (statements_behind statements p.kind) ps ready.1,
    )

-- What is read is what the definition allows, at pieces that have parts.
pub readable_tokens : (written : Bool) (pieces : List Piece) → AllReadable written pieces → TokensOrStop written pieces (read_tokens written pieces)
readable_tokens written pieces ready =
    ((all_parts written 1 true 0 pieces).parts, (all_parts written 1 true 0 pieces).last, all_sound written 1 true 0 pieces ready, refl)

pub tokens_sound : (written : Bool) (text : Text) (pieces : List Piece) → Pieces text pieces → TokensOrStop written pieces (read_tokens written pieces)
tokens_sound written text pieces are = readable_tokens written pieces (pieces_readable written 1 text pieces [] are)

-- ---- rows

-- pieces that have parts give what is computed
pub computed : {written : Bool} {pieces : List Piece} {answer : Result (List TokenData) Stop} → AllReadable written pieces → read_tokens written pieces ≡ answer → Gives written pieces answer
computed {written} {pieces} ready e = record { is = subst (TokensOrStop written pieces) e (readable_tokens written pieces ready) }

-- C text alone
pub c_gives : {written : Bool} {text : Text} {answer : Result (List TokenData) Stop} → read_tokens written (c_alone text) ≡ answer → Gives written (c_alone text) answer
c_gives e = computed ((λ w. tt), tt) e

pub statement_ready : (bytes : Text) → behind_start bytes ≡ Some (text_behind_start bytes) → statement_end (text_behind_start bytes) ≡ Some [] → (units : List Text) × StatementUnits bytes units
statement_ready bytes start e =
    let s = statement_ends (text_behind_start bytes) [] e in
    (s.units, record { start = start ∙ ap Some s.whole; free = s.are; none = s.none })

-- a statement alone
pub statement_gives : {written : Bool} {text : Text} {answer : Result (List TokenData) Stop} → behind_start text ≡ Some (text_behind_start text) → statement_end (text_behind_start text) ≡ Some []
    → read_tokens written (statement_alone text) ≡ answer → Gives written (statement_alone text) answer
statement_gives {written} {text} start end e = computed ((λ w. statement_ready text start end), tt) e

-- a whole source
pub source_gives : {text : Text} {answer : Result (List TokenData) Stop} (pieces : List Piece) → read_pieces text ≡ Ok pieces → read_tokens false pieces ≡ answer → SourceGives text answer
source_gives {text} pieces e g =
    let are : Pieces text pieces = pieces_back text pieces e in
    record { pieces = pieces; are = are; is = subst (TokensOrStop false pieces) g (tokens_sound false text pieces are) }
