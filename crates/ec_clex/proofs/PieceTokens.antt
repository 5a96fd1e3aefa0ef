-- The tokens of pieces, taken one after the other, are what is read.
use Rattle.std.proofs.Common.{◌≡◌, ℕ, zero, suc, ◌+◌, ◌<◌, ◌≤◌, Bool, true, false, List, [], ◌∷◌, ◌++◌, length, drop, get_or, Some, Result, Ok, Err, refl, sym, ap, ◌∙◌, subst, arith, length-append, drop-cons, add-one, eq-eqb}
use Rattle.std.specs.Prelude.{codes, ◌==◌, if◌then◌else◌, IfOk}
use Rattle.std.specs.List.{concat}
use Rattle.ec_base.specs.declared.fault.FaultKind.{FaultKind}
use Rattle.ec_base.specs.declared.fault.FaultKind.TheVariants.{F9}
use Rattle.ec_base.specs.declared.fault.LimitKind.TheVariants.{L2}
use Rattle.ec_base.specs.declared.stop.Stop.{Stop}
use Rattle.ec_base.specs.declared.stop.Stop.TheVariants.{Refused, Limit, OutOfMemory}
use Rattle.ec_ctypes.specs.declared.text.piece.PieceKind.{PieceKind}
use Rattle.ec_ctypes.specs.declared.text.piece.PieceKind.TheVariants.{C, Emb, InPlace, SectionStart, SectionEnd}
use Rattle.ec_ctypes.specs.declared.text.piece.Piece.{Piece}
use Rattle.ec_ctypes.specs.declared.text.token.Token.{Token}
use Rattle.ec_ctypes.specs.trees.Tokens.{TokData, end_token, TokenData}
use Rattle.ec_ctypes.specs.views.Tokens.{tokens_view}
use Rattle.ec_language.specs.Letters.{Text, is_empty}
use Rattle.ec_language.specs.Line.{newlines}
use Rattle.ec_language.specs.Lexemes.{is_fresh_after}
use Rattle.ec_language.specs.Tokens.{Part, join_strings, without_head, max_tokens, token, with_token, numbered_part, numbered, statements_behind, TokensOrStop, Tokens}
use Rattle.ec_language.specs.Pieces.{behind_start, IsPiece, PiecesUpTo, Pieces}
use Rattle.ec_language.specs.Pieces as piece
use Rattle.ec_language.specs.SqlTokens.{StatementUnits}
use Rattle.ec_language.proofs.Starts.{starts_behind}
use Rattle.ec_language.proofs.PieceParts.{statement_units_complete, tokens_complete, tokens_sound, Readable, AllReadable, pieces_readable}
use Rattle.ec_language.specs.Syntax.{EndsOnce}
use Rattle.ec_language.proofs.LastToken.{ends_of}
use Rattle.ec_clex.specs.Answers.{UnlessNoMemory, seen}
use Rattle.ec_clex.specs.Items.{Told}
use Rattle.ec_language.specs.ReadTokens.{ReadParts, is_c, c_parts, other_parts, piece_parts, all_parts, read_tokens}
use Rattle.ec_clex.specs.Lexing.{Taken, Mid, and_then, fed_all, at_end, c_rest, embedded_told, piece_rest, piece_told, pieces_told, start, with_end_token, finished, total, HasUnits, AllUnits}
use Rattle.ec_clex.proofs.Rests.{fed_append, statement_rest, declaration_rest}
use Rattle.ec_clex.proofs.WholeTokens.{finish, fed_whole, at_start}

mark_rest : (line : ℕ) (fresh : Bool) (r : Result Taken Stop) → at_end line fresh r ≡ at_end line fresh (and_then r (λ s. Ok s))
mark_rest line fresh (Ok s) = refl
mark_rest line fresh (Err stop) = refl

piece_is : (written : Bool) (n : ℕ) (m : Mid) (p : Piece) → piece_told written n m p ≡ piece_rest written n m p
piece_is written n m p = step p.kind written
  where
    step : (kind : PieceKind) (w : Bool)
        → ◌≡◌ {A = Result Mid Stop} (elim (is_c kind) [
          | true ↦ c_rest written m p.bytes
          | false ↦ elim w [ true ↦ Err (Refused F9 (record { 0 = m.line })) | false ↦ embedded_told kind n m p.bytes ]
        ])
        (at_end (elim (is_c kind) as (λ _. ReadParts) [ true ↦ c_parts written m.line m.fresh p.bytes | false ↦ other_parts w kind m.line n p.bytes ]).last (is_fresh_after m.fresh p.bytes)
        (fed_all m.taken (elim (is_c kind) as (λ _. ReadParts) [ true ↦ c_parts written m.line m.fresh p.bytes | false ↦ other_parts w kind m.line n p.bytes ]).parts))
    step C w = refl
    step Emb true = refl
    step Emb false = statement_rest n m p.bytes
    step InPlace true = refl
    step InPlace false = declaration_rest n m p.bytes
    step SectionStart true = refl
    step SectionStart false = mark_rest (m.line + newlines p.bytes) (is_fresh_after m.fresh p.bytes) _
    step SectionEnd true = refl
    step SectionEnd false = mark_rest (m.line + newlines p.bytes) (is_fresh_after m.fresh p.bytes) _

pieces_finish : (written : Bool) (ps : List Piece) (n : ℕ) (m : Mid)
    → finished (pieces_told written n m ps) ≡ finish (all_parts written m.line m.fresh n ps).last (fed_all m.taken (all_parts written m.line m.fresh n ps).parts)
pieces_finish written [] n m = refl
pieces_finish written (p ∷ ps) n m =
    let one : ReadParts = piece_parts written m.line m.fresh n p in
    let fresh : Bool = is_fresh_after m.fresh p.bytes in
    let k : ℕ = statements_behind n p.kind in
    let others : ReadParts = all_parts written one.last fresh k ps in
    ap (λ (r : Result Mid Stop). finished (and_then r (λ next. pieces_told written k next ps))) (piece_is written n m p)
    ∙ step one.last fresh k others (λ s. pieces_finish written ps k (record { taken = s; line = one.last; fresh = fresh })) (fed_all m.taken one.parts)
    ∙ ap (finish others.last) (sym (fed_append m.taken one.parts others.parts))
  where
    step : (line : ℕ) (fresh : Bool) (k : ℕ) (others : ReadParts) → ((s : Taken) → finished (pieces_told written k (record { taken = s; line = line; fresh = fresh }) ps) ≡ finish others.last (fed_all s others.parts))
        → (r : Result Taken Stop) → finished (and_then (at_end line fresh r) (λ next. pieces_told written k next ps)) ≡ finish others.last (and_then r (λ s. fed_all s others.parts))
    step line fresh k others ih (Ok s) = ih s
    step line fresh k others ih (Err stop) = refl

pub pieces_read : (written : Bool) (pieces : List Piece) → finished (pieces_told written 0 (start written) pieces) ≡ read_tokens written pieces
pieces_read written pieces =
    pieces_finish written pieces 0 (start written) ∙ fed_whole (all_parts written 1 true 0 pieces).parts (record { head = written; done = [] }) (all_parts written 1 true 0 pieces).last (at_start written)

-- ---- the end of a walk over the pieces

piece_at : (ps : List Piece) (i : ℕ) (p : Piece) → i < length ps → p ≡ get_or ps i p → drop i ps ≡ p ∷ drop (i + 1) ps
piece_at ps i p h e = drop-cons ps i p h ∙ (λ k. sym e k ∷ drop (sym (add-one i) k) ps)

pub piece_stops : (written : Bool) (ps : List Piece) (i n : ℕ) (m : Mid) (p : Piece) (stop : Stop) → i < length ps → p ≡ get_or ps i p
    → pieces_told written n m (drop i ps) ≡ pieces_told written 0 (start written) ps → Err stop ≡ piece_told written n m p → Err stop ≡ read_tokens written ps
piece_stops written ps i n m p stop h e same told =
    let k : ℕ = statements_behind n p.kind in
    let here : pieces_told written n m (drop i ps) ≡ Err stop =
    ap (pieces_told written n m) (piece_at ps i p h e) ∙ ap (λ (r : Result Mid Stop). and_then r (λ next. pieces_told written k next (drop (i + 1) ps))) (sym told) in
    ap finished (sym here ∙ same) ∙ pieces_read written ps

nothing_left : (ps : List Piece) (i : ℕ) → length ps ≤ i → drop i ps ≡ []
nothing_left [] zero h = refl
nothing_left [] (suc i) h = refl
nothing_left (p ∷ ps) zero h = absurd (omega arith)
nothing_left (p ∷ ps) (suc i) h = nothing_left ps i (omega arith)

pub pieces_end : (written : Bool) (ps : List Piece) (i n : ℕ) (m : Mid) → length ps ≤ i → pieces_told written n m (drop i ps) ≡ pieces_told written 0 (start written) ps
    → Ok (with_end_token m.line m.taken) ≡ read_tokens written ps
pieces_end written ps i n m h same = ap finished (sym (ap (pieces_told written n m) (nothing_left ps i h)) ∙ same) ∙ pieces_read written ps

-- ---- there are not too many

numbered_few : (qs : List Part) (k last : ℕ) (ts : List TokenData) → numbered k last qs ≡ Ok ts → k ≤ max_tokens → length ts + k ≤ max_tokens + 1
numbered_few [] k last ts e h = let same : token end_token last k ∷ [] ≡ ts = cc in omega (arith, ap length same)
numbered_few (p ∷ qs) k last ts e h = step p.tok e (λ us l f. numbered_few qs (suc k) last us f l)
  where
    more : (r : Result (List TokenData) Stop) (t : TokenData) → with_token t r ≡ Ok ts → ((us : List TokenData) → r ≡ Ok us → length us + suc k ≤ max_tokens + 1) → length ts + k ≤ max_tokens + 1
    more (Ok us) t e ih = let same : t ∷ us ≡ ts = cc in omega (arith, ih us refl, ap length same)
    more (Err stop) t e ih = absurd (cc)

    test : (tok : TokData) (b : Bool) → (k == max_tokens) ≡ b → (if b then Err (Limit L2) else with_token (token tok p.line k) (numbered (suc k) last qs)) ≡ Ok ts
        → ((us : List TokenData) → suc k ≤ max_tokens → numbered (suc k) last qs ≡ Ok us → length us + suc k ≤ max_tokens + 1) → length ts + k ≤ max_tokens + 1
    test tok true b e ih = absurd (cc)
    test tok false b e ih =
        let other : k ≡ max_tokens → ⊥ = λ same. let t = eq-eqb k max_tokens same in cc in
        more (numbered (suc k) last qs) (token tok p.line k) e (λ us f. ih us (omega arith) f)

    step : (r : Result TokData FaultKind) → numbered_part k p.line r (numbered (suc k) last qs) ≡ Ok ts
        → ((us : List TokenData) → suc k ≤ max_tokens → numbered (suc k) last qs ≡ Ok us → length us + suc k ≤ max_tokens + 1) → length ts + k ≤ max_tokens + 1
    step (Err kind) e ih = absurd (cc)
    step (Ok tok) e ih = test tok (k == max_tokens) refl e ih

pub tokens_few : (written : Bool) (ps : List Piece) (line : ℕ) (s : Taken) → Ok (with_end_token line s) ≡ read_tokens written ps → length s.done ≤ max_tokens
tokens_few written ps line s e =
    let read = all_parts written 1 true 0 ps in
    let few = numbered_few (without_head written (join_strings read.parts)) 0 read.last (with_end_token line s) (sym e) (omega arith) in
    omega (arith, few, length-append s.done (token end_token line (length s.done) ∷ []))

-- ---- what pieces of a text are

nonempty : (u : Text) → is_empty u ≡ false → 0 < length u
nonempty [] e = absurd (cc)
nonempty (b ∷ u) e = omega arith

starts_some : (bytes rest behind : Text) → behind_start (bytes ++ rest) ≡ Some behind → length rest ≤ length behind → 0 < length bytes
starts_some bytes rest behind e h =
    let s = starts_behind (bytes ++ rest) behind e in
    omega (arith, nonempty s.before s.some, ap length s.whole, length-append s.before behind, length-append bytes rest)

piece_some : (kind : PieceKind) (bytes rest : Text) → IsPiece kind bytes rest → 0 < length bytes
piece_some kind bytes rest (piece.c_text b r units w e free none ends) = nonempty bytes e
piece_some kind bytes rest (piece.statement k b r units start free none typed same) =
    starts_some bytes rest (concat units ++ codes ";" ++ rest) start (omega (arith, length-append (concat units ++ codes ";") rest))
piece_some kind bytes rest (piece.declaration b r found) =
    starts_some bytes rest (concat found.gap ++ concat (found.first ∷ found.others) ++ rest) found.start
    (omega (arith, length-append (concat found.gap ++ concat (found.first ∷ found.others)) rest))

pub pieces_total : (line : ℕ) (text : Text) (ps : List Piece) (rest : Text) → PiecesUpTo line text ps rest → (total ps ≤ length text) × (length ps ≤ total ps)
pieces_total line text [] rest are = (omega arith, omega arith)
pieces_total line text (p ∷ ps) rest are =
    let ih = pieces_total (line + newlines p.bytes) are.0 ps rest are.4 in
    let some = piece_some p.kind p.bytes are.0 are.3 in
    (omega (arith, ih.0, ap length are.1, length-append p.bytes are.0), omega (arith, ih.1, some))

has_units : (kind : PieceKind) (bytes : Text) → Readable kind bytes → HasUnits kind bytes
has_units C bytes r = tt
has_units Emb bytes r = subst (StatementUnits bytes) (sym (statement_units_complete bytes r.0 r.1)) r.1
has_units InPlace bytes r = tt
has_units SectionStart bytes r = tt
has_units SectionEnd bytes r = tt

all_units : (written : Bool) (ps : List Piece) → AllReadable written ps → AllUnits written ps
all_units written [] r = tt
all_units written (p ∷ ps) r = ((λ e. has_units p.kind p.bytes (r.0 e)), all_units written ps r.1)

pub pieces_units : (written : Bool) (text : Text) (ps : List Piece) → Pieces text ps → AllUnits written ps
pieces_units written text ps are = all_units written ps (pieces_readable written 1 text ps [] are)

-- ---- the answer

abbrev Reads : Bool → List Piece → Result (List Token) Stop → Type 0
Reads written ps r = Told tokens_view r (read_tokens written ps)

pub answer_tokens : (written : Bool) (text : Text) (ps : List Piece) (r : Result (List Token) Stop) → Pieces text ps → Reads written ps r → IfOk r (λ ts. Tokens written ps (tokens_view ts))
answer_tokens written text ps (Ok ts) are told = subst (TokensOrStop written ps) (sym told) (tokens_sound written text ps are)
answer_tokens written text ps (Err stop) are told = tt

pub answer_ends : (written : Bool) (text : Text) (ps : List Piece) (r : Result (List Token) Stop) → Pieces text ps → Reads written ps r → IfOk r (λ ts. EndsOnce (tokens_view ts))
answer_ends written text ps (Ok ts) are told = ends_of written ps (tokens_view ts) (answer_tokens written text ps (Ok ts) are told)
answer_ends written text ps (Err stop) are told = tt

pub answer_only : (written : Bool) (ps : List Piece) (r : Result (List Token) Stop) → Reads written ps r → (wanted : List TokenData) → Tokens written ps wanted → UnlessNoMemory r (seen r ≡ Ok wanted)
answer_only written ps (Ok ts) told wanted is = told ∙ sym (tokens_complete written ps (Ok wanted) is)
answer_only written ps (Err (Refused kind line)) told wanted is = told ∙ sym (tokens_complete written ps (Ok wanted) is)
answer_only written ps (Err (Limit limit)) told wanted is = told ∙ sym (tokens_complete written ps (Ok wanted) is)
answer_only written ps (Err OutOfMemory) told wanted is = tt

pub answer_stop : (written : Bool) (text : Text) (ps : List Piece) (r : Result (List Token) Stop) → Pieces text ps → Reads written ps r → (stop : Stop) → r ≡ Err stop → (stop ≡ OutOfMemory → ⊥)
    → TokensOrStop written ps (Err stop)
answer_stop written text ps r are told stop e other = step stop other (subst (Reads written ps) e told)
  where
    step : (stop : Stop) → (stop ≡ OutOfMemory → ⊥) → Reads written ps (Err stop) → TokensOrStop written ps (Err stop)
    step (Refused kind line) o t = subst (TokensOrStop written ps) (sym t) (tokens_sound written text ps are)
    step (Limit limit) o t = subst (TokensOrStop written ps) (sym t) (tokens_sound written text ps are)
    step OutOfMemory o t = absurd (o refl)

pub answer_stops : (written : Bool) (ps : List Piece) (r : Result (List Token) Stop) → Reads written ps r → (stop : Stop) → TokensOrStop written ps (Err stop) → UnlessNoMemory r (r ≡ Err stop)
answer_stops written ps (Ok ts) told stop is = let no : ◌≡◌ {A = Result (List TokenData) Stop} (Ok (tokens_view ts)) (Err stop) = told ∙ sym (tokens_complete written ps (Err stop) is) in absurd (cc)
answer_stops written ps (Err (Refused kind line)) told stop is =
    let same : ◌≡◌ {A = Result (List TokenData) Stop} (Err (Refused kind line)) (Err stop) = told ∙ sym (tokens_complete written ps (Err stop) is) in
    let one : Refused kind line ≡ stop = cc in ap (λ (s : Stop). Err s) one
answer_stops written ps (Err (Limit limit)) told stop is =
    let same : ◌≡◌ {A = Result (List TokenData) Stop} (Err (Limit limit)) (Err stop) = told ∙ sym (tokens_complete written ps (Err stop) is) in
    let one : Limit limit ≡ stop = cc in ap (λ (s : Stop). Err s) one
answer_stops written ps (Err OutOfMemory) told stop is = tt
