-- The pieces of a text, part after part.
use Rattle.std.proofs.Common.{◌≡◌, ℕ, zero, suc, ◌+◌, ◌-◌, ◌<◌, ◌≤◌, false, List, [], ◌∷◌, ◌++◌, length, take, drop, refl, sym, ap, ◌∙◌, subst, arith, length-drop, Result, Ok, Err, IfOk}
use Rattle.ec_base.specs.declared.fault.FaultKind.{FaultKind}
use Rattle.ec_base.specs.declared.fault.LimitKind.{LimitKind}
use Rattle.ec_base.specs.declared.stop.Stop.{Stop}
use Rattle.ec_base.specs.declared.stop.Stop.TheVariants.{Refused, Limit, OutOfMemory}
use Rattle.ec_ctypes.specs.declared.text.piece.PieceKind.{PieceKind}
use Rattle.ec_ctypes.specs.declared.text.piece.Piece.{Piece}
use Rattle.ec_language.specs.Letters.{Text, is_empty}
use Rattle.ec_language.specs.Line.{newlines}
use Rattle.ec_language.specs.Pieces.{Pieces}
use Rattle.ec_language.specs.PieceFaults.{PieceFault}
use Rattle.ec_language.specs.ReadPieces.{front, piece_of, first_piece, read_from, read_pieces}
use Rattle.ec_language.proofs.Walks.{shorter}
use Rattle.ec_language.proofs.ReadLaws.{Reading, with_all, with_all_ok, with_all_err, with_one, read_next, read_fault, first_shorter, pieces_read, pieces_back, faults_read, faults_back}
use Rattle.ec_split.specs.Answers.{UnlessNoMemory, AnswersReading}
use Rattle.ec_split.proofs.Steps.{past}
use Rattle.ec_split.proofs.Walks.{front_slice}

pub take_most : (n : ℕ) (s : Text) → length (take n s) ≤ n
take_most zero s = omega arith
take_most (suc n) [] = omega arith
take_most (suc n) (b ∷ s) = let h : length (take n s) ≤ n = take_most n s in omega arith

some_left : (t : Text) (i : ℕ) → i < length t → is_empty (drop i t) ≡ false
some_left [] zero h = absurd (omega arith)
some_left [] (suc i) h = absurd (omega arith)
some_left (b ∷ t) zero h = refl
some_left (b ∷ t) (suc i) h = some_left t i (omega arith)

-- a piece, with the text from an index on
pub record PartAt (t : Text) (i line e : ℕ) (kind : PieceKind) : Type 0 where
  pub inside : i < length t
  pub order : i ≤ e
  pub within : e ≤ length t
  pub is : Ok (piece_of kind (front (drop i t) (drop e t)) line, drop e t) ≡ first_piece line (drop i t)

pub part_ahead : (t : Text) (i line e : ℕ) (kind : PieceKind) → PartAt t i line e kind → i < e
part_ahead t i line e kind p =
    let piece = piece_of kind (front (drop i t) (drop e t)) line in
    let k = first_shorter line (drop i t) piece (drop e t) (some_left t i p.inside) (sym p.is) in
    let d = shorter (drop i t) piece.bytes (drop e t) k.whole k.some in
    omega (arith, d, p.within, length-drop i t, length-drop e t)

pub part_then : (t : Text) (i line e : ℕ) (kind : PieceKind) (ps qs : List Piece) (n : ℕ) (reading : Reading) → PartAt t i line e kind
    → qs ≡ ps ++ piece_of kind (take (e - i) (drop i t)) line ∷ [] → n ≡ newlines (take (e - i) (drop i t)) → with_all ps (read_from line (drop i t)) ≡ reading
    → with_all qs (read_from (line + n) (drop e t)) ≡ reading
part_then t i line e kind ps qs n reading p q m w =
    let bytes = front (drop i t) (drop e t) in
    let slice : bytes ≡ take (e - i) (drop i t) = front_slice t i e p.order p.within in
    let piece = piece_of kind bytes line in
    let qs_is : qs ≡ ps ++ piece ∷ [] = q ∙ ap (λ b. ps ++ piece_of kind b line ∷ []) (sym slice) in
    let n_is : n ≡ newlines bytes = m ∙ ap newlines (sym slice) in
    ap (λ x. with_all x (read_from (line + n) (drop e t))) qs_is ∙ ap (λ x. with_all (ps ++ piece ∷ []) (read_from (line + x) (drop e t))) n_is
    ∙ with_one ps piece (read_from (line + newlines bytes) (drop e t)) ∙ ap (with_all ps) (sym (read_next line (drop i t) piece (drop e t) (some_left t i p.inside) (sym p.is))) ∙ w

pub part_refused : (t : Text) (i line : ℕ) (kind : FaultKind) (at : ℕ) (ps : List Piece) (reading : Reading) → i < length t → Err (kind, at) ≡ first_piece line (drop i t)
    → with_all ps (read_from line (drop i t)) ≡ reading → reading ≡ Err (kind, at)
part_refused t i line kind at ps reading h e w = sym w ∙ ap (with_all ps) (read_fault line (drop i t) (kind, at) (some_left t i h) (sym e)) ∙ with_all_err ps (kind, at)

pub parts_end : (t : Text) (i line : ℕ) (ps : List Piece) (reading : Reading) → length t ≤ i → with_all ps (read_from line (drop i t)) ≡ reading → reading ≡ Ok ps
parts_end t i line ps reading h w = sym w ∙ ap (λ s. with_all ps (read_from line s)) (past t i h) ∙ with_all_ok ps

-- ---- what the answer says

abbrev Answer : Type 0
Answer = Result (List Piece) Stop

pub answer_pieces : (t : Text) (r : Answer) → AnswersReading (read_pieces t) r → IfOk r (λ ps. Pieces t ps)
answer_pieces t (Ok ps) a = pieces_back t ps a
answer_pieces t (Err stop) a = tt

pub all_pieces : (t : Text) (r : Answer) → AnswersReading (read_pieces t) r → (ps : List Piece) → Pieces t ps → UnlessNoMemory r (r ≡ Ok ps)
all_pieces t (Ok qs) a ps p = let e : ◌≡◌ {A = Reading} (Ok qs) (Ok ps) = sym a ∙ pieces_read t ps p in cc
all_pieces t (Err (Refused kind line)) a ps p = absurd (let e : ◌≡◌ {A = Reading} (Err (kind, line.0)) (Ok ps) = sym a ∙ pieces_read t ps p in cc (e))
all_pieces t (Err (Limit limit)) a ps p = absurd a
all_pieces t (Err OutOfMemory) a ps p = tt

pub answer_fault : (t : Text) (r : Answer) → AnswersReading (read_pieces t) r → (kind : FaultKind) (line : ℕ) → r ≡ Err (Refused kind (record { 0 = line })) → PieceFault t kind line
answer_fault t r a kind line e = faults_back t kind line (subst (AnswersReading (read_pieces t)) e a)

pub all_faults : (t : Text) (r : Answer) → AnswersReading (read_pieces t) r → (kind : FaultKind) (line : ℕ) → PieceFault t kind line → UnlessNoMemory r (r ≡ Err (Refused kind (record { 0 = line })))
all_faults t (Ok qs) a kind line f = absurd (let e : ◌≡◌ {A = Reading} (Ok qs) (Err (kind, line)) = sym a ∙ faults_read t kind line f in cc (e))
all_faults t (Err (Refused other at)) a kind line f =
    let e : ◌≡◌ {A = Reading} (Err (other, at.0)) (Err (kind, line)) = sym a ∙ faults_read t kind line f in
    let p : ◌≡◌ {A = FaultKind × ℕ} (other, at.0) (kind, line) = cc in
    ap (λ (x : FaultKind × ℕ). Err (Refused x.0 (record { 0 = x.1 }))) p
all_faults t (Err (Limit limit)) a kind line f = absurd a
all_faults t (Err OutOfMemory) a kind line f = tt

pub no_limit : (t : Text) (r : Answer) → AnswersReading (read_pieces t) r → (limit : LimitKind) → r ≡ Err (Limit limit) → ⊥
no_limit t r a limit e = subst (AnswersReading (read_pieces t)) e a
