-- A text is read as its pieces, or as its first fault, and as nothing else.
use Rattle.std.proofs.Common.{◌≡◌, ℕ, zero, suc, ◌+◌, ◌<◌, ◌⊎◌, inl, inr, true, false, ◌||◌, List, [], ◌∷◌, ◌++◌, length, refl, sym, ap, ◌∙◌, subst, arith, append_assoc, append-nil, add-zero, Result, Ok, Err}
use Rattle.std.specs.Prelude.{codes}
use Rattle.std.specs.List.{concat}
use Rattle.ec_base.specs.declared.fault.FaultKind.{FaultKind}
use Rattle.ec_base.specs.declared.fault.FaultKind.TheVariants.{F1, F2, F3}
use Rattle.ec_ctypes.specs.declared.text.piece.PieceKind.{PieceKind}
use Rattle.ec_ctypes.specs.declared.text.piece.PieceKind.TheVariants.{C}
use Rattle.ec_ctypes.specs.declared.text.piece.Piece.{Piece}
use Rattle.ec_language.specs.Letters.{Text, is_empty, is_quote}
use Rattle.ec_language.specs.Line.{newlines}
use Rattle.ec_language.specs.CText.{CUnits}
use Rattle.ec_language.specs.Pieces as pieces
use Rattle.ec_language.specs.Pieces.{starts_piece, NoneStarts, IsPiece, PiecesUpTo, Pieces}
use Rattle.ec_language.specs.PieceFaults as faults
use Rattle.ec_language.specs.PieceFaults.{NoUnit, Unclosed, PieceFault, joined}
use Rattle.ec_language.specs.ReadPieces.{Read, piece_of, fault_kind, first_piece, with_first, read_up_to, read_from, read_pieces}
use Rattle.ec_language.proofs.CutUnits.{quote_no_comment}
use Rattle.ec_language.proofs.CUnits.{c_some}
use Rattle.ec_language.proofs.Walks.{shorter}
use Rattle.ec_language.proofs.FoundPieces.{declared_starts, starts}
use Rattle.ec_language.proofs.FirstPieces.{piece_first, c_first, c_fault, embedded_fault, comment_no_start, quote_no_start, opened_some, begins_some, kind_one, kind_two, FirstOk, FirstIs, first_is}

-- what a reading comes to
abbrev pub Reading : Type 0
Reading = Result (List Piece) (FaultKind × ℕ)

-- ---- lines

pub newlines-append : (a b : Text) → newlines (a ++ b) ≡ newlines a + newlines b
newlines-append [] b = omega arith
newlines-append (c ∷ a) b = let h : newlines (a ++ b) ≡ newlines a + newlines b = newlines-append a b in omega arith

lines_then : (line : ℕ) (a b : Text) → line + newlines a + newlines b ≡ line + newlines (a ++ b)
lines_then line a b = omega (arith, newlines-append a b)

-- ---- the number of steps

-- a text that is not empty
pub first_shorter : (line : ℕ) (t : Text) (p : Piece) (r : Text) → is_empty t ≡ false → first_piece line t ≡ Ok (p, r) → FirstOk line t p r
first_shorter line t p r n e = subst (FirstIs line t) e (first_is line t n)

abbrev next : (n line : ℕ) → Read → Reading
next n line x = elim x [ Ok read ↦ with_first read.0 (read_up_to n (line + newlines read.0.bytes) read.1) | Err fault ↦ Err fault ]

same_next : (n m line : ℕ) (t : Text) (x : Read) → is_empty t ≡ false → first_piece line t ≡ x
    → ((line : ℕ) (r : Text) → length r < length t → read_up_to n line r ≡ read_up_to m line r) → next n line x ≡ next m line x
same_next n m line t (Ok y) e h ih =
    let k = first_shorter line t y.0 y.1 e h in ap (with_first y.0) (ih (line + newlines y.0.bytes) y.1 (shorter t y.0.bytes y.1 k.whole k.some))
same_next n m line t (Err y) e h ih = refl

steps : (n m line : ℕ) (t : Text) → length t < n → length t < m → read_up_to n line t ≡ read_up_to m line t
steps zero m line t h k = absurd (omega arith)
steps (suc n) zero line t h k = absurd (omega arith)
steps (suc n) (suc m) line [] h k = refl
steps (suc n) (suc m) line (b ∷ bs) h k =
    same_next n m line (b ∷ bs) (first_piece line (b ∷ bs)) refl refl (λ l r d. steps n m l r (omega arith) (omega arith))

pub read_next : (line : ℕ) (t : Text) (p : Piece) (r : Text) → is_empty t ≡ false → first_piece line t ≡ Ok (p, r) → read_from line t ≡ with_first p (read_from (line + newlines p.bytes) r)
read_next line [] p r n e = absurd (cc)
read_next line (b ∷ bs) p r n e =
    let k = first_shorter line (b ∷ bs) p r n e in
    let d : length r < length (b ∷ bs) = shorter (b ∷ bs) p.bytes r k.whole k.some in
    ap (next (length (b ∷ bs)) line) e ∙ ap (with_first p) (steps (length (b ∷ bs)) (suc (length r)) (line + newlines p.bytes) r d (omega arith))

pub read_fault : (line : ℕ) (t : Text) (f : FaultKind × ℕ) → is_empty t ≡ false → first_piece line t ≡ Err f → read_from line t ≡ Err f
read_fault line [] f n e = absurd (cc)
read_fault line (b ∷ bs) f n e = ap (next (length (b ∷ bs)) line) e

-- ---- pieces are read

-- these pieces, and then what the rest is read as
abbrev pub with_all : List Piece → Reading → Reading
with_all [] x = x
with_all (p ∷ ps) x = with_first p (with_all ps x)

pub with_all_ok : (ps : List Piece) → with_all ps (Ok []) ≡ Ok ps
with_all_ok [] = refl
with_all_ok (p ∷ ps) = ap (with_first p) (with_all_ok ps)

pub with_all_err : (ps : List Piece) (f : FaultKind × ℕ) → with_all ps (Err f) ≡ Err f
with_all_err [] f = refl
with_all_err (p ∷ ps) f = ap (with_first p) (with_all_err ps f)

pub with_one : (ps : List Piece) (p : Piece) (x : Reading) → with_all (ps ++ p ∷ []) x ≡ with_all ps (with_first p x)
with_one [] p x = refl
with_one (q ∷ ps) p x = ap (with_first q) (with_one ps p x)

start_some : (t : Text) → starts_piece t ≡ true → is_empty t ≡ false
start_some [] e = absurd (cc)
start_some (b ∷ bs) e = refl

front_some : (u r : Text) → is_empty u ≡ false → is_empty (u ++ r) ≡ false
front_some [] r e = absurd (cc)
front_some (b ∷ u) r e = refl

some_front : (kind : PieceKind) (u r : Text) → IsPiece kind u r → is_empty (u ++ r) ≡ false
some_front _ _ _ (pieces.c_text u r units e n a s x) = front_some u r n
some_front _ _ _ (pieces.statement kind u r units e a n t k) = start_some (u ++ r) (starts (u ++ r) (concat units ++ codes ";" ++ r) e)
some_front _ _ _ (pieces.declaration u r d) = start_some (u ++ r) (declared_starts u r d)

pub read_up : (line : ℕ) (t : Text) (ps : List Piece) (r : Text) → PiecesUpTo line t ps r → read_from line t ≡ with_all ps (read_from (line + newlines (joined ps)) r)
read_up line t [] r e = ap (read_from line) e ∙ ap (λ n. read_from n r) (sym (add-zero line))
read_up line t (p ∷ ps) r k =
    let here : first_piece line (p.bytes ++ k.0) ≡ Ok (p, k.0) = piece_first line p.kind p.bytes k.0 k.3 ∙ ap (λ n. Ok (piece_of p.kind p.bytes n, k.0)) (sym k.2) in
    ap (read_from line) k.1 ∙ read_next line (p.bytes ++ k.0) p k.0 (some_front p.kind p.bytes k.0 k.3) here
    ∙ ap (with_first p) (read_up (line + newlines p.bytes) k.0 ps r k.4) ∙ ap (λ n. with_all (p ∷ ps) (read_from n r)) (lines_then line p.bytes (joined ps))

pub pieces_read : (t : Text) (ps : List Piece) → Pieces t ps → read_pieces t ≡ Ok ps
pieces_read t ps k = read_up 1 t ps [] k ∙ with_all_ok ps

-- ---- faults are read

-- C text, and a fault behind it
fault_behind : (line : ℕ) (units : List Text) (r : Text) (kind : FaultKind) (inside : Text) → CUnits units r → NoneStarts units r → starts_piece r ≡ true
    → Unclosed r kind inside → read_from line (concat units ++ r) ≡ Err (kind, line + newlines (concat units ++ inside))
fault_behind line [] r kind inside a n s u = read_fault line r (kind, line + newlines inside) (start_some r s) (embedded_fault line r kind inside u s)
fault_behind line (v ∷ vs) r kind inside a n s u =
    let c = v ++ concat vs in
    let some : is_empty c ≡ false = front_some v (concat vs) (c_some v (concat vs ++ r) a.0) in
    let stops : (is_empty r || starts_piece r) ≡ true = ap (λ x. x || starts_piece r) (start_some r s) ∙ s in
    read_next line (c ++ r) (piece_of C c line) r (front_some c r some) (c_first line c r (v ∷ vs) refl some a n stops)
    ∙ ap (with_first (piece_of C c line)) (read_fault (line + newlines c) r (kind, line + newlines c + newlines inside) (start_some r s) (embedded_fault (line + newlines c) r kind inside u s))
    ∙ ap (λ k. Err (kind, k)) (lines_then line c inside)

text_some : (u r : Text) → is_empty r ≡ false → is_empty (u ++ r) ≡ false
text_some [] r e = e
text_some (b ∷ u) r e = refl

fault_in_text : (line : ℕ) (units : List Text) (r : Text) (kind : FaultKind) → CUnits units r → NoneStarts units r → NoUnit r → starts_piece r ≡ false → is_empty r ≡ false
    → fault_kind r ≡ kind → read_from line (concat units ++ r) ≡ Err (kind, line + newlines (concat units ++ []))
fault_in_text line units r kind a n u s e k =
    read_fault line (concat units ++ r) (fault_kind r, line + newlines (concat units)) (text_some (concat units) r e) (c_fault line units r a n u s e)
    ∙ ap (λ x. Err (x, line + newlines (concat units))) k ∙ ap (λ t. Err (kind, line + newlines t)) (sym (append-nil (concat units)))

fault_read : (line : ℕ) (units : List Text) (r : Text) (kind : FaultKind) (inside : Text) → CUnits units r → NoneStarts units r → Unclosed r kind inside
    → read_from line (concat units ++ r) ≡ Err (kind, line + newlines (concat units ++ inside))
fault_read line units _ _ _ a n (faults.comment r e u) = fault_in_text line units r F1 a n u (comment_no_start r e) (opened_some r e) (kind_one r e)
fault_read line units _ _ _ a n (faults.quote r e u) = fault_in_text line units r F2 a n u (quote_no_start r e) (begins_some is_quote r e) (kind_two r (quote_no_comment r e))
fault_read line units _ _ _ a n (faults.embedded r s u) = fault_behind line units r F3 [] a n s (faults.embedded r s u)
fault_read line units _ _ _ a n (faults.quote_inside r u rest before q us more d w e c x y) =
    fault_behind line units r F2 before a n (ap starts_piece w ∙ declared_starts u rest d) (faults.quote_inside r u rest before q us more d w e c x y)

pub faults_read : (t : Text) (kind : FaultKind) (line : ℕ) → PieceFault t kind line → read_pieces t ≡ Err (kind, line)
faults_read t kind line f =
    let at = 1 + newlines (joined f.pieces) in
    let e : Reading = Err (kind, at + newlines (concat f.units ++ f.inside)) in
    read_up 1 t f.pieces (concat f.units ++ f.rest) f.before ∙ ap (with_all f.pieces) (fault_read at f.units f.rest kind f.inside f.free f.none f.unclosed)
    ∙ with_all_err f.pieces (kind, at + newlines (concat f.units ++ f.inside))
    ∙ ap (λ k. Err (kind, k)) (lines_then 1 (joined f.pieces) (concat f.units ++ f.inside) ∙ ap (λ x. 1 + newlines x) (sym (append_assoc (joined f.pieces) (concat f.units) f.inside)) ∙ sym f.place)

-- ---- what is read is there

pub record FaultFrom (line : ℕ) (text : Text) (kind : FaultKind) (at : ℕ) : Type 0 where
  pub pieces : List Piece
  pub units : List Text
  pub rest : Text
  pub inside : Text
  pub before : PiecesUpTo line text pieces (concat units ++ rest)
  pub free : CUnits units rest
  pub none : NoneStarts units rest
  pub unclosed : Unclosed rest kind inside
  pub place : at ≡ line + newlines (joined pieces ++ concat units ++ inside)

abbrev pub ReadingIs : ℕ → Text → Reading → Type 0
ReadingIs line text (Ok ps) = PiecesUpTo line text ps []
ReadingIs line text (Err f) = FaultFrom line text f.0 f.1

reading_more : (line : ℕ) (t : Text) (p : Piece) (r : Text) (x : Reading) → FirstOk line t p r → ReadingIs (line + newlines p.bytes) r x → ReadingIs line t (with_first p x)
reading_more line t p r (Ok ps) k l = (r, k.whole, k.at, k.is, l)
reading_more line t p r (Err f) k l =
    let place : f.1 ≡ line + newlines (((p.bytes ++ joined l.pieces) ++ concat l.units) ++ l.inside) =
    l.place ∙ lines_then line p.bytes ((joined l.pieces ++ concat l.units) ++ l.inside)
    ∙ ap (λ x. line + newlines x) (sym (append_assoc p.bytes (joined l.pieces ++ concat l.units) l.inside) ∙ ap (λ x. x ++ l.inside) (sym (append_assoc p.bytes (joined l.pieces) (concat l.units)))) in
    record { pieces = p ∷ l.pieces; units = l.units; rest = l.rest; inside = l.inside; before = (r, k.whole, k.at, k.is, l.before); free = l.free; none = l.none; unclosed = l.unclosed; place = place }

reading_step : (n line : ℕ) (t : Text) (x : Read) → FirstIs line t x → ((line : ℕ) (r : Text) → length r < length t → ReadingIs line r (read_up_to n line r)) → ReadingIs line t (next n line x)
reading_step n line t (Ok y) k ih =
    reading_more line t y.0 y.1 (read_up_to n (line + newlines y.0.bytes) y.1) k (ih (line + newlines y.0.bytes) y.1 (shorter t y.0.bytes y.1 k.whole k.some))
reading_step n line t (Err y) k ih =
    record { pieces = []; units = k.units; rest = k.rest; inside = k.inside; before = k.whole; free = k.free; none = k.none; unclosed = k.unclosed; place = k.place }

reading_up_to : (n line : ℕ) (t : Text) → length t < n → ReadingIs line t (read_up_to n line t)
reading_up_to zero line t h = absurd (omega arith)
reading_up_to (suc n) line [] h = refl
reading_up_to (suc n) line (b ∷ bs) h = reading_step n line (b ∷ bs) (first_piece line (b ∷ bs)) (first_is line (b ∷ bs) refl) (λ l r d. reading_up_to n l r (omega arith))

pub reading_is : (t : Text) → ReadingIs 1 t (read_pieces t)
reading_is t = reading_up_to (suc (length t)) 1 t (omega arith)

pub pieces_back : (t : Text) (ps : List Piece) → read_pieces t ≡ Ok ps → Pieces t ps
pieces_back t ps e = subst (ReadingIs 1 t) e (reading_is t)

pub faults_back : (t : Text) (kind : FaultKind) (line : ℕ) → read_pieces t ≡ Err (kind, line) → PieceFault t kind line
faults_back t kind line e =
    let f : FaultFrom 1 t kind line = subst (ReadingIs 1 t) e (reading_is t) in
    record { pieces = f.pieces; units = f.units; rest = f.rest; inside = f.inside; before = f.before; free = f.free; none = f.none; unclosed = f.unclosed; place = f.place }

-- ---- one reading

pub one_list : (t : Text) (ps qs : List Piece) → Pieces t ps → Pieces t qs → ps ≡ qs
one_list t ps qs a b = let e : ◌≡◌ {A = Reading} (Ok ps) (Ok qs) = sym (pieces_read t ps a) ∙ pieces_read t qs b in cc

pub one_fault : (t : Text) (kind : FaultKind) (line : ℕ) (other : FaultKind) (at : ℕ) → PieceFault t kind line → PieceFault t other at → (kind ≡ other) × (line ≡ at)
one_fault t kind line other at a b =
    let e : ◌≡◌ {A = Reading} (Err (kind, line)) (Err (other, at)) = sym (faults_read t kind line a) ∙ faults_read t other at b in
    let p : ◌≡◌ {A = FaultKind × ℕ} (kind, line) (other, at) = cc in
    (ap (λ x. x.0) p, ap (λ x. x.1) p)

pub pieces_or_fault : (t : Text) (ps : List Piece) (kind : FaultKind) (line : ℕ) → Pieces t ps → PieceFault t kind line → ⊥
pieces_or_fault t ps kind line a b = let e : ◌≡◌ {A = Reading} (Ok ps) (Err (kind, line)) = sym (pieces_read t ps a) ∙ faults_read t kind line b in cc (e)

pub read_either : (t : Text) → ((ps : List Piece) × Pieces t ps) ⊎ ((kind : FaultKind) × (line : ℕ) × PieceFault t kind line)
read_either t = go (read_pieces t) refl
  where
    go : (x : Reading) → read_pieces t ≡ x → ((ps : List Piece) × Pieces t ps) ⊎ ((kind : FaultKind) × (line : ℕ) × PieceFault t kind line)
    go (Ok ps) e = inl (ps, pieces_back t ps e)
    go (Err f) e = inr (f.0, f.1, faults_back t f.0 f.1 e)
