-- The first piece of a text, or the fault in its place.
use Rattle.std.proofs.Common.{◌≡◌, ℕ, ◌+◌, inl, inr, Bool, true, false, ◌||◌, List, [], ◌∷◌, ◌++◌, refl, sym, ap, ◌∙◌, subst, append_assoc, append-nil, add-zero, Ok, Err}
use Rattle.std.specs.Prelude.{codes}
use Rattle.std.specs.List.{concat}
use Rattle.ec_base.specs.declared.fault.FaultKind.{FaultKind}
use Rattle.ec_base.specs.declared.fault.FaultKind.TheVariants.{F1, F2, F3}
use Rattle.ec_ctypes.specs.declared.text.piece.PieceKind.{PieceKind}
use Rattle.ec_ctypes.specs.declared.text.piece.PieceKind.TheVariants.{C, InPlace}
use Rattle.ec_ctypes.specs.declared.text.piece.Piece.{Piece}
use Rattle.ec_language.specs.Letters.{Text, is_empty, is_quote, begins, begins_with}
use Rattle.ec_language.specs.Line.{newlines}
use Rattle.ec_language.specs.CText.{CUnits}
use Rattle.ec_language.specs.Pieces as pieces
use Rattle.ec_language.specs.Pieces.{behind_start, starts_piece, NoneStarts, IsPiece}
use Rattle.ec_language.specs.PieceFaults as faults
use Rattle.ec_language.specs.PieceFaults.{NoUnit, NoEmbedded, Unclosed}
use Rattle.ec_language.specs.ReadPieces.{Read, front, Found, found, cut_at, unended, found_at, c_stop, piece_of, fault_kind, c_piece, embedded_piece, first_piece}
use Rattle.ec_language.proofs.Classes.{neither, quotes, opened}
use Rattle.ec_language.proofs.CutUnits.{no_unit, no_end, stuck_quote}
use Rattle.ec_language.proofs.CWalks.{NoEnd, front_is, front_of, CStops, c_stops, c_stop_behind, c_stop_start, c_stop_stuck}
use Rattle.ec_language.proofs.FoundPieces.{piece_starts, declared_starts, starts, quote_found, nothing_found, found_sound, FoundIs}

-- ---- C text

abbrev c_choice : ℕ → Text → Text → Bool → Read
c_choice line t stop x = elim x [ true ↦ Ok (piece_of C (front t stop) line, stop) | false ↦ Err (fault_kind stop, line + newlines (front t stop)) ]

abbrev first_choice : ℕ → Text → Bool → Read
first_choice line t x = elim x [ true ↦ embedded_piece line t (found_at t) | false ↦ c_piece line t (c_stop t) ]

nothing_stuck : NoEnd []
nothing_stuck r e = cc

stop_here : (r : Text) → (is_empty r || starts_piece r) ≡ true → c_stop r ≡ r
stop_here [] e = c_stop_stuck [] nothing_stuck
stop_here (b ∷ r) e = c_stop_start (b ∷ r) e

-- C text in front of a place where it stops
c_read : (line : ℕ) (units : List Text) (r : Text) → CUnits units r → NoneStarts units r → starts_piece (concat units ++ r) ≡ false → c_stop r ≡ r
    → first_piece line (concat units ++ r) ≡ c_choice line (concat units ++ r) r (is_empty r || starts_piece r)
c_read line units r a n s e =
    let t = concat units ++ r in ap (first_choice line t) s ∙ ap (c_piece line t) (c_stop_behind units r a n ∙ e)

pub c_first : (line : ℕ) (u r : Text) (units : List Text) → u ≡ concat units → is_empty u ≡ false → CUnits units r → NoneStarts units r → (is_empty r || starts_piece r) ≡ true
    → first_piece line (u ++ r) ≡ Ok (piece_of C u line, r)
c_first line u r [] e s a n x = absurd (let no : is_empty [] ≡ false = subst (λ t. is_empty t ≡ false) e s in cc (no))
c_first line u r (v ∷ vs) e s a n x =
    let c = v ++ concat vs in
    ap (λ t. first_piece line (t ++ r)) e ∙ c_read line (v ∷ vs) r a n n.0 (stop_here r x) ∙ ap (c_choice line (c ++ r) r) x
    ∙ ap (λ (t : Text). Ok (piece_of C t line, r)) (front_is c r ∙ sym e)

embedded_first : (line : ℕ) (kind : PieceKind) (u r : Text) → starts_piece (u ++ r) ≡ true → found_at (u ++ r) ≡ found kind r → first_piece line (u ++ r) ≡ Ok (piece_of kind u line, r)
embedded_first line kind u r s f =
    ap (first_choice line (u ++ r)) s ∙ ap (embedded_piece line (u ++ r)) f ∙ ap (λ (t : Text). Ok (piece_of kind t line, r)) (front_is u r)

-- a piece is read
pub piece_first : (line : ℕ) (kind : PieceKind) (u r : Text) → IsPiece kind u r → first_piece line (u ++ r) ≡ Ok (piece_of kind u line, r)
piece_first line _ _ _ (pieces.c_text u r units e n a s x) = c_first line u r units e n a s x
piece_first line _ _ _ (pieces.statement kind u r units e a n t k) =
    let s = starts (u ++ r) (concat units ++ codes ";" ++ r) e in embedded_first line kind u r s (piece_starts kind u r (pieces.statement kind u r units e a n t k) s)
piece_first line _ _ _ (pieces.declaration u r d) = let s = declared_starts u r d in embedded_first line InPlace u r s (piece_starts InPlace u r (pieces.declaration u r d) s)

-- ---- faults are read

pub comment_no_start : (t : Text) → begins_with (codes "/*") t ≡ true → starts_piece t ≡ false
comment_no_start t e = subst (λ x. starts_piece x ≡ false) (sym (opened 47 42 t e)) refl

pub quote_no_start : (t : Text) → begins is_quote t ≡ true → starts_piece t ≡ false
quote_no_start [] e = absurd (cc)
quote_no_start (b ∷ bs) e = elim (quotes b e) [ inl h ↦ rw h refl | inr h ↦ rw h refl ]

pub begins_some : (test : ℕ → Bool) (t : Text) → begins test t ≡ true → is_empty t ≡ false
begins_some test [] e = absurd (cc)
begins_some test (b ∷ bs) e = refl

pub opened_some : (t : Text) → begins_with (codes "/*") t ≡ true → is_empty t ≡ false
opened_some [] e = absurd (cc)
opened_some (b ∷ bs) e = refl

both_false : (x y : Bool) → x ≡ false → y ≡ false → (x || y) ≡ false
both_false x y p q = rw (p, q) refl

all_start : (units : List Text) (r : Text) → NoneStarts units r → starts_piece r ≡ false → starts_piece (concat units ++ r) ≡ false
all_start [] r n e = e
all_start (u ∷ us) r n e = n.0

-- C text and then a comment or a quote without end
pub c_fault : (line : ℕ) (units : List Text) (r : Text) → CUnits units r → NoneStarts units r → NoUnit r → starts_piece r ≡ false → is_empty r ≡ false
    → first_piece line (concat units ++ r) ≡ Err (fault_kind r, line + newlines (concat units))
c_fault line units r a n u s e =
    c_read line units r a n (all_start units r n s) (c_stop_stuck r (no_end r u)) ∙ ap (c_choice line (concat units ++ r) r) (both_false _ _ e s)
    ∙ ap (λ t. Err (fault_kind r, line + newlines t)) (front_is (concat units) r)

-- a fault at which an embedded piece starts
pub embedded_fault : (line : ℕ) (r : Text) (kind : FaultKind) (inside : Text) → Unclosed r kind inside → starts_piece r ≡ true → first_piece line r ≡ Err (kind, line + newlines inside)
embedded_fault line _ _ _ (faults.comment t e n) s = absurd (let no = comment_no_start t e in cc (no, s))
embedded_fault line _ _ _ (faults.quote t e n) s = absurd (let no = quote_no_start t e in cc (no, s))
embedded_fault line _ _ _ (faults.embedded t e n) s =
    ap (first_choice line t) s ∙ ap (embedded_piece line t) (nothing_found t s n) ∙ ap (λ k. Err (F3, k)) (sym (add-zero line))
embedded_fault line _ _ _ (faults.quote_inside t u r before q units more d w e a c x) s =
    let place : t ≡ before ++ (q ++ (concat more ++ r)) = x ∙ append_assoc (before ++ q) (concat more) r ∙ append_assoc before q (concat more ++ r) in
    ap (first_choice line t) s ∙ ap (embedded_piece line t) (quote_found t u r q units more d w e a c) ∙ ap (λ k. Err (F2, line + newlines k)) (front_of t before (q ++ (concat more ++ r)) place)

pub kind_one : (r : Text) → begins_with (codes "/*") r ≡ true → fault_kind r ≡ F1
kind_one r e = rw e refl

pub kind_two : (r : Text) → begins_with (codes "/*") r ≡ false → fault_kind r ≡ F2
kind_two r e = rw e refl

-- ---- what is read is there

pub record FirstOk (line : ℕ) (text : Text) (piece : Piece) (rest : Text) : Type 0 where
  pub whole : text ≡ piece.bytes ++ rest
  pub at : piece.line.0 ≡ line
  pub is : IsPiece piece.kind piece.bytes rest
  pub some : is_empty piece.bytes ≡ false

pub record FaultHere (line : ℕ) (text : Text) (kind : FaultKind) (at : ℕ) : Type 0 where
  pub units : List Text
  pub rest : Text
  pub inside : Text
  pub whole : text ≡ concat units ++ rest
  pub free : CUnits units rest
  pub none : NoneStarts units rest
  pub unclosed : Unclosed rest kind inside
  pub place : at ≡ line + newlines (concat units ++ inside)

abbrev pub FirstIs : ℕ → Text → Read → Type 0
FirstIs line text (Ok x) = FirstOk line text x.0 x.1
FirstIs line text (Err x) = FaultHere line text x.0 x.1

stuck_is : (stop : Text) → NoEnd stop → is_empty stop ≡ false → Unclosed stop (fault_kind stop) []
stuck_is [] n e = absurd (cc)
stuck_is (b ∷ bs) n e = go (begins_with (codes "/*") (b ∷ bs)) refl
  where
    go : (x : Bool) → begins_with (codes "/*") (b ∷ bs) ≡ x → Unclosed (b ∷ bs) (fault_kind (b ∷ bs)) []
    go true h = subst (λ k. Unclosed (b ∷ bs) k []) (sym (kind_one (b ∷ bs) h)) (faults.comment (b ∷ bs) h (no_unit (b ∷ bs) n))
    go false h = subst (λ k. Unclosed (b ∷ bs) k []) (sym (kind_two (b ∷ bs) h)) (faults.quote (b ∷ bs) (stuck_quote b bs n h) (no_unit (b ∷ bs) n))

must_be_some : (t stop : Text) (units : List Text) → t ≡ concat units ++ stop → starts_piece t ≡ false → is_empty t ≡ false → (is_empty stop || starts_piece stop) ≡ true → is_empty (concat units) ≡ false
must_be_some t stop units w s e x = go (concat units) w
  where
    go : (u : Text) → t ≡ u ++ stop → is_empty u ≡ false
    go [] p =
        let no : (is_empty t || starts_piece t) ≡ true = ap (λ z. is_empty z || starts_piece z) p ∙ x in
        absurd (let not : (is_empty t || starts_piece t) ≡ false = both_false _ _ e s in cc (no, not))
    go (b ∷ u) p = refl

c_is : (line : ℕ) (t stop : Text) (x : Bool) → (is_empty stop || starts_piece stop) ≡ x → starts_piece t ≡ false → is_empty t ≡ false → CStops t stop → FirstIs line t (c_choice line t stop x)
c_is line t stop true ex s e k =
    let f : front t stop ≡ concat k.units = front_of t (concat k.units) stop k.whole in
    let some : is_empty (front t stop) ≡ false = ap is_empty f ∙ must_be_some t stop k.units k.whole s e ex in
    record { whole = k.whole ∙ ap (λ z. z ++ stop) (sym f); at = refl; is = pieces.c_text (front t stop) stop k.units f some k.are k.none ex; some = some }
c_is line t stop false ex s e k =
    let h = neither (is_empty stop) (starts_piece stop) ex in
    let stuck : NoEnd stop = elim k.stops [ inl y ↦ absurd (let z = h.1 in cc (y, z)) | inr y ↦ y ] in
    let f : front t stop ≡ concat k.units ++ [] = front_of t (concat k.units) stop k.whole ∙ sym (append-nil (concat k.units)) in
    record { units = k.units; rest = stop; inside = []; whole = k.whole; free = k.are; none = k.none; unclosed = stuck_is stop stuck h.0; place = ap (λ z. line + newlines z) f }

embedded_is : (line : ℕ) (t : Text) (f : Found) → starts_piece t ≡ true → FoundIs t f → FirstIs line t (embedded_piece line t f)
embedded_is line t (found kind r) s k = record { whole = k.whole; at = refl; is = k.is; some = k.some }
embedded_is line t (cut_at q) s k = record { units = []; rest = t; inside = front t q; whole = refl; free = tt; none = tt; unclosed = k.is; place = refl }
embedded_is line t unended s k =
    record { units = []; rest = t; inside = []; whole = refl; free = tt; none = tt; unclosed = faults.embedded t s k; place = sym (add-zero line) }

pub first_is : (line : ℕ) (t : Text) → is_empty t ≡ false → FirstIs line t (first_piece line t)
first_is line t e = go (starts_piece t) refl
  where
    go : (x : Bool) → starts_piece t ≡ x → FirstIs line t (first_choice line t x)
    go true s = embedded_is line t (found_at t) s (found_sound t s (found_at t) refl)
    go false s = c_is line t (c_stop t) (is_empty (c_stop t) || starts_piece (c_stop t)) refl s e (c_stops t)
