-- The piece that is found at a start, against the definition of pieces.
use Rattle.std.proofs.Common.{◌≡◌, ◌⊎◌, inl, inr, true, false, List, [], ◌∷◌, ◌++◌, refl, sym, ap, ◌∙◌, subst, append_assoc, Option, Some, None, is_some}
use Rattle.std.specs.Prelude.{codes}
use Rattle.std.specs.List.{concat}
use Rattle.ec_ctypes.specs.declared.text.piece.PieceKind.{PieceKind}
use Rattle.ec_ctypes.specs.declared.text.piece.PieceKind.TheVariants.{InPlace}
use Rattle.ec_base.specs.declared.fault.FaultKind.TheVariants.{F2}
use Rattle.ec_language.specs.Letters.{Text, semicolon, is_empty}
use Rattle.ec_language.specs.CText.{CUnits}
use Rattle.ec_language.specs.Pieces as pieces
use Rattle.ec_language.specs.Pieces.{behind_start, starts_piece, NoneStarts, Declared, IsPiece, kind_of}
use Rattle.ec_language.specs.PieceFaults as faults
use Rattle.ec_language.specs.PieceFaults.{is_cut_quote, LooseUnits, NoEmbedded, Unclosed}
use Rattle.ec_language.specs.ReadPieces.{front, Found, found, cut_at, unended, embedded, found_at}
use Rattle.ec_language.proofs.CWalks.{front_of}
use Rattle.ec_language.proofs.Embedded.{statement_found, DeclaredBehind, declared_found, cut_found, declared_not_unended, FirstCut, concat_split, StatementBehind, CutBehind, EmbeddedIs, embedded_sound}
use Rattle.ec_language.proofs.Starts.{StartsBehind, starts_behind}

abbrev start_choice : Option Text → Found
start_choice x = elim x [ Some behind ↦ embedded behind | None ↦ unended ]

pub start_found : (t s : Text) → behind_start t ≡ Some s → found_at t ≡ embedded s
start_found t s e = ap start_choice e

pub starts : (t s : Text) → behind_start t ≡ Some s → starts_piece t ≡ true
starts t s e = ap (λ (x : Option Text). is_some x) e

-- ---- what the definition says is found

behind_declared : {Units : List Text → Text → Type 0} (u r : Text) (d : Declared Units u r) → DeclaredBehind Units (concat d.gap ++ (concat (d.first ∷ d.others) ++ r)) r
behind_declared u r d =
    record { gap = d.gap; first = d.first; others = d.others; whole = refl; parted = d.parted; gaps = d.gaps; word = d.word; typed = d.typed; units = d.units; ends = d.ends }

declared_start : {Units : List Text → Text → Type 0} (u r : Text) (d : Declared Units u r) → behind_start (u ++ r) ≡ Some (concat d.gap ++ (concat (d.first ∷ d.others) ++ r))
declared_start u r d = d.start ∙ ap (λ (t : Text). Some t) (append_assoc (concat d.gap) (concat (d.first ∷ d.others)) r)

pub piece_starts : (kind : PieceKind) (u r : Text) → IsPiece kind u r → (starts_piece (u ++ r) ≡ true → found_at (u ++ r) ≡ found kind r)
piece_starts _ _ _ (pieces.c_text u r [] e n a s x) h = absurd (let no : is_empty [] ≡ false = subst (λ t. is_empty t ≡ false) e n in cc (no))
piece_starts _ _ _ (pieces.c_text u r (v ∷ vs) e n a s x) h =
    absurd (let no : starts_piece (u ++ r) ≡ false = ap (λ t. starts_piece (t ++ r)) e ∙ s.0 in cc (no, h))
piece_starts _ _ _ (pieces.statement kind u r units e a n t k) h =
    start_found (u ++ r) (concat units ++ semicolon ∷ r) (e ∙ ap (λ (t : Text). Some t) (append_assoc (concat units) (semicolon ∷ []) r))
    ∙ statement_found units r a n t ∙ ap (λ x. found x r) (sym k)
piece_starts _ _ _ (pieces.declaration u r d) h =
    start_found (u ++ r) (concat d.gap ++ (concat (d.first ∷ d.others) ++ r)) (declared_start u r d)
    ∙ declared_found (concat d.gap ++ (concat (d.first ∷ d.others) ++ r)) r (behind_declared u r d)

pub declared_starts : {Units : List Text → Text → Type 0} (u r : Text) → Declared Units u r → starts_piece (u ++ r) ≡ true
declared_starts u r d = starts (u ++ r) (concat d.gap ++ (concat (d.first ∷ d.others) ++ r)) (declared_start u r d)

-- the tail of loose units
loose_tail : (units : List Text) (q : Text) (more : List Text) (r : Text) → LooseUnits (units ++ q ∷ more) r → LooseUnits more r
loose_tail [] q more r a = a.1
loose_tail (u ∷ us) q more r a = loose_tail us q more r a.1

pub quote_found : (t u r q : Text) (units more : List Text) (d : Declared LooseUnits u r) → t ≡ u ++ r → d.first ∷ d.others ≡ units ++ q ∷ more
    → CUnits units (q ++ concat more ++ r) → is_cut_quote q (concat more ++ r) ≡ true → found_at t ≡ cut_at (q ++ (concat more ++ r))
unfolding behind_declared
quote_found t u r q units more d w e a c =
    let f : FirstCut (d.first ∷ d.others) r = record {
      units = units;
      quote = q;
      more = more;
      whole = e;
      are = subst (CUnits units) (append_assoc q (concat more) r) a;
      is_cut = c;
      loose = loose_tail units q more r (subst (λ x. LooseUnits x r) e d.units);
    } in
    start_found t (concat d.gap ++ (concat (d.first ∷ d.others) ++ r)) (ap behind_start w ∙ declared_start u r d)
    ∙ cut_found (concat d.gap ++ (concat (d.first ∷ d.others) ++ r)) r (behind_declared u r d) f

-- ---- what is found is as the definition says

pub record PieceThere (kind : PieceKind) (text rest : Text) : Type 0 where
  pub whole : text ≡ front text rest ++ rest
  pub is : IsPiece kind (front text rest) rest
  pub some : is_empty (front text rest) ≡ false

pub record CutThere (text at : Text) : Type 0 where
  pub bytes : Text
  pub rest : Text
  pub whole : text ≡ bytes ++ rest
  pub declared : Declared LooseUnits bytes rest
  pub is : Unclosed text F2 (front text at)

abbrev pub FoundIs : Text → Found → Type 0
FoundIs text (found kind rest) = PieceThere kind text rest
FoundIs text (cut_at at) = CutThere text at
FoundIs text unended = NoEmbedded text

-- what stands before the rest
record Before (text rest : Text) : Type 0 where
  pub bytes : Text
  pub whole : text ≡ bytes ++ rest
  pub some : is_empty bytes ≡ false

some_append : (p x : Text) → is_empty p ≡ false → is_empty (p ++ x) ≡ false
some_append [] x e = absurd (cc)
some_append (b ∷ p) x e = refl

before : (t s x r : Text) → StartsBehind t s → s ≡ x ++ r → Before t r
before t s x r p w = record { bytes = p.before ++ x; whole = p.whole ∙ ap (λ y. p.before ++ y) w ∙ sym (append_assoc p.before x r); some = some_append p.before x p.some }

there : (kind : PieceKind) (t r : Text) (b : Before t r) → IsPiece kind b.bytes r → PieceThere kind t r
there kind t r b i =
    let same : b.bytes ≡ front t r = sym (front_of t b.bytes r b.whole) in
    record { whole = b.whole ∙ ap (λ x. x ++ r) same; is = subst (λ x. IsPiece kind x r) same i; some = subst (λ x. is_empty x ≡ false) same b.some }

to_declared : {Units : List Text → Text → Type 0} (t s u r : Text) → behind_start t ≡ Some s → t ≡ u ++ r → DeclaredBehind Units s r → Declared Units u r
to_declared t s u r e w d =
    record {
      gap = d.gap;
      first = d.first;
      others = d.others;
      start = ap behind_start (sym w) ∙ e ∙ ap (λ (x : Text). Some x) (d.whole ∙ sym (append_assoc (concat d.gap) (concat (d.first ∷ d.others)) r));
      parted = d.parted;
      gaps = d.gaps;
      word = d.word;
      typed = d.typed;
      units = d.units;
      ends = d.ends;
    }

found_there : (kind : PieceKind) (t s r : Text) → behind_start t ≡ Some s → ((kind ≡ InPlace) × DeclaredBehind CUnits s r) ⊎ StatementBehind kind s r → PieceThere kind t r
found_there kind t s r e (inl x) =
    let d = x.1 in
    let b = before t s (concat d.gap ++ concat (d.first ∷ d.others)) r (starts_behind t s e) (d.whole ∙ sym (append_assoc (concat d.gap) (concat (d.first ∷ d.others)) r)) in
    there kind t r b (subst (λ k. IsPiece k b.bytes r) (sym x.0) (pieces.declaration b.bytes r (to_declared t s b.bytes r e b.whole d)))
found_there kind t s r e (inr k) =
    let split : s ≡ concat k.units ++ codes ";" ++ r = k.whole ∙ sym (append_assoc (concat k.units) (semicolon ∷ []) r) in
    let b = before t s (concat k.units ++ codes ";") r (starts_behind t s e) split in
    there kind t r b (pieces.statement kind b.bytes r k.units (ap behind_start (sym b.whole) ∙ e ∙ ap (λ (x : Text). Some x) split) k.are k.none k.untyped k.same)

-- the text before a quote in a declaration, and the quote with what stands behind it
place_of : (t s x q : Text) → StartsBehind t s → s ≡ x ++ q → (p : Text) × (t ≡ p ++ q)
place_of t s x q b w = (b.before ++ x, b.whole ∙ ap (λ y. b.before ++ y) w ∙ sym (append_assoc b.before x q))

cut_there : (t s q : Text) → behind_start t ≡ Some s → CutBehind s q → CutThere t q
unfolding to_declared
cut_there t s q e k =
    let d = k.declared in
    let f = k.first_cut in
    let r = k.rest in
    let start = starts_behind t s e in
    let b = before t s (concat d.gap ++ concat (d.first ∷ d.others)) r start (d.whole ∙ sym (append_assoc (concat d.gap) (concat (d.first ∷ d.others)) r)) in
    let declared = to_declared t s b.bytes r e b.whole d in
    let tail : concat (d.first ∷ d.others) ++ r ≡ concat f.units ++ q = ap (λ x. concat x ++ r) f.whole ∙ concat_split f.units f.quote f.more r ∙ ap (λ x. concat f.units ++ x) (sym k.place) in
    let w : s ≡ (concat d.gap ++ concat f.units) ++ q = d.whole ∙ ap (λ x. concat d.gap ++ x) tail ∙ sym (append_assoc (concat d.gap) (concat f.units) q) in
    let p = place_of t s (concat d.gap ++ concat f.units) q start w in
    let apart : q ≡ (f.quote ++ concat f.more) ++ r = k.place ∙ sym (append_assoc f.quote (concat f.more) r) in
    let split : t ≡ p.0 ++ f.quote ++ concat f.more ++ r = p.1 ∙ ap (λ x. p.0 ++ x) k.place ∙ sym (append_assoc p.0 f.quote (concat f.more ++ r)) ∙ sym (append_assoc (p.0 ++ f.quote) (concat f.more) r) in
    let is : Unclosed t F2 p.0 = faults.quote_inside t b.bytes r p.0 f.quote f.units f.more declared b.whole f.whole (subst (CUnits f.units) (sym (append_assoc f.quote (concat f.more) r)) f.are) f.is_cut split in
    record { bytes = b.bytes; rest = r; whole = b.whole; declared = declared; is = subst (Unclosed t F2) (sym (front_of t p.0 q p.1)) is }

no_embedded : (t s : Text) → behind_start t ≡ Some s → found_at t ≡ unended → NoEmbedded t
no_embedded t s e f u r w = (λ kind i. no_piece kind i, λ d. no_declared d)
  where
    no_piece : (kind : PieceKind) → IsPiece kind u r → ⊥
    no_piece kind i = let clash : found kind r ≡ unended = sym (piece_starts kind u r i (ap starts_piece (sym w) ∙ starts t s e)) ∙ ap found_at (sym w) ∙ f in cc (clash)

    no_declared : Declared LooseUnits u r → ⊥
    no_declared d =
        declared_not_unended (concat d.gap ++ (concat (d.first ∷ d.others) ++ r)) r (behind_declared u r d)
        (sym (start_found (u ++ r) (concat d.gap ++ (concat (d.first ∷ d.others) ++ r)) (declared_start u r d)) ∙ ap found_at (sym w) ∙ f)

found_case : (t s : Text) (f : Found) → behind_start t ≡ Some s → found_at t ≡ f → EmbeddedIs s f → FoundIs t f
found_case t s (found kind r) e h k = found_there kind t s r e k
found_case t s (cut_at q) e h k = cut_there t s q e k
found_case t s unended e h k = no_embedded t s e h

start_is_some : (t : Text) (x : Option Text) → is_some x ≡ true → behind_start t ≡ x → (f : Found) → found_at t ≡ f → FoundIs t f
start_is_some t None h e f k = absurd (cc)
start_is_some t (Some s) h e f k = found_case t s f e k (embedded_sound s f (sym (start_found t s e) ∙ k))

pub found_sound : (t : Text) → starts_piece t ≡ true → (f : Found) → found_at t ≡ f → FoundIs t f
found_sound t h f e = start_is_some t (behind_start t) h refl f e

pub nothing_found : (t : Text) → starts_piece t ≡ true → NoEmbedded t → found_at t ≡ unended
nothing_found t h n = go (found_at t) (found_sound t h (found_at t) refl)
  where
    go : (f : Found) → FoundIs t f → f ≡ unended
    go (found kind r) k = absurd ((n (front t r) r k.whole).0 kind k.is)
    go (cut_at q) k = absurd ((n k.bytes k.rest k.whole).1 k.declared)
    go unended k = refl
