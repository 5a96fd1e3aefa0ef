-- A text has one reading.
use Rattle.std.proofs.Common.{◌≡◌, ◌≤◌, ◌<◌, ℕ, Bool, List, length, Result, Ok, Err, refl, ap, sym, ◌∙◌, subst, arith}
use Rattle.ec_base.specs.declared.fault.FaultKind.{FaultKind}
use Rattle.ec_base.specs.declared.stop.Stop.{Stop}
use Rattle.ec_base.specs.declared.stop.Stop.TheVariants.{Refused}
use Rattle.ec_ctypes.specs.declared.text.piece.Piece.{Piece}
use Rattle.ec_ctypes.specs.trees.Tokens.{TokenData}
use Rattle.ec_ctypes.specs.trees.Units.{UnitData}
use Rattle.ec_language.specs.First.{Reads, too_long, unclosed, no_tokens, tokens, max_text}
use Rattle.ec_language.specs.Letters.{Text}
use Rattle.ec_language.specs.Pieces.{Pieces}
use Rattle.ec_language.specs.Syntax.{TreeOrStop}
use Rattle.ec_language.specs.Tokens.{Tokens, TokensOrStop}
use Rattle.ec_language.proofs.PieceParts.{one_answer}
use Rattle.ec_language.proofs.ReadLaws.{one_list, one_fault, pieces_or_fault}
use Rattle.ec_grammar.proofs.exact_lemmas.Answered.{only_answer}
use Rattle.ec_language.proofs.LastToken.{ends_of}

abbrev Answer : Type 0
Answer = Result UnitData Stop

not_both : (most long : ℕ) → most < long → long ≤ most → ⊥
not_both most long l m = omega (arith, l, m)

same_fault : (kind other : FaultKind) (line at : ℕ) → (kind ≡ other) × (line ≡ at) → ◌≡◌ {A = Answer} (Err (Refused kind (record { 0 = line }))) (Err (Refused other (record { 0 = at })))
same_fault kind other line at e = let k = e.0 in let l = e.1 in cc

same_stop : (written : Bool) (text : Text) (pieces others : List Piece) (a b : Stop) → Pieces text pieces → Pieces text others
    → TokensOrStop written pieces (Err a) → TokensOrStop written others (Err b) → ◌≡◌ {A = Answer} (Err a) (Err b)
same_stop written text pieces others a b are be x y =
    let p : others ≡ pieces = one_list text others pieces be are in
    let e : ◌≡◌ {A = Result (List TokenData) Stop} (Err a) (Err b) = one_answer written pieces (Err a) (Err b) x (subst (λ q. TokensOrStop written q (Err b)) p y) in
    let s : a ≡ b = cc in
    ap (λ q. Err q) s

no_both : (written : Bool) (text : Text) (pieces others : List Piece) (a : Stop) (ts : List TokenData) → Pieces text pieces → Pieces text others
    → TokensOrStop written pieces (Err a) → Tokens written others ts → ⊥
no_both written text pieces others a ts are be x y =
    let p : others ≡ pieces = one_list text others pieces be are in
    let e : ◌≡◌ {A = Result (List TokenData) Stop} (Err a) (Ok ts) = one_answer written pieces (Err a) (Ok ts) x (subst (λ q. Tokens written q ts) p y) in
    cc (e)

same_answer : (written : Bool) (text : Text) (pieces others : List Piece) (ts us : List TokenData) (a b : Answer) → Pieces text pieces → Pieces text others
    → Tokens written pieces ts → Tokens written others us → TreeOrStop ts a → TreeOrStop us b → a ≡ b
same_answer written text pieces others ts us a b are be x y h k =
    let p : others ≡ pieces = one_list text others pieces be are in
    let e : ◌≡◌ {A = Result (List TokenData) Stop} (Ok us) (Ok ts) = one_answer written pieces (Ok us) (Ok ts) (subst (λ q. Tokens written q us) p y) x in
    let t : us ≡ ts = cc in
    let once = ends_of written pieces ts x in
    only_answer ts a once h ∙ sym (only_answer ts b once (subst (λ q. TreeOrStop q b) t k))

pub one_reading : (written : Bool) (text : Text) (a b : Answer) → Reads written text a → Reads written text b → a ≡ b
one_reading written text _ _ (too_long l) (too_long m) = refl
one_reading written text _ _ (too_long l) (unclosed other at m f) = absurd (not_both max_text (length text) l m)
one_reading written text _ _ (too_long l) (no_tokens others t m q y) = absurd (not_both max_text (length text) l m)
one_reading written text _ _ (too_long l) (tokens others us b m q y k) = absurd (not_both max_text (length text) l m)
one_reading written text _ _ (unclosed kind line l f) (too_long m) = absurd (not_both max_text (length text) m l)
one_reading written text _ _ (unclosed kind line l f) (unclosed other at m g) = same_fault kind other line at (one_fault text kind line other at f g)
one_reading written text _ _ (unclosed kind line l f) (no_tokens others t m q y) = absurd (pieces_or_fault text others kind line q f)
one_reading written text _ _ (unclosed kind line l f) (tokens others us b m q y k) = absurd (pieces_or_fault text others kind line q f)
one_reading written text _ _ (no_tokens pieces s l p x) (too_long m) = absurd (not_both max_text (length text) m l)
one_reading written text _ _ (no_tokens pieces s l p x) (unclosed other at m g) = absurd (pieces_or_fault text pieces other at p g)
one_reading written text _ _ (no_tokens pieces s l p x) (no_tokens others t m q y) = same_stop written text pieces others s t p q x y
one_reading written text _ _ (no_tokens pieces s l p x) (tokens others us b m q y k) = absurd (no_both written text pieces others s us p q x y)
one_reading written text _ _ (tokens pieces ts a l p x h) (too_long m) = absurd (not_both max_text (length text) m l)
one_reading written text _ _ (tokens pieces ts a l p x h) (unclosed other at m g) = absurd (pieces_or_fault text pieces other at p g)
one_reading written text _ _ (tokens pieces ts a l p x h) (no_tokens others t m q y) = absurd (no_both written text others pieces t ts q p y x)
one_reading written text _ _ (tokens pieces ts a l p x h) (tokens others us b m q y k) = same_answer written text pieces others ts us a b p q x y h k
