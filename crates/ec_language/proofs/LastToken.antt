-- The tokens of pieces end with the end, and no other token is one.
use Rattle.std.proofs.Common.{◌≡◌, ◌≢◌, ℕ, zero, suc, Bool, true, false, List, [], ◌∷◌, ◌++◌, Option, Some, None, Result, Ok, Err, ℤ, ◌==◌, length, option_map, codes, if◌then◌else◌, refl, sym, ap, ◌∙◌, subst}
use Rattle.std.proofs.lemmas.Bool.{false≢true}
use Rattle.ec_base.specs.declared.fault.FaultKind.{FaultKind}
use Rattle.ec_base.specs.declared.fault.FaultKind.TheVariants.{F9}
use Rattle.ec_base.specs.declared.stop.Stop.{Stop}
use Rattle.ec_ctypes.specs.declared.text.piece.PieceKind.{PieceKind}
use Rattle.ec_ctypes.specs.declared.text.piece.PieceKind.TheVariants.{C, Emb, InPlace, SectionStart, SectionEnd}
use Rattle.ec_ctypes.specs.declared.text.piece.Piece.{Piece}
use Rattle.ec_ctypes.specs.declared.types.arith.Arith.{Arith}
use Rattle.ec_ctypes.specs.trees.Tokens.{TokData, word_token, string_token, end_token, TokenData}
use Rattle.ec_language.specs.Letters.{Text, is_blank, is_not_newline, begins_with}
use Rattle.ec_language.specs.Lexemes.{Class, word, number, character, string, punct, left_out, comment, is_line_directive, is_fresh_after}
use Rattle.ec_language.specs.Constants.{integer_constant, character_value, string_value}
use Rattle.ec_language.specs.Tokens.{Tokens, Part, token_of, is_left_out_word, integer_tok, character_tok, string_tok, join_two, join_first, join_strings, without_head, numbered, numbered_part, with_token, token, fault_at, part_at, line_behind, bad_byte, statements_behind}
use Rattle.ec_language.specs.ReadTokens as r
use Rattle.ec_language.specs.ReadPieces.{behind_all, front}
use Rattle.ec_language.specs.ReadTokens.{ReadItem, include_item, include_behind, directive_item, read_directive, read_hash, lexeme, lexeme_item, read_item, ReadParts, with_parts, c_parts_within, c_parts, embedded_parts, other_parts, is_c, piece_parts, all_parts, tokens_of, read_tokens, statement_units, declaration_text}
use Rattle.ec_language.specs.Syntax.{EndsOnce}
use Rattle.ec_language.proofs.PieceParts.{tokens_complete}

-- what stands in a place is not the end
abbrev pub is_no_end : Result TokData FaultKind → Bool
is_no_end (Ok end_token) = false
is_no_end _ = true

abbrev pub NoEnd : List Part → Type 0
NoEnd [] = Unit {0}
NoEnd (p ∷ parts) = (is_no_end p.tok ≡ true) × NoEnd parts

pub both : (a b : List Part) → NoEnd a → NoEnd b → NoEnd (a ++ b)
both [] b h k = k
both (p ∷ a) b h k = (h.0, both a b h.1 k)

pub one_fault : (line : Option ℕ) (kind : FaultKind) → NoEnd (fault_at line kind)
one_fault None kind = tt
one_fault (Some line) kind = (refl, tt)

-- ---- parts of C text

abbrev pub MaybeNoEnd : Option (Result TokData FaultKind) → Type 0
MaybeNoEnd None = Unit {0}
MaybeNoEnd (Some tok) = is_no_end tok ≡ true

pub part_no_end : (line : ℕ) (tok : Option (Result TokData FaultKind)) → MaybeNoEnd tok → NoEnd (part_at line tok)
part_no_end line None h = tt
part_no_end line (Some tok) h = (h, tt)

integer_no_end : (n : Option (ℕ × Arith)) → is_no_end (integer_tok n) ≡ true
integer_no_end None = refl
integer_no_end (Some n) = refl

character_no_end : (c : Option ℤ) → is_no_end (character_tok c) ≡ true
character_no_end None = refl
character_no_end (Some c) = refl

string_no_end : (s : Option Text) → is_no_end (string_tok s) ≡ true
string_no_end None = refl
string_no_end (Some s) = refl

word_no_end : (t : Bool) (text : Text) → is_no_end (if t then Err F9 else Ok (word_token text)) ≡ true
word_no_end true text = refl
word_no_end false text = refl

pub class_no_end : (class : Class) (text : Text) → MaybeNoEnd (token_of class text)
class_no_end word text = word_no_end (is_left_out_word text) text
class_no_end number text = integer_no_end (integer_constant text)
class_no_end character text = character_no_end (character_value text)
class_no_end string text = string_no_end (string_value text)
class_no_end (punct p) text = refl
class_no_end left_out text = refl
class_no_end comment text = tt

-- ---- items

abbrev ItemNoEnd : Option ReadItem → Type 0
ItemNoEnd None = Unit {0}
ItemNoEnd (Some item) = MaybeNoEnd item.tok

either : (t : Bool) (x y : Option ReadItem) → ItemNoEnd x → ItemNoEnd y → ItemNoEnd (elim t [ true ↦ x | false ↦ y ])
either true x y h k = h
either false x y h k = k

include_no_end : (text : Text) (rest : Option Text) → ItemNoEnd (option_map (include_item text) rest)
include_no_end text None = tt
include_no_end text (Some rest) = refl

directive_no_end : (line rest : Text) → ItemNoEnd (Some (directive_item line rest))
directive_no_end line [] = tt
directive_no_end line (b ∷ bs) = tt

lexeme_no_end : (found : Option (Class × Text × Text)) → ItemNoEnd (option_map lexeme_item found)
lexeme_no_end None = tt
lexeme_no_end (Some found) = class_no_end found.0 found.1

item_no_end : (written fresh : Bool) (text : Text) → ItemNoEnd (read_item written fresh text)
item_no_end written fresh [] = tt
item_no_end written fresh (b ∷ bs) =
    either (is_blank b) _ _ tt
    (either (b == 35) _ _
    (either fresh _ _
    (either (begins_with (codes "#include") (b ∷ bs)) _ _ (include_no_end (b ∷ bs) (include_behind (b ∷ bs)))
    (either written _ _
    (either (is_line_directive (front (b ∷ bs) (behind_all is_not_newline (b ∷ bs)))) _ _
    (directive_no_end (front (b ∷ bs) (behind_all is_not_newline (b ∷ bs))) (behind_all is_not_newline (b ∷ bs))) tt) tt)) tt)
    (lexeme_no_end (lexeme (b ∷ bs))))

-- ---- parts

abbrev NoEndIn : ReadParts → Type 0
NoEndIn read = NoEnd read.parts

c_no_end : (n : ℕ) (written : Bool) (line : ℕ) (fresh : Bool) (text : Text) → NoEnd (c_parts_within n written line fresh text).parts
c_no_end zero written line fresh text = tt
c_no_end (suc n) written line fresh [] = tt
c_no_end (suc n) written line fresh (b ∷ bs) = go (read_item written fresh (b ∷ bs)) (item_no_end written fresh (b ∷ bs)) (c_no_end n written)
  where
    go : (x : Option ReadItem) → ItemNoEnd x → ((line : ℕ) (fresh : Bool) (text : Text) → NoEnd (c_parts_within n written line fresh text).parts)
        → NoEndIn (elim x [
          | Some item ↦ with_parts (part_at line item.tok) (c_parts_within n written (line_behind line item.bytes item.step) (is_fresh_after fresh item.bytes) item.rest)
          | None ↦ r.one_part line (Err (bad_byte fresh (b ∷ bs))) line
        ])
    go None h more = (refl, tt)
    go (Some item) h more = both (part_at line item.tok) _ (part_no_end line item.tok h) (more (line_behind line item.bytes item.step) (is_fresh_after fresh item.bytes) item.rest)

embedded_no_end : (kind : PieceKind) (line statements : ℕ) (bytes : Text) → NoEnd (embedded_parts kind line statements bytes).parts
embedded_no_end C line statements bytes = tt
embedded_no_end Emb line statements bytes = (refl, one_fault _ _)
embedded_no_end InPlace line statements bytes = (refl, both _ _ (c_no_end (length (declaration_text bytes)) false _ false (declaration_text bytes)) (refl, tt))
embedded_no_end SectionStart line statements bytes = (refl, tt)
embedded_no_end SectionEnd line statements bytes = (refl, tt)

other_no_end : (written : Bool) (kind : PieceKind) (line statements : ℕ) (bytes : Text) → NoEnd (other_parts written kind line statements bytes).parts
other_no_end true kind line statements bytes = (refl, tt)
other_no_end false kind line statements bytes = embedded_no_end kind line statements bytes

piece_no_end : (t written : Bool) (line : ℕ) (fresh : Bool) (statements : ℕ) (p : Piece)
    → NoEndIn (elim t [ true ↦ c_parts written line fresh p.bytes | false ↦ other_parts written p.kind line statements p.bytes ])
piece_no_end true written line fresh statements p = c_no_end (length p.bytes) written line fresh p.bytes
piece_no_end false written line fresh statements p = other_no_end written p.kind line statements p.bytes

all_no_end : (written : Bool) (line : ℕ) (fresh : Bool) (statements : ℕ) (pieces : List Piece) → NoEnd (all_parts written line fresh statements pieces).parts
all_no_end written line fresh statements [] = tt
all_no_end written line fresh statements (p ∷ ps) = both (piece_parts written line fresh statements p).parts _ (piece_no_end (is_c p.kind) written line fresh statements p)
    (all_no_end written (piece_parts written line fresh statements p).last (is_fresh_after fresh p.bytes) (statements_behind statements p.kind) ps)

-- ---- tokens

two_no_end : (p : Part) (a : Result TokData FaultKind) (q : Part) (b : Result TokData FaultKind) (parts : List Part)
    → is_no_end p.tok ≡ true → is_no_end q.tok ≡ true → NoEnd parts → NoEnd (join_two p a q b parts)
two_no_end p (Ok (string_token a)) q (Ok (string_token b)) parts h k l = (refl, l)
two_no_end p a q b parts h k l = (h, (k, l))

first_no_end : (p : Part) (parts : List Part) → is_no_end p.tok ≡ true → NoEnd parts → NoEnd (join_first p parts)
first_no_end p [] h k = (h, tt)
first_no_end p (q ∷ parts) h k = two_no_end p p.tok q q.tok parts h k.0 k.1

joined_no_end : (parts : List Part) → NoEnd parts → NoEnd (join_strings parts)
joined_no_end [] h = tt
joined_no_end (p ∷ parts) h = first_no_end p (join_strings parts) h.0 (joined_no_end parts h.1)

chosen_no_end : (t : Bool) (a b : List Part) → NoEnd a → NoEnd b → NoEnd (if t then a else b)
chosen_no_end true a b h k = h
chosen_no_end false a b h k = k

headless_no_end : (written : Bool) (parts : List Part) → NoEnd parts → NoEnd (without_head written parts)
headless_no_end written [] h = tt
headless_no_end written (p ∷ []) h = h
headless_no_end written (p ∷ q ∷ parts) h = chosen_no_end _ parts (p ∷ q ∷ parts) h.1.1 h

-- the tokens, if there are some, end once
abbrev pub OkEndsOnce : Result (List TokenData) Stop → Type 0
OkEndsOnce (Ok ts) = EndsOnce ts
OkEndsOnce (Err stop) = Unit {0}

no_end_apart : (tok : TokData) → is_no_end (Ok tok) ≡ true → tok ≢ end_token
no_end_apart tok h e = false≢true (ap (λ t. is_no_end (Ok t)) (sym e) ∙ h)

before_end : (t : TokenData) (ts : List TokenData) → t.tok ≢ end_token → EndsOnce ts → EndsOnce (t ∷ ts)
before_end t [] h k = absurd k
before_end t (u ∷ ts) h k = (h, k)

with_ends_once : (t : TokenData) (r : Result (List TokenData) Stop) → t.tok ≢ end_token → OkEndsOnce r → OkEndsOnce (with_token t r)
with_ends_once t (Ok ts) h k = before_end t ts h k
with_ends_once t (Err stop) h k = tt

limited_ends_once : (t : Bool) (stop : Stop) (r : Result (List TokenData) Stop) → OkEndsOnce r → OkEndsOnce (if t then Err stop else r)
limited_ends_once true stop r h = tt
limited_ends_once false stop r h = h

part_ends_once : (place line : ℕ) (tok : Result TokData FaultKind) (r : Result (List TokenData) Stop) → is_no_end tok ≡ true → OkEndsOnce r → OkEndsOnce (numbered_part place line tok r)
part_ends_once place line (Err kind) r h k = tt
part_ends_once place line (Ok tok) r h k = limited_ends_once _ _ (with_token (token tok line place) r) (with_ends_once (token tok line place) r (no_end_apart tok h) k)

numbered_ends_once : (place last : ℕ) (parts : List Part) → NoEnd parts → OkEndsOnce (numbered place last parts)
numbered_ends_once place last [] h = refl
numbered_ends_once place last (p ∷ parts) h = part_ends_once place p.line p.tok (numbered (suc place) last parts) h.0 (numbered_ends_once (suc place) last parts h.1)

pub tokens_end_once : (written : Bool) (pieces : List Piece) → OkEndsOnce (read_tokens written pieces)
tokens_end_once written pieces = numbered_ends_once 0 _ _ (headless_no_end written _ (joined_no_end _ (all_no_end written 1 true 0 pieces)))

-- The tokens of pieces end once.
pub ends_of : (written : Bool) (pieces : List Piece) (ts : List TokenData) → Tokens written pieces ts → EndsOnce ts
ends_of written pieces ts are = subst OkEndsOnce (sym (tokens_complete written pieces (Ok ts) are)) (tokens_end_once written pieces)
