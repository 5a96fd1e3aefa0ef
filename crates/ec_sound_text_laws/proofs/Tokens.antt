-- No token of written C is embedded, and its constants are of arithmetic types.
use Rattle.std.proofs.Common.{◌≡◌, ℕ, suc, Bool, true, false, ◌&&◌, List, [], ◌∷◌, ◌++◌, refl, sym, subst, Option, Some, None, Ok, Err, if◌then◌else◌}
use Rattle.std.specs.Prelude.{Result, codes, ℤ}
use Rattle.std.proofs.lemmas.Bool.{false≢true}
use Rattle.ec_base.specs.declared.fault.FaultKind.{FaultKind}
use Rattle.ec_base.specs.declared.fault.FaultKind.TheVariants.{F9}
use Rattle.ec_base.specs.declared.fault.LimitKind.TheVariants.{L2}
use Rattle.ec_base.specs.declared.stop.Stop.TheVariants.{Limit}
use Rattle.ec_base.specs.declared.stop.Stop.{Stop}
use Rattle.ec_ctypes.specs.declared.text.piece.Piece.{Piece}
use Rattle.ec_ctypes.specs.declared.types.arith.Arith.{Arith}
use Rattle.ec_ctypes.specs.trees.Tokens.{TokData, word_token, string_token, TokenData}
use Rattle.ec_language.specs.Constants.{integer_constant, character_value, string_value}
use Rattle.ec_language.specs.Letters.{Text}
use Rattle.ec_language.specs.Lexemes.{Class, word, number, character, string, punct, left_out, comment, is_fresh_after}
use Rattle.ec_language.specs.Tokens.{Part, Step, is_left_out_word, integer_tok, character_tok, string_tok, token_of, Item, blank, match, include, directive, last_directive, part_at, CParts, end, item, bad, PieceParts, c_text, statement, opening, closing, declaration, embedded, statements_behind, AllParts, join_two, join_first, join_strings, is_include_of, without_head, is_full, token, with_token, part_within, numbered_within, Tokens, max_tokens}
use Rattle.ec_sound_text_laws.specs.Read.{is_read_tok, are_read_tokens}

abbrev GoodTok : Result TokData FaultKind → Type 0
GoodTok (Ok k) = is_read_tok k ≡ true
GoodTok (Err kind) = Unit {0}

abbrev GoodOption : Option (Result TokData FaultKind) → Type 0
GoodOption None = Unit {0}
GoodOption (Some r) = GoodTok r

abbrev GoodParts : List Part → Type 0
GoodParts [] = Unit {0}
GoodParts (p ∷ ps) = GoodTok p.tok × GoodParts ps

joined : (ps qs : List Part) → GoodParts ps → GoodParts qs → GoodParts (ps ++ qs)
joined [] qs h g = g
joined (p ∷ ps) qs h g = (h.0, joined ps qs h.1 g)

-- ---- C text

word_good : (text : Text) (b : Bool) → GoodTok (if b then Err F9 else Ok (word_token text))
word_good text true = tt
word_good text false = refl

integer_good : (o : Option (ℕ × Arith)) → GoodTok (integer_tok o)
integer_good None = tt
integer_good (Some p) = refl

character_good : (o : Option ℤ) → GoodTok (character_tok o)
character_good None = tt
character_good (Some c) = refl

string_good : (o : Option Text) → GoodTok (string_tok o)
string_good None = tt
string_good (Some s) = refl

class_good : (c : Class) (text : Text) → GoodOption (token_of c text)
class_good word text = word_good text (is_left_out_word text)
class_good number text = integer_good (integer_constant text)
class_good character text = character_good (character_value text)
class_good string text = string_good (string_value text)
class_good (punct p) text = refl
class_good left_out text = tt
class_good comment text = tt

item_good : {written fresh : Bool} {text rest : Text} {tok : Option (Result TokData FaultKind)} {step : Step} → Item written fresh text rest tok step → GoodOption tok
item_good (blank fresh text rest one is) = tt
item_good (match fresh text rest class tok longest is) = subst (λ o. GoodOption o) (sym is) (class_good class text)
item_good (include fresh text rest new line) = refl
item_good (directive fresh text line rest new written is line_is) = tt
item_good (last_directive fresh text rest new written none line_is) = tt

part_good : (line : ℕ) (o : Option (Result TokData FaultKind)) → GoodOption o → GoodParts (part_at line o)
part_good line None h = tt
part_good line (Some r) h = (h, tt)

text_good : {written : Bool} {line : ℕ} {fresh : Bool} {text : Text} {parts : List Part} {last : ℕ} → CParts written line fresh text parts last → GoodParts parts
text_good (end line fresh) = tt
text_good (item line fresh text u rest tok step parts others last cut it more is) = subst (λ ps. GoodParts ps) (sym is) (joined (part_at line tok) others (part_good line tok (item_good it)) (text_good more))
text_good (bad line fresh text parts some none is) = subst (λ ps. GoodParts ps) (sym is) (tt, tt)

-- ---- pieces

true_not : {C : Type 0} → true ≡ false → C
true_not e = absurd (false≢true (sym e))

piece_good : (line : ℕ) (fresh : Bool) (statements : ℕ) (p : Piece) (parts : List Part) (last : ℕ) → PieceParts true line fresh statements p parts last → GoodParts parts
piece_good line fresh n p parts last (c_text ps l kind text) = text_good text
piece_good line fresh n p parts last (statement units ps l kind written cut is at) = true_not written
piece_good line fresh n p parts last (opening ps l kind written is at) = true_not written
piece_good line fresh n p parts last (closing ps l kind written is at) = true_not written
piece_good line fresh n p parts last (declaration found ps inner l kind written text is) = true_not written
piece_good line fresh n p parts last (embedded ps l kind written is at) = subst (λ x. GoodParts x) (sym is) (tt, tt)

pieces_good : (line : ℕ) (fresh : Bool) (statements : ℕ) (ps : List Piece) (parts : List Part) (last : ℕ) → AllParts true line fresh statements ps parts last → GoodParts parts
pieces_good line fresh n [] parts last h = subst (λ x. GoodParts x) (sym h.0) tt
pieces_good line fresh n (p ∷ ps) parts last h =
    subst (λ x. GoodParts x) (sym h.3) (joined h.0 h.1 (piece_good line fresh n p h.0 h.2 h.4) (pieces_good h.2 (is_fresh_after fresh p.bytes) (statements_behind n p.kind) ps h.1 last h.5))

-- ---- tokens

two_joined : (p : Part) (a : Result TokData FaultKind) (q : Part) (b : Result TokData FaultKind) (ps : List Part) → GoodTok p.tok → GoodTok q.tok → GoodParts ps → GoodParts (join_two p a q b ps)
two_joined p (Ok (string_token s)) q (Ok (string_token t)) ps h g k = (refl, k)
two_joined p (Ok (string_token s)) q (Err kind) ps h g k = (h, (g, k))
two_joined p (Ok (string_token s)) q (Ok b) ps h g k = (h, (g, k))
two_joined p (Ok a) q b ps h g k = (h, (g, k))
two_joined p (Err kind) q b ps h g k = (h, (g, k))

first_joined : (p : Part) (ps : List Part) → GoodTok p.tok → GoodParts ps → GoodParts (join_first p ps)
first_joined p [] h g = (h, tt)
first_joined p (q ∷ ps) h g = two_joined p p.tok q q.tok ps h g.0 g.1

strings_joined : (ps : List Part) → GoodParts ps → GoodParts (join_strings ps)
strings_joined [] h = tt
strings_joined (p ∷ ps) h = first_joined p (join_strings ps) h.0 (strings_joined ps h.1)

head_gone : (written : Bool) (ps : List Part) → GoodParts ps → GoodParts (without_head written ps)
head_gone written [] h = tt
head_gone written (p ∷ []) h = h
head_gone written (p ∷ q ∷ ps) h = go (written && is_include_of (codes "#include <ecpglib.h>") p.tok && is_include_of (codes "#include <sqlca.h>") q.tok)
  where
    go : (b : Bool) → GoodParts (if b then ps else p ∷ q ∷ ps)
    go true = h.1.1
    go false = h

-- whatever stops them
abbrev AreRead : Result (List TokenData) Stop → Type 0
AreRead (Ok ts) = are_read_tokens ts ≡ true
AreRead (Err stop) = Unit {0}

with_read : (t : TokenData) (r : Result (List TokenData) Stop) → is_read_tok t.tok ≡ true → AreRead r → AreRead (with_token t r)
with_read t (Ok ts) h g = λ i. h i && g i
with_read t (Err stop) h g = tt

part_read : (most : Option ℕ) (place line : ℕ) (r : Result TokData FaultKind) (others : Result (List TokenData) Stop) → GoodTok r → AreRead others → AreRead (part_within most place line r others)
part_read most place line (Err kind) others h g = tt
part_read most place line (Ok k) others h g = go (is_full most place)
  where
    go : (b : Bool) → AreRead (if b then Err (Limit L2) else with_token (token k line place) others)
    go true = tt
    go false = with_read (token k line place) others h g

numbered_read : (most : Option ℕ) (place last : ℕ) (ps : List Part) → GoodParts ps → AreRead (numbered_within most place last ps)
numbered_read most place last [] h = refl
numbered_read most place last (p ∷ ps) h = part_read most place p.line p.tok (numbered_within most (suc place) last ps) h.0 (numbered_read most (suc place) last ps h.1)

pub tokens_read : (pieces : List Piece) (ts : List TokenData) → Tokens true pieces ts → are_read_tokens ts ≡ true
tokens_read pieces ts h =
    let parts = h.0 in
    subst (λ r. AreRead r) (sym h.3) (numbered_read (Some max_tokens) 0 h.1 (without_head true (join_strings parts)) (head_gone true (join_strings parts) (strings_joined parts (pieces_good 1 true 0 pieces parts h.1 h.2))))
