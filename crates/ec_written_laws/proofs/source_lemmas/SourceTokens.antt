-- The tokens of a source hold what they are to hold, and stand on lines from 1 on.
use Rattle.std.proofs.Common.{◌≡◌, ℕ, zero, suc, ◌+◌, ◌≤◌, ◌<◌, Bool, true, false, not, ◌&&◌, List, [], ◌∷◌, ◌++◌, length, take, drop, refl, sym, ap, ◌∙◌, subst, Option, Some, None, Result, Ok, Err, arith, append-nil, append_assoc}
use Rattle.std.specs.Prelude.{codes, ◌==◌, nat_lt, option_map, if◌then◌else◌}
use Rattle.std.specs.List.{concat}
use Rattle.std.proofs.lemmas.Bool.{false≢true}
use Rattle.std.proofs.lemmas.Bool.Decides.{nat_tests}
use Rattle.ec_base.specs.declared.fault.FaultKind.{FaultKind}
use Rattle.ec_base.specs.declared.fault.FaultKind.TheVariants.{F4, F9}
use Rattle.ec_base.specs.declared.fault.LimitKind.TheVariants.{L2}
use Rattle.ec_base.specs.declared.stop.Stop.{Stop}
use Rattle.ec_base.specs.declared.stop.Stop.TheVariants.{Limit}
use Rattle.ec_ctypes.specs.declared.text.piece.Piece.{Piece}
use Rattle.ec_ctypes.specs.declared.types.arith.Arith.{Arith}
use Rattle.ec_ctypes.specs.declared.text.token.Punct.{Punct}
use Rattle.ec_ctypes.specs.trees.Tokens.{TokData, word_token, string_token, section_end, TokenData}
use Rattle.ec_ctypes.specs.trees.Units.{UnitData}
use Rattle.ec_language.specs.First.{Reads, tokens, max_text}
use Rattle.ec_language.specs.Letters.{Text, newline, is_blank, begins, each, skip_blanks, is_word_byte, same_word}
use Rattle.ec_language.specs.Line.{newlines}
use Rattle.ec_language.specs.CText.{is_word, is_number, is_quoted}
use Rattle.ec_language.specs.Constants.{integer_constant, character_value, string_value}
use Rattle.ec_language.specs.Lexemes.{Class, word, number, character, string, punct, left_out, comment, class_of, is_comment, is_left_out_mark, punct_of, is_fresh_after}
use Rattle.ec_language.specs.Pieces.{behind_start, Pieces, PiecesUpTo}
use Rattle.ec_language.specs.SqlTokens.{first_bad_line}
use Rattle.ec_language.specs.Tokens.{Part, is_left_out_word, integer_tok, character_tok, string_tok, token_of, Item, blank, match, include, directive, last_directive, Step, counted, line_behind, part_at, CParts, end, item, bad, fault_at, lines_before, PieceParts, c_text, statement, opening, closing, declaration, embedded, statements_behind, AllParts, join_two, join_first, join_strings, without_head, token, with_token, is_full, part_within, max_tokens, numbered_within, Tokens}
use Rattle.ec_language.proofs.Ends.{both}
use Rattle.ec_language.proofs.ReadLaws.{newlines-append}
use Rattle.ec_writing_defs.specs.Shapes.{is_byte, is_line}
use Rattle.ec_written_laws.specs.source.SourceShape.{is_source_tok, is_source_token, are_source_tokens, is_source_shape}
use Rattle.ec_written_laws.proofs.source_lemmas.Parts.{join}
use Rattle.ec_written_laws.proofs.source_lemmas.Values.{each_parts, each_drop, IsInteger, integer_fits, AreBytes, string_bytes, IsCharacter, character_fits}
use Rattle.ec_written_laws.proofs.source_lemmas.Includes.{include_is}
use Rattle.ec_written_laws.proofs.source_lemmas.Steps.{derived_shape}

-- ---- what stands at one place

abbrev IsTok : Result TokData FaultKind → Type 0
IsTok (Ok tok) = is_source_tok tok ≡ true
IsTok (Err kind) = Unit {0}

abbrev IsFound : Option (Result TokData FaultKind) → Type 0
IsFound None = Unit {0}
IsFound (Some tok) = IsTok tok

abbrev Is_word : Option Class → Text → Type 0
Is_word (Some word) text = is_word text ≡ true
Is_word _ text = Unit {0}

word_class : (text : Text) → Is_word (class_of text) text
word_class text = go (is_word text) (is_number text) (is_quoted text && begins (λ b. b == 39) text) (is_quoted text) (is_comment text) (is_left_out_mark text) (punct_of text) refl
  where
    mark : (m : Option Punct) → Is_word (option_map punct m) text
    mark None = tt
    mark (Some p) = tt

    go : (a b c d e f : Bool) (m : Option Punct) → is_word text ≡ a
        → Is_word (if a then Some word else if b then Some number else if c then Some character else if d then Some string else if e then Some comment else if f then Some left_out else option_map punct m) text
    go true b c d e f m h = h
    go false true c d e f m h = tt
    go false false true d e f m h = tt
    go false false false true e f m h = tt
    go false false false false true f m h = tt
    go false false false false false true m h = tt
    go false false false false false false m h = mark m

word_is : (text : Text) → is_word text ≡ true → IsTok (if is_left_out_word text then Err F9 else Ok (word_token text))
word_is text h = go (is_left_out_word text) refl
  where
    go : (b : Bool) → is_left_out_word text ≡ b → IsTok (if b then Err F9 else Ok (word_token text))
    go true e = tt
    go false e = join h (ap not e)

integer_is : (x : Option (ℕ × Arith)) → IsInteger x → IsTok (integer_tok x)
integer_is None h = tt
integer_is (Some p) h = h

character_is : (x : Option _) → IsCharacter x → IsTok (character_tok x)
character_is None h = tt
character_is (Some c) h = h

string_is : (x : Option Text) → AreBytes x → IsTok (string_tok x)
string_is None h = tt
string_is (Some t) h = h

class_is : (class : Class) (text : Text) → class_of text ≡ Some class → each is_byte text ≡ true → IsFound (token_of class text)
class_is word text e h = word_is text (subst (λ c. Is_word c text) e (word_class text))
class_is number text e h = integer_is (integer_constant text) (integer_fits text)
class_is character text e h = character_is (character_value text) (character_fits text h)
class_is string text e h = string_is (string_value text) (string_bytes text h)
class_is (punct p) text e h = refl
class_is left_out text e h = tt
class_is comment text e h = tt

-- and in a source its newlines alone are counted
record IsItem (tok : Option (Result TokData FaultKind)) (step : Step) : Type 0 where
  found : IsFound tok
  counts : step ≡ counted

item_is : (fresh : Bool) (text rest : Text) (tok : Option (Result TokData FaultKind)) (step : Step) → Item false fresh text rest tok step → each is_byte text ≡ true → IsItem tok step
item_is fresh text rest tok step (blank f t r l e) h = record { found = tt; counts = refl }
item_is fresh text rest tok step (match f t r class v x e) h = record { found = subst IsFound (sym e) (class_is class text x.is h); counts = refl }
item_is fresh text rest tok step (include f t r e it) h = record { found = include_is text rest it; counts = refl }
item_is fresh text rest tok step (directive f t l r e w whole d) h = absurd (false≢true w)
item_is fresh text rest tok step (last_directive f t r e w ends d) h = absurd (false≢true w)

-- ---- parts

abbrev pub most : ℕ
most = 999999999

on_line : (n : ℕ) → 0 < n → n ≤ most → is_line n ≡ true
on_line n h k =
    let a : nat_lt 0 n ≡ true = grind (arith, nat_tests) in
    let b : nat_lt n 1000000000 ≡ true = grind (arith, nat_tests) in
    join a b

-- a token on this line; of a fault nothing is said
abbrev IsPart : ℕ → Result TokData FaultKind → Type 0
IsPart line (Ok tok) = (is_line line ≡ true) × (is_source_tok tok ≡ true)
IsPart line (Err kind) = Unit {0}

abbrev AreParts : List Part → Type 0
AreParts [] = Unit {0}
AreParts (p ∷ ps) = IsPart p.line p.tok × AreParts ps

parts_joined : (ps qs : List Part) → AreParts ps → AreParts qs → AreParts (ps ++ qs)
parts_joined [] qs h k = k
parts_joined (p ∷ ps) qs h k = (h.0, parts_joined ps qs h.1 k)

-- parts of a text, from a line to a line
record Between (line : ℕ) (text : Text) (parts : List Part) (last : ℕ) : Type 0 where
  are : AreParts parts
  later : line ≤ last
  ends : last ≤ line + newlines text

part_is : (line : ℕ) (tok : Option (Result TokData FaultKind)) → is_line line ≡ true → IsFound tok → AreParts (part_at line tok)
part_is line None l h = tt
part_is line (Some (Ok tok)) l h = ((l, h), tt)
part_is line (Some (Err kind)) l h = (tt, tt)

c_parts : (line : ℕ) (fresh : Bool) (text : Text) (parts : List Part) (last : ℕ) → CParts false line fresh text parts last → 0 < line → line + newlines text ≤ most → each is_byte text ≡ true → Between line text parts last
c_parts line fresh text parts last (end n f) l m h = record { are = tt; later = omega arith; ends = omega arith }
c_parts line fresh text parts last (item n f t u rest tok step ps others k e it d p) l m h =
    let b = each_parts is_byte u rest (subst (λ t. each is_byte t ≡ true) e h) in
    let i = item_is fresh u rest tok step it b.0 in
    let lines : newlines text ≡ newlines u + newlines rest = ap newlines e ∙ newlines-append u rest in
    let at : line_behind line u step ≡ line + newlines u = ap (line_behind line u) i.counts in
    let more = c_parts (line_behind line u step) (is_fresh_after fresh u) rest others last d (omega (arith, l, at)) (omega (arith, lines, m, at)) b.1 in
    record {
      are = subst AreParts (sym p) (parts_joined (part_at line tok) others (part_is line tok (on_line line l (omega (arith, m))) i.found) more.are);
      later = let z = more.later in omega (arith, z, at);
      ends = let z = more.ends in omega (arith, z, lines, at);
    }
c_parts line fresh text parts last (bad n f t ps e none p) l m h = record { are = subst AreParts (sym p) (tt, tt); later = omega arith; ends = omega arith }

-- ---- pieces

drop_lines : (n : ℕ) (t : Text) → newlines (drop n t) ≤ newlines t
drop_lines zero t = omega arith
drop_lines (suc n) [] = omega arith
drop_lines (suc n) (b ∷ t) = let h : newlines (drop n t) ≤ newlines t = drop_lines n t in omega (arith, h)

record Behind (t u : Text) : Type 0 where
  bytes : each is_byte u ≡ true
  lines : newlines u ≤ newlines t

skipped : (t : Text) → each is_byte t ≡ true → Behind t (skip_blanks t)
skipped [] h = record { bytes = refl; lines = omega arith }
skipped (b ∷ t) h = go (is_blank b) (skipped t (both (is_byte b) (each is_byte t) h).1)
  where
    go : (x : Bool) → Behind t (skip_blanks t) → Behind (b ∷ t) (elim x [ true ↦ skip_blanks t | false ↦ b ∷ t ])
    go true k = record { bytes = k.bytes; lines = let z = k.lines in omega (arith, z) }
    go false k = record { bytes = h; lines = omega arith }

start_behind : (t u : Text) → each is_byte t ≡ true → behind_start t ≡ Some u → Behind t u
start_behind t u h e =
    go (same_word (take 4 t) (codes "EXEC") && begins is_blank (drop 4 t) && same_word (take 3 (skip_blanks (drop 4 t))) (codes "SQL") && not (begins is_word_byte (drop 3 (skip_blanks (drop 4 t))))) e
  where
    there : Behind t (drop 3 (skip_blanks (drop 4 t)))
    there =
        let s = skipped (drop 4 t) (each_drop is_byte 4 t h) in
        let a = s.lines in
        let b = drop_lines 4 t in
        let c = drop_lines 3 (skip_blanks (drop 4 t)) in
        record { bytes = each_drop is_byte 3 (skip_blanks (drop 4 t)) s.bytes; lines = omega (arith, a, b, c) }

    go : (x : Bool) → (if x then Some (drop 3 (skip_blanks (drop 4 t))) else None) ≡ Some u → Behind t u
    go true k = let same : drop 3 (skip_blanks (drop 4 t)) ≡ u = cc in subst (Behind t) same there
    go false k = absurd (cc)

-- the C text of a declaration behind `EXEC SQL`
declared_behind : (bytes gap text : Text) → each is_byte bytes ≡ true → behind_start (bytes ++ []) ≡ Some (gap ++ text ++ []) → Behind bytes text
declared_behind bytes gap text h e =
    let s = start_behind bytes (gap ++ text ++ []) h (ap behind_start (sym (append-nil bytes)) ∙ e) in
    let a = each_parts is_byte gap (text ++ []) (subst (λ t. each is_byte t ≡ true) (append_assoc gap text []) s.bytes) in
    let b = each_parts is_byte text [] a.1 in
    let l = s.lines in
    record { bytes = b.0; lines = omega (arith, l, ap newlines (append_assoc gap text []), newlines-append gap (text ++ []), newlines-append text []) }

fault_is : (line : Option ℕ) (kind : FaultKind) → AreParts (fault_at line kind)
fault_is None kind = tt
fault_is (Some line) kind = (tt, tt)

piece_parts : (line : ℕ) (fresh : Bool) (statements : ℕ) (p : Piece) (parts : List Part) (last : ℕ) → PieceParts false line fresh statements p parts last → 0 < line → line + newlines p.bytes ≤ most → each is_byte p.bytes ≡ true → Between line p.bytes parts last
piece_parts line fresh statements p parts last (c_text ps n k d) l m h = c_parts line fresh p.bytes parts last d l m h
piece_parts line fresh statements p parts last (statement units ps n k w u e f) l m h = record {
  are = subst AreParts (sym e) ((on_line line l (omega (arith, m)), refl), fault_is (first_bad_line (line + lines_before p.bytes (concat units)) units) F4);
  later = omega (arith, f);
  ends = omega (arith, f);
}
piece_parts line fresh statements p parts last (opening ps n k w e f) l m h = record { are = subst AreParts (sym e) ((on_line line l (omega (arith, m)), refl), tt); later = omega (arith, f); ends = omega (arith, f) }
piece_parts line fresh statements p parts last (closing ps n k w e f) l m h = record { are = subst AreParts (sym e) ((on_line line l (omega (arith, m)), refl), tt); later = omega (arith, f); ends = omega (arith, f) }
piece_parts line fresh statements p parts last (declaration found ps inner n k w d e) l m h =
    let text = concat (found.first ∷ found.others) in
    let b = declared_behind p.bytes (concat found.gap) text h found.start in
    let y = b.lines in
    let i = c_parts (line + lines_before p.bytes text) false text inner last d (omega (arith, l)) (omega (arith, m, y)) b.bytes in
    let x = i.later in
    let z = i.ends in
    record {
      are = subst AreParts (sym e) ((on_line line l (omega (arith, m)), refl), parts_joined inner (record { line = last; tok = Ok section_end } ∷ []) i.are ((on_line last (omega (arith, l, x)) (omega (arith, m, y, z)), refl), tt));
      later = omega (arith, x);
      ends = omega (arith, y, z);
    }
piece_parts line fresh statements p parts last (embedded ps n k w e f) l m h = absurd (false≢true w)

-- A piece may be said to begin on any line.
all_parts : (from line : ℕ) (fresh : Bool) (statements : ℕ) (text rest : Text) (pieces : List Piece) (parts : List Part) (last : ℕ) → PiecesUpTo from text pieces rest → AllParts false line fresh statements pieces parts last
    → 0 < line → line + newlines text ≤ most → each is_byte text ≡ true → Between line text parts last
all_parts from line fresh statements text rest [] parts last c h l m b = record { are = subst AreParts (sym h.0) tt; later = omega (arith, h.1); ends = omega (arith, h.1) }
all_parts from line fresh statements text rest (p ∷ ps) parts last c h l m b =
    let two = each_parts is_byte p.bytes c.0 (subst (λ t. each is_byte t ≡ true) c.1 b) in
    let lines : newlines text ≡ newlines p.bytes + newlines c.0 = ap newlines c.1 ∙ newlines-append p.bytes c.0 in
    let first = piece_parts line fresh statements p h.0 h.2 h.4 l (omega (arith, m, lines)) two.0 in
    let x = first.later in
    let y = first.ends in
    let others = all_parts (from + newlines p.bytes) h.2 (is_fresh_after fresh p.bytes) (statements_behind statements p.kind) c.0 rest ps h.1 last c.4 h.5 (omega (arith, l, x)) (omega (arith, m, lines, y)) two.1 in
    let u = others.later in
    let v = others.ends in
    record { are = subst AreParts (sym h.3) (parts_joined h.0 h.1 first.are others.are); later = omega (arith, x, u); ends = omega (arith, lines, y, v) }

-- ---- tokens

each_joined : (f : ℕ → Bool) (u w : Text) → each f u ≡ true → each f w ≡ true → each f (u ++ w) ≡ true
each_joined f [] w h k = k
each_joined f (b ∷ u) w h k = let p = both (f b) (each f u) h in join p.0 (each_joined f u w p.1 k)

two_joined : (p : Part) (a : Result TokData FaultKind) (q : Part) (b : Result TokData FaultKind) (parts : List Part)
    → IsPart p.line p.tok → IsPart p.line a → IsPart q.line q.tok → IsPart q.line b → AreParts parts → AreParts (join_two p a q b parts)
two_joined p (Ok (string_token a)) q (Ok (string_token b)) parts h h2 k k2 l = ((h2.0, each_joined is_byte a b h2.1 k2.1), l)
two_joined p a q b parts h h2 k k2 l = (h, (k, l))

first_joined : (p : Part) (parts : List Part) → IsPart p.line p.tok → AreParts parts → AreParts (join_first p parts)
first_joined p [] h k = (h, tt)
first_joined p (q ∷ parts) h k = two_joined p p.tok q q.tok parts h h k.0 k.0 k.1

strings_joined : (parts : List Part) → AreParts parts → AreParts (join_strings parts)
strings_joined [] h = tt
strings_joined (p ∷ parts) h = first_joined p (join_strings parts) h.0 (strings_joined parts h.1)

headless : (parts : List Part) → AreParts parts → AreParts (without_head false parts)
headless [] h = h
headless (p ∷ []) h = h
headless (p ∷ q ∷ parts) h = h

abbrev AreTokens : Result (List TokenData) Stop → Type 0
AreTokens (Ok ts) = are_source_tokens ts ≡ true
AreTokens (Err stop) = Unit {0}

with_is : (t : TokenData) (r : Result (List TokenData) Stop) → is_source_token t ≡ true → AreTokens r → AreTokens (with_token t r)
with_is t (Ok ts) h k = join h k
with_is t (Err stop) h k = tt

limited : (b : Bool) (stop : Stop) (r : Result (List TokenData) Stop) → AreTokens r → AreTokens (if b then Err stop else r)
limited true stop r h = tt
limited false stop r h = h

part_within_is : (limit : Option ℕ) (place line : ℕ) (tok : Result TokData FaultKind) (r : Result (List TokenData) Stop) → IsPart line tok → AreTokens r → AreTokens (part_within limit place line tok r)
part_within_is limit place line (Err kind) r h k = tt
part_within_is limit place line (Ok tok) r h k = limited (is_full limit place) (Limit L2) (with_token (token tok line place) r) (with_is (token tok line place) r (join h.0 h.1) k)

numbered_is : (limit : Option ℕ) (place last : ℕ) (parts : List Part) → is_line last ≡ true → AreParts parts → AreTokens (numbered_within limit place last parts)
numbered_is limit place last [] l h = join (join l refl) refl
numbered_is limit place last (p ∷ parts) l h = part_within_is limit place p.line p.tok (numbered_within limit (suc place) last parts) h.0 (numbered_is limit (suc place) last parts l h.1)

-- ---- texts

few_lines : (t : Text) → newlines t ≤ length t
few_lines [] = omega arith
few_lines (b ∷ t) = go (b == newline) (few_lines t)
  where
    go : (x : Bool) → newlines t ≤ length t → (if x then 1 else 0) + newlines t ≤ suc (length t)
    go true h = omega (arith, h)
    go false h = omega (arith, h)

pub tokens_are : (text : Text) (pieces : List Piece) (ts : List TokenData) → each is_byte text ≡ true → length text ≤ max_text → Pieces text pieces → Tokens false pieces ts → are_source_tokens ts ≡ true
tokens_are text pieces ts b l c h =
    let short : length text ≤ 16777216 = l in
    let few = few_lines text in
    let x = all_parts 1 1 true 0 text [] pieces h.0 h.1 c h.2 (omega arith) (omega (arith, short, few)) b in
    let later = x.later in
    let ends = x.ends in
    subst AreTokens (sym h.3) (numbered_is (Some max_tokens) 0 h.1 (without_head false (join_strings h.0)) (on_line h.1 (omega (arith, later)) (omega (arith, ends, short, few))) (headless (join_strings h.0) (strings_joined h.0 x.are)))

pub read_shape : (text : Text) (u : UnitData) → each is_byte text ≡ true → Reads false text (Ok u) → is_source_shape u ≡ true
read_shape text u b (tokens pieces ts a l c x is) = derived_shape ts u (tokens_are text pieces ts b l c x) is
