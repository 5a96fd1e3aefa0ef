-- Chunks are cut into their tokens, and are one piece of C text.
use Rattle.std.proofs.Common.{◌≡◌, ℕ, ◌+◌, ◌/◌, ◌%◌, ◌^◌, ◌<◌, ◌≤◌, Bool, true, false, ◌&&◌, [], ◌∷◌, ◌++◌, length, take, drop, map, refl, ap, sym, ◌∙◌, subst, arith, append_assoc, Option, Some, None, Ok, Err, List, not, suc}
use Rattle.std.specs.Prelude.{codes, nat_le, nat_eq, ◌==◌, ◌||◌, ℤ, option_map, if◌then◌else◌}
use Rattle.std.specs.Fmt.{decimal}
use Rattle.std.proofs.lemmas.Bool.{false≢true}
use Rattle.std.proofs.lemmas.Bool.Decides.{nat_tests}
use Rattle.std.proofs.lemmas.Fmt.{decimal_nonempty}
use Rattle.ec_base.specs.declared.fault.FaultKind.TheVariants.{F9}
use Rattle.ec_ctypes.specs.declared.text.token.Punct.{Punct}
use Rattle.ec_ctypes.specs.declared.types.arith.Arith.TheVariants.{UInt}
use Rattle.ec_ctypes.specs.trees.Types.{TyData, arithmetic}
use Rattle.ec_ctypes.specs.trees.Tokens.{TokData, word_token, integer_token, character_token, string_token, punct_token, include_token, emb_token, section_start, section_end, end_token}
use Rattle.ec_language.specs.Letters.{Text, newline, lower, is_blank, is_digit, is_word_start, is_word_byte, is_number_byte, is_empty, begins, each, same_text, same_word, skip_blanks, begins_with, is_not_newline}
use Rattle.ec_ctypes.specs.Texts.{punct_text}
use Rattle.std.specs.List.{concat}
use Rattle.ec_language.specs.Line.{newlines}
use Rattle.ec_language.specs.CText.{is_word, is_number, is_quoted, closes_quote, CUnit, CUnits}
use Rattle.ec_language.specs.CText as unit
use Rattle.ec_language.specs.Pieces.{starts_piece, NoneStarts}
use Rattle.ec_language.specs.Lexemes.{Class, word, number, character, string, punct, Longest}
use Rattle.ec_language.specs.Tokens.{is_left_out_word, character_tok, string_tok, counted, Item, match, include}
use Rattle.ec_language.specs.ReadPieces.{passed, cut, endless, behind_all as all_behind, quote_end, c_end, c_stop}
use Rattle.ec_language.specs.ReadTokens.{quoted_class, lexeme_end, with_front, include_behind}
use Rattle.ec_language.proofs.Ends.{both, quote_complete}
use Rattle.ec_language.proofs.Classes.{all_complete, digit_no_word, turn_not}
use Rattle.ec_language.proofs.CUnits.{c_complete}
use Rattle.ec_language.proofs.CWalks.{front_is, c_stop_on, c_stop_start}
use Rattle.ec_language.proofs.LongestMatch.{lexeme_sound}
use Rattle.ec_writing_defs.specs.Chunks.{is_plain, octal, quoted_bytes, quoted, byte_of, suffix, token_text}
use Rattle.ec_writing_defs.specs.Shapes.{is_byte, is_character, fits_type, has_no_piece, is_line_end, is_include_line}
use Rattle.ec_writing_defs.proofs.Starts.{not_true, sql_at, Starting, starting, started}
use Rattle.ec_language.proofs.Includes.{IncludeTail, include_sound}
use Rattle.ec_language.proofs.Marks.{same_text_is}
use Rattle.ec_readback_laws.proofs.Numbers.{decimal_is, integer_back, fits_small}
use Rattle.ec_readback_laws.proofs.Quotes.{quote_closes, string_back, character_back, one_byte}
use Rattle.ec_readback_laws.proofs.Marks.{no_start, is_apart, punct_longest, UnitsOf, one_unit, punct_units, punct_flat}

-- ---- one token

-- an `#include` line has to be first on its line
abbrev pub is_first : TokData → Bool
is_first (include_token bytes) = true
is_first _ = false

-- What is known of a token before this text: it is cut off there, and is worth what it was.
pub record Lexed (t : TokData) (rest : Text) : Type 0 where
  pub item : (fresh : Bool) → (is_first t ≡ true → fresh ≡ true) → Item true fresh (token_text t) rest (Some (Ok t)) counted
  pub flat : newlines (token_text t) ≡ 0
  pub units : UnitsOf (token_text t) rest

-- the word `SQL` stands here, behind blanks
abbrev pub begins_sql : Text → Bool
begins_sql text = same_word (take 3 (skip_blanks text)) (codes "SQL")

-- a line of written C that begins with `#`, or nothing
abbrev pub begins_hash : Text → Bool
begins_hash [] = true
begins_hash (b ∷ bs) = b == 35

-- the line ends here, and what follows is such a line
abbrev pub ends_line : Text → Bool
ends_line [] = false
ends_line (b ∷ bs) = b == newline && begins_hash bs

-- what has to stand behind a token, so that it ends there
abbrev pub FitsToken : TokData → Text → Type 0
FitsToken (word_token w) rest = (is_word w ≡ true) × (is_left_out_word w ≡ false) × (begins is_word_byte rest ≡ false) × ((same_word w (codes "EXEC") && begins_sql rest) ≡ false)
FitsToken (integer_token n t) rest = (fits_type n t ≡ true) × (begins is_number_byte rest ≡ false)
FitsToken (character_token c) rest = is_character c ≡ true
FitsToken (string_token s) rest = each is_byte s ≡ true
FitsToken (punct_token p) rest = is_apart p rest ≡ true
FitsToken (include_token bytes) rest = (is_include_line bytes ≡ true) × (ends_line rest ≡ true)
FitsToken _ rest = ⊥

each_flat : (test : ℕ → Bool) → ((b : ℕ) → test b ≡ true → (b == newline) ≡ false) → (bs : Text) → each test bs ≡ true → newlines bs ≡ 0
each_flat test f [] e = refl
each_flat test f (b ∷ bs) e = let k = both (test b) (each test bs) e in λ i. (if f b k.0 i then 1 else 0) + each_flat test f bs k.1 i

-- ---- words

end_of_word : (b : ℕ) (bs : Text) → is_word_start b ≡ true → lexeme_end (b ∷ bs) ≡ Some (word, all_behind is_word_byte bs)
end_of_word b bs e = rw (e, lexeme_end) refl

end_of_number : (b : ℕ) (bs : Text) → is_digit b ≡ true → lexeme_end (b ∷ bs) ≡ Some (number, all_behind is_number_byte bs)
end_of_number b bs e = rw (digit_no_word b e, e, lexeme_end) refl

found : (w rest : Text) (class : Class) → lexeme_end (w ++ rest) ≡ Some (class, rest) → Longest w rest class
found w rest class e = (lexeme_sound (w ++ rest) w rest class (ap (option_map (with_front (w ++ rest))) e ∙ (λ i. Some (class, front_is w rest i, rest)))).1

word_longest : (w rest : Text) → is_word w ≡ true → begins is_word_byte rest ≡ false → Longest w rest word
word_longest [] rest e n = absurd (false≢true e)
word_longest (b ∷ w) rest e n = let k = both (is_word_start b) (each is_word_byte w) e in
    found (b ∷ w) rest word (end_of_word b (w ++ rest) k.0 ∙ ap (λ r. Some (word, r)) (all_complete is_word_byte w rest k.1 n))

number_longest : (w rest : Text) → is_number w ≡ true → begins is_number_byte rest ≡ false → Longest w rest number
number_longest [] rest e n = absurd (false≢true e)
number_longest (b ∷ w) rest e n = let k = both (is_digit b) (each is_number_byte w) e in
    found (b ∷ w) rest number (end_of_number b (w ++ rest) k.0 ∙ ap (λ r. Some (number, r)) (all_complete is_number_byte w rest k.1 n))

word_start_byte : (b : ℕ) → is_word_start b ≡ true → is_word_byte b ≡ true
word_start_byte b e = λ i. e i || is_digit b

-- a word byte is none of the letters of `exec` in lower case, where it is none
no_exec : (f x : ℕ) → is_word_byte f ≡ false → 97 ≤ x → x ≤ 122 → lower f ≡ x → ⊥
no_exec f x n l h e = grind (arith, nat_tests)

word_no_start : (w rest : Text) → is_word w ≡ true → begins is_word_byte rest ≡ false → (same_word w (codes "EXEC") && begins_sql rest) ≡ false → starts_piece (w ++ rest) ≡ false
word_no_start w rest e n s = not_true (starts_piece (w ++ rest)) (λ h. go w rest e n s (starting (w ++ rest) h))
  where
    go : (w rest : Text) → is_word w ≡ true → begins is_word_byte rest ≡ false → (same_word w (codes "EXEC") && begins_sql rest) ≡ false → Starting (w ++ rest) → ⊥
    go [] rest e n s t = false≢true e
    go (a ∷ []) [] e n s t = let k = t.exec in cc
    go (a ∷ []) (f ∷ r) e n s t = let k = t.exec in no_exec f 120 n (omega arith) (omega arith) (cc)
    go (a ∷ b ∷ []) [] e n s t = let k = t.exec in cc
    go (a ∷ b ∷ []) (f ∷ r) e n s t = let k = t.exec in no_exec f 101 n (omega arith) (omega arith) (cc)
    go (a ∷ b ∷ c ∷ []) [] e n s t = let k = t.exec in cc
    go (a ∷ b ∷ c ∷ []) (f ∷ r) e n s t = let k = t.exec in no_exec f 99 n (omega arith) (omega arith) (cc)
    go (a ∷ b ∷ c ∷ d ∷ []) rest e n s t = false≢true (sym s ∙ (λ i. same (a ∷ b ∷ c ∷ d ∷ []) t.exec i && (both (begins_sql rest) (not (begins is_word_byte (drop 3 (skip_blanks rest)))) t.sql).0 i))
      where
        same : (w : Text) → map lower w ≡ codes "exec" → same_word w (codes "EXEC") ≡ true
        same w e = ap (λ v. same_text v (codes "exec")) e
    go (a ∷ b ∷ c ∷ d ∷ f ∷ w) rest e n s t =
        let k = both (is_word_start a) (is_word_byte b && (is_word_byte c && (is_word_byte d && (is_word_byte f && each is_word_byte w)))) e in
        let k2 = both (is_word_byte b) (is_word_byte c && (is_word_byte d && (is_word_byte f && each is_word_byte w))) k.1 in
        let k3 = both (is_word_byte c) (is_word_byte d && (is_word_byte f && each is_word_byte w)) k2.1 in
        let k4 = both (is_word_byte d) (is_word_byte f && each is_word_byte w) k3.1 in
        let k5 = both (is_word_byte f) (each is_word_byte w) k4.1 in
        no_blank f k5.0 t.blank
      where
        no_blank : (f : ℕ) → is_word_byte f ≡ true → is_blank f ≡ true → ⊥
        no_blank f e h = grind (arith, nat_tests)

word_flat : (w : Text) → is_word w ≡ true → newlines w ≡ 0
word_flat [] e = refl
word_flat (b ∷ w) e = let k = both (is_word_start b) (each is_word_byte w) e in each_flat is_word_byte plain (b ∷ w) (λ i. word_start_byte b k.0 i && k.1 i)
  where
    plain : (b : ℕ) → is_word_byte b ≡ true → (b == newline) ≡ false
    plain b e = grind (arith, nat_tests)

word_lexed : (w rest : Text) → FitsToken (word_token w) rest → Lexed (word_token w) rest
word_lexed w rest f = record {
  item = λ fresh e. match fresh w rest word (Some (Ok (word_token w))) (word_longest w rest f.0 f.2) (λ i. Some (if sym f.1 i then Err F9 else Ok (word_token w)));
  flat = word_flat w f.0;
  units = one_unit w rest (unit.word w rest f.0 f.2) (word_no_start w rest f.0 f.2 f.3);
}

-- ---- numbers

digits_number : (ds sfx : Text) → each is_digit ds ≡ true → is_empty ds ≡ false → each is_number_byte sfx ≡ true → is_number (ds ++ sfx) ≡ true
digits_number [] sfx e n h = absurd (false≢true (sym n))
digits_number (b ∷ ds) sfx e n h = let k = both (is_digit b) (each is_digit ds) e in λ i. k.0 i && rest ds k.1 i
  where
    byte : (b : ℕ) → is_digit b ≡ true → is_number_byte b ≡ true
    byte b e = grind (arith, nat_tests)

    rest : (ds : Text) → each is_digit ds ≡ true → each is_number_byte (ds ++ sfx) ≡ true
    rest [] e = h
    rest (b ∷ ds) e = let k = both (is_digit b) (each is_digit ds) e in λ i. byte b k.0 i && rest ds k.1 i

suffix_bytes : (t : TyData) → each is_number_byte (suffix t) ≡ true
suffix_bytes (arithmetic UInt) = refl
suffix_bytes (arithmetic _) = refl
suffix_bytes _ = refl

some_decimal : (n : ℕ) → n < 2 ^ 64 → is_empty (decimal n) ≡ false
some_decimal n h = go (decimal n) (decimal_nonempty n h)
  where
    go : (ds : Text) → 0 < length ds → is_empty ds ≡ false
    go [] l = absurd (omega arith)
    go (b ∷ ds) l = refl

number_flat : (w : Text) → is_number w ≡ true → newlines w ≡ 0
number_flat [] e = refl
number_flat (b ∷ w) e = let k = both (is_digit b) (each is_number_byte w) e in each_flat is_number_byte plain (b ∷ w) (λ i. first b k.0 i && k.1 i)
  where
    plain : (b : ℕ) → is_number_byte b ≡ true → (b == newline) ≡ false
    plain b e = grind (arith, nat_tests)

    first : (b : ℕ) → is_digit b ≡ true → is_number_byte b ≡ true
    first b e = grind (arith, nat_tests)

number_no_start : (w rest : Text) → is_number w ≡ true → starts_piece (w ++ rest) ≡ false
number_no_start [] rest e = absurd (false≢true e)
number_no_start (b ∷ w) rest e = no_start b (w ++ rest) (digit_no_word b ((both (is_digit b) (each is_number_byte w) e).0))

integer_lexed : (n : ℕ) (t : TyData) (rest : Text) → FitsToken (integer_token n t) rest → Lexed (integer_token n t) rest
integer_lexed n t rest f =
    let small = fits_small n t f.0 in
    let w = decimal n ++ suffix t in
    let is : is_number w ≡ true = digits_number (decimal n) (suffix t) (decimal_is n small).digits (some_decimal n small) (suffix_bytes t) in
    record {
      item = λ fresh e. match fresh w rest number (Some (Ok (integer_token n t))) (number_longest w rest is f.1) (ap (λ x. Some x) (sym (integer_back n t f.0)));
      flat = number_flat w is;
      units = one_unit w rest (unit.number w rest is f.1) (number_no_start w rest is);
    }

-- ---- quotes

quote_longest : (q : ℕ) (w rest : Text) → (q == 34 || q == 39) ≡ true → closes_quote q w ≡ true → Longest (q ∷ w) rest (quoted_class q)
quote_longest q w rest e c = found (q ∷ w) rest (quoted_class q) (go (q == 34) refl (q == 39) refl e)
  where
    ends : (q : ℕ) → closes_quote q w ≡ true → ◌≡◌ {A = Option (Class × Text)} (elim (quote_end q (w ++ rest)) [ passed r ↦ Some (quoted_class q, r) | cut r ↦ None | endless ↦ None ]) (Some (quoted_class q, rest))
    ends q c = λ i. elim (quote_complete q w rest c i) [ passed r ↦ Some (quoted_class q, r) | cut r ↦ None | endless ↦ None ]

    go : (x : Bool) → (q == 34) ≡ x → (y : Bool) → (q == 39) ≡ y → (x || y) ≡ true → lexeme_end (q ∷ w ++ rest) ≡ Some (quoted_class q, rest)
    go true a y b h = let same : 34 ≡ q = grind (arith, nat_tests) in subst (λ p. closes_quote p w ≡ true → lexeme_end (p ∷ w ++ rest) ≡ Some (quoted_class p, rest)) same (λ c. ends 34 c) c
    go false a true b h = let same : 39 ≡ q = grind (arith, nat_tests) in subst (λ p. closes_quote p w ≡ true → lexeme_end (p ∷ w ++ rest) ≡ Some (quoted_class p, rest)) same (λ c. ends 39 c) c
    go false a false b h = absurd (false≢true h)

quoted_flat : (q : ℕ) (s : Text) → (q == newline) ≡ false → each is_byte s ≡ true → newlines (quoted_bytes q s) ≡ 0
quoted_flat q [] n e = λ i. (if n i then 1 else 0) + 0
quoted_flat q (b ∷ s) n e = let k = both (is_byte b) (each is_byte s) e in go (is_plain q b) refl (let l = k.0 in grind (arith, nat_tests)) (quoted_flat q s n k.1)
  where
    plain : (b : ℕ) → is_plain q b ≡ true → (b == newline) ≡ false
    plain b h = go (b == q) (b == 92) h
      where
        go : (x y : Bool) → elim (x || y) [ true ↦ false | false ↦ nat_le 32 b && nat_le b 126 ] ≡ true → (b == newline) ≡ false
        go true y k = absurd (false≢true k)
        go false true k = absurd (false≢true k)
        go false false k = let t = both (nat_le 32 b) (nat_le b 126) k in let s = t.0 in grind (arith, nat_tests)

    digit : (x : ℕ) → ((48 + x) == newline) ≡ false
    digit x = grind (arith, nat_tests)

    go : (t : Bool) → is_plain q b ≡ t → b < 256 → newlines (quoted_bytes q s) ≡ 0 → newlines ((elim t [ true ↦ b ∷ [] | false ↦ octal b ]) ++ quoted_bytes q s) ≡ 0
    go true p l f = λ i. (if plain b p i then 1 else 0) + f i
    go false p l f = λ i. 0 + ((if digit (b / 64) i then 1 else 0) + ((if digit ((b / 8) % 8) i then 1 else 0) + ((if digit (b % 8) i then 1 else 0) + f i)))

string_lexed : (s rest : Text) → each is_byte s ≡ true → Lexed (string_token s) rest
string_lexed s rest e =
    let c = quote_closes 34 s (omega arith) e in
    record {
      item = λ fresh k. match fresh (quoted 34 s) rest string (Some (Ok (string_token s))) (quote_longest 34 (quoted_bytes 34 s) rest refl c) (ap (λ x. Some (string_tok x)) (sym (string_back 34 s e)));
      flat = ap (λ n. 0 + n) (quoted_flat 34 s refl e);
      units = one_unit (quoted 34 s) rest (unit.quoted (quoted 34 s) rest c) refl;
    }

character_lexed : (c : ℤ) (rest : Text) → is_character c ≡ true → Lexed (character_token c) rest
character_lexed c rest h =
    let e = one_byte c h in
    let k = quote_closes 39 (byte_of c ∷ []) (omega arith) e in
    record {
      item = λ fresh f. match fresh (quoted 39 (byte_of c ∷ [])) rest character (Some (Ok (character_token c))) (quote_longest 39 (quoted_bytes 39 (byte_of c ∷ [])) rest refl k) (ap (λ x. Some (character_tok x)) (sym (character_back c h)));
      flat = ap (λ n. 0 + n) (quoted_flat 39 (byte_of c ∷ []) refl e);
      units = one_unit (quoted 39 (byte_of c ∷ [])) rest (unit.quoted (quoted 39 (byte_of c ∷ [])) rest k) refl;
    }

punct_lexed : (p : Punct) (rest : Text) → is_apart p rest ≡ true → Lexed (punct_token p) rest
punct_lexed p rest h = record { item = λ fresh e. match fresh (punct_text p) rest (punct p) (Some (Ok (punct_token p))) (punct_longest p rest h) refl; flat = punct_flat p; units = punct_units p rest h }

-- ---- `#include` lines

cut_last : (xs ys : Text) (b : ℕ) → xs ++ b ∷ [] ≡ ys ++ b ∷ [] → xs ≡ ys
cut_last [] [] b e = refl
cut_last [] (y ∷ []) b e = absurd (cc)
cut_last [] (y ∷ z ∷ ys) b e = absurd (cc)
cut_last (x ∷ []) [] b e = absurd (cc)
cut_last (x ∷ z ∷ xs) [] b e = absurd (cc)
cut_last (x ∷ xs) (y ∷ ys) b e =
    let f : xs ++ b ∷ [] ≡ ys ++ b ∷ [] = cc in
    let g : x ≡ y = cc in
    λ i. g i ∷ cut_last xs ys b f i

-- a unit before the end of a line, whatever stands on the next
unit_before : (u x r : Text) → CUnit u (x ++ newline ∷ []) → CUnit u (x ++ newline ∷ r)
unit_before u [] r (unit.word v s is ends) = unit.word u (newline ∷ r) is ends
unit_before u (b ∷ x) r (unit.word v s is ends) = unit.word u (b ∷ x ++ newline ∷ r) is ends
unit_before u [] r (unit.number v s is ends) = unit.number u (newline ∷ r) is ends
unit_before u (b ∷ x) r (unit.number v s is ends) = unit.number u (b ∷ x ++ newline ∷ r) is ends
unit_before u x r (unit.block_comment v s is) = unit.block_comment u (x ++ newline ∷ r) is
unit_before u [] r (unit.line_comment v s is ends) = unit.line_comment u (newline ∷ r) is ends
unit_before u (b ∷ x) r (unit.line_comment v s is ends) = unit.line_comment u (b ∷ x ++ newline ∷ r) is ends
unit_before u x r (unit.quoted v s is) = unit.quoted u (x ++ newline ∷ r) is
unit_before [] x r (unit.single v s is) = absurd (false≢true is)
unit_before (b ∷ []) [] r (unit.single v s is) = unit.single (b ∷ []) (newline ∷ r) is
unit_before (b ∷ []) (c ∷ x) r (unit.single v s is) = unit.single (b ∷ []) (c ∷ x ++ newline ∷ r) is
unit_before (b ∷ c ∷ u) x r (unit.single v s is) = absurd (false≢true is)

units_before : (us : List Text) (r : Text) → CUnits us (newline ∷ []) → CUnits us (newline ∷ r)
units_before [] r f = tt
units_before (u ∷ us) r f = (unit_before u (concat us) r f.0, units_before us r f.1)

never : (p y z : Bool) → ((p && false) && y) ≡ ((p && false) && z)
never true y z = refl
never false y z = refl

never_behind : (p q y z : Bool) → ((p && (q && false)) && y) ≡ ((p && (q && false)) && z)
never_behind true q y z = never q y z
never_behind false q y z = refl

-- where the line ends, `SQL` begins no later than on it
same_sql : (x r : Text) → begins_hash r ≡ true → sql_at (skip_blanks (x ++ newline ∷ r)) ≡ sql_at (skip_blanks (x ++ newline ∷ []))
same_sql [] [] h = refl
same_sql [] (b ∷ r) h = let e : b ≡ 35 = grind (arith, nat_tests) in ap (λ c. sql_at (skip_blanks (c ∷ r))) e
same_sql (b ∷ x) r h = go (is_blank b) refl (same_sql x r h)
  where
    rest : (x r : Text) → sql_at (b ∷ x ++ newline ∷ r) ≡ sql_at (b ∷ x ++ newline ∷ [])
    rest [] r = never (nat_eq (lower b) 115) (not (begins is_word_byte (drop 1 r))) true
    rest (c ∷ []) r = never_behind (nat_eq (lower b) 115) (nat_eq (lower c) 113) (not (begins is_word_byte r)) true
    rest (c ∷ d ∷ []) r = refl
    rest (c ∷ d ∷ e ∷ x) r = refl

    go : (t : Bool) → is_blank b ≡ t → sql_at (skip_blanks (x ++ newline ∷ r)) ≡ sql_at (skip_blanks (x ++ newline ∷ []))
        → sql_at (elim t [ true ↦ skip_blanks (x ++ newline ∷ r) | false ↦ b ∷ x ++ newline ∷ r ]) ≡ sql_at (elim t [ true ↦ skip_blanks (x ++ newline ∷ []) | false ↦ b ∷ x ++ newline ∷ [] ])
    go true e more = more
    go false e more = rest x r

line_starts_none : (t r : Text) → begins_hash r ≡ true → starts_piece (t ++ newline ∷ []) ≡ false → starts_piece (t ++ newline ∷ r) ≡ false
line_starts_none t r h e = not_true (starts_piece (t ++ newline ∷ r)) (λ s. go t e (starting (t ++ newline ∷ r) s))
  where
    go : (t : Text) → starts_piece (t ++ newline ∷ []) ≡ false → Starting (t ++ newline ∷ r) → ⊥
    go [] e s = let k = s.exec in cc
    go (a ∷ []) e s = let k = s.exec in cc
    go (a ∷ b ∷ []) e s = let k = s.exec in cc
    go (a ∷ b ∷ c ∷ []) e s = let k = s.exec in cc
    go (a ∷ b ∷ c ∷ d ∷ x) e s = false≢true (sym e ∙ started (a ∷ b ∷ c ∷ d ∷ x ++ newline ∷ []) (same (a ∷ b ∷ c ∷ d ∷ []) s.exec) (blank x s.blank) (sym (same_sql x r h) ∙ s.sql))
      where
        same : (w : Text) → map lower w ≡ codes "exec" → same_word w (codes "EXEC") ≡ true
        same w e = ap (λ v. same_text v (codes "exec")) e

        blank : (x : Text) → begins is_blank (x ++ newline ∷ r) ≡ true → begins is_blank (x ++ newline ∷ []) ≡ true
        blank [] k = refl
        blank (b ∷ x) k = k

-- C text that goes on to its end starts no piece
no_piece_here : (t : Text) → is_empty t ≡ false → is_empty (c_stop t) ≡ true → starts_piece t ≡ false
no_piece_here t n e = not_true (starts_piece t) (λ s. false≢true (sym n ∙ (ap is_empty (sym (c_stop_start t s)) ∙ e)))

none_in_line : (us : List Text) (r : Text) → begins_hash r ≡ true → CUnits us (newline ∷ []) → has_no_piece (concat us) ≡ true → NoneStarts us (newline ∷ r)
none_in_line [] r h f e = tt
none_in_line (u ∷ us) r h f e =
    let n = no_piece_here ((u ++ concat us) ++ newline ∷ []) (some (u ++ concat us)) e in
    let on = c_stop_on ((u ++ concat us) ++ newline ∷ []) (concat us ++ newline ∷ []) n (ap c_end (append_assoc u (concat us) (newline ∷ [])) ∙ c_complete u (concat us ++ newline ∷ []) f.0) in
    (line_starts_none (u ++ concat us) r h n, none_in_line us r h f.1 (ap is_empty (sym on) ∙ e))
  where
    some : (x : Text) → is_empty (x ++ newline ∷ []) ≡ false
    some [] = refl
    some (b ∷ x) = refl

include_lexed : (bytes rest : Text) → FitsToken (include_token bytes) rest → Lexed (include_token bytes) rest
include_lexed bytes [] f = absurd (false≢true f.1)
include_lexed bytes (b ∷ r) f =
    let k = both (begins_with (codes "#include") bytes) (each is_not_newline bytes && (has_no_piece bytes && is_line_end (include_behind (bytes ++ newline ∷ [])))) f.0 in
    let j = both (each is_not_newline bytes) (has_no_piece bytes && is_line_end (include_behind (bytes ++ newline ∷ []))) k.1 in
    let l = both (has_no_piece bytes) (is_line_end (include_behind (bytes ++ newline ∷ []))) j.1 in
    let m = both (b == newline) (begins_hash r) f.1 in
    let e : b ≡ newline = let n = m.0 in grind (arith, nat_tests) in
    subst (λ c. Lexed (include_token bytes) (c ∷ r)) (sym e) (go (include_behind (bytes ++ newline ∷ [])) refl l.1 k.0 j.0 l.0 m.1)
  where
    go : (o : Option Text) → include_behind (bytes ++ newline ∷ []) ≡ o → is_line_end o ≡ true → begins_with (codes "#include") bytes ≡ true → each is_not_newline bytes ≡ true → has_no_piece bytes ≡ true → begins_hash r ≡ true
        → Lexed (include_token bytes) (newline ∷ r)
    go None g h a n s d = absurd (false≢true h)
    go (Some rest) g h a n s d =
        let same : rest ≡ newline ∷ [] = same_text_is rest (newline ∷ []) h in
        let tail : IncludeTail (bytes ++ newline ∷ []) (newline ∷ []) = subst (IncludeTail (bytes ++ newline ∷ [])) same (include_sound (suc (length (bytes ++ newline ∷ []))) (bytes ++ newline ∷ []) rest g) in
        let whole : bytes ≡ concat tail.units = cut_last bytes (concat tail.units) newline tail.whole in
        record {
          item = λ fresh e. include fresh bytes (newline ∷ r) (e refl) (record { units = tail.units; whole = whole; free = units_before tail.units r tail.free; begin = a; inside = tail.inside; none = none_in_line tail.units r d tail.free (subst (λ t. has_no_piece t ≡ true) whole s); ends = refl });
          flat = each_flat is_not_newline plain bytes n;
          units = record {
            units = tail.units;
            are = sym whole;
            free = units_before tail.units r tail.free;
            none = none_in_line tail.units r d tail.free (subst (λ t. has_no_piece t ≡ true) whole s);
          };
        }
      where
        plain : (b : ℕ) → is_not_newline b ≡ true → (b == newline) ≡ false
        plain b h = turn_not (b == newline) h

pub token_lexed : (t : TokData) (rest : Text) → FitsToken t rest → Lexed t rest
token_lexed (word_token w) rest f = word_lexed w rest f
token_lexed (integer_token n t) rest f = integer_lexed n t rest f
token_lexed (character_token c) rest f = character_lexed c rest f
token_lexed (string_token s) rest f = string_lexed s rest f
token_lexed (punct_token p) rest f = punct_lexed p rest f
token_lexed (include_token bytes) rest f = include_lexed bytes rest f
token_lexed (emb_token n b) rest f = absurd f
token_lexed section_start rest f = absurd f
token_lexed section_end rest f = absurd f
token_lexed end_token rest f = absurd f
