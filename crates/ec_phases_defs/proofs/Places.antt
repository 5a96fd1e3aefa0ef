-- Each statement among the pieces of a source has one token, and these stand in the order of the text.
use Rattle.std.proofs.Common.{◌≡◌, ◌≤◌, ℕ, suc, ◌+◌, Bool, true, false, List, [], ◌∷◌, ◌++◌, length, Option, Some, None, Result, Ok, Err, if◌then◌else◌, refl, sym, ap, ◌∙◌, subst, arith}
use Rattle.std.specs.Prelude.{⊤}
use Rattle.ec_base.specs.declared.fault.FaultKind.{FaultKind}
use Rattle.ec_base.specs.declared.fault.FaultKind.TheVariants.{F4, F9}
use Rattle.ec_base.specs.declared.fault.LimitKind.TheVariants.{L2}
use Rattle.ec_base.specs.declared.stop.Stop.{Stop}
use Rattle.ec_base.specs.declared.stop.Stop.TheVariants.{Limit}
use Rattle.ec_ctypes.specs.declared.text.piece.Piece.{Piece}
use Rattle.ec_ctypes.specs.declared.types.arith.Arith.{Arith}
use Rattle.ec_ctypes.specs.trees.Tokens.{TokData, emb_token, string_token, section_start, section_end, TokenData}
use Rattle.ec_language.specs.Letters.{Text}
use Rattle.ec_language.specs.Lexemes.{Class, word, number, character, string, punct, left_out, comment, is_fresh_after}
use Rattle.ec_language.specs.Tokens.{Part, Item, blank, match, include, directive, last_directive, Step, CParts, end, item, bad, part_at, is_left_out_word, integer_tok, character_tok, string_tok, token_of, PieceParts, c_text, statement, opening, closing, declaration, embedded, fault_at, statements_behind, AllParts, join_two, join_first, join_strings, without_head, token, with_token, max_tokens, is_full, part_within, numbered_within, Tokens}
use Rattle.ec_language.specs.Constants.{integer_constant, character_value, string_value}
use Rattle.ec_host_defs.specs.Statements.{is_statement, statement_places}
use Rattle.ec_phases_defs.specs.Laws.{statement_count}

-- ---- how many parts are tokens of statements

abbrev counting : Result TokData FaultKind → ℕ → ℕ
counting (Ok (emb_token n executable)) k = suc k
counting (Ok _) k = k
counting (Err kind) k = k

abbrev count_in : List Part → ℕ
count_in [] = 0
count_in (p ∷ parts) = counting p.tok (count_in parts)

counting_more : (tok : Result TokData FaultKind) (k m : ℕ) → counting tok (k + m) ≡ counting tok k + m
counting_more (Ok (emb_token n executable)) k m = omega arith
counting_more (Ok _) k m = refl
counting_more (Err kind) k m = refl

count_both : (parts others : List Part) → count_in (parts ++ others) ≡ count_in parts + count_in others
count_both [] others = omega arith
count_both (p ∷ parts) others = ap (counting p.tok) (count_both parts others) ∙ counting_more p.tok (count_in parts) (count_in others)

-- ---- C text has none

no_token : (line : ℕ) (class : Class) (text : Text) → count_in (part_at line (token_of class text)) ≡ 0
no_token line word text = go (is_left_out_word text)
  where
    go : (b : Bool) → count_in (part_at line (Some (if b then Err F9 else Ok (TokData.word_token text)))) ≡ 0
    go true = refl
    go false = refl
no_token line number text = go (integer_constant text)
  where
    go : (o : Option (ℕ × Arith)) → count_in (part_at line (Some (integer_tok o))) ≡ 0
    go None = refl
    go (Some p) = refl
no_token line character text = go (character_value text)
  where
    go : (o : _) → count_in (part_at line (Some (character_tok o))) ≡ 0
    go None = refl
    go (Some p) = refl
no_token line string text = go (string_value text)
  where
    go : (o : Option Text) → count_in (part_at line (Some (string_tok o))) ≡ 0
    go None = refl
    go (Some p) = refl
no_token line (punct p) text = refl
no_token line left_out text = refl
no_token line comment text = refl

no_item : (line : ℕ) (fresh : Bool) (u rest : Text) (tok : Option (Result TokData FaultKind)) (step : Step) → Item false fresh u rest tok step
    → count_in (part_at line tok) ≡ 0
no_item line fresh u rest tok step (blank f t r l b) = refl
no_item line fresh u rest tok step (match f t r class k long e) = ap (λ o. count_in (part_at line o)) e ∙ no_token line class u
no_item line fresh u rest tok step (include f t r e l) = refl
no_item line fresh u rest tok step (directive f t l r e w g h) = refl
no_item line fresh u rest tok step (last_directive f t r e w g h) = refl

no_statements : (line : ℕ) (fresh : Bool) (text : Text) (parts : List Part) (last : ℕ) → CParts false line fresh text parts last → count_in parts ≡ 0
no_statements line fresh text parts last (end l f) = refl
no_statements line fresh text parts last (item l f t u rest tok step ps others e g i are h) =
    let a = no_item line fresh u rest tok step i in
    let b = no_statements _ _ _ _ _ are in
    let c = count_both (part_at line tok) others in
    ap count_in h ∙ c ∙ omega (arith, a, b)
no_statements line fresh text parts last (bad l f t ps e n h) = ap count_in h

-- ---- pieces

abbrev one_if : Bool → ℕ
one_if true = 1
one_if false = 0

no_fault : (o : Option ℕ) → count_in (fault_at o F4) ≡ 0
no_fault None = refl
no_fault (Some line) = refl

wrapped : (line last : ℕ) (inner : List Part) → count_in inner ≡ 0
    → count_in (record { line = line; tok = Ok section_start } ∷ inner ++ record { line = last; tok = Ok section_end } ∷ []) ≡ 0
wrapped line last inner e = count_both inner (record { line = last; tok = Ok section_end } ∷ []) ∙ omega (arith, e)

piece_count : (line : ℕ) (fresh : Bool) (n : ℕ) (p : Piece) (parts : List Part) (last : ℕ) → PieceParts false line fresh n p parts last
    → count_in parts ≡ one_if (is_statement p.kind)
piece_count line fresh n p parts last (c_text ps l kind are) = no_statements _ _ _ _ _ are ∙ sym (ap (λ k. one_if (is_statement k)) kind)
piece_count line fresh n p parts last (statement units ps l kind w are e f) = ap count_in e ∙ ap suc (no_fault _) ∙ sym (ap (λ k. one_if (is_statement k)) kind)
piece_count line fresh n p parts last (opening ps l kind w e f) = ap count_in e ∙ sym (ap (λ k. one_if (is_statement k)) kind)
piece_count line fresh n p parts last (closing ps l kind w e f) = ap count_in e ∙ sym (ap (λ k. one_if (is_statement k)) kind)
piece_count line fresh n p parts last (declaration found ps inner l kind w are e) =
    ap count_in e ∙ wrapped line last inner (no_statements _ _ _ _ _ are) ∙ sym (ap (λ k. one_if (is_statement k)) kind)
piece_count line fresh n p parts last (embedded ps l kind w e f) = absurd (cc (w))

more_count : (b : Bool) (k : ℕ) → one_if b + k ≡ elim b as (λ _. ℕ) [ true ↦ suc k | false ↦ k ]
more_count true k = omega arith
more_count false k = omega arith

all_count : (line : ℕ) (fresh : Bool) (n : ℕ) (pieces : List Piece) (parts : List Part) (last : ℕ) → AllParts false line fresh n pieces parts last
    → count_in parts ≡ statement_count pieces
all_count line fresh n [] parts last are = ap count_in are.0
all_count line fresh n (p ∷ ps) parts last are =
    let a = piece_count line fresh n p are.0 are.2 are.4 in
    let b = all_count are.2 (is_fresh_after fresh p.bytes) (statements_behind n p.kind) ps are.1 last are.5 in
    ap count_in are.3 ∙ count_both are.0 are.1 ∙ ap (λ k. k + count_in are.1) a ∙ ap (λ k. one_if (is_statement p.kind) + k) b ∙ more_count (is_statement p.kind) (statement_count ps)

-- ---- joined strings

two_join : (p q : Part) (parts : List Part) (a b : Result TokData FaultKind) → p.tok ≡ a → q.tok ≡ b → count_in (join_two p a q b parts) ≡ counting a (counting b (count_in parts))
two_join p q parts (Ok (string_token s)) (Ok (string_token t)) e f = refl
two_join p q parts a b e f = λ i. counting (e i) (counting (f i) (count_in parts))

first_joins : (p : Part) (parts : List Part) → count_in (join_first p parts) ≡ counting p.tok (count_in parts)
first_joins p [] = refl
first_joins p (q ∷ parts) = two_join p q parts p.tok q.tok refl refl

all_join : (parts : List Part) → count_in (join_strings parts) ≡ count_in parts
all_join [] = refl
all_join (p ∷ parts) = first_joins p (join_strings parts) ∙ ap (counting p.tok) (all_join parts)

no_head : (parts : List Part) → without_head false parts ≡ parts
no_head [] = refl
no_head (p ∷ []) = refl
no_head (p ∷ q ∷ parts) = refl

-- ---- tokens

-- the tokens behind the first
rest_ok : (t : TokenData) (r : Result (List TokenData) Stop) (ts : List TokenData) → with_token t r ≡ Ok ts → (us : List TokenData) × (r ≡ Ok us) × (ts ≡ t ∷ us)
rest_ok t (Ok us) ts e = let same : t ∷ us ≡ ts = cc in (us, refl, sym same)
rest_ok t (Err stop) ts e = absurd (cc)

-- The places of numbers, the first of which is no less than this one, and each greater than the one before it.
abbrev pub Rising : ℕ → List ℕ → Type 0
Rising place [] = ⊤
Rising place (n ∷ ns) = (place ≤ n) × Rising (suc n) ns

rising_from : (a b : ℕ) (ns : List ℕ) → a ≤ b → Rising b ns → Rising a ns
rising_from a b [] h r = tt
rising_from a b (n ∷ ns) h r = let first = r.0 in (omega (arith, h, first), r.1)

-- the places of tokens that are numbered from this place on: as many as parts that are statements, and rising
Numbered : ℕ → ℕ → List TokenData → Type 0
Numbered place count ts = (length (statement_places ts) ≡ count) × Rising place (statement_places ts)

one_numbered : (tok : TokData) (line place k : ℕ) (us : List TokenData) → Numbered (suc place) k us → Numbered place (counting (Ok tok) k) (token tok line place ∷ us)
unfolding Numbered
one_numbered (emb_token n executable) line place k us h = (ap suc h.0, (omega arith, h.1))
one_numbered _ line place k us h = (h.0, rising_from place (suc place) (statement_places us) (omega arith) h.1)

all_numbered : (most : Option ℕ) (place last : ℕ) (parts : List Part) (ts : List TokenData) → numbered_within most place last parts ≡ Ok ts → Numbered place (count_in parts) ts
unfolding Numbered
all_numbered most place last [] ts e = let same : token TokData.end_token last place ∷ [] ≡ ts = cc in subst (Numbered place 0) same (refl, tt)
all_numbered most place last (p ∷ parts) ts e = on p.tok e (all_numbered most (suc place) last parts)
  where
    on : (tok : Result TokData FaultKind) → part_within most place p.line tok (numbered_within most (suc place) last parts) ≡ Ok ts
        → ((us : List TokenData) → numbered_within most (suc place) last parts ≡ Ok us → Numbered (suc place) (count_in parts) us)
        → Numbered place (counting tok (count_in parts)) ts
    on (Err kind) e ih = absurd (cc)
    on (Ok tok) e ih = test (is_full most place) e
      where
        test : (full : Bool) → (if full then Err (Limit L2) else with_token (token tok p.line place) (numbered_within most (suc place) last parts)) ≡ Ok ts
            → Numbered place (counting (Ok tok) (count_in parts)) ts
        test true e = absurd (cc)
        test false e =
            let r = rest_ok (token tok p.line place) (numbered_within most (suc place) last parts) ts e in
            subst (Numbered place (counting (Ok tok) (count_in parts))) (sym r.2) (one_numbered tok p.line place (count_in parts) r.0 (ih r.0 r.1))

pub are_numbered : (pieces : List Piece) (ts : List TokenData) → Tokens false pieces ts → (length (statement_places ts) ≡ statement_count pieces) × Rising 0 (statement_places ts)
unfolding Numbered
are_numbered pieces ts are =
    let n = all_numbered (Some max_tokens) 0 are.1 (without_head false (join_strings are.0)) ts (sym are.3) in
    (n.0 ∙ ap count_in (no_head (join_strings are.0)) ∙ all_join are.0 ∙ all_count 1 true 0 pieces are.0 are.1 are.2, n.1)
