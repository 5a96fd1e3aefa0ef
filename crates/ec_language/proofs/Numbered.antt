-- Tokens with and without a limit.
use Rattle.std.proofs.Common.{◌≡◌, ℕ, suc, ◌+◌, ◌≤◌, ◌<◌, Bool, true, false, ◌==◌, List, [], ◌∷◌, length, Option, Some, None, Result, Ok, Err, if◌then◌else◌, refl, ◌⊎◌, inl, inr, sym, ap, ◌∙◌, arith}
use Rattle.std.proofs.lemmas.Bool.{eq-eqb}
use Rattle.std.proofs.lemmas.Bool.Decides.{nat_tests}
use Rattle.ec_base.specs.declared.fault.FaultKind.{FaultKind}
use Rattle.ec_base.specs.declared.fault.LimitKind.TheVariants.{L2}
use Rattle.ec_base.specs.declared.stop.Stop.{Stop}
use Rattle.ec_base.specs.declared.stop.Stop.TheVariants.{Limit}
use Rattle.ec_ctypes.specs.declared.text.piece.Piece.{Piece}
use Rattle.ec_ctypes.specs.trees.Tokens.{TokData, end_token, TokenData}
use Rattle.ec_language.specs.Tokens.{Part, token, with_token, max_tokens, is_full, part_within, numbered_within, numbered, TokensWithin, join_strings, without_head}
use Rattle.ec_language.specs.ReadTokens.{ReadParts, all_parts}
use Rattle.ec_language.proofs.PieceParts.{all_complete}

abbrev Answer : Type 0
Answer = Result (List TokenData) Stop

abbrev passed : Answer
passed = Err (Limit L2)

-- With a limit the answer is the same, or the limit.
pub agree : (place last : ℕ) (parts : List Part) → (numbered place last parts ≡ numbered_within None place last parts) ⊎ (numbered place last parts ≡ passed)
agree place last [] = inl refl
agree place last (p ∷ parts) = on p.tok (agree (suc place) last parts)
  where
    on : (tok : Result TokData FaultKind) → (numbered (suc place) last parts ≡ numbered_within None (suc place) last parts) ⊎ (numbered (suc place) last parts ≡ passed)
        → (part_within (Some max_tokens) place p.line tok (numbered (suc place) last parts) ≡ part_within None place p.line tok (numbered_within None (suc place) last parts))
        ⊎ (part_within (Some max_tokens) place p.line tok (numbered (suc place) last parts) ≡ passed)
    on (Err kind) h = inl refl
    on (Ok tok) h = test (is_full (Some max_tokens) place) h
      where
        t : TokenData
        t = token tok p.line place

        test : (full : Bool) → (numbered (suc place) last parts ≡ numbered_within None (suc place) last parts) ⊎ (numbered (suc place) last parts ≡ passed)
            → ((if full then passed else with_token t (numbered (suc place) last parts)) ≡ with_token t (numbered_within None (suc place) last parts))
            ⊎ ((if full then passed else with_token t (numbered (suc place) last parts)) ≡ passed)
        test true h = inr refl
        test false (inl h) = inl (ap (with_token t) h)
        test false (inr h) = inr (ap (with_token t) h)

-- the tokens behind the first
rest_of : (t : TokenData) (r : Answer) (ts : List TokenData) → with_token t r ≡ Ok ts → (us : List TokenData) × (r ≡ Ok us) × (ts ≡ t ∷ us)
rest_of t (Ok us) ts e = (us, refl, (let same : t ∷ us ≡ ts = cc in sym same))
rest_of t (Err stop) ts e = absurd (cc)

stops_behind : (t : TokenData) (r : Answer) → with_token t r ≡ passed → r ≡ passed
stops_behind t (Ok us) e = absurd (cc)
stops_behind t (Err stop) e = e

-- there is the end at least
at_least_one : (place last : ℕ) (parts : List Part) (ts : List TokenData) → numbered_within None place last parts ≡ Ok ts → 0 < length ts
at_least_one place last [] ts e = let same : token end_token last place ∷ [] ≡ ts = cc in omega (arith, ap length same)
at_least_one place last (p ∷ parts) ts e = on p.tok e
  where
    on : (tok : Result TokData FaultKind) → part_within None place p.line tok (numbered_within None (suc place) last parts) ≡ Ok ts → 0 < length ts
    on (Err kind) e = absurd (cc)
    on (Ok tok) e = let r = rest_of (token tok p.line place) (numbered_within None (suc place) last parts) ts e in omega (arith, ap length r.2)

same_place : (place : ℕ) → (place == max_tokens) ≡ true → place ≡ max_tokens
same_place place is = grind (arith, nat_tests)

-- Where the limit is passed, there are more tokens.
pub many : (place last : ℕ) (parts : List Part) (ts : List TokenData) → numbered place last parts ≡ passed → numbered_within None place last parts ≡ Ok ts → suc max_tokens < place + length ts
many place last [] ts h e = absurd (cc)
many place last (p ∷ parts) ts h e = on p.tok h e (many (suc place) last parts)
  where
    on : (tok : Result TokData FaultKind) → part_within (Some max_tokens) place p.line tok (numbered (suc place) last parts) ≡ passed
        → part_within None place p.line tok (numbered_within None (suc place) last parts) ≡ Ok ts
        → ((us : List TokenData) → numbered (suc place) last parts ≡ passed → numbered_within None (suc place) last parts ≡ Ok us → suc max_tokens < suc place + length us)
        → suc max_tokens < place + length ts
    on (Err kind) h e ih = absurd (cc)
    on (Ok tok) h e ih = test (place == max_tokens) refl h
      where
        t : TokenData
        t = token tok p.line place

        r : (us : List TokenData) × (numbered_within None (suc place) last parts ≡ Ok us) × (ts ≡ t ∷ us)
        r = rest_of t (numbered_within None (suc place) last parts) ts e

        test : (full : Bool) → (place == max_tokens) ≡ full → (if full then passed else with_token t (numbered (suc place) last parts)) ≡ passed → suc max_tokens < place + length ts
        test true is h = omega (arith, same_place place is, at_least_one (suc place) last parts r.0 r.1, ap length r.2)
        test false is h = omega (arith, ih r.0 (stops_behind t (numbered (suc place) last parts) h) r.1, ap length r.2)

-- Where it isn't, there are no more.
pub few : (place last : ℕ) (parts : List Part) (ts : List TokenData) → place ≤ max_tokens → numbered place last parts ≡ Ok ts → place + length ts ≤ suc max_tokens
few place last [] ts le e = let same : token end_token last place ∷ [] ≡ ts = cc in omega (arith, ap length same)
few place last (p ∷ parts) ts le e = on p.tok e (few (suc place) last parts)
  where
    on : (tok : Result TokData FaultKind) → part_within (Some max_tokens) place p.line tok (numbered (suc place) last parts) ≡ Ok ts
        → ((us : List TokenData) → suc place ≤ max_tokens → numbered (suc place) last parts ≡ Ok us → suc place + length us ≤ suc max_tokens)
        → place + length ts ≤ suc max_tokens
    on (Err kind) e ih = absurd (cc)
    on (Ok tok) e ih = test (place == max_tokens) refl e
      where
        t : TokenData
        t = token tok p.line place

        test : (full : Bool) → (place == max_tokens) ≡ full → (if full then passed else with_token t (numbered (suc place) last parts)) ≡ Ok ts → place + length ts ≤ suc max_tokens
        test true is e = absurd (cc)
        test false is e =
            let other : place ≡ max_tokens → ⊥ = λ same. let full = eq-eqb place max_tokens same in cc in
            let r = rest_of t (numbered (suc place) last parts) ts e in
            omega (arith, ih r.0 (omega (arith, le, other)) r.1, ap length r.2)

-- ---- of pieces

abbrev pub pieces_numbered : Option ℕ → Bool → List Piece → Answer
pieces_numbered most written pieces = numbered_within most 0 (all_parts written 1 true 0 pieces).last (without_head written (join_strings (all_parts written 1 true 0 pieces).parts))

pub within_complete : (most : Option ℕ) (written : Bool) (pieces : List Piece) (answer : Answer) → TokensWithin most written pieces answer → answer ≡ pieces_numbered most written pieces
within_complete most written pieces answer are =
    are.3 ∙ ap (λ read. numbered_within most 0 read.last (without_head written (join_strings read.parts))) (sym (all_complete written 1 true 0 pieces are.0 are.1 are.2))

pub pieces_agree : (written : Bool) (pieces : List Piece) (a b : Answer) → TokensWithin None written pieces a → TokensWithin (Some max_tokens) written pieces b
    → (b ≡ a) ⊎ (b ≡ passed)
pieces_agree written pieces a b x y = go (agree 0 read.last (without_head written (join_strings read.parts)))
  where
    read : ReadParts
    read = all_parts written 1 true 0 pieces

    go : (pieces_numbered (Some max_tokens) written pieces ≡ pieces_numbered None written pieces) ⊎ (pieces_numbered (Some max_tokens) written pieces ≡ passed)
        → (b ≡ a) ⊎ (b ≡ passed)
    go (inl h) = inl (within_complete (Some max_tokens) written pieces b y ∙ h ∙ sym (within_complete None written pieces a x))
    go (inr h) = inr (within_complete (Some max_tokens) written pieces b y ∙ h)

-- pieces with too many tokens, and with few enough
pub pieces_many : (written : Bool) (pieces : List Piece) (ts : List TokenData) → TokensWithin (Some max_tokens) written pieces passed → TokensWithin None written pieces (Ok ts)
    → suc max_tokens < length ts
pieces_many written pieces ts x y =
    let read = all_parts written 1 true 0 pieces in
    let h = many 0 read.last (without_head written (join_strings read.parts)) ts
    (sym (within_complete (Some max_tokens) written pieces passed x)) (sym (within_complete None written pieces (Ok ts) y)) in
    omega (arith, h)

pub pieces_few : (written : Bool) (pieces : List Piece) (ts : List TokenData) → TokensWithin (Some max_tokens) written pieces (Ok ts) → length ts ≤ suc max_tokens
pieces_few written pieces ts x =
    let read = all_parts written 1 true 0 pieces in
    let h = few 0 read.last (without_head written (join_strings read.parts)) ts (omega arith) (sym (within_complete (Some max_tokens) written pieces (Ok ts) x)) in
    omega (arith, h)

-- Tokens within the limit are the tokens without it.
pub pieces_aside : (written : Bool) (pieces : List Piece) (ts : List TokenData) → TokensWithin (Some max_tokens) written pieces (Ok ts) → TokensWithin None written pieces (Ok ts)
pieces_aside written pieces ts x = (x.0, x.1, x.2, go (agree 0 x.1 (without_head written (join_strings x.0))))
  where
    go : (numbered 0 x.1 (without_head written (join_strings x.0)) ≡ numbered_within None 0 x.1 (without_head written (join_strings x.0)))
        ⊎ (numbered 0 x.1 (without_head written (join_strings x.0)) ≡ passed) → Ok ts ≡ numbered_within None 0 x.1 (without_head written (join_strings x.0))
    go (inl h) = x.3 ∙ h
    go (inr h) = absurd (let e : ◌≡◌ {A = Answer} (Ok ts) passed = x.3 ∙ h in cc)
