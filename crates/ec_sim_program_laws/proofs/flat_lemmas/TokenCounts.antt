-- A text has no more tokens than the limit and the end.
use Rattle.std.proofs.Common.{◌≡◌, ◌≢◌, ◌≤◌, ℕ, suc, ◌+◌, ◌==◌, Bool, true, false, List, [], ◌∷◌, length, Some, Result, Ok, Err, refl, sym, ap, arith, if◌then◌else◌}
use Rattle.std.proofs.lemmas.Bool.{eqb-false}
use Rattle.ec_base.specs.declared.fault.FaultKind.{FaultKind}
use Rattle.ec_base.specs.declared.fault.LimitKind.TheVariants.{L2}
use Rattle.ec_base.specs.declared.stop.Stop.{Stop}
use Rattle.ec_base.specs.declared.stop.Stop.TheVariants.{Limit}
use Rattle.ec_ctypes.specs.declared.text.piece.Piece.{Piece}
use Rattle.ec_ctypes.specs.trees.Tokens.{TokData, TokenData, end_token}
use Rattle.ec_language.specs.Tokens.{Part, join_strings, without_head, token, with_token, max_tokens, part_within, numbered_within, Tokens}

rest_ok : (t : TokenData) (r : Result (List TokenData) Stop) (ts : List TokenData) → with_token t r ≡ Ok ts → (us : List TokenData) × (r ≡ Ok us) × (ts ≡ t ∷ us)
rest_ok t (Ok us) ts e = let same : t ∷ us ≡ ts = cc in (us, refl, sym same)
rest_ok t (Err stop) ts e = absurd (cc)

not_full : (place most : ℕ) → (place == most) ≡ false → place ≤ most → suc place ≤ most
not_full place most e h = let d : place ≢ most = eqb-false place most e in omega (arith, d, h)

one_more : (t : TokenData) (ts us : List TokenData) (place most : ℕ) → ts ≡ t ∷ us → length us + suc place ≤ suc most → length ts + place ≤ suc most
one_more t ts us place most e h = let l : length ts ≡ suc (length us) = ap length e in omega (arith, l, h)

few_numbered : (most place last : ℕ) (parts : List Part) (ts : List TokenData) → place ≤ most → numbered_within (Some most) place last parts ≡ Ok ts → length ts + place ≤ suc most
few_numbered most place last [] ts h e =
    let same : token end_token last place ∷ [] ≡ ts = cc in one_more (token end_token last place) ts [] place most (sym same) (omega (arith, h))
few_numbered most place last (p ∷ parts) ts h e = on p.tok e (few_numbered most (suc place) last parts)
  where
    on : (k : Result TokData FaultKind) → part_within (Some most) place p.line k (numbered_within (Some most) (suc place) last parts) ≡ Ok ts
        → ((us : List TokenData) → suc place ≤ most → numbered_within (Some most) (suc place) last parts ≡ Ok us → length us + suc place ≤ suc most)
        → length ts + place ≤ suc most
    on (Err kind) e ih = absurd (cc)
    on (Ok k) e ih = test (place == most) refl e
      where
        test : (full : Bool) → (place == most) ≡ full → (if full then Err (Limit L2) else with_token (token k p.line place) (numbered_within (Some most) (suc place) last parts)) ≡ Ok ts → length ts + place ≤ suc most
        test true f e = absurd (cc)
        test false f e =
            let r = rest_ok (token k p.line place) (numbered_within (Some most) (suc place) last parts) ts e in
            one_more (token k p.line place) ts r.0 place most r.2 (ih r.0 (not_full place most f h) r.1)

pub few_tokens : (pieces : List Piece) (ts : List TokenData) → Tokens false pieces ts → length ts ≤ suc max_tokens
few_tokens pieces ts are =
    let h : length ts + 0 ≤ suc max_tokens = few_numbered max_tokens 0 are.1 (without_head false (join_strings are.0)) ts (omega arith) (sym are.3) in
    omega (arith, h)
