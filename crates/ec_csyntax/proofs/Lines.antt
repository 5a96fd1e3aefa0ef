-- The line of the token at which so many are left.
use Rattle.std.proofs.Common.{◌≡◌, ℕ, suc, ◌-◌, ◌<◌, ◌≤◌, Bool, true, false, cond, eqb, List, [], ◌∷◌, length, get_or, refl, sym, ap, ◌∙◌, arith}
use Rattle.std.proofs.lemmas.Bool.{eqb-true, eqb-false}
use Rattle.std.proofs.lemmas.Bool.Decides.{nat_tests}
use Rattle.ec_base.specs.declared.line.Line.{Line}
use Rattle.ec_ctypes.specs.declared.text.token.Token.{Token}
use Rattle.ec_ctypes.specs.views.Tokens.{tok_view, tokens_view}
use Rattle.ec_language.specs.Grammar.{PlacedTokens}
use Rattle.ec_language.specs.Productions.{placed_from, section_behind}
use Rattle.ec_grammar.specs.ReadUnit.{line_at}
use Rattle.ec_cursor.proofs.SeenTokens.{placed_length}

pub line_at_none : (w : PlacedTokens) → line_at w 0 ≡ record { 0 = 0 }
line_at_none [] = refl
line_at_none (t ∷ w) = let e = line_at_none w in grind (arith, nat_tests)

pub line_at_many : (w : PlacedTokens) (n : ℕ) → length w < n → line_at w n ≡ record { 0 = 0 }
line_at_many [] n many = refl
line_at_many (t ∷ w) n many = let e = line_at_many w n (omega arith) in grind (arith, nat_tests)

by_test : (b : Bool) (t : Token) (ts : List Token) (n : ℕ) (d : Token) (rest : Line) → b ≡ eqb (suc (length ts)) n → n ≤ suc (length ts)
    → (n ≤ length ts → rest ≡ (get_or ts (length ts - n) d).line) → cond b t.line rest ≡ (get_or (t ∷ ts) (suc (length ts) - n) d).line
by_test true t ts n d rest e most then =
    let same = eqb-true (suc (length ts)) n (sym e) in
    let first : suc (length ts) - n ≡ 0 = omega (arith, same) in
    ap (λ i. (get_or (t ∷ ts) i d).line) (sym first)
by_test false t ts n d rest e most then =
    let differs = eqb-false (suc (length ts)) n (sym e) in
    let fewer : n ≤ length ts = omega (arith, differs) in
    let next : suc (length ts) - n ≡ suc (length ts - n) = omega arith in
    then fewer ∙ ap (λ i. (get_or (t ∷ ts) i d).line) (sym next)

pub line_at_some : (section : Bool) (ts : List Token) (n : ℕ) (d : Token) → 0 < n → n ≤ length ts
    → line_at (placed_from section (tokens_view ts)) n ≡ (get_or ts (length ts - n) d).line
line_at_some section [] n d some most = absurd (omega arith)
line_at_some section (t ∷ ts) n d some most =
    let behind = section_behind section (tok_view t.tok) in
    ap (λ m. cond (eqb m n) t.line (line_at (placed_from behind (tokens_view ts)) n)) (placed_length section (t ∷ ts))
    ∙ by_test (eqb (suc (length ts)) n) t ts n d _ refl most (λ fewer. line_at_some behind ts n d some fewer)
