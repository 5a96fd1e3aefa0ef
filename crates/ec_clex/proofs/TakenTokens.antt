-- Tokens taken one after the other.
use Rattle.std.proofs.Common.{◌≡◌, ℕ, false, List, [], ◌∷◌, ◌++◌, length, get_or, Option, Some, None, Result, Ok, refl, sym, ap, ◌∙◌, subst, arith}
use Rattle.std.specs.Prelude.{codes, option_map, ◌&&◌}
use Rattle.ec_ctypes.specs.declared.text.token.Tok.{Tok}
use Rattle.ec_ctypes.specs.declared.text.token.Tok.TheVariants as tok
use Rattle.ec_ctypes.specs.declared.text.token.Token.{Token}
use Rattle.ec_ctypes.specs.trees.Tokens.{TokData, string_token, TokenData}
use Rattle.ec_ctypes.specs.views.Tokens.{tok_view, token_view, tokens_view}
use Rattle.ec_base.specs.declared.stop.Stop.{Stop}
use Rattle.ec_language.specs.Tokens.{is_include_of}
use Rattle.ec_clex.specs.Lexing.{Taken, join_tok, join_last, is_head, added, pushed}

pub view_append : (ts us : List Token) → tokens_view (ts ++ us) ≡ tokens_view ts ++ tokens_view us
view_append [] us = refl
view_append (t ∷ ts) us = ap (λ (w : List TokenData). token_view t ∷ w) (view_append ts us)

-- what becomes of the last token
abbrev with_tok : List TokenData → TokenData → TokData → List TokenData
with_tok ts t tok = ts ++ record { tok = tok; line = t.line; place = t.place } ∷ []

join_end : (ts : List TokenData) (t : TokenData) (tok : TokData) → join_last (ts ++ t ∷ []) tok ≡ option_map (with_tok ts t) (join_tok t.tok tok)
join_end [] t tok = refl
join_end (u ∷ []) t tok = step (join_tok t.tok tok)
  where
    step : (o : Option TokData) → option_map (λ (w : List TokenData). u ∷ w) (option_map (with_tok [] t) o) ≡ option_map (with_tok (u ∷ []) t) o
    step None = refl
    step (Some x) = refl
join_end (u ∷ v ∷ ts) t tok = ap (option_map (λ (w : List TokenData). u ∷ w)) (join_end (v ∷ ts) t tok) ∙ step (join_tok t.tok tok)
  where
    step : (o : Option TokData) → option_map (λ (w : List TokenData). u ∷ w) (option_map (with_tok (v ∷ ts) t) o) ≡ option_map (with_tok (u ∷ v ∷ ts) t) o
    step None = refl
    step (Some x) = refl

pub join_is : (ts : List Token) (t : Token) (tok : TokData) → join_last (tokens_view (ts ++ t ∷ [])) tok ≡ option_map (with_tok (tokens_view ts) (token_view t)) (join_tok (tok_view t.tok) tok)
join_is ts t tok = ap (λ (w : List TokenData). join_last w tok) (view_append ts (t ∷ [])) ∙ join_end (tokens_view ts) (token_view t) tok

pub not_first : (ts : List Token) (x : Token) → length ts ≡ 2 → x ≡ get_or ts 0 x → is_include_of (codes "#include <ecpglib.h>") (Ok (tok_view x.tok)) ≡ false → false ≡ is_head (tokens_view ts)
not_first [] x n e h = absurd (omega arith)
not_first (t ∷ []) x n e h = absurd (omega arith)
not_first (t ∷ u ∷ []) x n e h =
    let first : is_include_of (codes "#include <ecpglib.h>") (Ok (tok_view t.tok)) ≡ false = subst (λ (y : Token). is_include_of (codes "#include <ecpglib.h>") (Ok (tok_view y.tok)) ≡ false) e h in
    sym (ap (λ b. b && is_include_of (codes "#include <sqlca.h>") (Ok (tok_view u.tok))) first)
not_first (t ∷ u ∷ v ∷ ts) x n e h = absurd (omega arith)

pub joined_string : (ts : List Token) (last : Token) (new : List Token) (bytes more old : List ℕ) → last.tok ≡ tok.Str old → bytes ≡ old ++ more
    → new ≡ ts ++ record { tok = tok.Str bytes; line = last.line; place = last.place } ∷ [] → Some (tokens_view new) ≡ join_last (tokens_view (ts ++ last ∷ [])) (string_token more)
joined_string ts last new bytes more old e f g =
    let added : Token = record { tok = tok.Str bytes; line = last.line; place = last.place } in
    ap (λ (w : List Token). Some (tokens_view w)) g ∙ ap (λ (w : List TokenData). Some w) (view_append ts (added ∷ []))
    ∙ ap (λ (b : List ℕ). Some (with_tok (tokens_view ts) (token_view last) (string_token b))) f
    ∙ ap (λ (k : Tok). option_map (with_tok (tokens_view ts) (token_view last)) (join_tok (tok_view k) (string_token more))) (sym e) ∙ sym (join_is ts last (string_token more))

other_apart : (k : Tok) (more : List ℕ) → ((x : List ℕ) → k ≡ tok.Str x → ⊥) → join_tok (tok_view k) (string_token more) ≡ None
other_apart (tok.Str s) more h = absurd (h s refl)
other_apart _ more h = refl

pub not_joined : (ts : List Token) (last : Token) (more : List ℕ) → ((x : List ℕ) → last.tok ≡ tok.Str x → ⊥) → None ≡ join_last (tokens_view (ts ++ last ∷ [])) (string_token more)
not_joined ts last more h = sym (join_is ts last (string_token more) ∙ ap (option_map (with_tok (tokens_view ts) (token_view last))) (other_apart last.tok more h))

apart_tok : (k : Tok) → ((x : List ℕ) → k ≡ tok.Str x → ⊥) → (t : TokenData) → join_tok t.tok (tok_view k) ≡ None
apart_tok k h t = step t.tok k h
  where
    step : (a : TokData) (k : Tok) → ((x : List ℕ) → k ≡ tok.Str x → ⊥) → join_tok a (tok_view k) ≡ None
    step (string_token a) (tok.Str s) h = absurd (h s refl)
    step (string_token a) _ h = refl
    step _ _ h = refl

apart_last : (k : Tok) → ((x : List ℕ) → k ≡ tok.Str x → ⊥) → (ts : List TokenData) → join_last ts (tok_view k) ≡ None
apart_last k h [] = refl
apart_last k h (t ∷ []) = ap (option_map (λ joined. record { tok = joined; line = t.line; place = t.place } ∷ [])) (apart_tok k h t)
apart_last k h (t ∷ u ∷ ts) = ap (option_map (λ (others : List TokenData). t ∷ others)) (apart_last k h (u ∷ ts))

pub other_pushed : (s : Taken) (line : ℕ) (k : Tok) → ((x : List ℕ) → k ≡ tok.Str x → ⊥) → added s line (tok_view k) ≡ pushed s line (tok_view k)
other_pushed s line k h =
    sym (ap (λ (o : Option (List TokenData)). elim o as (λ _. Result Taken Stop) [ Some done ↦ Ok (record { head = s.head; done = done }) | None ↦ added s line (tok_view k) ]) (apart_last k h s.done))
