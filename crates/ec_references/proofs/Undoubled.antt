-- The rest of a text of which a quote may have been passed.
use Rattle.std.proofs.Common.{◌≡◌, ℕ, Bool, true, false, [], ◌∷◌, drop, refl, sym, ap, ◌∙◌, ◌+◌, ◌++◌, ◌<◌, suc, length, get_or, add-one, append_assoc, drop-drop, drop-cons}
use Rattle.std.specs.Prelude.{◌==◌}
use Rattle.ec_language.specs.Letters.{Text, single_quote}
use Rattle.ec_embedded.specs.References.{undoubled}

abbrev pub behind : Bool → Text → Text
behind true t = undoubled (drop 1 t)
behind false t = undoubled t

pub undoubled_step : (b : ℕ) (bs : Text) → undoubled (b ∷ bs) ≡ b ∷ behind (b == single_quote) bs
undoubled_step b [] = go (b == single_quote)
  where
    go : (t : Bool) → b ∷ [] ≡ b ∷ behind t []
    go true = refl
    go false = refl
undoubled_step b (c ∷ bs) = go (b == single_quote)
  where
    go : (t : Bool) → elim t as (λ _. Text) [ true ↦ b ∷ undoubled bs | false ↦ b ∷ undoubled (c ∷ bs) ] ≡ b ∷ behind t (c ∷ bs)
    go true = refl
    go false = refl

pub passed_step : (t : Text) (i : ℕ) → behind true (drop i t) ≡ behind false (drop (i + 1) t)
passed_step t i = ap undoubled (drop-drop 1 i t)

pub fresh_step : (t : Text) (i : ℕ) → i < length t → behind false (drop i t) ≡ get_or t i 0 ∷ behind (get_or t i 0 == single_quote) (drop (i + 1) t)
fresh_step t i h = ap undoubled (drop-cons t i 0 h) ∙ undoubled_step (get_or t i 0) (drop (suc i) t) ∙ ap (λ n. get_or t i 0 ∷ behind (get_or t i 0 == single_quote) (drop n t)) (sym (add-one i))

-- a step of a loop that has passed a quote, and of one that has not
pub doubled_on : (t done now : Text) (i : ℕ) (d e : Bool) → d ≡ true → e ≡ false → now ≡ done → undoubled t ≡ done ++ behind d (drop i t) → undoubled t ≡ now ++ behind e (drop (i + 1) t)
doubled_on t done now i d e p q s h = h ∙ ap (λ x. done ++ behind x (drop i t)) p ∙ ap (λ x. done ++ x) (passed_step t i) ∙ (λ k. sym s k ++ behind (sym q k) (drop (i + 1) t))

pub fresh_on : (t done now : Text) (i : ℕ) (d e : Bool) → i < length t → d ≡ false → e ≡ (get_or t i 0 == single_quote) → now ≡ done ++ get_or t i 0 ∷ [] → undoubled t ≡ done ++ behind d (drop i t) → undoubled t ≡ now ++ behind e (drop (i + 1) t)
fresh_on t done now i d e l p q s h =
    h ∙ ap (λ x. done ++ behind x (drop i t)) p ∙ ap (λ x. done ++ x) (fresh_step t i l)
    ∙ sym (append_assoc done (get_or t i 0 ∷ []) (behind (get_or t i 0 == single_quote) (drop (i + 1) t)))
    ∙ (λ k. sym s k ++ behind (sym q k) (drop (i + 1) t))
