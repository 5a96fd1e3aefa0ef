-- Words that are not the first keywords of a list.
use Rattle.std.proofs.Common.{◌≡◌, Bool, true, false, List, ◌∷◌, sym, ap, ◌∙◌}
use Rattle.ec_language.specs.Letters.{Text, same_text}
use Rattle.ec_grammar.specs.Kinds.{Keyword, kind_among}

pub no_keyword : (a : Keyword) (rest : List Keyword) (w : Text) → false ≡ same_text w a.text → kind_among (a ∷ rest) w ≡ kind_among rest w
no_keyword a rest w e = sym (ap (λ (t : Bool). elim t [ true ↦ a.kind | false ↦ kind_among rest w ]) e)

pub behind_four : (a b c d : Keyword) (rest : List Keyword) (w : Text)
    → false ≡ same_text w a.text → false ≡ same_text w b.text → false ≡ same_text w c.text → false ≡ same_text w d.text
    → kind_among rest w ≡ kind_among (a ∷ b ∷ c ∷ d ∷ rest) w
behind_four a b c d rest w p q r s =
    sym (no_keyword a (b ∷ c ∷ d ∷ rest) w p ∙ no_keyword b (c ∷ d ∷ rest) w q ∙ no_keyword c (d ∷ rest) w r ∙ no_keyword d rest w s)
