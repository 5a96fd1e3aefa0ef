-- The words by which a statement is left out, as the code looks at them.
use Rattle.ec_language.specs.Letters.{Text, same_word}
use Rattle.std.proofs.Common.{◌≡◌, List, Bool, true, false, [], ◌∷◌, refl, ap, ◌∙◌, codes}
use Rattle.std.specs.Prelude.{◌&&◌, ◌||◌}
use Rattle.ec_embedded.specs.LeftOut.{begin_with, first_is_among, left_out_words, names_then, names_area, is_left_out}
use Rattle.ec_embedded.specs.ServerText.{Tokens}
use Rattle.ec_embedded.specs.Terminals.{Sort, word, fitting, whole, number, character, quote, name, mark, sort_of, among, all, on_words, passes, is, keyword, any_word, is_word_among}
use Rattle.ec_read_statement.specs.left_out.Words.{includes_file, prepares_as, is_other_kind, declares_other, deallocates_all, is_left_out_by_words, may_use}

never : (x : Bool) → false ≡ (x && false)
never true = refl
never false = refl

nor : (x y : Bool) → false ≡ ((x && false) && y)
nor true y = refl
nor false y = refl

among_words : (s : Sort) (gap : Bool) (ws : List Text) (b : Text) → passes (on_words (among ws) s gap) b ≡ (passes (on_words all s gap) b && is_word_among ws b)
among_words word gap ws b = refl
among_words fitting gap ws b = refl
among_words whole gap ws b = refl
among_words number gap ws b = refl
among_words character gap ws b = refl
among_words quote gap ws b = refl
among_words name gap ws b = refl
among_words mark gap ws b = refl

one_of : (x y : Bool) → ((elim x as (λ _. Bool) [ true ↦ true | false ↦ false ]) || (elim y as (λ _. Bool) [ true ↦ true | false ↦ false ])) ≡ elim x as (λ _. Bool) [ true ↦ true | false ↦ elim y as (λ _. Bool) [ true ↦ true | false ↦ false ] ]
one_of true y = refl
one_of false y = refl

two_words : (s : Sort) (gap : Bool) (v w b : Text) → (passes (on_words (among (v ∷ [])) s gap) b || passes (on_words (among (w ∷ [])) s gap) b) ≡ (passes (on_words all s gap) b && is_word_among (v ∷ w ∷ []) b)
two_words word gap v w b = one_of (same_word v b) (same_word w b)
two_words fitting gap v w b = refl
two_words whole gap v w b = refl
two_words number gap v w b = refl
two_words character gap v w b = refl
two_words quote gap v w b = refl
two_words name gap v w b = refl
two_words mark gap v w b = refl

prepares_is : (w : Tokens) → prepares_as w ≡ names_then (codes "PREPARE") (codes "AS" ∷ []) w
prepares_is [] = refl
prepares_is (a ∷ []) = nor (is (keyword (codes "PREPARE")) a) (first_is_among (codes "AS" ∷ []) [])
prepares_is (a ∷ b ∷ []) = never (is (keyword (codes "PREPARE")) a && is any_word b)
prepares_is (a ∷ b ∷ c ∷ w) = ap (λ x. (is (keyword (codes "PREPARE")) a && is any_word b) && x) (among_words (sort_of c) c.gap (codes "AS" ∷ []) c.bytes)

nothing_behind : (x y : Bool) → (x && false) ≡ ((x && false) && y)
nothing_behind true y = refl
nothing_behind false y = refl

grouped : (x y z : Bool) → (x && (y && z)) ≡ ((x && y) && z)
grouped true y z = refl
grouped false y z = refl

declares_is : (w : Tokens) → declares_other w ≡ names_then (codes "DECLARE") (codes "STATEMENT" ∷ codes "BINARY" ∷ []) w
declares_is [] = refl
declares_is (a ∷ []) = nothing_behind (is (keyword (codes "DECLARE")) a) (first_is_among (codes "STATEMENT" ∷ codes "BINARY" ∷ []) [])
declares_is (a ∷ b ∷ []) = grouped (is (keyword (codes "DECLARE")) a) (is any_word b) false
declares_is (a ∷ b ∷ c ∷ w) = grouped (is (keyword (codes "DECLARE")) a) (is any_word b) (is_other_kind c) ∙ ap (λ x. (is (keyword (codes "DECLARE")) a && is any_word b) && x) (two_words (sort_of c) c.gap (codes "STATEMENT") (codes "BINARY") c.bytes)

both_words : (x y : Bool) → (x && y) ≡ elim x as (λ _. Bool) [ true ↦ elim y as (λ _. Bool) [ true ↦ true | false ↦ false ] | false ↦ false ]
both_words true true = refl
both_words true false = refl
both_words false y = refl

alone : (x : Bool) → false ≡ elim x as (λ _. Bool) [ true ↦ false | false ↦ false ]
alone true = refl
alone false = refl

deallocates_is : (w : Tokens) → deallocates_all w ≡ begin_with (codes "DEALLOCATE" ∷ codes "ALL" ∷ []) w
deallocates_is [] = refl
deallocates_is (a ∷ []) = alone (is (keyword (codes "DEALLOCATE")) a)
deallocates_is (a ∷ b ∷ w) = both_words (is (keyword (codes "DEALLOCATE")) a) (is (keyword (codes "ALL")) b)

pub left_out_is : (w : Tokens) → (is_left_out_by_words w || names_area (may_use w) 0 false w) ≡ is_left_out w
left_out_is w =
    let p = prepares_is w in let d = declares_is w in let e = deallocates_is w in
    λ i. first_is_among left_out_words w || includes_file w || p i || d i || e i || names_area (may_use w) 0 false w
