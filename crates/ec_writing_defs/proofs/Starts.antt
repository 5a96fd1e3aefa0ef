-- What a text begins with where an embedded piece starts.
use Rattle.std.proofs.Common.{◌≡◌, Bool, true, false, not, ◌&&◌, take, drop, map, refl, sym, ◌∙◌, Some, None}
use Rattle.std.specs.Prelude.{codes, is_some, if◌then◌else◌}
use Rattle.std.proofs.lemmas.Bool.{false≢true}
use Rattle.ec_language.specs.Letters.{Text, lower, is_blank, is_word_byte, begins, same_word, skip_blanks}
use Rattle.ec_language.specs.Pieces.{starts_piece}
use Rattle.ec_language.proofs.Ends.{both}
use Rattle.ec_language.proofs.Marks.{same_text_is}

pub not_true : (b : Bool) → (b ≡ true → ⊥) → b ≡ false
not_true true f = absurd (f refl)
not_true false f = refl

-- the word `SQL` stands at the beginning of a text, and ends there
abbrev pub sql_at : Text → Bool
sql_at text = same_word (take 3 text) (codes "SQL") && not (begins is_word_byte (drop 3 text))

pub record Starting (t : Text) : Type 0 where
  pub exec : map lower (take 4 t) ≡ codes "exec"
  pub blank : begins is_blank (drop 4 t) ≡ true
  pub sql : sql_at (skip_blanks (drop 4 t)) ≡ true

pub starting : (t : Text) → starts_piece t ≡ true → Starting t
starting t h = go (same_word (take 4 t) (codes "EXEC") && begins is_blank (drop 4 t) && same_word (take 3 (skip_blanks (drop 4 t))) (codes "SQL") && not (begins is_word_byte (drop 3 (skip_blanks (drop 4 t))))) refl h
  where
    go : (x : Bool) → (same_word (take 4 t) (codes "EXEC") && begins is_blank (drop 4 t) && same_word (take 3 (skip_blanks (drop 4 t))) (codes "SQL") && not (begins is_word_byte (drop 3 (skip_blanks (drop 4 t))))) ≡ x
        → starts_piece t ≡ true → Starting t
    go true e h =
        let a = both (same_word (take 4 t) (codes "EXEC") && begins is_blank (drop 4 t) && same_word (take 3 (skip_blanks (drop 4 t))) (codes "SQL")) (not (begins is_word_byte (drop 3 (skip_blanks (drop 4 t))))) e in
        let b = both (same_word (take 4 t) (codes "EXEC") && begins is_blank (drop 4 t)) (same_word (take 3 (skip_blanks (drop 4 t))) (codes "SQL")) a.0 in
        let c = both (same_word (take 4 t) (codes "EXEC")) (begins is_blank (drop 4 t)) b.0 in
        record { exec = same_text_is (map lower (take 4 t)) (codes "exec") c.0; blank = c.1; sql = λ i. b.1 i && a.1 i }
    go false e h = absurd (false≢true (sym (λ i. is_some (if e i then Some (drop 3 (skip_blanks (drop 4 t))) else None)) ∙ h))

-- and where it stands, one starts
pub started : (t : Text) → same_word (take 4 t) (codes "EXEC") ≡ true → begins is_blank (drop 4 t) ≡ true → sql_at (skip_blanks (drop 4 t)) ≡ true → starts_piece t ≡ true
started t e b s =
    let k = both (same_word (take 3 (skip_blanks (drop 4 t))) (codes "SQL")) (not (begins is_word_byte (drop 3 (skip_blanks (drop 4 t))))) s in
    λ i. is_some (if e i && b i && k.0 i && k.1 i then Some (drop 3 (skip_blanks (drop 4 t))) else None)
