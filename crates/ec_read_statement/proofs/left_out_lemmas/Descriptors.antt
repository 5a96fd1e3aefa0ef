-- Statements without the word DESCRIPTOR.
use Rattle.std.proofs.Common.{◌≡◌, ℕ, Bool, false, not, ◌&&◌, ◌||◌, [], ◌∷◌, refl, sym}
use Rattle.std.specs.Prelude.{codes, ◌==◌}
use Rattle.ec_language.proofs.Classes.{neither}
use Rattle.ec_embedded.specs.LeftOut.{is_first, names_area}
use Rattle.ec_embedded.specs.ServerText.{Tokens, depth_behind}
use Rattle.ec_embedded.specs.Terminals.{is, keyword}
use Rattle.ec_read_statement.specs.left_out.Areas.{has_descriptor, is_insert}

not_first : (w : Tokens) → has_descriptor w ≡ false → is_first (codes "DESCRIPTOR") w ≡ false
not_first [] e = refl
not_first (t ∷ w) e = (neither (is (keyword (codes "DESCRIPTOR")) t) (has_descriptor w) e).0

pub none_named : (using : Bool) (depth : ℕ) (inserts : Bool) (w : Tokens) → has_descriptor w ≡ false → false ≡ names_area using depth inserts w
none_named using depth inserts [] e = refl
none_named using depth inserts (t ∷ w) e =
    let h = (neither (is (keyword (codes "DESCRIPTOR")) t) (has_descriptor w) e).1 in
    sym (λ i. (not_first w h i && ((depth == 0 && is (keyword (codes "INTO")) t && not inserts) || (using && is (keyword (codes "USING")) t)))
    || sym (none_named using (depth_behind depth t) (is_insert t) w h) i)
