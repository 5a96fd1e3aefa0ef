-- What is written of a declaration, by whether it declares VARCHARs.
use Rattle.std.proofs.Common.{◌≡◌, ℕ, true, false, [], ◌∷◌, refl, sym, ap, ◌∙◌, subst, append-nil}
use Rattle.ec_ctypes.specs.trees.Exprs.{DeclData}
use Rattle.ec_language.specs.Letters.{Text}
use Rattle.ec_cwrite.specs.Writes.{Writes}
use Rattle.ec_expand_declarations.specs.Lists.{plain_decl, is_varchar_decl, items_of}
use Rattle.ec_expand_declarations.proofs.Written.{varchars_are, plain_is}
use Rattle.ec_expansion_defs.specs.Declarations.{varchar_objects, written_decl}
use Rattle.ec_write_parts.specs.Written.{line_chunks, lines_chunks}

pub varchars_told : {old new : Text} (n : ℕ) (d : DeclData) → is_varchar_decl d ≡ true
    → Writes old new (lines_chunks n (varchar_objects n (items_of d))) → Writes old new (lines_chunks n (written_decl n d))
varchars_told {old} {new} n d p w = subst (λ ds. Writes old new (lines_chunks n ds)) (varchars_are n d p) w

pub plain_told : {old new : Text} (n : ℕ) (d : DeclData) → is_varchar_decl d ≡ false
    → Writes old new (line_chunks n (plain_decl n d)) → Writes old new (lines_chunks n (written_decl n d))
plain_told {old} {new} n d p w =
    subst (λ cs. Writes old new cs) (sym (append-nil (line_chunks n (plain_decl n d))) ∙ ap (lines_chunks n) (plain_is n d p)) w
