-- Declarations as they are written outside of structs.
use Rattle.std.proofs.Common.{◌≡◌, ℕ, true, false, [], ◌∷◌, Some, refl, ap}
use Rattle.ec_ctypes.specs.trees.Exprs.{words, varchar, tagged, struct_base, DeclaratorData, declarator, DeclData, decl}
use Rattle.ec_language.specs.Letters.{Text}
use Rattle.ec_expansion_defs.specs.Declarations as written
use Rattle.ec_expand_declarations.specs.Lists.{varchar_of, plain_decl, is_varchar_decl, items_of}

abbrev pub name_of : DeclaratorData → Text
name_of (declarator stars name ds init) = name

pub object_is : (n : ℕ) (x : DeclaratorData) (tag : Text) → tag ≡ written.varchar_tag (name_of x) → varchar_of n (Some tag) (written.written_declarator n x) ≡ written.varchar_object n x
object_is n (declarator stars name ds init) tag e = ap (λ t. written.varchar_decl n (Some t) stars name (written.written_dims n ds) (written.written_initializer n init)) e

pub varchars_are : (n : ℕ) (d : DeclData) → is_varchar_decl d ≡ true → written.varchar_objects n (items_of d) ≡ written.written_decl n d
varchars_are n (decl (words ws) ds section line) p = cc
varchars_are n (decl varchar ds section line) p = refl
varchars_are n (decl (tagged t) ds section line) p = cc
varchars_are n (decl (struct_base t ms) ds section line) p = cc

pub plain_is : (n : ℕ) (d : DeclData) → is_varchar_decl d ≡ false → plain_decl n d ∷ [] ≡ written.written_decl n d
plain_is n (decl (words ws) ds section line) p = refl
plain_is n (decl varchar ds section line) p = cc
plain_is n (decl (tagged t) ds section line) p = refl
plain_is n (decl (struct_base t ms) ds section line) p = refl
