-- Lists of declarations that grow at their end, and a VARCHAR by its declarator.
use Rattle.std.specs.Prelude.{◌≡◌, ℕ, List, Option, Bool, true, false}
use Rattle.ec_ctypes.specs.declared.tree.decl.Decl.{Decl}
use Rattle.ec_ctypes.specs.trees.Exprs.{varchar, DeclaratorData, declarator, DeclaratorList, DeclData, decl, DeclList}
use Rattle.ec_ctypes.specs.views.Exprs.{decls_view}
use Rattle.ec_language.specs.Letters.{Text}
use Rattle.ec_expansion_defs.specs.Declarations.{joined_decls, varchar_decl, at_line, written_base, written_declarators}

-- these declarations stand behind those that were there
abbrev pub IsBehind : List Decl → List Decl → DeclList → Type 0
IsBehind old new added = decls_view new ≡ joined_decls (decls_view old) added

-- the declaration of a VARCHAR with this declarator
abbrev pub varchar_of : ℕ → Option Text → DeclaratorData → DeclData
varchar_of n tag (declarator stars name ds init) = varchar_decl n tag stars name ds init

-- a declaration of what is no VARCHAR
abbrev pub plain_decl : ℕ → DeclData → DeclData
plain_decl n (decl b ds section line) =
    decl (written_base n b) (written_declarators n ds) false (at_line n)

abbrev pub is_varchar_decl : DeclData → Bool
is_varchar_decl (decl varchar ds section line) = true
is_varchar_decl _ = false

abbrev pub items_of : DeclData → DeclaratorList
items_of (decl b ds section line) = ds
