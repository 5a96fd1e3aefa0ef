-- Declarations as they stand in a source and as they are written, where one of VARCHARs is written as one for each.
use Rattle.std.specs.Prelude.{◌≡◌, ℕ, Bool, true, false, List, [], ◌∷◌, ◌++◌, None}
use Rattle.ec_ctypes.specs.trees.Exprs.{BaseData, DeclaratorData, DeclaratorList, DeclData, decl}
use Rattle.ec_base.specs.declared.line.Line.{Line}
use Rattle.ec_expansion_defs.specs.Declarations.{written_base, written_declarators, varchar_object, written_decl}
use Rattle.ec_typing_defs.specs.Worlds.{Place, Rule, pure as check_pure, ◌>>◌ as ◌before◌}
use Rattle.ec_typing_defs.specs.Statements as checked
use Rattle.ec_meaning_defs.specs.resolved.Resolved.{Stm}
use Rattle.ec_resolving_defs.specs.Storage.{Resolving, ◌>>=◌, pure}
use Rattle.ec_resolving_defs.specs.Statements.{object_item, declaration}
use Rattle.ec_resolving_defs.specs.Agreement.{nothing_of}
use Rattle.ec_sim_statement_laws.specs.statement.Copies.{Declares}
use Rattle.ec_sim_statement_laws.specs.expression.Alike.{IsAlike}
use Rattle.ec_sim_statement_laws.specs.expression.Lengths.{BaseHasLengths, DeclHasLengths, ItemsHaveLengths, ItemHasLengths}
use Rattle.ec_typing_defs.specs.Expressions.{is_varchar}

-- one after the other
abbrev pub declarations : Bool → List DeclData → Resolving (List Stm)
declarations global [] = pure []
declarations global (d ∷ ds) = do
  first ← declaration global d
  more ← declarations global ds
  pure (first ++ more)

abbrev pub checked_declarations : Bool → List DeclData → Rule (Unit {0})
checked_declarations global [] = check_pure tt
checked_declarations global (d ∷ ds) =
    checked.declaration global d before checked_declarations global ds

-- what declares an object, and calls no library
abbrev pub AllDeclare : List Stm → Type 0
AllDeclare [] = Unit {0}
AllDeclare (x ∷ xs) = Declares x × AllDeclare xs

-- what one declarator leaves where it stands: nothing at file level, and one declaration in a function
abbrev pub DeclaresOne : Bool → List Stm → Type 0
DeclaresOne true [] = Unit {0}
DeclaresOne true (x ∷ xs) = ⊥
DeclaresOne false [] = ⊥
DeclaresOne false (x ∷ []) = Declares x
DeclaresOne false (x ∷ y ∷ xs) = ⊥

-- A declaration without VARCHARs is written as one
abbrev pub PlainAreAlike : Type 0
PlainAreAlike = (global : Bool) (n : ℕ) (b : BaseData) (items : DeclaratorList) (section : Bool)
    (line there : Line) → is_varchar b ≡ false → BaseHasLengths b → ItemsHaveLengths false items
    → IsAlike AllDeclare nothing_of (checked.declaration global (decl b items section line))
    (checked.declaration global
    (decl (written_base n b) (written_declarators n items) false there))
    (declaration global (decl b items section line))
    (declaration global (decl (written_base n b) (written_declarators n items) false there))

-- Each VARCHAR, and the declaration that is written for it on whichever line
abbrev pub VarcharsAreAlike : Type 0
VarcharsAreAlike = (at : Place) (global : Bool) (n : ℕ) (d : DeclaratorData)
    → ItemHasLengths true d
    → IsAlike (DeclaresOne global) nothing_of
    (checked.object_item at global true None d) (checked.declaration global (varchar_object n d))
    (object_item at global true None d) (declaration global (varchar_object n d))

abbrev pub DeclarationsAreAlike : Type 0
DeclarationsAreAlike = (global : Bool) (n : ℕ) (d : DeclData) → DeclHasLengths d
    → IsAlike AllDeclare nothing_of
    (checked.declaration global d) (checked_declarations global (written_decl n d))
    (declaration global d) (declarations global (written_decl n d))
