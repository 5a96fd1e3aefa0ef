-- Names in scope: an object has its place among those in scope, and a function the signature of its parameters.
use Rattle.std.specs.Prelude.{◌≡◌, ◌+◌, ℕ, Bool, true, false, List, [], ◌∷◌, length, Some}
use Rattle.ec_ctypes.specs.trees.Exprs.{ExprData, DeclData}
use Rattle.ec_ctypes.specs.trees.Stmts.{StmtData, StmtList}
use Rattle.ec_ctypes.specs.trees.Units.{ParamData}
use Rattle.ec_language.specs.Letters.{Text}
use Rattle.ec_typing_defs.specs.Tables.{Named, find}
use Rattle.ec_typing_defs.specs.Worlds.{Place, EntryData, ScopeData, World}
use Rattle.ec_resolving_defs.specs.Expressions.{expr}
use Rattle.ec_resolving_defs.specs.Programs.{params}
use Rattle.ec_resolving_defs.specs.Statements.{Around, declaration, objects_of_decl, objects_in, objects_in_all, statement, statements}
use Rattle.ec_resolving_defs.specs.Storage.{Site, Storage, Resolving}
use Rattle.ec_sound_defs.specs.Sound.{Signature}
use Rattle.ec_sound_form_laws.specs.Names.{EntryStands}

-- by the signatures, how many objects are in scope, where declarations are, and the functions that are defined
module _ (gs : List Signature) (n : ℕ) (sites : List Site) (defined : Named (Unit {0})) where
  abbrev pub NamesStand : Named EntryData → Type 0
  NamesStand names = (x : Text) (entry : EntryData) → find x names ≡ Some entry
      → EntryStands gs n sites defined x entry

  abbrev pub ScopesStand : List ScopeData → Type 0
  ScopesStand [] = Unit {0}
  ScopesStand (s ∷ ss) = NamesStand s.names × ScopesStand ss

-- parameters first, those of blocks further in behind
abbrev pub in_scope : Storage → ℕ
in_scope s = s.block.below + s.block.count

-- so many objects of the innermost block are still to be made
abbrev pub Room : ℕ → Storage → Type 0
Room k s = length s.block.sizes + k ≡ s.block.count

-- Each name in scope stands so, and each declaration so far has its site.
pub record Standing (gs : List Signature) (s : Storage) (w : World) : Type 0 where
  pub here : NamesStand gs (in_scope s) s.sites s.defined w.here.names
  pub outer : ScopesStand gs (in_scope s) s.sites s.defined w.outer
  pub sites : length s.sites ≡ length w.types

-- Where it stands so, and so many objects are to be made, it does behind the rule, with as many objects in scope.
pub record Stands (gs : List Signature) (before behind : ℕ) {A : Type 0} (m : Resolving A)
    : Type 0 where
  pub standing : (s : Storage) (w : World) → Standing gs s w → Room before s
      → Standing gs (m s w).storage (m s w).world
  pub room : (s : Storage) (w : World) → Room before s → Room behind (m s w).storage
  pub scope : (s : Storage) (w : World) → in_scope (m s w).storage ≡ in_scope s

module _ (gs : List Signature) where
  abbrev pub ExpressionsStand : Type 0
  ExpressionsStand = (n : ℕ) (at : Place) (e : ExprData) → Stands gs n n (expr at e)

  abbrev pub DeclarationsStand : Type 0
  DeclarationsStand = (n : ℕ) (d : DeclData) → Stands gs (objects_of_decl d + n) n (declaration false d)

  abbrev pub GlobalsStand : Type 0
  GlobalsStand = (n : ℕ) (d : DeclData) → Stands gs n n (declaration true d)

  abbrev pub ParametersStand : Type 0
  ParametersStand = (n : ℕ) (at : Place) (defined : Bool) (ps : List ParamData)
      → Stands gs (length ps + n) n (params at defined ps)

  abbrev pub StatementsStand : Type 0
  StatementsStand = (a : Around) (n : ℕ) (x : StmtData) → Stands gs (objects_in x + n) n (statement a x)

  abbrev pub ListsStand : Type 0
  ListsStand = (a : Around) (n : ℕ) (xs : StmtList)
      → Stands gs (objects_in_all xs + n) n (statements a xs)
