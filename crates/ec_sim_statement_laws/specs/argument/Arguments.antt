-- What the arguments of a written call are resolved to, where the call stands.
use Rattle.std.specs.Prelude.{◌≡◌, false, List, [], ◌∷◌, map}
use Rattle.ec_arguments.specs.Arguments.{Arg, pointer, stray}
use Rattle.ec_ctypes.specs.trees.Exprs.{ExprData}
use Rattle.ec_ctypes.specs.trees.Types.{TyData}
use Rattle.ec_expansion_defs.specs.Calls.{argument_exprs}
use Rattle.ec_typing_defs.specs.Known.{with_symbols, is_symbol}
use Rattle.ec_typing_defs.specs.Worlds.{Place, World}
use Rattle.ec_meaning_defs.specs.resolved.Resolved.{Exp}
use Rattle.ec_resolving_defs.specs.Storage.{Storage, reached}
use Rattle.ec_resolving_defs.specs.Operands.{Found, is_library_literal, argument_of, pointer_argument, arguments_of_call}
use Rattle.ec_resolving_defs.specs.Expressions.{args}
use Rattle.ec_phases_defs.specs.written.Calls.{argument_with}
use Rattle.ec_sim_statement_laws.specs.argument.Pointers.{IsPointer}

module _ (at : Place) (s : Storage) (w : World) where
  -- an expression is seen as a pointer, by its form and its type
  pub record IsArgument (e : ExprData) (x : Exp) : Type 0 where
    pub target : TyData
    pub is : IsPointer at s w e target x
    pub no_symbol : is_symbol e ≡ false
    pub no_literal : is_library_literal with_symbols e ≡ false
    pub form : (f : Found) → argument_of e f ≡ pointer_argument f.operand.type f.exp

  -- each expression of these arguments
  abbrev pub AreArguments : (ExprData → Exp) → List (Arg ExprData) → Type 0
  AreArguments g [] = Unit {0}
  AreArguments g (pointer e ∷ more) = IsArgument e (g e) × AreArguments g more
  AreArguments g (stray ∷ more) = ⊥
  AreArguments g (_ ∷ more) = AreArguments g more

  -- they are resolved one by one, to arguments with these pointers
  pub record AreResolved (g : ExprData → Exp) (written : List (Arg ExprData)) : Type 0 where
    pub found : List Found
    pub is : args at with_symbols (argument_exprs written) s w ≡ reached found s w
    pub are : arguments_of_call (argument_exprs written) found ≡ map (argument_with g) written
