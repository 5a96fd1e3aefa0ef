-- Calls of the library, which are known in written C: what each argument is by its form and its type, and which calls are none.
use Rattle.std.specs.Prelude.{ℕ, Bool, true, false, List, [], ◌∷◌, Option, Some, None, is_some, codes, if◌then◌else◌}
use Rattle.ec_ctypes.specs.Texts.{symbol_text, library_text}
use Rattle.ec_ctypes.specs.declared.checked.library.Sym.{Sym}
use Rattle.ec_ctypes.specs.declared.checked.library.LibName.{LibName}
use Rattle.ec_ctypes.specs.declared.types.arith.Arith.TheVariants.{Int, Long}
use Rattle.ec_ctypes.specs.trees.Types.{TyData, arithmetic, pointer}
use Rattle.ec_ctypes.specs.trees.Exprs.{ExprData, integer, string, identifier, ExprList, no_exprs, exprs}
use Rattle.ec_arguments.specs.Arguments as of
use Rattle.ec_arguments.specs.Arguments.{Arg}
use Rattle.ec_arguments.specs.Rules.{cut}
use Rattle.ec_language.specs.Letters.{Text, same_text}
use Rattle.ec_typing_defs.specs.Known.{symbols, calls}
use Rattle.ec_typing_defs.specs.Types.{is_character}

-- the first of these whose text is this name
abbrev pub named_among : {A : Type 0} → (A → Text) → Text → List A → Option A
named_among text name [] = None
named_among text name (x ∷ xs) = if same_text name (text x) then Some x
    else named_among text name xs

-- the call of the library that a name is. The library is known in written C alone
abbrev pub library_call : Bool → Text → Option LibName
library_call written name = if written then named_among library_text name calls else None

-- whether a pointer to this type may lead to a text
abbrev pub points_to_text : TyData → Bool
points_to_text (arithmetic a) = is_character a
points_to_text _ = false

-- A pointer, of which is known whether it may lead to a text; or what no call takes. Of an argument with a fault in it nothing more is said.
abbrev pub pointer_argument : Option TyData → Arg Bool
pointer_argument None = of.pointer true
pointer_argument (Some (pointer t)) = of.pointer (points_to_text t)
pointer_argument _ = of.stray

abbrev pub constant_argument : ℕ → TyData → Arg Bool
constant_argument n (arithmetic Int) = of.int_constant n
constant_argument n (arithmetic Long) = of.long_constant n
constant_argument n _ = of.stray

abbrev pub other_name : Text → Option TyData → Arg Bool
other_name x t = if same_text x (codes "NULL") then of.null else pointer_argument t

abbrev pub name_argument : Text → Option Sym → Option TyData → Arg Bool
name_argument x (Some s) t = of.symbol s
name_argument x None t = other_name x t

-- an argument, by its form and its type
abbrev pub argument_of : ExprData → Option TyData → Arg Bool
argument_of (identifier x) t = name_argument x (named_among symbol_text x symbols) t
argument_of (string s) t = of.literal s
argument_of (integer n a) t = constant_argument n a
argument_of e t = pointer_argument t

abbrev pub arguments_of_call : ExprList → List (Option TyData) → List (Arg Bool)
arguments_of_call no_exprs ts = []
arguments_of_call (exprs e es) [] = []
arguments_of_call (exprs e es) (t ∷ ts) = argument_of e t ∷ arguments_of_call es ts

-- whether a pointer may lead to a text
abbrev pub leads_to_text : Bool → Bool
leads_to_text text = text

-- whether these arguments are a call of the library
abbrev pub cuts : LibName → ExprList → List (Option TyData) → Bool
cuts name es ts = is_some (cut leads_to_text name (arguments_of_call es ts))
