-- Arguments of a call of the library, of which pointers may be evaluated before it.
use Rattle.std.specs.Prelude.{List, [], ◌∷◌, ◌++◌}
use Rattle.ec_arguments.specs.Arguments.{Arg, pointer}
use Rattle.ec_meaning_defs.specs.resolved.Resolved.{Exp}

-- the pointer that an argument is, if it is one
abbrev pub pointer_in : Arg Exp → List Exp
pointer_in (pointer e) = e ∷ []
pointer_in _ = []

-- the pointers among arguments, in their order
abbrev pub pointers_in : List (Arg Exp) → List Exp
pointers_in [] = []
pointers_in (a ∷ args) = pointer_in a ++ pointers_in args
