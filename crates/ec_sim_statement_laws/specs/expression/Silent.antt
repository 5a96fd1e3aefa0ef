-- What is found that calls no library.
use Rattle.std.specs.Prelude.{List, [], ◌∷◌, Option}
use Rattle.ec_ctypes.specs.trees.Types.{TyData}
use Rattle.ec_resolving_defs.specs.Operands.{Found}
use Rattle.ec_resolving_defs.specs.Initializers.{PartData, scalar_part, text_part, struct_part}
use Rattle.ec_sim_statement_laws.specs.statement.Clean.{CallsNone}

-- a type or a length calls nothing
abbrev pub Nothing : {A : Type 0} → A → Type 0
Nothing a = Unit {0}

abbrev pub FoundCallsNone : Found → Type 0
FoundCallsNone f = CallsNone f.exp

abbrev pub AllCallNone : List Found → Type 0
AllCallNone [] = Unit {0}
AllCallNone (f ∷ fs) = FoundCallsNone f × AllCallNone fs

abbrev pub PartCallsNone : PartData → Type 0
PartCallsNone (scalar_part offset kind e) = CallsNone e
PartCallsNone (text_part offset text) = Unit {0}
PartCallsNone (struct_part offset size e) = CallsNone e

abbrev pub PartsCallNone : List PartData → Type 0
PartsCallNone [] = Unit {0}
PartsCallNone (p ∷ ps) = PartCallsNone p × PartsCallNone ps

abbrev pub InitializerCallsNone : Option TyData × List PartData → Type 0
InitializerCallsNone i = PartsCallNone i.1
