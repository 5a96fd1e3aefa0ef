-- The functions of a program: one is made of each definition, in their order, and the name of each is at its place among the names that are defined.
use Rattle.std.specs.Prelude.{◌≡◌, ℕ, Bool, List, [], ◌∷◌, ◌++◌, length, pos, slice_get, Option, Some, None}
use Rattle.ec_ctypes.specs.trees.Stmts.{StmtList}
use Rattle.ec_ctypes.specs.trees.Units.{FuncData, TopData, func_top, UnitData}
use Rattle.ec_typing_defs.specs.Answers.{violations}
use Rattle.ec_typing_defs.specs.Programs.{defined_in}
use Rattle.ec_memory_defs.specs.Memory.{number}
use Rattle.ec_meaning_defs.specs.resolved.Programs.{Function}
use Rattle.ec_resolving_defs.specs.Operands.{place_in}
use Rattle.ec_resolving_defs.specs.Statements.{objects_in_all}
use Rattle.ec_resolving_defs.specs.Programs.{value_at_end, program_by, walked}

-- a function is defined where it has a body
abbrev pub if_defined : Option StmtList → FuncData → List FuncData
if_defined None f = []
if_defined (Some ss) f = f ∷ []

abbrev pub definitions : List TopData → List FuncData
definitions [] = []
definitions (func_top f ∷ ts) = if_defined f.body f ++ definitions ts
definitions (t ∷ ts) = definitions ts

abbrev pub objects_of : Option StmtList → ℕ
objects_of None = 0
objects_of (Some ss) = objects_in_all ss

-- It takes as many arguments as its definition has parameters, has the objects of its body, and gives a value at its end where it is `main`.
pub record IsMade (f : FuncData) (g : Function) : Type 0 where
  pub takes : length g.parameters ≡ length f.params
  pub objects : length g.objects ≡ objects_of f.body
  pub at_end : g.otherwise ≡ value_at_end f.name

abbrev pub AreMade : List FuncData → List Function → Type 0
AreMade [] [] = Unit {0}
AreMade [] (g ∷ gs) = ⊥
AreMade (f ∷ fs) [] = ⊥
AreMade (f ∷ fs) (g ∷ gs) = IsMade f g × AreMade fs gs

-- whatever the checks find
abbrev pub FunctionsAreMade : Type 0
FunctionsAreMade = (written : Bool) (u : UnitData)
    → AreMade (definitions u.tops) (walked written u).storage.functions

-- calls find them by the same names throughout
abbrev pub NamesStay : Type 0
NamesStay = (written : Bool) (u : UnitData)
    → (walked written u).storage.defined ≡ defined_in u.tops []

-- no two definitions have one name
abbrev pub NamesHaveTheirPlaces : Type 0
NamesHaveTheirPlaces = (written : Bool) (u : UnitData) → violations written u ≡ [] → (n : ℕ)
    (f : FuncData) → slice_get (definitions u.tops) n ≡ Some f
    → place_in f.name (defined_in u.tops []) ≡ n

-- the first function takes nothing, and gives 0 where its body ends
pub record IsMainMade (o : Option Function) : Type 0 where
  pub main : Function
  pub is : o ≡ Some main
  pub takes : main.parameters ≡ []
  pub at_end : main.otherwise ≡ Some (number (pos 0))

abbrev pub MainStands : Type 0
MainStands = (written : Bool) (u : UnitData) → violations written u ≡ []
    → IsMainMade (slice_get (walked written u).storage.functions
    (program_by (walked written u).storage).main)
