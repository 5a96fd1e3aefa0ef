-- What is found out about a program, as plain data.
use Rattle.std.specs.Prelude.{ℕ, List, Option}
use Rattle.ec_ctypes.specs.declared.embedded.emb.Cond.{Cond}
use Rattle.ec_ctypes.specs.declared.checked.library.Sym.{Sym}
use Rattle.ec_ctypes.specs.trees.Types.{TyData, StructData}
use Rattle.ec_ctypes.specs.trees.Exprs.{ExprData}
use Rattle.ec_ctypes.specs.trees.Embedded.{ActionData}
use Rattle.ec_ctypes.specs.trees.Units.{UnitData}

-- a WHENEVER: its place, its condition and its action
abbrev pub MarkData : Type 0
MarkData = ℕ × Cond × ActionData

-- a program with what the checks found: the structs, the types of the declarations by their numbers, the numbers of the hosts, each WHENEVER in order, and for each embedded statement the declarations that the variables in its hosts denote
pub record TypedData : Type 0 where
  pub unit : UnitData
  pub structs : List StructData
  pub names : List (ℕ × TyData)
  pub hosts : List ℕ
  pub handlers : List MarkData
  pub denoted : List (List (Option ℕ))

-- an indicator: its symbol, its pointer, how many elements it has, and their distance
abbrev pub IndicatorData : Type 0
IndicatorData = Sym × ExprData × ℕ × ℕ

-- a host or a constant as the library is given it: the symbol, the pointer, the length, the number of elements, their distance, and the indicator
pub record PlaceData : Type 0 where
  pub sym : Sym
  pub value : ExprData
  pub size : ℕ
  pub count : ℕ
  pub step : ℕ
  pub ind : Option IndicatorData

-- an embedded statement with its hosts as places
pub record BoundData : Type 0 where
  pub text : List ℕ
  pub texts : List ExprData
  pub ins : List PlaceData
  pub outs : List PlaceData
