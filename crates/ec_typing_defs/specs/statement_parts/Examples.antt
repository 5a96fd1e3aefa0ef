-- Embedded statements, as examples write them. Each stands on line 1.
use Rattle.std.specs.Prelude.{ℕ, Some, None, codes}
use Prim.Native.String.{String}
use Rattle.ec_ctypes.specs.declared.embedded.emb.Cond.{Cond}
use Rattle.ec_ctypes.specs.trees.Exprs.{ExprData, identifier}
use Rattle.ec_ctypes.specs.trees.Embedded.{HostData, PartData, host_part, ActionData, EmbKindData, EmbData, whenever}

-- a statement at this place
abbrev pub emb : ℕ → EmbKindData → EmbData
emb place kind = record { line = record { 0 = 1 }; place = place; at = None; kind = kind }

-- a WHENEVER at this place
abbrev pub sets : ℕ → Cond → ActionData → EmbData
sets place cond act = emb place (whenever cond act)

abbrev pub name : String → ExprData
name x = identifier (codes x)

abbrev pub host : String → HostData
host x = record { value = name x; indicator = None }

abbrev pub host_and : String → String → HostData
host_and x i = record { value = name x; indicator = Some (name i) }

abbrev pub part : String → PartData
part x = host_part (host x)
