-- A plain reading of a text: its tree, or what the first phase that finds something refuses.
use Rattle.std.specs.Prelude.{Bool, true, false, nat_lt, length, Result, Ok, Err}
use Rattle.ec_base.specs.declared.fault.LimitKind.TheVariants.{L6}
use Rattle.ec_base.specs.declared.stop.Stop.{Stop}
use Rattle.ec_base.specs.declared.stop.Stop.TheVariants.{Refused, Limit}
use Rattle.ec_ctypes.specs.trees.Units.{UnitData}
use Rattle.ec_language.specs.Letters.{Text}
use Rattle.ec_language.specs.First.{max_text}
use Rattle.ec_language.specs.ReadPieces.{read_pieces}
use Rattle.ec_language.specs.ReadTokens.{read_tokens}
use Rattle.ec_language.specs.SyntaxAnswer.{read_syntax}

abbrev pub read_text : Bool → Text → Result UnitData Stop
read_text written text = elim (nat_lt max_text (length text)) [
  | true ↦ Err (Limit L6)
  | false ↦ elim (read_pieces text) [
    | Err fault ↦ Err (Refused fault.0 (record { 0 = fault.1 }))
    | Ok pieces ↦ elim (read_tokens written pieces) [
      | Err stop ↦ Err stop
      | Ok tokens ↦ read_syntax tokens
    ]
  ]
]
