-- Whole sources, as examples write them, with what the phases up to the hosts say of them.
use Rattle.std.specs.Prelude.{ℕ, ◌+◌, List, [], ◌∷◌, ◌++◌, slice_get, codes, Option, Some, None, option_map, Result, Ok, Err}
use Prim.Native.String.{String}
use Rattle.ec_base.specs.declared.fault.FaultKind.{FaultKind}
use Rattle.ec_base.specs.declared.fault.LimitKind.{LimitKind}
use Rattle.ec_base.specs.declared.stop.Stop.{Stop}
use Rattle.ec_base.specs.declared.stop.Stop.TheVariants.{Refused, Limit}
use Rattle.ec_ctypes.specs.declared.types.arith.Arith.TheVariants.{Int}
use Rattle.ec_ctypes.specs.declared.tree.expr.UnOp.TheVariants.{Addr}
use Rattle.ec_ctypes.specs.declared.checked.library.Sym.{Sym}
use Rattle.ec_ctypes.specs.declared.checked.library.Sym.TheVariants as sym
use Rattle.ec_ctypes.specs.trees.Types.{arithmetic}
use Rattle.ec_ctypes.specs.trees.Exprs.{ExprData, integer, identifier, unary, index, member}
use Rattle.ec_ctypes.specs.trees.Embedded.{EmbData}
use Rattle.ec_ctypes.specs.trees.Checked.{IndicatorData, PlaceData, BoundData, TypedData}
use Rattle.ec_language.specs.Letters.{Text}
use Rattle.ec_language.specs.ReadPieces.{read_pieces}
use Rattle.ec_host_defs.specs.Bound.{bound_answer}
use Rattle.ec_host_defs.specs.ReadSource.{source_by_pieces, checked_source, checked_text}

-- ---- what is refused

abbrev pub or_next : Result BoundData Stop → Option Stop → Option Stop
or_next (Ok b) next = next
or_next (Err stop) next = Some stop

-- the first statement with a fault, from this number on
abbrev pub first_stop : TypedData → ℕ → List EmbData → Option Stop
first_stop t n [] = None
first_stop t n (e ∷ es) = or_next (bound_answer t n e) (first_stop t (n + 1) es)

abbrev pub stop_by : Result TypedData Stop → Option Stop
stop_by (Ok t) = first_stop t 0 t.unit.embs
stop_by (Err stop) = Some stop

-- what a source is refused for
abbrev pub verdict : String → Option Stop
verdict text = stop_by (checked_text text)

-- ---- what is bound

abbrev pub bound_at : TypedData → ℕ → Option EmbData → Option BoundData
bound_at t n None = None
bound_at t n (Some e) = elim (bound_answer t n e) [ Ok b ↦ Some b | Err stop ↦ None ]

abbrev pub bound_by : ℕ → Result TypedData Stop → Option BoundData
bound_by n (Ok t) = bound_at t n (slice_get t.unit.embs n)
bound_by n (Err stop) = None

-- the statement of this number
abbrev pub bound_in : ℕ → String → Option BoundData
bound_in n text = bound_by n (checked_text text)

-- ---- programs

abbrev pub with_main : String → Text → Text
with_main declarations statements =
    codes declarations ++ codes " int main(void) { " ++ statements ++ codes " }"

abbrev pub checked_codes : Text → Result TypedData Stop
checked_codes text = checked_source (source_by_pieces (read_pieces text))

-- a statement in main behind these declarations
abbrev pub verdict_of : String → String → Option Stop
verdict_of declarations statement =
    stop_by (checked_codes (with_main declarations (codes statement)))

abbrev pub refusal : Result TypedData Stop → Option Stop
refusal (Ok t) = None
refusal (Err stop) = Some stop

-- what the phases before the hosts say of it
abbrev pub checks_of : String → String → Option Stop
checks_of declarations statement =
    refusal (checked_codes (with_main declarations (codes statement)))

-- where the variables of these declarations are hosts
abbrev pub outputs_of : String → String → Option (List PlaceData)
outputs_of declarations hosts =
    option_map (λ b. b.outs)
    (bound_by 0 (checked_codes
    (with_main declarations (codes "EXEC SQL SELECT a INTO " ++ codes hosts ++ codes ";"))))

abbrev pub inputs_of : String → String → Option (List PlaceData)
inputs_of declarations hosts =
    option_map (λ b. b.ins) (bound_by 0
    (checked_codes (with_main declarations (codes "EXEC SQL SELECT " ++ codes hosts ++ codes ";"))))

abbrev pub texts_of : String → String → Option (List ExprData)
texts_of declarations statement =
    option_map (λ b. b.texts)
    (bound_by 0 (checked_codes (with_main declarations (codes statement))))

abbrev pub text_of : String → String → Option Text
text_of declarations statement =
    option_map (λ b. b.text) (bound_by 0 (checked_codes (with_main declarations (codes statement))))

abbrev pub refused : FaultKind → ℕ → Option Stop
refused kind line = Some (Refused kind (record { 0 = line }))

abbrev pub limited : LimitKind → Option Stop
limited kind = Some (Limit kind)

-- ---- places

abbrev pub name : String → ExprData
name x = identifier (codes x)

abbrev pub address : ExprData → ExprData
address e = unary Addr e

abbrev pub first_of : ExprData → ExprData
first_of e = index e (integer 0 (arithmetic Int))

abbrev pub dot : ExprData → String → ExprData
dot e m = member e (codes m)

-- symbol, pointer, length, number of elements, distance, and the indicator
abbrev pub place : Sym → ExprData → ℕ → ℕ → ℕ → Option IndicatorData → PlaceData
place s e size count step ind =
    record { sym = s; value = e; size = size; count = count; step = step; ind = ind }

-- an int without an indicator
abbrev pub one_int : ExprData → PlaceData
one_int e = place sym.Int e 0 1 4 None

-- an index
abbrev pub number : ℕ → ExprData
number n = integer n (arithmetic Int)

-- an indicator of a single host
abbrev pub one_indicator : Sym → ExprData → ℕ → Option IndicatorData
one_indicator s e size = Some (s, e, 1, size)
