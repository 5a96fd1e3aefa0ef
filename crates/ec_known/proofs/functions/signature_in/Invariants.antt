use Rattle.std.proofs.Common.{◌≡◌, map, drop}
use Rattle.ec_typing_defs.specs.Tables.{find}
use Rattle.ec_known.specs.Functions.{row_view}
use Rattle.ec_known.proofs.functions.signature_in.Given as goal

abbrev pub invariant-loop-function : goal.invariant-loop-function
invariant-loop-function l = find l.name (map row_view l.rows) ≡ find l.name (map row_view (drop l.function-index l.rows))
