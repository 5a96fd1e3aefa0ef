use Rattle.std.proofs.Common.{◌≡◌, ◌++◌, List, map}
use Rattle.ec_ctypes.specs.views.Exprs.{exprs_view}
use Rattle.ec_resolve_forms.specs.Seen.{founds_view}
use Rattle.ec_resolving_defs.specs.Operands as of
use Rattle.ec_resolve_values.specs.storage.Stored.{argument_view}
use Rattle.ec_resolve_expressions.proofs.call_forms.arguments.arguments_of_call.Given as goal

abbrev pub invariant-loop-f : goal.invariant-loop-f
invariant-loop-f l = record {
  whole : (rest : List of.Found) → of.arguments_of_call (exprs_view l.forms) (founds_view l.yielded ++ rest) ≡ map argument_view l.arguments ++ of.arguments_of_call (exprs_view l.left) rest;
  done : map argument_view l.arguments ≡ of.arguments_of_call (exprs_view l.forms) (founds_view l.yielded);
}
