use Rattle.std.proofs.Common.{◌≡◌, ◌++◌, List, drop}
use Rattle.ec_resolve_forms.specs.Seen.{founds_view}
use Rattle.ec_resolving_defs.specs.Operands as of
use Rattle.ec_resolve_expressions.proofs.call_forms.printing.behind.Given as goal

abbrev pub invariant-loop-f : goal.invariant-loop-f
invariant-loop-f l = record {
  whole : (more : List of.Found) → drop l.count (founds_view l.yielded ++ more) ≡ founds_view l.rest ++ drop l.left more;
  done : founds_view l.rest ≡ drop l.count (founds_view l.yielded);
}
