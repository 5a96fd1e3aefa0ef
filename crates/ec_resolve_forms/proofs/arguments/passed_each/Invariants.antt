use Rattle.std.proofs.Common.{◌≡◌, [], ◌++◌, List, map}
use Rattle.ec_code.specs.Views.{expression_view}
use Rattle.ec_resolving_defs.specs.Operands as of
use Rattle.ec_type_rules.specs.Views.{type_view}
use Rattle.ec_resolve_forms.specs.Arguments.{passed_list}
use Rattle.ec_resolve_forms.specs.Seen.{founds_view}
use Rattle.ec_resolve_forms.proofs.arguments.passed_each.Given as goal

abbrev pub invariant-loop-f : goal.invariant-loop-f
invariant-loop-f l = record {
  whole : (rest : List of.Found) → passed_list (map type_view l.params) (founds_view l.yielded ++ rest) ≡ map expression_view l.arguments ++ passed_list (map type_view l.left) rest;
  done : map expression_view l.arguments ≡ passed_list (map type_view l.params) (founds_view l.yielded);
}
