use Rattle.std.proofs.Common.{map}
use Rattle.ec_code.specs.Views.{expression_view}
use Rattle.ec_resolve_values.specs.storage.Stored.{argument_view}
use Rattle.ec_resolve_expressions.proofs.call_forms_lemmas.Parting.{IsParted}
use Rattle.ec_resolve_expressions.proofs.call_forms.library.without_pointers.Given as goal

abbrev pub invariant-loop-argument : goal.invariant-loop-argument
invariant-loop-argument l = IsParted (map argument_view l.yielded) (map argument_view l.left) (map expression_view l.pointers)
