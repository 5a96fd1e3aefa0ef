use Rattle.std.proofs.Common.{◌≡◌, map}
use Rattle.ec_code.specs.Objects.{stored_view}
use Rattle.ec_resolve_statements.proofs.objects.global_of.Given as goal

abbrev pub invariant-loop-value : goal.invariant-loop-value
invariant-loop-value l = l.global ≡ record { size = l.fn.size.bytes; values = map stored_view l.yielded }
