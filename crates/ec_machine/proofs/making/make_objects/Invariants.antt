use Rattle.std.proofs.Common.{◌≡◌, ℕ, List, drop, map}
use Rattle.ec_code.specs.Views.{size_view}
use Rattle.ec_meaning_defs.specs.evaluation.Results.{Res, made}
use Rattle.ec_meaning_defs.specs.evaluation.State.{State}
use Rattle.ec_plain.specs.Answered.{at, scope_view}
use Rattle.ec_machine.specs.Frames.{Grown, objects_of}
use Rattle.ec_machine.proofs.making.make_objects.Given as goal

abbrev pub invariant-loop-size : goal.invariant-loop-size
invariant-loop-size l = record {
  made : (line : ℕ) (s : State) (go : List ℕ → State → Res) →
      made line (map size_view l.sizes) (scope_view (objects_of l.initial.scope)) (at s l.initial.store) go
      ≡ made line (map size_view (drop l.size-index l.sizes)) (scope_view (objects_of l.scope)) (at s l.store) go;
  grown : Grown l.initial.scope.pointers l.scope.pointers;
}
