use Rattle.std.proofs.Common.{◌≡◌, ℕ, List, length, map}
use Rattle.ec_memory_defs.specs.Kinds.{kind_type}
use Rattle.ec_memory_defs.specs.Memory.{scalar_size}
use Rattle.ec_meaning_defs.specs.evaluation.Results.{Res, made}
use Rattle.ec_meaning_defs.specs.evaluation.State.{State}
use Rattle.ec_plain.specs.Answered.{at, scope_view}
use Rattle.ec_machine.specs.Frames.{Grown, objects_of}
use Rattle.ec_machine.proofs.making.make_parameters.Given as goal

abbrev pub invariant-loop-kinds : goal.invariant-loop-kinds
invariant-loop-kinds l = record {
  made : (line : ℕ) (s : State) (go : List ℕ → State → Res) →
      made line (map scalar_size (map kind_type l.initial.kinds)) (scope_view (objects_of l.initial.scope)) (at s l.initial.store) go
      ≡ made line (map scalar_size (map kind_type l.kinds)) (scope_view (objects_of l.scope)) (at s l.store) go;
  grown : Grown l.initial.scope.pointers l.scope.pointers;
}

abbrev pub decreases-loop-kinds : goal.decreases-loop-kinds
decreases-loop-kinds l = length l.kinds
