use Rattle.std.proofs.Common.{◌≡◌, ℕ, List, length, map}
use Rattle.ec_meaning_defs.specs.evaluation.Results.{Res}
use Rattle.ec_meaning_defs.specs.evaluation.State.{State}
use Rattle.ec_memory.specs.Room.{HasRoom}
use Rattle.ec_plain.specs.Answered.{at, scope_view}
use Rattle.ec_values.specs.Words.{word_view}
use Rattle.ec_machine.specs.Arguments.{with_arguments}
use Rattle.ec_machine.specs.Frames.{Grown, objects_of}
use Rattle.ec_machine.proofs.making.make_ints.Given as goal

abbrev pub invariant-loop-kinds : goal.invariant-loop-kinds
invariant-loop-kinds l = record {
  room : HasRoom l.store (length l.kinds);
  made : (s : State) (go : List ℕ → State → Res) →
      with_arguments l.line.0 l.initial.kinds (map word_view l.initial.values) (scope_view (objects_of l.initial.scope)) (at s l.initial.store) go
      ≡ with_arguments l.line.0 l.kinds (map word_view l.values) (scope_view (objects_of l.scope)) (at s l.store) go;
  grown : Grown l.initial.scope.pointers l.scope.pointers;
}

abbrev pub decreases-loop-kinds : goal.decreases-loop-kinds
decreases-loop-kinds l = length l.kinds
