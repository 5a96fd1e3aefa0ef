use Rattle.std.proofs.Common.{◌≡◌, length, map}
use Rattle.ec_meaning_defs.specs.evaluation.Results.{Res, given}
use Rattle.ec_meaning_defs.specs.evaluation.State.{State}
use Rattle.ec_memory_defs.specs.Kinds.{kind_type}
use Rattle.ec_plain.specs.Answered.{at, scope_view}
use Rattle.ec_values.specs.Words.{word_view}
use Rattle.ec_machine.proofs.making.give_arguments.Given as goal

abbrev pub invariant-loop-kinds : goal.invariant-loop-kinds
invariant-loop-kinds l =
    (s : State) (go : State → Res) →
    given l.line.0 (map kind_type l.initial.kinds) (scope_view l.initial.pointers) (map word_view l.initial.values) (at s l.initial.store) go
    ≡ given l.line.0 (map kind_type l.kinds) (scope_view l.pointers) (map word_view l.values) (at s l.store) go

abbrev pub decreases-loop-kinds : goal.decreases-loop-kinds
decreases-loop-kinds l = length l.kinds
