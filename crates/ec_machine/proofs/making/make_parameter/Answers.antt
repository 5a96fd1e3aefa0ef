use Rattle.std.proofs.Common.{arith, subst, [], ◌∷◌, ◌++◌}
use Rattle.ec_meaning_defs.specs.evaluation.Results.{tried}
use Rattle.ec_memory_defs.specs.Memory.{make}
use Rattle.ec_plain.specs.Answered.{at, scope_view}
use Rattle.ec_machine.specs.Frames.{objects_of}
use Rattle.ec_machine.specs.Goes.{Makes}
use Rattle.ec_machine.proofs.Arguments.{size_small}
use Rattle.ec_machine.proofs.making.make_parameter.Goals as goal

pub returns-clause-made : goal.returns-clause-made
returns-clause-made c = λ line s go.
    subst (λ n. Makes line c.make_object.result (tried line (make c.args.store.now n) (at s c.args.store.now) (λ r. go (scope_view (objects_of c.args.scope.now) ++ r.0 ∷ []) (at s r.1))) (go (scope_view (objects_of c.make_object.new.scope)) (at s c.make_object.new.store)) (at s c.make_object.new.store))
    c.size_of.ensures.value (c.make_object.ensures.made line s go)

pub make_object-requires-clause-small : goal.make_object-requires-clause-small
make_object-requires-clause-small c = omega (arith, c.size_of.ensures.value, size_small c.args.kind)
