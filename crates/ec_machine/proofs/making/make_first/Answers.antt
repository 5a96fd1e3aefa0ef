use Rattle.std.proofs.Common.{◌≡◌, subst, sym, [], ◌∷◌, ◌++◌, append-nil}
use Rattle.ec_meaning_defs.specs.evaluation.Results.{tried}
use Rattle.ec_memory_defs.specs.Kinds.{kind_type}
use Rattle.ec_memory_defs.specs.Memory.{make, scalar_size}
use Rattle.ec_plain.specs.Answered.{at, scope_view}
use Rattle.ec_machine.specs.Frames.{objects_of}
use Rattle.ec_machine.specs.Goes.{Makes}
use Rattle.ec_machine.proofs.making.make_first.Goals as goal

pub returns-in-Some-clause-made : goal.returns-in-Some-clause-made
returns-in-Some-clause-made c = λ line s go kind e.
    let same : c.in-Some.kind ≡ kind = cc (e, c.in-Some.ensures) in
    subst (λ k. Makes line c.make_parameter.result (tried line (make c.args.store.now (scalar_size (kind_type k))) (at s c.args.store.now) (λ r. go (scope_view (objects_of c.args.scope.now) ++ r.0 ∷ []) (at s r.1))) (go (scope_view (objects_of c.make_parameter.new.scope)) (at s c.make_parameter.new.store)) (at s c.make_parameter.new.store))
    same (c.make_parameter.ensures.made line s go)

pub returns-in-None-clause-made : goal.returns-in-None-clause-made
returns-in-None-clause-made c = λ line s go kind e. cc (e, c.in-None.ensures)

pub returns-in-None-clause-grown : goal.returns-in-None-clause-grown
returns-in-None-clause-grown c = ([], sym (append-nil c.args.scope.now.pointers))
