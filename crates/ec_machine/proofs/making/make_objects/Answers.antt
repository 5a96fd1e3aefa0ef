use Rattle.std.proofs.Common.{◌∙◌, ap, map, ℕ, ◌+◌, List, [], ◌∷◌, ◌++◌, drop}
use Rattle.ec_code.specs.Views.{size_view}
use Rattle.ec_meaning_defs.specs.evaluation.Results.{Res, made, tried}
use Rattle.ec_meaning_defs.specs.evaluation.State.{State}
use Rattle.ec_memory_defs.specs.Memory.{make}
use Rattle.ec_plain.specs.Answered.{at, scope_view}
use Rattle.ec_plain.proofs.Walks.{drop_item}
use Rattle.ec_machine.specs.Frames.{objects_of}
use Rattle.ec_machine.proofs.Moves.{grown_on}
use Rattle.ec_machine.proofs.Objects.{makes_err}
use Rattle.ec_machine.proofs.making.make_objects.Goals as goal

pub returns-in-Err-clause-made : goal.returns-in-Err-clause-made
returns-in-Err-clause-made c = λ line s go.
    let rest : List ℕ → State → Res = λ os t. made line (map size_view (drop (c.loop-size.size-index + 1) c.args.sizes.now)) os t go in
    makes_err line c.in-Err.why
    (made line (map size_view c.args.sizes.now) (scope_view (objects_of c.args.scope.now)) (at s c.args.store.now) go)
    (tried line (make c.loop-size.store c.size-item.result.bytes) (at s c.loop-size.store) (λ r. rest (scope_view (objects_of c.loop-size.scope) ++ r.0 ∷ []) (at s r.1)))
    (go (scope_view (objects_of c.make_object.new.scope)) (at s c.make_object.new.store))
    (rest (scope_view (objects_of c.make_object.new.scope)) (at s c.make_object.new.store))
    (at s c.make_object.new.store)
    (c.loop-size.invariant.made line s go
    ∙ ap (λ xs. made line (map size_view xs) (scope_view (objects_of c.loop-size.scope)) (at s c.loop-size.store) go) (drop_item c.args.sizes.now c.loop-size.size-index c.size-item.result c.loop-size-test.true c.size-item.is))
    (c.in-Err.ensures.made line s rest)

pub loop-size-preserved : goal.loop-size-preserved
loop-size-preserved c = record {
  made = λ line s go.
      c.loop-size.invariant.made line s go
      ∙ ap (λ xs. made line (map size_view xs) (scope_view (objects_of c.loop-size.scope)) (at s c.loop-size.store) go) (drop_item c.args.sizes.now c.loop-size.size-index c.size-item.result c.loop-size-test.true c.size-item.is)
      ∙ c.in-Ok.ensures.made line s (λ os t. made line (map size_view (drop (c.loop-size.size-index + 1) c.args.sizes.now)) os t go);
  grown = grown_on c.args.scope.now.pointers c.loop-size.scope.pointers c.make_object.new.scope.pointers c.loop-size.invariant.grown c.in-Ok.ensures.grown;
}
