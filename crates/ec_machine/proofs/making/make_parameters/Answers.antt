use Rattle.std.proofs.Common.{◌≡◌, ◌∙◌, ap, map, ℕ, ◌-◌, List, ◌∷◌, length, get_or, take, drop, Some}
use Rattle.std.specs.Prelude.{slice_get}
use Rattle.std.proofs.lemmas.Option.{slice_get-get_or}
use Rattle.ec_meaning_defs.specs.evaluation.Results.{Res, made}
use Rattle.ec_meaning_defs.specs.evaluation.State.{State}
use Rattle.ec_memory_defs.specs.declared.kind.Kind.TheVariants as kinds_of
use Rattle.ec_memory_defs.specs.Kinds.{kind_type}
use Rattle.ec_memory_defs.specs.Memory.{scalar_size}
use Rattle.ec_plain.specs.Answered.{at, scope_view}
use Rattle.ec_machine.specs.Frames.{objects_of}
use Rattle.ec_machine.proofs.Moves.{grown_on}
use Rattle.ec_machine.proofs.Objects.{makes_err}
use Rattle.ec_machine.proofs.Parts.{front_any}
use Rattle.ec_machine.proofs.making.make_parameters.Goals as goal

pub returns-in-Err-clause-made : goal.returns-in-Err-clause-made
returns-in-Err-clause-made c = λ line s go.
    let kinds = c.loop-kinds.kinds.now in
    let left = take (length kinds - 1) (drop 1 kinds) in
    let kind = get_or kinds 0 kinds_of.Bool in
    let there : slice_get kinds 0 ≡ Some kind = slice_get-get_or kinds 0 kinds_of.Bool c.in-len1-up.len_at_least in
    let e : kinds ≡ kind ∷ left = front_any kinds kinds_of.Bool c.in-len1-up.len_at_least in
    let rest : List ℕ → State → Res = λ os t. made line (map scalar_size (map kind_type left)) os t go in
    makes_err line c.in-Err.why
    (made line (map scalar_size (map kind_type c.args.kinds.now)) (scope_view (objects_of c.args.scope.now)) (at s c.args.store.now) go)
    (made line (map scalar_size (map kind_type (kind ∷ left))) (scope_view (objects_of c.loop-kinds.scope)) (at s c.loop-kinds.store) go)
    (go (scope_view (objects_of c.make_first.new.scope)) (at s c.make_first.new.store))
    (rest (scope_view (objects_of c.make_first.new.scope)) (at s c.make_first.new.store))
    (at s c.make_first.new.store)
    (c.loop-kinds.invariant.made line s go
    ∙ ap (λ xs. made line (map scalar_size (map kind_type xs)) (scope_view (objects_of c.loop-kinds.scope)) (at s c.loop-kinds.store) go) e)
    (c.in-Err.ensures.made line s rest kind there)

pub loop-kinds-preserved : goal.loop-kinds-preserved
loop-kinds-preserved c =
    let kinds = c.loop-kinds.kinds.now in
    let left = take (length kinds - 1) (drop 1 kinds) in
    let kind = get_or kinds 0 kinds_of.Bool in
    let there : slice_get kinds 0 ≡ Some kind = slice_get-get_or kinds 0 kinds_of.Bool c.in-len1-up.len_at_least in
    let e : kinds ≡ kind ∷ left = front_any kinds kinds_of.Bool c.in-len1-up.len_at_least in
    record {
      made = λ line s go.
          c.loop-kinds.invariant.made line s go
          ∙ ap (λ xs. made line (map scalar_size (map kind_type xs)) (scope_view (objects_of c.loop-kinds.scope)) (at s c.loop-kinds.store) go) e
          ∙ c.in-Ok.ensures.made line s (λ os t. made line (map scalar_size (map kind_type left)) os t go) kind there;
      grown = grown_on c.args.scope.now.pointers c.loop-kinds.scope.pointers c.make_first.new.scope.pointers c.loop-kinds.invariant.grown c.in-Ok.ensures.grown;
    }
