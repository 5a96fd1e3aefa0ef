-- The values are stored in the parameters, which stand behind the other objects.
use Rattle.std.proofs.Common.{◌≡◌, ◌∙◌, ap, subst, sym, map, ℕ, List, length, drop}
use Rattle.std.proofs.lemmas.List.{drop-map, length-map}
use Rattle.ec_bytes.specs.declared.scalar.address.Ptr.{Ptr}
use Rattle.ec_meaning_defs.specs.evaluation.Results.{Res, given}
use Rattle.ec_meaning_defs.specs.evaluation.State.{State}
use Rattle.ec_memory_defs.specs.Kinds.{kind_type}
use Rattle.ec_plain.specs.Answered.{at, scope_view}
use Rattle.ec_values.specs.Words.{word_view}
use Rattle.ec_machine.specs.Frames.{objects_of}
use Rattle.ec_machine.specs.Goes.{Passes}
use Rattle.ec_machine.proofs.making.make_any.Goals as goal

pub returns-clause-made : goal.returns-clause-made
returns-clause-made c = λ s go.
    let line = c.args.line.0 in
    let types = map kind_type c.args.kinds.now in
    let values = map word_view c.args.values.now in
    let first = objects_of c.args.scope.now in
    let all = objects_of c.make_parameters.new.scope in
    let number : Ptr → ℕ = λ p. p.0 in
    let next : List ℕ → State → Res = λ ps t. given line types (drop (length (scope_view first)) ps) values t (λ u. go ps u) in
    let count : length c.objects-before.result.now ≡ length (scope_view first) = ap length c.objects-before.ensures ∙ sym (length-map first number) in
    let place : scope_view c.behind.result.now ≡ drop (length (scope_view first)) (scope_view all) =
    ap scope_view (c.behind.ensures ∙ ap (drop (length c.objects-before.result.now)) c.objects.ensures)
    ∙ sym (drop-map number (length c.objects-before.result.now) all)
    ∙ ap (λ n. drop n (scope_view all)) count in
    subst (λ o. Passes c.give_arguments.result o (go (scope_view all) (at s c.give_arguments.new.store)) (at s c.give_arguments.new.store))
    (sym (c.in-Ok.ensures.made line s next ∙ ap (λ ps. given line types ps values (at s c.make_parameters.new.store) (λ u. go (scope_view all) u)) (sym place)))
    (c.give_arguments.ensures.given s (λ u. go (scope_view all) u))
