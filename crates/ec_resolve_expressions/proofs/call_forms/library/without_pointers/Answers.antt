use Rattle.std.proofs.Common.{[], ◌∷◌, ◌++◌, ap, map}
use Rattle.std.proofs.lemmas.List.{map-append}
use Rattle.ec_code.specs.Views.{expression_view}
use Rattle.ec_resolve_values.specs.storage.Stored.{argument_view}
use Rattle.ec_resolve_expressions.proofs.call_forms_lemmas.Parting.{one_parted}
use Rattle.ec_resolve_expressions.proofs.call_forms.library.without_pointers.Goals as goal

pub loop-argument-init : goal.loop-argument-init
loop-argument-init c = record { rest = ap (map argument_view) c.new-left.ensures; first = ap (map expression_view) c.new-pointers.ensures }

pub loop-argument-preserved : goal.loop-argument-preserved
loop-argument-preserved c =
    let before = c.loop-argument.yielded in
    let a = c.in-Some.argument in
    one_parted (map argument_view before) (map argument_view (before ++ a ∷ [])) _ _ _ _ (argument_view a) (map-append argument_view before (a ∷ []))
    c.in_ok-part_one.ensures.left c.in_ok-part_one.ensures.pointers c.loop-argument.invariant
