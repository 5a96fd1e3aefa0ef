use Rattle.std.proofs.Common.{◌≡◌, ◌∙◌, List, [], ◌∷◌, Option, true, drop, map, sym, ap, refl}
use Rattle.std.proofs.lemmas.List.{drop_all}
use Rattle.ec_ctypes.specs.trees.Types.{TyData}
use Rattle.ec_scopes.specs.Entries.{type_view}
use Rattle.ec_typing_defs.specs.Operands.{all_fit}
use Rattle.ec_rules.specs.Seen.{operand_view}
use Rattle.ec_rules.proofs.calls.all_fit.Goals as goal

no_arguments : (ps : List (Option TyData)) → true ≡ all_fit ps []
no_arguments [] = refl
no_arguments (p ∷ ps) = refl

pub returns-else-i-arguments : goal.returns-else-i-arguments
returns-else-i-arguments c =
    no_arguments (map type_view (drop c.loop-i.i c.args.params.now))
    ∙ ap (λ os. all_fit (map type_view (drop c.loop-i.i c.args.params.now)) (map operand_view os)) (sym (drop_all c.loop-i.i c.args.arguments.now c.if-i-arguments.false))
    ∙ c.loop-i.invariant.rest
