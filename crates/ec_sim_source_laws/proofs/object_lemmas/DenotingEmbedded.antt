-- Nothing is denoted by references, and by the actions that hold at a statement.
use Rattle.std.proofs.Common.{Bool, List, [], ◌∷◌, Option, Some, None}
use Rattle.ec_base.specs.declared.fault.FaultKind.{FaultKind}
use Rattle.ec_base.specs.declared.fault.FaultKind.TheVariants.{F30}
use Rattle.ec_ctypes.specs.declared.embedded.emb.Cond.TheVariants.{NotFound, Warning, Error}
use Rattle.ec_ctypes.specs.trees.Types.{TyData}
use Rattle.ec_ctypes.specs.trees.Exprs.{ExprData, call}
use Rattle.ec_ctypes.specs.trees.Embedded.{ActionData, continue_action, goto_action, print_action, stop_action, break_action, next_action, call_action, EmbData}
use Rattle.ec_typing_defs.specs.statement_parts.Handlers.{is_directive, handler}
use Rattle.ec_typing_defs.specs.statement_parts.References.{References}
use Rattle.ec_typing_defs.specs.Tables.{Named}
use Rattle.ec_typing_defs.specs.Worlds.{Place, Rule, instead}
use Rattle.ec_typing_defs.specs.Embedded.{reference_rule, members_rule, references_rule, action_rule, actions_rule, handlers_rule}
use Rattle.ec_sim_program_laws.proofs.program_lemmas.DenotingRules.{DenotesNone, chained, asked, pure_denotes, demand_denotes, keep_denotes, chosen}
use Rattle.ec_sim_program_laws.proofs.program_lemmas.DenotingExpressions.{expr_denotes}

instead_denotes : (at : Place) (kind : FaultKind) (m : Rule (Unit {0})) → DenotesNone m → DenotesNone (instead at kind m)
unfolding instead
instead_denotes at kind m h = record { kept = h.kept }

reference_denotes : (at : Place) (e : ExprData) → DenotesNone (reference_rule at e)
unfolding reference_rule
reference_denotes at e = asked _ _ (λ known. chosen _ (pure_denotes _) (expr_denotes at e))

members_denotes : (at : Place) (is_host : Bool) (t : Option TyData) → DenotesNone (members_rule at is_host t)
unfolding members_rule
members_denotes at is_host t = asked _ _ (λ known. keep_denotes _ _ _)

pub references_denote : (at : Place) (rs : References) → DenotesNone (references_rule at rs)
references_denote at [] = pure_denotes _
references_denote at (r ∷ rs) = chained (reference_denotes at r.value) (λ o. chained (members_denotes at r.is_host o.type) (λ a. references_denote at rs))

action_denotes : (in_loop : Bool) (labels : Named (Unit {0})) (at : Place) (a : Option ActionData) → DenotesNone (action_rule in_loop labels at a)
action_denotes in_loop labels at None = pure_denotes _
action_denotes in_loop labels at (Some continue_action) = pure_denotes _
action_denotes in_loop labels at (Some (goto_action l)) = demand_denotes _ _ _
action_denotes in_loop labels at (Some print_action) = pure_denotes _
action_denotes in_loop labels at (Some stop_action) = pure_denotes _
action_denotes in_loop labels at (Some break_action) = demand_denotes _ _ _
action_denotes in_loop labels at (Some next_action) = demand_denotes _ _ _
action_denotes in_loop labels at (Some (call_action f es)) = instead_denotes at F30 _ (chained (expr_denotes at (call f es)) (λ o. pure_denotes _))

actions_denote : (es : List EmbData) (in_loop : Bool) (labels : Named (Unit {0})) (at : Place) (e : EmbData) → DenotesNone (actions_rule es in_loop labels at e)
actions_denote es in_loop labels at e =
    chained (action_denotes in_loop labels at (handler es e.place NotFound)) (λ a. chained (action_denotes in_loop labels at (handler es e.place Warning)) (λ b. action_denotes in_loop labels at (handler es e.place Error)))

pub handlers_denote : (es : List EmbData) (in_loop : Bool) (labels : Named (Unit {0})) (at : Place) (e : EmbData) → DenotesNone (handlers_rule es in_loop labels at e)
handlers_denote es in_loop labels at e = chosen (is_directive e) (pure_denotes _) (actions_denote es in_loop labels at e)
