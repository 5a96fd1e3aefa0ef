-- Structs stay closed in their order by embedded statements.
use Rattle.std.proofs.Common.{ℕ, Bool, List, [], ◌∷◌, Option, Some, None}
use Rattle.ec_base.specs.declared.fault.FaultKind.TheVariants.{F30}
use Rattle.ec_ctypes.specs.declared.embedded.emb.Cond.TheVariants.{NotFound, Warning, Error}
use Rattle.ec_ctypes.specs.trees.Types.{TyData}
use Rattle.ec_ctypes.specs.trees.Exprs.{ExprData, call}
use Rattle.ec_ctypes.specs.trees.Embedded.{ActionData, continue_action, goto_action, print_action, stop_action, break_action, next_action, call_action, EmbData}
use Rattle.ec_language.specs.Letters.{Text}
use Rattle.ec_typing_defs.specs.statement_parts.Handlers.{is_directive, handler}
use Rattle.ec_typing_defs.specs.statement_parts.References.{References, references}
use Rattle.ec_typing_defs.specs.Tables.{Named}
use Rattle.ec_typing_defs.specs.Worlds.{Place}
use Rattle.ec_typing_defs.specs.Embedded.{reference_rule, members_rule, references_rule, action_rule, actions_rule, handlers_rule, denote, embedded_rule}
use Rattle.ec_sim_world_laws.proofs.closing_lemmas.Rules.{Keeping, chained, asked, pure_keeps, demand_keeps, keep_keeps, instead_keeps, change_keeps, chosen}
use Rattle.ec_sim_world_laws.proofs.closing_lemmas.Expressions.{expr_keeps}

reference_keeps : (at : Place) (e : ExprData) → Keeping (reference_rule at e)
unfolding reference_rule
reference_keeps at e = asked _ _ (λ known. chosen _ (pure_keeps _) (expr_keeps at e))

members_keeps : (at : Place) (is_host : Bool) (t : Option TyData) → Keeping (members_rule at is_host t)
unfolding members_rule
members_keeps at is_host t = asked _ _ (λ known. keep_keeps _ _ _)

references_keeps : (at : Place) (rs : References) → Keeping (references_rule at rs)
references_keeps at [] = pure_keeps _
references_keeps at (r ∷ rs) = chained (reference_keeps at r.value) (λ o. chained (members_keeps at r.is_host o.type) (λ a. references_keeps at rs))

action_keeps : (in_loop : Bool) (labels : Named (Unit {0})) (at : Place) (a : Option ActionData) → Keeping (action_rule in_loop labels at a)
action_keeps in_loop labels at None = pure_keeps _
action_keeps in_loop labels at (Some continue_action) = pure_keeps _
action_keeps in_loop labels at (Some (goto_action l)) = demand_keeps _ _ _
action_keeps in_loop labels at (Some print_action) = pure_keeps _
action_keeps in_loop labels at (Some stop_action) = pure_keeps _
action_keeps in_loop labels at (Some break_action) = demand_keeps _ _ _
action_keeps in_loop labels at (Some next_action) = demand_keeps _ _ _
action_keeps in_loop labels at (Some (call_action f es)) = instead_keeps at F30 _ (chained (expr_keeps at (call f es)) (λ o. pure_keeps _))

actions_keeps : (es : List EmbData) (in_loop : Bool) (labels : Named (Unit {0})) (at : Place) (e : EmbData) → Keeping (actions_rule es in_loop labels at e)
actions_keeps es in_loop labels at e =
    chained (action_keeps in_loop labels at (handler es e.place NotFound)) (λ a. chained (action_keeps in_loop labels at (handler es e.place Warning)) (λ b. action_keeps in_loop labels at (handler es e.place Error)))

pub handlers_keeps : (es : List EmbData) (in_loop : Bool) (labels : Named (Unit {0})) (at : Place) (e : EmbData) → Keeping (handlers_rule es in_loop labels at e)
handlers_keeps es in_loop labels at e = chosen (is_directive e) (pure_keeps _) (actions_keeps es in_loop labels at e)

denote_keeps : (names : List Text) → Keeping (denote names)
unfolding denote
denote_keeps names = change_keeps _ (λ w order. record { order = order; being = λ k e. e; among = λ k e. e })

pub embedded_keeps : (es : List EmbData) (is_body in_loop : Bool) (labels : Named (Unit {0})) (at : Place) (n : ℕ) (e : EmbData) → Keeping (embedded_rule es is_body in_loop labels at n e)
embedded_keeps es is_body in_loop labels at n e =
    chained (demand_keeps _ _ _) (λ a. chained (references_keeps at (references e)) (λ b. chained (denote_keeps _) (λ c. handlers_keeps es in_loop labels at e)))
