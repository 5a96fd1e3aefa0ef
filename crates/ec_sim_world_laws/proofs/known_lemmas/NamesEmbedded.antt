-- Names and declarations stay as they are by embedded statements.
use Rattle.std.proofs.Common.{ℕ, Bool, List, [], ◌∷◌, Option, Some, None, refl}
use Rattle.ec_base.specs.declared.fault.FaultKind.TheVariants.{F30}
use Rattle.ec_ctypes.specs.declared.embedded.emb.Cond.TheVariants.{NotFound, Warning, Error}
use Rattle.ec_ctypes.specs.trees.Types.{TyData}
use Rattle.ec_ctypes.specs.trees.Exprs.{ExprData, call}
use Rattle.ec_ctypes.specs.trees.Embedded.{ActionData, continue_action, goto_action, print_action, stop_action, break_action, next_action, call_action, EmbData}
use Rattle.ec_language.specs.Letters.{Text}
use Rattle.ec_typing_defs.specs.statement_parts.Handlers.{is_directive, handler}
use Rattle.ec_typing_defs.specs.statement_parts.References.{References, references}
use Rattle.ec_typing_defs.specs.Tables.{Named}
use Rattle.ec_typing_defs.specs.Worlds.{Place}
use Rattle.ec_typing_defs.specs.Embedded.{reference_rule, members_rule, references_rule, action_rule, actions_rule, handlers_rule, denote, embedded_rule}
use Rattle.ec_sim_world_laws.proofs.known_lemmas.NamesRules.{Staying, chained, asked, pure_stays, demand_stays, keep_stays, instead_stays, changed, chosen}
use Rattle.ec_sim_world_laws.proofs.known_lemmas.NamesExpressions.{expr_stays}

reference_stays : (at : Place) (e : ExprData) → Staying (reference_rule at e)
unfolding reference_rule
reference_stays at e = asked _ _ (λ known. chosen _ (pure_stays _) (expr_stays at e))

members_stays : (at : Place) (is_host : Bool) (t : Option TyData) → Staying (members_rule at is_host t)
unfolding members_rule
members_stays at is_host t = asked _ _ (λ known. keep_stays _ _ _)

pub references_stays : (at : Place) (rs : References) → Staying (references_rule at rs)
references_stays at [] = pure_stays _
references_stays at (r ∷ rs) = chained (reference_stays at r.value) (λ o. chained (members_stays at r.is_host o.type) (λ a. references_stays at rs))

action_stays : (in_loop : Bool) (labels : Named (Unit {0})) (at : Place) (a : Option ActionData) → Staying (action_rule in_loop labels at a)
action_stays in_loop labels at None = pure_stays _
action_stays in_loop labels at (Some continue_action) = pure_stays _
action_stays in_loop labels at (Some (goto_action l)) = demand_stays _ _ _
action_stays in_loop labels at (Some print_action) = pure_stays _
action_stays in_loop labels at (Some stop_action) = pure_stays _
action_stays in_loop labels at (Some break_action) = demand_stays _ _ _
action_stays in_loop labels at (Some next_action) = demand_stays _ _ _
action_stays in_loop labels at (Some (call_action f es)) = instead_stays at F30 _ (chained (expr_stays at (call f es)) (λ o. pure_stays _))

actions_stays : (es : List EmbData) (in_loop : Bool) (labels : Named (Unit {0})) (at : Place) (e : EmbData) → Staying (actions_rule es in_loop labels at e)
actions_stays es in_loop labels at e =
    chained (action_stays in_loop labels at (handler es e.place NotFound)) (λ a. chained (action_stays in_loop labels at (handler es e.place Warning)) (λ b. action_stays in_loop labels at (handler es e.place Error)))

pub handlers_stays : (es : List EmbData) (in_loop : Bool) (labels : Named (Unit {0})) (at : Place) (e : EmbData) → Staying (handlers_rule es in_loop labels at e)
handlers_stays es in_loop labels at e = chosen (is_directive e) (pure_stays _) (actions_stays es in_loop labels at e)

pub denote_stays : (names : List Text) → Staying (denote names)
unfolding denote
denote_stays names = changed _ (λ w. refl) (λ w. refl) (λ w. refl)

pub embedded_stays : (es : List EmbData) (is_body in_loop : Bool) (labels : Named (Unit {0})) (at : Place) (n : ℕ) (e : EmbData) → Staying (embedded_rule es is_body in_loop labels at n e)
embedded_stays es is_body in_loop labels at n e =
    chained (demand_stays _ _ _) (λ a. chained (references_stays at (references e)) (λ b. chained (denote_stays _) (λ c. handlers_stays es in_loop labels at e)))
