-- What is known grows by embedded statements.
use Rattle.std.proofs.Common.{ℕ, Bool, List, [], ◌∷◌, refl, Option, Some, None}
use Rattle.ec_base.specs.declared.fault.FaultKind.TheVariants.{F30}
use Rattle.ec_ctypes.specs.declared.embedded.emb.Cond.TheVariants.{NotFound, Warning, Error}
use Rattle.ec_ctypes.specs.trees.Types.{TyData}
use Rattle.ec_ctypes.specs.trees.Exprs.{ExprData, call}
use Rattle.ec_ctypes.specs.trees.Embedded.{ActionData, continue_action, goto_action, print_action, stop_action, break_action, next_action, call_action, EmbData}
use Rattle.ec_language.specs.Letters.{Text}
use Rattle.ec_typing_defs.specs.statement_parts.Handlers.{is_directive, handler}
use Rattle.ec_typing_defs.specs.statement_parts.References.{References, references}
use Rattle.ec_typing_defs.specs.Tables.{Named}
use Rattle.ec_typing_defs.specs.Worlds.{Place}
use Rattle.ec_typing_defs.specs.Embedded.{reference_rule, members_rule, references_rule, action_rule, actions_rule, handlers_rule, denote, embedded_rule}
use Rattle.ec_sim_world_laws.proofs.growth_lemmas.Rules.{begins_itself, begins_joined, Growing, chained, asked, pure_grows, demand_grows, keep_grows, instead_grows, change_grows, chosen}
use Rattle.ec_sim_world_laws.proofs.growth_lemmas.Expressions.{expr_grows}

reference_grows : (at : Place) (e : ExprData) → Growing (reference_rule at e)
unfolding reference_rule
reference_grows at e = asked _ _ (λ known. chosen _ (pure_grows _) (expr_grows at e))

members_grows : (at : Place) (is_host : Bool) (t : Option TyData) → Growing (members_rule at is_host t)
unfolding members_rule
members_grows at is_host t = asked _ _ (λ known. keep_grows _ _ _)

references_grows : (at : Place) (rs : References) → Growing (references_rule at rs)
references_grows at [] = pure_grows _
references_grows at (r ∷ rs) = chained (reference_grows at r.value) (λ o. chained (members_grows at r.is_host o.type) (λ a. references_grows at rs))

action_grows : (in_loop : Bool) (labels : Named (Unit {0})) (at : Place) (a : Option ActionData) → Growing (action_rule in_loop labels at a)
action_grows in_loop labels at None = pure_grows _
action_grows in_loop labels at (Some continue_action) = pure_grows _
action_grows in_loop labels at (Some (goto_action l)) = demand_grows _ _ _
action_grows in_loop labels at (Some print_action) = pure_grows _
action_grows in_loop labels at (Some stop_action) = pure_grows _
action_grows in_loop labels at (Some break_action) = demand_grows _ _ _
action_grows in_loop labels at (Some next_action) = demand_grows _ _ _
action_grows in_loop labels at (Some (call_action f es)) = instead_grows at F30 _ (chained (expr_grows at (call f es)) (λ o. pure_grows _))

actions_grows : (es : List EmbData) (in_loop : Bool) (labels : Named (Unit {0})) (at : Place) (e : EmbData) → Growing (actions_rule es in_loop labels at e)
actions_grows es in_loop labels at e =
    chained (action_grows in_loop labels at (handler es e.place NotFound)) (λ a. chained (action_grows in_loop labels at (handler es e.place Warning)) (λ b. action_grows in_loop labels at (handler es e.place Error)))

pub handlers_grows : (es : List EmbData) (in_loop : Bool) (labels : Named (Unit {0})) (at : Place) (e : EmbData) → Growing (handlers_rule es in_loop labels at e)
handlers_grows es in_loop labels at e = chosen (is_directive e) (pure_grows _) (actions_grows es in_loop labels at e)

denote_grows : (names : List Text) → Growing (denote names)
unfolding denote
denote_grows names = change_grows _ (λ w. record {
  written = refl;
  defined = refl;
  types = begins_itself w.types;
  denoted = begins_joined w.denoted _;
  closed = begins_itself w.closed;
  structs = λ k info e u. e;
})

pub embedded_grows : (es : List EmbData) (is_body in_loop : Bool) (labels : Named (Unit {0})) (at : Place) (n : ℕ) (e : EmbData) → Growing (embedded_rule es is_body in_loop labels at n e)
embedded_grows es is_body in_loop labels at n e =
    chained (demand_grows _ _ _) (λ a. chained (references_grows at (references e)) (λ b. chained (denote_grows _) (λ c. handlers_grows es in_loop labels at e)))
