-- The rules of embedded statements leave tags as they are.
use Rattle.std.proofs.Common.{◌≡◌, ℕ, Bool, List, [], ◌∷◌, map, refl, Option, Some, None}
use Rattle.ec_base.specs.declared.fault.FaultKind.{FaultKind}
use Rattle.ec_base.specs.declared.fault.FaultKind.TheVariants.{F30}
use Rattle.ec_ctypes.specs.declared.embedded.emb.Cond.TheVariants.{NotFound, Warning, Error}
use Rattle.ec_ctypes.specs.trees.Types.{TyData}
use Rattle.ec_ctypes.specs.trees.Exprs.{ExprData, call}
use Rattle.ec_ctypes.specs.trees.Embedded.{ActionData, continue_action, goto_action, print_action, stop_action, break_action, next_action, call_action, EmbData}
use Rattle.ec_language.specs.First.{Violation}
use Rattle.ec_language.specs.Letters.{Text}
use Rattle.ec_typing_defs.specs.statement_parts.Handlers.{is_directive, handler}
use Rattle.ec_typing_defs.specs.statement_parts.References.{References, references}
use Rattle.ec_typing_defs.specs.Tables.{Named}
use Rattle.ec_typing_defs.specs.Worlds.{Place, Rule, instead}
use Rattle.ec_typing_defs.specs.Embedded.{reference_rule, members_rule, references_rule, action_rule, actions_rule, handlers_rule, denote, embedded_rule}
use Rattle.ec_written_laws.proofs.kept_lemmas.Rules.{Quiet, quiet_of, chained, asked, pure_holds, demand_quiet, keep_quiet, change_holds, chosen}
use Rattle.ec_written_laws.proofs.kept_lemmas.Expressions.{expr_kept}

reference_quiet : (at : Place) (e : ExprData) → Quiet (reference_rule at e)
unfolding reference_rule
reference_quiet at e = asked _ _ (λ w c. chosen _ (pure_holds _ tt) (quiet_of (expr_kept at e)))

members_quiet : (at : Place) (is_host : Bool) (t : Option TyData) → Quiet (members_rule at is_host t)
unfolding members_rule
members_quiet at is_host t = asked _ _ (λ w c. keep_quiet _ _ _)

references_quiet : (at : Place) (rs : References) → Quiet (references_rule at rs)
references_quiet at [] = pure_holds _ tt
references_quiet at (r ∷ rs) = chained (reference_quiet at r.value) (λ o p. chained (members_quiet at r.is_host o.type) (λ a q. references_quiet at rs))

instead_quiet : (at : Place) (kind : FaultKind) (m : Rule (Unit {0})) → Quiet m → Quiet (instead at kind m)
unfolding instead
instead_quiet at kind m h = record { run = λ w c e. h.run w c (none _ (m w).found e) }
  where
    none : (f : Violation → Violation) (vs : List Violation) → map f vs ≡ [] → vs ≡ []
    none f [] e = refl
    none f (v ∷ vs) e = absurd (cc)

action_quiet : (in_loop : Bool) (labels : Named (Unit {0})) (at : Place) (a : Option ActionData) → Quiet (action_rule in_loop labels at a)
action_quiet in_loop labels at None = pure_holds _ tt
action_quiet in_loop labels at (Some continue_action) = pure_holds _ tt
action_quiet in_loop labels at (Some (goto_action l)) = demand_quiet _ _ _
action_quiet in_loop labels at (Some print_action) = pure_holds _ tt
action_quiet in_loop labels at (Some stop_action) = pure_holds _ tt
action_quiet in_loop labels at (Some break_action) = demand_quiet _ _ _
action_quiet in_loop labels at (Some next_action) = demand_quiet _ _ _
action_quiet in_loop labels at (Some (call_action f es)) = instead_quiet at F30 _ (chained (expr_kept at (call f es)) (λ o h. pure_holds _ tt))

actions_quiet : (es : List EmbData) (in_loop : Bool) (labels : Named (Unit {0})) (at : Place) (e : EmbData) → Quiet (actions_rule es in_loop labels at e)
actions_quiet es in_loop labels at e =
    chained (action_quiet in_loop labels at (handler es e.place NotFound)) (λ a p. chained (action_quiet in_loop labels at (handler es e.place Warning)) (λ b q. action_quiet in_loop labels at (handler es e.place Error)))

handlers_quiet : (es : List EmbData) (in_loop : Bool) (labels : Named (Unit {0})) (at : Place) (e : EmbData) → Quiet (handlers_rule es in_loop labels at e)
handlers_quiet es in_loop labels at e = chosen (is_directive e) (pure_holds _ tt) (actions_quiet es in_loop labels at e)

denote_quiet : (names : List Text) → Quiet (denote names)
unfolding denote
denote_quiet names = change_holds _ (λ w c. c)

pub embedded_quiet : (es : List EmbData) (is_body in_loop : Bool) (labels : Named (Unit {0})) (at : Place) (n : ℕ) (e : EmbData) → Quiet (embedded_rule es is_body in_loop labels at n e)
embedded_quiet es is_body in_loop labels at n e =
    chained (demand_quiet _ _ _) (λ a p. chained (references_quiet at (references e)) (λ b q. chained (denote_quiet _) (λ c r. handlers_quiet es in_loop labels at e)))
