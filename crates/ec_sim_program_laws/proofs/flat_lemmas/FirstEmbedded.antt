-- Embedded statements make no structs.
use Rattle.std.proofs.Common.{◌≡◌, ◌≤◌, ℕ, ◌+◌, Bool, List, [], ◌∷◌, refl, Option, Some, None, slice_get, arith}
use Rattle.ec_base.specs.declared.fault.FaultKind.TheVariants.{F30}
use Rattle.ec_ctypes.specs.declared.embedded.emb.Cond.TheVariants.{NotFound, Warning, Error}
use Rattle.ec_ctypes.specs.trees.Types.{TyData}
use Rattle.ec_ctypes.specs.trees.Exprs.{ExprData, integer, character, string, identifier, unary, binary, assign, bump, call, call_other, index, member, arrow, cast, size_type, size_expr, ExprList, no_exprs, exprs}
use Rattle.ec_ctypes.specs.trees.Embedded.{ActionData, continue_action, goto_action, print_action, stop_action, break_action, next_action, call_action, EmbData}
use Rattle.ec_language.specs.Letters.{Text}
use Rattle.ec_typing_defs.specs.statement_parts.Handlers.{is_directive, handler}
use Rattle.ec_typing_defs.specs.statement_parts.References.{References, references}
use Rattle.ec_typing_defs.specs.Tables.{Named}
use Rattle.ec_typing_defs.specs.Worlds.{Place}
use Rattle.ec_typing_defs.specs.Embedded.{reference_rule, members_rule, references_rule, action_rule, actions_rule, handlers_rule, denote, embedded_rule}
use Rattle.ec_sim_program_laws.specs.directive.References.{MakesNothing, MakeNothing}
use Rattle.ec_sim_world_laws.proofs.known_lemmas.SitesIdle.{demand_idle, keep_idle}
use Rattle.ec_sim_world_laws.specs.test.Plain.{IsPlain, ArePlain, IsPlainOption, HasPlainActions}
use Rattle.ec_sim_program_laws.specs.types.Flat.{IsFlat, AreFlat}
use Rattle.ec_sim_program_laws.proofs.flat_lemmas.Counts.{expr_structs, exprs_structs}
use Rattle.ec_sim_program_laws.proofs.flat_lemmas.FirstRules.{Adds, chained, within, idle, pure_adds, asked, instead_adds, same_adds, chosen}
use Rattle.ec_sim_program_laws.proofs.flat_lemmas.FirstExpressions.{expr_adds}

-- ---- names with indexes and members, and constants

plain_of : (e : ExprData) → MakesNothing e → IsPlain e
plain_of (integer n t) h = tt
plain_of (character c) h = tt
plain_of (string s) h = tt
plain_of (identifier x) h = tt
plain_of (unary op e) h = absurd h
plain_of (binary op a b) h = absurd h
plain_of (assign op a b) h = absurd h
plain_of (bump before up e) h = absurd h
plain_of (call f es) h = absurd h
plain_of (call_other f es) h = absurd h
plain_of (index a b) h = (plain_of a h.0, plain_of b h.1)
plain_of (member e m) h = plain_of e h
plain_of (arrow e m) h = plain_of e h
plain_of (cast b stars e) h = absurd h
plain_of (size_type b stars) h = absurd h
plain_of (size_expr e) h = absurd h

plain_flat : (e : ExprData) → IsPlain e → IsFlat e
plain_flat (integer n t) h = tt
plain_flat (character c) h = tt
plain_flat (string s) h = tt
plain_flat (identifier x) h = tt
plain_flat (unary op e) h = absurd h
plain_flat (binary op a b) h = absurd h
plain_flat (assign op a b) h = absurd h
plain_flat (bump before up e) h = absurd h
plain_flat (call f es) h = absurd h
plain_flat (call_other f es) h = absurd h
plain_flat (index a b) h = (plain_flat a h.0, plain_flat b h.1)
plain_flat (member e m) h = plain_flat e h
plain_flat (arrow e m) h = plain_flat e h
plain_flat (cast b stars e) h = absurd h
plain_flat (size_type b stars) h = absurd h
plain_flat (size_expr e) h = absurd h

none_both : (a b : ℕ) → a ≡ 0 → b ≡ 0 → a + b ≡ 0
none_both a b h k = omega (arith, h, k)

plain_none : (e : ExprData) → IsPlain e → expr_structs e ≡ 0
plain_none (integer n t) h = refl
plain_none (character c) h = refl
plain_none (string s) h = refl
plain_none (identifier x) h = refl
plain_none (unary op e) h = absurd h
plain_none (binary op a b) h = absurd h
plain_none (assign op a b) h = absurd h
plain_none (bump before up e) h = absurd h
plain_none (call f es) h = absurd h
plain_none (call_other f es) h = absurd h
plain_none (index a b) h = none_both (expr_structs a) (expr_structs b) (plain_none a h.0) (plain_none b h.1)
plain_none (member e m) h = plain_none e h
plain_none (arrow e m) h = plain_none e h
plain_none (cast b stars e) h = absurd h
plain_none (size_type b stars) h = absurd h
plain_none (size_expr e) h = absurd h

plain_flats : (es : ExprList) → ArePlain es → AreFlat es
plain_flats no_exprs h = tt
plain_flats (exprs e es) h = (plain_flat e h.0, plain_flats es h.1)

plain_nones : (es : ExprList) → ArePlain es → exprs_structs es ≡ 0
plain_nones no_exprs h = refl
plain_nones (exprs e es) h = none_both (expr_structs e) (exprs_structs es) (plain_none e h.0) (plain_nones es h.1)

no_more : (n a : ℕ) → a ≡ 0 → n + a ≤ n
no_more n a e = omega (arith, e)

-- ---- rules

reference_adds : (n : ℕ) (at : Place) (e : ExprData) → IsPlain e → Adds n n (reference_rule at e)
unfolding reference_rule
reference_adds n at e p = asked _ _ (λ known. chosen _ (pure_adds _) (within (expr_adds n at e (plain_flat e p)) (no_more n (expr_structs e) (plain_none e p))))

members_adds : (n : ℕ) (at : Place) (is_host : Bool) (t : Option TyData) → Adds n n (members_rule at is_host t)
unfolding members_rule
members_adds n at is_host t = asked _ _ (λ known. idle (keep_idle _ _ _))

references_add : (n : ℕ) (at : Place) (rs : References) → MakeNothing rs → Adds n n (references_rule at rs)
references_add n at [] p = pure_adds _
references_add n at (r ∷ rs) p = chained (reference_adds n at r.value (plain_of r.value p.0)) (λ o. chained (members_adds n at r.is_host o.type) (λ a. references_add n at rs p.1))

action_adds : (n : ℕ) (in_loop : Bool) (labels : Named (Unit {0})) (at : Place) (a : Option ActionData) → IsPlainOption a → Adds n n (action_rule in_loop labels at a)
action_adds n in_loop labels at None p = pure_adds _
action_adds n in_loop labels at (Some continue_action) p = pure_adds _
action_adds n in_loop labels at (Some (goto_action l)) p = idle (demand_idle _ _ _)
action_adds n in_loop labels at (Some print_action) p = pure_adds _
action_adds n in_loop labels at (Some stop_action) p = pure_adds _
action_adds n in_loop labels at (Some break_action) p = idle (demand_idle _ _ _)
action_adds n in_loop labels at (Some next_action) p = idle (demand_idle _ _ _)
action_adds n in_loop labels at (Some (call_action f es)) p =
    instead_adds at F30 _ (within (chained (expr_adds n at (call f es) (plain_flats es p)) (λ o. pure_adds _)) (no_more n (exprs_structs es) (plain_nones es p)))

actions_add : (n : ℕ) (es : List EmbData) (in_loop : Bool) (labels : Named (Unit {0})) (at : Place) (e : EmbData) → HasPlainActions es e → Adds n n (actions_rule es in_loop labels at e)
actions_add n es in_loop labels at e p =
    chained (action_adds n in_loop labels at (handler es e.place NotFound) (p NotFound)) (λ a. chained (action_adds n in_loop labels at (handler es e.place Warning) (p Warning)) (λ b. action_adds n in_loop labels at (handler es e.place Error) (p Error)))

handlers_add : (n : ℕ) (es : List EmbData) (in_loop : Bool) (labels : Named (Unit {0})) (at : Place) (e : EmbData) → HasPlainActions es e → Adds n n (handlers_rule es in_loop labels at e)
handlers_add n es in_loop labels at e p = chosen (is_directive e) (pure_adds _) (actions_add n es in_loop labels at e p)

denote_adds : (n : ℕ) (names : List Text) → Adds n n (denote names)
unfolding denote
denote_adds n names = same_adds _ (λ w. refl)

-- a statement of a program with these
pub record IsPlainly (es : List EmbData) (e : EmbData) : Type 0 where
  pub references : MakeNothing (references e)
  pub actions : HasPlainActions es e

abbrev pub AllPlainly : List EmbData → Type 0
AllPlainly es = (n : ℕ) (e : EmbData) → slice_get es n ≡ Some e → IsPlainly es e

pub embedded_adds : (n : ℕ) (es : List EmbData) (is_body in_loop : Bool) (labels : Named (Unit {0})) (at : Place) (k : ℕ) (e : EmbData) → IsPlainly es e → Adds n n (embedded_rule es is_body in_loop labels at k e)
embedded_adds n es is_body in_loop labels at k e p =
    chained (idle (demand_idle _ _ _)) (λ a. chained (references_add n at (references e) p.references) (λ b. chained (denote_adds n _) (λ c. handlers_add n es in_loop labels at e p.actions)))
