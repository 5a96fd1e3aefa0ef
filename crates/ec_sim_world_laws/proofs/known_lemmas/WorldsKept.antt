-- What holds of what is known is kept by the rules that a walk through a source looks at.
use Rattle.std.proofs.Common.{false}
use Rattle.ec_ctypes.specs.trees.Units.{UnitData}
use Rattle.ec_typing_defs.specs.Programs.{start}
use Rattle.ec_typing_defs.specs.Worlds.{Rule}
use Rattle.ec_sim_world_laws.proofs.growth_lemmas.Rules as growth
use Rattle.ec_sim_world_laws.proofs.growth_lemmas.Rules.{Growing}
use Rattle.ec_sim_world_laws.proofs.growth_lemmas.Expressions.{expr_grows, base_grows, lengths_grow}
use Rattle.ec_sim_world_laws.proofs.growth_lemmas.EmbeddedRules.{handlers_grows, embedded_grows}
use Rattle.ec_sim_world_laws.proofs.growth_lemmas.Statements as grown_statements
use Rattle.ec_sim_world_laws.proofs.closing_lemmas.Rules as order
use Rattle.ec_sim_world_laws.proofs.closing_lemmas.Closed.{starts_in_order}
use Rattle.ec_sim_world_laws.proofs.closing_lemmas.Expressions.{expr_keeps, base_keeps, lengths_keep}
use Rattle.ec_sim_world_laws.proofs.closing_lemmas.EmbeddedRules.{handlers_keeps, embedded_keeps}
use Rattle.ec_sim_world_laws.proofs.closing_lemmas.Statements as ordered_statements
use Rattle.ec_sim_world_laws.proofs.closing_lemmas.Lists.{none_not}
use Rattle.ec_sim_world_laws.specs.known.Worlds.{IsKnownWorld, KeepsWorld, WorldsKeep}
use Rattle.ec_sim_world_laws.proofs.known_lemmas.NamesRules.{Staying, place_stays, label_stays}
use Rattle.ec_sim_world_laws.proofs.known_lemmas.NamesExpressions.{expr_stays, base_stays, lengths_stay}
use Rattle.ec_sim_world_laws.proofs.known_lemmas.NamesEmbedded.{references_stays, denote_stays, handlers_stays, embedded_stays}
use Rattle.ec_sim_world_laws.proofs.known_lemmas.NamesStatements.{result_stays, new_labels_stay}
use Rattle.ec_sim_world_laws.proofs.known_lemmas.EntriesKept as entries
use Rattle.ec_sim_world_laws.proofs.known_lemmas.WorldsGrow.{item_grows, result_grows, params_grow, begin_grows, know_grows, new_labels_grow, references_grows, denote_grows}
use Rattle.ec_sim_world_laws.proofs.known_lemmas.WorldsOrder.{item_keeps, result_keeps, params_keep, begin_keeps, know_keeps, new_labels_keep, references_keeps, denote_keeps}

-- what is known grows, structs stay in order, and names stand for what is declared
known : (u : UnitData) {A : Type 0} {m : Rule A} → Growing m → order.Keeping m → entries.Keeping u m → KeepsWorld u m
known u {m = m} g c e w h =
    let has = e.keeps w (record { here = h.here; outer = h.outer }) in
    record {
      grown = growth.grows_further (start false u) w (m w).world h.grown (g.grows w);
      in_order = (c.keeps w h.in_order).order;
      here = has.here;
      outer = has.outer;
    }

-- where names stay
named : (u : UnitData) {A : Type 0} {m : Rule A} → Growing m → order.Keeping m → Staying m → KeepsWorld u m
named u g c s = known u g c (entries.staying g s)

start_known : (u : UnitData) → IsKnownWorld u (start false u)
start_known u = record { grown = growth.grows_itself (start false u); in_order = starts_in_order false u; here = λ x entry e. none_not e; outer = tt }

pub worlds_keep : (u : UnitData) → WorldsKeep u
worlds_keep u = record {
  start = start_known u;
  places = λ line. named u (growth.place_grows line) (order.place_keeps line) (place_stays line);
  expressions = λ at e. named u (expr_grows at e) (expr_keeps at e) (expr_stays at e);
  types = λ at b. named u (base_grows at b) (base_keeps at b) (base_stays at b);
  lengths = λ at ds. named u (lengths_grow at ds) (lengths_keep at ds) (lengths_stay at ds);
  declarations = λ global d. known u (grown_statements.declaration_grows global d) (ordered_statements.declaration_keeps global d) (entries.declaration_keeps u global d);
  declarators = λ at global varchars t d. known u (item_grows at global varchars t d) (item_keeps at global varchars t d) (entries.item_keeps u at global varchars t d);
  labels = λ at l. named u (growth.label_grows at l) (order.label_keeps at l) (label_stays at l);
  enters = known u growth.enter_grows order.enter_keeps (entries.enter_keeps u);
  leaves = known u growth.leave_grows order.leave_keeps (entries.leave_keeps u);
  results = λ at t. named u (result_grows at t) (result_keeps at t) (result_stays at t);
  beginnings = λ name k done r is. known u (begin_grows name _) (begin_keeps name _) (entries.begin_keeps u name k done r is);
  numbers = λ t. known u (growth.number_grows t) (order.number_keeps t) (entries.number_keeps u t);
  parameters = λ at defined ps. known u (params_grow at defined ps) (params_keep at defined ps) (entries.params_keep u at defined ps);
  known_functions = λ name k done r ps is. known u (know_grows name _) (know_keeps name _) (entries.know_keeps u name k done r ps is);
  new_labels = named u new_labels_grow new_labels_keep new_labels_stay;
  references = λ at rs. named u (references_grows at rs) (references_keeps at rs) (references_stays at rs);
  denoted = λ names. named u (denote_grows names) (denote_keeps names) (denote_stays names);
  handlers = λ es in_loop labels at e. named u (handlers_grows es in_loop labels at e) (handlers_keeps es in_loop labels at e) (handlers_stays es in_loop labels at e);
  embedded = λ es is_body in_loop labels at n e. named u (embedded_grows es is_body in_loop labels at n e) (embedded_keeps es is_body in_loop labels at n e) (embedded_stays es is_body in_loop labels at n e);
}
