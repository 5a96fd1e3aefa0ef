-- What holds is kept by the walk, by its parts.
use Rattle.std.proofs.Common.{ℕ, Bool, List, [], ◌∷◌, refl, Option, Some, None}
use Rattle.ec_ctypes.specs.declared.embedded.emb.Cond.TheVariants.{NotFound, Warning, Error}
use Rattle.ec_ctypes.specs.trees.Embedded.{ActionData, continue_action, goto_action, print_action, stop_action, break_action, next_action, call_action, EmbData}
use Rattle.ec_ctypes.specs.trees.Exprs.{ExprData, call, BaseData, DimList, DeclaratorData, DeclData}
use Rattle.ec_ctypes.specs.trees.Types.{TyData}
use Rattle.ec_ctypes.specs.trees.Units.{ParamData, UnitData}
use Rattle.ec_language.specs.Letters.{Text}
use Rattle.ec_typing_defs.specs.statement_parts.Handlers.{is_directive, handler}
use Rattle.ec_typing_defs.specs.statement_parts.References.{References, references}
use Rattle.ec_typing_defs.specs.Tables.{Named}
use Rattle.ec_typing_defs.specs.Embedded.{denote, variables_of}
use Rattle.ec_typing_defs.specs.Expressions as checked
use Rattle.ec_typing_defs.specs.Statements as checked_statements
use Rattle.ec_typing_defs.specs.Programs as checked_programs
use Rattle.ec_typing_defs.specs.Programs.{result_rule, begin_function, know_function}
use Rattle.ec_typing_defs.specs.Worlds.{Place, function, place, change, enter, leave, declare_label, number_as}
use Rattle.ec_resolving_defs.specs.Embedded.{reference_rule, references_rule, action_rule, actions_rule, handlers_rule, embedded_rule}
use Rattle.ec_resolving_defs.specs.Expressions.{expr, base, lengths}
use Rattle.ec_resolving_defs.specs.Operands.{value_rule}
use Rattle.ec_resolving_defs.specs.Programs.{params}
use Rattle.ec_resolving_defs.specs.Statements.{object_item, declaration, condition, alone, optional, optional_condition, return_by}
use Rattle.ec_resolving_defs.specs.Storage.{◌>>◌, chain, checks, arrange, with_site, nowhere}
use Rattle.ec_resolving_defs.proofs.Agreeing.{expr_finds, base_finds, lengths_find}
use Rattle.ec_sim_world_laws.proofs.growth_lemmas.Rules.{names_grow, place_grows, enter_grows, leave_grows, label_grows, number_grows}
use Rattle.ec_sim_world_laws.proofs.growth_lemmas.Expressions.{expr_grows, base_grows, lengths_grow}
use Rattle.ec_sim_world_laws.proofs.growth_lemmas.Statements.{declaration_grows}
use Rattle.ec_sim_world_laws.specs.known.Known.{Keeps}
use Rattle.ec_sim_world_laws.specs.known.Laws.{WalkKeeps}
use Rattle.ec_sim_world_laws.specs.known.Positions.{StartsBeforeAll, ItemsArePassed, FunctionsAreNumbered, TypesDeclareNone}
use Rattle.ec_sim_world_laws.specs.known.Worlds.{WorldsKeep}
use Rattle.ec_sim_world_laws.proofs.known_lemmas.SitesOperands.{value_idle}
use Rattle.ec_sim_world_laws.proofs.known_lemmas.SitesChecks.{result_idle, place_still, enter_still, leave_still, label_still, begin_function_still, know_function_still, new_labels_still, denote_still}
use Rattle.ec_sim_world_laws.proofs.known_lemmas.SitesRules.{then_leads, stands_lead, site_leads, number_leads}
use Rattle.ec_sim_world_laws.proofs.known_lemmas.SitesWalk.{expr_stands, base_stands, lengths_stand}
use Rattle.ec_sim_world_laws.proofs.known_lemmas.SitesDeclared.{item_leads, declaration_leads, params_lead}
use Rattle.ec_sim_world_laws.proofs.known_lemmas.WalkFinds.{item_finds, declaration_finds, params_find}
use Rattle.ec_sim_world_laws.proofs.known_lemmas.WalkGrows.{item_grows, params_grow, begin_grows, know_grows, denote_grows}
use Rattle.ec_sim_world_laws.proofs.known_lemmas.WalkRules.{with_its_sites, keeps_by, found_keeps, still_keeps, idle_keeps, chained, pure_keeps, ask_keeps, asked, arrange_keeps, chosen}

-- ---- by what the checks keep

module _ (u : UnitData) (worlds : WorldsKeep u) where
  expr_keeps : (at : Place) (e : ExprData) → Keeps u (expr at e)
  expr_keeps at e = found_keeps u (expr at e) (checked.expr at e) (expr_finds at e) (worlds.expressions at e) (expr_grows at e) (stands_lead (expr_stands at e))

  base_keeps : (at : Place) (b : BaseData) → Keeps u (base at b)
  base_keeps at b = found_keeps u (base at b) (checked.base at b) (base_finds at b) (worlds.types at b) (base_grows at b) (stands_lead (base_stands at b))

  lengths_keep : (at : Place) (ds : DimList) → Keeps u (lengths at ds)
  lengths_keep at ds = found_keeps u (lengths at ds) (checked.lengths at ds) (lengths_find at ds) (worlds.lengths at ds) (lengths_grow at ds) (stands_lead (lengths_stand at ds))

  declaration_keeps : (global : Bool) (d : DeclData) → Keeps u (declaration global d)
  declaration_keeps global d =
      found_keeps u (declaration global d) (checked_statements.declaration global d) (declaration_finds global d) (worlds.declarations global d) (declaration_grows global d) (declaration_leads global d)

  item_keeps : (at : Place) (global v : Bool) (t : Option TyData) (d : DeclaratorData) → Keeps u (object_item at global v t d)
  item_keeps at global v t d =
      found_keeps u (object_item at global v t d) (checked_statements.object_item at global v t d) (item_finds at global v t d) (worlds.declarators at global v t d) (item_grows at global v t d) (item_leads at global v t d)

  params_keep : (at : Place) (defined : Bool) (ps : List ParamData) → Keeps u (params at defined ps)
  params_keep at defined ps =
      found_keeps u (params at defined ps) (checked_programs.params at defined ps) (params_find at defined ps) (worlds.parameters at defined ps) (params_grow at defined ps) (params_lead at defined ps)

  -- ---- expressions in statements

  valued : (at : Place) (e : ExprData) → Keeps u (chain (expr at e) (value_rule at))
  valued at e = chained u (expr_keeps at e) (λ f. chained u (idle_keeps u (value_idle at f.operand)) (λ o. pure_keeps u _))

  condition_keeps : (at : Place) (e : ExprData) → Keeps u (condition at e)
  condition_keeps at e = chained u (valued at e) (λ f. pure_keeps u _)

  alone_keeps : (at : Place) (e : ExprData) → Keeps u (alone at e)
  alone_keeps at e = chained u (expr_keeps at e) (λ f. ask_keeps u _)

  optional_keeps : (at : Place) (e : Option ExprData) → Keeps u (optional at e)
  optional_keeps at None = pure_keeps u _
  optional_keeps at (Some e) = chained u (alone_keeps at e) (λ x. pure_keeps u _)

  optional_condition_keeps : (at : Place) (e : Option ExprData) → Keeps u (optional_condition at e)
  optional_condition_keeps at None = pure_keeps u _
  optional_condition_keeps at (Some e) = chained u (condition_keeps at e) (λ x. pure_keeps u _)

  return_keeps : (at : Place) (r : Option TyData) (e : Option ExprData) → Keeps u (return_by at r e)
  return_keeps at r None = pure_keeps u _
  return_keeps at r (Some e) = chained u (valued at e) (λ f. pure_keeps u _)

  -- ---- numbers, with their sites

  number_keeps : (t : TyData) → Keeps u (checks (number_as t) >> arrange (with_site nowhere))
  unfolding chain checks arrange
  number_keeps t = keeps_by u _ (λ s w k. worlds.numbers t w k) (λ s w. (number_grows t).grows w) (then_leads (number_leads 0 t) (λ a. site_leads 0 nowhere))

  -- ---- embedded statements

  reference_keeps : (at : Place) (e : ExprData) → Keeps u (reference_rule at e)
  reference_keeps at e = asked u _ _ (λ is_function. chosen u is_function (pure_keeps u _) (expr_keeps at e))

  references_keep : (at : Place) (rs : References) → Keeps u (references_rule at rs)
  references_keep at [] = pure_keeps u _
  references_keep at (r ∷ rs) = chained u (reference_keeps at r.value) (λ f. chained u (references_keep at rs) (λ more. pure_keeps u _))

  action_keeps : (labels : Named (Unit {0})) (at : Place) (a : Option ActionData) → Keeps u (action_rule labels at a)
  action_keeps labels at None = pure_keeps u _
  action_keeps labels at (Some continue_action) = pure_keeps u _
  action_keeps labels at (Some (goto_action l)) = pure_keeps u _
  action_keeps labels at (Some print_action) = pure_keeps u _
  action_keeps labels at (Some stop_action) = pure_keeps u _
  action_keeps labels at (Some break_action) = pure_keeps u _
  action_keeps labels at (Some next_action) = pure_keeps u _
  action_keeps labels at (Some (call_action f es)) = chained u (alone_keeps at (call f es)) (λ e. pure_keeps u _)

  actions_keep : (es : List EmbData) (labels : Named (Unit {0})) (at : Place) (e : EmbData) → Keeps u (actions_rule es labels at e)
  actions_keep es labels at e =
      chained u (action_keeps labels at (handler es e.place NotFound)) (λ a.
      chained u (action_keeps labels at (handler es e.place Warning)) (λ b. chained u (action_keeps labels at (handler es e.place Error)) (λ c. pure_keeps u _)))

  handlers_keep : (es : List EmbData) (labels : Named (Unit {0})) (at : Place) (e : EmbData) → Keeps u (handlers_rule es labels at e)
  handlers_keep es labels at e = chosen u (is_directive e) (pure_keeps u _) (actions_keep es labels at e)

  denote_keeps : (names : List Text) → Keeps u (checks (denote names))
  denote_keeps names = still_keeps u (denote names) (worlds.denoted names) (denote_grows names) (denote_still names)

  embedded_keeps : (es : List EmbData) (labels : Named (Unit {0})) (at : Place) (n : ℕ) (e : EmbData) → Keeps u (embedded_rule es labels at n e)
  embedded_keeps es labels at n e =
      chained u (references_keep at (references e)) (λ rs. chained u (denote_keeps (variables_of es n e)) (λ a. chained u (handlers_keep es labels at e) (λ actions. arrange_keeps u _ (λ s. refl))))

  -- ---- together

  pub walk_keeps : StartsBeforeAll → ItemsArePassed → FunctionsAreNumbered → TypesDeclareNone → WalkKeeps u
  walk_keeps starts passed numbered none = record {
    start = with_its_sites u _ _ worlds.start refl;
    places = λ line. still_keeps u (place line) (worlds.places line) (place_grows line) (place_still line);
    expressions = expr_keeps;
    types = base_keeps;
    lengths = lengths_keep;
    conditions = condition_keeps;
    values = alone_keeps;
    options = optional_keeps;
    optional_conditions = optional_condition_keeps;
    returns = return_keeps;
    declarations = declaration_keeps;
    declarators = item_keeps;
    labels = λ at l. still_keeps u (declare_label at l) (worlds.labels at l) (label_grows at l) (label_still at l);
    enters = still_keeps u enter worlds.enters enter_grows enter_still;
    leaves = still_keeps u leave worlds.leaves leave_grows leave_still;
    results = λ at t. idle_keeps u (result_idle at t);
    beginnings = λ name k done r is. still_keeps u (begin_function name (function k done r None)) (worlds.beginnings name k done r is) (begin_grows name _) (begin_function_still name _);
    numbers = number_keeps;
    parameters = params_keep;
    known_functions = λ name k done r ps is. still_keeps u (know_function name (function k done r ps)) (worlds.known_functions name k done r ps is) (know_grows name _) (know_function_still name _);
    new_labels = still_keeps u (change (λ w. record w { labels = [] })) worlds.new_labels (names_grow _ (λ w. refl)) new_labels_still;
    references = references_keep;
    handlers = handlers_keep;
    embedded = embedded_keeps;
    starts_before_all = starts;
    items_are_passed = passed;
    functions_are_numbered = numbered;
    types_declare_none = none;
  }
