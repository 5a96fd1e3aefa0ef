-- The tests of a statement are resolved to those of its handlers.
use Rattle.std.proofs.Common.{◌≡◌, ◌∙◌, Bool, true, false, ◌||◌, List, [], ◌∷◌, ◌++◌, refl, sym, subst}
use Rattle.ec_ctypes.specs.declared.embedded.emb.Cond.{Cond}
use Rattle.ec_ctypes.specs.declared.embedded.emb.Cond.TheVariants.{NotFound, Warning, Error}
use Rattle.ec_ctypes.specs.trees.Embedded.{EmbData}
use Rattle.ec_ctypes.specs.trees.Stmts.{StmtData, StmtList, no_stmts, stmts as stmt_list}
use Rattle.ec_language.specs.First.{Violation}
use Rattle.ec_typing_defs.specs.statement_parts.Handlers.{is_directive, handler, action_among}
use Rattle.ec_typing_defs.specs.Embedded as checked
use Rattle.ec_typing_defs.specs.Statements as checked_statements
use Rattle.ec_typing_defs.specs.Statements.{Around}
use Rattle.ec_typing_defs.specs.Worlds as worlds
use Rattle.ec_typing_defs.specs.Worlds.{Place, World, Rule}
use Rattle.ec_expansion_defs.specs.Handlers.{tests, test_for}
use Rattle.ec_expansion_defs.specs.Statements.{before_stmts, listed_stmts}
use Rattle.ec_resolving_defs.specs.Agreement.{around_of}
use Rattle.ec_resolving_defs.specs.Embedded.{actions_rule, handlers_rule}
use Rattle.ec_resolving_defs.specs.Statements as resolved
use Rattle.ec_resolving_defs.specs.Storage.{Storage, ActionForms, no_actions, reached, pure}
use Rattle.ec_sim_statement_laws.specs.statement.Blocks.{any_calls_library}
use Rattle.ec_sim_statement_laws.specs.statement.Tests.{tests_stms}
use Rattle.ec_sim_statement_laws.specs.expression.Alike.{SameStorage, AddsNone}
use Rattle.ec_sim_statement_laws.specs.expression.Laws.{ExpressionsAreAlike}
use Rattle.ec_sim_statement_laws.specs.expression.Worlds.{AreAlike}
use Rattle.ec_sim_world_laws.specs.test.Area.{KnowsArea}
use Rattle.ec_sim_world_laws.specs.test.Laws.{TestsFound, TestsAreResolved}
use Rattle.ec_sim_world_laws.specs.test.Plain.{HasPlainActions}
use Rattle.ec_sim_world_laws.proofs.test_lemmas.Alike.{none_further}
use Rattle.ec_sim_world_laws.proofs.test_lemmas.Steps.{then_finds}
use Rattle.ec_sim_world_laws.proofs.test_lemmas.Tests.{IsTested, action_tested, action_world, done_behind, check_done}

no_more : (vs us : List Violation) → vs ++ us ≡ [] → (vs ≡ []) × (us ≡ [])
no_more [] us e = (refl, e)
no_more (v ∷ vs) us e = absurd (cc)

before_joined : (xs ys : List StmtData) (ss : StmtList) → before_stmts (xs ++ ys) ss ≡ before_stmts xs (before_stmts ys ss)
before_joined [] ys ss = refl
before_joined (x ∷ xs) ys ss = λ i. stmt_list x (before_joined xs ys ss i)

by_kind : {A : Type 0} (directive : Bool) (x y : A) → directive ≡ false → y ≡ elim directive as (λ b. A) [ true ↦ x | false ↦ y ]
by_kind true x y e = absurd (cc)
by_kind false x y e = refl

module _ (law : ExpressionsAreAlike) (es : List EmbData) (a : Around) (e : EmbData) (at : Place) (plain : HasPlainActions es e)
    (s t : Storage) (w v : World) (same : SameStorage s t) (alike : AreAlike w v) (know : KnowsArea w)
    (sound : (checked.actions_rule es a.in_loop a.labels at e w).found ≡ []) where
  abbrev checked_at : Cond → Rule (Unit {0})
  checked_at c = checked.action_rule a.in_loop a.labels at (handler es e.place c)

  known_behind : (c : Cond) → (checked_at c w).world ≡ w
  known_behind c = action_world a.in_loop a.labels at (handler es e.place c) (plain c) w

  all_sound : ((checked_at NotFound w).found ≡ []) × ((checked_at Warning w).found ≡ []) × ((checked_at Error w).found ≡ [])
  unfolding worlds.chain
  all_sound =
      let x = no_more (checked_at NotFound w).found _ sound in
      let y = no_more (checked_at Warning (checked_at NotFound w).world).found _ x.1 in (
        x.0,
        (λ i. (checked_at Warning (sym (known_behind NotFound) i)).found) ∙ y.0,
        (λ i. (checked_at Error (sym (known_behind Warning) i)).found) ∙ (λ i. (checked_at Error (checked_at Warning (sym (known_behind NotFound) i)).world).found) ∙ y.1,
      )

  known_behind_all : (checked.actions_rule es a.in_loop a.labels at e w).world ≡ w
  unfolding worlds.chain
  known_behind_all =
      (λ i. (checked_at Error (checked_at Warning (known_behind NotFound i)).world).world)
      ∙ (λ i. (checked_at Error (known_behind Warning i)).world)
      ∙ known_behind Error

  first : IsTested a at e.line NotFound (handler es e.place NotFound) s t w v
  first = action_tested a at e.line NotFound s t w v same alike know law _ (plain NotFound) all_sound.0

  second : IsTested a at e.line Warning (handler es e.place Warning) first.behind first.storage w first.world
  second = action_tested a at e.line Warning _ _ w _ first.storages first.worlds know law _ (plain Warning) all_sound.1

  third : IsTested a at e.line Error (handler es e.place Error) second.behind second.storage w second.world
  third = action_tested a at e.line Error _ _ w _ second.storages second.worlds know law _ (plain Error) all_sound.2

  abbrev actions : ActionForms
  actions = record { none_found = first.form; warning = second.form; error = third.form }

  actions_found : actions_rule es a.labels at e s w ≡ reached actions third.behind w
  actions_found = then_finds _ _ first.source (then_finds _ _ second.source (then_finds _ _ third.source done_behind))

  abbrev listed : StmtList
  listed = before_stmts (test_for e.line NotFound (handler es e.place NotFound))
      (before_stmts (test_for e.line Warning (handler es e.place Warning)) (before_stmts (test_for e.line Error (handler es e.place Error)) no_stmts))

  listed_is : listed ≡ listed_stmts (tests e.line (handler es e.place))
  listed_is = sym
      (before_joined (test_for e.line NotFound (handler es e.place NotFound)) _ no_stmts
      ∙ (λ i. before_stmts (test_for e.line NotFound (handler es e.place NotFound)) (before_joined (test_for e.line Warning (handler es e.place Warning)) (test_for e.line Error (handler es e.place Error)) no_stmts i)))

  all_checked : checked_statements.statements a listed v ≡ worlds.out tt [] third.world
  all_checked = first.checks _ _ (second.checks _ _ (third.checks no_stmts _ check_done))

  all_found : resolved.statements (around_of a) listed t v ≡ reached (tests_stms e.line.0 actions) third.storage third.world
  all_found = first.finds _ _ _ _ (second.finds _ _ _ _ (third.finds no_stmts _ _ _ done_behind))

  all_tests_found : TestsFound e.line.0 s t (checked.actions_rule es a.in_loop a.labels at e w) (checked_statements.statements a listed v)
      (actions_rule es a.labels at e s w) (resolved.statements (around_of a) listed t v)
  all_tests_found = record {
    answer = (λ i. (all_found i).answer) ∙ (λ i. tests_stms e.line.0 (sym actions_found i).answer);
    silent = (λ i. any_calls_library (actions_found i).answer) ∙ (λ i. first.silent i || (second.silent i || third.silent i));
    worlds = subst (λ x. AreAlike x (resolved.statements (around_of a) listed t v).world) (λ i. (sym actions_found i).world) (subst (λ y. AreAlike w y) (λ i. (sym all_found i).world) third.worlds);
    storages = subst (λ x. SameStorage x (resolved.statements (around_of a) listed t v).storage) (λ i. (sym actions_found i).storage)
        (subst (λ y. SameStorage third.behind y) (λ i. (sym all_found i).storage) third.storages);
    adds_none = subst (λ x. AddsNone s x) (λ i. (sym actions_found i).storage) (none_further _ _ _ first.adds_none (none_further _ _ _ second.adds_none third.adds_none));
    adds_none_there = subst (λ x. AddsNone t x) (λ i. (sym all_found i).storage) (none_further _ _ _ first.adds_none_there (none_further _ _ _ second.adds_none_there third.adds_none_there));
    checked_world = (λ i. (actions_found i).world) ∙ sym known_behind_all;
    checked_world_there = (λ i. (all_found i).world) ∙ (λ i. (sym all_checked i).world);
    without_fault = λ i. (all_checked i).found;
  }

-- by the table, and by the rules of all statements, for one that is no directive
pub tests_resolved : ExpressionsAreAlike → TestsAreResolved
tests_resolved law es table a e at s t w v executed tells plain same alike know sound =
    subst (λ n. TestsFound e.line.0 s t (checked.handlers_rule es a.in_loop a.labels at e w) (checked_statements.statements a written v) (n s w) (resolved.statements (around_of a) written t v)) resolved_handlers
    (subst (λ m. TestsFound e.line.0 s t (m w) (checked_statements.statements a written v) (actions_rule es a.labels at e s w) (resolved.statements (around_of a) written t v)) checked_handlers
    (subst (λ ss. TestsFound e.line.0 s t (checked.actions_rule es a.in_loop a.labels at e w) (checked_statements.statements a ss v) (actions_rule es a.labels at e s w) (resolved.statements (around_of a) ss t v)) written_is
    (all_tests_found law es a e at plain s t w v same alike know actions_sound)))
  where
    written : StmtList
    written = listed_stmts (tests e.line (action_among table e.place))

    checked_handlers : checked.actions_rule es a.in_loop a.labels at e ≡ checked.handlers_rule es a.in_loop a.labels at e
    checked_handlers = by_kind (is_directive e) (worlds.pure tt) (checked.actions_rule es a.in_loop a.labels at e) executed

    resolved_handlers : actions_rule es a.labels at e ≡ handlers_rule es a.labels at e
    resolved_handlers = by_kind (is_directive e) (pure no_actions) (actions_rule es a.labels at e) executed

    actions_sound : (checked.actions_rule es a.in_loop a.labels at e w).found ≡ []
    actions_sound = (λ i. (checked_handlers i w).found) ∙ sound

    written_is : listed law es a e at plain s t w v same alike know actions_sound ≡ listed_stmts (tests e.line (action_among table e.place))
    written_is =
        listed_is law es a e at plain s t w v same alike know actions_sound
        ∙ (λ i. listed_stmts (test_for e.line NotFound (sym (tells NotFound) i) ++ (test_for e.line Warning (sym (tells Warning) i) ++ test_for e.line Error (sym (tells Error) i))))
