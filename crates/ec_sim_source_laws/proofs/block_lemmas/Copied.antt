-- A statement that is executed is copied to its block: the call that is written for it, and the tests of its handlers.
use Rattle.std.proofs.Common.{◌≡◌, ◌∙◌, ℕ, suc, ◌+◌, Bool, true, false, not, ◌&&◌, List, [], ◌∷◌, ◌++◌, length, map, refl, sym, subst, Option, Some, None, slice_get, append_assoc, append-nil}
use Rattle.std.specs.Prelude.{Ok}
use Rattle.ec_base.specs.declared.fault.FaultKind.TheVariants.{F29}
use Rattle.ec_ctypes.specs.trees.Checked.{MarkData, BoundData, TypedData}
use Rattle.ec_ctypes.specs.trees.Embedded.{EmbData}
use Rattle.ec_ctypes.specs.trees.Stmts.{StmtKindData, StmtList, stmts as stmt_list}
use Rattle.ec_ctypes.specs.trees.Types.{TyData}
use Rattle.ec_ctypes.specs.trees.Units.{UnitData}
use Rattle.ec_language.specs.Letters.{Text}
use Rattle.ec_arguments.specs.Arguments.{name_of}
use Rattle.ec_arguments.specs.Rules.{is_call}
use Rattle.ec_arguments.specs.Writing.{arguments}
use Rattle.ec_written_laws.specs.bound.Numbers.{numbers_from}
use Rattle.ec_typing_defs.specs.statement_parts.Cursors.{declare_opened}
use Rattle.ec_typing_defs.specs.statement_parts.Handlers.{is_directive, marks_in, action_among}
use Rattle.ec_typing_defs.specs.statement_parts.References.{References, references, all_names, names_of, names_of_option}
use Rattle.ec_host_defs.specs.sections.Declared.{functions_of}
use Rattle.ec_host_defs.specs.Bound.{statement_bound}
use Rattle.ec_host_defs.specs.Faults.{row_at, opening_faults, uses_faults}
use Rattle.ec_host_defs.specs.Programs.{Denoted, ProgramData}
use Rattle.ec_host_defs.specs.Uses.{uses_of}
use Rattle.ec_phases_defs.specs.Sources.{bound_from}
use Rattle.ec_whenever.specs.Tables.{table_of, are_in_order}
use Rattle.ec_whenever.proofs.Tables.{table_answers}
use Rattle.ec_expansion_defs.specs.Calls.{prepared_opened}
use Rattle.ec_expansion_defs.specs.Handlers.{tests}
use Rattle.ec_expansion_defs.specs.Programs.{block_of, embedded}
use Rattle.ec_expansion_defs.specs.Statements.{listed_stmts}
use Rattle.ec_typing_defs.specs.Answers.{names_of as names_of_tables, typed_of}
use Rattle.ec_typing_defs.specs.Embedded as checked
use Rattle.ec_typing_defs.specs.Embedded.{denote, denoted_by, denoted_in, variables_of}
use Rattle.ec_typing_defs.specs.Programs.{start}
use Rattle.ec_typing_defs.specs.Statements as checked_statements
use Rattle.ec_typing_defs.specs.Statements.{as_item}
use Rattle.ec_typing_defs.specs.Tables.{Named}
use Rattle.ec_typing_defs.specs.Worlds as worlds
use Rattle.ec_typing_defs.specs.Worlds.{Place, World, Out, Rule, out, entered, left, look_up}
use Rattle.ec_phases_defs.specs.written.Calls.{call_with}
use Rattle.ec_meaning_defs.specs.resolved.Resolved.{Stm, block, stms}
use Rattle.ec_resolving_defs.specs.Agreement.{around_of}
use Rattle.ec_resolving_defs.specs.Embedded.{handlers_rule, embedded_rule}
use Rattle.ec_resolving_defs.specs.Statements.{objects_in_all, statement_kind, statements}
use Rattle.ec_resolving_defs.specs.Storage.{LibraryCall, ReferenceForm, ActionForms, StatementForm, BlockObjects, Storage, Resolving, reached, chain, pure, checks, stored, arrange, in_block, inside_block, back_in_block, with_call, with_statement}
use Rattle.ec_direct_defs.specs.Direct.{form_of, declare_number, statement_at}
use Rattle.ec_direct_defs.specs.Statements.{Around, statement_of}
use Rattle.ec_sim_statement_laws.specs.statement.Blocks.{call_stm, block_stm}
use Rattle.ec_sim_statement_laws.specs.statement.Calls.{any_pointer, call_of, cut_of as cut_of_statement, keeps_rules}
use Rattle.ec_sim_statement_laws.specs.statement.Copies.{AreFunctionCopies}
use Rattle.ec_sim_statement_laws.specs.statement.Tests.{tests_stms}
use Rattle.ec_sim_statement_laws.specs.statement.Whole.{IsWrittenAt}
use Rattle.ec_sim_statement_laws.specs.argument.Bound.{cursor_of, IsCall}
use Rattle.ec_sim_world_laws.specs.call.Calls.{cut_of, StandsThere, made_for, next_at, place_passed, call_statement, IsMadeAlone}
use Rattle.ec_sim_world_laws.specs.call.Pointers.{text_there}
use Rattle.ec_sim_statement_laws.specs.expression.Alike.{SameStorage}
use Rattle.ec_sim_statement_laws.specs.expression.Rules.{none_before, none_behind}
use Rattle.ec_sim_statement_laws.specs.expression.Worlds.{AreAlike}
use Rattle.ec_meaning_defs.specs.observed.Run.{IsFront}
use Rattle.ec_sim_world_laws.specs.growth.Growth.{Grows}
use Rattle.ec_sim_world_laws.proofs.growth_lemmas.Rules.{grows_further, demand_same}
use Rattle.ec_sim_world_laws.specs.test.Area.{KnowsArea}
use Rattle.ec_sim_world_laws.specs.test.Laws.{TestsFound, TellsActions}
use Rattle.ec_sim_world_laws.specs.test.Plain.{HasPlainActions}
use Rattle.ec_sim_world_laws.proofs.test_lemmas.Alike.{alike_placed, alike_inside, alike_outside}
use Rattle.ec_sim_world_laws.proofs.test_lemmas.Steps.{then_is, then_finds, scoped_is, scoped_finds}
use Rattle.ec_sim_world_laws.proofs.test_lemmas.Tests.{done_behind}
use Rattle.ec_sim_world_laws.specs.known.Known.{IsKnown, IsFound, AreFound}
use Rattle.ec_sim_world_laws.specs.place.References.{NamesAreDeclared, tables_of}
use Rattle.ec_sim_world_laws.specs.place.Statements.{pointer_exp, ReferencesAre}
use Rattle.ec_sim_world_laws.specs.place.Structs.{ClosedAreListed, IsWithin}
use Rattle.ec_sim_host_laws.specs.table.Tables.{AreSound}
use Rattle.ec_sim_host_laws.specs.reference.Found.{AreReferences, ReferencesFound}
use Rattle.ec_sim_host_laws.specs.reference.Rows.{indexes_are_typed, IndexesAreTyped}
use Rattle.ec_sim_host_laws.specs.host.Hosts.{StatementStands, StatementLeads}
use Rattle.ec_sim_host_laws.specs.fit.Fits.{HostsFit}
use Rattle.ec_sim_host_laws.specs.pointer.Pointers.{CallStands}
use Rattle.ec_sim_program_laws.specs.shape.Shapes.{IsRead, AllAreRead}
use Rattle.ec_sim_program_laws.specs.program.Copied.{Whole, in_function, AreToCome, FindCopies}
use Rattle.ec_sim_program_laws.specs.program.Embedded.{inside, ExecutedIsCopied}
use Rattle.ec_sim_program_laws.specs.program.Programs.{whole_by}
use Rattle.ec_sim_source_laws.specs.block.Accepted.{CursorsHaveNoFunctions, StatementLaws}
use Rattle.ec_sim_source_laws.proofs.block_lemmas.Numbers.{some_is, get_front, get_last, map_joined, length_joined, number_next, numbers_joined, form_last, MayHaveForm, references_of, references_stay}
use Rattle.ec_sim_source_laws.proofs.block_lemmas.Binding.{IsBound, is_bound, HasCall, has_call, name_kept, block_written, block_bare}
use Rattle.ec_sim_source_laws.proofs.block_lemmas.Passing.{references_look, references_inside, handlers_pass, handlers_find, handlers_look, handlers_inside}
use Rattle.ec_sim_source_laws.proofs.block_lemmas.Standing.{LawsBelow, closed_here, grows_inside, grows_into, names_inside, reserved_here, reserved_outer, denoting, alike_behind, grows_denoting, found_behind}
use Rattle.ec_sim_source_laws.proofs.block_lemmas.Indexes.{indexes_have_types}
use Rattle.ec_sim_source_laws.proofs.block_lemmas.Opening.{may_have_form, cursor_stands}

-- ---- the rules of a statement, step by step

-- by the references and the handlers of a statement with these names
record Steps (m k : Rule (Unit {0})) (names : List Text) (w : World) (o : Out (Unit {0})) : Type 0 where
  references : (m w).found ≡ []
  handlers : (k (denoting names w)).found ≡ []
  world : o.world ≡ (k (denoting names w)).world

steps : (c m k : Rule (Unit {0})) (names : List Text) (w : World) → (c w).world ≡ w → (m w).world ≡ w
    → (worlds.chain c (λ _. worlds.chain m (λ _. worlds.chain (denote names) (λ _. k))) w).found ≡ []
    → Steps m k names w (worlds.chain c (λ _. worlds.chain m (λ _. worlds.chain (denote names) (λ _. k))) w)
unfolding worlds.chain denote worlds.change
steps c m k names w first second none =
    let both : (m (c w).world).world ≡ w = (λ i. (m (first i)).world) ∙ second in record {
      references = (λ i. (m (sym first i)).found) ∙ none_before (m (c w).world).found _ (none_behind (c w).found _ none);
      handlers = (λ i. (k (denoting names (sym both i))).found) ∙ none_behind (m (c w).world).found _ (none_behind (c w).found _ none);
      world = λ i. (k (denoting names (both i))).world;
    }

denote_is : (names : List Text) (s : Storage) (w : World) → checks (denote names) s w ≡ reached tt s (denoting names w)
unfolding checks denote worlds.change
denote_is names s w = refl

arrange_is : (f : Storage → Storage) (s : Storage) (w : World) → arrange f s w ≡ reached tt (f s) w
unfolding arrange
arrange_is f s w = refl

block_found : {A : Type 0} (k : ℕ) (m : Resolving A) {y q : Storage} {v x : World} {a : A} → m (inside_block k y) v ≡ reached a q x → in_block k m y v ≡ reached (q.block.sizes, a) (back_in_block y.block q) x
unfolding chain stored arrange pure
block_found k m {y} p = λ i. reached ((p i).storage.block.sizes, (p i).answer) (back_in_block y.block (p i).storage) (p i).world

inside_same : (k : ℕ) (s y : Storage) → SameStorage s y → SameStorage (inside_block k s) (inside_block k y)
inside_same k s y same = record {
  defined = same.defined;
  before_literals = same.before_literals;
  sites = same.sites;
  globals = same.globals;
  literals = same.literals;
  block = λ i. record { below = (same.block i).below + (same.block i).count; count = k; sizes = [] };
}

called_same : (c : LibraryCall) (s y : Storage) → SameStorage s y → SameStorage s (with_call c y)
called_same c s y same = record {
  defined = same.defined;
  before_literals = same.before_literals;
  sites = same.sites;
  globals = same.globals;
  literals = same.literals;
  block = same.block;
}

-- ---- a statement of an accepted source

module _ (laws : StatementLaws) (below : LawsBelow) (u : UnitData) (hosts : List ℕ) (handlers : List MarkData) (z : World) (bounds : List BoundData)
    (forms : List StatementForm) (calls : List LibraryCall) (numbers : List ℕ) (count : ℕ) (in_numbers : numbers ≡ numbers_from 0 count)
    (table : handlers ≡ table_of (marks_in u.embs)) (bound : bound_from (typed_of u hosts handlers z) 0 u.embs ≡ Ok bounds)
    (read : AllAreRead u.embs) (indexes : IndexesAreTyped (typed_of u hosts handlers z)) (cursors : CursorsHaveNoFunctions (typed_of u hosts handlers z))
    (in_order : are_in_order u.embs ≡ true) (sound : AreSound z) where
  abbrev t : TypedData
  t = typed_of u hosts handlers z

  abbrev p : ProgramData
  p = tables_of z hosts (functions_of u)

  abbrev g : Whole
  g = whole_by t forms calls numbers z

  tells : (e : EmbData) → TellsActions handlers u.embs e
  tells e = λ c. (λ i. action_among (table i) e.place c) ∙ (table_answers u.embs in_order).actions e.place c

  fit : HostsFit z p
  fit = laws.fit z sound hosts (functions_of u)

  module _ (n : ℕ) (e : EmbData) (is_emb : slice_get u.embs n ≡ Some e) (executed : is_directive e ≡ false) where
    b : IsBound t bounds n e
    b = is_bound t bounds bound n e is_emb

    is_read : IsRead u.embs e
    is_read = read n e is_emb

    abbrev row : Denoted
    row = row_at z.denoted n

    abbrev opened : Option EmbData
    opened = declare_opened u.embs n e

    abbrev prepared : Option Text
    prepared = prepared_opened u.embs n e

    c : HasCall prepared e.kind (statement_bound p e opened row)
    c = has_call e prepared e.kind (statement_bound p e opened row) executed

    abbrev kind : StmtKindData
    kind = block_of handlers e c.call

    abbrev written_tests : StmtList
    written_tests = listed_stmts (tests e.line (action_among handlers e.place))

    abbrev written_items : StmtList
    written_items = stmt_list (call_statement e.line c.call) written_tests

    abbrev k : ℕ
    k = objects_in_all written_items

    module _ (body loop : Bool) (labels : Named (Unit {0})) (result : Option TyData) (at there : Place) (behind : List ℕ) (s y : Storage) (w v : World)
        (same : SameStorage s y) (alike : AreAlike w v) (come : AreToCome g (in_function (n ∷ behind)) s w)
        (clean : (checked.embedded_rule u.embs body loop labels at n e w).found ≡ []) (more : Grows (checked.embedded_rule u.embs body loop labels at n e w).world z) where
      abbrev a : checked_statements.Around
      a = inside [] body loop labels result

      abbrev rs : References
      rs = references e

      abbrev names : List Text
      names = variables_of u.embs n e

      -- behind what its references denote
      abbrev w1 : World
      w1 = denoting names w

      -- in the block, and where the call stands in it
      abbrev objects_of_block : BlockObjects
      objects_of_block = record { below = s.block.below + s.block.count; count = k; sizes = [] }

      abbrev y2 : Storage
      y2 = inside_block k y

      abbrev v2 : World
      v2 = place_passed (entered v)

      abbrev there2 : Place
      there2 = next_at (entered v) e.line

      are : AreReferences rs
      are = is_read.are_references

      plain : HasPlainActions u.embs e
      plain = is_read.actions

      -- ---- what the checks find in the source

      parts : Steps (checked.references_rule at rs) (checked.handlers_rule u.embs loop labels at e) names w (checked.embedded_rule u.embs body loop labels at n e w)
      parts = steps (worlds.demand at F29 (not (body && is_directive e))) (checked.references_rule at rs) (checked.handlers_rule u.embs loop labels at e) names w
          (demand_same at F29 (not (body && is_directive e)) w) ((references_look at rs are).world w) clean

      known_behind : (checked.embedded_rule u.embs body loop labels at n e w).world ≡ w1
      known_behind = parts.world ∙ (handlers_look u.embs loop labels at e plain).world w1

      grows_behind : Grows w1 z
      grows_behind = subst (λ x. Grows x z) known_behind more

      grows_here : Grows w z
      grows_here = grows_further w w1 z (grows_denoting names w) grows_behind

      -- ---- where it stands

      is_next : n ≡ length s.statements
      is_next = number_next s.statements n count behind (come.in_order ∙ in_numbers)

      got_row : slice_get z.denoted n ≡ Some (denoted_in w names)
      got_row =
          (λ i. slice_get (grows_behind.denoted.same i) ((is_next ∙ sym come.denoted) i))
          ∙ get_front (w.denoted ++ denoted_in w names ∷ []) grows_behind.denoted.rest (length w.denoted) (get_last w.denoted (denoted_in w names) [])

      row_is : row ≡ denoted_in w names
      row_is = λ i. elim (got_row i) as (λ o. Denoted) [ None ↦ [] | Some ds ↦ ds ]

      row_parts : row ≡ denoted_in w (all_names rs) ++ denoted_in w (names_of_option opened)
      row_parts = row_is ∙ map_joined (λ x. denoted_by (look_up x w)) (names_of e) (names_of_option opened)

      closed : ClosedAreListed w
      closed = closed_here below w z grows_here sound.have_types come.known.in_order

      closed_there : ClosedAreListed (entered w)
      closed_there = closed_here below (entered w) z (grows_inside w z grows_here) sound.have_types come.known.in_order

      within : IsWithin w z
      within = below.grown w z grows_here closed sound.closed

      within_there : IsWithin (entered w) z
      within_there = below.grown (entered w) z (grows_inside w z grows_here) closed_there sound.closed

      declared : NamesAreDeclared w (functions_of u)
      declared = laws.names u s w come.known

      declared_there : NamesAreDeclared (entered w) (functions_of u)
      declared_there = names_inside w (functions_of u) declared

      typed : indexes_are_typed (names_of_tables z) rs (denoted_in w (all_names rs) ++ denoted_in w (names_of_option opened)) ≡ true
      typed = (λ i. indexes_are_typed (names_of_tables z) rs (sym row_parts i)) ∙ indexes n e is_emb

      -- ---- its references in the source, and where they are written

      here : ReferencesFound at at s s w w rs
      here = laws.there at s w rs are (indexes_have_types w z (functions_of u) within declared rs are (denoted_in w (names_of_option opened)) typed) parts.references

      alike_there : AreAlike (entered w) v2
      alike_there = alike_placed ((entered v).places + 1) (alike_inside alike)

      same_there : SameStorage (inside_block k s) y2
      same_there = inside_same k s y same

      written : ReferencesFound at there2 (inside_block k s) y2 (entered w) v2 rs
      written = laws.references at there2 (inside_block k s) y2 (entered w) v2 same_there alike_there rs are
          (indexes_have_types (entered w) z (functions_of u) within_there declared_there rs are (denoted_in w (names_of_option opened)) typed)
          ((λ i. ((references_look at rs are).inside w i).found) ∙ parts.references)

      forms_are : written.forms ≡ here.forms
      forms_are =
          (λ i. (sym written.resolved i).answer)
          ∙ (λ i. (references_inside at rs are s objects_of_block w i).answer)
          ∙ (λ i. (here.resolved i).answer)

      abbrev x : Around
      x = record { denoted = row; references = here.forms }

      around_is : ◌≡◌ {A = Around} (record { denoted = denoted_in (entered w) (all_names rs) ++ denoted_in w (names_of_option opened); references = written.forms ++ [] }) x
      around_is = λ i. record { denoted = sym row_parts i; references = (append-nil written.forms ∙ forms_are) i }

      -- ---- the statement where it is written

      abbrev cursor_references : List ReferenceForm
      cursor_references = references_of s.statements (declare_number t s.statements n e)

      opening_clean : opening_faults u.embs z.denoted n e ≡ []
      opening_clean = none_before (opening_faults u.embs z.denoted n e) _ (none_behind (uses_faults p (uses_of e) row) _ b.without_fault)

      has_form : MayHaveForm s.statements (declare_number t s.statements n e)
      has_form = may_have_form below laws.again laws.references u hosts handlers z read sound.have_types (λ m d h. (is_bound t bounds bound m d h).without_fault) n e at there2 s y2 w v2 k
          same_there alike_there come.known come.found grows_here count (n ∷ behind) (come.in_order ∙ in_numbers) is_next row_is within_there declared_there indexes cursors opening_clean

      stands : StatementStands there2 y2 v2 p e (cursor_of prepared opened e row cursor_references) x
      stands = record {
        executed = executed;
        reserved_here = reserved_here alike_there;
        reserved_outer = reserved_outer alike_there;
        references = subst (λ r. ReferencesAre there2 y2 v2 rs r) around_is (written.are (denoted_in w (names_of_option opened)) []);
        without_fault = none_before (uses_faults p (uses_of e) row) _ b.without_fault;
        cursor = cursor_stands below laws.again laws.references u hosts handlers z read sound.have_types (λ m d h. (is_bound t bounds bound m d h).without_fault) n e at there2 s y2 w v2 k
            same_there alike_there come.known come.found grows_here count (n ∷ behind) (come.in_order ∙ in_numbers) is_next row_is within_there declared_there indexes cursors opening_clean prepared;
      }

      within_written : IsWithin v2 z
      within_written = below.within (entered w) v2 alike_there z within_there

      declared_written : NamesAreDeclared v2 (functions_of u)
      declared_written = below.names (entered w) v2 alike_there (functions_of u) declared_there

      leads : StatementLeads p there2 y2 v2 e (cursor_of prepared opened e row cursor_references) x
      leads = laws.lead there2 y2 v2 z hosts (functions_of u) within_written declared_written sound.varchars prepared opened cursor_references e x stands

      same_call : IsCall p (pointer_exp there2 y2 v2) prepared opened cursor_references e x
      same_call = below.calls p (pointer_exp there2 y2 v2) prepared opened cursor_references e x leads.connection leads.kind

      call_is : call_with (pointer_exp there2 y2 v2) c.call ≡ call_of t.structs same_call.statement
      call_is = (λ i. call_with (pointer_exp there2 y2 v2) (some_is (sym c.is ∙ same_call.written) i)) ∙ same_call.same

      call_stands : CallStands there2 y2 v2 e.line.0 c.call
      call_stands = laws.stand there2 y2 v2 z hosts (functions_of u) within_written declared_written sound fit prepared opened cursor_references e x is_read.items stands e.line.0 c.call c.is

      stands_there : StandsThere there2 y2 v2 (pointer_exp there2 y2 v2) (text_there there2 v2) e.line.0 c.call
      stands_there = record {
        written = alike_there.is_written;
        reserved_here = reserved_here alike_there;
        reserved_outer = reserved_outer alike_there;
        pointers = call_stands.pointers;
        seen = below.seen there2 y2 v2 (pointer_exp there2 y2 v2) (arguments (cut_of e.line.0 c.call)) call_stands.pointers call_stands.simple;
        rules = call_stands.rules;
      }

      alone : IsMadeAlone y2 (entered v) (pointer_exp there2 y2 v2) e.line c.call
      alone = below.made y2 (entered v) (pointer_exp there2 y2 v2) (text_there there2 v2) e.line c.call stands_there

      abbrev made : LibraryCall
      made = made_for (pointer_exp there2 y2 v2) e.line.0 c.call

      -- ---- its handlers, and the tests that are written

      abbrev handled : Resolving ActionForms
      handled = handlers_rule u.embs labels at e

      abbrev actions : ActionForms
      actions = (handled s w1).answer

      abbrev s1 : Storage
      s1 = (handled s w1).storage

      knows : KnowsArea (entered w1)
      knows = laws.area false u (entered w1) (grows_into (start false u) w1 (grows_further (start false u) w w1 come.known.grown (grows_denoting names w)))

      tested : TestsFound e.line.0 (inside_block k s) (with_call made y2) (checked.handlers_rule u.embs loop labels at e (entered w1)) (checked_statements.statements (as_item a) written_tests v2)
          (reached actions (back_in_block objects_of_block s1) (entered w1)) (statements (around_of (as_item a)) written_tests (with_call made y2) v2)
      tested = subst (λ r. TestsFound e.line.0 (inside_block k s) (with_call made y2) (checked.handlers_rule u.embs loop labels at e (entered w1)) (checked_statements.statements (as_item a) written_tests v2)
          r (statements (around_of (as_item a)) written_tests (with_call made y2) v2)) (handlers_inside u.embs labels at e plain s objects_of_block w1)
          (laws.tests u.embs handlers (as_item a) e at (inside_block k s) (with_call made y2) (entered w1) v2 executed (tells e) plain
          (called_same made (inside_block k s) y2 same_there) (alike_placed ((entered v).places + 1) (alike_inside (alike_behind names w v alike))) knows
          ((λ i. ((handlers_look u.embs loop labels at e plain).inside w1 i).found) ∙ parts.handlers))

      abbrev y3 : Storage
      y3 = (statements (around_of (as_item a)) written_tests (with_call made y2) v2).storage

      abbrev v3 : World
      v3 = (statements (around_of (as_item a)) written_tests (with_call made y2) v2).world

      -- ---- to what both are resolved

      abbrev form : StatementForm
      form = record { number = n; references = here.forms; actions = actions }

      abbrev written_block : Stm
      written_block = block_stm e.line.0 (length y.calls) actions

      resolved_here : embedded_rule u.embs labels at n e s w ≡ reached tt (with_statement form s1) w1
      resolved_here = then_finds _ _ here.resolved (then_finds _ _ (denote_is names s w)
          (then_finds _ _ (λ i. reached actions s1 ((handlers_find u.embs labels at e plain).world s w1 i)) (arrange_is _ s1 w1)))

      tests_there : statements (around_of (as_item a)) written_tests (with_call made y2) v2 ≡ reached (tests_stms e.line.0 actions) y3 v3
      tests_there = λ i. reached (tested.answer i) y3 v3

      resolved_there : statement_kind (around_of a) there kind y v ≡ reached written_block (back_in_block y.block y3) (left v3)
      resolved_there =
          then_finds _ _ (block_found k _ (scoped_finds _ (then_finds _ _ (alone.resolved (around_of a)) (then_finds _ _ tests_there done_behind)))) done_behind
          ∙ (λ i. reached (block (tested.storages.block i).sizes (stms (call_stm e.line.0 (length y.calls)) (tests_stms e.line.0 actions))) (back_in_block y.block y3) (left v3))

      checked_tests : checked_statements.statements (as_item a) written_tests v2 ≡ out tt [] v3
      checked_tests = λ i. out tt (tested.without_fault i) (sym tested.checked_world_there i)

      checked_there : checked_statements.statement_kind a there kind v ≡ out tt [] (left v3)
      checked_there = scoped_is _ (then_is _ _ (alone.checked (as_item a)) checked_tests)

      -- ---- what holds behind it

      statements_same : s1.statements ≡ s.statements
      statements_same = tested.adds_none.statements

      sites_grow : IsFront s.sites s1.sites
      sites_grow = subst (λ r. IsFront s.sites r.storage.sites) resolved_here ((laws.walk u u.embs labels at n e).sites s w)

      known_at_end : IsKnown u (with_statement form s1) w1
      known_at_end = subst (λ r. IsKnown u r.storage r.world) resolved_here ((laws.walk u u.embs labels at n e).known s w come.known)

      found_now : IsFound u (with_statement form s1) w1 form (denoted_in w names)
      found_now = record {
        emb = e;
        is_emb = is_emb;
        at = at;
        storage = s;
        before = w;
        known = come.known;
        grows = grows_denoting names w;
        sites = sites_grow;
        clean = parts.references;
        are = λ i. (here.resolved i).answer;
        denoted = refl;
      }

      come_behind : AreToCome g (in_function behind) (with_statement form s1) w1
      come_behind = record {
        in_order = (λ i. map (λ f. f.number) (statements_same i ++ form ∷ []) ++ behind) ∙ numbers_joined s.statements form behind ∙ come.in_order;
        denoted = length_joined w.denoted (denoted_in w names) ∙ (λ i. suc (come.denoted i)) ∙ sym (length_joined s.statements form) ∙ (λ i. length (sym statements_same i ++ form ∷ []));
        known = known_at_end;
        found = subst (λ fs. AreFound u (with_statement form s1) w1 (fs ++ form ∷ []) (w.denoted ++ denoted_in w names ∷ [])) (sym statements_same)
            (found_behind u s (with_statement form s1) w w1 (grows_denoting names w) sites_grow s.statements w.denoted form (denoted_in w names) come.found found_now);
        position = tt;
      }

      -- ---- the block stands where the statement stood

      module _ (begin : IsFront (s1.statements ++ form ∷ []) forms) (begin_calls : IsFront y3.calls calls) where
        forms_begin : forms ≡ (s.statements ++ form ∷ []) ++ begin.rest
        forms_begin = begin.same ∙ (λ i. (statements_same i ++ form ∷ []) ++ begin.rest)

        is_form : form_of n forms ≡ Some form
        is_form = (λ i. form_of n (forms_begin i)) ∙ form_last s.statements form begin.rest count behind (come.in_order ∙ in_numbers)

        references_there : references_of forms (declare_number t s.statements n e) ≡ cursor_references
        references_there =
            (λ i. references_of ((forms_begin ∙ append_assoc s.statements (form ∷ []) begin.rest) i) (declare_number t s.statements n e))
            ∙ references_stay s.statements (form ∷ begin.rest) (declare_number t s.statements n e) has_form

        is_statement : statement_at t forms n e form ≡ Some same_call.statement
        is_statement = (λ i. statement_of p e (cursor_of prepared opened e row (references_there i)) x) ∙ same_call.resolved

        made_is : ◌≡◌ {A = LibraryCall} made (name_of (call_of t.structs same_call.statement), arguments (cut_of_statement t.structs e.line.0 same_call.statement))
        made_is = λ i. ((sym (name_kept (pointer_exp there2 y2 v2) c.call) ∙ (λ j. name_of (call_is j))) i, arguments (cut_of e.line.0 (call_is i)))

        is_call_there : slice_get calls (length y.calls) ≡ Some (name_of (call_of t.structs same_call.statement), arguments (cut_of_statement t.structs e.line.0 same_call.statement))
        is_call_there =
            (λ i. slice_get ((begin_calls.same ∙ (λ j. tested.adds_none_there.calls j ++ begin_calls.rest)) i) (length y.calls))
            ∙ get_front (y.calls ++ made ∷ []) begin_calls.rest (length y.calls) (get_last y.calls made [])
            ∙ (λ i. Some (made_is i))

        rules : keeps_rules t.structs same_call.statement ≡ true
        rules = (λ i. is_call (any_pointer t.structs) (sym call_is i)) ∙ laws.rules t.structs (text_there there2 v2) (pointer_exp there2 y2 v2) c.call call_stands.rules

        is_written : IsWrittenAt t forms calls (λ _. written_block) e.line.0 n
        is_written = record {
          emb = e;
          form = form;
          statement = same_call.statement;
          number = length y.calls;
          is_emb = is_emb;
          is_form = is_form;
          is_statement = is_statement;
          stands = refl;
          is_call = is_call_there;
          is_text = refl;
          rules = rules;
          targets = laws.targets there2 y2 v2 z hosts (functions_of u) within_written declared_written sound fit prepared opened cursor_references e x is_read.outputs stands same_call.statement same_call.resolved;
          silent = tested.silent;
        }

      copied_core : FindCopies g (λ q r. g.Stands e.line.0 n r) (in_function behind) s y (checked.embedded_rule u.embs body loop labels at n e w) (out tt [] (left v3))
          (reached (tt {0}) (with_statement form s1) w1) (reached written_block (back_in_block y.block y3) (left v3))
      copied_core = record {
        worlds = alike_outside w1 tested.worlds;
        storages = record {
          defined = tested.storages.defined;
          before_literals = tested.storages.before_literals;
          sites = tested.storages.sites;
          globals = tested.storages.globals;
          literals = tested.storages.literals;
          block = same.block ∙ sym ((handlers_pass u.embs labels at e plain).block s w1);
        };
        to_come = come_behind;
        forms_grow = record { rest = form ∷ []; same = λ i. statements_same i ++ form ∷ [] };
        calls_grow = record { rest = made ∷ []; same = tested.adds_none_there.calls };
        like = λ begin begin_calls. is_written begin begin_calls;
        functions = λ begin begin_calls before.
            subst (λ fs. AreFunctionCopies g.Stands s1.functions fs) (sym tested.adds_none_there.functions)
            (subst (λ fs. AreFunctionCopies g.Stands fs y.functions) (sym tested.adds_none.functions) before);
        checked_world = sym known_behind;
        checked_world_there = refl;
        without_fault = refl;
      }

      copied : FindCopies g (λ q r. g.Stands e.line.0 n r) (in_function behind) s y (checked.embedded_rule u.embs body loop labels at n e w) (checked_statements.statement_kind a there kind v)
          (embedded_rule u.embs labels at n e s w) (statement_kind (around_of a) there kind y v)
      copied =
          subst (λ o. FindCopies g (λ q r. g.Stands e.line.0 n r) (in_function behind) s y (checked.embedded_rule u.embs body loop labels at n e w) o
          (embedded_rule u.embs labels at n e s w) (statement_kind (around_of a) there kind y v)) (sym checked_there)
          (subst (λ q. FindCopies g (λ q r. g.Stands e.line.0 n r) (in_function behind) s y (checked.embedded_rule u.embs body loop labels at n e w) (out tt [] (left v3))
          (embedded_rule u.embs labels at n e s w) q) (sym resolved_there)
          (subst (λ q. FindCopies g (λ q r. g.Stands e.line.0 n r) (in_function behind) s y (checked.embedded_rule u.embs body loop labels at n e w) (out tt [] (left v3))
          q (reached written_block (back_in_block y.block y3) (left v3))) (sym resolved_here) copied_core))

    pub executed_copied : ExecutedIsCopied g u.embs (embedded handlers u.embs bounds) n e
    executed_copied = record {
      kind = kind;
      is_written = block_written handlers u.embs bounds n e (statement_bound p e opened row) c.call is_emb b.is c.is;
      no_labels = λ ls. block_bare handlers e c.call ls;
      no_objects = refl;
      copied = λ body loop labels result at there behind. record {
        finds = λ s y w v same alike come clean more. copied body loop labels result at there behind s y w v same alike come clean more;
      };
    }
