-- What is bound for the statements of an accepted source has numbers of type long: each statement was met on the walk through it.
use Rattle.std.proofs.Common.{◌≡◌, ◌∙◌, ℕ, ◌<◌, true, false, List, [], ◌++◌, length, refl, sym, subst, Option, Some, None, slice_get}
use Rattle.std.specs.Prelude.{Ok}
use Rattle.ec_base.specs.declared.fault.FaultKind.TheVariants.{F20}
use Rattle.ec_written_laws.specs.bound.Counts.{is_counted, are_counted}
use Rattle.ec_written_laws.specs.bound.Numbers.{tops_numbers, numbers_from}
use Rattle.ec_ctypes.specs.trees.Checked.{MarkData, BoundData, TypedData}
use Rattle.ec_ctypes.specs.trees.Embedded.{EmbData, EmbKindData, declare_cursor, open_cursor}
use Rattle.ec_ctypes.specs.trees.Units.{UnitData}
use Rattle.ec_language.specs.Letters.{Text}
use Rattle.ec_sim_world_laws.specs.closing.Closing.{ListedStay}
use Rattle.ec_sim_world_laws.specs.closing.Laws.{HadTypes, WithTypesAreListed}
use Rattle.ec_host_defs.specs.Bound as bound
use Rattle.ec_host_defs.specs.Bound.{cursor_parts, part_places, faults_of, statement_bound}
use Rattle.ec_host_defs.specs.Faults.{row_at, cursor_part, opening_faults, uses_faults}
use Rattle.ec_host_defs.specs.Programs.{Denoted, ProgramData}
use Rattle.ec_host_defs.specs.Uses.{uses_of}
use Rattle.ec_phases_defs.specs.Sources.{bound_from}
use Rattle.ec_host_defs.specs.sections.Declared.{functions_of}
use Rattle.ec_typing_defs.specs.statement_parts.Cursors.{declare_opened}
use Rattle.ec_typing_defs.specs.statement_parts.References.{References, references, all_names, names_of, names_of_option}
use Rattle.ec_typing_defs.specs.Answers.{checked, names_of as names_of_tables, typed_of}
use Rattle.ec_typing_defs.specs.Embedded as checked_embedded
use Rattle.ec_typing_defs.specs.Embedded.{denoted_by, denoted_in, variables_of}
use Rattle.ec_typing_defs.specs.Programs as programs
use Rattle.ec_typing_defs.specs.Programs.{has_main, main_rule, start}
use Rattle.ec_typing_defs.specs.Worlds.{Place, MembersData, unlisted, begun, listed, is_listed, World, place, look_up, chain as check_chain}
use Rattle.ec_resolving_defs.specs.Programs.{no_storage, walked}
use Rattle.ec_resolving_defs.specs.Storage.{Storage}
use Rattle.ec_sim_statement_laws.specs.expression.Rules.{none_before, none_behind}
use Rattle.ec_sim_world_laws.specs.growth.Growth.{is_unlisted, Grows}
use Rattle.ec_sim_world_laws.proofs.growth_lemmas.Rules.{Growing, chained as chained_grow, place_grows, demand_grows, demand_same, grows_further}
use Rattle.ec_sim_world_laws.specs.known.Known.{IsKnown}
use Rattle.ec_sim_world_laws.specs.place.References.{NamesAreDeclared, tables_of}
use Rattle.ec_sim_world_laws.specs.place.Statements.{ReferencesAre}
use Rattle.ec_sim_world_laws.specs.place.Structs.{ClosedAreListed, IsWithin}
use Rattle.ec_sim_host_laws.specs.table.Tables.{AreSound}
use Rattle.ec_sim_host_laws.specs.reference.Found.{ReferencesFound}
use Rattle.ec_sim_host_laws.specs.reference.Rows.{indexes_are_typed, IndexesAreTyped}
use Rattle.ec_sim_program_laws.specs.shape.Shapes.{AllAreRead}
use Rattle.ec_sim_program_laws.specs.program.Programs.{AreAllFound}
use Rattle.ec_sim_source_laws.specs.block.Accepted.{IsAccepted, StatementLaws}
use Rattle.ec_sim_host_laws.proofs.pointer_lemmas.Taken.{ReferencesArePlaces}
use Rattle.ec_sim_host_laws.proofs.pointer_lemmas.UsesStand.{UsesStand, statement_uses}
use Rattle.ec_sim_source_laws.specs.count.Counted.{SourcesAreCounted}
use Rattle.ec_sim_source_laws.proofs.count_lemmas.Binding.{faultless, all_counted}
use Rattle.ec_sim_source_laws.proofs.count_lemmas.Indexes.{indexes_have_types}
use Rattle.ec_sim_source_laws.proofs.count_lemmas.Numbers.{some_is, place_below, map_joined, as_many, number_there, FoundAt, found_at}
use Rattle.ec_sim_source_laws.proofs.count_lemmas.Opening.{Opens, opens, declare_is}
use Rattle.ec_sim_source_laws.proofs.count_lemmas.Statements.{AreLong, Here, each_part, statement_counted}
use Rattle.ec_sim_source_laws.proofs.count_lemmas.WalkAgrees.{tops_find}

-- what is used of the laws below
pub record LawsBelow : Type 0 where
  pub places : ReferencesArePlaces
  pub grown : (w z : World) → Grows w z → ClosedAreListed w → ClosedAreListed z → IsWithin w z
  pub had_types : HadTypes
  pub with_types : WithTypesAreListed

-- ---- structs are closed wherever the walk comes to

listed_not : (m : MembersData) → is_listed (Some m) ≡ true → is_unlisted m ≡ false
listed_not unlisted e = absurd (cc)
listed_not begun e = refl
listed_not (listed ms) e = refl

listed_stay : (w z : World) → Grows w z → ListedStay w z
listed_stay w z g = λ k info is e. g.structs k info is (listed_not info.members e)

-- ---- the end of a program, where `main` is looked for

end_grows : (u : UnitData) → Growing (check_chain (place u.last) (main_rule u.tops))
unfolding main_rule
end_grows u = chained_grow (place_grows u.last) (λ at. demand_grows at F20 (has_main u.tops))

end_denotes : (u : UnitData) (w : World) → (check_chain (place u.last) (main_rule u.tops) w).world.denoted ≡ w.denoted
unfolding check_chain place main_rule
end_denotes u w = λ i. (demand_same (place u.last w).answer F20 (has_main u.tops) (place u.last w).world i).denoted

module _ (u : UnitData) where
  -- behind the items, and behind their end
  abbrev behind : World
  behind = (programs.tops_rule u.embs u.tops (start false u)).world

  end_is : (checked false u).world ≡ (check_chain (place u.last) (main_rule u.tops) behind).world
  unfolding check_chain
  end_is = refl

  walked_is : (walked false u).world ≡ behind
  walked_is = (tops_find u.embs u.tops).world (no_storage u) (start false u)

  walked_grows : Grows (walked false u).world (checked false u).world
  walked_grows = subst (λ w. Grows w (checked false u).world) (sym walked_is) (subst (λ z. Grows behind z) (sym end_is) ((end_grows u).grows behind))

  walked_denotes : (checked false u).world.denoted ≡ (walked false u).world.denoted
  walked_denotes = (λ i. (end_is i).denoted) ∙ end_denotes u behind ∙ (λ i. (sym walked_is i).denoted)

-- ---- a source

module _ (below : LawsBelow) (laws : StatementLaws) (u : UnitData) (hosts : List ℕ) (handlers : List MarkData) (z : World) (bounds : List BoundData)
    (bound_is : bound_from (typed_of u hosts handlers z) 0 u.embs ≡ Ok bounds) (read : AllAreRead u.embs) (indexes : IndexesAreTyped (typed_of u hosts handlers z))
    (sound : AreSound z) (in_numbers : tops_numbers u.tops [] ≡ numbers_from 0 (length u.embs)) (all : AreAllFound u)
    (walk_grows : Grows (walked false u).world z) (walk_rows : z.denoted ≡ (walked false u).world.denoted) where
  abbrev t : TypedData
  t = typed_of u hosts handlers z

  abbrev p : ProgramData
  p = tables_of z hosts (functions_of u)

  abbrev row : ℕ → Denoted
  row n = row_at z.denoted n

  -- where a statement stood
  record Stood (n : ℕ) (e : EmbData) : Type 0 where
    at : Place
    storage : Storage
    before : World
    known : IsKnown u storage before
    grows : Grows before z
    clean : (checked_embedded.references_rule at (references e) before).found ≡ []
    denotes : row_at z.denoted n ≡ denoted_in before (variables_of u.embs n e)

  row_is : (rows : List Denoted) (k : ℕ) {row : Denoted} → slice_get rows k ≡ Some row → row_at rows k ≡ row
  row_is rows k e = λ i. elim (e i) as (λ o. Denoted) [ None ↦ [] | Some ds ↦ ds ]

  stood : (n : ℕ) (e : EmbData) → slice_get u.embs n ≡ Some e → Stood n e
  stood n e is_emb = of_found (found_at u (walked false u).storage (walked false u).world (walked false u).storage.statements (walked false u).world.denoted all.found n
      (subst (λ m. n < m) (sym (as_many (walked false u).storage.statements (length u.embs) (all.in_order ∙ in_numbers))) (place_below u.embs n is_emb)))
    where
      of_found : FoundAt u (walked false u).storage (walked false u).world (walked false u).storage.statements (walked false u).world.denoted n → Stood n e
      of_found f = record {
        at = f.found.at;
        storage = f.found.storage;
        before = f.found.before;
        known = f.found.known;
        grows = grows_further f.found.before (walked false u).world z f.found.grows walk_grows;
        clean = (λ i. (checked_embedded.references_rule f.found.at (references (sym emb_is i)) f.found.before).found) ∙ f.found.clean;
        denotes = (λ i. row_at (walk_rows i) n) ∙ row_is (walked false u).world.denoted n f.is_row ∙ f.found.denoted
            ∙ (λ i. denoted_in f.found.before (variables_of u.embs (number i) (emb_is i)));
      }
        where
          number : f.form.number ≡ n
          number = number_there (walked false u).storage.statements (length u.embs) (all.in_order ∙ in_numbers) n f.is_form

          emb_is : f.found.emb ≡ e
          emb_is = some_is (sym f.found.is_emb ∙ (λ i. slice_get u.embs (number i)) ∙ is_emb)

  module _ (n : ℕ) (e : EmbData) (is_emb : slice_get u.embs n ≡ Some e) (k : Stood n e) where
    abbrev w : World
    w = k.before

    abbrev rs : References
    rs = references e

    abbrev opened : Option EmbData
    opened = declare_opened u.embs n e

    row_parts : row n ≡ denoted_in w (all_names rs) ++ denoted_in w (names_of_option opened)
    row_parts = k.denotes ∙ map_joined (λ x. denoted_by (look_up x w)) (names_of e) (names_of_option opened)

    closed : ClosedAreListed w
    closed = below.with_types w k.known.in_order (below.had_types w z (listed_stay w z k.grows) sound.have_types)

    within : IsWithin w z
    within = below.grown w z k.grows closed sound.closed

    declared : NamesAreDeclared w (functions_of u)
    declared = laws.names u k.storage w k.known

    found : ReferencesFound k.at k.at k.storage k.storage w w rs
    found = laws.there k.at k.storage w rs (read n e is_emb).are_references
        (indexes_have_types w z (functions_of u) within declared rs (read n e is_emb).are_references (denoted_in w (names_of_option opened))
        ((λ i. indexes_are_typed (names_of_tables z) rs (sym row_parts i)) ∙ indexes n e is_emb)) k.clean

    here : Here w z hosts (functions_of u)
    here = record { places = below.places; within = within; names = declared; fit = laws.fit z sound hosts (functions_of u) }

    uses_there : UsesStand k.at w p (uses_of e) (row n)
    uses_there = statement_uses k.at w p k.storage e.kind e (record { denoted = row n; references = found.forms ++ [] })
        (subst (λ ds. ReferencesAre k.at k.storage w rs (record { denoted = ds; references = found.forms ++ [] })) (sym row_parts) (found.are (denoted_in w (names_of_option opened)) []))
        (none_before (uses_faults p (uses_of e) (row n)) _ (faultless t bounds bound_is n e is_emb))

  -- the hosts of the cursor that a statement opens are those of its DECLARE, where that stood
  opened_long : (n : ℕ) (e : EmbData) → Opens u.embs z.denoted n e → AreLong (bound.each_of (part_places p) (cursor_parts (declare_opened u.embs n e)) (cursor_part e (row n))).made
  opened_long n e o = subst (λ d. AreLong (bound.each_of (part_places p) (cursor_parts d) (cursor_part e (row n))).made) (sym (declare_is u.embs z.denoted n e o))
      (subst (λ ds. AreLong (bound.each_of (part_places p) o.parts ds).made) o.same_rows (of_stood (stood o.number d o.is_declared)))
    where
      d : EmbData
      d = record o.declared { at = None; kind = declare_cursor o.cursor o.parts o.prepared }

      of_stood : Stood o.number d → AreLong (bound.each_of (part_places p) o.parts (row o.number)).made
      of_stood k = each_part k.at k.storage k.before z hosts (functions_of u) (here o.number d o.is_declared k) o.parts (row o.number) (uses_there o.number d o.is_declared k)

  cursor_long : (n : ℕ) (e : EmbData) → opening_faults u.embs z.denoted n e ≡ [] → (kind : EmbKindData) → e.kind ≡ kind
      → elim kind as (λ k. Type 0) [ open_cursor name ins ↦ AreLong (bound.each_of (part_places p) (cursor_parts (declare_opened u.embs n e)) (cursor_part e (row n))).made | _ ↦ Unit {0} ]
  cursor_long n e clean (open_cursor name ins) h =
      opened_long n e (opens u.embs z.denoted read n e name (λ i. elim (h i) as (λ k. Option Text) [ open_cursor c is ↦ Some c | _ ↦ None ]) clean)
  cursor_long n e clean _ h = tt

  each_counted : (n : ℕ) (e : EmbData) → slice_get u.embs n ≡ Some e → is_counted (statement_bound p e (declare_opened u.embs n e) (row n)) ≡ true
  each_counted n e is_emb = of_stood (stood n e is_emb)
    where
      clean : opening_faults u.embs z.denoted n e ≡ []
      clean = none_before (opening_faults u.embs z.denoted n e) _ (none_behind (uses_faults p (uses_of e) (row n)) _ (faultless t bounds bound_is n e is_emb))

      of_stood : Stood n e → is_counted (statement_bound p e (declare_opened u.embs n e) (row n)) ≡ true
      of_stood k = statement_counted k.at k.storage k.before z hosts (functions_of u) (here n e is_emb k) (declare_opened u.embs n e) e (row n) (uses_there n e is_emb k)
          (cursor_long n e clean e.kind refl)

  source_counted : are_counted bounds ≡ true
  source_counted = all_counted t bounds bound_is each_counted

pub sources_counted : LawsBelow → SourcesAreCounted
sources_counted below laws each t bounds a found =
    subst (λ x. IsAccepted x bounds → AreAllFound x.unit → are_counted bounds ≡ true) (sym a.is) (λ h f.
    source_counted below laws t.unit t.hosts t.handlers (checked false t.unit).world bounds h.bound h.read h.indexes h.sound h.numbers f (walked_grows t.unit) (walked_denotes t.unit)) a found
