-- The cursor that a statement opens: its DECLARE stands above, and its references are found again where the cursor is opened.
use Rattle.std.proofs.Common.{◌≡◌, ◌∙◌, ℕ, zero, suc, ◌+◌, ◌<◌, Bool, true, false, ◌==◌, List, [], ◌∷◌, ◌++◌, length, map, drop, take, refl, sym, subst, Option, Some, None, if◌then◌else◌, arith, slice_get, append-nil}
use Rattle.std.proofs.lemmas.Bool.{false≢true, and_parts}
use Rattle.std.proofs.lemmas.Bool.Decides.{nat_tests}
use Rattle.std.specs.Prelude.{option_and_then}
use Rattle.ec_base.specs.declared.fault.FaultKind.{FaultKind}
use Rattle.ec_base.specs.declared.fault.FaultKind.TheVariants.{F28}
use Rattle.ec_ctypes.specs.trees.Embedded.{EmbData, EmbKindData, InsData, PartData, declare_cursor, open_cursor}
use Rattle.ec_ctypes.specs.trees.Checked.{TypedData, MarkData}
use Rattle.ec_ctypes.specs.trees.Units.{UnitData}
use Rattle.ec_language.specs.Letters.{Text, same_word}
use Rattle.ec_host_defs.specs.Bound.{cursor_parts, faults_of}
use Rattle.ec_host_defs.specs.Faults.{fault_unless, same_denoted, row_at, cursor_part, open_faults, opening_faults, uses_faults}
use Rattle.ec_host_defs.specs.Programs.{Denoted, ProgramData}
use Rattle.ec_host_defs.specs.Uses.{part_uses, each_uses, uses_of}
use Rattle.ec_host_defs.specs.sections.Declared.{functions_of}
use Rattle.ec_typing_defs.specs.statement_parts.Cursors.{declared_cursor, opened_cursor, declare_from, declared_above, declare_opened}
use Rattle.ec_typing_defs.specs.statement_parts.References.{references, all_names, names_of, names_of_option}
use Rattle.ec_typing_defs.specs.Answers.{names_of as names_of_tables, typed_of}
use Rattle.ec_typing_defs.specs.Embedded as checked
use Rattle.ec_typing_defs.specs.Embedded.{denoted_by, denoted_in, variables_of}
use Rattle.ec_typing_defs.specs.Worlds.{Place, World, entered, look_up}
use Rattle.ec_resolving_defs.specs.Embedded.{references_rule}
use Rattle.ec_resolving_defs.specs.Storage.{Storage, StatementForm, ReferenceForm, inside_block}
use Rattle.ec_direct_defs.specs.Direct.{form_of, references_in, declare_number}
use Rattle.ec_direct_defs.specs.Statements.{Around}
use Rattle.ec_sim_statement_laws.specs.argument.Bound.{cursor_of}
use Rattle.ec_written_laws.specs.bound.Numbers.{numbers_from}
use Rattle.ec_sim_statement_laws.specs.expression.Alike.{SameStorage}
use Rattle.ec_sim_statement_laws.specs.expression.Rules.{none_before}
use Rattle.ec_sim_statement_laws.specs.expression.Worlds.{AreAlike}
use Rattle.ec_sim_world_laws.specs.growth.Growth.{Grows}
use Rattle.ec_sim_world_laws.proofs.growth_lemmas.Rules.{grows_further}
use Rattle.ec_sim_world_laws.specs.closing.Closing.{HaveTypes}
use Rattle.ec_sim_world_laws.specs.place.References.{NamesAreDeclared, tables_of}
use Rattle.ec_sim_world_laws.specs.place.Statements.{ReferencesAre}
use Rattle.ec_sim_world_laws.specs.place.Structs.{IsWithin}
use Rattle.ec_sim_world_laws.specs.known.Known.{IsKnown, AreFound}
use Rattle.ec_sim_host_laws.specs.reference.Found.{AreReferences, AllIndexesHaveTypes, ReferencesFound, ReferencesAreFound}
use Rattle.ec_sim_host_laws.specs.reference.Rows.{indexes_are_typed, IndexesAreTyped}
use Rattle.ec_sim_host_laws.specs.cursor.Cursors.{are_no_functions, FoundAgain, ReferencesAreFoundAgain}
use Rattle.ec_sim_source_laws.specs.block.Accepted.{CursorsHaveNoFunctions}
use Rattle.ec_sim_source_laws.proofs.block_lemmas.Indexes.{indexes_have_types}
use Rattle.ec_sim_host_laws.specs.host.Hosts.{PartsStand, CursorStands}
use Rattle.ec_sim_program_laws.specs.shape.Shapes.{AllAreRead}
use Rattle.ec_sim_source_laws.proofs.block_lemmas.Numbers.{none_not, some_is, get_front, map_joined, length_mapped, IsNumbered, form_there, FoundAt, found_at, MayHaveForm, references_of}
use Rattle.ec_sim_source_laws.proofs.block_lemmas.Passing.{references_look, references_inside}
use Rattle.ec_sim_source_laws.proofs.block_lemmas.Standing.{LawsBelow, closed_here}

-- ---- lists

none_more : (n : ℕ) → n ≡ n + 0
none_more n = omega (arith)

one_more : (m n : ℕ) → (m + 1) + n ≡ m + suc n
one_more m n = omega (arith)

none_first : (n : ℕ) → 0 + n ≡ n
none_first n = omega (arith)

above_none : (n : ℕ) → 0 < suc n
above_none n = omega (arith)

above_one : (m n : ℕ) → m < n → suc m < suc n
above_one m n e = omega (arith, e)

-- what is at a place in the front of a list
record InFront {A : Type 0} (xs : List A) (n j : ℕ) (x : A) : Type 0 where
  below : j < n
  is : slice_get xs j ≡ Some x

in_front : {A : Type 0} (xs : List A) (n j : ℕ) {x : A} → slice_get (take n xs) j ≡ Some x → InFront xs n j x
in_front xs zero j e = none_not e
in_front [] (suc n) j e = none_not e
in_front (y ∷ xs) (suc n) zero e = record { below = above_none n; is = e }
in_front (y ∷ xs) (suc n) (suc j) {x} e = further (in_front xs n j e)
  where
    further : InFront xs n j x → InFront (y ∷ xs) (suc n) (suc j) x
    further h = record { below = above_one j n h.below; is = h.is }

dropped : {A : Type 0} (xs ys : List A) → drop (length xs) (xs ++ ys) ≡ ys
dropped [] ys = refl
dropped (x ∷ xs) ys = dropped xs ys

same_number : (j k : ℕ) → (j == k) ≡ true → j ≡ k
same_number j k e = grind (arith, nat_tests)

-- rows that are the same
rows_same : (ds es : Denoted) → same_denoted ds es ≡ true → ds ≡ es
rows_same [] [] e = refl
rows_same [] (d ∷ es) e = absurd (false≢true e)
rows_same (None ∷ ds) [] e = absurd (false≢true e)
rows_same (Some j ∷ ds) [] e = absurd (false≢true e)
rows_same (None ∷ ds) (None ∷ es) e = λ i. None ∷ rows_same ds es e i
rows_same (None ∷ ds) (Some k ∷ es) e = absurd (false≢true e)
rows_same (Some j ∷ ds) (None ∷ es) e = absurd (false≢true e)
rows_same (Some j ∷ ds) (Some k ∷ es) e =
    let parts : ((j == k) ≡ true) × (same_denoted ds es ≡ true) = and_parts (j == k) (same_denoted ds es) e in
    λ i. Some (same_number j k parts.0 i) ∷ rows_same ds es parts.1 i

-- ---- the DECLARE

-- a DECLARE, at its place
record Declares (xs : List EmbData) (m k : ℕ) : Type 0 where
  place : ℕ
  is_place : m + place ≡ k
  emb : EmbData
  is : slice_get xs place ≡ Some emb
  name : Text
  declares : declared_cursor emb ≡ Some name

further_down : {x : EmbData} {xs : List EmbData} {m k : ℕ} → Declares xs (m + 1) k → Declares (x ∷ xs) m k
further_down {m = m} h = record {
  place = suc h.place;
  is_place = sym (one_more m h.place) ∙ h.is_place;
  emb = h.emb;
  is = h.is;
  name = h.name;
  declares = h.declares;
}

declared_from : (m : ℕ) (cursor : Text) (xs : List EmbData) (k : ℕ) → declare_from m cursor xs ≡ Some k → Declares xs m k
declared_from m cursor [] k e = none_not e
declared_from m cursor (x ∷ xs) k e = by_kind (λ h. declared_from (m + 1) cursor xs k h) (declared_cursor x) refl e
  where
    by_name : (declare_from (m + 1) cursor xs ≡ Some k → Declares xs (m + 1) k) → (c : Text) → declared_cursor x ≡ Some c → (b : Bool) → (if b then Some m else declare_from (m + 1) cursor xs) ≡ Some k → Declares (x ∷ xs) m k
    by_name more c d true h = record {
      place = 0;
      is_place = sym (none_more m) ∙ some_is h;
      emb = x;
      is = refl;
      name = c;
      declares = d;
    }
    by_name more c d false h = further_down (more h)

    by_kind : (declare_from (m + 1) cursor xs ≡ Some k → Declares xs (m + 1) k) → (o : Option Text) → declared_cursor x ≡ o
        → elim o as (λ b. Option ℕ) [ None ↦ declare_from (m + 1) cursor xs | Some c ↦ if same_word c cursor then Some m else declare_from (m + 1) cursor xs ] ≡ Some k → Declares (x ∷ xs) m k
    by_kind more None d h = further_down (more h)
    by_kind more (Some c) d h = by_name more c d (same_word c cursor) h

record IsDeclare (kind : EmbKindData) : Type 0 where
  cursor : Text
  parts : List PartData
  prepared : Option Text
  is : kind ≡ declare_cursor cursor parts prepared

is_declare : (kind : EmbKindData) (c : Text) → elim kind as (λ k. Option Text) [ declare_cursor x ps q ↦ Some x | _ ↦ None ] ≡ Some c → IsDeclare kind
is_declare (declare_cursor x ps q) c e = record { cursor = x; parts = ps; prepared = q; is = refl }
is_declare _ c e = none_not e

-- a DECLARE of these parts, without a connection
abbrev pub bare : EmbData → Text → List PartData → Option Text → EmbData
bare d c ps q = record d { at = None; kind = declare_cursor c ps q }

-- ---- the cursor that is opened

-- the statement of this number opens a cursor, whose DECLARE stands above, and whose variables denote what they denoted there
pub record Opens (es : List EmbData) (rows : List Denoted) (n : ℕ) (e : EmbData) : Type 0 where
  pub name : Text
  pub opened : opened_cursor e ≡ Some name
  pub number : ℕ
  pub above : declared_above es n name ≡ Some number
  pub below : number < n
  pub declared : EmbData
  pub cursor : Text
  pub parts : List PartData
  pub prepared : Option Text
  pub is_declared : slice_get es number ≡ Some (bare declared cursor parts prepared)
  pub same_rows : row_at rows number ≡ cursor_part e (row_at rows n)

nothing_left : (b : Bool) (kind : FaultKind) → fault_unless b kind ≡ [] → b ≡ true
nothing_left true kind e = refl
nothing_left false kind e = absurd (cc)

opens : (es : List EmbData) (rows : List Denoted) → AllAreRead es → (n : ℕ) (e : EmbData) (name : Text) → opened_cursor e ≡ Some name → opening_faults es rows n e ≡ [] → Opens es rows n e
opens es rows read n e name opened clean = by_number (declared_above es n name) refl ((λ i. elim (sym opened i) as (λ o. List FaultKind) [
  | None ↦ []
  | Some c ↦ open_faults rows (declared_above es n c) e (row_at rows n)
]) ∙ clean)
  where
    by_number : (o : Option ℕ) → declared_above es n name ≡ o → open_faults rows o e (row_at rows n) ≡ [] → Opens es rows n e
    by_number None above h = absurd (cc)
    by_number (Some k) above h = found (declared_from 0 name (take n es) k above)
      where
        same : row_at rows k ≡ cursor_part e (row_at rows n)
        same = rows_same _ _ (nothing_left _ F28 h)

        found : Declares (take n es) 0 k → Opens es rows n e
        found d = known (in_front es n d.place d.is) (is_declare d.emb.kind d.name d.declares)
          where
            place_is : d.place ≡ k
            place_is = sym (none_first d.place) ∙ d.is_place

            known : InFront es n d.place d.emb → IsDeclare d.emb.kind → Opens es rows n e
            known f x = record {
              name = name;
              opened = opened;
              number = k;
              above = above;
              below = subst (λ m. m < n) place_is f.below;
              declared = d.emb;
              cursor = x.cursor;
              parts = x.parts;
              prepared = x.prepared;
              is_declared = (λ i. slice_get es (sym place_is i)) ∙ f.is ∙ (λ i. Some (record d.emb { at = at_is i; kind = x.is i }));
              same_rows = same;
            }
              where
                at_is : d.emb.at ≡ None
                at_is = subst (λ kind. elim kind as (λ k. Type 0) [ declare_cursor c ps q ↦ d.emb.at ≡ None | _ ↦ Unit {0} ]) x.is (read d.place d.emb f.is).alone

-- its DECLARE
declare_is : (es : List EmbData) (rows : List Denoted) (n : ℕ) (e : EmbData) (o : Opens es rows n e) → declare_opened es n e ≡ Some (bare o.declared o.cursor o.parts o.prepared)
declare_is es rows n e o =
    (λ i. option_and_then (λ cursor. option_and_then (λ k. slice_get es k) (declared_above es n cursor)) (o.opened i))
    ∙ (λ i. option_and_then (λ k. slice_get es k) (o.above i))
    ∙ o.is_declared

number_is : (t : TypedData) (forms : List StatementForm) (n : ℕ) (e : EmbData) (rows : List Denoted) (o : Opens t.unit.embs rows n e) → declare_number t forms n e ≡ Some o.number
number_is t forms n e rows o =
    (λ i. option_and_then (λ name. declared_above t.unit.embs n name) (o.opened i)) ∙ o.above

row_is : (rows : List Denoted) (k : ℕ) {row : Denoted} → slice_get rows k ≡ Some row → row_at rows k ≡ row
row_is rows k e = λ i. elim (e i) as (λ o. Denoted) [ None ↦ [] | Some ds ↦ ds ]

-- ---- where the statement stands

module _ (below : LawsBelow) (again : ReferencesAreFoundAgain) (found_there : ReferencesAreFound)
    (u : UnitData) (hosts : List ℕ) (handlers : List MarkData) (z : World) (read : AllAreRead u.embs) (have : HaveTypes z)
    (faultless : (k : ℕ) (d : EmbData) → slice_get u.embs k ≡ Some d → faults_of (typed_of u hosts handlers z) k d ≡ [])
    (n : ℕ) (e : EmbData) (at there : Place) (s y : Storage) (w v : World) (k : ℕ)
    (same : SameStorage (inside_block k s) y) (alike : AreAlike (entered w) v)
    (known : IsKnown u s w) (are_found : AreFound u s w s.statements w.denoted) (grows : Grows w z)
    (count : ℕ) (numbers : List ℕ) (in_order : map (λ f. f.number) s.statements ++ numbers ≡ numbers_from 0 count) (is_next : n ≡ length s.statements)
    (row_here : row_at z.denoted n ≡ denoted_in w (variables_of u.embs n e))
    (within : IsWithin (entered w) z) (names : NamesAreDeclared (entered w) (functions_of u))
    (indexes : IndexesAreTyped (typed_of u hosts handlers z)) (cursors : CursorsHaveNoFunctions (typed_of u hosts handlers z)) where
  abbrev t : TypedData
  t = typed_of u hosts handlers z

  abbrev p : ProgramData
  p = tables_of z hosts (functions_of u)

  -- the references of the DECLARE that come next
  abbrev opened_references : List ReferenceForm
  opened_references = references_of s.statements (declare_number t s.statements n e)

  module _ (o : Opens u.embs z.denoted n e) where
    abbrev d : EmbData
    d = bare o.declared o.cursor o.parts o.prepared

    f : FoundAt u s w s.statements w.denoted o.number
    f = found_at u s w s.statements w.denoted are_found o.number (subst (λ m. o.number < m) is_next o.below)

    numbered : IsNumbered s.statements o.number f.form
    numbered = form_there s.statements count numbers in_order o.number f.is_form

    emb_is : f.found.emb ≡ d
    emb_is = some_is (sym f.found.is_emb ∙ (λ i. slice_get u.embs (numbered.number i)) ∙ o.is_declared)

    -- what its names denote
    row_there : row_at z.denoted o.number ≡ denoted_in f.found.before (names_of d)
    row_there =
        row_is z.denoted o.number ((λ i. slice_get (grows.denoted.same i) o.number) ∙ get_front w.denoted grows.denoted.rest o.number f.is_row)
        ∙ f.found.denoted
        ∙ (λ i. denoted_in f.found.before (variables_of u.embs (numbered.number i) (emb_is i)))
        ∙ (λ i. denoted_in f.found.before (append-nil (names_of d) i))

    part_here : cursor_part e (row_at z.denoted n) ≡ denoted_in w (names_of d)
    part_here =
        (λ i. cursor_part e (row_here i))
        ∙ (λ i. drop (length (names_of e)) (map_joined (λ x. denoted_by (look_up x w)) (names_of e) (names_of_option (declare_opened u.embs n e)) i))
        ∙ (λ i. drop (sym (length_mapped (λ x. denoted_by (look_up x w)) (names_of e)) i) (denoted_in w (names_of e) ++ denoted_in w (names_of_option (declare_opened u.embs n e))))
        ∙ dropped (denoted_in w (names_of e)) (denoted_in w (names_of_option (declare_opened u.embs n e)))
        ∙ (λ i. denoted_in w (names_of_option (declare_is u.embs z.denoted n e o i)))

    names_same : denoted_in w (names_of d) ≡ denoted_in f.found.before (names_of d)
    names_same = sym part_here ∙ sym o.same_rows ∙ row_there

    are_references : AreReferences (references d)
    are_references = (read o.number d o.is_declared).are_references

    found_again : FoundAgain at f.found.at f.found.storage s f.found.before w (references d)
    found_again = again u f.found.at at f.found.storage s f.found.before w f.found.known known
        (closed_here below f.found.before z (grows_further f.found.before w z f.found.grows grows) have f.found.known.in_order)
        (closed_here below w z grows have known.in_order) f.found.grows f.found.sites (references d) are_references
        ((λ i. (checked.references_rule f.found.at (references (sym emb_is i)) f.found.before).found) ∙ f.found.clean) names_same
        ((λ i. are_no_functions (functions_of u) (sym row_there i)) ∙ cursors o.number d o.is_declared o.cursor refl)

    have_types : AllIndexesHaveTypes (entered w) (references d)
    have_types = indexes_have_types (entered w) z (functions_of u) within names (references d) are_references []
        ((λ i. indexes_are_typed (names_of_tables z) (references d) ((append-nil (denoted_in w (names_of d)) ∙ sym part_here ∙ sym o.same_rows) i)) ∙ indexes o.number d o.is_declared)

    there_too : ReferencesFound at there (inside_block k s) y (entered w) v (references d)
    there_too = found_there at there (inside_block k s) y (entered w) v same alike (references d) are_references have_types
        ((λ i. ((references_look at (references d) are_references).inside w i).found) ∙ found_again.without_fault)

    forms_are : there_too.forms ≡ f.form.references
    forms_are = (λ i. (sym there_too.resolved i).answer)
        ∙ (λ i. (references_inside at (references d) are_references s (record { below = s.block.below + s.block.count; count = k; sizes = [] }) w i).answer)
        ∙ found_again.same
        ∙ (λ i. (references_rule f.found.at (references (sym emb_is i)) f.found.storage f.found.before).answer) ∙ f.found.are

    opened_are : opened_references ≡ f.form.references
    opened_are = (λ i. references_in (option_and_then (λ m. form_of m s.statements) (number_is t s.statements n e z.denoted o i)))
        ∙ (λ i. references_in (numbered.is i))

    around_is : ◌≡◌ {A = Around} (record { denoted = denoted_in (entered w) (all_names (references d)) ++ []; references = there_too.forms ++ [] })
        (record { denoted = cursor_part e (row_at z.denoted n); references = opened_references })
    around_is = λ i. record {
      denoted = (append-nil (denoted_in w (names_of d)) ∙ sym part_here) i;
      references = (append-nil there_too.forms ∙ forms_are ∙ sym opened_are) i;
    }

    parts_clean : uses_faults p (each_uses part_uses o.parts) (cursor_part e (row_at z.denoted n)) ≡ []
    parts_clean = (λ i. uses_faults p (uses_of d) (sym o.same_rows i)) ∙ none_before _ _ (faultless o.number d o.is_declared)

    parts_there : PartsStand there y v p o.parts (record { denoted = cursor_part e (row_at z.denoted n); references = opened_references })
    parts_there = record {
      references = subst (λ x. ReferencesAre there y v (references d) x) around_is (there_too.are [] []);
      without_fault = parts_clean;
    }

    pub opened_stands : PartsStand there y v p (cursor_parts (declare_opened u.embs n e)) (record { denoted = cursor_part e (row_at z.denoted n); references = opened_references })
    opened_stands = subst (λ x. PartsStand there y v p (cursor_parts x) (record { denoted = cursor_part e (row_at z.denoted n); references = opened_references }))
        (sym (declare_is u.embs z.denoted n e o)) parts_there

    pub opened_form : MayHaveForm s.statements (declare_number t s.statements n e)
    opened_form = subst (MayHaveForm s.statements) (sym (number_is t s.statements n e z.denoted o)) (record { form = f.form; is = numbered.is })

  -- whether the statement opens a cursor or none
  module _ (clean : opening_faults u.embs z.denoted n e ≡ []) where
    pub may_have_form : MayHaveForm s.statements (declare_number t s.statements n e)
    may_have_form = by_name (opened_cursor e) refl
      where
        by_name : (name : Option Text) → opened_cursor e ≡ name → MayHaveForm s.statements (declare_number t s.statements n e)
        by_name None h = subst (λ c. MayHaveForm s.statements (option_and_then (λ name. declared_above u.embs n name) c)) (sym h) tt
        by_name (Some name) h = opened_form (opens u.embs z.denoted read n e name h clean)

    pub cursor_stands : (prepared : Option Text) → CursorStands there y v p e (cursor_of prepared (declare_opened u.embs n e) e (row_at z.denoted n) opened_references)
    cursor_stands prepared = by_kind e.kind
        (PartsStand there y v p (cursor_parts (declare_opened u.embs n e)) (record { denoted = cursor_part e (row_at z.denoted n); references = opened_references }))
        (λ name ins h. opened_stands (opens u.embs z.denoted read n e name (λ i. elim (h i) as (λ k. Option Text) [ open_cursor c is ↦ Some c | _ ↦ None ]) clean))
      where
        by_kind : (kind : EmbKindData) (P : Type 0) → ((name : Text) (ins : InsData) → kind ≡ open_cursor name ins → P) → elim kind as (λ k. Type 0) [ open_cursor name ins ↦ P | _ ↦ Unit {0} ]
        by_kind (open_cursor name ins) P h = h name ins refl
        by_kind _ P h = tt
