-- The cursor that a statement opens: its DECLARE stands above, and its variables denote what they denoted there.
use Rattle.std.proofs.Common.{◌≡◌, ◌∙◌, ℕ, zero, suc, ◌+◌, Bool, true, false, ◌==◌, List, [], ◌∷◌, take, refl, sym, subst, Option, Some, None, if◌then◌else◌, arith, slice_get}
use Rattle.std.proofs.lemmas.Bool.{false≢true, and_parts}
use Rattle.std.proofs.lemmas.Bool.Decides.{nat_tests}
use Rattle.std.specs.Prelude.{option_and_then}
use Rattle.ec_base.specs.declared.fault.FaultKind.{FaultKind}
use Rattle.ec_base.specs.declared.fault.FaultKind.TheVariants.{F28}
use Rattle.ec_ctypes.specs.trees.Embedded.{EmbData, EmbKindData, PartData, declare_cursor}
use Rattle.ec_language.specs.Letters.{Text, same_word}
use Rattle.ec_host_defs.specs.Faults.{fault_unless, same_denoted, row_at, cursor_part, open_faults, opening_faults}
use Rattle.ec_host_defs.specs.Programs.{Denoted}
use Rattle.ec_typing_defs.specs.statement_parts.Cursors.{declared_cursor, opened_cursor, declare_from, declared_above, declare_opened}
use Rattle.ec_sim_program_laws.specs.shape.Shapes.{AllAreRead}
use Rattle.ec_sim_source_laws.proofs.count_lemmas.Numbers.{none_not, some_is}

-- ---- lists

none_more : (n : ℕ) → n ≡ n + 0
none_more n = omega (arith)

one_more : (m n : ℕ) → (m + 1) + n ≡ m + suc n
one_more m n = omega (arith)

none_first : (n : ℕ) → 0 + n ≡ n
none_first n = omega (arith)

in_front : {A : Type 0} (xs : List A) (n j : ℕ) {x : A} → slice_get (take n xs) j ≡ Some x → slice_get xs j ≡ Some x
in_front xs zero j e = none_not e
in_front [] (suc n) j e = none_not e
in_front (y ∷ xs) (suc n) zero e = e
in_front (y ∷ xs) (suc n) (suc j) e = in_front xs n j e

same_number : (j k : ℕ) → (j == k) ≡ true → j ≡ k
same_number j k e = grind (arith, nat_tests)

-- rows that are the same
rows_same : (ds es : Denoted) → same_denoted ds es ≡ true → ds ≡ es
rows_same [] [] e = refl
rows_same [] (d ∷ es) e = absurd (false≢true e)
rows_same (None ∷ ds) [] e = absurd (false≢true e)
rows_same (Some j ∷ ds) [] e = absurd (false≢true e)
rows_same (None ∷ ds) (None ∷ es) e = λ i. None ∷ rows_same ds es e i
rows_same (None ∷ ds) (Some k ∷ es) e = absurd (false≢true e)
rows_same (Some j ∷ ds) (None ∷ es) e = absurd (false≢true e)
rows_same (Some j ∷ ds) (Some k ∷ es) e =
    let parts : ((j == k) ≡ true) × (same_denoted ds es ≡ true) = and_parts (j == k) (same_denoted ds es) e in
    λ i. Some (same_number j k parts.0 i) ∷ rows_same ds es parts.1 i

-- ---- the DECLARE

-- a DECLARE, at its place
record Declares (xs : List EmbData) (m k : ℕ) : Type 0 where
  place : ℕ
  is_place : m + place ≡ k
  emb : EmbData
  is : slice_get xs place ≡ Some emb
  name : Text
  declares : declared_cursor emb ≡ Some name

further_down : {x : EmbData} {xs : List EmbData} {m k : ℕ} → Declares xs (m + 1) k → Declares (x ∷ xs) m k
further_down {m = m} h = record {
  place = suc h.place;
  is_place = sym (one_more m h.place) ∙ h.is_place;
  emb = h.emb;
  is = h.is;
  name = h.name;
  declares = h.declares;
}

declared_from : (m : ℕ) (cursor : Text) (xs : List EmbData) (k : ℕ) → declare_from m cursor xs ≡ Some k → Declares xs m k
declared_from m cursor [] k e = none_not e
declared_from m cursor (x ∷ xs) k e = by_kind (λ h. declared_from (m + 1) cursor xs k h) (declared_cursor x) refl e
  where
    by_name : (declare_from (m + 1) cursor xs ≡ Some k → Declares xs (m + 1) k) → (c : Text) → declared_cursor x ≡ Some c → (b : Bool) → (if b then Some m else declare_from (m + 1) cursor xs) ≡ Some k → Declares (x ∷ xs) m k
    by_name more c d true h = record {
      place = 0;
      is_place = sym (none_more m) ∙ some_is h;
      emb = x;
      is = refl;
      name = c;
      declares = d;
    }
    by_name more c d false h = further_down (more h)

    by_kind : (declare_from (m + 1) cursor xs ≡ Some k → Declares xs (m + 1) k) → (o : Option Text) → declared_cursor x ≡ o
        → elim o as (λ b. Option ℕ) [ None ↦ declare_from (m + 1) cursor xs | Some c ↦ if same_word c cursor then Some m else declare_from (m + 1) cursor xs ] ≡ Some k → Declares (x ∷ xs) m k
    by_kind more None d h = further_down (more h)
    by_kind more (Some c) d h = by_name more c d (same_word c cursor) h

record IsDeclare (kind : EmbKindData) : Type 0 where
  cursor : Text
  parts : List PartData
  prepared : Option Text
  is : kind ≡ declare_cursor cursor parts prepared

is_declare : (kind : EmbKindData) (c : Text) → elim kind as (λ k. Option Text) [ declare_cursor x ps q ↦ Some x | _ ↦ None ] ≡ Some c → IsDeclare kind
is_declare (declare_cursor x ps q) c e = record { cursor = x; parts = ps; prepared = q; is = refl }
is_declare _ c e = none_not e

-- a DECLARE of these parts, without a connection
abbrev pub bare : EmbData → Text → List PartData → Option Text → EmbData
bare d c ps q = record d { at = None; kind = declare_cursor c ps q }

-- ---- the cursor that is opened

-- the statement of this number opens a cursor, whose DECLARE stands above, and whose variables denote what they denoted there
pub record Opens (es : List EmbData) (rows : List Denoted) (n : ℕ) (e : EmbData) : Type 0 where
  pub name : Text
  pub opened : opened_cursor e ≡ Some name
  pub number : ℕ
  pub above : declared_above es n name ≡ Some number
  pub declared : EmbData
  pub cursor : Text
  pub parts : List PartData
  pub prepared : Option Text
  pub is_declared : slice_get es number ≡ Some (bare declared cursor parts prepared)
  pub same_rows : row_at rows number ≡ cursor_part e (row_at rows n)

nothing_left : (b : Bool) (kind : FaultKind) → fault_unless b kind ≡ [] → b ≡ true
nothing_left true kind e = refl
nothing_left false kind e = absurd (cc)

pub opens : (es : List EmbData) (rows : List Denoted) → AllAreRead es → (n : ℕ) (e : EmbData) (name : Text) → opened_cursor e ≡ Some name → opening_faults es rows n e ≡ [] → Opens es rows n e
opens es rows read n e name opened clean = by_number (declared_above es n name) refl ((λ i. elim (sym opened i) as (λ o. List FaultKind) [
  | None ↦ []
  | Some c ↦ open_faults rows (declared_above es n c) e (row_at rows n)
]) ∙ clean)
  where
    by_number : (o : Option ℕ) → declared_above es n name ≡ o → open_faults rows o e (row_at rows n) ≡ [] → Opens es rows n e
    by_number None above h = absurd (cc)
    by_number (Some k) above h = found (declared_from 0 name (take n es) k above)
      where
        same : row_at rows k ≡ cursor_part e (row_at rows n)
        same = rows_same _ _ (nothing_left _ F28 h)

        found : Declares (take n es) 0 k → Opens es rows n e
        found d = known (in_front es n d.place d.is) (is_declare d.emb.kind d.name d.declares)
          where
            place_is : d.place ≡ k
            place_is = sym (none_first d.place) ∙ d.is_place

            known : slice_get es d.place ≡ Some d.emb → IsDeclare d.emb.kind → Opens es rows n e
            known f x = record {
              name = name;
              opened = opened;
              number = k;
              above = above;
              declared = d.emb;
              cursor = x.cursor;
              parts = x.parts;
              prepared = x.prepared;
              is_declared = (λ i. slice_get es (sym place_is i)) ∙ f ∙ (λ i. Some (record d.emb { at = at_is i; kind = x.is i }));
              same_rows = same;
            }
              where
                at_is : d.emb.at ≡ None
                at_is = subst (λ kind. elim kind as (λ k. Type 0) [ declare_cursor c ps q ↦ d.emb.at ≡ None | _ ↦ Unit {0} ]) x.is (read d.place d.emb f).alone

-- its DECLARE
pub declare_is : (es : List EmbData) (rows : List Denoted) (n : ℕ) (e : EmbData) (o : Opens es rows n e) → declare_opened es n e ≡ Some (bare o.declared o.cursor o.parts o.prepared)
declare_is es rows n e o =
    (λ i. option_and_then (λ cursor. option_and_then (λ k. slice_get es k) (declared_above es n cursor)) (o.opened i))
    ∙ (λ i. option_and_then (λ k. slice_get es k) (o.above i))
    ∙ o.is_declared
