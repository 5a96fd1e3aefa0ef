-- What is done with the rows of an answer, leaf by leaf, and in each row by row.
use Rattle.std.specs.Prelude.{ℕ, suc, nat_lt, cond, Bool, true, false, ◌&&◌, ◌||◌, ℤ, int_le, List, [], ◌∷◌, length, slice_get, Option, Some, None, Ok, Err}
use Rattle.ec_ctypes.specs.trees.Types.{StructData}
use Rattle.ec_link.specs.Table.{Sheet}
use Rattle.ec_transfer_defs.specs.declared.finding.Finding.{Finding}
use Rattle.ec_transfer_defs.specs.declared.finding.Finding.TheVariants as found
use Rattle.ec_transfer_defs.specs.Codes.{code_of}
use Rattle.ec_transfer_defs.specs.Conversion.{trapped as trapped_there, refused as refused_there, Stored, field_stored}
use Rattle.ec_transfer_defs.specs.Hosts.{HostData}
use Rattle.ec_meaning_defs.specs.evaluation.State.{State}
use Rattle.ec_call_defs.specs.Outcomes.{Text, Field, trapped, Outcome, gives, over, next, present, with_memory, warned_area, counted_area, raised}
use Rattle.ec_direct_defs.specs.Leaves.{Leaf, leaf_data}
use Rattle.ec_direct_defs.specs.Descriptors.{row_items, with_items}

-- where rows go: nowhere, into leaves, or into the descriptor of this name
pub data Targets : Type 0 where
  no_targets : Targets
  leaf_targets : List (Leaf ℕ) → Targets
  area_target : Text → Targets

abbrev pub are_wanted : Targets → Bool
are_wanted no_targets = false
are_wanted (leaf_targets ls) = true
are_wanted (area_target name) = true

-- ---- one field

abbrev pub has_code : ℤ → Finding → Bool
has_code code finding = int_le code (code_of finding) && int_le (code_of finding) code

-- what is wrong with a field that has this code: it is no number of a signed or of an unsigned type, no truth value, or NULL
abbrev pub wrong_field : ℤ → Finding
wrong_field code =
    cond (has_code code found.NotAnInteger) found.NotAnInteger
    (cond (has_code code found.NotUnsigned) found.NotUnsigned
    (cond (has_code code found.NotABool) found.NotABool found.NullWithoutIndicator))

-- a value that was cut is told in the communication area
abbrev pub with_warning : Bool → State → State
with_warning true s = with_memory (warned_area s.memory) s
with_warning false s = s

-- a code ends the statement and a trap the run, and what was stored stays
abbrev pub behind_field : ℕ → Stored → State → Outcome (Unit {0})
behind_field line (Ok cut, m) s = gives tt (with_warning cut (with_memory m s))
behind_field line (Err (refused_there code), m) s =
    raised line (wrong_field code) (with_memory m s)
behind_field line (Err (trapped_there trap), m) s = over (trapped trap) (with_memory m s)

-- a field is stored in the element of a row
abbrev pub field_in_row : ℕ → HostData → ℕ → Field → State → Outcome (Unit {0})
field_in_row line h row field s = behind_field line (field_stored s.memory h row field) s

-- the field of a row in a column
abbrev pub field_of : ℕ → List Field → Field
field_of column fields = elim (slice_get fields column) [ Some field ↦ field | None ↦ None ]

-- ---- rows

-- the rows of a leaf, from this one on: each goes into the element of its number
abbrev pub rows_kept : ℕ → HostData → ℕ → ℕ → List (List Field) → State → Outcome (Unit {0})
rows_kept line h column row [] s = gives tt s
rows_kept line h column row (fields ∷ rows) s =
    next (field_in_row line h row (field_of column fields) s) (λ _ t.
    rows_kept line h column (suc row) rows t)

-- a leaf with fewer elements than there are rows
abbrev pub any_smaller : ℕ → List (Leaf ℕ) → Bool
any_smaller rows [] = false
any_smaller rows (l ∷ ls) = nat_lt l.leaf.count rows || any_smaller rows ls

-- Columns and rows are counted before anything is stored: more targets than columns, fewer, and then more rows than a target holds
abbrev pub counted : ℕ → ℕ → ℕ → List (Leaf ℕ) → State → Outcome (Unit {0})
counted line columns rows ls s =
    cond (nat_lt columns (length ls)) (raised line found.TooManyTargets s)
    (cond (nat_lt (length ls) columns) (raised line found.TooFewTargets s)
    (cond (any_smaller rows ls) (raised line found.TooManyRows s) (gives tt s)))

-- no row is a code
abbrev pub rows_told : ℕ → List (List Field) → (State → Outcome (Unit {0})) → State
    → Outcome (Unit {0})
rows_told line [] store s = raised line found.NoData s
rows_told line (fields ∷ rows) store s = store s

-- a descriptor takes one row. It is changed by nothing else
abbrev pub row_into_area : ℕ → Text → Sheet → List (List Field) → State → Outcome (Unit {0})
row_into_area line name table [] s = gives tt s
row_into_area line name table (fields ∷ []) s =
    gives tt (with_items name (row_items table.cols fields) s)
row_into_area line name table (fields ∷ more ∷ rows) s = raised line found.TooManyRows s

module _ (structs : List StructData) (line : ℕ) where
  abbrev pub leaves_kept : ℕ → List (Leaf ℕ) → List (List Field) → State → Outcome (Unit {0})
  leaves_kept column [] rows s = gives tt s
  leaves_kept column (l ∷ ls) rows s =
      next (present (leaf_data structs l) s) (λ h t.
      next (rows_kept line h column 0 rows t) (λ _ u.
      leaves_kept (suc column) ls rows u))

  abbrev pub into_leaves : List (Leaf ℕ) → Sheet → State → Outcome (Unit {0})
  into_leaves ls table s =
      next (counted line (length table.cols) (length table.rows) ls s) (λ _ t.
      leaves_kept 0 ls table.rows t)

  abbrev pub into_targets : Targets → Sheet → State → Outcome (Unit {0})
  into_targets no_targets table s = gives tt s
  into_targets (leaf_targets ls) table s = into_leaves ls table s
  into_targets (area_target name) table s = row_into_area line name table table.rows s

  -- the number of rows is told first; no row is a code
  abbrev pub table_kept : Targets → Sheet → State → Outcome (Unit {0})
  table_kept targets table s =
      rows_told line table.rows (into_targets targets table)
      (with_memory (counted_area (length table.rows) s.memory) s)
