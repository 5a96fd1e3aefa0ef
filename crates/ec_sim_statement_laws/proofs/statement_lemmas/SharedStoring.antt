-- What a statement does with the rows of an answer, by the library's own words for a field, a row and its columns.
use Rattle.std.specs.Prelude.{ℕ, suc, nat_lt, true, false, List, [], ◌∷◌, length}
use Rattle.ec_ctypes.specs.trees.Types.{StructData}
use Rattle.ec_link.specs.Table.{Sheet}
use Rattle.ec_transfer_defs.specs.declared.finding.Finding.TheVariants as found
use Rattle.ec_transfer_defs.specs.Hosts.{HostData}
use Rattle.ec_meaning_defs.specs.evaluation.State.{State}
use Rattle.ec_call_defs.specs.Outcomes.{Text, Field, Outcome, gives, next, present, raised}
use Rattle.ec_call_defs.specs.Storing.{field_kept, in_column, with_rows}
use Rattle.ec_call_defs.specs.Running.{row_into}
use Rattle.ec_direct_defs.specs.Leaves.{Leaf, leaf_data}
use Rattle.ec_direct_defs.specs.Storing.{Targets, no_targets, leaf_targets, area_target, any_smaller}

-- the rows of a leaf, from this one on: each goes into the element of its number
abbrev pub rows_kept : ℕ → HostData → ℕ → ℕ → List (List Field) → State → Outcome (Unit {0})
rows_kept line h column row [] s = gives tt s
rows_kept line h column row (fields ∷ rows) s =
    next (field_kept line h row (in_column column fields) s) (λ _ t.
    rows_kept line h column (suc row) rows t)

-- columns and rows are counted before anything is stored
abbrev pub counted : ℕ → ℕ → ℕ → List (Leaf ℕ) → State → Outcome (Unit {0})
counted line columns rows ls s = elim (nat_lt columns (length ls)) [
  | true ↦ raised line found.TooManyTargets s
  | false ↦ elim (nat_lt (length ls) columns) [
    | true ↦ raised line found.TooFewTargets s
    | false ↦ elim (any_smaller rows ls) [
      | true ↦ raised line found.TooManyRows s
      | false ↦ gives tt s
    ]
  ]
]

module _ (structs : List StructData) (line : ℕ) where
  abbrev pub leaves_kept : ℕ → List (Leaf ℕ) → List (List Field) → State → Outcome (Unit {0})
  leaves_kept column [] rows s = gives tt s
  leaves_kept column (l ∷ ls) rows s =
      next (present (leaf_data structs l) s) (λ h t.
      next (rows_kept line h column 0 rows t) (λ _ u.
      leaves_kept (suc column) ls rows u))

  abbrev pub into_leaves : List (Leaf ℕ) → Sheet → State → Outcome (Unit {0})
  into_leaves ls table s =
      next (counted line (length table.cols) (length table.rows) ls s) (λ _ t.
      leaves_kept 0 ls table.rows t)

  abbrev pub into_targets : Targets → Sheet → State → Outcome (Unit {0})
  into_targets no_targets table s = gives tt s
  into_targets (leaf_targets ls) table s = into_leaves ls table s
  into_targets (area_target name) table s = row_into line name table table.rows s

  -- the number of rows is told first; no row is a code
  abbrev pub table_kept : Targets → Sheet → State → Outcome (Unit {0})
  table_kept targets table s = with_rows line table.rows (into_targets targets table) s
