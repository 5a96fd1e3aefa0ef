-- What is done with the rows of an answer.
use Rattle.std.specs.Prelude.{ℕ, suc, nat_lt, Bool, true, false, ℤ, ◌&&◌, int_le, List, [], ◌∷◌, length, slice_get, Some, None, Ok, Err}
use Rattle.ec_arguments.specs.Arguments.{Place}
use Rattle.ec_memory_defs.specs.Memory.{Memory}
use Rattle.ec_transfer_defs.specs.declared.finding.Finding.{Finding}
use Rattle.ec_transfer_defs.specs.declared.finding.Finding.TheVariants as found
use Rattle.ec_transfer_defs.specs.Codes.{code_of}
use Rattle.ec_transfer_defs.specs.Conversion.{trapped as trapped_there, refused as refused_there, Stored, field_stored}
use Rattle.ec_transfer_defs.specs.Hosts.{HostData}
use Rattle.ec_meaning_defs.specs.evaluation.State.{State}
use Rattle.ec_call_defs.specs.Outcomes.{Field, trapped, Outcome, gives, over, next, present, with_memory, warned_area, counted_area, raised}
use Rattle.ec_call_defs.specs.Inputs.{host_data}

-- ---- one field

abbrev pub same_code : ℤ → Finding → Bool
same_code code finding = int_le code (code_of finding) && int_le (code_of finding) code

-- what a conversion found wrong, by its code: no number of a signed type or of an unsigned one, no truth value, or a NULL without an indicator
abbrev pub found_by : ℤ → Finding
found_by code = elim (same_code code found.NotAnInteger) [
  | true ↦ found.NotAnInteger
  | false ↦ elim (same_code code found.NotUnsigned) [
    | true ↦ found.NotUnsigned
    | false ↦ elim (same_code code found.NotABool) [
      | true ↦ found.NotABool
      | false ↦ found.NullWithoutIndicator
    ]
  ]
]

-- a value that was cut is told
abbrev pub warned : Bool → Memory → Memory
warned true m = warned_area m
warned false m = m

-- behind a field: a code ends the call, and a trap the run. What was stored stays
abbrev pub stored_by : ℕ → Stored → State → Outcome (Unit {0})
stored_by line (Ok cut, m) s = gives tt (with_memory (warned cut m) s)
stored_by line (Err (refused_there code), m) s = raised line (found_by code) (with_memory m s)
stored_by line (Err (trapped_there trap), m) s = over (trapped trap) (with_memory m s)

-- a field is stored in the element of a row
abbrev pub field_kept : ℕ → HostData → ℕ → Field → State → Outcome (Unit {0})
field_kept line h row field s = stored_by line (field_stored s.memory h row field) s

-- ---- rows

-- the field of a row in a column. A row has as many fields as there are columns
abbrev pub in_column : ℕ → List Field → Field
in_column column fields = elim (slice_get fields column) [ None ↦ None | Some field ↦ field ]

-- a target gets its column: the element of a row is its pointer and so many times its distance
abbrev pub column_kept : ℕ → HostData → ℕ → ℕ → List (List Field) → State → Outcome (Unit {0})
column_kept line h column row [] s = gives tt s
column_kept line h column row (fields ∷ rows) s =
    next (field_kept line h row (in_column column fields) s)
    (λ _ t. column_kept line h column (suc row) rows t)

-- target by target, in each row by row
abbrev pub targets_kept : ℕ → ℕ → List (Place ℕ) → List (List Field) → State → Outcome (Unit {0})
targets_kept line column [] rows s = gives tt s
targets_kept line column (p ∷ ps) rows s =
    next (present (host_data p) s) (λ h t.
    next (column_kept line h column 0 rows t) (λ _ u.
    targets_kept line (suc column) ps rows u))

-- whether a target has fewer elements than there are rows
abbrev pub any_fewer : ℕ → List (Place ℕ) → Bool
any_fewer rows [] = false
any_fewer rows (p ∷ ps) = elim (nat_lt p.count rows) [ true ↦ true | false ↦ any_fewer rows ps ]

-- columns and rows are counted before anything is stored
abbrev pub measured : ℕ → ℕ → ℕ → List (Place ℕ) → State → Outcome (Unit {0})
measured line columns rows targets s = elim (nat_lt columns (length targets)) [
  | true ↦ raised line found.TooManyTargets s
  | false ↦ elim (nat_lt (length targets) columns) [
    | true ↦ raised line found.TooFewTargets s
    | false ↦ elim (any_fewer rows targets) [
      | true ↦ raised line found.TooManyRows s
      | false ↦ gives tt s
    ]
  ]
]

-- rows into hosts
abbrev pub rows_into : ℕ → List (Place ℕ) → ℕ → List (List Field) → State → Outcome (Unit {0})
rows_into line targets columns rows s =
    next (measured line columns (length rows) targets s) (λ _ t. targets_kept line 0 targets rows t)

-- no row is a code
abbrev pub counted_rows : ℕ → List (List Field) →
    (State → Outcome (Unit {0})) → State → Outcome (Unit {0})
counted_rows line [] store s = raised line found.NoData s
counted_rows line (fields ∷ rows) store s = store s

-- the number of rows is told first
abbrev pub with_rows : ℕ → List (List Field) →
    (State → Outcome (Unit {0})) → State → Outcome (Unit {0})
with_rows line rows store s =
    counted_rows line rows store (with_memory (counted_area (length rows) s.memory) s)
