-- The indexes in the references of statements have types.
use Rattle.std.specs.Prelude.{◌≡◌, ℕ, Bool, true, false, not, ◌&&◌, List, [], ◌∷◌, take, drop, Option, Some, None, slice_get}
use Rattle.std.specs.List.{list_all}
use Rattle.ec_ctypes.specs.trees.Checked.{TypedData}
use Rattle.ec_ctypes.specs.trees.Embedded.{EmbData}
use Rattle.ec_ctypes.specs.trees.Types.{TyData}
use Rattle.ec_host_defs.specs.Faults.{row_at}
use Rattle.ec_host_defs.specs.Programs.{Denoted, names_count}
use Rattle.ec_typing_defs.specs.statement_parts.References.{References, references}
use Rattle.ec_typing_defs.specs.Types.{is_void}

-- the declaration has a type: the table has void where there is none
abbrev pub is_typed_name : List (ℕ × TyData) → Option ℕ → Bool
is_typed_name names None = true
is_typed_name names (Some k) =
    elim (slice_get names k) [ None ↦ false | Some m ↦ not (is_void m.1) ]

-- the names in a reference behind that of its variable are those of its indexes
abbrev pub indexes_are_typed : List (ℕ × TyData) → References → Denoted → Bool
indexes_are_typed names [] ds = true
indexes_are_typed names (r ∷ rs) ds =
    list_all (is_typed_name names) (drop 1 (take (names_count r.value) ds))
    && indexes_are_typed names rs (drop (names_count r.value) ds)

-- in every statement of a program with its types
abbrev pub IndexesAreTyped : TypedData → Type 0
IndexesAreTyped t = (n : ℕ) (e : EmbData) → slice_get t.unit.embs n ≡ Some e
    → indexes_are_typed t.names (references e) (row_at t.denoted n) ≡ true
