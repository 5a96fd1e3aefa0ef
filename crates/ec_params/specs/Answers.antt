-- What a statement is bound to, by the DECLARE above it.
use Rattle.std.specs.Prelude.{◌≡◌, ◌⊎◌, ℕ, Bool, true, false, not, ◌==◌, List, [], ◌∷◌, ◌++◌, map, slice_get, Option, Some, None, option_map, option_and_then, is_some, Result, Ok, Err}
use Rattle.ec_base.specs.declared.fault.FaultKind.{FaultKind}
use Rattle.ec_base.specs.declared.fault.FaultKind.TheVariants.{F26, F27, F28}
use Rattle.ec_base.specs.declared.stop.Stop.{Stop}
use Rattle.ec_base.specs.declared.stop.Stop.TheVariants.{Refused, OutOfMemory}
use Rattle.ec_ctypes.specs.declared.checked.typed.Typed.{Typed}
use Rattle.ec_ctypes.specs.declared.types.ty.StructDef.{StructDef}
use Rattle.ec_ctypes.specs.trees.Checked.{BoundData}
use Rattle.ec_ctypes.specs.trees.Embedded.{EmbData}
use Rattle.ec_ctypes.specs.views.Embedded.{emb_view}
use Rattle.ec_ctypes.specs.views.Units.{unit_view}
use Rattle.ec_host_defs.specs.sections.Declared.{functions_of}
use Rattle.ec_typing_defs.specs.statement_parts.Cursors.{declared_cursor, opened_cursor}
use Rattle.ec_host_defs.specs.Bound.{statement_bound, answer_by}
use Rattle.ec_host_defs.specs.Faults.{fault_unless, same_denoted, row_at, open_faults, uses_faults}
use Rattle.ec_host_defs.specs.Programs.{ProgramData, Denoted}
use Rattle.ec_host_defs.specs.Uses.{uses_of}
use Rattle.ec_params.specs.Least.{least}
use Rattle.ec_params.specs.Tables.{aboves}

-- the answer, by what is seen of its value, or no memory was left
abbrev pub Told : {A B : Type 0} → (A → B) → Result A Stop → Result B Stop → Type 0
Told view (Ok a) wanted = wanted ≡ Ok (view a)
Told view (Err stop) wanted = (stop ≡ OutOfMemory) ⊎ (wanted ≡ Err stop)

abbrev pub is_same : Option ℕ → Option ℕ → Bool
is_same None None = true
is_same None (Some k) = false
is_same (Some j) None = false
is_same (Some j) (Some k) = j == k

-- ---- by the number of the first DECLARE above, if there is one

-- the faults of an OPEN, by what the variables of its cursor denote there
abbrev pub opened_faults : List Denoted → Option ℕ → Denoted → List FaultKind
opened_faults rows None part = F26 ∷ []
opened_faults rows (Some k) part = fault_unless (same_denoted (row_at rows k) part) F28

abbrev pub opening_by : List Denoted → EmbData → Option ℕ → Denoted → List FaultKind
opening_by rows e above ds =
    elim (opened_cursor e) [ None ↦ [] | Some c ↦ open_faults rows above e ds ]

abbrev pub declaring_by : EmbData → Option ℕ → List FaultKind
declaring_by e above =
    elim (declared_cursor e) [ None ↦ [] | Some c ↦ fault_unless (not (is_some above)) F27 ]

-- the DECLARE of the cursor that a statement opens
abbrev pub opened_by : List EmbData → EmbData → Option ℕ → Option EmbData
opened_by es e above =
    elim (opened_cursor e) [ None ↦ None | Some c ↦ option_and_then (λ k. slice_get es k) above ]

abbrev pub faults_by : ProgramData → List Denoted → EmbData → Option ℕ → Denoted → List FaultKind
faults_by p rows e above ds =
    uses_faults p (uses_of e) ds ++ (opening_by rows e above ds ++ declaring_by e above)

abbrev pub stop_for : EmbData → Option FaultKind → Option Stop
stop_for e fault = option_map (λ k. Refused k e.line) fault

abbrev pub answer_with : ProgramData → List Denoted → List EmbData →
    EmbData → Option ℕ → Denoted → Result BoundData Stop
answer_with p rows es e above ds = answer_by (statement_bound p e (opened_by es e above) ds)
    (stop_for e (least (faults_by p rows e above ds)))

abbrev pub above_of : Option (Option ℕ) → Option ℕ
above_of None = None
above_of (Some above) = above

abbrev pub above_at : List EmbData → ℕ → Option ℕ
above_at es n = above_of (slice_get (aboves 0 [] es) n)

-- ---- what is made once

abbrev pub IsMade : Typed → List StructDef → List ℕ → List ℕ → List (Option ℕ) → Type 0
IsMade t structs hosts functions above = (structs ≡ t.structs) × (hosts ≡ t.hosts.hosts)
    × (functions ≡ functions_of (unit_view t.unit))
    × (above ≡ aboves 0 [] (map emb_view t.unit.embs))
