-- What is found by the table of cursors is what the definition says.
use Rattle.std.proofs.Common.{◌≡◌, ℕ, List, [], ◌++◌, Option, Some, None, refl, sym, ap, ◌∙◌}
use Rattle.std.specs.Prelude.{slice_get, option_and_then, not, is_some}
use Rattle.ec_base.specs.declared.fault.FaultKind.{FaultKind}
use Rattle.ec_base.specs.declared.fault.FaultKind.TheVariants.{F27}
use Rattle.ec_ctypes.specs.trees.Checked.{TypedData}
use Rattle.ec_ctypes.specs.trees.Embedded.{EmbKindData, EmbData, connect, set_connection, disconnect, autocommit, trans, server_text, declare_cursor, open_cursor, execute_immediate, prepare, execute, deallocate, allocate_area, free_area, get_count, get_items, set_count, set_items, whenever, include_sqlca}
use Rattle.ec_language.specs.Letters.{Text}
use Rattle.ec_typing_defs.specs.statement_parts.Cursors.{declared_cursor, opened_cursor, declared_above, declare_opened}
use Rattle.ec_host_defs.specs.Bound.{program_of, faults_of, bound_answer, statement_bound, answer_by}
use Rattle.ec_host_defs.specs.Faults.{fault_unless, open_faults, opening_faults, declaring_faults, row_at, uses_faults}
use Rattle.ec_host_defs.specs.Programs.{Denoted}
use Rattle.ec_host_defs.specs.Uses.{uses_of}
use Rattle.ec_params.specs.Answers.{opening_by, declaring_by, opened_by, faults_by, answer_with, above_at, above_of, stop_for}
use Rattle.ec_params.specs.Least.{least}
use Rattle.ec_params.specs.Tables.{named_cursor}
use Rattle.ec_params.proofs.Declares.{above_is}
use Rattle.ec_params.proofs.Firsts.{first_is_least}

abbrev declared_in : EmbKindData → Option Text
declared_in k = elim k [ declare_cursor c ps p ↦ Some c | _ ↦ None ]

abbrev opened_in : EmbKindData → Option Text
opened_in k = elim k [ open_cursor c is ↦ Some c | _ ↦ None ]

abbrev named_in : EmbKindData → Option Text
named_in k = elim k [ declare_cursor c ps p ↦ Some c | open_cursor c is ↦ Some c | _ ↦ None ]

abbrev Says : EmbKindData → Option Text → Text → Type 0
Says k o c = o ≡ Some c → named_in k ≡ Some c

opened_named : (k : EmbKindData) (c : Text) → Says k (opened_in k) c
opened_named (connect a b d e) c h = absurd cc
opened_named (set_connection a) c h = absurd cc
opened_named (disconnect a) c h = absurd cc
opened_named (autocommit a) c h = absurd cc
opened_named (trans a) c h = absurd cc
opened_named (server_text a b) c h = absurd cc
opened_named (declare_cursor a b d) c h = absurd cc
opened_named (open_cursor a b) c h = h
opened_named (execute_immediate a) c h = absurd cc
opened_named (prepare a b) c h = absurd cc
opened_named (execute a b d) c h = absurd cc
opened_named (deallocate a) c h = absurd cc
opened_named (allocate_area a) c h = absurd cc
opened_named (free_area a) c h = absurd cc
opened_named (get_count a b) c h = absurd cc
opened_named (get_items a b d) c h = absurd cc
opened_named (set_count a b) c h = absurd cc
opened_named (set_items a b d) c h = absurd cc
opened_named (whenever a b) c h = absurd cc
opened_named include_sqlca c h = absurd cc

declared_named : (k : EmbKindData) (c : Text) → Says k (declared_in k) c
declared_named (connect a b d e) c h = absurd cc
declared_named (set_connection a) c h = absurd cc
declared_named (disconnect a) c h = absurd cc
declared_named (autocommit a) c h = absurd cc
declared_named (trans a) c h = absurd cc
declared_named (server_text a b) c h = absurd cc
declared_named (declare_cursor a b d) c h = h
declared_named (open_cursor a b) c h = absurd cc
declared_named (execute_immediate a) c h = absurd cc
declared_named (prepare a b) c h = absurd cc
declared_named (execute a b d) c h = absurd cc
declared_named (deallocate a) c h = absurd cc
declared_named (allocate_area a) c h = absurd cc
declared_named (free_area a) c h = absurd cc
declared_named (get_count a b) c h = absurd cc
declared_named (get_items a b d) c h = absurd cc
declared_named (set_count a b) c h = absurd cc
declared_named (set_items a b d) c h = absurd cc
declared_named (whenever a b) c h = absurd cc
declared_named include_sqlca c h = absurd cc

module _ (es : List EmbData) (n : ℕ) (e : EmbData) (there : slice_get es n ≡ Some e) where
  found_above : (c : Text) → named_cursor e ≡ Some c → above_at es n ≡ declared_above es n c
  found_above c h = ap above_of (above_is es n e c there h)

  opening_is : (rows : List Denoted) → opening_by rows e (above_at es n) (row_at rows n) ≡ opening_faults es rows n e
  opening_is rows = by (opened_cursor e) refl
    where
      by : (o : Option Text) → opened_cursor e ≡ o → ◌≡◌ {A = List FaultKind} (elim o [ None ↦ [] | Some c ↦ open_faults rows (above_at es n) e (row_at rows n) ]) (elim o [ None ↦ [] | Some c ↦ open_faults rows (declared_above es n c) e (row_at rows n) ])
      by None h = refl
      by (Some c) h = ap (λ (k : Option ℕ). open_faults rows k e (row_at rows n)) (found_above c (opened_named e.kind c h))

  declaring_is : declaring_by e (above_at es n) ≡ declaring_faults es n e
  declaring_is = by (declared_cursor e) refl
    where
      by : (o : Option Text) → declared_cursor e ≡ o → ◌≡◌ {A = List FaultKind} (elim o [ None ↦ [] | Some c ↦ fault_unless (not (is_some (above_at es n))) F27 ]) (elim o [ None ↦ [] | Some c ↦ fault_unless (not (is_some (declared_above es n c))) F27 ])
      by None h = refl
      by (Some c) h = ap (λ (k : Option ℕ). fault_unless (not (is_some k)) F27) (found_above c (declared_named e.kind c h))

  declare_is : opened_by es e (above_at es n) ≡ declare_opened es n e
  declare_is = by (opened_cursor e) refl
    where
      by : (o : Option Text) → opened_cursor e ≡ o → ◌≡◌ {A = Option EmbData} (elim o [ None ↦ None | Some c ↦ option_and_then (λ k. slice_get es k) (above_at es n) ]) (option_and_then (λ cursor. option_and_then (λ k. slice_get es k) (declared_above es n cursor)) o)
      by None h = refl
      by (Some c) h = ap (option_and_then (λ k. slice_get es k)) (found_above c (opened_named e.kind c h))

-- the whole answer
pub answer_is : (t : TypedData) (n : ℕ) (e : EmbData) → slice_get t.unit.embs n ≡ Some e → answer_with (program_of t) t.denoted t.unit.embs e (above_at t.unit.embs n) (row_at t.denoted n) ≡ bound_answer t n e
answer_is t n e there =
    let faults : faults_by (program_of t) t.denoted e (above_at t.unit.embs n) (row_at t.denoted n) ≡ faults_of t n e =
    λ i. uses_faults (program_of t) (uses_of e) (row_at t.denoted n) ++ (opening_is t.unit.embs n e there t.denoted i ++ declaring_is t.unit.embs n e there i) in
    λ i. answer_by (statement_bound (program_of t) e (declare_is t.unit.embs n e there i) (row_at t.denoted n)) ((ap (λ (ks : List FaultKind). stop_for e (least ks)) faults ∙ sym (first_is_least n e (faults_of t n e))) i)
