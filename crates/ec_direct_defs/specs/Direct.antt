-- The direct meaning of a program: what each embedded statement does where it stands, by its places and their types.
use Rattle.std.specs.Prelude.{ℕ, ◌==◌, false, List, [], ◌∷◌, slice_get, Option, Some, None, option_and_then, if◌then◌else◌}
use Rattle.ec_ctypes.specs.trees.Checked.{TypedData}
use Rattle.ec_ctypes.specs.trees.Embedded.{EmbData}
use Rattle.ec_host_defs.specs.Bound.{program_of, cursor_parts}
use Rattle.ec_host_defs.specs.Faults.{row_at, cursor_part}
use Rattle.ec_expansion_defs.specs.Calls.{prepared_opened}
use Rattle.ec_typing_defs.specs.statement_parts.Cursors.{opened_cursor, declared_above, declare_opened}
use Rattle.ec_meaning_defs.specs.resolved.Resolved.{Exp, embedded, library}
use Rattle.ec_resolving_defs.specs.Storage.{StatementForm, ReferenceForm}
use Rattle.ec_resolving_defs.specs.Programs.{resolve, embedded_statements_of}
use Rattle.ec_meaning_defs.specs.evaluation.State.{Answer, State, stuck}
use Rattle.ec_meaning_defs.specs.evaluation.Results.{Res, on_done, over, turn}
use Rattle.ec_meaning_defs.specs.evaluation.Evaluate.{World, Context, Step}
use Rattle.ec_meaning_defs.specs.evaluation.Whole.{Observed, program_meaning, without_atoms}
use Rattle.ec_call_defs.specs.Steps.{settled}
use Rattle.ec_direct_defs.specs.Statements.{Statement, Cursor, statement_of}
use Rattle.ec_direct_defs.specs.Places.{placed}
use Rattle.ec_direct_defs.specs.Executing.{statement_done}
use Rattle.ec_direct_defs.specs.Handling.{handled}

-- the resolved form of the statement of this number
abbrev pub form_of : ℕ → List StatementForm → Option StatementForm
form_of n [] = None
form_of n (f ∷ fs) = if f.number == n then Some f else form_of n fs

abbrev pub references_in : Option StatementForm → List ReferenceForm
references_in None = []
references_in (Some f) = f.references

module _ (t : TypedData) (forms : List StatementForm) where
  -- the number of the DECLARE of the cursor that a statement opens
  abbrev pub declare_number : ℕ → EmbData → Option ℕ
  declare_number n e =
      option_and_then (λ name. declared_above t.unit.embs n name) (opened_cursor e)

  -- the cursor that the statement of this number opens: its names are those of the statement's own
  -- row, behind its own
  abbrev pub cursor_at : ℕ → EmbData → Cursor
  cursor_at n e = record {
    parts = cursor_parts (declare_opened t.unit.embs n e);
    prepared = prepared_opened t.unit.embs n e;
    around = record {
      denoted = cursor_part e (row_at t.denoted n);
      references = references_in (option_and_then (λ k. form_of k forms) (declare_number n e));
    };
  }

  abbrev pub statement_at : ℕ → EmbData → StatementForm → Option (Statement Exp)
  statement_at n e f =
      statement_of (program_of t) e (cursor_at n e)
      (record { denoted = row_at t.denoted n; references = f.references })

  -- its places, its turn, what it does, and then its handlers
  abbrev pub executed_at : World → Context → ℕ → StatementForm → Option (Statement Exp) → State
      → Res
  executed_at w c line f None s = over stuck s
  executed_at w c line f (Some x) s =
      placed without_atoms w c x s (λ y s. turn s (λ s.
      on_done (settled c.line (statement_done t.structs line y s)) (λ s.
      handled without_atoms w c f.actions s)))

  abbrev pub stepped : World → Context → ℕ → Option EmbData → Option StatementForm → State → Res
  stepped w c n (Some e) (Some f) s = executed_at w c e.line.0 f (statement_at n e f) s
  stepped w c n _ _ s = over stuck s

  -- the step of a source, which has no call of the library
  abbrev pub direct_step : Step
  direct_step w c (embedded n) s = stepped w c n (slice_get t.unit.embs n) (form_of n forms) s
  direct_step w c (library n vs) s = over stuck s

-- what a source means, for so many turns, a connection that is ready or none, and the answers that come
abbrev pub direct_meaning : TypedData → ℕ → Option (ℕ × List ℕ) → List Answer → Observed
direct_meaning t turns ready answers =
    let step = direct_step t (embedded_statements_of false t.unit) in
    program_meaning step (resolve false t.unit) turns ready answers
