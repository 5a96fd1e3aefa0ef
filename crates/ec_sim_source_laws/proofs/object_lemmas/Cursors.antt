-- No name in the references of a cursor of an accepted source stands for a function.
use Rattle.std.proofs.Common.{◌≡◌, ◌∙◌, ℕ, true, false, List, [], Option, Some, None, refl, sym, ap, subst, slice_get}
use Rattle.std.specs.Prelude.{Ok}
use Rattle.ec_ctypes.specs.trees.Checked.{TypedData, BoundData}
use Rattle.ec_ctypes.specs.trees.Embedded.{EmbData}
use Rattle.ec_sim_host_laws.specs.cursor.Cursors.{are_no_functions}
use Rattle.ec_host_defs.specs.Bound.{program_of}
use Rattle.ec_host_defs.specs.Faults.{uses_faults, row_at}
use Rattle.ec_host_defs.specs.Programs.{Denoted}
use Rattle.ec_host_defs.specs.Uses.{uses_of}
use Rattle.ec_language.specs.Letters.{Text}
use Rattle.ec_phases_defs.specs.Sources.{bound_from}
use Rattle.ec_host_defs.specs.sections.Declared.{declared_in_tops, functions_of}
use Rattle.ec_sim_program_laws.specs.shape.Shapes.{AllAreRead}
use Rattle.ec_typing_defs.specs.statement_parts.Cursors.{declared_cursor}
use Rattle.ec_typing_defs.specs.statement_parts.References.{of_part, of_all}
use Rattle.ec_typing_defs.specs.Answers.{checked, typed_of}
use Rattle.ec_sim_source_laws.specs.object.Objects.{CursorsAreOfObjects}
use Rattle.ec_sim_source_laws.proofs.object_lemmas.Declares.{HasParts, has_parts}
use Rattle.ec_sim_source_laws.proofs.object_lemmas.Hosts.{none_at_fault, parts_fine, row_without_functions}
use Rattle.ec_sim_source_laws.proofs.object_lemmas.Walking.{Known, RowIsFine}
use Rattle.ec_sim_source_laws.proofs.object_lemmas.WalkingPrograms.{unit_known}

one_cursor : (t : TypedData) (bounds : List BoundData) → t ≡ typed_of t.unit t.hosts t.handlers (checked false t.unit).world → bound_from t 0 t.unit.embs ≡ Ok bounds
    → Known t.unit.embs (declared_in_tops t.unit.tops) [] (checked false t.unit).world → AllAreRead t.unit.embs → (n : ℕ) (e : EmbData) → slice_get t.unit.embs n ≡ Some e → (cursor : Text)
    → declared_cursor e ≡ Some cursor → are_no_functions (functions_of t.unit) (row_at t.denoted n) ≡ true
one_cursor t bounds is bound known read n e is_emb cursor d = by_row (slice_get t.denoted n) refl (none_at_fault t bounds bound n e is_emb)
  where
    p : HasParts e
    p = has_parts e cursor (read n e is_emb).alone d

    by_row : (o : Option Denoted) → slice_get t.denoted n ≡ o → uses_faults (program_of t) (uses_of e) (elim o [ None ↦ [] | Some ds ↦ ds ]) ≡ []
        → are_no_functions (functions_of t.unit) (elim o [ None ↦ [] | Some ds ↦ ds ]) ≡ true
    by_row None row f = refl
    by_row (Some ds) row f = row_without_functions (functions_of t.unit) (of_all of_part p.parts) ds
        (subst (λ rs. RowIsFine (functions_of t.unit) rs ds) p.references_are (known.rows n ds e (sym (ap (λ x. slice_get x.denoted n) is) ∙ row) is_emb cursor d))
        (parts_fine (program_of t) p.parts ds (ap (λ us. uses_faults (program_of t) us ds) (sym p.uses_are) ∙ f))

pub cursors_of_objects : CursorsAreOfObjects
cursors_of_objects t bounds is none bound numbers read n e is_emb cursor d =
    one_cursor t bounds is bound (unit_known false t.unit numbers (λ k f is_f. (read k f is_f).are_references) none) read n e is_emb cursor d
