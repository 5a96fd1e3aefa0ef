-- The embedded statements of an accepted source are copied.
use Rattle.std.proofs.Common.{◌≡◌, ℕ, true, false, List, [], length, Some, slice_get, sym, subst}
use Rattle.ec_ctypes.specs.trees.Checked.{BoundData, TypedData}
use Rattle.ec_ctypes.specs.trees.Embedded.{EmbData}
use Rattle.ec_written_laws.specs.bound.Numbers.{tops_numbers}
use Rattle.ec_typing_defs.specs.statement_parts.Handlers.{is_directive}
use Rattle.ec_typing_defs.specs.Answers.{checked, typed_of}
use Rattle.ec_expansion_defs.specs.Programs.{embedded}
use Rattle.ec_resolving_defs.specs.Programs.{embedded_statements_of, library_calls_of}
use Rattle.ec_resolving_defs.specs.Storage.{LibraryCall, StatementForm}
use Rattle.ec_sim_program_laws.specs.program.Embedded.{DirectiveIsGone, EmbeddedAreCopied}
use Rattle.ec_sim_program_laws.specs.program.Programs.{written_of, whole_by}
use Rattle.ec_sim_source_laws.specs.block.Accepted.{IsAccepted, StatementLaws, StatementsAreCopied}
use Rattle.ec_sim_source_laws.proofs.block_lemmas.Copied.{executed_copied}
use Rattle.ec_sim_source_laws.proofs.block_lemmas.Standing.{LawsBelow}

-- by whichever forms and calls there are in the end
abbrev copied_by : TypedData → List BoundData → List StatementForm → List LibraryCall → Type 0
copied_by t bounds forms calls =
    EmbeddedAreCopied (whole_by t forms calls (tops_numbers t.unit.tops []) (checked false t.unit).world) t.unit.embs (embedded t.handlers t.unit.embs bounds)

-- that of directives nothing is left
abbrev pub DirectivesAreGone : Type 0
DirectivesAreGone = (t : TypedData) (bounds : List BoundData) → IsAccepted t bounds → (forms : List StatementForm) (calls : List LibraryCall) (n : ℕ) (e : EmbData)
    → slice_get t.unit.embs n ≡ Some e → is_directive e ≡ true
    → DirectiveIsGone (whole_by t forms calls (tops_numbers t.unit.tops []) (checked false t.unit).world) t.unit.embs (embedded t.handlers t.unit.embs bounds) n e

module _ (below : LawsBelow) (gone : StatementLaws → DirectivesAreGone) (laws : StatementLaws) where
  copied_of : (t : TypedData) (bounds : List BoundData) → IsAccepted t bounds → (forms : List StatementForm) (calls : List LibraryCall) → copied_by t bounds forms calls
  copied_of t bounds a forms calls = subst (λ x. IsAccepted x bounds → copied_by x bounds forms calls) (sym a.is) (λ h. record {
    executed = λ n e is_emb executed. executed_copied laws below t.unit t.hosts t.handlers (checked false t.unit).world bounds forms calls (tops_numbers t.unit.tops []) (length t.unit.embs)
        h.numbers h.handlers h.bound h.read h.indexes h.cursors h.in_order h.sound n e is_emb executed;
    directives = λ n e is_emb directive. gone laws (typed_of t.unit t.hosts t.handlers (checked false t.unit).world) bounds h forms calls n e is_emb directive;
  }) a

pub statements_copied : LawsBelow → (StatementLaws → DirectivesAreGone) → StatementsAreCopied
statements_copied below gone laws t bounds a =
    copied_of below gone laws t bounds a (embedded_statements_of false t.unit) (library_calls_of true (written_of (embedded t.handlers t.unit.embs bounds) t.unit))
