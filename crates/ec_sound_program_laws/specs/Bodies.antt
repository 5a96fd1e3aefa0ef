-- The body of a function, with its objects.
use Rattle.std.specs.Prelude.{◌≡◌, ◌+◌, ℕ, Bool, false, List, [], length, Option}
use Rattle.ec_ctypes.specs.trees.Embedded.{EmbData}
use Rattle.ec_ctypes.specs.trees.Stmts.{StmtList}
use Rattle.ec_ctypes.specs.trees.Types.{TyData}
use Rattle.ec_typing_defs.specs.Statements as checked
use Rattle.ec_typing_defs.specs.Statements.{labels_in_all}
use Rattle.ec_typing_defs.specs.Worlds.{World}
use Rattle.ec_meaning_defs.specs.observed.Run.{IsFront}
use Rattle.ec_meaning_defs.specs.resolved.Resolved.{Stms}
use Rattle.ec_resolving_defs.specs.Agreement.{around_of}
use Rattle.ec_resolving_defs.specs.Statements.{objects_in_all, statements}
use Rattle.ec_resolving_defs.specs.Storage.{Storage, LibraryCall, Resolving, in_block}
use Rattle.ec_sim_program_laws.proofs.types_lemmas.Fits.{FitStmts}
use Rattle.ec_sim_program_laws.proofs.types_lemmas.Rules.{Shallow}
use Rattle.ec_sim_world_laws.specs.closing.Closing.{IsTyped}
use Rattle.ec_sound_defs.specs.Sound.{Signature, SoundAll}
use Rattle.ec_sound_defs.specs.Written.{library_atoms}
use Rattle.ec_sound_form_laws.specs.Names.{gives_of}
use Rattle.ec_sound_statement_laws.specs.Sites.{in_scope}
use Rattle.ec_sound_program_laws.specs.Plain.{StmtsArePlain}
use Rattle.ec_sound_program_laws.specs.Standing.{IsKnown, here_in}

-- what stands round the statements of a body, with this result
abbrev pub body_around : List EmbData → Option TyData → StmtList → checked.Around
body_around es r ss = record {
  embs = es;
  is_body = false;
  in_loop = false;
  labels = labels_in_all ss [];
  result = r;
}

abbrev pub body_rule : List EmbData → Option TyData → StmtList → Resolving (List ℕ × Stms)
body_rule es r ss = in_block (objects_in_all ss) (statements (around_of (body_around es r ss)) ss)

-- so many parameters stand before its objects
pub record IsSoundBody (gs : List Signature) (calls : List LibraryCall) (r : Option TyData) (n k : ℕ)
    (b : List ℕ × Stms) : Type 0 where
  pub objects : length b.0 ≡ k
  pub sound : SoundAll gs (library_atoms gs calls)
      (here_in b.1 (gives_of r) (n + length b.0) false) b.1

abbrev pub BodiesAreSound : List Signature → List LibraryCall → Bool → Type 0
BodiesAreSound gs calls written = (es : List EmbData) (r : Option TyData) (ss : StmtList) (n : ℕ)
    (s : Storage) (w : World) → IsTyped r → FitStmts ss → StmtsArePlain ss → IsKnown gs written s w
    → in_scope s ≡ n → (checked.statements (body_around es r ss) ss w).found ≡ []
    → Shallow (body_rule es r ss s w).world → IsFront (body_rule es r ss s w).storage.calls calls
    → IsSoundBody gs calls r n (objects_in_all ss) (body_rule es r ss s w).answer
