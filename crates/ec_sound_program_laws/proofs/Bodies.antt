-- The body of a function is sound where nothing is wrong with it.
use Rattle.std.proofs.Common.{◌≡◌, ℕ, ◌+◌, Bool, false, List, [], Option, refl, sym, ap, subst, arith}
use Rattle.ec_ctypes.specs.trees.Embedded.{EmbData}
use Rattle.ec_ctypes.specs.trees.Stmts.{StmtList}
use Rattle.ec_ctypes.specs.trees.Types.{TyData}
use Rattle.ec_typing_defs.specs.Statements as checked
use Rattle.ec_typing_defs.specs.Worlds.{World}
use Rattle.ec_meaning_defs.specs.observed.Run.{IsFront}
use Rattle.ec_meaning_defs.specs.resolved.Resolved.{Stms}
use Rattle.ec_resolving_defs.specs.Agreement.{around_of}
use Rattle.ec_resolving_defs.specs.Statements.{objects_in_all, statements}
use Rattle.ec_resolving_defs.specs.Storage.{Storage, LibraryCall, inside_block, chain, pure, stored, arrange}
use Rattle.ec_sim_program_laws.proofs.types_lemmas.Fits.{FitStmts}
use Rattle.ec_sim_program_laws.proofs.types_lemmas.Rules.{Shallow}
use Rattle.ec_sim_world_laws.specs.closing.Closing.{IsTyped}
use Rattle.ec_sound_defs.specs.Sound.{Signature, SoundAll}
use Rattle.ec_sound_defs.specs.Written.{library_atoms}
use Rattle.ec_sound_form_laws.specs.Names.{gives_of}
use Rattle.ec_sound_statement_laws.specs.Sites.{in_scope}
use Rattle.ec_sound_statement_laws.proofs.Labels.{labels_stand}
use Rattle.ec_sound_statement_laws.proofs.Making.{in_block_full}
use Rattle.ec_sound_program_laws.specs.Bodies.{body_around, IsSoundBody, body_rule}
use Rattle.ec_sound_program_laws.specs.Plain.{StmtsArePlain}
use Rattle.ec_sound_program_laws.specs.Standing.{IsKnown, IsInside, here_in}
use Rattle.ec_sound_program_laws.proofs.Declarations.{declaration_run}
use Rattle.ec_sound_program_laws.proofs.Runs.{known_in_block}
use Rattle.ec_sound_program_laws.proofs.Statements.{statements_run}

module _ (gs : List Signature) (calls : List LibraryCall) (written : Bool) where
  none_made : (k : ℕ) → 0 + (k + 0) ≡ k
  none_made k = omega (arith)

  pub body_is_sound : (es : List EmbData) (r : Option TyData) (ss : StmtList) (n : ℕ) (s : Storage) (w : World) → IsTyped r → FitStmts ss → StmtsArePlain ss → IsKnown gs written s w → in_scope s ≡ n
      → (checked.statements (body_around es r ss) ss w).found ≡ [] → Shallow (body_rule es r ss s w).world → IsFront (body_rule es r ss s w).storage.calls calls → IsSoundBody gs calls r n (objects_in_all ss) (body_rule es r ss s w).answer
  unfolding chain stored arrange pure
  body_is_sound es r ss n s w typed h p known scope found shallow front =
      let k = objects_in_all ss in
      let a = body_around es r ss in
      let body : Stms = (statements (around_of a) ss (inside_block k s) w).answer in
      let inside : IsInside body (gives_of r) a = record { typed = typed; gives_it = refl; labels = λ l e. labels_stand (around_of a) ss l e (inside_block k s) w } in
      let run = statements_run gs calls written body (gives_of r) (declaration_run gs calls written body (gives_of r)) a inside (n + k) 0 ss h p in
      let x = (run.steps (inside_block k s) w).fits (known_in_block gs calls written k s w known) (ap (λ j. j + k) scope) (none_made k) tt found shallow front in
      let full = in_block_full k (statements (around_of a) ss) run.sites.makes s w in
      record { objects = full; sound = subst (λ j. SoundAll gs (library_atoms gs calls) (here_in body (gives_of r) (n + j) false) body) (sym full) x.1 }
