-- That what statements and declarations take of expressions is of the sort that is wanted, where nothing is wrong.
use Rattle.std.specs.Prelude.{◌≡◌, ◌<◌, ◌+◌, ℕ, Bool, false, List, [], Option, Some}
use Rattle.ec_ctypes.specs.trees.Exprs.{ExprData, InitOption}
use Rattle.ec_ctypes.specs.trees.Types.{TyData}
use Rattle.ec_typing_defs.specs.Statements as checked
use Rattle.ec_typing_defs.specs.Worlds.{Place, World, Rule}
use Rattle.ec_ctypes.specs.trees.Stmts.{StmtList}
use Rattle.ec_meaning_defs.specs.observed.Run.{IsFront}
use Rattle.ec_meaning_defs.specs.resolved.Resolved.{Stms}
use Rattle.ec_resolving_defs.specs.Agreement.{around_of}
use Rattle.ec_resolving_defs.specs.Statements.{condition, alone, return_by, initial, objects_in_all, statements}
use Rattle.ec_resolving_defs.specs.Storage.{Storage, LibraryCall, Resolving}
use Rattle.ec_sim_program_laws.proofs.types_lemmas.Fits.{Fits, FitsOption, FitsInit, FitStmts}
use Rattle.ec_sim_program_laws.proofs.types_lemmas.Rules.{Shallow}
use Rattle.ec_sim_world_laws.specs.closing.Closing.{IsTyped}
use Rattle.ec_sound_defs.specs.Sorts.{Sort, any_sort}
use Rattle.ec_sound_defs.specs.Sound.{Signature, Around, Has, Sound, SoundAll}
use Rattle.ec_sound_defs.specs.Written.{library_atoms}
use Rattle.ec_sound_form_laws.specs.Names.{gives_of}
use Rattle.ec_sound_expression_laws.specs.Laws.{FitsFrom, IsFit}
use Rattle.ec_sound_expression_laws.specs.Plain.{IsPlain}
use Rattle.ec_sound_statement_laws.specs.Values.{AreStored}
use Rattle.ec_sound_program_laws.specs.Plain.{OptionIsPlain, InitIsPlain, StmtsArePlain}
use Rattle.ec_sound_program_laws.specs.Standing.{IsKnown, IsInside, here_in}
use Rattle.ec_sound_statement_laws.specs.Sites.{in_scope, Room}

module _ (gs : List Signature) (calls : List LibraryCall) (written : Bool) where
  abbrev pub ConditionsFit : Type 0
  ConditionsFit = (n : ℕ) (at : Place) (e : ExprData) (s : Storage) (w : World) → Fits e → IsPlain e
      → FitsFrom gs calls n written (condition at e) (checked.condition at e) s w
      → IsFit gs calls n written (Has gs (library_atoms gs calls) n any_sort) (condition at e) s w

  abbrev pub UnusedFit : Type 0
  UnusedFit = (n : ℕ) (at : Place) (e : ExprData) (s : Storage) (w : World) → Fits e → IsPlain e
      → FitsFrom gs calls n written (alone at e) (checked.optional at (Some e)) s w
      → IsFit gs calls n written (Has gs (library_atoms gs calls) n any_sort) (alone at e) s w

  -- by what stands round it
  abbrev pub ReturnsFit : Type 0
  ReturnsFit = (a : Around) (at : Place) (r : Option TyData) (e : Option ExprData) (s : Storage)
      (w : World) → IsTyped r → a.gives ≡ gives_of r → FitsOption e → OptionIsPlain e
      → FitsFrom gs calls a.count written (return_by at r e) (checked.return_by at r e) s w
      → IsFit gs calls a.count written (Sound gs (library_atoms gs calls) a) (return_by at r e) s w

  -- the parts that are stored in the object of a function, which is in scope
  abbrev pub InitialsFit : Type 0
  InitialsFit = (n i : ℕ) (at : Place) (t : Option TyData) (x : InitOption) (s : Storage) (w : World)
      → i < n → FitsInit x → InitIsPlain x
      → FitsFrom gs calls n written (initial at false t x) (checked.initial at false t x) s w
      → IsFit gs calls n written (λ p. AreStored gs (library_atoms gs calls) n i p.1)
      (initial at false t x) s w

  -- Names stand for what is there, so many objects are in scope and so many are still to be made, the checks find nothing wrong, no struct begins with too many types, and the calls of the library behind it are the first of all
  pub record IsClean {A B : Type 0} (n room : ℕ) (m : Resolving B) (rule : Rule A) (s : Storage)
      (w : World) : Type 0 where
    pub known : IsKnown gs written s w
    pub scope : in_scope s ≡ n
    pub room_for : Room room s
    pub nothing_wrong : (rule w).found ≡ []
    pub shallow : Shallow (m s w).world
    pub calls_so_far : IsFront (m s w).storage.calls calls

  abbrev pub StatementsAreSound : Type 0
  StatementsAreSound = (body : Stms) (gives : Sort) (a : checked.Around) (n j : ℕ) (ss : StmtList)
      (s : Storage) (w : World) → IsInside body gives a → FitStmts ss → StmtsArePlain ss
      → IsClean n (objects_in_all ss + j) (statements (around_of a) ss) (checked.statements a ss) s w
      → SoundAll gs (library_atoms gs calls) (here_in body gives n a.in_loop)
      (statements (around_of a) ss s w).answer
