-- That expressions fit where nothing is wrong with them.
use Rattle.std.specs.Prelude.{◌≡◌, ℕ, Bool, List, []}
use Rattle.ec_ctypes.specs.trees.Exprs.{ExprData, ExprList}
use Rattle.ec_typing_defs.specs.Expressions as checked
use Rattle.ec_typing_defs.specs.Known.{ArgumentsData}
use Rattle.ec_typing_defs.specs.Worlds.{Place, World, Rule}
use Rattle.ec_meaning_defs.specs.observed.Run.{IsFront}
use Rattle.ec_resolving_defs.specs.Expressions.{expr, args}
use Rattle.ec_resolving_defs.specs.Storage.{Storage, LibraryCall, Resolving}
use Rattle.ec_sim_program_laws.proofs.types_lemmas.Rules.{Shallow}
use Rattle.ec_sim_program_laws.proofs.types_lemmas.Fits.{Fits, FitAll}
use Rattle.ec_sound_defs.specs.Sound.{Signature}
use Rattle.ec_sound_expression_laws.specs.Arguments.{ArgumentsServe}
use Rattle.ec_sound_expression_laws.specs.Plain.{IsPlain, ArePlain}
use Rattle.ec_sound_expression_laws.specs.Standing.{IsStanding, Serves}

-- by the signatures of functions, the calls of the library in the whole program, and how many objects are in scope
module _ (gs : List Signature) (calls : List LibraryCall) (n : ℕ) (written : Bool) where
  -- Names stand for what is there, the checks find nothing wrong, no struct begins with too many types, and the calls of the library behind it are the first of all
  pub record FitsFrom {A B : Type 0} (m : Resolving B) (rule : Rule A) (s : Storage) (w : World) : Type 0 where
    pub standing : IsStanding gs n written s w
    pub nothing_wrong : (rule w).found ≡ []
    pub shallow : Shallow (m s w).world
    pub calls_so_far : IsFront (m s w).storage.calls calls

  -- what is found out fits, and names stand for what is there behind it
  pub record IsFit {B : Type 0} (P : B → Type 0) (m : Resolving B) (s : Storage) (w : World) : Type 0 where
    pub standing : IsStanding gs n written (m s w).storage (m s w).world
    pub fits : P (m s w).answer

  abbrev pub ExpressionsFit : Type 0
  ExpressionsFit = (at : Place) (e : ExprData) (s : Storage) (w : World) → Fits e → IsPlain e
      → FitsFrom (expr at e) (checked.expr at e) s w
      → IsFit (Serves gs calls n) (expr at e) s w

  abbrev pub ArgumentsFit : Type 0
  ArgumentsFit = (at : Place) (forms : ArgumentsData) (es : ExprList) (s : Storage) (w : World)
      → FitAll es → ArePlain es
      → FitsFrom (args at forms es) (checked.args at forms es) s w
      → IsFit (ArgumentsServe gs calls n forms es) (args at forms es) s w
