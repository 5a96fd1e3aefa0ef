-- A list of initializers, one after the other.
use Rattle.std.proofs.Common.{◌≡◌, ℕ, ◌+◌, ◌<◌, Bool, List, length, drop, get_or, Option, ap}
use Rattle.ec_ctypes.specs.declared.tree.decl.Init.{Init}
use Rattle.ec_ctypes.specs.views.Exprs.{init_view, inits_view}
use Rattle.ec_language.specs.First.{Violation}
use Rattle.ec_typing_defs.specs.Worlds.{Place, Out}
use Rattle.ec_typing_defs.specs.Initializers.{Frames, fill, fill_part}
use Rattle.ec_scopes.specs.declared.state.Checker.{Checker}
use Rattle.ec_scopes.specs.Seen.{world_of, notes_of, IsDone}
use Rattle.ec_scopes.proofs.Loops.{drop_item}
use Rattle.ec_scopes.proofs.Steps.{Goes, goes_step, goes_from}

pub fill_step : {whole : Out (Option Frames)} {old : Option Violation} {now next : Checker} (at : Place) (global : Bool) (list : List Init) (i : ℕ) (x : Init) (fs : Option Frames) {more : Option Frames}
    → i < length list → x ≡ get_or list i x
    → Goes whole old (fill at global fs (inits_view (drop i list)) (world_of now)) (notes_of now) (λ rest. rest)
    → IsDone (fill_part at global fs (init_view x) (world_of now)) now next more
    → Goes whole old (fill at global more (inits_view (drop (i + 1) list)) (world_of next)) (notes_of next) (λ rest. rest)
fill_step {whole} {old} {now} at global list i x fs lt is g p =
    goes_step _ (λ rest. fill at global rest (inits_view (drop (i + 1) list))) _ (goes_from (ap (λ xs. fill at global fs (inits_view xs) (world_of now)) (drop_item list i x lt is)) g) p
