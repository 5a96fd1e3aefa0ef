use Rattle.std.proofs.Common.{drop}
use Rattle.ec_ctypes.specs.views.Exprs.{inits_view}
use Rattle.ec_scopes.specs.Entries.{place_view}
use Rattle.ec_scopes.specs.Seen.{world_of, notes_of}
use Rattle.ec_scopes.proofs.Steps.{Goes}
use Rattle.ec_typing_defs.specs.Initializers.{fill}
use Rattle.ec_initializers.specs.Frames.{known_frames}
use Rattle.ec_initializers.proofs.fill.+filling.Given as goal

abbrev pub invariant-fill-loop-init : goal.invariant-fill-loop-init
invariant-fill-loop-init l =
    Goes (fill (place_view l.at) l.is_global (known_frames l.fn.frames) (inits_view l.list) (world_of l.fn.checker)) (notes_of l.fn.checker)
    (fill (place_view l.at) l.is_global (known_frames l.rest) (inits_view (drop l.init-index l.list)) (world_of l.checker)) (notes_of l.checker) (λ rest. rest)
