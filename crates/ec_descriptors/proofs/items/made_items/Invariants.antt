use Rattle.std.proofs.Common.{◌≡◌, ◌++◌, drop}
use Rattle.ec_call_defs.specs.Areas.{items_of}
use Rattle.ec_descriptors.specs.Views.{items_view}
use Rattle.ec_descriptors.proofs.items.made_items.Given as goal

abbrev pub invariant-loop-col : goal.invariant-loop-col
invariant-loop-col l = items_view l.made ++ items_of (drop l.col-index l.cols) l.left ≡ items_of l.cols l.fields
