-- Places, fed one behind the other.
use Rattle.std.proofs.Common.{◌≡◌, [], ◌∷◌, ◌++◌, refl, arith, ◌∙◌, ap, sym}
use Rattle.ec_declare.specs.Scanning.{ScanData, step, feed}
use Rattle.ec_ctypes.specs.trees.Exprs.{ExprData, binary}
use Rattle.ec_ctypes.specs.declared.tree.expr.BinOp.{BinOp}
use Rattle.ec_host_defs.specs.sections.Places.{PlaceData, Places, of_expr}

pub fed_nothing : (s : ScanData) → feed [] s ≡ s
unfolding feed
fed_nothing s = refl

pub fed_first : (p : PlaceData) (ps : Places) (s : ScanData) → feed (p ∷ ps) s ≡ feed ps (step p s)
unfolding feed
fed_first p ps s = refl

pub fed : (ps qs : Places) (s : ScanData) → feed (ps ++ qs) s ≡ feed qs (feed ps s)
unfolding feed
fed [] qs s = refl
fed (p ∷ ps) qs s = fed ps qs (step p s)

pub ruleset feeding = (fed_nothing, fed_first, fed)
