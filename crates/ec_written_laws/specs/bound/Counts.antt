-- Which sizes and counts of hosts can be written, as tests that compute.
use Rattle.std.specs.Prelude.{Bool, true, false, ◌&&◌, List, [], ◌∷◌, Option, Some, None}
use Rattle.ec_ctypes.specs.trees.Checked.{IndicatorData, PlaceData, BoundData}
use Rattle.ec_written_laws.specs.written.Bounds.{is_long}

abbrev pub has_long_count : Option IndicatorData → Bool
has_long_count None = true
has_long_count (Some i) = is_long i.2

-- The length of a text, the number of elements and that of its indicators are of type long.
abbrev pub has_long_counts : PlaceData → Bool
has_long_counts p = (is_long p.size && is_long p.count) && has_long_count p.ind

abbrev pub have_long_counts : List PlaceData → Bool
have_long_counts [] = true
have_long_counts (p ∷ ps) = has_long_counts p && have_long_counts ps

-- so is each of what is bound for a statement
abbrev pub is_counted : BoundData → Bool
is_counted b = have_long_counts b.ins && have_long_counts b.outs

abbrev pub are_counted : List BoundData → Bool
are_counted [] = true
are_counted (b ∷ bs) = is_counted b && are_counted bs
