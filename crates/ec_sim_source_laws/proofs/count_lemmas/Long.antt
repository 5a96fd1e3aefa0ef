-- The numbers of a place that fits its call are of type long.
use Rattle.std.proofs.Common.{◌≡◌, ℕ, true, List, [], ◌∷◌, ◌++◌, Option, Some, None, refl, arith}
use Rattle.std.specs.Prelude.{◌&&◌, nat_le, option_map}
use Rattle.std.proofs.lemmas.Bool.Decides.{nat_tests}
use Rattle.ec_arguments.specs.Rules.{is_small, element_size, fits_element, indicator_size, fits_indicator, fits_indicators, fits_place}
use Rattle.ec_written_laws.specs.bound.Counts.{has_long_count, has_long_counts, have_long_counts}
use Rattle.ec_ctypes.specs.trees.Checked.{IndicatorData, PlaceData}
use Rattle.ec_expansion_defs.specs.Calls.{indicator_of}
use Rattle.ec_sim_host_laws.specs.fit.Fits.{place_of}
use Rattle.ec_written_laws.specs.written.Bounds.{is_long}
use Rattle.ec_sim_host_laws.proofs.pointer_lemmas.Basics.{false_not, left_true, right_true, both_true}

more_small : (n : ℕ) → nat_le n 16777216 ≡ true → nat_le n 9223372036854775807 ≡ true
more_small n e = grind (arith, nat_tests)

long_of_small : (n : ℕ) → is_small n ≡ true → is_long n ≡ true
long_of_small n e = more_small n e

element_long : (o : Option ℕ) (size count step : ℕ) → fits_element o size count step ≡ true → (is_long size && is_long count) ≡ true
element_long None size count step e = false_not e
element_long (Some n) size count step e =
    let few = left_true (nat_le 1 count && nat_le n step && is_small size && is_small count) (is_small step) e in
    let short = left_true (nat_le 1 count && nat_le n step && is_small size) (is_small count) few in
    both_true (is_long size) (is_long count)
    (long_of_small size (right_true (nat_le 1 count && nat_le n step) (is_small size) short))
    (long_of_small count (right_true (nat_le 1 count && nat_le n step && is_small size) (is_small count) few))

indicators_long : (o : Option ℕ) (count indicators step : ℕ) → fits_indicator o count indicators step ≡ true → is_long indicators ≡ true
indicators_long None count indicators step e = false_not e
indicators_long (Some n) count indicators step e =
    long_of_small indicators (right_true (nat_le count indicators && nat_le n step) (is_small indicators)
    (left_true (nat_le count indicators && nat_le n step && is_small indicators) (is_small step) e))

indicator_long : (i : Option IndicatorData) (count : ℕ) → fits_indicators (option_map indicator_of i) count ≡ true → has_long_count i ≡ true
indicator_long None count e = refl
indicator_long (Some i) count e = indicators_long (indicator_size i.0) count i.2 i.3 e

pub place_long : (q : PlaceData) → fits_place (place_of q) ≡ true → has_long_counts q ≡ true
place_long q e =
    both_true (is_long q.size && is_long q.count) (has_long_count q.ind)
    (element_long (element_size q.sym q.size) q.size q.count q.step (left_true (fits_element (element_size q.sym q.size) q.size q.count q.step) (fits_indicators (place_of q).ind q.count) e))
    (indicator_long q.ind q.count (right_true (fits_element (element_size q.sym q.size) q.size q.count q.step) (fits_indicators (place_of q).ind q.count) e))

-- so are those of places one behind the other
pub front_long : (qs rs : List PlaceData) → have_long_counts qs ≡ true → have_long_counts rs ≡ true → have_long_counts (qs ++ rs) ≡ true
front_long [] rs h k = k
front_long (q ∷ qs) rs h k =
    both_true (has_long_counts q) (have_long_counts (qs ++ rs)) (left_true (has_long_counts q) (have_long_counts qs) h)
    (front_long qs rs (right_true (has_long_counts q) (have_long_counts qs) h) k)
