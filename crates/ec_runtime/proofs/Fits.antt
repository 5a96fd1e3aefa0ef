-- A place that a call may have is a host.
use Rattle.std.proofs.Common.{◌≡◌, ℕ, ◌≤◌, ◌^◌, Option, Some, None, true, refl, arith}
use Rattle.std.proofs.lemmas.Bool.Decides.{nat_tests}
use Rattle.std.specs.Prelude.{is_some, nat_le, ◌&&◌, option_map, option_and_then}
use Rattle.ec_bytes.specs.declared.scalar.address.Ptr.{Ptr}
use Rattle.ec_ctypes.specs.declared.checked.library.Sym.{Sym}
use Rattle.ec_ctypes.specs.declared.checked.library.Sym.TheVariants as symbol
use Rattle.ec_arguments.specs.Rules.{element_size, indicator_size, is_small, fits_element, fits_indicator, fits_indicators, fits_place}
use Rattle.ec_arguments.proofs.Told.{no_clash, left_true, right_true}
use Rattle.ec_convert.specs.declared.host.HostPlace.{HostPlace}
use Rattle.ec_convert.specs.Host.{given_indicators, placed}
use Rattle.ec_transfer_defs.specs.Hosts.{Holding, holding, IndicatorData}
use Rattle.ec_runtime.specs.Fitting.{IsFit}
use Rattle.ec_runtime.specs.Places.{place_view, indicator_view}

has_holding : (s : Sym) (n c d : ℕ) → fits_element (element_size s n) n c d ≡ true → is_some (holding s n) ≡ true
has_holding symbol.Char n c d e = refl
has_holding symbol.UnsignedChar n c d e = refl
has_holding symbol.Short n c d e = refl
has_holding symbol.UnsignedShort n c d e = refl
has_holding symbol.Int n c d e = refl
has_holding symbol.UnsignedInt n c d e = refl
has_holding symbol.Long n c d e = refl
has_holding symbol.UnsignedLong n c d e = refl
has_holding symbol.LongLong n c d e = refl
has_holding symbol.UnsignedLongLong n c d e = refl
has_holding symbol.Bool n c d e = refl
has_holding symbol.Varchar n c d e = refl
has_holding _ n c d e = no_clash e

has_type : (s : Sym) (at : Ptr) (n c d : ℕ) → fits_indicator (indicator_size s) n c d ≡ true → is_some (given_indicators (Some (s, at, c, d))) ≡ true
has_type symbol.Short at n c d e = refl
has_type symbol.Int at n c d e = refl
has_type symbol.Long at n c d e = refl
has_type symbol.LongLong at n c d e = refl
has_type _ at n c d e = no_clash e

has_indicators : (i : Option (Sym × Ptr × ℕ × ℕ)) (n : ℕ) → fits_indicators (option_map indicator_view i) n ≡ true → is_some (given_indicators i) ≡ true
has_indicators None n e = refl
has_indicators (Some i) n e = has_type i.0 i.1 n i.2 i.3 e

both_there : (at : Ptr) (step : ℕ) (i : Option (Option IndicatorData)) (x : Option Holding) → is_some i ≡ true → is_some x ≡ true → is_some (option_and_then (placed at step i) x) ≡ true
both_there at step (Some i) (Some x) p q = refl
both_there at step None x p q = no_clash p
both_there at step (Some i) None p q = no_clash q

small : (n : ℕ) → is_small n ≡ true → n ≤ 2 ^ 24
small n e = grind (arith, nat_tests)

pub place_fits : (p : HostPlace) → fits_place (place_view p) ≡ true → IsFit p
place_fits p e = record {
  typed = both_there p.at p.step (given_indicators p.ind) (holding p.sym p.size)
      (has_indicators p.ind p.count (right_true (fits_element (element_size p.sym p.size) p.size p.count p.step) (fits_indicators (option_map indicator_view p.ind) p.count) e))
      (has_holding p.sym p.size p.count p.step element);
  bounded = small p.count (numbers (element_size p.sym p.size) element).0;
  sized = small p.size (numbers (element_size p.sym p.size) element).1;
}
  where
    element : fits_element (element_size p.sym p.size) p.size p.count p.step ≡ true
    element = left_true (fits_element (element_size p.sym p.size) p.size p.count p.step) (fits_indicators (option_map indicator_view p.ind) p.count) e

    numbers : (size : Option ℕ) → fits_element size p.size p.count p.step ≡ true → (is_small p.count ≡ true) × (is_small p.size ≡ true)
    numbers None h = no_clash h
    numbers (Some n) h =
        let four : (nat_le 1 p.count && nat_le n p.step && is_small p.size && is_small p.count) ≡ true = left_true (nat_le 1 p.count && nat_le n p.step && is_small p.size && is_small p.count) (is_small p.step) h in (
          right_true (nat_le 1 p.count && nat_le n p.step && is_small p.size) (is_small p.count) four,
          right_true (nat_le 1 p.count && nat_le n p.step) (is_small p.size) (left_true (nat_le 1 p.count && nat_le n p.step && is_small p.size) (is_small p.count) four),
        )
