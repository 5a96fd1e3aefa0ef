-- Places as a call is given them, in the words of the definitions.
use Rattle.std.specs.Prelude.{ℕ, option_map}
use Rattle.ec_bytes.specs.declared.scalar.address.Ptr.{Ptr}
use Rattle.ec_ctypes.specs.declared.checked.library.Sym.{Sym}
use Rattle.ec_arguments.specs.Arguments.{Place, Indicator}
use Rattle.ec_convert.specs.declared.host.HostPlace.{HostPlace}

abbrev pub indicator_view : Sym × Ptr × ℕ × ℕ → Indicator ℕ
indicator_view i = record { sym = i.0; value = i.1.0; count = i.2; step = i.3 }

abbrev pub place_view : HostPlace → Place ℕ
place_view h = record {
  sym = h.sym;
  value = h.at.0;
  size = h.size;
  count = h.count;
  step = h.step;
  ind = option_map indicator_view h.ind;
}
