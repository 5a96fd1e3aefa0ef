use Rattle.std.proofs.Common.{◌≡◌, drop}
use Rattle.ec_ctypes.specs.Texts.{symbol_text}
use Rattle.ec_typing_defs.specs.Library.{named_among}
use Rattle.ec_known_calls.proofs.library.symbol_among.Given as goal

abbrev pub invariant-loop-symbol : goal.invariant-loop-symbol
invariant-loop-symbol l = named_among symbol_text l.name l.symbols ≡ named_among symbol_text l.name (drop l.symbol-index l.symbols)
