use Rattle.std.proofs.Common.{◌≡◌, drop}
use Rattle.ec_ctypes.specs.Texts.{library_text}
use Rattle.ec_typing_defs.specs.Library.{named_among}
use Rattle.ec_known_calls.proofs.library.call_among.Given as goal

abbrev pub invariant-loop-call : goal.invariant-loop-call
invariant-loop-call l = named_among library_text l.name l.calls ≡ named_among library_text l.name (drop l.call-index l.calls)
