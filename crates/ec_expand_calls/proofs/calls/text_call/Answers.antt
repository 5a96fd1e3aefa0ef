use Rattle.std.proofs.Common.{◌∙◌, ap}
use Rattle.ec_ctypes.specs.Texts.{library_text}
use Rattle.ec_ctypes.specs.trees.Exprs.{call}
use Rattle.ec_expand_calls.proofs.Pushing.{made}
use Rattle.ec_expand_calls.proofs.calls.text_call.Goals as goal

pub returns : goal.returns
returns c = c.in_ok-finish.ensures ∙ ap (call (library_text c.args.name)) (made c.in_ok-args.ensures)
