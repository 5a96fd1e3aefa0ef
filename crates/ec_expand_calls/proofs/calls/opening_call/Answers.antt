use Rattle.std.proofs.Common.{◌∙◌, ap}
use Rattle.ec_ctypes.specs.declared.checked.library.LibName.TheVariants as library
use Rattle.ec_ctypes.specs.Texts.{library_text}
use Rattle.ec_ctypes.specs.trees.Exprs.{call}
use Rattle.ec_expand_calls.proofs.Pushing.{after, made}
use Rattle.ec_expand_calls.proofs.calls.opening_call.Goals as goal

pub returns : goal.returns
returns c = c.in_ok-finish.ensures ∙ ap (call (library_text library.Do)) (made (after c.in_ok-args.ensures (after c.in_ok-push_symbol.ensures (after c.in_ok-push_bytes.ensures (after c.in_ok-push_name.ensures c.in_ok-push_lists.ensures)))))
