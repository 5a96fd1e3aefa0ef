use Rattle.std.proofs.Common.{ap, ◌∙◌}
use Rattle.ec_ctypes.specs.Texts.{library_text}
use Rattle.ec_language.specs.Letters.{same_text}
use Rattle.ec_known_calls.proofs.Named.{named_found, named_passed}
use Rattle.ec_known_calls.proofs.library.call_among.Goals as goal

pub returns-then-is_word : goal.returns-then-is_word
returns-then-is_word c =
    named_found library_text c.args.calls.now c.loop-call.call-index _ c.args.name.now _ c.loop-call-test.true c.loop-call.invariant
    (c.if-is_word.ensures ∙ ap (λ w. same_text w c.args.name.now) c.text.ensures)

pub loop-call-preserved : goal.loop-call-preserved
loop-call-preserved c =
    named_passed library_text c.args.calls.now c.loop-call.call-index _ c.args.name.now _ c.loop-call-test.true c.loop-call.invariant
    (c.if-is_word.ensures ∙ ap (λ w. same_text w c.args.name.now) c.text.ensures)
