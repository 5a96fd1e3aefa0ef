use Rattle.std.proofs.Common.{ap, ◌∙◌}
use Rattle.ec_ctypes.specs.Texts.{symbol_text}
use Rattle.ec_language.specs.Letters.{same_text}
use Rattle.ec_known_calls.proofs.Named.{named_found, named_passed}
use Rattle.ec_known_calls.proofs.library.symbol_among.Goals as goal

pub returns-then-is_word : goal.returns-then-is_word
returns-then-is_word c =
    named_found symbol_text c.args.symbols.now c.loop-symbol.symbol-index _ c.args.name.now _ c.loop-symbol-test.true c.loop-symbol.invariant
    (c.if-is_word.ensures ∙ ap (λ w. same_text w c.args.name.now) c.text.ensures)

pub loop-symbol-preserved : goal.loop-symbol-preserved
loop-symbol-preserved c =
    named_passed symbol_text c.args.symbols.now c.loop-symbol.symbol-index _ c.args.name.now _ c.loop-symbol-test.true c.loop-symbol.invariant
    (c.if-is_word.ensures ∙ ap (λ w. same_text w c.args.name.now) c.text.ensures)
