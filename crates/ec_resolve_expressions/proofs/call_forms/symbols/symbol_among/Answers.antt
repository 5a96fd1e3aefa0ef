use Rattle.ec_ctypes.specs.Texts.{symbol_text}
use Rattle.ec_known_calls.proofs.Named.{named_found, named_passed}
use Rattle.ec_resolve_expressions.proofs.call_forms.symbols.symbol_among.Goals as goal

pub returns-then-is_named : goal.returns-then-is_named
returns-then-is_named c =
    named_found symbol_text c.args.symbols.now c.loop-symbol.symbol-index _ c.args.name.now _ c.loop-symbol-test.true c.loop-symbol.invariant c.if-is_named.ensures

pub loop-symbol-preserved : goal.loop-symbol-preserved
loop-symbol-preserved c =
    named_passed symbol_text c.args.symbols.now c.loop-symbol.symbol-index _ c.args.name.now _ c.loop-symbol-test.true c.loop-symbol.invariant c.if-is_named.ensures
