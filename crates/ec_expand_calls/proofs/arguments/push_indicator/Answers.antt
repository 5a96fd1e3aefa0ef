use Rattle.std.proofs.Common.{sym, subst, Option, option_map, ℕ}
use Rattle.ec_ctypes.specs.declared.checked.library.Sym.{Sym}
use Rattle.ec_ctypes.specs.declared.tree.expr.Expr.{Expr}
use Rattle.ec_ctypes.specs.views.Checked.{indicator_view}
use Rattle.ec_arguments.specs.Writing.{indicator_arguments}
use Rattle.ec_expansion_defs.specs.Calls.{indicator_of}
use Rattle.ec_expand_calls.specs.Pushed.{Pushes}
use Rattle.ec_expand_calls.proofs.Pushing.{after}
use Rattle.ec_expand_calls.proofs.arguments.push_indicator.Goals as goal

pub returns-in_ok-push_long-in-Some-3 : goal.returns-in_ok-push_long-in-Some-3
returns-in_ok-push_long-in-Some-3 c =
    subst (λ (o : Option (Sym × Expr × ℕ × ℕ)). Pushes c.args.args.now c.push_long-in-Some-2.new.args (indicator_arguments (option_map indicator_of (option_map indicator_view o)))) (sym c.in-Some.is)
    (after c.in_ok-push_symbol-in-Some.ensures (after c.in_ok-push_pointer-in-Some.ensures
    (after c.in_ok-push_long-in-Some.ensures (after c.in_ok-push_long-in-Some-2.ensures c.in_ok-push_long-in-Some-3.ensures))))
