-- What a primary expression of the code stands for.
use Rattle.std.specs.Prelude.{true, false}
use Rattle.ec_ctypes.specs.trees.Exprs.{identifier}
use Rattle.ec_ctypes.specs.views.Exprs.{expr_view}
use Rattle.ec_language.specs.Productions as g
use Rattle.ec_cexpressions.specs.declared.expressions.primary.Primary.{Primary}
use Rattle.ec_cexpressions.specs.declared.expressions.primary.Primary.TheVariants as primary

abbrev pub primary_view : Primary → g.Primary
primary_view (primary.Name n) = record { expression = identifier n; is_name = true }
primary_view (primary.Other e) = record { expression = expr_view e; is_name = false }
