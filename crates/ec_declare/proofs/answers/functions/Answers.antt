use Rattle.std.proofs.Common.{◌≡◌, ◌∙◌, ap, sym, map}
use Rattle.ec_ctypes.specs.views.Units.{top_view}
use Rattle.ec_declare.specs.Counting.{CountData, none_so_far, count_tops}
use Rattle.ec_declare.proofs.Counted.{functions_kept}
use Rattle.ec_declare.proofs.answers.functions.Goals as goal

pub returns : goal.returns
returns c = ap (λ (k : CountData). k.functions) (c.in_ok-count.ensures ∙ (λ i. count_tops (map top_view (c.as_slice.ensures i)) none_so_far)) ∙ functions_kept (map top_view c.args.unit.now.tops)
