use Rattle.std.proofs.Common.{◌∙◌, map}
use Rattle.ec_ctypes.specs.views.Units.{top_view, unit_view}
use Rattle.ec_typing_defs.specs.Programs.{defined_in}
use Rattle.ec_check.proofs.Told.{told_first}
use Rattle.ec_check.proofs.checking.checked.Goals as goal

pub returns-clause-first : goal.returns-clause-first
returns-clause-first c =
    told_first c.args.written (unit_view c.args.unit.now) c.add_defined.new.defined c.in_ok-checker.checker c.unit_rule.new.checker c.in_ok-checker.ensures.world c.in_ok-checker.ensures.notes
    (c.in_ok-add_defined.ensures ∙ (λ i. defined_in (map top_view (c.as_slice.ensures i)) (c.new-defined.ensures i))) c.in_ok-unit_rule.ensures
