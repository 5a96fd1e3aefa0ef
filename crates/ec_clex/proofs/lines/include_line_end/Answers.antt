use Rattle.std.proofs.Common.{◌∙◌}
use Rattle.ec_clex.proofs.ItemSteps.{include_step}
use Rattle.ec_clex.proofs.lines.include_line_end.Goals as goal

pub returns-clause-is : goal.returns-clause-is
returns-clause-is c = c.include_end.ensures.is ∙ include_step c.args.text.now c.args.at c.requires.inside c.requires.begin
