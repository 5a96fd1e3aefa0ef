use Rattle.std.proofs.Common.{◌∙◌}
use Rattle.ec_initializers.proofs.FrameLemmas.{outermost_of}
use Rattle.ec_initializers.proofs.frames.elements_begun.Goals as goal

pub returns-in-len1-up : goal.returns-in-len1-up
returns-in-len1-up c = c.begun_in.ensures ∙ outermost_of c.args.frames.now c.outermost-item.result c.in-len1-up.len_at_least c.outermost-item.is
