use Rattle.ec_initializers.proofs.FrameLemmas.{not_alone}
use Rattle.ec_initializers.proofs.braces.is_text_alone.Goals as goal

pub returns-in-len2-up : goal.returns-in-len2-up
returns-in-len2-up c = not_alone c.args.list.now c.in-len2-up.len_at_least
