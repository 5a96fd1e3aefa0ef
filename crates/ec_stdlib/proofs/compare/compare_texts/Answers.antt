-- As many bytes as the object has from the first pointer on, and one more, are enough.
use Rattle.std.proofs.Common.{◌∙◌}
use Rattle.ec_meaning_defs.specs.functions.Strings.{reads_from}
use Rattle.ec_stdlib.proofs.SingleReads.{enough}
use Rattle.ec_stdlib.proofs.compare.compare_texts.Goals as goal

pub returns-in-Ok : goal.returns-in-Ok
returns-in-Ok c = c.compare.ensures ∙ enough c.args.store.now c.args.first.0 c.in-Ok.left (reads_from c.args.store.now c.args.second.0) c.in-Ok.ensures.value
