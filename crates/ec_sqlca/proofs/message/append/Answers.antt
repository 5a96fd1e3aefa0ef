-- As many bytes as there is room for.
use Rattle.std.proofs.Common.{arith}
use Rattle.ec_sqlca.proofs.FrontLemmas.{message_more, count_more}
use Rattle.ec_sqlca.proofs.message.append.Goals as goal

pub returns-clause-text : goal.returns-clause-text
returns-clause-text c = λ front old begins. message_more c.args.text.now front c.args.more.now _ c.args.at c.min-count.result old begins c.requires.before (omega arith) c.write.ensures

pub returns-clause-count : goal.returns-clause-count
returns-clause-count c = λ front begins. count_more front c.args.more.now c.args.at c.min-count.result begins c.requires.before (omega arith)
