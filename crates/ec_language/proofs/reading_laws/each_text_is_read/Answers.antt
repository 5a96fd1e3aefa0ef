use Rattle.ec_language.proofs.TextReads.{text_reads}
use Rattle.ec_language.proofs.reading_laws.each_text_is_read.Goals as goal

pub returns : goal.returns
returns c = text_reads c.args.written c.args.text.now
