use Rattle.ec_sim_statement_laws.proofs.statement_lemmas.Blocks.{block_same}
use Rattle.ec_sim_statement_laws.proofs.statement.laws.blocks_do_what_statements_do.Goals as goal

pub returns : goal.returns
returns g = λ calls k w c t forms f x is rules targets silent s. block_same calls k w c.objects c.first c.line t forms f x is rules targets silent s
