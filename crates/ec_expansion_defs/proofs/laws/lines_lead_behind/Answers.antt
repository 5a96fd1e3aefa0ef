use Rattle.ec_expansion_defs.proofs.LinesBehind.{stmt_line, tops_line}
use Rattle.ec_expansion_defs.proofs.laws.lines_lead_behind.Goals as goal

pub returns : goal.returns
returns c = record { statements = stmt_line; programs = λ u. tops_line u.tops 3 }
