use Rattle.std.proofs.Common.{arith}
use Rattle.ec_split.proofs.Lanes.{lines_found, none_found}
use Rattle.ec_split.proofs.scanning.bytes.newlines_in_16.Goals as goal

pub returns-then-found-eq0 : goal.returns-then-found-eq0
returns-then-found-eq0 c = none_found c.args.bytes.now c.args.at 16 c.requires (omega arith) c.if-found-eq0.true

pub returns : goal.returns
returns c = lines_found c.args.bytes.now c.args.at 16 c.requires (omega arith)
