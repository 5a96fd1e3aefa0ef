use Rattle.ec_split.proofs.Scans.{answer_pieces, all_pieces, answer_fault, all_faults}
use Rattle.ec_split.proofs.scan.split.Goals as goal

pub returns-clause-pieces : goal.returns-clause-pieces
returns-clause-pieces c = answer_pieces c.args.text.now c.all_parts.result c.all_parts.ensures

pub returns-clause-all_pieces : goal.returns-clause-all_pieces
returns-clause-all_pieces c = all_pieces c.args.text.now c.all_parts.result c.all_parts.ensures

pub returns-clause-fault : goal.returns-clause-fault
returns-clause-fault c = answer_fault c.args.text.now c.all_parts.result c.all_parts.ensures

pub returns-clause-all_faults : goal.returns-clause-all_faults
returns-clause-all_faults c = all_faults c.args.text.now c.all_parts.result c.all_parts.ensures
