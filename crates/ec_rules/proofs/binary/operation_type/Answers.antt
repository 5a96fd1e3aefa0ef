use Rattle.ec_rules.proofs.binary.operation_type.Goals as goal

pub returns : goal.returns
returns c = c.binary_type.ensures _ c.to_complete-left_complete.ensures c.to_complete-right_complete.ensures
