use Rattle.ec_rules.proofs.binary.element_of.Goals as goal

pub returns : goal.returns
returns c = c.element_type.ensures _ c.to_complete-left_complete.ensures c.to_complete-right_complete.ensures
