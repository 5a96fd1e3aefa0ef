use Rattle.ec_rules.proofs.assignments.allows_compound.Goals as goal

pub returns : goal.returns
returns c = c.is_compound.ensures _ c.to_complete.ensures
