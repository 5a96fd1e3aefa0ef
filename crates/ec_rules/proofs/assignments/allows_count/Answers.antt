use Rattle.ec_rules.proofs.assignments.allows_count.Goals as goal

pub returns : goal.returns
returns c = c.is_counter.ensures _ c.to_complete.ensures
