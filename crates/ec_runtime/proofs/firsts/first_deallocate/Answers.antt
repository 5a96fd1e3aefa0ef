use Rattle.ec_runtime.proofs.Begun.{deallocate_missing, deallocate_there}
use Rattle.ec_runtime.proofs.firsts.first_deallocate.Goals as goal

pub returns-in-Err-clause-quiet : goal.returns-in-Err-clause-quiet
returns-in-Err-clause-quiet g c = deallocate_missing c.args.line.0 c.args.name c.args.session.now c.args.store.now c.find_name.new.store c.in-Err.stop c.in-Err.ensures.quiet

pub returns-in-Ok-kept_name-clause-quiet : goal.returns-in-Ok-kept_name-clause-quiet
returns-in-Ok-kept_name-clause-quiet g c = deallocate_there c.args.line.0 c.args.name c.args.session.now c.args.store.now c.find_name.new.store c.in-Ok-kept_name.copy c.in-Ok-kept_name.ensures.ok c.in-Ok.ensures.quiet
