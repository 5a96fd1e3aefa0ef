use Rattle.ec_runtime.proofs.Begun.{run_unread, run_untold}
use Rattle.ec_runtime.proofs.firsts.read_run.Goals as goal

pub returns-in-Err : goal.returns-in-Err
returns-in-Err c = run_unread c.args.it c.args.store.now c.in-Err.stop c.in-Err.ensures

pub returns-in-Err-read_targets : goal.returns-in-Err-read_targets
returns-in-Err-read_targets c = run_untold c.args.it c.args.store.now c.in-Ok.order c.in-Ok.ensures c.in-Err-read_targets.stop c.in-Err-read_targets.ensures
