use Rattle.std.proofs.Common.{refl, Ok, Err}
use Rattle.ec_runtime.proofs.Begun.{act_seen, marks_told, marks_unread}
use Rattle.ec_runtime.proofs.firsts.read_act.Goals as goal

pub returns-in-Run : goal.returns-in-Run
returns-in-Run c = act_seen c.read_run.result c.args.act _ c.args.store.now c.in-Run.is c.read_run.ensures

pub returns-in-Control : goal.returns-in-Control
returns-in-Control c = act_seen (Ok _) c.args.act _ c.args.store.now c.in-Control.is (λ s. refl)

pub returns-in-Autocommit : goal.returns-in-Autocommit
returns-in-Autocommit c = act_seen (Ok _) c.args.act _ c.args.store.now c.in-Autocommit.is (λ s. refl)

pub returns-in-Deallocate : goal.returns-in-Deallocate
returns-in-Deallocate c = act_seen (Ok _) c.args.act _ c.args.store.now c.in-Deallocate.is (λ s. refl)

pub returns-in-Err : goal.returns-in-Err
returns-in-Err c = act_seen (Err c.in-Err.stop) c.args.act _ c.args.store.now c.in-Prepare.is (marks_unread c.in-Prepare.name c.in-Prepare.text c.args.store.now c.in-Err.stop c.in-Err.ensures)

pub returns-in-Ok : goal.returns-in-Ok
returns-in-Ok c = act_seen (Ok _) c.args.act _ c.args.store.now c.in-Prepare.is (marks_told c.in-Prepare.name c.in-Prepare.text c.args.store.now c.in-Ok.text c.in-Ok.ensures)
