use Rattle.std.proofs.Common.{subst, sym}
use Rattle.ec_call_defs.specs.Running.{rows_stored}
use Rattle.ec_runtime.specs.Says.{Changed, Quiet}
use Rattle.ec_runtime.specs.Statements.{outputs_view}
use Rattle.ec_runtime.specs.Views.{outputs_of}
use Rattle.ec_runtime.proofs.Telling.{still}
use Rattle.ec_runtime.proofs.answering.store_rows.Goals as goal

pub returns-in-Hosts-clause-changed : goal.returns-in-Hosts-clause-changed
returns-in-Hosts-clause-changed c =
    subst (λ o. Changed c.keep_in_hosts.result (rows_stored c.args.line.0 (outputs_view o) c.args.table.now) c.args.store.now c.args.areas.now c.keep_in_hosts.new.store c.args.areas.now) (sym c.in-Hosts.is)
    (still c.keep_in_hosts.result (rows_stored c.args.line.0 (outputs_of c.in-Hosts.hosts) c.args.table.now) c.args.store.now c.keep_in_hosts.new.store c.args.areas.now
    (subst (λ hs. Quiet c.keep_in_hosts.result (rows_stored c.args.line.0 (outputs_of hs) c.args.table.now) c.args.store.now c.keep_in_hosts.new.store) c.as_slice.ensures c.keep_in_hosts.ensures.quiet))
