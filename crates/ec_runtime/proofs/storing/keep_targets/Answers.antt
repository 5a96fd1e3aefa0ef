-- One host more.
use Rattle.ec_convert.specs.Host.{given_host}
use Rattle.ec_call_defs.specs.Outcomes.{with_memory}
use Rattle.ec_runtime.proofs.Kept.{with_host}
use Rattle.ec_runtime.proofs.Targets.{target_stops, target_goes_on, room}
use Rattle.ec_runtime.proofs.storing.keep_targets.Goals as goal
use Rattle.std.proofs.Common.{length}

pub keep_column-requires-clause-rows : goal.keep_column-requires-clause-rows
keep_column-requires-clause-rows c = room (length c.args.rows.now) c.args.hosts.now c.loop-column.column c.index-hosts-column.result c.loop-column-test.true c.index-hosts-column.is c.requires.rows

pub returns-in-Err-clause-quiet : goal.returns-in-Err-clause-quiet
returns-in-Err-clause-quiet c = λ s. with_host (given_host c.index-hosts-column.result.place) c.index-hosts-column.result.typed (λ h e.
    target_stops c.args.line.0 c.loop-column.column c.args.hosts.now c.args.rows.now c.index-hosts-column.result c.loop-column-test.true c.index-hosts-column.is _ c.in-Err.stop h e
    (with_memory c.loop-column.store s) _ (c.loop-column.invariant.goes_on s) (c.in-Err.ensures.quiet h e s))

pub loop-column-preserved : goal.loop-column-preserved
loop-column-preserved c = record {
  goes_on = λ s. with_host (given_host c.index-hosts-column.result.place) c.index-hosts-column.result.typed (λ h e.
      target_goes_on c.args.line.0 c.loop-column.column c.args.hosts.now c.args.rows.now c.index-hosts-column.result c.loop-column-test.true c.index-hosts-column.is _ h e
      (with_memory c.loop-column.store s) _ (c.loop-column.invariant.goes_on s) (c.in-Ok.ensures.quiet h e s));
  area = c.keep_column.ensures.kept;
}
