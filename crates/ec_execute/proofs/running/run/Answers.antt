use Rattle.ec_execute.proofs.Flushing.{flushed, unflushed}
use Rattle.ec_execute.proofs.running.run.Goals as goal

pub returns-in-Ok : goal.returns-in-Ok
returns-in-Ok g c =
    flushed _ _ g.O.Sink.held g.O.Sink.faults g.E.Sink.held g.E.Sink.faults _ _ _ _ _ _ _ _ _ _ c.flush_both.ensures.output c.flush_both.ensures.errors c.run_over-end.result
    c.in-Ok.ensures.steady.0 c.in-Ok.ensures.steady.1 c.run_over-end.ensures

pub returns-in-Err : goal.returns-in-Err
returns-in-Err g c =
    unflushed _ _ g.O.Sink.held g.O.Sink.faults g.E.Sink.held g.E.Sink.faults _ _ _ _ _ _ _ _ _ _ c.flush_both.ensures.output c.flush_both.ensures.errors c.run_over-end.result
    c.flush_both.ensures.later.0 c.flush_both.ensures.later.1 c.in-Err.ensures.failed c.run_over-end.ensures
