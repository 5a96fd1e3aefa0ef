use Rattle.ec_interp.proofs.running_lemmas.Leading.{part_errors, part_output, put_errors, put_output}
use Rattle.ec_interp.proofs.running.printing.put_text.Goals as goal

pub returns-in-StandardOutput-clause-whole : goal.returns-in-StandardOutput-clause-whole
returns-in-StandardOutput-clause-whole g c =
    put_output g.O.Sink.held g.O.Sink.faults g.E.Sink.held g.E.Sink.faults c.args.out.now c.args.err.now c.put_all.result c.args.channel c.args.text.now c.put_all.new.sink c.in-StandardOutput.is c.put_all.ensures.ok

pub returns-in-StandardOutput-clause-part : goal.returns-in-StandardOutput-clause-part
returns-in-StandardOutput-clause-part g c =
    part_output g.O.Sink.held g.O.Sink.faults g.E.Sink.held g.E.Sink.faults c.args.out.now c.args.err.now c.put_all.result c.args.channel c.args.text.now c.put_all.new.sink c.in-StandardOutput.is c.put_all.ensures.err

pub returns-in-StandardError-clause-whole : goal.returns-in-StandardError-clause-whole
returns-in-StandardError-clause-whole g c =
    put_errors g.O.Sink.held g.O.Sink.faults g.E.Sink.held g.E.Sink.faults c.args.out.now c.args.err.now c.put_all-in-StandardError.result c.args.channel c.args.text.now c.put_all-in-StandardError.new.sink c.in-StandardError.is c.put_all-in-StandardError.ensures.ok

pub returns-in-StandardError-clause-part : goal.returns-in-StandardError-clause-part
returns-in-StandardError-clause-part g c =
    part_errors g.O.Sink.held g.O.Sink.faults g.E.Sink.held g.E.Sink.faults c.args.out.now c.args.err.now c.put_all-in-StandardError.result c.args.channel c.args.text.now c.put_all-in-StandardError.new.sink c.in-StandardError.is c.put_all-in-StandardError.ensures.err
