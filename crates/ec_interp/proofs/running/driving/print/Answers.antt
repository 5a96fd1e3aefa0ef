use Rattle.std.proofs.Common.{◌∙◌, [], arith, subst, sym}
use Rattle.ec_machine.proofs.Weighing.{nearer}
use Rattle.ec_interp.specs.running.Printing.{Prints, on_errors, on_output}
use Rattle.ec_interp.proofs.running_lemmas.Leading.{puts_begin, puts_lead, said_none}
use Rattle.ec_interp.proofs.running.driving.print.Goals as goal

pub returns-in-Ok-clause-goes : goal.returns-in-Ok-clause-goes
returns-in-Ok-clause-goes g c = λ fs knowing x.
    let m = c.args.machine.now in
    record {
      printed = on_output c.args.channel m.text;
      complained = on_errors c.args.channel m.text;
      growth = [];
      said = said_none x;
      prints = subst (λ t. Prints g.O.Sink.held g.O.Sink.faults g.E.Sink.held g.E.Sink.faults c.args.out.now c.put_text.new.out c.args.err.now c.put_text.new.err (on_output c.args.channel t) (on_errors c.args.channel t)) c.as_slice.ensures c.in-Ok.ensures.whole;
      leads = puts_lead knowing fs x m c.args.channel c.args.value c.value_of.result c.value_of.ensures;
      fewer = omega arith;
    }

pub returns-in-Ok-clause-nears : goal.returns-in-Ok-clause-nears
returns-in-Ok-clause-nears g c = nearer _ _ _ _ (omega arith)

pub returns-in-Err-clause-halts : goal.returns-in-Err-clause-halts
returns-in-Err-clause-halts g c = λ fs knowing suits x going.
    let m = c.args.machine.now in
    let p = c.in-Err.ensures.part in
    record {
      printed = on_output c.args.channel p.front;
      complained = on_errors c.args.channel p.front;
      growth = [];
      said = said_none x;
      prints = p.last;
      begins = puts_begin knowing suits.adds fs x x m c.args.value c.args.channel p.front p.rest (sym c.as_slice.ensures ∙ p.split);
    }

pub returns-in-Err-clause-turned : goal.returns-in-Err-clause-turned
returns-in-Err-clause-turned g c = λ n. tt

pub returns-in-Err-clause-idle : goal.returns-in-Err-clause-idle
returns-in-Err-clause-idle g c = λ kept e. e
