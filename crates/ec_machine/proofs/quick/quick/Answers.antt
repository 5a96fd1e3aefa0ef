use Rattle.std.proofs.Common.{◌∙◌, arith, refl}
use Rattle.ec_code.specs.Views.{statement_view}
use Rattle.ec_meaning_defs.specs.evaluation.Execute.{run}
use Rattle.ec_plain.specs.Answered.{at, context}
use Rattle.ec_machine.specs.Frames.{objects_of}
use Rattle.ec_machine.proofs.Quickly.{begins_done, begins_leads, begins_stays, begins_stops, leads_lighter, stops_as}
use Rattle.ec_machine.proofs.quick.quick.Goals as goal

pub loop-next-init : goal.loop-next-init
loop-next-init c = record { same = λ knowing w first s. refl; lighter = omega arith }

pub loop-next-preserved : goal.loop-next-preserved
loop-next-preserved c = record {
  same = λ knowing w first s. c.loop-next.invariant.same knowing w first s
      ∙ begins_leads c.begin.result c.loop-next.left.now (run knowing w (context c.loop-next.line.0 (objects_of c.args.scope.now) first) (statement_view c.loop-next.left.now) (at s c.loop-next.store)) (λ x. run knowing w (context c.begin.new.line.0 (objects_of c.args.scope.now) first) (statement_view x) (at s c.begin.new.store)) (at s c.begin.new.store) (c.begin.ensures.begins knowing w first s) c.in-Ok-Leads.next (cc (c.in-Ok-Leads.is, c.in-Ok-Leads.field-0-is));
  lighter = omega (arith, c.loop-next.invariant.lighter, leads_lighter c.begin.result c.loop-next.left.now c.in-Ok-Leads.next (cc (c.in-Ok-Leads.is, c.in-Ok-Leads.field-0-is)) c.begin.ensures.lighter);
}

pub loop-next-smaller : goal.loop-next-smaller
loop-next-smaller c = omega (arith, leads_lighter c.begin.result c.loop-next.left.now c.in-Ok-Leads.next (cc (c.in-Ok-Leads.is, c.in-Ok-Leads.field-0-is)) c.begin.ensures.lighter)

pub returns-in-Ok-Done-clause-leaves : goal.returns-in-Ok-Done-clause-leaves
returns-in-Ok-Done-clause-leaves c = λ knowing w first s. c.loop-next.invariant.same knowing w first s
    ∙ begins_done c.begin.result c.loop-next.left.now (run knowing w (context c.loop-next.line.0 (objects_of c.args.scope.now) first) (statement_view c.loop-next.left.now) (at s c.loop-next.store)) (λ x. run knowing w (context c.begin.new.line.0 (objects_of c.args.scope.now) first) (statement_view x) (at s c.begin.new.store)) (at s c.begin.new.store) (c.begin.ensures.begins knowing w first s) (cc (c.in-Ok-Done.is, c.in-Ok-Done.field-0-is))

pub returns-in-Ok-Stays-clause-leaves : goal.returns-in-Ok-Stays-clause-leaves
returns-in-Ok-Stays-clause-leaves c = λ knowing w first s. c.loop-next.invariant.same knowing w first s
    ∙ begins_stays c.begin.result c.loop-next.left.now (run knowing w (context c.loop-next.line.0 (objects_of c.args.scope.now) first) (statement_view c.loop-next.left.now) (at s c.loop-next.store)) (λ x. run knowing w (context c.begin.new.line.0 (objects_of c.args.scope.now) first) (statement_view x) (at s c.begin.new.store)) (at s c.begin.new.store) (c.begin.ensures.begins knowing w first s) (cc (c.in-Ok-Stays.is, c.in-Ok-Stays.field-0-is))

pub returns-in-Ok-Stays-clause-lighter : goal.returns-in-Ok-Stays-clause-lighter
returns-in-Ok-Stays-clause-lighter c = c.loop-next.invariant.lighter

pub returns-in-Err-clause-leaves : goal.returns-in-Err-clause-leaves
returns-in-Err-clause-leaves c = λ knowing w first s.
    stops_as c.in-Err.stop (at s c.begin.new.store) _ (run knowing w (context c.loop-next.line.0 (objects_of c.args.scope.now) first) (statement_view c.loop-next.left.now) (at s c.loop-next.store)) (c.loop-next.invariant.same knowing w first s)
    (begins_stops c.begin.result c.loop-next.left.now (run knowing w (context c.loop-next.line.0 (objects_of c.args.scope.now) first) (statement_view c.loop-next.left.now) (at s c.loop-next.store)) (λ x. run knowing w (context c.begin.new.line.0 (objects_of c.args.scope.now) first) (statement_view x) (at s c.begin.new.store)) (at s c.begin.new.store) (c.begin.ensures.begins knowing w first s) c.in-Err.stop c.in-Err.is)
