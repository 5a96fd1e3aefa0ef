use Rattle.std.proofs.Common.{◌∙◌, sym, ap, arith, [], None, true, false}
use Rattle.ec_code.specs.Views.{expression_view, statement_view}
use Rattle.ec_meaning_defs.specs.evaluation.Evaluate.{eval}
use Rattle.ec_meaning_defs.specs.evaluation.Execute.{run}
use Rattle.ec_meaning_defs.specs.evaluation.Results.{Res, on, on_value}
use Rattle.ec_meaning_defs.specs.evaluation.State.{State}
use Rattle.ec_plain.specs.Answered.{at}
use Rattle.ec_meaning_defs.specs.resolved.Operations.{is_true}
use Rattle.ec_machine.specs.Frames.{Env, here}
use Rattle.ec_machine.specs.Weights.{statement_weight}
use Rattle.ec_machine.proofs.Quickly.{asks_fails, asks_holds, asks_stops, asks_waits, passes_all, passes_nothing, passes_stops, stops_as}
use Rattle.ec_machine.proofs.Running.{run_choice, to_Evaluate, to_Nothing, to_OnLine}
use Rattle.ec_machine.proofs.Weighing.{weight-Choose, weight-OnLine}
use Rattle.ec_machine.proofs.quick.begin.Goals as goal

pub returns-in-OnLine-clause-begins : goal.returns-in-OnLine-clause-begins
returns-in-OnLine-clause-begins c = λ knowing w first s.
    let e : Env = record { scope = c.args.scope.now; first = first; values = []; otherwise = None } in
    to_OnLine knowing w e (at s c.args.store.now) c.args.line.now c.args.statement.now c.in-OnLine.there c.in-OnLine.inner c.get.result.now c.in-OnLine.is c.get.ensures

pub returns-in-OnLine-clause-lighter : goal.returns-in-OnLine-clause-lighter
returns-in-OnLine-clause-lighter c = omega (arith, ap statement_weight c.in-OnLine.is ∙ weight-OnLine _ _, ap statement_weight c.get.ensures)

pub returns-in-Nothing-clause-begins : goal.returns-in-Nothing-clause-begins
returns-in-Nothing-clause-begins c = λ knowing w first s.
    let e : Env = record { scope = c.args.scope.now; first = first; values = []; otherwise = None } in
    to_Nothing knowing w e (at s c.args.store.now) c.args.line.now c.args.statement.now c.in-Nothing.is

pub returns-in-Ok-All-clause-begins : goal.returns-in-Ok-All-clause-begins
returns-in-Ok-All-clause-begins c = λ knowing w first s.
    let e : Env = record { scope = c.args.scope.now; first = first; values = []; otherwise = None } in
    let o = on_value (eval knowing w (here e c.args.line.now) (expression_view c.in-Evaluate.expression) (at s c.args.store.now)) (λ v u. on u) in
    to_Evaluate knowing w e (at s c.args.store.now) c.args.line.now c.args.statement.now c.in-Evaluate.expression c.in-Evaluate.is
    ∙ passes_all c.pass_over.result c.args.store.now c.pass_over.new.store o on (at s c.pass_over.new.store) (c.pass_over.ensures knowing w first s on) (cc (c.in-Ok-All.is, c.in-Ok-All.field-0-is))

pub returns-in-Ok-Nothing-clause-begins : goal.returns-in-Ok-Nothing-clause-begins
returns-in-Ok-Nothing-clause-begins c = λ knowing w first s.
    let e : Env = record { scope = c.args.scope.now; first = first; values = []; otherwise = None } in
    let o = on_value (eval knowing w (here e c.args.line.now) (expression_view c.in-Evaluate.expression) (at s c.args.store.now)) (λ v u. on u) in
    ap (λ st. run knowing w (here e c.args.line.now) (statement_view c.args.statement.now) (at s st))
    (sym (passes_nothing c.pass_over.result c.args.store.now c.pass_over.new.store o on (at s c.pass_over.new.store) (c.pass_over.ensures knowing w first s on) (cc (c.in-Ok-Nothing.is, c.in-Ok-Nothing.field-0-is))))

pub returns-in-Err-clause-begins : goal.returns-in-Err-clause-begins
returns-in-Err-clause-begins c = λ knowing w first s.
    let e : Env = record { scope = c.args.scope.now; first = first; values = []; otherwise = None } in
    let o = on_value (eval knowing w (here e c.args.line.now) (expression_view c.in-Evaluate.expression) (at s c.args.store.now)) (λ v u. on u) in
    stops_as c.in-Err.stop (at s c.pass_over.new.store) (run knowing w (here e c.args.line.now) (statement_view c.args.statement.now) (at s c.args.store.now)) o (to_Evaluate knowing w e (at s c.args.store.now) c.args.line.now c.args.statement.now c.in-Evaluate.expression c.in-Evaluate.is)
    (passes_stops c.pass_over.result c.args.store.now c.pass_over.new.store o on (at s c.pass_over.new.store) (c.pass_over.ensures knowing w first s on) c.in-Err.stop c.in-Err.is)

pub returns-in-Ok-Holds-clause-begins : goal.returns-in-Ok-Holds-clause-begins
returns-in-Ok-Holds-clause-begins c = λ knowing w first s.
    let e : Env = record { scope = c.args.scope.now; first = first; values = []; otherwise = None } in
    let d = here e c.args.line.now in
    let if_so : State → Res = λ u. run knowing w d (statement_view c.in-Choose.first) u in
    let if_not : State → Res = λ u. run knowing w d (statement_view c.in-Choose.second) u in
    let o = on_value (eval knowing w d (expression_view c.in-Choose.test) (at s c.args.store.now)) (λ v u. elim (is_true v) [ true ↦ if_so u | false ↦ if_not u ]) in
    run_choice knowing w e (at s c.args.store.now) c.args.line.now c.args.statement.now c.in-Choose.test c.in-Choose.first c.in-Choose.second c.in-Choose.is
    ∙ asks_holds c.ask.result c.args.store.now c.ask.new.store o if_so if_not (at s c.ask.new.store) (c.ask.ensures knowing w first s if_so if_not) (cc (c.in-Ok-Holds.is, c.in-Ok-Holds.field-0-is))
    ∙ ap (λ x. run knowing w d (statement_view x) (at s c.ask.new.store)) (sym c.get-in-Ok-Holds.ensures)

pub returns-in-Ok-Fails-clause-begins : goal.returns-in-Ok-Fails-clause-begins
returns-in-Ok-Fails-clause-begins c = λ knowing w first s.
    let e : Env = record { scope = c.args.scope.now; first = first; values = []; otherwise = None } in
    let d = here e c.args.line.now in
    let if_so : State → Res = λ u. run knowing w d (statement_view c.in-Choose.first) u in
    let if_not : State → Res = λ u. run knowing w d (statement_view c.in-Choose.second) u in
    let o = on_value (eval knowing w d (expression_view c.in-Choose.test) (at s c.args.store.now)) (λ v u. elim (is_true v) [ true ↦ if_so u | false ↦ if_not u ]) in
    run_choice knowing w e (at s c.args.store.now) c.args.line.now c.args.statement.now c.in-Choose.test c.in-Choose.first c.in-Choose.second c.in-Choose.is
    ∙ asks_fails c.ask.result c.args.store.now c.ask.new.store o if_so if_not (at s c.ask.new.store) (c.ask.ensures knowing w first s if_so if_not) (cc (c.in-Ok-Fails.is, c.in-Ok-Fails.field-0-is))
    ∙ ap (λ x. run knowing w d (statement_view x) (at s c.ask.new.store)) (sym c.get-in-Ok-Fails.ensures)

pub returns-in-Ok-Waits-clause-begins : goal.returns-in-Ok-Waits-clause-begins
returns-in-Ok-Waits-clause-begins c = λ knowing w first s.
    let e : Env = record { scope = c.args.scope.now; first = first; values = []; otherwise = None } in
    let d = here e c.args.line.now in
    let if_so : State → Res = λ u. on u in
    let o = on_value (eval knowing w d (expression_view c.in-Choose.test) (at s c.args.store.now)) (λ v u. elim (is_true v) [ true ↦ if_so u | false ↦ if_so u ]) in
    ap (λ st. run knowing w d (statement_view c.args.statement.now) (at s st))
    (sym (asks_waits c.ask.result c.args.store.now c.ask.new.store o if_so if_so (at s c.ask.new.store) (c.ask.ensures knowing w first s if_so if_so) (cc (c.in-Ok-Waits.is, c.in-Ok-Waits.field-0-is))))

pub returns-in-Err-ask-clause-begins : goal.returns-in-Err-ask-clause-begins
returns-in-Err-ask-clause-begins c = λ knowing w first s.
    let e : Env = record { scope = c.args.scope.now; first = first; values = []; otherwise = None } in
    let d = here e c.args.line.now in
    let if_so : State → Res = λ u. run knowing w d (statement_view c.in-Choose.first) u in
    let if_not : State → Res = λ u. run knowing w d (statement_view c.in-Choose.second) u in
    let o = on_value (eval knowing w d (expression_view c.in-Choose.test) (at s c.args.store.now)) (λ v u. elim (is_true v) [ true ↦ if_so u | false ↦ if_not u ]) in
    stops_as c.in-Err-ask.stop (at s c.ask.new.store) (run knowing w d (statement_view c.args.statement.now) (at s c.args.store.now)) o (run_choice knowing w e (at s c.args.store.now) c.args.line.now c.args.statement.now c.in-Choose.test c.in-Choose.first c.in-Choose.second c.in-Choose.is)
    (asks_stops c.ask.result c.args.store.now c.ask.new.store o if_so if_not (at s c.ask.new.store) (c.ask.ensures knowing w first s if_so if_not) c.in-Err-ask.stop c.in-Err-ask.is)

pub returns-in-Ok-Holds-clause-lighter : goal.returns-in-Ok-Holds-clause-lighter
returns-in-Ok-Holds-clause-lighter c = omega (arith, ap statement_weight c.in-Choose.is ∙ weight-Choose _ _ _, ap statement_weight c.get-in-Ok-Holds.ensures)

pub returns-in-Ok-Fails-clause-lighter : goal.returns-in-Ok-Fails-clause-lighter
returns-in-Ok-Fails-clause-lighter c = omega (arith, ap statement_weight c.in-Choose.is ∙ weight-Choose _ _ _, ap statement_weight c.get-in-Ok-Fails.ensures)
