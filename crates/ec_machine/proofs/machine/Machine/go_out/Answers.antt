use Rattle.std.proofs.Common.{◌∙◌, ap, arith, sym}
use Rattle.std.specs.Option.{option_map}
use Rattle.ec_meaning_defs.specs.evaluation.Results.{back}
use Rattle.ec_values.specs.Words.{word_view}
use Rattle.ec_machine.specs.Found.{found_view}
use Rattle.ec_machine.specs.Frames.{behind_by, here, left_by, outside}
use Rattle.ec_machine.specs.Goes.{env_of}
use Rattle.ec_machine.specs.Weights.{frames_weight, remaining}
use Rattle.ec_machine.proofs.Finding.{finds_none, finds_some, goes_behind, near_left}
use Rattle.ec_machine.proofs.machine.Machine.go_out.Goals as goal

pub returns-in-Some-clause-goes : goal.returns-in-Some-clause-goes
returns-in-Some-clause-goes c =
    let fs = c.args.functions.now in
    let m = c.args.self.now in
    let x = c.args.way in
    let e = outside x (env_of m) in
    let a = finds_some fs m c.ended.new.self e x.line (behind_by (here e x.line) x.steps.now) (λ knowing w t. left_by x (back (option_map word_view c.args.value) t)) (found_view c.ended.result) c.ended.new.left c.in-Some.value (sym c.get.ensures ∙ c.in-Some.is) (c.ended.ensures.finds fs) in
    goes_behind fs m c.ended.new.self c.go_on.new.self e x.line x.steps.now (λ knowing w t. left_by x (back (option_map word_view c.args.value) t)) c.in-Some.value c.go_on.result a.0 (omega (arith, c.ended.ensures.turns)) a.1 c.go_on.ensures.goes

pub returns-in-None-clause-goes : goal.returns-in-None-clause-goes
returns-in-None-clause-goes c =
    let fs = c.args.functions.now in
    let m = c.args.self.now in
    let x = c.args.way in
    let e = outside x (env_of m) in
    finds_none fs m c.ended.new.self e x.line (behind_by (here e x.line) x.steps.now) (λ knowing w t. left_by x (back (option_map word_view c.args.value) t)) (found_view c.ended.result) c.ended.new.left (sym c.get.ensures ∙ c.in-None.is) (c.ended.ensures.finds fs)

pub returns-in-Some-clause-nears : goal.returns-in-Some-clause-nears
returns-in-Some-clause-nears c =
    let fs = c.args.functions.now in
    let m = c.args.self.now in
    let x = c.args.way in
    let e = outside x (env_of m) in
    let a = finds_some fs m c.ended.new.self e x.line (behind_by (here e x.line) x.steps.now) (λ knowing w t. left_by x (back (option_map word_view c.args.value) t)) (found_view c.ended.result) c.ended.new.left c.in-Some.value (sym c.get.ensures ∙ c.in-Some.is) (c.ended.ensures.finds fs) in
    omega (arith, c.go_on.ensures.nears, ap (λ t. remaining t c.go_on.result c.go_on.new.self) c.ended.ensures.turns, ap frames_weight a.0.frames)

pub returns-in-None-clause-nears : goal.returns-in-None-clause-nears
returns-in-None-clause-nears c = omega (arith, near_left c.args.self.now.turns (found_view c.ended.result) c.ended.new.left c.ended.new.self 0 (sym c.get.ensures ∙ c.in-None.is) c.ended.ensures.stops)
