use Rattle.std.proofs.Common.{◌∙◌, ap, arith, sym, []}
use Rattle.ec_code.specs.Views.{expressions_view}
use Rattle.ec_meaning_defs.specs.evaluation.Evaluate.{collect}
use Rattle.ec_meaning_defs.specs.evaluation.Results.{on}
use Rattle.ec_machine.specs.Found.{found_view}
use Rattle.ec_machine.specs.Frames.{here}
use Rattle.ec_machine.specs.Goes.{env_of}
use Rattle.ec_machine.specs.Weights.{frames_weight}
use Rattle.ec_machine.proofs.Finding.{finds_none, finds_some, near_left, no_values_found, value_stands}
use Rattle.ec_machine.proofs.Weighing.{nearer}
use Rattle.ec_machine.proofs.machine.Machine.pass_all.Goals as goal

pub returns-in-Some-clause-goes : goal.returns-in-Some-clause-goes
returns-in-Some-clause-goes c =
    let fs = c.args.functions.now in
    let m = c.args.self.now in
    let n = c.pass.new.self in
    let d = here (env_of m) m.line in
    let a = finds_some fs m n (env_of m) m.line (λ knowing w o. o) (λ knowing w t. collect knowing w d [] (expressions_view c.args.values.now) t (λ vs u. on u)) (found_view c.pass.result) c.pass.new.left c.in-Some.value (sym c.get.ensures ∙ c.in-Some.is)
    (no_values_found fs m n (λ knowing w o. o) (found_view c.pass.result) c.pass.new.left (λ vs knowing w t. collect knowing w d vs (expressions_view c.args.values.now) t (λ vs u. on u)) c.pass.ensures.finds) in
    value_stands fs m n (env_of m) m.line (λ knowing w t. collect knowing w d [] (expressions_view c.args.values.now) t (λ vs u. on u)) c.in-Some.value a.0 a.1

pub returns-in-None-clause-goes : goal.returns-in-None-clause-goes
returns-in-None-clause-goes c =
    let fs = c.args.functions.now in
    let m = c.args.self.now in
    let n = c.pass.new.self in
    let d = here (env_of m) m.line in
    finds_none fs m n (env_of m) m.line (λ knowing w o. o) (λ knowing w t. collect knowing w d [] (expressions_view c.args.values.now) t (λ vs u. on u)) (found_view c.pass.result) c.pass.new.left (sym c.get.ensures ∙ c.in-None.is)
    (no_values_found fs m n (λ knowing w o. o) (found_view c.pass.result) c.pass.new.left (λ vs knowing w t. collect knowing w d vs (expressions_view c.args.values.now) t (λ vs u. on u)) c.pass.ensures.finds)

pub returns-in-Some-clause-nears : goal.returns-in-Some-clause-nears
returns-in-Some-clause-nears c =
    let fs = c.args.functions.now in
    let m = c.args.self.now in
    let n = c.pass.new.self in
    let d = here (env_of m) m.line in
    let a = finds_some fs m n (env_of m) m.line (λ knowing w o. o) (λ knowing w t. collect knowing w d [] (expressions_view c.args.values.now) t (λ vs u. on u)) (found_view c.pass.result) c.pass.new.left c.in-Some.value (sym c.get.ensures ∙ c.in-Some.is)
    (no_values_found fs m n (λ knowing w o. o) (found_view c.pass.result) c.pass.new.left (λ vs knowing w t. collect knowing w d vs (expressions_view c.args.values.now) t (λ vs u. on u)) c.pass.ensures.finds) in
    nearer _ _ _ _ (omega (arith, ap frames_weight a.0.frames))

pub returns-in-None-clause-nears : goal.returns-in-None-clause-nears
returns-in-None-clause-nears c = omega (arith, near_left c.args.self.now.turns (found_view c.pass.result) c.pass.new.left c.pass.new.self _ (sym c.get.ensures ∙ c.in-None.is) c.pass.ensures.nears)
