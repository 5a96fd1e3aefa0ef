use Rattle.std.proofs.Common.{◌∙◌, ap, refl, sym}
use Rattle.ec_plain.specs.Answered.{answered, ending_of}
use Rattle.ec_plain.specs.Steps.{both_on}
use Rattle.ec_values.specs.Words.{word_view}
use Rattle.ec_machine.specs.Found.{found_view}
use Rattle.ec_machine.specs.Goes.{at}
use Rattle.ec_machine.proofs.Finding.{alone_stop, alone_value}
use Rattle.ec_machine.proofs.Quickly.{stops_over}
use Rattle.ec_machine.proofs.machine.Machine.follow_right.Goals as goal

pub returns-in-Ok-clause-finds : goal.returns-in-Ok-clause-finds
returns-in-Ok-clause-finds c =
    let m = c.args.self.now in
    let n = record m { store = c.finish.new.store } in
    alone_value m n (λ knowing w t. both_on m.line.0 c.args.step.now (word_view c.args.value) (word_view c.args.old) (word_view c.args.right) t) (found_view c.value.result) c.args.left.now c.in-Ok.next c.value.ensures (record { frames = refl; env = refl; same_line = refl })
    (λ knowing w s. c.finish.ensures m.line.0 (at s m) ∙ ap (λ r. answered m.line.0 r (at s n)) (sym c.get.ensures ∙ c.in-Ok.is))

pub returns-in-Err-clause-finds : goal.returns-in-Err-clause-finds
returns-in-Err-clause-finds c =
    let m = c.args.self.now in
    let n = record m { store = c.finish.new.store } in
    alone_stop m n (λ knowing w t. both_on m.line.0 c.args.step.now (word_view c.args.value) (word_view c.args.old) (word_view c.args.right) t) (found_view c.waits.result) c.waits.new.left c.stopped.result c.waits.ensures.none c.waits.ensures.left
    (λ knowing w s. stops_over c.stopped.result (ending_of m.line.0 c.in-Err.why) (at s n) _ c.stopped.ensures
    (c.finish.ensures m.line.0 (at s m) ∙ ap (λ r. answered m.line.0 r (at s n)) (sym c.get.ensures ∙ c.in-Err.is)))
