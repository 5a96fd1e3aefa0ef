use Rattle.std.proofs.Common.{◌∙◌, Err, subst, sym}
use Rattle.ec_call_defs.specs.Answers.{count_of, done, replied, server_code}
use Rattle.ec_call_defs.specs.Outcomes.{counted_area, noticed, refused, with_memory}
use Rattle.ec_call_defs.specs.Running.{is_wanted, table_kept}
use Rattle.ec_runtime.specs.Says.{Says, holding}
use Rattle.ec_runtime.specs.Statements.{outputs_view}
use Rattle.ec_runtime.proofs.answering.answered.Goals as goal

pub returns-in-Done-clause-changed : goal.returns-in-Done-clause-changed
returns-in-Done-clause-changed c = λ s.
    let there = holding c.args.store.now c.args.areas.now s in
    let here = holding c.done.new.store c.args.areas.now s in
    let outputs = outputs_view c.args.outputs.now in
    subst (λ r. Says c.done.result (replied c.args.line.0 (is_wanted outputs) (table_kept c.args.line.0 outputs) r there) here) (sym c.in-Done.is)
    (subst (λ wanted. Says c.done.result (done c.args.line.0 wanted c.in-Done.count (with_memory (counted_area (count_of c.in-Done.count) (noticed c.in-Done.notice c.args.store.now)) there)) here) c.is_wanted.ensures
    (subst (λ m. Says c.done.result (done c.args.line.0 c.is_wanted.result c.in-Done.count (with_memory m there)) here)
    (c.tell_count.ensures.area ∙ (λ j. counted_area (c.count_of.ensures j) (c.tell_notice-in-Done.ensures.area j))) (c.done.ensures.quiet there)))

pub returns-in-Refused-clause-changed : goal.returns-in-Refused-clause-changed
returns-in-Refused-clause-changed c = λ s.
    let there = holding c.args.store.now c.args.areas.now s in
    let here = holding c.refused.new.store c.args.areas.now s in
    let outputs = outputs_view c.args.outputs.now in
    subst (λ r. Says {A = Unit {0}} (Err c.refused.result) (replied c.args.line.0 (is_wanted outputs) (table_kept c.args.line.0 outputs) r there) here) (sym c.in-Refused.is)
    (subst (λ message. Says {A = Unit {0}} (Err c.refused.result) (refused c.args.line.0 (server_code c.in-Refused.state.0) c.in-Refused.state.0 message there) here) c.as_slice.ensures (c.refused.ensures.quiet there))
