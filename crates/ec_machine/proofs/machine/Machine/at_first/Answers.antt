use Rattle.std.proofs.Common.{◌∙◌, refl, sym}
use Rattle.ec_code.specs.Views.{plain_view}
use Rattle.ec_meaning_defs.specs.evaluation.Evaluate.{eval}
use Rattle.ec_plain.specs.Outcomes.{outcome_view}
use Rattle.ec_machine.specs.Found.{found_view}
use Rattle.ec_machine.specs.Frames.{here}
use Rattle.ec_machine.specs.Goes.{at, env_of}
use Rattle.ec_machine.proofs.Finding.{alone_stop, alone_value}
use Rattle.ec_machine.proofs.Quickly.{has_none, has_value}
use Rattle.ec_machine.proofs.machine.Machine.at_first.Goals as goal

pub returns-in-Ok-clause-finds : goal.returns-in-Ok-clause-finds
returns-in-Ok-clause-finds c =
    let m = c.args.self.now in
    alone_value m (record m { store = c.evaluate.new.store }) (λ knowing w t. eval knowing w (here (env_of m) m.line) (plain_view c.args.plain.now) t) (found_view c.value.result) c.args.left.now c.in-Ok.value c.value.ensures (record { frames = refl; env = refl; same_line = refl })
    (λ knowing w s. has_value c.args.plain.now c.objects.result.now m.scope m.store c.evaluate.new.store (outcome_view c.evaluate.result) c.objects.ensures c.evaluate.ensures knowing w m.line.0 m.first (at s m) c.in-Ok.value (sym c.get.ensures ∙ c.in-Ok.is))

pub returns-in-Err-clause-finds : goal.returns-in-Err-clause-finds
returns-in-Err-clause-finds c =
    let m = c.args.self.now in
    alone_stop m (record m { store = c.evaluate.new.store }) (λ knowing w t. eval knowing w (here (env_of m) m.line) (plain_view c.args.plain.now) t) (found_view c.waits.result) c.waits.new.left c.stopped.result c.waits.ensures.none c.waits.ensures.left
    (λ knowing w s. has_none c.args.plain.now c.objects.result.now m.scope m.store c.evaluate.new.store (outcome_view c.evaluate.result) c.objects.ensures c.evaluate.ensures knowing w m.line.0 m.first (at s m) c.in-Err.why c.stopped.result (sym c.get.ensures ∙ c.in-Err.is) c.stopped.ensures)
