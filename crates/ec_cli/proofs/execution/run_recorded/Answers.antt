use Rattle.std.proofs.Common.{refl, inl, inr}
use Rattle.ec_link.specs.Rack.{slots_of}
use Rattle.ec_link.specs.Slot.{states}
use Rattle.ec_cli.specs.Answers.{grown}
use Rattle.ec_cli.proofs.Recordings.{front_unchanged}
use Rattle.ec_cli.proofs.execution.run_recorded.Goals as goal

pub returns-in-Ok-clause-carried : goal.returns-in-Ok-clause-carried
returns-in-Ok-clause-carried g c = inl c.run_marked.ensures.carried

pub returns-in-Err-clause-carried : goal.returns-in-Err-clause-carried
returns-in-Err-clause-carried g c = inr (refl, record { output = refl; errors = refl; links = refl })

pub returns-in-Err-clause-recorded : goal.returns-in-Err-clause-recorded
returns-in-Err-clause-recorded g c = λ e. front_unchanged (states (slots_of c.args.rack.now)) (grown c.args.rack.now c.args.rack.now) c.args.err.now c.args.err.now refl
