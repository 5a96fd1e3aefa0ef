use Rattle.std.proofs.Common.{◌≡◌, ◌∙◌, ap, length}
use Rattle.ec_execution_defs.specs.Programs.{meaning}
use Rattle.ec_execute.specs.Executables.{executable_view}
use Rattle.ec_link.specs.Rack.{slots_of, log_of}
use Rattle.ec_link.specs.Slot.{states}
use Rattle.ec_cli.specs.Answers.{grown}
use Rattle.ec_cli.specs.Executing.{meaning_over}
use Rattle.ec_cli.proofs.Recordings.{carries_recorded, front_recorded, never_rose, text_same}
use Rattle.ec_cli.proofs.Reports.{no_fewer}
use Rattle.ec_cli.proofs.execution.run_marked.Goals as goal

pub logged_since-requires : goal.logged_since-requires
logged_since-requires g c =
    let was : c.len-before.result ≡ length (log_of c.args.rack.now) = c.len-before.ensures ∙ ap length c.log.ensures in
    rw was (no_fewer (log_of c.args.rack.now) (grown c.args.rack.now c.run_over-ending.new.rack) (log_of c.run_over-ending.new.rack) c.run_over-ending.ensures.logged)

pub returns-clause-carried : goal.returns-clause-carried
returns-clause-carried g c =
    let was : c.len-before.result ≡ length (log_of c.args.rack.now) = c.len-before.ensures ∙ ap length c.log.ensures in
    carries_recorded _ _ _ _ _ _ _ _ (meaning_over (meaning (executable_view c.args.executable.now)) c.args.turns c.args.rack.now c.run_over-ending.new.rack) _ _ _ _ _ _ c.args.rack.now c.run_over-ending.new.rack never_rose
    c.run_over-ending.result c.put_transcript.result _
    (text_same c.args.marks.now (states (slots_of c.args.rack.now)) c.logged_since.result.now (log_of c.args.rack.now) (log_of c.run_over-ending.new.rack) c.len-before.result c.requires.marked c.logged_since.ensures was)
    c.run_over-ending.ensures c.put_transcript.ensures

pub returns-clause-recorded : goal.returns-clause-recorded
returns-clause-recorded g c =
    let was : c.len-before.result ≡ length (log_of c.args.rack.now) = c.len-before.ensures ∙ ap length c.log.ensures in
    λ e. front_recorded _ _ (states (slots_of c.args.rack.now)) (grown c.args.rack.now c.run_over-ending.new.rack) _ _ c.run_over-ending.result c.put_transcript.result _
    (text_same c.args.marks.now (states (slots_of c.args.rack.now)) c.logged_since.result.now (log_of c.args.rack.now) (log_of c.run_over-ending.new.rack) c.len-before.result c.requires.marked c.logged_since.ensures was)
    c.put_transcript.ensures
