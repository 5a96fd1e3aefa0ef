use Rattle.std.proofs.Common.{◌∙◌, sym, ap}
use Rattle.ec_replay.specs.Part.{Replaying}
use Rattle.ec_replay.proofs.Parts.{recorded_same, recorded_other, recorded_none}
use Rattle.ec_replay.proofs.transcript_link.TranscriptLink.recorded.Goals.{in_default-via-in-Some+else-is_same, in_default-via-in_default}
use Rattle.ec_replay.proofs.transcript_link.TranscriptLink.recorded.Goals as goal

pub returns-in_ok-clone-in-Some : goal.returns-in_ok-clone-in-Some
returns-in_ok-clone-in-Some c =
    let left = ap (λ (l : Replaying). l.left) c.self.view_is in
    recorded_same c.self.inside.exchanges c.self.inside.given c.args.self.now.left c.args.request.now c.in-Some.field-0.now c.in_ok-clone-in-Some.field-0
    left c.in-Some.ensures (sym c.is_same.ensures ∙ c.if-is_same.true) c.in_ok-clone-in-Some.ensures.cases

pub returns-in_default : goal.returns-in_default
returns-in_default c =
    let left = ap (λ (l : Replaying). l.left) c.self.view_is in
    elim c.in_default.branch [
      | in_default-via-in-Some+else-is_same w ↦
          recorded_other c.self.inside.exchanges c.self.inside.given c.args.self.now.left c.args.request.now w.in-Some.field-0.now
          left w.in-Some.ensures (sym w.is_same.ensures ∙ w.if-is_same.false)
      | in_default-via-in_default w ↦
          recorded_none c.self.inside.exchanges c.self.inside.given c.args.self.now.left c.args.request.now left w.in_default.ensures
    ]
