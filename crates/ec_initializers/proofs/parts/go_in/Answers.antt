use Rattle.std.proofs.Common.{◌≡◌, ◌∙◌, sym}
use Rattle.ec_ctypes.specs.views.Types.{ty_view}
use Rattle.ec_scopes.specs.Seen.{world_of}
use Rattle.ec_rules.specs.Seen.{operand_view}
use Rattle.ec_initializers.specs.Frames.{frames_view}
use Rattle.ec_initializers.proofs.FrameLemmas.{opened_on, gone_on}
use Rattle.ec_initializers.proofs.parts.go_in.Goals as goal

pub loop-left-preserved : goal.loop-left-preserved
loop-left-preserved c =
    let w = world_of c.args.checker.now in
    let here = ty_view c.loop-left.here in
    let before = frames_view c.loop-left.frames in
    let after = frames_view c.open_first.new.frames in
    let opened = opened_on w here before after c.in_ok-first.field-0 c.in-Some.first c.in_ok-first.ensures c.in-Some.is in
    c.loop-left.invariant
    ∙ gone_on c.loop-left.left w (operand_view c.args.o.now) here (ty_view c.in-Some.first) before after c.loop-left-test.true (sym c.is_whole.ensures ∙ c.if-is_whole.false) opened.0 opened.1
