use Rattle.std.proofs.Common.{◌∙◌, sym}
use Rattle.ec_ctypes.specs.views.Types.{ty_view}
use Rattle.ec_scopes.specs.Seen.{world_of}
use Rattle.ec_rules.specs.Seen.{operand_view}
use Rattle.ec_initializers.specs.Frames.{frames_view}
use Rattle.ec_resolve_initials.specs.Spots.{spots_view}
use Rattle.ec_initializers.proofs.FrameLemmas.{opened_on, gone_on}
use Rattle.ec_resolve_initials.proofs.Spotting.{spotted_on, spots_on}
use Rattle.ec_resolve_initials.proofs.goals.go_in.Goals as goal

pub loop-left-preserved : goal.loop-left-preserved
loop-left-preserved c =
    let w = world_of c.args.checker.now in
    let o = operand_view c.args.o.now in
    let here = ty_view c.loop-left.here in
    let first = c.in-Some.first in
    let frames = frames_view c.loop-left.frames in
    let more_frames = frames_view c.open_part.new.frames in
    let spots = spots_view c.loop-left.spots in
    let more_spots = spots_view c.open_part.new.spots in
    let inside = sym c.is_whole.ensures ∙ c.if-is_whole.false in
    let opened = opened_on w here frames more_frames c.in_ok-first.field-0 first c.in_ok-first.ensures.frames c.in-Some.is in
    let spotted = spotted_on w c.args.offset spots more_spots c.in_ok-first.field-0 first c.in_ok-first.ensures.spots c.in-Some.is in
    record {
      gone = c.loop-left.invariant.gone ∙ gone_on c.loop-left.left w o here (ty_view first) frames more_frames c.loop-left-test.true inside opened.0 opened.1;
      place = c.loop-left.invariant.place ∙ spots_on c.loop-left.left w o c.args.offset here (ty_view first) spots more_spots c.loop-left-test.true inside opened.0 spotted;
    }
