use Rattle.std.proofs.Common.{◌∙◌, ◌<◌, ◌++◌, length, option_map, slice_get, drop, ◌+◌, Some, sym, ap, arith}
use Rattle.ec_scopes.specs.Entries.{named_view, type_view}
use Rattle.ec_scopes.specs.Offsets.{starts, IsPlaced}
use Rattle.ec_scopes.specs.Structs.{infos, shapes_of, member_shape}
use Rattle.ec_scopes.proofs.Loops.{one_more}
use Rattle.ec_scopes.proofs.Starting.{start-step}
use Rattle.ec_scopes.proofs.structs.StructTable.offsets.Goals as goal

pub loop-i-preserved : goal.loop-i-preserved
loop-i-preserved c =
    let is = infos c.args.self.now.0 c.args.self.now.1 in
    let lt : c.loop-i.i < length c.args.members.now = omega (arith, c.loop-i-test.true) in
    let shape = member_shape is (option_map (λ e. e.1) (slice_get c.args.members.now c.loop-i.i)) in
    let place : IsPlaced c.loop-i.used shape c.in-Some.place = c.in-Some.ensures shape c.member_measure.ensures.measure in
    record {
      within = omega (arith, lt);
      rest =
          sym (one_more c.loop-i.offsets c.push.new.self c.in-Some.place.0 c.in_ok-push-in-Some.ensures.ok (starts (shapes_of is) c.in-Some.place.1 (named_view type_view (drop (c.loop-i.i + 1) c.args.members.now))))
          ∙ ap (λ l. c.loop-i.offsets ++ l) (sym (start-step is c.loop-i.used c.in-Some.place c.args.members.now c.loop-i.i lt place)) ∙ c.loop-i.invariant.rest;
    }
