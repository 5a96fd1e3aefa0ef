use Rattle.std.proofs.Common.{◌∙◌, ◌+◌, ◌<◌, length, sym, ap, arith}
use Rattle.std.proofs.lemmas.List.{drop_all}
use Rattle.ec_typing_defs.specs.Expressions.{stands_for_all}
use Rattle.ec_scopes.specs.Counts.{counted}
use Rattle.ec_scopes.specs.Entries.{named_view, type_view}
use Rattle.ec_scopes.specs.Structs.{infos}
use Rattle.ec_scopes.proofs.HostCounts.{count_step, counted_small, counted_kept, none_counted}
use Rattle.ec_scopes.proofs.structs.StructTable.members_count.Goals as goal

pub loop-i-init : goal.loop-i-init
loop-i-init c = record { within = omega arith; small = omega arith; rest = none_counted (stands_for_all (infos c.args.self.now.0 c.args.self.now.1) (named_view type_view c.args.members.now)) }

pub loop-i-preserved : goal.loop-i-preserved
loop-i-preserved c =
    let lt : c.loop-i.i < length c.args.members.now = omega (arith, c.loop-i-test.true, c.len-i-end.ensures) in
    record {
      within = omega (arith, lt);
      small = counted_small c.joined_count-all.result (c.loop-i.all + c.member_count.result) c.joined_count-all.ensures;
      rest = count_step (infos c.args.self.now.0 c.args.self.now.1) c.args.members.now c.loop-i.i c.loop-i.all c.joined_count-all.result c.member_count.result lt c.member_count.ensures c.joined_count-all.ensures c.loop-i.invariant.rest;
    }

pub returns : goal.returns
returns c =
    let is = infos c.args.self.now.0 c.args.self.now.1 in
    sym (counted_kept c.loop-i.all c.loop-i.invariant.small)
    ∙ ap (λ l. counted (c.loop-i.all + stands_for_all is (named_view type_view l))) (sym (drop_all c.loop-i.i c.args.members.now (omega (arith, c.loop-i-test.false, c.len-i-end.ensures))))
    ∙ c.loop-i.invariant.rest
