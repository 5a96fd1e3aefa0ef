use Rattle.std.proofs.Common.{◌∙◌, ◌<◌, Some, option_map, slice_get, length, refl, sym, ap, arith}
use Rattle.std.proofs.lemmas.List.{drop_all}
use Rattle.ec_ctypes.specs.Layout.{no_members}
use Rattle.ec_scopes.specs.Entries.{named_view, type_view}
use Rattle.ec_scopes.specs.Measures.{measured, rounded, joined_shape}
use Rattle.ec_scopes.specs.Structs.{infos, shapes_of, member_shape}
use Rattle.ec_scopes.proofs.Sizes.{walked, walk-step, shape-walked, named-length}
use Rattle.ec_scopes.proofs.structs.StructTable.struct_measure.Goals as goal

pub loop-i-init : goal.loop-i-init
loop-i-init c = record {
  within = omega arith;
  small = record { size = omega arith; positive = omega arith; align = omega arith };
  rest = (Some no_members, refl, refl);
}

pub loop-i-preserved : goal.loop-i-preserved
loop-i-preserved c =
    let is = infos c.args.self.now.0 c.args.self.now.1 in
    let inv = c.loop-i.invariant in
    let lt : c.loop-i.i < length c.args.members.now = omega (arith, c.loop-i-test.true) in
    record {
      within = omega (arith, lt);
      small = c.joined_measure-all.ensures.small;
      rest = (
        joined_shape inv.rest.0 (member_shape is (option_map (λ e. e.1) (slice_get c.args.members.now c.loop-i.i))),
        c.joined_measure-all.ensures.measure inv.rest.0 (member_shape is (option_map (λ e. e.1) (slice_get c.args.members.now c.loop-i.i))) inv.rest.1 c.member_measure.ensures.measure,
        sym (walk-step is inv.rest.0 c.args.members.now c.loop-i.i lt) ∙ inv.rest.2,
      );
    }

pub returns-clause-measure : goal.returns-clause-measure
returns-clause-measure c =
    let is = infos c.args.self.now.0 c.args.self.now.1 in
    let inv = c.loop-i.invariant in
    c.rounded_measure.ensures.measure inv.rest.0 inv.rest.1
    ∙ ap (λ o. measured (option_map rounded o)) (ap (λ l. walked (shapes_of is) inv.rest.0 (named_view type_view l)) (sym (drop_all c.loop-i.i c.args.members.now (omega (arith, c.loop-i-test.false)))) ∙ inv.rest.2)
    ∙ ap measured (sym (shape-walked is (named_view type_view c.args.members.now) (omega (arith, named-length c.args.members.now, c.if-len-eq0.false, c.len.ensures))))
