use Rattle.std.proofs.Common.{◌∙◌, ◌++◌, ◌+◌, sym, ap, drop, map, List, arith}
use Rattle.std.proofs.Math.ListN.{drop_of_length-le}
use Rattle.ec_ctypes.proofs.Shapes.{drop_item}
use Rattle.ec_ctypes.specs.declared.checked.bound.Place.{Place}
use Rattle.ec_ctypes.specs.views.Checked.{place_view}
use Rattle.ec_ctypes.specs.views.Exprs.{expr_view}
use Rattle.ec_arguments.specs.Writing.{members_arguments}
use Rattle.ec_expansion_defs.specs.Calls.{argument_expr, member_of}
use Rattle.ec_expand_calls.proofs.arguments.push_members.Goals as goal

pub loop-place-preserved : goal.loop-place-preserved
loop-place-preserved c = λ rest.
    c.in_ok-push_member.ensures.is (members_arguments (map member_of (map place_view (drop (c.loop-place.place-index + 1) c.as_slice-place-items.result.now))) rest)
    ∙ ap (λ (ps : List Place). map expr_view c.loop-place.args ++ map argument_expr (members_arguments (map member_of (map place_view ps)) rest))
    (sym (drop_item c.as_slice-place-items.result.now c.loop-place.place-index c.place-item.result c.loop-place-test.true c.place-item.is))
    ∙ c.loop-place.invariant rest

pub returns : goal.returns
returns c = record {
  is = λ rest.
      ap (λ (ps : List Place). map expr_view c.loop-place.args ++ map argument_expr (members_arguments (map member_of (map place_view ps)) rest))
      (sym (drop_of_length-le c.as_slice-place-items.result.now {i = c.loop-place.place-index} (omega (arith, c.loop-place-test.false))))
      ∙ c.loop-place.invariant rest;
}
