use Rattle.std.proofs.Common.{◌≡◌, refl, rules}
use Rattle.ec_ctypes.specs.declared.tree.decl.Init.{the_lemmas}
use Rattle.ec_ctypes.specs.trees.Exprs.{many}
use Rattle.ec_ctypes.specs.views.Exprs.{init_view, inits_view}
use Rattle.ec_scopes.specs.Entries.{place_view}
use Rattle.ec_resolve_initials.specs.Left.{left_view}
use Rattle.ec_resolve_values.specs.initial_parts.Parts.{parts_view}
use Rattle.ec_resolve_statements.proofs.Filling.{fill_step, fill_end, many_reached_as}
use Rattle.ec_resolve_statements.proofs.fill.+filling.Goals as goal

pub fill-loop-init-preserved : goal.fill-loop-init-preserved
fill-loop-init-preserved t c =
    fill_step c.loop-init.resolver (place_view c.args.at) c.args.is_global c.args.list.now c.loop-init.init-index c.init-item.result (left_view c.loop-init.rest) (parts_view c.loop-init.parts)
    c.loop-init-test.true c.init-item.is c.loop-init.invariant c.in_ok-rest.ensures

pub fill-returns : goal.fill-returns
fill-returns t c =
    fill_end c.loop-init.resolver (place_view c.args.at) c.args.is_global c.args.list.now c.loop-init.init-index (left_view c.loop-init.rest) (parts_view c.loop-init.parts)
    c.loop-init-test.false c.loop-init.invariant

pub fill_part-returns-in_ok-_left-in-Many : goal.fill_part-returns-in_ok-_left-in-Many
fill_part-returns-in_ok-_left-in-Many t c =
    let list = inits_view c.as_slice-list.result.now in
    let is : init_view c.args.init.now ≡ many list = search (rules, the_lemmas) in
    many_reached_as (place_view c.args.at) c.args.is_global (left_view c.args.left) (init_view c.args.init.now) list list (parts_view c.args.parts.now) c.args.resolver.now is refl
    c.in_ok-slot-in-Many.ensures.slot c.in_ok-slot-in-Many.ensures.place c.in_ok-frames-in-Many.ensures c.in_ok-begun-in-Many.ensures c.in_ok-_left-in-Many.ensures
