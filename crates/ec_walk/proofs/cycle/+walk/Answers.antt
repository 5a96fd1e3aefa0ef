use Rattle.std.proofs.Common.{◌≡◌, ◌∙◌, ℕ, List, [], ◌∷◌, ◌++◌, Option, drop, map, sym, ap, subst, refl}
use Rattle.ec_ctypes.specs.declared.tree.decl.Decl as a
use Rattle.ec_ctypes.specs.views.Exprs.{expr_view, base_view, dims_view, declarators_view}
use Rattle.ec_known.specs.Forms.{arguments_view}
use Rattle.ec_typing_defs.specs.Worlds.{Rule}
use Rattle.ec_typing_defs.specs.Expressions.{lengths, is_varchar, last_length, member_decl, member_items}
use Rattle.ec_scopes.specs.Entries.{place_view, named_view, type_view}
use Rattle.ec_scopes.specs.Seen.{world_of, IsDone}
use Rattle.ec_scopes.proofs.Steps.{goes_same, goes_step, goes_from}
use Rattle.ec_rules.specs.Seen.{operand_view}
use Rattle.ec_walk.specs.Dims.{last_length_of}
use Rattle.ec_walk.specs.Spines.{behind, risen}
use Rattle.ec_walk.proofs.Leanings.{leans, spine_view, spine-push}
use Rattle.ec_walk.proofs.Trees.{decl_seen}
use Rattle.ec_walk.proofs.Steps.{args_step, lengths_step, members_step, items_step, inits_step, last-law, outer-law}
use Rattle.ec_walk.proofs.cycle.+walk.Goals as goal

pub args-loop-e-preserved : goal.args-loop-e-preserved
args-loop-e-preserved t c = args_step (place_view c.args.at) (arguments_view c.loop-e.forms) (arguments_view c.behind_first-forms.result) c.args.es.now c.loop-e.e-index c.e-item.result c.loop-e.os c.push.new.self c.in_ok-o.o c.loop-e-test.true c.e-item.is c.in_ok-push.ensures.ok c.behind_first-forms.ensures c.loop-e.invariant c.in_ok-o.ensures

pub expr_within-loop-left-smaller : goal.expr_within-loop-left-smaller
expr_within-loop-left-smaller t c = leans (expr_view c.loop-left.first.now) (expr_view c.in-Some.left.now) c.in-Some.ensures

pub expr_within-loop-next-preserved : goal.expr_within-loop-next-preserved
expr_within-loop-next-preserved t c =
    let at = place_view c.args.at in
    goes_step (behind at (expr_view c.in-Some-pop.next.now) (operand_view c.loop-next.o)) (risen at (spine_view c.pop.new.self)) _
    (goes_from (ap (λ es. risen at es (operand_view c.loop-next.o) (world_of c.loop-next.checker)) (ap spine_view c.in-Some-pop.ensures ∙ spine-push c.pop.new.self c.in-Some-pop.next)) c.loop-next.invariant) c.in_ok-o-2.ensures

pub init_list-loop-init-preserved : goal.init_list-loop-init-preserved
init_list-loop-init-preserved t c = inits_step (place_view c.args.at) c.args.inits.now c.loop-init.init-index c.init-item.result c.loop-init-test.true c.init-item.is c.loop-init.invariant c.in_ok-init_exprs.ensures

pub lengths_within-loop-dim-preserved : goal.lengths_within-loop-dim-preserved
lengths_within-loop-dim-preserved t c = lengths_step (place_view c.args.at) c.args.dims.now c.loop-dim.dim-index c.dim-item.result c.loop-dim.lengths c.push.new.self c.in_ok-n.n c.loop-dim-test.true c.dim-item.is c.in_ok-push.ensures.ok c.loop-dim.invariant c.in_ok-n.ensures

pub member_decl-loop-item-init : goal.member_decl-loop-item-init
member_decl-loop-item-init t c =
    let at = place_view c.in_ok-at.at in
    let ms = named_view type_view c.args.members.now in
    let w = world_of c.base_within.new.checker in
    goes_from (ap (λ v. member_items at v (type_view c.in_ok-ty.ty) (declarators_view c.as_slice-item-items.result.now) ms w) (sym c.is_varchar-varchar.ensures))
    (goes_from (ap (λ xs. member_items at (is_varchar (base_view (a.out-Decl c.args.d.now).base)) (type_view c.in_ok-ty.ty) (declarators_view xs) ms w) (sym c.as_slice-item-items.ensures))
    (goes_step _ _ _ (goes_step _ _ _ (goes_same (ap (λ d. member_decl d ms (world_of c.args.checker.now)) (decl_seen c.args.d.now))) c.in_ok-at.ensures) c.in_ok-ty.ensures))

pub member_decl-loop-item-preserved : goal.member_decl-loop-item-preserved
member_decl-loop-item-preserved t c = items_step (place_view c.in_ok-at.at) c.is_varchar-varchar.result (type_view c.loop-item.ty-1) c.as_slice-item-items.result.now c.loop-item.item-index c.item-item.result _ c.loop-item-test.true c.item-item.is c.loop-item.invariant c.in_ok-member_item.ensures

pub members-loop-d-preserved : goal.members-loop-d-preserved
members-loop-d-preserved t c = members_step c.args.ds.now c.loop-d.d-index c.d-item.result _ c.loop-d-test.true c.d-item.is c.loop-d.invariant c.in_ok-member_decl.ensures

pub last_length_within-returns : goal.last_length_within-returns
last_length_within-returns t c =
    let at = place_view c.args.at in
    let old = c.args.checker.now in
    let new = c.lengths_within.new.checker in
    let done = last-law at c.args.dims.now (subst (λ l. IsDone (lengths at (dims_view l) (world_of old)) old new c.in_ok-ns.ns) c.last_apart.ensures.last c.in_ok-ns.ensures) in
    subst (λ (n : Option ℕ). IsDone (last_length at (dims_view c.args.dims.now) (world_of old)) old new n) (sym (c.last_of.ensures ∙ ap last_length_of c.as_slice.ensures)) done

pub outer_lengths_within-returns : goal.outer_lengths_within-returns
outer_lengths_within-returns t c =
    let at = place_view c.args.at in
    let old = c.args.checker.now in
    subst (λ (r : Rule (List (Option ℕ))). IsDone (r (world_of old)) old c.lengths_within.new.checker c.in_ok-ns.ns)
    (ap (λ l. lengths at (dims_view l)) c.last_apart.ensures.outer ∙ outer-law at c.args.dims.now) c.in_ok-ns.ensures
