use Rattle.std.proofs.Common.{◌≡◌, ◌∙◌, ℕ, List, [], ◌∷◌, ◌++◌, Option, drop, map, sym, ap, subst, refl, arith}
use Rattle.ec_ctypes.specs.declared.tree.decl.Decl as a
use Rattle.ec_ctypes.specs.views.Exprs.{expr_view, base_view, dims_view, declarators_view, decl_view}
use Rattle.ec_resolve_forms.specs.declared.resolver.Resolver.{Resolver}
use Rattle.ec_resolve_forms.specs.Seen.{found_view, from, IsReached}
use Rattle.ec_resolve_forms.proofs.Following.{follow}
use Rattle.ec_known.specs.Forms.{arguments_view}
use Rattle.ec_resolving_defs.specs.Expressions.{expr, base, lengths, last_length, member_decl, member_items}
use Rattle.ec_resolving_defs.specs.Storage.{Resolving, chain, checks}
use Rattle.ec_scopes.specs.Entries.{place_view, named_view, type_view}
use Rattle.ec_typing_defs.specs.Expressions.{is_varchar}
use Rattle.ec_typing_defs.specs.Worlds.{place}
use Rattle.ec_walk.specs.Dims.{last_length_of}
use Rattle.ec_walk.proofs.Leanings.{leans, spine_view, spine-push}
use Rattle.ec_walk.proofs.Trees.{decl_seen}
use Rattle.ec_resolve_expressions.specs.Behind.{behind, risen}
use Rattle.ec_resolve_expressions.proofs.Leanings.{down}
use Rattle.ec_resolve_expressions.proofs.Steps.{args_step, args_end, checks_reached, lengths_step, lengths_end, members_step, members_end, items_step, items_end, inits_step, inits_end, last-law, outer-law}
use Rattle.ec_resolve_expressions.proofs.cycle.+walk.Goals as goal

pub args-loop-e-preserved : goal.args-loop-e-preserved
args-loop-e-preserved t c = args_step c.loop-e.resolver (place_view c.args.at) (arguments_view c.loop-e.forms) (arguments_view c.behind_first-forms.result) c.args.es.now c.loop-e.e-index c.e-item.result c.loop-e.fs c.push.new.self c.in_ok-f.f c.loop-e-test.true c.e-item.is c.in_ok-push.ensures.ok c.behind_first-forms.ensures c.loop-e.invariant c.in_ok-f.ensures

pub expr_within-loop-left-smaller : goal.expr_within-loop-left-smaller
expr_within-loop-left-smaller t c = leans (expr_view c.loop-left.first.now) (expr_view c.in-Some.left.now) c.in-Some.ensures

pub expr_within-loop-left-preserved : goal.expr_within-loop-left-preserved
expr_within-loop-left-preserved t c =
    let at = place_view c.args.at in
    down at c.args.resolver.now (expr_view c.loop-left.first.now) (expr_view c.in-Some.left.now) (spine_view c.loop-left.above) c.loop-left.invariant (sym c.in-Some.ensures)
    ∙ ap (λ es. from (chain (expr at (expr_view c.in-Some.left.now)) (risen at es)) c.args.resolver.now) (sym (ap spine_view c.in_ok-push.ensures.ok ∙ spine-push c.loop-left.above c.loop-left.first))

pub expr_within-loop-next-preserved : goal.expr_within-loop-next-preserved
expr_within-loop-next-preserved t c =
    let at = place_view c.args.at in
    c.loop-next.invariant
    ∙ ap (λ es. from (risen at es (found_view c.loop-next.f)) c.loop-next.resolver) (ap spine_view c.in-Some-pop.ensures ∙ spine-push c.pop.new.self c.in-Some-pop.next)
    ∙ follow (behind at (expr_view c.in-Some-pop.next.now) (found_view c.loop-next.f)) (risen at (spine_view c.pop.new.self)) c.loop-next.resolver c.in_ok-f-2.ensures

pub init_list-loop-init-preserved : goal.init_list-loop-init-preserved
init_list-loop-init-preserved t c = inits_step c.loop-init.resolver (place_view c.args.at) c.args.inits.now c.loop-init.init-index c.init-item.result c.loop-init-test.true c.init-item.is c.loop-init.invariant c.in_ok-init_exprs.ensures

pub lengths_within-loop-dim-preserved : goal.lengths_within-loop-dim-preserved
lengths_within-loop-dim-preserved t c = lengths_step c.loop-dim.resolver (place_view c.args.at) c.args.dims.now c.loop-dim.dim-index c.dim-item.result c.loop-dim.lengths c.push.new.self c.in_ok-n.n c.loop-dim-test.true c.dim-item.is c.in_ok-push.ensures.ok c.loop-dim.invariant c.in_ok-n.ensures

pub member_decl-loop-item-preserved : goal.member_decl-loop-item-preserved
member_decl-loop-item-preserved t c = items_step c.loop-item.resolver (place_view c.in_ok-at.at) c.is_varchar-varchar.result _ c.as_slice-item-items.result.now c.loop-item.item-index c.item-item.result _ c.loop-item-test.true c.item-item.is c.loop-item.invariant c.in_ok-member_item.ensures

pub members-loop-d-preserved : goal.members-loop-d-preserved
members-loop-d-preserved t c = members_step c.loop-d.resolver c.args.ds.now c.loop-d.d-index c.d-item.result _ c.loop-d-test.true c.d-item.is c.loop-d.invariant c.in_ok-member_decl.ensures

pub args-returns : goal.args-returns
args-returns t c = args_end (place_view c.args.at) (arguments_view c.loop-e.forms) c.args.es.now c.loop-e.e-index c.loop-e.fs (omega (arith, c.loop-e-test.false)) c.loop-e.invariant

pub lengths_within-returns : goal.lengths_within-returns
lengths_within-returns t c = lengths_end (place_view c.args.at) c.args.dims.now c.loop-dim.dim-index c.loop-dim.lengths (omega (arith, c.loop-dim-test.false)) c.loop-dim.invariant

pub members-returns : goal.members-returns
members-returns t c = members_end c.args.ds.now c.loop-d.d-index _ (omega (arith, c.loop-d-test.false)) c.loop-d.invariant

pub member_decl-returns : goal.member_decl-returns
member_decl-returns t c = items_end (place_view c.in_ok-at.at) c.is_varchar-varchar.result _ c.as_slice-item-items.result.now c.loop-item.item-index _ (omega (arith, c.loop-item-test.false)) c.loop-item.invariant

pub init_list-returns : goal.init_list-returns
init_list-returns t c = inits_end (place_view c.args.at) c.args.inits.now c.loop-init.init-index (omega (arith, c.loop-init-test.false)) c.loop-init.invariant

pub last_length_within-returns : goal.last_length_within-returns
last_length_within-returns t c =
    let at = place_view c.args.at in
    let old = c.args.resolver.now in
    let new = c.lengths_within.new.resolver in
    let done = last-law at c.args.dims.now old (subst (λ l. IsReached (from (lengths at (dims_view l)) old) new c.in_ok-ns.ns) c.last_apart.ensures.last c.in_ok-ns.ensures) in
    subst (λ (n : Option ℕ). IsReached (from (last_length at (dims_view c.args.dims.now)) old) new n) (sym (c.last_of.ensures ∙ ap last_length_of c.as_slice.ensures)) done

pub outer_lengths_within-returns : goal.outer_lengths_within-returns
outer_lengths_within-returns t c =
    let at = place_view c.args.at in
    let old = c.args.resolver.now in
    subst (λ (r : Resolving (List (Option ℕ))). IsReached (from r old) c.lengths_within.new.resolver c.in_ok-ns.ns)
    (ap (λ l. lengths at (dims_view l)) c.last_apart.ensures.outer ∙ outer-law at c.args.dims.now) c.in_ok-ns.ensures

pub member_decl-loop-item-init : goal.member_decl-loop-item-init
member_decl-loop-item-init t c =
    let at = place_view c.in_ok-at.at in
    let ms = named_view type_view c.args.members.now in
    let d = a.out-Decl c.args.d.now in
    let mid : Resolver = record { checker = c.place.new.self; storage = c.args.resolver.now.storage } in
    let r = c.base_within.new.resolver in
    ap (λ x. from (member_decl x ms) c.args.resolver.now) (decl_seen c.args.d.now)
    ∙ follow (checks (place d.line)) (λ p. chain (base p (base_view d.base)) (λ ty. member_items p (is_varchar (base_view d.base)) ty (declarators_view d.items) ms)) c.args.resolver.now (checks_reached (place d.line) c.args.resolver.now mid c.in_ok-at.ensures refl)
    ∙ follow (base at (base_view d.base)) (λ ty. member_items at (is_varchar (base_view d.base)) ty (declarators_view d.items) ms) mid c.in_ok-ty.ensures
    ∙ ap (λ v. from (member_items at v (type_view c.in_ok-ty.ty) (declarators_view d.items) ms) r) (sym c.is_varchar-varchar.ensures)
    ∙ ap (λ xs. from (member_items at c.is_varchar-varchar.result (type_view c.in_ok-ty.ty) (declarators_view xs) ms) r) (sym c.as_slice-item-items.ensures)
