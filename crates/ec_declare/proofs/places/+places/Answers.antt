use Rattle.std.proofs.Common.{◌≡◌, ◌∙◌, ap, rules, subst, sym, None}
use Rattle.ec_ctypes.specs.declared.tree.decl.Decl.{out-Decl, the_lemmas as decl_lemmas}
use Rattle.ec_ctypes.specs.declared.tree.decl.Declarator.{out-Declarator, the_lemmas}
use Rattle.ec_ctypes.specs.trees.Exprs.{DeclData, decl, DeclaratorData, declarator}
use Rattle.ec_ctypes.specs.views.Exprs.{base_view, decl_view, declarators_view, declarator_view, dims_view, init_view, init_option_view}
use Rattle.ec_declare.specs.Seen.{scan_view}
use Rattle.ec_declare.specs.Scanning.{step}
use Rattle.ec_declare.specs.Walking.{walk_base, walk_decl, walk_declarators, walk_declarator, walk_dims, walk_init, walk_init_option}
use Rattle.ec_host_defs.specs.sections.Places.{holds}
use Rattle.ec_host_defs.specs.sections.Uses.{in_base, in_declarators, ◌&◌}
use Rattle.ec_declare.proofs.places.+places.Goals as goal

pub decl-returns : goal.decl-returns
decl-returns t c =
    let d = c.args.tree.now in
    let e : decl_view d ≡ decl (base_view (out-Decl d).base) (declarators_view (out-Decl d).items) (out-Decl d).section (out-Decl d).line = search (rules, decl_lemmas) in
    subst (λ (x : DeclData). scan_view c.declarators.new.scan ≡ walk_decl x (scan_view c.args.scan.now)) (sym e)
    (c.declarators.ensures ∙ (λ i. walk_declarators (declarators_view (c.as_slice-items.ensures i)) ((c.base.ensures ∙ ap (walk_base (base_view (out-Decl d).base)) (c.place.ensures ∙ (λ j. step (holds None (out-Decl d).line ((c.held.ensures ∙ (λ k. in_base (base_view (out-Decl d).base) & in_declarators (base_view (out-Decl d).base) (declarators_view (c.as_slice-items.ensures k)))) j)) (scan_view c.args.scan.now)))) i)))

pub declarator-returns-in-Some : goal.declarator-returns-in-Some
declarator-returns-in-Some t c =
    let d = c.args.tree.now in
    let e : declarator_view d ≡ declarator (out-Declarator d).stars (out-Declarator d).name (dims_view (out-Declarator d).dims) (init_option_view (out-Declarator d).init) = search (rules, the_lemmas) in
    subst (λ (x : DeclaratorData). scan_view c.init.new.scan ≡ walk_declarator x (scan_view c.args.scan.now)) (sym e)
    (c.init.ensures ∙ ap (walk_init (init_view c.in-Some.of)) (c.dims.ensures ∙ (λ i. walk_dims (dims_view (c.as_slice.ensures i)) (scan_view c.args.scan.now))) ∙ ap (λ o. walk_init_option (init_option_view o) (walk_dims (dims_view (out-Declarator d).dims) (scan_view c.args.scan.now))) (sym c.in-Some.is))
