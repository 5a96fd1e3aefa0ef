use Rattle.std.proofs.Common.{◌≡◌, rules, subst, sym}
use Rattle.ec_ctypes.specs.declared.tree.decl.Declarator.{out-Declarator, the_lemmas}
use Rattle.ec_ctypes.specs.trees.Exprs.{DeclaratorData, declarator}
use Rattle.ec_ctypes.specs.views.Exprs.{base_view, declarator_view, dims_view, init_option_view}
use Rattle.ec_declare.specs.Seen.{uses_view}
use Rattle.ec_host_defs.specs.sections.Uses.{in_declarator}
use Rattle.ec_declare.proofs.uses.in_declarator.Goals as goal

pub returns : goal.returns
returns c =
    let d = c.args.declarator.now in
    let e : declarator_view d ≡ declarator (out-Declarator d).stars (out-Declarator d).name (dims_view (out-Declarator d).dims) (init_option_view (out-Declarator d).init) = search (rules, the_lemmas) in
    subst (λ (x : DeclaratorData). uses_view c.and-2.result ≡ in_declarator (base_view c.args.base.now) x) (sym e) (cc)
