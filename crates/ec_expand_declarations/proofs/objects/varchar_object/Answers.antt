use Rattle.std.proofs.Common.{◌≡◌, Some, ap, sym, ◌∙◌, rules}
use Rattle.ec_ctypes.specs.declared.tree.decl.Declarator.{out-Declarator, the_lemmas}
use Rattle.ec_ctypes.specs.trees.Exprs.{declarator}
use Rattle.ec_ctypes.specs.views.Exprs.{declarator_view, dims_view, init_option_view}
use Rattle.ec_expansion_defs.specs.Declarations.{varchar_tag}
use Rattle.ec_expand_declarations.specs.Lists.{varchar_of}
use Rattle.ec_expand_declarations.proofs.Written.{name_of, object_is}
use Rattle.ec_expand_declarations.proofs.objects.varchar_object.Goals as goal

pub returns : goal.returns
returns c =
    let e : declarator_view c.args.item.now ≡ declarator (out-Declarator c.args.item.now).stars (out-Declarator c.args.item.now).name (dims_view (out-Declarator c.args.item.now).dims) (init_option_view (out-Declarator c.args.item.now).init) = search (rules, the_lemmas) in
    c.in_ok-varchar_decl.ensures ∙ ap (varchar_of c.args.line.0 (Some c.in_ok-tag.tag)) c.in_ok-item.ensures
    ∙ object_is c.args.line.0 (declarator_view c.args.item.now) c.in_ok-tag.tag (c.in_ok-tag.ensures ∙ ap (λ x. varchar_tag (name_of x)) (sym e))
