use Rattle.std.proofs.Common.{◌≡◌, ap, sym, ◌∙◌, rules, false}
use Rattle.ec_ctypes.specs.declared.tree.decl.Declarator.{out-Declarator, roll-Declarator, the_lemmas}
use Rattle.ec_ctypes.specs.declared.tree.decl.Decl.{roll-Decl, the_lemmas as decl_lemmas}
use Rattle.ec_ctypes.specs.declared.tree.decl.Base.{Struct}
use Rattle.ec_ctypes.specs.trees.Exprs.{declarator, decl, struct_base}
use Rattle.ec_ctypes.specs.views.Exprs.{declarator_view, dims_view, init_option_view, decl_view, decls_view, declarators_view}
use Rattle.ec_expansion_defs.specs.Declarations.{varchar_members, one_declarator}
use Rattle.ec_expand_declarations.specs.Lists.{varchar_of}
use Rattle.ec_expand_declarations.proofs.varchar.varchar_decl.Goals as goal

pub returns : goal.returns
returns c =
    let e : declarator_view c.args.item ≡ declarator (out-Declarator c.args.item).stars (out-Declarator c.args.item).name (dims_view (out-Declarator c.args.item).dims) (init_option_view (out-Declarator c.args.item).init) = search (rules, the_lemmas) in
    let m : decls_view c.in_ok-members-2.members ≡ varchar_members c.args.line.0 (dims_view c.in_ok-length.length) = search rules in
    let l : declarator_view (roll-Declarator record { stars = c.args.item.stars; name = c.args.item.name; dims = c.take_last.new.dims; init = c.args.item.init }) ≡ declarator (out-Declarator c.args.item).stars (out-Declarator c.args.item).name (dims_view c.take_last.new.dims) (init_option_view (out-Declarator c.args.item).init) = search (rules, the_lemmas) in
    let d : decl_view (roll-Decl record { base = Struct c.args.tag c.in_ok-members-2.members; items = c.in_ok-alone.field-0; section = false; line = c.args.line }) ≡ decl (struct_base c.args.tag (decls_view c.in_ok-members-2.members)) (declarators_view c.in_ok-alone.field-0) false c.args.line = search (rules, decl_lemmas) in
    d ∙ (λ i. decl (struct_base c.args.tag ((m ∙ ap (varchar_members c.args.line.0) c.in_ok-length.ensures.last) i))
    ((c.in_ok-alone.ensures ∙ ap one_declarator l ∙ ap (λ ds. one_declarator (declarator (out-Declarator c.args.item).stars (out-Declarator c.args.item).name ds (init_option_view (out-Declarator c.args.item).init))) c.in_ok-length.ensures.outer) i) false c.args.line)
    ∙ ap (varchar_of c.args.line.0 c.args.tag) (sym e)
