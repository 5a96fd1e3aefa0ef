use Rattle.std.proofs.Common.{◌≡◌, rules, sym, subst}
use Rattle.ec_ctypes.specs.declared.tree.decl.Decl.{out-Decl, the_lemmas}
use Rattle.ec_ctypes.specs.trees.Exprs.{decl}
use Rattle.ec_ctypes.specs.views.Exprs.{base_view, decl_view, declarators_view}
use Rattle.ec_cwrite.specs.Writes.{Writes}
use Rattle.ec_cwrite.proofs.Writing.{both}
use Rattle.ec_expand_declarations.specs.Lists.{plain_decl}
use Rattle.ec_writing_defs.specs.Expressions.{decl_chunks}
use Rattle.ec_write_parts.proofs.declarations.put_decl.Goals as goal

pub returns : goal.returns
returns c =
    let e : decl_view c.args.declared.now ≡ decl (base_view (out-Decl c.args.declared.now).base) (declarators_view (out-Decl c.args.declared.now).items) (out-Decl c.args.declared.now).section (out-Decl c.args.declared.now).line = search (rules, the_lemmas) in
    subst (λ v. Writes c.args.out.now c.push_mark.new.out (decl_chunks (plain_decl c.args.line.0 v))) (sym e)
    (both c.in_ok-put_base.ensures (both c.in_ok-put_declarators.ensures c.in_ok-push_mark.ensures))
