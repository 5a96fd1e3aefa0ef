use Rattle.std.proofs.Common.{◌≡◌, [], ◌∷◌, ◌++◌, rules, ap, sym, subst}
use Rattle.ec_base.specs.declared.line.Line.{Line}
use Rattle.ec_ctypes.specs.declared.tree.decl.Decl.{out-Decl, the_lemmas}
use Rattle.ec_ctypes.specs.trees.Exprs.{decl}
use Rattle.ec_ctypes.specs.views.Exprs.{base_view, decl_view, declarators_view}
use Rattle.ec_language.specs.Productions.{line_of}
use Rattle.ec_writing_defs.specs.Chunks.{line_end, line_mark}
use Rattle.ec_writing_defs.specs.Expressions.{decl_chunks}
use Rattle.ec_cwrite.specs.Writes.{Writes}
use Rattle.ec_cwrite.proofs.Writing.{both}
use Rattle.ec_cwrite.proofs.programs.push_decl_top.Goals as goal

pub returns : goal.returns
returns c =
    let e : decl_view c.args.decl.now ≡ decl (base_view (out-Decl c.args.decl.now).base) (declarators_view (out-Decl c.args.decl.now).items) (out-Decl c.args.decl.now).section (out-Decl c.args.decl.now).line = search (rules, the_lemmas) in
    subst (λ (l : Line). Writes c.args.out.now c.push_line_end.new.out (line_mark l.0 ∷ decl_chunks (decl_view c.args.decl.now) ++ line_end ∷ [])) (sym (ap line_of e))
    (both c.in_ok-push_line.ensures (both c.in_ok-push_decl.ensures c.in_ok-push_line_end.ensures))
