use Rattle.std.proofs.Common.{◌≡◌, List, rules, subst, sym}
use Rattle.std.specs.Prelude.{OnOk}
use Rattle.ec_ctypes.specs.declared.tree.decl.Decl.{out-Decl, the_lemmas}
use Rattle.ec_ctypes.specs.declared.tree.decl.Declarator.{Declarator}
use Rattle.ec_ctypes.specs.trees.Exprs.{DeclData, decl}
use Rattle.ec_ctypes.specs.views.Exprs.{base_view, decl_view, declarators_view}
use Rattle.ec_declare.specs.Counting.{count_decl, count_items}
use Rattle.ec_declare.specs.Seen.{count_view}
use Rattle.ec_declare.proofs.counting.decl.Goals as goal

pub returns : goal.returns
returns c =
    let d = c.args.tree.now in
    let e : decl_view d ≡ decl (base_view (out-Decl d).base) (declarators_view (out-Decl d).items) (out-Decl d).section (out-Decl d).line = search (rules, the_lemmas) in
    subst (λ (x : DeclData). OnOk c.items.result (count_view c.items.new.count ≡ count_decl x (count_view c.args.count.now))) (sym e)
    (subst (λ (xs : List Declarator). OnOk c.items.result (count_view c.items.new.count ≡ count_items (out-Decl d).section (declarators_view xs) (count_view c.args.count.now))) c.as_slice.ensures c.items.ensures)
