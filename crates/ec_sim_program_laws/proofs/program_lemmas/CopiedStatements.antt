-- Statements are copied wherever expressions and declarations are alike and embedded statements are copied: by induction over the trees.
use Rattle.std.proofs.Common.{◌≡◌, ℕ, Bool, true, false, List, [], Option, Some, None, refl, sym, subst}
use Rattle.std.specs.Prelude.{is_some}
use Rattle.ec_base.specs.declared.fault.FaultKind.TheVariants.{F18}
use Rattle.ec_base.specs.declared.line.Line.{Line}
use Rattle.ec_ctypes.specs.trees.Types.{TyData}
use Rattle.ec_ctypes.specs.trees.Embedded.{EmbData}
use Rattle.ec_ctypes.specs.trees.Exprs.{ExprData, words, varchar, tagged, struct_base, decl}
use Rattle.ec_ctypes.specs.trees.Stmts.{StmtData, stmt, StmtKindData, empty_stmt, expr_stmt, block_stmt, if_stmt, while_stmt, do_stmt, for_stmt, break_stmt, continue_stmt, return_stmt, goto_stmt, label_stmt, decl_stmt, emb_stmt, mark_stmt, StmtList, no_stmts, stmts as stmt_list, StmtOption, no_stmt, some_stmt}
use Rattle.ec_written_laws.specs.bound.Numbers.{stmt_numbers, kind_numbers, stmts_numbers, else_numbers}
use Rattle.ec_expansion_defs.specs.Declarations.{written_base, written_declarators, at_line}
use Rattle.ec_expansion_defs.specs.Lines.{line_after}
use Rattle.ec_expansion_defs.specs.Statements.{before_stmts, written_stmt, written_kind, written_items, written_item, written_else}
use Rattle.ec_typing_defs.specs.Tables.{Named, find}
use Rattle.ec_typing_defs.specs.Statements as checked
use Rattle.ec_typing_defs.specs.Worlds.{Place}
use Rattle.ec_meaning_defs.specs.resolved.Resolved.{Exp, Stm, on_line, nothing, evaluate, block, choose, loop, leave, next, goto, label, named, no_stms}
use Rattle.ec_resolving_defs.specs.Agreement.{around_of}
use Rattle.ec_resolving_defs.specs.Operands.{place_in}
use Rattle.ec_resolving_defs.specs.Statements.{objects_in_all, behind_first_part, with_sizes, scoped, statement, statement_kind, statements, otherwise}
use Rattle.ec_resolving_defs.specs.Storage.{in_block}
use Rattle.ec_sim_statement_laws.specs.statement.Clean.{CallsNoneIn}
use Rattle.ec_sim_statement_laws.specs.statement.Copies.{IsCopy, standing, empty, evaluated, blocks, chooses, loops, leaves, continues, returns, jumps, labelled, AreCopies, end, both}
use Rattle.ec_sim_world_laws.proofs.growth_lemmas.Rules.{Growing, chained as chained_grow, pure_grows, demand_grows, if_some as some_grows, scoped_grows}
use Rattle.ec_sim_world_laws.proofs.growth_lemmas.Expressions.{valued as valued_grows, expr_grows}
use Rattle.ec_sim_world_laws.proofs.growth_lemmas.Statements.{statement_grows}
use Rattle.ec_sim_statement_laws.specs.expression.Laws.{ExpressionsAreAlike}
use Rattle.ec_sim_statement_laws.specs.expression.Rules.{checks_alike, demand_quietly}
use Rattle.ec_sim_world_laws.specs.known.Laws.{WalkKeeps}
use Rattle.ec_sim_program_laws.specs.program.Copied.{Whole, Ahead, in_function, IsCopied}
use Rattle.ec_sim_program_laws.specs.program.Declared.{PlainAreAlike, VarcharsAreAlike}
use Rattle.ec_sim_program_laws.specs.program.Embedded.{inside, EmbeddedAreCopied}
use Rattle.ec_sim_program_laws.specs.program.Shape.{StandsAlone, KindStandsAlone, ItemsStand, ItemStands, OtherStands}
use Rattle.ec_sim_program_laws.proofs.program_lemmas.Conditions.{IsReturn, alone_alike, optional_alike, condition_alike, optional_condition_alike, return_alike}
use Rattle.ec_sim_program_laws.proofs.program_lemmas.Copying.{copied_chain, alike_first, copied_as, copied_then, pure_copied, alike_last, placed, quiet_copied, copied_scoped, copied_block}
use Rattle.ec_sim_program_laws.proofs.program_lemmas.DenotingRules.{chained, pure_denotes, label_denotes}
use Rattle.ec_sim_program_laws.proofs.program_lemmas.DenotingExpressions.{expr_denotes}
use Rattle.ec_sim_program_laws.proofs.program_lemmas.DenotingStatements.{condition_denotes, optional_denotes, optional_condition_denotes, return_denotes}
use Rattle.ec_sim_program_laws.proofs.program_lemmas.Items.{both_copied, plain_copied, varchar_copied, mark_copied, embedded_copied, embedded_item}
use Rattle.ec_sim_program_laws.proofs.program_lemmas.Names.{label_alike}
use Rattle.ec_sim_program_laws.proofs.program_lemmas.Trees.{items_objects}

-- ---- what grows

other_grows : (a : checked.Around) (other : StmtOption) → Growing (checked.otherwise a other)
other_grows a no_stmt = pure_grows _
other_grows a (some_stmt s) = scoped_grows (statement_grows a s)

condition_grows : (at : Place) (e : ExprData) → Growing (checked.condition at e)
unfolding checked.condition_rule
condition_grows at e = chained_grow (valued_grows at (expr_grows at e)) (λ o. some_grows o.type (pure_grows _) (λ t. demand_grows _ _ _))

-- ---- statements

first_part_copied : {P : ℕ → ℕ → Stm → Type 0} {line : ℕ} (first : Option Exp) {x y : Stm} → CallsNoneIn first → IsCopy P line x y → IsCopy P line (behind_first_part first x) (behind_first_part first y)
first_part_copied None h c = c
first_part_copied (Some e) h c = blocks [] (both (evaluated e h) (both c end))

return_copied : {P : ℕ → ℕ → Stm → Type 0} {line : ℕ} (x y : Stm) → y ≡ x → IsReturn x → IsCopy P line x y
return_copied {P} {line} x y same h =
    subst (λ z. IsCopy P line x z) (sym same) (subst (λ z. IsCopy P line z z) (sym h.1.0) (returns h.0 h.1.1))

module _ (g : Whole) (walk : WalkKeeps g.source) (es : List EmbData) (embedded : ℕ → Option StmtKindData) (are : EmbeddedAreCopied g es embedded)
    (expressions : ExpressionsAreAlike) (plain : PlainAreAlike) (varchars : VarcharsAreAlike) where
  item_copied : (body loop : Bool) (labels : Named (Unit {0})) (result : Option TyData) (s : StmtData) → ItemStands es s → (ss ss' : StmtList) (line : ℕ) (ms : List ℕ) (ls : Ahead)
      → (StandsAlone es s → IsCopied g (IsCopy g.Stands line) (in_function (stmt_numbers s ms)) (in_function ms) (checked.statement (inside es body loop labels result) s) (checked.statement (inside [] body loop labels result) (written_stmt embedded s))
      (statement (around_of (inside es body loop labels result)) s) (statement (around_of (inside [] body loop labels result)) (written_stmt embedded s)))
      → IsCopied g (AreCopies g.Stands line) (in_function ms) ls (checked.statements (inside es body loop labels result) ss) (checked.statements (inside [] body loop labels result) ss')
      (statements (around_of (inside es body loop labels result)) ss) (statements (around_of (inside [] body loop labels result)) ss')
      → IsCopied g (AreCopies g.Stands line) (in_function (stmt_numbers s ms)) ls (checked.statements (inside es body loop labels result) (stmt_list s ss)) (checked.statements (inside [] body loop labels result) (before_stmts (written_item embedded s) ss'))
      (statements (around_of (inside es body loop labels result)) (stmt_list s ss)) (statements (around_of (inside [] body loop labels result)) (before_stmts (written_item embedded s) ss'))
  item_copied b p ls r (stmt l (decl_stmt (decl varchar ds section l0))) h ss ss' line ms ns alone rest =
      varchar_copied g walk es b p ls r varchars l line ms ns ss ss' rest ds section l0 h.1
  item_copied b p ls r (stmt l (decl_stmt (decl (words ws) ds section l0))) h ss ss' line ms ns alone rest =
      both_copied g walk es b p ls r (stmt l (decl_stmt (decl (words ws) ds section l0))) (stmt l (decl_stmt (decl (written_base l.0 (words ws)) (written_declarators l.0 ds) false (at_line l.0)))) ss ss' (plain_copied g walk es b p ls r plain l (words ws) ds section l0 refl h.0 h.1 line ms) rest
  item_copied b p ls r (stmt l (decl_stmt (decl (tagged tag) ds section l0))) h ss ss' line ms ns alone rest =
      both_copied g walk es b p ls r (stmt l (decl_stmt (decl (tagged tag) ds section l0))) (stmt l (decl_stmt (decl (written_base l.0 (tagged tag)) (written_declarators l.0 ds) false (at_line l.0)))) ss ss' (plain_copied g walk es b p ls r plain l (tagged tag) ds section l0 refl h.0 h.1 line ms) rest
  item_copied b p ls r (stmt l (decl_stmt (decl (struct_base tag members) ds section l0))) h ss ss' line ms ns alone rest =
      both_copied g walk es b p ls r (stmt l (decl_stmt (decl (struct_base tag members) ds section l0))) (stmt l (decl_stmt (decl (written_base l.0 (struct_base tag members)) (written_declarators l.0 ds) false (at_line l.0)))) ss ss' (plain_copied g walk es b p ls r plain l (struct_base tag members) ds section l0 refl h.0 h.1 line ms) rest
  item_copied b p ls r (stmt l (emb_stmt n)) h ss ss' line ms ns alone rest = embedded_item g walk es b p ls r embedded are l n h ss ss' (alone h) rest
  item_copied b p ls r (stmt l (mark_stmt opens)) h ss ss' line ms ns alone rest = mark_copied g walk es b p ls r l opens ss rest
  item_copied b p ls r (stmt l empty_stmt) h ss ss' line ms ns alone rest = both_copied g walk es b p ls r (stmt l empty_stmt) (written_stmt embedded (stmt l empty_stmt)) ss ss' (alone h) rest
  item_copied b p ls r (stmt l (expr_stmt e)) h ss ss' line ms ns alone rest = both_copied g walk es b p ls r (stmt l (expr_stmt e)) (written_stmt embedded (stmt l (expr_stmt e))) ss ss' (alone h) rest
  item_copied b p ls r (stmt l (block_stmt xs)) h ss ss' line ms ns alone rest = both_copied g walk es b p ls r (stmt l (block_stmt xs)) (written_stmt embedded (stmt l (block_stmt xs))) ss ss' (alone h) rest
  item_copied b p ls r (stmt l (if_stmt e s other)) h ss ss' line ms ns alone rest = both_copied g walk es b p ls r (stmt l (if_stmt e s other)) (written_stmt embedded (stmt l (if_stmt e s other))) ss ss' (alone h) rest
  item_copied b p ls r (stmt l (while_stmt e s)) h ss ss' line ms ns alone rest = both_copied g walk es b p ls r (stmt l (while_stmt e s)) (written_stmt embedded (stmt l (while_stmt e s))) ss ss' (alone h) rest
  item_copied b p ls r (stmt l (do_stmt s e)) h ss ss' line ms ns alone rest = both_copied g walk es b p ls r (stmt l (do_stmt s e)) (written_stmt embedded (stmt l (do_stmt s e))) ss ss' (alone h) rest
  item_copied b p ls r (stmt l (for_stmt x y z s)) h ss ss' line ms ns alone rest = both_copied g walk es b p ls r (stmt l (for_stmt x y z s)) (written_stmt embedded (stmt l (for_stmt x y z s))) ss ss' (alone h) rest
  item_copied b p ls r (stmt l break_stmt) h ss ss' line ms ns alone rest = both_copied g walk es b p ls r (stmt l break_stmt) (written_stmt embedded (stmt l break_stmt)) ss ss' (alone h) rest
  item_copied b p ls r (stmt l continue_stmt) h ss ss' line ms ns alone rest = both_copied g walk es b p ls r (stmt l continue_stmt) (written_stmt embedded (stmt l continue_stmt)) ss ss' (alone h) rest
  item_copied b p ls r (stmt l (return_stmt e)) h ss ss' line ms ns alone rest = both_copied g walk es b p ls r (stmt l (return_stmt e)) (written_stmt embedded (stmt l (return_stmt e))) ss ss' (alone h) rest
  item_copied b p ls r (stmt l (goto_stmt k)) h ss ss' line ms ns alone rest = both_copied g walk es b p ls r (stmt l (goto_stmt k)) (written_stmt embedded (stmt l (goto_stmt k))) ss ss' (alone h) rest
  item_copied b p ls r (stmt l (label_stmt k s)) h ss ss' line ms ns alone rest = both_copied g walk es b p ls r (stmt l (label_stmt k s)) (written_stmt embedded (stmt l (label_stmt k s))) ss ss' (alone h) rest

  mutual
    pub statement_copied : (body loop : Bool) (labels : Named (Unit {0})) (result : Option TyData) (s : StmtData) → StandsAlone es s → (line : ℕ) (ns : List ℕ)
        → IsCopied g (IsCopy g.Stands line) (in_function (stmt_numbers s ns)) (in_function ns) (checked.statement (inside es body loop labels result) s) (checked.statement (inside [] body loop labels result) (written_stmt embedded s))
        (statement (around_of (inside es body loop labels result)) s) (statement (around_of (inside [] body loop labels result)) (written_stmt embedded s))
    statement_copied b p ls r (stmt l kind) h line ns = placed g walk l l _ _ _ _ (λ at there.
        copied_then g (on_line l.0) (on_line l.0) (kind_copied b p ls r l kind h at there ns) (λ x y c. standing l.0 c))

    kind_copied : (body loop : Bool) (labels : Named (Unit {0})) (result : Option TyData) (l : Line) (kind : StmtKindData) → KindStandsAlone es l kind → (at there : Place) (ns : List ℕ)
        → IsCopied g (IsCopy g.Stands l.0) (in_function (kind_numbers kind ns)) (in_function ns) (checked.statement_kind (inside es body loop labels result) at kind) (checked.statement_kind (inside [] body loop labels result) there (written_kind embedded l.0 kind))
        (statement_kind (around_of (inside es body loop labels result)) at kind) (statement_kind (around_of (inside [] body loop labels result)) there (written_kind embedded l.0 kind))
    kind_copied b p ls r l empty_stmt h at there ns = pure_copied g nothing nothing empty
    kind_copied b p ls r l (expr_stmt e) h at there ns =
        copied_then g evaluate evaluate (alike_last g (alone_alike expressions at there l.0 e h) (chained (expr_denotes at e) (λ _. pure_denotes tt)) (walk.values at e)) (λ x y q.
        subst (λ z. IsCopy g.Stands l.0 (evaluate x) (evaluate z)) (sym q.0) (evaluated x q.1))
    kind_copied b p ls r l (block_stmt ss) h at there ns =
        copied_then g with_sizes with_sizes
        (subst (λ k. IsCopied g (λ x y. (y.0 ≡ x.0) × AreCopies g.Stands l.0 x.1 y.1) (in_function (stmts_numbers ss ns)) (in_function ns) (checked.statement_kind (inside es b p ls r) at (block_stmt ss)) (checked.statement_kind (inside [] b p ls r) there (block_stmt (written_items embedded ss)))
        (in_block (objects_in_all ss) (scoped (statements (around_of (inside es b p ls r)) ss))) (in_block k (scoped (statements (around_of (inside [] b p ls r)) (written_items embedded ss)))))
        (sym (items_objects g es embedded are ss h))
        (copied_block g (objects_in_all ss) _ _ _ _ (copied_scoped g walk _ _ _ _ (items_copied false p ls r ss h l.0 ns))))
        (λ x y q. subst (λ sizes. IsCopy g.Stands l.0 (block x.0 x.1) (block sizes y.1)) (sym q.0) (blocks x.0 q.1))
    kind_copied b p ls r l (if_stmt e s other) h at there ns =
        copied_scoped g walk _ _ _ _ (alike_first g _ _ _ _ _ _ _ _ (condition_alike expressions at there l.0 e h.0) (condition_denotes at e) (walk.conditions at e) (λ x silent.
        copied_chain g _ _ _ _ _ _ _ _ (copied_scoped g walk _ _ _ _ (statement_copied true p ls r s h.1 l.0 (else_numbers other ns))) (λ w. (other_grows (inside es true p ls r) other).grows w) (λ y y'.
        copied_then g (λ z. choose x y z) (λ z. choose x y' z) (other_copied true p ls r other h.2 l.0 ns) (λ z z' c. λ d. chooses x silent d c))))
    kind_copied b p ls r l (while_stmt e s) h at there ns =
        copied_scoped g walk _ _ _ _ (alike_first g _ _ _ _ _ _ _ _ (condition_alike expressions at there l.0 e h.0) (condition_denotes at e) (walk.conditions at e) (λ x silent.
        copied_then g (λ y. loop true (Some x) None y) (λ y. loop true (Some x) None y) (copied_scoped g walk _ _ _ _ (statement_copied true true ls r s h.1 l.0 ns)) (λ y y' c. loops true (Some x) None silent tt c)))
    kind_copied b p ls r l (do_stmt s e) h at there ns =
        copied_scoped g walk _ _ _ _ (copied_chain g _ _ _ _ _ _ _ _ (copied_scoped g walk _ _ _ _ (statement_copied true true ls r s h.0 l.0 ns)) (λ w. (condition_grows at e).grows w) (λ y y'.
        copied_then g (λ x. loop false (Some x) None y) (λ x. loop false (Some x) None y')
        (alike_last g (condition_alike expressions at there (line_after (written_stmt embedded s)) e h.1) (condition_denotes at e) (walk.conditions at e)) (λ x x' q. λ c.
        subst (λ z. IsCopy g.Stands l.0 (loop false (Some x) None y) (loop false (Some z) None y')) (sym q.0) (loops false (Some x) None q.1 tt c))))
    kind_copied b p ls r l (for_stmt x y z s) h at there ns =
        copied_scoped g walk _ _ _ _ (alike_first g _ _ _ _ _ _ _ _ (optional_alike expressions at there l.0 x h.0) (optional_denotes at x) (walk.options at x) (λ first firsts.
        alike_first g _ _ _ _ _ _ _ _ (optional_condition_alike expressions at there l.0 y h.1) (optional_condition_denotes at y) (walk.optional_conditions at y) (λ test tests.
        alike_first g _ _ _ _ _ _ _ _ (optional_alike expressions at there l.0 z h.2) (optional_denotes at z) (walk.options at z) (λ behind behinds.
        copied_then g (λ body. behind_first_part first (loop true test behind body)) (λ body. behind_first_part first (loop true test behind body))
        (copied_scoped g walk _ _ _ _ (statement_copied true true ls r s h.3 l.0 ns)) (λ u v c. first_part_copied first firsts (loops true test behind tests behinds c))))))
    kind_copied b p ls r l break_stmt h at there ns = quiet_copied g _ _ leave leave (demand_quietly at there F18 p p (λ e. e)) leaves
    kind_copied b p ls r l continue_stmt h at there ns = quiet_copied g _ _ next next (demand_quietly at there F18 p p (λ e. e)) continues
    kind_copied b p ls r l (return_stmt e) h at there ns = copied_as g (alike_last g (return_alike expressions at there l.0 r e h) (return_denotes at r e) (walk.returns at r e)) (λ x y q. return_copied x y q.0 q.1)
    kind_copied b p ls r l (goto_stmt k) h at there ns =
        quiet_copied g _ _ (goto (place_in k ls)) (goto (place_in k ls)) (demand_quietly at there F18 (is_some (find k ls)) (is_some (find k ls)) (λ e. e)) (jumps (place_in k ls))
    kind_copied b p ls r l (label_stmt k s) h at there ns =
        alike_first g _ _ _ _ _ _ _ _ (checks_alike _ _ (label_alike at there k)) (label_denotes at k) (walk.labels at k) (λ _ _.
        copied_then g (label (named (place_in k ls))) (label (named (place_in k ls))) (statement_copied true p ls r s h l.0 ns) (λ x y c. labelled (named (place_in k ls)) c))
    kind_copied b p ls r l (decl_stmt d) h at there ns = absurd h
    kind_copied b p ls r l (emb_stmt n) h at there ns = embedded_copied g walk es b p ls r embedded are l n h at there ns
    kind_copied b p ls r l (mark_stmt opens) h at there ns = pure_copied g nothing nothing empty

    pub items_copied : (body loop : Bool) (labels : Named (Unit {0})) (result : Option TyData) (ss : StmtList) → ItemsStand es ss → (line : ℕ) (ns : List ℕ)
        → IsCopied g (AreCopies g.Stands line) (in_function (stmts_numbers ss ns)) (in_function ns) (checked.statements (inside es body loop labels result) ss) (checked.statements (inside [] body loop labels result) (written_items embedded ss))
        (statements (around_of (inside es body loop labels result)) ss) (statements (around_of (inside [] body loop labels result)) (written_items embedded ss))
    items_copied b p ls r no_stmts h line ns = pure_copied g no_stms no_stms end
    items_copied b p ls r (stmt_list s ss) h line ns =
        item_copied b p ls r s h.0 ss (written_items embedded ss) line (stmts_numbers ss ns) (in_function ns) (λ alone. statement_copied b p ls r s alone line (stmts_numbers ss ns)) (items_copied b p ls r ss h.1 line ns)

    other_copied : (body loop : Bool) (labels : Named (Unit {0})) (result : Option TyData) (other : StmtOption) → OtherStands es other → (line : ℕ) (ns : List ℕ)
        → IsCopied g (IsCopy g.Stands line) (in_function (else_numbers other ns)) (in_function ns) (checked.otherwise (inside es body loop labels result) other) (checked.otherwise (inside [] body loop labels result) (written_else embedded other))
        (otherwise (around_of (inside es body loop labels result)) other) (otherwise (around_of (inside [] body loop labels result)) (written_else embedded other))
    other_copied b p ls r no_stmt h line ns = pure_copied g nothing nothing empty
    other_copied b p ls r (some_stmt s) h line ns = copied_scoped g walk _ _ _ _ (statement_copied b p ls r s h line ns)
