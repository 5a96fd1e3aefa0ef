-- The items of a block: declarations of several VARCHARs stand apart, and of directives and marks nothing is written.
use Rattle.std.proofs.Common.{◌≡◌, ℕ, Bool, true, false, List, [], ◌∷◌, ◌++◌, Option, Some, None, refl, sym, subst}
use Rattle.std.specs.Prelude.{slice_get, if◌then◌else◌}
use Rattle.ec_base.specs.declared.line.Line.{Line}
use Rattle.ec_ctypes.specs.trees.Types.{TyData}
use Rattle.ec_ctypes.specs.trees.Embedded.{EmbData}
use Rattle.ec_ctypes.specs.trees.Exprs.{BaseData, varchar, DeclaratorList, no_declarators, declarators, decl}
use Rattle.ec_ctypes.specs.trees.Stmts.{StmtData, stmt, StmtKindData, decl_stmt, emb_stmt, mark_stmt, StmtList, stmts as stmt_list}
use Rattle.ec_expansion_defs.specs.Declarations.{written_base, written_declarators, varchar_objects, at_line}
use Rattle.ec_expansion_defs.specs.Statements.{before_stmts, decl_stmts, optional_stmt, or_empty}
use Rattle.ec_typing_defs.specs.statement_parts.Handlers.{is_directive}
use Rattle.ec_typing_defs.specs.Tables.{Named}
use Rattle.ec_typing_defs.specs.Statements as checked
use Rattle.ec_typing_defs.specs.Worlds.{Place, place, Rule, chain as check_chain, pure as check_pure}
use Rattle.ec_meaning_defs.specs.resolved.Resolved.{Stm, on_line, nothing, embedded_statement, Stms, stms}
use Rattle.ec_resolving_defs.specs.Agreement.{around_of}
use Rattle.ec_resolving_defs.specs.Statements.{list_of, together, object_items, embedded_at, embedded_by, statement, statement_kind, statements}
use Rattle.ec_resolving_defs.specs.Storage.{Resolving, chain, pure, checks}
use Rattle.ec_sim_statement_laws.specs.statement.Copies.{AreApart, ended, another, IsCopy, standing, empty, declared, blocks, embedded, AreCopies, end, both, gone, apart}
use Rattle.ec_sim_statement_laws.specs.expression.Lengths.{BaseHasLengths, ItemsHaveLengths}
use Rattle.ec_typing_defs.specs.Expressions.{is_varchar}
use Rattle.ec_sim_world_laws.proofs.growth_lemmas.Statements.{statements_grow}
use Rattle.ec_sim_world_laws.specs.known.Laws.{WalkKeeps}
use Rattle.ec_sim_program_laws.specs.program.Copied.{Whole, Ahead, in_function, IsCopied}
use Rattle.ec_sim_program_laws.specs.program.Declared.{AllDeclare, DeclaresOne, PlainAreAlike, VarcharsAreAlike}
use Rattle.ec_sim_program_laws.specs.program.Embedded.{inside, ExecutedIsCopied, DirectiveIsGone, EmbeddedAreCopied}
use Rattle.ec_sim_program_laws.specs.program.Shape.{IsThere}
use Rattle.ec_sim_program_laws.proofs.program_lemmas.Copying.{copied_chain, alike_first, copied_then, copied_then_here, alike_last, placed_here, placed_there, placed, grouped_here, grouped_there, answered_here, answered_there, checked_grouped_here, checked_grouped_there, checked_answer_here, gone_copied, gone_first, paired_here, answers_here}
use Rattle.ec_sim_program_laws.proofs.program_lemmas.DenotingStatements.{declaration_denotes, item_denotes}

-- ---- what a declaration leaves

module _ (P : ℕ → ℕ → Stm → Type 0) where
  listed_copies : (line : ℕ) (xs : List Stm) → AllDeclare xs → AreCopies P line (list_of xs) (list_of xs)
  listed_copies line [] h = end
  listed_copies line (x ∷ xs) h = both (declared h.0) (listed_copies line xs h.1)

  pub together_copied : (line : ℕ) (xs : List Stm) → AllDeclare xs → IsCopy P line (together xs) (together xs)
  together_copied line [] h = empty
  together_copied line (x ∷ []) h = declared h.0
  together_copied line (x ∷ y ∷ xs) h = blocks [] (listed_copies line (x ∷ y ∷ xs) h)

  -- each on this line, before others
  abbrev apart_of : ℕ → List Stm → Stms → Stms
  apart_of n [] b = b
  apart_of n (x ∷ xs) b = stms (on_line n x) (apart_of n xs b)

  apart_are : (n : ℕ) (xs : List Stm) (b : Stms) → AllDeclare xs → AreApart n (list_of xs) (apart_of n xs b) b
  apart_are n [] b h = ended b
  apart_are n (x ∷ xs) b h = another h.0 (apart_are n xs b h.1)

  -- declarations, and what stands behind them
  record StandApart (line n : ℕ) (p : List Stm × Stms) (there : Stms) : Type 0 where
    behind : Stms
    is : there ≡ apart_of n p.0 behind
    declare : AllDeclare p.0
    copies : AreCopies P line p.1 behind

  apart_copied : (line n : ℕ) (xs : List Stm) (a b : Stms) → AllDeclare xs → AreCopies P line a b → AreCopies P line (stms (on_line n (together xs)) a) (apart_of n xs b)
  apart_copied line n [] a b h c = gone n c
  apart_copied line n (x ∷ []) a b h c = both (standing n (declared h.0)) c
  apart_copied line n (x ∷ y ∷ xs) a b h c = apart n (apart_are n (x ∷ y ∷ xs) b h) c

  stand_copied : (line n : ℕ) (p : List Stm × Stms) (there : Stms) → StandApart line n p there → AreCopies P line (stms (on_line n (together p.0)) p.1) there
  stand_copied line n p there h = subst (λ b. AreCopies P line (stms (on_line n (together p.0)) p.1) b) (sym h.is) (apart_copied line n p.0 p.1 h.behind h.declare h.copies)

module _ (g : Whole) (walk : WalkKeeps g.source) (es : List EmbData) (body loop : Bool) (labels : Named (Unit {0})) (result : Option TyData) where
  -- what stands round a statement, in the source and in what is written
  abbrev pub here : checked.Around
  here = inside es body loop labels result

  abbrev pub there_too : checked.Around
  there_too = inside [] body loop labels result

  -- an item that stands for one, and the items behind it
  pub both_copied : (s s' : StmtData) (ss ss' : StmtList) {line : ℕ} {ns ms ls : Ahead}
      → IsCopied g (IsCopy g.Stands line) ns ms (checked.statement here s) (checked.statement there_too s') (statement (around_of here) s) (statement (around_of there_too) s')
      → IsCopied g (AreCopies g.Stands line) ms ls (checked.statements here ss) (checked.statements there_too ss') (statements (around_of here) ss) (statements (around_of there_too) ss')
      → IsCopied g (AreCopies g.Stands line) ns ls (checked.statements here (stmt_list s ss)) (checked.statements there_too (stmt_list s' ss'))
      (statements (around_of here) (stmt_list s ss)) (statements (around_of there_too) (stmt_list s' ss'))
  both_copied s s' ss ss' p q = copied_chain g _ _ _ _ _ _ _ _ p (λ w. (statements_grow here ss).grows w) (λ x y.
      copied_then g (λ xs. stms x xs) (λ ys. stms y ys) q (λ xs ys c. λ d. both d c))

  -- ---- declarations

  pub plain_copied : PlainAreAlike → (l : Line) (b : BaseData) (items : DeclaratorList) (section : Bool) (l0 : Line) → is_varchar b ≡ false → BaseHasLengths b → ItemsHaveLengths false items
      → (line : ℕ) (ns : List ℕ)
      → IsCopied g (IsCopy g.Stands line) (in_function ns) (in_function ns) (checked.statement here (stmt l (decl_stmt (decl b items section l0))))
      (checked.statement there_too (stmt l (decl_stmt (decl (written_base l.0 b) (written_declarators l.0 items) false (at_line l.0)))))
      (statement (around_of here) (stmt l (decl_stmt (decl b items section l0))))
      (statement (around_of there_too) (stmt l (decl_stmt (decl (written_base l.0 b) (written_declarators l.0 items) false (at_line l.0)))))
  plain_copied plain l b items section l0 is h hs line ns = placed g walk l l _ _ _ _ (λ at there. copied_then g (on_line l.0) (on_line l.0)
      (copied_then g together together (alike_last g (plain false l.0 b items section l0 (at_line l.0) is h hs) (declaration_denotes false (decl b items section l0)) (walk.declarations false (decl b items section l0))) (λ xs ys q.
      subst (λ zs. IsCopy g.Stands l.0 (together xs) (together zs)) (sym q.0) (together_copied g.Stands l.0 xs q.1)))
      (λ x y c. standing l.0 c))

  module _ (varchars : VarcharsAreAlike) (l : Line) (line : ℕ) (ms : List ℕ) (ls : Ahead) (ss ss' : StmtList)
      (rest : IsCopied g (AreCopies g.Stands line) (in_function ms) ls (checked.statements here ss) (checked.statements there_too ss') (statements (around_of here) ss) (statements (around_of there_too) ss')) where
    one_copied : (at : Place) (ds : DeclaratorList) (vs : StmtList) (first : List Stm) → DeclaresOne false first
        → IsCopied g (StandApart g.Stands line l.0) (in_function ms) ls
        (check_chain (checked.object_items at false true None ds) (λ _. checked.statements here ss)) (checked.statements there_too vs)
        (chain (object_items at false true None ds) (λ xs. chain (statements (around_of here) ss) (λ more. pure (xs, more)))) (statements (around_of there_too) vs)
        → IsCopied g (StandApart g.Stands line l.0) (in_function ms) ls
        (check_chain (checked.object_items at false true None ds) (λ _. checked.statements here ss)) (checked.statements there_too vs)
        (chain (chain (object_items at false true None ds) (λ more. pure (first ++ more))) (λ xs. chain (statements (around_of here) ss) (λ more. pure (xs, more))))
        (chain (pure (together first)) (λ s. chain (pure (on_line l.0 s)) (λ x. chain (statements (around_of there_too) vs) (λ xs. pure (stms x xs)))))
    one_copied at ds vs [] one p = absurd one
    one_copied at ds vs (x ∷ []) one p =
        answered_there g x _ (answered_there g (on_line l.0 x) _
        (paired_here g (object_items at false true None ds) (λ more. x ∷ more) (statements (around_of here) ss) (λ p. p)
        (copied_then g (λ p. (x ∷ p.0, p.1)) (λ xs. stms (on_line l.0 x) xs) p (λ p there q. record {
          behind = q.behind;
          is = λ i. stms (on_line l.0 x) (q.is i);
          declare = (one, q.declare);
          copies = q.copies;
        }))))
    one_copied at ds vs (x ∷ y ∷ xs) one p = absurd one

    varchars_copied : (at : Place) (ds : DeclaratorList) → ItemsHaveLengths true ds
        → IsCopied g (StandApart g.Stands line l.0) (in_function ms) ls
        (check_chain (checked.object_items at false true None ds) (λ _. checked.statements here ss)) (checked.statements there_too (before_stmts (decl_stmts l (varchar_objects l.0 ds)) ss'))
        (chain (object_items at false true None ds) (λ xs. chain (statements (around_of here) ss) (λ more. pure (xs, more))))
        (statements (around_of there_too) (before_stmts (decl_stmts l (varchar_objects l.0 ds)) ss'))
    varchars_copied at no_declarators h =
        checked_answer_here g tt _ (answered_here g [] _ (copied_then_here g (λ more. ([], more)) rest (λ a b c. record { behind = b; is = refl; declare = tt; copies = c })))
    varchars_copied at (declarators d ds) h =
        checked_grouped_here g _ _ _ (grouped_here g _ _ _
        (checked_grouped_there g (place l) _ _ (grouped_there g (checks (place l)) _ _ (placed_there g l _ _ (λ there.
        grouped_there g _ _ _ (grouped_there g _ _ _
        (alike_first g _ _ _ _ _ _ _ _ (varchars at false l.0 d h.0) (item_denotes at false true None d) (walk.declarators at false true None d) (λ first one.
        one_copied at ds (before_stmts (decl_stmts l (varchar_objects l.0 ds)) ss') first one (varchars_copied at ds h.1)))))))))

    pub varchar_copied : (ds : DeclaratorList) (section : Bool) (l0 : Line) → ItemsHaveLengths true ds
        → IsCopied g (AreCopies g.Stands line) (in_function ms) ls
        (checked.statements here (stmt_list (stmt l (decl_stmt (decl varchar ds section l0))) ss)) (checked.statements there_too (before_stmts (decl_stmts l (varchar_objects l.0 ds)) ss'))
        (statements (around_of here) (stmt_list (stmt l (decl_stmt (decl varchar ds section l0))) ss)) (statements (around_of there_too) (before_stmts (decl_stmts l (varchar_objects l.0 ds)) ss'))
    varchar_copied ds section l0 h =
        checked_grouped_here g (place l) _ _ (grouped_here g (checks (place l)) _ _ (placed_here g walk l _ _ (λ at.
        checked_grouped_here g (place l0) _ _ (grouped_here g _ _ _ (grouped_here g _ _ _ (grouped_here g (checks (place l0)) _ _ (placed_here g walk l0 _ _ (λ inner.
        checked_grouped_here g (check_pure None) _ _ (checked_answer_here g None _
        (grouped_here g (pure None) _ _ (answered_here g None _
        (answers_here g (object_items inner false true None ds) (statements (around_of here) ss) together (on_line l.0) stms
        (copied_then_here g (λ p. stms (on_line l.0 (together p.0)) p.1) (varchars_copied inner ds h) (λ p there q. stand_copied g.Stands line l.0 p there q))))))))))))))

  -- ---- marks

  pub mark_copied : (l : Line) (opens : Bool) (ss : StmtList) {line : ℕ} {ms ls : Ahead} {d : Rule (Unit {0})} {n : Resolving Stms}
      → IsCopied g (AreCopies g.Stands line) ms ls (checked.statements here ss) d (statements (around_of here) ss) n
      → IsCopied g (AreCopies g.Stands line) ms ls (checked.statements here (stmt_list (stmt l (mark_stmt opens)) ss)) d (statements (around_of here) (stmt_list (stmt l (mark_stmt opens)) ss)) n
  mark_copied l opens ss rest =
      checked_grouped_here g (place l) _ _ (grouped_here g (checks (place l)) _ _ (placed_here g walk l _ _ (λ at.
      checked_answer_here g tt _ (grouped_here g _ _ _ (answered_here g nothing _ (answered_here g (on_line l.0 nothing) _
      (copied_then_here g (λ xs. stms (on_line l.0 nothing) xs) rest (λ xs ys c. gone l.0 c))))))))

  -- ---- embedded statements

  module _ (embedded_kind : ℕ → Option StmtKindData) (are : EmbeddedAreCopied g es embedded_kind) where
    executed_copied : (l : Line) (n : ℕ) (e : EmbData) → e.line ≡ l → ExecutedIsCopied g es embedded_kind n e → (at there : Place) (ns : List ℕ)
        → IsCopied g (IsCopy g.Stands l.0) (in_function (n ∷ ns)) (in_function ns) (checked.embedded_at here at n (Some e)) (checked.statement_kind there_too there (or_empty (embedded_kind n)))
        (chain (embedded_at (around_of here) at n (Some e)) (λ _. pure (embedded_statement n))) (statement_kind (around_of there_too) there (or_empty (embedded_kind n)))
    executed_copied l n e on x at there ns =
        subst (λ k. IsCopied g (IsCopy g.Stands l.0) (in_function (n ∷ ns)) (in_function ns) (checked.embedded_at here at n (Some e)) (checked.statement_kind there_too there (or_empty k))
        (chain (embedded_at (around_of here) at n (Some e)) (λ _. pure (embedded_statement n))) (statement_kind (around_of there_too) there (or_empty k)))
        (sym x.is_written)
        (copied_then_here g (λ _. embedded_statement n) (x.copied body loop labels result at there ns) (λ _ y q. embedded n (subst (λ k. g.Stands k.0 n y) on q)))

    directive_copied : (l : Line) (n : ℕ) (e : EmbData) → DirectiveIsGone g es embedded_kind n e → (at there : Place) (ns : List ℕ)
        → IsCopied g (IsCopy g.Stands l.0) (in_function (n ∷ ns)) (in_function ns) (checked.embedded_at here at n (Some e)) (checked.statement_kind there_too there (or_empty (embedded_kind n)))
        (chain (embedded_at (around_of here) at n (Some e)) (λ _. pure nothing)) (statement_kind (around_of there_too) there (or_empty (embedded_kind n)))
    directive_copied l n e x at there ns =
        subst (λ k. IsCopied g (IsCopy g.Stands l.0) (in_function (n ∷ ns)) (in_function ns) (checked.embedded_at here at n (Some e)) (checked.statement_kind there_too there (or_empty k))
        (chain (embedded_at (around_of here) at n (Some e)) (λ _. pure nothing)) (statement_kind (around_of there_too) there (or_empty k)))
        (sym x.is_written)
        (gone_copied g nothing nothing (x.gone body loop labels at ns None) empty)

    -- by whether it is a directive
    either_copied : (l : Line) (n : ℕ) (e : EmbData) → slice_get es n ≡ Some e → e.line ≡ l → (directive : Bool) → is_directive e ≡ directive → (at there : Place) (ns : List ℕ)
        → IsCopied g (IsCopy g.Stands l.0) (in_function (n ∷ ns)) (in_function ns) (checked.embedded_at here at n (Some e)) (checked.statement_kind there_too there (or_empty (embedded_kind n)))
        (chain (embedded_at (around_of here) at n (Some e)) (λ _. pure (if directive then nothing else embedded_statement n))) (statement_kind (around_of there_too) there (or_empty (embedded_kind n)))
    either_copied l n e is on true directive at there ns = directive_copied l n e (are.directives n e is directive) at there ns
    either_copied l n e is on false executed at there ns = executed_copied l n e on (are.executed n e is executed) at there ns

    pub embedded_copied : (l : Line) (n : ℕ) → IsThere es l n → (at there : Place) (ns : List ℕ)
        → IsCopied g (IsCopy g.Stands l.0) (in_function (n ∷ ns)) (in_function ns) (checked.statement_kind here at (emb_stmt n)) (checked.statement_kind there_too there (or_empty (embedded_kind n)))
        (statement_kind (around_of here) at (emb_stmt n)) (statement_kind (around_of there_too) there (or_empty (embedded_kind n)))
    embedded_copied l n h at there ns =
        subst (λ o. IsCopied g (IsCopy g.Stands l.0) (in_function (n ∷ ns)) (in_function ns) (checked.embedded_at here at n o) (checked.statement_kind there_too there (or_empty (embedded_kind n)))
        (chain (embedded_at (around_of here) at n o) (λ _. pure (embedded_by n o))) (statement_kind (around_of there_too) there (or_empty (embedded_kind n))))
        (sym h.is) (either_copied l n h.emb h.is h.on (is_directive h.emb) refl at there ns)

    -- a directive as an item
    directive_item : (l : Line) (n : ℕ) (e : EmbData) → slice_get es n ≡ Some e → is_directive e ≡ true → (ss : StmtList) {line : ℕ} {ms : List ℕ} {ls : Ahead} {d : Rule (Unit {0})} {m : Resolving Stms}
        → IsCopied g (AreCopies g.Stands line) (in_function ms) ls (checked.statements here ss) d (statements (around_of here) ss) m
        → IsCopied g (AreCopies g.Stands line) (in_function (n ∷ ms)) ls (checked.statements here (stmt_list (stmt l (emb_stmt n)) ss)) d (statements (around_of here) (stmt_list (stmt l (emb_stmt n)) ss)) m
    directive_item l n e is directive ss {line} {ms} {ls} {d} {m} rest =
        subst (λ o. IsCopied g (AreCopies g.Stands line) (in_function (n ∷ ms)) ls (check_chain (check_chain (place l) (λ at. checked.embedded_at here at n o)) (λ _. checked.statements here ss)) d
        (chain (chain (checks (place l)) (λ at. chain (chain (embedded_at (around_of here) at n o) (λ _. pure (embedded_by n o))) (λ s. pure (on_line l.0 s)))) (λ x. chain (statements (around_of here) ss) (λ xs. pure (stms x xs)))) m)
        (sym is)
        (checked_grouped_here g (place l) _ _ (grouped_here g (checks (place l)) _ _ (placed_here g walk l _ _ (λ at.
        grouped_here g _ _ _ (grouped_here g _ _ _
        (gone_first g _ _ _ _ ((are.directives n e is directive).gone body loop labels at ms None) (λ w. (statements_grow here ss).grows w)
        (answered_here g (embedded_by n (Some e)) _ (answered_here g (on_line l.0 (embedded_by n (Some e))) _
        (copied_then_here g (λ xs. stms (on_line l.0 (embedded_by n (Some e))) xs) rest (λ xs ys c.
        subst (λ b. AreCopies g.Stands line (stms (on_line l.0 (if b then nothing else embedded_statement n)) xs) ys) (sym directive) (gone l.0 c)))))))))))

    pub embedded_item : (l : Line) (n : ℕ) → IsThere es l n → (ss ss' : StmtList) {line : ℕ} {ms : List ℕ} {ls : Ahead}
        → IsCopied g (IsCopy g.Stands line) (in_function (n ∷ ms)) (in_function ms) (checked.statement here (stmt l (emb_stmt n))) (checked.statement there_too (stmt l (or_empty (embedded_kind n))))
        (statement (around_of here) (stmt l (emb_stmt n))) (statement (around_of there_too) (stmt l (or_empty (embedded_kind n))))
        → IsCopied g (AreCopies g.Stands line) (in_function ms) ls (checked.statements here ss) (checked.statements there_too ss') (statements (around_of here) ss) (statements (around_of there_too) ss')
        → IsCopied g (AreCopies g.Stands line) (in_function (n ∷ ms)) ls (checked.statements here (stmt_list (stmt l (emb_stmt n)) ss)) (checked.statements there_too (before_stmts (optional_stmt l (embedded_kind n)) ss'))
        (statements (around_of here) (stmt_list (stmt l (emb_stmt n)) ss)) (statements (around_of there_too) (before_stmts (optional_stmt l (embedded_kind n)) ss'))
    embedded_item l n h ss ss' {line} {ms} {ls} alone rest = by_kind (is_directive h.emb) refl
      where
        by_kind : (b : Bool) → is_directive h.emb ≡ b
            → IsCopied g (AreCopies g.Stands line) (in_function (n ∷ ms)) ls (checked.statements here (stmt_list (stmt l (emb_stmt n)) ss)) (checked.statements there_too (before_stmts (optional_stmt l (embedded_kind n)) ss'))
            (statements (around_of here) (stmt_list (stmt l (emb_stmt n)) ss)) (statements (around_of there_too) (before_stmts (optional_stmt l (embedded_kind n)) ss'))
        by_kind true e =
            subst (λ k. IsCopied g (AreCopies g.Stands line) (in_function (n ∷ ms)) ls (checked.statements here (stmt_list (stmt l (emb_stmt n)) ss)) (checked.statements there_too (before_stmts (optional_stmt l k) ss'))
            (statements (around_of here) (stmt_list (stmt l (emb_stmt n)) ss)) (statements (around_of there_too) (before_stmts (optional_stmt l k) ss')))
            (sym (are.directives n h.emb h.is e).is_written) (directive_item l n h.emb h.is e ss rest)
        by_kind false e =
            let x : ExecutedIsCopied g es embedded_kind n h.emb = are.executed n h.emb h.is e in
            subst (λ k. IsCopied g (AreCopies g.Stands line) (in_function (n ∷ ms)) ls (checked.statements here (stmt_list (stmt l (emb_stmt n)) ss)) (checked.statements there_too (before_stmts (optional_stmt l k) ss'))
            (statements (around_of here) (stmt_list (stmt l (emb_stmt n)) ss)) (statements (around_of there_too) (before_stmts (optional_stmt l k) ss')))
            (sym x.is_written)
            (both_copied (stmt l (emb_stmt n)) (stmt l x.kind) ss ss'
            (subst (λ k. IsCopied g (IsCopy g.Stands line) (in_function (n ∷ ms)) (in_function ms) (checked.statement here (stmt l (emb_stmt n))) (checked.statement there_too (stmt l (or_empty k)))
            (statement (around_of here) (stmt l (emb_stmt n))) (statement (around_of there_too) (stmt l (or_empty k)))) x.is_written alone)
            rest)
