-- Loops over statements.
use Rattle.std.proofs.Common.{◌≡◌, ◌∙◌, ℕ, ◌+◌, ◌<◌, ◌≤◌, List, [], ◌∷◌, ◌++◌, length, drop, map, get_or, refl, sym, ap}
use Rattle.std.proofs.lemmas.List.{drop_all, map-append}
use Rattle.ec_code.specs.declared.statement.Statement.{Statement}
use Rattle.ec_code.specs.Trees.{stms_of}
use Rattle.ec_code.specs.Views.{statement_view}
use Rattle.ec_ctypes.specs.declared.tree.stmt.Stmt.{Stmt}
use Rattle.ec_ctypes.specs.views.Stmts.{stmt_view, stmts_view}
use Rattle.ec_resolve_expressions.proofs.Steps.{mapped_as}
use Rattle.ec_resolve_forms.specs.declared.resolver.Resolver.{Resolver}
use Rattle.ec_resolve_forms.specs.Seen.{from, mapped, IsReached}
use Rattle.ec_resolve_forms.proofs.Following.{gather, reached_as}
use Rattle.ec_meaning_defs.specs.resolved.Resolved.{Stm, Stms, no_stms, stms}
use Rattle.ec_resolving_defs.specs.Statements.{Around, statement, statements}
use Rattle.ec_resolving_defs.specs.Storage.{Reached, pure}
use Rattle.ec_scopes.proofs.Loops.{drop_item}
use Rattle.ec_resolve_parts.specs.Made.{listed_view}

-- these statements, and others behind them
abbrev pub before : List Stm → Stms → Stms
before [] rest = rest
before (s ∷ ss) rest = stms s (before ss rest)

before-more : (ss : List Stm) (s : Stm) (rest : Stms) → before (ss ++ s ∷ []) rest ≡ before ss (stms s rest)
before-more [] s rest = refl
before-more (t ∷ ss) s rest = ap (stms t) (before-more ss s rest)

before-none : (ss : List Stm) → before ss no_stms ≡ stms_of ss
before-none [] = refl
before-none (s ∷ ss) = ap (stms s) (before-none ss)

pub stmts_step : {whole : Reached Stms} (now : Resolver) {next : Resolver} (a : Around) (ss : List Stmt) (i : ℕ) (s : Stmt) (made more : List Statement) (x : Statement)
    → i < length ss → s ≡ get_or ss i s → more ≡ made ++ (x ∷ [])
    → whole ≡ mapped (before (listed_view made)) (from (statements a (stmts_view (drop i ss))) now)
    → IsReached (from (statement a (stmt_view s)) now) next (statement_view x)
    → whole ≡ mapped (before (listed_view more)) (from (statements a (stmts_view (drop (i + 1) ss))) next)
stmts_step {whole} now {next} a ss i s made more x lt is put g p =
    let rest = from (statements a (stmts_view (drop (i + 1) ss))) next in
    g ∙ ap (λ xs. mapped (before (listed_view made)) (from (statements a (stmts_view xs)) now)) (drop_item ss i s lt is)
    ∙ ap (mapped (before (listed_view made))) (gather (statement a (stmt_view s)) (λ _. statements a (stmts_view (drop (i + 1) ss))) (λ y ys. stms y ys) now p)
    ∙ mapped_as (λ b. before (listed_view made) (stms (statement_view x) b)) (before (listed_view more)) rest
    (sym (ap (λ l. before l rest.answer) (ap (map statement_view) put ∙ map-append statement_view made (x ∷ [])) ∙ before-more (listed_view made) (statement_view x) rest.answer))

pub stmts_end : {whole : Reached Stms} (now : Resolver) (made : List Statement) → whole ≡ mapped (before (listed_view made)) (from (pure no_stms) now) → IsReached whole now (stms_of (listed_view made))
unfolding pure
stmts_end now made e = reached_as (sym e) (record { answer_is = sym (before-none (listed_view made)); storage_is = refl; world_is = refl })

pub stmts_done : {whole : Reached Stms} (now : Resolver) (a : Around) (ss : List Stmt) (i : ℕ) (made : List Statement) → length ss ≤ i
    → whole ≡ mapped (before (listed_view made)) (from (statements a (stmts_view (drop i ss))) now) → IsReached whole now (stms_of (listed_view made))
stmts_done {whole} now a ss i made le e = stmts_end now made (e ∙ ap (λ l. mapped (before (listed_view made)) (from (statements a (stmts_view l)) now)) (drop_all i ss le))
