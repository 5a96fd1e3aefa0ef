-- What is read where no level is left, and where there is one.
use Rattle.std.proofs.Common.{◌≡◌, ℕ, zero, suc, ◌-◌, ◌<◌, Bool, length, Err, refl, sym, ap, ◌∙◌, arith}
use Rattle.ec_grammar.specs.declared.failure.Failure.{Failure}
use Rattle.ec_grammar.specs.declared.kind.Kind.{Kind}
use Rattle.ec_language.specs.Syntax.{limits}
use Rattle.ec_grammar.specs.Input.{State, no_level, level_failure, kind_at}
use Rattle.ec_grammar.specs.Starts.{begins_statement, is_left_brace}
use Rattle.ec_grammar.specs.ReadDeclarations.{nested}
use Rattle.ec_grammar.specs.ReadStatements.{statement, block, nested_statements}

pub no_statement : (levels : ℕ) (i : State) → levels ≡ 0 → (nested_statements limits levels).statement i ≡ no_level begins_statement i
unfolding nested_statements
no_statement zero i none = refl
no_statement (suc levels) i none = absurd (omega arith)

pub no_block : (levels : ℕ) (i : State) → levels ≡ 0 → (nested_statements limits levels).block i ≡ no_level is_left_brace i
unfolding nested_statements
no_block zero i none = refl
no_block (suc levels) i none = absurd (omega arith)

pub one_statement : (levels : ℕ) (i : State) → 0 < levels
    → (nested_statements limits levels).statement i ≡ statement limits (nested limits (levels - 1)) (nested_statements limits (levels - 1)) i
unfolding nested_statements
one_statement zero i some = absurd (omega arith)
one_statement (suc levels) i some = let e : levels ≡ suc levels - 1 = omega arith in ap (λ n. statement limits (nested limits n) (nested_statements limits n) i) e

pub one_block : (levels : ℕ) (i : State) → 0 < levels
    → (nested_statements limits levels).block i ≡ block limits (nested limits (levels - 1)) (nested_statements limits (levels - 1)) i
unfolding nested_statements
one_block zero i some = absurd (omega arith)
one_block (suc levels) i some = let e : levels ≡ suc levels - 1 = omega arith in ap (λ n. block limits (nested limits n) (nested_statements limits n) i) e

-- the failure of code that finds no level
pub statement_fails : (levels : ℕ) (i : State) (j : Kind) (t : Bool) (e : Failure) → levels ≡ 0 → j ≡ kind_at i.tokens → t ≡ begins_statement j → e ≡ level_failure t (length i.tokens)
    → (nested_statements limits levels).statement i ≡ Err e
statement_fails levels i j t e none kind test is =
    let tested : t ≡ begins_statement (kind_at i.tokens) = test ∙ ap begins_statement kind in
    let same : e ≡ level_failure (begins_statement (kind_at i.tokens)) (length i.tokens) = is ∙ ap (λ (b : Bool). level_failure b (length i.tokens)) tested in
    no_statement levels i none ∙ (λ n. Err (sym same n))

-- the failure of code that finds no level
pub block_fails : (levels : ℕ) (i : State) (j : Kind) (t : Bool) (e : Failure) → levels ≡ 0 → j ≡ kind_at i.tokens → t ≡ is_left_brace j → e ≡ level_failure t (length i.tokens)
    → (nested_statements limits levels).block i ≡ Err e
block_fails levels i j t e none kind test is =
    let tested : t ≡ is_left_brace (kind_at i.tokens) = test ∙ ap is_left_brace kind in
    let same : e ≡ level_failure (is_left_brace (kind_at i.tokens)) (length i.tokens) = is ∙ ap (λ (b : Bool). level_failure b (length i.tokens)) tested in
    no_block levels i none ∙ (λ n. Err (sym same n))
