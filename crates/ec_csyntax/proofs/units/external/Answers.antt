use Rattle.std.proofs.lemmas.Result.{err_from_is_err_and}
use Rattle.ec_csyntax.proofs.Externals.{whole_external, no_base, no_tail}
use Rattle.ec_csyntax.proofs.units.external.Goals as goal

pub returns-in_err-base : goal.returns-in_err-base
returns-in_err-base c =
    let p = err_from_is_err_and c.from_residual.result c.from_residual.ensures.1 in
    rw (p.1, p.2) (λ given. no_base _ _ _ (c.in_err-base.ensures given))

pub returns-in_err-top : goal.returns-in_err-top
returns-in_err-top c =
    let p = err_from_is_err_and c.from_residual-in_err-top.result c.from_residual-in_err-top.ensures.1 in
    rw (p.1, p.2) (λ given. no_tail _ _ _ _ _ _ c.in_ok-base.ensures c.begin_declarator-outside.ensures.inside (c.in_err-top.ensures given))

pub returns : goal.returns
returns c = whole_external _ _ _ _ _ _ _ _ _ c.in_ok-base.ensures c.begin_declarator-outside.ensures.inside c.begin_declarator-outside.ensures.outside c.in_ok-top.ensures c.end_declarator.ensures
