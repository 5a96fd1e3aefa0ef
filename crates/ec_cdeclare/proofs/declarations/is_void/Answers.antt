use Rattle.std.proofs.Common.{sym, ◌∙◌}
use Rattle.std.proofs.lemmas.Bool.{false≢true}
use Rattle.ec_ctypes.specs.views.Exprs.{base_view, dims_view}
use Rattle.ec_cdeclare.proofs.NoVoid.{stars_no_void, lengths_no_void}
use Rattle.ec_cdeclare.proofs.declarations.is_void.Goals.{then-param-eq0, else-param-eq0}
use Rattle.ec_cdeclare.proofs.declarations.is_void.Goals as goal

pub returns-else-is_empty : goal.returns-else-is_empty
returns-else-is_empty c =
    let p = c.args.param.now in
    elim c.if-param-eq0.branch [
      | then-param-eq0 w ↦ c.if-is_empty.false ∙ sym (lengths_no_void (base_view p.base) p.stars p.name p.dims (λ e. false≢true (sym c.if-is_empty.false ∙ w.value-is ∙ w.is_empty.ensures.1 e)))
      | else-param-eq0 w ↦ c.if-is_empty.false ∙ sym (stars_no_void (base_view p.base) p.stars p.name (dims_view p.dims) w.if-param-eq0.false)
    ]
