use Rattle.std.proofs.Common.{◌++◌, subst}
use Rattle.ec_ctypes.specs.views.Exprs.{base_view, dims_view}
use Rattle.ec_writing_defs.specs.Expressions.{base_chunks, dims_chunks}
use Rattle.ec_writing_defs.specs.Programs.{param_name}
use Rattle.ec_cwrite.specs.Writes.{Writes}
use Rattle.ec_cwrite.proofs.Writing.{both}
use Rattle.ec_cwrite.proofs.programs.push_param.Goals as goal

pub returns : goal.returns
returns c =
    subst (λ ds. Writes c.args.out.now c.push_dims.new.out (base_chunks (base_view c.args.param.now.base) ++ (param_name c.args.param.now.stars c.args.param.now.name ++ dims_chunks (dims_view ds)))) c.as_slice.ensures
    (both c.in_ok-push_base.ensures (both c.in_ok-push_param_name.ensures c.in_ok-push_dims.ensures))
