use Rattle.std.proofs.Common.{refl, ◌∙◌}
use Rattle.std.specs.Prelude.{map}
use Rattle.ec_ctypes.specs.views.Units.{param_view}
use Rattle.ec_cwrite.specs.Lists.{comma_chunks}
use Rattle.ec_cwrite.proofs.Lists.{drop_item, list_kept}
use Rattle.ec_cwrite.proofs.Remains.{params_from}
use Rattle.ec_write_parts.specs.Written.{param_of}
use Rattle.ec_writing_defs.specs.Programs.{param_chunks}
use Rattle.ec_write_parts.proofs.parameters.put_some_params.Goals as goal

pub loop-at-preserved : goal.loop-at-preserved
loop-at-preserved c =
    list_kept comma_chunks (λ x. param_chunks (param_of c.args.line.0 (param_view x))) (λ k xs. params_from k (map (param_of c.args.line.0) (map param_view xs))) (λ x xs. refl) (λ k x xs. refl) c.loop-at.at c.args.params.now c.index-params-at.result
    (drop_item c.args.params.now c.loop-at.at c.index-params-at.result c.loop-at-test.true c.index-params-at.is) c.in_ok-push_comma.ensures c.in_ok-put_param.ensures ∙ c.loop-at.invariant
