use Rattle.std.proofs.Common.{◌∙◌, subst, sym}
use Rattle.std.specs.Option.{option_copied}
use Rattle.ec_convert.specs.Host.{given_host}
use Rattle.ec_call_defs.specs.Outcomes.{next, present, with_memory}
use Rattle.ec_call_defs.specs.Storing.{field_kept}
use Rattle.ec_runtime.specs.Says.{Says}
use Rattle.ec_runtime.proofs.Kept.{with_host}
use Rattle.ec_runtime.proofs.Targets.{same_host}
use Rattle.ec_runtime.proofs.describing.keep_text.Goals as goal

pub returns-clause-quiet : goal.returns-clause-quiet
returns-clause-quiet c = λ s. with_host (given_host c.args.host.now.place) c.args.host.now.typed (λ h e.
    subst (λ o. Says c.keep_field.result (next (present o (with_memory c.args.store.now s)) (λ x t. field_kept c.args.line.0 x 0 (option_copied c.args.field) t)) (with_memory c.keep_field.new.store s))
    (sym (same_host c.args.host.now.place ∙ e)) (c.keep_field.ensures.quiet h e s))
