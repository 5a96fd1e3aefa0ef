-- A conversion gives what the host has.
use Rattle.ec_convert.specs.Host.{given_host}
use Rattle.ec_runtime.proofs.Kept.{with_host}
use Rattle.ec_runtime.proofs.Texts.{value_given, value_trapped, never_code, trap_given}
use Rattle.ec_transfer_defs.specs.Conversion.{parameter}
use Rattle.ec_runtime.proofs.inputs.value.Goals as goal

pub unreachable-requires : goal.unreachable-requires
unreachable-requires c = with_host (given_host c.args.host.now.place) c.args.host.now.typed (λ h e. never_code c.in-Err-Code.field-0 c.in-Err-Code.field-0-0 (parameter c.args.store.now h) c.in-Err-Code.field-0-is (c.in-Err-Code.ensures h e))

pub returns-in-Ok : goal.returns-in-Ok
returns-in-Ok c = λ s. with_host (given_host c.args.host.now.place) c.args.host.now.typed (λ h e. value_given c.args.host.now.place h e c.args.store.now c.in-Ok.text (c.in-Ok.ensures h e) s)

pub returns-in-Err-Trapped : goal.returns-in-Err-Trapped
returns-in-Err-Trapped c = λ s. with_host (given_host c.args.host.now.place) c.args.host.now.typed (λ h e. value_trapped c.args.host.now.place h e c.args.store.now c.in-Err-Trapped.trap (trap_given c.in-Err-Trapped.field-0 c.in-Err-Trapped.trap (parameter c.args.store.now h) c.in-Err-Trapped.field-0-is (c.in-Err-Trapped.ensures h e)) s)
