use Rattle.std.proofs.Common.{Err, subst, sym}
use Rattle.ec_call_defs.specs.Inputs.{given_read}
use Rattle.ec_runtime.specs.Describing.{described}
use Rattle.ec_runtime.specs.Reading.{given_view}
use Rattle.ec_runtime.specs.Says.{Changed, Says, holding}
use Rattle.ec_runtime.proofs.Telling.{behind, described_is, ended}
use Rattle.ec_runtime.proofs.describing.describe.Goals as goal

pub returns-in-Err-clause-changed : goal.returns-in-Err-clause-changed
returns-in-Err-clause-changed c = λ s.
    subst (λ o. Says {A = Unit {0}} (Err c.in-Err.stop) o (holding c.args.store.now c.args.areas.now s)) (sym (described_is c.args.line.0 c.args.name.now c.args.what.now (holding c.args.store.now c.args.areas.now s)))
    (ended (given_read (given_view c.args.name.now)) (λ called t. described c.args.line.0 c.args.what.now called t) c.args.store.now c.args.areas.now c.in-Err.stop c.in-Err.ensures s)

pub returns-in-Ok-clause-changed : goal.returns-in-Ok-clause-changed
returns-in-Ok-clause-changed c = λ s.
    subst (λ o. Says c.describe_named.result o (holding c.describe_named.new.store c.describe_named.new.areas s)) (sym (described_is c.args.line.0 c.args.name.now c.args.what.now (holding c.args.store.now c.args.areas.now s)))
    (behind (given_read (given_view c.args.name.now)) (λ called t. described c.args.line.0 c.args.what.now called t) c.args.store.now c.args.areas.now c.in-Ok.called c.describe_named.new.store c.describe_named.new.areas c.describe_named.result
    c.in-Ok.ensures
    (subst (λ called. Changed c.describe_named.result (described c.args.line.0 c.args.what.now called) c.args.store.now c.args.areas.now c.describe_named.new.store c.describe_named.new.areas) c.as_slice.ensures c.describe_named.ensures.changed) s)
