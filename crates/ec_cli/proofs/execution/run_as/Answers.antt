use Rattle.std.proofs.Common.{inl, refl}
use Rattle.ec_execution_defs.specs.Programs.{meaning}
use Rattle.ec_execute.specs.Executables.{executable_view}
use Rattle.ec_cli.specs.declared.form.Form.TheVariants.{Source, Written, Recorded, Generated}
use Rattle.ec_cli.proofs.Executions.{as_form, unrecorded}
use Rattle.ec_cli.proofs.execution.run_as.Goals as goal

pub returns-in-Source-clause-carried : goal.returns-in-Source-clause-carried
returns-in-Source-clause-carried g c =
    as_form _ _ _ _ _ _ Source c.args.form (meaning (executable_view c.args.executable.now)) c.args.turns _ _ _ _ _ _ _ c.in-Source.is (inl c.run_over.ensures)

pub returns-in-Source-clause-recorded : goal.returns-in-Source-clause-recorded
returns-in-Source-clause-recorded g c = unrecorded _ _ Source c.args.form c.args.err.now c.run_over.new.err c.args.rack.now c.run_over.new.rack c.in-Source.is (λ e. cc (e))

pub returns-in-Written-clause-carried : goal.returns-in-Written-clause-carried
returns-in-Written-clause-carried g c =
    as_form _ _ _ _ _ _ Written c.args.form (meaning (executable_view c.args.executable.now)) c.args.turns _ _ _ _ _ _ _ c.in-Written.is (inl c.run_over-in-Written.ensures)

pub returns-in-Written-clause-recorded : goal.returns-in-Written-clause-recorded
returns-in-Written-clause-recorded g c = unrecorded _ _ Written c.args.form c.args.err.now c.run_over-in-Written.new.err c.args.rack.now c.run_over-in-Written.new.rack c.in-Written.is (λ e. cc (e))

pub returns-in-Recorded-clause-carried : goal.returns-in-Recorded-clause-carried
returns-in-Recorded-clause-carried g c =
    as_form _ _ _ _ _ _ Recorded c.args.form (meaning (executable_view c.args.executable.now)) c.args.turns _ _ _ _ _ _ _ c.in-Recorded.is c.run_recorded.ensures.carried

pub returns-in-Recorded-clause-recorded : goal.returns-in-Recorded-clause-recorded
returns-in-Recorded-clause-recorded g c = λ e. c.run_recorded.ensures.recorded refl

pub returns-in-Generated-clause-carried : goal.returns-in-Generated-clause-carried
returns-in-Generated-clause-carried g c =
    as_form _ _ _ _ _ _ (Generated c.in-Generated.number) c.args.form (meaning (executable_view c.args.executable.now)) c.args.turns _ _ _ _ _ _ _ c.in-Generated.is (inl c.run_told.ensures)

pub returns-in-Generated-clause-recorded : goal.returns-in-Generated-clause-recorded
returns-in-Generated-clause-recorded g c = unrecorded _ _ (Generated c.in-Generated.number) c.args.form c.args.err.now c.run_told.new.err c.args.rack.now c.run_told.new.rack c.in-Generated.is (λ e. cc (e))
