use Rattle.std.proofs.Common.{subst, sym, arith}
use Rattle.ec_execute.proofs.source_lemmas.Telling.{bytes_are}
use Rattle.ec_cli.specs.Forms.{TellsRun}
use Rattle.ec_cli.proofs.Executions.{source_told, written_told, recorded_told, generated_told}
use Rattle.ec_cli.proofs.execution.read_text.Goals as goal

pub returns-in-Source : goal.returns-in-Source
returns-in-Source c =
    subst (λ f. TellsRun f c.args.text.now c.read_source.result) (sym c.in-Source.is)
    (source_told c.accepted_programs_are_never_stuck.ensures.sources c.args.text.now (bytes_are c.args.text.now (λ i. omega (arith, c.type_inv.text i))) c.read_source.result c.read_source.ensures)

pub returns-in-Written : goal.returns-in-Written
returns-in-Written c =
    subst (λ f. TellsRun f c.args.text.now c.read_program.result) (sym c.in-Written.is)
    (written_told c.accepted_programs_are_never_stuck.ensures.programs c.args.text.now c.read_program.result c.read_program.ensures.answer)

pub returns-in-Recorded : goal.returns-in-Recorded
returns-in-Recorded c =
    subst (λ f. TellsRun f c.args.text.now c.read_source-in-Recorded.result) (sym c.in-Recorded.is)
    (recorded_told c.accepted_programs_are_never_stuck.ensures.sources c.args.text.now (bytes_are c.args.text.now (λ i. omega (arith, c.type_inv.text i))) c.read_source-in-Recorded.result c.read_source-in-Recorded.ensures)

pub returns-in-Generated : goal.returns-in-Generated
returns-in-Generated c =
    subst (λ f. TellsRun f c.args.text.now c.read_source-in-Generated.result) (sym c.in-Generated.is)
    (generated_told c.accepted_programs_are_never_stuck.ensures.sources c.args.text.now (bytes_are c.args.text.now (λ i. omega (arith, c.type_inv.text i))) c.in-Generated.field-0 c.read_source-in-Generated.result c.read_source-in-Generated.ensures)
