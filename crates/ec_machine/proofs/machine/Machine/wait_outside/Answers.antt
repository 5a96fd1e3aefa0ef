use Rattle.std.proofs.Common.{◌∙◌, ◌∷◌, [], ap, sym}
use Rattle.std.specs.Prelude.{reverse}
use Rattle.ec_code.specs.Views.{statements_view}
use Rattle.ec_meaning_defs.specs.evaluation.Execute.{run_all}
use Rattle.ec_meaning_defs.specs.evaluation.Results.{on_done}
use Rattle.ec_machine.specs.declared.frame.Frame.TheVariants as frame
use Rattle.ec_machine.specs.Frames.{here, outside, plug, resume}
use Rattle.ec_machine.specs.Goes.{env_of}
use Rattle.ec_machine.proofs.Moves.{pushed}
use Rattle.ec_machine.proofs.Parts.{none_left}
use Rattle.ec_machine.proofs.Running.{done_on}
use Rattle.ec_machine.proofs.machine.Machine.wait_outside.Goals as goal

pub returns-in-empty-clause-waits : goal.returns-in-empty-clause-waits
returns-in-empty-clause-waits c =
    let m = c.args.self.now in
    let x = c.args.way in
    let e = env_of m in
    record {
      more = frame.Call x ∷ [];
      frames = c.in_ok-push.ensures.ok;
      resumes = λ knowing w o. sym (
          ap (λ xs. resume knowing w (outside x e) (reverse m.frames) (plug knowing w e (frame.Call x) (on_done o (λ u. run_all knowing w (here e x.line) (statements_view xs) u)))) (none_left c.args.rest.now c.in-empty.len_below)
          ∙ ap (λ r. resume knowing w (outside x e) (reverse m.frames) (plug knowing w e (frame.Call x) r)) (done_on o)
          ∙ pushed knowing w e m.frames c.push.new.self (frame.Call x) o c.in_ok-push.ensures.ok);
    }
