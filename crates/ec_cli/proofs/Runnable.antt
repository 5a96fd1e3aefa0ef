-- What a source is run as is never stuck.
use Rattle.std.proofs.Common.{◌≡◌, true, sym, ap, subst, Result, Ok, Err}
use Rattle.ec_base.specs.declared.stop.Stop.{Stop}
use Rattle.ec_execute.specs.source.Runnable.{IsRunAs, run, limited, IsRunnable, refused, accepted, source_meaning}
use Rattle.ec_execution_defs.specs.Programs.{Executable}
use Rattle.ec_language.specs.Letters.{Text, each}
use Rattle.ec_phases_defs.specs.Sources.{BoundProgram, ReadsSource}
use Rattle.ec_sound_text_laws.specs.Endings.{IsNeverStuck}
use Rattle.ec_sound_text_laws.specs.Runs.{SourcesAreNeverStuck}
use Rattle.ec_writing_defs.specs.Shapes.{is_byte}

program_in : BoundProgram → Result BoundProgram Stop → BoundProgram
program_in p (Ok q) = q
program_in p (Err stop) = p

module _ (never : SourcesAreNeverStuck) (text : Text) (bytes : each is_byte text ≡ true) where
  run_never : (p q : BoundProgram) (x : Result Executable Stop) → ReadsSource text (Ok q) → IsRunAs text q (Ok p) x → IsNeverStuck (source_meaning p)
  unfolding program_in
  run_never p q _ reads (run x e) = subst (λ r. IsNeverStuck (source_meaning r)) (sym (ap (program_in p) e)) (never text q (record { bytes = bytes; reads = reads }))
  run_never p q _ reads (limited limit e) = absurd (cc)

  pub runnable_never : (p : BoundProgram) → IsRunnable text (Ok p) → IsNeverStuck (source_meaning p)
  runnable_never p (refused stop reads e) = absurd (cc)
  runnable_never p (accepted q x reads is e) = run_never p q x reads e
