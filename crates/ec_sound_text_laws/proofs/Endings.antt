-- Programs that are accepted are never stuck.
use Rattle.std.proofs.Common.{◌≡◌, ◌≢◌, ℕ, true, List, [], sym, subst, Option, Result, Ok, Err}
use Rattle.ec_arguments.specs.Arguments.{Arg}
use Rattle.ec_base.specs.declared.stop.Stop.{Stop}
use Rattle.ec_call_defs.specs.Steps.{library_step}
use Rattle.ec_ctypes.specs.declared.checked.library.LibName.{LibName}
use Rattle.ec_ctypes.specs.trees.Checked.{TypedData}
use Rattle.ec_ctypes.specs.trees.Units.{UnitData}
use Rattle.ec_direct_defs.specs.Direct.{direct_meaning}
use Rattle.ec_direct_defs.specs.simulation.Written.{written_meaning}
use Rattle.ec_execution_defs.specs.Programs.{Executable, executable, resolved, left_of, meaning}
use Rattle.ec_expansion_defs.specs.Programs.{written_program}
use Rattle.ec_host_defs.specs.sections.Answers.{hosts_answer}
use Rattle.ec_host_defs.specs.sections.Declared.{hosts_of}
use Rattle.ec_language.specs.Letters.{Text}
use Rattle.ec_meaning_defs.specs.evaluation.State.{Answer, Ending, stuck}
use Rattle.ec_meaning_defs.specs.evaluation.Whole.{program_meaning}
use Rattle.ec_meaning_defs.specs.resolved.Programs.{Program}
use Rattle.ec_meaning_defs.specs.resolved.Resolved.{Exp}
use Rattle.ec_phases_defs.specs.Sources.{BoundProgram}
use Rattle.ec_phases_defs.specs.translation.Accepted.{IsAcceptedText}
use Rattle.ec_phases_defs.specs.written.Written.{ReadsWritten}
use Rattle.ec_resolving_defs.specs.Programs.{resolve, library_calls_of}
use Rattle.ec_sim_program_laws.specs.types.Types.{StructsAreShallow}
use Rattle.ec_sim_program_laws.proofs.types_lemmas.Fits.{FitTops}
use Rattle.ec_sim_source_laws.specs.run.Runs.{KeepsItsMeaning}
use Rattle.ec_sound_defs.specs.Outcomes.{IsNotStuck}
use Rattle.ec_sound_defs.specs.Sound.{Signature, SoundProgram}
use Rattle.ec_sound_defs.specs.Written.{library_atoms}
use Rattle.ec_sound_program_laws.specs.Programs.{ProgramsAreSound}
use Rattle.ec_sound_text_laws.specs.Endings.{IsNeverStuck}
use Rattle.ec_sound_text_laws.specs.Read.{ReadTops}
use Rattle.ec_sound_text_laws.specs.Runs.{WrittenTextsAreNeverStuck}
use Rattle.ec_sound_text_laws.proofs.Fitting.{unit_fits}
use Rattle.ec_sound_text_laws.proofs.Plain.{tops_plain}
use Rattle.ec_sound_text_laws.proofs.Shapes.{shape_read}
use Rattle.ec_sound_text_laws.proofs.Sources.{source_flat}
use Rattle.ec_sound_text_laws.proofs.Texts.{text_read}
use Rattle.ec_typing_defs.specs.Answers.{checked, violations}
use Rattle.ec_writing_defs.specs.Shapes.{is_written_shape}

abbrev SoundAreNeverStuck : Type 0
SoundAreNeverStuck = (signatures : List Signature) (calls : List (LibName × List (Arg Exp))) (p : Program) → SoundProgram signatures (library_atoms signatures calls) p
    → (turns : ℕ) (ready : Option (ℕ × List ℕ)) (answers : List Answer) → IsNotStuck (program_meaning (library_step calls) p turns ready answers).ending

unstuck : (e : Ending) → IsNotStuck e → e ≢ stuck
unstuck e h same = subst IsNotStuck same h

abbrev run_as : Executable → Result Executable Stop
run_as x = Ok x

same_run : (x y : Executable) → run_as x ≡ run_as y → x ≡ y
same_run x y e = λ i. run_or (e i)
  where
    run_or : Result Executable Stop → Executable
    run_or (Ok z) = z
    run_or (Err stop) = x

module _ (sound : ProgramsAreSound true) (never : SoundAreNeverStuck) where
  tree_never : (u : UnitData) → FitTops u.tops → ReadTops u.tops → violations true u ≡ [] → StructsAreShallow (checked true u).world → IsNeverStuck (written_meaning u)
  tree_never u fit read none shallow =
      let s = sound u fit (tops_plain u.tops read) none shallow in
      λ turns ready answers. unstuck (written_meaning u turns ready answers).ending (never s.signatures (library_calls_of true u) (resolve true u) s.sound turns ready answers)

  -- ---- written C

  executable_never : (u : UnitData) → IsNeverStuck (written_meaning u) → IsNeverStuck (meaning (executable u))
  unfolding meaning
  executable_never u h = h

  resolved_never : (text : Text) (x : Executable) (read : Result TypedData Stop) → ReadsWritten text read → Ok x ≡ resolved read → IsNeverStuck (meaning x)
  resolved_never text x (Ok t) r e =
      let u = text_read text t r in
      subst (λ y. IsNeverStuck (meaning y)) (sym (same_run x (executable t.unit) e)) (executable_never t.unit (tree_never t.unit u.fit u.read u.nothing_wrong u.shallow))
  resolved_never text x (Err stop) r e = absurd (cc)

  pub written_never : WrittenTextsAreNeverStuck
  written_never text x (left_of read r e) = resolved_never text x read r e

  -- ---- sources

  pub source_never : (text : Text) (p : BoundProgram) → IsAcceptedText text p → let v = written_program p.program p.bounds in is_written_shape v ≡ true → hosts_answer v ≡ Ok (hosts_of v) → violations true v ≡ [] → StructsAreShallow (checked true v).world
      → KeepsItsMeaning p → IsNeverStuck (direct_meaning p.program)
  source_never text p h shape hosts none shallow means =
      let v = written_program p.program p.bounds in
      let read = shape_read v shape in
      λ turns ready answers. subst (λ o. o.ending ≢ stuck) (means turns ready answers) (tree_never v (unit_fits v (hosts_of v) hosts read (source_flat text p h)) read none shallow turns ready answers)
