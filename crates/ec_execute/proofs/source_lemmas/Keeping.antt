-- What is written of a source is read as its written program, and means what the source means.
use Rattle.std.proofs.Common.{◌≡◌, true, refl, sym, ap, subst, Result, Ok, Err}
use Rattle.std.specs.Prelude.{IfOk}
use Rattle.ec_base.specs.declared.stop.Stop.{Stop}
use Rattle.ec_execution_defs.specs.Programs as written
use Rattle.ec_execution_defs.specs.Programs.{IsProgram}
use Rattle.ec_language.specs.Letters.{Text, each}
use Rattle.ec_phases_defs.specs.Sources.{BoundProgram, ReadsSource}
use Rattle.ec_front.specs.translation.Answers.{TellsTranslation}
use Rattle.ec_phases_defs.specs.translation.Laws.{HasOneTranslation}
use Rattle.ec_phases_defs.specs.translation.Translations.{text_of_program, IsTranslation, translation}
use Rattle.ec_writing_defs.specs.Shapes.{is_byte}
use Rattle.ec_phases_defs.specs.translation.Accepted.{IsAcceptedText}
use Rattle.ec_sim_source_laws.specs.run.Runs.{IsReadBackAs, IsRunOf, KeepsItsMeaning}
use Rattle.ec_execute.specs.source.Meanings.{MeansSource, KeepsMeaning}
use Rattle.ec_execute.specs.source.Runnable.{IsRunnable, IsRunAs, refused, accepted, run, limited}

text_in : Text → Result Text Stop → Text
text_in w (Ok t) = t
text_in w (Err stop) = w

program_in : BoundProgram → Result BoundProgram Stop → BoundProgram
program_in p (Ok q) = q
program_in p (Err stop) = p

module _ (single : HasOneTranslation)
    (runs : (text : Text) (p : BoundProgram) → IsAcceptedText text p → (x : Result written.Executable Stop) → IsProgram (text_of_program p) x → IsRunOf p x)
    (is_read : (text : Text) (p : BoundProgram) → IsAcceptedText text p → IsReadBackAs p (text_of_program p))
    (means : (text : Text) (p : BoundProgram) → IsAcceptedText text p → KeepsItsMeaning p) (text w : Text) (bytes : each is_byte text ≡ true) (h : IsTranslation text (Ok w)) where
  -- what is written is the text of the program that is read
  is_text : (q : BoundProgram) → ReadsSource text (Ok q) → text_of_program q ≡ w
  unfolding text_in
  is_text q reads = ap (text_in w) (single text (Ok (text_of_program q)) (Ok w) (translation (Ok q) reads refl) h)

  run_of : (p q : BoundProgram) (x : written.Executable) → ReadsSource text (Ok q)
      → IsProgram (text_of_program q) (Ok x) → ◌≡◌ {A = Result BoundProgram Stop} (Ok p) (Ok q) → MeansSource p w
  unfolding program_in
  run_of p q x reads is e =
      let same : q ≡ p = sym (ap (program_in p) e) in
      subst (λ r. MeansSource r w) same (record {
        executable = x;
        is = subst (λ t. IsProgram t (Ok x)) (is_text q reads) is;
        means = (runs text q (record { bytes = bytes; reads = reads }) (Ok x) is).means;
      })

  run_as : (p q : BoundProgram) (x : Result written.Executable Stop) → ReadsSource text (Ok q)
      → IsProgram (text_of_program q) x → IsRunAs text q (Ok p) x → MeansSource p w
  run_as p q _ reads is (run x e) = run_of p q x reads is e
  run_as p q _ reads is (limited limit e) = absurd (cc)

  runs_too : (p : BoundProgram) → IsRunnable text (Ok p) → MeansSource p w
  runs_too p (refused stop reads e) = absurd (cc)
  runs_too p (accepted q x reads is e) = run_as p q x reads is e

  pub kept : KeepsMeaning text w
  kept = record {
    read = λ p reads. subst (IsReadBackAs p) (is_text p reads) (is_read text p (record { bytes = bytes; reads = reads }));
    means = λ p reads. means text p (record { bytes = bytes; reads = reads });
    run = runs_too;
  }

-- so does what a text is translated to
pub kept_in : ((text w : Text) → each is_byte text ≡ true → IsTranslation text (Ok w) → KeepsMeaning text w)
    → (text : Text) → each is_byte text ≡ true → (answer : Result Text Stop) → TellsTranslation text answer → IfOk answer (λ w. KeepsMeaning text w)
kept_in law text bytes (Ok w) h = law text w bytes h
kept_in law text bytes (Err stop) h = tt
