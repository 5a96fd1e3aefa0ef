-- What the parts of reading a source tell of it.
use Rattle.std.proofs.Common.{◌≡◌, ◌∙◌, ◌<◌, ℕ, suc, true, ◌&&◌, [], ◌∷◌, refl, sym, ap, subst, Result, Ok, Err}
use Rattle.std.proofs.lemmas.Bool.{lt-ltb}
use Rattle.std.specs.Prelude.{get_or}
use Rattle.ec_base.specs.declared.stop.Stop.{Stop}
use Rattle.ec_base.specs.declared.stop.Stop.TheVariants.{Refused, Limit, OutOfMemory}
use Rattle.ec_execute.specs.declared.executable.Executable.{Executable}
use Rattle.ec_execute.specs.Executables.{executable_view}
use Rattle.ec_execute.specs.Answers.{TellsProgram}
use Rattle.ec_execution_defs.specs.Programs as written
use Rattle.ec_execution_defs.specs.Programs.{IsProgram}
use Rattle.ec_language.specs.Letters.{Text, each}
use Rattle.ec_phases_defs.specs.Sources.{BoundProgram, ReadsSource}
use Rattle.ec_front.specs.translation.Answers.{TellsTranslation}
use Rattle.ec_phases_defs.specs.translation.Laws.{HasOneTranslation}
use Rattle.ec_phases_defs.specs.translation.Translations.{text_of_program, translated, IsTranslation, translation}
use Rattle.ec_writing_defs.specs.Shapes.{is_byte}
use Rattle.ec_phases_defs.specs.translation.Accepted.{IsAcceptedText}
use Rattle.ec_sim_source_laws.specs.run.Runs.{IsRunOf}
use Rattle.ec_execute.specs.source.Answers.{TellsRunnable}
use Rattle.ec_execute.specs.source.Runnable.{refused, accepted, run, limited}

-- ---- the text

pub bytes_are : (text : Text) → ((i : ℕ) → get_or text i 0 < 256) → each is_byte text ≡ true
bytes_are [] h = refl
bytes_are (b ∷ bs) h = (λ i. lt-ltb b 256 (h 0) i && each is_byte bs) ∙ bytes_are bs (λ i. h (suc i))

-- ---- what is translated

-- the source of which this is written
pub record IsOf (text w : Text) : Type 0 where
  pub program : BoundProgram
  pub reads : ReadsSource text (Ok program)
  pub is : w ≡ text_of_program program

text_in : Text → Result Text Stop → Text
text_in w (Ok t) = t
text_in w (Err stop) = w

of_reading : (text w : Text) (source : Result BoundProgram Stop) → ReadsSource text source → Ok w ≡ translated source → IsOf text w
unfolding text_in
of_reading text w (Ok p) r e = record { program = p; reads = r; is = ap (text_in w) e }
of_reading text w (Err stop) r e = absurd (cc)

pub of_translation : (text w : Text) → IsTranslation text (Ok w) → IsOf text w
of_translation text w (translation source r e) = of_reading text w source r e

stop_in : Stop → Result Text Stop → Stop
stop_in s (Ok t) = s
stop_in s (Err stop) = stop

refused_reading : (text : Text) (stop : Stop) (source : Result BoundProgram Stop) → ReadsSource text source → Err stop ≡ translated source → ReadsSource text (Err stop)
unfolding stop_in
refused_reading text stop (Ok p) r e = absurd (cc)
refused_reading text stop (Err s) r e = subst (λ x. ReadsSource text (Err x)) (sym (ap (stop_in stop) e)) r

refused_of : (text : Text) (stop : Stop) → IsTranslation text (Err stop) → ReadsSource text (Err stop)
refused_of text stop (translation source r e) = refused_reading text stop source r e

-- ---- answers

pub not_translated : (text : Text) (stop : Stop) → TellsTranslation text (Err stop) → TellsRunnable text (Err stop)
not_translated text (Refused kind line) h = refused (Refused kind line) (refused_of text (Refused kind line) h) refl
not_translated text (Limit limit) h = refused (Limit limit) (refused_of text (Limit limit) h) refl
not_translated text OutOfMemory h = tt

module _ (single : HasOneTranslation)
    (runs : (text : Text) (p : BoundProgram) → IsAcceptedText text p → (x : Result written.Executable Stop) → IsProgram (text_of_program p) x → IsRunOf p x)
    (text w : Text) (bytes : each is_byte text ≡ true) (h : IsTranslation text (Ok w)) where
  s : IsOf text w
  s = of_translation text w h

  accepted_is : IsAcceptedText text s.program
  accepted_is = record { bytes = bytes; reads = s.reads }

  here : (x : Result written.Executable Stop) → IsProgram w x → IsProgram (text_of_program s.program) x
  here x is = subst (λ t. IsProgram t x) s.is is

  pub executable_told : (executable : Executable) → TellsProgram w (Ok executable) → TellsRunnable text (Ok executable)
  executable_told executable is =
      let x = Ok (executable_view executable) in
      record {
        program = s.program;
        is = accepted s.program x s.reads (here x is) (run (executable_view executable) refl);
        means = (runs text s.program accepted_is x (here x is)).means;
      }

  -- what is written isn't refused, but may pass a limit
  pub told_on : (stop : Stop) → TellsProgram w (Err stop) → TellsRunnable text (Err stop)
  told_on (Refused kind line) is = absurd (runs text s.program accepted_is (Err (Refused kind line)) (here (Err (Refused kind line)) is))
  told_on (Limit limit) is = accepted s.program (Err (Limit limit)) s.reads (here (Err (Limit limit)) is) (limited limit refl)
  told_on OutOfMemory is = tt
