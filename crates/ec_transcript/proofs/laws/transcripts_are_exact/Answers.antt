use Rattle.std.proofs.Common.{◌∙◌, ◌++◌, ap, refl, sym, map}
use Rattle.std.specs.List.{flat_map}
use Rattle.ec_transcript.specs.Text.{ended, slot_line, exchange, text_of}
use Rattle.ec_transcript.specs.declared.version.Version.TheVariants.{One, Two}
use Rattle.ec_transcript.proofs.Cleaning.{transcript_made, clean_stays}
use Rattle.ec_transcript.proofs.Texts.{one_pair}
use Rattle.ec_transcript.proofs.laws.transcripts_are_exact.Goals as goal

pub returns : goal.returns
returns c = record {
  one = one_pair;
  written = λ slots log fits. record { fits = transcript_made slots log fits; text_is = refl };
  same = λ text slots log is. ap (text_of Two slots) (clean_stays Two slots log is.fits) ∙ sym is.text_is;
  next = λ text slots log is. (
    flat_map ended (map slot_line slots ++ flat_map exchange log),
    is.text_is,
    ap (text_of Two slots) (clean_stays One slots log is.fits),
  );
}
