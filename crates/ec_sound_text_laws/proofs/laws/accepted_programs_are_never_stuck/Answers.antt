use Rattle.std.proofs.Common.{true}
use Rattle.ec_expansion_defs.specs.Programs.{written_program}
use Rattle.ec_sound_text_laws.proofs.Endings.{written_never, source_never}
use Rattle.ec_sound_text_laws.proofs.laws.accepted_programs_are_never_stuck.Goals as goal

pub returns : goal.returns
returns c = record {
  programs = written_never (c.programs_are_sound.ensures true) c.sound_written_programs_are_never_stuck.ensures;
  sources = λ text p h.
      let v = written_program p.program p.bounds in
      let shape = c.sources_are_written_in_shape.ensures.embedded text p h.bytes h.reads (c.sources_mean_what_is_written.ensures.counted text p h) in
      source_never (c.programs_are_sound.ensures true) c.sound_written_programs_are_never_stuck.ensures text p h shape (c.written_programs_have_no_sections.ensures v shape)
      (c.sources_mean_what_is_written.ensures.checks text p h) (c.sources_mean_what_is_written.ensures.shallow text p h) (c.written_texts_mean_the_same.ensures.means text p h);
}
