use Rattle.std.proofs.Common.{refl, subst, sym}
use Rattle.ec_expansion_defs.specs.Programs.{written_program}
use Rattle.ec_sim_source_laws.proofs.meaning_lemmas.Accepted.{of_source}
use Rattle.ec_sim_source_laws.proofs.run_lemmas.Running.{keeps_its_meaning, read_as}
use Rattle.ec_sim_source_laws.specs.run.Runs.{IsReadAs}
use Rattle.ec_sim_source_laws.proofs.run.texts.written_texts_mean_the_same.Goals as goal

pub returns : goal.returns
returns c = record {
  read = λ text p h x r.
      let v = written_program p.program p.bounds in
      let shape = c.sources_are_written_in_shape.ensures.embedded text p h.bytes h.reads (c.sources_mean_what_is_written.ensures.counted text p h) in
      subst (IsReadAs v) (sym r.is)
      (read_as v (c.sources_mean_what_is_written.ensures.checks text p h) (c.written_programs_have_no_sections.ensures v shape) refl r.tree
      (c.written_programs_are_read_back.ensures.read v shape r.tree r.reads));
  means = λ text p h. keeps_its_meaning p (c.sources_mean_what_is_written.ensures.meanings text p h) (of_source text p h.reads).bound;
}
