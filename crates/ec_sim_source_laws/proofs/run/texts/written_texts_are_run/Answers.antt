use Rattle.ec_expansion_defs.specs.Programs.{written_program}
use Rattle.ec_sim_source_laws.proofs.meaning_lemmas.Accepted.{of_source}
use Rattle.ec_sim_source_laws.proofs.run_lemmas.Running.{run_of}
use Rattle.ec_sim_source_laws.proofs.run.texts.written_texts_are_run.Goals as goal

pub returns : goal.returns
returns c = λ text p h x is.
    let shape = c.sources_are_written_in_shape.ensures.embedded text p h.bytes h.reads (c.sources_mean_what_is_written.ensures.counted text p h) in
    run_of p (c.sources_mean_what_is_written.ensures.meanings text p h) (of_source text p h.reads).bound (c.sources_mean_what_is_written.ensures.checks text p h)
    (c.written_programs_have_no_sections.ensures (written_program p.program p.bounds) shape)
    (λ a r. c.written_programs_are_read_back.ensures.read (written_program p.program p.bounds) shape a r) x is
