use Rattle.ec_sim_source_laws.specs.block.Accepted.{StatementLaws}
use Rattle.ec_sim_source_laws.proofs.meaning_lemmas.Accepted.{numbers_of, shape_of}
use Rattle.ec_sim_source_laws.proofs.meaning_lemmas.Meanings.{without_violation, written_shallow, means, counted}
use Rattle.ec_sim_source_laws.proofs.meaning.sources.sources_mean_what_is_written.Goals as goal

pub returns : goal.returns
returns c =
    let expressions = c.written_parts_are_alike.ensures.expressions in
    let laws : StatementLaws = record {
      expressions = expressions;
      walk = λ u. (c.what_is_known_is_kept.ensures u).embedded;
      references = c.references_are_found.ensures expressions;
      there = c.references_are_there.ensures;
      names = c.known_names_are_declared.ensures;
      again = c.references_are_found_again.ensures;
      lead = c.statements_lead_to_their_places.ensures;
      parts = c.parts_lead_to_their_places.ensures;
      stand = c.written_calls_stand.ensures;
      targets = c.statements_have_targets.ensures;
      rules = c.rules_are_kept.ensures;
      fit = c.hosts_fit_their_calls.ensures;
      tests = c.tests_are_resolved.ensures expressions;
      area = c.the_area_is_known.ensures;
    } in
    let numbered = c.all_statements_stand_in_trees.ensures in
    let tokens = c.sources_have_source_shape.ensures.tokens in
    let derived = c.derived_trees_have_source_shape.ensures in
    record {
      meanings = means (numbers_of numbered tokens derived) (shape_of numbered tokens derived) c.statements_have_places.ensures.order c.statements_are_read.ensures c.tables_are_sound.ensures
          c.what_is_known_is_kept.ensures c.written_parts_are_alike.ensures c.sources_stand.ensures c.sources_have_types.ensures c.trees_are_flat.ensures.sources c.structs_are_shallow.ensures c.cursors_are_of_objects.ensures laws c.embedded_statements_are_copied.ensures c.written_programs_are_copies.ensures c.copies_do_what_sources_do.ensures.meanings;
      checks = without_violation (numbers_of numbered tokens derived) (shape_of numbered tokens derived) c.statements_have_places.ensures.order c.statements_are_read.ensures c.tables_are_sound.ensures
          c.what_is_known_is_kept.ensures c.written_parts_are_alike.ensures c.sources_stand.ensures c.sources_have_types.ensures c.trees_are_flat.ensures.sources c.structs_are_shallow.ensures c.cursors_are_of_objects.ensures laws c.embedded_statements_are_copied.ensures c.written_programs_are_copies.ensures c.copies_do_what_sources_do.ensures.meanings;
      shallow = written_shallow (numbers_of numbered tokens derived) (shape_of numbered tokens derived) c.statements_have_places.ensures.order c.statements_are_read.ensures c.tables_are_sound.ensures
          c.what_is_known_is_kept.ensures c.written_parts_are_alike.ensures c.sources_stand.ensures c.sources_have_types.ensures c.trees_are_flat.ensures.sources c.structs_are_shallow.ensures c.cursors_are_of_objects.ensures laws c.embedded_statements_are_copied.ensures c.written_programs_are_copies.ensures c.copies_do_what_sources_do.ensures.meanings;
      counted = counted (numbers_of numbered tokens derived) (shape_of numbered tokens derived) c.statements_have_places.ensures.order c.statements_are_read.ensures c.tables_are_sound.ensures
          c.what_is_known_is_kept.ensures c.written_parts_are_alike.ensures c.sources_stand.ensures c.sources_have_types.ensures c.trees_are_flat.ensures.sources c.structs_are_shallow.ensures c.cursors_are_of_objects.ensures laws c.embedded_statements_are_copied.ensures c.written_programs_are_copies.ensures c.copies_do_what_sources_do.ensures.meanings c.statements_are_counted.ensures c.sources_are_counted.ensures;
    }
