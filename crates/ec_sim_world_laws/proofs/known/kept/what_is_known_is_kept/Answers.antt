use Rattle.ec_sim_world_laws.proofs.known.kept.what_is_known_is_kept.Goals as goal

pub returns : goal.returns
returns c = λ u. c.the_walk_keeps_what_is_known.ensures u (c.worlds_are_kept.ensures u) c.declarations_are_numbered.ensures.start
    c.declarations_are_numbered.ensures.items c.declarations_are_numbered.ensures.functions c.declarations_are_numbered.ensures.types
