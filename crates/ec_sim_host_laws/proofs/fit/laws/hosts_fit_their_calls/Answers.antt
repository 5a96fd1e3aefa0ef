use Rattle.ec_sim_host_laws.proofs.fit_lemmas.Hosts.{hosts_fit}
use Rattle.ec_sim_host_laws.proofs.fit_lemmas.Types.{all_within}
use Rattle.ec_sim_host_laws.proofs.fit.laws.hosts_fit_their_calls.Goals as goal

pub returns : goal.returns
returns c = λ z s hosts functions role h ds is v t i e.
    hosts_fit z s (λ t l. c.sizes_are_those_of_the_tables.ensures.shapes z z (all_within z s) t l) hosts functions role h ds is v t i e
