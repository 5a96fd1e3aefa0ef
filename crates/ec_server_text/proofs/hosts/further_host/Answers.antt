use Rattle.std.proofs.Common.{rules, arith, ap, ◌∙◌, ◌≡◌, ◌++◌, ◌∷◌, [], map}
use Rattle.std.proofs.lemmas.Grind.{common_steps}
use Rattle.ec_ctypes.specs.views.Embedded.{host_view}
use Rattle.ec_references.proofs.Mapped.{map_one}
use Rattle.ec_server_text.proofs.hosts.further_host.Goals as goal

pub returns : goal.returns
returns c =
    let e : map host_view c.push.new.self ≡ map host_view c.args.hosts ++ host_view c.in_ok-host.host ∷ [] = ap (map host_view) c.in_ok-push.ensures.ok ∙ map_one host_view c.args.hosts c.in_ok-host.host in
    first_of (search rules, grind (arith, common_steps))
