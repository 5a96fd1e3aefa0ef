use Rattle.std.proofs.Common.{◌∙◌, ◌++◌, ◌∷◌, [], set, sym, ap, true}
use Rattle.ec_typing_defs.specs.Worlds.{struct_named}
use Rattle.ec_scopes.specs.Entries.{named_view, type_view}
use Rattle.ec_scopes.specs.Measures.{measured}
use Rattle.ec_scopes.specs.Structs.{infos, begun_at, closed_of}
use Rattle.ec_scopes.proofs.Closings.{infos-length, closed-last, closed-more, blank-named}
use Rattle.ec_scopes.proofs.structs.StructTable.push_closed.Goals as goal
use Rattle.std.specs.Prelude.{None}

pub returns-clause-number : goal.returns-clause-number
returns-clause-number c = c.in_ok-k.ensures.number ∙ sym (infos-length c.args.self.now.0 c.args.self.now.1)

pub returns-clause-infos : goal.returns-clause-infos
returns-clause-infos c =
    let is = infos c.args.self.now.0 c.args.self.now.1 in
    let ms = named_view type_view c.args.members in
    let k = c.in_ok-k.ensures.number ∙ sym (infos-length c.args.self.now.0 c.args.self.now.1) in
    c.in_ok-measure.ensures.infos
    ∙ (λ i. set (c.in_ok-k.ensures.infos i) (k i) (closed_of c.args.tag c.args.varchar ms (c.in_ok-k.ensures.infos i)))
    ∙ closed-last is None (begun_at true) c.args.tag c.args.varchar ms

pub returns-clause-closed : goal.returns-clause-closed
returns-clause-closed c = c.in_ok-measure.ensures.closed ∙ (λ i. c.in_ok-k.ensures.closed i ++ (c.in_ok-k.ensures.number ∙ sym (infos-length c.args.self.now.0 c.args.self.now.1)) i ∷ [])

pub returns-clause-measure : goal.returns-clause-measure
returns-clause-measure c =
    let ms = named_view type_view c.args.members in
    c.in_ok-measure.ensures.measure ∙ (λ i. measured (closed_of c.args.tag c.args.varchar ms (c.in_ok-k.ensures.infos i)).shape)
    ∙ ap (λ s. measured s.shape) (closed-more (infos c.args.self.now.0 c.args.self.now.1) (struct_named None (begun_at true)) c.args.tag c.args.varchar ms (blank-named None (begun_at true)))
