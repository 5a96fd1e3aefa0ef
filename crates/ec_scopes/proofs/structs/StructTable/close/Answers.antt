use Rattle.std.proofs.Common.{◌∙◌, set, length, sym, ap, slice_get, Some}
use Rattle.ec_scopes.specs.declared.structs.Members.TheVariants.{Listed}
use Rattle.ec_scopes.specs.Entries.{named_view, type_view}
use Rattle.ec_scopes.specs.Counts.{counted}
use Rattle.ec_scopes.specs.Measures.{measured}
use Rattle.ec_scopes.specs.Offsets.{starts}
use Rattle.ec_scopes.specs.Structs.{infos, is_begun, shape_by, shapes_of, closed_of, stands_by}
use Rattle.ec_scopes.proofs.Closings.{kept-close, infos-close, begun-within, begun-none, apart-of}
use Rattle.ec_scopes.proofs.Sizes.{named-length}
use Rattle.ec_scopes.proofs.structs.StructTable.close.Goals as goal

pub invariant_of-self-2 : goal.invariant_of-self-2
invariant_of-self-2 c =
    let is_it = sym (c.is_begun.ensures ∙ ap (λ l. is_begun (slice_get l c.args.k)) (λ i. (sym c.self.view_is i).0)) ∙ c.if-not-is_begun.false in
    kept-close c.self.inside.rows _ c.self.inside.closed _ c.args.k (record { tag = c.args.tag; varchar = c.args.varchar; members = Listed c.in_ok-members.members; measure = c.struct_measure-measure.result; stands_for = c.host_count-stands_for.result; offsets = c.in_ok-offsets.offsets }) (named_view type_view c.args.members) c.set.ensures c.in_ok-push.ensures.ok (ap (λ m. Some (named_view type_view m)) c.in_ok-members.ensures)
    (c.struct_measure-measure.ensures.measure ∙ (λ i. measured (shape_by (infos (sym c.self.view_is i).0 (sym c.self.view_is i).1) (named_view type_view c.args.members))))
    c.struct_measure-measure.ensures.small
    (c.host_count-stands_for.ensures ∙ (λ i. counted (stands_by c.args.varchar (infos (sym c.self.view_is i).0 (sym c.self.view_is i).1) (named_view type_view c.args.members))))
    (λ whole. c.in_ok-offsets.ensures (whole ∙ ap (λ m. length (named_view type_view m)) c.in_ok-members.ensures ∙ named-length c.args.members)
    ∙ (λ i. starts (shapes_of (infos (sym c.self.view_is i).0 (sym c.self.view_is i).1)) 0 (named_view type_view (sym c.in_ok-members.ensures i))))
    (begun-none c.self.inside.rows c.args.k is_it) (begun-within c.self.inside.rows c.args.k is_it) c.self.invariant

pub returns-clause-infos : goal.returns-clause-infos
returns-clause-infos c =
    let is_it = sym (c.is_begun.ensures ∙ ap (λ l. is_begun (slice_get l c.args.k)) (λ i. (sym c.self.view_is i).0)) ∙ c.if-not-is_begun.false in
    let ms = named_view type_view c.args.members in
    (λ i. infos (c.set.ensures i) (c.in_ok-push.ensures.ok i))
    ∙ infos-close c.self.inside.rows (record { tag = c.args.tag; varchar = c.args.varchar; members = Listed c.in_ok-members.members; measure = c.struct_measure-measure.result; stands_for = c.host_count-stands_for.result; offsets = c.in_ok-offsets.offsets }) c.self.inside.closed c.args.k ms (apart-of c.self.inside.rows c.self.inside.closed c.args.k c.self.invariant.lists (begun-none c.self.inside.rows c.args.k is_it)) (begun-within c.self.inside.rows c.args.k is_it) (ap (λ m. Some (named_view type_view m)) c.in_ok-members.ensures)
    ∙ (λ i. set (infos (c.self.view_is i).0 (c.self.view_is i).1) c.args.k (closed_of c.args.tag c.args.varchar ms (infos (c.self.view_is i).0 (c.self.view_is i).1)))
