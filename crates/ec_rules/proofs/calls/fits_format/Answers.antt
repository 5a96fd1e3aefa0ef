use Rattle.std.proofs.Common.{◌≡◌, ◌∙◌, ◌+◌, drop, map, sym, ap}
use Rattle.std.proofs.lemmas.List.{drop-map}
use Rattle.ec_scopes.specs.Entries.{type_view}
use Rattle.ec_typing_defs.specs.Formats.{is_format_of}
use Rattle.ec_typing_defs.specs.Operands.{OperandData, types_of}
use Rattle.ec_rules.specs.Seen.{operands_view}
use Rattle.ec_rules.proofs.calls.fits_format.Goals as goal

pub returns : goal.returns
returns c =
    let k = c.args.before + 1 in
    let items : c.behind.result.now ≡ drop k c.in_ok-types.types = c.behind.ensures ∙ ap (drop k) c.as_slice.ensures in
    let typed : map type_view c.behind.result.now ≡ types_of (drop k (operands_view c.args.arguments)) =
    ap (map type_view) items ∙ sym (drop-map type_view k c.in_ok-types.types) ∙ ap (drop k) c.in_ok-types.ensures
    ∙ drop-map (λ (o : OperandData). o.type) k (operands_view c.args.arguments) in
    c.is_formatted.ensures ∙ (λ i. is_format_of (c.literal_at-format.ensures i) (typed i))
