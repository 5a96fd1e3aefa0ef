use Rattle.std.proofs.Common.{rules, ◌≡◌, ◌∙◌, ◌*◌, ◌%◌, ◌^◌, pos, ap}
use Rattle.std.proofs.lemmas.Int.{to_z-of_z}
use Rattle.std.specs.Int.{w128}
use Rattle.std.specs.Prelude.{FitsSigned}
use Rattle.ec_ctypes.specs.Arithmetic.{converted, width}
use Rattle.ec_type_rules.proofs.Values.{low_moved}
use Rattle.ec_type_rules.proofs.constants.values.unsigned_up.Goals as goal

pub returns : goal.returns
returns c =
    let fits : FitsSigned w128 c.reduced.result = search rules in
    let moved : c.raised.result ≡ c.args.x % 2 ^ width c.args.t * 2 ^ c.args.amount = c.raised.ensures.is ∙ ap (λ low. low * 2 ^ c.args.amount) c.low_bits.ensures.is in
    simp to_z-of_z (c.reduced.ensures ∙ ap (λ n. converted c.args.t (pos n)) moved ∙ low_moved c.args.t c.args.x (2 ^ c.args.amount) c.requires.wide c.requires.unsigned)
