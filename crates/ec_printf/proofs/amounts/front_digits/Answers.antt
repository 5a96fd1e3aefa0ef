use Rattle.std.proofs.Common.{◌∙◌, ap, take}
use Rattle.ec_meaning_defs.specs.functions.Formats as of
use Rattle.ec_printf.proofs.Joining.{front_taken}
use Rattle.ec_printf.proofs.amounts.front_digits.Goals as goal

pub returns : goal.returns
returns c = ap (λ n. take n c.args.text.now) c.digits.ensures.count ∙ front_taken of.is_digit c.args.text.now
