use Rattle.std.proofs.Common.{◌+◌, ◌-◌, ◌∙◌, Some, get_or, take, drop, ap, arith}
use Rattle.ec_language.specs.ReadTokens.{quoted_class}
use Rattle.ec_clex.specs.Items.{quoted_tok}
use Rattle.ec_clex.proofs.ItemSteps.{match_told, quote_ends, inside_slice, quoted_token_of, no_quote_told}
use Rattle.ec_clex.proofs.items.quoted.Goals as goal

pub returns-in-Some-clause-is : goal.returns-in-Some-clause-is
returns-in-Some-clause-is c =
    let t = c.args.text.now in
    let at = c.args.at in
    let end = c.in-Some.end in
    let q = get_or t at 0 in
    let h = c.in-Some.ensures in
    let is = quoted_token_of q (take (end - at) (drop at t)) ∙ ap (λ s. Some (quoted_tok q s)) (inside_slice t at end h.within.0 h.within.1) in
    rw c.with_end.ensures
    (match_told c.args.here.line t at end (quoted_class q) (quoted_tok q (take (end - 1 - (at + 1)) (drop (at + 1) t))) c.quoted_token-tok.result (omega (arith, h.within)) h.within.1
    (quote_ends t at end c.requires.inside c.requires.quote h.is) is c.quoted_token-tok.ensures)

pub returns-in-None-clause-is : goal.returns-in-None-clause-is
returns-in-None-clause-is c =
    rw c.refused.ensures (no_quote_told c.args.here.line c.args.text.now c.args.at c.requires.inside c.requires.quote c.in-None.ensures.is)
