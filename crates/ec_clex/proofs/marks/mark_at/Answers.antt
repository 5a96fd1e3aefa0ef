use Rattle.std.proofs.Common.{◌≡◌, ◌+◌, ◌∙◌, drop, get_or, sym, ap, subst}
use Rattle.std.specs.Prelude.{option_map}
use Rattle.ec_language.specs.Letters.{Text}
use Rattle.ec_language.specs.ReadTokens.{mark_end}
use Rattle.ec_clex.specs.Marks.{mark_of, mark_view}
use Rattle.ec_clex.proofs.MarkEnds.{mark_is}
use Rattle.ec_split.proofs.Steps.{at_place}
use Rattle.ec_clex.proofs.marks.mark_at.Goals as goal

pub returns-clause-is : goal.returns-clause-is
returns-clause-is c =
    let t = c.args.text.now in
    let at = c.args.at in
    let b = get_or t at 0 in
    let rest = drop (at + 1) t in
    ap (λ m. option_map (mark_view (drop at t)) m) c.mark_of.ensures.is
    ∙ subst (λ (s : Text). option_map (mark_view s) (mark_of b rest) ≡ mark_end 3 s) (sym (at_place t at c.requires)) (mark_is b rest)
