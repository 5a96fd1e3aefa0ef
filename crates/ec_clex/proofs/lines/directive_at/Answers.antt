use Rattle.std.proofs.Common.{◌∙◌, sym, ap}
use Rattle.ec_language.specs.Lexemes.{is_line_directive, directive_number}
use Rattle.ec_clex.proofs.HashLines.{line_slice}
use Rattle.ec_clex.proofs.lines.directive_at.Goals as goal

pub returns-in-Some-clause-is : goal.returns-in-Some-clause-is
returns-in-Some-clause-is c =
    let e = c.behind_all-end.ensures in
    let line = line_slice c.args.text.now c.args.at c.behind_all-end.result e.behind e.within e.rest in
    let is = c.in-Some.ensures.is in
    (ap is_line_directive line ∙ is.0, is.1 ∙ sym (ap directive_number line), e.rest)

pub returns-in-None-clause-is : goal.returns-in-None-clause-is
returns-in-None-clause-is c =
    let e = c.behind_all-end.ensures in
    ap is_line_directive (line_slice c.args.text.now c.args.at c.behind_all-end.result e.behind e.within e.rest) ∙ c.in-None.ensures.is
