use Rattle.std.proofs.Common.{◌++◌, List, ap}
use Rattle.ec_language.specs.SqlTokens as sql
use Rattle.ec_clex.specs.Sql.{sql_views}
use Rattle.ec_clex.proofs.FlatTokens.{blank_on, blank_bad}
use Rattle.ec_clex.proofs.sql.SqlLexer.blank.Goals as goal

pub returns-clause-all : goal.returns-clause-all
returns-clause-all c =
    let old = c.args.self.now in
    ap (λ (w : List sql.SqlToken). sql_views old.tokens ++ w) (blank_on c.args.text.now c.args.at old.gap old.line c.lines_in.result c.requires.inside c.requires.blank c.lines_in.ensures.is)

pub returns-clause-good : goal.returns-clause-good
returns-clause-good c = blank_bad c.args.text.now c.args.at c.args.self.now.line c.lines_in.result c.requires.inside c.requires.blank c.lines_in.ensures.is
