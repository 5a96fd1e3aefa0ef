use Rattle.std.proofs.Common.{◌∷◌, ◌∙◌, drop}
use Rattle.ec_language.specs.SqlTokens.{sql_tokens_from, first_bad_line}
use Rattle.ec_language.specs.ReadTokens.{sql_units}
use Rattle.ec_clex.specs.Sql.{class_view, sql_views}
use Rattle.ec_clex.proofs.SqlSteps.{token_of, slice, one_more}
use Rattle.ec_clex.proofs.FlatTokens.{flat_on, flat_bad}
use Rattle.ec_clex.proofs.sql.SqlLexer.flat.Goals as goal

pub returns-clause-all : goal.returns-clause-all
returns-clause-all c =
    let t = c.args.text.now in
    let at = c.args.at in
    let found = c.args.found in
    let old = c.args.self.now in
    let new = c.put.new.self in
    let e = c.in_ok-put.ensures in
    one_more (sql_views new.tokens) (sql_views old.tokens) (sql_tokens_from old.gap old.line (sql_units (drop at t))) (sql_tokens_from new.gap new.line (sql_units (drop found.end t))) _ e.tokens
    ((λ i. token_of (class_view found.class) (slice t at found.end) old.gap old.line ∷ sql_tokens_from (e.gap i) (e.line i) (sql_units (drop found.end t)))
    ∙ flat_on t at found.end old.gap old.line found.class c.requires.order c.requires.inside c.requires.flat)

pub returns-clause-good : goal.returns-clause-good
returns-clause-good c =
    let t = c.args.text.now in
    let found = c.args.found in
    (λ i. first_bad_line (c.in_ok-put.ensures.line i) (sql_units (drop found.end t)))
    ∙ flat_bad t c.args.at found.end c.args.self.now.line found.class c.requires.order c.requires.inside c.requires.flat
