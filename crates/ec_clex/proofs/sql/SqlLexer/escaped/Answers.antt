use Rattle.std.proofs.Common.{◌+◌, ◌-◌, ◌∷◌, ◌∙◌, refl, ap, take, drop, arith}
use Rattle.ec_language.specs.Line.{newlines}
use Rattle.ec_language.specs.SqlTokens as sql
use Rattle.ec_language.specs.SqlTokens.{sql_tokens_from}
use Rattle.ec_language.specs.ReadTokens.{sql_units}
use Rattle.ec_clex.specs.Sql.{sql_views}
use Rattle.ec_clex.proofs.Units.{UnitAt}
use Rattle.ec_clex.proofs.SqlSteps.{token_of, one_more, two_slices, escaped_slices}
use Rattle.ec_clex.proofs.sql.SqlLexer.escaped.Goals as goal

pub returns-clause-all : goal.returns-clause-all
returns-clause-all c =
    let t = c.args.text.now in
    let at = c.args.at in
    let end = c.args.end in
    let old = c.args.self.now in
    let mid = c.push.new.self in
    let new = c.push-2.new.self in
    let e = c.in_ok-push.ensures in
    let f = c.in_ok-push-2.ensures in
    let first = take (at + 1 - at) (drop at t) in
    let second = take (end - (at + 1)) (drop (at + 1) t) in
    let others = sql_tokens_from new.gap new.line (sql_units (drop end t)) in
    let u : UnitAt t at end = record { more = c.requires.more; behind = c.requires.behind; order = omega arith; within = c.requires.inside } in
    one_more (sql_views new.tokens) (sql_views mid.tokens) (token_of sql.quoted second mid.gap mid.line ∷ others) others (token_of sql.quoted second mid.gap mid.line) f.tokens refl
    ∙ one_more (sql_views mid.tokens) (sql_views old.tokens) (sql_tokens_from old.gap old.line (sql_units (drop at t))) (token_of sql.quoted second mid.gap mid.line ∷ others) (token_of sql.word first old.gap old.line) e.tokens
    ((λ i. token_of sql.word first old.gap old.line ∷ token_of sql.quoted second (e.gap i) (e.line i)
    ∷ sql_tokens_from (f.gap i) ((f.line ∙ ap (λ k. k + newlines second) e.line) i) (sql_units (drop end t)))
    ∙ escaped_slices t at end old.gap old.line u c.requires.order c.requires.solid c.requires.escaped)

pub returns-clause-line : goal.returns-clause-line
returns-clause-line c = omega (arith, c.in_ok-push.ensures.line, c.in_ok-push-2.ensures.line, two_slices c.args.text.now c.args.at c.args.end c.requires.order)
