use Rattle.std.proofs.Common.{◌≡◌, ◌+◌, ◌-◌, ◌∷◌, ◌++◌, List, ◌∙◌, refl, sym, ap, take, drop, arith}
use Rattle.ec_language.specs.Line.{newlines}
use Rattle.ec_language.specs.SqlTokens as sql
use Rattle.ec_language.specs.SqlTokens.{sql_tokens_from, first_bad_line}
use Rattle.ec_language.specs.ReadTokens.{sql_units}
use Rattle.ec_clex.specs.Sql.{class_view, sql_views}
use Rattle.ec_clex.proofs.Units.{UnitAt, bad_on}
use Rattle.ec_clex.proofs.FlatTokens.{good_slice, pair_bad}
use Rattle.ec_clex.proofs.SqlSteps.{token_of, slice, one_more, sql_gap_on, sql_pair_on, sql_single_on}
use Rattle.ec_clex.proofs.sql.SqlLexer.unit.Goals as goal

pub returns-then-begins_gap-clause-all : goal.returns-then-begins_gap-clause-all
returns-then-begins_gap-clause-all c =
    let t = c.args.text.now in
    let old = c.args.self.now in
    let end = c.args.end in
    let e = c.pass.ensures in
    let u : UnitAt t c.args.at end = record { more = c.requires.more; behind = c.requires.behind; order = omega arith; within = c.requires.inside } in
    (λ i. sql_views (e.tokens i) ++ sql_tokens_from (e.gap i) (e.line i) (sql_units (drop end t)))
    ∙ ap (λ (w : List sql.SqlToken). sql_views old.tokens ++ w) (sql_gap_on t c.args.at end old.gap old.line u (sym c.begins_gap.ensures ∙ c.if-begins_gap.true))

pub returns-then-begins_pair-clause-all : goal.returns-then-begins_pair-clause-all
returns-then-begins_pair-clause-all c =
    let t = c.args.text.now in
    let at = c.args.at in
    let old = c.args.self.now in
    let new = c.push.new.self in
    let e = c.in_ok-push.ensures in
    let two : at + 2 - at ≡ 2 = omega arith in
    one_more (sql_views new.tokens) (sql_views old.tokens) (sql_tokens_from old.gap old.line (sql_units (drop at t))) (sql_tokens_from new.gap new.line (sql_units (drop (at + 2) t))) _ e.tokens
    ((λ i. token_of sql.mark (take (two i) (drop at t)) old.gap old.line ∷ sql_tokens_from (e.gap i) ((e.line ∙ ap (λ k. old.line + newlines (take k (drop at t))) two) i) (sql_units (drop (at + 2) t)))
    ∙ sql_pair_on t at old.gap old.line (sym c.begins_pair.ensures.is ∙ c.if-begins_pair.true))

pub returns-clause-all : goal.returns-clause-all
returns-clause-all c =
    let t = c.args.text.now in
    let at = c.args.at in
    let end = c.args.end in
    let old = c.args.self.now in
    let new = c.push-2.new.self in
    let e = c.in_ok-push-2.ensures in
    let u : UnitAt t at end = record { more = c.requires.more; behind = c.requires.behind; order = omega arith; within = c.requires.inside } in
    one_more (sql_views new.tokens) (sql_views old.tokens) (sql_tokens_from old.gap old.line (sql_units (drop at t))) (sql_tokens_from new.gap new.line (sql_units (drop end t))) _ e.tokens
    ((λ i. token_of (class_view c.class_at.result) (slice t at end) old.gap old.line ∷ sql_tokens_from (e.gap i) (e.line i) (sql_units (drop end t)))
    ∙ sql_single_on t at end old.gap old.line (class_view c.class_at.result) u (sym c.begins_gap.ensures ∙ c.if-begins_gap.false) (sym c.begins_escaped.ensures.is ∙ c.if-begins_escaped.false)
    (sym c.begins_pair.ensures.is ∙ c.if-begins_pair.false) c.class_at.ensures)

pub returns-then-begins_gap-clause-good : goal.returns-then-begins_gap-clause-good
returns-then-begins_gap-clause-good c =
    let t = c.args.text.now in
    let at = c.args.at in
    let end = c.args.end in
    let u : UnitAt t at end = record { more = c.requires.more; behind = c.requires.behind; order = omega arith; within = c.requires.inside } in
    (λ i. first_bad_line (c.pass.ensures.line i) (sql_units (drop end t)))
    ∙ bad_on t at end c.args.self.now.line (newlines (slice t at end)) u (good_slice t at end c.requires.order c.requires.inside c.requires.good) refl

pub returns-then-begins_escaped-clause-good : goal.returns-then-begins_escaped-clause-good
returns-then-begins_escaped-clause-good c =
    let t = c.args.text.now in
    let at = c.args.at in
    let end = c.args.end in
    let u : UnitAt t at end = record { more = c.requires.more; behind = c.requires.behind; order = omega arith; within = c.requires.inside } in
    (λ i. first_bad_line (c.in_ok-escaped.ensures.line i) (sql_units (drop end t)))
    ∙ bad_on t at end c.args.self.now.line (newlines (slice t at end)) u (good_slice t at end c.requires.order c.requires.inside c.requires.good) refl

pub returns-clause-good : goal.returns-clause-good
returns-clause-good c =
    let t = c.args.text.now in
    let at = c.args.at in
    let end = c.args.end in
    let u : UnitAt t at end = record { more = c.requires.more; behind = c.requires.behind; order = omega arith; within = c.requires.inside } in
    (λ i. first_bad_line (c.in_ok-push-2.ensures.line i) (sql_units (drop end t)))
    ∙ bad_on t at end c.args.self.now.line (newlines (slice t at end)) u (good_slice t at end c.requires.order c.requires.inside c.requires.good) refl

pub returns-then-begins_pair-clause-good : goal.returns-then-begins_pair-clause-good
returns-then-begins_pair-clause-good c =
    let t = c.args.text.now in
    let at = c.args.at in
    let e = c.in_ok-push.ensures in
    let two : at + 2 - at ≡ 2 = omega arith in
    (λ i. first_bad_line ((e.line ∙ ap (λ k. c.args.self.now.line + newlines (take k (drop at t))) two) i) (sql_units (drop (at + 2) t)))
    ∙ pair_bad t at c.args.self.now.line (sym c.begins_pair.ensures.is ∙ c.if-begins_pair.true)
