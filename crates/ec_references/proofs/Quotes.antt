-- What a token in quotes is: its first byte alone decides whether it is a text in `'`.
use Rattle.std.proofs.Common.{◌≡◌, Bool, true, false, refl, sym, ap, ◌∙◌, if◌then◌else◌}
use Rattle.std.specs.Prelude.{not, ◌==◌, is_some}
use Rattle.ec_clex.specs.declared.sql.SqlClass.TheVariants.{Quoted}
use Rattle.ec_clex.specs.declared.sql.SqlToken.{SqlToken}
use Rattle.ec_clex.specs.Sql.{class_view, sql_view}
use Rattle.ec_embedded.specs.Terminals.{name, character, quote, sort_by, on_quotes, on_target, passes, is, plain_quote, input_quote, target_start}
use Rattle.ec_language.specs.Constants.{character_value}
use Rattle.ec_language.specs.Letters.{Text, begins, single_quote}

quoted_by : (s c : Bool) (b : Text) (gap : Bool) → s ≡ passes (on_quotes (if not s then name else if c then character else quote) gap) b
quoted_by true true b gap = refl
quoted_by true false b gap = refl
quoted_by false c b gap = refl

target_by : (s c : Bool) (b : Text) (gap : Bool) → not s ≡ passes (on_target (if not s then name else if c then character else quote) gap) b
target_by true true b gap = refl
target_by true false b gap = refl
target_by false c b gap = refl

pub quote_is : (t : SqlToken) → t.class ≡ Quoted → begins (λ c. c == single_quote) t.bytes.now ≡ is plain_quote (sql_view t)
quote_is t e = quoted_by (begins (λ c. c == single_quote) t.bytes.now) (is_some (character_value t.bytes.now)) t.bytes.now t.gap ∙ ap (λ k. passes (on_quotes (sort_by (class_view k) t.bytes.now) t.gap) t.bytes.now) (sym e)

pub input_is : (t : SqlToken) → t.class ≡ Quoted → begins (λ c. c == single_quote) t.bytes.now ≡ is input_quote (sql_view t)
input_is t e = quoted_by (begins (λ c. c == single_quote) t.bytes.now) (is_some (character_value t.bytes.now)) t.bytes.now t.gap ∙ ap (λ k. passes (on_quotes (sort_by (class_view k) t.bytes.now) t.gap) t.bytes.now) (sym e)

pub target_is : (t : SqlToken) → t.class ≡ Quoted → not (begins (λ c. c == single_quote) t.bytes.now) ≡ is target_start (sql_view t)
target_is t e = target_by (begins (λ c. c == single_quote) t.bytes.now) (is_some (character_value t.bytes.now)) t.bytes.now t.gap ∙ ap (λ k. passes (on_target (sort_by (class_view k) t.bytes.now) t.gap) t.bytes.now) (sym e)
