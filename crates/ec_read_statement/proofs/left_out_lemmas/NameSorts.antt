-- Which tokens are a text in double quotes.
use Rattle.std.proofs.Common.{◌≡◌, Bool, true, false, refl, sym, ap, ◌∙◌, if◌then◌else◌}
use Rattle.std.specs.Prelude.{not, ◌==◌, is_some, ◌^◌, nat_lt}
use Rattle.ec_clex.specs.declared.sql.SqlClass.TheVariants.{Quoted, Number}
use Rattle.ec_clex.specs.declared.sql.SqlToken.{SqlToken}
use Rattle.ec_clex.specs.Sql.{class_view, sql_view}
use Rattle.ec_embedded.specs.LeftOut.{is_name}
use Rattle.ec_embedded.specs.Terminals.{name, character, quote, number, fitting, whole, sort_by, sort_of, on_quotes, passes, is, plain_quote}
use Rattle.ec_language.specs.Constants.{character_value, digits_value}
use Rattle.ec_language.specs.Letters.{Text, begins, single_quote, each, is_digit}

name_by : (s c : Bool) (b : Text) (gap : Bool) → not (passes (on_quotes (if not s then name else if c then character else quote) gap) b) ≡ is_name (if not s then name else if c then character else quote)
name_by true true b gap = refl
name_by true false b gap = refl
name_by false c b gap = refl

number_by : (d f : Bool) → false ≡ is_name (if not d then number else if f then fitting else whole)
number_by true true = refl
number_by true false = refl
number_by false f = refl

pub name_is : (t : SqlToken) → t.class ≡ Quoted → not (is plain_quote (sql_view t)) ≡ is_name (sort_of (sql_view t))
name_is t e =
    ap (λ k. not (passes (on_quotes (sort_by (class_view k) t.bytes.now) t.gap) t.bytes.now)) e
    ∙ name_by (begins (λ c. c == single_quote) t.bytes.now) (is_some (character_value t.bytes.now)) t.bytes.now t.gap
    ∙ ap (λ k. is_name (sort_by (class_view k) t.bytes.now)) (sym e)

pub number_is : (t : SqlToken) → t.class ≡ Number → false ≡ is_name (sort_of (sql_view t))
number_is t e = number_by (each is_digit t.bytes.now) (nat_lt (digits_value 10 t.bytes.now) (2 ^ 63)) ∙ ap (λ k. is_name (sort_by (class_view k) t.bytes.now)) (sym e)
