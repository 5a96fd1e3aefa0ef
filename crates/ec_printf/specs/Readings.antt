-- What the readers of directives stand for.
use Rattle.std.specs.Prelude.{ℕ, Bool, List, [], ◌∷◌, drop, length, Option, Some, None}
use Rattle.ec_meaning_defs.specs.functions.Formats as of
use Rattle.ec_printf.specs.formats.Known.{amount_view, field_view, style_view}
use Rattle.ec_printf.specs.declared.amounts.Measured.{Measured}
use Rattle.ec_printf.specs.declared.directives.Directive.{Directive}
use Rattle.ec_printf.specs.declared.letters.Meaning.{Meaning}
use Rattle.ec_printf.specs.declared.letters.Meaning.TheVariants as meaning
use Rattle.ec_printf.specs.declared.letters.Wide.{Wide}

abbrev pub measured_view : Measured → of.Amount × List ℕ
measured_view m = (amount_view m.amount, m.rest.now)

-- the digits at the front of a text as an amount, and what stands behind them
abbrev pub plain_amount : List ℕ → of.Amount × List ℕ
plain_amount text = (
  of.digits_amount (of.front_while of.is_digit text),
  drop (length (of.front_while of.is_digit text)) text,
)

-- what stands behind a dot, if it is an amount
abbrev pub behind_dot : of.Amount × List ℕ → Option (of.Amount × List ℕ)
behind_dot (of.absent, rest) = None
behind_dot (of.given n, rest) = Some (of.given n, rest)
behind_dot (of.from_argument, rest) = Some (of.from_argument, rest)

abbrev pub wide_view : Wide → Bool × List ℕ
wide_view w = (w.is_wide, w.rest.now)

abbrev pub meaning_view : Meaning → of.Part
meaning_view meaning.Percent = of.plain (37 ∷ [])
meaning_view (meaning.Integer f wide style) = of.integer (field_view f) wide (style_view style)
meaning_view (meaning.Character f) = of.character (field_view f)
meaning_view (meaning.Text f precision) = of.text (field_view f) (amount_view precision)

abbrev pub directive_view : Directive → of.Part × List ℕ
directive_view d = (meaning_view d.meaning, d.rest.now)

-- a directive with its flags, but for `%%`
abbrev pub full_directive : List ℕ → Option (of.Part × List ℕ)
full_directive text =
    of.with_width (of.front_while of.is_flag text)
    (of.amount_at (drop (length (of.front_while of.is_flag text)) text))
