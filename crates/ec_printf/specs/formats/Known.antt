-- The known functions of code, as those of the definition.
use Rattle.std.specs.Prelude.{map}
use Rattle.ec_meaning_defs.specs.functions.Formats as of
use Rattle.ec_meaning_defs.specs.functions.Functions as known
use Rattle.ec_printf.specs.declared.formats.known.Amount.{Amount}
use Rattle.ec_printf.specs.declared.formats.known.Amount.TheVariants.{Absent, Given, FromArgument}
use Rattle.ec_printf.specs.declared.formats.known.Channel.{Channel}
use Rattle.ec_printf.specs.declared.formats.known.Channel.TheVariants.{StandardOutput, StandardError}
use Rattle.ec_printf.specs.declared.formats.known.Field.{Field}
use Rattle.ec_printf.specs.declared.formats.known.Known.{Known}
use Rattle.ec_printf.specs.declared.formats.known.Known.TheVariants.{Print, Puts, Putchar, Strlen, Strcmp, Strncmp, Memcmp, Strcpy, Strncpy, Strcat, Memcpy, Memset, Exit, Sqlprint}
use Rattle.ec_printf.specs.declared.formats.known.Part.{Part}
use Rattle.ec_printf.specs.declared.formats.known.Part.TheVariants.{Plain, Integer, Character, Text}
use Rattle.ec_printf.specs.declared.formats.known.Style.{Style}
use Rattle.ec_printf.specs.declared.formats.known.Style.TheVariants.{SignedDecimal, UnsignedDecimal, Hexadecimal, CapitalHexadecimal, Octal}

abbrev pub amount_view : Amount → of.Amount
amount_view Absent = of.absent
amount_view (Given n) = of.given n
amount_view FromArgument = of.from_argument

abbrev pub style_view : Style → of.Style
style_view SignedDecimal = of.signed_decimal
style_view UnsignedDecimal = of.unsigned_decimal
style_view Hexadecimal = of.hexadecimal
style_view CapitalHexadecimal = of.capital_hexadecimal
style_view Octal = of.octal

abbrev pub field_view : Field → of.Field
field_view f = record { minus = f.minus; zeros = f.zeros; width = amount_view f.width }

abbrev pub part_view : Part → of.Part
part_view (Plain bytes) = of.plain bytes
part_view (Integer f wide style) = of.integer (field_view f) wide (style_view style)
part_view (Character f) = of.character (field_view f)
part_view (Text f precision) = of.text (field_view f) (amount_view precision)

abbrev pub channel_view : Channel → known.Channel
channel_view StandardOutput = known.standard_output
channel_view StandardError = known.standard_error

abbrev pub known_view : Known → known.Known
known_view (Print channel parts) = known.print (channel_view channel) (map part_view parts)
known_view Puts = known.puts
known_view Putchar = known.putchar
known_view Strlen = known.strlen
known_view Strcmp = known.strcmp
known_view Strncmp = known.strncmp
known_view Memcmp = known.memcmp
known_view Strcpy = known.strcpy
known_view Strncpy = known.strncpy
known_view Strcat = known.strcat
known_view Memcpy = known.memcpy
known_view Memset = known.memset
known_view Exit = known.exit
known_view Sqlprint = known.sqlprint
