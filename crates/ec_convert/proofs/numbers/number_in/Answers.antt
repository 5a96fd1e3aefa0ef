-- What `parse` reads of a text is the number of the field, and bytes that are no text are none.
use Rattle.std.proofs.Common.{◌∙◌, ap}
use Rattle.ec_convert.specs.Pieces.{fitting}
use Rattle.ec_convert.proofs.FieldNumbers.{number_no_text, number_parsed, number_unparsed}
use Rattle.ec_transfer_defs.specs.Conversion.{field_number}
use Rattle.ec_convert.proofs.numbers.number_in.Goals as goal

pub returns-in-Ok-parse : goal.returns-in-Ok-parse
returns-in-Ok-parse c =
    c.within.ensures ∙ number_parsed c.args.ty c.in-Ok.text.now _ _ c.in-Ok-parse.is c.parse.ensures.value.0
    ∙ ap (λ field. fitting c.args.ty (field_number field)) c.in-Ok.ensures.cases.0

pub returns-in-Err-parse : goal.returns-in-Err-parse
returns-in-Err-parse c =
    number_unparsed c.args.ty c.in-Ok.text.now _ _ c.in-Err-parse.is c.parse.ensures.value.0
    ∙ ap (λ field. fitting c.args.ty (field_number field)) c.in-Ok.ensures.cases.0

pub returns-in-Err : goal.returns-in-Err
returns-in-Err c = number_no_text c.args.ty c.args.field.now c.in-Err.ensures.cases.0
