-- The number is kept as it is.
use Rattle.ec_convert.proofs.FieldNumbers.{number_kept}
use Rattle.ec_transfer_defs.specs.Conversion.{field_number}
use Rattle.ec_convert.proofs.piece.number_piece.Goals as goal

pub returns-in-Some-clause-bytes : goal.returns-in-Some-clause-bytes
returns-in-Some-clause-bytes c = (number_kept c.args.ty (field_number c.args.field.now) c.in-Some.number c.in-Some.ensures).bytes

pub returns-in-Some-clause-fits : goal.returns-in-Some-clause-fits
returns-in-Some-clause-fits c = (number_kept c.args.ty (field_number c.args.field.now) c.in-Some.number c.in-Some.ensures).value
