use Rattle.std.proofs.Common.{◌≡◌, ◌∙◌, false, sym, ap, subst}
use Rattle.std.specs.Prelude.{OnOk}
use Rattle.ec_ctypes.specs.views.Exprs.{dims_view}
use Rattle.ec_cwrite.specs.Writes.{Writes}
use Rattle.ec_write_parts.specs.Structs.{any_dim_has_struct}
use Rattle.ec_write_parts.proofs.AsRead.{dims_same}
use Rattle.ec_writing_defs.specs.Expressions.{dims_chunks}
use Rattle.ec_write_parts.proofs.expressions.put_dims.Goals as goal

pub returns-else-any_length_has_struct : goal.returns-else-any_length_has_struct
returns-else-any_length_has_struct c =
    let none : any_dim_has_struct (dims_view c.args.dims.now) ≡ false = ap (λ ds. any_dim_has_struct (dims_view ds)) (sym c.as_slice-read.ensures) ∙ sym c.any_length_has_struct.ensures ∙ c.if-any_length_has_struct.false in
    subst (λ ds. OnOk c.push_dims-else-any_length_has_struct.result (Writes c.args.out.now c.push_dims-else-any_length_has_struct.new.out (dims_chunks ds)))
    (sym (dims_same c.args.line.0 (dims_view c.args.dims.now) none))
    (subst (λ ds. OnOk c.push_dims-else-any_length_has_struct.result (Writes c.args.out.now c.push_dims-else-any_length_has_struct.new.out (dims_chunks (dims_view ds))))
    c.as_slice-read.ensures c.push_dims-else-any_length_has_struct.ensures)
