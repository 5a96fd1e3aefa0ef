use Rattle.std.proofs.Common.{◌≡◌, ◌∙◌, false, sym, ap, subst}
use Rattle.std.specs.Prelude.{OnOk}
use Rattle.ec_ctypes.specs.views.Exprs.{declarators_view}
use Rattle.ec_cwrite.specs.Writes.{Writes}
use Rattle.ec_write_parts.specs.Structs.{any_declarator_has_struct}
use Rattle.ec_write_parts.proofs.AsRead.{declarators_same}
use Rattle.ec_writing_defs.specs.Expressions.{declarators_chunks}
use Rattle.ec_write_parts.proofs.declarations.put_declarators.Goals as goal

pub returns-else-any_declarator_has_struct : goal.returns-else-any_declarator_has_struct
returns-else-any_declarator_has_struct c =
    let none : any_declarator_has_struct (declarators_view c.args.items.now) ≡ false = ap (λ ds. any_declarator_has_struct (declarators_view ds)) (sym c.as_slice-read.ensures) ∙ sym c.any_declarator_has_struct.ensures ∙ c.if-any_declarator_has_struct.false in
    subst (λ ds. OnOk c.push_declarators-else-any_declarator_has_struct.result (Writes c.args.out.now c.push_declarators-else-any_declarator_has_struct.new.out (declarators_chunks ds)))
    (sym (declarators_same c.args.line.0 (declarators_view c.args.items.now) none))
    (subst (λ ds. OnOk c.push_declarators-else-any_declarator_has_struct.result (Writes c.args.out.now c.push_declarators-else-any_declarator_has_struct.new.out (declarators_chunks (declarators_view ds))))
    c.as_slice-read.ensures c.push_declarators-else-any_declarator_has_struct.ensures)
