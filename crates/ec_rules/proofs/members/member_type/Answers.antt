use Rattle.std.proofs.Common.{◌∙◌, Some, sym, ap, option_map}
use Rattle.ec_typing_defs.specs.Operands.{member_type}
use Rattle.ec_typing_defs.specs.Tables.{find}
use Rattle.ec_scopes.specs.Entries.{type_view}
use Rattle.ec_scopes.specs.Structs.{members_view}
use Rattle.ec_scopes.proofs.Views.{find-named}
use Rattle.ec_rules.proofs.members.member_type.Goals as goal

pub returns-in-Some-Listed : goal.returns-in-Some-Listed
returns-in-Some-Listed c =
    ap (option_map type_view) (c.get.ensures ∙ ap (find c.args.name.now) c.get-table.ensures) ∙ sym (find-named type_view c.args.name.now c.in-Some-Listed.members)
    ∙ ap (member_type c.args.name.now) (ap (λ m. Some (members_view m)) (sym c.in-Some-Listed.field-0-is) ∙ c.in-Some-Listed.ensures)
