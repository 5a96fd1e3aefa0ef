use Rattle.std.proofs.Common.{Some, None, ◌∙◌, sym, ap, refl}
use Rattle.std.specs.Option.{option_copied}
use Rattle.ec_expand_blocks.proofs.cursors_lemmas.Declares.{declare_found}
use Rattle.ec_expand_blocks.proofs.cursors.table.CursorTable.declare_opened.Goals as goal

pub returns-in-Some-Some : goal.returns-in-Some-Some
returns-in-Some-Some c =
    declare_found c.args.embs.now c.args.self.now.numbers c.args.number (Some (Some c.in-Some-Some.declare)) (option_copied c.get-in-Some-Some.result) c.requires
    (sym c.get.ensures ∙ ap option_copied c.in-Some-Some.is ∙ ap Some c.in-Some-Some.field-0-is) c.get-in-Some-Some.ensures

pub returns-in-Some-None : goal.returns-in-Some-None
returns-in-Some-None c =
    declare_found c.args.embs.now c.args.self.now.numbers c.args.number (Some None) None c.requires
    (sym c.get.ensures ∙ ap option_copied c.in-Some-None.is ∙ ap Some c.in-Some-None.field-0-is) refl

pub returns-in-None : goal.returns-in-None
returns-in-None c =
    declare_found c.args.embs.now c.args.self.now.numbers c.args.number None None c.requires
    (sym c.get.ensures ∙ ap option_copied c.in-None.is) refl
