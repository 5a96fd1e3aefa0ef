-- The labels of a function's body stand in the body's resolved form.
use Rattle.std.specs.Prelude.{◌≡◌, true, [], is_some}
use Rattle.ec_ctypes.specs.trees.Stmts.{StmtList}
use Rattle.ec_language.specs.Letters.{Text}
use Rattle.ec_typing_defs.specs.Tables.{find}
use Rattle.ec_typing_defs.specs.Worlds.{World}
use Rattle.ec_typing_defs.specs.Statements.{labels_in_all}
use Rattle.ec_meaning_defs.specs.resolved.Labels.{holds_any}
use Rattle.ec_meaning_defs.specs.resolved.Resolved.{named}
use Rattle.ec_resolving_defs.specs.Storage.{Storage}
use Rattle.ec_resolving_defs.specs.Operands.{place_in}
use Rattle.ec_resolving_defs.specs.Statements.{Around, statements}

-- What a jump may lead to is there, whatever number its labels have.
abbrev pub LabelsStand : Type 0
LabelsStand = (a : Around) (xs : StmtList) (l : Text)
    → is_some (find l (labels_in_all xs [])) ≡ true → (s : Storage) (w : World)
    → holds_any (named (place_in l a.labels)) (statements a xs s w).answer ≡ true
