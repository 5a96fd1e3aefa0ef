-- What is kept beside the statements of a program.
use Rattle.std.specs.Prelude.{◌≡◌, ℕ, List, [], map}
use Rattle.ec_ctypes.specs.declared.checked.typed.HandlerTable.{HandlerTable}
use Rattle.ec_ctypes.specs.declared.embedded.emb.Emb.{Emb}
use Rattle.ec_ctypes.specs.views.Checked.{handlers_view}
use Rattle.ec_ctypes.specs.views.Embedded.{emb_view}
use Rattle.ec_typing_defs.specs.Tables.{Named}
use Rattle.ec_whenever.specs.Tables.{AnswersFor}
use Rattle.ec_embedded_rules.specs.parts.Cursors.{cursors_from}

-- the table of handlers answers for them, and that of cursors is theirs
pub record IsKept (embs : List Emb) (handlers : HandlerTable) (cursors : Named ℕ) : Type 0 where
  pub answers : AnswersFor (handlers_view handlers) (map emb_view embs)
  pub table : cursors ≡ cursors_from 0 (map emb_view embs) []
