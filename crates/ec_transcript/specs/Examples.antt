-- A transcript of one statement with one row.
use Rattle.std.specs.Prelude.{[], ◌∷◌, codes, true, false, Some, pos}
use Rattle.ec_link.specs.declared.request.Request.TheVariants.{Text}
use Rattle.ec_link.specs.declared.reply.Reply.TheVariants.{Rows}
use Rattle.ec_link.specs.declared.reply.Tx.TheVariants.{Idle}
use Rattle.ec_transcript.specs.declared.version.Version.{Version}
use Rattle.ec_transcript.specs.Text.{Bytes, text_of}
use Rattle.ec_transcript.specs.States.{logged}

abbrev pub one_row : Version → Bytes
one_row version = text_of version ((true, codes "db") ∷ []) (logged (Some 0) (Text (codes "SELECT a FROM t") [])
    (Rows (record {
      cols = record { name = codes "a"; code = pos 4 } ∷ [];
      rows = (Some (codes "7") ∷ []) ∷ [];
    }) Idle false) ∷ [])
