-- Names that are put into tables.
use Rattle.std.specs.Prelude.{Bool, [], is_some}
use Rattle.ec_language.specs.Letters.{Text}
use Rattle.ec_typing_defs.specs.Tables.{find, put}
use Rattle.ec_typing_defs.specs.Worlds.{EntryData, Rule, out, with_name}

-- the name stands for this now; whether it stood for something in this scope before
abbrev pub name_put : Text → EntryData → Rule Bool
name_put name entry = λ w. out (is_some (find name w.here.names)) [] (with_name name entry w)

-- the label stands in this function now; whether it stood there before
abbrev pub label_put : Text → Rule Bool
label_put name =
    λ w. out (is_some (find name w.labels)) [] (record w { labels = put name tt w.labels })
