-- That what code decides is what the table says.
use Rattle.std.specs.Prelude.{◌≡◌, Bool}
use Rattle.ec_embedded.specs.ServerText.{Tokens}
use Rattle.ec_embedded.specs.Statements.{kind_at}
use Rattle.ec_embedded.specs.Terminals.{Counts}
use Rattle.ec_read_statement.specs.Deciding.{any_statement}

abbrev pub IsDecided : Type 0
IsDecided = (at : Bool) (n : Counts) (w : Tokens) → kind_at at n w ≡ any_statement at n w
