-- That what is read step by step is what a form has.
use Rattle.std.specs.Prelude.{◌≡◌}
use Rattle.ec_embedded.specs.shapes.ReadShapes.{read}
use Rattle.ec_embedded.specs.References.{Form, Of}
use Rattle.ec_embedded.specs.ServerText.{Tokens}
use Rattle.ec_embedded.specs.Statements.{made}
use Rattle.ec_embedded.specs.Terminals.{Counts, alphabet}
use Rattle.ec_references.specs.Readers.{Reader}

-- What is made of the trees of the form is what the reader reads, from any tokens and counts.
abbrev pub IsReader : {A : Type 0} (form : Form) → (Of form → A) → Reader A → Type 0
IsReader form make reader = (n : Counts) (w : Tokens) →
    made make (read alphabet form n w) ≡ reader n w
