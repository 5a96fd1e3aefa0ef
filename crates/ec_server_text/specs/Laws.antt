-- That what is read token by token is what the definition has.
use Rattle.std.specs.Prelude.{◌≡◌, ◌-◌, ◌++◌, true, false, List, [], ◌∷◌, codes, length, Some, None}
use Rattle.ec_ctypes.specs.trees.Embedded.{declare_cursor, PartData, bytes_part}
use Rattle.ec_ctypes.specs.trees.Exprs.{ExprData}
use Rattle.ec_embedded.specs.shapes.ReadShapes.{done, and_then}
use Rattle.ec_language.specs.Letters.{Text}
use Rattle.ec_embedded.specs.Statements.{made}
use Rattle.ec_embedded.specs.ServerText.{Tokens, suffixes, begins_host, host_at, server_at, transaction_at, Cut, cuts, parts, bytes_in}
use Rattle.ec_embedded.specs.Terminals.{Counts, Begins}
use Rattle.ec_server_text.specs.Readers.{long_suffixes, long_host, sending, controlling, declaring, declaring_prepared}

abbrev pub SuffixesAreLongest : Type 0
SuffixesAreLongest = (e : ExprData) (n : Counts) (w : Tokens) → suffixes n e w ≡ long_suffixes e n w

abbrev pub HostsAreLongest : Type 0
HostsAreLongest =
    (b : Begins) (n : Counts) (w : Tokens) → begins_host w ≡ true → host_at b n w ≡ long_host b n w

abbrev pub StatementsAreSent : Type 0
StatementsAreSent = (n : Counts) (w : Tokens) → server_at n w ≡ sending n w

abbrev pub TransactionsAreControlled : Type 0
TransactionsAreControlled = (n : Counts) (w : Tokens) → transaction_at n w ≡ controlling n w

abbrev pub CursorsAreDeclared : Type 0
CursorsAreDeclared =
    (name : Text) (n : Counts) (w : Tokens)
    → made (λ cs. declare_cursor name (parts true false cs) None) (cuts (length w) 0 false n w)
    ≡ declaring name n w

-- the text up to the name of a prepared statement, and a blank
abbrev pub head_part : List Cut → PartData
head_part cs = bytes_part (bytes_in (parts true false cs) ++ codes " ")

abbrev pub CursorsArePrepared : Type 0
CursorsArePrepared =
    (name prepared : Text) (n : Counts) (w : Tokens)
    → and_then (cuts (length w - 1) 0 false n w)
    (λ cs m q. done (declare_cursor name (head_part cs ∷ []) (Some prepared)) m [])
    ≡ declaring_prepared name prepared n w
