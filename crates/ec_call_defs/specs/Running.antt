-- ECPGdo: a statement over a connection, with its inputs and its outputs.
use Rattle.std.specs.Prelude.{ℕ, Bool, true, false, List, [], ◌∷◌, ◌++◌, length, Option, Some, None}
use Rattle.ec_arguments.specs.Arguments.{TextArg, Place, Member, host, constant, descriptor, Statement, normal, prepared, immediate, opening}
use Rattle.ec_link.specs.declared.request.Request.{Request}
use Rattle.ec_link.specs.declared.request.Request.TheVariants as request
use Rattle.ec_link.specs.Table.{Sheet}
use Rattle.ec_transfer_defs.specs.declared.finding.Finding.TheVariants as found
use Rattle.ec_meaning_defs.specs.evaluation.State.{Connection, Item, State}
use Rattle.ec_call_defs.specs.Outcomes.{Text, Field, stuck, Outcome, gives, over, next, begun_area, raised}
use Rattle.ec_call_defs.specs.Connections.{same_name, connection_for, asked, begun}
use Rattle.ec_call_defs.specs.Inputs.{text_read, given_read, Inputs, inputs_read}
use Rattle.ec_call_defs.specs.Storing.{with_rows, rows_into}
use Rattle.ec_call_defs.specs.Answers.{replied}
use Rattle.ec_call_defs.specs.Areas.{area_named, with_area, items_of, contents}

-- ---- outputs

-- where rows go: nowhere, into hosts, or into a descriptor of this name
pub data Outputs : Type 0 where
  nowhere : Outputs
  hosts : List (Place ℕ) → Outputs
  area : Text → Outputs

-- the hosts of a list that has nothing else
abbrev pub places_of : List (Member ℕ) → Option (List (Place ℕ))
places_of [] = Some []
places_of (host p ∷ ms) = elim (places_of ms) [ None ↦ None | Some ps ↦ Some (p ∷ ps) ]
places_of (constant bytes ∷ ms) = None
places_of (descriptor name ∷ ms) = None

abbrev pub into_places : Option (List (Place ℕ)) → State → Outcome Outputs
into_places None s = over stuck s
into_places (Some ps) s = gives (hosts ps) s

-- the outputs, with the name of their descriptor read
abbrev pub outputs_read : List (Member ℕ) → State → Outcome Outputs
outputs_read [] s = gives nowhere s
outputs_read (descriptor name ∷ ms) s = next (given_read name s) (λ bytes t. gives (area bytes) t)
outputs_read (host p ∷ ms) s = into_places (places_of (host p ∷ ms)) s
outputs_read (constant bytes ∷ ms) s = over stuck s

-- whether outputs are wanted
abbrev pub is_wanted : Outputs → Bool
is_wanted nowhere = false
is_wanted (hosts ps) = true
is_wanted (area name) = true

-- rows into a descriptor: one row is taken, more are a code
abbrev pub row_into : ℕ → Text → Sheet → List (List Field) → State → Outcome (Unit {0})
row_into line name table [] s = gives tt s
row_into line name table (fields ∷ []) s =
    gives tt (record s { descriptors = with_area name (items_of table.cols fields) s.descriptors })
row_into line name table (fields ∷ more ∷ rows) s = raised line found.TooManyRows s

abbrev pub rows_stored : ℕ → Outputs → Sheet → State → Outcome (Unit {0})
rows_stored line nowhere table s = gives tt s
rows_stored line (hosts ps) table s = rows_into line ps (length table.cols) table.rows s
rows_stored line (area name) table s = row_into line name table table.rows s

-- the rows of an answer are counted, and then stored
abbrev pub table_kept : ℕ → Outputs → Sheet → State → Outcome (Unit {0})
table_kept line outputs table s = with_rows line table.rows (rows_stored line outputs table) s

-- ---- the statement

-- what a statement asks for once its texts are read: a text, a prepared statement, or a cursor for one
pub data Wanted : Type 0 where
  text : Text → Wanted
  execution : Text → Wanted
  cursor : Text → Text → Wanted

abbrev pub statement_read : Statement ℕ → State → Outcome Wanted
statement_read (normal bytes) s = gives (text bytes) s
statement_read (prepared name) s = gives (execution name) s
statement_read (immediate name) s = next (given_read name s) (λ bytes t. gives (text bytes) t)
statement_read (opening head name) s = gives (cursor head name) s

-- the text that is prepared under a name
abbrev pub prepared_text : Text → List (Text × Text) → Option Text
prepared_text name [] = None
prepared_text name (p ∷ ps) =
    elim (same_name p.0 name) [ true ↦ Some p.1 | false ↦ prepared_text name ps ]

abbrev pub found_text : {A : Type 0} → ℕ → Option Text → (Text → A) → State → Outcome A
found_text line None made s = raised line found.NoStatement s
found_text line (Some bytes) made s = gives (made bytes) s

-- the request of a statement, for any parameters. A prepared statement that it needs has to be there
abbrev pub request_of : ℕ → Wanted → Connection → State → Outcome (List Field → Request)
request_of line (text bytes) c s = gives (λ params. request.Text bytes params) s
request_of line (execution name) c s =
    found_text line (prepared_text name c.prepared) (λ bytes params. request.Exec name params) s
request_of line (cursor head name) c s = found_text line (prepared_text name c.prepared)
    (λ bytes params. request.Text (head ++ bytes) params) s

-- ---- descriptors

abbrev pub found_area : ℕ → Option (List Item) → State → Outcome (List Item)
found_area line None s = raised line found.NoDescriptor s
found_area line (Some items) s = gives items s

-- the items of a descriptor, which has to be there
abbrev pub area_found : ℕ → Text → State → Outcome (List Item)
area_found line name s = found_area line (area_named name s.descriptors) s

-- the parameters: the values, and then the contents of the descriptor
abbrev pub params_behind : ℕ → List Field → Option Text → State → Outcome (List Field)
params_behind line params None s = gives params s
params_behind line params (Some name) s =
    next (area_found line name s) (λ items t. gives (params ++ contents items) t)

abbrev pub params_of : ℕ → Inputs → State → Outcome (List Field)
params_of line inputs s = params_behind line inputs.params inputs.area s

-- the descriptor of the outputs has to be there
abbrev pub outputs_found : ℕ → Outputs → State → Outcome (Unit {0})
outputs_found line nowhere s = gives tt s
outputs_found line (hosts ps) s = gives tt s
outputs_found line (area name) s = next (area_found line name s) (λ items t. gives tt t)

-- ---- the call

-- A statement with what it read: the area is set to its opening value, the connection is found, then the prepared statement, then the descriptors, that of the inputs first. A transaction is begun where that is due, the request is sent, and its answer is stored
abbrev pub carried_out : ℕ → Option Text → Wanted → Inputs → Outputs → State → Outcome (Unit {0})
carried_out line name wanted inputs outputs s =
    next (begun_area s) (λ _ s.
    next (connection_for line name s) (λ c s.
    next (request_of line wanted c s) (λ made s.
    next (params_of line inputs s) (λ params s.
    next (outputs_found line outputs s) (λ _ s.
    next (begun line c s) (λ _ s.
    next (asked c.slot (made params) s) (λ reply s.
    replied line (is_wanted outputs) (table_kept line outputs) reply s)))))))

-- what a call does: it reads the name of its connection, its statement, its inputs and the name of its outputs' descriptor, and carries the statement out
abbrev pub run_call : ℕ → TextArg ℕ → Statement ℕ →
    List (Member ℕ) → List (Member ℕ) → State → Outcome (Unit {0})
run_call line connection statement ins outs s =
    next (text_read connection s) (λ name s.
    next (statement_read statement s) (λ wanted s.
    next (inputs_read ins s) (λ inputs s.
    next (outputs_read outs s) (λ outputs s.
    carried_out line name wanted inputs outputs s))))
