-- Prepared statements, which belong to their connection, and the request of a statement that is run over it (PostgreSQL manual, "PREPARE", "DEALLOCATE" and "EXECUTE").
use Rattle.std.specs.Prelude.{ℕ, List, ◌++◌}
use Rattle.ec_arguments.specs.Arguments.{TextArg}
use Rattle.ec_link.specs.declared.request.Request.{Request}
use Rattle.ec_link.specs.declared.request.Request.TheVariants as request
use Rattle.ec_transfer_defs.specs.declared.finding.Finding.TheVariants as found
use Rattle.ec_meaning_defs.specs.evaluation.State.{Connection, State}
use Rattle.ec_call_defs.specs.Outcomes.{Text, Field, Outcome, gives, next, begun_area}
use Rattle.ec_direct_defs.specs.Names.{needed, is_under, under, with_under, first_changed, first_removed}
use Rattle.ec_direct_defs.specs.Texts.{text_got, text_wanted}
use Rattle.ec_direct_defs.specs.Requests.{is_over, answer_to, verdict, concluded}
use Rattle.ec_direct_defs.specs.Connections.{connection_over}
use Rattle.ec_direct_defs.specs.Marks.{with_parameters}

-- the prepared texts of the connection of a slot, changed
abbrev pub texts_changed : ℕ → (List (Text × Text) → List (Text × Text)) → State → State
texts_changed slot change s = record s {
  connections = first_changed (is_over slot)
      (λ c. record c { prepared = change c.prepared }) s.connections;
}

-- a text is sent with its marks as parameters. Once the server took it, it stands under its name
abbrev pub statement_prepared : ℕ → TextArg ℕ → Text → TextArg ℕ → State → Outcome (Unit {0})
statement_prepared line at name text s =
    next (text_got at s) (λ called s.
    next (text_wanted text s) (λ bytes s.
    next (begun_area s) (λ _ s.
    next (connection_over line called s) (λ c s.
    next (answer_to c.slot (request.Prepare name (with_parameters bytes)) s) (λ reply s.
    next (concluded line (verdict reply) s) (λ _ s.
    gives tt (texts_changed c.slot (with_under name (with_parameters bytes)) s)))))))

-- a name that isn't there is a code, and nothing is sent. Once the server took it, the name is gone
abbrev pub statement_deallocated : ℕ → TextArg ℕ → Text → State → Outcome (Unit {0})
statement_deallocated line at name s =
    next (text_got at s) (λ called s.
    next (begun_area s) (λ _ s.
    next (connection_over line called s) (λ c s.
    next (needed line found.NoStatement (under name c.prepared) s) (λ bytes s.
    next (answer_to c.slot (request.Deallocate name) s) (λ reply s.
    next (concluded line (verdict reply) s) (λ _ s.
    gives tt (texts_changed c.slot (first_removed (is_under name)) s)))))))

-- ---- what is run

-- a text, the prepared statement of a name, or a cursor for it: the head of its text and the name
pub data Said : Type 0 where
  whole_text : Text → Said
  prepared_one : Text → Said
  cursor_for : Text → Text → Said

-- the request, for any parameters
abbrev pub request_for : ℕ → Said → Connection → State → Outcome (List Field → Request)
request_for line (whole_text bytes) c s = gives (λ params. request.Text bytes params) s
request_for line (prepared_one name) c s =
    next (needed line found.NoStatement (under name c.prepared) s) (λ bytes t.
    gives (λ params. request.Exec name params) t)
request_for line (cursor_for head name) c s =
    next (needed line found.NoStatement (under name c.prepared) s) (λ bytes t.
    gives (λ params. request.Text (head ++ bytes) params) t)
