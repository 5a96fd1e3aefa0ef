-- A call of the library up to its first request, and from each request on to the next one or to its end.
use Rattle.std.specs.Prelude.{ℕ, Bool, true, false, List, [], ◌∷◌, ◌++◌, reverse, codes, Option, Some, None}
use Rattle.ec_arguments.specs.Arguments.{TextArg, Member, Statement, Call, run, connect, disconnect, set_connection, set_autocommit, control, prepare, deallocate, allocate_descriptor, deallocate_descriptor, get_count, set_count, get_items, set_items, Cut}
use Rattle.ec_link.specs.declared.reply.Reply.{Reply}
use Rattle.ec_link.specs.declared.request.Request.{Request}
use Rattle.ec_link.specs.declared.request.Request.TheVariants as request
use Rattle.ec_transfer_defs.specs.declared.finding.Finding.TheVariants as found
use Rattle.ec_meaning_defs.specs.evaluation.State.{Answer, Connection, State}
use Rattle.ec_call_defs.specs.Answers.{replied, taken}
use Rattle.ec_call_defs.specs.Autocommit.{with_autocommit, commits_first}
use Rattle.ec_call_defs.specs.Connecting.{connecting, opened_by, own_name}
use Rattle.ec_call_defs.specs.Connections.{same_name, connection_named, connection_for, changed_at, with_told, told_by, exchange, asked, controlled, begins, begin_text}
use Rattle.ec_call_defs.specs.Disconnecting.{all_closed, removed}
use Rattle.ec_call_defs.specs.Inputs.{text_read, given_read, inputs_read}
use Rattle.ec_call_defs.specs.Library.{call_done}
use Rattle.ec_call_defs.specs.Marks.{with_marks}
use Rattle.ec_call_defs.specs.Outcomes.{Text, Outcome, gives, next, begun_area, raised}
use Rattle.ec_call_defs.specs.Preparing.{with_text, without_text, prepared_anew}
use Rattle.ec_call_defs.specs.Running.{Outputs, outputs_read, is_wanted, table_kept, statement_read, prepared_text, found_text, request_of, params_of, outputs_found}

-- ---- what a call keeps between two requests, beside its line

-- what it does behind the reply to a request over a slot
pub data Behind : Type 0 where
  -- `begin transaction` was due before this request of a statement
  begun : Request → Outputs → Behind
  -- the rows of a statement go there
  replies : Outputs → Behind
  controls : Behind
  -- autocommit is set behind `commit`
  commits : Bool → Behind
  prepares : Text → Text → Behind
  deallocates : Text → Behind
  -- the connection of this name is closed, and then those are
  closes : Text → List Connection → Behind

-- the request that has no answer yet: over a slot, or for a connection of this name
pub data Asking : Type 0 where
  asks : ℕ → Request → Behind → Asking
  connects : Text → Request → Asking

abbrev pub is_asked_over : Asking → Option ℕ
is_asked_over (asks slot request behind) = Some slot
is_asked_over (connects name request) = None

abbrev pub asks_for : Asking → Request
asks_for (asks slot request behind) = request
asks_for (connects name request) = request

-- ---- what it still has to do, over all further answers

abbrev pub behind_done : ℕ → ℕ → Behind → Reply → State → Outcome (Unit {0})
behind_done line slot (begun request outputs) reply s =
    next (controlled line reply s) (λ _ t.
    next (asked slot request t) (λ reply u.
    replied line (is_wanted outputs) (table_kept line outputs) reply u))
behind_done line slot (replies outputs) reply s =
    replied line (is_wanted outputs) (table_kept line outputs) reply s
behind_done line slot controls reply s = controlled line reply s
behind_done line slot (commits on) reply s =
    next (controlled line reply s) (λ _ t. gives tt (record t { connections = changed_at slot (with_autocommit on) t.connections }))
behind_done line slot (prepares name text) reply s =
    next (taken line reply s) (λ _ t. gives tt (prepared_anew slot (with_text name text) t))
behind_done line slot (deallocates name) reply s =
    next (taken line reply s) (λ _ t. gives tt (prepared_anew slot (without_text name) t))
behind_done line slot (closes name rest) reply s = all_closed rest (removed name s)

abbrev pub residual : ℕ → Asking → State → Outcome (Unit {0})
residual line (asks slot request behind) s =
    next (asked slot request s) (λ reply t. behind_done line slot behind reply t)
residual line (connects name request) s = connecting line name request s.answers s

-- where a call is: at its end, or before a request that has no answer yet
abbrev pub going : ℕ → Option Asking → State → Outcome (Unit {0})
going line None s = gives tt s
going line (Some u) s = residual line u s

-- ---- from one request to the next, or to its end

abbrev pub ending : Outcome (Unit {0}) → Outcome (Option Asking)
ending o = next o (λ _ t. gives None t)

-- behind the reply to a request over a slot
abbrev pub part : ℕ → ℕ → Behind → Reply → State → Outcome (Option Asking)
part line slot (begun request outputs) reply s =
    next (controlled line reply s) (λ _ t. gives (Some (asks slot request (replies outputs))) t)
part line slot (replies outputs) reply s = ending (behind_done line slot (replies outputs) reply s)
part line slot controls reply s = ending (behind_done line slot controls reply s)
part line slot (commits on) reply s = ending (behind_done line slot (commits on) reply s)
part line slot (prepares name text) reply s =
    ending (behind_done line slot (prepares name text) reply s)
part line slot (deallocates name) reply s =
    ending (behind_done line slot (deallocates name) reply s)
part line slot (closes name []) reply s = gives None (removed name s)
part line slot (closes name (c ∷ cs)) reply s =
    gives (Some (asks c.slot request.Close (closes c.name cs))) (removed name s)

-- with the answer, which is no more among those that are left
abbrev pub resumed : ℕ → Asking → Answer → State → Outcome (Option Asking)
resumed line (asks slot request behind) answer s = part line slot behind answer.1 (record s {
  connections = changed_at slot (with_told (told_by answer.1)) s.connections;
  conversation = s.conversation ++ exchange (Some slot) request answer.1 ∷ [];
})
resumed line (connects name request) answer s = ending (opened_by line name answer (record s {
  conversation = s.conversation ++ exchange answer.0 request answer.1 ∷ [];
}))

-- over all further answers: it makes the request, and goes on to the next one or to its end
abbrev pub stepped : ℕ → Asking → State → Outcome (Option Asking)
stepped line (asks slot request behind) s =
    next (asked slot request s) (λ reply t. part line slot behind reply t)
stepped line (connects name request) s = ending (connecting line name request s.answers s)

-- ---- up to the first request

abbrev pub asks_with : ℕ → Request → Behind → State → Outcome (Option Asking)
asks_with slot request behind s = gives (Some (asks slot request behind)) s

-- a statement over a connection, with its request
abbrev pub statement_asks : Bool → ℕ → Request → Outputs → State → Outcome (Option Asking)
statement_asks true slot made outputs s = asks_with slot (request.Text begin_text []) (begun made outputs) s
statement_asks false slot made outputs s = asks_with slot made (replies outputs) s

abbrev pub run_started : ℕ → TextArg ℕ → Statement ℕ → List (Member ℕ) → List (Member ℕ) → State → Outcome (Option Asking)
run_started line connection statement ins outs s =
    next (text_read connection s) (λ name s.
    next (statement_read statement s) (λ wanted s.
    next (inputs_read ins s) (λ inputs s.
    next (outputs_read outs s) (λ outputs s.
    next (begun_area s) (λ _ s.
    next (connection_for line name s) (λ c s.
    next (request_of line wanted c s) (λ made s.
    next (params_of line inputs s) (λ params s.
    next (outputs_found line outputs s) (λ _ s.
    statement_asks (begins c) c.slot (made params) outputs s)))))))))

abbrev pub unless_used : ℕ → Text → Request → Option Connection → State → Outcome (Option Asking)
unless_used line name request (Some c) s = raised line found.NotConnected s
unless_used line name request None s = gives (Some (connects name request)) s

abbrev pub connect_started : ℕ → TextArg ℕ → TextArg ℕ → TextArg ℕ → TextArg ℕ → State → Outcome (Option Asking)
connect_started line target user password name s =
    next (given_read target s) (λ server s.
    next (text_read user s) (λ by s.
    next (text_read password s) (λ word s.
    next (text_read name s) (λ called s.
    next (begun_area s) (λ _ s.
    unless_used line (own_name server called) (request.Connect server by word)
    (connection_named (own_name server called) s.connections) s)))))

abbrev pub closing : List Connection → State → Outcome (Option Asking)
closing [] s = gives None s
closing (c ∷ cs) s = asks_with c.slot request.Close (closes c.name cs) s

abbrev pub one_closing : ℕ → Option Text → State → Outcome (Option Asking)
one_closing line name s = next (connection_for line name s) (λ c t. asks_with c.slot request.Close (closes c.name []) t)

abbrev pub disconnecting : ℕ → Text → State → Outcome (Option Asking)
disconnecting line name s = elim (same_name name (codes "CURRENT")) [
  | true ↦ one_closing line None s
  | false ↦ elim (same_name name (codes "ALL")) [
    | true ↦ closing (reverse s.connections) s
    | false ↦ one_closing line (Some name) s
  ]
]

abbrev pub switching : Bool → Bool → ℕ → State → Outcome (Option Asking)
switching true on slot s = asks_with slot (request.Text (codes "commit") []) (commits on) s
switching false on slot s =
    gives None (record s { connections = changed_at slot (with_autocommit on) s.connections })

abbrev pub call_started : ℕ → Call ℕ → State → Outcome (Option Asking)
call_started line (run connection statement ins outs) s = run_started line connection statement ins outs s
call_started line (connect target user password name) s = connect_started line target user password name s
call_started line (disconnect name) s =
    next (given_read name s) (λ called s. next (begun_area s) (λ _ s. disconnecting line called s))
call_started line (set_connection name) s = ending (call_done line (set_connection name) s)
call_started line (set_autocommit on connection) s =
    next (text_read connection s) (λ name s.
    next (begun_area s) (λ _ s.
    next (connection_for line name s) (λ c s. switching (commits_first on c) on c.slot s)))
call_started line (control connection text) s =
    next (text_read connection s) (λ name s.
    next (begun_area s) (λ _ s.
    next (connection_for line name s) (λ c s. asks_with c.slot (request.Text text []) controls s)))
call_started line (prepare connection name text) s =
    next (text_read connection s) (λ called s.
    next (given_read text s) (λ bytes s.
    next (begun_area s) (λ _ s.
    next (connection_for line called s) (λ c s.
    asks_with c.slot (request.Prepare name (with_marks bytes)) (prepares name (with_marks bytes)) s))))
call_started line (deallocate connection name) s =
    next (text_read connection s) (λ called s.
    next (begun_area s) (λ _ s.
    next (connection_for line called s) (λ c s.
    next (found_text line (prepared_text name c.prepared) (λ bytes. bytes) s) (λ _ s.
    asks_with c.slot (request.Deallocate name) (deallocates name) s))))
call_started line (allocate_descriptor name) s = ending (call_done line (allocate_descriptor name) s)
call_started line (deallocate_descriptor name) s = ending (call_done line (deallocate_descriptor name) s)
call_started line (get_count name target) s = ending (call_done line (get_count name target) s)
call_started line (set_count name value) s = ending (call_done line (set_count name value) s)
call_started line (get_items name index items) s = ending (call_done line (get_items name index items) s)
call_started line (set_items name index items) s = ending (call_done line (set_items name index items) s)

abbrev pub started : Cut ℕ → State → Outcome (Option Asking)
started c s = call_started c.line c.call s
