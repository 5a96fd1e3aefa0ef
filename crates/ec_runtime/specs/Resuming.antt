-- From a request to the next one or to the end of a call, in the parts that code has.
use Rattle.std.specs.Prelude.{ℕ, List, [], ◌∷◌, Option, Some, None}
use Rattle.ec_link.specs.declared.request.Request.{Request}
use Rattle.ec_link.specs.declared.request.Request.TheVariants as request
use Rattle.ec_meaning_defs.specs.evaluation.State.{Connection, State}
use Rattle.ec_call_defs.specs.Autocommit.{with_autocommit}
use Rattle.ec_call_defs.specs.Connections.{asked, changed_at, controlled}
use Rattle.ec_call_defs.specs.Outcomes.{Outcome, gives, next}
use Rattle.ec_call_defs.specs.Preparing.{prepared_anew, with_text, without_text}
use Rattle.ec_stopping_defs.specs.Resuming.{Asking, asks, closes}
use Rattle.ec_runtime.specs.declared.waiting.Behind.{Behind}
use Rattle.ec_runtime.specs.declared.waiting.Behind.TheVariants as behinds
use Rattle.ec_runtime.specs.Statements.{outputs_view, request_taken, sent}

-- a request over a slot is transaction control
abbrev pub request_controlled : ℕ → ℕ → Request → State → Outcome (Unit {0})
request_controlled line slot r s =
    next (asked slot r s) (λ reply t. controlled line reply t)

-- a request over a slot, and what is done with its answer
abbrev pub over_done : ℕ → ℕ → Request → Behind → State → Outcome (Unit {0})
over_done line slot r (behinds.Begun second outputs) s = request_controlled line slot r s
over_done line slot r (behinds.Replied outputs) s = sent line r (outputs_view outputs) slot s
over_done line slot r behinds.Controlled s = request_controlled line slot r s
over_done line slot r (behinds.Committed on) s =
    next (request_controlled line slot r s)
    (λ _ t. gives tt (record t { connections = changed_at slot (with_autocommit on) t.connections }))
over_done line slot r (behinds.Kept name text) s =
    next (request_taken line r slot s) (λ _ t. gives tt (prepared_anew slot (with_text name text) t))
over_done line slot r (behinds.Forgotten name) s =
    next (request_taken line r slot s) (λ _ t. gives tt (prepared_anew slot (without_text name) t))

-- what is asked behind that
abbrev pub further : Behind → Option (Request × Behind)
further (behinds.Begun second outputs) = Some (second, behinds.Replied outputs)
further (behinds.Replied outputs) = None
further behinds.Controlled = None
further (behinds.Committed on) = None
further (behinds.Kept name text) = None
further (behinds.Forgotten name) = None

abbrev pub over_part : ℕ → ℕ → Request → Behind → State → Outcome (Option (Request × Behind))
over_part line slot r behind s =
    next (over_done line slot r behind s) (λ _ t. gives (further behind) t)

-- the first of these is closed next
abbrev pub closing_asks : List Connection → Option Asking
closing_asks [] = None
closing_asks (c ∷ cs) = Some (asks c.slot request.Close (closes c.name cs))
