-- The parts of a call over a connection, and what a call does.
use Rattle.std.specs.Prelude.{ℕ, List, [], ◌∷◌, ◌++◌, Option, Some, None, IsSome, Result, Ok, Err, map}
use Rattle.ec_link.specs.declared.request.Request.{Request}
use Rattle.ec_link.specs.declared.request.Request.TheVariants as request
use Rattle.ec_arguments.specs.Arguments.{Call as CutCall, Cut, Member, Statement as Asked, TextArg, allocate_descriptor, connect, control, deallocate, deallocate_descriptor, descriptor, disconnect, get_count, get_items, host, immediate, normal, opening, prepare, prepared, run, set_autocommit, set_connection, set_count, set_items}
use Rattle.ec_meaning_defs.specs.evaluation.State.{Connection, State}
use Rattle.ec_call_defs.specs.Outcomes.{Text, Field, Outcome, gives, next, begun_area}
use Rattle.ec_call_defs.specs.Connecting.{own_name}
use Rattle.ec_call_defs.specs.Connections.{asked, connection_for}
use Rattle.ec_call_defs.specs.Answers.{replied, taken}
use Rattle.ec_call_defs.specs.Marks.{with_marks}
use Rattle.ec_call_defs.specs.Preparing.{prepared_anew}
use Rattle.ec_call_defs.specs.Running as sought
use Rattle.ec_call_defs.specs.Running.{Wanted as Sought, Outputs as Going, nowhere, hosts, area, is_wanted, table_kept, request_of, params_behind, outputs_found, prepared_text, found_text}
use Rattle.ec_call_defs.specs.Areas.{Areas, area_named}
use Rattle.ec_call_defs.specs.Inputs.{given_read, text_read}
use Rattle.ec_call_defs.specs.Library.{cut_done}
use Rattle.ec_runtime.specs.declared.host.Host.{Host}
use Rattle.ec_runtime.specs.declared.call.Call.{Call}
use Rattle.ec_runtime.specs.declared.call.Act.{Act}
use Rattle.ec_runtime.specs.declared.call.Connect.{Connect}
use Rattle.ec_runtime.specs.declared.call.Describe.{Describe}
use Rattle.ec_runtime.specs.declared.call.Describe.TheVariants as describes
use Rattle.ec_runtime.specs.declared.call.Destination.{Destination}
use Rattle.ec_runtime.specs.declared.call.Destination.TheVariants as into
use Rattle.ec_runtime.specs.declared.call.Kind.{Kind}
use Rattle.ec_runtime.specs.declared.call.Kind.TheVariants as kinds
use Rattle.ec_runtime.specs.declared.call.Act.TheVariants as acts
use Rattle.ec_runtime.specs.declared.call.Statement.{Statement}
use Rattle.ec_runtime.specs.declared.call.Wanted.{Wanted}
use Rattle.ec_runtime.specs.declared.call.Wanted.TheVariants as wants
use Rattle.ec_ctypes.specs.declared.embedded.emb.Item.{Item}
use Rattle.ec_runtime.specs.declared.inputs.GivenText.{GivenText}
use Rattle.ec_runtime.specs.declared.inputs.Input.{Input}
use Rattle.ec_runtime.specs.declared.order.Order.{Order}
use Rattle.ec_runtime.specs.declared.order.Outputs.{Outputs}
use Rattle.ec_runtime.specs.declared.order.Outputs.TheVariants as goes
use Rattle.ec_runtime.specs.declared.order.What.{What}
use Rattle.ec_runtime.specs.declared.order.What.TheVariants as whats
use Rattle.ec_runtime.specs.declared.requests.Head.{Head}
use Rattle.ec_runtime.specs.declared.requests.Head.TheVariants as heads
use Rattle.ec_runtime.specs.declared.stop.Stop.{Stop}
use Rattle.ec_runtime.specs.Reading.{text_view, given_view, input_view, values_read}
use Rattle.ec_runtime.specs.Views.{host_view, outputs_of}

-- where rows go, once the name of a descriptor is read
abbrev pub outputs_view : Outputs → Going
outputs_view (goes.Hosts hs) = outputs_of hs
outputs_view (goes.Area name) = area name

-- the descriptor that rows go into is there
abbrev pub IsThere : Going → Areas → Type 0
IsThere nowhere areas = Unit {0}
IsThere (hosts ps) areas = Unit {0}
IsThere (area name) areas = IsSome (area_named name areas)

-- a request over a slot is sent, and its reply is answered
abbrev pub sent : ℕ → Request → Going → ℕ → State → Outcome (Unit {0})
sent line request outputs slot s =
    next (asked slot request s)
    (λ reply t. replied line (is_wanted outputs) (table_kept line outputs) reply t)

-- the area is set to its opening value, and the connection is found
abbrev pub reached : ℕ → Option Text → State → Outcome Connection
reached line name s = next (begun_area s) (λ _ t. connection_for line name t)

-- what is asked for, in the words of the definitions
abbrev pub what_view : What → Sought
what_view (whats.Text bytes) = sought.text bytes
what_view (whats.Execution name) = sought.execution name
what_view (whats.Cursor head name) = sought.cursor head name

-- a request but for its parameters
abbrev pub head_view : Head → List Field → Request
head_view (heads.Text bytes) params = request.Text bytes params
head_view (heads.Exec name) params = request.Exec name params

abbrev pub head_seen : Result Head Stop → Result (List Field → Request) Stop
head_seen (Ok head) = Ok (λ params. head_view head params)
head_seen (Err stop) = Err stop

-- the request: a prepared statement that it needs has to be there, and then the descriptor of its inputs
abbrev pub request_made : ℕ → Order → Connection → State → Outcome Request
request_made line order c s =
    next (request_of line (what_view order.what) c s) (λ made t.
    next (params_behind line order.params order.area t) (λ params u. gives (made params) u))

-- what is asked for
abbrev pub wanted_read : Wanted → State → Outcome What
wanted_read (wants.Normal bytes) s = gives (whats.Text bytes) s
wanted_read (wants.Prepared name) s = gives (whats.Execution name) s
wanted_read (wants.Immediate given) s =
    next (given_read (given_view given) s) (λ bytes t. gives (whats.Text bytes) t)
wanted_read (wants.Opening head name) s = gives (whats.Cursor head name) s

-- the name of a descriptor whose contents are given, if there is one
abbrev pub area_read : Option GivenText → State → Outcome (Option Text)
area_read None s = gives None s
area_read (Some given) s =
    next (given_read (given_view given) s) (λ bytes t. gives (Some bytes) t)

-- with the values that a statement reads
abbrev pub statement_read : Statement → State → Outcome Order
statement_read it s =
    next (wanted_read it.wanted s) (λ what t.
    next (values_read (map input_view it.ins) t) (λ params u.
    next (area_read it.area u)
    (λ name v. gives (record { what = what; params = params; area = name }) v)))

-- where its rows go
abbrev pub targets_read : Destination → State → Outcome Outputs
targets_read (into.Hosts hs) s = gives (goes.Hosts hs) s
targets_read (into.Area given) s =
    next (given_read (given_view given) s) (λ bytes t. gives (goes.Area bytes) t)

-- ---- prepared statements

-- a request over a slot is sent, and the server takes it or the call ends
abbrev pub request_taken : ℕ → Request → ℕ → State → Outcome (Unit {0})
request_taken line request slot s =
    next (asked slot request s) (λ reply t. taken line reply t)

-- the prepared statements of a connection change once the server took a request
abbrev pub changed_behind : ℕ → Request → (List (Text × Text) → List (Text × Text)) →
    Connection → State → Outcome (Unit {0})
changed_behind line request change c s =
    next (request_taken line request c.slot s)
    (λ _ t. gives tt (prepared_anew c.slot change t))

-- the name has to be there
abbrev pub name_there : ℕ → Text → Connection → State → Outcome (Unit {0})
name_there line name c s =
    next (found_text line (prepared_text name c.prepared) (λ bytes. bytes) s) (λ _ t. gives tt t)

-- the text that is sent for the one that PREPARE is given
abbrev pub marks_read : GivenText → State → Outcome Text
marks_read given s =
    next (given_read (given_view given) s) (λ bytes t. gives (with_marks bytes) t)

-- ---- connections

-- what CONNECT is given: the name of the connection, and the request
abbrev pub connect_read : Connect → State → Outcome (Text × Request)
connect_read it s =
    next (given_read (given_view it.target) s) (λ server t.
    next (text_read (text_view it.user) t) (λ by u.
    next (text_read (text_view it.password) u) (λ word v.
    next (text_read (text_view it.name) v) (λ called w.
    gives (own_name server called, request.Connect server by word) w))))

-- the connection of this name is the current one
abbrev pub current_set : ℕ → Text → State → Outcome (Unit {0})
current_set line name s =
    next (reached line (Some name) s) (λ _ t. gives tt (record t { current = Some name }))

-- a host that is stored into
abbrev pub target_view : Host → Member ℕ
target_view h = host (host_view h)

abbrev pub wanted_view : Wanted → Asked ℕ
wanted_view (wants.Normal bytes) = normal bytes
wanted_view (wants.Prepared name) = prepared name
wanted_view (wants.Immediate given) = immediate (given_view given)
wanted_view (wants.Opening head name) = opening head name

-- the descriptor behind its values, and where its rows go
abbrev pub area_members : Option GivenText → List (Member ℕ)
area_members None = []
area_members (Some given) = descriptor (given_view given) ∷ []

abbrev pub targets_view : Destination → List (Member ℕ)
targets_view (into.Hosts hs) = map target_view hs
targets_view (into.Area given) = descriptor (given_view given) ∷ []

-- a call over a connection, cut
abbrev pub act_view : TextArg ℕ → Act → CutCall ℕ
act_view connection (acts.Run it) =
    run connection (wanted_view it.wanted) (map input_view it.ins ++ area_members it.area)
    (targets_view it.outs)
act_view connection (acts.Control text) = control connection text
act_view connection (acts.Autocommit on) = set_autocommit on connection
act_view connection (acts.Prepare name given) = prepare connection name (given_view given)
act_view connection (acts.Deallocate name) = deallocate connection name

-- a call on a descriptor, cut
abbrev pub got_view : Item × Host → Item × Member ℕ
got_view i = (i.0, target_view i.1)

abbrev pub set_view : Item × Input → Item × Member ℕ
set_view i = (i.0, input_view i.1)

abbrev pub describe_view : TextArg ℕ → Describe → CutCall ℕ
describe_view name describes.Allocate = allocate_descriptor name
describe_view name describes.Deallocate = deallocate_descriptor name
describe_view name (describes.GetCount h) = get_count name (target_view h)
describe_view name (describes.SetCount value) = set_count name (input_view value)
describe_view name (describes.GetItems index wanted) =
    get_items name (input_view index) (map got_view wanted)
describe_view name (describes.SetItems index given) =
    set_items name (input_view index) (map set_view given)

abbrev pub kind_view : Kind → CutCall ℕ
kind_view (kinds.Over connection act) = act_view (text_view connection) act
kind_view (kinds.Connect it) =
    connect (given_view it.target) (text_view it.user) (text_view it.password) (text_view it.name)
kind_view (kinds.Disconnect name) = disconnect (given_view name)
kind_view (kinds.SetConnection name) = set_connection (given_view name)
kind_view (kinds.Describe name what) = describe_view (given_view name) what

abbrev pub cut_view : Call → Cut ℕ
cut_view it = record { line = it.line.0; call = kind_view it.kind }

-- what it does
abbrev pub call_action : Call → State → Outcome (Unit {0})
call_action it s = cut_done (cut_view it) s
