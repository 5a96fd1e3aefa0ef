-- A call is its parts, one behind the other.
use Rattle.std.proofs.Common.{◌≡◌, ℕ, Bool, true, false, List, [], ◌∷◌, ◌++◌, Option, Some, None, refl}
use Rattle.std.specs.Prelude.{reverse, codes}
use Rattle.ec_arguments.specs.Arguments.{TextArg, Member, Statement, Call, run, connect, disconnect, set_connection, set_autocommit, control, prepare, deallocate, allocate_descriptor, deallocate_descriptor, get_count, set_count, get_items, set_items, Cut}
use Rattle.ec_link.specs.declared.reply.Reply.{Reply}
use Rattle.ec_link.specs.declared.request.Request.{Request}
use Rattle.ec_link.specs.declared.request.Request.TheVariants as request
use Rattle.ec_meaning_defs.specs.evaluation.State.{Answer, Connection, State}
use Rattle.ec_call_defs.specs.Answers.{replied}
use Rattle.ec_call_defs.specs.Autocommit.{commits_first, switched}
use Rattle.ec_call_defs.specs.Connecting.{connecting, connect_call, opened_by, own_name, unless_named}
use Rattle.ec_call_defs.specs.Connections.{same_name, connection_named, connection_for, changed_at, with_told, told_by, exchange, asked, begins, begin_text, controlled, control_sent}
use Rattle.ec_call_defs.specs.Disconnecting.{all_closed, closed, one_closed, removed}
use Rattle.ec_call_defs.specs.Inputs.{text_read, given_read, inputs_read}
use Rattle.ec_call_defs.specs.Library.{call_done, cut_done}
use Rattle.ec_call_defs.specs.Outcomes.{Text, Outcome, gives, finished, over, waiting, next, with_memory, fresh_area}
use Rattle.ec_call_defs.specs.Running.{Outputs, outputs_read, is_wanted, table_kept, statement_read, prepared_text, found_text, request_of, params_of, outputs_found, run_call}
use Rattle.ec_stopping_defs.specs.Resuming as parts
use Rattle.ec_stopping_defs.specs.Resuming.{Behind, replies, controls, commits, prepares, deallocates, closes, Asking, asks, connects, is_asked_over, asks_for, behind_done, residual, going, ending, part, resumed, stepped, statement_asks, run_started, unless_used, connect_started, closing, one_closing, disconnecting, switching, call_started, started}

-- ---- one behind the other

next_next : {A B C : Type 0} (o : Outcome A) (f : A → State → Outcome B) (g : B → State → Outcome C) → next (next o f) g ≡ next o (λ a s. next (f a s) g)
next_next (gives a s) f g = refl
next_next (finished s) f g = refl
next_next (over halt s) f g = refl

next_same : {A B : Type 0} (o : Outcome A) (f g : A → State → Outcome B) → ((a : A) (s : State) → f a s ≡ g a s) → next o f ≡ next o g
next_same (gives a s) f g h = h a s
next_same (finished s) f g h = refl
next_same (over halt s) f g h = refl

-- what a call does from where a part of it leads to
abbrev from_there : ℕ → Outcome (Option Asking) → Outcome (Unit {0})
from_there line o = next o (going line)

module _ (line : ℕ) where
  -- a part behind which the call is at its end
  ends_so : (o : Outcome (Unit {0})) → o ≡ from_there line (ending o)
  ends_so (gives u s) = refl
  ends_so (finished s) = refl
  ends_so (over halt s) = refl

  -- what goes on behind a part is what the call does from there on
  behind : {A : Type 0} (o : Outcome A) (k : A → State → Outcome (Unit {0})) (go : A → State → Outcome (Option Asking)) → ((a : A) (s : State) → k a s ≡ next (go a s) (going line)) → next o k ≡ next (next o go) (going line)
  behind (gives a s) k go h = h a s
  behind (finished s) k go h = refl
  behind (over halt s) k go h = refl

  -- ---- up to the first request

  statement_so : (b : Bool) (c : Connection) (made : Request) (outputs : Outputs) (s : State)
      → next (elim b [ true ↦ control_sent line c begin_text s | false ↦ gives (tt {0}) s ]) (λ _ t. next (asked c.slot made t) (λ reply u. replied line (is_wanted outputs) (table_kept line outputs) reply u))
      ≡ from_there line (statement_asks b c.slot made outputs s)
  statement_so true c made outputs s =
      next_next (asked c.slot (request.Text begin_text []) s) (λ reply t. controlled line reply t) (λ _ t. next (asked c.slot made t) (λ reply u. replied line (is_wanted outputs) (table_kept line outputs) reply u))
  statement_so false c made outputs s = refl

  run_so : (connection : TextArg ℕ) (statement : Statement ℕ) (ins outs : List (Member ℕ)) (s : State) → run_call line connection statement ins outs s ≡ from_there line (run_started line connection statement ins outs s)
  run_so connection statement ins outs s =
      behind (text_read connection s) _ _ (λ name s.
      behind (statement_read statement s) _ _ (λ wanted s.
      behind (inputs_read ins s) _ _ (λ inputs s.
      behind (outputs_read outs s) _ _ (λ outputs s.
      let t : State = with_memory (fresh_area s.memory) s in
      behind (connection_for line name t) _ _ (λ c s.
      behind (request_of line wanted c s) _ _ (λ made s.
      behind (params_of line inputs s) _ _ (λ params s.
      behind (outputs_found line outputs s) _ _ (λ u s.
      statement_so (begins c) c (made params) outputs s))))))))

  unless_so : (name : Text) (r : Request) (c : Option Connection) (s : State) → unless_named line name r c s ≡ from_there line (unless_used line name r c s)
  unless_so name r (Some c) s = refl
  unless_so name r None s = refl

  connect_so : (target user password name : TextArg ℕ) (s : State) → connect_call line target user password name s ≡ from_there line (connect_started line target user password name s)
  connect_so target user password name s =
      behind (given_read target s) _ _ (λ server s.
      behind (text_read user s) _ _ (λ by s.
      behind (text_read password s) _ _ (λ word s.
      behind (text_read name s) _ _ (λ called s.
      let t : State = with_memory (fresh_area s.memory) s in
      unless_so (own_name server called) (request.Connect server by word) (connection_named (own_name server called) t.connections) t))))

  closed_first : (c : Connection) (cs : List Connection) (s : State) → all_closed (c ∷ cs) s ≡ residual line (asks c.slot request.Close (closes c.name cs)) s
  closed_first c cs s = next_next (asked c.slot request.Close s) (λ reply t. gives tt (removed c.name t)) (λ _ t. all_closed cs t)

  closing_so : (cs : List Connection) (s : State) → all_closed cs s ≡ from_there line (closing cs s)
  closing_so [] s = refl
  closing_so (c ∷ cs) s = closed_first c cs s

  one_so : (name : Option Text) (s : State) → one_closed line name s ≡ from_there line (one_closing line name s)
  one_so name s = behind (connection_for line name s) (λ c t. closed c t) (λ c t. gives (Some (asks c.slot request.Close (closes c.name []))) t) (λ c t. refl)

  chosen : (current all : Bool) (name : Text) (s : State)
      → elim current [ true ↦ one_closed line None s | false ↦ elim all [ true ↦ all_closed (reverse s.connections) s | false ↦ one_closed line (Some name) s ] ]
      ≡ from_there line (elim current [ true ↦ one_closing line None s | false ↦ elim all [ true ↦ closing (reverse s.connections) s | false ↦ one_closing line (Some name) s ] ])
  chosen true all name s = one_so None s
  chosen false true name s = closing_so (reverse s.connections) s
  chosen false false name s = one_so (Some name) s

  switching_so : (b on : Bool) (c : Connection) (s : State)
      → elim b [ true ↦ next (control_sent line c (codes "commit") s) (λ _ t. switched on c t) | false ↦ switched on c s ]
      ≡ from_there line (switching b on c.slot s)
  switching_so true on c s = next_next (asked c.slot (request.Text (codes "commit") []) s) (λ reply t. controlled line reply t) (λ _ t. switched on c t)
  switching_so false on c s = refl

  call_so : (x : Call ℕ) (s : State) → call_done line x s ≡ from_there line (call_started line x s)
  call_so (run connection statement ins outs) s = run_so connection statement ins outs s
  call_so (connect target user password name) s = connect_so target user password name s
  call_so (disconnect name) s =
      behind (given_read name s) _ _ (λ called s.
      let t : State = with_memory (fresh_area s.memory) s in
      chosen (same_name called (codes "CURRENT")) (same_name called (codes "ALL")) called t)
  call_so (set_connection name) s = ends_so (call_done line (set_connection name) s)
  call_so (set_autocommit on connection) s =
      behind (text_read connection s) _ _ (λ name s.
      let t : State = with_memory (fresh_area s.memory) s in
      behind (connection_for line name t) _ _ (λ c s. switching_so (commits_first on c) on c s))
  call_so (control connection text) s =
      behind (text_read connection s) _ _ (λ name s.
      let t : State = with_memory (fresh_area s.memory) s in
      behind (connection_for line name t) _ _ (λ c s. refl))
  call_so (prepare connection name text) s =
      behind (text_read connection s) _ _ (λ called s.
      behind (given_read text s) _ _ (λ bytes s.
      let t : State = with_memory (fresh_area s.memory) s in
      behind (connection_for line called t) _ _ (λ c s. refl)))
  call_so (deallocate connection name) s =
      behind (text_read connection s) _ _ (λ called s.
      let t : State = with_memory (fresh_area s.memory) s in
      behind (connection_for line called t) _ _ (λ c s.
      behind (found_text line (prepared_text name c.prepared) (λ bytes. bytes) s) _ _ (λ b s. refl)))
  call_so (allocate_descriptor name) s = ends_so (call_done line (allocate_descriptor name) s)
  call_so (deallocate_descriptor name) s = ends_so (call_done line (deallocate_descriptor name) s)
  call_so (get_count name target) s = ends_so (call_done line (get_count name target) s)
  call_so (set_count name value) s = ends_so (call_done line (set_count name value) s)
  call_so (get_items name index items) s = ends_so (call_done line (get_items name index items) s)
  call_so (set_items name index items) s = ends_so (call_done line (set_items name index items) s)

  -- ---- from a request on

  pub waits_so : (u : Asking) (s : State) → residual line u (record s { answers = [] }) ≡ over (waiting (is_asked_over u) (asks_for u)) (record s { answers = [] })
  waits_so (asks slot r b) s = refl
  waits_so (connects name r) s = refl

  -- behind the reply
  part_so : (slot : ℕ) (b : Behind) (reply : Reply) (t : State) → behind_done line slot b reply t ≡ from_there line (part line slot b reply t)
  part_so slot (parts.begun r outputs) reply t = behind (controlled line reply t) _ _ (λ u t. refl)
  part_so slot (replies outputs) reply t = ends_so (behind_done line slot (replies outputs) reply t)
  part_so slot controls reply t = ends_so (behind_done line slot controls reply t)
  part_so slot (commits on) reply t = ends_so (behind_done line slot (commits on) reply t)
  part_so slot (prepares name text) reply t = ends_so (behind_done line slot (prepares name text) reply t)
  part_so slot (deallocates name) reply t = ends_so (behind_done line slot (deallocates name) reply t)
  part_so slot (closes name []) reply t = refl
  part_so slot (closes name (c ∷ cs)) reply t = closed_first c cs (removed name t)

  -- with the next answer
  pub resumed_so : (u : Asking) (a : Answer) (more : List Answer) (s : State) → residual line u (record s { answers = a ∷ more }) ≡ from_there line (resumed line u a (record s { answers = more }))
  resumed_so (asks slot r b) a more s =
      part_so slot b a.1 (record s {
        connections = changed_at slot (with_told (told_by a.1)) s.connections;
        conversation = s.conversation ++ exchange (Some slot) r a.1 ∷ [];
        answers = more;
      })
  resumed_so (connects name r) a more s =
      ends_so (opened_by line name a (record s {
        conversation = s.conversation ++ exchange a.0 r a.1 ∷ [];
        answers = more;
      }))

  -- one request, and then the rest
  pub stepped_so : (u : Asking) (s : State) → residual line u s ≡ from_there line (stepped line u s)
  stepped_so (asks slot r b) s =
      behind (asked slot r s) (λ reply t. behind_done line slot b reply t) (λ reply t. part line slot b reply t) (λ reply t. part_so slot b reply t)
  stepped_so (connects name r) s = ends_so (connecting line name r s.answers s)

  pub step_waits : (u : Asking) (s : State) → stepped line u (record s { answers = [] }) ≡ over (waiting (is_asked_over u) (asks_for u)) (record s { answers = [] })
  step_waits (asks slot r b) s = refl
  step_waits (connects name r) s = refl

  pub step_resumed : (u : Asking) (a : Answer) (more : List Answer) (s : State) → stepped line u (record s { answers = a ∷ more }) ≡ resumed line u a (record s { answers = more })
  step_resumed (asks slot r b) a more s = refl
  step_resumed (connects name r) a more s = refl

pub cut_so : (c : Cut ℕ) (s : State) → cut_done c s ≡ next (started c s) (going c.line)
cut_so c s = call_so c.line c.call s
