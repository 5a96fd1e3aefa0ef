-- Each part of a call says one exchange at most: none up to its first request, and behind each request that one.
use Rattle.std.proofs.Common.{◌∙◌, ℕ, List, [], ◌∷◌, ◌++◌, reverse, Option, Some, None, Bool, true, false, sym, append-nil, arith}
use Rattle.std.specs.Prelude.{codes}
use Rattle.ec_arguments.specs.Arguments.{TextArg, Member, Statement, Call, run, connect, disconnect, set_connection, set_autocommit, control, prepare, deallocate, allocate_descriptor, deallocate_descriptor, get_count, set_count, get_items, set_items, Cut}
use Rattle.ec_link.specs.declared.reply.Reply.{Reply}
use Rattle.ec_link.specs.declared.request.Request.{Request}
use Rattle.ec_link.specs.declared.request.Request.TheVariants as request
use Rattle.ec_transfer_defs.specs.declared.finding.Finding.TheVariants as found
use Rattle.ec_meaning_defs.specs.evaluation.State.{Answer, Connection, State}
use Rattle.ec_call_defs.specs.Autocommit.{commits_first, with_autocommit}
use Rattle.ec_call_defs.specs.Connecting.{connecting, opened_by, own_name}
use Rattle.ec_call_defs.specs.Connections.{same_name, connection_named, changed_at, with_told, told_by, exchange, answered, controlled, begins, begin_text}
use Rattle.ec_call_defs.specs.Disconnecting.{removed, without_connection, current_without}
use Rattle.ec_call_defs.specs.Growth.{state_of}
use Rattle.ec_call_defs.specs.Marks.{with_marks}
use Rattle.ec_call_defs.specs.Outcomes.{Text, Outcome, gives, finished, over, next}
use Rattle.ec_call_defs.specs.Preparing.{with_text, without_text}
use Rattle.ec_call_defs.specs.Running.{Outputs, is_wanted, table_kept, prepared_text}
use Rattle.ec_stopping_defs.specs.Resuming as parts
use Rattle.ec_stopping_defs.specs.Resuming.{Behind, replies, controls, commits, prepares, deallocates, closes, Asking, asks, connects, behind_done, ending, part, resumed, stepped, statement_asks, run_started, unless_used, connect_started, closing, one_closing, disconnecting, switching, call_started, started}
use Rattle.ec_stopping_defs.specs.Saying.{OnlySays, exchange_of, requests_left, IsNearer}
use Rattle.ec_stopping_defs.proofs.Silent.{Silent, IsSilent, gives_silent, next_silent, bool_silent, read_silent, session_silent, connections_silent, raised_silent, begun_area_silent, text_silent, given_silent, inputs_silent, connection_silent, controlled_silent, taken_silent, replied_silent, outputs_silent, table_silent, statement_silent, found_text_silent, request_silent, params_silent, outputs_found_silent, opened_silent, set_connection_silent, prepared_anew_silent}
use Rattle.ec_stopping_defs.proofs.Described.{allocate_silent, free_silent, get_count_silent, set_count_silent, get_items_silent, set_items_silent}

-- ---- up to the first request

ends_silent : {m : State → Outcome (Unit {0})} → IsSilent m → IsSilent (λ s. ending (m s))
ends_silent h = next_silent h (λ u. gives_silent None)

asks_silent : (slot : ℕ) (r : Request) (b : Behind) → IsSilent (λ s. gives (Some (asks slot r b)) s)
asks_silent slot r b = gives_silent (Some (asks slot r b))

module _ (line : ℕ) where
  statement_asks_silent : (b : Bool) (slot : ℕ) (made : Request) (outputs : Outputs) → IsSilent (λ s. statement_asks b slot made outputs s)
  statement_asks_silent true slot made outputs = asks_silent slot (request.Text begin_text []) (parts.begun made outputs)
  statement_asks_silent false slot made outputs = asks_silent slot made (replies outputs)

  run_silent : (connection : TextArg ℕ) (x : Statement ℕ) (ins outs : List (Member ℕ)) → IsSilent (λ s. run_started line connection x ins outs s)
  run_silent connection x ins outs =
      next_silent (text_silent connection) (λ name.
      next_silent (statement_silent x) (λ wanted.
      next_silent (inputs_silent ins) (λ inputs.
      next_silent (outputs_silent outs) (λ outputs.
      next_silent begun_area_silent (λ _.
      next_silent (connection_silent line name) (λ c.
      next_silent (request_silent line wanted c) (λ made.
      next_silent (params_silent line inputs) (λ params.
      next_silent (outputs_found_silent line outputs) (λ _.
      statement_asks_silent (begins c) c.slot (made params) outputs)))))))))

  unless_silent : (name : Text) (r : Request) (c : Option Connection) → IsSilent (λ s. unless_used line name r c s)
  unless_silent name r (Some c) = raised_silent line found.NotConnected
  unless_silent name r None = gives_silent (Some (connects name r))

  connect_silent : (target user password name : TextArg ℕ) → IsSilent (λ s. connect_started line target user password name s)
  connect_silent target user password name =
      next_silent (given_silent target) (λ server.
      next_silent (text_silent user) (λ by.
      next_silent (text_silent password) (λ word.
      next_silent (text_silent name) (λ called.
      next_silent begun_area_silent (λ _.
      read_silent (λ s. connection_named (own_name server called) s.connections) (λ c s. unless_used line (own_name server called) (request.Connect server by word) c s)
      (λ c. unless_silent (own_name server called) (request.Connect server by word) c))))))

  closing_silent : (cs : List Connection) → IsSilent (λ s. closing cs s)
  closing_silent [] = gives_silent None
  closing_silent (c ∷ cs) = asks_silent c.slot request.Close (closes c.name cs)

  one_closing_silent : (name : Option Text) → IsSilent (λ s. one_closing line name s)
  one_closing_silent name = next_silent (connection_silent line name) (λ c. asks_silent c.slot request.Close (closes c.name []))

  disconnecting_silent : (name : Text) → IsSilent (λ s. disconnecting line name s)
  disconnecting_silent name =
      bool_silent (same_name name (codes "CURRENT")) (one_closing_silent None)
      (bool_silent (same_name name (codes "ALL"))
      (read_silent (λ s. reverse s.connections) (λ cs s. closing cs s) (λ cs. closing_silent cs))
      (one_closing_silent (Some name)))

  switching_silent : (first on : Bool) (slot : ℕ) → IsSilent (λ s. switching first on slot s)
  switching_silent true on slot = asks_silent slot (request.Text (codes "commit") []) (commits on)
  switching_silent false on slot = connections_silent None (λ cs. changed_at slot (with_autocommit on) cs)

  call_silent : (x : Call ℕ) → IsSilent (λ s. call_started line x s)
  call_silent (run connection x ins outs) = run_silent connection x ins outs
  call_silent (connect target user password name) = connect_silent target user password name
  call_silent (disconnect name) = next_silent (given_silent name) (λ called. next_silent begun_area_silent (λ _. disconnecting_silent called))
  call_silent (set_connection name) = ends_silent (set_connection_silent line name)
  call_silent (set_autocommit on connection) =
      next_silent (text_silent connection) (λ name.
      next_silent begun_area_silent (λ _.
      next_silent (connection_silent line name) (λ c. switching_silent (commits_first on c) on c.slot)))
  call_silent (control connection bytes) =
      next_silent (text_silent connection) (λ name.
      next_silent begun_area_silent (λ _.
      next_silent (connection_silent line name) (λ c. asks_silent c.slot (request.Text bytes []) controls)))
  call_silent (prepare connection name source) =
      next_silent (text_silent connection) (λ called.
      next_silent (given_silent source) (λ bytes.
      next_silent begun_area_silent (λ _.
      next_silent (connection_silent line called) (λ c.
      asks_silent c.slot (request.Prepare name (with_marks bytes)) (prepares name (with_marks bytes))))))
  call_silent (deallocate connection name) =
      next_silent (text_silent connection) (λ called.
      next_silent begun_area_silent (λ _.
      next_silent (connection_silent line called) (λ c.
      next_silent (found_text_silent line (prepared_text name c.prepared) (λ bytes. bytes)) (λ _.
      asks_silent c.slot (request.Deallocate name) (deallocates name)))))
  call_silent (allocate_descriptor name) = ends_silent (allocate_silent line name)
  call_silent (deallocate_descriptor name) = ends_silent (free_silent line name)
  call_silent (get_count name target) = ends_silent (get_count_silent line name target)
  call_silent (set_count name source) = ends_silent (set_count_silent line name source)
  call_silent (get_items name index items) = ends_silent (get_items_silent line name index items)
  call_silent (set_items name index items) = ends_silent (set_items_silent line name index items)

  -- ---- behind a reply

  removed_silent : (name : Text) (a : Option Asking) → IsSilent (λ s. gives a (removed name s))
  removed_silent name a = session_silent a (λ cs. without_connection name cs) (λ cs current. current_without name current (without_connection name cs)) (λ ds. ds)

  pub part_silent : (slot : ℕ) (b : Behind) (reply : Reply) → IsSilent (λ s. part line slot b reply s)
  part_silent slot (parts.begun r outputs) reply = next_silent (controlled_silent line reply) (λ _. asks_silent slot r (replies outputs))
  part_silent slot (replies outputs) reply = ends_silent (replied_silent line (is_wanted outputs) (table_kept line outputs) (λ table. table_silent line outputs table) reply)
  part_silent slot controls reply = ends_silent (controlled_silent line reply)
  part_silent slot (commits on) reply = ends_silent (next_silent (controlled_silent line reply) (λ _. connections_silent tt (λ cs. changed_at slot (with_autocommit on) cs)))
  part_silent slot (prepares name text) reply = ends_silent (next_silent (taken_silent line reply) (λ _. prepared_anew_silent slot (with_text name text)))
  part_silent slot (deallocates name) reply = ends_silent (next_silent (taken_silent line reply) (λ _. prepared_anew_silent slot (without_text name)))
  part_silent slot (closes name []) reply = removed_silent name None
  part_silent slot (closes name (c ∷ cs)) reply = removed_silent name (Some (asks c.slot request.Close (closes c.name cs)))

  -- ---- what a part says

  pub resumed_says : (u : Asking) (a : Answer) (s : State) → OnlySays (exchange_of u a ∷ []) s (state_of (resumed line u a s))
  resumed_says (asks slot r b) a s =
      let t : State = record s {
        connections = changed_at slot (with_told (told_by a.1)) s.connections;
        conversation = s.conversation ++ exchange (Some slot) r a.1 ∷ [];
      } in
      let h : Silent t (state_of (part line slot b a.1 t)) = (part_silent slot b a.1).silent t in
      record { output = h.output; errors = h.errors; conversation = h.conversation; answers = h.answers; turns = h.turns }
  resumed_says (connects name r) a s =
      let t : State = record s { conversation = s.conversation ++ exchange a.0 r a.1 ∷ [] } in
      let h : Silent t (state_of (ending (opened_by line name a t))) = (ends_silent (opened_silent line name a)).silent t in
      record { output = h.output; errors = h.errors; conversation = h.conversation; answers = h.answers; turns = h.turns }

  -- ---- it gets nearer its end

  ends_nearer : (n : ℕ) (o : Outcome (Unit {0})) → IsNearer n (ending o)
  ends_nearer n (gives u s) = tt
  ends_nearer n (finished s) = tt
  ends_nearer n (over halt s) = tt

  begun_nearer : (slot : ℕ) (r : Request) (outputs : Outputs) (o : Outcome (Unit {0})) → IsNearer 2 (next o (λ _ t. gives (Some (asks slot r (replies outputs))) t))
  begun_nearer slot r outputs (gives u s) = omega arith
  begun_nearer slot r outputs (finished s) = tt
  begun_nearer slot r outputs (over halt s) = tt

  part_nearer : (slot : ℕ) (r : Request) (b : Behind) (reply : Reply) (s : State) → IsNearer (requests_left (asks slot r b)) (part line slot b reply s)
  part_nearer slot r (parts.begun q outputs) reply s = begun_nearer slot q outputs (controlled line reply s)
  part_nearer slot r (replies outputs) reply s = ends_nearer 1 (behind_done line slot (replies outputs) reply s)
  part_nearer slot r controls reply s = ends_nearer 1 (behind_done line slot controls reply s)
  part_nearer slot r (commits on) reply s = ends_nearer 1 (behind_done line slot (commits on) reply s)
  part_nearer slot r (prepares name text) reply s = ends_nearer 1 (behind_done line slot (prepares name text) reply s)
  part_nearer slot r (deallocates name) reply s = ends_nearer 1 (behind_done line slot (deallocates name) reply s)
  part_nearer slot r (closes name []) reply s = tt
  part_nearer slot r (closes name (c ∷ cs)) reply s = omega arith

  over_nearer : (slot : ℕ) (r : Request) (b : Behind) (s : State) (xs : List Answer) → IsNearer (requests_left (asks slot r b)) (next (answered slot r xs s) (λ reply t. part line slot b reply t))
  over_nearer slot r b s [] = tt
  over_nearer slot r b s (a ∷ more) =
      part_nearer slot r b a.1 (record s {
        connections = changed_at slot (with_told (told_by a.1)) s.connections;
        conversation = s.conversation ++ exchange (Some slot) r a.1 ∷ [];
        answers = more;
      })

  pub stepped_nearer : (u : Asking) (s : State) → IsNearer (requests_left u) (stepped line u s)
  stepped_nearer (asks slot r b) s = over_nearer slot r b s s.answers
  stepped_nearer (connects name r) s = ends_nearer 1 (connecting line name r s.answers s)

pub started_says : (c : Cut ℕ) (s : State) → OnlySays [] s (state_of (started c s))
started_says c s =
    let h : Silent s (state_of (started c s)) = (call_silent c.line c.call).silent s in
    record {
      output = h.output;
      errors = h.errors;
      conversation = h.conversation ∙ sym (append-nil s.conversation);
      answers = h.answers;
      turns = h.turns;
    }
