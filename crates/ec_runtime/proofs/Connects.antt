-- CONNECT and SET CONNECTION.
use Rattle.std.proofs.Common.{◌≡◌, ◌≢◌, ◌+◌, ℕ, Bool, true, false, List, [], ◌∷◌, ◌++◌, Option, Some, None, Result, Ok, Err, refl, sym, ap, subst, ◌∙◌, inl, inr, ◌⊎◌}
use Rattle.std.specs.Cmp.Lexicographic.{nat_list_eq_equiv}
use Rattle.std.specs.Prelude.{option_map}
use Rattle.std.proofs.lemmas.List.{map-append}
use Rattle.std.specs.declared.alloc.Global.{Global}
use Rattle.std.specs.declared.dyn_box.DynBox.{DynBox}
use Rattle.ec_arguments.specs.Arguments.{TextArg as TextData}
use Rattle.ec_link.specs.declared.connection.Conn.{Conn}
use Rattle.ec_link.specs.declared.rack.Rack.{Rack}
use Rattle.ec_link.specs.declared.reply.Reply.{Reply}
use Rattle.ec_link.specs.declared.reply.Reply.TheVariants.{Connected, NoTarget, Rows, Done, Refused, Broken}
use Rattle.ec_link.specs.declared.reply.Tx.TheVariants.{Idle}
use Rattle.ec_link.specs.declared.request.Request.{Request}
use Rattle.ec_link.specs.declared.request.Request.TheVariants as request
use Rattle.ec_link.specs.Calls.{Connects, OpensNone, Unsaid}
use Rattle.ec_link.specs.Conn.{slot_of}
use Rattle.ec_link.specs.Logged.{Talk, IsConnect}
use Rattle.ec_link.specs.Rack.{slots_of}
use Rattle.ec_link.specs.Slot.{states}
use Rattle.ec_memory_defs.specs.Memory.{Memory}
use Rattle.ec_transfer_defs.specs.declared.finding.Finding.TheVariants as found
use Rattle.ec_transfer_defs.specs.Codes.{code_of, state_of, text_of_finding}
use Rattle.ec_meaning_defs.specs.evaluation.State.{Answer, Connection, State}
use Rattle.ec_call_defs.specs.Areas.{Areas}
use Rattle.ec_call_defs.specs.Connecting.{connecting, opened_by, own_name, set_connection_call}
use Rattle.ec_call_defs.specs.Connections.{connection_named, exchange, found_connection, same_name}
use Rattle.ec_meaning_defs.specs.observed.Run.{IsFront}
use Rattle.ec_call_defs.specs.Growth.{Grows, state_of as reached_state}
use Rattle.ec_call_defs.specs.Inputs.{given_read, text_read}
use Rattle.ec_call_defs.specs.Outcomes.{Text, Outcome, gives, finished, next, with_memory, fresh_area, told_area}
use Rattle.ec_runtime.specs.declared.call.Connect.{Connect}
use Rattle.ec_runtime.specs.declared.call.Kind.TheVariants as kinds
use Rattle.ec_runtime.specs.declared.inputs.GivenText.{GivenText}
use Rattle.ec_runtime.specs.declared.sessions.Sessions.{Sessions}
use Rattle.ec_runtime.specs.declared.open.Open.{Open}
use Rattle.ec_runtime.specs.declared.stop.Stop.{Stop}
use Rattle.ec_runtime.specs.declared.stop.Stop.TheVariants as stops
use Rattle.ec_runtime.specs.Calling.{AllNamed, Holds, NoneNamed, connections_of}
use Rattle.ec_runtime.specs.Closing.{at_place}
use Rattle.ec_runtime.specs.Does.{Seen, placed, saying, Does}
use Rattle.ec_runtime.specs.Opening.{open_view}
use Rattle.ec_runtime.specs.Racks.{AllTaken, Moves}
use Rattle.ec_runtime.specs.Reading.{given_view, text_view}
use Rattle.ec_runtime.specs.Says.{Says, Quiet}
use Rattle.ec_runtime.specs.Seeking.{place_named}
use Rattle.ec_runtime.specs.Starts.{connected_first, standing, Leads}
use Rattle.ec_runtime.specs.Statements.{connect_read, current_set, kind_view, reached}
use Rattle.ec_stopping_defs.specs.Resuming.{Asking, call_started, connects, unless_used}
use Rattle.ec_runtime.proofs.Connections.{moves_connected, moves_unopened, moves_unsaid, taken_connected}
use Rattle.ec_runtime.proofs.Grows.{same_front}
use Rattle.ec_runtime.proofs.Joining.{quiet, same_action, and_next, and_stop, no_memory}
use Rattle.ec_runtime.proofs.Making.{Made, links, made_still, views}
use Rattle.ec_runtime.proofs.Seeking.{named_at}
use Rattle.ec_runtime.proofs.Starting.{given_grows, next_next, only, reached_nowhere, reached_there}
use Rattle.ec_runtime.proofs.Targets.{stopped_next}

-- ---- parts that ask nothing, one after the other

pub quiet_then : {A B : Type 0} (first : State → Outcome A) (go : A → State → Outcome B) (m : Memory) (a : A) (r : Result B Stop) → Quiet (Ok a) first m m → Quiet r (go a) m m → Quiet r (λ s. next (first s) go) m m
quiet_then first go m a r p q = λ s. subst (λ o. Says r (next o go) (with_memory m s)) (sym (p s)) (q s)

pub quiet_stop : {A B : Type 0} (first : State → Outcome A) (go : A → State → Outcome B) (m : Memory) (stop : Stop) → Quiet {A = A} (Err stop) first m m → Quiet {A = B} (Err stop) (λ s. next (first s) go) m m
quiet_stop first go m stop q = λ s. stopped_next stop (first (with_memory m s)) (with_memory m s) go (q s)

-- ---- what CONNECT is given

module _ (it : Connect) (m : Memory) where
  abbrev at_name : Text → Option Text → Option Text → State → Outcome (Text × Request)
  at_name server by word s = next (text_read (text_view it.name) s) (λ called w. gives (own_name server called, request.Connect server by word) w)

  abbrev at_password : Text → Option Text → State → Outcome (Text × Request)
  at_password server by s = next (text_read (text_view it.password) s) (λ word t. at_name server by word t)

  abbrev at_user : Text → State → Outcome (Text × Request)
  at_user server s = next (text_read (text_view it.user) s) (λ by t. at_password server by t)

  abbrev Target : Result Text Stop → Type 0
  Target r = Quiet r (given_read (given_view it.target)) m m

  abbrev Maybe : Result (Option Text) Stop → (TextData ℕ) → Type 0
  Maybe r text = Quiet r (text_read text) m m

  pub no_target : (stop : Stop) → Target (Err stop) → Quiet {A = Text × Request} (Err stop) (connect_read it) m m
  no_target stop q = quiet_stop (given_read (given_view it.target)) at_user m stop q

  module _ (server : Text) (first : Target (Ok server)) where
    at_server : (r : Result (Text × Request) Stop) → Quiet r (at_user server) m m → Quiet r (connect_read it) m m
    at_server r q = quiet_then (given_read (given_view it.target)) at_user m server r first q

    pub no_user : (stop : Stop) → Maybe (Err stop) (text_view it.user) → Quiet {A = Text × Request} (Err stop) (connect_read it) m m
    no_user stop q = at_server (Err stop) (quiet_stop (text_read (text_view it.user)) (at_password server) m stop q)

    module _ (by : Option Text) (second : Maybe (Ok by) (text_view it.user)) where
      at_by : (r : Result (Text × Request) Stop) → Quiet r (at_password server by) m m → Quiet r (connect_read it) m m
      at_by r q = at_server r (quiet_then (text_read (text_view it.user)) (at_password server) m by r second q)

      pub no_password : (stop : Stop) → Maybe (Err stop) (text_view it.password) → Quiet {A = Text × Request} (Err stop) (connect_read it) m m
      no_password stop q = at_by (Err stop) (quiet_stop (text_read (text_view it.password)) (at_name server by) m stop q)

      module _ (word : Option Text) (third : Maybe (Ok word) (text_view it.password)) where
        at_word : (r : Result (Text × Request) Stop) → Quiet r (at_name server by word) m m → Quiet r (connect_read it) m m
        at_word r q = at_by r (quiet_then (text_read (text_view it.password)) (at_name server by) m word r third q)

        pub no_name : (stop : Stop) → Maybe (Err stop) (text_view it.name) → Quiet {A = Text × Request} (Err stop) (connect_read it) m m
        no_name stop q = at_word (Err stop) (quiet_stop (text_read (text_view it.name)) (λ called w. gives (own_name server called, request.Connect server by word) w) m stop q)

        pub all_read : (called : Option Text) (own : Text) → own ≡ own_name server called → Maybe (Ok called) (text_view it.name) → Quiet (Ok (own, request.Connect server by word)) (connect_read it) m m
        all_read called own e q =
            at_word (Ok (own, request.Connect server by word)) (quiet_then (text_read (text_view it.name)) (λ x w. gives (own_name server x, request.Connect server by word) w) m called (Ok (own, request.Connect server by word)) q
            (λ s j. gives (sym e j, request.Connect server by word) (with_memory m s)))

-- the call is what follows what it is given
connect_is : (line : ℕ) (it : Connect) (s : State) → call_started line (kind_view (kinds.Connect it)) s ≡ next (connect_read it s) (λ read t. connected_first line read t)
connect_is line it s = sym (
    next_next (given_read (given_view it.target) s) (λ server t. at_user it [] server t) (λ read t. connected_first line read t)
    ∙ (λ j. next (given_read (given_view it.target) s) (λ server t. next_next (text_read (text_view it.user) t) (λ by u. at_password it [] server by u) (λ read u. connected_first line read u) j))
    ∙ (λ j. next (given_read (given_view it.target) s) (λ server t. next (text_read (text_view it.user) t) (λ by u.
    next_next (text_read (text_view it.password) u) (λ word v. at_name it [] server by word v) (λ read v. connected_first line read v) j)))
    ∙ (λ j. next (given_read (given_view it.target) s) (λ server t. next (text_read (text_view it.user) t) (λ by u. next (text_read (text_view it.password) u) (λ word v.
    next_next (text_read (text_view it.name) v) (λ called w. gives (own_name server called, request.Connect server by word) w) (λ read w. connected_first line read w) j)))))

-- ---- a request to connect

abbrev pub asking : ℕ → Text → Request → State → Outcome (Unit {0})
asking line name asks s = connecting line name asks s.answers s

opened_says : (line : ℕ) (name : Text) (answer : Answer) (s : State) → (reached_state (opened_by line name answer s)).conversation ≡ s.conversation
opened_says line name (None, reply) s = refl
opened_says line name (Some slot, Connected) s = refl
opened_says line name (Some slot, NoTarget) s = refl
opened_says line name (Some slot, Rows _ _ _) s = refl
opened_says line name (Some slot, Done _ _ _) s = refl
opened_says line name (Some slot, Refused _ _ _) s = refl
opened_says line name (Some slot, Broken) s = refl

asking_grows : (line : ℕ) (name : Text) (asks : Request) → Grows (asking line name asks)
asking_grows line name asks s = go s.answers
  where
    go : (answers : List Answer) → IsFront s.conversation (reached_state (connecting line name asks answers s)).conversation
    go [] = same_front s.conversation
    go (answer ∷ more) = record {
      rest = exchange answer.0 asks answer.1 ∷ [];
      same = opened_says line name answer (record s { conversation = s.conversation ++ exchange answer.0 asks answer.1 ∷ []; answers = more });
    }

module _ (line : ℕ) (name : Text) (asks : Request) (m : Memory) (cs : List Connection) (current : Option Text) where
  -- a slot, and the answer that the connection is open
  does_open : (slot : ℕ) → Does (asking line name asks) (only m cs current)
      (only m (cs ++ record { name = name; slot = slot; autocommit = false; told = Idle; prepared = [] } ∷ []) (Some name)) (exchange (Some slot) asks Connected ∷ []) (Ok tt)
  does_open slot = record { says = λ s rest. refl; left = tt }

  abbrev refused_area : Memory
  refused_area = told_area (code_of found.NotConnected) (state_of found.NotConnected) (text_of_finding found.NotConnected) line m

  -- any other answer
  does_refuse : (slot : Option ℕ) (reply : Reply) → (slot ≡ None) ⊎ (reply ≢ Connected) → Does {A = Unit {0}} (asking line name asks) (only m cs current) (only refused_area cs current) (exchange slot asks reply ∷ []) (Err stops.Finished)
  does_refuse slot reply n = record { says = λ s rest. go slot reply n s rest; left = tt }
    where
      go : (slot : Option ℕ) (reply : Reply) → (slot ≡ None) ⊎ (reply ≢ Connected) → (s : State) (rest : List Answer)
          → asking line name asks (placed (only m cs current) ((slot, reply) ∷ rest) s) ≡ finished (placed (only refused_area cs current) rest (saying (exchange slot asks reply ∷ []) s))
      go None reply n s rest = refl
      go (Some slot) Connected (inl e) s rest = absurd (cc (e))
      go (Some slot) Connected (inr n) s rest = absurd (n refl)
      go (Some slot) NoTarget n s rest = refl
      go (Some slot) (Rows _ _ _) n s rest = refl
      go (Some slot) (Done _ _ _) n s rest = refl
      go (Some slot) (Refused _ _ _) n s rest = refl
      go (Some slot) Broken n s rest = refl

module _ {X : Type 0} {F : X → Type 0} (talk : DynBox X Global F → Option Talk) (faults : DynBox X Global F → ℕ) (line : ℕ) (name : Text) (asks : Request) (m : Memory) (old : Rack X F) (os : List (Open X F)) (current : Option Text) where
  -- no memory before the request
  pub open_unasked : Made talk faults (asking line name asks) m old os current m old os current (Err stops.OutOfMemory)
  open_unasked = made_still talk faults (asking line name asks) m m old os current current (Err stops.OutOfMemory) (no_memory (asking line name asks) (only m (views os) current) (only m (views os) current) (asking_grows line name asks))

  module _ (c : IsConnect asks) (held : AllTaken (states (slots_of old)) (links os)) (new : Rack X F) where
    -- or for it
    pub open_unsaid : Unsaid talk faults asks old new → Made talk faults (asking line name asks) m old os current m new os current (Err stops.OutOfMemory)
    open_unsaid u = record {
      growth = [];
      moves = moves_unsaid talk faults asks c old new (links os) held u;
      does = no_memory (asking line name asks) (only m (views os) current) (only m (views os) current) (asking_grows line name asks);
    }

    -- the connection isn't open
    pub open_refused : (m' : Memory) (stop : Stop) → OpensNone talk faults asks old new → m' ≡ refused_area line name asks m (views os) current → stop ≡ stops.Finished → Made talk faults (asking line name asks) m old os current m' new os current (Err stop)
    open_refused m' stop h told is =
        let p = moves_unopened talk faults asks c old new (links os) held h in
        subst (λ x. Made talk faults (asking line name asks) m old os current m' new os current (Err x)) (sym is)
        (subst (λ a. Made talk faults (asking line name asks) m old os current a new os current (Err stops.Finished)) (sym told) (record {
          growth = exchange p.slot asks p.reply ∷ [];
          moves = p.moves;
          does = does_refuse line name asks m (views os) current p.slot p.reply p.apart;
        }))

    -- it is
    module _ (conn : Conn X F) (h : Connects talk faults asks old new conn) (o : Open X F) (is : open_view o ≡ record { name = name; slot = slot_of conn; autocommit = false; told = Idle; prepared = [] }) (own : o.conn ≡ conn) where
      links_more : links (os ++ o ∷ []) ≡ links os ++ conn ∷ []
      links_more = map-append (λ (p : Open X F). p.conn) os (o ∷ []) ∙ ap (λ x. links os ++ x ∷ []) own

      pub open_made : Made talk faults (asking line name asks) m old os current m new (os ++ o ∷ []) (Some name) (Ok tt)
      open_made = record {
        growth = exchange (Some (slot_of conn)) asks Connected ∷ [];
        moves = subst (λ cs. Moves talk faults old (links os) new cs (exchange (Some (slot_of conn)) asks Connected ∷ [])) (sym links_more) (moves_connected talk faults asks c old new (links os) held conn h);
        does = subst (λ cs. Does (asking line name asks) (only m (views os) current) (only m cs (Some name)) (exchange (Some (slot_of conn)) asks Connected ∷ []) (Ok tt))
            (sym (map-append open_view os (o ∷ []) ∙ ap (λ x. views os ++ x ∷ []) is)) (does_open line name asks m (views os) current (slot_of conn));
      }

      pub open_taken : AllTaken (states (slots_of new)) (links (os ++ o ∷ []))
      open_taken = subst (λ cs. AllTaken (states (slots_of new)) cs) (sym links_more) (taken_connected talk faults asks c old new (links os) held conn h)

-- ---- names

pub used : (name : Text) (cs : List Connection) (at : ℕ) → place_named name cs ≡ Some at → connection_named name cs ≡ at_place cs (Some at)
used name cs at e = named_at name cs ∙ ap (at_place cs) e

pub unused : (name : Text) (cs : List Connection) → place_named name cs ≡ None → connection_named name cs ≡ None
unused name cs e = named_at name cs ∙ ap (at_place cs) e

-- a name that is in use is that of a connection
pub is_used : (name : Text) (cs : List Connection) (at : ℕ) → place_named name cs ≡ Some at → (c : Connection) × (connection_named name cs ≡ Some c)
is_used name [] at e = absurd (cc (e))
is_used name (c ∷ cs) at e = go (same_name c.name name) e (λ n q. is_used name cs n q)
  where
    behind : (o : Option ℕ) → place_named name cs ≡ o → ◌≡◌ {A = Option ℕ} (option_map (λ at. at + 1) o) (Some at) → ((n : ℕ) → place_named name cs ≡ Some n → (d : Connection) × (connection_named name cs ≡ Some d)) → (d : Connection) × (connection_named name cs ≡ Some d)
    behind None q e more = absurd (cc (e))
    behind (Some n) q e more = more n q

    go : (b : Bool) → ◌≡◌ {A = Option ℕ} (elim b [ true ↦ Some 0 | false ↦ option_map (λ at. at + 1) (place_named name cs) ]) (Some at) → ((n : ℕ) → place_named name cs ≡ Some n → (d : Connection) × (connection_named name cs ≡ Some d))
        → (d : Connection) × ◌≡◌ {A = Option Connection} (elim b [ true ↦ Some c | false ↦ connection_named name cs ]) (Some d)
    go true e more = (c, refl)
    go false e more = behind (place_named name cs) refl e more

-- a name that isn't in use is that of no connection
none_has : (name : Text) (cs : List Connection) → connection_named name cs ≡ None → NoneNamed name cs
none_has name [] e = tt
none_has name (c ∷ cs) e = go (same_name c.name name) refl e (λ q. none_has name cs q)
  where
    go : (b : Bool) → same_name c.name name ≡ b → ◌≡◌ {A = Option Connection} (elim b [ true ↦ Some c | false ↦ connection_named name cs ]) None → (connection_named name cs ≡ None → NoneNamed name cs) → (same_name c.name name ≡ false) × NoneNamed name cs
    go true t e more = absurd (cc (e))
    go false t e more = (t, more e)

other_way : (a b : Text) → same_name a b ≡ false → same_name b a ≡ false
other_way a b e = nat_list_eq_equiv.symm b a ∙ e

none_both : (name : Text) (cs ds : List Connection) → NoneNamed name cs → NoneNamed name ds → NoneNamed name (cs ++ ds)
none_both name [] ds h k = k
none_both name (c ∷ cs) ds h k = (h.0, none_both name cs ds h.1 k)

named_more : (cs : List Connection) (d : Connection) → AllNamed cs → NoneNamed d.name cs → AllNamed (cs ++ d ∷ [])
named_more [] d h n = (tt, tt)
named_more (c ∷ cs) d h n = (none_both c.name cs (d ∷ []) h.0 (other_way c.name d.name n.0, tt), named_more cs d h.1 n.1)

-- one more connection, of a name that isn't in use
pub all_named_more : {X : Type 0} {F : X → Type 0} (os : List (Open X F)) (o : Open X F) → AllNamed (views os) → connection_named o.name (views os) ≡ None → AllNamed (views (os ++ o ∷ []))
all_named_more os o h e = subst AllNamed (sym (map-append open_view os (o ∷ []))) (named_more (views os) (open_view o) h (none_has o.name (views os) e))

-- ---- a connection of a name

module _ (line : ℕ) (it : Text × Request) (m m1 : Memory) (cs : List Connection) (current : Option Text) (a : Areas) (area : m1 ≡ fresh_area m) where
  -- the name is in use
  pub connect_used : (m' : Memory) (stop : Stop) (c : Connection) → connection_named it.0 cs ≡ Some c → m' ≡ told_area (code_of found.NotConnected) (state_of found.NotConnected) (text_of_finding found.NotConnected) line m1 → stop ≡ stops.Finished
      → Leads {A = Option Asking} (Err stop) (connected_first line it) (only m cs current) a (only m' cs current) a
  connect_used m' stop c e told is =
      subst (λ x. Leads {A = Option Asking} (Err x) (connected_first line it) (only m cs current) a (only m' cs current) a) (sym is) (λ s.
      (λ j. unless_used line it.0 it.1 (e j) (standing (only (fresh_area m) cs current) a s))
      ∙ (λ j. finished (standing (only (sym (told ∙ ap (told_area (code_of found.NotConnected) (state_of found.NotConnected) (text_of_finding found.NotConnected) line) area) j) cs current) a s)))

  -- it isn't
  pub connect_unused : connection_named it.0 cs ≡ None → Leads (Ok (Some (connects it.0 it.1))) (connected_first line it) (only m cs current) a (only m1 cs current) a
  connect_unused e = λ s.
      (λ j. unless_used line it.0 it.1 (e j) (standing (only (fresh_area m) cs current) a s))
      ∙ (λ j. gives (Some (connects it.0 it.1)) (standing (only (sym area j) cs current) a s))

-- ---- CONNECT

module _ (line : ℕ) (it : Connect) (m : Memory) (cs : List Connection) (current : Option Text) (a : Areas) where
  pub connect_unread : (stop : Stop) → Quiet {A = Text × Request} (Err stop) (connect_read it) m m → Leads {A = Option Asking} (Err stop) (λ s. call_started line (kind_view (kinds.Connect it)) s) (only m cs current) a (only m cs current) a
  connect_unread stop q = λ s.
      subst (λ o. Says {A = Option Asking} (Err stop) o (standing (only m cs current) a s)) (sym (connect_is line it (standing (only m cs current) a s)))
      (stopped_next stop (connect_read it (standing (only m cs current) a s)) (standing (only m cs current) a s) (λ read t. connected_first line read t) (q (standing (only m cs current) a s)))

  pub connect_given : (read : Text × Request) (y : Seen) (r : Result (Option Asking) Stop) → Quiet (Ok read) (connect_read it) m m → Leads r (connected_first line read) (only m cs current) a y a
      → Leads r (λ s. call_started line (kind_view (kinds.Connect it)) s) (only m cs current) a y a
  connect_given read y r q p = λ s.
      subst (λ o. Says r o (standing y a s)) (sym (connect_is line it (standing (only m cs current) a s) ∙ (λ j. next (q (standing (only m cs current) a s) j) (λ x t. connected_first line x t)))) (p s)

-- ---- SET CONNECTION

setting_grows : (line : ℕ) (name : Text) → Grows (current_set line name)
setting_grows line name s = go (connection_named name s.connections)
  where
    go : (o : Option Connection) → IsFront s.conversation (reached_state (next (found_connection line o (with_memory (fresh_area s.memory) s)) (λ _ t. gives (tt {0}) (record t { current = Some name })))).conversation
    go None = same_front s.conversation
    go (Some c) = same_front s.conversation

module _ (line : ℕ) (name : Text) (m m1 : Memory) (cs : List Connection) (current : Option Text) (area : m1 ≡ fresh_area m) where
  abbrev with_name : Connection → State → Outcome (Unit {0})
  with_name c t = gives tt (record t { current = Some name })

  pub set_nowhere : (m' : Memory) (stop : Stop) → connection_named name cs ≡ None → m' ≡ told_area (code_of found.NoConnection) (state_of found.NoConnection) (text_of_finding found.NoConnection) line m1 → stop ≡ stops.Finished
      → Does {A = Unit {0}} (current_set line name) (only m cs current) (only m' cs current) [] (Err stop)
  set_nowhere m' stop e told is =
      and_stop (reached line (Some name)) with_name (only m cs current) (only m' cs current) [] stop (λ c s. same_front s.conversation) (reached_nowhere line (Some name) m m1 cs current area m' stop e told is)

  pub set_there : (c : Connection) → connection_named name cs ≡ Some c → Does (current_set line name) (only m cs current) (only m1 cs (Some name)) [] (Ok tt)
  set_there c e =
      and_next (reached line (Some name)) with_name (only m cs current) (only m1 cs current) (only m1 cs (Some name)) c [] [] (Ok tt) (reached_there line (Some name) m m1 cs current area c e)
      (same_action (with_name c) (λ s. gives tt s) (only m1 cs current) (only m1 cs (Some name)) (only m1 cs (Some name)) [] (Ok tt) (λ s answers. refl)
      (quiet (λ s. gives tt s) (only m1 cs (Some name)) m1 (Ok tt) (λ s. same_front s.conversation) (λ s. refl)))

module _ (line : ℕ) (text : GivenText) (m : Memory) (cs : List Connection) (current : Option Text) where
  pub set_unread : (stop : Stop) → Quiet {A = Text} (Err stop) (given_read (given_view text)) m m → Does {A = Unit {0}} (set_connection_call line (given_view text)) (only m cs current) (only m cs current) [] (Err stop)
  set_unread stop q =
      and_stop (given_read (given_view text)) (λ name t. current_set line name t) (only m cs current) (only m cs current) [] stop (λ name. setting_grows line name)
      (quiet (given_read (given_view text)) (only m cs current) m (Err stop) (given_grows text) q)

  pub set_read : (name : Text) (y : Seen) (r : Result (Unit {0}) Stop) → Quiet (Ok name) (given_read (given_view text)) m m → Does (current_set line name) (only m cs current) y [] r → Does (set_connection_call line (given_view text)) (only m cs current) y [] r
  set_read name y r q p =
      and_next (given_read (given_view text)) (λ n t. current_set line n t) (only m cs current) (only m cs current) y name [] [] r
      (quiet (given_read (given_view text)) (only m cs current) m (Ok name) (given_grows text) q) p

-- one more connection is held
pub open_holds : {X : Type 0} {F : X → Type 0} (old new : Rack X F) (was now : Sessions X F) (o : Open X F) → Holds was old → connection_named o.name (connections_of was) ≡ None → AllTaken (states (slots_of new)) (links (was.sessions.items ++ o ∷ []))
    → now.sessions.items ≡ was.sessions.items ++ o ∷ [] → Holds now new
open_holds old new was now o holds e taken is = record {
  taken = subst (λ xs. AllTaken (states (slots_of new)) (links xs)) (sym is) taken;
  named = subst (λ xs. AllNamed (views xs)) (sym is) (all_named_more was.sessions.items o holds.named e);
}
