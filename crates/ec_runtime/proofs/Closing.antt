-- DISCONNECT.
use Rattle.std.proofs.Common.{◌≡◌, ◌≤◌, ℕ, Bool, true, false, List, [], ◌∷◌, ◌++◌, reverse, Option, Some, None, Result, Ok, Err, refl, sym, ap, subst, ◌∙◌, codes}
use Rattle.std.specs.Cmp.Lexicographic.{nat_list_eq_equiv}
use Rattle.std.specs.Prelude.{IfErr, OnOk, slice_get}
use Rattle.std.proofs.lemmas.List.{map-append}
use Rattle.std.specs.declared.alloc.Global.{Global}
use Rattle.std.specs.declared.dyn_box.DynBox.{DynBox}
use Rattle.ec_arguments.specs.Arguments.{TextArg as TextData, disconnect}
use Rattle.ec_call_defs.specs.Areas.{Areas}
use Rattle.ec_base.specs.declared.stop.Trap.{Trap}
use Rattle.ec_link.specs.declared.rack.Rack.{Rack}
use Rattle.ec_link.specs.declared.reply.Reply.{Reply}
use Rattle.ec_link.specs.declared.reply.Tx.{Tx}
use Rattle.ec_link.specs.declared.request.Request.TheVariants as request
use Rattle.ec_link.specs.Calls.{Closes}
use Rattle.ec_link.specs.Conn.{slot_of, link_of}
use Rattle.ec_link.specs.Logged.{Talk}
use Rattle.ec_link.specs.Rack.{slots_of, log_of}
use Rattle.ec_link.specs.Slot.{states}
use Rattle.ec_link.proofs.Runs.{Asks-nil}
use Rattle.ec_memory_defs.specs.Memory.{Memory}
use Rattle.ec_transfer_defs.specs.declared.finding.Finding.TheVariants as found
use Rattle.ec_transfer_defs.specs.Codes.{code_of, state_of, text_of_finding}
use Rattle.ec_meaning_defs.specs.evaluation.State.{Connection, State}
use Rattle.ec_call_defs.specs.Connections.{asked, exchange, found_connection, same_name, told_by, with_told}
use Rattle.ec_call_defs.specs.Disconnecting.{closed, current_without, removed, without_connection}
use Rattle.ec_call_defs.specs.Growth.{Grows}
use Rattle.ec_call_defs.specs.Inputs.{given_read}
use Rattle.ec_call_defs.specs.Outcomes.{Text, Outcome, trapped, gives, finished, over, next, with_memory, fresh_area, told_area}
use Rattle.ec_runtime.specs.declared.disconnecting.Which.{Which}
use Rattle.ec_runtime.specs.declared.disconnecting.Which.TheVariants.{All, One}
use Rattle.ec_runtime.specs.declared.open.Open.{Open}
use Rattle.ec_runtime.specs.declared.stop.Stop.{Stop}
use Rattle.ec_runtime.specs.declared.stop.Stop.TheVariants as stops
use Rattle.ec_runtime.specs.Calling.{AllNamed, NoneNamed}
use Rattle.ec_runtime.specs.Closing.{at_place, which_of}
use Rattle.ec_runtime.specs.Does.{Around, NoneAt, among, placed, Does}
use Rattle.ec_runtime.specs.Opening.{open_view}
use Rattle.ec_runtime.specs.Racks.{AllTaken, Moves}
use Rattle.ec_runtime.specs.Resuming.{closing_asks}
use Rattle.ec_runtime.specs.Says.{Says}
use Rattle.ec_runtime.specs.Seeking.{place_named, place_sought}
use Rattle.ec_runtime.specs.Starts.{standing, which_first, Leads}
use Rattle.ec_runtime.specs.Waiting.{closing_with}
use Rattle.ec_stopping_defs.specs.Resuming.{Asking, asks_with, call_started, closes, closing, disconnecting, one_closing}
use Rattle.ec_runtime.proofs.Connections.{apart_before, moves_closed, taken_closed, taken_here}
use Rattle.ec_runtime.proofs.Grows.{same_front, next_grows, asked_grows}
use Rattle.ec_runtime.proofs.Joining.{quiet, same_action, and_next, asked_does, no_memory, there}
use Rattle.ec_runtime.proofs.Making.{Made, links, links_among, links_moved, none_at, views, views_among}
use Rattle.ec_runtime.proofs.Moving.{moves_asked}
use Rattle.ec_runtime.proofs.Seeking.{sought_at}
use Rattle.ec_runtime.proofs.Starting.{connection_sought, only}

-- ---- what only adds

pub closed_grows : (c : Connection) → Grows (closed c)
closed_grows c = next_grows (asked c.slot request.Close) (λ reply t. gives tt (removed c.name t)) (asked_grows c.slot request.Close) (λ reply t. same_front t.conversation)

-- ---- a connection of a name is gone

own_name : (name : Text) → same_name name name ≡ true
own_name name = nat_list_eq_equiv.refl name

told_name : (o : Option Tx) (c : Connection) → (with_told o c).name ≡ c.name
told_name None c = refl
told_name (Some tx) c = refl

without_one : (name : Text) (before behind : List Connection) (c : Connection) → c.name ≡ name → NoneNamed name before → without_connection name (before ++ c ∷ behind) ≡ before ++ behind
without_one name [] behind c e n = λ j. elim ((ap (λ x. same_name x name) e ∙ own_name name) j) [ true ↦ behind | false ↦ c ∷ without_connection name behind ]
without_one name (d ∷ before) behind c e n =
    (λ j. elim (n.0 j) [ true ↦ before ++ c ∷ behind | false ↦ d ∷ without_connection name (before ++ c ∷ behind) ]) ∙ ap (λ cs. d ∷ cs) (without_one name before behind c e n.1)

-- names before one are other names
other_before : (before behind : List Connection) (c : Connection) → AllNamed (before ++ c ∷ behind) → NoneNamed c.name before
other_before [] behind c h = tt
other_before (d ∷ before) behind c h = (nat_list_eq_equiv.symm d.name c.name ∙ at before h.0, other_before before behind c h.1)
  where
    at : (xs : List Connection) → NoneNamed d.name (xs ++ c ∷ behind) → same_name c.name d.name ≡ false
    at [] n = n.0
    at (x ∷ xs) n = at xs n.1

none_less : (name : Text) (before behind : List Connection) (c : Connection) → NoneNamed name (before ++ c ∷ behind) → NoneNamed name (before ++ behind)
none_less name [] behind c n = n.1
none_less name (d ∷ before) behind c n = (n.0, none_less name before behind c n.1)

named_less : (before behind : List Connection) (c : Connection) → AllNamed (before ++ c ∷ behind) → AllNamed (before ++ behind)
named_less [] behind c h = h.1
named_less (d ∷ before) behind c h = (none_less d.name before behind c h.0, named_less before behind c h.1)

pub all_named_less : {X : Type 0} {F : X → Type 0} (before behind : List (Open X F)) (o : Open X F) → AllNamed (views (before ++ o ∷ behind)) → AllNamed (views (before ++ behind))
all_named_less before behind o h =
    subst AllNamed (sym (map-append open_view before behind)) (named_less (views before) (views behind) (open_view o) (subst AllNamed (views_among before behind o) h))

-- ---- one is closed

module _ (around : Around) (c : Connection) (m : Memory) (named : NoneNamed c.name around.before) where
  abbrev left : List Connection
  left = around.before ++ around.behind

  abbrev gone : Reply → State → Outcome (Unit {0})
  gone reply t = gives tt (removed c.name t)

  is_gone : (o : Option Tx) → without_connection c.name (among around (with_told o c)) ≡ left
  is_gone o = without_one c.name around.before around.behind (with_told o c) (told_name o c) named

  pub does_remove : (reply : Reply) → Does (gone reply) (there around m (with_told (told_by reply) c)) (only m left (current_without c.name around.current left)) [] (Ok (tt {0}))
  does_remove reply =
      same_action (gone reply) (λ s. gives tt s) (there around m (with_told (told_by reply) c)) (only m left (current_without c.name around.current left)) (only m left (current_without c.name around.current left)) [] (Ok tt)
      (λ s answers j. gives tt (record (placed (there around m (with_told (told_by reply) c)) answers s) {
        connections = is_gone (told_by reply) j;
        current = current_without c.name around.current (is_gone (told_by reply) j);
      }))
      (quiet (λ s. gives tt s) (only m left (current_without c.name around.current left)) m (Ok tt) (λ s. same_front s.conversation) (λ s. refl))

module _ {X : Type 0} {F : X → Type 0} (talk : DynBox X Global F → Option Talk) (faults : DynBox X Global F → ℕ) (m : Memory) (old new : Rack X F) (before behind : List (Open X F)) (o : Open X F) (current : Option Text)
    (held : AllTaken (states (slots_of old)) (links (before ++ o ∷ behind))) (named : AllNamed (views (before ++ o ∷ behind))) where
  abbrev around : Around
  around = record { before = views before; behind = views behind; current = current }

  taken : AllTaken (states (slots_of old)) (links before ++ o.conn ∷ links behind)
  taken = subst (λ cs. AllTaken (states (slots_of old)) cs) (links_among before behind o) held

  others : NoneNamed o.name (views before)
  others = other_before (views before) (views behind) (open_view o) (subst AllNamed (views_among before behind o) named)

  links_left : links (before ++ behind) ≡ links before ++ links behind
  links_left = map-append (λ (p : Open X F). p.conn) before behind

  views_left : views (before ++ behind) ≡ views before ++ views behind
  views_left = map-append open_view before behind

  module _ (h : Closes talk faults old o.conn new) where
    pub close_taken : AllTaken (states (slots_of new)) (links (before ++ behind))
    close_taken = subst (λ cs. AllTaken (states (slots_of new)) cs) (sym links_left) (taken_closed talk faults old new o.conn (links before) (links behind) h taken)

    close_moves : Moves talk faults old (links (before ++ o ∷ behind)) new (links (before ++ behind)) (exchange (Some (slot_of o.conn)) request.Close h.reply ∷ [])
    close_moves =
        subst (λ cs. Moves talk faults old (links (before ++ o ∷ behind)) new cs (exchange (Some (slot_of o.conn)) request.Close h.reply ∷ [])) (sym links_left)
        (subst (λ cs. Moves talk faults old cs new (links before ++ links behind) (exchange (Some (slot_of o.conn)) request.Close h.reply ∷ [])) (sym (links_among before behind o))
        (moves_closed talk faults old new o.conn (links before) (links behind) h taken))

    apart : NoneAt (slot_of o.conn) (views before)
    apart = none_at (slot_of o.conn) before (apart_before (states (slots_of old)) (links before) (links behind) o.conn taken)

    -- it was, and the current connection is known
    pub close_made : (last : Option Text) → last ≡ current_without o.name current (views (before ++ behind)) → Made talk faults (closed (open_view o)) m old (before ++ o ∷ behind) current m new (before ++ behind) last (Ok tt)
    close_made last e = record {
      growth = exchange (Some (slot_of o.conn)) request.Close h.reply ∷ [];
      moves = close_moves;
      does =
          subst (λ cs. Does (closed (open_view o)) (only m cs current) (only m (views (before ++ behind)) last) (exchange (Some (slot_of o.conn)) request.Close h.reply ∷ []) (Ok tt)) (sym (views_among before behind o))
          (subst (λ l. Does (closed (open_view o)) (there around m (open_view o)) (only m (views (before ++ behind)) l) (exchange (Some (slot_of o.conn)) request.Close h.reply ∷ []) (Ok tt)) (sym e)
          (subst (λ cs. Does (closed (open_view o)) (there around m (open_view o)) (only m cs (current_without o.name current cs)) (exchange (Some (slot_of o.conn)) request.Close h.reply ∷ []) (Ok tt)) (sym views_left)
          (and_next (asked (slot_of o.conn) request.Close) (λ reply t. gives tt (removed o.name t)) (there around m (open_view o)) (there around m (with_told (told_by h.reply) (open_view o)))
          (only m (views before ++ views behind) (current_without o.name current (views before ++ views behind))) h.reply (exchange (Some (slot_of o.conn)) request.Close h.reply ∷ []) [] (Ok tt)
          (asked_does around (open_view o) m request.Close h.reply apart) (does_remove around (open_view o) m others h.reply))));
    }

    -- or there was no memory for its name
    pub close_unnamed : (last : Option Text) → Made talk faults (closed (open_view o)) m old (before ++ o ∷ behind) current m new (before ++ behind) last (Err stops.OutOfMemory)
    close_unnamed last = record {
      growth = exchange (Some (slot_of o.conn)) request.Close h.reply ∷ [];
      moves = close_moves;
      does =
          subst (λ cs. Does {A = Unit {0}} (closed (open_view o)) (only m cs current) (only m (views (before ++ behind)) last) (exchange (Some (slot_of o.conn)) request.Close h.reply ∷ []) (Err stops.OutOfMemory)) (sym (views_among before behind o))
          (and_next (asked (slot_of o.conn) request.Close) (λ reply t. gives tt (removed o.name t)) (there around m (open_view o)) (there around m (with_told (told_by h.reply) (open_view o))) (only m (views (before ++ behind)) last)
          h.reply (exchange (Some (slot_of o.conn)) request.Close h.reply ∷ []) [] (Err stops.OutOfMemory)
          (asked_does around (open_view o) m request.Close h.reply apart)
          (no_memory (λ t. gives tt (removed o.name t)) (there around m (with_told (told_by h.reply) (open_view o))) (only m (views (before ++ behind)) last) (λ t. same_front t.conversation)));
    }

    -- as the current connection is found
    pub close_ended : (last : Option Text) (r : Result (Unit {0}) Stop) → OnOk r (last ≡ current_without o.name current (views (before ++ behind))) → IfErr r (λ stop. stop ≡ stops.OutOfMemory)
        → Made talk faults (closed (open_view o)) m old (before ++ o ∷ behind) current m new (before ++ behind) last r
    close_ended last (Ok x) e n = close_made last e
    close_ended last (Err stop) e n = subst (λ w. Made talk faults (closed (open_view o)) m old (before ++ o ∷ behind) current m new (before ++ behind) last (Err w)) (sym n) (close_unnamed last)

  -- it wasn't closed
  pub close_unasked : (now : Open X F) → slots_of new ≡ slots_of old → log_of new ≡ log_of old → slot_of now.conn ≡ slot_of o.conn → talk (link_of now.conn) ≡ talk (link_of o.conn) → faults (link_of o.conn) ≤ faults (link_of now.conn)
      → Made talk faults (closed (open_view o)) m old (before ++ o ∷ behind) current m new (before ++ now ∷ behind) current (Err stops.OutOfMemory)
  close_unasked now slots log slot told later = record {
    growth = [];
    moves = links_moved talk faults old new before behind o now [] (moves_asked talk faults old new o.conn now.conn (links before) (links behind) []
        (apart_before (states (slots_of old)) (links before) (links behind) o.conn taken) (Asks-nil talk faults old new o.conn now.conn slots slot log told later)
        (taken_here (states (slots_of old)) (links before) (links behind) o.conn taken));
    does = no_memory (closed (open_view o)) (only m (views (before ++ o ∷ behind)) current) (only m (views (before ++ now ∷ behind)) current) (closed_grows (open_view o));
  }

-- ---- up to the first request

module _ (line : ℕ) (cs : List Connection) (current : Option Text) where
  one_at : (name : Option Text) (s : State) → s.connections ≡ cs → s.current ≡ current → one_closing line name s ≡ which_first line (One (place_sought name current cs)) s
  one_at name s e f =
      (λ j. next (connection_sought line name s j) (λ c t. asks_with c.slot request.Close (closes c.name []) t))
      ∙ (λ j. next (found_connection line (sought_at name s.current s.connections j) s) (λ c t. asks_with c.slot request.Close (closes c.name []) t))
      ∙ (λ j. next (found_connection line (at_place s.connections (place_sought name (f j) (e j))) s) (λ c t. asks_with c.slot request.Close (closes c.name []) t))

  by_text : (name : Text) (s : State) → s.connections ≡ cs → s.current ≡ current → disconnecting line name s ≡ which_first line (which_of name current cs) s
  by_text name s e f = go (same_name name (codes "CURRENT")) (same_name name (codes "ALL"))
    where
      go : (a b : Bool) → elim a [ true ↦ one_closing line None s | false ↦ elim b [ true ↦ closing (reverse s.connections) s | false ↦ one_closing line (Some name) s ] ]
          ≡ which_first line (elim a [ true ↦ One (place_sought None current cs) | false ↦ elim b [ true ↦ All | false ↦ One (place_named name cs) ] ]) s
      go true b = one_at None s e f
      go false true = refl
      go false false = one_at (Some name) s e f

  module _ (text : TextData ℕ) (m : Memory) (a : Areas) where
    pub disconnect_trapped : (trap : Trap) → ((s : State) → given_read text (with_memory m s) ≡ over (trapped trap) (with_memory m s))
        → Leads {A = Option Asking} (Err (stops.Trapped trap)) (λ s. call_started line (disconnect text) s) (only m cs current) a (only m cs current) a
    disconnect_trapped trap is = λ s j. next (is (standing (only m cs current) a s) j) (λ called t. disconnecting line called (with_memory (fresh_area t.memory) t))

    pub disconnect_read : (m1 m' : Memory) (name : Text) (which : Which) (r : Result (Option Asking) Stop) → ((s : State) → given_read text (with_memory m s) ≡ gives name (with_memory m s)) → which ≡ which_of name current cs → m1 ≡ fresh_area m
        → Leads r (which_first line which) (only m1 cs current) a (only m' cs current) a → Leads r (λ s. call_started line (disconnect text) s) (only m cs current) a (only m' cs current) a
    disconnect_read m1 m' name which r is e area p = λ s.
        subst (λ o. Says r o (standing (only m' cs current) a s)) (sym (
        (λ j. next (is (standing (only m cs current) a s) j) (λ called t. disconnecting line called (with_memory (fresh_area t.memory) t)))
        ∙ by_text name (standing (only (fresh_area m) cs current) a s) refl refl
        ∙ (λ j. which_first line (sym e j) (standing (only (sym area j) cs current) a s))))
        (p s)

  module _ (which : Which) (m : Memory) (a : Areas) where
    pub close_none : (m' : Memory) (stop : Stop) → which ≡ One None → m' ≡ told_area (code_of found.NoConnection) (state_of found.NoConnection) (text_of_finding found.NoConnection) line m → stop ≡ stops.Finished
        → Leads {A = Option Asking} (Err stop) (which_first line which) (only m cs current) a (only m' cs current) a
    close_none m' stop e told is =
        subst (λ x. Leads {A = Option Asking} (Err x) (which_first line which) (only m cs current) a (only m' cs current) a) (sym is) (λ s.
        (λ j. which_first line (e j) (standing (only m cs current) a s)) ∙ (λ j. finished (standing (only (sym told j) cs current) a s)))

    pub close_one : (at : ℕ) (c : Connection) → which ≡ One (Some at) → slice_get cs at ≡ Some c → Leads (Ok (Some (closing_with [] (slice_get cs at)))) (which_first line which) (only m cs current) a (only m cs current) a
    close_one at c e there = λ s.
        (λ j. which_first line (e j) (standing (only m cs current) a s))
        ∙ (λ j. next (found_connection line (there j) (standing (only m cs current) a s)) (λ d t. asks_with d.slot request.Close (closes d.name []) t))
        ∙ (λ j. gives (Some (closing_with [] (sym there j))) (standing (only m cs current) a s))

    closing_so : (ds : List Connection) (s : State) → closing ds s ≡ gives (closing_asks ds) s
    closing_so [] s = refl
    closing_so (d ∷ ds) s = refl

    pub close_every : (u : Option Asking) → which ≡ All → u ≡ closing_asks (reverse cs) → Leads (Ok u) (which_first line which) (only m cs current) a (only m cs current) a
    close_every u e is = λ s.
        (λ j. which_first line (e j) (standing (only m cs current) a s))
        ∙ closing_so (reverse cs) (standing (only m cs current) a s)
        ∙ (λ j. gives (sym is j) (standing (only m cs current) a s))
