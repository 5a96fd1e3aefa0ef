-- Parts of a call, one after the other.
use Rattle.std.proofs.Common.{◌≡◌, ℕ, List, [], ◌∷◌, ◌++◌, Option, Some, None, Result, Ok, Err, true, false, refl, sym, ap, subst, ◌∙◌, append_assoc, eq-eqb, arith}
use Rattle.std.specs.declared.alloc.Global.{Global}
use Rattle.std.specs.declared.dyn_box.DynBox.{DynBox}
use Rattle.ec_link.specs.declared.logged.Logged.{Logged}
use Rattle.ec_link.specs.declared.rack.Rack.{Rack}
use Rattle.ec_link.specs.declared.reply.Reply.{Reply}
use Rattle.ec_link.specs.declared.reply.Tx.{Tx}
use Rattle.ec_link.specs.declared.request.Request.{Request}
use Rattle.ec_link.specs.Calls.{Asks}
use Rattle.ec_link.specs.Conn.{slot_of}
use Rattle.ec_link.specs.Logged.{Talk, last_reply_of}
use Rattle.ec_link.specs.Rack.{log_of}
use Rattle.ec_link.proofs.Runs.{Asks-nil, Asks-append}
use Rattle.ec_memory_defs.specs.Memory.{Memory}
use Rattle.ec_meaning_defs.specs.observed.Observed.{answers_in}
use Rattle.ec_meaning_defs.specs.evaluation.State.{Answer, Connection, State}
use Rattle.ec_meaning_defs.specs.observed.Run.{IsFront}
use Rattle.ec_call_defs.specs.Areas.{Areas}
use Rattle.ec_call_defs.specs.Growth.{state_of, Grows}
use Rattle.ec_call_defs.specs.Outcomes.{Outcome, gives, next}
use Rattle.ec_call_defs.specs.Connections.{told_by, with_told, changed_at, exchange, asked}
use Rattle.ec_runtime.specs.declared.open.Open.{Open}
use Rattle.ec_runtime.specs.declared.stop.Stop.{Stop}
use Rattle.ec_runtime.specs.declared.stop.Stop.TheVariants as stops
use Rattle.ec_runtime.specs.Does.{Around, Apart, NoneAt, Placing, Seen, among, placed, placed_with, saying, Left, LeftFrom, Does, DoesFrom, DoesWith, seen, Over, OverWith}
use Rattle.ec_runtime.specs.Opening.{open_view, Asked}
use Rattle.ec_runtime.specs.Says.{Changed, Says, Quiet}
use Rattle.ec_runtime.proofs.Grows.{front_next}
use Rattle.ec_runtime.proofs.Targets.{stopped_next}

nil_right : (xs : List Logged) → xs ++ [] ≡ xs
nil_right [] = refl
nil_right (x ∷ xs) = λ j. x ∷ nil_right xs j

-- the answers of two logs, and others
pub answers-append : (g h : List Logged) (rest : List Answer) → answers_in (g ++ h) ++ rest ≡ answers_in g ++ (answers_in h ++ rest)
answers-append [] h rest = refl
answers-append (x ∷ g) h rest = λ j. (x.slot, x.reply) ∷ answers-append g h rest j

-- nothing more was said
pub said_nothing : (s : State) → saying [] s ≡ s
said_nothing s = λ j. record s { conversation = nil_right s.conversation j }

pub said_both : (g h : List Logged) (s : State) → saying h (saying g s) ≡ saying (g ++ h) s
said_both g h s = λ j. record s { conversation = append_assoc s.conversation g h j }

-- ---- a part that asks nothing

left_nothing : {A : Type 0} (action : State → Outcome A) (from : Placing) (r : Result A Stop)
    → ((s : State) (rest : List Answer) → (from rest s).conversation ≡ s.conversation) → Grows action → LeftFrom action from [] r
left_nothing action from (Ok a) still g = tt
left_nothing action from (Err stops.Finished) still g = tt
left_nothing action from (Err (stops.Trapped trap)) still g = tt
left_nothing action from (Err stops.OutOfMemory) still g = λ s rest.
    subst (λ c. IsFront c (state_of (action (from rest s))).conversation) (still s rest ∙ sym (nil_right s.conversation)) (g (from rest s))

pub quiet : {A : Type 0} (action : State → Outcome A) (x : Seen) (m : Memory) (r : Result A Stop) → Grows action → Quiet r action x.memory m → Does action x (record x { memory = m }) [] r
quiet action x m r g q = record {
  says = λ s rest. subst (λ t. Says r (action (placed x rest s)) (placed (record x { memory = m }) rest t)) (sym (said_nothing s)) (q (placed x rest s));
  left = left_nothing action (placed x) r (λ s rest. refl) g;
}

-- the same with descriptors
pub changed : {A : Type 0} (action : State → Outcome A) (x : Seen) (a b : Areas) (m : Memory) (r : Result A Stop) → Grows action → Changed r action x.memory a m b
    → DoesWith action x a (record x { memory = m }) b [] r
changed action x a b m r g q = record {
  says = λ s rest. subst (λ t. Says r (action (placed_with x a rest s)) (placed_with (record x { memory = m }) b rest t)) (sym (said_nothing s)) (q (placed x rest s));
  left = left_nothing action (placed_with x a) r (λ s rest. refl) g;
}

-- want of memory, before anything was asked
pub no_memory : {A : Type 0} (action : State → Outcome A) (x y : Seen) → Grows action → Does {A = A} action x y [] (Err stops.OutOfMemory)
no_memory action x y g = record { says = λ s rest. tt; left = left_nothing action (placed x) (Err stops.OutOfMemory) (λ s rest. refl) g }

-- a part that leaves the descriptors leaves these
left_lifted : {A : Type 0} (action : State → Outcome A) (x : Seen) (a : Areas) (g : List Logged) (r : Result A Stop) → Left action x g r → LeftFrom action (placed_with x a) g r
left_lifted action x a g (Ok b) l = tt
left_lifted action x a g (Err stops.Finished) l = tt
left_lifted action x a g (Err (stops.Trapped trap)) l = tt
left_lifted action x a g (Err stops.OutOfMemory) l = λ s rest. l (record s { descriptors = a }) rest

pub lifted : {A : Type 0} (action : State → Outcome A) (x y : Seen) (a : Areas) (g : List Logged) (r : Result A Stop) → Does action x y g r → DoesWith action x a y a g r
lifted action x y a g r p = record {
  says = λ s rest. p.says (record s { descriptors = a }) rest;
  left = left_lifted action x a g r p.left;
}

-- ---- one part, and then what follows

module _ {A B : Type 0} (first : State → Outcome A) (go : A → State → Outcome B) (from mid to : Placing) (a : A) (g h : List Logged) (r : Result B Stop) where
  goes_on : DoesFrom first from mid g (Ok a) → (s : State) (rest : List Answer) → next (first (from (answers_in (g ++ h) ++ rest) s)) go ≡ go a (mid (answers_in h ++ rest) (saying g s))
  goes_on p s rest = (λ j. next (first (from (answers-append g h rest j) s)) go) ∙ (λ j. next (p.says s (answers_in h ++ rest) j) go)

  left_next : (r : Result B Stop) → ((s : State) (rest : List Answer) → next (first (from (answers_in (g ++ h) ++ rest) s)) go ≡ go a (mid (answers_in h ++ rest) (saying g s)))
      → LeftFrom (go a) mid h r → LeftFrom (λ s. next (first s) go) from (g ++ h) r
  left_next (Ok b) e l = tt
  left_next (Err stops.Finished) e l = tt
  left_next (Err (stops.Trapped trap)) e l = tt
  left_next (Err stops.OutOfMemory) e l = λ s rest.
      subst (λ c. IsFront c (state_of (next (first (from (answers_in (g ++ h) ++ rest) s)) go)).conversation) (append_assoc s.conversation g h)
      (subst (λ o. IsFront ((s.conversation ++ g) ++ h) (state_of o).conversation) (sym (e s rest)) (l (saying g s) rest))

  pub next_from : DoesFrom first from mid g (Ok a) → DoesFrom (go a) mid to h r → DoesFrom (λ s. next (first s) go) from to (g ++ h) r
  next_from p q = record {
    says = λ s rest.
        subst (λ o. Says r o (to rest (saying (g ++ h) s))) (sym (goes_on p s rest))
        (subst (λ t. Says r (go a (mid (answers_in h ++ rest) (saying g s))) (to rest t)) (said_both g h s) (q.says (saying g s) rest));
    left = left_next r (goes_on p) q.left;
  }

pub and_next : {A B : Type 0} (first : State → Outcome A) (go : A → State → Outcome B) (x y z : Seen) (a : A) (g h : List Logged) (r : Result B Stop)
    → Does first x y g (Ok a) → Does (go a) y z h r → Does (λ s. next (first s) go) x z (g ++ h) r
and_next first go x y z a g h r p q = next_from first go (placed x) (placed y) (placed z) a g h r p q

-- one part that stops
left_stop : {A B : Type 0} (first : State → Outcome A) (go : A → State → Outcome B) (from : Placing) (g : List Logged) (stop : Stop) → ((a : A) → Grows (go a))
    → LeftFrom {A = A} first from g (Err stop) → LeftFrom {A = B} (λ s. next (first s) go) from g (Err stop)
left_stop first go from g stops.Finished h l = tt
left_stop first go from g (stops.Trapped trap) h l = tt
left_stop first go from g stops.OutOfMemory h l = λ s rest. front_next (s.conversation ++ g) (first (from (answers_in g ++ rest) s)) go (l s rest) h

pub stop_from : {A B : Type 0} (first : State → Outcome A) (go : A → State → Outcome B) (from to : Placing) (g : List Logged) (stop : Stop) → ((a : A) → Grows (go a))
    → DoesFrom {A = A} first from to g (Err stop) → DoesFrom {A = B} (λ s. next (first s) go) from to g (Err stop)
stop_from first go from to g stop h p = record {
  says = λ s rest. stopped_next stop (first (from (answers_in g ++ rest) s)) (to rest (saying g s)) go (p.says s rest);
  left = left_stop first go from g stop h p.left;
}

pub and_stop : {A B : Type 0} (first : State → Outcome A) (go : A → State → Outcome B) (x y : Seen) (g : List Logged) (stop : Stop) → ((a : A) → Grows (go a))
    → Does {A = A} first x y g (Err stop) → Does {A = B} (λ s. next (first s) go) x y g (Err stop)
and_stop first go x y g stop h p = stop_from first go (placed x) (placed y) g stop h p

-- ---- the action is another one in the states that are met

left_same : {A : Type 0} (action other : State → Outcome A) (from mid : Placing) (g : List Logged) (r : Result A Stop)
    → ((s : State) (answers : List Answer) → action (from answers s) ≡ other (mid answers s)) → LeftFrom other mid g r → LeftFrom action from g r
left_same action other from mid g (Ok a) h l = tt
left_same action other from mid g (Err stops.Finished) h l = tt
left_same action other from mid g (Err (stops.Trapped trap)) h l = tt
left_same action other from mid g (Err stops.OutOfMemory) h l = λ s rest. subst (λ o. IsFront (s.conversation ++ g) (state_of o).conversation) (sym (h s (answers_in g ++ rest))) (l s rest)

pub same_from : {A : Type 0} (action other : State → Outcome A) (from mid to : Placing) (g : List Logged) (r : Result A Stop)
    → ((s : State) (answers : List Answer) → action (from answers s) ≡ other (mid answers s)) → DoesFrom other mid to g r → DoesFrom action from to g r
same_from action other from mid to g r h p = record {
  says = λ s rest. subst (λ o. Says r o (to rest (saying g s))) (sym (h s (answers_in g ++ rest))) (p.says s rest);
  left = left_same action other from mid g r h p.left;
}

pub same_action : {A : Type 0} (action other : State → Outcome A) (x y z : Seen) (g : List Logged) (r : Result A Stop)
    → ((s : State) (answers : List Answer) → action (placed x answers s) ≡ other (placed y answers s)) → Does other y z g r → Does action x z g r
same_action action other x y z g r h p = same_from action other (placed x) (placed y) (placed z) g r h p

-- ---- a request

told_name : (o : Option Tx) (c : Connection) → (with_told o c).name ≡ c.name
told_name None c = refl
told_name (Some tx) c = refl

-- the connection of a slot is changed among others
pub changed_among : (change : Connection → Connection) (c : Connection) (before behind : List Connection) → NoneAt c.slot before → changed_at c.slot change (before ++ c ∷ behind) ≡ before ++ change c ∷ behind
changed_among change c [] behind apart = λ j. elim (eq-eqb c.slot c.slot refl j) [ true ↦ change c ∷ behind | false ↦ c ∷ changed_at c.slot change behind ]
changed_among change c (d ∷ before) behind apart =
    (λ j. elim (apart.0 j) [ true ↦ change d ∷ (before ++ c ∷ behind) | false ↦ d ∷ changed_at c.slot change (before ++ c ∷ behind) ])
    ∙ (λ j. d ∷ changed_among change c before behind apart.1 j)

-- what is seen of a connection among others
abbrev pub there : Around → Memory → Connection → Seen
there around m c = record { memory = m; connections = among around c; current = around.current }

pub asked_does : (around : Around) (c : Connection) (m : Memory) (request : Request) (reply : Reply) → Apart c.slot around
    → Does (asked c.slot request) (there around m c) (there around m (with_told (told_by reply) c)) (exchange (Some c.slot) request reply ∷ []) (Ok reply)
asked_does around c m request reply apart = record {
  says = λ s rest j. gives reply (record s {
    memory = m;
    connections = changed_among (with_told (told_by reply)) c around.before around.behind apart j;
    current = around.current;
    conversation = s.conversation ++ exchange (Some c.slot) request reply ∷ [];
    answers = rest;
  });
  left = tt;
}

module _ {X : Type 0} {F : X → Type 0} (talk : DynBox X Global F → Option Talk) (faults : DynBox X Global F → ℕ) where
  -- a request that was answered
  pub only_asked : (request : Request) (m : Memory) (old : Rack X F) (was : Open X F) (new : Rack X F) (now : Open X F) (a : Asked talk faults request old was new now)
      → Over talk faults (asked (slot_of was.conn) request) m old was m new now (Ok a.reply)
  only_asked request m old was new now a = record {
    growth = exchange (Some (slot_of was.conn)) request a.reply ∷ [];
    asks = a.asks;
    named = ap (λ v. v.name) a.view ∙ told_name (told_by a.reply) (open_view was);
    does = λ around apart.
        subst (λ c. Does (asked (slot_of was.conn) request) (seen around m was) (there around m c) (exchange (Some (slot_of was.conn)) request a.reply ∷ []) (Ok a.reply)) (sym a.view)
        (asked_does around (open_view was) m request a.reply apart);
  }

  -- a request that was answered, and what is done with the reply
  pub over_asked : {B : Type 0} (request : Request) (m m' : Memory) (old : Rack X F) (was : Open X F) (new : Rack X F) (now : Open X F) (go : Reply → State → Outcome B) (r : Result B Stop)
      → (a : Asked talk faults request old was new now) → Grows (go a.reply) → Quiet r (go a.reply) m m'
      → Over talk faults (λ s. next (asked (slot_of was.conn) request s) go) m old was m' new now r
  over_asked {B} request m m' old was new now go r a grows q = record {
    growth = exchange (Some (slot_of was.conn)) request a.reply ∷ [];
    asks = a.asks;
    named = ap (λ v. v.name) a.view ∙ told_name (told_by a.reply) (open_view was);
    does = λ around apart.
        and_next (asked (slot_of was.conn) request) go (seen around m was) (seen around m now) (seen around m' now) a.reply (exchange (Some (slot_of was.conn)) request a.reply ∷ []) [] r
        (subst (λ c. Does (asked (slot_of was.conn) request) (seen around m was) (there around m c) (exchange (Some (slot_of was.conn)) request a.reply ∷ []) (Ok a.reply)) (sym a.view)
        (asked_does around (open_view was) m request a.reply apart))
        (quiet (go a.reply) (seen around m now) m' r grows q);
  }

  -- the same with the reply as it was read from the rack
  pub over_answered : {B : Type 0} (request : Request) (m m' : Memory) (old : Rack X F) (was : Open X F) (new : Rack X F) (now : Open X F) (go : Reply → State → Outcome B) (r : Result B Stop) (reply : Reply)
      → Asked talk faults request old was new now → Some reply ≡ last_reply_of (log_of new) → ((x : Reply) → Grows (go x)) → Quiet r (go reply) m m'
      → Over talk faults (λ s. next (asked (slot_of was.conn) request s) go) m old was m' new now r
  over_answered request m m' old was new now go r reply a e grows q =
      let both : Some reply ≡ Some a.reply = e ∙ a.last in
      let same : reply ≡ a.reply = cc in
      over_asked request m m' old was new now go r a (grows a.reply) (subst (λ x. Quiet r (go x) m m') same q)

  -- a request that found no memory
  pub over_unasked : {B : Type 0} (action : State → Outcome B) (m : Memory) (old : Rack X F) (was : Open X F) (new : Rack X F) (now : Open X F) → Grows action
      → Asks talk faults old was.conn new now.conn [] → open_view now ≡ open_view was → Over {X = X} {F = F} talk faults {A = B} action m old was m new now (Err stops.OutOfMemory)
  over_unasked action m old was new now grows asks same = record { growth = []; asks = asks; named = ap (λ v. v.name) same; does = λ around apart. no_memory action (seen around m was) (seen around m now) grows }

  -- a part that asks nothing
  pub over_quiet : {B : Type 0} (action : State → Outcome B) (m m' : Memory) (rack : Rack X F) (open' : Open X F) (r : Result B Stop) → Grows action → Quiet r action m m'
      → Over talk faults action m rack open' m' rack open' r
  over_quiet action m m' rack open' r grows q = record {
    growth = [];
    asks = Asks-nil talk faults rack rack open'.conn open'.conn refl refl refl refl (omega arith);
    named = refl;
    does = λ around apart. quiet action (seen around m open') m' r grows q;
  }

  -- one part and then another
  pub over_next : {A B : Type 0} (first : State → Outcome A) (go : A → State → Outcome B) (m1 m2 m3 : Memory) (r1 : Rack X F) (o1 : Open X F) (r2 : Rack X F) (o2 : Open X F) (r3 : Rack X F) (o3 : Open X F) (a : A) (r : Result B Stop)
      → Over talk faults first m1 r1 o1 m2 r2 o2 (Ok a) → Over talk faults (go a) m2 r2 o2 m3 r3 o3 r → Over talk faults (λ s. next (first s) go) m1 r1 o1 m3 r3 o3 r
  over_next first go m1 m2 m3 r1 o1 r2 o2 r3 o3 a r p q = record {
    growth = p.growth ++ q.growth;
    asks = Asks-append talk faults r1 o1.conn r2 o2.conn r3 o3.conn p.growth q.growth p.asks q.asks;
    named = q.named ∙ p.named;
    does = λ around apart.
        and_next first go (seen around m1 o1) (seen around m2 o2) (seen around m3 o3) a p.growth q.growth r (p.does around apart)
        (q.does around (subst (λ i. Apart i around) (sym p.asks.slot) apart));
  }

  pub over_stop : {A B : Type 0} (first : State → Outcome A) (go : A → State → Outcome B) (m1 m2 : Memory) (r1 : Rack X F) (o1 : Open X F) (r2 : Rack X F) (o2 : Open X F) (stop : Stop) → ((a : A) → Grows (go a))
      → Over {X = X} {F = F} talk faults {A = A} first m1 r1 o1 m2 r2 o2 (Err stop) → Over {X = X} {F = F} talk faults {A = B} (λ s. next (first s) go) m1 r1 o1 m2 r2 o2 (Err stop)
  over_stop first go m1 m2 r1 o1 r2 o2 stop grows p = record {
    growth = p.growth;
    asks = p.asks;
    named = p.named;
    does = λ around apart. and_stop first go (seen around m1 o1) (seen around m2 o2) p.growth stop grows (p.does around apart);
  }

  -- ---- parts that find and leave descriptors

  pub over_with : {B : Type 0} (action : State → Outcome B) (m m' : Memory) (a : Areas) (old : Rack X F) (was : Open X F) (new : Rack X F) (now : Open X F) (r : Result B Stop)
      → Over talk faults action m old was m' new now r → OverWith talk faults action m a old was m' a new now r
  over_with action m m' a old was new now r p = record {
    growth = p.growth;
    asks = p.asks;
    named = p.named;
    does = λ around apart. lifted action (seen around m was) (seen around m' now) a p.growth r (p.does around apart);
  }

  pub with_changed : {B : Type 0} (action : State → Outcome B) (m m' : Memory) (a b : Areas) (rack : Rack X F) (open' : Open X F) (r : Result B Stop) → Grows action → Changed r action m a m' b
      → OverWith talk faults action m a rack open' m' b rack open' r
  with_changed action m m' a b rack open' r grows q = record {
    growth = [];
    asks = Asks-nil talk faults rack rack open'.conn open'.conn refl refl refl refl (omega arith);
    named = refl;
    does = λ around apart. changed action (seen around m open') a b m' r grows q;
  }

  pub with_next : {A B : Type 0} (first : State → Outcome A) (go : A → State → Outcome B) (m1 m2 m3 : Memory) (a1 a2 a3 : Areas) (r1 : Rack X F) (o1 : Open X F) (r2 : Rack X F) (o2 : Open X F) (r3 : Rack X F) (o3 : Open X F) (x : A) (r : Result B Stop)
      → OverWith talk faults first m1 a1 r1 o1 m2 a2 r2 o2 (Ok x) → OverWith talk faults (go x) m2 a2 r2 o2 m3 a3 r3 o3 r → OverWith talk faults (λ s. next (first s) go) m1 a1 r1 o1 m3 a3 r3 o3 r
  with_next first go m1 m2 m3 a1 a2 a3 r1 o1 r2 o2 r3 o3 x r p q = record {
    growth = p.growth ++ q.growth;
    asks = Asks-append talk faults r1 o1.conn r2 o2.conn r3 o3.conn p.growth q.growth p.asks q.asks;
    named = q.named ∙ p.named;
    does = λ around apart.
        next_from first go (placed_with (seen around m1 o1) a1) (placed_with (seen around m2 o2) a2) (placed_with (seen around m3 o3) a3) x p.growth q.growth r (p.does around apart)
        (q.does around (subst (λ i. Apart i around) (sym p.asks.slot) apart));
  }

  pub with_stop : {A B : Type 0} (first : State → Outcome A) (go : A → State → Outcome B) (m1 m2 : Memory) (a1 a2 : Areas) (r1 : Rack X F) (o1 : Open X F) (r2 : Rack X F) (o2 : Open X F) (stop : Stop) → ((x : A) → Grows (go x))
      → OverWith {X = X} {F = F} talk faults {A = A} first m1 a1 r1 o1 m2 a2 r2 o2 (Err stop) → OverWith {X = X} {F = F} talk faults {A = B} (λ s. next (first s) go) m1 a1 r1 o1 m2 a2 r2 o2 (Err stop)
  with_stop first go m1 m2 a1 a2 r1 o1 r2 o2 stop grows p = record {
    growth = p.growth;
    asks = p.asks;
    named = p.named;
    does = λ around apart. stop_from first go (placed_with (seen around m1 o1) a1) (placed_with (seen around m2 o2) a2) p.growth stop grows (p.does around apart);
  }

  -- a request that was answered, and what is done with the reply
  pub with_answered : {B : Type 0} (request : Request) (m m' : Memory) (a b : Areas) (old : Rack X F) (was : Open X F) (new : Rack X F) (now : Open X F) (go : Reply → State → Outcome B) (r : Result B Stop) (reply : Reply)
      → Asked talk faults request old was new now → Some reply ≡ last_reply_of (log_of new) → ((x : Reply) → Grows (go x)) → Changed r (go reply) m a m' b
      → OverWith talk faults (λ s. next (asked (slot_of was.conn) request s) go) m a old was m' b new now r
  with_answered request m m' a b old was new now go r reply asks e grows q =
      let both : Some reply ≡ Some asks.reply = e ∙ asks.last in
      let same : asks.reply ≡ reply = cc in
      with_next (asked (slot_of was.conn) request) go m m m' a a b old was new now new now reply r
      (over_with (asked (slot_of was.conn) request) m m a old was new now (Ok reply)
      (subst (λ x. Over talk faults (asked (slot_of was.conn) request) m old was m new now (Ok x)) same (only_asked request m old was new now asks)))
      (with_changed (go reply) m m' a b new now r (grows reply) q)
