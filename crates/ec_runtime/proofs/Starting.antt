-- What is read first, and the connection that is found.
use Rattle.std.proofs.Common.{◌≡◌, ℕ, List, [], map, Option, Some, None, Ok, Err, refl, sym, subst, ap, ◌∙◌}
use Rattle.std.specs.Prelude.{option_and_then}
use Rattle.ec_memory_defs.specs.Memory.{Memory, text_at}
use Rattle.ec_transfer_defs.specs.declared.finding.Finding.TheVariants as found
use Rattle.ec_transfer_defs.specs.Codes.{code_of, state_of, text_of_finding}
use Rattle.ec_meaning_defs.specs.evaluation.State.{Connection, State}
use Rattle.ec_call_defs.specs.Growth.{Grows}
use Rattle.ec_call_defs.specs.Outcomes.{Text, Field, Outcome, gives, finished, over, next, with_memory, fresh_area, told_area, raised}
use Rattle.ec_call_defs.specs.Connections.{connection_named, connection_of, found_connection, connection_for}
use Rattle.ec_call_defs.specs.Inputs.{given_read}
use Rattle.ec_runtime.specs.declared.call.Statement.{Statement}
use Rattle.ec_runtime.specs.declared.inputs.GivenText.{GivenText}
use Rattle.ec_runtime.specs.declared.inputs.GivenText.TheVariants as givens
use Rattle.ec_runtime.specs.declared.inputs.Input.{Input}
use Rattle.ec_runtime.specs.declared.order.Order.{Order}
use Rattle.ec_runtime.specs.declared.order.What.{What}
use Rattle.ec_runtime.specs.declared.stop.Stop.{Stop}
use Rattle.ec_runtime.specs.declared.stop.Stop.TheVariants as stops
use Rattle.ec_runtime.specs.Does.{Seen, placed, Does}
use Rattle.ec_runtime.specs.Reading.{given_view, input_view, values_read}
use Rattle.ec_runtime.specs.Says.{Says, Quiet}
use Rattle.ec_runtime.specs.Seeking.{sought}
use Rattle.ec_runtime.specs.Statements.{area_read, reached, wanted_read, statement_read}
use Rattle.ec_runtime.proofs.Grows.{same_front, trying_grows}
use Rattle.ec_runtime.proofs.Joining.{quiet, same_action}
use Rattle.ec_runtime.proofs.Targets.{stopped_next}

-- ---- what only adds

pub given_grows : (given : GivenText) → Grows (given_read (given_view given))
given_grows (givens.Word bytes) s = same_front s.conversation
given_grows (givens.Held at) s = trying_grows (text_at s.memory at.0) s

-- what is asked for with the values
abbrev pub with_area : Option GivenText → What → List Field → State → Outcome Order
with_area given what params u = next (area_read given u) (λ name v. gives (record { what = what; params = params; area = name }) v)

abbrev pub with_values : Statement → What → State → Outcome Order
with_values it what t = next (values_read (map input_view it.ins) t) (λ params u. with_area it.area what params u)

-- two parts that follow one are what follows it
pub next_next : {A B C : Type 0} (o : Outcome A) (go : A → State → Outcome B) (more : B → State → Outcome C) → next (next o go) more ≡ next o (λ a s. next (go a s) more)
next_next (gives a s) go more = refl
next_next (finished s) go more = refl
next_next (over halt s) go more = refl

-- ---- the connection

-- it is the one that is sought
pub connection_sought : (line : ℕ) (name : Option Text) (s : State) → connection_for line name s ≡ found_connection line (sought name s.current s.connections) s
connection_sought line None s = go s.current
  where
    go : (o : Option Text) → connection_of line o s ≡ found_connection line (option_and_then (λ wanted. connection_named wanted s.connections) o) s
    go None = refl
    go (Some name) = refl
connection_sought line (Some name) s = refl

-- a memory, and these connections
abbrev pub only : Memory → List Connection → Option Text → Seen
only m cs current = record { memory = m; connections = cs; current = current }

module _ (line : ℕ) (name : Option Text) (m m1 : Memory) (cs : List Connection) (current : Option Text) (area : m1 ≡ fresh_area m) where
  -- with this area it is reached
  pub reached_there : (c : Connection) → sought name current cs ≡ Some c → Does (reached line name) (only m cs current) (only m1 cs current) [] (Ok c)
  reached_there c e =
      subst (λ a. Does (reached line name) (only m cs current) (only a cs current) [] (Ok c)) (sym area)
      (same_action (reached line name) (λ s. gives c s) (only m cs current) (only (fresh_area m) cs current) (only (fresh_area m) cs current) [] (Ok c)
      (λ s answers. connection_sought line name (placed (only (fresh_area m) cs current) answers s) ∙ (λ j. found_connection line (e j) (placed (only (fresh_area m) cs current) answers s)))
      (quiet (λ s. gives c s) (only (fresh_area m) cs current) (fresh_area m) (Ok c) (λ s. same_front s.conversation) (λ s. refl)))

  -- there is none, and a code ends the call
  pub reached_nowhere : (m' : Memory) (stop : Stop) → sought name current cs ≡ None → m' ≡ told_area (code_of found.NoConnection) (state_of found.NoConnection) (text_of_finding found.NoConnection) line m1 → stop ≡ stops.Finished
      → Does {A = Connection} (reached line name) (only m cs current) (only m' cs current) [] (Err stop)
  reached_nowhere m' stop e told is =
      subst (λ x. Does {A = Connection} (reached line name) (only m cs current) (only m' cs current) [] (Err x)) (sym is)
      (subst (λ a. Does {A = Connection} (reached line name) (only m cs current) (only a cs current) [] (Err stops.Finished)) (sym (told ∙ ap (told_area (code_of found.NoConnection) (state_of found.NoConnection) (text_of_finding found.NoConnection) line) area))
      (same_action (reached line name) (raised line found.NoConnection) (only m cs current) (only (fresh_area m) cs current) (only _ cs current) [] (Err stops.Finished)
      (λ s answers. connection_sought line name (placed (only (fresh_area m) cs current) answers s) ∙ (λ j. found_connection line (e j) (placed (only (fresh_area m) cs current) answers s)))
      (quiet (raised line found.NoConnection) (only (fresh_area m) cs current) _ (Err stops.Finished) (λ s. same_front s.conversation) (λ s. refl))))

-- ---- what a statement reads

pub wanted_stops : (it : Statement) (m : Memory) (stop : Stop) → Quiet {A = What} (Err stop) (wanted_read it.wanted) m m → Quiet {A = Order} (Err stop) (statement_read it) m m
wanted_stops it m stop q s = stopped_next stop (wanted_read it.wanted (with_memory m s)) (with_memory m s) (λ what t. with_values it what t) (q s)

module _ (it : Statement) (lent : List Input) (m : Memory) (what : What) (e : lent ≡ it.ins) (read : Quiet (Ok what) (wanted_read it.wanted) m m) where
  read_first : (s : State) → statement_read it (with_memory m s) ≡ with_values it what (with_memory m s)
  read_first s = λ j. next (read s j) (λ x t. with_values it x t)

  pub reading_stops : (stop : Stop) → Quiet {A = List Field} (Err stop) (values_read (map input_view lent)) m m → Quiet {A = Order} (Err stop) (statement_read it) m m
  reading_stops stop q s =
      subst (λ o. Says {A = Order} (Err stop) o (with_memory m s)) (sym (read_first s))
      (stopped_next stop (values_read (map input_view it.ins) (with_memory m s)) (with_memory m s) (λ params t. with_area it.area what params t)
      (subst (λ x. Quiet {A = List Field} (Err stop) (values_read (map input_view x)) m m) e q s))

  module _ (params : List Field) (given : Quiet (Ok params) (values_read (map input_view lent)) m m) where
    read_values : (s : State) → statement_read it (with_memory m s) ≡ with_area it.area what params (with_memory m s)
    read_values s = read_first s ∙ (λ j. next (subst (λ x. Quiet (Ok params) (values_read (map input_view x)) m m) e given s j) (λ fields t. with_area it.area what fields t))

    pub naming_stops : (stop : Stop) → Quiet {A = Option Text} (Err stop) (area_read it.area) m m → Quiet {A = Order} (Err stop) (statement_read it) m m
    naming_stops stop q s =
        subst (λ o. Says {A = Order} (Err stop) o (with_memory m s)) (sym (read_values s))
        (stopped_next stop (area_read it.area (with_memory m s)) (with_memory m s) (λ called t. gives (record { what = what; params = params; area = called }) t) (q s))

    pub reading_gives : (called : Option Text) → Quiet (Ok called) (area_read it.area) m m → Quiet (Ok (record { what = what; params = params; area = called })) (statement_read it) m m
    reading_gives called q s = read_values s ∙ (λ j. next (q s j) (λ own t. gives (record { what = what; params = params; area = own }) t))
