-- Where the run of a machine stands.
use Rattle.std.specs.Prelude.{◌≡◌, ◌<◌, ◌^◌, ℕ, List, [], length, Option, None, map}
use Rattle.ec_call_defs.specs.Steps.{library_step}
use Rattle.ec_calling.specs.Making.{going_of, known_at, session_at}
use Rattle.ec_calling.specs.Views.{call_view}
use Rattle.ec_code.specs.Views.{program_view}
use Rattle.ec_interp.specs.Stepping.{IsAsking, IsNew}
use Rattle.ec_interp.specs.running.Sessions.{Session}
use Rattle.ec_link.specs.declared.logged.Logged.{Logged}
use Rattle.ec_meaning_defs.specs.evaluation.Evaluate.{Step as Knowing}
use Rattle.ec_meaning_defs.specs.evaluation.Whole.{Observed, program_meaning, ready_connections, ready_name}
use Rattle.ec_meaning_defs.specs.observed.Observed.{answers_in}
use Rattle.ec_runtime.specs.Calling.{AllNamed, connections_of, conns_of}
use Rattle.ec_runtime.specs.Proceeding.{IsFit, left_of, waiting_of}
use Rattle.ec_stopping_defs.specs.Places.{AllWithin, at_places}
use Rattle.ec_stepper.specs.declared.machine.Machine.{Machine}
use Rattle.ec_stepper.specs.declared.standing.Standing.{Standing}
use Rattle.ec_stepper.specs.declared.standing.Standing.TheVariants as standing
use Rattle.ec_stepper.specs.Ready.{ready_view}

-- what is known of a run that begins over this slot and this name, or over none
abbrev pub opening : Option (ℕ × List ℕ) → Session
opening ready = record {
  connections = ready_connections ready;
  current = ready_name ready;
  descriptors = [];
  log = [];
}

module _ {X : Type 0} {F : X → Type 0} where
  -- the step by which the machine's program makes its calls
  abbrev pub step_of : Machine X F → Knowing
  step_of m = library_step (map call_view m.calls.now)

  -- what its program means, over the answers to these exchanges
  abbrev pub meaning_over : Machine X F → List Logged → Observed
  meaning_over m said =
      program_meaning (step_of m) (program_view m.run.program.now) m.turns (ready_view m.ready)
      (answers_in said)

  -- the exchanges of a log that are its own
  abbrev pub said_in : List Logged → Machine X F → List Logged
  said_in log m = at_places log m.places

  -- how many requests the call that waits makes at most
  abbrev pub requests_of : Machine X F → ℕ
  requests_of m = left_of (waiting_of m.library)

  -- it wasn't begun
  pub record IsFresh (m : Machine X F) : Type 0 where
    pub standing : m.standing ≡ standing.New
    pub run : IsNew m.run
    pub unsaid : m.places ≡ []
    pub connections : conns_of m.library.connections ≡ []
    pub descriptors : m.library.areas ≡ []
    pub under_way : m.library.under_way ≡ None

  -- it made no step yet: its library is connected as at the beginning of the run
  pub record IsBegun (m : Machine X F) : Type 0 where
    pub run : IsNew m.run
    pub unsaid : m.places ≡ []
    pub opened : session_at [] m.library ≡ opening (ready_view m.ready)
    pub under_way : m.library.under_way ≡ None

  -- its state is one of the run of its program over the answers to its exchanges, and a request waits
  abbrev pub StandsBefore : List Logged → Machine X F → Type 0
  StandsBefore log m =
      IsAsking (step_of m) m.run.program.now m.turns (opening (ready_view m.ready)) (said_in log m)
      (known_at (said_in log m) m.library) (going_of m.library) m.run.frames

  -- it was begun and may be gone on with
  abbrev pub StandsAt : Standing → List Logged → Machine X F → Type 0
  StandsAt standing.New log m = ⊥
  StandsAt standing.Begun log m = IsBegun m
  StandsAt standing.Asks log m = StandsBefore log m
  StandsAt standing.Ended log m = ⊥
  StandsAt standing.Released log m = ⊥

  -- The machine was begun and not released, its last step wasn't the end, and its state is one of its run over the answers
  -- to its exchanges, whose places lie in the log.
  pub record IsOf (log : List Logged) (m : Machine X F) : Type 0 where
    pub stands : StandsAt m.standing log m
    pub within : AllWithin (length log) m.places
    pub fits : IsFit m.library
    pub named : AllNamed (connections_of m.library.connections)
    pub few : requests_of m < 2 ^ 64
