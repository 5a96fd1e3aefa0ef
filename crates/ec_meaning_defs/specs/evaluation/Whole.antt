-- A whole run: the objects of the program are made, and its first `main` is run. This costs no turn.
use Rattle.std.specs.Prelude.{ℕ, true, List, [], ◌∷◌, slice_get, Option, Some, None}
use Rattle.ec_link.specs.declared.logged.Logged.{Logged}
use Rattle.ec_link.specs.declared.reply.Tx.TheVariants.{Idle}
use Rattle.ec_memory_defs.specs.Cells.{set_cells}
use Rattle.ec_memory_defs.specs.Memory.{Memory, with_object}
use Rattle.ec_meaning_defs.specs.resolved.Programs.{Function, Program, opening_objects}
use Rattle.ec_meaning_defs.specs.evaluation.State.{Answer, Connection, State, Ending, stuck}
use Rattle.ec_meaning_defs.specs.evaluation.Results.{Res, value, on, broke, continued, went, back, over, tried, made, finished}
use Rattle.ec_meaning_defs.specs.evaluation.Evaluate.{World, Step}
use Rattle.ec_meaning_defs.specs.evaluation.Execute.{body_run, in_function, meaning}

-- objects with these bytes are made, in order, on line 1
abbrev pub opened : List (List ℕ) → State → (State → Res) → Res
opened [] s k = k s
opened (bytes ∷ more) s k =
    tried 1 (with_object s.memory (set_cells bytes)) s (λ r.
    opened more (record s { memory = r.1 }) k)

-- the first `main`, whose objects stay alive when it ends the run
abbrev pub main_run : Step → World → Option Function → State → Res
main_run step w None s = over stuck s
main_run step w (Some f) s =
    finished f.otherwise (made 1 f.objects [] s (λ objects t.
    body_run step w (in_function 1 objects true) f t))

-- a program from a state, with tasks of at most so many turns
abbrev pub whole_within : Step → Program → ℕ → State → Res
whole_within step p n s =
    opened (opening_objects p) s (λ t.
    main_run step (meaning step p.functions n) (slice_get p.functions p.main) t)

-- a program from a state, with the turns that the state has
abbrev pub whole : Step → Program → State → Res
whole step p s = whole_within step p s.turns s

-- a connection that is open when the run begins: autocommit is on, and the server is in no transaction
abbrev pub ready_connections : Option (ℕ × List ℕ) → List Connection
ready_connections None = []
ready_connections (Some r) = record {
  name = r.1;
  slot = r.0;
  autocommit = true;
  told = Idle;
  prepared = [];
} ∷ []

abbrev pub ready_name : Option (ℕ × List ℕ) → Option (List ℕ)
ready_name None = None
ready_name (Some r) = Some r.1

-- the state in which a run begins: with a slot and a name that are connected, or none, the answers that will come, and its turns
abbrev pub opening_state : Option (ℕ × List ℕ) → List Answer → ℕ → State
opening_state ready answers turns = record {
  memory = [];
  output = [];
  errors = [];
  connections = ready_connections ready;
  current = ready_name ready;
  descriptors = [];
  conversation = [];
  answers = answers;
  turns = turns;
}

-- what is seen of a run
pub record Observed : Type 0 where
  pub conversation : List Logged
  pub output : List ℕ
  pub errors : List ℕ
  pub memory : Memory
  pub ending : Ending

abbrev pub seen : Ending → State → Observed
seen e s = record {
  conversation = s.conversation;
  output = s.output;
  errors = s.errors;
  memory = s.memory;
  ending = e;
}

abbrev pub observed : Res → Observed
observed (value v s) = seen stuck s
observed (on s) = seen stuck s
observed (broke s) = seen stuck s
observed (continued s) = seen stuck s
observed (went l s) = seen stuck s
observed (back v s) = seen stuck s
observed (over e s) = seen e s

-- what a program means, with a step for the statements that only it knows
abbrev pub program_meaning : Step → Program → ℕ → Option (ℕ × List ℕ) → List Answer → Observed
program_meaning step p turns ready answers =
    observed (whole step p (opening_state ready answers turns))

-- the step of programs that have none of these
abbrev pub without_atoms : Step
without_atoms w c a s = over stuck s
