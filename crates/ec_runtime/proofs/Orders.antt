-- What a statement asks for, and its request over the open connection.
use Rattle.std.proofs.Common.{◌≡◌, ℕ, List, ◌++◌, Some, None, Ok, Err, sym, subst, ◌∙◌}
use Rattle.ec_link.specs.declared.request.Request.{Request}
use Rattle.ec_link.specs.declared.request.Request.TheVariants as request
use Rattle.ec_memory_defs.specs.Memory.{Memory}
use Rattle.ec_transfer_defs.specs.declared.finding.Finding.{Finding}
use Rattle.ec_transfer_defs.specs.declared.finding.Finding.TheVariants as found
use Rattle.ec_transfer_defs.specs.Codes.{code_of, state_of, text_of_finding}
use Rattle.ec_meaning_defs.specs.evaluation.State.{Connection, State}
use Rattle.ec_call_defs.specs.Outcomes.{Text, Field, Outcome, gives, finished, next, with_memory, told_area, raised}
use Rattle.ec_call_defs.specs.Running.{execution, cursor, request_of, prepared_text, found_text}
use Rattle.ec_runtime.specs.declared.stop.Stop.{Stop}
use Rattle.ec_runtime.specs.declared.stop.Stop.TheVariants as stops
use Rattle.ec_runtime.specs.Says.{Quiet}
use Rattle.ec_runtime.specs.Statements.{name_there}

-- ---- a name that is there, or isn't

-- what the library finds wrong ends a part that asks nothing
refused_quietly : {A : Type 0} (action : State → Outcome A) (line : ℕ) (finding : Finding) (m m' : Memory) (stop : Stop)
    → ((s : State) → action (with_memory m s) ≡ raised {A = A} line finding (with_memory m s))
    → m' ≡ told_area (code_of finding) (state_of finding) (text_of_finding finding) line m → stop ≡ stops.Finished → Quiet {A = A} (Err stop) action m m'
refused_quietly {A} action line finding m m' stop h told is =
    subst (λ x. Quiet {A = A} (Err x) action m m') (sym is) (λ s. h s ∙ (λ j. finished (with_memory (sym told j) s)))

module _ (line : ℕ) (name : Text) (c : Connection) (m : Memory) where
  abbrev Told : Memory → Type 0
  Told m' = m' ≡ told_area (code_of found.NoStatement) (state_of found.NoStatement) (text_of_finding found.NoStatement) line m

  module _ (m' : Memory) (stop : Stop) (none : prepared_text name c.prepared ≡ None) (told : Told m') (is : stop ≡ stops.Finished) where
    pub no_execution : Quiet {A = List Field → Request} (Err stop) (request_of line (execution name) c) m m'
    no_execution = refused_quietly (request_of line (execution name) c) line found.NoStatement m m' stop
        (λ s j. found_text line (none j) (λ bytes ps. request.Exec name ps) (with_memory m s)) told is

    pub no_cursor : (head : Text) → Quiet {A = List Field → Request} (Err stop) (request_of line (cursor head name) c) m m'
    no_cursor head = refused_quietly (request_of line (cursor head name) c) line found.NoStatement m m' stop
        (λ s j. found_text line (none j) (λ bytes ps. request.Text (head ++ bytes) ps) (with_memory m s)) told is

    pub no_name : Quiet {A = Unit {0}} (Err stop) (name_there line name c) m m'
    no_name = refused_quietly (name_there line name c) line found.NoStatement m m' stop
        (λ s j. next {A = Text} (found_text line (none j) (λ bytes. bytes) (with_memory m s)) (λ _ t. gives tt t)) told is

  module _ (bytes : Text) (some : prepared_text name c.prepared ≡ Some bytes) where
    pub executes : Quiet (Ok (λ (params : List Field). request.Exec name params)) (request_of line (execution name) c) m m
    executes = λ s j. found_text line (some j) (λ b ps. request.Exec name ps) (with_memory m s)

    pub opens : (head both : Text) → both ≡ head ++ bytes → Quiet (Ok (λ (params : List Field). request.Text both params)) (request_of line (cursor head name) c) m m
    opens head both e = λ s.
        (λ j. found_text line (some j) (λ b ps. request.Text (head ++ b) ps) (with_memory m s))
        ∙ (λ j. gives (λ (params : List Field). request.Text (sym e j) params) (with_memory m s))

    pub is_there : Quiet (Ok (tt {0})) (name_there line name c) m m
    is_there = λ s j. next {A = Text} (found_text line (some j) (λ b. b) (with_memory m s)) (λ _ t. gives tt t)
