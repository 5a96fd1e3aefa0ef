-- A step of a machine, by what the run of its program did over a session.
use Rattle.std.proofs.Common.{◌≡◌, ◌∙◌, ◌<◌, ◌^◌, refl, sym, ap, subst, inl, inr, ℕ, List, [], ◌∷◌, ◌++◌, length, append-nil, map, Option, Some}
use Rattle.std.proofs.lemmas.List.{append_cancel_left}
use Rattle.std.specs.declared.alloc.Global.{Global}
use Rattle.std.specs.declared.dyn_box.DynBox.{DynBox}
use Rattle.ec_call_defs.specs.Steps.{library_step}
use Rattle.ec_calling.proofs.Noting.{heard_so}
use Rattle.ec_calling.specs.declared.call.Call.{Call}
use Rattle.ec_calling.specs.Leading.{places_of}
use Rattle.ec_calling.specs.Making.{going_of, known_of, session_at}
use Rattle.ec_calling.specs.Views.{call_view}
use Rattle.ec_code.specs.Views.{program_view}
use Rattle.ec_interp.proofs.Stepping.{few_first, few_left}
use Rattle.ec_interp.specs.declared.end.RunEnd.TheVariants as end
use Rattle.ec_interp.specs.declared.end.Step.{Step}
use Rattle.ec_interp.specs.declared.end.Step.TheVariants as step
use Rattle.ec_interp.specs.declared.machine.Machine.{Machine as Run}
use Rattle.ec_interp.specs.Ends.{halt_of}
use Rattle.ec_interp.specs.Stepping.{IsAsking, Shows, Steps}
use Rattle.ec_interp.specs.running.LibraryRuns.{HaltsOnce, Nears, TakesTurn}
use Rattle.ec_interp.specs.running.Sessions.{OneMore, SameLog, Session}
use Rattle.ec_link.specs.declared.logged.Logged.{Logged}
use Rattle.ec_link.specs.declared.rack.Rack.{Rack}
use Rattle.ec_link.specs.Logged.{Talk}
use Rattle.ec_link.specs.Rack.{log_of}
use Rattle.ec_meaning_defs.specs.evaluation.Whole.{program_meaning}
use Rattle.ec_meaning_defs.specs.observed.Observed.{answers_in}
use Rattle.ec_runtime.specs.Calling.{Holds, conns_of}
use Rattle.ec_runtime.specs.Proceeding.{IsFit, asked_of, left_of, waiting_of}
use Rattle.ec_runtime.specs.Racks.{Moves}
use Rattle.ec_runtime.specs.declared.library.Library.{Library}
use Rattle.ec_stopping_defs.specs.Places.{AllWithin, at_places}
use Rattle.ec_stepper.specs.declared.machine.Machine.{Machine}
use Rattle.ec_stepper.specs.declared.standing.Standing.{Standing}
use Rattle.ec_stepper.specs.declared.standing.Standing.TheVariants as standing
use Rattle.ec_stepper.specs.Advancing.{Advances, Nearer, Reaches, Says, SaysOnce, before}
use Rattle.ec_stepper.specs.Ready.{ready_view}
use Rattle.ec_stepper.specs.Running.{IsBegun, IsOf, StandsAt, StandsBefore, meaning_over, opening, said_in, step_of}
use Rattle.ec_stepper.specs.Standing.{standing_behind}
use Rattle.ec_stepper.proofs.Others.{others_stay, others_were}

-- ---- what was said

module _ (x y : Session) (growth : List Logged) (grew : y.log ≡ x.log ++ growth) where
  pub said_none : SameLog (Some x) (Some y) → growth ≡ []
  said_none e = append_cancel_left x.log growth [] (sym grew ∙ e ∙ sym (append-nil x.log))

  said_one : OneMore (Some x) (Some y) → (e : Logged) × (growth ≡ e ∷ [])
  said_one (e, i) = (e, append_cancel_left x.log growth (e ∷ []) (sym grew ∙ i))

  pub said_once : (result : Step) → HaltsOnce (halt_of result) (Some x) (Some y) → SaysOnce result growth
  said_once step.Asks h = said_one h
  said_once (step.Ended (end.Exited n)) h = said_one h
  said_once (step.Ended (end.Trapped trap line)) h = said_one h
  said_once (step.Ended end.TurnsSpent) h = said_one h
  said_once (step.Ended end.Stuck) h = said_one h
  said_once (step.Ended end.WriteFault) h = said_one h
  said_once (step.Ended end.OutOfMemory) (inl h) = inr (said_one h)
  said_once (step.Ended end.OutOfMemory) (inr h) = inl (said_none h)

-- ---- where it stands behind a step

module _ {X : Type 0} {F : X → Type 0} (talk : DynBox X Global F → Option Talk) (faults : DynBox X Global F → ℕ) {O E : Type 0} (held : O → Option (List ℕ)) (puts : O → ℕ) (told : E → Option (List ℕ)) (tells : E → ℕ)
    (m : Machine X F) (rack rack' : Rack X F) (run : Run) (library : Library X F) (places : List ℕ) (behind : Standing) (out out' : O) (err err' : E) (result : Step) where
  -- the machine behind it
  abbrev moved : Machine X F
  moved = record m { run = run; library = library; places = places; standing = behind }

  module _ (output errors : Option (ℕ × List ℕ) → List ℕ) (said : List Logged)
      (s : Steps held puts told tells (step_of m) m.run.program.now m.turns (opening (ready_view m.ready)) said output errors (known_of rack' library places) (going_of library) (asked_of (waiting_of library)) out out' err err' run.frames result)
      (program : run.program.now ≡ m.run.program.now) (stands : behind ≡ standing_behind result) (within : AllWithin (length (log_of rack')) places) (fits : IsFit library) (holds : Holds library.connections rack') (few : result ≡ step.Asks → left_of (waiting_of library) < 2 ^ 64) where
    all_said : said ++ s.growth ≡ said_in (log_of rack') moved
    all_said = sym s.is_said

    shown : Shows held puts told tells out out' err err' (output (ready_view m.ready)) (errors (ready_view m.ready)) (meaning_over m (said_in (log_of rack') moved)) (said_in (log_of rack') moved) run.frames.store (asked_of (waiting_of library)) result
    shown = subst (λ l. Shows held puts told tells out out' err err' (output (ready_view m.ready)) (errors (ready_view m.ready)) (meaning_over m l) l run.frames.store (asked_of (waiting_of library)) result) all_said (s.shows (ready_view m.ready) (refl, refl, refl))

    waits : result ≡ step.Asks → StandsBefore (log_of rack') moved
    waits e =
        subst (λ p. IsAsking (step_of m) p m.turns (opening (ready_view m.ready)) (said_in (log_of rack') moved) (known_of rack' library places) (going_of library) run.frames) (sym program)
        (subst (λ l. IsAsking (step_of m) m.run.program.now m.turns (opening (ready_view m.ready)) l (known_of rack' library places) (going_of library) run.frames) all_said (s.stands e))

    goes_on : result ≡ step.Asks → IsOf (log_of rack') moved
    goes_on e = record {
      stands = subst (λ z. StandsAt z (log_of rack') moved) (sym (stands ∙ ap standing_behind e)) (waits e);
      within = within;
      fits = fits;
      named = holds.named;
      few = few e;
    }

    pub reached : (growth : List Logged) → places ≡ m.places ++ places_of (length (log_of rack)) growth → Moves talk faults rack (conns_of m.library.connections) rack' (conns_of library.connections) growth
        → output (ready_view m.ready) ≡ before m.standing (meaning_over m (said_in (log_of rack) m)).output → errors (ready_view m.ready) ≡ before m.standing (meaning_over m (said_in (log_of rack) m)).errors
        → Reaches talk faults held puts told tells m rack moved rack' out out' err err' result
    reached growth noted moves o e = record {
      growth = growth;
      noted = noted;
      moves = moves;
      spares = record {
        stay = others_stay talk faults rack rack' (conns_of m.library.connections) (conns_of library.connections) growth moves;
        were = others_were talk faults rack rack' (conns_of m.library.connections) (conns_of library.connections) growth moves;
      };
      shows = subst (λ p. Shows held puts told tells out out' err err' p (before m.standing (meaning_over m (said_in (log_of rack) m)).errors) (meaning_over m (said_in (log_of rack') moved)) (said_in (log_of rack') moved) run.frames.store (asked_of (waiting_of library)) result) o
          (subst (λ p. Shows held puts told tells out out' err err' (output (ready_view m.ready)) p (meaning_over m (said_in (log_of rack') moved)) (said_in (log_of rack') moved) run.frames.store (asked_of (waiting_of library)) result) e shown);
      same = record { program = program; calls = refl; turns = refl; ready = refl };
      standing = stands;
      of = goes_on;
      fits = fits;
      holds = holds;
    }

-- ---- what a session begins with

module _ {X : Type 0} {F : X → Type 0} (m : Machine X F) (rack : Rack X F) (calls₀ : List Call) (rack₀ : Rack X F) (library₀ : Library X F) (places₀ : List ℕ)
    (calls : calls₀ ≡ m.calls.now) (racks : rack₀ ≡ rack) (libraries : library₀ ≡ m.library) (places : places₀ ≡ m.places) where
  same_known : known_of rack₀ library₀ places₀ ≡ known_of rack m.library m.places
  same_known = λ j. known_of (racks j) (libraries j) (places j)

  -- at the beginning of a run
  pub known_first : IsBegun m → known_of rack₀ library₀ places₀ ≡ Some (opening (ready_view m.ready))
  known_first b = same_known ∙ (λ j. known_of rack m.library (b.unsaid j)) ∙ ap Some b.opened

  -- before a request
  pub asks_there : StandsBefore (log_of rack) m
      → IsAsking (library_step (map call_view calls₀)) m.run.program.now m.turns (opening (ready_view m.ready)) (said_in (log_of rack) m) (known_of rack₀ library₀ places₀) (going_of library₀) m.run.frames
  asks_there s =
      subst (λ c. IsAsking (library_step (map call_view c)) m.run.program.now m.turns (opening (ready_view m.ready)) (said_in (log_of rack) m) (known_of rack₀ library₀ places₀) (going_of library₀) m.run.frames) (sym calls)
      (subst (λ l. IsAsking (step_of m) m.run.program.now m.turns (opening (ready_view m.ready)) (said_in (log_of rack) m) (known_of rack₀ library₀ places₀) (going_of l) m.run.frames) (sym libraries)
      (subst (λ k. IsAsking (step_of m) m.run.program.now m.turns (opening (ready_view m.ready)) (said_in (log_of rack) m) k (going_of m.library) m.run.frames) (sym same_known) s))

-- where a machine was begun, and where one waits
pub is_begun : {X : Type 0} {F : X → Type 0} (m : Machine X F) (log : List Logged) → m.standing ≡ standing.Begun → StandsAt m.standing log m → IsBegun m
is_begun m log e s = subst (λ z. StandsAt z log m) e s

pub is_asking : {X : Type 0} {F : X → Type 0} (m : Machine X F) (log : List Logged) → m.standing ≡ standing.Asks → StandsAt m.standing log m → StandsBefore log m
is_asking m log e s = subst (λ z. StandsAt z log m) e s

-- ---- steps over a session

-- the nothing that is shown before the first
abbrev nothing : Option (ℕ × List ℕ) → List ℕ
nothing ready = []

module _ {X : Type 0} {F : X → Type 0} (talk : DynBox X Global F → Option Talk) (faults : DynBox X Global F → ℕ) {O E : Type 0} (held : O → Option (List ℕ)) (puts : O → ℕ) (told : E → Option (List ℕ)) (tells : E → ℕ)
    (m : Machine X F) (rack : Rack X F) (out out' : O) (err err' : E) (result : Step)
    (calls₀ : List Call) (rack₀ : Rack X F) (library₀ : Library X F) (places₀ : List ℕ)
    (calls : calls₀ ≡ m.calls.now) (racks : rack₀ ≡ rack) (libraries : library₀ ≡ m.library) (places : places₀ ≡ m.places)
    (rack' : Rack X F) (run : Run) (library : Library X F) (places' : List ℕ) (behind : Standing)
    (of : IsOf (log_of rack) m) (program : run.program.now ≡ m.run.program.now) (stands : behind ≡ standing_behind result)
    (within : AllWithin (length (log_of rack')) places') (fits : IsFit library) (holds : Holds library.connections rack')
    (growth : List Logged) (moves₀ : Moves talk faults rack₀ (conns_of library₀.connections) rack' (conns_of library.connections) growth) (noted₀ : places' ≡ places₀ ++ places_of (length (log_of rack₀)) growth) where
  moves : Moves talk faults rack (conns_of m.library.connections) rack' (conns_of library.connections) growth
  moves =
      subst (λ r. Moves talk faults r (conns_of m.library.connections) rack' (conns_of library.connections) growth) racks
      (subst (λ l. Moves talk faults rack₀ (conns_of l.connections) rack' (conns_of library.connections) growth) libraries moves₀)

  noted : places' ≡ m.places ++ places_of (length (log_of rack)) growth
  noted = noted₀ ∙ (λ j. places j ++ places_of (length (log_of (racks j))) growth)

  -- what is known of it, before and behind
  abbrev old : Session
  old = session_at (at_places (log_of rack) m.places) m.library

  abbrev new : Session
  new = session_at (at_places (log_of rack') places') library

  grew : new.log ≡ old.log ++ growth
  grew = heard_so (log_of rack) (log_of rack') growth m.places places' of.within moves.logged noted

  known : known_of rack₀ library₀ places₀ ≡ Some old
  known = same_known m rack calls₀ rack₀ library₀ places₀ calls racks libraries places

  abbrev Made : Type 0
  Made = Advances talk faults held puts told tells m rack (record m { run = run; library = library; places = places'; standing = behind }) rack' out out' err err' result

  -- the first one
  pub first_made : m.standing ≡ standing.Begun
      → ((x : Session) → known_of rack₀ library₀ places₀ ≡ Some x → Steps held puts told tells (library_step (map call_view calls₀)) m.run.program.now m.turns x [] nothing nothing (known_of rack' library places') (going_of library) (asked_of (waiting_of library)) out out' err err' run.frames result)
      → SameLog (known_of rack₀ library₀ places₀) (known_of rack' library places')
      → TakesTurn (halt_of result) m.turns run.frames.turns (left_of (waiting_of library)) → Made
  unfolding reached
  first_made e steps quiet turned =
      let begun = is_begun m (log_of rack) e of.stands in
      let s = subst (λ c. Steps held puts told tells (library_step (map call_view c)) m.run.program.now m.turns (opening (ready_view m.ready)) [] nothing nothing (known_of rack' library places') (going_of library) (asked_of (waiting_of library)) out out' err err' run.frames result) calls
      (steps (opening (ready_view m.ready)) (known_first m rack calls₀ rack₀ library₀ places₀ calls racks libraries places begun)) in
      record {
        reaches =
            reached talk faults held puts told tells m rack rack' run library places' behind out out' err err' result nothing nothing [] s program stands within fits holds
            (λ a. few_first result m.turns run.frames.turns (left_of (waiting_of library)) turned a) growth noted moves
            (ap (λ z. before z (meaning_over m (said_in (log_of rack) m)).output) (sym e)) (ap (λ z. before z (meaning_over m (said_in (log_of rack) m)).errors) (sym e));
        says = subst (λ z. Says z result growth) (sym e) (said_none old new growth grew (subst (λ k. SameLog k (Some new)) known quiet));
        nearer = subst (λ z. Nearer z result m (record m { run = run; library = library; places = places'; standing = behind })) (sym e) turned;
      }

  -- a further one
  pub next_made : m.standing ≡ standing.Asks
      → ((turns : ℕ) (x : Session) (said : List Logged) → IsAsking (library_step (map call_view calls₀)) m.run.program.now turns x said (known_of rack₀ library₀ places₀) (going_of library₀) m.run.frames
      → Steps held puts told tells (library_step (map call_view calls₀)) m.run.program.now turns x said
      (λ ready. (program_meaning (library_step (map call_view calls₀)) (program_view m.run.program.now) turns ready (answers_in said)).output) (λ ready. (program_meaning (library_step (map call_view calls₀)) (program_view m.run.program.now) turns ready (answers_in said)).errors)
      (known_of rack' library places') (going_of library) (asked_of (waiting_of library)) out out' err err' run.frames result)
      → HaltsOnce (halt_of result) (known_of rack₀ library₀ places₀) (known_of rack' library places')
      → Nears (halt_of result) m.run.frames.turns run.frames.turns (left_of (waiting_of library₀)) (left_of (waiting_of library)) → Made
  unfolding reached
  next_made e steps once nears =
      let said = said_in (log_of rack) m in
      let output : Option (ℕ × List ℕ) → List ℕ = λ ready. (program_meaning (step_of m) (program_view m.run.program.now) m.turns ready (answers_in said)).output in
      let errors : Option (ℕ × List ℕ) → List ℕ = λ ready. (program_meaning (step_of m) (program_view m.run.program.now) m.turns ready (answers_in said)).errors in
      let s = subst (λ c. Steps held puts told tells (library_step (map call_view c)) m.run.program.now m.turns (opening (ready_view m.ready)) said
      (λ ready. (program_meaning (library_step (map call_view c)) (program_view m.run.program.now) m.turns ready (answers_in said)).output) (λ ready. (program_meaning (library_step (map call_view c)) (program_view m.run.program.now) m.turns ready (answers_in said)).errors)
      (known_of rack' library places') (going_of library) (asked_of (waiting_of library)) out out' err err' run.frames result) calls
      (steps m.turns (opening (ready_view m.ready)) said (asks_there m rack calls₀ rack₀ library₀ places₀ calls racks libraries places (is_asking m (log_of rack) e of.stands))) in
      let near = subst (λ l. Nears (halt_of result) m.run.frames.turns run.frames.turns (left_of (waiting_of l)) (left_of (waiting_of library))) libraries nears in
      record {
        reaches =
            reached talk faults held puts told tells m rack rack' run library places' behind out out' err err' result output errors said s program stands within fits holds
            (λ a. few_left result m.run.frames.turns run.frames.turns (left_of (waiting_of m.library)) (left_of (waiting_of library)) of.few near a) growth noted moves
            (ap (λ z. before z (meaning_over m said).output) (sym e)) (ap (λ z. before z (meaning_over m said).errors) (sym e));
        says = subst (λ z. Says z result growth) (sym e) (said_once old new growth grew result (subst (λ k. HaltsOnce (halt_of result) k (Some new)) known once));
        nearer = subst (λ z. Nearer z result m (record m { run = run; library = library; places = places'; standing = behind })) (sym e) near;
      }

-- what is equal is put in place
pub put_along : {X : Type 0} {F : X → Type 0} (talk : DynBox X Global F → Option Talk) (faults : DynBox X Global F → ℕ) {O E : Type 0} (held : O → Option (List ℕ)) (puts : O → ℕ) (told : E → Option (List ℕ)) (tells : E → ℕ)
    (m : Machine X F) (rack : Rack X F) (out out' : O) (err err' : E) (result : Step) (run : Run) (behind : Standing) {last end : Rack X F} {library library' : Library X F} {places places' : List ℕ}
    → last ≡ end → library ≡ library' → places ≡ places'
    → Advances talk faults held puts told tells m rack (record m { run = run; library = library; places = places; standing = behind }) last out out' err err' result
    → Advances talk faults held puts told tells m rack (record m { run = run; library = library'; places = places'; standing = behind }) end out out' err err' result
put_along talk faults held puts told tells m rack out out' err err' result run behind {last} {end} {library} {library'} {places} {places'} e f g a =
    subst (λ r. Advances talk faults held puts told tells m rack (record m { run = run; library = library'; places = places'; standing = behind }) r out out' err err' result) e
    (subst (λ l. Advances talk faults held puts told tells m rack (record m { run = run; library = l; places = places'; standing = behind }) last out out' err err' result) f
    (subst (λ p. Advances talk faults held puts told tells m rack (record m { run = run; library = library; places = p; standing = behind }) last out out' err err' result) g a))
