-- Machines that share a rack.
use Rattle.std.proofs.Common.{◌≡◌, ◌∙◌, ap, sym, subst, ℕ, List, [], ◌∷◌, ◌++◌, length}
use Rattle.std.proofs.lemmas.Option.{slice_get-map}
use Rattle.std.specs.Option.{option_map}
use Rattle.std.specs.Prelude.{slice_get}
use Rattle.ec_calling.specs.Making.{going_of, known_at}
use Rattle.ec_interp.specs.Stepping.{IsAsking}
use Rattle.ec_link.specs.declared.connection.Conn.{Conn}
use Rattle.ec_link.specs.declared.logged.Logged.{Logged}
use Rattle.ec_link.specs.declared.rack.Rack.{Rack}
use Rattle.ec_link.specs.declared.slot.Slot.{Slot}
use Rattle.ec_link.specs.Conn.{slot_of}
use Rattle.ec_link.specs.Rack.{log_of, slots_of}
use Rattle.ec_link.specs.Slot.{state_of, states}
use Rattle.ec_runtime.specs.Calling.{conns_of}
use Rattle.ec_runtime.specs.Racks.{AllTaken}
use Rattle.ec_stopping_defs.proofs.Staying.{stays, still_within}
use Rattle.ec_stopping_defs.specs.Places.{AllWithin}
use Rattle.ec_stepper.specs.declared.machine.Machine.{Machine}
use Rattle.ec_stepper.specs.declared.standing.Standing.{Standing}
use Rattle.ec_stepper.specs.declared.standing.Standing.TheVariants as standing
use Rattle.ec_stepper.specs.Advancing.{SparesOthers}
use Rattle.ec_stepper.specs.Ready.{ready_view}
use Rattle.ec_stepper.specs.Running.{IsOf, StandsAt, StandsBefore, opening, step_of}
use Rattle.ec_stepper.specs.Sharing.{AreApart, StandsStill}

-- what stands at a place of a list, by what stands there in its image
states_same : {X : Type 0} {F : X → Type 0} (old new : List (Slot X F)) (i : ℕ) → slice_get new i ≡ slice_get old i → slice_get (states new) i ≡ slice_get (states old) i
states_same old new i e = slice_get-map state_of new i ∙ ap (option_map state_of) e ∙ sym (slice_get-map state_of old i)

module _ {X : Type 0} {F : X → Type 0} where
  -- ---- the log grows

  still_before : (log more : List Logged) (m : Machine X F) → AllWithin (length log) m.places → StandsBefore log m → StandsBefore (log ++ more) m
  still_before log more m w s =
      subst (λ l. IsAsking (step_of m) m.run.program.now m.turns (opening (ready_view m.ready)) l (known_at l m.library) (going_of m.library) m.run.frames) (sym (stays log more m.places w)) s

  still_at : (z : Standing) (log more : List Logged) (m : Machine X F) → AllWithin (length log) m.places → StandsAt z log m → StandsAt z (log ++ more) m
  still_at standing.New log more m w s = s
  still_at standing.Begun log more m w s = s
  still_at standing.Asks log more m w s = still_before log more m w s
  still_at standing.Ended log more m w s = s
  still_at standing.Released log more m w s = s

  still_of : (log more : List Logged) (m : Machine X F) → IsOf log m → IsOf (log ++ more) m
  still_of log more m s = record {
    stands = still_at m.standing log more m s.within s.stands;
    within = still_within log more m.places s.within;
    fits = s.fits;
    named = s.named;
    few = s.few;
  }

  -- ---- slots

  module _ (old new : Rack X F) (was now : List (Conn X F)) (s : SparesOthers old was new now) where
    still_taken : (conns : List (Conn X F)) → AllTaken (states (slots_of old)) conns → AreApart conns was → AllTaken (states (slots_of new)) conns
    still_taken [] t a = tt
    still_taken (conn ∷ conns) t a =
        let r = s.stay (slot_of conn) t.0 a.0 in
        ((t.0.0, states_same (slots_of old) (slots_of new) (slot_of conn) r.1 ∙ t.0.1), t.1, still_taken conns t.2 a.1)

    still_apart : (conns : List (Conn X F)) → AllTaken (states (slots_of old)) conns → AreApart conns was → AreApart conns now
    still_apart [] t a = tt
    still_apart (conn ∷ conns) t a = ((s.stay (slot_of conn) t.0 a.0).0, still_apart conns t.2 a.1)

  pub stands_still : (m : Machine X F) (old : Rack X F) → StandsStill m old
  stands_still m old new was now growth e s b = record {
    of = subst (λ l. IsOf l m) (sym e) (still_of (log_of old) growth m b.of);
    holds = record {
      taken = still_taken old new was now s (conns_of m.library.connections) b.holds.taken b.apart;
      named = b.holds.named;
    };
    apart = still_apart old new was now s (conns_of m.library.connections) b.holds.taken b.apart;
  }
