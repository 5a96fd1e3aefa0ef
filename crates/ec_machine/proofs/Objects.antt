-- Objects that are made, and those that are not.
use Rattle.std.proofs.Common.{◌≡◌, ◌∙◌, sym, ap, ℕ, ◌+◌, List, [], ◌∷◌, ◌++◌, Ok, Err}
use Rattle.ec_bytes.specs.declared.scalar.address.Ptr.{Ptr}
use Rattle.ec_meaning_defs.specs.evaluation.Results.{Res, over, tried}
use Rattle.ec_meaning_defs.specs.evaluation.State.{State}
use Rattle.ec_memory.specs.declared.store.MakeStop.{MakeStop}
use Rattle.ec_memory.specs.declared.store.MakeStop.TheVariants as makes
use Rattle.ec_memory_defs.specs.Memory.{Memory, make}
use Rattle.ec_plain.specs.Answered.{at, scope_view}
use Rattle.ec_machine.specs.declared.scope.Scope.{Scope}
use Rattle.ec_machine.specs.declared.stop.Stop.{Stop}
use Rattle.ec_machine.specs.declared.stop.Stop.TheVariants as stop
use Rattle.ec_machine.specs.Frames.{objects_of}
use Rattle.ec_machine.specs.Goes.{IsNoRoom, Makes, Stops}
use Rattle.ec_machine.proofs.Moves.{scope_push}

pub object_made : (s : State) (go : List ℕ → State → Res) (sc sc' : Scope) (p : Ptr) (m m' : Memory) (size line : ℕ) → make m size ≡ Ok (p.0, m') → sc' ≡ record { pointers = sc.pointers ++ p ∷ []; count = sc.count + 1 }
    → tried line (make m size) (at s m) (λ r. go (scope_view (objects_of sc) ++ r.0 ∷ []) (at s r.1)) ≡ go (scope_view (objects_of sc')) (at s m')
object_made s go sc sc' p m m' size line i j =
    ap (λ r. tried line r (at s m) (λ r. go (scope_view (objects_of sc) ++ r.0 ∷ []) (at s r.1))) i
    ∙ ap (λ os. go os (at s m')) (sym (scope_push sc sc' p j))

pub makes_err : (line : ℕ) (why : MakeStop) (o o' n n' : Res) (s : State) → o ≡ o' → Makes line (Err why) o' n' s → Makes line (Err why) o n s
makes_err line makes.Spent o o' n n' s p h = p ∙ h
makes_err line makes.OutOfMemory o o' n n' s p h = tt

pub no_room_stops : (line : ℕ) (why : MakeStop) (x : Stop) (o n : Res) (s : State) → Makes line (Err why) o n s → IsNoRoom line why x → Stops x s o
no_room_stops line makes.Spent (stop.Over e) o n s h i = h ∙ ap (λ y. over y s) i
no_room_stops line makes.Spent stop.OutOfMemory o n s h i = tt
no_room_stops line makes.OutOfMemory (stop.Over e) o n s h i = absurd (different e i)
  where
    different : (e : _) → stop.Over e ≡ stop.OutOfMemory → ⊥
    different e i = cc i
no_room_stops line makes.OutOfMemory stop.OutOfMemory o n s h i = tt
