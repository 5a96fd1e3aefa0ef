-- What the beginning of a call leaves of a rack and its connections, and how many requests it may have to make.
use Rattle.std.proofs.Common.{◌≡◌, ◌<◌, ◌^◌, ℕ, suc, List, [], ◌∷◌, length, reverse, Option, Some, None, Result, Ok, Err, refl, sym, subst, ap, arith}
use Rattle.std.proofs.lemmas.List.{length-reverse}
use Rattle.std.specs.Prelude.{slice_get, IfOk}
use Rattle.std.specs.declared.alloc.Global.{Global}
use Rattle.std.specs.declared.dyn_box.DynBox.{DynBox}
use Rattle.ec_interp.specs.declared.running.library.Progress.{Progress}
use Rattle.ec_interp.specs.declared.running.library.Progress.TheVariants as progress
use Rattle.ec_link.specs.declared.rack.Rack.{Rack}
use Rattle.ec_link.specs.Logged.{Talk}
use Rattle.ec_machine.specs.declared.stop.Stop.{Stop}
use Rattle.ec_meaning_defs.specs.evaluation.State.{Connection}
use Rattle.ec_runtime.proofs.Moving.{moves_not}
use Rattle.ec_runtime.specs.Calling.{AllNamed, Stays, connections_of, conns_of}
use Rattle.ec_runtime.specs.Proceeding.{left_of, waiting_in}
use Rattle.ec_runtime.specs.Racks.{Moves}
use Rattle.ec_runtime.specs.Waiting.{closing_first, closing_with}
use Rattle.ec_runtime.specs.declared.library.Library.{Library}
use Rattle.ec_runtime.specs.declared.sessions.Sessions.{Sessions}
use Rattle.ec_runtime.specs.declared.waiting.Behind.{Behind}
use Rattle.ec_runtime.specs.declared.waiting.Behind.TheVariants as behinds
use Rattle.ec_runtime.specs.declared.waiting.UnderWay.{UnderWay}
use Rattle.ec_runtime.specs.declared.waiting.Waits.{Waits}
use Rattle.ec_runtime.specs.declared.waiting.Waits.TheVariants as waits
use Rattle.ec_runtime.specs.Waiting.{behind_view, waits_view}
use Rattle.ec_link.specs.declared.request.Request.{Request}
use Rattle.ec_stopping_defs.specs.Saying.{requests_behind, requests_left}

-- ---- the rack

module _ {X : Type 0} {F : X → Type 0} (talk : DynBox X Global F → Option Talk) (faults : DynBox X Global F → ℕ) (rack : Rack X F) where
  pub moved_not : (was now : Library X F) → Stays was.connections now.connections → Moves talk faults rack (conns_of was.connections) rack (conns_of now.connections) []
  moved_not was now stays = subst (λ cs. Moves talk faults rack (conns_of was.connections) rack cs []) (sym stays.links) (moves_not talk faults rack rack (conns_of was.connections) refl refl)

-- nothing is done
pub stays_same : {X : Type 0} {F : X → Type 0} (was now : Sessions X F) → now ≡ was → Stays was now
stays_same was now e = record { links = ap conns_of e; named = λ h. subst (λ it. AllNamed (connections_of it)) (sym e) h }

-- ---- the requests that are left

few_behind : (b : Behind) → suc (requests_behind (behind_view b)) < 2 ^ 64
few_behind (behinds.Begun request outputs) = omega arith
few_behind (behinds.Replied outputs) = omega arith
few_behind behinds.Controlled = omega arith
few_behind (behinds.Committed on) = omega arith
few_behind (behinds.Kept name text) = omega arith
few_behind (behinds.Forgotten name) = omega arith

few_one : (o : Option Connection) → requests_left (closing_with [] o) < 2 ^ 64
few_one None = omega arith
few_one (Some c) = omega arith

few_all : (cs : List Connection) → length cs < 2 ^ 64 → requests_left (closing_first cs) < 2 ^ 64
few_all [] h = omega arith
few_all (c ∷ cs) h = omega (arith, h)

few_waits : (cs : List Connection) (r : Request) (w : Waits) → length cs < 2 ^ 64 → requests_left (waits_view cs r w) < 2 ^ 64
few_waits cs r (waits.Over at b) h = few_behind b
few_waits cs r (waits.Connecting name) h = omega arith
few_waits cs r (waits.ClosingOne at) h = few_one (slice_get cs at)
few_waits cs r waits.ClosingAll h = few_all (reverse cs) (subst (λ n. n < 2 ^ 64) (sym (length-reverse cs)) h)

few_left : (cs : List Connection) (o : Option UnderWay) → length cs < 2 ^ 64 → left_of (waiting_in cs o) < 2 ^ 64
few_left cs None h = omega arith
few_left cs (Some it) h = few_waits cs it.waiting.request it.waiting.waits h

-- a call that asks took its turn, and so many requests may be left that a machine counts them
pub turned_few : (cs : List Connection) (o : Option UnderWay) (n : ℕ) → n ≡ length cs → n < 2 ^ 64 → (turns turns' : ℕ) (result : Result Progress Stop) → IfOk result (λ p. turns' < turns)
    → IfOk result (λ p. p ≡ progress.Asks → (turns' < turns) × (left_of (waiting_in cs o) < 2 ^ 64))
turned_few cs o n e h turns turns' (Ok p) t = λ asks. (t, few_left cs o (subst (λ k. k < 2 ^ 64) e h))
turned_few cs o n e h turns turns' (Err stop) t = tt
