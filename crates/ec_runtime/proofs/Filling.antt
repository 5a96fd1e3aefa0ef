-- The request of a statement, from what is looked up for it.
use Rattle.std.proofs.Common.{◌≡◌, ℕ, List, Ok, Err, sym, subst, ◌∙◌}
use Rattle.ec_link.specs.declared.request.Request.{Request}
use Rattle.ec_memory_defs.specs.Memory.{Memory}
use Rattle.ec_meaning_defs.specs.evaluation.State.{Connection, State}
use Rattle.ec_call_defs.specs.Areas.{Areas}
use Rattle.ec_call_defs.specs.Outcomes.{Field, Outcome, gives, next}
use Rattle.ec_call_defs.specs.Running.{params_behind, request_of}
use Rattle.ec_runtime.specs.declared.order.Order.{Order}
use Rattle.ec_runtime.specs.declared.stop.Stop.{Stop}
use Rattle.ec_runtime.specs.Says.{Changed, Quiet, Says, holding}
use Rattle.ec_runtime.specs.Statements.{request_made, what_view}
use Rattle.ec_runtime.proofs.Targets.{stopped_next}

-- with the parameters
abbrev behind_made : ℕ → Order → (List Field → Request) → State → Outcome Request
behind_made line order made t = next (params_behind line order.params order.area t) (λ params u. gives (made params) u)

module _ (line : ℕ) (order : Order) (c : Connection) (m m1 : Memory) (areas : Areas) where
  abbrev Sought : State → Outcome (List Field → Request)
  Sought = request_of line (what_view order.what) c

  pub request_unmade : (stop : Stop) → Quiet {A = List Field → Request} (Err stop) Sought m m1 → Changed {A = Request} (Err stop) (request_made line order c) m areas m1 areas
  request_unmade stop q s =
      stopped_next stop (Sought (holding m areas s)) (holding m1 areas s) (λ made t. behind_made line order made t) (q (record s { descriptors = areas }))

  module _ (made : List Field → Request) (q : Quiet (Ok made) Sought m m1) (m2 : Memory) where
    reached_so : (s : State) → request_made line order c (holding m areas s) ≡ behind_made line order made (holding m1 areas s)
    reached_so s = λ j. next (q (record s { descriptors = areas }) j) (λ x t. behind_made line order x t)

    pub request_unfilled : (stop : Stop) → Changed {A = List Field} (Err stop) (params_behind line order.params order.area) m1 areas m2 areas → Changed {A = Request} (Err stop) (request_made line order c) m areas m2 areas
    request_unfilled stop p s =
        subst (λ o. Says {A = Request} (Err stop) o (holding m2 areas s)) (sym (reached_so s))
        (stopped_next stop (params_behind line order.params order.area (holding m1 areas s)) (holding m2 areas s) (λ params u. gives (made params) u) (p s))

    pub request_filled : (all : List Field) (asks : Request) → asks ≡ made all → Changed (Ok all) (params_behind line order.params order.area) m1 areas m2 areas → Changed (Ok asks) (request_made line order c) m areas m2 areas
    request_filled all asks is p s =
        reached_so s ∙ (λ j. next (p s j) (λ params u. gives (made params) u)) ∙ (λ j. gives (sym is j) (holding m2 areas s))
