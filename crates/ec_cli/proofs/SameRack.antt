-- A rack that is as it was.
use Rattle.std.proofs.Common.{◌≡◌, ℕ, [], ◌++◌, refl, ap, sym, ◌∙◌, subst, Option, append-nil}
use Rattle.std.specs.declared.alloc.Global.{Global as Allocator}
use Rattle.std.specs.declared.dyn_box.DynBox.{DynBox}
use Rattle.ec_link.specs.declared.rack.Rack.{Rack}
use Rattle.ec_link.specs.Logged.{Talk}
use Rattle.ec_link.specs.Rack.{slots_of, log_of}
use Rattle.ec_link.specs.Slot.{states, link_at, talk_at}
use Rattle.ec_link.specs.Told.{KeepsTalks, SparesDropped}
use Rattle.ec_link.proofs.Runs.{growth_of-grown}
use Rattle.ec_link.proofs.Talks.{KeepsTalks-same}
use Rattle.ec_runtime.specs.Racks.{KeepsLinks}
use Rattle.ec_runtime.proofs.Moving.{grows_same}
use Rattle.ec_cli.specs.Answers.{grown}

module _ {X : Type 0} {F : X → Type 0} where
  -- where the log is as it was, it grew by nothing
  pub no_growth : (rack rack' : Rack X F) → log_of rack' ≡ log_of rack → grown rack rack' ≡ []
  no_growth rack rack' e = growth_of-grown (log_of rack) (log_of rack') [] (e ∙ sym (append-nil (log_of rack)))

  pub logged : (rack rack' : Rack X F) → log_of rack' ≡ log_of rack → log_of rack' ≡ log_of rack ++ grown rack rack'
  logged rack rack' e = e ∙ sym (append-nil (log_of rack)) ∙ ap (λ g. log_of rack ++ g) (sym (no_growth rack rack' e))

  pub same_log : (rack rack' : Rack X F) → rack' ≡ rack → log_of rack' ≡ log_of rack ++ grown rack rack'
  same_log rack rack' e = logged rack rack' (ap log_of e)

  pub same_talks : (talk : DynBox X Allocator F → Option Talk) (rack rack' : Rack X F) → rack' ≡ rack → KeepsTalks (talk_at talk (slots_of rack)) (talk_at talk (slots_of rack')) (grown rack rack')
  same_talks talk rack rack' e =
      let t = talk_at talk (slots_of rack) in
      subst (λ q. KeepsTalks (talk_at talk (slots_of rack)) (talk_at talk (slots_of q)) (grown rack q)) (sym e) (subst (λ g. KeepsTalks t t g) (sym (no_growth rack rack refl)) (KeepsTalks-same t t (λ i. refl)))

  pub same_links : (talk : DynBox X Allocator F → Option Talk) (faults : DynBox X Allocator F → ℕ) (rack rack' : Rack X F) → rack' ≡ rack
      → KeepsLinks talk faults (link_at (slots_of rack)) (link_at (slots_of rack')) (grown rack rack')
  same_links talk faults rack rack' e =
      let l = link_at (slots_of rack) in
      subst (λ q. KeepsLinks talk faults (link_at (slots_of rack)) (link_at (slots_of q)) (grown rack q)) (sym e)
      (subst (λ g. KeepsLinks talk faults l l g) (sym (no_growth rack rack refl)) (λ i. grows_same talk faults (l i) (l i) [] refl refl))

  pub same_dropped : (rack rack' : Rack X F) → rack' ≡ rack → SparesDropped (states (slots_of rack)) (states (slots_of rack')) (grown rack rack')
  same_dropped rack rack' e =
      let s = states (slots_of rack) in
      subst (λ q. SparesDropped (states (slots_of rack)) (states (slots_of q)) (grown rack q)) (sym e) (subst (λ g. SparesDropped s s g) (sym (no_growth rack rack refl)) (λ i name h. (h, refl)))
