use Rattle.std.proofs.Common.{ℕ, List, ◌∙◌, ap, refl, sym}
use Rattle.std.specs.Prelude.{option_map}
use Rattle.ec_link.specs.Rack.{slots_of}
use Rattle.ec_link.specs.Slot.{states}
use Rattle.ec_link.specs.SlotState.{ready_slot}
use Rattle.ec_runtime.proofs.Closes.{opens_not}
use Rattle.ec_runtime.proofs.sessions.Sessions.open_ready.Goals as goal

pub returns-in_default-clause-ok : goal.returns-in_default-clause-ok
returns-in_default-clause-ok g c =
    opens_not (slots_of c.args.rack.now) _ c.requires refl
    (sym c.in_default.is ∙ c.in_ok-name.ensures ∙ ap (λ s. option_map (λ (found : ℕ × List ℕ). found.1) (ready_slot (states s))) (c.as_slice.ensures ∙ c.slots-2.ensures))
