use Rattle.std.proofs.Common.{◌≡◌, ◌≤◌, Result}
use Rattle.ec_machine.specs.declared.frame.Focus.{Focus}
use Rattle.ec_machine.specs.declared.machine.Machine.{Machine}
use Rattle.ec_machine.specs.declared.stop.Stop.{Stop}
use Rattle.ec_machine.specs.Frames.{denote}
use Rattle.ec_machine.specs.Goes.{Goes, env_of}
use Rattle.ec_machine.specs.Weights.{IsOutside, weight}
use Rattle.ec_machine.proofs.machine.Machine.part.Given as goal

abbrev pub invariant-loop-next : goal.invariant-loop-next
invariant-loop-next l = record {
  comes : (result : Result Focus Stop) (new : Machine) →
      Goes l.functions l.self (env_of l.self) (λ knowing w t. denote knowing w (env_of l.self) l.self.line l.self.text l.focus t) result new
      → Goes l.functions l.initial.self (env_of l.initial.self) (λ knowing w t. denote knowing w (env_of l.initial.self) l.initial.self.line l.initial.self.text l.initial.focus t) result new;
  turns : l.self.turns ≡ l.turns;
  lighter : weight l.self.frames l.focus ≤ weight l.initial.self.frames l.initial.focus;
  inside : IsOutside l.focus → ⊥;
}

abbrev pub decreases-loop-next : goal.decreases-loop-next
decreases-loop-next l = weight l.self.frames l.focus
