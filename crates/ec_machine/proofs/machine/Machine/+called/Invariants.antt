use Rattle.std.proofs.Common.{length, ◌+◌, ◌*◌, ℕ, ◌<◌, ◌≡◌, ◌≤◌}
use Rattle.ec_meaning_defs.specs.evaluation.Evaluate.{Step as Knowing, World}
use Rattle.ec_meaning_defs.specs.evaluation.Results.{value}
use Rattle.ec_meaning_defs.specs.evaluation.State.{State}
use Rattle.ec_machine.specs.Found.{Stays}
use Rattle.ec_machine.specs.Frames.{behind_by, here}
use Rattle.ec_machine.specs.Goes.{Fits, at, env_of, taken, tasks}
use Rattle.ec_machine.specs.Quick.{passing}
use Rattle.ec_machine.specs.Weights.{expressions_weight, steps_weight}
use Rattle.ec_values.specs.Words.{word_view}
use Rattle.ec_machine.proofs.machine.Machine.+called.Given as goal

abbrev pub invariant-follow-loop-further : goal.invariant-follow-loop-further
invariant-follow-loop-further l = record {
  comes : (knowing : Knowing) → Fits knowing → (k : ℕ) (s : State) → l.initial.self.turns < k →
      behind_by (here (env_of l.initial.self) l.initial.self.line) l.steps knowing (tasks knowing l.functions k) (value (word_view l.initial.value) (at s l.initial.self))
      ≡ behind_by (here (env_of l.self) l.self.line) l.further knowing (tasks knowing l.functions k) (value (word_view l.value) (at s l.self));
  stays : Stays l.initial.self (env_of l.initial.self) l.initial.self.line l.self;
  turns : l.self.turns ≤ l.initial.self.turns;
  lighter : steps_weight l.further ≤ steps_weight l.steps;
}

abbrev pub decreases-follow-loop-further : goal.decreases-follow-loop-further
decreases-follow-loop-further l = length l.further

abbrev pub invariant-pass-loop-further : goal.invariant-pass-loop-further
invariant-pass-loop-further l = record {
  comes : (knowing : Knowing) (w : World) (s : State) →
      passing l.callee l.arguments l.initial.count l.initial.self knowing w (at s l.initial.self)
      ≡ passing l.callee l.further l.count l.self knowing w (at s l.self);
  env : taken l.count (env_of l.self) ≡ taken l.initial.count (env_of l.initial.self);
  frames : l.self.frames ≡ l.initial.self.frames;
  turns : l.self.turns ≡ l.initial.self.turns;
  same_line : l.self.line ≡ l.initial.self.line;
  lighter : expressions_weight l.further ≤ expressions_weight l.arguments;
}

abbrev pub decreases-pass-loop-further : goal.decreases-pass-loop-further
decreases-pass-loop-further l = length l.further

abbrev pub decreases-give_inside : goal.decreases-give_inside
decreases-give_inside l = 16 * l.levels + 15

abbrev pub decreases-value_of : goal.decreases-value_of
decreases-value_of l = 16 * l.levels + 14

abbrev pub decreases-follow : goal.decreases-follow
decreases-follow l = 16 * l.levels + 13

abbrev pub decreases-follow_first : goal.decreases-follow_first
decreases-follow_first l = 16 * l.levels + 12

abbrev pub decreases-follow_two : goal.decreases-follow_two
decreases-follow_two l = 16 * l.levels + 11

abbrev pub decreases-right : goal.decreases-right
decreases-right l = 16 * l.levels + 10

abbrev pub decreases-begun : goal.decreases-begun
decreases-begun l = 16 * l.levels + 9

abbrev pub decreases-pass : goal.decreases-pass
decreases-pass l = 16 * l.levels + 8

abbrev pub decreases-receive : goal.decreases-receive
decreases-receive l = 16 * l.levels + 7

abbrev pub decreases-call : goal.decreases-call
decreases-call l = 16 * l.levels + 6

abbrev pub decreases-start : goal.decreases-start
decreases-start l = 16 * l.levels + 5

abbrev pub decreases-begin : goal.decreases-begin
decreases-begin l = 16 * l.levels + 4

abbrev pub decreases-in_body : goal.decreases-in_body
decreases-in_body l = 16 * l.levels + 3

abbrev pub decreases-in_statement : goal.decreases-in_statement
decreases-in_statement l = 16 * l.levels + 2

abbrev pub decreases-in_return : goal.decreases-in_return
decreases-in_return l = 16 * l.levels + 1
