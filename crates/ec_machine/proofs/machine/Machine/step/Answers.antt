use Rattle.std.proofs.Common.{◌≡◌, ◌<◌, ◌≤◌, ◌⊎◌, arith, inl, inr, subst, ℕ, Result, Ok, Err}
use Rattle.ec_machine.specs.declared.frame.Focus.{Focus}
use Rattle.ec_machine.specs.declared.machine.Machine.{Machine}
use Rattle.ec_machine.specs.declared.stop.Stop.{Stop}
use Rattle.ec_machine.specs.Quick.{TellsOutside}
use Rattle.ec_machine.specs.Goes.{tasks}
use Rattle.ec_machine.specs.Weights.{IsOutside, remaining, weight}
use Rattle.ec_machine.proofs.Moves.{stands_by}
use Rattle.ec_machine.proofs.Quickly.{remaining_less}
use Rattle.ec_machine.proofs.Weighing.{err_near, remaining_none}
use Rattle.ec_machine.proofs.machine.Machine.step.Goals as goal

pub loop-next-init : goal.loop-next-init
loop-next-init c = record {
  comes = λ r new g. g;
  turns = omega arith;
  nearer = inl (omega arith);
  inside = subst (λ b. TellsOutside b c.args.focus) c.if-is_outside.false c.is_outside.ensures;
}

-- there are fewer turns behind a part that ended inside
fewer : (f : Focus) (a b : ℕ) → IsOutside f ⊎ (a < b) → (IsOutside f → ⊥) → a < b
fewer f a b (inl h) i = absurd (i h)
fewer f a b (inr h) i = h

pub loop-next-preserved : goal.loop-next-preserved
loop-next-preserved c =
    let fs = c.args.functions.now in
    let inside = subst (λ b. TellsOutside b c.in-Ok.next) c.if-is_outside-2.false c.is_outside-in-Ok.ensures in
    let less = fewer c.in-Ok.next c.part.new.self.turns c.loop-next.self.turns c.in-Ok.ensures.done inside in
    record {
      comes = λ r new g. c.loop-next.invariant.comes r new (λ knowing fits k s l. stands_by knowing (tasks knowing fs k) s new r _ _ (c.in-Ok.ensures.goes knowing fits k s l) (g knowing fits k s (omega (arith, l, c.part.ensures.turns))));
      turns = omega (arith, c.part.ensures.turns, c.loop-next.invariant.turns);
      nearer = inr (omega (arith, less, c.loop-next.invariant.turns));
      inside = inside;
    }

pub loop-next-smaller : goal.loop-next-smaller
loop-next-smaller c = fewer c.in-Ok.next c.part.new.self.turns c.loop-next.self.turns c.in-Ok.ensures.done (subst (λ b. TellsOutside b c.in-Ok.next) c.if-is_outside-2.false c.is_outside-in-Ok.ensures)

pub returns-then-is_outside-2-clause-goes : goal.returns-then-is_outside-2-clause-goes
returns-then-is_outside-2-clause-goes c = c.loop-next.invariant.comes (Ok c.in-Ok.next) c.part.new.self c.in-Ok.ensures.goes

pub returns-in-Err-clause-goes : goal.returns-in-Err-clause-goes
returns-in-Err-clause-goes c = c.loop-next.invariant.comes (Err c.in-Err.stop) c.part.new.self c.in-Err.ensures.goes

-- what is left in the end
near : (t u n o : ℕ) (r : Result Focus Stop) (m : Machine) → m.turns ≤ u → u ≤ t → (n ≤ o) ⊎ (u < t) → remaining u r m ≤ n → remaining t r m ≤ o
near t u n o r m a b (inl h) g = omega (arith, remaining_less t u r m b, h, g)
near t u n o r m a b (inr h) g = let e : remaining t r m ≡ 0 = remaining_none t r m (omega (arith, a, h)) in omega (arith, e)

pub returns-then-is_outside-2-clause-nears : goal.returns-then-is_outside-2-clause-nears
returns-then-is_outside-2-clause-nears c = λ i. near c.args.self.now.turns c.loop-next.self.turns (weight c.loop-next.self.frames c.loop-next.focus) _ (Ok c.in-Ok.next) c.part.new.self c.part.ensures.turns c.loop-next.invariant.turns c.loop-next.invariant.nearer c.in-Ok.ensures.nears

pub returns-in-Err-clause-nears : goal.returns-in-Err-clause-nears
returns-in-Err-clause-nears c = λ i. err_near _ _ _ _

pub part-requires : goal.part-requires
part-requires c = c.loop-next.invariant.inside
