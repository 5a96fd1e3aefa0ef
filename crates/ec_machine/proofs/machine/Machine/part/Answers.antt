use Rattle.std.proofs.Common.{arith, inl, inr, refl, subst, Ok, Err}
use Rattle.ec_machine.specs.Quick.{TellsOutside}
use Rattle.ec_machine.specs.Goes.{tasks}
use Rattle.ec_machine.proofs.Moves.{stands_by}
use Rattle.ec_machine.proofs.Quickly.{remaining_less}
use Rattle.ec_machine.proofs.Weighing.{err_near, remaining_all}
use Rattle.ec_machine.proofs.machine.Machine.part.Goals as goal

pub loop-next-init : goal.loop-next-init
loop-next-init c = record { comes = λ r new g. g; turns = refl; lighter = omega arith; inside = c.requires }

pub loop-next-preserved : goal.loop-next-preserved
loop-next-preserved c =
    let fs = c.args.functions.now in
    record {
      comes = λ r new g. c.loop-next.invariant.comes r new (λ knowing fits k s l. stands_by knowing (tasks knowing fs k) s new r _ _ (c.in-Ok.ensures.goes knowing fits k s l) (g knowing fits k s (omega (arith, l, c.advance.ensures.turns))));
      turns = c.if-self-turns.false;
      lighter = omega (arith, c.in-Ok.ensures.nears c.loop-next.invariant.inside, remaining_all c.loop-next.self.turns c.in-Ok.next c.advance.new.self (omega (arith, c.if-self-turns.false, c.loop-next.invariant.turns)), c.loop-next.invariant.lighter);
      inside = subst (λ b. TellsOutside b c.in-Ok.next) c.if-is_outside.false c.is_outside.ensures;
    }

pub loop-next-smaller : goal.loop-next-smaller
loop-next-smaller c = omega (arith, c.in-Ok.ensures.nears c.loop-next.invariant.inside, remaining_all c.loop-next.self.turns c.in-Ok.next c.advance.new.self (omega (arith, c.if-self-turns.false, c.loop-next.invariant.turns)))

pub returns-then-self-turns-clause-goes : goal.returns-then-self-turns-clause-goes
returns-then-self-turns-clause-goes c = c.loop-next.invariant.comes (Ok c.in-Ok.next) c.advance.new.self c.in-Ok.ensures.goes

pub returns-then-is_outside-clause-goes : goal.returns-then-is_outside-clause-goes
returns-then-is_outside-clause-goes c = c.loop-next.invariant.comes (Ok c.in-Ok.next) c.advance.new.self c.in-Ok.ensures.goes

pub returns-in-Err-clause-goes : goal.returns-in-Err-clause-goes
returns-in-Err-clause-goes c = c.loop-next.invariant.comes (Err c.in-Err.stop) c.advance.new.self c.in-Err.ensures.goes

pub returns-then-self-turns-clause-done : goal.returns-then-self-turns-clause-done
returns-then-self-turns-clause-done c = inr (omega (arith, c.if-self-turns.true, c.advance.ensures.turns, c.loop-next.invariant.turns))

pub returns-then-is_outside-clause-done : goal.returns-then-is_outside-clause-done
returns-then-is_outside-clause-done c = inl (subst (λ b. TellsOutside b c.in-Ok.next) c.if-is_outside.true c.is_outside.ensures)

pub returns-then-self-turns-clause-nears : goal.returns-then-self-turns-clause-nears
returns-then-self-turns-clause-nears c = omega (arith, remaining_less c.args.self.now.turns c.loop-next.self.turns (Ok c.in-Ok.next) c.advance.new.self (omega (arith, c.loop-next.invariant.turns)), c.in-Ok.ensures.nears c.loop-next.invariant.inside, c.loop-next.invariant.lighter)

pub returns-then-is_outside-clause-nears : goal.returns-then-is_outside-clause-nears
returns-then-is_outside-clause-nears c = omega (arith, remaining_less c.args.self.now.turns c.loop-next.self.turns (Ok c.in-Ok.next) c.advance.new.self (omega (arith, c.loop-next.invariant.turns)), c.in-Ok.ensures.nears c.loop-next.invariant.inside, c.loop-next.invariant.lighter)

pub returns-in-Err-clause-nears : goal.returns-in-Err-clause-nears
returns-in-Err-clause-nears c = err_near _ _ _ _
