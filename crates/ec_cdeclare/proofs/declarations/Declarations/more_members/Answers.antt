use Rattle.std.proofs.Common.{rules, arith}
use Rattle.std.proofs.lemmas.Grind.{common_steps}
use Rattle.ec_grammar.specs.ReadDeclarations.{more_members, more_members_from, nested}
use Rattle.ec_language.specs.Syntax.{limits}
use Rattle.ec_cursor.specs.Parts.{each_decl}
use Rattle.ec_cursor.specs.States.{seen}
use Rattle.ec_cursor.proofs.Turns.{one_more, no_more}
use Rattle.ec_cdeclare.proofs.declarations.Declarations.more_members.Goals as goal

pub loop-turn-init : goal.loop-turn-init
unfolding more_members
loop-turn-init g c = first_of (search rules, grind (arith, common_steps))

pub returns-then-not-begins_type : goal.returns-then-not-begins_type
unfolding more_members_from
returns-then-not-begins_type g c =
    let e = one_more (λ n. more_members_from limits (nested limits c.args.self.now.declarators.expressions.levels) n (each_decl c.loop-turn.found) (seen c.loop-turn.cursor)) _ c.loop-turn._turn c.loop-turn-test.true c.loop-turn.invariant in
    first_of (search rules, grind (arith, common_steps))

pub returns-in_err-member : goal.returns-in_err-member
unfolding more_members_from
returns-in_err-member g c =
    let e = one_more (λ n. more_members_from limits (nested limits c.args.self.now.declarators.expressions.levels) n (each_decl c.loop-turn.found) (seen c.loop-turn.cursor)) _ c.loop-turn._turn c.loop-turn-test.true c.loop-turn.invariant in
    first_of (search rules, grind (arith, common_steps))

pub loop-turn-preserved : goal.loop-turn-preserved
unfolding more_members_from
loop-turn-preserved g c =
    let e = one_more (λ n. more_members_from limits (nested limits c.args.self.now.declarators.expressions.levels) n (each_decl c.loop-turn.found) (seen c.loop-turn.cursor)) _ c.loop-turn._turn c.loop-turn-test.true c.loop-turn.invariant in
    first_of (search rules, grind (arith, common_steps))

pub returns : goal.returns
unfolding more_members_from
returns g c =
    let e = no_more (λ n. more_members_from limits (nested limits c.args.self.now.declarators.expressions.levels) n (each_decl c.loop-turn.found) (seen c.loop-turn.cursor)) _ c.loop-turn._turn c.loop-turn-test.false c.loop-turn.invariant in
    first_of (search rules, grind (arith, common_steps))
