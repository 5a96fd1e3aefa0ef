use Rattle.std.proofs.Common.{◌≡◌, rules, arith}
use Rattle.ec_grammar.specs.ReadDeclarations.{nested}
use Rattle.ec_cursor.proofs.Levels.{no_part, part_inside, type_deeper, members_deeper, initializers_deeper}
use Rattle.ec_cursor.specs.States.{seen}
use Rattle.ec_cparts.proofs.nested.+nested.Goals as goal

pub nested_type-returns-then-levels-eq0 : goal.nested_type-returns-then-levels-eq0
unfolding nested
nested_type-returns-then-levels-eq0 t c =
    let none : c.args.levels ≡ 0 = omega arith in
    rw none (search rules)

pub nested_type-returns : goal.nested_type-returns
nested_type-returns t c = rw (type_deeper c.args.levels (omega arith)) c.type_in_parentheses.ensures

pub nested_members-returns-then-levels-eq0 : goal.nested_members-returns-then-levels-eq0
unfolding nested
nested_members-returns-then-levels-eq0 t c =
    let none : c.args.levels ≡ 0 = omega arith in
    rw none (search rules)

pub nested_members-returns : goal.nested_members-returns
nested_members-returns t c = rw (members_deeper c.args.levels (omega arith)) c.members.ensures

pub nested_initializers-returns-then-levels-eq0 : goal.nested_initializers-returns-then-levels-eq0
unfolding nested
nested_initializers-returns-then-levels-eq0 t c =
    let none : c.args.levels ≡ 0 = omega arith in
    rw none (search rules)

pub nested_initializers-returns : goal.nested_initializers-returns
nested_initializers-returns t c = rw (initializers_deeper c.args.levels (omega arith)) c.initializer_list.ensures

pub nested_subexpression-returns-then-levels-eq0 : goal.nested_subexpression-returns-then-levels-eq0
nested_subexpression-returns-then-levels-eq0 t c _ =
    let none : c.args.levels ≡ 0 = omega arith in
    rw (c.no_level.ensures, c.begins_subexpression.ensures) (no_part c.args.levels c.args.subexpression (seen c.args.cursor.now) none)

pub nested_subexpression-returns : goal.nested_subexpression-returns
nested_subexpression-returns t c = rw (part_inside c.args.levels c.args.subexpression (seen c.args.cursor.now) (omega arith)) c.subexpression_here.ensures
