use Rattle.std.proofs.Common.{◌∙◌, ◌+◌, ◌<◌, ◌≤◌, Bool, false, if◌then◌else◌, length, drop, is_some, sym, ap, arith}
use Rattle.std.proofs.lemmas.List.{drop_all}
use Rattle.ec_scopes.specs.Entries.{named_view, type_view}
use Rattle.ec_typing_defs.specs.Expressions.{typed_members}
use Rattle.ec_resolve_forms.proofs.members_lemmas.Passing.{typed_step, named_length}
use Rattle.ec_resolve_forms.proofs.members.offsets.are_typed.Goals as goal

pub loop-i-preserved : goal.loop-i-preserved
loop-i-preserved c =
    let ms = named_view type_view c.args.members.now in
    let i = c.loop-i.i in
    let lt : i < length ms = omega (arith, c.loop-i-test.true, c.len-i-end.ensures, named_length type_view c.args.members.now) in
    sym (typed_step ms i lt ∙ ap (λ (b : Bool). if b then false else is_some (typed_members (drop (i + 1) ms))) (sym c.if-is_untyped.ensures)) ∙ c.loop-i.invariant

pub returns-then-is_untyped : goal.returns-then-is_untyped
returns-then-is_untyped c =
    let ms = named_view type_view c.args.members.now in
    let i = c.loop-i.i in
    let lt : i < length ms = omega (arith, c.loop-i-test.true, c.len-i-end.ensures, named_length type_view c.args.members.now) in
    sym (typed_step ms i lt ∙ ap (λ (b : Bool). if b then false else is_some (typed_members (drop (i + 1) ms))) (sym c.if-is_untyped.ensures)) ∙ c.loop-i.invariant

pub returns : goal.returns
returns c =
    let ms = named_view type_view c.args.members.now in
    let le : length ms ≤ c.loop-i.i = omega (arith, c.loop-i-test.false, c.len-i-end.ensures, named_length type_view c.args.members.now) in
    ap (λ l. is_some (typed_members l)) (sym (drop_all c.loop-i.i ms le)) ∙ c.loop-i.invariant
