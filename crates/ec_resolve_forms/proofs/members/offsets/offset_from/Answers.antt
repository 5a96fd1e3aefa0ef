use Rattle.std.proofs.Common.{◌∙◌, ◌+◌, ◌<◌, ◌≤◌, length, drop, sym, ap, arith}
use Rattle.std.proofs.lemmas.List.{drop_all}
use Rattle.ec_scopes.specs.Entries.{named_view, type_view}
use Rattle.ec_scopes.specs.Seen.{world_of}
use Rattle.ec_typing_defs.specs.Worlds.{shapes_in}
use Rattle.ec_resolve_forms.specs.members.Offsets.{found_behind, offset_from}
use Rattle.ec_resolve_forms.proofs.members_lemmas.Passing.{offset_step, named_length}
use Rattle.ec_resolve_forms.proofs.members.offsets.offset_from.Goals as goal

pub loop-i-preserved : goal.loop-i-preserved
loop-i-preserved c =
    let shapes = shapes_in (world_of c.args.checker.now) in
    let ms = named_view type_view c.args.members.now in
    let i = c.loop-i.i in
    let lt : i < length ms = omega (arith, c.loop-i-test.true, c.len-i-end.ensures, named_length type_view c.args.members.now) in
    ap (λ p. found_behind p (λ more. offset_from shapes more c.args.name.now (drop (i + 1) ms))) (sym c.in-Behind.is ∙ c.in_ok-found.ensures)
    ∙ sym (offset_step shapes c.loop-i.before c.args.name.now ms i lt) ∙ c.loop-i.invariant

pub returns-in-Here : goal.returns-in-Here
returns-in-Here c =
    let shapes = shapes_in (world_of c.args.checker.now) in
    let ms = named_view type_view c.args.members.now in
    let i = c.loop-i.i in
    let lt : i < length ms = omega (arith, c.loop-i-test.true, c.len-i-end.ensures, named_length type_view c.args.members.now) in
    ap (λ p. found_behind p (λ more. offset_from shapes more c.args.name.now (drop (i + 1) ms))) (sym c.in-Here.is ∙ c.in_ok-found.ensures)
    ∙ sym (offset_step shapes c.loop-i.before c.args.name.now ms i lt) ∙ c.loop-i.invariant

pub returns-in-Nowhere : goal.returns-in-Nowhere
returns-in-Nowhere c =
    let shapes = shapes_in (world_of c.args.checker.now) in
    let ms = named_view type_view c.args.members.now in
    let i = c.loop-i.i in
    let lt : i < length ms = omega (arith, c.loop-i-test.true, c.len-i-end.ensures, named_length type_view c.args.members.now) in
    ap (λ p. found_behind p (λ more. offset_from shapes more c.args.name.now (drop (i + 1) ms))) (sym c.in-Nowhere.is ∙ c.in_ok-found.ensures)
    ∙ sym (offset_step shapes c.loop-i.before c.args.name.now ms i lt) ∙ c.loop-i.invariant

pub returns : goal.returns
returns c =
    let shapes = shapes_in (world_of c.args.checker.now) in
    let ms = named_view type_view c.args.members.now in
    let le : length ms ≤ c.loop-i.i = omega (arith, c.loop-i-test.false, c.len-i-end.ensures, named_length type_view c.args.members.now) in
    ap (offset_from shapes c.loop-i.before c.args.name.now) (sym (drop_all c.loop-i.i ms le)) ∙ c.loop-i.invariant
