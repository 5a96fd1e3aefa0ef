use Rattle.std.proofs.Common.{◌+◌, ◌≤◌, arith, sym, subst, drop, length, map, List, ℕ}
use Rattle.std.proofs.lemmas.List.{drop_all}
use Rattle.ec_code.specs.declared.program.Stored.{Stored}
use Rattle.ec_code.specs.Objects.{stored_view}
use Rattle.ec_memory_defs.specs.Cells.{written}
use Rattle.ec_memory_defs.specs.Memory.{Memory}
use Rattle.ec_meaning_defs.specs.resolved.Programs.{with_values}
use Rattle.ec_interp.specs.opening.Filling.{IsLast}
use Rattle.ec_interp.proofs.opening_lemmas.Putting.{Filling, filled, filling, item, one_filled, part_inside}
use Rattle.ec_interp.proofs.opening.filling.put_parts.Goals as goal

pub loop-part-init : goal.loop-part-init
loop-part-init c = λ before bytes last sized.
    filling c.args.store.now c.args.object.0 c.args.size before c.args.parts.now bytes last sized

pub put_part-requires-clause-near : goal.put_part-requires-clause-near
put_part-requires-clause-near c =
    let fits = part_inside c.args.size c.args.parts.now c.loop-part.part-index c.part-item.result c.requires.inside c.loop-part-test.true in
    let e = c.part-item.is in
    let near : c.part-item.result.at + length c.part-item.result.bytes ≤ c.args.size = subst (λ (x : Stored). x.at + length x.bytes ≤ c.args.size) (sym e) fits in
    omega (arith, near, c.requires.small)

pub loop-part-preserved : goal.loop-part-preserved
loop-part-preserved c = λ before bytes last sized.
    let parts = c.args.parts.now in
    let i = c.loop-part.part-index in
    let x = c.part-item.result in
    let p = c.args.object.0 in
    let size = c.args.size in
    let whole = with_values bytes (map stored_view parts) in
    let fits = part_inside size parts i x c.requires.inside c.loop-part-test.true in
    let near : x.at + length x.bytes ≤ size = subst (λ (y : Stored). y.at + length y.bytes ≤ size) (sym c.part-item.is) fits in
    let puts : (before : Memory) (bytes : List ℕ) → IsLast c.loop-part.store p before bytes → x.at + length x.bytes ≤ length bytes → IsLast c.put_part.new.store p before (written bytes x.at x.bytes) =
    subst (λ (b : List ℕ). (before : Memory) (bytes : List ℕ) → IsLast c.loop-part.store p before bytes → x.at + length b ≤ length bytes → IsLast c.put_part.new.store p before (written bytes x.at b)) c.as_slice.ensures c.put_part.ensures in
    one_filled c.loop-part.store c.put_part.new.store p size before x (drop (i + 1) parts) whole puts near
    (subst (λ xs. Filling c.loop-part.store p size before xs whole) (item parts i x c.loop-part-test.true c.part-item.is) (c.loop-part.invariant before bytes last sized))

pub returns : goal.returns
returns c = λ before bytes last sized.
    let parts = c.args.parts.now in
    filled c.loop-part.store c.args.object.0 c.args.size before (drop c.loop-part.part-index parts) (with_values bytes (map stored_view parts))
    (drop_all c.loop-part.part-index parts (omega (arith, c.loop-part-test.false))) (c.loop-part.invariant before bytes last sized)
