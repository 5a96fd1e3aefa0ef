use Rattle.std.proofs.Common.{◌≤◌, arith, refl, replicate}
use Rattle.ec_meaning_defs.specs.resolved.Programs.{sqlca_bytes}
use Rattle.ec_interp.specs.opening.Filling.{IsLast}
use Rattle.ec_interp.proofs.opening_lemmas.Making.{last_zeros, opens_one}
use Rattle.ec_interp.proofs.opening.opening.open_area.Goals as goal

pub returns-in-Ok-clause-opens : goal.returns-in-Ok-clause-opens
returns-in-Ok-clause-opens c =
    let old = c.args.store.now in
    let p = c.in-Ok.object.0 in
    let name : 8 ≤ 256 = omega arith in
    let size : 10 ≤ 256 = omega arith in
    let procedure : 188 ≤ 256 = omega arith in
    let state : 253 ≤ 256 = omega arith in
    let zeros = last_zeros old c.make_zeroed.new.self p 256 c.in-Ok.ensures.ok in
    let last : IsLast c.put_part-in-Ok-3.new.store p old sqlca_bytes =
    c.put_part-in-Ok-3.ensures old _ (c.put_part-in-Ok-2.ensures old _ (c.put_part-in-Ok.ensures old _ (c.put_part.ensures old (replicate 256 0) zeros name) size) procedure) state in
    opens_one old c.make_zeroed.new.self p 256 c.in-Ok.ensures.ok c.put_part-in-Ok-3.new.store sqlca_bytes refl last

pub returns-in-Ok-clause-objects : goal.returns-in-Ok-clause-objects
returns-in-Ok-clause-objects c =
    let old = c.args.store.now in
    let p = c.in-Ok.object.0 in
    let name : 8 ≤ 256 = omega arith in
    let size : 10 ≤ 256 = omega arith in
    let procedure : 188 ≤ 256 = omega arith in
    let state : 253 ≤ 256 = omega arith in
    let zeros = last_zeros old c.make_zeroed.new.self p 256 c.in-Ok.ensures.ok in
    let last : IsLast c.put_part-in-Ok-3.new.store p old sqlca_bytes =
    c.put_part-in-Ok-3.ensures old _ (c.put_part-in-Ok-2.ensures old _ (c.put_part-in-Ok.ensures old _ (c.put_part.ensures old (replicate 256 0) zeros name) size) procedure) state in
    last.memory
