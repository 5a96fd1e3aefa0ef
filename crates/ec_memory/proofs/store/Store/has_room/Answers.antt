-- Whether there is room.
use Rattle.std.proofs.Common.{◌≡◌, ◌+◌, ◌*◌, ◌^◌, ◌≤◌, ◌<◌, Bool, true, false, MatchBool, ap, arith, length, refl}
use Rattle.std.specs.Prelude.{nat_le}
use Rattle.std.proofs.lemmas.Bool.Decides.{nat_tests}
use Rattle.ec_memory_defs.specs.Memory.{live_bytes}
use Rattle.ec_memory.proofs.Calls.{last_made}
use Rattle.ec_memory.proofs.Line.{count_bytes}
use Rattle.ec_memory.proofs.store.Store.has_room.Goals.{then-count-via-then-count, then-count-via-else-count+then-self-count}
use Rattle.ec_memory.proofs.store.Store.has_room.Goals as goal

-- what holds where a test does, and where it doesn't
by_test : {P Q : Type 0} (b : Bool) → (b ≡ true → P) → (b ≡ false → Q) → MatchBool b P Q
by_test true if_so if_not = if_so refl
by_test false if_so if_not = if_not refl

pub returns-then-count : goal.returns-then-count
returns-then-count c = λ room.
    let made = last_made c.args.self.now c.self.inside.made c.self.inside.cells c.self.inside.alive.items c.self.view_is in
    elim c.then-count.branch [ then-count-via-then-count w ↦ omega (arith, room.1, w.if-count.true) | then-count-via-else-count+then-self-count w ↦ omega (arith, made, room.0, w.if-self-count.true) ]

pub returns : goal.returns
returns c =
    let made = last_made c.args.self.now c.self.inside.made c.self.inside.cells c.self.inside.alive.items c.self.view_is in
    let bytes = ap live_bytes c.self.view_is in
    let all = count_bytes c.self.inside.made 1 0 c.self.inside.made (length c.self.inside.cells) c.self.inside.cells c.self.inside.alive.items c.self.invariant.line (omega arith) (omega arith) in
    by_test (nat_le (c.len.result + 8 * c.args.count) (2 ^ 28))
    (λ e. let fits : c.len.result + 8 * c.args.count ≤ 2 ^ 28 = grind (arith, nat_tests, e) in (omega (arith, made, c.if-self-count.false), omega (arith, bytes, all, fits, c.len.ensures)))
    (λ e room. let much : 2 ^ 28 < c.len.result + 8 * c.args.count = grind (arith, nat_tests, e) in omega (arith, bytes, all, much, c.len.ensures, room.1))
