-- The places and cells behind the mark are cut.
use Rattle.std.proofs.Common.{◌∙◌, sym, ap, subst, List, take, arith}
use Rattle.ec_memory.specs.declared.place.Place.{Place}
use Rattle.ec_memory.specs.Objects.{memory_of, Kept}
use Rattle.ec_memory.proofs.Calls.{rising_of, start_behind, kept_behind, ended_memory, none_behind}
use Rattle.ec_memory.proofs.store.Store.end_to.Goals as goal

pub count_up_to-count-requires : goal.count_up_to-count-requires
count_up_to-count-requires c = rising_of _ _ _ _ c.self.invariant c.deref.ensures.value

pub cut-requires : goal.cut-requires
cut-requires c = let first = start_behind _ _ _ _ c.index.result.now _ c.self.invariant (omega (arith, c.if-count-len.true, c.len.ensures)) c.index.ensures in first.1

pub invariant_of-self : goal.invariant_of-self
invariant_of-self c =
    let first = start_behind _ _ _ _ c.index.result.now _ c.self.invariant (omega (arith, c.if-count-len.true, c.len.ensures)) c.index.ensures in
    let P : List Place → Type 0 = λ ps. Kept c.self.inside.made c.cut.new.self ps in
    subst P (sym c.truncate.ensures.items) (kept_behind c.self.inside.made c.self.inside.cells c.cut.new.self c.self.inside.alive.items c.count_up_to-count.result c.index.result.now.start c.self.invariant first.0 first.1 c.cut.ensures)

pub returns-then-count-len : goal.returns-then-count-len
returns-then-count-len c =
    let first = start_behind _ _ _ _ c.index.result.now _ c.self.invariant (omega (arith, c.if-count-len.true, c.len.ensures)) c.index.ensures in
    ap (λ cells. memory_of c.self.inside.made cells c.truncate.new.self.items) c.cut.ensures
    ∙ ap (memory_of c.self.inside.made (take c.index.result.now.start c.self.inside.cells)) c.truncate.ensures.items
    ∙ ended_memory _ _ _ _ _ c.args.mark c.count_up_to-count.result c.index.result.now.start c.self.view_is c.self.invariant c.deref.ensures.value c.count_up_to-count.ensures first.0

pub returns-else-count-len : goal.returns-else-count-len
returns-else-count-len c = none_behind _ _ _ _ _ c.args.mark _ c.self.view_is c.self.invariant c.deref.ensures.value c.count_up_to-count.ensures (omega (arith, c.if-count-len.false, c.len.ensures))
