use Rattle.std.proofs.Common.{◌∙◌, ap}
use Rattle.std.specs.Prelude.{◌-◌, slice_set}
use Rattle.ec_call_defs.specs.Descriptors.{or_new}
use Rattle.ec_descriptors.specs.Changes.{changed}
use Rattle.ec_call_defs.specs.Areas.{item_at, raised_to, with_area}
use Rattle.ec_descriptors.proofs.Named.{lent_are, lent_some, lent_changed, lent_kept, on_err, on_ok}
use Rattle.ec_descriptors.proofs.areas.Areas.change_named.Goals as goal

pub unreachable-requires : goal.unreachable-requires
unreachable-requires c = lent_some c.args.name.now c.args.self.now c.self.inside.named.entries c.self.view_is c.in-None.ensures.value c.requires.named

pub returns-clause-ok : goal.returns-clause-ok
returns-clause-ok c = on_ok c.change_at.result (λ made items there.
    lent_changed c.args.name.now c.args.self.now c.self.inside.named.entries c.self.view_is c.in-Some.items.now c.change_at.new.items _ c.in-Some.ensures.value (c.get_mut.follows.holds c.change_at.new.items).0
    ∙ ap (λ own. with_area c.args.name.now own c.args.self.now)
    (made ∙ ap (λ own. slice_set (raised_to c.args.index own) (c.args.index - 1) (changed c.args.change (or_new (item_at c.args.index own)))) (lent_are c.args.name.now c.args.self.now c.self.inside.named.entries c.self.view_is c.in-Some.items.now items c.in-Some.ensures.value there))) c.change_at.ensures.ok

pub returns-clause-err : goal.returns-clause-err
returns-clause-err c = on_err c.change_at.result (λ same.
    lent_kept c.args.name.now c.args.self.now c.self.inside.named.entries c.self.view_is c.in-Some.items.now c.change_at.new.items _ c.in-Some.ensures.value (c.get_mut.follows.holds c.change_at.new.items).0 same) c.change_at.ensures.err
