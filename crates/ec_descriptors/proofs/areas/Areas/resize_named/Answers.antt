use Rattle.std.proofs.Common.{◌∙◌, ap}
use Rattle.ec_call_defs.specs.Areas.{resized, with_area}
use Rattle.ec_descriptors.proofs.Named.{lent_are, lent_some, lent_changed, lent_kept, on_err, on_ok}
use Rattle.ec_descriptors.proofs.areas.Areas.resize_named.Goals as goal

pub unreachable-requires : goal.unreachable-requires
unreachable-requires c = lent_some c.args.name.now c.args.self.now c.self.inside.named.entries c.self.view_is c.in-None.ensures.value c.requires

pub returns-clause-ok : goal.returns-clause-ok
returns-clause-ok c = on_ok c.resize.result (λ made items there.
    lent_changed c.args.name.now c.args.self.now c.self.inside.named.entries c.self.view_is c.in-Some.items.now c.resize.new.items _ c.in-Some.ensures.value (c.get_mut.follows.holds c.resize.new.items).0
    ∙ ap (λ own. with_area c.args.name.now own c.args.self.now)
    (made ∙ ap (resized c.args.count) (lent_are c.args.name.now c.args.self.now c.self.inside.named.entries c.self.view_is c.in-Some.items.now items c.in-Some.ensures.value there))) c.resize.ensures.ok

pub returns-clause-err : goal.returns-clause-err
returns-clause-err c = on_err c.resize.result (λ same.
    lent_kept c.args.name.now c.args.self.now c.self.inside.named.entries c.self.view_is c.in-Some.items.now c.resize.new.items _ c.in-Some.ensures.value (c.get_mut.follows.holds c.resize.new.items).0 same) c.resize.ensures.err
