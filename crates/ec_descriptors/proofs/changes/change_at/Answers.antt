use Rattle.std.proofs.Common.{◌-◌, length, refl}
use Rattle.std.proofs.lemmas.Option.{slice_get_read}
use Rattle.ec_descriptors.specs.Views.{items_view}
use Rattle.ec_descriptors.proofs.Counts.{changed_at}
use Rattle.ec_descriptors.proofs.changes.change_at.Goals as goal

pub returns-clause-ok : goal.returns-clause-ok
returns-clause-ok c =
    changed_at c.args.index c.requires (items_view c.args.items.now) c.raise.new.items c.in_ok-raise.ensures.ok c.in-Some.item.now c.change_item.new.item c.args.change
    (slice_get_read c.raise.new.items (length c.raise.new.items) (c.args.index - 1) c.in-Some.item.now refl c.in-Some.ensures.item.3.0 c.in-Some.ensures.item.1) c.change_item.ensures
