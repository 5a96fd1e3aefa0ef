use Rattle.std.proofs.Common.{sym}
use Rattle.std.proofs.lemmas.List.{length-map}
use Rattle.ec_descriptors.specs.Views.{item_view, items_view}
use Rattle.ec_runtime.specs.Views.{host_view}
use Rattle.ec_runtime.proofs.Telling.{count_is}
use Rattle.ec_runtime.proofs.describing.get_count.Goals as goal

pub returns-in-Some-clause-changed : goal.returns-in-Some-clause-changed
returns-in-Some-clause-changed c =
    count_is c.args.line.0 c.args.called.now c.args.store.now c.args.areas.now (items_view c.in-Some.items.now) c.in-Some.ensures (host_view c.args.host.now) _ c.keep_length.new.store c.keep_length.result
    (sym (length-map c.in-Some.items.now item_view)) c.keep_length.ensures.quiet
