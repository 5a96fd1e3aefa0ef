use Rattle.std.proofs.Common.{◌∙◌, map, sym}
use Rattle.ec_runtime.specs.Calling.{connections_of}
use Rattle.ec_runtime.specs.Opening.{open_view}
use Rattle.ec_runtime.specs.Seeking.{place_named}
use Rattle.ec_runtime.proofs.Connects.{connect_unused, connect_used, is_used, unused}
use Rattle.ec_runtime.proofs.connecting.start_named.Goals as goal

pub returns-in-None-clause-leads : goal.returns-in-None-clause-leads
returns-in-None-clause-leads g c = λ areas.
    connect_unused c.args.line.0 (c.args.name, c.args.request) c.args.store.now c.begin_area.new.store (connections_of c.args.library.now) c.args.library.now.current areas c.begin_area.ensures.area
    (unused c.args.name (connections_of c.args.library.now) ((λ j. place_named (sym c.as_slice-2.ensures j) (map open_view (sym c.as_slice.ensures.value j))) ∙ sym c.place_of.ensures.place ∙ c.in-None.is))

pub returns-in-None-clause-fits : goal.returns-in-None-clause-fits
returns-in-None-clause-fits g c = λ areas.
    (c.requires.asks, unused c.args.name (connections_of c.args.library.now) ((λ j. place_named (sym c.as_slice-2.ensures j) (map open_view (sym c.as_slice.ensures.value j))) ∙ sym c.place_of.ensures.place ∙ c.in-None.is))

pub returns-in-Some-clause-leads : goal.returns-in-Some-clause-leads
returns-in-Some-clause-leads g c = λ areas.
    let there = is_used c.args.name (connections_of c.args.library.now) c.in-Some.field-0 ((λ j. place_named (sym c.as_slice-2.ensures j) (map open_view (sym c.as_slice.ensures.value j))) ∙ sym c.place_of.ensures.place ∙ c.in-Some.is) in
    connect_used c.args.line.0 (c.args.name, c.args.request) c.args.store.now c.begin_area.new.store (connections_of c.args.library.now) c.args.library.now.current areas c.begin_area.ensures.area c.refuse.new.store c.refuse.result there.0 there.1 c.refuse.ensures.area c.refuse.ensures.stop
