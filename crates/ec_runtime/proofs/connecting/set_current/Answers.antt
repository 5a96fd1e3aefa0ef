use Rattle.std.proofs.Common.{◌∙◌, map, sym}
use Rattle.ec_runtime.specs.Calling.{connections_of}
use Rattle.ec_runtime.specs.Opening.{open_view}
use Rattle.ec_runtime.specs.Seeking.{place_named}
use Rattle.ec_runtime.proofs.Connects.{is_used, set_nowhere, set_there, unused}
use Rattle.ec_runtime.proofs.connecting.set_current.Goals as goal

pub returns-in-None-clause-does : goal.returns-in-None-clause-does
returns-in-None-clause-does g c =
    set_nowhere c.args.line.0 c.args.name c.args.store.now c.begin_area.new.store (connections_of c.args.library.now) c.args.library.now.current c.begin_area.ensures.area c.refuse.new.store c.refuse.result
    (unused c.args.name (connections_of c.args.library.now) ((λ j. place_named (sym c.as_slice-2.ensures j) (map open_view (sym c.as_slice.ensures.value j))) ∙ sym c.place_of.ensures.place ∙ c.in-None.is))
    c.refuse.ensures.area c.refuse.ensures.stop

pub returns-in-Some-clause-does : goal.returns-in-Some-clause-does
returns-in-Some-clause-does g c =
    let there = is_used c.args.name (connections_of c.args.library.now) c.in-Some.field-0 ((λ j. place_named (sym c.as_slice-2.ensures j) (map open_view (sym c.as_slice.ensures.value j))) ∙ sym c.place_of.ensures.place ∙ c.in-Some.is) in
    set_there c.args.line.0 c.args.name c.args.store.now c.begin_area.new.store (connections_of c.args.library.now) c.args.library.now.current c.begin_area.ensures.area there.0 there.1
