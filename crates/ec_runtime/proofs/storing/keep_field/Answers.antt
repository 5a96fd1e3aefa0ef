-- A conversion answers what it stored.
use Rattle.std.proofs.Common.{sym, ◌∙◌}
use Rattle.ec_call_defs.specs.Storing.{warned}
use Rattle.std.specs.Option.{option_copied}
use Rattle.ec_runtime.proofs.Kept.{stores_area}
use Rattle.ec_runtime.proofs.Stored.{whole_kept, err_kept}
use Rattle.ec_runtime.proofs.storing.keep_field.Goals as goal

pub tell_cut-requires : goal.tell_cut-requires
tell_cut-requires c = stores_area c.args.host.now.place c.args.row (option_copied c.args.field) c.args.store.now c.from_text.new.store c.from_text.result c.args.host.now.typed c.from_text.ensures c.requires.area

pub stopped-requires : goal.stopped-requires
stopped-requires c = stores_area c.args.host.now.place c.args.row (option_copied c.args.field) c.args.store.now c.from_text.new.store c.from_text.result c.args.host.now.typed c.from_text.ensures c.requires.area

pub returns-in-Ok-true-clause-quiet : goal.returns-in-Ok-true-clause-quiet
returns-in-Ok-true-clause-quiet c = λ h e s. whole_kept c.args.line.0 h c.args.row (option_copied c.args.field) c.args.store.now c.from_text.new.store _ c.tell_cut.new.store (c.in-Ok-true.ensures h e) ((λ j. warned (c.in-Ok-true.field-0-test j) c.from_text.new.store) ∙ sym c.tell_cut.ensures.area) s

pub returns-in-Ok-false-clause-quiet : goal.returns-in-Ok-false-clause-quiet
returns-in-Ok-false-clause-quiet c = λ h e s. whole_kept c.args.line.0 h c.args.row (option_copied c.args.field) c.args.store.now c.from_text.new.store _ c.from_text.new.store (c.in-Ok-false.ensures h e) (λ j. warned (c.in-Ok-false.field-0-test j) c.from_text.new.store) s

pub returns-in-Ok-false-clause-kept : goal.returns-in-Ok-false-clause-kept
returns-in-Ok-false-clause-kept c = stores_area c.args.host.now.place c.args.row (option_copied c.args.field) c.args.store.now c.from_text.new.store c.from_text.result c.args.host.now.typed c.from_text.ensures c.requires.area

pub returns-in-Err-clause-quiet : goal.returns-in-Err-clause-quiet
returns-in-Err-clause-quiet c = λ h e s. err_kept c.args.line.0 h c.args.row (option_copied c.args.field) c.args.store.now c.from_text.new.store c.in-Err.stop c.stopped.result c.stopped.new.store (c.in-Err.ensures h e) c.stopped.ensures.stop s
