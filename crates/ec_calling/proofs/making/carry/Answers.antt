use Rattle.std.proofs.Common.{◌∙◌, ap, sym}
use Rattle.std.specs.Option.{option_map}
use Rattle.ec_runtime.specs.Statements.{cut_view}
use Rattle.ec_calling.specs.Giving.{all_seen}
use Rattle.ec_calling.specs.Making.{going_of, known_at}
use Rattle.ec_calling.specs.Serving.{cut_seen}
use Rattle.ec_calling.proofs.Carrying.{cut_begun, uncarried, uncut}
use Rattle.ec_calling.proofs.making.carry.Goals as goal

pub returns-in-Err-clause-begun : goal.returns-in-Err-clause-begun
returns-in-Err-clause-begun g c = λ turns log. uncarried c.args.line.0 c.args.name (all_seen c.args.given.now) c.args.library.now c.requires.idle log c.args.store.now turns

pub returns-in-Ok-None-clause-begun : goal.returns-in-Ok-None-clause-begun
returns-in-Ok-None-clause-begun g c = λ turns log. uncut c.args.line.0 c.args.name (all_seen c.args.given.now) c.args.library.now c.requires.idle log c.args.store.now turns (sym (ap (option_map cut_seen) c.in-Ok-None.field-0-is) ∙ c.in-Ok-None.ensures)

pub returns-in-Some-clause-begun : goal.returns-in-Some-clause-begun
returns-in-Some-clause-begun g c = λ turns log.
    cut_begun c.args.line.0 c.args.name (all_seen c.args.given.now) (cut_view c.in-Some.call) (cut_seen c.in-Ok-Some.found) c.args.store.now c.begin.new.store turns turns (known_at log c.args.library.now) (known_at log c.begin.new.library) (going_of c.begin.new.library) c.begin.result
    c.in-Some.ensures (sym (ap (option_map cut_seen) c.in-Ok-Some.field-0-is) ∙ c.in-Ok-Some.ensures) (c.begin.ensures.begun turns log)

pub returns-clause-begun : goal.returns-clause-begun
returns-clause-begun g c = λ turns log. uncarried c.args.line.0 c.args.name (all_seen c.args.given.now) c.args.library.now c.requires.idle log c.args.store.now turns
