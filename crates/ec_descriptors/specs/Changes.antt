-- What is changed of an item.
use Rattle.std.specs.Prelude.{None}
use Rattle.ec_meaning_defs.specs.evaluation.State.{Item}
use Rattle.ec_descriptors.specs.declared.changes.Change.{Change}
use Rattle.ec_descriptors.specs.declared.changes.Change.TheVariants as change

abbrev pub changed : Change → Item → Item
changed (change.Content text) it = record it { content = text }
changed change.Null it = record it { content = None }
changed change.Nothing it = it
changed (change.Code code) it = record it { code = code }
