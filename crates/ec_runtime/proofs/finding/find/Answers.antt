use Rattle.std.proofs.Common.{Some, map, ◌∙◌}
use Rattle.ec_runtime.specs.Opening.{open_view}
use Rattle.ec_runtime.specs.Seeking.{place_named}
use Rattle.ec_runtime.proofs.Texts.{word_text, held_text}
use Rattle.ec_runtime.proofs.finding.find.Goals as goal

pub returns-in-Word-clause-finds : goal.returns-in-Word-clause-finds
returns-in-Word-clause-finds g c = (
  Some c.in-Word.bytes,
  word_text c.args.text.now c.in-Word.bytes c.args.store.now c.in-Word.is,
  c.place_of.ensures.place ∙ (λ j. place_named (c.as_slice.ensures j) (map open_view c.args.sessions.now)),
)

pub returns-in-Ok-clause-finds : goal.returns-in-Ok-clause-finds
returns-in-Ok-clause-finds g c = (
  Some c.in-Ok.bytes.now,
  held_text c.args.text.now c.in-Held.at c.in-Ok.bytes.now c.args.store.now c.in-Held.is c.in-Ok.ensures,
  c.place_of-in-Ok.ensures.place,
)
