-- One part behind the other.
use Rattle.std.proofs.Common.{[], ◌++◌, refl}
use Rattle.std.specs.Prelude.{codes}
use Rattle.ec_sqlca.proofs.message.text_on.Goals as goal

pub returns : goal.returns
returns c =
    let message = c.args.message.now in
    let behind_message = c.append-behind_message.ensures.text [] refl refl in
    let behind_words = c.append-behind_words.ensures.text message behind_message (c.append-behind_message.ensures.count [] refl) in
    c.append_number.ensures (message ++ codes " on line ") behind_words (c.append-behind_words.ensures.count message (c.append-behind_message.ensures.count [] refl))
