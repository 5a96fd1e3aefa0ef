-- The pointer behind the text is in the object.
use Rattle.std.proofs.Common.{refl}
use Rattle.ec_stdlib.proofs.Texts.{behind_text}
use Rattle.ec_stdlib.proofs.library.append.Goals as goal

pub append_behind-requires : goal.append_behind-requires
append_behind-requires c = record { empty = c.requires; inside = behind_text c.args.store.now c.args.to.0 _ c.in-Ok.front.now refl c.in-Ok.ensures }
