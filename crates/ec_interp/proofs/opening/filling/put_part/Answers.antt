use Rattle.std.proofs.Common.{refl}
use Rattle.ec_interp.proofs.opening_lemmas.Putting.{part_put}
use Rattle.ec_interp.proofs.opening.filling.put_part.Goals as goal

pub returns : goal.returns
returns c = λ before bytes last fits.
    part_put c.put.result c.args.store.now c.put.new.self before c.args.object.0 _ c.args.at bytes c.args.part.now c.put.ensures.outcome refl c.requires.near last fits
