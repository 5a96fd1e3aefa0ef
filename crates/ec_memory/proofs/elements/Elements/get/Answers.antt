-- The element, or that one of its bytes is unset.
use Rattle.std.proofs.Common.{◌∙◌, ap}
use Rattle.ec_memory_defs.specs.Memory.{span}
use Rattle.ec_memory.specs.Store.{seen}
use Rattle.ec_memory.proofs.Strides.{got, element_unset}
use Rattle.ec_memory.proofs.elements.Elements.get.Goals as goal

pub returns : goal.returns
returns g c =
    got g.T.Scalar.decode _ c.read.result c.ok.result c.ok.ensures.value
    (c.read.ensures.value ∙ ap (λ p. seen g.T.Scalar.decode (span c.args.self.now.store.now p g.T.Scalar.SIZE)) c.place.ensures)
    (element_unset c.args.self.now.store.now c.args.self.now.ptr.0 c.args.self.now.count c.args.self.now.step g.T.Scalar.SIZE c.args.i c.args.self.now.reaches c.requires)
