-- What elements hold, in the words of the definitions.
use Rattle.ec_convert.specs.declared.element.Element.{Element}
use Rattle.ec_convert.specs.declared.element.Element.TheVariants as of
use Rattle.ec_transfer_defs.specs.Hosts.{Holding, integer, truth, characters, pointed, counted}

abbrev pub held_by : Element → Holding
held_by (of.Integer t) = integer t
held_by of.Truth = truth
held_by (of.Characters n) = characters n
held_by of.Pointed = pointed
held_by (of.Counted n) = counted n
