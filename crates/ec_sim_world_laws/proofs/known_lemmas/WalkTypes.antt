-- A type declares nothing, since the walk finds what the checks find.
use Rattle.std.proofs.Common.{◌∙◌, [], sym, ap}
use Rattle.ec_resolving_defs.specs.Storage.{Storage}
use Rattle.ec_resolving_defs.proofs.Agreeing.{base_finds}
use Rattle.ec_sim_world_laws.specs.known.Positions.{TypesDeclareNone}
use Rattle.ec_sim_world_laws.proofs.known_lemmas.SitesWalk.{base_stands}

-- wherever things are
nowhere_yet : Storage
nowhere_yet = record {
  defined = [];
  before_literals = 0;
  sites = [];
  globals = [];
  literals = [];
  calls = [];
  functions = [];
  statements = [];
  block = record { below = 0; count = 0; sizes = [] };
}

pub types_declare_none : TypesDeclareNone
types_declare_none at b w = ap (λ z. z.types) (sym ((base_finds at b).world nowhere_yet w)) ∙ (base_stands at b).types nowhere_yet w
