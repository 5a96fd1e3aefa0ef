-- That the communication area is known: its structs are where every program has them from the start (PostgreSQL manual, 34.8.2).
use Rattle.std.specs.Prelude.{[]}
use Rattle.ec_ctypes.specs.SqlcaStructs.{sqlca_structs}
use Rattle.ec_typing_defs.specs.Programs.{known_structs}
use Rattle.ec_typing_defs.specs.Worlds.{World}
use Rattle.ec_sim_world_laws.specs.growth.Growth.{StructsStay}

pub record KnowsArea (w : World) : Type 0 where
  pub structs : StructsStay (known_structs [] sqlca_structs) w.structs
