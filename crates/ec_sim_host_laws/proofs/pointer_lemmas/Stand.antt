-- The laws, by those on places.
use Rattle.std.proofs.Common.{ℕ, List}
use Rattle.ec_sim_world_laws.specs.place.References.{NamesAreDeclared, tables_of}
use Rattle.ec_sim_world_laws.specs.place.Structs.{IsWithin}
use Rattle.ec_sim_host_laws.specs.table.Tables.{AreSound}
use Rattle.ec_typing_defs.specs.Worlds.{World}
use Rattle.ec_sim_statement_laws.specs.expression.Worlds.{KeepsReserved, AllKeepReserved}
use Rattle.ec_sim_host_laws.specs.fit.Fits.{HostsFit}
use Rattle.ec_sim_statement_laws.specs.argument.Bound.{cursor_of}
use Rattle.ec_sim_host_laws.specs.pointer.Pointers.{CallsStand, StatementsHaveTargets}
use Rattle.ec_sim_host_laws.proofs.pointer_lemmas.Taken.{PlaceLaws, Here}
use Rattle.ec_sim_host_laws.proofs.pointer_lemmas.Targets.{statement_has}
use Rattle.ec_sim_host_laws.proofs.pointer_lemmas.Walk.{written_stands}

here : PlaceLaws → (w z : World) (hosts functions : List ℕ) → IsWithin w z → NamesAreDeclared w functions → AreSound z → HostsFit z (tables_of z hosts functions)
    → KeepsReserved w.here → AllKeepReserved w.outer → Here w z hosts functions
here laws w z hosts functions within names sound fit h o = record {
  laws = laws;
  within = within;
  names = names;
  sound = sound;
  fit = fit;
  reserved_here = h;
  reserved_outer = o;
}

pub calls_stand : PlaceLaws → CallsStand
calls_stand laws at s w z hosts functions within names sound fit prepared d rs e x items stands line c is =
    written_stands at s w z hosts functions (here laws w z hosts functions within names sound fit stands.reserved_here stands.reserved_outer)
    prepared d rs e x items stands line c is

pub have_targets : PlaceLaws → StatementsHaveTargets
have_targets laws at s w z hosts functions within names sound fit prepared d rs e x some stands y is =
    statement_has at s w z hosts functions (here laws w z hosts functions within names sound fit stands.reserved_here stands.reserved_outer)
    e (cursor_of prepared d e x.denoted rs) x some stands y is
