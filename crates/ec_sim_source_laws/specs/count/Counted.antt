-- What is bound for the statements of a source has numbers of type long.
use Rattle.std.specs.Prelude.{◌≡◌, ℕ, true, List, Option}
use Rattle.ec_ctypes.specs.trees.Checked.{TypedData, BoundData}
use Rattle.ec_ctypes.specs.trees.Embedded.{EmbData}
use Rattle.ec_language.specs.Letters.{Text}
use Rattle.ec_written_laws.specs.bound.Counts.{is_counted, are_counted}
use Rattle.ec_host_defs.specs.Bound.{statement_bound}
use Rattle.ec_typing_defs.specs.Worlds.{Place, World}
use Rattle.ec_resolving_defs.specs.Storage.{Storage, ReferenceForm}
use Rattle.ec_direct_defs.specs.Statements.{Around}
use Rattle.ec_sim_statement_laws.specs.argument.Bound.{cursor_of}
use Rattle.ec_sim_world_laws.specs.place.References.{NamesAreDeclared, tables_of}
use Rattle.ec_sim_world_laws.specs.place.Structs.{IsWithin}
use Rattle.ec_sim_host_laws.specs.table.Tables.{AreSound}
use Rattle.ec_sim_host_laws.specs.fit.Fits.{HostsFit}
use Rattle.ec_sim_host_laws.specs.host.Hosts.{StatementStands}
use Rattle.ec_sim_program_laws.specs.program.Programs.{AreAllFound}
use Rattle.ec_sim_source_laws.specs.block.Accepted.{IsAccepted, StatementLaws}

-- one statement, where it stands
abbrev pub StatementsAreCounted : Type 0
StatementsAreCounted = (at : Place) (s : Storage) (w z : World) (hosts functions : List ℕ)
    → IsWithin w z → NamesAreDeclared w functions → AreSound z
    → HostsFit z (tables_of z hosts functions) → (prepared : Option Text) (d : Option EmbData)
    (rs : List ReferenceForm) (e : EmbData) (x : Around)
    → StatementStands at s w (tables_of z hosts functions) e (cursor_of prepared d e x.denoted rs) x
    → is_counted (statement_bound (tables_of z hosts functions) e d x.denoted) ≡ true

-- all of an accepted source, each of which was met on the walk through it
abbrev pub SourcesAreCounted : Type 0
SourcesAreCounted = StatementLaws → StatementsAreCounted → (t : TypedData)
    (bounds : List BoundData) → IsAccepted t bounds → AreAllFound t.unit
    → are_counted bounds ≡ true
