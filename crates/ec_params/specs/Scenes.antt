-- What hosts are looked at with, as the definitions see it.
use Rattle.std.specs.Prelude.{map}
use Rattle.ec_ctypes.specs.views.Checked.{name_view}
use Rattle.ec_ctypes.specs.views.Types.{structs_view}
use Rattle.ec_host_defs.specs.Programs.{ProgramData, Denoted}
use Rattle.ec_params.specs.declared.scene.Scene.{Scene}

abbrev pub program_of : Scene → ProgramData
program_of s = record {
  structs = structs_view s.structs.now;
  names = map name_view s.names.now;
  hosts = s.hosts.now;
  functions = s.functions.now;
}

-- what the variables of the statement denote
abbrev pub denoted_of : Scene → Denoted
denoted_of s = s.denoted.now
