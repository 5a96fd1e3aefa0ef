-- What the values of the readers stand for.
use Rattle.ec_statement_readers.specs.declared.connections.TargetBytes.{TargetBytes}
use Rattle.ec_statement_readers.specs.declared.descriptors.Settings.{Settings}
use Rattle.ec_statement_readers.specs.Readers as spec
use Rattle.ec_statement_readers.specs.Readers.{Bytes}
use Rattle.ec_ctypes.specs.views.Embedded.{input_view, set_item_view}
use Rattle.std.specs.Prelude.{map}

-- the bytes of a target
abbrev pub bytes_view : TargetBytes → Bytes
bytes_view t = record { bytes = t.bytes; alone = t.alone }

-- an index and the items that are set
abbrev pub settings_view : Settings → spec.Settings
settings_view s = (input_view s.index, map set_item_view s.items)
