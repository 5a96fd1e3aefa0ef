-- What is written of a statement, as plain data.
use Rattle.std.specs.Prelude.{map, option_map}
use Rattle.ec_ctypes.specs.views.Embedded.{outs_view, part_view}
use Rattle.ec_server_text.specs.declared.cuts.Cutting as declared
use Rattle.ec_server_text.specs.Readers.{Cutting}

abbrev pub cutting_view : declared.Cutting → Cutting
cutting_view c = record {
  writing = record {
    parts = map part_view c.parts;
    bytes = c.bytes;
    first = c.first;
    gap = c.gap;
    outs = option_map outs_view c.outs;
  };
  depth = c.depth;
  free = c.free;
}
