-- What the code holds, as plain data.
use Rattle.std.specs.Prelude.{length, Option, option_map}
use Rattle.ec_ctypes.specs.declared.types.arith.Arith.{Arith}
use Rattle.ec_declare.specs.declared.lengths.PlainConstant.{PlainConstant}
use Rattle.ec_declare.specs.declared.uses.Uses.{Uses}
use Rattle.ec_declare.specs.declared.scan.Scan.{Scan}
use Rattle.ec_declare.specs.declared.counting.Count.{Count}
use Rattle.ec_declare.specs.Counting.{CountData}
use Rattle.ec_declare.specs.Scanning.{ScanData}
use Rattle.ec_host_defs.specs.sections.Lengths.{Plain}
use Rattle.ec_host_defs.specs.sections.Uses.{UsesData}
use Rattle.ec_type_rules.specs.Views.{constant_view}

abbrev pub plain_view : PlainConstant → Plain
plain_view p = (p.ty, constant_view p.value)

abbrev pub plain_option_view : Option PlainConstant → Option Plain
plain_option_view o = option_map plain_view o

abbrev pub uses_view : Uses → UsesData
uses_view u = record { any = u.any; left_out = u.left_out; lacks_length = u.lacks_length }

abbrev pub scan_view : Scan → ScanData
scan_view s = record {
  depth = length s.open;
  section = s.in_section;
  pending = s.pending;
  first = s.first;
}

abbrev pub count_view : Count → CountData
count_view c = record { next = c.next; hosts = c.hosts; functions = c.functions }
