use Rattle.std.proofs.Common.{◌≡◌, map, take}
use Rattle.ec_memory_defs.specs.Kinds.{kind_type}
use Rattle.ec_resolving_defs.specs.Programs.{parameter_kind}
use Rattle.ec_scopes.specs.Entries.{type_view}
use Rattle.ec_resolve_parts.proofs.types.parameter_kinds.Given as goal

abbrev pub invariant-loop-ty : goal.invariant-loop-ty
invariant-loop-ty l = map kind_type l.kinds ≡ map parameter_kind (map type_view (take l.ty-index l.types))
