use Rattle.std.proofs.Common.{◌≡◌, ◌++◌, drop}
use Rattle.std.specs.Prelude.{map}
use Rattle.ec_ctypes.specs.views.Units.{param_view}
use Rattle.ec_cwrite.proofs.Remains.{params_from}
use Rattle.ec_write_parts.specs.Written.{param_of}
use Rattle.ec_writing_defs.specs.Chunks.{text_of}
use Rattle.ec_writing_defs.specs.Programs.{some_params_chunks}
use Rattle.ec_write_parts.proofs.parameters.put_some_params.Given as goal

abbrev pub invariant-loop-at : goal.invariant-loop-at
invariant-loop-at l =
    l.out ++ text_of (params_from l.at (map (param_of l.line.0) (map param_view (drop l.at l.params))))
    ≡ l.initial.out ++ text_of (some_params_chunks (map (param_of l.line.0) (map param_view l.params)))
