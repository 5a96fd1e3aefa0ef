-- Which hosts and actions of a program can be written.
use Rattle.std.specs.Prelude.{Bool, true, false, ◌&&◌, ◌||◌, List, [], ◌∷◌}
use Rattle.ec_ctypes.specs.trees.Checked.{MarkData, BoundData}
use Rattle.ec_ctypes.specs.trees.Embedded.{EmbKindData, declare_cursor, whenever, include_sqlca, EmbData}
use Rattle.ec_typing_defs.specs.statement_parts.Handlers.{action_among}
use Rattle.ec_phases_defs.specs.Sources.{BoundProgram}
use Rattle.ec_written_laws.specs.written.Bounds.{are_written_actions, is_written_bound}

-- No call is written for a directive.
abbrev pub is_directive : EmbKindData → Bool
is_directive (declare_cursor cursor parts prepared) = true
is_directive (whenever condition action) = true
is_directive include_sqlca = true
is_directive _ = false

-- The hosts of a statement can be written on its line, and the actions that hold at it.
abbrev pub has_written_hosts : List MarkData → EmbData → BoundData → Bool
has_written_hosts handlers e b =
    is_directive e.kind
    || (are_written_actions e.line.0 (action_among handlers e.place)
    && is_written_bound e.line.0 b)

-- so can those of each, by what is bound for it
abbrev pub have_written_hosts : List MarkData → List EmbData → List BoundData → Bool
have_written_hosts handlers [] bs = true
have_written_hosts handlers (e ∷ es) [] = true
have_written_hosts handlers (e ∷ es) (b ∷ bs) =
    has_written_hosts handlers e b && have_written_hosts handlers es bs

abbrev pub are_hosts_written : BoundProgram → Bool
are_hosts_written p = have_written_hosts p.program.handlers p.program.unit.embs p.bounds
