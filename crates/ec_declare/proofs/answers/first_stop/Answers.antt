use Rattle.std.proofs.Common.{◌≡◌, ◌∙◌, ap, sym, map}
use Rattle.ec_ctypes.specs.views.Units.{top_view}
use Rattle.ec_declare.specs.Scanning.{at_start, stop_of}
use Rattle.ec_declare.specs.Walking.{walk_tops}
use Rattle.ec_declare.proofs.First.{first_is_kept}
use Rattle.ec_declare.proofs.Walked.{walked_tops}
use Rattle.ec_host_defs.specs.sections.Places.{of_tops}
use Rattle.ec_declare.proofs.answers.first_stop.Goals as goal

pub returns : goal.returns
returns c = c.stop.ensures ∙ ap stop_of (c.in_ok-tops.ensures ∙ ap (walk_tops (map top_view c.args.trees.now)) c.new-scan.ensures ∙ walked_tops (map top_view c.args.trees.now) at_start) ∙ first_is_kept (of_tops (map top_view c.args.trees.now))
