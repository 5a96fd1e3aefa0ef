use Rattle.std.proofs.Common.{◌≡◌, ◌∙◌, ap, sym, map, false, Ok, List}
use Rattle.ec_ctypes.specs.declared.tree.unit.Top.{Top}
use Rattle.ec_ctypes.specs.views.Units.{top_view, unit_view}
use Rattle.ec_declare.specs.Counting.{CountData, none_so_far, count_tops}
use Rattle.ec_declare.proofs.Counted.{hosts_kept}
use Rattle.ec_language.specs.First.{first_of, stop_at}
use Rattle.ec_host_defs.specs.sections.Answers.{answer_by, violations_from}
use Rattle.ec_host_defs.specs.sections.Declared.{hosts_of}
use Rattle.ec_host_defs.specs.sections.Places.{of_tops}
use Rattle.ec_declare.proofs.answers.hosts.Goals as goal

pub returns-in_ok-count-in-None : goal.returns-in_ok-count-in-None
returns-in_ok-count-in-None c =
    let same = ap (λ (ts : List Top). stop_at (first_of (violations_from 0 0 false (of_tops (map top_view ts))))) c.as_slice.ensures in
    ap (answer_by (hosts_of (unit_view c.args.unit.now))) (sym same ∙ sym c.in_ok-stop.ensures ∙ c.in-None.is)
    ∙ ap Ok (sym (ap (λ (k : CountData). k.hosts) (c.in_ok-count-in-None.ensures ∙ (λ i. count_tops (map top_view (c.as_slice-in-None.ensures i)) none_so_far)) ∙ hosts_kept (map top_view c.args.unit.now.tops)))
