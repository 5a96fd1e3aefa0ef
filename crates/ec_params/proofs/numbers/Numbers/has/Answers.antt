use Rattle.std.proofs.Common.{◌∙◌, ap, List, Bool}
use Rattle.ec_host_defs.specs.Programs.{is_among}
use Rattle.ec_params.specs.Numbers.{flag_at}
use Rattle.ec_params.proofs.Marking.{found_flag}
use Rattle.ec_params.proofs.numbers.Numbers.has.Goals as goal

pub returns : goal.returns
returns c =
    c.flag_at.ensures
    ∙ ap (λ (fs : List Bool). flag_at fs c.args.number) (c.as_slice.ensures ∙ c.self.invariant)
    ∙ found_flag c.args.number c.self.inside.list
    ∙ ap (is_among c.args.number) c.self.view_is
