use Rattle.std.proofs.Common.{◌∙◌, ap, sym, List, Option}
use Rattle.ec_ctypes.specs.declared.types.ty.StructDef.{StructDef}
use Rattle.ec_ctypes.specs.views.Types.{ty_view, structs_view}
use Rattle.ec_params.specs.Tallies.{known_tally, leaves_tally}
use Rattle.ec_host_defs.specs.Leaves.{leaves}
use Rattle.ec_params.specs.declared.tallies.Tally.{Tally}
use Rattle.ec_params.proofs.Tallied.{tally_known}
use Rattle.ec_params.proofs.known.Known.tally.Goals as goal

pub returns-in-Some : goal.returns-in-Some
returns-in-Some c =
    let structs = structs_view c.self.inside.structs.now in
    let ty = ty_view c.args.ty.now in
    let kept = c.as_slice.ensures ∙ c.self.invariant.1 in
    tally_known structs ty c.in-Some.tally (sym (c.in-Some.ensures ∙ ap (λ (ts : List (Option Tally)). known_tally structs ts ty) kept))
    ∙ ap (λ (ds : List StructDef). leaves_tally (leaves (structs_view ds) ty)) c.self.view_is
