use Rattle.std.proofs.Common.{◌∙◌, ap, sym, List, option_map}
use Rattle.std.specs.Prelude.{slice_get}
use Rattle.ec_ctypes.specs.declared.types.ty.StructDef.{StructDef}
use Rattle.ec_ctypes.specs.views.Types.{struct_view}
use Rattle.ec_leaves.proofs.Stepping.{got_mapped}
use Rattle.ec_leaves.proofs.elements.definition.Goals as goal

pub returns : goal.returns
returns c = ap (option_map struct_view) (c.definition_at.ensures ∙ ap (λ (ds : List StructDef). slice_get ds c.args.id) c.as_slice.ensures) ∙ sym (got_mapped struct_view c.args.structs.now c.args.id)
