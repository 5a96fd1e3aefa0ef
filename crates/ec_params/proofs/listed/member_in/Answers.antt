use Rattle.std.proofs.Common.{◌≡◌, ◌∙◌, ap, sym, map, List, Option, Some, None, option_map}
use Rattle.std.specs.Prelude.{ℕ, option_and_then, slice_get}
use Rattle.ec_ctypes.specs.trees.Types.{StructData}
use Rattle.ec_ctypes.specs.views.Types.{member_view, struct_view, structs_view}
use Rattle.ec_host_defs.specs.Programs.{member_among}
use Rattle.ec_typing_defs.specs.Tables.{Named, find}
use Rattle.ec_params.specs.Listed.{places_of}
use Rattle.ec_params.proofs.Gotten.{got_mapped}
use Rattle.ec_params.proofs.Placed.{type_in, member_placed}
use Rattle.ec_params.proofs.listed.member_in.Goals as goal

pub returns-in-Some-table_at : goal.returns-in-Some-table_at
returns-in-Some-table_at c =
    let definitions = c.args.definitions.now in
    let name = c.args.name.now in
    let d = struct_view c.in-Some.definition.now in
    let table = c.in-Some-table_at.table.now in
    let got : slice_get (structs_view definitions) c.args.id ≡ Some d = got_mapped struct_view definitions c.args.id ∙ ap (option_map struct_view) (sym c.in-Some.ensures) in
    let both : Some table ≡ Some (places_of d) =
    c.in-Some-table_at.ensures ∙ ap (λ (ts : List (Named ℕ)). slice_get ts c.args.id) c.requires ∙ got_mapped places_of (structs_view definitions) c.args.id ∙ ap (option_map places_of) got in
    let there : table ≡ places_of d = cc in
    c.type_at.ensures
    ∙ (λ i. type_in (map member_view (c.as_slice.ensures i)) (c.place_in.ensures i))
    ∙ ap (λ (t : Named ℕ). type_in d.members (find name t)) there
    ∙ member_placed d name
    ∙ sym (ap (option_and_then (λ (x : StructData). member_among name x.members)) got)

pub returns-in-None-table_at : goal.returns-in-None-table_at
returns-in-None-table_at c =
    let definitions = c.args.definitions.now in
    let d = struct_view c.in-Some.definition.now in
    let got : slice_get (structs_view definitions) c.args.id ≡ Some d = got_mapped struct_view definitions c.args.id ∙ ap (option_map struct_view) (sym c.in-Some.ensures) in
    let both : ◌≡◌ {A = Option (Named ℕ)} None (Some (places_of d)) =
    c.in-None-table_at.ensures ∙ ap (λ (ts : List (Named ℕ)). slice_get ts c.args.id) c.requires ∙ got_mapped places_of (structs_view definitions) c.args.id ∙ ap (option_map places_of) got in
    absurd cc

pub returns-in-None : goal.returns-in-None
returns-in-None c =
    let definitions = c.args.definitions.now in
    sym (ap (option_and_then (λ (x : StructData). member_among c.args.name.now x.members)) (got_mapped struct_view definitions c.args.id ∙ ap (option_map struct_view) (sym c.in-None.ensures)))
