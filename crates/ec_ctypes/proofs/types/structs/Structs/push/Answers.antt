use Rattle.std.proofs.Common.{◌≡◌, [], ◌∷◌, ◌++◌, map, sym, ap, ◌∙◌, rules}
use Rattle.ec_ctypes.specs.Layout.{struct_shape, shapes_of, limited, kept_shapes}
use Rattle.ec_ctypes.specs.views.Types.{member_view, structs_view}
use Rattle.ec_ctypes.proofs.Kept.{kept-push}
use Rattle.ec_ctypes.proofs.types.structs.Structs.push.Goals as goal

pub invariant_of-self-else-is_err : goal.invariant_of-self-else-is_err
invariant_of-self-else-is_err c =
    let shapes : c.push.new.self ≡ c.self.inside.shapes ++ c.struct_shape-shape.result ∷ [] = search rules in
    let structs : c.push-pushed.new.self ≡ c.self.inside.definitions ++ c.args.definition ∷ [] = search rules in
    let view : c.args.self.now ≡ c.self.inside.definitions = cc in
    let one = c.struct_shape-shape.ensures ∙ ap (λ l. limited (struct_shape (shapes_of (structs_view l)) (map member_view c.as_slice.result.now))) view in
    shapes
    ∙ kept-push c.self.inside.shapes c.self.inside.definitions c.args.definition c.struct_shape-shape.result c.as_slice.result.now c.self.invariant c.as_slice.ensures one
    ∙ ap (λ l. kept_shapes (structs_view l)) (sym structs)
