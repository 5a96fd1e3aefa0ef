-- What is kept of shapes is enough for the faults.
use Rattle.std.proofs.Common.{◌≡◌, List, Option, Some, None, option_map, [], refl}
use Rattle.ec_ctypes.specs.trees.Types.{TyData, StructData}
use Rattle.ec_host_defs.specs.Faults.{shape_faults, typed_faults}
use Rattle.ec_host_defs.specs.Leaves.{ShapeData, one_element, elements, one_struct, many_structs, shape_of_host}
use Rattle.ec_params.specs.Shapes.{plain_shape, faults_by, faults_of_shape}

by_shape : (structs : List StructData) (t i : TyData) (s : ShapeData) (o : Option ShapeData) → faults_by structs t i (plain_shape s) (option_map plain_shape o) ≡ shape_faults structs t i s o
by_shape structs t i one_element o = refl
by_shape structs t i (elements u n) o = refl
by_shape structs t i (one_struct k) None = refl
by_shape structs t i (one_struct k) (Some one_element) = refl
by_shape structs t i (one_struct k) (Some (elements u n)) = refl
by_shape structs t i (one_struct k) (Some (one_struct j)) = refl
by_shape structs t i (one_struct k) (Some (many_structs j m)) = refl
by_shape structs t i (many_structs k n) None = refl
by_shape structs t i (many_structs k n) (Some one_element) = refl
by_shape structs t i (many_structs k n) (Some (elements u m)) = refl
by_shape structs t i (many_structs k n) (Some (one_struct j)) = refl
by_shape structs t i (many_structs k n) (Some (many_structs j m)) = refl

by_option : (structs : List StructData) (t i : TyData) (h o : Option ShapeData) → faults_of_shape structs t i (option_map plain_shape h) (option_map plain_shape o) ≡ (elim h [ None ↦ [] | Some s ↦ shape_faults structs t i s o ])
by_option structs t i None o = refl
by_option structs t i (Some s) o = by_shape structs t i s o

pub by_types : (structs : List StructData) (t i : TyData) → faults_of_shape structs t i (option_map plain_shape (shape_of_host structs t)) (option_map plain_shape (shape_of_host structs i)) ≡ typed_faults structs t i
by_types structs t i = by_option structs t i (shape_of_host structs t) (shape_of_host structs i)
