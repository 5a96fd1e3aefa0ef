-- What is kept of the shape of a host, and what the roles of hosts are.
use Rattle.std.specs.Prelude.{true, List, [], ◌∷◌, Option, Some, None, ◌==◌}
use Rattle.ec_base.specs.declared.fault.FaultKind.{FaultKind}
use Rattle.ec_base.specs.declared.fault.FaultKind.TheVariants.{F23}
use Rattle.ec_ctypes.specs.trees.Types.{TyData, StructData}
use Rattle.ec_host_defs.specs.Elements.{is_indicator}
use Rattle.ec_host_defs.specs.Faults.{fault_unless, struct_faults, is_indicator_array}
use Rattle.ec_host_defs.specs.Leaves.{ShapeData, one_element, elements, one_struct, many_structs}
use Rattle.ec_host_defs.specs.Uses.{RoleData, text_role, input_role, output_role, number_role, item_role}
use Rattle.ec_params.specs.declared.indicators.Shape.{Shape}
use Rattle.ec_params.specs.declared.indicators.Shape.TheVariants as shape
use Rattle.ec_params.specs.declared.values.Role.{Role}
use Rattle.ec_params.specs.declared.values.Role.TheVariants as role

abbrev pub role_view : Role → RoleData
role_view role.Text = text_role
role_view role.Input = input_role
role_view role.Output = output_role
role_view role.Number = number_role
role_view role.Item = item_role

abbrev pub plain_shape : ShapeData → Shape
plain_shape one_element = shape.One
plain_shape (elements t n) = shape.Elements n
plain_shape (one_struct k) = shape.Single
plain_shape (many_structs k n) = shape.Many n

-- the faults of an indicator, by what is kept of the shapes
abbrev pub faults_by : List StructData → TyData → TyData → Shape → Option Shape → List FaultKind
faults_by structs t i shape.One s = fault_unless (is_indicator i) F23
faults_by structs t i (shape.Elements n) s = fault_unless (is_indicator_array n i) F23
faults_by structs t i shape.Single (Some shape.Single) = struct_faults structs t i true
faults_by structs t i shape.Single _ = F23 ∷ []
faults_by structs t i (shape.Many n) (Some (shape.Many m)) = struct_faults structs t i (n == m)
faults_by structs t i (shape.Many n) _ = F23 ∷ []

-- those of what has leaves or none
abbrev pub faults_of_shape : List StructData → TyData →
    TyData → Option Shape → Option Shape → List FaultKind
faults_of_shape structs t i None s = []
faults_of_shape structs t i (Some h) s = faults_by structs t i h s
