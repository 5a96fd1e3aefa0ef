use Rattle.ec_embedded.proofs.shapes_lemmas.Exact.{exact}
use Rattle.ec_embedded.proofs.shapes_lemmas.Single.{single}
use Rattle.std.proofs.Common.{◌≡◌, true}
use Rattle.ec_embedded.specs.shapes.ReadShapes.{is_deterministic}
use Rattle.ec_embedded.specs.Laws.{IsReadExactly}
use Rattle.ec_embedded.specs.References.{Form}
use Rattle.ec_embedded.specs.Terminals.{alphabet, no_counts}
use Rattle.ec_embedded.proofs.Sound.{sound}
use Rattle.ec_embedded.specs.Connections.{connect_form, set_connection_form, disconnect_form, autocommit_form}
use Rattle.ec_embedded.specs.Descriptors.{allocate_form, get_form, set_form}
use Rattle.ec_embedded.specs.Directives.{whenever_form, include_form, cursor_form}
use Rattle.ec_embedded.specs.Dynamic.{prepare_form, execute_form, deallocate_form, deallocate_at_form, open_form}
use Rattle.ec_embedded.specs.Statements.{at_form}
use Rattle.ec_embedded.proofs.Deterministic.{connect_chosen, set_connection_chosen, disconnect_chosen, autocommit_chosen, allocate_chosen, get_chosen, set_chosen, whenever_chosen, include_chosen, cursor_chosen, prepare_chosen, execute_chosen, deallocate_chosen, deallocate_at_chosen, open_chosen, at_chosen}
use Rattle.ec_embedded.proofs.laws.forms_are_exact.Goals as goal

by_choices : (form : Form) → is_deterministic alphabet form ≡ true → IsReadExactly form
by_choices form e = record { exact = λ w. exact alphabet sound form e no_counts w; single = λ w a b. single alphabet sound form e no_counts w a b }

pub returns : goal.returns
returns c = record {
  connect = by_choices connect_form connect_chosen;
  set_connection = by_choices set_connection_form set_connection_chosen;
  disconnect = by_choices disconnect_form disconnect_chosen;
  autocommit = by_choices autocommit_form autocommit_chosen;
  allocate = by_choices allocate_form allocate_chosen;
  get = by_choices get_form get_chosen;
  set = by_choices set_form set_chosen;
  whenever = by_choices whenever_form whenever_chosen;
  include = by_choices include_form include_chosen;
  cursor = by_choices cursor_form cursor_chosen;
  prepare = by_choices prepare_form prepare_chosen;
  execute = by_choices execute_form execute_chosen;
  deallocate = by_choices deallocate_form deallocate_chosen;
  deallocate_at = by_choices deallocate_at_form deallocate_at_chosen;
  open_cursor = by_choices open_form open_chosen;
  at = by_choices at_form at_chosen;
}
