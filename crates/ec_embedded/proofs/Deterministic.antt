-- In each form the next token tells the choice.
use Rattle.std.proofs.Common.{◌≡◌, true, refl}
use Rattle.ec_embedded.specs.shapes.ReadShapes.{is_deterministic}
use Rattle.ec_embedded.specs.Terminals.{alphabet}
use Rattle.ec_embedded.specs.Connections.{user_form, plain_tail, parted_tail, target_form, connect_form, set_connection_form, disconnect_form, autocommit_form}
use Rattle.ec_embedded.specs.Descriptors.{item_form, got_form, other_item_form, set_item_form, assigned_form, setting_form, behind_host_form, set_value_form, allocate_form, get_form, set_form}
use Rattle.ec_embedded.specs.Directives.{condition_form, argument_form, arguments_form, do_form, action_form, whenever_form, include_form, cursor_form}
use Rattle.ec_embedded.specs.Dynamic.{lists_form, prepare_form, execute_form, deallocate_form, deallocate_at_form, open_form}
use Rattle.ec_embedded.specs.References.{suffix_form, name_form, indicator_form, spelled_indicator_form, text_form, spelled_text_form, statement_text_form, constant_form, value_form, spelled_value_form, ins_form, outs_form, using_form}
use Rattle.ec_embedded.specs.Statements.{at_form}

pub connect_chosen : is_deterministic alphabet connect_form ≡ true
unfolding suffix_form name_form indicator_form text_form user_form plain_tail parted_tail target_form connect_form
connect_chosen = refl

pub set_connection_chosen : is_deterministic alphabet set_connection_form ≡ true
unfolding suffix_form name_form indicator_form text_form set_connection_form
set_connection_chosen = refl

pub disconnect_chosen : is_deterministic alphabet disconnect_form ≡ true
unfolding suffix_form name_form indicator_form text_form disconnect_form
disconnect_chosen = refl

pub autocommit_chosen : is_deterministic alphabet autocommit_form ≡ true
unfolding autocommit_form
autocommit_chosen = refl

pub allocate_chosen : is_deterministic alphabet allocate_form ≡ true
unfolding suffix_form name_form indicator_form text_form allocate_form
allocate_chosen = refl

pub get_chosen : is_deterministic alphabet get_form ≡ true
unfolding suffix_form name_form indicator_form spelled_indicator_form spelled_text_form constant_form spelled_value_form item_form got_form get_form
get_chosen = refl

pub set_chosen : is_deterministic alphabet set_form ≡ true
unfolding suffix_form name_form indicator_form text_form constant_form value_form other_item_form set_item_form assigned_form setting_form behind_host_form set_value_form set_form
set_chosen = refl

pub whenever_chosen : is_deterministic alphabet whenever_form ≡ true
unfolding condition_form argument_form arguments_form do_form action_form whenever_form
whenever_chosen = refl

pub include_chosen : is_deterministic alphabet include_form ≡ true
unfolding include_form
include_chosen = refl

pub cursor_chosen : is_deterministic alphabet cursor_form ≡ true
unfolding cursor_form
cursor_chosen = refl

pub prepare_chosen : is_deterministic alphabet prepare_form ≡ true
unfolding suffix_form name_form indicator_form statement_text_form prepare_form
prepare_chosen = refl

pub execute_chosen : is_deterministic alphabet execute_form ≡ true
unfolding suffix_form name_form indicator_form text_form statement_text_form constant_form value_form ins_form outs_form using_form lists_form execute_form
execute_chosen = refl

pub deallocate_chosen : is_deterministic alphabet deallocate_form ≡ true
unfolding suffix_form name_form indicator_form text_form deallocate_form
deallocate_chosen = refl

pub deallocate_at_chosen : is_deterministic alphabet deallocate_at_form ≡ true
unfolding deallocate_at_form
deallocate_at_chosen = refl

pub open_chosen : is_deterministic alphabet open_form ≡ true
unfolding suffix_form name_form indicator_form text_form constant_form value_form ins_form using_form open_form
open_chosen = refl

pub at_chosen : is_deterministic alphabet at_form ≡ true
unfolding suffix_form name_form indicator_form text_form at_form
at_chosen = refl
