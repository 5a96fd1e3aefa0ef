-- Each example is computed.
use Rattle.std.proofs.Common.{refl}
use Rattle.std.specs.Fmt.{digits}
use Rattle.ec_call_defs.specs.Outcomes.{counted_area, fresh_area, told_area, warned_area}
use Rattle.ec_embedded.specs.Connections.{autocommit_form, connect_form, disconnect_form, parted_tail, plain_tail, set_connection_form, target_form, user_form}
use Rattle.ec_embedded.specs.Descriptors.{allocate_form, assigned_form, behind_host_form, get_form, got_form, item_form, other_item_form, set_form, set_item_form, set_value_form, setting_form}
use Rattle.ec_embedded.specs.Directives.{action_form, argument_form, arguments_form, condition_form, cursor_form, do_form, include_form, whenever_form}
use Rattle.ec_embedded.specs.Dynamic.{deallocate_at_form, deallocate_form, execute_form, lists_form, open_form, prepare_form}
use Rattle.ec_embedded.specs.References.{constant_form, indicator_form, ins_form, name_form, outs_form, spelled_indicator_form, spelled_text_form, spelled_value_form, statement_text_form, suffix_form, text_form, using_form, value_form}
use Rattle.ec_embedded.specs.ServerText.{host_at, into_list, reference_at, server_at, transaction_at}
use Rattle.ec_embedded.specs.Statements.{at_form, declare_at}
use Rattle.ec_resolving_defs.specs.Expressions.{library_literal}
use Rattle.ec_resolving_defs.specs.Initializers.{stored_at}
use Rattle.ec_resolving_defs.specs.Storage.{arrange, ask as ask_in_resolving_storage, chain as chain_in_resolving_storage, checks, pure as pure_in_resolving_storage, stored}
use Rattle.ec_typing_defs.specs.Embedded.{denote, members_rule, reference_rule}
use Rattle.ec_typing_defs.specs.Expressions.{begin_struct, end_struct, member_named, tag_rule, tagged_struct, type_or_fault, varchar_member, varchar_object, varchar_struct}
use Rattle.ec_typing_defs.specs.Initializers.{braces_rule, fixed_rule, part_rule, slot_rule, suits_rule}
use Rattle.ec_typing_defs.specs.Operands.{address_rule, arrow_rule, assign_rule, binary_rule, bump_rule, call_by, call_rule, cast_rule, complete_rule, compound_rule, index_rule, length_rule, member_rule, name_rule, named_by, scalar_cast, sign_rule, size_rule, target_rule, typed, value_rule, within_rule}
use Rattle.ec_typing_defs.specs.Programs.{begin_function, know_function, main_rule, plain_param, result_rule}
use Rattle.ec_typing_defs.specs.Statements.{condition_rule, object_rule, return_nothing, return_rule, tag_alone}
use Rattle.ec_typing_defs.specs.Worlds.{ask as ask_in_typing_worlds, chain as chain_in_typing_worlds, change, declare, declare_label, demand, enter, free_name, free_tag, instead, keep_within, know_better, leave, new_struct, note, number_as, place, pure as pure_in_typing_worlds, set_struct}
use Rattle.ec_direct_defs.proofs.examples.rows_and_cursors.Goals as goal

pub returns-clause-too_many : goal.returns-clause-too_many
unfolding digits action_form address_rule allocate_form argument_form arguments_form arrange arrow_rule ask_in_resolving_storage ask_in_typing_worlds assign_rule assigned_form at_form autocommit_form begin_function begin_struct behind_host_form binary_rule braces_rule bump_rule call_by call_rule cast_rule chain_in_resolving_storage chain_in_typing_worlds change checks complete_rule compound_rule condition_form condition_rule connect_form constant_form counted_area cursor_form deallocate_at_form deallocate_form declare declare_at declare_label demand denote disconnect_form do_form end_struct enter execute_form fixed_rule free_name free_tag fresh_area get_form got_form host_at include_form index_rule indicator_form ins_form instead into_list item_form keep_within know_better know_function leave length_rule library_literal lists_form main_rule member_named member_rule members_rule name_form name_rule named_by new_struct note number_as object_rule open_form other_item_form outs_form part_rule parted_tail place plain_param plain_tail prepare_form pure_in_resolving_storage pure_in_typing_worlds reference_at reference_rule result_rule return_nothing return_rule scalar_cast server_at set_connection_form set_form set_item_form set_struct set_value_form setting_form sign_rule size_rule slot_rule spelled_indicator_form spelled_text_form spelled_value_form statement_text_form stored stored_at suffix_form suits_rule tag_alone tag_rule tagged_struct target_form target_rule text_form told_area transaction_at type_or_fault typed user_form using_form value_form value_rule varchar_member varchar_object varchar_struct warned_area whenever_form within_rule
returns-clause-too_many c = refl

pub returns-clause-three : goal.returns-clause-three
unfolding digits action_form address_rule allocate_form argument_form arguments_form arrange arrow_rule ask_in_resolving_storage ask_in_typing_worlds assign_rule assigned_form at_form autocommit_form begin_function begin_struct behind_host_form binary_rule braces_rule bump_rule call_by call_rule cast_rule chain_in_resolving_storage chain_in_typing_worlds change checks complete_rule compound_rule condition_form condition_rule connect_form constant_form counted_area cursor_form deallocate_at_form deallocate_form declare declare_at declare_label demand denote disconnect_form do_form end_struct enter execute_form fixed_rule free_name free_tag fresh_area get_form got_form host_at include_form index_rule indicator_form ins_form instead into_list item_form keep_within know_better know_function leave length_rule library_literal lists_form main_rule member_named member_rule members_rule name_form name_rule named_by new_struct note number_as object_rule open_form other_item_form outs_form part_rule parted_tail place plain_param plain_tail prepare_form pure_in_resolving_storage pure_in_typing_worlds reference_at reference_rule result_rule return_nothing return_rule scalar_cast server_at set_connection_form set_form set_item_form set_struct set_value_form setting_form sign_rule size_rule slot_rule spelled_indicator_form spelled_text_form spelled_value_form statement_text_form stored stored_at suffix_form suits_rule tag_alone tag_rule tagged_struct target_form target_rule text_form told_area transaction_at type_or_fault typed user_form using_form value_form value_rule varchar_member varchar_object varchar_struct warned_area whenever_form within_rule
returns-clause-three c = refl

pub returns-clause-structs_filled : goal.returns-clause-structs_filled
unfolding digits action_form address_rule allocate_form argument_form arguments_form arrange arrow_rule ask_in_resolving_storage ask_in_typing_worlds assign_rule assigned_form at_form autocommit_form begin_function begin_struct behind_host_form binary_rule braces_rule bump_rule call_by call_rule cast_rule chain_in_resolving_storage chain_in_typing_worlds change checks complete_rule compound_rule condition_form condition_rule connect_form constant_form counted_area cursor_form deallocate_at_form deallocate_form declare declare_at declare_label demand denote disconnect_form do_form end_struct enter execute_form fixed_rule free_name free_tag fresh_area get_form got_form host_at include_form index_rule indicator_form ins_form instead into_list item_form keep_within know_better know_function leave length_rule library_literal lists_form main_rule member_named member_rule members_rule name_form name_rule named_by new_struct note number_as object_rule open_form other_item_form outs_form part_rule parted_tail place plain_param plain_tail prepare_form pure_in_resolving_storage pure_in_typing_worlds reference_at reference_rule result_rule return_nothing return_rule scalar_cast server_at set_connection_form set_form set_item_form set_struct set_value_form setting_form sign_rule size_rule slot_rule spelled_indicator_form spelled_text_form spelled_value_form statement_text_form stored stored_at suffix_form suits_rule tag_alone tag_rule tagged_struct target_form target_rule text_form told_area transaction_at type_or_fault typed user_form using_form value_form value_rule varchar_member varchar_object varchar_struct warned_area whenever_form within_rule
returns-clause-structs_filled c = refl

pub returns-clause-opened : goal.returns-clause-opened
unfolding digits action_form address_rule allocate_form argument_form arguments_form arrange arrow_rule ask_in_resolving_storage ask_in_typing_worlds assign_rule assigned_form at_form autocommit_form begin_function begin_struct behind_host_form binary_rule braces_rule bump_rule call_by call_rule cast_rule chain_in_resolving_storage chain_in_typing_worlds change checks complete_rule compound_rule condition_form condition_rule connect_form constant_form counted_area cursor_form deallocate_at_form deallocate_form declare declare_at declare_label demand denote disconnect_form do_form end_struct enter execute_form fixed_rule free_name free_tag fresh_area get_form got_form host_at include_form index_rule indicator_form ins_form instead into_list item_form keep_within know_better know_function leave length_rule library_literal lists_form main_rule member_named member_rule members_rule name_form name_rule named_by new_struct note number_as object_rule open_form other_item_form outs_form part_rule parted_tail place plain_param plain_tail prepare_form pure_in_resolving_storage pure_in_typing_worlds reference_at reference_rule result_rule return_nothing return_rule scalar_cast server_at set_connection_form set_form set_item_form set_struct set_value_form setting_form sign_rule size_rule slot_rule spelled_indicator_form spelled_text_form spelled_value_form statement_text_form stored stored_at suffix_form suits_rule tag_alone tag_rule tagged_struct target_form target_rule text_form told_area transaction_at type_or_fault typed user_form using_form value_form value_rule varchar_member varchar_object varchar_struct warned_area whenever_form within_rule
returns-clause-opened c = refl

pub returns-clause-fetched : goal.returns-clause-fetched
unfolding digits action_form address_rule allocate_form argument_form arguments_form arrange arrow_rule ask_in_resolving_storage ask_in_typing_worlds assign_rule assigned_form at_form autocommit_form begin_function begin_struct behind_host_form binary_rule braces_rule bump_rule call_by call_rule cast_rule chain_in_resolving_storage chain_in_typing_worlds change checks complete_rule compound_rule condition_form condition_rule connect_form constant_form counted_area cursor_form deallocate_at_form deallocate_form declare declare_at declare_label demand denote disconnect_form do_form end_struct enter execute_form fixed_rule free_name free_tag fresh_area get_form got_form host_at include_form index_rule indicator_form ins_form instead into_list item_form keep_within know_better know_function leave length_rule library_literal lists_form main_rule member_named member_rule members_rule name_form name_rule named_by new_struct note number_as object_rule open_form other_item_form outs_form part_rule parted_tail place plain_param plain_tail prepare_form pure_in_resolving_storage pure_in_typing_worlds reference_at reference_rule result_rule return_nothing return_rule scalar_cast server_at set_connection_form set_form set_item_form set_struct set_value_form setting_form sign_rule size_rule slot_rule spelled_indicator_form spelled_text_form spelled_value_form statement_text_form stored stored_at suffix_form suits_rule tag_alone tag_rule tagged_struct target_form target_rule text_form told_area transaction_at type_or_fault typed user_form using_form value_form value_rule varchar_member varchar_object varchar_struct warned_area whenever_form within_rule
returns-clause-fetched c = refl

pub returns-clause-spent : goal.returns-clause-spent
unfolding digits action_form address_rule allocate_form argument_form arguments_form arrange arrow_rule ask_in_resolving_storage ask_in_typing_worlds assign_rule assigned_form at_form autocommit_form begin_function begin_struct behind_host_form binary_rule braces_rule bump_rule call_by call_rule cast_rule chain_in_resolving_storage chain_in_typing_worlds change checks complete_rule compound_rule condition_form condition_rule connect_form constant_form counted_area cursor_form deallocate_at_form deallocate_form declare declare_at declare_label demand denote disconnect_form do_form end_struct enter execute_form fixed_rule free_name free_tag fresh_area get_form got_form host_at include_form index_rule indicator_form ins_form instead into_list item_form keep_within know_better know_function leave length_rule library_literal lists_form main_rule member_named member_rule members_rule name_form name_rule named_by new_struct note number_as object_rule open_form other_item_form outs_form part_rule parted_tail place plain_param plain_tail prepare_form pure_in_resolving_storage pure_in_typing_worlds reference_at reference_rule result_rule return_nothing return_rule scalar_cast server_at set_connection_form set_form set_item_form set_struct set_value_form setting_form sign_rule size_rule slot_rule spelled_indicator_form spelled_text_form spelled_value_form statement_text_form stored stored_at suffix_form suits_rule tag_alone tag_rule tagged_struct target_form target_rule text_form told_area transaction_at type_or_fault typed user_form using_form value_form value_rule varchar_member varchar_object varchar_struct warned_area whenever_form within_rule
returns-clause-spent c = refl
