-- Numbers in decimal digits, computed.
use Rattle.std.proofs.Common.{refl}
use Rattle.std.specs.Fmt.{digits}
use Rattle.ec_typing_defs.specs.Embedded.{reference_rule, members_rule, denote}
use Rattle.ec_typing_defs.specs.Expressions.{type_or_fault, tag_rule, tagged_struct, begin_struct, end_struct, member_named, varchar_struct, varchar_object, varchar_member}
use Rattle.ec_typing_defs.specs.Initializers.{fixed_rule, suits_rule, part_rule, slot_rule, braces_rule}
use Rattle.ec_typing_defs.specs.Operands.{typed, named_by, name_rule, value_rule, address_rule, target_rule, sign_rule, binary_rule, index_rule, assign_rule, compound_rule, bump_rule, call_by, call_rule, member_rule, arrow_rule, scalar_cast, cast_rule, size_rule, length_rule, within_rule, complete_rule}
use Rattle.ec_typing_defs.specs.Programs.{result_rule, plain_param, begin_function, know_function, main_rule}
use Rattle.ec_typing_defs.specs.Statements.{object_rule, tag_alone, condition_rule, return_rule, return_nothing}
use Rattle.ec_typing_defs.specs.Worlds.{chain, pure, ask, change, note, demand, keep_within, instead, place, enter, leave, free_name, free_tag, declare, know_better, declare_label, number_as, new_struct, set_struct}
use Rattle.ec_embedded.specs.Connections.{user_form, plain_tail, parted_tail, target_form, connect_form, set_connection_form, disconnect_form, autocommit_form}
use Rattle.ec_embedded.specs.Descriptors.{allocate_form, item_form, got_form, get_form, other_item_form, set_item_form, assigned_form, setting_form, behind_host_form, set_value_form, set_form}
use Rattle.ec_embedded.specs.Directives.{condition_form, argument_form, arguments_form, do_form, action_form, whenever_form, include_form, cursor_form}
use Rattle.ec_embedded.specs.Dynamic.{prepare_form, lists_form, execute_form, deallocate_form, deallocate_at_form, open_form}
use Rattle.ec_embedded.specs.References.{suffix_form, name_form, indicator_form, spelled_indicator_form, text_form, spelled_text_form, statement_text_form, constant_form, value_form, spelled_value_form, ins_form, outs_form, using_form}
use Rattle.ec_embedded.specs.ServerText.{reference_at, host_at, into_list, server_at, transaction_at}
use Rattle.ec_embedded.specs.Statements.{declare_at, at_form}
use Rattle.ec_host_defs.proofs.statement_examples.list_examples.Goals as goal

pub returns-clause-open : goal.returns-clause-open
unfolding digits reference_rule members_rule denote type_or_fault tag_rule tagged_struct begin_struct end_struct member_named varchar_struct varchar_object varchar_member fixed_rule suits_rule part_rule slot_rule braces_rule typed named_by name_rule value_rule address_rule target_rule sign_rule binary_rule index_rule assign_rule compound_rule bump_rule call_by call_rule member_rule arrow_rule scalar_cast cast_rule size_rule length_rule within_rule complete_rule result_rule plain_param begin_function know_function main_rule object_rule tag_alone condition_rule return_rule return_nothing chain pure ask change note demand keep_within instead place enter leave free_name free_tag declare know_better declare_label number_as new_struct set_struct user_form plain_tail parted_tail target_form connect_form set_connection_form disconnect_form autocommit_form allocate_form item_form got_form get_form other_item_form set_item_form assigned_form setting_form behind_host_form set_value_form set_form condition_form argument_form arguments_form do_form action_form whenever_form include_form cursor_form prepare_form lists_form execute_form deallocate_form deallocate_at_form open_form suffix_form name_form indicator_form spelled_indicator_form text_form spelled_text_form statement_text_form constant_form value_form spelled_value_form ins_form outs_form using_form reference_at host_at into_list server_at transaction_at declare_at at_form
returns-clause-open c = refl
