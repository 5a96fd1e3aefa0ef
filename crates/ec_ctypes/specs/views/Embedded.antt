-- The data of embedded statements.
use Rattle.std.specs.Prelude.{map, option_map}
use Rattle.ec_ctypes.specs.declared.embedded.host.Host.{Host}
use Rattle.ec_ctypes.specs.declared.embedded.host.TextArg.{TextArg}
use Rattle.ec_ctypes.specs.declared.embedded.host.TextArg.TheVariants as text_arg
use Rattle.ec_ctypes.specs.declared.embedded.host.Input.{Input}
use Rattle.ec_ctypes.specs.declared.embedded.host.Input.TheVariants as input
use Rattle.ec_ctypes.specs.declared.embedded.host.Ins.{Ins}
use Rattle.ec_ctypes.specs.declared.embedded.host.Ins.TheVariants as ins
use Rattle.ec_ctypes.specs.declared.embedded.host.Outs.{Outs}
use Rattle.ec_ctypes.specs.declared.embedded.host.Outs.TheVariants as outs
use Rattle.ec_ctypes.specs.declared.embedded.host.Part.{Part}
use Rattle.ec_ctypes.specs.declared.embedded.host.Part.TheVariants as part
use Rattle.ec_ctypes.specs.declared.embedded.emb.Item.{Item}
use Rattle.ec_ctypes.specs.declared.embedded.emb.Action.{Action}
use Rattle.ec_ctypes.specs.declared.embedded.emb.Action.TheVariants as action
use Rattle.ec_ctypes.specs.declared.embedded.emb.Emb.{Emb}
use Rattle.ec_ctypes.specs.declared.embedded.emb.EmbKind.{EmbKind}
use Rattle.ec_ctypes.specs.declared.embedded.emb.EmbKind.TheVariants as kind
use Rattle.ec_ctypes.specs.trees.Embedded.{HostData, TextArgData, word_arg, host_arg, host_with_indicator, InputData, host_input, const_input, InsData, listed_ins, area_ins, OutsData, no_outs, listed_outs, area_outs, PartData, bytes_part, host_part, ActionData, continue_action, goto_action, print_action, stop_action, break_action, next_action, call_action, EmbKindData, connect, set_connection, disconnect, autocommit, trans, server_text, declare_cursor, open_cursor, execute_immediate, prepare, execute, deallocate, allocate_area, free_area, get_count, get_items, set_count, set_items, whenever, include_sqlca, EmbData}
use Rattle.ec_ctypes.specs.views.Exprs.{expr_view, expr_option_view, exprs_view}

abbrev pub host_view : Host → HostData
host_view h = record { value = expr_view h.value; indicator = expr_option_view h.indicator }

abbrev pub text_arg_view : TextArg → TextArgData
text_arg_view (text_arg.Word w) = word_arg w
text_arg_view (text_arg.Host e) = host_arg (expr_view e)
text_arg_view (text_arg.HostWithIndicator e i) = host_with_indicator (expr_view e) (expr_view i)

abbrev pub input_view : Input → InputData
input_view (input.Host h) = host_input (host_view h)
input_view (input.Const c) = const_input c

abbrev pub ins_view : Ins → InsData
ins_view (ins.Listed is) = listed_ins (map input_view is)
ins_view (ins.Area a) = area_ins (text_arg_view a)

abbrev pub outs_view : Outs → OutsData
outs_view outs.Nothing = no_outs
outs_view (outs.Listed hs) = listed_outs (map host_view hs)
outs_view (outs.Area a) = area_outs (text_arg_view a)

abbrev pub part_view : Part → PartData
part_view (part.Bytes b) = bytes_part b
part_view (part.Host h) = host_part (host_view h)

abbrev pub action_view : Action → ActionData
action_view action.Continue = continue_action
action_view (action.Goto l) = goto_action l
action_view action.Print = print_action
action_view action.Stop = stop_action
action_view action.Break = break_action
action_view action.Next = next_action
action_view (action.Call f es) = call_action f (exprs_view es)

abbrev pub get_item_view : Item × Host → Item × HostData
get_item_view i = (i.0, host_view i.1)

abbrev pub set_item_view : Item × Input → Item × InputData
set_item_view i = (i.0, input_view i.1)

abbrev pub emb_kind_view : EmbKind → EmbKindData
emb_kind_view (kind.Connect target name user password) =
    connect (text_arg_view target) (option_map text_arg_view name)
    (option_map text_arg_view user) (option_map text_arg_view password)
emb_kind_view (kind.SetConnection name) = set_connection (text_arg_view name)
emb_kind_view (kind.Disconnect name) = disconnect (text_arg_view name)
emb_kind_view (kind.Autocommit on) = autocommit on
emb_kind_view (kind.Trans text) = trans text
emb_kind_view (kind.Text parts os) = server_text (map part_view parts) (outs_view os)
emb_kind_view (kind.Declare cursor parts prepared) =
    declare_cursor cursor (map part_view parts) prepared
emb_kind_view (kind.OpenCursor cursor is) = open_cursor cursor (ins_view is)
emb_kind_view (kind.Immediate text) = execute_immediate (text_arg_view text)
emb_kind_view (kind.Prepare name text) = prepare name (text_arg_view text)
emb_kind_view (kind.Execute name is os) = execute name (ins_view is) (outs_view os)
emb_kind_view (kind.Deallocate name) = deallocate name
emb_kind_view (kind.Allocate area) = allocate_area (text_arg_view area)
emb_kind_view (kind.Free area) = free_area (text_arg_view area)
emb_kind_view (kind.GetCount area host) = get_count (text_arg_view area) (host_view host)
emb_kind_view (kind.Get area at items) =
    get_items (text_arg_view area) (input_view at) (map get_item_view items)
emb_kind_view (kind.SetCount area value) = set_count (text_arg_view area) (input_view value)
emb_kind_view (kind.Set area at items) =
    set_items (text_arg_view area) (input_view at) (map set_item_view items)
emb_kind_view (kind.Whenever cond act) = whenever cond (action_view act)
emb_kind_view kind.IncludeSqlca = include_sqlca

abbrev pub emb_view : Emb → EmbData
emb_view e = record {
  line = e.line;
  place = e.place;
  at = option_map text_arg_view e.at;
  kind = emb_kind_view e.kind;
}
