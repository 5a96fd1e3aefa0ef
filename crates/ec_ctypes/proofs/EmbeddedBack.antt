-- Embedded statements from their data.
use Rattle.std.proofs.Common.{◌≡◌, refl, map}
use Rattle.std.specs.Prelude.{option_map}
use Rattle.ec_ctypes.specs.declared.embedded.host.Host.{Host}
use Rattle.ec_ctypes.specs.declared.embedded.host.TextArg.{TextArg}
use Rattle.ec_ctypes.specs.declared.embedded.host.TextArg.TheVariants as text_arg
use Rattle.ec_ctypes.specs.declared.embedded.host.Input.{Input}
use Rattle.ec_ctypes.specs.declared.embedded.host.Input.TheVariants as input
use Rattle.ec_ctypes.specs.declared.embedded.host.Ins.{Ins}
use Rattle.ec_ctypes.specs.declared.embedded.host.Ins.TheVariants as ins
use Rattle.ec_ctypes.specs.declared.embedded.host.Outs.{Outs}
use Rattle.ec_ctypes.specs.declared.embedded.host.Outs.TheVariants as outs
use Rattle.ec_ctypes.specs.declared.embedded.host.Part.{Part}
use Rattle.ec_ctypes.specs.declared.embedded.host.Part.TheVariants as part
use Rattle.ec_ctypes.specs.declared.embedded.emb.Item.{Item}
use Rattle.ec_ctypes.specs.declared.embedded.emb.Action.{Action}
use Rattle.ec_ctypes.specs.declared.embedded.emb.Action.TheVariants as action
use Rattle.ec_ctypes.specs.declared.embedded.emb.Emb.{Emb}
use Rattle.ec_ctypes.specs.declared.embedded.emb.EmbKind.{EmbKind}
use Rattle.ec_ctypes.specs.declared.embedded.emb.EmbKind.TheVariants as kind
use Rattle.ec_ctypes.specs.trees.Embedded.{HostData, TextArgData, word_arg, host_arg, host_with_indicator, InputData, host_input, const_input, InsData, listed_ins, area_ins, OutsData, no_outs, listed_outs, area_outs, PartData, bytes_part, host_part, ActionData, continue_action, goto_action, print_action, stop_action, break_action, next_action, call_action, EmbKindData, connect, set_connection, disconnect, autocommit, trans, server_text, declare_cursor, open_cursor, execute_immediate, prepare, execute, deallocate, allocate_area, free_area, get_count, get_items, set_count, set_items, whenever, include_sqlca, EmbData}
use Rattle.ec_ctypes.specs.views.Embedded.{host_view, text_arg_view, input_view, ins_view, outs_view, part_view, action_view, get_item_view, set_item_view, emb_kind_view, emb_view}
use Rattle.ec_ctypes.proofs.Undone.{map_undone, option_undone, undone_same}
use Rattle.ec_ctypes.proofs.ExprsBack.{expr_back, expr_undone, expr_option_back, expr_option_undone, exprs_back, exprs_undone}

-- the value that has this data, and that the data has no other
abbrev pub host_back : HostData → Host
host_back h = record { value = expr_back h.value; indicator = expr_option_back h.indicator }

pub host_undone : (h : Host) → host_back (host_view h) ≡ h
host_undone h = λ i. record { value = expr_undone h.value i; indicator = expr_option_undone h.indicator i }

abbrev pub text_arg_back : TextArgData → TextArg
text_arg_back (word_arg w) = text_arg.Word w
text_arg_back (host_arg e) = text_arg.Host (expr_back e)
text_arg_back (host_with_indicator e n) = text_arg.HostWithIndicator (expr_back e) (expr_back n)

pub text_arg_undone : (t : TextArg) → text_arg_back (text_arg_view t) ≡ t
text_arg_undone (text_arg.Word w) = refl
text_arg_undone (text_arg.Host e) = λ i. text_arg.Host (expr_undone e i)
text_arg_undone (text_arg.HostWithIndicator e n) = λ i. text_arg.HostWithIndicator (expr_undone e i) (expr_undone n i)

abbrev pub input_back : InputData → Input
input_back (host_input h) = input.Host (host_back h)
input_back (const_input c) = input.Const c

pub input_undone : (x : Input) → input_back (input_view x) ≡ x
input_undone (input.Host h) = λ i. input.Host (host_undone h i)
input_undone (input.Const c) = refl

abbrev pub ins_back : InsData → Ins
ins_back (listed_ins is) = ins.Listed (map input_back is)
ins_back (area_ins a) = ins.Area (text_arg_back a)

pub ins_undone : (x : Ins) → ins_back (ins_view x) ≡ x
ins_undone (ins.Listed xs) = λ i. ins.Listed (map_undone input_view input_back input_undone xs i)
ins_undone (ins.Area a) = λ i. ins.Area (text_arg_undone a i)

abbrev pub outs_back : OutsData → Outs
outs_back no_outs = outs.Nothing
outs_back (listed_outs hs) = outs.Listed (map host_back hs)
outs_back (area_outs a) = outs.Area (text_arg_back a)

pub outs_undone : (x : Outs) → outs_back (outs_view x) ≡ x
outs_undone outs.Nothing = refl
outs_undone (outs.Listed hs) = λ i. outs.Listed (map_undone host_view host_back host_undone hs i)
outs_undone (outs.Area a) = λ i. outs.Area (text_arg_undone a i)

abbrev pub part_back : PartData → Part
part_back (bytes_part b) = part.Bytes b
part_back (host_part h) = part.Host (host_back h)

pub part_undone : (p : Part) → part_back (part_view p) ≡ p
part_undone (part.Bytes b) = refl
part_undone (part.Host h) = λ i. part.Host (host_undone h i)

abbrev pub action_back : ActionData → Action
action_back continue_action = action.Continue
action_back (goto_action l) = action.Goto l
action_back print_action = action.Print
action_back stop_action = action.Stop
action_back break_action = action.Break
action_back next_action = action.Next
action_back (call_action f es) = action.Call f (exprs_back es)

pub action_undone : (a : Action) → action_back (action_view a) ≡ a
action_undone action.Continue = refl
action_undone (action.Goto l) = refl
action_undone action.Print = refl
action_undone action.Stop = refl
action_undone action.Break = refl
action_undone action.Next = refl
action_undone (action.Call f es) = λ i. action.Call f (exprs_undone es i)

abbrev get_item_back : Item × HostData → Item × Host
get_item_back x = (x.0, host_back x.1)

get_item_undone : (x : Item × Host) → get_item_back (get_item_view x) ≡ x
get_item_undone x = λ i. (x.0, host_undone x.1 i)

abbrev set_item_back : Item × InputData → Item × Input
set_item_back x = (x.0, input_back x.1)

set_item_undone : (x : Item × Input) → set_item_back (set_item_view x) ≡ x
set_item_undone x = λ i. (x.0, input_undone x.1 i)

abbrev pub emb_kind_back : EmbKindData → EmbKind
emb_kind_back (connect target name user password) = kind.Connect (text_arg_back target) (option_map text_arg_back name) (option_map text_arg_back user) (option_map text_arg_back password)
emb_kind_back (set_connection name) = kind.SetConnection (text_arg_back name)
emb_kind_back (disconnect name) = kind.Disconnect (text_arg_back name)
emb_kind_back (autocommit on) = kind.Autocommit on
emb_kind_back (trans text) = kind.Trans text
emb_kind_back (server_text parts os) = kind.Text (map part_back parts) (outs_back os)
emb_kind_back (declare_cursor cursor parts prepared) = kind.Declare cursor (map part_back parts) prepared
emb_kind_back (open_cursor cursor is) = kind.OpenCursor cursor (ins_back is)
emb_kind_back (execute_immediate text) = kind.Immediate (text_arg_back text)
emb_kind_back (prepare name text) = kind.Prepare name (text_arg_back text)
emb_kind_back (execute name is os) = kind.Execute name (ins_back is) (outs_back os)
emb_kind_back (deallocate name) = kind.Deallocate name
emb_kind_back (allocate_area area) = kind.Allocate (text_arg_back area)
emb_kind_back (free_area area) = kind.Free (text_arg_back area)
emb_kind_back (get_count area host) = kind.GetCount (text_arg_back area) (host_back host)
emb_kind_back (get_items area at items) = kind.Get (text_arg_back area) (input_back at) (map get_item_back items)
emb_kind_back (set_count area value) = kind.SetCount (text_arg_back area) (input_back value)
emb_kind_back (set_items area at items) = kind.Set (text_arg_back area) (input_back at) (map set_item_back items)
emb_kind_back (whenever cond act) = kind.Whenever cond (action_back act)
emb_kind_back include_sqlca = kind.IncludeSqlca

pub emb_kind_undone : (k : EmbKind) → emb_kind_back (emb_kind_view k) ≡ k
emb_kind_undone (kind.Connect target name user password) = λ i. kind.Connect (text_arg_undone target i) (option_undone text_arg_view text_arg_back text_arg_undone name i) (option_undone text_arg_view text_arg_back text_arg_undone user i) (option_undone text_arg_view text_arg_back text_arg_undone password i)
emb_kind_undone (kind.SetConnection name) = λ i. kind.SetConnection (text_arg_undone name i)
emb_kind_undone (kind.Disconnect name) = λ i. kind.Disconnect (text_arg_undone name i)
emb_kind_undone (kind.Autocommit on) = refl
emb_kind_undone (kind.Trans text) = refl
emb_kind_undone (kind.Text parts os) = λ i. kind.Text (map_undone part_view part_back part_undone parts i) (outs_undone os i)
emb_kind_undone (kind.Declare cursor parts prepared) = λ i. kind.Declare cursor (map_undone part_view part_back part_undone parts i) prepared
emb_kind_undone (kind.OpenCursor cursor is) = λ i. kind.OpenCursor cursor (ins_undone is i)
emb_kind_undone (kind.Immediate text) = λ i. kind.Immediate (text_arg_undone text i)
emb_kind_undone (kind.Prepare name text) = λ i. kind.Prepare name (text_arg_undone text i)
emb_kind_undone (kind.Execute name is os) = λ i. kind.Execute name (ins_undone is i) (outs_undone os i)
emb_kind_undone (kind.Deallocate name) = refl
emb_kind_undone (kind.Allocate area) = λ i. kind.Allocate (text_arg_undone area i)
emb_kind_undone (kind.Free area) = λ i. kind.Free (text_arg_undone area i)
emb_kind_undone (kind.GetCount area host) = λ i. kind.GetCount (text_arg_undone area i) (host_undone host i)
emb_kind_undone (kind.Get area at items) = λ i. kind.Get (text_arg_undone area i) (input_undone at i) (map_undone get_item_view get_item_back get_item_undone items i)
emb_kind_undone (kind.SetCount area value) = λ i. kind.SetCount (text_arg_undone area i) (input_undone value i)
emb_kind_undone (kind.Set area at items) = λ i. kind.Set (text_arg_undone area i) (input_undone at i) (map_undone set_item_view set_item_back set_item_undone items i)
emb_kind_undone (kind.Whenever cond act) = λ i. kind.Whenever cond (action_undone act i)
emb_kind_undone kind.IncludeSqlca = refl

abbrev pub emb_back : EmbData → Emb
emb_back e = record { line = e.line; place = e.place; at = option_map text_arg_back e.at; kind = emb_kind_back e.kind }

pub emb_undone : (e : Emb) → emb_back (emb_view e) ≡ e
emb_undone e = λ i. record { line = e.line; place = e.place; at = option_undone text_arg_view text_arg_back text_arg_undone e.at i; kind = emb_kind_undone e.kind i }

-- where two have one view, they are one
pub same_host : (a : Host) → (b : Host) → host_view a ≡ host_view b → a ≡ b
same_host = undone_same host_view host_back host_undone

pub same_text_arg : (a : TextArg) → (b : TextArg) → text_arg_view a ≡ text_arg_view b → a ≡ b
same_text_arg = undone_same text_arg_view text_arg_back text_arg_undone

pub same_input : (a : Input) → (b : Input) → input_view a ≡ input_view b → a ≡ b
same_input = undone_same input_view input_back input_undone

pub same_ins : (a : Ins) → (b : Ins) → ins_view a ≡ ins_view b → a ≡ b
same_ins = undone_same ins_view ins_back ins_undone

pub same_outs : (a : Outs) → (b : Outs) → outs_view a ≡ outs_view b → a ≡ b
same_outs = undone_same outs_view outs_back outs_undone

pub same_part : (a : Part) → (b : Part) → part_view a ≡ part_view b → a ≡ b
same_part = undone_same part_view part_back part_undone

pub same_action : (a : Action) → (b : Action) → action_view a ≡ action_view b → a ≡ b
same_action = undone_same action_view action_back action_undone

pub same_emb_kind : (a : EmbKind) → (b : EmbKind) → emb_kind_view a ≡ emb_kind_view b → a ≡ b
same_emb_kind = undone_same emb_kind_view emb_kind_back emb_kind_undone

pub same_emb : (a : Emb) → (b : Emb) → emb_view a ≡ emb_view b → a ≡ b
same_emb = undone_same emb_view emb_back emb_undone
