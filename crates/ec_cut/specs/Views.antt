-- Arguments and calls of code, in the words of the definitions. `bytes` is what a literal stands for, and `view` what a pointer does.
use Rattle.std.specs.Prelude.{ℕ, List, map, Option, option_map}
use Rattle.ec_ctypes.specs.declared.embedded.emb.Item.{Item}
use Rattle.ec_arguments.specs.Arguments as spec
use Rattle.ec_cut.specs.declared.arguments.Argument.{Argument}
use Rattle.ec_cut.specs.declared.arguments.Argument.TheVariants as args
use Rattle.ec_cut.specs.declared.arguments.Front.{Front}
use Rattle.ec_cut.specs.declared.arguments.Text.{Text}
use Rattle.ec_cut.specs.declared.arguments.Text.TheVariants as texts
use Rattle.ec_cut.specs.declared.arguments.Indicator.{Indicator}
use Rattle.ec_cut.specs.declared.arguments.Place.{Place}
use Rattle.ec_cut.specs.declared.arguments.Member.{Member}
use Rattle.ec_cut.specs.declared.arguments.Member.TheVariants as members
use Rattle.ec_cut.specs.declared.arguments.Statement.{Statement}
use Rattle.ec_cut.specs.declared.arguments.Statement.TheVariants as statements
use Rattle.ec_cut.specs.declared.arguments.Call.{Call}
use Rattle.ec_cut.specs.declared.arguments.Call.TheVariants as calls
use Rattle.ec_cut.specs.declared.arguments.Cut.{Cut}

module _ {P D : Type 0} (view : P → D) where
  abbrev pub indicator_view : Indicator P → spec.Indicator D
  indicator_view i = record { sym = i.sym; value = view i.value; count = i.count; step = i.step }

  abbrev pub indicators_view : Option (Indicator P) → Option (spec.Indicator D)
  indicators_view i = option_map indicator_view i

  abbrev pub place_view : Place P → spec.Place D
  place_view p = record {
    sym = p.sym;
    value = view p.value;
    size = p.size;
    count = p.count;
    step = p.step;
    ind = indicators_view p.ind;
  }

module _ {L P D : Type 0} (bytes : L → List ℕ) (view : P → D) where
  abbrev pub argument_view : Argument L P → spec.Arg D
  argument_view (args.Symbol s) = spec.symbol s
  argument_view (args.Literal b) = spec.literal (bytes b)
  argument_view args.Null = spec.null
  argument_view (args.Int n) = spec.int_constant n
  argument_view (args.Long n) = spec.long_constant n
  argument_view (args.Pointer p) = spec.pointer (view p)
  argument_view args.Stray = spec.stray

  abbrev pub arguments_view : List (Argument L P) → List (spec.Arg D)
  arguments_view xs = map argument_view xs

  -- the arguments that are left
  abbrev pub left_view : Front L P → List (spec.Arg D)
  left_view f = arguments_view f.rest.now

  abbrev pub text_view : Text L P → spec.TextArg D
  text_view texts.Absent = spec.absent
  text_view (texts.Word b) = spec.word (bytes b)
  text_view (texts.Held p) = spec.held (view p)

  abbrev pub member_view : Member L P → spec.Member D
  member_view (members.Host p) = spec.host (place_view view p)
  member_view (members.Constant b) = spec.constant (bytes b)
  member_view (members.Descriptor name) = spec.descriptor (text_view name)

  abbrev pub members_view : List (Member L P) → List (spec.Member D)
  members_view ms = map member_view ms

  abbrev pub item_view : Item × Member L P → spec.ItemMember D
  item_view i = (i.0, member_view i.1)

  abbrev pub items_view : List (Item × Member L P) → List (spec.ItemMember D)
  items_view is = map item_view is

  abbrev pub statement_view : Statement L P → spec.Statement D
  statement_view (statements.Normal text) = spec.normal (bytes text)
  statement_view (statements.Prepared name) = spec.prepared (bytes name)
  statement_view (statements.Immediate text) = spec.immediate (text_view text)
  statement_view (statements.Opening head name) = spec.opening (bytes head) (bytes name)

  abbrev pub call_view : Call L P → spec.Call D
  call_view (calls.Run connection statement ins outs) =
      spec.run (text_view connection) (statement_view statement) (members_view ins)
      (members_view outs)
  call_view (calls.Connect target user password name) =
      spec.connect (text_view target) (text_view user) (text_view password) (text_view name)
  call_view (calls.Disconnect name) = spec.disconnect (text_view name)
  call_view (calls.SetConnection name) = spec.set_connection (text_view name)
  call_view (calls.SetAutocommit on connection) = spec.set_autocommit on (text_view connection)
  call_view (calls.Control connection text) = spec.control (text_view connection) (bytes text)
  call_view (calls.Prepare connection name text) =
      spec.prepare (text_view connection) (bytes name) (text_view text)
  call_view (calls.Deallocate connection name) = spec.deallocate (text_view connection) (bytes name)
  call_view (calls.AllocateDescriptor name) = spec.allocate_descriptor (text_view name)
  call_view (calls.DeallocateDescriptor name) = spec.deallocate_descriptor (text_view name)
  call_view (calls.GetCount name target) = spec.get_count (text_view name) (member_view target)
  call_view (calls.SetCount name value) = spec.set_count (text_view name) (member_view value)
  call_view (calls.GetItems name index items) =
      spec.get_items (text_view name) (member_view index) (items_view items)
  call_view (calls.SetItems name index items) =
      spec.set_items (text_view name) (member_view index) (items_view items)

  abbrev pub cut_view : Cut L P → spec.Cut D
  cut_view c = record { line = c.line; call = call_view c.call }
