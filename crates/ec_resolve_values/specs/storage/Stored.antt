-- What the storage of code stands for.
use Rattle.std.specs.Prelude.{ℕ, [], map, option_map}
use Rattle.ec_arguments.specs.Arguments as arg
use Rattle.ec_arguments.specs.Arguments.{Arg}
use Rattle.ec_code.specs.Views.{expression_view, function_view, size_view}
use Rattle.ec_ctypes.specs.views.Types.{ty_view}
use Rattle.ec_meaning_defs.specs.resolved.Resolved.{Exp, faulty}
use Rattle.ec_resolving_defs.specs.Storage as of
use Rattle.ec_typing_defs.specs.Tables.{Named}
use Rattle.ec_resolve_values.specs.declared.storage.block.BlockObjects.{BlockObjects}
use Rattle.ec_resolve_values.specs.declared.storage.embedded.Action.{Action}
use Rattle.ec_resolve_values.specs.declared.storage.embedded.Action.TheVariants as action
use Rattle.ec_resolve_values.specs.declared.storage.embedded.Actions.{Actions}
use Rattle.ec_resolve_values.specs.declared.storage.embedded.EmbeddedForm.{EmbeddedForm}
use Rattle.ec_resolve_values.specs.declared.storage.embedded.Reference.{Reference}
use Rattle.ec_resolve_values.specs.declared.storage.library.Argument.{Argument}
use Rattle.ec_resolve_values.specs.declared.storage.library.Argument.TheVariants as argument
use Rattle.ec_resolve_values.specs.declared.storage.library.LibraryCall.{LibraryCall}
use Rattle.ec_resolve_values.specs.declared.storage.site.Site.{Site}
use Rattle.ec_resolve_values.specs.declared.storage.site.Site.TheVariants as site
use Rattle.ec_resolve_values.specs.declared.storage.storage.Storage.{Storage}

abbrev pub site_view : Site → of.Site
site_view (site.Numbered n) = of.numbered n
site_view (site.Slotted i) = of.slotted i
site_view site.Nowhere = of.nowhere

abbrev pub argument_view : Argument → Arg Exp
argument_view (argument.Symbol s) = arg.symbol s
argument_view (argument.Literal bytes) = arg.literal bytes
argument_view argument.Null = arg.null
argument_view (argument.Int n) = arg.int_constant n
argument_view (argument.Long n) = arg.long_constant n
argument_view (argument.Pointer e) = arg.pointer (expression_view e)
argument_view argument.Before = arg.pointer faulty
argument_view argument.Stray = arg.stray

abbrev pub call_view : LibraryCall → of.LibraryCall
call_view c = (c.name, map argument_view c.arguments)

abbrev pub reference_view : Reference → of.ReferenceForm
reference_view r = record { type = option_map ty_view r.ty; place = expression_view r.place }

abbrev pub action_view : Action → of.ActionForm
action_view action.Pass = of.goes_on
action_view (action.Jump l) = of.jumps l
action_view action.Print = of.prints
action_view action.Stop = of.stops
action_view action.Leave = of.leaves
action_view action.Next = of.continues
action_view (action.Call e) = of.calls_function (expression_view e)

abbrev pub actions_view : Actions → of.ActionForms
actions_view a = record {
  none_found = action_view a.none_found;
  warning = action_view a.warning;
  error = action_view a.error;
}

abbrev pub form_view : EmbeddedForm → of.StatementForm
form_view f = record {
  number = f.number;
  references = map reference_view f.references;
  actions = actions_view f.actions;
}

abbrev pub block_view : BlockObjects → of.BlockObjects
block_view b = record { below = b.below; count = b.count; sizes = map size_view b.sizes }

unfoldable pub storage_of : Storage → of.Storage
storage_of s = record {
  defined = s.defined;
  before_literals = s.before_literals;
  sites = map site_view s.sites;
  globals = s.globals;
  literals = s.literals;
  calls = map call_view s.calls;
  functions = map function_view s.functions;
  statements = map form_view s.statements;
  block = block_view s.block;
}

-- nothing is declared so far, and these functions are defined
abbrev pub fresh : Named (Unit {0}) → ℕ → of.Storage
fresh defined before = record {
  defined = defined;
  before_literals = before;
  sites = [];
  globals = [];
  literals = [];
  calls = [];
  functions = [];
  statements = [];
  block = record { below = 0; count = 0; sizes = [] };
}
