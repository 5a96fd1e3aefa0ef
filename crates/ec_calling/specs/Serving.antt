-- Calls that are cut, in the words of the definitions.
use Rattle.std.specs.Prelude.{ℕ, List}
use Rattle.std.proofs.Common.{Bor}
use Rattle.ec_arguments.specs.Arguments as spec
use Rattle.ec_cut.specs.Views as cut
use Rattle.ec_cut.specs.declared.arguments.Cut.{Cut}
use Rattle.ec_cut.specs.declared.arguments.Member.{Member}
use Rattle.ec_cut.specs.declared.arguments.Statement.{Statement}
use Rattle.ec_cut.specs.declared.arguments.Text.{Text}
use Rattle.ec_ctypes.specs.declared.embedded.emb.Item.{Item}
use Rattle.ec_runtime.specs.declared.call.Act.{Act}
use Rattle.ec_runtime.specs.declared.call.Describe.{Describe}
use Rattle.ec_runtime.specs.Statements.{act_view, describe_view}
use Rattle.ec_calling.specs.declared.address.Address.{Address}
use Rattle.ec_calling.specs.Giving.{bytes_of, number_of}

-- the parts of a call that is cut, over the literals of the program
abbrev pub GivenText : Type 0
GivenText = Text (Bor (List ℕ)) Address

abbrev pub GivenMember : Type 0
GivenMember = Member (Bor (List ℕ)) Address

abbrev pub GivenStatement : Type 0
GivenStatement = Statement (Bor (List ℕ)) Address

abbrev pub text_seen : GivenText → spec.TextArg ℕ
text_seen x = cut.text_view bytes_of number_of x

abbrev pub member_seen : GivenMember → spec.Member ℕ
member_seen x = cut.member_view bytes_of number_of x

abbrev pub members_seen : List GivenMember → List (spec.Member ℕ)
members_seen xs = cut.members_view bytes_of number_of xs

abbrev pub items_seen : List (Item × GivenMember) → List (spec.ItemMember ℕ)
items_seen xs = cut.items_view bytes_of number_of xs

abbrev pub statement_seen : GivenStatement → spec.Statement ℕ
statement_seen x = cut.statement_view bytes_of number_of x

abbrev pub cut_seen : Cut (Bor (List ℕ)) Address → spec.Cut ℕ
cut_seen c = cut.cut_view bytes_of number_of c

-- a call of ECPGdo on a line: over which connection, which statement, with which values, into which hosts
abbrev pub run_seen : ℕ → GivenText → spec.Statement ℕ → List GivenMember → List GivenMember →
    spec.Cut ℕ
run_seen line connection statement ins outs =
    record {
      line = line;
      call = spec.run (text_seen connection) statement (members_seen ins) (members_seen outs);
    }

-- what is called on a line and over a connection
abbrev pub act_seen : ℕ → GivenText → Act → spec.Cut ℕ
act_seen line connection act =
    record { line = line; call = act_view (text_seen connection) act }

-- CONNECT on a line: to which server, by whom, with which password and under which name
abbrev pub connect_seen : ℕ → GivenText → GivenText → GivenText → GivenText → spec.Cut ℕ
connect_seen line target user password name =
    record {
      line = line;
      call = spec.connect (text_seen target) (text_seen user) (text_seen password) (text_seen name);
    }

-- DISCONNECT and SET CONNECTION on a line, by a name
abbrev pub disconnect_seen : ℕ → GivenText → spec.Cut ℕ
disconnect_seen line name = record { line = line; call = spec.disconnect (text_seen name) }

abbrev pub set_connection_seen : ℕ → GivenText → spec.Cut ℕ
set_connection_seen line name =
    record { line = line; call = spec.set_connection (text_seen name) }

-- PREPARE on a line: over which connection, under which name, which text
abbrev pub prepare_seen : ℕ → GivenText → List ℕ → GivenText → spec.Cut ℕ
prepare_seen line connection name text =
    record { line = line; call = spec.prepare (text_seen connection) name (text_seen text) }

-- a call on the descriptor of a name, on a line
abbrev pub describe_seen : ℕ → GivenText → Describe → spec.Cut ℕ
describe_seen line name what =
    record { line = line; call = describe_view (text_seen name) what }

abbrev pub get_seen : ℕ → GivenText → GivenMember → List (Item × GivenMember) → spec.Cut ℕ
get_seen line name index items =
    record {
      line = line;
      call = spec.get_items (text_seen name) (member_seen index) (items_seen items);
    }

abbrev pub set_seen : ℕ → GivenText → GivenMember → List (Item × GivenMember) → spec.Cut ℕ
set_seen line name index items =
    record {
      line = line;
      call = spec.set_items (text_seen name) (member_seen index) (items_seen items);
    }
