-- The call that is written for a statement, where it stands.
use Rattle.std.specs.Prelude.{◌≡◌, ℕ, Bool, true, List, [], ◌∷◌, Option, Some}
use Rattle.ec_arguments.specs.Arguments.{Call}
use Rattle.ec_arguments.specs.Rules.{is_settable, is_call}
use Rattle.ec_arguments.specs.Writing.{arguments}
use Rattle.ec_ctypes.specs.declared.embedded.emb.Item.{Item}
use Rattle.ec_ctypes.specs.trees.Embedded.{InputData, OutsData, no_outs, listed_outs, area_outs, EmbData, server_text, execute, set_items}
use Rattle.ec_ctypes.specs.trees.Exprs.{ExprData}
use Rattle.ec_ctypes.specs.trees.Types.{StructData}
use Rattle.ec_language.specs.Letters.{Text}
use Rattle.ec_expansion_defs.specs.Calls.{call_by}
use Rattle.ec_host_defs.specs.Bound.{statement_bound}
use Rattle.ec_typing_defs.specs.Worlds.{Place, World}
use Rattle.ec_phases_defs.specs.written.Calls.{call_with}
use Rattle.ec_meaning_defs.specs.resolved.Resolved.{Exp}
use Rattle.ec_resolving_defs.specs.Storage.{Storage, ReferenceForm}
use Rattle.ec_direct_defs.specs.Statements.{Around, Statement, statement_of}
use Rattle.ec_sim_statement_laws.specs.statement.Calls.{any_pointer, HasTargets}
use Rattle.ec_sim_statement_laws.specs.argument.Arguments.{AreArguments}
use Rattle.ec_sim_statement_laws.specs.argument.Bound.{cursor_of}
use Rattle.ec_sim_world_laws.specs.call.Calls.{cut_of}
use Rattle.ec_sim_world_laws.specs.call.Pointers.{AreSimple, text_there}
use Rattle.ec_sim_world_laws.specs.place.References.{NamesAreDeclared, tables_of}
use Rattle.ec_sim_world_laws.specs.place.Statements.{pointer_exp}
use Rattle.ec_sim_world_laws.specs.place.Structs.{IsWithin}
use Rattle.ec_sim_host_laws.specs.table.Tables.{AreSound}
use Rattle.ec_sim_host_laws.specs.fit.Fits.{HostsFit}
use Rattle.ec_sim_host_laws.specs.host.Hosts.{StatementStands}

-- an answer that goes into hosts goes into one or more
abbrev pub HasHosts : OutsData → Type 0
HasHosts no_outs = Unit {0}
HasHosts (listed_outs []) = ⊥
HasHosts (listed_outs (h ∷ hs)) = Unit {0}
HasHosts (area_outs a) = Unit {0}

abbrev pub OutputsAreSome : EmbData → Type 0
OutputsAreSome e = elim e.kind [
  | server_text parts outs ↦ HasHosts outs
  | execute name ins outs ↦ HasHosts outs
  | _ ↦ Unit {0}
]

-- an item of a descriptor that is set is one that can be
abbrev pub AreSettable : List (Item × InputData) → Type 0
AreSettable [] = Unit {0}
AreSettable (i ∷ is) = (is_settable i.0 ≡ true) × AreSettable is

abbrev pub ItemsAreSet : EmbData → Type 0
ItemsAreSet e = elim e.kind [ set_items area index items ↦ AreSettable items | _ ↦ Unit {0} ]

-- its pointers are arguments and names with their suffixes, and it keeps the rules by what is seen of them
pub record CallStands (at : Place) (s : Storage) (w : World) (line : ℕ) (c : Call ExprData)
    : Type 0 where
  pub pointers : AreArguments at s w (pointer_exp at s w) (arguments (cut_of line c))
  pub simple : AreSimple (arguments (cut_of line c))
  pub rules : is_call (text_there at w) c ≡ true

abbrev pub CallsStand : Type 0
CallsStand = (at : Place) (s : Storage) (w z : World) (hosts functions : List ℕ)
    → IsWithin w z → NamesAreDeclared w functions → AreSound z
    → HostsFit z (tables_of z hosts functions) → (prepared : Option Text) (d : Option EmbData)
    (rs : List ReferenceForm) (e : EmbData) (x : Around) → ItemsAreSet e
    → StatementStands at s w (tables_of z hosts functions) e (cursor_of prepared d e x.denoted rs) x
    → (line : ℕ) (c : Call ExprData)
    → call_by prepared e.kind (statement_bound (tables_of z hosts functions) e d x.denoted) ≡ Some c
    → CallStands at s w line c

-- the statement that it is written for stores into something, if it stores
abbrev pub StatementsHaveTargets : Type 0
StatementsHaveTargets = (at : Place) (s : Storage) (w z : World) (hosts functions : List ℕ)
    → IsWithin w z → NamesAreDeclared w functions → AreSound z
    → HostsFit z (tables_of z hosts functions) → (prepared : Option Text) (d : Option EmbData)
    (rs : List ReferenceForm) (e : EmbData) (x : Around) → OutputsAreSome e
    → StatementStands at s w (tables_of z hosts functions) e (cursor_of prepared d e x.denoted rs) x
    → (y : Statement Exp)
    → statement_of (tables_of z hosts functions) e (cursor_of prepared d e x.denoted rs) x ≡ Some y
    → HasTargets y

-- a call keeps its rules with other pointers, whatever these are
abbrev pub RulesAreKept : Type 0
RulesAreKept = (structs : List StructData) (is_text : ExprData → Bool) (g : ExprData → Exp)
    (c : Call ExprData) → is_call is_text c ≡ true
    → is_call (any_pointer structs) (call_with g c) ≡ true
