-- The hosts of a statement, whose references are found where it stands.
use Rattle.std.specs.Prelude.{◌≡◌, ℕ, true, false, List, [], Option}
use Rattle.ec_ctypes.specs.trees.Embedded.{PartData, open_cursor, EmbData}
use Rattle.ec_ctypes.specs.trees.Types.{TyData}
use Rattle.ec_language.specs.Letters.{Text}
use Rattle.ec_host_defs.specs.Elements.{is_text}
use Rattle.ec_host_defs.specs.Faults.{uses_faults}
use Rattle.ec_host_defs.specs.Programs.{ProgramData}
use Rattle.ec_host_defs.specs.Uses.{part_uses, each_uses, uses_of}
use Rattle.ec_typing_defs.specs.statement_parts.Handlers.{is_directive}
use Rattle.ec_typing_defs.specs.statement_parts.References.{of_part, of_all, references}
use Rattle.ec_typing_defs.specs.Answers.{structs_of}
use Rattle.ec_typing_defs.specs.Worlds.{Place, World}
use Rattle.ec_resolving_defs.specs.Storage.{Storage, ReferenceForm}
use Rattle.ec_direct_defs.specs.Statements.{Around, Cursor, text_option}
use Rattle.ec_sim_statement_laws.specs.argument.Bound.{cursor_of, OptionIs, KindIs, PartsAre}
use Rattle.ec_sim_statement_laws.specs.expression.Worlds.{KeepsReserved, AllKeepReserved}
use Rattle.ec_sim_world_laws.specs.place.References.{NamesAreDeclared, tables_of}
use Rattle.ec_sim_world_laws.specs.place.Statements.{pointer_exp, ReferencesAre, NamesText}
use Rattle.ec_sim_world_laws.specs.place.Structs.{IsWithin}
use Rattle.ec_sim_host_laws.specs.table.Tables.{VarcharsAre}

-- where a statement stands
module _ (at : Place) (s : Storage) (w : World) (p : ProgramData) where
  -- these parts of a statement: their references come next, and no host is at fault
  pub record PartsStand (parts : List PartData) (x : Around) : Type 0 where
    pub references : ReferencesAre at s w (of_all of_part parts) x
    pub without_fault : uses_faults p (each_uses part_uses parts) x.denoted ≡ []

  -- so are those of the cursor that it opens
  abbrev pub CursorStands : EmbData → Cursor → Type 0
  CursorStands e c = elim e.kind [
    | open_cursor name ins ↦ PartsStand c.parts c.around
    | _ ↦ Unit {0}
  ]

  -- a statement with these references, which no host is at fault in, where no reserved name stands for anything
  pub record StatementStands (e : EmbData) (c : Cursor) (x : Around) : Type 0 where
    pub executed : is_directive e ≡ false
    pub reserved_here : KeepsReserved w.here
    pub reserved_outer : AllKeepReserved w.outer
    pub references : ReferencesAre at s w (references e) x
    pub without_fault : uses_faults p (uses_of e) x.denoted ≡ []
    pub cursor : CursorStands e c

-- a type that names a text does so by what it is
abbrev pub TextsAreNamed : Type 0
TextsAreNamed = (z : World) → VarcharsAre z → (t : TyData) → is_text (structs_of z) t ≡ true
    → NamesText (structs_of z) t

-- The pointers that are written for the parts of a statement lead to the places of their leaves
abbrev pub PartsLead : Type 0
PartsLead = (at : Place) (s : Storage) (w z : World) (hosts functions : List ℕ) → IsWithin w z
    → NamesAreDeclared w functions → (parts : List PartData) (x : Around)
    → PartsStand at s w (tables_of z hosts functions) parts x
    → PartsAre (tables_of z hosts functions) (pointer_exp at s w) parts x

-- and so do those of all hosts and texts of a statement
pub record StatementLeads (p : ProgramData) (at : Place) (s : Storage) (w : World) (e : EmbData)
    (c : Cursor) (x : Around) : Type 0 where
  pub connection : OptionIs p (pointer_exp at s w) e.at x
  pub kind : KindIs p (pointer_exp at s w) e c (text_option p e.at x).left

abbrev pub StatementsLead : Type 0
StatementsLead = (at : Place) (s : Storage) (w z : World) (hosts functions : List ℕ)
    → IsWithin w z → NamesAreDeclared w functions → VarcharsAre z → (prepared : Option Text)
    (d : Option EmbData) (rs : List ReferenceForm) (e : EmbData) (x : Around)
    → StatementStands at s w (tables_of z hosts functions) e (cursor_of prepared d e x.denoted rs) x
    → StatementLeads (tables_of z hosts functions) at s w e (cursor_of prepared d e x.denoted rs) x
