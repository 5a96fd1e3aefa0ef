-- What is bound for a statement, and its places: the pointers that are written lead to the places of its references.
use Rattle.std.specs.Prelude.{◌≡◌, List, [], ◌∷◌, Option, Some, None}
use Rattle.ec_arguments.specs.Arguments.{held, Call}
use Rattle.ec_ctypes.specs.declared.embedded.emb.Item.{Item}
use Rattle.ec_ctypes.specs.trees.Embedded.{HostData, TextArgData, word_arg, host_arg, host_with_indicator, InputData, host_input, const_input, InsData, listed_ins, area_ins, OutsData, no_outs, listed_outs, area_outs, PartData, bytes_part, host_part, EmbData, connect, set_connection, disconnect, autocommit, trans, server_text, declare_cursor, open_cursor, execute_immediate, prepare, execute, deallocate, allocate_area, free_area, get_count, get_items, set_count, set_items, whenever, include_sqlca}
use Rattle.ec_ctypes.specs.trees.Exprs.{ExprData}
use Rattle.ec_expansion_defs.specs.Calls.{text_of, call_by}
use Rattle.ec_host_defs.specs.Bound.{pairs_of, cursor_parts, statement_bound}
use Rattle.ec_host_defs.specs.Faults.{cursor_part}
use Rattle.ec_host_defs.specs.Leaves.{LeafData, Pair}
use Rattle.ec_host_defs.specs.Places.{leaf_pointer, text_pointer}
use Rattle.ec_host_defs.specs.Programs.{ProgramData, Denoted}
use Rattle.ec_language.specs.Letters.{Text}
use Rattle.ec_meaning_defs.specs.resolved.Resolved.{Exp}
use Rattle.ec_resolving_defs.specs.Storage.{ReferenceForm}
use Rattle.ec_phases_defs.specs.written.Calls.{call_with}
use Rattle.ec_direct_defs.specs.Leaves.{leaf_place}
use Rattle.ec_direct_defs.specs.Statements.{Around, Cursor, Statement, statement_of, reference_at, text_place, type_of, each_of, host_leaves, input, part, text_arg, text_option, sent}
use Rattle.ec_sim_statement_laws.specs.statement.Calls.{call_of}

-- the cursor that a statement opens, by the name and the DECLARE that it has, and by the references of this
abbrev pub cursor_of : Option Text → Option EmbData → EmbData → Denoted → List ReferenceForm
    → Cursor
cursor_of prepared d e ds rs = record {
  parts = cursor_parts d;
  prepared = prepared;
  around = record { denoted = cursor_part e ds; references = rs };
}

-- one leaf
abbrev pub IsOne : List Pair → Type 0
IsOne [] = ⊥
IsOne (q ∷ []) = Unit {0}
IsOne (q ∷ r ∷ qs) = ⊥

-- ---- pointers and places

module _ (p : ProgramData) (g : ExprData → Exp) where
  -- the pointer to the leaf of an indicator, where there are both
  abbrev pub IndicatorIs : Option ExprData → Exp → Option LeafData → Type 0
  IndicatorIs None y l = Unit {0}
  IndicatorIs (Some e) y None = Unit {0}
  IndicatorIs (Some e) y (Some l) = g (leaf_pointer e l) ≡ leaf_place p.structs y l

  -- the pointers to the leaves of a host with this reference and that of its indicator
  abbrev pub PairsAre : HostData → Exp → Exp → List Pair → Type 0
  PairsAre h x y [] = Unit {0}
  PairsAre h x y (q ∷ qs) =
      (g (leaf_pointer h.value q.0) ≡ leaf_place p.structs x q.0) × IndicatorIs h.indicator y q.1
      × PairsAre h x y qs

  abbrev pub HostIs : HostData → Around → Type 0
  HostIs h x = PairsAre h (reference_at 0 x) (reference_at 1 x) (pairs_of p h x.denoted)

  -- a text is written as a pointer, and that leads to the text of its reference
  pub record PointsTo (e : ExprData) (x : Exp) : Type 0 where
    pub is_held : text_of e ≡ held e
    pub is : g e ≡ x

  -- the text of a host is that of its first reference
  abbrev pub HostTextIs : ExprData → Around → Type 0
  HostTextIs e x =
      PointsTo (text_pointer (type_of p e x) e)
      (text_place p.structs (type_of p e x) (reference_at 0 x))

  abbrev pub TextIs : TextArgData → Around → Type 0
  TextIs (word_arg bytes) x = Unit {0}
  TextIs (host_arg e) x = HostTextIs e x
  TextIs (host_with_indicator e i) x = HostTextIs e x

  abbrev pub OptionIs : Option TextArgData → Around → Type 0
  OptionIs None x = Unit {0}
  OptionIs (Some a) x = TextIs a x

  -- ---- lists of hosts

  abbrev pub InputIs : InputData → Around → Type 0
  InputIs (host_input h) x = HostIs h x
  InputIs (const_input bytes) x = Unit {0}

  abbrev pub InputsAre : List InputData → Around → Type 0
  InputsAre [] x = Unit {0}
  InputsAre (i ∷ is) x = InputIs i x × InputsAre is (input p i x).left

  abbrev pub InsAre : InsData → Around → Type 0
  InsAre (listed_ins is) x = InputsAre is x
  InsAre (area_ins a) x = TextIs a x

  abbrev pub PartIs : PartData → Around → Type 0
  PartIs (bytes_part bytes) x = Unit {0}
  PartIs (host_part h) x = HostIs h x

  abbrev pub PartsAre : List PartData → Around → Type 0
  PartsAre [] x = Unit {0}
  PartsAre (a ∷ as') x = PartIs a x × PartsAre as' (part p a x).left

  abbrev pub HostsAre : List HostData → Around → Type 0
  HostsAre [] x = Unit {0}
  HostsAre (h ∷ hs) x = HostIs h x × HostsAre hs (host_leaves p h x).left

  abbrev pub OutputsAre : OutsData → Around → Type 0
  OutputsAre no_outs x = Unit {0}
  OutputsAre (listed_outs hs) x = HostsAre hs x
  OutputsAre (area_outs a) x = TextIs a x

  -- ---- hosts of one value: counts, indexes and items of a descriptor

  abbrev pub OneHostIs : HostData → Around → Type 0
  OneHostIs h x = IsOne (pairs_of p h x.denoted) × HostIs h x

  abbrev pub OneInputIs : InputData → Around → Type 0
  OneInputIs (host_input h) x = OneHostIs h x
  OneInputIs (const_input bytes) x = Unit {0}

  abbrev pub GetsAre : List (Item × HostData) → Around → Type 0
  GetsAre [] x = Unit {0}
  GetsAre (i ∷ is) x = OneHostIs i.1 x × GetsAre is (host_leaves p i.1 x).left

  abbrev pub SetsAre : List (Item × InputData) → Around → Type 0
  SetsAre [] x = Unit {0}
  SetsAre (i ∷ is) x = OneInputIs i.1 x × SetsAre is (input p i.1 x).left

  -- ---- statements

  abbrev pub ConnectingIs : TextArgData → Option TextArgData → Option TextArgData
      → Option TextArgData → Around → Type 0
  ConnectingIs target name user password x =
      let t = (text_arg p target x).left in
      let n = (text_option p name t).left in
      let u = (text_option p user n).left in
      TextIs target x × OptionIs name t × OptionIs user n × OptionIs password u

  -- a statement behind its connection, with the cursor that it opens; a directive has no call
  abbrev pub KindIs : EmbData → Cursor → Around → Type 0
  KindIs e c x = elim e.kind [
    | connect target name user password ↦ ConnectingIs target name user password x
    | set_connection name ↦ TextIs name x
    | disconnect name ↦ TextIs name x
    | autocommit on ↦ Unit {0}
    | trans text ↦ Unit {0}
    | server_text parts outs ↦
        PartsAre parts x × OutputsAre outs (each_of (part p) parts x).left
    | declare_cursor name parts prepared ↦ ⊥
    | open_cursor name ins ↦ PartsAre c.parts c.around × InsAre ins x
    | execute_immediate text ↦ TextIs text x
    | prepare name text ↦ TextIs text x
    | execute name ins outs ↦ InsAre ins x × OutputsAre outs (sent p ins x).left
    | deallocate name ↦ Unit {0}
    | allocate_area a ↦ TextIs a x
    | free_area a ↦ TextIs a x
    | get_count a host ↦ TextIs a x × OneHostIs host (text_arg p a x).left
    | get_items a index items ↦
        let i = (text_arg p a x).left in
        TextIs a x × OneInputIs index i × GetsAre items (input p index i).left
    | set_count a value ↦ TextIs a x × OneInputIs value (text_arg p a x).left
    | set_items a index items ↦
        let i = (text_arg p a x).left in
        TextIs a x × OneInputIs index i × SetsAre items (input p index i).left
    | whenever condition action ↦ ⊥
    | include_sqlca ↦ ⊥
  ]

  -- The call of a statement, with the places to which its pointers lead, is that of the statement by its places
  pub record IsCall (prepared : Option Text) (d : Option EmbData) (rs : List ReferenceForm)
      (e : EmbData) (x : Around) : Type 0 where
    pub call : Call ExprData
    pub statement : Statement Exp
    pub written : call_by prepared e.kind (statement_bound p e d x.denoted) ≡ Some call
    pub resolved : statement_of p e (cursor_of prepared d e x.denoted rs) x ≡ Some statement
    pub same : call_with g call ≡ call_of p.structs statement
