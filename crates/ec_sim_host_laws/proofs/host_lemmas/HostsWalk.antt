-- The pointers that are written for the hosts of a statement lead to their places.
use Rattle.std.proofs.Common.{◌≡◌, Bool, true, false, not, List, [], ◌∷◌, ◌++◌, drop, Option, Some, None, refl, sym, subst}
use Rattle.std.specs.Prelude.{option_and_then}
use Rattle.ec_arguments.specs.Arguments.{held}
use Rattle.ec_base.specs.declared.fault.FaultKind.TheVariants.{F22, F24}
use Rattle.ec_base.specs.declared.fault.FaultKind.{FaultKind}
use Rattle.ec_ctypes.specs.declared.embedded.emb.Item.{Item}
use Rattle.ec_ctypes.specs.trees.Embedded.{HostData, TextArgData, word_arg, host_arg, host_with_indicator, InputData, host_input, const_input, InsData, listed_ins, area_ins, OutsData, no_outs, listed_outs, area_outs, PartData, bytes_part, host_part, EmbData, EmbKindData, connect, set_connection, disconnect, autocommit, trans, server_text, declare_cursor, open_cursor, execute_immediate, prepare, execute, deallocate, allocate_area, free_area, get_count, get_items, set_count, set_items, whenever, include_sqlca}
use Rattle.ec_ctypes.specs.trees.Exprs.{ExprData}
use Rattle.ec_ctypes.specs.trees.Types.{TyData, StructData}
use Rattle.ec_expansion_defs.specs.Calls.{text_of}
use Rattle.ec_host_defs.specs.Elements.{is_element, is_text}
use Rattle.ec_host_defs.specs.Faults.{fault_unless, suits_role, is_array_input, value_faults, indicator_faults, reference_faults, host_count, value_part, indicator_part, uses_faults}
use Rattle.ec_host_defs.specs.Leaves.{hosted}
use Rattle.ec_host_defs.specs.Programs.{ProgramData, Denoted, reference_type}
use Rattle.ec_host_defs.specs.Uses.{RoleData, text_role, input_role, number_role, item_role, Uses, text_uses, text_option_uses, input_uses, part_uses, output_uses, get_uses, set_uses, each_uses, ins_uses, outs_uses, kind_uses}
use Rattle.ec_typing_defs.specs.statement_parts.Handlers.{is_directive}
use Rattle.ec_typing_defs.specs.statement_parts.References.{References, of_host, of_text, of_text_option, of_input, of_part, of_get_item, of_set_item, of_all, of_ins, of_outs, of_kind}
use Rattle.ec_typing_defs.specs.Worlds.{Place, World}
use Rattle.ec_meaning_defs.specs.resolved.Resolved.{Exp}
use Rattle.ec_resolving_defs.specs.Storage.{Storage}
use Rattle.ec_direct_defs.specs.Statements.{Around, Cursor, each_of, host_leaves, input, part, text_arg, text_option, sent, type_of}
use Rattle.ec_sim_statement_laws.specs.argument.Bound.{IsOne, HostIs, HostTextIs, TextIs, OptionIs, InputIs, InputsAre, InsAre, PartIs, PartsAre, HostsAre, OutputsAre, OneHostIs, OneInputIs, GetsAre, SetsAre, KindIs}
use Rattle.ec_sim_world_laws.specs.place.Statements.{pointer_exp, ReferenceIs, ReferencesAre, NamesText}
use Rattle.ec_sim_host_laws.specs.host.Hosts.{CursorStands, StatementStands, StatementLeads}
use Rattle.ec_sim_host_laws.proofs.host_lemmas.Cuts.{some_not, nil_front, nil_back, input_goes, part_goes, output_goes, get_goes, set_goes, text_goes, option_goes, parts_go, ins_go, Stands, faults_in, first, rest}

true_not : {C : Type 0} → true ≡ false → C
true_not {C} e = absurd (subst by_case e tt)
  where
    by_case : Bool → Type 0
    by_case true = Unit {0}
    by_case false = ⊥

-- ---- the type of a host that is not at fault

-- there is one, and it may stand at its place
record Suited (structs : List StructData) (role : RoleData) (t : Option TyData) : Type 0 where
  there : TyData
  is : t ≡ Some there
  suits : suits_role structs role there ≡ true

by_no_fault : (b : Bool) (kind : FaultKind) → fault_unless b kind ≡ [] → b ≡ true
by_no_fault true kind e = refl
by_no_fault false kind e = some_not e

suited_by : (structs : List StructData) (role : RoleData) (t : Option TyData) → value_faults structs role t ≡ [] → Suited structs role t
suited_by structs role None e = some_not e
suited_by structs role (Some t) e = record {
  there = t;
  is = refl;
  suits = by_no_fault (suits_role structs role t) F22 (nil_front (fault_unless (suits_role structs role t) F22) (fault_unless (not (is_array_input structs role t)) F24) e);
}

module _ (at : Place) (s : Storage) (w : World) (p : ProgramData)
    (hosts_lead : (h : HostData) (x : Around) → ReferencesAre at s w (of_host h) x → HostIs p (pointer_exp at s w) h x) where
  abbrev g : ExprData → Exp
  g = pointer_exp at s w

  abbrev Stand : References → Uses → Around → Type 0
  Stand rs us x = Stands at s w p rs us x

  suited : (role : RoleData) (h : HostData) (us : Uses) (ds : Denoted) → uses_faults p ((role, h) ∷ us) ds ≡ [] → Suited p.structs role (reference_type p h.value (value_part h ds))
  suited role h us ds e = suited_by p.structs role of_value (nil_front (value_faults p.structs role of_value) (indicator_faults p role of_value h.indicator (indicator_part h ds))
      (nil_back (reference_faults p (value_part h ds)) (value_faults p.structs role of_value ++ indicator_faults p role of_value h.indicator (indicator_part h ds))
      (nil_front (faults_in at s w p (role, h) ds) (uses_faults p us (drop_of h ds)) e)))
    where
      of_value : Option TyData
      of_value = reference_type p h.value (value_part h ds)

      drop_of : HostData → Denoted → Denoted
      drop_of h ds = drop (host_count h) ds

  -- ---- lists of hosts

  part_leads : (a : PartData) (x : Around) → Stand (of_part a) (part_uses a) x → PartIs p g a x
  part_leads (bytes_part bytes) x h = tt
  part_leads (host_part a) x h = hosts_lead a x h.references

  pub parts_lead : (ps : List PartData) (x : Around) → Stand (of_all of_part ps) (each_uses part_uses ps) x → PartsAre p g ps x
  parts_lead [] x h = tt
  parts_lead (a ∷ ps) x h = (
    part_leads a x (first at s w p (part_goes p a) (of_all of_part ps) (each_uses part_uses ps) x h),
    parts_lead ps (part p a x).left (rest at s w p (part_goes p a) (of_all of_part ps) (each_uses part_uses ps) x h),
  )

  input_leads : (role : RoleData) (i : InputData) (x : Around) → Stand (of_input i) (input_uses role i) x → InputIs p g i x
  input_leads role (host_input a) x h = hosts_lead a x h.references
  input_leads role (const_input bytes) x h = tt

  inputs_lead : (is : List InputData) (x : Around) → Stand (of_all of_input is) (each_uses (input_uses input_role) is) x → InputsAre p g is x
  inputs_lead [] x h = tt
  inputs_lead (i ∷ is) x h = (
    input_leads input_role i x (first at s w p (input_goes p input_role i) (of_all of_input is) (each_uses (input_uses input_role) is) x h),
    inputs_lead is (input p i x).left (rest at s w p (input_goes p input_role i) (of_all of_input is) (each_uses (input_uses input_role) is) x h),
  )

  outputs_lead : (hs : List HostData) (x : Around) → Stand (of_all of_host hs) (each_uses output_uses hs) x → HostsAre p g hs x
  outputs_lead [] x h = tt
  outputs_lead (a ∷ hs) x h = (
    hosts_lead a x (first at s w p (output_goes p a) (of_all of_host hs) (each_uses output_uses hs) x h).references,
    outputs_lead hs (host_leaves p a x).left (rest at s w p (output_goes p a) (of_all of_host hs) (each_uses output_uses hs) x h),
  )

  module _ (one_leaf : (structs : List StructData) (t : TyData) (i : Option TyData) → is_element structs t ≡ true → IsOne (hosted structs (Some t) i)) where
    -- ---- hosts of one value

    one_host : (role : RoleData) → ((t : TyData) → suits_role p.structs role t ≡ true → is_element p.structs t ≡ true)
        → (a : HostData) (x : Around) → Stand (of_host a) ((role, a) ∷ []) x → OneHostIs p g a x
    one_host role element a x h = (of_type (suited role a [] x.denoted h.without_fault), hosts_lead a x h.references)
      where
        of_indicator : Option TyData
        of_indicator = option_and_then (λ i. reference_type p i (indicator_part a x.denoted)) a.indicator

        of_type : Suited p.structs role (reference_type p a.value (value_part a x.denoted)) → IsOne (hosted p.structs (reference_type p a.value (value_part a x.denoted)) of_indicator)
        of_type t = subst (λ o. IsOne (hosted p.structs o of_indicator)) (sym t.is) (one_leaf p.structs t.there of_indicator (element t.there t.suits))

    one_input : (role : RoleData) → ((t : TyData) → suits_role p.structs role t ≡ true → is_element p.structs t ≡ true)
        → (i : InputData) (x : Around) → Stand (of_input i) (input_uses role i) x → OneInputIs p g i x
    one_input role element (host_input a) x h = one_host role element a x h
    one_input role element (const_input bytes) x h = tt

    number_leads : (a : HostData) (x : Around) → Stand (of_host a) ((number_role, a) ∷ []) x → OneHostIs p g a x
    number_leads a x h = one_host number_role (λ t e. e) a x h

    number_input_leads : (i : InputData) (x : Around) → Stand (of_input i) (input_uses number_role i) x → OneInputIs p g i x
    number_input_leads i x h = one_input number_role (λ t e. e) i x h

    gets_lead : (is : List (Item × HostData)) (x : Around) → Stand (of_all of_get_item is) (each_uses get_uses is) x → GetsAre p g is x
    gets_lead [] x h = tt
    gets_lead (i ∷ is) x h = (
      one_host item_role (λ t e. e) i.1 x (first at s w p (get_goes p i) (of_all of_get_item is) (each_uses get_uses is) x h),
      gets_lead is (host_leaves p i.1 x).left (rest at s w p (get_goes p i) (of_all of_get_item is) (each_uses get_uses is) x h),
    )

    sets_lead : (is : List (Item × InputData)) (x : Around) → Stand (of_all of_set_item is) (each_uses set_uses is) x → SetsAre p g is x
    sets_lead [] x h = tt
    sets_lead (i ∷ is) x h = (
      one_input item_role (λ t e. e) i.1 x (first at s w p (set_goes p i) (of_all of_set_item is) (each_uses set_uses is) x h),
      sets_lead is (input p i.1 x).left (rest at s w p (set_goes p i) (of_all of_set_item is) (each_uses set_uses is) x h),
    )

    module _
        (texts_lead : (e : ExprData) (x : Around) → ReferenceIs at s w e x → text_of e ≡ held e → (there : TyData) → type_of p e x ≡ Some there → NamesText p.structs there
        → HostTextIs p g e x)
        (texts_named : (t : TyData) → is_text p.structs t ≡ true → NamesText p.structs t)
        (texts_held : (e : ExprData) (x : Around) → ReferenceIs at s w e x → (there : TyData) → type_of p e x ≡ Some there → text_of e ≡ held e) where
      -- ---- texts

      host_text_leads : (e : ExprData) (x : Around) → ReferenceIs at s w e x → Suited p.structs text_role (type_of p e x) → HostTextIs p g e x
      host_text_leads e x r t = texts_lead e x r (texts_held e x r t.there t.is) t.there t.is (texts_named t.there t.suits)

      text_leads : (a : TextArgData) (x : Around) → Stand (of_text a) (text_uses a) x → TextIs p g a x
      text_leads (word_arg bytes) x h = tt
      text_leads (host_arg e) x h = host_text_leads e x h.references.0 (suited text_role (record { value = e; indicator = None }) [] x.denoted h.without_fault)
      text_leads (host_with_indicator e i) x h = host_text_leads e x h.references.0 (suited text_role (record { value = e; indicator = Some i }) [] x.denoted h.without_fault)

      option_leads : (a : Option TextArgData) (x : Around) → Stand (of_text_option a) (text_option_uses a) x → OptionIs p g a x
      option_leads None x h = tt
      option_leads (Some a) x h = text_leads a x h

      ins_lead : (ins : InsData) (x : Around) → Stand (of_ins ins) (ins_uses ins) x → InsAre p g ins x
      ins_lead (listed_ins is) x h = inputs_lead is x h
      ins_lead (area_ins a) x h = text_leads a x h

      outs_lead : (outs : OutsData) (x : Around) → Stand (of_outs outs) (outs_uses outs) x → OutputsAre p g outs x
      outs_lead no_outs x h = tt
      outs_lead (listed_outs hs) x h = outputs_lead hs x h
      outs_lead (area_outs a) x h = text_leads a x h

      -- ---- statements

      kind_leads : (kind : EmbKindData) (e : EmbData) (c : Cursor) (x : Around) → is_directive (record e { kind = kind }) ≡ false
          → CursorStands at s w p (record e { kind = kind }) c → Stand (of_kind (record e { kind = kind })) (kind_uses (record e { kind = kind })) x
          → KindIs p g (record e { kind = kind }) c x
      kind_leads (connect target name user password) e c x d cs h = (
        text_leads target x (first at s w p (text_goes p target) names names_uses x h),
        option_leads name t (first at s w p (option_goes p name) users users_uses t behind_target),
        option_leads user n (first at s w p (option_goes p user) (of_text_option password) (text_option_uses password) n behind_name),
        option_leads password (text_option p user n).left (rest at s w p (option_goes p user) (of_text_option password) (text_option_uses password) n behind_name),
      )
        where
          users : References
          users = of_text_option user ++ of_text_option password

          names : References
          names = of_text_option name ++ users

          users_uses : Uses
          users_uses = text_option_uses user ++ text_option_uses password

          names_uses : Uses
          names_uses = text_option_uses name ++ users_uses

          t : Around
          t = (text_arg p target x).left

          n : Around
          n = (text_option p name t).left

          behind_target : Stand names names_uses t
          behind_target = rest at s w p (text_goes p target) names names_uses x h

          behind_name : Stand users users_uses n
          behind_name = rest at s w p (option_goes p name) users users_uses t behind_target
      kind_leads (set_connection name) e c x d cs h = text_leads name x h
      kind_leads (disconnect name) e c x d cs h = text_leads name x h
      kind_leads (autocommit on) e c x d cs h = tt
      kind_leads (trans text) e c x d cs h = tt
      kind_leads (server_text parts outs) e c x d cs h = (
        parts_lead parts x (first at s w p (parts_go p parts) (of_outs outs) (outs_uses outs) x h),
        outs_lead outs (each_of (part p) parts x).left (rest at s w p (parts_go p parts) (of_outs outs) (outs_uses outs) x h),
      )
      kind_leads (declare_cursor name parts prepared) e c x d cs h = true_not d
      kind_leads (open_cursor name ins) e c x d cs h = (
        parts_lead c.parts c.around (record { references = cs.references; without_fault = cs.without_fault }),
        ins_lead ins x h,
      )
      kind_leads (execute_immediate text) e c x d cs h = text_leads text x h
      kind_leads (prepare name text) e c x d cs h = text_leads text x h
      kind_leads (execute name ins outs) e c x d cs h = (
        ins_lead ins x (first at s w p (ins_go p ins) (of_outs outs) (outs_uses outs) x h),
        outs_lead outs (sent p ins x).left (rest at s w p (ins_go p ins) (of_outs outs) (outs_uses outs) x h),
      )
      kind_leads (deallocate name) e c x d cs h = tt
      kind_leads (allocate_area a) e c x d cs h = text_leads a x h
      kind_leads (free_area a) e c x d cs h = text_leads a x h
      kind_leads (get_count a host) e c x d cs h = (
        text_leads a x (first at s w p (text_goes p a) (of_host host) ((number_role, host) ∷ []) x h),
        number_leads host (text_arg p a x).left (rest at s w p (text_goes p a) (of_host host) ((number_role, host) ∷ []) x h),
      )
      kind_leads (get_items a index items) e c x d cs h = (
        text_leads a x (first at s w p (text_goes p a) (of_input index ++ gets) (input_uses number_role index ++ gets_uses) x h),
        number_input_leads index i (first at s w p (input_goes p number_role index) gets gets_uses i behind_area),
        gets_lead items (input p index i).left (rest at s w p (input_goes p number_role index) gets gets_uses i behind_area),
      )
        where
          gets : References
          gets = of_all of_get_item items

          gets_uses : Uses
          gets_uses = each_uses get_uses items

          i : Around
          i = (text_arg p a x).left

          behind_area : Stand (of_input index ++ gets) (input_uses number_role index ++ gets_uses) i
          behind_area = rest at s w p (text_goes p a) (of_input index ++ gets) (input_uses number_role index ++ gets_uses) x h
      kind_leads (set_count a value) e c x d cs h = (
        text_leads a x (first at s w p (text_goes p a) (of_input value) (input_uses number_role value) x h),
        number_input_leads value (text_arg p a x).left (rest at s w p (text_goes p a) (of_input value) (input_uses number_role value) x h),
      )
      kind_leads (set_items a index items) e c x d cs h = (
        text_leads a x (first at s w p (text_goes p a) (of_input index ++ sets) (input_uses number_role index ++ sets_uses) x h),
        number_input_leads index i (first at s w p (input_goes p number_role index) sets sets_uses i behind_area),
        sets_lead items (input p index i).left (rest at s w p (input_goes p number_role index) sets sets_uses i behind_area),
      )
        where
          sets : References
          sets = of_all of_set_item items

          sets_uses : Uses
          sets_uses = each_uses set_uses items

          i : Around
          i = (text_arg p a x).left

          behind_area : Stand (of_input index ++ sets) (input_uses number_role index ++ sets_uses) i
          behind_area = rest at s w p (text_goes p a) (of_input index ++ sets) (input_uses number_role index ++ sets_uses) x h
      kind_leads (whenever condition action) e c x d cs h = true_not d
      kind_leads include_sqlca e c x d cs h = true_not d

      pub statement_leads : (e : EmbData) (c : Cursor) (x : Around) → StatementStands at s w p e c x → StatementLeads p at s w e c x
      statement_leads e c x h = record {
        connection = option_leads e.at x (first at s w p (option_goes p e.at) (of_kind e) (kind_uses e) x all);
        kind = kind_leads e.kind e c (text_option p e.at x).left h.executed h.cursor (rest at s w p (option_goes p e.at) (of_kind e) (kind_uses e) x all);
      }
        where
          all : Stand (of_text_option e.at ++ of_kind e) (text_option_uses e.at ++ kind_uses e) x
          all = record { references = h.references; without_fault = h.without_fault }
