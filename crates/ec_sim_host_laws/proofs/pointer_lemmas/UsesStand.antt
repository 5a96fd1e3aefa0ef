-- The references of a statement, one use of a host behind the other.
use Rattle.std.proofs.Common.{◌≡◌, ◌∙◌, List, [], ◌∷◌, ◌++◌, map, take, drop, Option, Some, None, refl, sym, subst, append_assoc}
use Rattle.std.proofs.lemmas.List.{drop-drop}
use Rattle.ec_ctypes.specs.trees.Embedded.{HostData, TextArgData, word_arg, host_arg, host_with_indicator, InputData, host_input, const_input, InsData, listed_ins, area_ins, OutsData, no_outs, listed_outs, area_outs, PartData, bytes_part, host_part, EmbData, EmbKindData, connect, set_connection, disconnect, autocommit, trans, server_text, declare_cursor, open_cursor, execute_immediate, prepare, execute, deallocate, allocate_area, free_area, get_count, get_items, set_count, set_items, whenever, include_sqlca}
use Rattle.ec_ctypes.specs.trees.Exprs.{ExprData}
use Rattle.ec_host_defs.specs.Bound as bound
use Rattle.ec_host_defs.specs.Bound.{Made, text_expr, text_option_expr, host_places, input_places, part_places, get_places, set_places, ins_places, outs_places}
use Rattle.ec_host_defs.specs.Faults.{host_faults, host_count, value_part, indicator_part, uses_faults}
use Rattle.ec_host_defs.specs.Programs.{ProgramData, Denoted, variable_of, names_count}
use Rattle.ec_host_defs.specs.Uses.{RoleData, input_role, output_role, number_role, item_role, Uses, text_uses, text_option_uses, input_uses, part_uses, output_uses, get_uses, set_uses, each_uses, ins_uses, outs_uses, uses_of}
use Rattle.ec_typing_defs.specs.statement_parts.References.{References, of_option, of_host, of_text, of_text_option, of_input, of_part, of_get_item, of_set_item, of_all, of_ins, of_outs, references}
use Rattle.ec_typing_defs.specs.Embedded.{reference_rule, denoted_by}
use Rattle.ec_typing_defs.specs.Worlds.{Place, World, look_up}
use Rattle.ec_resolving_defs.specs.Storage.{Storage}
use Rattle.ec_direct_defs.specs.Statements.{Around, behind}
use Rattle.ec_sim_world_laws.specs.place.References.{IsReference, IndexesHaveTypes, variable_in}
use Rattle.ec_sim_world_laws.specs.place.Statements.{ReferencesAre}
use Rattle.ec_sim_host_laws.proofs.pointer_lemmas.Basics.{left_none, right_none, map_front, and_none}

-- ---- the references of uses are those of the parts of a statement

abbrev values : References → List ExprData
values rs = map (λ r. r.value) rs

abbrev option_exprs : Option ExprData → List ExprData
option_exprs None = []
option_exprs (Some e) = e ∷ []

abbrev exprs_of : Uses → List ExprData
exprs_of [] = []
exprs_of (u ∷ us) = u.1.value ∷ (option_exprs u.1.indicator ++ exprs_of us)

exprs_front : (us vs : Uses) → exprs_of (us ++ vs) ≡ exprs_of us ++ exprs_of vs
exprs_front [] vs = refl
exprs_front (u ∷ us) vs =
    (λ j. u.1.value ∷ (option_exprs u.1.indicator ++ exprs_front us vs j))
    ∙ sym (λ j. u.1.value ∷ append_assoc (option_exprs u.1.indicator) (exprs_of us) (exprs_of vs) j)

abbrev Same : References → Uses → Type 0
Same rs us = values rs ≡ exprs_of us

same_front : (rs qs : References) (us vs : Uses) → Same rs us → Same qs vs → Same (rs ++ qs) (us ++ vs)
same_front rs qs us vs p q = map_front (λ r. r.value) rs qs ∙ (λ j. p j ++ q j) ∙ sym (exprs_front us vs)

same_text : (a : TextArgData) → Same (of_text a) (text_uses a)
same_text (word_arg bytes) = refl
same_text (host_arg e) = refl
same_text (host_with_indicator e i) = refl

same_option : (a : Option TextArgData) → Same (of_text_option a) (text_option_uses a)
same_option None = refl
same_option (Some a) = same_text a

same_host : (role : RoleData) (h : HostData) → Same (of_host h) ((role, h) ∷ [])
same_host role h = λ j. h.value ∷ by_indicator h.indicator j
  where
    by_indicator : (i : Option ExprData) → values (of_option i) ≡ option_exprs i ++ []
    by_indicator None = refl
    by_indicator (Some e) = refl

same_input : (role : RoleData) (i : InputData) → Same (of_input i) (input_uses role i)
same_input role (host_input h) = same_host role h
same_input role (const_input bytes) = refl

same_part : (a : PartData) → Same (of_part a) (part_uses a)
same_part (bytes_part bytes) = refl
same_part (host_part h) = same_host input_role h

same_each : {A : Type 0} (f : A → References) (g : A → Uses) → ((a : A) → Same (f a) (g a)) → (as' : List A) → Same (of_all f as') (each_uses g as')
same_each f g one [] = refl
same_each f g one (a ∷ as') = same_front (f a) (of_all f as') (g a) (each_uses g as') (one a) (same_each f g one as')

same_ins : (is : InsData) → Same (of_ins is) (ins_uses is)
same_ins (listed_ins is) = same_each of_input (input_uses input_role) (same_input input_role) is
same_ins (area_ins a) = same_text a

same_outs : (os : OutsData) → Same (of_outs os) (outs_uses os)
same_outs no_outs = refl
same_outs (listed_outs hs) = same_each of_host output_uses (same_host output_role) hs
same_outs (area_outs a) = same_text a

same_items : {A : Type 0} (f : A → References) (g : A → Uses) → ((a : A) → Same (f a) (g a)) → (area : TextArgData) (at : InputData) (items : List A)
    → Same (of_text area ++ (of_input at ++ of_all f items)) (text_uses area ++ (input_uses number_role at ++ each_uses g items))
same_items f g one area at items = same_front (of_text area) (of_input at ++ of_all f items) (text_uses area) (input_uses number_role at ++ each_uses g items)
    (same_text area) (same_front (of_input at) (of_all f items) (input_uses number_role at) (each_uses g items) (same_input number_role at) (same_each f g one items))

same_kind : (k : EmbKindData) (e : EmbData) → Same (references (record e { kind = k })) (uses_of (record e { kind = k }))
same_kind (connect target name user password) e = same_front (of_text_option e.at) (of_text target ++ (of_text_option name ++ (of_text_option user ++ of_text_option password)))
    (text_option_uses e.at) (text_uses target ++ (text_option_uses name ++ (text_option_uses user ++ text_option_uses password))) (same_option e.at)
    (same_front (of_text target) (of_text_option name ++ (of_text_option user ++ of_text_option password))
    (text_uses target) (text_option_uses name ++ (text_option_uses user ++ text_option_uses password)) (same_text target)
    (same_front (of_text_option name) (of_text_option user ++ of_text_option password) (text_option_uses name) (text_option_uses user ++ text_option_uses password) (same_option name)
    (same_front (of_text_option user) (of_text_option password) (text_option_uses user) (text_option_uses password) (same_option user) (same_option password))))
same_kind (set_connection name) e = same_front (of_text_option e.at) (of_text name) (text_option_uses e.at) (text_uses name) (same_option e.at) (same_text name)
same_kind (disconnect name) e = same_front (of_text_option e.at) (of_text name) (text_option_uses e.at) (text_uses name) (same_option e.at) (same_text name)
same_kind (autocommit on) e = same_front (of_text_option e.at) [] (text_option_uses e.at) [] (same_option e.at) refl
same_kind (trans text) e = same_front (of_text_option e.at) [] (text_option_uses e.at) [] (same_option e.at) refl
same_kind (server_text parts os) e = same_front (of_text_option e.at) (of_all of_part parts ++ of_outs os) (text_option_uses e.at) (each_uses part_uses parts ++ outs_uses os) (same_option e.at)
    (same_front (of_all of_part parts) (of_outs os) (each_uses part_uses parts) (outs_uses os) (same_each of_part part_uses same_part parts) (same_outs os))
same_kind (declare_cursor cursor parts prepared) e = same_front (of_text_option e.at) (of_all of_part parts) (text_option_uses e.at) (each_uses part_uses parts) (same_option e.at)
    (same_each of_part part_uses same_part parts)
same_kind (open_cursor cursor is) e = same_front (of_text_option e.at) (of_ins is) (text_option_uses e.at) (ins_uses is) (same_option e.at) (same_ins is)
same_kind (execute_immediate text) e = same_front (of_text_option e.at) (of_text text) (text_option_uses e.at) (text_uses text) (same_option e.at) (same_text text)
same_kind (prepare name text) e = same_front (of_text_option e.at) (of_text text) (text_option_uses e.at) (text_uses text) (same_option e.at) (same_text text)
same_kind (execute name is os) e = same_front (of_text_option e.at) (of_ins is ++ of_outs os) (text_option_uses e.at) (ins_uses is ++ outs_uses os) (same_option e.at)
    (same_front (of_ins is) (of_outs os) (ins_uses is) (outs_uses os) (same_ins is) (same_outs os))
same_kind (deallocate name) e = same_front (of_text_option e.at) [] (text_option_uses e.at) [] (same_option e.at) refl
same_kind (allocate_area area) e = same_front (of_text_option e.at) (of_text area) (text_option_uses e.at) (text_uses area) (same_option e.at) (same_text area)
same_kind (free_area area) e = same_front (of_text_option e.at) (of_text area) (text_option_uses e.at) (text_uses area) (same_option e.at) (same_text area)
same_kind (get_count area h) e = same_front (of_text_option e.at) (of_text area ++ of_host h) (text_option_uses e.at) (text_uses area ++ (number_role, h) ∷ []) (same_option e.at)
    (same_front (of_text area) (of_host h) (text_uses area) ((number_role, h) ∷ []) (same_text area) (same_host number_role h))
same_kind (get_items area at items) e = same_front (of_text_option e.at) (of_text area ++ (of_input at ++ of_all of_get_item items))
    (text_option_uses e.at) (text_uses area ++ (input_uses number_role at ++ each_uses get_uses items)) (same_option e.at)
    (same_items of_get_item get_uses (λ i. same_host item_role i.1) area at items)
same_kind (set_count area value) e = same_front (of_text_option e.at) (of_text area ++ of_input value) (text_option_uses e.at) (text_uses area ++ input_uses number_role value) (same_option e.at)
    (same_front (of_text area) (of_input value) (text_uses area) (input_uses number_role value) (same_text area) (same_input number_role value))
same_kind (set_items area at items) e = same_front (of_text_option e.at) (of_text area ++ (of_input at ++ of_all of_set_item items))
    (text_option_uses e.at) (text_uses area ++ (input_uses number_role at ++ each_uses set_uses items)) (same_option e.at)
    (same_items of_set_item set_uses (λ i. same_input item_role i.1) area at items)
same_kind (whenever cond act) e = same_front (of_text_option e.at) [] (text_option_uses e.at) [] (same_option e.at) refl
same_kind include_sqlca e = same_front (of_text_option e.at) [] (text_option_uses e.at) [] (same_option e.at) refl

-- ---- each use, by what its variables denote

module _ (at : Place) (w : World) (p : ProgramData) where
  -- nothing is wrong with the reference that comes next, and its first name is that of its variable
  pub record RefStands (e : ExprData) (ds : Denoted) : Type 0 where
    pub form : IsReference e
    pub indexes : IndexesHaveTypes w e
    pub clean : (reference_rule at e w).found ≡ []
    pub variable : variable_of (take (names_count e) ds) ≡ denoted_by (look_up (variable_in e) w)

  abbrev ExprsStand : List ExprData → Denoted → Type 0
  ExprsStand [] ds = Unit {0}
  ExprsStand (e ∷ es) ds = RefStands e ds × ExprsStand es (drop (names_count e) ds)

  abbrev pub OptionStands : Option ExprData → Denoted → Type 0
  OptionStands None ds = Unit {0}
  OptionStands (Some e) ds = RefStands e ds

  -- a host that comes next is not at fault
  pub record UseStands (role : RoleData) (h : HostData) (ds : Denoted) : Type 0 where
    pub value : RefStands h.value ds
    pub indicator : OptionStands h.indicator (drop (names_count h.value) ds)
    pub without_fault : host_faults p role h (value_part h ds) (indicator_part h ds) ≡ []

  abbrev pub UsesStand : Uses → Denoted → Type 0
  UsesStand [] ds = Unit {0}
  UsesStand (u ∷ us) ds = UseStands u.0 u.1 ds × UsesStand us (drop (host_count u.1) ds)

  refs_stand : (s : Storage) (rs : References) (x : Around) → ReferencesAre at s w rs x → ExprsStand (values rs) x.denoted
  refs_stand s [] x h = tt
  refs_stand s (r ∷ rs) x h =
      (record { form = h.0.form; indexes = h.0.indexes; clean = h.0.clean; variable = h.0.variable }, refs_stand s rs (behind (names_count r.value) 1 x) h.1)

  use_stands : (role : RoleData) (v : ExprData) (i : Option ExprData) (us : Uses) (ds : Denoted)
      → ExprsStand (v ∷ (option_exprs i ++ exprs_of us)) ds → uses_faults p ((role, record { value = v; indicator = i }) ∷ us) ds ≡ []
      → ((es : Denoted) → ExprsStand (exprs_of us) es → uses_faults p us es ≡ [] → UsesStand us es)
      → UsesStand ((role, record { value = v; indicator = i }) ∷ us) ds
  use_stands role v None us ds h e more = (
    record { value = h.0; indicator = tt; without_fault = left_none (host_faults p role host (value_part host ds) (indicator_part host ds)) (uses_faults p us (drop (host_count host) ds)) e },
    more (drop (host_count host) ds)
        (subst (λ n. ExprsStand (exprs_of us) (drop n ds)) (sym (and_none (names_count v))) h.1)
        (right_none (host_faults p role host (value_part host ds) (indicator_part host ds)) (uses_faults p us (drop (host_count host) ds)) e),
  )
    where
      host : HostData
      host = record { value = v; indicator = None }
  use_stands role v (Some i) us ds h e more = (
    record { value = h.0; indicator = h.1.0; without_fault = left_none (host_faults p role host (value_part host ds) (indicator_part host ds)) (uses_faults p us (drop (host_count host) ds)) e },
    more (drop (host_count host) ds)
        (subst (λ es. ExprsStand (exprs_of us) es) (drop-drop (names_count i) (names_count v) ds) h.1.1)
        (right_none (host_faults p role host (value_part host ds) (indicator_part host ds)) (uses_faults p us (drop (host_count host) ds)) e),
  )
    where
      host : HostData
      host = record { value = v; indicator = Some i }

  uses_stand : (us : Uses) (ds : Denoted) → ExprsStand (exprs_of us) ds → uses_faults p us ds ≡ [] → UsesStand us ds
  uses_stand [] ds h e = tt
  uses_stand (u ∷ us) ds h e = use_stands u.0 u.1.value u.1.indicator us ds h e (λ es g f. uses_stand us es g f)

  -- the uses of the parts with these references
  by_references : (s : Storage) (rs : References) (us : Uses) (x : Around) → Same rs us → ReferencesAre at s w rs x → uses_faults p us x.denoted ≡ []
      → UsesStand us x.denoted
  by_references s rs us x same h e = uses_stand us x.denoted (subst (λ es. ExprsStand es x.denoted) same (refs_stand s rs x h)) e

  pub statement_uses : (s : Storage) (k : EmbKindData) (e : EmbData) (x : Around) → ReferencesAre at s w (references (record e { kind = k })) x
      → uses_faults p (uses_of (record e { kind = k })) x.denoted ≡ [] → UsesStand (uses_of (record e { kind = k })) x.denoted
  statement_uses s k e x h f = by_references s (references (record e { kind = k })) (uses_of (record e { kind = k })) x (same_kind k e) h f

  pub parts_uses : (s : Storage) (parts : List PartData) (x : Around) → ReferencesAre at s w (of_all of_part parts) x
      → uses_faults p (each_uses part_uses parts) x.denoted ≡ [] → UsesStand (each_uses part_uses parts) x.denoted
  parts_uses s parts x h f = by_references s (of_all of_part parts) (each_uses part_uses parts) x (same_each of_part part_uses same_part parts) h f

  -- ---- what is left behind uses

  abbrev after : Uses → Denoted → Denoted
  after [] ds = ds
  after (u ∷ us) ds = after us (drop (host_count u.1) ds)

  after_front : (us vs : Uses) (ds : Denoted) → after (us ++ vs) ds ≡ after vs (after us ds)
  after_front [] vs ds = refl
  after_front (u ∷ us) vs ds = after_front us vs (drop (host_count u.1) ds)

  cut_uses : (us vs : Uses) (ds : Denoted) → UsesStand (us ++ vs) ds → UsesStand us ds × UsesStand vs (after us ds)
  cut_uses [] vs ds h = (tt, h)
  cut_uses (u ∷ us) vs ds h = let more = cut_uses us vs (drop (host_count u.1) ds) h.1 in ((h.0, more.0), more.1)

  cut_at : (us vs : Uses) (ds es : Denoted) → es ≡ after us ds → UsesStand (us ++ vs) ds → UsesStand us ds × UsesStand vs es
  cut_at us vs ds es is h = let both = cut_uses us vs ds h in (both.0, subst (UsesStand vs) (sym is) both.1)

  after_text : (a : TextArgData) (ds : Denoted) → (text_expr p a ds).left ≡ after (text_uses a) ds
  after_text (word_arg bytes) ds = refl
  after_text (host_arg e) ds = λ j. drop (sym (and_none (names_count e)) j) ds
  after_text (host_with_indicator e i) ds = refl

  after_option : (a : Option TextArgData) (ds : Denoted) → (text_option_expr p a ds).left ≡ after (text_option_uses a) ds
  after_option None ds = refl
  after_option (Some a) ds = after_text a ds

  after_input : (role : RoleData) (i : InputData) (ds : Denoted) → (input_places p i ds).left ≡ after (input_uses role i) ds
  after_input role (host_input h) ds = refl
  after_input role (const_input bytes) ds = refl

  after_part : (a : PartData) (ds : Denoted) → (part_places p a ds).left ≡ after (part_uses a) ds
  after_part (bytes_part bytes) ds = refl
  after_part (host_part h) ds = refl

  after_each : {A B : Type 0} (f : A → Denoted → Made (List B)) (g : A → Uses) → ((a : A) (ds : Denoted) → (f a ds).left ≡ after (g a) ds)
      → (as' : List A) (ds : Denoted) → (bound.each_of f as' ds).left ≡ after (each_uses g as') ds
  after_each f g one [] ds = refl
  after_each f g one (a ∷ as') ds =
      after_each f g one as' (f a ds).left
      ∙ (λ j. after (each_uses g as') (one a ds j))
      ∙ sym (after_front (g a) (each_uses g as') ds)

  after_ins : (is : InsData) (ds : Denoted) → (ins_places p is ds).left ≡ after (ins_uses is) ds
  after_ins (listed_ins is) ds = after_each (input_places p) (input_uses input_role) (after_input input_role) is ds
  after_ins (area_ins a) ds = after_text a ds

  -- ---- a part of a statement, and what stands behind it

  pub text_first : (a : TextArgData) (vs : Uses) (ds : Denoted) → UsesStand (text_uses a ++ vs) ds → UsesStand (text_uses a) ds × UsesStand vs (text_expr p a ds).left
  text_first a vs ds h = cut_at (text_uses a) vs ds (text_expr p a ds).left (after_text a ds) h

  pub option_first : (a : Option TextArgData) (vs : Uses) (ds : Denoted) → UsesStand (text_option_uses a ++ vs) ds
      → UsesStand (text_option_uses a) ds × UsesStand vs (text_option_expr p a ds).left
  option_first a vs ds h = cut_at (text_option_uses a) vs ds (text_option_expr p a ds).left (after_option a ds) h

  pub input_first : (role : RoleData) (i : InputData) (vs : Uses) (ds : Denoted) → UsesStand (input_uses role i ++ vs) ds
      → UsesStand (input_uses role i) ds × UsesStand vs (input_places p i ds).left
  input_first role i vs ds h = cut_at (input_uses role i) vs ds (input_places p i ds).left (after_input role i ds) h

  pub part_first : (a : PartData) (vs : Uses) (ds : Denoted) → UsesStand (part_uses a ++ vs) ds
      → UsesStand (part_uses a) ds × UsesStand vs (part_places p a ds).left
  part_first a vs ds h = cut_at (part_uses a) vs ds (part_places p a ds).left (after_part a ds) h

  pub parts_first : (parts : List PartData) (vs : Uses) (ds : Denoted) → UsesStand (each_uses part_uses parts ++ vs) ds
      → UsesStand (each_uses part_uses parts) ds × UsesStand vs (bound.each_of (part_places p) parts ds).left
  parts_first parts vs ds h = cut_at (each_uses part_uses parts) vs ds (bound.each_of (part_places p) parts ds).left (after_each (part_places p) part_uses after_part parts ds) h

  pub ins_first : (is : InsData) (vs : Uses) (ds : Denoted) → UsesStand (ins_uses is ++ vs) ds
      → UsesStand (ins_uses is) ds × UsesStand vs (ins_places p is ds).left
  ins_first is vs ds h = cut_at (ins_uses is) vs ds (ins_places p is ds).left (after_ins is ds) h
