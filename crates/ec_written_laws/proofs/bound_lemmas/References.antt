-- The references of a statement, by the lists that the checks and the phase of hosts go through.
use Rattle.std.proofs.Common.{◌≡◌, ℕ, zero, suc, Bool, true, false, ◌&&◌, List, [], ◌∷◌, ◌++◌, map, drop, refl, sym, ap, ◌∙◌, subst, Option, Some, None, if◌then◌else◌}
use Rattle.std.specs.Prelude.{slice_get, option_map, option_and_then}
use Rattle.ec_base.specs.declared.fault.FaultKind.{FaultKind}
use Rattle.ec_ctypes.specs.declared.embedded.emb.Item.{Item}
use Rattle.ec_ctypes.specs.trees.Types.{TyData, void, arithmetic, pointer, array, structure, MemberData, StructData}
use Rattle.ec_ctypes.specs.trees.Exprs.{ExprData, integer, character, string, identifier, unary, binary, assign, bump, call, call_other, index, member, arrow, cast, size_type, size_expr, ExprList, no_exprs, exprs}
use Rattle.ec_ctypes.specs.trees.Embedded.{HostData, TextArgData, word_arg, host_arg, host_with_indicator, InputData, host_input, const_input, InsData, listed_ins, area_ins, OutsData, no_outs, listed_outs, area_outs, PartData, bytes_part, host_part, ActionData, continue_action, goto_action, print_action, stop_action, break_action, next_action, call_action, EmbKindData, connect, set_connection, disconnect, autocommit, trans, server_text, declare_cursor, open_cursor, execute_immediate, prepare, execute, deallocate, allocate_area, free_area, get_count, get_items, set_count, set_items, whenever, include_sqlca, EmbData}
use Rattle.ec_language.specs.Letters.{Text, same_text}
use Rattle.ec_language.proofs.Ends.{both}
use Rattle.ec_language.proofs.Marks.{same_text_is}
use Rattle.ec_host_defs.specs.Faults.{fault_unless, value_faults, indicator_type_faults, reference_faults, indicator_faults, may_have_indicator, host_faults, host_count, value_part, indicator_part, uses_faults}
use Rattle.ec_host_defs.specs.Programs.{ProgramData, Denoted, element_of, member_among, member_type, type_along, variable_type, variable_of, reference_type}
use Rattle.ec_host_defs.specs.Uses.{RoleData, input_role, output_role, number_role, item_role, UseData, Uses, text_uses, text_option_uses, input_uses, part_uses, output_uses, get_uses, set_uses, each_uses, ins_uses, outs_uses, kind_uses, uses_of}
use Rattle.ec_typing_defs.specs.statement_parts.References.{References, of_option, of_host, of_text, of_text_option, of_input, of_part, of_get_item, of_set_item, of_all, of_ins, of_outs, of_kind, references}
use Rattle.ec_writing_defs.specs.Shapes.{is_plain_name, is_free_name, is_written_expr, are_written_exprs}
use Rattle.ec_written_laws.specs.written.Bounds.{is_written_action}
use Rattle.ec_written_laws.specs.bound.Names.{is_simple_index, is_simple, are_simple, has_plain_members, have_plain_members, is_simple_action, has_free_names, have_free_names, has_known_names, have_free_values}
use Rattle.ec_written_laws.proofs.bound_lemmas.Rules.{join}
use Rattle.ec_written_laws.proofs.bound_lemmas.Each.{OfList, list_both, list_parts, OfExprOption, OfHost, OfText, OfTextOption, OfInput, OfPart, OfGot, OfSet, OfIns, OfOuts, OfKind, OfStatement, OfValue}
use Rattle.ec_written_laws.proofs.bound_lemmas.Places.{PlainData, struct_plain, PlainMemberData}

-- ---- what can be written

index_written : (n : ℕ) (e : ExprData) → is_simple_index e ≡ true → has_free_names e ≡ true → is_written_expr n e ≡ true
index_written n (identifier x) s f = f
index_written n (integer v t) s f = s
index_written n _ s f = absurd (cc)

pub simple_written : (n : ℕ) (e : ExprData) → is_simple e ≡ true → has_free_names e ≡ true → has_plain_members e ≡ true → is_written_expr n e ≡ true
simple_written n (integer v t) s f p = s
simple_written n (character c) s f p = s
simple_written n (identifier x) s f p = f
simple_written n (index a b) s f p =
    let q = both (is_simple a) (is_simple_index b) s in
    let r = both (has_free_names a) (has_free_names b) f in
    join (simple_written n a q.0 r.0 p) (index_written n b q.1 r.1)
simple_written n (member e m) s f p = let q = both (is_plain_name m) (has_plain_members e) p in join q.0 (simple_written n e s f q.1)
simple_written n (arrow e m) s f p = let q = both (is_plain_name m) (has_plain_members e) p in join q.0 (simple_written n e s f q.1)
simple_written n (string t) s f p = absurd (cc)
simple_written n (unary op e) s f p = absurd (cc)
simple_written n (binary op a b) s f p = absurd (cc)
simple_written n (assign op a b) s f p = absurd (cc)
simple_written n (bump before up e) s f p = absurd (cc)
simple_written n (call g es) s f p = absurd (cc)
simple_written n (call_other g es) s f p = absurd (cc)
simple_written n (cast b stars e) s f p = absurd (cc)
simple_written n (size_type b stars) s f p = absurd (cc)
simple_written n (size_expr e) s f p = absurd (cc)

all_written : (n : ℕ) (es : ExprList) → are_simple es ≡ true → have_free_names es ≡ true → have_plain_members es ≡ true → are_written_exprs n es ≡ true
all_written n no_exprs s f p = refl
all_written n (exprs e es) s f p =
    let q = both (is_simple e) (are_simple es) s in
    let r = both (has_free_names e) (have_free_names es) f in
    let t = both (has_plain_members e) (have_plain_members es) p in
    join (simple_written n e q.0 r.0 t.0) (all_written n es q.1 r.1 t.1)

pub action_written : (n : ℕ) (a : ActionData) → is_simple_action a ≡ true → has_known_names a ≡ true → is_written_action n a ≡ true
action_written n continue_action s k = refl
action_written n (goto_action l) s k = k
action_written n print_action s k = refl
action_written n stop_action s k = refl
action_written n break_action s k = refl
action_written n next_action s k = refl
action_written n (call_action f es) s k =
    let q = both (are_simple es) (have_plain_members es) s in
    let r = both (is_free_name f) (have_free_names es) k in
    join r.0 (all_written n es q.0 r.1 q.1)

-- ---- members, by the types of references

abbrev pub PlainValue : ExprData → Type 0
PlainValue e = has_plain_members e ≡ true

member_found : (x : Text) (ms : List MemberData) (t : TyData) → PlainMemberData ms → member_among x ms ≡ Some t → is_plain_name x ≡ true
member_found x [] t h e = absurd (cc)
member_found x (m ∷ ms) t h e = go (same_text x m.0) refl e (member_found x ms t h.1)
  where
    go : (b : Bool) → same_text x m.0 ≡ b → (elim b as (λ _. Option TyData) [ true ↦ Some m.1 | false ↦ member_among x ms ]) ≡ Some t → (member_among x ms ≡ Some t → is_plain_name x ≡ true) → is_plain_name x ≡ true
    go true s e more = ap is_plain_name (same_text_is x m.0 s) ∙ h.0
    go false s e more = more e

member_named : (structs : List StructData) → PlainData structs → (x : Text) (t u : TyData) → member_type structs x t ≡ Some u → is_plain_name x ≡ true
member_named structs h x (structure k) u e = go (slice_get structs k) refl e
  where
    go : (o : Option StructData) → slice_get structs k ≡ o → option_and_then (λ d. member_among x d.members) o ≡ Some u → is_plain_name x ≡ true
    go None i e = absurd (cc)
    go (Some d) i e = member_found x d.members u (struct_plain structs k d h i) e
member_named structs h x void u e = absurd (cc)
member_named structs h x (arithmetic a) u e = absurd (cc)
member_named structs h x (pointer t) u e = absurd (cc)
member_named structs h x (array t n) u e = absurd (cc)

-- what a step comes from
pub from_some : {A B : Type 0} (f : A → Option B) (o : Option A) (b : B) → option_and_then f o ≡ Some b → (a : A) × (o ≡ Some a) × (f a ≡ Some b)
from_some f None b e = absurd (cc)
from_some f (Some a) b e = (a, refl, e)

type_plain : (structs : List StructData) → PlainData structs → (t : TyData) (e : ExprData) (u : TyData) → type_along structs t e ≡ Some u → PlainValue e
type_plain structs h t (index a b) u e = let s = from_some element_of (type_along structs t a) u e in type_plain structs h t a s.0 s.1
type_plain structs h t (member a m) u e =
    let s = from_some (member_type structs m) (type_along structs t a) u e in
    join (member_named structs h m s.0 u s.2) (type_plain structs h t a s.0 s.1)
type_plain structs h t (arrow a m) u e =
    let s = from_some (λ s. option_and_then (member_type structs m) (element_of s)) (type_along structs t a) u e in
    let r = from_some (member_type structs m) (element_of s.0) u s.2 in
    join (member_named structs h m r.0 u r.2) (type_plain structs h t a s.0 s.1)
type_plain structs h t _ u e = refl

reference_plain : (p : ProgramData) → PlainData p.structs → (e : ExprData) (ds : Denoted) (u : TyData) → reference_type p e ds ≡ Some u → PlainValue e
reference_plain p h e ds u i = let s = from_some (λ t. type_along p.structs t e) (variable_type p (variable_of ds)) u i in type_plain p.structs h s.0 e u s.2

-- ---- members, by the faults of hosts

abbrev PlainIndicator : Option ExprData → Type 0
PlainIndicator None = Unit {0}
PlainIndicator (Some e) = PlainValue e

abbrev pub PlainUse : UseData → Type 0
PlainUse u = PlainValue u.1.value × PlainIndicator u.1.indicator

pub no_fault : (xs ys : List FaultKind) → xs ++ ys ≡ [] → (xs ≡ []) × (ys ≡ [])
no_fault [] ys e = (refl, e)
no_fault (x ∷ xs) ys e = absurd (cc)

-- a value without a fault has a type
value_typed : (structs : List StructData) (role : RoleData) (t : Option TyData) → value_faults structs role t ≡ [] → (u : TyData) × (t ≡ Some u)
value_typed structs role None e = absurd (cc)
value_typed structs role (Some u) e = (u, refl)

indicator_typed : (structs : List StructData) (t i : Option TyData) → indicator_type_faults structs t i ≡ [] → (u : TyData) × (i ≡ Some u)
indicator_typed structs t None e = absurd (cc)
indicator_typed structs t (Some u) e = (u, refl)

module _ (p : ProgramData) (plain : PlainData p.structs) where
  indicator_plain : (role : RoleData) (t : Option TyData) (i : Option ExprData) (ds : Denoted) → indicator_faults p role t i ds ≡ [] → PlainIndicator i
  indicator_plain role t None ds e = tt
  indicator_plain role t (Some i) ds e =
      let a = no_fault (reference_faults p ds) _ e in
      let b = no_fault (fault_unless (may_have_indicator role) _) _ a.1 in
      let u = indicator_typed p.structs t (reference_type p i ds) b.1 in
      reference_plain p plain i ds u.0 u.1

  host_plain : (u : UseData) (ds is : Denoted) → host_faults p u.0 u.1 ds is ≡ [] → PlainUse u
  host_plain u ds is e =
      let a = no_fault (reference_faults p ds) _ e in
      let b = no_fault (value_faults p.structs u.0 (reference_type p u.1.value ds)) _ a.1 in
      let t = value_typed p.structs u.0 (reference_type p u.1.value ds) b.0 in
      (reference_plain p plain u.1.value ds t.0 t.1, indicator_plain u.0 (reference_type p u.1.value ds) u.1.indicator is b.1)

  pub uses_plain : (us : Uses) (ds : Denoted) → uses_faults p us ds ≡ [] → OfList PlainUse us
  uses_plain [] ds e = tt
  uses_plain (u ∷ us) ds e =
      let a = no_fault (host_faults p u.0 u.1 (value_part u.1 ds) (indicator_part u.1 ds)) _ e in
      (host_plain u (value_part u.1 ds) (indicator_part u.1 ds) a.0, uses_plain us (drop (host_count u.1) ds) a.1)

-- ---- from uses to references

abbrev Values : References → Type 0
Values rs = OfList (OfValue PlainValue) rs

abbrev PlainUses : Uses → Type 0
PlainUses us = OfList PlainUse us

of_option_plain : (i : Option ExprData) → PlainIndicator i → Values (of_option i)
of_option_plain None h = tt
of_option_plain (Some e) h = (h, tt)

of_host_plain : (h : HostData) → PlainValue h.value × PlainIndicator h.indicator → Values (of_host h)
of_host_plain h k = (k.0, of_option_plain h.indicator k.1)

of_text_plain : (a : TextArgData) → PlainUses (text_uses a) → Values (of_text a)
of_text_plain (word_arg w) h = tt
of_text_plain (host_arg e) h = (h.0.0, tt)
of_text_plain (host_with_indicator e i) h = (h.0.0, (h.0.1, tt))

of_text_option_plain : (a : Option TextArgData) → PlainUses (text_option_uses a) → Values (of_text_option a)
of_text_option_plain None h = tt
of_text_option_plain (Some a) h = of_text_plain a h

of_input_plain : (role : RoleData) (i : InputData) → PlainUses (input_uses role i) → Values (of_input i)
of_input_plain role (host_input h) k = of_host_plain h k.0
of_input_plain role (const_input b) k = tt

of_part_plain : (x : PartData) → PlainUses (part_uses x) → Values (of_part x)
of_part_plain (bytes_part b) k = tt
of_part_plain (host_part h) k = of_host_plain h k.0

of_all_plain : {A : Type 0} (f : A → Uses) (g : A → References) → ((a : A) → PlainUses (f a) → Values (g a)) → (xs : List A) → PlainUses (each_uses f xs) → Values (of_all g xs)
of_all_plain f g k [] h = tt
of_all_plain f g k (x ∷ xs) h = let q = list_parts PlainUse (f x) (each_uses f xs) h in list_both (OfValue PlainValue) (g x) (of_all g xs) (k x q.0) (of_all_plain f g k xs q.1)

of_ins_plain : (i : InsData) → PlainUses (ins_uses i) → Values (of_ins i)
of_ins_plain (listed_ins is) h = of_all_plain (input_uses input_role) of_input (of_input_plain input_role) is h
of_ins_plain (area_ins a) h = of_text_plain a h

of_outs_plain : (o : OutsData) → PlainUses (outs_uses o) → Values (of_outs o)
of_outs_plain no_outs h = tt
of_outs_plain (listed_outs hs) h = of_all_plain output_uses of_host (λ x k. of_host_plain x k.0) hs h
of_outs_plain (area_outs a) h = of_text_plain a h

two_plain : (us vs : Uses) (rs ss : References) → (PlainUses us → Values rs) → (PlainUses vs → Values ss) → PlainUses (us ++ vs) → Values (rs ++ ss)
two_plain us vs rs ss f g h = let q = list_parts PlainUse us vs h in list_both (OfValue PlainValue) rs ss (f q.0) (g q.1)

of_kind_plain : (e : EmbData) → PlainUses (kind_uses e) → Values (of_kind e)
of_kind_plain e h = go e.kind h
  where
    go : (kind : EmbKindData) → PlainUses (kind_uses (record e { kind = kind })) → Values (of_kind (record e { kind = kind }))
    go (connect target name user password) h =
        two_plain (text_uses target) _ (of_text target) _ (of_text_plain target) (λ k. two_plain (text_option_uses name) _ (of_text_option name) _ (of_text_option_plain name) (λ l. two_plain (text_option_uses user) _ (of_text_option user) _ (of_text_option_plain user) (of_text_option_plain password) l) k) h
    go (set_connection name) h = of_text_plain name h
    go (disconnect name) h = of_text_plain name h
    go (autocommit on) h = tt
    go (trans text) h = tt
    go (server_text ps outs) h = two_plain (each_uses part_uses ps) (outs_uses outs) (of_all of_part ps) (of_outs outs) (of_all_plain part_uses of_part of_part_plain ps) (of_outs_plain outs) h
    go (declare_cursor cursor ps prepared) h = of_all_plain part_uses of_part of_part_plain ps h
    go (open_cursor cursor is) h = of_ins_plain is h
    go (execute_immediate text) h = of_text_plain text h
    go (prepare name text) h = of_text_plain text h
    go (execute name is outs) h = two_plain (ins_uses is) (outs_uses outs) (of_ins is) (of_outs outs) (of_ins_plain is) (of_outs_plain outs) h
    go (deallocate name) h = tt
    go (allocate_area area) h = of_text_plain area h
    go (free_area area) h = of_text_plain area h
    go (get_count area host) h = two_plain (text_uses area) ((number_role, host) ∷ []) (of_text area) (of_host host) (of_text_plain area) (λ k. of_host_plain host k.0) h
    go (get_items area i items) h =
        two_plain (text_uses area) _ (of_text area) _ (of_text_plain area) (λ k. two_plain (input_uses number_role i) (each_uses get_uses items) (of_input i) (of_all of_get_item items) (of_input_plain number_role i) (of_all_plain get_uses of_get_item (λ x l. of_host_plain x.1 l.0) items) k) h
    go (set_count area value) h = two_plain (text_uses area) (input_uses number_role value) (of_text area) (of_input value) (of_text_plain area) (of_input_plain number_role value) h
    go (set_items area i items) h =
        two_plain (text_uses area) _ (of_text area) _ (of_text_plain area) (λ k. two_plain (input_uses number_role i) (each_uses set_uses items) (of_input i) (of_all of_set_item items) (of_input_plain number_role i) (of_all_plain set_uses of_set_item (λ x l. of_input_plain item_role x.1 l) items) k) h
    go (whenever condition action) h = tt
    go include_sqlca h = tt

pub references_plain : (e : EmbData) → PlainUses (uses_of e) → Values (references e)
references_plain e h = two_plain (text_option_uses e.at) (kind_uses e) (of_text_option e.at) (of_kind e) (of_text_option_plain e.at) (of_kind_plain e) h

-- ---- all that is known of each reference

pub values_written : (n : ℕ) (rs : References) → OfList (OfValue (λ e. is_simple e ≡ true)) rs → have_free_values rs ≡ true → Values rs → OfList (OfValue (λ e. is_written_expr n e ≡ true)) rs
values_written n [] s f p = tt
values_written n (r ∷ rs) s f p = let q = both (has_free_names r.value) (have_free_values rs) f in (simple_written n r.value s.0 q.0 p.0, values_written n rs s.1 q.1 p.1)

-- ---- from the list of references back to the statement

module _ (E Q : ExprData → Type 0) (T : Text → Type 0) where
  option_back : (e : Option ExprData) → OfList (OfValue Q) (of_option e) → OfExprOption Q T e
  option_back None l = tt
  option_back (Some e) l = l.0

  host_back : (h : HostData) → OfHost E T h → OfList (OfValue Q) (of_host h) → OfHost Q T h
  host_back h k l = (l.0, option_back h.indicator l.1)

  text_back : (a : TextArgData) → OfText E T a → OfList (OfValue Q) (of_text a) → OfText Q T a
  text_back (word_arg b) h l = h
  text_back (host_arg e) h l = l.0
  text_back (host_with_indicator e i) h l = (l.0, l.1.0)

  text_option_back : (a : Option TextArgData) → OfTextOption E T a → OfList (OfValue Q) (of_text_option a) → OfTextOption Q T a
  text_option_back None h l = tt
  text_option_back (Some a) h l = text_back a h l

  input_back : (i : InputData) → OfInput E T i → OfList (OfValue Q) (of_input i) → OfInput Q T i
  input_back (host_input h) k l = host_back h k l
  input_back (const_input b) k l = k

  part_back : (x : PartData) → OfPart E T x → OfList (OfValue Q) (of_part x) → OfPart Q T x
  part_back (bytes_part b) k l = k
  part_back (host_part h) k l = host_back h k l

  all_back : {A : Type 0} (P R : A → Type 0) (f : A → References) → ((a : A) → P a → OfList (OfValue Q) (f a) → R a) → (xs : List A) → OfList P xs → OfList (OfValue Q) (of_all f xs) → OfList R xs
  all_back P R f k [] h l = tt
  all_back P R f k (x ∷ xs) h l = let q = list_parts (OfValue Q) (f x) (of_all f xs) l in (k x h.0 q.0, all_back P R f k xs h.1 q.1)

  ins_back : (i : InsData) → OfIns E T i → OfList (OfValue Q) (of_ins i) → OfIns Q T i
  ins_back (listed_ins is) h l = all_back (OfInput E T) (OfInput Q T) of_input input_back is h l
  ins_back (area_ins a) h l = text_back a h l

  outs_back : (o : OutsData) → OfOuts E T o → OfList (OfValue Q) (of_outs o) → OfOuts Q T o
  outs_back no_outs h l = tt
  outs_back (listed_outs hs) h l = all_back (OfHost E T) (OfHost Q T) of_host host_back hs h l
  outs_back (area_outs a) h l = text_back a h l

  module _ (A : ActionData → Type 0) where
    kind_back : (e : EmbData) → OfKind E T A e.kind → OfList (OfValue Q) (of_kind e) → OfKind Q T A e.kind
    kind_back e h l = go e.kind h l
      where
        go : (kind : EmbKindData) → OfKind E T A kind → OfList (OfValue Q) (of_kind (record e { kind = kind })) → OfKind Q T A kind
        go (connect target name user password) h l =
            let a = list_parts (OfValue Q) (of_text target) _ l in
            let b = list_parts (OfValue Q) (of_text_option name) _ a.1 in
            let c = list_parts (OfValue Q) (of_text_option user) _ b.1 in
            (text_back target h.0 a.0, text_option_back name h.1 b.0, text_option_back user h.2 c.0, text_option_back password h.3 c.1)
        go (set_connection name) h l = text_back name h l
        go (disconnect name) h l = text_back name h l
        go (autocommit on) h l = tt
        go (trans text) h l = tt
        go (server_text ps outs) h l = let a = list_parts (OfValue Q) (of_all of_part ps) (of_outs outs) l in (all_back (OfPart E T) (OfPart Q T) of_part part_back ps h.0 a.0, outs_back outs h.1 a.1)
        go (declare_cursor cursor ps prepared) h l = all_back (OfPart E T) (OfPart Q T) of_part part_back ps h l
        go (open_cursor cursor is) h l = ins_back is h l
        go (execute_immediate text) h l = text_back text h l
        go (prepare name text) h l = text_back text h l
        go (execute name is outs) h l = let a = list_parts (OfValue Q) (of_ins is) (of_outs outs) l in (ins_back is h.0 a.0, outs_back outs h.1 a.1)
        go (deallocate name) h l = tt
        go (allocate_area area) h l = text_back area h l
        go (free_area area) h l = text_back area h l
        go (get_count area host) h l = let a = list_parts (OfValue Q) (of_text area) (of_host host) l in (text_back area h.0 a.0, host_back host h.1 a.1)
        go (get_items area i items) h l =
            let a = list_parts (OfValue Q) (of_text area) _ l in
            let b = list_parts (OfValue Q) (of_input i) (of_all of_get_item items) a.1 in
            (text_back area h.0 a.0, input_back i h.1 b.0, all_back (OfGot E T) (OfGot Q T) of_get_item (λ x. host_back x.1) items h.2 b.1)
        go (set_count area value) h l = let a = list_parts (OfValue Q) (of_text area) (of_input value) l in (text_back area h.0 a.0, input_back value h.1 a.1)
        go (set_items area i items) h l =
            let a = list_parts (OfValue Q) (of_text area) _ l in
            let b = list_parts (OfValue Q) (of_input i) (of_all of_set_item items) a.1 in
            (text_back area h.0 a.0, input_back i h.1 b.0, all_back (OfSet E T) (OfSet Q T) of_set_item (λ x. input_back x.1) items h.2 b.1)
        go (whenever condition action) h l = h
        go include_sqlca h l = tt

    pub statement_back : (e : EmbData) → OfStatement E T A e → OfList (OfValue Q) (references e) → OfStatement Q T A e
    statement_back e h l = let a = list_parts (OfValue Q) (of_text_option e.at) (of_kind e) l in (text_option_back e.at h.0 a.0, kind_back e h.1 a.1)
