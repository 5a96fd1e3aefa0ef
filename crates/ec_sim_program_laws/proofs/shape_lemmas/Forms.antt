-- What the forms of embedded statements make of tokens.
use Rattle.std.proofs.Common.{◌≡◌, Bool, true, false, List, [], ◌∷◌, ◌++◌, map, refl, ◌⊎◌, inl, inr, Option, Some, None}
use Rattle.std.specs.Prelude.{fold, codes}
use Rattle.ec_arguments.specs.Rules.{is_settable}
use Rattle.ec_ctypes.specs.declared.embedded.emb.Item.{Item}
use Rattle.ec_ctypes.specs.declared.embedded.emb.Item.TheVariants as item
use Rattle.ec_ctypes.specs.trees.Embedded.{HostData, TextArgData, word_arg, host_arg, host_with_indicator, InputData, listed_outs, EmbKindData}
use Rattle.ec_ctypes.specs.trees.Exprs.{ExprData, identifier}
use Rattle.ec_ctypes.specs.views.Exprs.{exprs_of}
use Rattle.ec_language.specs.Letters.{Text, same_text}
use Rattle.ec_language.specs.Productions as c
use Rattle.ec_language.specs.SqlTokens.{SqlToken}
use Rattle.ec_embedded.specs.shapes.Shapes.{both}
use Rattle.ec_embedded.specs.Connections.{connection_of, password_form, password_of, user_form, tail_form, connected, user_or_none, connection, plain_tail, parted_tail, with_tail, with_parted_tail, target_bytes, target_form, target_of, connect_form, connect_of, set_connection_form, set_connection_of, disconnect_form, ended_of, disconnect_of, autocommit_form, autocommit_of}
use Rattle.ec_embedded.specs.Descriptors.{allocate_form, allocate_of, got_form, got_of, get_form, get_of, other_item_form, other_item_of, set_item_form, set_item_of, setting_form, setting_of, assigned_form, assigned_of, settings, behind_host_form, behind_host_of, set_value_form, set_value_of, set_form, set_of}
use Rattle.ec_embedded.specs.Directives.{argument_form, argument_of, arguments_form, arguments_of, do_form, do_of, action_form, action_of, whenever_form, whenever_of, include_form, include_of}
use Rattle.ec_embedded.specs.Dynamic.{prepare_form, prepare_of, lists_form, outs_or_none, executed, execute_form, execute_of, deallocate_form, deallocate_of, deallocate_at_form, deallocate_at_of, open_form, open_of}
use Rattle.ec_embedded.specs.References.{Form, Of, optional, word, suffix_form, index_of, with_suffix, name_form, named, indicator_form, indicator_of, spelled_indicator_form, spelled_indicator_of, host_form, host_of, spelled_host_form, spelled_host_of, text_of_host, text_form, text_of, spelled_text_form, spelled_text_of, statement_text_form, statement_text_of, constant_form, constant_of, value_form, value_of, spelled_value_form, spelled_value_of, gathered, ins_form, ins_of, outs_form, outs_of, using_form, using_of}
use Rattle.ec_embedded.specs.Terminals.{Terminal, Begins, reference, input, keyword, parted_word}
use Rattle.ec_sim_world_laws.specs.place.References.{IsIndex, IsReference}
use Rattle.ec_sim_host_laws.specs.pointer.Pointers.{HasHosts}
use Rattle.ec_sim_world_laws.specs.test.Plain.{IsPlain, ArePlain, IsPlainAction}
use Rattle.ec_sim_program_laws.proofs.shape_lemmas.Parts.{OfList, list_both, IsReferenceOption, IsHost, IsText, IsTextOption, IsInput, IsGot, IsSet, AreIns, AreOuts, IsMade}

-- ---- references

pub index_is : (x : SqlToken ⊎ SqlToken) → IsIndex (index_of x)
index_is (inl x) = tt
index_is (inr x) = tt

suffix_is : (e : ExprData) (v : Of suffix_form) → IsReference e → IsReference (with_suffix e v)
unfolding suffix_form
suffix_is e (inl v) h = h
suffix_is e (inr (inl v)) h = h
suffix_is e (inr (inr v)) h = (h, index_is v.1.0)

suffixes_are : (vs : List (Of suffix_form)) (e : ExprData) → IsReference e → IsReference (fold with_suffix e vs)
suffixes_are [] e h = h
suffixes_are (v ∷ vs) e h = suffixes_are vs (with_suffix e v) (suffix_is e v h)

named_is : (v : Of name_form) → IsReference (named v)
unfolding name_form
named_is v = suffixes_are v.1 (identifier v.0.bytes) tt

indicator_is : (v : Of indicator_form) → IsReferenceOption (indicator_of v)
unfolding indicator_form
indicator_is (inl v) = named_is v.1
indicator_is (inr (inl v)) = named_is v.1.1
indicator_is (inr (inr v)) = tt

spelled_indicator_is : (v : Of spelled_indicator_form) → IsReferenceOption (spelled_indicator_of v)
unfolding spelled_indicator_form
spelled_indicator_is (inl v) = named_is v.1.1
spelled_indicator_is (inr v) = tt

host_is : (b : Begins) (v : Of (host_form b)) → IsHost (host_of b v)
host_is b v = (named_is v.0.1, indicator_is v.1)

spelled_host_is : (b : Begins) (v : Of (spelled_host_form b)) → IsHost (spelled_host_of b v)
spelled_host_is b v = (named_is v.0.1, spelled_indicator_is v.1)

pub text_of_host_is : (h : HostData) → IsHost h → IsText (text_of_host h)
text_of_host_is h k = go h.indicator k.1
  where
    go : (i : Option ExprData) → IsReferenceOption i → IsText (elim i [ None ↦ host_arg h.value | Some i ↦ host_with_indicator h.value i ])
    go None j = k.0
    go (Some i) j = (k.0, j)

text_is : (v : Of text_form) → IsText (text_of v)
unfolding text_form
text_is (inl t) = tt
text_is (inr (inl t)) = tt
text_is (inr (inr v)) = text_of_host_is (host_of reference v) (host_is reference v)

spelled_text_is : (v : Of spelled_text_form) → IsText (spelled_text_of v)
unfolding spelled_text_form
spelled_text_is (inl t) = tt
spelled_text_is (inr (inl t)) = tt
spelled_text_is (inr (inr v)) = text_of_host_is (spelled_host_of reference v) (spelled_host_is reference v)

statement_text_is : (v : Of statement_text_form) → IsText (statement_text_of v)
unfolding statement_text_form
statement_text_is (inl t) = tt
statement_text_is (inr v) = text_of_host_is (host_of reference v) (host_is reference v)

pub connection_is : (v : Of text_form) → IsText (connection_of v)
unfolding text_form
connection_is (inl t) = tt
connection_is (inr v) = text_is (inr v)

-- ---- values and lists

constant_is : (v : Of constant_form) → IsInput (constant_of v)
unfolding constant_form
constant_is (inl t) = tt
constant_is (inr (inl v)) = tt
constant_is (inr (inr t)) = tt

value_is : (v : Of value_form) → IsInput (value_of v)
unfolding value_form
value_is (inl v) = host_is input v
value_is (inr v) = constant_is v

spelled_value_is : (v : Of spelled_value_form) → IsInput (spelled_value_of v)
unfolding spelled_value_form
spelled_value_is (inl v) = spelled_host_is input v
spelled_value_is (inr v) = constant_is v

more_gathered : {A B : Type 0} (P : B → Type 0) (f : A → B) → ((v : A) → P (f v)) → (vs : List (SqlToken × A)) (bs : List B) → OfList P bs → OfList P (fold (λ bs p. bs ++ f p.1 ∷ []) bs vs)
more_gathered P f k [] bs h = h
more_gathered P f k (v ∷ vs) bs h = more_gathered P f k vs (bs ++ f v.1 ∷ []) (list_both P bs (f v.1 ∷ []) h (k v.1, tt))

-- what is made of each of a list
gathered_is : {A B : Type 0} (P : B → Type 0) (f : A → B) → ((v : A) → P (f v)) → (v : A) (vs : List (SqlToken × A)) → OfList P (gathered f v vs)
gathered_is P f k v vs = more_gathered P f k vs (f v ∷ []) (k v, tt)

-- there is something in it
some_behind : (bs : List HostData) (h : HostData) → HasHosts (listed_outs (bs ++ h ∷ []))
some_behind [] h = tt
some_behind (b ∷ bs) h = tt

some_gathered : {A : Type 0} (f : A → HostData) (vs : List (SqlToken × A)) (bs : List HostData) → HasHosts (listed_outs bs) → HasHosts (listed_outs (fold (λ bs p. bs ++ f p.1 ∷ []) bs vs))
some_gathered f [] bs h = h
some_gathered f (v ∷ vs) bs h = some_gathered f vs (bs ++ f v.1 ∷ []) (some_behind bs (f v.1))

ins_is : (v : Of ins_form) → AreIns (ins_of v)
unfolding ins_form
ins_is (inl v) = text_is v.1.1
ins_is (inr v) = gathered_is IsInput value_of value_is v.0 v.1

outs_is : (v : Of outs_form) → AreOuts (outs_of v)
unfolding outs_form
outs_is (inl v) = text_is v.1.1
outs_is (inr v) = (some_gathered (host_of reference) v.1 (host_of reference v.0 ∷ []) tt, gathered_is IsHost (host_of reference) (host_is reference) v.0 v.1)

using_is : (v : Of using_form) → AreIns (using_of v)
unfolding using_form
using_is (inl v) = ins_is v.1
using_is (inr v) = tt

-- ---- actions

name_is_plain : (w : Text) → IsPlain (c.named w).expression
name_is_plain w = go (same_text w (codes "SQLCODE")) (same_text w (codes "SQLSTATE"))
  where
    go : (x y : Bool) → IsPlain (elim x as (λ _. c.Primary) [ true ↦ c.area_member "sqlcode" | false ↦ elim y as (λ _. c.Primary) [ true ↦ c.area_member "sqlstate" | false ↦ record { expression = identifier w; is_name = true } ] ]).expression
    go true y = tt
    go false true = tt
    go false false = tt

argument_is : (v : Of argument_form) → IsPlain (argument_of v)
unfolding argument_form
argument_is (inl t) = name_is_plain t.bytes
argument_is (inr (inl t)) = tt
argument_is (inr (inr t)) = tt

arguments_list : (es : List ExprData) → OfList IsPlain es → ArePlain (exprs_of es)
arguments_list [] h = tt
arguments_list (e ∷ es) h = (h.0, arguments_list es h.1)

arguments_are : (v : Of arguments_form) → ArePlain (arguments_of v)
unfolding arguments_form
arguments_are (p, (inl v, q)) = arguments_list (gathered argument_of v.0 v.1) (gathered_is IsPlain argument_of argument_is v.0 v.1)
arguments_are (p, (inr v, q)) = tt

do_is : (v : Of do_form) → IsPlainAction (do_of v)
unfolding do_form
do_is (inl (t, inl v)) = arguments_are v
do_is (inl (t, inr v)) = tt
do_is (inr (inl (t, inl v))) = arguments_are v
do_is (inr (inl (t, inr v))) = tt
do_is (inr (inr v)) = arguments_are v.1

action_is : (v : Of action_form) → IsPlainAction (action_of v)
unfolding action_form
action_is (inl v) = tt
action_is (inr (inl v)) = tt
action_is (inr (inr (inl v))) = tt
action_is (inr (inr (inr (inl v)))) = tt
action_is (inr (inr (inr (inr (inl v))))) = tt
action_is (inr (inr (inr (inr (inr (inl v)))))) = arguments_are v.1.1
action_is (inr (inr (inr (inr (inr (inr v)))))) = do_is v.1

-- ---- what the forms make

abbrev pub Makes : (form : Form) → (Of form → EmbKindData) → Type 0
Makes form make = (at : Bool) (v : Of form) → IsMade at (make v)

password_is : (v : Of password_form) → IsTextOption (password_of v)
password_is (inl (inl v)) = text_is v.1.1
password_is (inl (inr (inl v))) = text_is v.1
password_is (inl (inr (inr v))) = text_is v.1
password_is (inr v) = tt

connected_is : (at : Bool) (target : TextArgData) (name : Option TextArgData) (v : Of user_form) → IsText target → IsTextOption name → IsMade at (connected target name v)
unfolding user_form
connected_is at target name v t n = (t, n, text_is v.0, password_is v.1)

user_is : (at : Bool) (target : TextArgData) (name : Option TextArgData) (v : Of (optional (both (word (codes "USER")) user_form))) → IsText target → IsTextOption name → IsMade at (user_or_none target name v)
user_is at target name (inl v) t n = connected_is at target name v.1 t n
user_is at target name (inr v) t n = (t, n, tt, tt)

tail_of_is : (at : Bool) (a u : Terminal) (target : TextArgData) (v : Of (tail_form a u)) → IsText target → IsMade at (connection a u target v)
tail_of_is at a u target (inl v) t = user_is at target (Some (connection_of v.1.0)) v.1.1 t (connection_is v.1.0)
tail_of_is at a u target (inr (inl v)) t = connected_is at target None v.1 t tt
tail_of_is at a u target (inr (inr v)) t = (t, tt, tt, tt)

tail_is : (at : Bool) (target : TextArgData) (v : Of plain_tail) → IsText target → IsMade at (with_tail target v)
unfolding plain_tail
tail_is at target v t = tail_of_is at (keyword (codes "AS")) (keyword (codes "USER")) target v t

parted_tail_is : (at : Bool) (target : TextArgData) (v : Of parted_tail) → IsText target → IsMade at (with_parted_tail target v)
unfolding parted_tail
parted_tail_is at target v t = tail_of_is at (parted_word (codes "AS")) (parted_word (codes "USER")) target v t

target_bytes_is : (ts : List SqlToken) → IsText (target_bytes ts)
target_bytes_is [] = tt
target_bytes_is (t ∷ []) = tt
target_bytes_is (t ∷ u ∷ ts) = tt

target_is : (at : Bool) (v : Of target_form) → IsMade at (target_of v)
unfolding target_form
target_is at (inl v) = tail_is at (word_arg _) v.1 tt
target_is at (inr (inl (t, inl v))) =
    let host : HostData = record { value = named v.0.0; indicator = indicator_of v.0.1 } in
    tail_is at (text_of_host host) v.1 (text_of_host_is host (named_is v.0.0, indicator_is v.0.1))
target_is at (inr (inl (t, inr (inl v)))) = tail_is at (target_bytes (t ∷ v.0.0 ∷ v.0.1)) v.1 (target_bytes_is (t ∷ v.0.0 ∷ v.0.1))
target_is at (inr (inl (t, inr (inr v)))) = parted_tail_is at (target_bytes (t ∷ [])) v (target_bytes_is (t ∷ []))
target_is at (inr (inr v)) = tail_is at (target_bytes (v.0.0 ∷ v.0.1)) v.1 (target_bytes_is (v.0.0 ∷ v.0.1))

pub connect_is : Makes connect_form connect_of
unfolding connect_form
connect_is at v = target_is at v.1.1

pub set_connection_is : Makes set_connection_form set_connection_of
unfolding set_connection_form
set_connection_is at (s, (d, inl (t, inl v))) = connection_is v
set_connection_is at (s, (d, inl (t, inr v))) = tt
set_connection_is at (s, (d, inr (inl v))) = connection_is v.1
set_connection_is at (s, (d, inr (inr (inl t)))) = tt
set_connection_is at (s, (d, inr (inr (inr (inl t))))) = tt
set_connection_is at (s, (d, inr (inr (inr (inr v))))) = text_of_host_is (host_of reference v) (host_is reference v)

ended_is : (v : Of text_form) → IsText (ended_of v)
unfolding text_form
ended_is (inl t) = tt
ended_is (inr v) = text_is (inr v)

pub disconnect_is : Makes disconnect_form disconnect_of
unfolding disconnect_form
disconnect_is at (d, inl v) = ended_is v
disconnect_is at (d, inr v) = tt

pub autocommit_is : Makes autocommit_form autocommit_of
unfolding autocommit_form
autocommit_is at (s, (a, (t, inl v))) = tt
autocommit_is at (s, (a, (t, inr v))) = tt

pub allocate_is : Makes allocate_form allocate_of
unfolding allocate_form
allocate_is at (a, (d, v)) = text_is v

got_is : (v : Of got_form) → IsGot (got_of v)
unfolding got_form
got_is (x, (s, v)) = host_is reference x

pub get_is : Makes get_form get_of
unfolding get_form
get_is at (g, (d, (a, inl (v, (i, l))))) = (spelled_text_is a, spelled_value_is i, gathered_is IsGot got_of got_is l.0 l.1)
get_is at (g, (d, (a, inr (k, v)))) = (spelled_text_is a, host_is reference k)

assigned_is : (v : Of assigned_form) → IsInput (assigned_of v)
unfolding assigned_form
assigned_is v = value_is v.1

other_item_set : (v : Of other_item_form) → is_settable (other_item_of v) ≡ true
unfolding other_item_form
other_item_set (inl v) = refl
other_item_set (inr v) = refl

item_set : (v : Of set_item_form) → is_settable (set_item_of v) ≡ true
unfolding set_item_form
item_set (inl v) = other_item_set v
item_set (inr v) = refl

setting_is : (v : Of setting_form) → IsSet (setting_of v)
unfolding setting_form
setting_is v = (item_set v.0, assigned_is v.1)

settings_are : (first : Item × InputData) (vs : List (SqlToken × Of setting_form)) → IsSet first → OfList IsSet (settings first vs)
settings_are first vs f = (f, go vs)
  where
    go : (vs : List (SqlToken × Of setting_form)) → OfList IsSet (map (λ p. setting_of p.1) vs)
    go [] = tt
    go (v ∷ vs) = (setting_is v.1, go vs)

behind_host_is : (e : ExprData) (v : Of behind_host_form) → IsReference e → IsInput (behind_host_of e v).0 × OfList IsSet (behind_host_of e v).1
unfolding behind_host_form
behind_host_is e (inl (i, l)) k = ((k, named_is i.1), settings_are (setting_of l.0) l.1 (setting_is l.0))
behind_host_is e (inr (inl (w, inl (i, l)))) k = ((k, named_is i.1), settings_are (setting_of l.0) l.1 (setting_is l.0))
behind_host_is e (inr (inl (w, inr (a, l)))) k = ((k, tt), settings_are (item.Indicator, assigned_of a) l (refl, assigned_is a))
behind_host_is e (inr (inr (a, l))) k = ((k, tt), settings_are (other_item_of a.0, assigned_of a.1) l (other_item_set a.0, assigned_is a.1))

set_value_is : (v : Of set_value_form) → IsInput (set_value_of v).0 × OfList IsSet (set_value_of v).1
unfolding set_value_form
set_value_is (inl v) = behind_host_is (named v.0.1) v.1 (named_is v.0.1)
set_value_is (inr (d, l)) = (constant_is d, settings_are (setting_of l.0) l.1 (setting_is l.0))

pub set_is : Makes set_form set_of
unfolding set_form
set_is at (s, (d, (a, inl v))) = (text_is a, assigned_is v.1)
set_is at (s, (d, (a, inr v))) = let q = set_value_is v.1 in (text_is a, q.0, q.1)

pub whenever_is : Makes whenever_form whenever_of
unfolding whenever_form
whenever_is at v = action_is v.1.1

pub include_is : Makes include_form include_of
unfolding include_form
include_is at v = tt

pub open_is : Makes open_form open_of
unfolding open_form
open_is at (o, (n, v)) = using_is v

pub prepare_is : Makes prepare_form prepare_of
unfolding prepare_form
prepare_is at (p, (n, (f, v))) = statement_text_is v

outs_or_none_is : (v : Of (optional (both (word (codes "INTO")) outs_form))) → AreOuts (outs_or_none v)
outs_or_none_is (inl v) = outs_is v.1
outs_or_none_is (inr v) = tt

executed_is : (at : Bool) (name : Text) (v : Of lists_form) → IsMade at (executed name v)
unfolding lists_form
executed_is at name (inl v) = (using_is v.1.1, outs_is v.1.0)
executed_is at name (inr (inl v)) = (ins_is v.1.0, outs_or_none_is v.1.1)
executed_is at name (inr (inr v)) = (tt, tt)

pub execute_is : Makes execute_form execute_of
unfolding execute_form
execute_is at (e, inl (n, inl v)) = statement_text_is v
execute_is at (e, inl (n, inr v)) = executed_is at n.bytes v
execute_is at (e, inr v) = executed_is at v.0.bytes v.1

pub deallocate_is : Makes deallocate_form deallocate_of
unfolding deallocate_form
deallocate_is at (d, inl (p, inl n)) = tt
deallocate_is at (d, inl (p, inr v)) = tt
deallocate_is at (d, inr (inl (t, inl v))) = text_is v
deallocate_is at (d, inr (inl (t, inr v))) = tt
deallocate_is at (d, inr (inr n)) = tt

pub deallocate_at_is : Makes deallocate_at_form deallocate_at_of
unfolding deallocate_at_form
deallocate_at_is at (d, inl (p, inl n)) = tt
deallocate_at_is at (d, inl (p, inr v)) = tt
deallocate_at_is at (d, inr n) = tt
