-- What the forms of embedded statements make of tokens: references that are simple, and texts of bytes.
use Rattle.std.proofs.Common.{◌≡◌, ℕ, zero, suc, Bool, true, false, not, ◌&&◌, ◌||◌, ◌-◌, List, [], ◌∷◌, ◌++◌, length, take, drop, map, refl, sym, ap, ◌∙◌, subst, ◌⊎◌, inl, inr, Option, Some, None, if◌then◌else◌, arith}
use Rattle.std.specs.Prelude.{fold, codes, nat_le, nat_lt, ◌==◌, ◌^◌, is_some, ℤ}
use Rattle.std.proofs.lemmas.Bool.{false≢true}
use Rattle.std.proofs.lemmas.Bool.Decides.{nat_tests}
use Rattle.ec_ctypes.specs.declared.types.arith.Arith.TheVariants.{Int, Long}
use Rattle.ec_ctypes.specs.declared.embedded.emb.Item.{Item}
use Rattle.ec_ctypes.specs.declared.embedded.emb.Item.TheVariants as item
use Rattle.ec_ctypes.specs.trees.Types.{arithmetic}
use Rattle.ec_ctypes.specs.trees.Exprs.{ExprData, integer, character, identifier, index, member, arrow, ExprList, no_exprs, exprs}
use Rattle.ec_ctypes.specs.views.Exprs.{exprs_of}
use Rattle.ec_ctypes.specs.trees.Embedded.{HostData, TextArgData, InputData, InsData, OutsData, EmbKindData, ActionData, whenever}
use Rattle.ec_embedded.specs.shapes.Shapes.{nothing, one, both, either, many, yield_of, yields_of, tokens_of, Labelled, Fits}
use Rattle.ec_language.specs.Constants.{digits_value, character_value}
use Rattle.ec_language.specs.Letters.{Text, is_digit, each, begins, single_quote, same_text, same_word}
use Rattle.ec_language.specs.Productions as c
use Rattle.ec_language.specs.SqlTokens as sql
use Rattle.ec_language.specs.SqlTokens.{SqlToken, SqlClass}
use Rattle.ec_language.proofs.Ends.{both as both_true}
use Rattle.ec_embedded.specs.Connections.{bytes_of, or_default, connection_of, password_form, password_of, user_form, tail_form, connected, user_or_none, connection, plain_tail, parted_tail, with_tail, with_parted_tail, target_bytes, target_form, target_of, connect_form, connect_of, set_connection_form, set_connection_of, disconnect_form, or_special, ended_of, disconnect_of, autocommit_form, autocommit_of}
use Rattle.ec_embedded.specs.Descriptors.{allocate_form, allocate_of, got_form, got_of, get_form, get_of, setting_form, setting_of, other_item_of, assigned_form, assigned_of, settings, behind_host_form, behind_host_of, set_value_form, set_value_of, set_form, set_of}
use Rattle.ec_embedded.specs.Directives.{argument_form, argument_of, character_in, arguments_form, arguments_of, do_form, do_of, action_form, action_of, whenever_form, whenever_of, include_form, include_of}
use Rattle.ec_embedded.specs.Dynamic.{prepare_form, prepare_of, lists_form, outs_or_none, executed, execute_form, execute_of, deallocate_form, deallocate_of, deallocate_at_form, deallocate_at_of, open_form, open_of}
use Rattle.ec_embedded.specs.References.{Form, Of, optional, word, undoubled, unquoted, decimal_constant, suffix_form, index_of, with_suffix, name_form, named, reference_form, indicator_form, indicator_of, spelled_indicator_form, spelled_indicator_of, host_form, host_of, spelled_host_form, spelled_host_of, text_of_host, text_form, text_of, spelled_text_form, spelled_text_of, statement_text_form, statement_text_of, constant_form, constant_of, value_form, value_of, spelled_value_form, spelled_value_of, listed, further, gathered, ins_form, ins_of, outs_form, outs_of, using_form, using_of}
use Rattle.ec_embedded.specs.Terminals as term
use Rattle.ec_embedded.specs.Terminals.{Terminal, Begins, reference, input, keyword, parted_word, Sort, number_sort, quoted_sort, sort_by, sort_of, Test, passes, is, alphabet, on_glued_fitting, on_fitting, glued_word, glued_number, fitting_number}
use Rattle.ec_writing_defs.specs.Shapes.{is_byte, fits_type, is_character}
use Rattle.ec_written_laws.proofs.bound_lemmas.Characters.{character_fits, IsCharacter}
use Rattle.ec_written_laws.specs.bound.Names.{is_simple_index, is_simple, are_simple, has_plain_members, have_plain_members, is_simple_action}
use Rattle.ec_written_laws.proofs.bound_lemmas.Rules.{join}
use Rattle.ec_written_laws.proofs.bound_lemmas.Each.{OfList, list_map, list_both, OfExprOption, OfHost, OfText, OfTextOption, OfInput, OfGot, OfSet, OfIns, OfOuts, OfKind}

-- ---- texts

abbrev pub Simple : ExprData → Type 0
Simple e = is_simple e ≡ true

abbrev pub Bytes : Text → Type 0
Bytes t = each is_byte t ≡ true

pub joined : (u w : Text) → Bytes u → Bytes w → Bytes (u ++ w)
joined [] w h k = k
joined (b ∷ u) w h k = let p = both_true (is_byte b) (each is_byte u) h in join p.0 (joined u w p.1 k)

dropped : (n : ℕ) (t : Text) → Bytes t → Bytes (drop n t)
dropped zero t h = h
dropped (suc n) [] h = refl
dropped (suc n) (b ∷ t) h = dropped n t (both_true (is_byte b) (each is_byte t) h).1

taken : (n : ℕ) (t : Text) → Bytes t → Bytes (take n t)
taken zero t h = refl
taken (suc n) [] h = refl
taken (suc n) (b ∷ t) h = let p = both_true (is_byte b) (each is_byte t) h in join p.0 (taken n t p.1)

undoubled_bytes : (t : Text) → Bytes t → Bytes (undoubled t)
undoubled_bytes [] h = refl
undoubled_bytes (b ∷ []) h = h
undoubled_bytes (b ∷ d ∷ t) h =
    let p = both_true (is_byte b) (each is_byte (d ∷ t)) h in
    let q = both_true (is_byte d) (each is_byte t) p.1 in
    go (b == single_quote) p.0 (undoubled_bytes t q.1) (undoubled_bytes (d ∷ t) p.1)
  where
    go : (x : Bool) → is_byte b ≡ true → Bytes (undoubled t) → Bytes (undoubled (d ∷ t)) → Bytes (elim x [ true ↦ b ∷ undoubled t | false ↦ b ∷ undoubled (d ∷ t) ])
    go true k l m = join k l
    go false k l m = join k m

pub unquoted_bytes : (t : Text) → Bytes t → Bytes (unquoted t)
unquoted_bytes t h = undoubled_bytes (take (length t - 2) (drop 1 t)) (taken (length t - 2) (drop 1 t) (dropped 1 t h))

default_bytes : (t : Text) → Bytes t → Bytes (or_default t)
default_bytes t h = go (same_word (codes "DEFAULT") t)
  where
    go : (x : Bool) → Bytes (if x then codes "DEFAULT" else t)
    go true = refl
    go false = h

special_bytes : (t : Text) → Bytes t → Bytes (or_special t)
special_bytes t h = go (same_word (codes "CURRENT") t) (same_word (codes "ALL") t)
  where
    go : (x y : Bool) → Bytes (if x then codes "CURRENT" else if y then codes "ALL" else or_default t)
    go true y = refl
    go false true = refl
    go false false = default_bytes t h

-- ---- tokens

abbrev pub IsToken : Terminal → SqlToken → Type 0
IsToken t x = (is t x ≡ true) × Bytes x.bytes

-- each token of a tree
abbrev pub HasTokens : (s : Form) → Of s → Type 0
HasTokens nothing v = Unit {0}
HasTokens (one t) v = IsToken t v
HasTokens (both a b) v = HasTokens a v.0 × HasTokens b v.1
HasTokens (either a b) (inl v) = HasTokens a v
HasTokens (either a b) (inr v) = HasTokens b v
HasTokens (many a) vs = OfList (HasTokens a) vs

abbrev pub AreTokens : Labelled Terminal SqlToken → Type 0
AreTokens [] = Unit {0}
AreTokens (p ∷ ps) = IsToken p.0 p.1 × AreTokens ps

tokens_parts : (xs ys : Labelled Terminal SqlToken) → AreTokens (xs ++ ys) → AreTokens xs × AreTokens ys
tokens_parts [] ys h = (tt, h)
tokens_parts (x ∷ xs) ys h = let q = tokens_parts xs ys h.1 in ((h.0, q.0), q.1)

each_tree : (a : Form) → ((v : Of a) → AreTokens (yield_of a v) → HasTokens a v) → (vs : List (Of a)) → AreTokens (yields_of (yield_of a) vs) → OfList (HasTokens a) vs
each_tree a f [] h = tt
each_tree a f (v ∷ vs) h = let p = tokens_parts (yield_of a v) (yields_of (yield_of a) vs) h in (f v p.0, each_tree a f vs p.1)

pub tree_tokens : (s : Form) (v : Of s) → AreTokens (yield_of s v) → HasTokens s v
tree_tokens nothing v h = tt
tree_tokens (one t) v h = h.0
tree_tokens (both a b) v h = let p = tokens_parts (yield_of a v.0) (yield_of b v.1) h in (tree_tokens a v.0 p.0, tree_tokens b v.1 p.1)
tree_tokens (either a b) (inl v) h = tree_tokens a v h
tree_tokens (either a b) (inr v) h = tree_tokens b v h
tree_tokens (many a) vs h = each_tree a (λ v k. tree_tokens a v k) vs h

-- ---- numbers

small : (n : ℕ) → nat_lt n 2147483648 ≡ true → nat_le n 2147483647 ≡ true
small n h = grind (arith, nat_tests)

large : (n : ℕ) → nat_lt n 9223372036854775808 ≡ true → nat_le n 9223372036854775807 ≡ true
large n h = grind (arith, nat_tests)

decimal_simple : (b : Text) → nat_lt (digits_value 10 b) (2 ^ 63) ≡ true → Simple (decimal_constant b)
decimal_simple b h = go (nat_lt (digits_value 10 b) (2 ^ 31)) refl
  where
    go : (x : Bool) → nat_lt (digits_value 10 b) (2 ^ 31) ≡ x → fits_type (digits_value 10 b) (arithmetic (if x then Int else Long)) ≡ true
    go true e = small (digits_value 10 b) e
    go false e = large (digits_value 10 b) h

-- a number that a long has
fitting_number_value : (b : Text) → number_sort b ≡ term.fitting → nat_lt (digits_value 10 b) (2 ^ 63) ≡ true
fitting_number_value b e = go (not (each is_digit b)) (nat_lt (digits_value 10 b) (2 ^ 63)) refl e
  where
    go : (x y : Bool) → nat_lt (digits_value 10 b) (2 ^ 63) ≡ y → (if x then term.number else if y then term.fitting else term.whole) ≡ term.fitting → nat_lt (digits_value 10 b) (2 ^ 63) ≡ true
    go true y f e = absurd (cc)
    go false true f e = f
    go false false f e = absurd (cc)

quoted_not_fitting : (b : Text) → quoted_sort b ≡ term.fitting → ⊥
quoted_not_fitting b e = go (not (begins (λ x. x == single_quote) b)) (is_some (character_value b)) e
  where
    go : (x y : Bool) → (if x then term.name else if y then term.character else term.quote) ≡ term.fitting → ⊥
    go true y e = cc
    go false true e = cc
    go false false e = cc

fitting_value : (class : SqlClass) (b : Text) → sort_by class b ≡ term.fitting → nat_lt (digits_value 10 b) (2 ^ 63) ≡ true
fitting_value sql.word b e = absurd (cc)
fitting_value sql.number b e = fitting_number_value b e
fitting_value sql.quoted b e = absurd (quoted_not_fitting b e)
fitting_value sql.mark b e = absurd (cc)

glued_is : (s : Sort) (gap : Bool) (b : Text) → passes (on_glued_fitting s gap) b ≡ true → s ≡ term.fitting
glued_is term.fitting gap b h = refl
glued_is _ gap b h = absurd (false≢true h)

fits_is : (s : Sort) (gap : Bool) (b : Text) → passes (on_fitting s gap) b ≡ true → s ≡ term.fitting
fits_is term.fitting gap b h = refl
fits_is _ gap b h = absurd (false≢true h)

pub glued_simple : (x : SqlToken) → is glued_number x ≡ true → is_simple_index (decimal_constant x.bytes) ≡ true
glued_simple x h = decimal_simple x.bytes (fitting_value x.class x.bytes (glued_is (sort_of x) x.gap x.bytes h))

fitting_simple : (x : SqlToken) → is fitting_number x ≡ true → Simple (decimal_constant x.bytes)
fitting_simple x h = decimal_simple x.bytes (fitting_value x.class x.bytes (fits_is (sort_of x) x.gap x.bytes h))

-- a character constant, whatever its token
character_simple : (b : Text) → Bytes b → Simple (character (character_in (character_value b)))
character_simple b h = go (character_value b) (character_fits b h)
  where
    go : (o : Option ℤ) → IsCharacter o → is_character (character_in o) ≡ true
    go None k = refl
    go (Some z) k = k

-- ---- references

suffix_simple : (e : ExprData) (v : Of suffix_form) → HasTokens suffix_form v → Simple e → Simple (with_suffix e v)
unfolding suffix_form
suffix_simple e (inl v) h k = k
suffix_simple e (inr (inl v)) h k = k
suffix_simple e (inr (inr v)) h k = join k (index_simple v.1.0 h.1.0)
  where
    index_simple : (x : SqlToken ⊎ SqlToken) → HasTokens (either (one glued_word) (one glued_number)) x → is_simple_index (index_of x) ≡ true
    index_simple (inl x) h = refl
    index_simple (inr x) h = glued_simple x h.0

suffixes_simple : (vs : List (Of suffix_form)) (e : ExprData) → OfList (HasTokens suffix_form) vs → Simple e → Simple (fold with_suffix e vs)
suffixes_simple [] e h k = k
suffixes_simple (v ∷ vs) e h k = suffixes_simple vs (with_suffix e v) h.1 (suffix_simple e v h.0 k)

named_simple : (v : Of name_form) → HasTokens name_form v → Simple (named v)
unfolding name_form
named_simple v h = suffixes_simple v.1 (identifier v.0.bytes) h.1 refl

indicator_is : (v : Of indicator_form) → HasTokens indicator_form v → OfExprOption Simple Bytes (indicator_of v)
unfolding indicator_form
indicator_is (inl v) h = named_simple v.1 h.1
indicator_is (inr (inl v)) h = named_simple v.1.1 h.1.1
indicator_is (inr (inr v)) h = tt

spelled_indicator_is : (v : Of spelled_indicator_form) → HasTokens spelled_indicator_form v → OfExprOption Simple Bytes (spelled_indicator_of v)
unfolding spelled_indicator_form
spelled_indicator_is (inl v) h = named_simple v.1.1 h.1.1
spelled_indicator_is (inr v) h = tt

host_is : (b : Begins) (v : Of (host_form b)) → HasTokens (host_form b) v → OfHost Simple Bytes (host_of b v)
host_is b v h = (named_simple v.0.1 h.0.1, indicator_is v.1 h.1)

spelled_host_is : (b : Begins) (v : Of (spelled_host_form b)) → HasTokens (spelled_host_form b) v → OfHost Simple Bytes (spelled_host_of b v)
spelled_host_is b v h = (named_simple v.0.1 h.0.1, spelled_indicator_is v.1 h.1)

pub text_of_host_is : (h : HostData) → OfHost Simple Bytes h → OfText Simple Bytes (text_of_host h)
text_of_host_is h k = go h.indicator k.1
  where
    go : (i : Option ExprData) → OfExprOption Simple Bytes i → OfText Simple Bytes (elim i [ None ↦ TextArgData.host_arg h.value | Some i ↦ TextArgData.host_with_indicator h.value i ])
    go None j = k.0
    go (Some i) j = (k.0, j)

text_is : (v : Of text_form) → HasTokens text_form v → OfText Simple Bytes (text_of v)
unfolding text_form
text_is (inl t) h = h.1
text_is (inr (inl t)) h = unquoted_bytes t.bytes h.1
text_is (inr (inr v)) h = text_of_host_is _ (host_is reference v h)

spelled_text_is : (v : Of spelled_text_form) → HasTokens spelled_text_form v → OfText Simple Bytes (spelled_text_of v)
unfolding spelled_text_form
spelled_text_is (inl t) h = h.1
spelled_text_is (inr (inl t)) h = unquoted_bytes t.bytes h.1
spelled_text_is (inr (inr v)) h = text_of_host_is _ (spelled_host_is reference v h)

statement_text_is : (v : Of statement_text_form) → HasTokens statement_text_form v → OfText Simple Bytes (statement_text_of v)
unfolding statement_text_form
statement_text_is (inl t) h = unquoted_bytes t.bytes h.1
statement_text_is (inr v) h = text_of_host_is _ (host_is reference v h)

connection_is : (v : Of text_form) → HasTokens text_form v → OfText Simple Bytes (connection_of v)
unfolding text_form
connection_is (inl t) h = default_bytes t.bytes h.1
connection_is (inr v) h = text_is (inr v) h

-- ---- values and lists

constant_is : (v : Of constant_form) → HasTokens constant_form v → OfInput Simple Bytes (constant_of v)
unfolding constant_form
constant_is (inl t) h = h.1
constant_is (inr (inl v)) h = joined (codes "-") v.1.bytes refl h.1.1
constant_is (inr (inr t)) h = unquoted_bytes t.bytes h.1

value_is : (v : Of value_form) → HasTokens value_form v → OfInput Simple Bytes (value_of v)
unfolding value_form
value_is (inl v) h = host_is input v h
value_is (inr v) h = constant_is v h

spelled_value_is : (v : Of spelled_value_form) → HasTokens spelled_value_form v → OfInput Simple Bytes (spelled_value_of v)
unfolding spelled_value_form
spelled_value_is (inl v) h = spelled_host_is input v h
spelled_value_is (inr v) h = constant_is v h

more_gathered : {A B : Type 0} (P : B → Type 0) (f : A → B) (vs : List (SqlToken × A)) (bs : List B) → OfList P bs → OfList (λ p. P (f p.1)) vs → OfList P (fold (λ bs p. bs ++ f p.1 ∷ []) bs vs)
more_gathered P f [] bs h k = h
more_gathered P f (v ∷ vs) bs h k = more_gathered P f vs (bs ++ f v.1 ∷ []) (list_both P bs (f v.1 ∷ []) h (k.0, tt)) k.1

-- what is made of each of a list
gathered_is : {B : Type 0} (a : Form) (P : B → Type 0) (f : Of a → B) → ((v : Of a) → HasTokens a v → P (f v)) → (v : Of (listed a)) → HasTokens (listed a) v → OfList P (gathered f v.0 v.1)
gathered_is a P f k v h = more_gathered P f v.1 (f v.0 ∷ []) (k v.0 h.0, tt) (list_map (HasTokens (both (one (term.sign (codes ","))) a)) (λ p. P (f p.1)) (λ p q. k p.1 q.1) v.1 h.1)

ins_is : (v : Of ins_form) → HasTokens ins_form v → OfIns Simple Bytes (ins_of v)
unfolding ins_form
ins_is (inl v) h = text_is v.1.1 h.1.1
ins_is (inr v) h = gathered_is value_form (OfInput Simple Bytes) value_of value_is v h

outs_is : (v : Of outs_form) → HasTokens outs_form v → OfOuts Simple Bytes (outs_of v)
unfolding outs_form
outs_is (inl v) h = text_is v.1.1 h.1.1
outs_is (inr v) h = gathered_is (host_form reference) (OfHost Simple Bytes) (host_of reference) (host_is reference) v h

using_is : (v : Of using_form) → HasTokens using_form v → OfIns Simple Bytes (using_of v)
unfolding using_form
using_is (inl v) h = ins_is v.1 h.1
using_is (inr v) h = tt

-- ---- actions

abbrev IsArgument : ExprData → Type 0
IsArgument e = (is_simple e ≡ true) × (has_plain_members e ≡ true)

name_is_argument : (w : Text) → IsArgument (c.named w).expression
name_is_argument w = go (same_text w (codes "SQLCODE")) (same_text w (codes "SQLSTATE"))
  where
    go : (x y : Bool) → IsArgument (elim x as (λ _. c.Primary) [ true ↦ c.area_member "sqlcode" | false ↦ elim y as (λ _. c.Primary) [ true ↦ c.area_member "sqlstate" | false ↦ record { expression = identifier w; is_name = true } ] ]).expression
    go true y = (refl, refl)
    go false true = (refl, refl)
    go false false = (refl, refl)

argument_is : (v : Of argument_form) → HasTokens argument_form v → IsArgument (argument_of v)
unfolding argument_form
argument_is (inl t) h = name_is_argument t.bytes
argument_is (inr (inl t)) h = (fitting_simple t h.0, refl)
argument_is (inr (inr t)) h = (character_simple t.bytes h.1, refl)

arguments_list : (es : List ExprData) → OfList IsArgument es → (are_simple (exprs_of es) && have_plain_members (exprs_of es)) ≡ true
arguments_list es h = join (simple es h) (plain es h)
  where
    simple : (es : List ExprData) → OfList IsArgument es → are_simple (exprs_of es) ≡ true
    simple [] h = refl
    simple (e ∷ es) h = join h.0.0 (simple es h.1)

    plain : (es : List ExprData) → OfList IsArgument es → have_plain_members (exprs_of es) ≡ true
    plain [] h = refl
    plain (e ∷ es) h = join h.0.1 (plain es h.1)

arguments_are : (v : Of arguments_form) → HasTokens arguments_form v → (are_simple (arguments_of v) && have_plain_members (arguments_of v)) ≡ true
unfolding arguments_form
arguments_are (p, (inl v, q)) h = arguments_list (gathered argument_of v.0 v.1) (gathered_is argument_form IsArgument argument_of argument_is v h.1.0)
arguments_are (p, (inr v, q)) h = refl

do_is : (v : Of do_form) → HasTokens do_form v → is_simple_action (do_of v) ≡ true
unfolding do_form
do_is (inl (t, inl v)) h = arguments_are v h.1
do_is (inl (t, inr v)) h = refl
do_is (inr (inl (t, inl v))) h = arguments_are v h.1
do_is (inr (inl (t, inr v))) h = refl
do_is (inr (inr v)) h = arguments_are v.1 h.1

action_is : (v : Of action_form) → HasTokens action_form v → is_simple_action (action_of v) ≡ true
unfolding action_form
action_is (inl v) h = refl
action_is (inr (inl v)) h = refl
action_is (inr (inr (inl v))) h = refl
action_is (inr (inr (inr (inl v)))) h = refl
action_is (inr (inr (inr (inr (inl v))))) h = refl
action_is (inr (inr (inr (inr (inr (inl v)))))) h = arguments_are v.1.1 h.1.1
action_is (inr (inr (inr (inr (inr (inr v)))))) h = do_is v.1 h.1

-- ---- what the forms make

abbrev pub SimpleAction : ActionData → Type 0
SimpleAction a = is_simple_action a ≡ true

-- what is known of what a statement does by its tokens
abbrev pub IsMade : EmbKindData → Type 0
IsMade kind = OfKind Simple Bytes SimpleAction kind

abbrev Makes : (form : Form) → (Of form → EmbKindData) → Type 0
Makes form make = (v : Of form) → HasTokens form v → IsMade (make v)

password_is : (v : Of password_form) → HasTokens password_form v → OfTextOption Simple Bytes (password_of v)
password_is (inl (inl v)) h = text_is v.1.1 h.1.1
password_is (inl (inr (inl v))) h = text_is v.1 h.1
password_is (inl (inr (inr v))) h = text_is v.1 h.1
password_is (inr v) h = tt

connected_is : (target : TextArgData) (name : Option TextArgData) (v : Of user_form) → OfText Simple Bytes target → OfTextOption Simple Bytes name → HasTokens user_form v → IsMade (connected target name v)
unfolding user_form
connected_is target name v t n h = (t, n, text_is v.0 h.0, password_is v.1 h.1)

user_is : (target : TextArgData) (name : Option TextArgData) (v : Of (optional (both (word (codes "USER")) user_form))) → OfText Simple Bytes target → OfTextOption Simple Bytes name → HasTokens (optional (both (word (codes "USER")) user_form)) v → IsMade (user_or_none target name v)
user_is target name (inl v) t n h = connected_is target name v.1 t n h.1
user_is target name (inr v) t n h = (t, n, tt, tt)

tail_of_is : (a u : Terminal) (target : TextArgData) (v : Of (tail_form a u)) → OfText Simple Bytes target → HasTokens (tail_form a u) v → IsMade (connection a u target v)
tail_of_is a u target (inl v) t h = user_is target _ v.1.1 t (connection_is v.1.0 h.1.0) h.1.1
tail_of_is a u target (inr (inl v)) t h = connected_is target None v.1 t tt h.1
tail_of_is a u target (inr (inr v)) t h = (t, tt, tt, tt)

tail_is : (target : TextArgData) (v : Of plain_tail) → OfText Simple Bytes target → HasTokens plain_tail v → IsMade (with_tail target v)
unfolding plain_tail
tail_is target v t h = tail_of_is (keyword (codes "AS")) (keyword (codes "USER")) target v t h

parted_tail_is : (target : TextArgData) (v : Of parted_tail) → OfText Simple Bytes target → HasTokens parted_tail v → IsMade (with_parted_tail target v)
unfolding parted_tail
parted_tail_is target v t h = tail_of_is (parted_word (codes "AS")) (parted_word (codes "USER")) target v t h

abbrev pub HaveBytes : List SqlToken → Type 0
HaveBytes ts = OfList (λ t. Bytes t.bytes) ts

all_bytes : (ts : List SqlToken) → HaveBytes ts → Bytes (bytes_of ts)
all_bytes [] h = refl
all_bytes (t ∷ ts) h = joined t.bytes (bytes_of ts) h.0 (all_bytes ts h.1)

target_bytes_is : (ts : List SqlToken) → HaveBytes ts → OfText Simple Bytes (target_bytes ts)
target_bytes_is [] h = refl
target_bytes_is (t ∷ []) h = default_bytes t.bytes h.0
target_bytes_is (t ∷ u ∷ ts) h = all_bytes (t ∷ u ∷ ts) h

more_bytes : (t : Terminal) (ts : List SqlToken) → OfList (HasTokens (one t)) ts → HaveBytes ts
more_bytes t ts h = list_map (HasTokens (one t)) (λ x. Bytes x.bytes) (λ x k. k.1) ts h

target_is : (v : Of target_form) → HasTokens target_form v → IsMade (target_of v)
unfolding target_form
target_is (inl v) h = tail_is (TextArgData.word_arg (unquoted v.0.bytes)) v.1 (unquoted_bytes v.0.bytes h.0.1) h.1
target_is (inr (inl (t, inl v))) h = let host : HostData = record { value = named v.0.0; indicator = indicator_of v.0.1 } in tail_is (text_of_host host) v.1 (text_of_host_is host (named_simple v.0.0 h.1.0.0, indicator_is v.0.1 h.1.0.1)) h.1.1
target_is (inr (inl (t, inr (inl v)))) h = let ts : List SqlToken = t ∷ v.0.0 ∷ v.0.1 in tail_is (target_bytes ts) v.1 (target_bytes_is ts (h.0.1, (h.1.0.0.1, more_bytes term.target_more v.0.1 h.1.0.1))) h.1.1
target_is (inr (inl (t, inr (inr v)))) h = parted_tail_is (target_bytes (t ∷ [])) v (target_bytes_is (t ∷ []) (h.0.1, tt)) h.1
target_is (inr (inr v)) h = let ts : List SqlToken = v.0.0 ∷ v.0.1 in tail_is (target_bytes ts) v.1 (target_bytes_is ts (h.0.0.1, more_bytes term.target_more v.0.1 h.0.1)) h.1

pub connect_is : Makes connect_form connect_of
unfolding connect_form
connect_is v h = target_is v.1.1 h.1.1

pub set_connection_is : Makes set_connection_form set_connection_of
unfolding set_connection_form
set_connection_is (s, (d, inl (t, inl v))) h = connection_is v h.1.1.1
set_connection_is (s, (d, inl (t, inr v))) h = h.1.1.0.1
set_connection_is (s, (d, inr (inl v))) h = connection_is v.1 h.1.1.1
set_connection_is (s, (d, inr (inr (inl t)))) h = default_bytes t.bytes h.1.1.1
set_connection_is (s, (d, inr (inr (inr (inl t))))) h = unquoted_bytes t.bytes h.1.1.1
set_connection_is (s, (d, inr (inr (inr (inr v))))) h = text_of_host_is _ (host_is reference v h.1.1)

ended_is : (v : Of text_form) → HasTokens text_form v → OfText Simple Bytes (ended_of v)
unfolding text_form
ended_is (inl t) h = special_bytes t.bytes h.1
ended_is (inr v) h = text_is (inr v) h

pub disconnect_is : Makes disconnect_form disconnect_of
unfolding disconnect_form
disconnect_is (d, inl v) h = ended_is v h.1
disconnect_is (d, inr v) h = refl

pub autocommit_is : Makes autocommit_form autocommit_of
unfolding autocommit_form
autocommit_is (s, (a, (t, inl v))) h = tt
autocommit_is (s, (a, (t, inr v))) h = tt

pub allocate_is : Makes allocate_form allocate_of
unfolding allocate_form
allocate_is (a, (d, v)) h = text_is v h.1.1

got_is : (v : Of got_form) → HasTokens got_form v → OfGot Simple Bytes (got_of v)
unfolding got_form
got_is (x, (s, v)) h = host_is reference x h.0

pub get_is : Makes get_form get_of
unfolding get_form
get_is (g, (d, (a, inl (v, (i, l))))) h = (spelled_text_is a h.1.1.0, spelled_value_is i h.1.1.1.1.0, gathered_is got_form (OfGot Simple Bytes) got_of got_is l h.1.1.1.1.1)
get_is (g, (d, (a, inr (k, v)))) h = (spelled_text_is a h.1.1.0, host_is reference k h.1.1.1.0)

assigned_is : (v : Of assigned_form) → HasTokens assigned_form v → OfInput Simple Bytes (assigned_of v)
unfolding assigned_form
assigned_is v h = value_is v.1 h.1

setting_is : (v : Of setting_form) → HasTokens setting_form v → OfSet Simple Bytes (setting_of v)
unfolding setting_form
setting_is v h = assigned_is v.1 h.1

settings_are : (first : Item × InputData) (vs : List (SqlToken × Of setting_form)) → OfSet Simple Bytes first → HasTokens (further setting_form) vs → OfList (OfSet Simple Bytes) (settings first vs)
settings_are first vs f h = (f, go vs h)
  where
    go : (vs : List (SqlToken × Of setting_form)) → OfList (HasTokens (both (one (term.sign (codes ","))) setting_form)) vs → OfList (OfSet Simple Bytes) (map (λ p. setting_of p.1) vs)
    go [] h = tt
    go (v ∷ vs) h = (setting_is v.1 h.0.1, go vs h.1)

behind_host_is : (e : ExprData) (v : Of behind_host_form) → Simple e → HasTokens behind_host_form v → OfInput Simple Bytes (behind_host_of e v).0 × OfList (OfSet Simple Bytes) (behind_host_of e v).1
unfolding behind_host_form
behind_host_is e (inl (i, l)) k h = ((k, named_simple i.1 h.0.1), settings_are (setting_of l.0) l.1 (setting_is l.0 h.1.0) h.1.1)
behind_host_is e (inr (inl (w, inl (i, l)))) k h = ((k, named_simple i.1 h.1.0.1), settings_are (setting_of l.0) l.1 (setting_is l.0 h.1.1.0) h.1.1.1)
behind_host_is e (inr (inl (w, inr (a, l)))) k h = ((k, tt), settings_are (item.Indicator, assigned_of a) l (assigned_is a h.1.0) h.1.1)
behind_host_is e (inr (inr (a, l))) k h = ((k, tt), settings_are (other_item_of a.0, assigned_of a.1) l (assigned_is a.1 h.0.1) h.1)

set_value_is : (v : Of set_value_form) → HasTokens set_value_form v → OfInput Simple Bytes (set_value_of v).0 × OfList (OfSet Simple Bytes) (set_value_of v).1
unfolding set_value_form
set_value_is (inl v) h = behind_host_is (named v.0.1) v.1 (named_simple v.0.1 h.0.1) h.1
set_value_is (inr (d, l)) h = (constant_is d h.0, settings_are (setting_of l.0) l.1 (setting_is l.0 h.1.0) h.1.1)

pub set_is : Makes set_form set_of
unfolding set_form
set_is (s, (d, (a, inl v))) h = (text_is a h.1.1.0, assigned_is v.1 h.1.1.1.1)
set_is (s, (d, (a, inr v))) h = let q = set_value_is v.1 h.1.1.1.1 in (text_is a h.1.1.0, q.0, q.1)

pub whenever_is : Makes whenever_form whenever_of
unfolding whenever_form
whenever_is v h = action_is v.1.1 h.1.1

pub include_is : Makes include_form include_of
unfolding include_form
include_is v h = tt

pub open_is : Makes open_form open_of
unfolding open_form
open_is (o, (n, v)) h = using_is v h.1.1

pub prepare_is : Makes prepare_form prepare_of
unfolding prepare_form
prepare_is (p, (n, (f, v))) h = statement_text_is v h.1.1.1

outs_or_none_is : (v : Of (optional (both (word (codes "INTO")) outs_form))) → HasTokens (optional (both (word (codes "INTO")) outs_form)) v → OfOuts Simple Bytes (outs_or_none v)
outs_or_none_is (inl v) h = outs_is v.1 h.1
outs_or_none_is (inr v) h = tt

executed_is : (name : Text) (v : Of lists_form) → HasTokens lists_form v → IsMade (executed name v)
unfolding lists_form
executed_is name (inl v) h = (using_is v.1.1 h.1.1, outs_is v.1.0 h.1.0)
executed_is name (inr (inl v)) h = (ins_is v.1.0 h.1.0, outs_or_none_is v.1.1 h.1.1)
executed_is name (inr (inr v)) h = (tt, tt)

pub execute_is : Makes execute_form execute_of
unfolding execute_form
execute_is (e, inl (n, inl v)) h = statement_text_is v h.1.1
execute_is (e, inl (n, inr v)) h = executed_is n.bytes v h.1.1
execute_is (e, inr v) h = executed_is v.0.bytes v.1 h.1.1

pub deallocate_is : Makes deallocate_form deallocate_of
unfolding deallocate_form
deallocate_is (d, inl (p, inl n)) h = tt
deallocate_is (d, inl (p, inr v)) h = tt
deallocate_is (d, inr (inl (t, inl v))) h = text_is v h.1.1
deallocate_is (d, inr (inl (t, inr v))) h = tt
deallocate_is (d, inr (inr n)) h = tt

pub deallocate_at_is : Makes deallocate_at_form deallocate_at_of
unfolding deallocate_at_form
deallocate_at_is (d, inl (p, inl n)) h = tt
deallocate_at_is (d, inl (p, inr v)) h = tt
deallocate_at_is (d, inr n) h = tt

pub at_is : (v : Of text_form) → HasTokens text_form v → OfText Simple Bytes (connection_of v)
at_is v h = connection_is v h
