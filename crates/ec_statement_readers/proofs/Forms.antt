-- The readers of statements are the plain reading of their forms.
use Rattle.std.proofs.Common.{◌≡◌, List, [], ◌∷◌, ◌++◌, true, false, map, fold, refl, ap, sym, ◌∙◌, inl, inr, ◌⊎◌, codes, Option, Some, None, append_assoc, append-nil}
use Rattle.ec_ctypes.specs.trees.Embedded.{TextArgData, InputData}
use Rattle.ec_ctypes.specs.trees.Exprs.{ExprData, ExprList, no_exprs}
use Rattle.ec_ctypes.specs.views.Exprs.{exprs_of}
use Rattle.ec_ctypes.specs.declared.embedded.emb.Item.{Item}
use Rattle.ec_ctypes.specs.declared.embedded.emb.Item.TheVariants as item
use Rattle.ec_embedded.specs.shapes.Shapes.{one, both, either, many}
use Rattle.ec_embedded.specs.shapes.ReadShapes.{done, stopped, and_then, read, read_one}
use Rattle.ec_embedded.proofs.shapes_lemmas.Made.{made}
use Rattle.ec_language.specs.Letters.{Text}
use Rattle.ec_language.specs.SqlTokens.{SqlToken}
use Rattle.ec_embedded.specs.Terminals.{alphabet, input, reference, sign, target_start, target_more, target_behind}
use Rattle.ec_embedded.specs.ServerText.{Reading}
use Rattle.ec_embedded.specs.References.{Form, Of, row, choice, optional, word, further, listed, gathered, name_form, named, indicator_form, indicator_of, reference_form, text_form, text_of, statement_text_form, outs_form, text_of_host}
use Rattle.ec_embedded.specs.Connections as f
use Rattle.ec_embedded.specs.Connections.{bytes_of, or_default, connection_of, password_form, password_of, user_form, connected, plain_tail, parted_tail, with_tail, with_parted_tail, target_bytes, target_form, target_of, connect_form, connect_of, set_connection_form, set_connection_of, disconnect_form, disconnect_of, autocommit_form, autocommit_of}
use Rattle.ec_embedded.specs.Descriptors.{allocate_form, allocate_of, item_form, item_of, got_form, got_of, get_form, get_of, other_item_form, other_item_of, set_item_form, set_item_of, assigned_form, assigned_of, setting_form, setting_of, settings, behind_host_form, behind_host_of, index_host, set_value_form, set_value_of, set_form, set_of}
use Rattle.ec_embedded.specs.Directives.{condition_form, condition_of, argument_form, argument_of, arguments_form, arguments_of, do_form, do_of, action_form, action_of, whenever_form, whenever_of, include_form, include_of, cursor_form, cursor_name}
use Rattle.ec_embedded.specs.Dynamic.{prepare_form, prepare_of, lists_form, executed, outs_or_none, execute_form, execute_of, deallocate_form, deallocate_of, deallocate_at_form, deallocate_at_of, open_form, open_of}
use Rattle.ec_embedded.specs.Statements.{at_form, at_of}
use Rattle.ec_references.specs.Readers.{Reader, taken, if_next}
use Rattle.ec_references.specs.Readers as parts
use Rattle.ec_references.proofs.Steps.{Is, of_either, of_both, of_one, of_last, of_nothing, of_made, of_many}
use Rattle.ec_references.proofs.Parts.{name_read, indicator_read, referenced_read, host_read, text_read, spelled_text_read, statement_text_read, connection_read, ended_read, constant_read, value_read, spelled_value_read, separated_read, ins_read, outs_read, using_read}
use Rattle.ec_statement_readers.specs.Readers as r
use Rattle.ec_statement_readers.specs.Readers.{Bytes, bytes_text, with_token}

-- another name for what is made
renamed : {C : Type 0} {a : Form} {f : Of a → C} {p : Reader C} (g : Of a → C) → ((v : Of a) → f v ≡ g v) → Is a f p → Is a g p
renamed {C} {a} {f} {p} g e h = record { is = λ n w. go (read alphabet a n w) ∙ h.is n w }
  where
    go : (o : Reading (Of a)) → made g o ≡ made f o
    go (done v n w) = ap (λ c. done c n w) (sym (e v))
    go (stopped s) = refl

-- ---- CONNECT

abbrev some_password_form : Form
some_password_form = choice (row (word (codes "IDENTIFIED") ∷ word (codes "BY") ∷ text_form ∷ [])) (both (word (codes "USING")) text_form ∷ both (one (sign (codes "/"))) text_form ∷ [])

abbrev some_password_of : Of some_password_form → TextArgData
some_password_of (inl v) = text_of v.1.1
some_password_of (inr (inl v)) = text_of v.1
some_password_of (inr (inr v)) = text_of v.1

some_password_read : Is some_password_form some_password_of r.some_password
unfolding r.some_password
some_password_read = of_either (of_both _ of_one (λ i. of_both _ of_one (λ b. text_read))) (of_either (of_both _ of_one (λ t. text_read)) (of_both _ of_one (λ t. text_read)))

password_read : Is password_form password_of r.password
unfolding r.password
password_read = of_either (renamed (λ v. password_of (inl v)) same (of_made (λ t. Some t) some_password_read)) of_nothing
  where
    same : (v : Of some_password_form) → Some (some_password_of v) ≡ password_of (inl v)
    same (inl v) = refl
    same (inr (inl v)) = refl
    same (inr (inr v)) = refl

user_read : (target : TextArgData) (name : Option TextArgData) → Is user_form (connected target name) (r.user target name)
unfolding user_form r.user
user_read target name = of_both _ text_read (λ v. of_made _ password_read)

user_or_none_read : (target : TextArgData) (name : Option TextArgData) → Is (optional (both (word (codes "USER")) user_form)) (f.user_or_none target name) (r.user_or_none target name)
unfolding r.user_or_none
user_or_none_read target name = of_either (of_both _ of_one (λ t. user_read target name)) of_nothing

tail_read : (target : TextArgData) → Is plain_tail (with_tail target) (r.plain_tail target)
unfolding plain_tail r.plain_tail
tail_read target = of_either (of_both _ of_one (λ t. of_both _ connection_read (λ v. user_or_none_read target (Some (connection_of v))))) (of_either (of_both _ of_one (λ t. user_read target None)) of_nothing)

parted_read : (target : TextArgData) → Is parted_tail (with_parted_tail target) (r.parted_tail target)
unfolding parted_tail r.parted_tail
parted_read target = of_either (of_both _ of_one (λ t. of_both _ connection_read (λ v. user_or_none_read target (Some (connection_of v))))) (of_either (of_both _ of_one (λ t. user_read target None)) of_nothing)

abbrev more : Text → List SqlToken → Bytes
more b ts = fold with_token (record { bytes = b; alone = false }) ts

more_is : (b : Text) (ts : List SqlToken) → more b ts ≡ record { bytes = b ++ bytes_of ts; alone = false }
more_is b [] = ap (λ t. record { bytes = t; alone = false }) (sym (append-nil b))
more_is b (t ∷ ts) = more_is (b ++ t.bytes) ts ∙ ap (λ x. record { bytes = x; alone = false }) (append_assoc b t.bytes (bytes_of ts))

start_is : (t : SqlToken) (ts : List SqlToken) → bytes_text (fold with_token (record { bytes = t.bytes; alone = true }) ts) ≡ target_bytes (t ∷ ts)
start_is t [] = refl
start_is t (u ∷ us) = ap bytes_text (more_is (t.bytes ++ u.bytes) us ∙ ap (λ x. record { bytes = x; alone = false }) (append_assoc t.bytes u.bytes (bytes_of us)))

behind_is : (c t : SqlToken) (ts : List SqlToken) → bytes_text (more (c.bytes ++ t.bytes) ts) ≡ target_bytes (c ∷ t ∷ ts)
behind_is c t ts = ap bytes_text (more_is (c.bytes ++ t.bytes) ts ∙ ap (λ x. record { bytes = x; alone = false }) (append_assoc c.bytes t.bytes (bytes_of ts)))

bytes_read : Is (both (one target_start) (many (one target_more))) (λ v. target_bytes (v.0 ∷ v.1)) r.started_bytes
unfolding r.more_bytes
bytes_read = renamed _ (λ v. start_is v.0 v.1) (of_both _ of_one (λ t. of_made bytes_text (of_many (record { bytes = t.bytes; alone = true }) (λ b. of_last))))

behind_read : (c : SqlToken) → Is (both (one target_behind) (many (one target_more))) (λ v. target_bytes (c ∷ v.0 ∷ v.1)) (r.colon_bytes c)
unfolding r.more_bytes
behind_read c = renamed _ (λ v. behind_is c v.0 v.1) (of_both _ of_one (λ t. of_made bytes_text (of_many (record { bytes = c.bytes ++ t.bytes; alone = false }) (λ b. of_last))))

host_target_read : Is (both name_form indicator_form) (λ v. text_of_host (record { value = named v.0; indicator = indicator_of v.1 })) r.host_target
host_target_read = of_both _ name_read (λ v. of_made _ indicator_read)

target_read : Is target_form target_of r.targeted
unfolding target_form r.targeted r.target_behind_colon r.colon_alone name_form
target_read = of_either (of_both _ of_one (λ t. tail_read _)) (of_either (of_both _ of_one (λ c. of_either (of_both _ host_target_read (λ v. tail_read _)) (of_either (of_both _ (behind_read c) (λ v. tail_read _)) (parted_read _)))) (of_both _ bytes_read (λ v. tail_read _)))

pub connect_read : Is connect_form connect_of r.connecting
unfolding connect_form r.connecting
connect_read = of_both _ of_one (λ c. of_both _ of_one (λ t. target_read))

-- ---- other statements on connections

pub disconnect_read : Is disconnect_form disconnect_of r.disconnecting
unfolding disconnect_form r.disconnecting text_form
disconnect_read = of_both _ of_one (λ t. of_either (of_made _ ended_read) of_nothing)

pub set_connection_read : Is set_connection_form set_connection_of r.setting_connection
unfolding set_connection_form r.setting_connection r.name_or_to r.bare_name text_form
set_connection_read = of_both _ of_one (λ s. of_both _ of_one (λ c. of_either (of_both _ of_one (λ t. of_either (of_made _ connection_read) of_nothing))
    (of_either (of_both _ of_one (λ t. of_made _ connection_read)) (of_either of_last (of_either of_last (of_made _ (host_read reference)))))))

abbrev as_one : SqlToken ⊎ SqlToken → SqlToken
as_one (inl t) = t
as_one (inr t) = t

pub autocommit_read : Is autocommit_form autocommit_of r.setting_autocommit
unfolding autocommit_form r.setting_autocommit
autocommit_read = of_both _ of_one (λ s. of_both _ of_one (λ a. of_both _ to_read (λ t. of_either (of_made _ of_one) (of_made _ of_one))))
  where
    to_read : Is (either (word (codes "TO")) (one (sign (codes "=")))) as_one r.to_or_equal
    to_read = of_either of_one of_one

pub at_read : Is at_form at_of r.at_name
unfolding at_form r.at_name
at_read = of_both _ of_one (λ t. connection_read)

-- ---- prepared statements and cursors

pub prepare_read : Is prepare_form prepare_of r.preparing
unfolding prepare_form r.preparing
prepare_read = of_both _ of_one (λ p. of_both _ of_one (λ n. of_both _ of_one (λ f. of_made _ statement_text_read)))

into_read : Is (optional (both (word (codes "INTO")) outs_form)) outs_or_none r.into_or_none
unfolding r.into_or_none
into_read = of_either (of_both _ of_one (λ t. outs_read)) of_nothing

lists_read : (name : Text) → Is lists_form (executed name) (r.lists_of name)
unfolding lists_form r.lists_of
lists_read name = of_either (of_both _ of_one (λ t. of_both _ outs_read (λ o. of_made _ using_read))) (of_either (of_both _ of_one (λ t. of_both _ ins_read (λ i. of_made _ into_read))) of_nothing)

pub execute_read : Is execute_form execute_of r.executing
unfolding execute_form r.executing r.text_or_lists statement_text_form
execute_read = of_both _ of_one (λ e. of_either (of_both _ of_one (λ n. of_either (of_made _ statement_text_read) (lists_read n.bytes))) (of_both _ of_one (λ t. lists_read t.bytes)))

pub deallocate_read : Is deallocate_form deallocate_of r.deallocating
unfolding deallocate_form r.deallocating r.name_or_word r.area_or_word text_form
deallocate_read = of_both _ of_one (λ d. of_either (of_both _ of_one (λ p. of_either of_last of_nothing)) (of_either (of_both _ of_one (λ t. of_either (of_made _ text_read) of_nothing)) of_last))

pub deallocate_at_read : Is deallocate_at_form deallocate_at_of r.deallocating_at
unfolding deallocate_at_form r.deallocating_at r.name_or_word
deallocate_at_read = of_both _ of_one (λ d. of_either (of_both _ of_one (λ p. of_either of_last of_nothing)) of_last)

pub open_read : Is open_form open_of r.opening
unfolding open_form r.opening
open_read = of_both _ of_one (λ o. of_both _ of_one (λ n. of_made _ using_read))

-- ---- descriptors

pub allocate_read : Is allocate_form allocate_of r.allocating
unfolding allocate_form r.allocating
allocate_read = of_both _ of_one (λ a. of_both _ of_one (λ d. of_made _ text_read))

item_read : Is item_form item_of r.got_item
unfolding item_form r.got_item
item_read = of_either of_last (of_either of_last (of_either of_last (of_either of_last of_last)))

got_read : Is got_form got_of r.got
unfolding got_form r.got
got_read = of_both _ (host_read reference) (λ h. of_both _ of_one (λ s. of_made _ item_read))

pub get_read : Is get_form get_of r.getting
unfolding get_form r.getting r.got_items r.got_count
get_read = of_both _ of_one (λ g. of_both _ of_one (λ d. of_both _ spelled_text_read (λ a. of_either
    (of_both _ of_one (λ v. of_both _ spelled_value_read (λ i. of_made _ (separated_read got_read))))
    (of_both _ (host_read reference) (λ h. of_both _ of_one (λ s. of_last))))))

assigned_read : Is assigned_form assigned_of r.assigned
unfolding assigned_form r.assigned
assigned_read = of_both _ of_one (λ s. value_read)

other_item_read : Is other_item_form other_item_of r.other_item
unfolding other_item_form r.other_item
other_item_read = of_either of_last of_last

set_item_read : Is set_item_form set_item_of r.set_item
unfolding set_item_form r.set_item other_item_form
set_item_read = of_either other_item_read of_last

setting_read : Is setting_form setting_of r.setting
unfolding setting_form r.setting
setting_read = of_both _ set_item_read (λ i. of_made _ assigned_read)

other_setting_read : Is (both other_item_form assigned_form) (λ v. (other_item_of v.0, assigned_of v.1)) r.other_setting
unfolding r.other_setting
other_setting_read = of_both _ other_item_read (λ i. of_made _ assigned_read)

all_are : (first : List (Item × InputData)) (others : List (SqlToken × Of setting_form)) → fold (λ bs p. bs ++ setting_of p.1 ∷ []) first others ≡ first ++ map (λ p. setting_of p.1) others
all_are first [] = sym (append-nil first)
all_are first (p ∷ ps) = all_are (first ++ setting_of p.1 ∷ []) ps ∙ append_assoc first (setting_of p.1 ∷ []) (map (λ p. setting_of p.1) ps)

more_settings_read : (first : Item × InputData) → Is (further setting_form) (settings first) (parts.further r.setting (first ∷ []))
unfolding parts.further
more_settings_read first = renamed _ (λ vs. all_are (first ∷ []) vs) (of_many (first ∷ []) (λ bs. of_both _ of_one (λ t. of_made _ setting_read)))

settings_read : Is (listed setting_form) (λ l. settings (setting_of l.0) l.1) (parts.separated r.setting)
settings_read = of_both _ setting_read (λ v. more_settings_read (setting_of v))

indicated_read : (e : ExprData) → Is (both (reference_form reference) (listed setting_form)) (λ v. (index_host e (Some (named v.0.1)), settings (setting_of v.1.0) v.1.1)) (r.indicated_settings e)
unfolding r.indicated_settings
indicated_read e = of_both _ (referenced_read reference) (λ i. of_made _ settings_read)

behind_host_read : (e : ExprData) → Is behind_host_form (behind_host_of e) (r.behind_host e)
unfolding behind_host_form r.behind_host r.behind_indicator
behind_host_read e = of_either (indicated_read e) (of_either
    (of_both _ of_one (λ w. of_either (indicated_read e) (of_both _ assigned_read (λ a. of_made _ (more_settings_read (item.Indicator, assigned_of a))))))
    (of_both _ other_setting_read (λ a. of_made _ (more_settings_read (other_item_of a.0, assigned_of a.1)))))

set_value_read : Is set_value_form set_value_of r.set_values
unfolding set_value_form r.set_values
set_value_read = of_either (of_both _ (referenced_read input) (λ v. behind_host_read (named v.1))) (of_both _ constant_read (λ c. of_made _ settings_read))

pub set_read : Is set_form set_of r.setting_area
unfolding set_form r.setting_area
set_read = of_both _ of_one (λ s. of_both _ of_one (λ d. of_both _ text_read (λ a. of_either (of_both _ of_one (λ c. of_made _ assigned_read)) (of_both _ of_one (λ v. of_made _ set_value_read)))))

-- ---- directives

condition_read : Is condition_form condition_of r.condition
unfolding condition_form r.condition
condition_read = of_either of_last (of_either of_last (of_both _ of_one (λ t. of_last)))

argument_read : Is argument_form argument_of r.argument
unfolding argument_form r.argument
argument_read = of_either of_last (of_either of_last of_last)

abbrev some_arguments_of : Of (optional (listed argument_form)) → ExprList
some_arguments_of (inl v) = exprs_of (gathered argument_of v.0 v.1)
some_arguments_of (inr v) = no_exprs

some_read : Is (optional (listed argument_form)) some_arguments_of r.some_arguments
unfolding r.some_arguments argument_form
some_read = of_either (of_made _ (separated_read argument_read)) of_nothing

arguments_read : Is arguments_form arguments_of r.arguments
unfolding arguments_form r.arguments
arguments_read = of_both _ of_one (λ p. of_both _ some_read (λ v. closing p v))
  where
    closing : (p : Of (one (sign (codes "(")))) (v : Of (optional (listed argument_form))) → Is (one (sign (codes ")"))) (λ q. arguments_of (p, (v, q))) (λ n w. and_then (read_one alphabet (sign (codes ")")) n w) (λ q m r. done (some_arguments_of v) m r))
    closing p (inl v) = of_last
    closing p (inr v) = of_last

do_read : Is do_form do_of r.doing
unfolding do_form r.doing arguments_form
do_read = of_either (of_both _ of_one (λ t. of_either (of_made _ arguments_read) of_nothing)) (of_either (of_both _ of_one (λ t. of_either (of_made _ arguments_read) of_nothing)) (of_both _ of_one (λ t. of_made _ arguments_read)))

action_read : Is action_form action_of r.action
unfolding action_form r.action r.long_action
action_read = of_either of_last (of_either of_last (of_either of_last (of_either (of_both _ of_one (λ t. of_last)) (of_either (of_both _ of_one (λ g. of_both _ of_one (λ t. of_last)))
    (of_either (of_both _ of_one (λ c. of_both _ of_one (λ t. of_made _ arguments_read))) (of_both _ of_one (λ d. do_read)))))))

pub whenever_read : Is whenever_form whenever_of r.setting_handler
unfolding whenever_form r.setting_handler
whenever_read = of_both _ of_one (λ w. of_both _ condition_read (λ c. of_made _ action_read))

pub include_read : Is include_form include_of r.including
unfolding include_form r.including
include_read = of_both _ of_one (λ i. of_last)

-- ---- DECLARE, up to FOR

some_mode_read : Is (choice (word (codes "INSENSITIVE")) (word (codes "ASENSITIVE") ∷ word (codes "SCROLL") ∷ row (word (codes "NO") ∷ word (codes "SCROLL") ∷ []) ∷ [])) (λ v. tt) r.some_mode
unfolding r.some_mode
some_mode_read = of_either of_last (of_either of_last (of_either of_last (of_both _ of_one (λ t. of_last))))

mode_read : Is (optional (choice (word (codes "INSENSITIVE")) (word (codes "ASENSITIVE") ∷ word (codes "SCROLL") ∷ row (word (codes "NO") ∷ word (codes "SCROLL") ∷ []) ∷ []))) (λ v. tt) r.mode
unfolding r.mode
mode_read = of_either some_mode_read of_nothing

some_hold_read : Is (both (either (word (codes "WITH")) (word (codes "WITHOUT"))) (word (codes "HOLD"))) (λ v. tt) r.some_hold
unfolding r.some_hold
some_hold_read = of_both _ with_read (λ t. of_last)
  where
    with_read : Is (either (word (codes "WITH")) (word (codes "WITHOUT"))) as_one r.with_or_without
    with_read = of_either of_one of_one

hold_read : Is (optional (both (either (word (codes "WITH")) (word (codes "WITHOUT"))) (word (codes "HOLD")))) (λ v. tt) r.hold
unfolding r.hold
hold_read = of_either some_hold_read of_nothing

pub cursor_read : Is cursor_form cursor_name r.cursor_head
unfolding cursor_form r.cursor_head
cursor_read = of_both _ of_one (λ d. of_both _ of_one (λ t. of_both _ mode_read (λ m. of_both _ of_one (λ c. of_both _ hold_read (λ h. of_last)))))
