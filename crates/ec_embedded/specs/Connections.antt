-- Statements on connections: CONNECT, SET CONNECTION, DISCONNECT and SET AUTOCOMMIT (PostgreSQL manual, "Managing Database Connections"), as shapes, with the tree that each makes.
use Rattle.std.specs.Prelude.{true, false, List, [], ◌∷◌, ◌++◌, codes, Option, Some, None, if◌then◌else◌}
use Rattle.std.proofs.Common.{inl, inr}
use Rattle.ec_ctypes.specs.trees.Embedded.{TextArgData, word_arg, EmbKindData, connect, set_connection, disconnect, autocommit}
use Rattle.ec_embedded.specs.shapes.Shapes.{nothing, one, both, either, many}
use Rattle.ec_language.specs.Letters.{Text, same_word}
use Rattle.ec_language.specs.SqlTokens.{SqlToken}
use Rattle.ec_embedded.specs.Terminals.{Terminal, reference, keyword, parted_word, word_but, sign, colon, plain_quote, target_start, target_more, target_behind}
use Rattle.ec_embedded.specs.References.{Form, Of, row, choice, optional, word, unquoted, name_form, named, indicator_form, indicator_of, host_form, host_of, text_form, text_of, text_of_host}

-- ---- names of connections

abbrev pub bytes_of : List SqlToken → Text
bytes_of [] = []
bytes_of (t ∷ ts) = t.bytes ++ bytes_of ts

-- DEFAULT in upper case
abbrev pub or_default : Text → Text
or_default t = if same_word (codes "DEFAULT") t then codes "DEFAULT" else t

abbrev pub connection_of : Of text_form → TextArgData
unfolding text_form
connection_of (inl t) = word_arg (or_default t.bytes)
connection_of (inr v) = text_of (inr v)

-- ---- CONNECT

abbrev pub password_form : Form
password_form =
    optional (choice (row (word (codes "IDENTIFIED") ∷ word (codes "BY") ∷ text_form ∷ []))
    (both (word (codes "USING")) text_form ∷ both (one (sign (codes "/"))) text_form ∷ []))

abbrev pub password_of : Of password_form → Option TextArgData
password_of (inl (inl v)) = Some (text_of v.1.1)
password_of (inl (inr (inl v))) = Some (text_of v.1)
password_of (inl (inr (inr v))) = Some (text_of v.1)
password_of (inr v) = None

unfoldable pub user_form : Form
user_form = both text_form password_form

-- AS with a name and USER with a user, each or not
abbrev pub tail_form : Terminal → Terminal → Form
tail_form as_word user_word =
    choice (row (one as_word ∷ text_form ∷ optional (both (word (codes "USER")) user_form) ∷ []))
    (both (one user_word) user_form ∷ nothing ∷ [])

abbrev pub connected : TextArgData → Option TextArgData → Of user_form → EmbKindData
unfolding user_form
connected target name v = connect target name (Some (text_of v.0)) (password_of v.1)

abbrev pub user_or_none : TextArgData → Option TextArgData →
    Of (optional (both (word (codes "USER")) user_form)) → EmbKindData
user_or_none target name (inl v) = connected target name v.1
user_or_none target name (inr v) = connect target name None None

abbrev pub connection : (as_word user_word : Terminal) →
    TextArgData → Of (tail_form as_word user_word) → EmbKindData
connection a u target (inl v) = user_or_none target (Some (connection_of v.1.0)) v.1.1
connection a u target (inr (inl v)) = connected target None v.1
connection a u target (inr (inr v)) = connect target None None None

unfoldable pub plain_tail : Form
plain_tail = tail_form (keyword (codes "AS")) (keyword (codes "USER"))

-- behind a `:` that stands alone: a word directly behind it would be a host's
unfoldable pub parted_tail : Form
parted_tail = tail_form (parted_word (codes "AS")) (parted_word (codes "USER"))

abbrev pub with_tail : TextArgData → Of plain_tail → EmbKindData
unfolding plain_tail
with_tail target v = connection (keyword (codes "AS")) (keyword (codes "USER")) target v

abbrev pub with_parted_tail : TextArgData → Of parted_tail → EmbKindData
unfolding parted_tail
with_parted_tail target v =
    connection (parted_word (codes "AS")) (parted_word (codes "USER")) target v

-- DEFAULT alone is a word
abbrev pub target_bytes : List SqlToken → TextArgData
target_bytes (t ∷ []) = word_arg (or_default t.bytes)
target_bytes ts = word_arg (bytes_of ts)

-- The target is a quote, a host, or the bytes up to AS, USER or the end; a `:` begins a host where a word stands directly behind it.
unfoldable pub target_form : Form
target_form = choice (both (one plain_quote) plain_tail) (
    both (one (colon reference)) (choice (both (both name_form indicator_form) plain_tail)
    (both (both (one target_behind) (many (one target_more))) plain_tail ∷ parted_tail ∷ []))
    ∷ both (both (one target_start) (many (one target_more))) plain_tail
    ∷ []
    )

abbrev pub target_of : Of target_form → EmbKindData
unfolding target_form
target_of (inl v) = with_tail (word_arg (unquoted v.0.bytes)) v.1
target_of (inr (inl (c, inl v))) =
    with_tail (text_of_host (record { value = named v.0.0; indicator = indicator_of v.0.1 })) v.1
target_of (inr (inl (c, inr (inl v)))) = with_tail (target_bytes (c ∷ v.0.0 ∷ v.0.1)) v.1
target_of (inr (inl (c, inr (inr v)))) = with_parted_tail (target_bytes (c ∷ [])) v
target_of (inr (inr v)) = with_tail (target_bytes (v.0.0 ∷ v.0.1)) v.1

unfoldable pub connect_form : Form
connect_form = row (word (codes "CONNECT") ∷ word (codes "TO") ∷ target_form ∷ [])

abbrev pub connect_of : Of connect_form → EmbKindData
unfolding connect_form
connect_of v = target_of v.1.1

-- ---- SET CONNECTION

-- `TO` alone is a name; before another it is none
unfoldable pub set_connection_form : Form
set_connection_form =
    row (word (codes "SET") ∷ word (codes "CONNECTION")
    ∷ choice (both (word (codes "TO")) (optional text_form)) (
    both (one (sign (codes "="))) text_form ∷ one (word_but (codes "TO"))
    ∷ one plain_quote ∷ host_form reference ∷ []
    ) ∷ [])

abbrev pub set_connection_of : Of set_connection_form → EmbKindData
unfolding set_connection_form
set_connection_of (s, (c, inl (t, inl v))) = set_connection (connection_of v)
set_connection_of (s, (c, inl (t, inr v))) = set_connection (word_arg t.bytes)
set_connection_of (s, (c, inr (inl v))) = set_connection (connection_of v.1)
set_connection_of (s, (c, inr (inr (inl t)))) = set_connection (word_arg (or_default t.bytes))
set_connection_of (s, (c, inr (inr (inr (inl t))))) = set_connection (word_arg (unquoted t.bytes))
set_connection_of (s, (c, inr (inr (inr (inr h))))) =
    set_connection (text_of_host (host_of reference h))

-- ---- DISCONNECT

unfoldable pub disconnect_form : Form
disconnect_form = both (word (codes "DISCONNECT")) (optional text_form)

-- CURRENT, ALL and DEFAULT in upper case
abbrev pub or_special : Text → Text
or_special t = if same_word (codes "CURRENT") t then codes "CURRENT"
    else if same_word (codes "ALL") t then codes "ALL" else or_default t

abbrev pub ended_of : Of text_form → TextArgData
unfolding text_form
ended_of (inl t) = word_arg (or_special t.bytes)
ended_of (inr v) = text_of (inr v)

abbrev pub disconnect_of : Of disconnect_form → EmbKindData
unfolding disconnect_form
disconnect_of (d, inl v) = disconnect (ended_of v)
disconnect_of (d, inr v) = disconnect (word_arg (codes "CURRENT"))

-- ---- SET AUTOCOMMIT

unfoldable pub autocommit_form : Form
autocommit_form =
    row (word (codes "SET") ∷ word (codes "AUTOCOMMIT") ∷ either (word (codes "TO"))
    (one (sign (codes "="))) ∷ either (word (codes "ON")) (word (codes "OFF")) ∷ [])

abbrev pub autocommit_of : Of autocommit_form → EmbKindData
unfolding autocommit_form
autocommit_of (s, (a, (t, inl v))) = autocommit true
autocommit_of (s, (a, (t, inr v))) = autocommit false
