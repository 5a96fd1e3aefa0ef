-- The forms of statements, read token by token: the same as the forms, in the steps that code takes.
use Rattle.std.specs.Prelude.{Bool, true, false, List, [], ◌∷◌, ◌++◌, length, codes, Option, Some, None}
use Rattle.ec_ctypes.specs.declared.embedded.emb.Cond.{Cond}
use Rattle.ec_ctypes.specs.declared.embedded.emb.Cond.TheVariants as cond
use Rattle.ec_ctypes.specs.declared.embedded.emb.Item.{Item}
use Rattle.ec_ctypes.specs.declared.embedded.emb.Item.TheVariants as item
use Rattle.ec_ctypes.specs.trees.Embedded.{HostData, TextArgData, word_arg, InputData, listed_ins, OutsData, no_outs, ActionData, continue_action, goto_action, print_action, stop_action, break_action, next_action, call_action, EmbKindData, connect, set_connection, disconnect, autocommit, open_cursor, execute_immediate, prepare, execute, deallocate, allocate_area, free_area, get_count, get_items, set_count, set_items, whenever, include_sqlca}
use Rattle.ec_ctypes.specs.trees.Exprs.{ExprData, character, ExprList, no_exprs}
use Rattle.ec_ctypes.specs.views.Exprs.{exprs_of}
use Rattle.ec_embedded.specs.shapes.ReadShapes.{is_next_among}
use Rattle.ec_language.specs.Constants.{character_value}
use Rattle.ec_language.specs.Letters.{Text}
use Rattle.ec_language.specs.Productions as c
use Rattle.ec_language.specs.SqlTokens.{SqlToken}
use Rattle.ec_embedded.specs.Terminals.{Terminal, alphabet, input, reference, keyword, parted_word, any_word, word_but, other_word, glued_word, sign, colon, plain_quote, fitting_number, character_constant, target_start, target_more, target_behind}
use Rattle.ec_embedded.specs.References.{unquoted, decimal_constant, text_of_host}
use Rattle.ec_embedded.specs.ServerText.{Tokens}
use Rattle.ec_embedded.specs.Connections.{or_default, or_special}
use Rattle.ec_embedded.specs.Descriptors.{index_host}
use Rattle.ec_embedded.specs.Directives.{character_in}
use Rattle.ec_references.specs.Readers.{Reader, returns, ◌>>=◌, ◌>>◌, next_is, taken, if_next, turns_from, referenced, indicator, hosted, named_place, quote_or_host, text_argument, spelled_text, if_text, named_connection, constant, value, spelled_value, further, separated, inputs, outputs, using_or_none}

-- whether the next token is one of these
abbrev pub if_among : {A : Type 0} → List Terminal → Reader A → Reader A → Reader A
if_among ts p q = λ n w. elim (is_next_among alphabet ts w) [ true ↦ p n w | false ↦ q n w ]

abbrev pub word : Text → Reader SqlToken
word w = taken (keyword w)

-- ---- CONNECT

unfoldable pub some_password : Reader TextArgData
some_password =
    if_next (keyword (codes "IDENTIFIED"))
    (word (codes "IDENTIFIED") >> (word (codes "BY") >> text_argument))
    (if_next (keyword (codes "USING")) (word (codes "USING") >> text_argument)
    (taken (sign (codes "/")) >> text_argument))

abbrev pub password_words : List Terminal
password_words = keyword (codes "IDENTIFIED") ∷ keyword (codes "USING") ∷ sign (codes "/") ∷ []

abbrev pub begins_password : Tokens → Bool
begins_password w = is_next_among alphabet password_words w

unfoldable pub password : Reader (Option TextArgData)
password = if_among password_words (some_password >>= (λ t. returns (Some t))) (returns None)

-- a user with or without a password
unfoldable pub user : TextArgData → Option TextArgData → Reader EmbKindData
user target name =
    text_argument >>= (λ u. password >>= (λ p. returns (connect target name (Some u) p)))

unfoldable pub user_or_none : TextArgData → Option TextArgData → Reader EmbKindData
user_or_none target name =
    if_next (keyword (codes "USER")) (word (codes "USER") >> user target name)
    (returns (connect target name None None))

-- AS with a name and USER with a user, each or not
unfoldable pub plain_tail : TextArgData → Reader EmbKindData
plain_tail target =
    if_next (keyword (codes "AS")) (word (codes "AS")
    >> (named_connection or_default >>= (λ n. user_or_none target (Some n))))
    (if_next (keyword (codes "USER")) (word (codes "USER") >> user target None)
    (returns (connect target None None None)))

unfoldable pub parted_tail : TextArgData → Reader EmbKindData
parted_tail target =
    if_next (parted_word (codes "AS"))
    (taken (parted_word (codes "AS"))
    >> (named_connection or_default >>= (λ n. user_or_none target (Some n))))
    (if_next (parted_word (codes "USER")) (taken (parted_word (codes "USER")) >> user target None)
    (returns (connect target None None None)))

-- the bytes of a target, and whether they are those of one token
pub record Bytes : Type 0 where
  pub bytes : Text
  pub alone : Bool

abbrev pub bytes_text : Bytes → TextArgData
bytes_text b = elim b.alone [ true ↦ word_arg (or_default b.bytes) | false ↦ word_arg b.bytes ]

abbrev pub with_token : Bytes → SqlToken → Bytes
with_token b t = record { bytes = b.bytes ++ t.bytes; alone = false }

abbrev pub one_more_byte : Bytes → Reader Bytes
one_more_byte b = taken target_more >>= (λ t. returns (with_token b t))

unfoldable pub more_bytes : Bytes → Reader Bytes
more_bytes b = λ n w. turns_from (next_is target_more) one_more_byte (length w) b n w

abbrev pub bytes_behind : Bytes → Reader TextArgData
bytes_behind b = more_bytes b >>= (λ c. returns (bytes_text c))

abbrev pub host_target : Reader TextArgData
host_target =
    named_place >>= (λ e. indicator
    >>= (λ i. returns (text_of_host (record { value = e; indicator = i }))))

abbrev pub started_bytes : Reader TextArgData
started_bytes =
    taken target_start >>= (λ t. bytes_behind (record { bytes = t.bytes; alone = true }))

abbrev pub colon_bytes : SqlToken → Reader TextArgData
colon_bytes c =
    taken target_behind >>= (λ t. bytes_behind
    (record { bytes = c.bytes ++ t.bytes; alone = false }))

-- a `:` alone
unfoldable pub colon_alone : SqlToken → Reader EmbKindData
colon_alone t = parted_tail (word_arg (or_default t.bytes))

-- behind a `:`
unfoldable pub target_behind_colon : SqlToken → Reader EmbKindData
target_behind_colon t =
    if_next glued_word (host_target >>= plain_tail)
    (if_next target_behind (colon_bytes t >>= plain_tail)
    (colon_alone t))

unfoldable pub targeted : Reader EmbKindData
targeted =
    if_next plain_quote (taken plain_quote >>= (λ t. plain_tail (word_arg (unquoted t.bytes))))
    (if_next (colon reference) (taken (colon reference) >>= target_behind_colon)
    (started_bytes >>= plain_tail))

unfoldable pub connecting : Reader EmbKindData
connecting = word (codes "CONNECT") >> (word (codes "TO") >> targeted)

-- ---- other statements on connections

unfoldable pub disconnecting : Reader EmbKindData
disconnecting =
    word (codes "DISCONNECT") >> if_text
    (named_connection or_special >>= (λ a. returns (disconnect a)))
    (returns (disconnect (word_arg (codes "CURRENT"))))

-- behind TO
unfoldable pub name_or_to : SqlToken → Reader EmbKindData
name_or_to t =
    if_text (named_connection or_default >>= (λ a. returns (set_connection a)))
    (returns (set_connection (word_arg t.bytes)))

unfoldable pub bare_name : Reader EmbKindData
bare_name =
    if_next (word_but (codes "TO"))
    (taken (word_but (codes "TO")) >>= (λ t. returns
    (set_connection (word_arg (or_default t.bytes)))))
    (if_next plain_quote (taken plain_quote
    >>= (λ t. returns (set_connection (word_arg (unquoted t.bytes)))))
    (hosted reference >>= (λ h. returns (set_connection (text_of_host h)))))

unfoldable pub setting_connection : Reader EmbKindData
setting_connection =
    word (codes "SET") >> (word (codes "CONNECTION") >>
    if_next (keyword (codes "TO")) (word (codes "TO") >>= name_or_to)
    (if_next (sign (codes "=")) (taken (sign (codes "="))
    >> (named_connection or_default >>= (λ a. returns (set_connection a)))) bare_name))

abbrev pub to_or_equal : Reader SqlToken
to_or_equal = if_next (keyword (codes "TO")) (word (codes "TO")) (taken (sign (codes "=")))

unfoldable pub setting_autocommit : Reader EmbKindData
setting_autocommit =
    word (codes "SET") >> (word (codes "AUTOCOMMIT") >> (to_or_equal >>
    if_next (keyword (codes "ON")) (word (codes "ON") >> returns (autocommit true))
    (word (codes "OFF") >> returns (autocommit false))))

-- the connection that AT names
unfoldable pub at_name : Reader TextArgData
at_name = word (codes "AT") >> named_connection or_default

-- ---- prepared statements and cursors

unfoldable pub preparing : Reader EmbKindData
preparing =
    word (codes "PREPARE") >> (taken any_word
    >>= (λ n. word (codes "FROM") >> (quote_or_host >>= (λ t. returns (prepare n.bytes t)))))

unfoldable pub into_or_none : Reader OutsData
into_or_none = if_next (keyword (codes "INTO")) (word (codes "INTO") >> outputs) (returns no_outs)

unfoldable pub lists_of : Text → Reader EmbKindData
lists_of name =
    if_next (keyword (codes "INTO"))
    (word (codes "INTO") >> (outputs
    >>= (λ o. using_or_none >>= (λ i. returns (execute name i o)))))
    (if_next (keyword (codes "USING"))
    (word (codes "USING") >> (inputs >>= (λ i. into_or_none >>= (λ o. returns (execute name i o)))))
    (returns (execute name (listed_ins []) no_outs)))

-- behind the word IMMEDIATE, which may be a name
unfoldable pub text_or_lists : SqlToken → Reader EmbKindData
text_or_lists n =
    if_among (plain_quote ∷ colon reference ∷ [])
    (quote_or_host >>= (λ t. returns (execute_immediate t))) (lists_of n.bytes)

unfoldable pub executing : Reader EmbKindData
executing = word (codes "EXECUTE") >>
    if_next (keyword (codes "IMMEDIATE")) (word (codes "IMMEDIATE") >>= text_or_lists)
    (taken (word_but (codes "IMMEDIATE")) >>= (λ t. lists_of t.bytes))

-- the name of a prepared statement, or this word
unfoldable pub name_or_word : SqlToken → Reader EmbKindData
name_or_word t =
    if_next any_word (taken any_word >>= (λ n. returns (deallocate n.bytes)))
    (returns (deallocate t.bytes))

unfoldable pub area_or_word : SqlToken → Reader EmbKindData
area_or_word t =
    if_text (text_argument >>= (λ a. returns (free_area a))) (returns (deallocate t.bytes))

unfoldable pub deallocating : Reader EmbKindData
deallocating = word (codes "DEALLOCATE") >>
    if_next (keyword (codes "PREPARE")) (word (codes "PREPARE") >>= name_or_word)
    (if_next (keyword (codes "DESCRIPTOR")) (word (codes "DESCRIPTOR") >>= area_or_word)
    (taken (other_word (codes "PREPARE" ∷ codes "DESCRIPTOR" ∷ []))
    >>= (λ n. returns (deallocate n.bytes))))

unfoldable pub deallocating_at : Reader EmbKindData
deallocating_at = word (codes "DEALLOCATE") >>
    if_next (keyword (codes "PREPARE")) (word (codes "PREPARE") >>= name_or_word)
    (taken (word_but (codes "PREPARE")) >>= (λ n. returns (deallocate n.bytes)))

unfoldable pub opening : Reader EmbKindData
opening =
    word (codes "OPEN") >> (taken any_word
    >>= (λ n. using_or_none >>= (λ i. returns (open_cursor n.bytes i))))

-- ---- descriptors

unfoldable pub allocating : Reader EmbKindData
allocating =
    word (codes "ALLOCATE") >> (word (codes "DESCRIPTOR")
    >> (text_argument >>= (λ a. returns (allocate_area a))))

unfoldable pub got_item : Reader Item
got_item =
    if_next (keyword (codes "DATA")) (word (codes "DATA") >> returns item.Content)
    (if_next (keyword (codes "INDICATOR")) (word (codes "INDICATOR") >> returns item.Indicator)
    (if_next (keyword (codes "NAME")) (word (codes "NAME") >> returns item.Label)
    (if_next (keyword (codes "TYPE")) (word (codes "TYPE") >> returns item.Code)
    (word (codes "RETURNED_OCTET_LENGTH") >> returns item.Octets))))

unfoldable pub got : Reader (Item × HostData)
got = hosted reference >>= (λ h. taken (sign (codes "=")) >> (got_item >>= (λ i. returns (i, h))))

unfoldable pub got_items : TextArgData → Reader EmbKindData
got_items a =
    word (codes "VALUE") >> (spelled_value
    >>= (λ i. separated got >>= (λ l. returns (get_items a i l))))

unfoldable pub got_count : TextArgData → Reader EmbKindData
got_count a =
    hosted reference >>= (λ h. taken (sign (codes "="))
    >> (word (codes "COUNT") >> returns (get_count a h)))

unfoldable pub getting : Reader EmbKindData
getting =
    word (codes "GET") >> (word (codes "DESCRIPTOR")
    >> (spelled_text >>= (λ a. if_next (keyword (codes "VALUE")) (got_items a) (got_count a))))

unfoldable pub assigned : Reader InputData
assigned = taken (sign (codes "=")) >> value

unfoldable pub other_item : Reader Item
other_item =
    if_next (keyword (codes "DATA")) (word (codes "DATA") >> returns item.Content)
    (word (codes "TYPE") >> returns item.Code)

unfoldable pub set_item : Reader Item
set_item =
    if_among (keyword (codes "DATA") ∷ keyword (codes "TYPE") ∷ []) other_item
    (word (codes "INDICATOR") >> returns item.Indicator)

unfoldable pub setting : Reader (Item × InputData)
setting = set_item >>= (λ i. assigned >>= (λ v. returns (i, v)))

unfoldable pub other_setting : Reader (Item × InputData)
other_setting = other_item >>= (λ i. assigned >>= (λ v. returns (i, v)))

-- an index and the items
abbrev pub Settings : Type 0
Settings = InputData × List (Item × InputData)

abbrev pub all_settings : InputData → Reader Settings
all_settings i = separated setting >>= (λ l. returns (i, l))

abbrev pub settings_behind : InputData → Item × InputData → Reader Settings
settings_behind i first = further setting (first ∷ []) >>= (λ l. returns (i, l))

unfoldable pub indicated_settings : ExprData → Reader Settings
indicated_settings e = referenced reference >>= (λ i. all_settings (index_host e (Some i)))

-- behind the word INDICATOR, with which an indicator may begin, or an item
unfoldable pub behind_indicator : ExprData → Reader Settings
behind_indicator e =
    if_next (colon reference) (indicated_settings e)
    (assigned >>= (λ v. settings_behind (index_host e None) (item.Indicator, v)))

unfoldable pub behind_host : ExprData → Reader Settings
behind_host e =
    if_next (colon reference) (indicated_settings e)
    (if_next (keyword (codes "INDICATOR")) (word (codes "INDICATOR") >> behind_indicator e)
    (other_setting >>= settings_behind (index_host e None)))

unfoldable pub set_values : Reader Settings
set_values = if_next (colon input) (referenced input >>= behind_host) (constant >>= all_settings)

unfoldable pub setting_area : Reader EmbKindData
setting_area = word (codes "SET") >> (word (codes "DESCRIPTOR") >> (text_argument >>= (λ a.
    if_next (keyword (codes "COUNT"))
    (word (codes "COUNT") >> (assigned >>= (λ v. returns (set_count a v))))
    (word (codes "VALUE") >> (set_values >>= (λ p. returns (set_items a p.0 p.1)))))))

-- ---- directives

unfoldable pub condition : Reader Cond
condition =
    if_next (keyword (codes "SQLERROR")) (word (codes "SQLERROR") >> returns cond.Error)
    (if_next (keyword (codes "SQLWARNING")) (word (codes "SQLWARNING") >> returns cond.Warning)
    (word (codes "NOT") >> (word (codes "FOUND") >> returns cond.NotFound)))

unfoldable pub argument : Reader ExprData
argument =
    if_next any_word (taken any_word >>= (λ t. returns ((c.named t.bytes).expression)))
    (if_next fitting_number (taken fitting_number >>= (λ t. returns (decimal_constant t.bytes)))
    (taken character_constant >>= (λ t. returns
    (character (character_in (character_value t.bytes))))))

abbrev pub argument_terminals : List Terminal
argument_terminals = any_word ∷ fitting_number ∷ character_constant ∷ []

abbrev pub begins_argument : Tokens → Bool
begins_argument w = is_next_among alphabet argument_terminals w

unfoldable pub some_arguments : Reader ExprList
some_arguments =
    if_among argument_terminals (separated argument >>= (λ l. returns (exprs_of l)))
    (returns no_exprs)

unfoldable pub arguments : Reader ExprList
arguments =
    taken (sign (codes "(")) >> (some_arguments
    >>= (λ as'. taken (sign (codes ")")) >> returns as'))

-- a call of the function with the name that was read
abbrev pub call : SqlToken → Reader ActionData
call t = arguments >>= (λ as'. returns (call_action t.bytes as'))

-- the same, or what the name means alone
abbrev pub call_or : ActionData → SqlToken → Reader ActionData
call_or action t = if_next (sign (codes "(")) (call t) (returns action)

unfoldable pub doing : Reader ActionData
doing =
    if_next (keyword (codes "BREAK")) (word (codes "BREAK") >>= call_or break_action)
    (if_next (keyword (codes "CONTINUE")) (word (codes "CONTINUE") >>= call_or next_action)
    (taken (other_word (codes "BREAK" ∷ codes "CONTINUE" ∷ []))
    >>= (λ t. arguments >>= (λ as'. returns (call_action t.bytes as')))))

-- GOTO, GO TO, CALL and DO
unfoldable pub long_action : Reader ActionData
long_action =
    if_next (keyword (codes "GOTO"))
    (word (codes "GOTO") >> (taken any_word >>= (λ t. returns (goto_action t.bytes))))
    (if_next (keyword (codes "GO"))
    (word (codes "GO") >> (word (codes "TO")
    >> (taken any_word >>= (λ t. returns (goto_action t.bytes)))))
    (if_next (keyword (codes "CALL"))
    (word (codes "CALL") >> (taken any_word
    >>= (λ t. arguments >>= (λ as'. returns (call_action t.bytes as')))))
    (word (codes "DO") >> doing)))

unfoldable pub action : Reader ActionData
action =
    if_next (keyword (codes "CONTINUE")) (word (codes "CONTINUE") >> returns continue_action)
    (if_next (keyword (codes "SQLPRINT")) (word (codes "SQLPRINT") >> returns print_action)
    (if_next (keyword (codes "STOP")) (word (codes "STOP") >> returns stop_action) long_action))

unfoldable pub setting_handler : Reader EmbKindData
setting_handler =
    word (codes "WHENEVER") >> (condition >>= (λ c. action >>= (λ a. returns (whenever c a))))

unfoldable pub including : Reader EmbKindData
including = word (codes "INCLUDE") >> (word (codes "sqlca") >> returns include_sqlca)

-- ---- DECLARE, up to FOR

unfoldable pub some_mode : Reader (Unit {0})
some_mode =
    if_next (keyword (codes "INSENSITIVE")) (word (codes "INSENSITIVE") >> returns tt)
    (if_next (keyword (codes "ASENSITIVE")) (word (codes "ASENSITIVE") >> returns tt)
    (if_next (keyword (codes "SCROLL")) (word (codes "SCROLL") >> returns tt)
    (word (codes "NO") >> (word (codes "SCROLL") >> returns tt))))

abbrev pub mode_words : List Terminal
mode_words =
    keyword (codes "INSENSITIVE") ∷ keyword (codes "ASENSITIVE") ∷ keyword (codes "SCROLL")
    ∷ keyword (codes "NO") ∷ []

abbrev pub begins_mode : Tokens → Bool
begins_mode w = is_next_among alphabet mode_words w

unfoldable pub mode : Reader (Unit {0})
mode = if_among mode_words some_mode (returns tt)

abbrev pub with_or_without : Reader SqlToken
with_or_without = if_next (keyword (codes "WITH")) (word (codes "WITH")) (word (codes "WITHOUT"))

unfoldable pub some_hold : Reader (Unit {0})
some_hold = with_or_without >> (word (codes "HOLD") >> returns tt)

unfoldable pub hold : Reader (Unit {0})
hold = if_among (keyword (codes "WITH") ∷ keyword (codes "WITHOUT") ∷ []) some_hold (returns tt)

-- the name of the cursor
unfoldable pub cursor_head : Reader Text
cursor_head =
    word (codes "DECLARE") >> (taken any_word
    >>= (λ t. mode >> (word (codes "CURSOR") >> (hold >> (word (codes "FOR") >> returns t.bytes)))))
