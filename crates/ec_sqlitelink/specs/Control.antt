-- Transaction control: the statements by which PostgreSQL's programs begin and end transactions, by its grammar
-- (`TransactionStmt`), but for those of transactions in two phases.
--
--     BEGIN [WORK | TRANSACTION] [mode [[,] mode]..]
--     START TRANSACTION [mode [[,] mode]..]
--     {COMMIT | END | ROLLBACK | ABORT} [WORK | TRANSACTION] [AND [NO] CHAIN]
--     SAVEPOINT name
--     ROLLBACK [WORK | TRANSACTION] TO [SAVEPOINT] name
--     RELEASE [SAVEPOINT] name
--
-- with mode one of
--
--     ISOLATION LEVEL {SERIALIZABLE | REPEATABLE READ | READ COMMITTED | READ UNCOMMITTED}
--     READ {ONLY | WRITE}
--     [NOT] DEFERRABLE
--
-- Letters are of any case, and `;` may stand at the end, as often as one likes.
use Rattle.std.specs.Prelude.{ℕ, Bool, true, false, ◌&&◌, ◌||◌, not, if◌then◌else◌, List, [], ◌∷◌, codes, Option, Some, None, option_map}
use Rattle.std.specs.Char.{is_ascii_digit}
use Rattle.ec_sqlitelink.specs.Marks.{is_word_byte}
use Rattle.ec_sqlitelink.specs.Words.{Word, plain, quoted, is, takes, others, behind_word, words_of}
use Rattle.ec_sqlitelink.specs.declared.control.Due.{Due}
use Rattle.ec_sqlitelink.specs.declared.control.Due.TheVariants.{Mode, ModeOrEnd, CommaOrEnd, Level, Isolation, Committed, Read, Access, Deferrable}

-- what is asked of transactions
pub data Control : Type 0 where
  begin : Control
  commit : Bool → Control
  rollback : Bool → Control
  savepoint : List ℕ → Control
  rollback_to : List ℕ → Control
  release : List ℕ → Control

-- nothing is left but `;`
abbrev pub is_end : List Word → Bool
is_end [] = true
is_end (w ∷ words) = is (codes ";") w && is_end words

-- the words behind WORK or TRANSACTION, if they begin with one of them
abbrev pub behind_work : List Word → List Word
behind_work words =
    if takes (codes "WORK") words then others words else behind_word (codes "TRANSACTION") words

-- what may stand behind the word that begins a mode
abbrev pub mode_begun : Word → Option Due
mode_begun w =
    if is (codes "ISOLATION") w then Some Level
    else (if is (codes "READ") w then Some Access
    else (if is (codes "NOT") w then Some Deferrable
    else (if is (codes "DEFERRABLE") w then Some CommaOrEnd else None)))

abbrev pub isolation_begun : Word → Option Due
isolation_begun w =
    if is (codes "READ") w then Some Committed
    else (if is (codes "REPEATABLE") w then Some Read
    else (if is (codes "SERIALIZABLE") w then Some CommaOrEnd else None))

-- that, behind a word which has to be so
abbrev pub then_due : Bool → Due → Option Due
then_due true due = Some due
then_due false due = None

-- what may stand behind a word of a list of modes, where that was due, or none where the word may not stand there
abbrev pub step : Due → Word → Option Due
step Mode w = mode_begun w
step ModeOrEnd w = mode_begun w
step CommaOrEnd w = if is (codes ",") w then Some Mode else mode_begun w
step Level w = then_due (is (codes "LEVEL") w) Isolation
step Isolation w = isolation_begun w
step Committed w = then_due (is (codes "COMMITTED") w || is (codes "UNCOMMITTED") w) CommaOrEnd
step Read w = then_due (is (codes "READ") w) CommaOrEnd
step Access w = then_due (is (codes "ONLY") w || is (codes "WRITE") w) CommaOrEnd
step Deferrable w = then_due (is (codes "DEFERRABLE") w) CommaOrEnd

-- a list of modes may end there
abbrev pub may_end : Due → Bool
may_end Mode = false
may_end ModeOrEnd = true
may_end CommaOrEnd = true
may_end Level = false
may_end Isolation = false
may_end Committed = false
may_end Read = false
may_end Access = false
may_end Deferrable = false

-- the words are the rest of a list of modes, up to the end
abbrev pub are_modes : Option Due → List Word → Bool
are_modes None words = false
are_modes (Some due) [] = may_end due
are_modes (Some due) (w ∷ words) =
    if is_end (w ∷ words) then may_end due else are_modes (step due w) words

abbrev pub begun : List Word → Option Control
begun words = if are_modes (Some ModeOrEnd) words then Some begin else None

-- whether a transaction is chained, by the words up to the end
abbrev pub chain_word : Bool → List Word → Option Bool
chain_word chain words =
    if takes (codes "CHAIN") words && is_end (others words) then Some chain else None

abbrev pub chain_choice : List Word → Option Bool
chain_choice words =
    if takes (codes "NO") words then chain_word false (others words) else chain_word true words

abbrev pub chain_at : List Word → Option Bool
chain_at words =
    if is_end words then Some false
    else (if takes (codes "AND") words then chain_choice (others words) else None)

-- the name that a word is: in quotes, or a word that begins with no digit
abbrev pub name_of : Word → Option (List ℕ)
name_of (quoted text) = Some text
name_of (plain []) = None
name_of (plain (b ∷ text)) =
    if is_word_byte b && not (is_ascii_digit b) then Some (b ∷ text) else None

-- a name and the end
abbrev pub name_at : List Word → Option (List ℕ)
name_at [] = None
name_at (w ∷ words) = if is_end words then name_of w else None

-- the first of two that is there
abbrev pub either : {A : Type 0} → Option A → Option A → Option A
either None other = other
either (Some a) other = Some a

-- SAVEPOINT may stand before the name. Alone it is the name.
abbrev pub point_at : List Word → Option (List ℕ)
point_at words =
    either (if takes (codes "SAVEPOINT") words then name_at (others words) else None) (name_at words)

-- the rest of a ROLLBACK
abbrev pub rolled_back : List Word → Option Control
rolled_back words =
    if takes (codes "TO") words then option_map rollback_to (point_at (others words))
    else option_map rollback (chain_at words)

-- the rest of a START
abbrev pub started : List Word → Option Control
started words = if takes (codes "TRANSACTION") words then begun (others words) else None

-- what the words ask for, if they are one of the forms
abbrev pub control_of : List Word → Option Control
control_of words =
    if takes (codes "BEGIN") words then begun (behind_work (others words))
    else (if takes (codes "START") words
    then started (others words)
    else (if takes (codes "COMMIT") words || takes (codes "END") words
    then option_map commit (chain_at (behind_work (others words)))
    else (if takes (codes "ABORT") words
    then option_map rollback (chain_at (behind_work (others words)))
    else (if takes (codes "ROLLBACK") words then rolled_back (behind_work (others words))
    else (if takes (codes "SAVEPOINT") words then option_map savepoint (name_at (others words))
    else (if takes (codes "RELEASE") words then option_map release (point_at (others words))
    else None))))))

-- what a text asks for
abbrev pub control_in : List ℕ → Option Control
control_in text = control_of (words_of text)
