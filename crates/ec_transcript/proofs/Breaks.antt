-- No line of a transcript holds a newline, so that a text gives its lines back.
use Rattle.std.proofs.Common.{◌≡◌, ◌∙◌, ◌++◌, ◌∷◌, [], ◌<◌, ◌≤◌, ◌+◌, ◌/◌, ◌%◌, ◌^◌, ◌==◌, ◌&&◌, ℕ, zero, suc, Bool, true, false, List, Option, Some, None, refl, ap, ap₂, arith, append_assoc, subst, cond, length, map, nat_lt}
use Rattle.std.specs.Prelude.{not, ℤ, pos, negsuc, IfSome}
use Rattle.std.specs.List.{flat_map}
use Rattle.std.specs.Fmt.{decimal, signed_decimal}
use Rattle.std.proofs.lemmas.Bool.Decides.{nat_tests, Decides-eqb}
use Rattle.ec_link.specs.declared.request.Request.{Request}
use Rattle.ec_link.specs.declared.request.Request.TheVariants.{Connect, Text, Prepare, Exec, Deallocate, Close}
use Rattle.ec_link.specs.declared.reply.Reply.{Reply}
use Rattle.ec_link.specs.declared.reply.Reply.TheVariants.{Connected, NoTarget, Rows, Done, Refused, Broken}
use Rattle.ec_link.specs.declared.reply.Tx.{Tx}
use Rattle.ec_link.specs.declared.reply.Tx.TheVariants.{Idle, Active, Failed}
use Rattle.ec_link.specs.declared.table.Col.{Col}
use Rattle.ec_link.specs.declared.logged.Logged.{Logged}
use Rattle.ec_transcript.specs.declared.version.Version.{Version}
use Rattle.ec_transcript.specs.declared.version.Version.TheVariants.{One, Two}
use Rattle.ec_transcript.specs.Clean.{is_clean}
use Rattle.ec_transcript.specs.Fitting.{CleanState, FitsCode, FitsCol, fitting}
use Rattle.ec_transcript.specs.Text.{Bytes, is_plain, hex, letter, quoted, optional, fields, numeral, header, slot_line, at_line, request_line, tx, noticed, count, col_line, row_line, rows_line, reply, exchange, lines_of, ended, text_of}
use Rattle.ec_transcript.specs.States.{Slots, Row, is_named, Each, FitsReply, FitsExchange, FitsTranscript}
use Rattle.ec_transcript.specs.Whole.{split, put_by}
use Rattle.ec_transcript.proofs.Numerals.{numeral_by_steps, numeral_decimal}

abbrev pub no_break : Bytes → Bool
no_break [] = true
no_break (b ∷ t) = not (b == 10) && no_break t

abbrev pub Unbroken : Bytes → Type 0
Unbroken t = no_break t ≡ true

pub both : (a b : Bool) → (a && b) ≡ true → (a ≡ true) × (b ≡ true)
both true b e = (refl, e)
both false b e = cc

-- ---- what holds no newline

joined : (xs ys : Bytes) → Unbroken xs → Unbroken ys → Unbroken (xs ++ ys)
joined [] ys e f = f
joined (x ∷ xs) ys e f =
    let two = both (not (x == 10)) (no_break xs) e in
    rw two.0 (joined xs ys two.1 f)

above : (b : ℕ) → 11 ≤ b → not (b == 10) ≡ true
above b le = let e : b == 10 ≡ false = grind (arith, nat_tests) in rw e refl

hex_above : (d : ℕ) → 11 ≤ hex d
hex_above d = go (nat_lt d 10)
  where
    go : (t : Bool) → 11 ≤ cond t (48 + d) (87 + d)
    go true = omega arith
    go false = omega arith

letter_unbroken : (b : ℕ) → Unbroken (letter b)
letter_unbroken b = go (is_plain b) refl
  where
    go : (p : Bool) → is_plain b ≡ p → Unbroken (cond p (b ∷ []) (92 ∷ hex (b / 16) ∷ hex (b % 16) ∷ []))
    go true e =
        let le : 11 ≤ b = grind (arith, nat_tests) in
        rw (above b le) refl
    go false e = rw (above (hex (b / 16)) (hex_above (b / 16)), above (hex (b % 16)) (hex_above (b % 16))) refl

letters_unbroken : (t : Bytes) → Unbroken (flat_map letter t)
letters_unbroken [] = refl
letters_unbroken (b ∷ t) = joined (letter b) (flat_map letter t) (letter_unbroken b) (letters_unbroken t)

quoted_unbroken : (t : Bytes) → Unbroken (quoted t)
quoted_unbroken t = joined (flat_map letter t) (34 ∷ []) (letters_unbroken t) refl

optional_unbroken : (f : Option Bytes) → Unbroken (optional f)
optional_unbroken None = refl
optional_unbroken (Some t) = quoted_unbroken t

fields_unbroken : (fs : List (Option Bytes)) → Unbroken (fields fs)
fields_unbroken [] = refl
fields_unbroken (f ∷ fs) = joined (optional f) (fields fs) (optional_unbroken f) (fields_unbroken fs)

numeral_unbroken : (n : ℕ) → Unbroken (numeral n)
numeral_unbroken = numeral_by_steps (λ n ds. Unbroken ds) (λ n small. rw (above (48 + n) (omega arith)) refl)
    (λ n ds high e. joined ds ((48 + n % 10) ∷ []) e (rw (above (48 + n % 10) (omega arith)) refl))

decimal_unbroken : (n : ℕ) → n < 2 ^ 64 → Unbroken (decimal n)
decimal_unbroken n fits = subst Unbroken (numeral_decimal n fits) (numeral_unbroken n)

code_unbroken : (z : ℤ) → FitsCode z → Unbroken (signed_decimal z)
code_unbroken (pos n) fits = decimal_unbroken n (omega arith)
code_unbroken (negsuc n) fits = decimal_unbroken (suc n) (omega arith)

noticed_unbroken : (notice : Bool) → Unbroken (noticed notice)
noticed_unbroken true = refl
noticed_unbroken false = refl

count_unbroken : (n : Option ℕ) → IfSome n (λ k. k < 2 ^ 64) → Unbroken (count n)
count_unbroken None fits = refl
count_unbroken (Some n) fits = decimal_unbroken n fits

tx_unbroken : (t : Tx) (rest : Bytes) → Unbroken rest → Unbroken (tx t ∷ rest)
tx_unbroken Idle rest e = e
tx_unbroken Active rest e = e
tx_unbroken Failed rest e = e

clean_above : (b : ℕ) → is_clean b ≡ true → 11 ≤ b
clean_above b e = grind (arith, nat_tests)

state_unbroken : (n : ℕ) (t : Bytes) → CleanState n t → Unbroken t
state_unbroken zero [] c = refl
state_unbroken zero (b ∷ t) c = elim c [ ]
state_unbroken (suc n) [] c = elim c [ ]
state_unbroken (suc n) (b ∷ t) c = rw (above b (clean_above b c.0)) (state_unbroken n t c.1)

-- ---- the lines

slot_unbroken : (s : Bool × Bytes) → Unbroken (slot_line s)
slot_unbroken (true, name) = quoted_unbroken name
slot_unbroken (false, name) = quoted_unbroken name

at_unbroken : (n : ℕ) (s : Option ℕ) → n ≤ 64 → is_named n s ≡ true → Unbroken (at_line s)
at_unbroken n None few e = refl
at_unbroken n (Some k) few e =
    let lt : k < n = grind (arith, nat_tests) in
    decimal_unbroken k (omega arith)

params_unbroken : (fs : List (Option Bytes)) → Unbroken (32 ∷ (numeral (length fs) ++ fields fs))
params_unbroken fs = joined (numeral (length fs)) (fields fs) (numeral_unbroken (length fs)) (fields_unbroken fs)

request_unbroken : (r : Request) → Unbroken (request_line r)
request_unbroken (Connect target user password) =
    joined (quoted target) (32 ∷ (optional user ++ 32 ∷ optional password)) (quoted_unbroken target)
    (joined (optional user) (32 ∷ optional password) (optional_unbroken user) (optional_unbroken password))
request_unbroken (Text text params) = joined (quoted text) (32 ∷ (numeral (length params) ++ fields params)) (quoted_unbroken text) (params_unbroken params)
request_unbroken (Prepare name text) = joined (quoted name) (32 ∷ quoted text) (quoted_unbroken name) (quoted_unbroken text)
request_unbroken (Exec name params) = joined (quoted name) (32 ∷ (numeral (length params) ++ fields params)) (quoted_unbroken name) (params_unbroken params)
request_unbroken (Deallocate name) = quoted_unbroken name
request_unbroken Close = refl

col_unbroken : (c : Col) → FitsCode c.code → Unbroken (col_line c)
col_unbroken c fits = joined (quoted c.name) (32 ∷ signed_decimal c.code) (quoted_unbroken c.name) (code_unbroken c.code fits)

row_unbroken : (row : Row) → Unbroken (row_line row)
row_unbroken row = fields_unbroken row

rows_unbroken : (t : Tx) (width height : ℕ) (notice : Bool) → Unbroken (rows_line t width height notice)
rows_unbroken t width height notice =
    tx_unbroken t (32 ∷ (numeral width ++ 32 ∷ (numeral height ++ noticed notice)))
    (joined (numeral width) (32 ∷ (numeral height ++ noticed notice)) (numeral_unbroken width)
    (joined (numeral height) (noticed notice) (numeral_unbroken height) (noticed_unbroken notice)))

cols_unbroken : (cs : List Col) → Each FitsCol cs → Each Unbroken (map col_line cs)
cols_unbroken [] fits = tt
cols_unbroken (c ∷ cs) fits = (col_unbroken c fits.0.1, cols_unbroken cs fits.1)

table_rows_unbroken : (rows : List Row) → Each Unbroken (map row_line rows)
table_rows_unbroken [] = tt
table_rows_unbroken (row ∷ rows) = (row_unbroken row, table_rows_unbroken rows)

each_joined : (xs ys : List Bytes) → Each Unbroken xs → Each Unbroken ys → Each Unbroken (xs ++ ys)
each_joined [] ys a b = b
each_joined (x ∷ xs) ys a b = (a.0, each_joined xs ys a.1 b)

reply_unbroken : (v : Version) (r : Reply) → FitsReply (fitting v) r → Each Unbroken (reply r)
reply_unbroken v Connected fits = (refl, tt)
reply_unbroken v NoTarget fits = (refl, tt)
reply_unbroken v Broken fits = (refl, tt)
reply_unbroken v (Done n t notice) fits =
    (tx_unbroken t (32 ∷ (count n ++ noticed notice)) (joined (count n) (noticed notice) (count_unbroken n fits.0) (noticed_unbroken notice)), tt)
reply_unbroken v (Refused state message t) fits = (
  tx_unbroken t (32 ∷ (state.0 ++ 32 ∷ quoted message)) (joined state.0 (32 ∷ quoted message) (state_unbroken 5 state.0 fits.0) (quoted_unbroken message)),
  tt,
)
reply_unbroken v (Rows table t notice) fits = (
  rows_unbroken t (length table.cols) (length table.rows) notice,
  each_joined (map col_line table.cols) (map row_line table.rows) (cols_unbroken table.cols fits.0.cols) (table_rows_unbroken table.rows),
)

slots_unbroken : (slots : Slots) → Each Unbroken (map slot_line slots)
slots_unbroken [] = tt
slots_unbroken (s ∷ slots) = (slot_unbroken s, slots_unbroken slots)

log_unbroken : (v : Version) (n : ℕ) (log : List Logged) → n ≤ 64 → Each (FitsExchange (fitting v) n) log → Each Unbroken (flat_map exchange log)
log_unbroken v n [] few fits = tt
log_unbroken v n (x ∷ log) few fits =
    each_joined (exchange x) (flat_map exchange log)
    (at_unbroken n x.slot few fits.0.named, (request_unbroken x.request, reply_unbroken v x.reply fits.0.reply))
    (log_unbroken v n log few fits.1)

pub lines_unbroken : (v : Version) (slots : Slots) (log : List Logged) → FitsTranscript (fitting v) slots log → Each Unbroken (lines_of v slots log)
lines_unbroken v slots log fits =
    (first v, each_joined (map slot_line slots) (flat_map exchange log) (slots_unbroken slots) (log_unbroken v (length slots) log fits.few fits.log))
  where
    first : (v : Version) → Unbroken (header v)
    first One = refl
    first Two = refl

-- ---- a text gives its lines back

abbrev pub put_line : Bytes → List Bytes × Bytes → List Bytes × Bytes
put_line line p = (line ∷ p.0, p.1)

split_line : (line rest : Bytes) → Unbroken line → split (line ++ 10 ∷ rest) ≡ put_line line (split rest)
split_line [] rest e = refl
split_line (b ∷ line) rest e = go (b == 10) e (split_line line rest)
  where
    go : (t : Bool) → (not t && no_break line) ≡ true → (Unbroken line → split (line ++ 10 ∷ rest) ≡ put_line line (split rest))
        → ◌≡◌ {A = List Bytes × Bytes} (cond t ([] ∷ (split (line ++ 10 ∷ rest)).0, (split (line ++ 10 ∷ rest)).1)
        (put_by b (split (line ++ 10 ∷ rest)).0 (split (line ++ 10 ∷ rest)).1)) (put_line (b ∷ line) (split rest))
    go true e more = cc
    go false e more = ap (λ (p : List Bytes × Bytes). put_by b p.0 p.1) (more e)

pub split_lines : (lines : List Bytes) → Each Unbroken lines → split (flat_map ended lines) ≡ (lines, [])
split_lines [] e = refl
split_lines (line ∷ lines) e =
    ap split (append_assoc line (10 ∷ []) (flat_map ended lines))
    ∙ split_line line (flat_map ended lines) e.0
    ∙ ap (put_line line) (split_lines lines e.1)

pub split_transcript : (v : Version) (slots : Slots) (log : List Logged) → FitsTranscript (fitting v) slots log
    → split (text_of v slots log) ≡ (lines_of v slots log, [])
split_transcript v slots log fits = split_lines (lines_of v slots log) (lines_unbroken v slots log fits)

-- a text is its lines, and what stands behind the last
pub split_text : (text : Bytes) → text ≡ flat_map ended (split text).0 ++ (split text).1
split_text [] = refl
split_text (b ∷ text) = go (b == 10) refl (split_text text)
  where
    put : (lines : List Bytes) (rest : Bytes) → text ≡ flat_map ended lines ++ rest → b ∷ text ≡ flat_map ended (put_by b lines rest).0 ++ (put_by b lines rest).1
    put [] rest e = ap (λ t. b ∷ t) e
    put (line ∷ lines) rest e = ap (λ t. b ∷ t) e

    go : (t : Bool) → b == 10 ≡ t → text ≡ flat_map ended (split text).0 ++ (split text).1
        → b ∷ text ≡ flat_map ended (cond {A = List Bytes × Bytes} t ([] ∷ (split text).0, (split text).1) (put_by b (split text).0 (split text).1)).0
        ++ (cond {A = List Bytes × Bytes} t ([] ∷ (split text).0, (split text).1) (put_by b (split text).0 (split text).1)).1
    go true is more =
        let same : b ≡ 10 = (Decides-eqb b 10).0 is in
        ap₂ (λ c t. c ∷ t) same more
    go false is more = put (split text).0 (split text).1 more

-- what stands behind the last line holds no newline
pub rest_unbroken : (text : Bytes) → Unbroken (split text).1
rest_unbroken [] = refl
rest_unbroken (b ∷ text) = go (b == 10) refl (rest_unbroken text)
  where
    put : (lines : List Bytes) (rest : Bytes) → b == 10 ≡ false → Unbroken rest → Unbroken (put_by b lines rest).1
    put [] rest is e = rw is e
    put (line ∷ lines) rest is e = e

    go : (t : Bool) → b == 10 ≡ t → Unbroken (split text).1
        → Unbroken (cond {A = List Bytes × Bytes} t ([] ∷ (split text).0, (split text).1) (put_by b (split text).0 (split text).1)).1
    go true is more = more
    go false is more = put (split text).0 (split text).1 is more

-- a line with its newline isn't what stands behind the last line
pub ended_breaks : (line : Bytes) → no_break (ended line) ≡ false
ended_breaks [] = refl
ended_breaks (b ∷ line) = go (not (b == 10)) (ended_breaks line)
  where
    go : (t : Bool) → no_break (ended line) ≡ false → (t && no_break (ended line)) ≡ false
    go true e = e
    go false e = refl
