-- Fields and lines as they are read. A field is a value and the bytes behind it.
use Rattle.std.specs.Prelude.{◌≡◌, ℕ, zero, suc, ◌+◌, ◌-◌, ◌*◌, ◌==◌, ◌&&◌, ◌<◌, ⊤, nat_le, nat_eq, if◌then◌else◌, List, [], ◌∷◌, ◌++◌, length, codes, Option, Some, None, Result, Ok, Err}
use Rattle.std.specs.Cmp.Lexicographic.{pointwise}
use Rattle.ec_link.specs.declared.request.Request.{Request}
use Rattle.ec_link.specs.declared.request.Request.TheVariants.{Connect, Text, Prepare, Exec, Deallocate, Close}
use Rattle.ec_transcript.specs.Text.{Bytes, is_plain, numeral}
use Rattle.ec_transcript.specs.declared.stop.LineStop.{LineStop}
use Rattle.ec_transcript.specs.declared.stop.LineStop.TheVariants as stops
use Rattle.ec_transcript.specs.declared.reading.Place.{Place}
use Rattle.ec_transcript.specs.declared.reading.Place.TheVariants.{Between, Escaped, Half}
use Rattle.ec_transcript.specs.declared.reading.Move.{Move}
use Rattle.ec_transcript.specs.declared.reading.Move.TheVariants.{Closes, Says, Moves, Fails}

infixl 10 ◌>>=◌
abbrev pub ◌>>=◌ : {A B : Type 0} → Option A → (A → Option B) → Option B
(Some x) >>= f = f x
None >>= f = None

-- What a function returned, seen by view, is what reading gives, unless memory ran out.
abbrev pub FailsAs : {Y : Type 0} → LineStop → Option Y → Type 0
FailsAs stops.OutOfMemory read = Unit {0}
FailsAs stops.Bad read = read ≡ None

abbrev pub Gives : {X Y : Type 0} → (X → Y) → Result X LineStop → Option Y → Type 0
Gives view (Ok x) read = read ≡ Some (view x)
Gives view (Err e) read = FailsAs e read

-- what stands behind that front of a text, if it has it
abbrev pub behind : Bytes → Bytes → Option Bytes
behind [] text = Some text
behind (b ∷ front) [] = None
behind (b ∷ front) (c ∷ text) = if b == c then behind front text else None

-- ---- texts

-- the worth of a hexadecimal digit in lower case
abbrev pub worth : ℕ → Option ℕ
worth b = if nat_le 48 b && nat_le b 57 then Some (b - 48)
    else (if nat_le 97 b && nat_le b 102 then Some (b - 87) else None)

-- behind the first digit of a letter there is a digit
abbrev pub IsPlace : Place → Type 0
IsPlace (Half v) = v < 16
IsPlace _ = ⊤

abbrev pub MovesOn : Move → Type 0
MovesOn (Moves p) = IsPlace p
MovesOn _ = ⊤

abbrev pub half_move : Option ℕ → Move
half_move None = Fails
half_move (Some v) = Moves (Half v)

abbrev pub whole_move : ℕ → Option ℕ → Move
whole_move v None = Fails
whole_move v (Some w) = if is_plain (16 * v + w) then Fails else Says (16 * v + w)

abbrev pub move : Place → ℕ → Move
move Between b = if b == 34 then Closes
    else (if b == 92 then Moves Escaped else (if is_plain b then Says b else Fails))
move Escaped b = half_move (worth b)
move (Half v) b = whole_move v (worth b)

abbrev pub with_letter : ℕ → Option (Bytes × Bytes) → Option (Bytes × Bytes)
with_letter b None = None
with_letter b (Some p) = Some (b ∷ p.0, p.1)

abbrev pub letters_by : Move → Bytes → (Place → Option (Bytes × Bytes)) → Option (Bytes × Bytes)
letters_by Closes rest next = Some ([], rest)
letters_by (Says b) rest next = with_letter b (next Between)
letters_by (Moves p) rest next = next p
letters_by Fails rest next = None

-- a text up to its closing quote, and what stands behind that
abbrev pub letters_at : Place → Bytes → Option (Bytes × Bytes)
letters_at p [] = None
letters_at p (b ∷ rest) = letters_by (move p b) rest (λ q. letters_at q rest)

abbrev pub quoted_at : Bytes → Option (Bytes × Bytes)
quoted_at [] = None
quoted_at (b ∷ rest) = if b == 34 then letters_at Between rest else None

abbrev pub as_some : Option (Bytes × Bytes) → Option (Option Bytes × Bytes)
as_some None = None
as_some (Some p) = Some (Some p.0, p.1)

-- a text, or `-`
abbrev pub optional_at : Bytes → Option (Option Bytes × Bytes)
optional_at [] = None
optional_at (b ∷ rest) = if b == 45 then Some (None, rest) else as_some (quoted_at (b ∷ rest))

-- what stands behind a blank
abbrev pub blank_at : Bytes → Option Bytes
blank_at [] = None
blank_at (b ∷ rest) = if b == 32 then Some rest else None

-- what a text has in front of what was read
abbrev pub with_front : Bytes → Option (Bytes × Bytes) → Option (Bytes × Bytes)
with_front front None = None
with_front front (Some p) = Some (front ++ p.0, p.1)

-- the end of a line
abbrev pub end_at : {A : Type 0} → A × Bytes → Option A
end_at (a, []) = Some a
end_at (a, b ∷ rest) = None

-- ---- words and fields

-- the bytes up to a blank, and what stands from there on
abbrev pub word_at : Bytes → Bytes × Bytes
word_at [] = ([], [])
word_at (b ∷ rest) = if b == 32 then ([], b ∷ rest) else (b ∷ (word_at rest).0, (word_at rest).1)

-- the fields up to the end of a line, each with a blank before it; a field has at least one byte, so the length of the
-- line is enough as `left`
unfoldable pub fields_at : ℕ → Bytes → Option (List (Option Bytes))
fields_at left [] = Some []
fields_at zero (b ∷ rest) = None
fields_at (suc left) (b ∷ rest) = do
  first ← blank_at (b ∷ rest)
  field ← optional_at first
  others ← fields_at left field.1
  Some (field.0 ∷ others)

abbrev pub with_fields : List (Option Bytes) → Option (List (Option Bytes)) → Option (List (Option Bytes))
with_fields front None = None
with_fields front (Some more) = Some (front ++ more)

-- their number, and they
unfoldable pub params_at : Bytes → Option (List (Option Bytes))
params_at text = do
  first ← blank_at text
  all ← fields_at (length (word_at first).1) (word_at first).1
  if pointwise nat_eq (word_at first).0 (numeral (length all)) then Some all else None

-- ---- requests

unfoldable pub connect_at : Bytes → Option Request
connect_at text = do
  target ← quoted_at text
  second ← blank_at target.1
  user ← optional_at second
  third ← blank_at user.1
  password ← optional_at third
  end_at (Connect target.0 user.0 password.0, password.1)

unfoldable pub text_at : Bytes → Option Request
text_at text = do
  first ← quoted_at text
  params ← params_at first.1
  Some (Text first.0 params)

unfoldable pub prepare_at : Bytes → Option Request
prepare_at text = do
  name ← quoted_at text
  second ← blank_at name.1
  statement ← quoted_at second
  end_at (Prepare name.0 statement.0, statement.1)

unfoldable pub exec_at : Bytes → Option Request
exec_at text = do
  name ← quoted_at text
  params ← params_at name.1
  Some (Exec name.0 params)

unfoldable pub deallocate_at : Bytes → Option Request
deallocate_at text = do
  name ← quoted_at text
  end_at (Deallocate name.0, name.1)

abbrev pub close_at : Bytes → Option Request
close_at text = end_at (Close, text)

-- the form of the first of the fronts that the text has
abbrev pub tried : {A : Type 0} → Option Bytes → (Bytes → Option A) → Option A → Option A
tried None read next = next
tried (Some rest) read next = read rest

abbrev pub first_of : {A : Type 0} → List (Bytes × (Bytes → Option A)) → Bytes → Option A
first_of [] text = None
first_of (form ∷ more) text = tried (behind form.0 text) form.1 (first_of more text)

abbrev pub requests : List (Bytes × (Bytes → Option Request))
requests = (codes "> connect ", connect_at) ∷ (codes "> text ", text_at)
    ∷ (codes "> prepare ", prepare_at) ∷ (codes "> exec ", exec_at)
    ∷ (codes "> deallocate ", deallocate_at) ∷ (codes "> close", close_at) ∷ []

-- the request of a line
abbrev pub request_of : Bytes → Option Request
request_of line = first_of requests line
