-- Tokens taken one after the other.
use Rattle.std.specs.Prelude.{◌≡◌, ℕ, ◌+◌, Bool, true, false, ◌&&◌, nat_le, ◌==◌, List, [], ◌∷◌, ◌++◌, length, take, drop, max, ◌-◌, ◌^◌, ◌≤◌, codes, ⊤, Option, Some, None, option_map, Result, Ok, Err, if◌then◌else◌}
use Rattle.std.specs.List.{concat}
use Rattle.ec_base.specs.declared.fault.FaultKind.{FaultKind}
use Rattle.ec_base.specs.declared.fault.FaultKind.TheVariants.{F4, F9}
use Rattle.ec_base.specs.declared.fault.LimitKind.TheVariants.{L2}
use Rattle.ec_base.specs.declared.stop.Stop.{Stop}
use Rattle.ec_base.specs.declared.stop.Stop.TheVariants.{Refused, Limit}
use Rattle.ec_ctypes.specs.declared.text.piece.PieceKind.{PieceKind}
use Rattle.ec_ctypes.specs.declared.text.piece.PieceKind.TheVariants.{C, Emb, InPlace, SectionStart, SectionEnd}
use Rattle.ec_ctypes.specs.declared.text.piece.Piece.{Piece}
use Rattle.ec_ctypes.specs.declared.text.token.Token.{Token}
use Rattle.ec_ctypes.specs.trees.Tokens.{TokData, string_token, emb_token, section_start, section_end, end_token, TokenData}
use Rattle.ec_ctypes.specs.views.Tokens.{tokens_view}
use Rattle.ec_language.specs.Letters.{Text}
use Rattle.ec_language.specs.Line.{newlines}
use Rattle.ec_language.specs.SqlTokens.{StatementUnits, first_bad_line, is_executable}
use Rattle.ec_language.specs.Lexemes.{is_fresh_after}
use Rattle.ec_language.specs.Tokens.{Part, line_behind, is_include_of, max_tokens, token, bad_byte, lines_before, statements_behind}
use Rattle.ec_language.specs.ReadTokens.{ReadItem, ReadParts, c_parts, read_item, statement_units, declaration_text, embedded_parts, is_c, piece_parts}
use Rattle.ec_clex.specs.declared.lexer.Lexer.{Lexer}
use Rattle.ec_clex.specs.Items.{Told, step_view, item_of}

-- the tokens that are taken, and whether the two lines at the head of written C may still be passed over
pub record Taken : Type 0 where
  pub head : Bool
  pub done : List TokenData

-- the same, with the line and whether nothing but blanks stands before on it
pub record Mid : Type 0 where
  pub taken : Taken
  pub line : ℕ
  pub fresh : Bool

abbrev pub taken_of : Lexer → Taken
taken_of l = record { head = l.head; done = tokens_view l.tokens }

abbrev pub mid_of : Lexer → Mid
mid_of l = record { taken = taken_of l; line = l.here.line; fresh = l.here.fresh }

-- what taking tokens doesn't change
abbrev pub Keeps : Lexer → Lexer → Type 0
Keeps old new = (new.here.written ≡ old.here.written) × (new.statements ≡ old.statements)

-- ---- a token

-- two strings are one
abbrev pub join_tok : TokData → TokData → Option TokData
join_tok (string_token a) (string_token b) = Some (string_token (a ++ b))
join_tok a b = None

-- with a string at the end that is one with the last token
abbrev pub join_last : List TokenData → TokData → Option (List TokenData)
join_last [] tok = None
join_last (t ∷ []) tok =
    option_map (λ joined. record { tok = joined; line = t.line; place = t.place } ∷ [])
    (join_tok t.tok tok)
join_last (t ∷ u ∷ ts) tok = option_map (λ others. t ∷ others) (join_last (u ∷ ts) tok)

abbrev pub is_head : List TokenData → Bool
is_head [] = false
is_head (t ∷ []) = false
is_head (t ∷ u ∷ []) =
    is_include_of (codes "#include <ecpglib.h>") (Ok t.tok)
    && is_include_of (codes "#include <sqlca.h>") (Ok u.tok)
is_head (t ∷ u ∷ v ∷ ts) = false

-- past the two lines at the head, once they are taken
abbrev pub past_head : Bool → List TokenData → Taken
past_head head done =
    if head && length done == 2
    then record { head = false; done = if is_head done then [] else done }
    else record { head = head; done = done }

abbrev pub added : Taken → ℕ → TokData → Result Taken Stop
added s line tok =
    if nat_le max_tokens (length s.done) then Err (Limit L2)
    else Ok (past_head s.head (s.done ++ token tok line (length s.done) ∷ []))

-- a token on this line
abbrev pub pushed : Taken → ℕ → TokData → Result Taken Stop
pushed s line tok = elim (join_last s.done tok) [
  | Some done ↦ Ok (record { head = s.head; done = done })
  | None ↦ added s line tok
]

-- a token on this line, or the fault there
abbrev pub fed : Taken → ℕ → Result TokData FaultKind → Result Taken Stop
fed s line (Ok tok) = pushed s line tok
fed s line (Err kind) = Err (Refused kind (record { 0 = line }))

-- a token, if it is one
abbrev pub pushed_some : Taken → ℕ → Option (Result TokData FaultKind) → Result Taken Stop
pushed_some s line None = Ok s
pushed_some s line (Some tok) = fed s line tok

-- ---- parts

abbrev pub and_then : {A B : Type 0} → Result A Stop → (A → Result B Stop) → Result B Stop
and_then (Ok a) next = next a
and_then (Err stop) next = Err stop

abbrev pub fed_all : Taken → List Part → Result Taken Stop
fed_all s [] = Ok s
fed_all s (p ∷ parts) = and_then (fed s p.line p.tok) (λ next. fed_all next parts)

-- where the parts end
abbrev pub at_end : ℕ → Bool → Result Taken Stop → Result Mid Stop
at_end line fresh (Ok s) = Ok (record { taken = s; line = line; fresh = fresh })
at_end line fresh (Err stop) = Err stop

-- behind these parts, which have these bytes
abbrev pub parts_rest : Mid → Text → ReadParts → Result Mid Stop
parts_rest m bytes found =
    at_end found.last (is_fresh_after m.fresh bytes) (fed_all m.taken found.parts)

-- behind C text
abbrev pub c_rest : Bool → Mid → Text → Result Mid Stop
c_rest written m text = parts_rest m text (c_parts written m.line m.fresh text)

-- on this line, behind these bytes
abbrev pub mid_behind : Taken → ℕ → Bool → Text → Mid
mid_behind s line fresh bytes =
    record { taken = s; line = line; fresh = is_fresh_after fresh bytes }

-- behind one item of C text
abbrev pub moved : Mid → ReadItem → Taken → Mid × Text
moved m it s = (mid_behind s (line_behind m.line it.bytes it.step) m.fresh it.bytes, it.rest)

abbrev pub took : Mid → ReadItem → Result (Mid × Text) Stop
took m it = and_then (pushed_some m.taken m.line it.tok) (λ s. Ok (moved m it s))

-- what stands first, and is taken
abbrev pub item_taken : Bool → Mid → Text → Result (Mid × Text) Stop
item_taken written m text =
    and_then (item_of (bad_byte m.fresh text) m.line (read_item written m.fresh text))
    (λ it. took m it)

-- an item, as far as lines are counted
abbrev pub passed_item : Text → ℕ → ℕ → Option ℕ → ReadItem
passed_item text at end number = record {
  bytes = take (end - at) (drop at text);
  tok = None;
  step = step_view number;
  rest = drop end text;
}

-- behind a blank
abbrev pub behind_blank : Mid → ℕ → Mid
behind_blank m b = mid_behind m.taken (m.line + newlines (b ∷ [])) m.fresh (b ∷ [])

-- a line that a number in its place doesn't pass
abbrev pub line_bound : ℕ → Option ℕ → ℕ
line_bound line None = line
line_bound line (Some number) = max line number

-- behind a piece that is not C text, of a source
abbrev pub embedded_rest : PieceKind → ℕ → Mid → Text → Result Mid Stop
embedded_rest kind statements m bytes =
    parts_rest m bytes (embedded_parts kind m.line statements bytes)

-- behind a mark
abbrev pub section_rest : TokData → Mid → Text → Result Mid Stop
section_rest tok m bytes =
    at_end (m.line + newlines bytes) (is_fresh_after m.fresh bytes) (pushed m.taken m.line tok)

-- behind a declaration after `EXEC SQL`: its C text, and the mark at its end
abbrev pub closed_rest : Bool → Mid → Result Mid Stop
closed_rest fresh m =
    and_then (pushed m.taken m.line section_end)
    (λ s. Ok (record { taken = s; line = m.line; fresh = fresh }))

abbrev pub inner_rest : Bool → Bool → Mid → Text → Result Mid Stop
inner_rest written fresh m text = and_then (c_rest written m text) (λ n. closed_rest fresh n)

-- before the C text of a declaration after `EXEC SQL`
abbrev pub entered_behind : Mid → Text → Taken → Mid
entered_behind m bytes s = record {
  taken = s;
  line = m.line + lines_before bytes (declaration_text bytes);
  fresh = false;
}

abbrev pub declared_rest : Mid → Text → Result Mid Stop
declared_rest m bytes =
    and_then (pushed m.taken m.line section_start) (λ s.
    inner_rest false (is_fresh_after m.fresh bytes) (entered_behind m bytes s)
    (declaration_text bytes))

-- behind an embedded statement, with the line of a byte in it that begins no token
abbrev pub stated : Mid → Text → Option ℕ → Taken → Result Mid Stop
stated m bytes None s = Ok (mid_behind s (m.line + newlines bytes) m.fresh bytes)
stated m bytes (Some line) s = Err (Refused F4 (record { 0 = line }))

-- the line of that byte, if there is one among these units
abbrev pub bad_line_of : Mid → Text → List Text → Option ℕ
bad_line_of m bytes units = first_bad_line (m.line + lines_before bytes (concat units)) units

abbrev pub stated_rest : ℕ → Mid → Text → Result Mid Stop
stated_rest statements m bytes =
    and_then (pushed m.taken m.line (emb_token statements (is_executable (statement_units bytes))))
    (λ s. stated m bytes (bad_line_of m bytes (statement_units bytes)) s)

-- a piece that is not C text, of a source
abbrev pub embedded_told : PieceKind → ℕ → Mid → Text → Result Mid Stop
embedded_told C statements m bytes = Ok m
embedded_told Emb statements m bytes = stated_rest statements m bytes
embedded_told InPlace statements m bytes = declared_rest m bytes
embedded_told SectionStart statements m bytes = section_rest section_start m bytes
embedded_told SectionEnd statements m bytes = section_rest section_end m bytes

-- a piece, with so many statements before it
abbrev pub piece_told : Bool → ℕ → Mid → Piece → Result Mid Stop
piece_told written statements m p = elim (is_c p.kind) [
  | true ↦ c_rest written m p.bytes
  | false ↦ elim written [
    | true ↦ Err (Refused F9 (record { 0 = m.line }))
    | false ↦ embedded_told p.kind statements m p.bytes
  ]
]

-- a statement has units
abbrev pub HasUnits : PieceKind → Text → Type 0
HasUnits Emb bytes = StatementUnits bytes (statement_units bytes)
HasUnits _ bytes = ⊤

-- behind a piece, with so many statements before it
abbrev pub piece_rest : Bool → ℕ → Mid → Piece → Result Mid Stop
piece_rest written statements m p =
    parts_rest m p.bytes (piece_parts written m.line m.fresh statements p)

-- the tokens, with the end
abbrev pub with_end_token : ℕ → Taken → List TokenData
with_end_token line s = s.done ++ token end_token line (length s.done) ∷ []

abbrev pub finished : Result Mid Stop → Result (List TokenData) Stop
finished (Ok m) = Ok (with_end_token m.line m.taken)
finished (Err stop) = Err stop

-- behind pieces
abbrev pub pieces_told : Bool → ℕ → Mid → List Piece → Result Mid Stop
pieces_told written statements m [] = Ok m
pieces_told written statements m (p ∷ ps) =
    and_then (piece_told written statements m p)
    (λ next. pieces_told written (statements_behind statements p.kind) next ps)

-- before the first piece
abbrev pub start : Bool → Mid
start written = record { taken = record { head = written; done = [] }; line = 1; fresh = true }

-- how many bytes the pieces have
abbrev pub total : List Piece → ℕ
total [] = 0
total (p ∷ ps) = length p.bytes + total ps

-- each statement has units
abbrev pub AllUnits : Bool → List Piece → Type 0
AllUnits written [] = ⊤
AllUnits written (p ∷ ps) = (written ≡ false → HasUnits p.kind p.bytes) × AllUnits written ps

-- ---- what the steps of the lexer say of their answers

-- The answer is that these tokens are taken, or why they aren't.
abbrev pub TellsTaken : {A : Type 0} → Lexer → Result A Stop → Result Taken Stop → Type 0
TellsTaken l answer taken = Told (λ _. taken_of l) answer taken

abbrev pub TellsMid : {A : Type 0} → Lexer → Result A Stop → Result Mid Stop → Type 0
TellsMid l answer mid = Told (λ _. mid_of l) answer mid

-- The same, with the text from the index that is answered on.
abbrev pub TellsMidAt : Text → Lexer → Result ℕ Stop → Result (Mid × Text) Stop → Type 0
TellsMidAt text l answer mid = Told (λ end. (mid_of l, drop end text)) answer mid

-- with the bytes of a string behind the last token, if that is one too
abbrev pub joined_last : List Token → Text → Option (List TokenData)
joined_last tokens more = join_last (tokens_view tokens) (string_token more)

-- with no more than so many lines passed, of which a number may have stood for the first
abbrev pub IsEarly : Lexer → Lexer → ℕ → Type 0
IsEarly old new count = new.here.line ≤ max old.here.line (10 ^ 9) + count

abbrev pub taken_at : Mid → Text → ℕ → ℕ → Option ℕ → Mid
taken_at m text at end number = (moved m (passed_item text at end number) m.taken).0

-- before the text of a declaration
abbrev pub entered : Lexer → Text → Mid
entered l front = record { taken = taken_of l; line = l.here.line + newlines front; fresh = false }
