-- Statements for the server, read token by token: the same as their definition, in the steps that code takes.
use Rattle.std.specs.Prelude.{ℕ, ◌-◌, Bool, true, false, ◌&&◌, ◌||◌, ◌==◌, List, [], ◌∷◌, ◌++◌, length, codes, Option, Some, None}
use Rattle.ec_ctypes.specs.trees.Embedded.{HostData, TextArgData, word_arg, OutsData, no_outs, listed_outs, area_outs, PartData, bytes_part, host_part, EmbKindData, server_text, trans, declare_cursor}
use Rattle.ec_ctypes.specs.trees.Exprs.{ExprData, identifier}
use Rattle.ec_embedded.specs.shapes.ReadShapes.{done, stuck, and_then}
use Rattle.ec_language.specs.Letters.{Text}
use Rattle.ec_language.specs.SqlTokens.{SqlToken}
use Rattle.ec_embedded.specs.References.{unquoted, text_of_host}
use Rattle.ec_embedded.specs.ServerText.{Tokens, begins_host, begins_indicator, begins_area, begins_into, begins_more, is_member, is_arrow, is_index, depth_behind, blank, bytes_in}
use Rattle.ec_embedded.specs.Terminals.{Begins, input, reference, keyword, any_word, glued_word, sign, colon, plain_quote}
use Rattle.ec_references.specs.Readers.{Reader, returns, ◌>>=◌, ◌>>◌, taken, if_next, turns_from, suffix_behind}

-- ---- references, as long as they can be

abbrev pub begins_suffix : Tokens → Bool
begins_suffix [] = false
begins_suffix (a ∷ []) = false
begins_suffix (a ∷ b ∷ []) = elim (is_member a b) [ true ↦ true | false ↦ is_arrow a b ]
begins_suffix (a ∷ b ∷ c ∷ w) =
    elim (is_member a b) [
      | true ↦ true
      | false ↦ elim (is_arrow a b)
          [ true ↦ true | false ↦ is_index a b c ]
    ]

unfoldable pub long_suffixes : ExprData → Reader ExprData
long_suffixes e = λ n w. turns_from begins_suffix suffix_behind (length w) e n w

unfoldable pub long_reference : Begins → Reader ExprData
long_reference b =
    taken (colon b) >> (taken glued_word >>= (λ t. long_suffixes (identifier t.bytes)))

-- by whether a host begins here
abbrev pub if_host : {A : Type 0} → Reader A → Reader A → Reader A
if_host p q = λ n w. elim (begins_host w) [ true ↦ p n w | false ↦ q n w ]

unfoldable pub long_indicator : Reader (Option ExprData)
long_indicator =
    if_host (long_reference reference >>= (λ i. returns (Some i)))
    (λ n w. elim (begins_indicator w) [
      | true ↦ (taken (keyword (codes "INDICATOR")) >>
          (long_reference reference >>= (λ i. returns (Some i)))) n w
      | false ↦ done None n w
    ])

-- whether an indicator begins here
abbrev pub has_indicator : Tokens → Bool
has_indicator w = begins_host w || begins_indicator w

unfoldable pub long_host : Begins → Reader HostData
long_host b =
    long_reference b >>= (λ e. long_indicator
    >>= (λ i. returns (record { value = e; indicator = i })))

unfoldable pub long_text : Reader TextArgData
long_text =
    if_next any_word (taken any_word >>= (λ t. returns (word_arg t.bytes)))
    (if_next plain_quote (taken plain_quote >>= (λ t. returns (word_arg (unquoted t.bytes))))
    (long_host reference >>= (λ h. returns (text_of_host h))))

-- ---- the list of an INTO

abbrev pub further_host : List HostData → Reader (List HostData)
further_host hs =
    taken (sign (codes ",")) >> (long_host reference >>= (λ h. returns (hs ++ h ∷ [])))

unfoldable pub further_hosts : List HostData → Reader (List HostData)
further_hosts hs = λ n w. turns_from begins_more further_host (length w) hs n w

abbrev pub long_area : Reader TextArgData
long_area = taken (keyword (codes "SQL")) >> (taken (keyword (codes "DESCRIPTOR")) >> long_text)

unfoldable pub outputs : Reader OutsData
outputs = λ n w. elim (begins_area w) [
  | true ↦ (long_area >>= (λ a. returns (area_outs a))) n w
  | false ↦ (long_host reference >>=
      (λ h. further_hosts (h ∷ []) >>= (λ hs. returns (listed_outs hs)))) n w
]

-- ---- what is written so far

-- parts that are done, bytes that may go on, whether nothing was written yet, whether a gap was passed, and the list of the INTO, if one was cut
pub record Writing : Type 0 where
  pub parts : List PartData
  pub bytes : Text
  pub first : Bool
  pub gap : Bool
  pub outs : Option OutsData

abbrev pub nothing_written : Writing
nothing_written = record { parts = []; bytes = []; first = true; gap = false; outs = None }

abbrev pub with_bytes : List PartData → Text → List PartData
with_bytes ps [] = ps
with_bytes ps (b ∷ bs) = ps ++ bytes_part (b ∷ bs) ∷ []

abbrev pub with_host_part : List PartData → HostData → List PartData
with_host_part ps h = ps ++ host_part h ∷ []

-- with a blank where a gap stands, but at the start
abbrev pub spaced : Text → Bool → Bool → Text
spaced b first gap = b ++ blank first gap

abbrev pub with_token : Writing → SqlToken → Writing
with_token s t =
    record {
      parts = s.parts;
      bytes = s.bytes ++ (blank s.first (t.gap || s.gap) ++ t.bytes);
      first = false;
      gap = false;
      outs = s.outs;
    }

abbrev pub with_host : Writing → Bool → HostData → Writing
with_host s gap h =
    record {
      parts = with_bytes s.parts (s.bytes ++ blank s.first (gap || s.gap)) ++ host_part h
          ∷ [];
      bytes = [];
      first = false;
      gap = false;
      outs = s.outs;
    }

abbrev pub with_into : Writing → OutsData → Writing
with_into s o =
    record { parts = s.parts; bytes = s.bytes; first = s.first; gap = true; outs = Some o }

-- the parts and the list, where nothing follows
abbrev pub parts_of : Writing → List PartData
parts_of s = with_bytes s.parts s.bytes

abbrev pub outs_or_none : Option OutsData → OutsData
outs_or_none None = no_outs
outs_or_none (Some o) = o

-- ---- cuts

-- what is written, the parentheses that are open, and whether an INTO list may come
pub record Cutting : Type 0 where
  pub writing : Writing
  pub depth : ℕ
  pub free : Bool

abbrev pub is_into : ℕ → Tokens → Bool
is_into depth w = depth == 0 && begins_into w

abbrev pub into_cut : Cutting → Reader Cutting
into_cut s =
    taken (keyword (codes "INTO")) >> (outputs
    >>= (λ o. returns (record { writing = with_into s.writing o; depth = s.depth; free = false })))

abbrev pub with_host_cut : Cutting → Bool → HostData → Cutting
with_host_cut s gap h =
    record { writing = with_host s.writing gap h; depth = s.depth; free = s.free }

abbrev pub host_cut : Cutting → Bool → Reader Cutting
host_cut s gap =
    long_host input >>= (λ h. returns
    (record { writing = with_host s.writing gap h; depth = s.depth; free = s.free }))

abbrev pub token_cut : Cutting → SqlToken → Cutting
token_cut s t =
    record { writing = with_token s.writing t; depth = depth_behind s.depth t; free = s.free }

unfoldable pub one_cut : Cutting → Reader Cutting
one_cut s n [] = done s n []
one_cut s n (t ∷ w) = elim (is_into s.depth (t ∷ w)) [
  | true ↦ elim s.free [ true ↦ into_cut s n (t ∷ w) | false ↦ stuck (t ∷ w) ]
  | false ↦ elim (begins_host (t ∷ w)) [
    | true ↦ host_cut s t.gap n (t ∷ w)
    | false ↦ done (token_cut s t) n w
  ]
]

abbrev pub goes_on : Tokens → Bool
goes_on [] = false
goes_on (t ∷ w) = true

-- so many cuts at most
abbrev pub cuts_within : ℕ → Cutting → Reader Cutting
cuts_within k s = turns_from goes_on one_cut k s

-- all cuts
unfoldable pub all_cuts : Cutting → Reader Cutting
all_cuts s = λ n w. cuts_within (length w) s n w

-- nothing is written, and an INTO list may come or not
abbrev pub cutting_from : Bool → Cutting
cutting_from free = record { writing = nothing_written; depth = 0; free = free }

-- ---- statements

abbrev pub sent_by : Cutting → EmbKindData
sent_by s = server_text (parts_of s.writing) (outs_or_none s.writing.outs)

unfoldable pub sending : Reader EmbKindData
sending = all_cuts (cutting_from true) >>= (λ s. returns (sent_by s))

-- ---- transaction control: no hosts

unfoldable pub one_plain : Cutting → Reader Cutting
one_plain s n [] = done s n []
one_plain s n (t ∷ w) =
    elim (begins_host (t ∷ w)) [ true ↦ stuck (t ∷ w) | false ↦ done (token_cut s t) n w ]

abbrev pub plain_within : ℕ → Cutting → Reader Cutting
plain_within k s = turns_from goes_on one_plain k s

unfoldable pub all_plain : Cutting → Reader Cutting
all_plain s = λ n w. plain_within (length w) s n w

abbrev pub controlled_by : Cutting → EmbKindData
controlled_by s = trans (bytes_in (parts_of s.writing))

unfoldable pub controlling : Reader EmbKindData
controlling = all_plain (cutting_from true) >>= (λ s. returns (controlled_by s))

-- ---- DECLARE, from its first token

abbrev pub declared_by : Text → Cutting → EmbKindData
declared_by name s = declare_cursor name (parts_of s.writing) None

-- for a statement
unfoldable pub declaring : Text → Reader EmbKindData
declaring name = all_cuts (cutting_from false) >>= (λ s. returns (declared_by name s))

-- for a prepared statement: the text up to its name, and a blank
abbrev pub prepared_by : Text → Text → Cutting → EmbKindData
prepared_by name prepared s =
    declare_cursor name (bytes_part (bytes_in (parts_of s.writing) ++ codes " ") ∷ [])
    (Some prepared)

unfoldable pub declaring_prepared : Text → Text → Reader EmbKindData
declaring_prepared name prepared =
    λ n w. and_then (cuts_within (length w - 1) (cutting_from false) n w)
    (λ s m r. done (prepared_by name prepared s) m [])
