-- Statements that pass to the server (PostgreSQL manual, "Running SQL Commands"): any tokens. References to host variables stand for parameters, and the list of an INTO is cut out of the text.
use Rattle.std.specs.Prelude.{ℕ, zero, suc, ◌-◌, Bool, true, false, not, ◌&&◌, ◌||◌, ◌==◌, List, [], ◌∷◌, ◌++◌, drop, length, codes, Some, None, if◌then◌else◌}
use Rattle.ec_embedded.specs.shapes.ReadShapes.{Outcome, done, stuck, over_limit, and_then}
use Rattle.ec_language.specs.Letters.{Text}
use Rattle.ec_language.specs.SqlTokens.{SqlToken}
use Rattle.ec_embedded.specs.Terminals.{Counts, step_by, Begins, input, reference, suffix, is, keyword, any_word, glued_word, sign, suffix_sign, glued_sign, glued_number, whole_number, plain_quote}
use Rattle.ec_ctypes.specs.trees.Embedded.{HostData, TextArgData, word_arg, OutsData, no_outs, listed_outs, area_outs, PartData, bytes_part, host_part, EmbKindData, server_text, trans}
use Rattle.ec_ctypes.specs.trees.Exprs.{ExprData, identifier, index, member, arrow}
use Rattle.ec_embedded.specs.References.{unquoted, text_of_host, decimal_constant}

abbrev pub Tokens : Type 0
Tokens = List SqlToken

abbrev pub Reading : Type 0 → Type 0
Reading A = Outcome A SqlToken Counts

-- ---- references, as long as they can be

-- a `:` directly before a word
abbrev pub begins_host : Tokens → Bool
begins_host (a ∷ b ∷ w) = is (sign (codes ":")) a && is glued_word b
begins_host _ = false

abbrev pub is_member : SqlToken → SqlToken → Bool
is_member a b = is (suffix_sign (codes ".")) a && is glued_word b

abbrev pub is_arrow : SqlToken → SqlToken → Bool
is_arrow a b = is (suffix_sign (codes "->")) a && is glued_word b

-- a number of any value
abbrev pub is_index : SqlToken → SqlToken → SqlToken → Bool
is_index a b c = is (suffix_sign (codes "[")) a
    && (is glued_word b || (is whole_number b && not b.gap)) && is (glued_sign (codes "]")) c

-- a number from 2^63 on is no index: it has no type of a decimal constant
abbrev pub is_place : SqlToken → Bool
is_place b = is glued_word b || is glued_number b

abbrev pub place_at : SqlToken → ExprData
place_at b = if is glued_word b then identifier b.bytes else decimal_constant b.bytes

-- A suffix is counted; the limit is over_limit at its first token.
abbrev pub counted_suffix : Counts → Tokens → (Counts → Reading ExprData) → Reading ExprData
counted_suffix n w f = elim (step_by suffix n) [ None ↦ over_limit w | Some m ↦ f m ]

abbrev pub suffixes : Counts → ExprData → Tokens → Reading ExprData
suffixes n e [] = done e n []
suffixes n e (a ∷ []) = done e n (a ∷ [])
suffixes n e (a ∷ b ∷ []) = elim (is_member a b) [
  | true ↦ counted_suffix n (a ∷ b ∷ []) (λ m. done (member e b.bytes) m [])
  | false ↦ elim (is_arrow a b) [
    | true ↦ counted_suffix n (a ∷ b ∷ [])
        (λ m. done (arrow e b.bytes) m [])
    | false ↦ done e n (a ∷ b ∷ [])
  ]
]
suffixes n e (a ∷ b ∷ c ∷ w) = elim (is_member a b) [
  | true ↦ counted_suffix n (a ∷ b ∷ c ∷ w) (λ m. suffixes m (member e b.bytes) (c ∷ w))
  | false ↦ elim (is_arrow a b) [
    | true ↦ counted_suffix n (a ∷ b ∷ c ∷ w) (λ m. suffixes m (arrow e b.bytes) (c ∷ w))
    | false ↦ elim (is_index a b c) [
      | true ↦ counted_suffix n (a ∷ b ∷ c ∷ w) (λ m. elim (is_place b) [
        | true ↦ suffixes m (index e (place_at b)) w
        | false ↦ stuck (b ∷ c ∷ w)
      ])
      | false ↦ done e n (a ∷ b ∷ c ∷ w)
    ]
  ]
]

-- the reference that begins here, which may be an input
unfoldable pub reference_at : Begins → Counts → Tokens → Reading ExprData
reference_at b n (a ∷ c ∷ w) =
    elim (step_by b n) [
      | None ↦ over_limit (a ∷ c ∷ w)
      | Some m ↦ suffixes m (identifier c.bytes) w
    ]
reference_at b n w = stuck w

-- the word INDICATOR before a reference
abbrev pub begins_indicator : Tokens → Bool
begins_indicator (a ∷ w) = is (keyword (codes "INDICATOR")) a && begins_host w
begins_indicator [] = false

abbrev pub with_indicator : ExprData → Counts → Tokens → Reading HostData
with_indicator e n w = elim (begins_host w) [
  | true ↦ and_then (reference_at reference n w)
      (λ i m r. done (record { value = e; indicator = Some i }) m r)
  | false ↦ elim (begins_indicator w) [
    | true ↦ and_then (reference_at reference n (drop 1 w))
        (λ i m r. done (record { value = e; indicator = Some i }) m r)
    | false ↦ done (record { value = e; indicator = None }) n w
  ]
]

-- the host that begins here, with its indicator
unfoldable pub host_at : Begins → Counts → Tokens → Reading HostData
host_at b n w = and_then (reference_at b n w) with_indicator

-- ---- the list of an INTO

abbrev pub begins_area : Tokens → Bool
begins_area (a ∷ b ∷ w) = is (keyword (codes "SQL")) a && is (keyword (codes "DESCRIPTOR")) b
begins_area _ = false

abbrev pub begins_into : Tokens → Bool
begins_into (a ∷ w) = is (keyword (codes "INTO")) a && (begins_host w || begins_area w)
begins_into [] = false

-- a comma that a host follows
abbrev pub begins_more : Tokens → Bool
begins_more (a ∷ w) = is (sign (codes ",")) a && begins_host w
begins_more [] = false

-- so many more hosts at most
abbrev pub more_hosts : ℕ → Counts → Tokens → Reading (List HostData)
more_hosts zero n w = done [] n w
more_hosts (suc k) n w = elim (begins_more w) [
  | true ↦ and_then (host_at reference n (drop 1 w))
      (λ h m r. and_then (more_hosts k m r) (λ hs i q. done (h ∷ hs) i q))
  | false ↦ done [] n w
]

-- Where no host begins. A `:` begins one, so the token behind it is the one with which no host goes on.
abbrev pub no_host : Tokens → Reading TextArgData
no_host [] = stuck []
no_host (t ∷ w) = elim (is (sign (codes ":")) t) [ true ↦ stuck w | false ↦ stuck (t ∷ w) ]

-- the name of a descriptor: a word, a quote or a host
abbrev pub text_at : Counts → Tokens → Reading TextArgData
text_at n [] = stuck []
text_at n (t ∷ w) = elim (is any_word t) [
  | true ↦ done (word_arg t.bytes) n w
  | false ↦ elim (is plain_quote t) [
    | true ↦ done (word_arg (unquoted t.bytes)) n w
    | false ↦ elim (begins_host (t ∷ w)) [
      | true ↦ and_then (host_at reference n (t ∷ w))
          (λ h m r. done (text_of_host h) m r)
      | false ↦ no_host (t ∷ w)
    ]
  ]
]

-- what stands behind the INTO
unfoldable pub into_list : Counts → Tokens → Reading OutsData
into_list n w = elim (begins_area w) [
  | true ↦ and_then (text_at n (drop 2 w)) (λ a m r. done (area_outs a) m r)
  | false ↦ and_then (host_at reference n w)
      (λ h m r. and_then (more_hosts (length r) m r) (λ hs i q. done (listed_outs (h ∷ hs)) i q))
]

-- ---- a statement, cut into tokens, hosts and the list of an INTO

pub data Cut : Type 0 where
  token : SqlToken → Cut
  -- whether a gap stands before it
  host : Bool → HostData → Cut
  into : OutsData → Cut

-- the parentheses that are open behind a token
abbrev pub depth_behind : ℕ → SqlToken → ℕ
depth_behind d t = if is (sign (codes "(")) t then suc d
    else if is (sign (codes ")")) t then d - 1 else d

abbrev pub cons_cut : Cut → Reading (List Cut) → Reading (List Cut)
cons_cut c o = and_then o (λ cs n w. done (c ∷ cs) n w)

-- With so many parentheses open, an INTO list is cut where one may come, and another is a fault. So many turns at most.
abbrev pub cuts : ℕ → ℕ → Bool → Counts → Tokens → Reading (List Cut)
cuts zero d free n w = done [] n w
cuts (suc k) d free n [] = done [] n []
cuts (suc k) d free n (t ∷ w) = elim (d == 0 && begins_into (t ∷ w)) [
  | true ↦ elim free [
    | true ↦ and_then (into_list n w)
        (λ o m r. cons_cut (into o) (cuts k d false m r))
    | false ↦ stuck (t ∷ w)
  ]
  | false ↦ elim (begins_host (t ∷ w)) [
    | true ↦
        and_then (host_at input n (t ∷ w)) (λ h m r. cons_cut (host t.gap h) (cuts k d free m r))
    | false ↦ cons_cut (token t) (cuts k (depth_behind d t) free n w)
  ]
]

-- ---- the text that is sent

-- one blank where a gap stands, but at the start
abbrev pub blank : Bool → Bool → Text
blank first gap = if gap && not first then 32 ∷ [] else []

-- neighbouring bytes are one part
abbrev pub put : Text → List PartData → List PartData
put [] ps = ps
put (b ∷ bs) [] = bytes_part (b ∷ bs) ∷ []
put (b ∷ bs) (bytes_part c ∷ ps) = bytes_part ((b ∷ bs) ++ c) ∷ ps
put (b ∷ bs) (host_part h ∷ ps) = bytes_part (b ∷ bs) ∷ host_part h ∷ ps

abbrev pub parts : Bool → Bool → List Cut → List PartData
parts first gap [] = []
parts first gap (token t ∷ cs) = put (blank first (t.gap || gap) ++ t.bytes) (parts false false cs)
parts first gap (host g h ∷ cs) = put (blank first (g || gap)) (host_part h ∷ parts false false cs)
parts first gap (into o ∷ cs) = parts first true cs

abbrev pub outs_in : List Cut → OutsData
outs_in [] = no_outs
outs_in (into o ∷ cs) = o
outs_in (c ∷ cs) = outs_in cs

-- ---- the statements

unfoldable pub server_at : Counts → Tokens → Reading EmbKindData
server_at n w = and_then (cuts (length w) 0 true n w)
    (λ cs m r. done (server_text (parts true false cs) (outs_in cs)) m r)

-- transaction control: no hosts
abbrev pub plain_cuts : Tokens → Counts → Reading (List Cut)
plain_cuts [] n = done [] n []
plain_cuts (t ∷ w) n =
    elim (begins_host (t ∷ w)) [
      | true ↦ stuck (t ∷ w)
      | false ↦ cons_cut (token t) (plain_cuts w n)
    ]

abbrev pub bytes_in : List PartData → Text
bytes_in (bytes_part b ∷ ps) = b
bytes_in _ = []

unfoldable pub transaction_at : Counts → Tokens → Reading EmbKindData
transaction_at n w =
    and_then (plain_cuts w n) (λ cs m r. done (trans (bytes_in (parts true false cs))) m r)
