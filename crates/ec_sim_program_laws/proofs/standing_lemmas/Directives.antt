-- What is known of the statement of a piece: it has the line of the piece, and where its token says that it isn't executed, it is a directive.
use Rattle.std.proofs.Common.{◌≡◌, ℕ, ◌+◌, ◌-◌, Bool, true, false, not, ◌&&◌, ◌||◌, ◌⊎◌, inl, inr, List, [], ◌∷◌, ◌++◌, map, length, refl, sym, ap, ◌∙◌, subst, Option, Some, None, is_some, Ok, Err}
use Rattle.std.specs.Prelude.{codes, slice_get, ◌==◌, nat_le, nat_eq, take, drop, if◌then◌else◌}
use Rattle.std.specs.List.{concat}
use Rattle.std.proofs.lemmas.Bool.{false≢true}
use Rattle.ec_base.specs.declared.line.Line.{Line}
use Rattle.ec_ctypes.specs.declared.text.piece.Piece.{Piece}
use Rattle.ec_ctypes.specs.trees.Embedded.{TextArgData, bytes_part, EmbKindData, whenever, include_sqlca, declare_cursor, EmbData}
use Rattle.ec_ctypes.specs.trees.Tokens.{emb_token}
use Rattle.ec_embedded.specs.shapes.Shapes.{Judged, tree, dead, short, over}
use Rattle.ec_embedded.specs.shapes.ReadShapes.{done, stopped, and_then}
use Rattle.ec_embedded.specs.declared.shapes.failure.Failure.TheVariants as failure
use Rattle.ec_language.specs.Letters.{Text, underscore, dollar, is_upper, is_lower, is_digit, is_letter, is_sql_word_byte, begins_with, each, lower, same_text, same_word}
use Rattle.ec_language.specs.Line.{newlines}
use Rattle.ec_language.specs.Pieces.{solid}
use Rattle.ec_language.specs.SqlText.{is_sql_word, is_sql_number, is_sql_quoted, is_sql_gap, is_escaped, closes_escaped}
use Rattle.ec_language.specs.SqlTokens as sql
use Rattle.ec_language.specs.SqlTokens.{SqlClass, SqlToken, StatementUnits, sql_class, are_one_mark, sql_tokens_from, first_bad_line, is_executable}
use Rattle.ec_language.specs.Tokens.{lines_before, refused_at, SqlTokens}
use Rattle.ec_language.proofs.Classes.{either}
use Rattle.ec_language.proofs.Ends.{both}
use Rattle.ec_language.proofs.Marks.{same_text_is}
use Rattle.ec_language.proofs.PieceParts.{statement_units_complete}
use Rattle.ec_embedded.specs.Answers.{found_by, found_without, IsCursor, headless, headed, form_of, IsKind, empty, formed, without_at, cursor, cursor_behind_at, transaction, server, IsSaid, left_out, taken, IsAnswer, alone, behind_at, nameless, placed, end_line, StatementOrStop}
use Rattle.ec_embedded.specs.Directives.{whenever_form, cursor_name}
use Rattle.ec_embedded.specs.Findings.{Found, kind, stops, passes, found_in, StatementData, Answer, answer_of}
use Rattle.ec_embedded.specs.LeftOut.{begin_with, is_first}
use Rattle.ec_embedded.specs.References.{Of}
use Rattle.ec_embedded.specs.ServerText.{Tokens, Reading, Cut, cuts, parts, bytes_in}
use Rattle.ec_embedded.specs.Statements.{Made, Entry, entries, chosen, prepared_in, declared_for}
use Rattle.ec_embedded.specs.Terminals.{is, keyword, passes as pass, on_words, among, sort_by, Counts}
use Rattle.ec_typing_defs.specs.statement_parts.Handlers.{is_directive}
use Rattle.ec_sim_program_laws.proofs.standing_lemmas.Trees.{TokenIsThere}

-- ---- words

-- a text that is this word, without regard to the case of letters
abbrev IsWord : Text → Text → Type 0
IsWord word a = map lower a ≡ map lower word

-- one of the words with which directives begin
abbrev BeginsOne : Text → Type 0
BeginsOne a = IsWord (codes "WHENEVER") a ⊎ (IsWord (codes "INCLUDE") a ⊎ IsWord (codes "DECLARE") a)

begins_one : (us : List Text) (a : Text) → sql.is_directive (a ∷ us) ≡ true → BeginsOne a
begins_one us a h = elim (either (same_word a (codes "WHENEVER") || same_word a (codes "INCLUDE")) (same_word a (codes "DECLARE")) h) [
  | inl k ↦ elim (either (same_word a (codes "WHENEVER")) (same_word a (codes "INCLUDE")) k) [
    | inl j ↦ inl (same_text_is (map lower a) (map lower (codes "WHENEVER")) j)
    | inr j ↦ inr (inl (same_text_is (map lower a) (map lower (codes "INCLUDE")) j))
  ]
  | inr k ↦ inr (inr (same_text_is (map lower a) (map lower (codes "DECLARE")) k))
]

letter_is : (b : ℕ) → is_lower (lower b) ≡ true → is_letter b ≡ true
letter_is b h = go (is_upper b) h
  where
    go : (x : Bool) → is_lower (if x then b + 32 else b) ≡ true → (x || is_lower b) ≡ true
    go true k = refl
    go false k = k

word_bytes : (a : Text) → each is_lower (map lower a) ≡ true → each is_sql_word_byte a ≡ true
word_bytes [] h = refl
word_bytes (b ∷ a) h =
    let p = both (is_lower (lower b)) (each is_lower (map lower a)) h in
    let q = letter_is b p.0 in
    let more = word_bytes a p.1 in
    λ i. (((q i || b == underscore) || nat_le 128 b) || is_digit b || b == dollar) && more i

-- What stands there is one token, a word.
record IsWordAlone (a : Text) : Type 0 where
  plain : is_escaped a ≡ false
  unjoined : (b : Text) → are_one_mark a b ≡ false
  class : sql_class a ≡ sql.word

no_more : (x y z : Bool) → y ≡ false → (x && (y && z)) ≡ false
no_more true y z e = ap (λ b. b && z) e
no_more false y z e = refl

neither_mark : (x y z w : Bool) → ((x && false) && z || (y && false) && w) ≡ false
neither_mark true true z w = refl
neither_mark true false z w = refl
neither_mark false true z w = refl
neither_mark false false z w = refl

word_alone : (first second : ℕ) (more a : Text) → (first == 101) ≡ false → each is_lower (first ∷ second ∷ more) ≡ true → map lower a ≡ first ∷ second ∷ more → IsWordAlone a
word_alone first second more [] n h e = absurd (cc (e))
word_alone first second more (b ∷ []) n h e = absurd (cc (e))
word_alone first second more (b ∷ c ∷ a) n h e = record { plain = plain; unjoined = unjoined; class = class }
  where
    head : lower b ≡ first
    head = cc (e)

    letters : each is_lower (map lower (b ∷ c ∷ a)) ≡ true
    letters = ap (each is_lower) e ∙ h

    no_e : same_word (b ∷ []) (codes "E") ≡ false
    no_e = ap (λ x. (x == 101) && true) head ∙ ap (λ x. x && true) n

    plain : is_escaped (b ∷ c ∷ a) ≡ false
    plain = ap (λ x. x && begins_with (codes "'") (c ∷ a) && closes_escaped (drop 1 (c ∷ a))) no_e

    unjoined : (d : Text) → are_one_mark (b ∷ c ∷ a) d ≡ false
    unjoined d = neither_mark (nat_eq b 58) (nat_eq b 45) (same_text d (codes ":")) (same_text d (codes ">"))

    is_word : is_sql_word (b ∷ c ∷ a) ≡ true
    is_word =
        let p = both (is_lower (lower b)) (each is_lower (map lower (c ∷ a))) letters in
        let q = letter_is b p.0 in
        let rest = word_bytes (c ∷ a) p.1 in
        λ i. ((q i || b == underscore) || nat_le 128 b) && rest i

    class : sql_class (b ∷ c ∷ a) ≡ sql.word
    class = ap (λ x. if x then sql.word else (if is_sql_number (b ∷ c ∷ a) then sql.number else (if is_sql_quoted (b ∷ c ∷ a) then sql.quoted else sql.mark))) is_word

one_alone : (a : Text) → BeginsOne a → IsWordAlone a
one_alone a (inl e) = word_alone 119 104 (codes "enever") a refl refl e
one_alone a (inr (inl e)) = word_alone 105 110 (codes "clude") a refl refl e
one_alone a (inr (inr e)) = word_alone 100 101 (codes "clare") a refl refl e

-- ---- the first token

abbrev BeginsDirective : Tokens → Type 0
BeginsDirective [] = ⊥
BeginsDirective (t ∷ w) = (t.class ≡ sql.word) × BeginsOne t.bytes

first_token : (gap : Bool) (line : ℕ) (us : List Text) → sql.is_directive (solid us) ≡ true → BeginsDirective (sql_tokens_from gap line us)
first_token gap line [] h = absurd (false≢true h)
first_token gap line (a ∷ []) h = go (is_sql_gap a) h
  where
    plain : (y : Bool) → y ≡ false → BeginsOne a → sql_class a ≡ sql.word → BeginsDirective (elim y [
      | true ↦ record { class = sql.word; bytes = take 1 a; gap = gap; line = line } ∷ record { class = sql.quoted; bytes = drop 1 a; gap = false; line = line } ∷ []
      | false ↦ record { class = sql_class a; bytes = a; gap = gap; line = line } ∷ []
    ])
    plain true e b c = absurd (false≢true (sym e))
    plain false e b c = (c, b)

    go : (x : Bool) → sql.is_directive (if not x then a ∷ [] else []) ≡ true → BeginsDirective (elim x [
      | true ↦ []
      | false ↦ elim (is_escaped a) [
        | true ↦ record { class = sql.word; bytes = take 1 a; gap = gap; line = line } ∷ record { class = sql.quoted; bytes = drop 1 a; gap = false; line = line } ∷ []
        | false ↦ record { class = sql_class a; bytes = a; gap = gap; line = line } ∷ []
      ]
    ])
    go true k = absurd (false≢true k)
    go false k = let o = begins_one [] a k in let w = one_alone a o in plain (is_escaped a) w.plain o w.class
first_token gap line (a ∷ b ∷ us) h = go (is_sql_gap a) h (first_token true (line + newlines a) (b ∷ us))
  where
    plain : (y z : Bool) → y ≡ false → z ≡ false → BeginsOne a → sql_class a ≡ sql.word → BeginsDirective (elim y [
      | true ↦ record { class = sql.word; bytes = take 1 a; gap = gap; line = line } ∷ record { class = sql.quoted; bytes = drop 1 a; gap = false; line = line } ∷ sql_tokens_from false (line + newlines a) (b ∷ us)
      | false ↦ elim z [
        | true ↦ record { class = sql.mark; bytes = a ++ b; gap = gap; line = line } ∷ sql_tokens_from false line us
        | false ↦ record { class = sql_class a; bytes = a; gap = gap; line = line } ∷ sql_tokens_from false (line + newlines a) (b ∷ us)
      ]
    ])
    plain true z e f o c = absurd (false≢true (sym e))
    plain false true e f o c = absurd (false≢true (sym f))
    plain false false e f o c = (c, o)

    go : (x : Bool) → sql.is_directive (if not x then a ∷ solid (b ∷ us) else solid (b ∷ us)) ≡ true
        → (sql.is_directive (solid (b ∷ us)) ≡ true → BeginsDirective (sql_tokens_from true (line + newlines a) (b ∷ us)))
        → BeginsDirective (elim x [
          | true ↦ sql_tokens_from true (line + newlines a) (b ∷ us)
          | false ↦ elim (is_escaped a) [
            | true ↦ record { class = sql.word; bytes = take 1 a; gap = gap; line = line } ∷ record { class = sql.quoted; bytes = drop 1 a; gap = false; line = line } ∷ sql_tokens_from false (line + newlines a) (b ∷ us)
            | false ↦ elim (are_one_mark a b) [
              | true ↦ record { class = sql.mark; bytes = a ++ b; gap = gap; line = line } ∷ sql_tokens_from false line us
              | false ↦ record { class = sql_class a; bytes = a; gap = gap; line = line } ∷ sql_tokens_from false (line + newlines a) (b ∷ us)
            ]
          ]
        ])
    go true k more = more k
    go false k more = let o = begins_one (solid (b ∷ us)) a k in let w = one_alone a o in plain (is_escaped a) (are_one_mark a b) w.plain (w.unjoined b) o w.class

statement_first : (line : ℕ) (bytes : Text) (tokens : Tokens) (units : List Text) → SqlTokens line bytes tokens → StatementUnits bytes units → is_executable units ≡ false → BeginsDirective tokens
statement_first line bytes tokens units (others, o, e) u x =
    let same : units ≡ others = sym (statement_units_complete bytes units u) ∙ statement_units_complete bytes others o in
    go (first_bad_line (line + lines_before bytes (concat others)) others) e (subst (λ us. is_executable us ≡ false) same x)
  where
    directive : (b : Bool) → not b ≡ false → b ≡ true
    directive true e = refl
    directive false e = absurd (false≢true (sym e))

    go : (x : Option ℕ) → Ok tokens ≡ refused_at x (sql_tokens_from false (line + lines_before bytes (concat others)) others) → is_executable others ≡ false → BeginsDirective tokens
    go None e k = let same : sql_tokens_from false (line + lines_before bytes (concat others)) others ≡ tokens = cc in subst BeginsDirective same (first_token false (line + lines_before bytes (concat others)) others (directive (sql.is_directive (solid others)) k))
    go (Some l) e k = absurd (cc)

-- ---- the form that the first word decides

-- whether a word in small letters is this keyword
abbrev is_small : Text → Text → Bool
is_small small k = elim (same_text (map lower k) small) [ true ↦ true | false ↦ false ]

keyword_is : (k : Text) (t : SqlToken) → t.class ≡ sql.word → is (keyword k) t ≡ is_small (map lower t.bytes) k
keyword_is k t e = ap (λ (c : SqlClass). pass (on_words (among (k ∷ [])) (sort_by c t.bytes) t.gap) t.bytes) e

abbrev begins_small : Text → List Text → Tokens → Bool
begins_small small [] w = true
begins_small small (k ∷ ks) w = elim (is_small small k) [ true ↦ begin_with ks w | false ↦ false ]

abbrev chosen_small : Text → List Entry → Tokens → Option Entry
chosen_small small [] w = None
chosen_small small (e ∷ es) w = elim (begins_small small e.words w) [ true ↦ Some e | false ↦ chosen_small small es w ]

begins_is : (ks : List Text) (t : SqlToken) (w : Tokens) → t.class ≡ sql.word → begin_with ks (t ∷ w) ≡ begins_small (map lower t.bytes) ks w
begins_is [] t w e = refl
begins_is (k ∷ ks) t w e = ap (λ b. elim b as (λ _. Bool) [ true ↦ begin_with ks w | false ↦ false ]) (keyword_is k t e)

chosen_is : (es : List Entry) (t : SqlToken) (w : Tokens) → t.class ≡ sql.word → chosen es (t ∷ w) ≡ chosen_small (map lower t.bytes) es w
chosen_is [] t w e = refl
chosen_is (x ∷ es) t w e = λ i. elim (begins_is x.words t w e i) as (λ _. Option Entry) [ true ↦ Some x | false ↦ chosen_is es t w e i ]

-- a kind of statement that isn't executed
abbrev is_directive_kind : EmbKindData → Bool
is_directive_kind k = elim k [
  | whenever c a ↦ true
  | include_sqlca ↦ true
  | declare_cursor c ps p ↦ true
  | _ ↦ false
]

abbrev MakesDirectives : Made → Type 0
MakesDirectives m = (v : Of m.form) → is_directive_kind (m.make v) ≡ true

-- The first words decide the form of a directive, or none, and the first is DECLARE.
abbrev DecidesForm : Tokens → Type 0
DecidesForm w = (e : Entry) × (chosen entries w ≡ Some e) × MakesDirectives e.alone

abbrev Decides : Tokens → Type 0
Decides w = DecidesForm w ⊎ ((chosen entries w ≡ None) × (is_first (codes "DECLARE") w ≡ true))

decides : (t : SqlToken) (w : Tokens) → BeginsDirective (t ∷ w) → Decides (t ∷ w)
unfolding whenever_form
decides t w (c, inl e) = inl (_, chosen_is entries t w c ∙ ap (λ m. chosen_small m entries w) e, λ v. refl)
decides t w (c, inr (inl e)) = inl (_, chosen_is entries t w c ∙ ap (λ m. chosen_small m entries w) e, λ v. refl)
decides t w (c, inr (inr e)) = inr (chosen_is entries t w c ∙ ap (λ m. chosen_small m entries w) e, keyword_is (codes "DECLARE") t c ∙ ap (λ m. is_small m (codes "DECLARE")) e)

no_at : (t : SqlToken) (w : Tokens) → BeginsDirective (t ∷ w) → is_first (codes "AT") (t ∷ w) ≡ false
no_at t w (c, inl e) = keyword_is (codes "AT") t c ∙ ap (λ m. is_small m (codes "AT")) e
no_at t w (c, inr (inl e)) = keyword_is (codes "AT") t c ∙ ap (λ m. is_small m (codes "AT")) e
no_at t w (c, inr (inr e)) = keyword_is (codes "AT") t c ∙ ap (λ m. is_small m (codes "AT")) e

tokens_decide : (w : Tokens) → BeginsDirective w → Decides w
tokens_decide [] h = absurd h
tokens_decide (t ∷ w) h = decides t w h

tokens_no_at : (w : Tokens) → BeginsDirective w → is_first (codes "AT") w ≡ false
tokens_no_at [] h = absurd h
tokens_no_at (t ∷ w) h = no_at t w h

-- ---- DECLARE

-- what is read is a directive
abbrev Gives : Reading EmbKindData → Type 0
Gives (done k n w) = is_directive_kind k ≡ true
Gives (stopped e) = Unit {0}

gives_then : (o : Reading (List Cut)) (f : List Cut → Counts → Tokens → Reading EmbKindData) → ((v : List Cut) (n : Counts) (w : Tokens) → Gives (f v n w)) → Gives (and_then o f)
gives_then (done v n w) f k = k v n w
gives_then (stopped e) f k = tt

declared_gives : (name : Text) (all : Tokens) (n : Counts) (w : Tokens) → Gives (declared_for name all n w)
declared_gives name all n [] = tt
declared_gives name all n (t ∷ w) = go (prepared_in (t ∷ w))
  where
    go : (p : Option Text) → Gives (elim p [
      | Some p ↦ and_then (cuts (length all - 1) 0 false n all) (λ cs m r. done (declare_cursor name (bytes_part (bytes_in (parts true false cs) ++ codes " ") ∷ []) (Some p)) m [])
      | None ↦ and_then (cuts (length all) 0 false n all) (λ cs m r. done (declare_cursor name (parts true false cs) None) m r)
    ])
    go (Some p) = gives_then (cuts (length all - 1) 0 false n all) (λ cs m r. done (declare_cursor name (bytes_part (bytes_in (parts true false cs) ++ codes " ") ∷ []) (Some p)) m []) (λ cs m r. refl)
    go None = gives_then (cuts (length all) 0 false n all) (λ cs m r. done (declare_cursor name (parts true false cs) None) m r) (λ cs m r. refl)

found_is : (w : Tokens) (o : Reading EmbKindData) (k : EmbKindData) → Gives o → found_in w o ≡ kind k → is_directive_kind k ≡ true
found_is w (done j n []) k h e = let same : j ≡ k = cc in subst (λ x. is_directive_kind x ≡ true) same h
found_is w (done j n (t ∷ rest)) k h e = absurd (cc)
found_is w (stopped (failure.Dead j)) k h e = absurd (cc)
found_is w (stopped (failure.OverLimit j)) k h e = absurd (cc)
found_is w (stopped failure.OutOfMemory) k h e = absurd (cc)

no_kind : {A : Type 0} (b : Judged A SqlToken) (found : Found) (k : EmbKindData) → found_without b ≡ Some found → found ≡ kind k → ⊥
no_kind (tree b) found k e f = cc
no_kind (dead x after) found k e f = let same : stops (x ∷ after) ≡ found = cc in let clash : stops (x ∷ after) ≡ kind k = same ∙ f in cc
no_kind short found k e f = let same : stops [] ≡ found = cc in let clash : stops [] ≡ kind k = same ∙ f in cc
no_kind (over x after) found k e f = let same : passes ≡ found = cc in let clash : passes ≡ kind k = same ∙ f in cc

cursor_is : (n : Counts) (w : Tokens) (found : Found) (k : EmbKindData) → IsCursor n w found → found ≡ kind k → is_directive_kind k ≡ true
cursor_is n w found k (headless b _ s e) f = absurd (no_kind b found k e f)
cursor_is n w _ k (headed b s) f = found_is w (declared_for (cursor_name b.tree) w b.count b.rest) k (declared_gives (cursor_name b.tree) w b.count b.rest) f

-- ---- the answer

made_is : (m : Made) (j : Judged (Of m.form) SqlToken) (k : EmbKindData) → MakesDirectives m → found_by m.make j ≡ kind k → is_directive_kind k ≡ true
made_is m (tree v) k made e = let same : m.make v ≡ k = cc in subst (λ x. is_directive_kind x ≡ true) same (made v)
made_is m (dead x after) k made e = absurd (cc)
made_is m short k made e = absurd (cc)
made_is m (over x after) k made e = absurd (cc)

form_is : (w : Tokens) (e : Entry) (m : Made) → Decides w → chosen entries w ≡ Some e → form_of false e ≡ Some m → MakesDirectives m
form_is w e m (inl (x, c, made)) d f =
    let same : x ≡ e = some_is (sym c ∙ d) in
    let alone : x.alone ≡ m = some_is (ap (λ (y : Entry). Some y.alone) same ∙ f) in
    subst MakesDirectives alone made
  where
    some_is : {A : Type 0} {a b : A} → Some a ≡ Some b → a ≡ b
    some_is e = cc (e)
form_is w e m (inr (c, first)) d f = let clash : None ≡ Some e = sym c ∙ d in absurd (cc (clash))

no_form : (w : Tokens) → Decides w → chosen entries w ≡ None → is_first (codes "DECLARE") w ≡ false → ⊥
no_form w (inl (x, c, made)) d f = let clash : None ≡ Some x = sym d ∙ c in cc (clash)
no_form w (inr (c, first)) d f = false≢true (sym f ∙ first)

kind_is : (at : Bool) (n : Counts) (w : Tokens) (found : Found) (k : EmbKindData) → IsKind at n w found → at ≡ false → BeginsDirective w → found ≡ kind k → is_directive_kind k ≡ true
kind_is at n _ _ k empty a h f = absurd h
kind_is at n _ _ k (formed w e m j c o t) a h f = made_is m j k (form_is w e m (tokens_decide w h) c (subst (λ x. form_of x e ≡ Some m) a o)) f
kind_is at n _ _ k (without_at before after x e c o l) a h f = absurd (cc)
kind_is at n _ _ k (cursor w found b c d t) a h f = cursor_is n w found k t f
kind_is at n _ _ k (cursor_behind_at w b c d) a h f = absurd (cc)
kind_is at n _ _ k (transaction w c d t) a h f = absurd (no_form w (tokens_decide w h) c d)
kind_is at n _ _ k (server t w c d x) a h f = absurd (no_form (t ∷ w) (tokens_decide (t ∷ w) h) c d)

answered : (end : ℕ) (at : Option TextArgData) (found : Found) (s : StatementData) → answer_of end at found ≡ Ok s → found ≡ kind s.kind
answered end at (kind k) s e = let same : s ≡ record { at = at; kind = k } = cc in ap (λ (x : StatementData). kind x.kind) (sym same)
answered end at (stops w) s e = absurd (cc)
answered end at passes s e = absurd (cc)

said_is : (end : ℕ) (n : Counts) (w : Tokens) (a : Answer) (s : StatementData) → IsSaid end None n w a → BeginsDirective w → a ≡ Ok s → is_directive_kind s.kind ≡ true
said_is end n w _ s (left_out l) h e = absurd (cc)
said_is end n w _ s (taken found l t) h e = kind_is (is_some {T = TextArgData} None) n w found s.kind t refl h (answered end None found s e)

answer_is : (end : ℕ) (w : Tokens) (a : Answer) (s : StatementData) → IsAnswer end w a → BeginsDirective w → a ≡ Ok s → is_directive_kind s.kind ≡ true
answer_is end w a s (alone _ f t) h e = said_is end _ w a s t h e
answer_is end w a s (behind_at b _ f g t) h e = absurd (false≢true (sym (tokens_no_at w h) ∙ f))
answer_is end w _ s (nameless b found f g t) h e = absurd (false≢true (sym (tokens_no_at w h) ∙ f))

-- ---- one statement

placed_line : (line : Line) (place : ℕ) (a : Answer) (e : EmbData) → Ok e ≡ placed line place a → e.line ≡ line
placed_line line place (Ok s) e h = let same : e ≡ record { line = line; place = place; at = s.at; kind = s.kind } = cc in ap (λ (x : EmbData). x.line) same
placed_line line place (Err stop) e h = absurd (cc)

placed_directive : (line : Line) (place : ℕ) (a : Answer) (e : EmbData) → Ok e ≡ placed line place a → ((s : StatementData) → a ≡ Ok s → is_directive_kind s.kind ≡ true) → is_directive e ≡ true
placed_directive line place (Ok s) e h k = let same : e ≡ record { line = line; place = place; at = s.at; kind = s.kind } = cc in ap is_directive same ∙ k s refl
placed_directive line place (Err stop) e h k = absurd (cc)

pub told_there : (es : List EmbData) (n : ℕ) (p : Piece) (place : ℕ) (e : EmbData) → StatementOrStop p place (Ok e) → slice_get es n ≡ Some e
    → (units : List Text) → StatementUnits p.bytes units → TokenIsThere es p.line (emb_token n (is_executable units))
told_there es n p place e s is units u = (
  record { emb = e; is = is; on = placed_line p.line place s.answer e s.is },
  λ x. record {
    emb = e;
    is = is;
    directive = placed_directive p.line place s.answer e s.is (λ d i. answer_is (end_line p) s.tokens s.answer d s.is_answer (statement_first p.line.0 p.bytes s.tokens units s.lexed u x) i);
  },
)
