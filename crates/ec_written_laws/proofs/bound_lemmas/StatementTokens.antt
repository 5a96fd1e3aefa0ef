-- The statements of a source: their references are simple, their texts are bytes, and so are the arguments of the actions that they set.
use Rattle.std.proofs.Common.{◌≡◌, ℕ, zero, suc, ◌≤◌, ◌<◌, Bool, true, false, not, ◌&&◌, ◌||◌, ◌+◌, ◌-◌, List, [], ◌∷◌, ◌++◌, length, take, drop, refl, sym, ap, ◌∙◌, subst, inl, inr, Option, Some, None, Result, Ok, Err, arith}
use Rattle.std.specs.Prelude.{codes, is_some, slice_get, if◌then◌else◌}
use Rattle.std.specs.List.{concat, filter}
use Rattle.ec_base.specs.declared.line.Line.{Line}
use Rattle.ec_base.specs.declared.stop.Stop.{Stop}
use Rattle.ec_ctypes.specs.declared.embedded.emb.Cond.{Cond}
use Rattle.ec_ctypes.specs.declared.text.piece.Piece.{Piece}
use Rattle.ec_ctypes.specs.trees.Checked.{MarkData}
use Rattle.ec_ctypes.specs.trees.Embedded.{TextArgData, ActionData, EmbKindData, connect, set_connection, disconnect, autocommit, trans, server_text, declare_cursor, open_cursor, execute_immediate, prepare, execute, deallocate, allocate_area, free_area, get_count, get_items, set_count, set_items, whenever, include_sqlca, EmbData}
use Rattle.ec_ctypes.specs.trees.Units.{UnitData}
use Rattle.ec_embedded.specs.shapes.Shapes.{nothing, one, both, either, many, yield_of, tokens_of, Labelled, Fits, Judged, tree, dead, short, over, Judges}
use Rattle.ec_embedded.specs.shapes.ReadShapes.{done, stopped, and_then}
use Rattle.ec_embedded.specs.declared.shapes.failure.Failure.TheVariants as failure
use Rattle.ec_language.specs.Letters.{Text, each, is_blank, is_word_byte, begins, skip_blanks, same_word}
use Rattle.ec_language.specs.Pieces.{behind_start, PiecesUpTo}
use Rattle.ec_language.specs.SqlText.{is_sql_gap, is_escaped}
use Rattle.ec_language.specs.Line.{newlines}
use Rattle.ec_language.specs.SqlTokens as sql
use Rattle.ec_language.specs.SqlTokens.{SqlToken, StatementUnits, sql_class, are_one_mark, sql_tokens_from, first_bad_line}
use Rattle.ec_language.specs.Tokens.{lines_before, refused_at, SqlTokens}
use Rattle.ec_language.proofs.Ends.{both as both_true}
use Rattle.ec_embedded.specs.Answers.{found_by, found_without, IsCursor, headless, headed, form_of, IsKind, empty, formed, without_at, cursor, cursor_behind_at, transaction, server, IsSaid, left_out, taken, IsAnswer, alone, behind_at, nameless, placed, end_line, StatementOrStop}
use Rattle.ec_embedded.specs.Directives.{cursor_form, cursor_name}
use Rattle.ec_embedded.specs.Findings.{Found, kind, stops, passes, found_in, StatementData, Answer, answer_of}
use Rattle.ec_embedded.specs.LeftOut.{begin_with}
use Rattle.ec_embedded.specs.References.{Form, Of}
use Rattle.ec_embedded.specs.ServerText.{Tokens, Reading, server_at, transaction_at}
use Rattle.ec_embedded.specs.Statements.{Made, Entry, entries, chosen, declared_for, at_form, at_of}
use Rattle.ec_embedded.specs.Terminals.{Terminal, is, Counts, alphabet}
use Rattle.ec_host_defs.specs.Statements.{with_statement, with_statements}
use Rattle.ec_phases_defs.specs.Sources as source
use Rattle.ec_phases_defs.specs.Sources.{ReadsStatements, ReadsTree}
use Rattle.ec_typing_defs.specs.statement_parts.Handlers.{mark_of, with_mark, marks_in, last_of, holds_at, action_among, handler}
use Rattle.ec_typing_defs.specs.statement_parts.References.{references}
use Rattle.ec_writing_defs.specs.Shapes.{is_byte}
use Rattle.ec_written_laws.specs.bound.Names.{is_simple, is_simple_action, have_simple_values}
use Rattle.ec_written_laws.proofs.bound_lemmas.Rules.{join}
use Rattle.ec_written_laws.proofs.bound_lemmas.Each.{OfList, OfTextOption, OfKind, OfStatement, OfValue, statement_list}
use Rattle.ec_written_laws.proofs.bound_lemmas.EmbeddedRules.{AreSimple}
use Rattle.ec_written_laws.proofs.bound_lemmas.Forms.{Simple, Bytes, HaveBytes, IsToken, HasTokens, AreTokens, tree_tokens, connect_is, set_connection_is, disconnect_is, autocommit_is, allocate_is, get_is, set_is, whenever_is, include_is, open_is, prepare_is, execute_is, deallocate_is, deallocate_at_is, at_is, SimpleAction, IsMade}
use Rattle.ec_written_laws.proofs.bound_lemmas.SentParts.{Reads, server_is, transaction_is, declared_is}

-- ---- bytes

parted : (u w : Text) → each is_byte (u ++ w) ≡ true → (each is_byte u ≡ true) × (each is_byte w ≡ true)
parted [] w h = (refl, h)
parted (b ∷ u) w h = let p = both_true (is_byte b) (each is_byte (u ++ w)) h in let q = parted u w p.1 in (join p.0 q.0, q.1)

joined : (u w : Text) → each is_byte u ≡ true → each is_byte w ≡ true → each is_byte (u ++ w) ≡ true
joined [] w h k = k
joined (b ∷ u) w h k = let p = both_true (is_byte b) (each is_byte u) h in join p.0 (joined u w p.1 k)

dropped : (n : ℕ) (t : Text) → each is_byte t ≡ true → each is_byte (drop n t) ≡ true
dropped zero t h = h
dropped (suc n) [] h = refl
dropped (suc n) (b ∷ t) h = dropped n t (both_true (is_byte b) (each is_byte t) h).1

taken_bytes : (n : ℕ) (t : Text) → each is_byte t ≡ true → each is_byte (take n t) ≡ true
taken_bytes zero t h = refl
taken_bytes (suc n) [] h = refl
taken_bytes (suc n) (b ∷ t) h = let p = both_true (is_byte b) (each is_byte t) h in join p.0 (taken_bytes n t p.1)

skipped : (t : Text) → each is_byte t ≡ true → each is_byte (skip_blanks t) ≡ true
skipped [] h = refl
skipped (b ∷ t) h = go (is_blank b) (skipped t (both_true (is_byte b) (each is_byte t) h).1)
  where
    go : (x : Bool) → each is_byte (skip_blanks t) ≡ true → each is_byte (elim x [ true ↦ skip_blanks t | false ↦ b ∷ t ]) ≡ true
    go true k = k
    go false k = h

start_behind : (t u : Text) → each is_byte t ≡ true → behind_start t ≡ Some u → each is_byte u ≡ true
start_behind t u h e =
    go (same_word (take 4 t) (codes "EXEC") && begins is_blank (drop 4 t) && same_word (take 3 (skip_blanks (drop 4 t))) (codes "SQL") && not (begins is_word_byte (drop 3 (skip_blanks (drop 4 t))))) e
  where
    go : (x : Bool) → (if x then Some (drop 3 (skip_blanks (drop 4 t))) else None) ≡ Some u → each is_byte u ≡ true
    go true k = let same : drop 3 (skip_blanks (drop 4 t)) ≡ u = cc in subst (λ v. each is_byte v ≡ true) same (dropped 3 (skip_blanks (drop 4 t)) (skipped (drop 4 t) (dropped 4 t h)))
    go false k = absurd (cc)

-- ---- tokens

tokens_from : (gap : Bool) (line : ℕ) (us : List Text) → each is_byte (concat us) ≡ true → HaveBytes (sql_tokens_from gap line us)
tokens_from gap line [] h = tt
tokens_from gap line (a ∷ []) h = go (is_sql_gap a) (is_escaped a) (parted a [] h).0
  where
    go : (x y : Bool) → each is_byte a ≡ true → HaveBytes (elim x [
      | true ↦ []
      | false ↦ elim y [
        | true ↦ record { class = sql.word; bytes = take 1 a; gap = gap; line = line } ∷ record { class = sql.quoted; bytes = drop 1 a; gap = false; line = line } ∷ []
        | false ↦ record { class = sql_class a; bytes = a; gap = gap; line = line } ∷ []
      ]
    ])
    go true y k = tt
    go false true k = (taken_bytes 1 a k, (dropped 1 a k, tt))
    go false false k = (k, tt)
tokens_from gap line (a ∷ b ∷ us) h =
    let p = parted a (b ++ concat us) h in
    let q = parted b (concat us) p.1 in
    go (is_sql_gap a) (is_escaped a) (are_one_mark a b) p.0 q.0 (tokens_from true (line + newlines a) (b ∷ us) p.1) (tokens_from false (line + newlines a) (b ∷ us) p.1) (tokens_from false line us q.1)
  where
    go : (x y z : Bool) → each is_byte a ≡ true → each is_byte b ≡ true → HaveBytes (sql_tokens_from true (line + newlines a) (b ∷ us)) → HaveBytes (sql_tokens_from false (line + newlines a) (b ∷ us)) → HaveBytes (sql_tokens_from false line us)
        → HaveBytes (elim x [
          | true ↦ sql_tokens_from true (line + newlines a) (b ∷ us)
          | false ↦ elim y [
            | true ↦ record { class = sql.word; bytes = take 1 a; gap = gap; line = line } ∷ record { class = sql.quoted; bytes = drop 1 a; gap = false; line = line } ∷ sql_tokens_from false (line + newlines a) (b ∷ us)
            | false ↦ elim z [
              | true ↦ record { class = sql.mark; bytes = a ++ b; gap = gap; line = line } ∷ sql_tokens_from false line us
              | false ↦ record { class = sql_class a; bytes = a; gap = gap; line = line } ∷ sql_tokens_from false (line + newlines a) (b ∷ us)
            ]
          ]
        ])
    go true y z k l m n o = m
    go false true z k l m n o = (taken_bytes 1 a k, (dropped 1 a k, n))
    go false false true k l m n o = (joined a b k l, o)
    go false false false k l m n o = (k, n)

-- of a statement
pub statement_tokens : (line : ℕ) (bytes : Text) (tokens : Tokens) → SqlTokens line bytes tokens → each is_byte bytes ≡ true → HaveBytes tokens
statement_tokens line bytes tokens (units, u, e) h = go (first_bad_line (line + lines_before bytes (concat units)) units) e
  where
    units_bytes : each is_byte (concat units) ≡ true
    units_bytes = (parted (concat units) (codes ";") (start_behind bytes (concat units ++ codes ";") h u.start)).0

    go : (x : Option ℕ) → Ok tokens ≡ refused_at x (sql_tokens_from false (line + lines_before bytes (concat units)) units) → HaveBytes tokens
    go None e = let same : sql_tokens_from false (line + lines_before bytes (concat units)) units ≡ tokens = cc in subst (λ t. HaveBytes t) same (tokens_from false (line + lines_before bytes (concat units)) units units_bytes)
    go (Some l) e = absurd (cc)

-- ---- the answer

labelled : (ls : Labelled Terminal SqlToken) → Fits alphabet ls → HaveBytes (tokens_of ls) → AreTokens ls
labelled [] f h = tt
labelled (p ∷ ps) f h = ((f.0, h.0), labelled ps f.1 h.1)

front_bytes : (ts rest : Tokens) → HaveBytes (ts ++ rest) → HaveBytes ts × HaveBytes rest
front_bytes [] rest h = (tt, h)
front_bytes (t ∷ ts) rest h = let q = front_bytes ts rest h.1 in ((h.0, q.0), q.1)

abbrev Makes : (form : Form) → (Of form → EmbKindData) → Type 0
Makes form make = (v : Of form) → HasTokens form v → IsMade (make v)

abbrev MakesOption : Option Made → Type 0
MakesOption None = Unit {0}
MakesOption (Some m) = Makes m.form m.make

abbrev AreMade : List Entry → Type 0
AreMade [] = Unit {0}
AreMade (e ∷ es) = Makes e.alone.form e.alone.make × MakesOption e.behind_at × AreMade es

all_made : AreMade entries
all_made = (connect_is, tt, (set_connection_is, tt, (autocommit_is, autocommit_is, (set_is, tt, (disconnect_is, tt, (open_is, open_is, (execute_is, execute_is, (prepare_is, prepare_is, (deallocate_is, deallocate_at_is, (allocate_is, tt, (get_is, tt, (whenever_is, tt, (include_is, tt, tt)))))))))))))

chosen_made : (es : List Entry) (w : Tokens) (e : Entry) (at : Bool) (m : Made) → AreMade es → chosen es w ≡ Some e → form_of at e ≡ Some m → Makes m.form m.make
chosen_made [] w e at m all c f = absurd (cc)
chosen_made (x ∷ es) w e at m all c f = go (begin_with x.words w) c (λ g. chosen_made es w e at m all.2 g f)
  where
    of : (at : Bool) → form_of at x ≡ Some m → Makes m.form m.make
    of true g = subst MakesOption g all.1
    of false g = subst MakesOption g all.0

    go : (b : Bool) → elim b [ true ↦ Some x | false ↦ chosen es w ] ≡ Some e → (chosen es w ≡ Some e → Makes m.form m.make) → Makes m.form m.make
    go true g more = let same : e ≡ x = cc in of at (subst (λ y. form_of at y ≡ Some m) same f)
    go false g more = more g

found_is : (w : Tokens) (o : Reading EmbKindData) (k : EmbKindData) → Reads IsMade o → found_in w o ≡ kind k → IsMade k
found_is w (done j n []) k h e = let same : j ≡ k = cc in subst IsMade same h.0
found_is w (done j n (t ∷ rest)) k h e = absurd (cc)
found_is w (stopped (failure.Dead j)) k h e = absurd (cc)
found_is w (stopped (failure.OverLimit j)) k h e = absurd (cc)
found_is w (stopped failure.OutOfMemory) k h e = absurd (cc)

no_kind : {A : Type 0} (b : Judged A SqlToken) (found : Found) (k : EmbKindData) → found_without b ≡ Some found → found ≡ kind k → ⊥
no_kind (tree b) found k e f = cc
no_kind (dead x after) found k e f = let same : stops (x ∷ after) ≡ found = cc in let clash : stops (x ∷ after) ≡ kind k = same ∙ f in cc
no_kind short found k e f = let same : stops [] ≡ found = cc in let clash : stops [] ≡ kind k = same ∙ f in cc
no_kind (over x after) found k e f = let same : passes ≡ found = cc in let clash : passes ≡ kind k = same ∙ f in cc

formed_is : (m : Made) (n : Counts) (w : Tokens) (j : Judged (Of m.form) SqlToken) (k : EmbKindData) → Makes m.form m.make → HaveBytes w → Judges alphabet m.form n w j → found_by m.make j ≡ kind k → IsMade k
formed_is m n w (tree v) k made h t e =
    let same : m.make v ≡ k = cc in
    subst IsMade same (made v (tree_tokens m.form v (labelled (yield_of m.form v) t.fits (subst HaveBytes t.whole h))))
formed_is m n w (dead x after) k made h t e = absurd (cc)
formed_is m n w short k made h t e = absurd (cc)
formed_is m n w (over x after) k made h t e = absurd (cc)

cursor_is : (n : Counts) (w : Tokens) (found : Found) (k : EmbKindData) → IsCursor n w found → HaveBytes w → found ≡ kind k → IsMade k
cursor_is n w found k (headless b _ s e) h f = absurd (no_kind b found k e f)
cursor_is n w _ k (headed b s) h f = found_is w (declared_for (cursor_name b.tree) w b.count b.rest) k (declared_is (cursor_name b.tree) w b.count b.rest h) f

kind_is : (at : Bool) (n : Counts) (w : Tokens) (found : Found) (k : EmbKindData) → IsKind at n w found → HaveBytes w → found ≡ kind k → IsMade k
kind_is at n _ _ k empty h f = absurd (cc)
kind_is at n _ _ k (formed w e m j c o t) h f = formed_is m n w j k (chosen_made entries w e at m all_made c o) h t f
kind_is at n _ _ k (without_at before after x e c o l) h f = absurd (cc)
kind_is at n _ _ k (cursor w found a c d t) h f = cursor_is n w found k t h f
kind_is at n _ _ k (cursor_behind_at w a c d) h f = absurd (cc)
kind_is at n _ _ k (transaction w c d t) h f = found_is w (transaction_at n w) k (transaction_is n w) f
kind_is at n _ _ k (server t w c d x) h f = found_is (t ∷ w) (server_at n (t ∷ w)) k (server_is n (t ∷ w) h) f

-- with the connection that AT names
abbrev IsFrom : StatementData → Type 0
IsFrom s = OfTextOption Simple Bytes s.at × IsMade s.kind

record IsAnswered (at : Option TextArgData) (found : Found) (s : StatementData) : Type 0 where
  same_at : at ≡ s.at
  is_kind : found ≡ kind s.kind

answered : (end : ℕ) (at : Option TextArgData) (found : Found) (s : StatementData) → answer_of end at found ≡ Ok s → IsAnswered at found s
answered end at (kind k) s e = let same : s ≡ record { at = at; kind = k } = cc in record { same_at = ap (λ (x : StatementData). x.at) (sym same); is_kind = ap (λ (x : StatementData). kind x.kind) (sym same) }
answered end at (stops w) s e = absurd (cc)
answered end at passes s e = absurd (cc)

said_is : (end : ℕ) (at : Option TextArgData) (n : Counts) (w : Tokens) (a : Answer) (s : StatementData) → IsSaid end at n w a → OfTextOption Simple Bytes at → HaveBytes w → a ≡ Ok s → IsFrom s
said_is end at n w _ s (left_out l) o h e = absurd (cc)
said_is end at n w _ s (taken found l t) o h e = let a = answered end at found s e in (subst (OfTextOption Simple Bytes) a.same_at o, kind_is (is_some at) n w found s.kind t h a.is_kind)

at_of_is : (v : Of at_form) → HasTokens at_form v → OfTextOption Simple Bytes (Some (at_of v))
unfolding at_form
at_of_is v h = at_is v.1 h.1

answer_is : (end : ℕ) (w : Tokens) (a : Answer) (s : StatementData) → IsAnswer end w a → HaveBytes w → a ≡ Ok s → IsFrom s
answer_is end w a s (alone _ f t) h e = said_is end None _ w a s t tt h e
answer_is end w a s (behind_at b _ f g t) h e =
    let p = front_bytes (tokens_of (yield_of at_form b.tree)) b.rest (subst HaveBytes g.whole h) in
    said_is end _ b.count b.rest a s t (at_of_is b.tree (tree_tokens at_form b.tree (labelled (yield_of at_form b.tree) g.fits p.0))) p.1 e
answer_is end w _ s (nameless b found f g t) h e = absurd (no_kind b found s.kind t (answered end None found s e).is_kind)

-- ---- one statement

-- what tokens make of a statement
abbrev pub IsSource : EmbData → Type 0
IsSource e = OfStatement Simple Bytes SimpleAction e

placed_is : (line : Line) (place : ℕ) (a : Answer) (e : EmbData) → Ok e ≡ placed line place a → ((s : StatementData) → a ≡ Ok s → IsFrom s) → IsSource e
placed_is line place (Ok s) e h k = let same : record { line = line; place = place; at = s.at; kind = s.kind } ≡ e = cc in let q = k s refl in subst IsSource same q
placed_is line place (Err stop) e h k = absurd (cc)

statement_is : (p : Piece) (place : ℕ) (e : EmbData) → StatementOrStop p place (Ok e) → each is_byte p.bytes ≡ true → IsSource e
statement_is p place e s b = placed_is p.line place s.answer e s.is (λ d i. answer_is (end_line p) s.tokens s.answer d s.is_answer (statement_tokens p.line.0 p.bytes s.tokens s.lexed b) i)

-- ---- all

abbrev ArePieces : List Piece → Type 0
ArePieces ps = OfList (λ p. each is_byte p.bytes ≡ true) ps

pieces_are : (line : ℕ) (text rest : Text) (ps : List Piece) → PiecesUpTo line text ps rest → each is_byte text ≡ true → ArePieces ps
pieces_are line text rest [] c b = tt
pieces_are line text rest (p ∷ ps) c b =
    let two = parted p.bytes c.0 (subst (λ t. each is_byte t ≡ true) c.1 b) in
    (two.0, pieces_are (line + newlines p.bytes) c.0 rest ps c.4 two.1)

abbrev list_of : Result (List EmbData) Stop → List EmbData
list_of (Ok es) = es
list_of (Err stop) = []

abbrev pub AreSource : List EmbData → Type 0
AreSource es = OfList IsSource es

statements_are : (ps : List Piece) (ns : List ℕ) (a : Result (List EmbData) Stop) → ReadsStatements ps ns a → ArePieces ps → AreSource (list_of a)
statements_are [] ns a (source.end ms) h = tt
statements_are (p ∷ ps) ns a (source.other q qs ms b k r) h = statements_are ps ns a r h.1
statements_are (p ∷ ps) (n ∷ ns) a (source.stops q qs m ms stop k s) h = tt
statements_are (p ∷ ps) (n ∷ ns) a (source.statement q qs m ms e others b k s r is) h = subst (λ x. AreSource (list_of x)) (sym is) (go others (statements_are ps ns others r h.1))
  where
    go : (others : Result (List EmbData) Stop) → AreSource (list_of others) → AreSource (list_of (with_statement (Ok e) others))
    go (Ok es) j = (statement_is p n e s h.0, j)
    go (Err stop) j = tt

same_statements : (u v : UnitData) (es : Result (List EmbData) Stop) → Ok v ≡ with_statements u es → v.embs ≡ list_of es
same_statements u v (Ok es) e = ap embs_in e
  where
    embs_in : Result UnitData Stop → List EmbData
    embs_in (Ok x) = x.embs
    embs_in (Err stop) = []
same_statements u v (Err stop) e = absurd (cc)

pub source_statements : (text : Text) (v : UnitData) → each is_byte text ≡ true → ReadsTree text (Ok v) → AreSource v.embs
source_statements text v b (source.statements pieces ts u es answer l c x is r e) =
    subst AreSource (sym (same_statements u v es e)) (statements_are pieces _ es r (pieces_are 1 text [] pieces c b))

-- ---- what the rules ask of them

simple_values : (es : List EmbData) → AreSource es → (n : ℕ) (e : EmbData) → slice_get es n ≡ Some e → IsSource e
simple_values [] h n e i = absurd (cc)
simple_values (x ∷ es) h zero e i = let same : x ≡ e = cc in subst IsSource same h.0
simple_values (x ∷ es) h (suc n) e i = simple_values es h.1 n e i

are_simple_list : (rs : _) → OfList (OfValue Simple) rs → have_simple_values rs ≡ true
are_simple_list [] h = refl
are_simple_list (r ∷ rs) h = join h.0 (are_simple_list rs h.1)

abbrev IsSimpleMark : MarkData → Type 0
IsSimpleMark m = is_simple_action m.2 ≡ true

marks_simple : (es : List EmbData) → AreSource es → OfList IsSimpleMark (marks_in es)
marks_simple [] h = tt
marks_simple (e ∷ es) h = go e.kind refl h.0.1 (marks_simple es h.1)
  where
    go : (k : EmbKindData) → e.kind ≡ k → IsMade k → OfList IsSimpleMark (marks_in es) → OfList IsSimpleMark (with_mark (elim k [ whenever c a ↦ Some (e.place, c, a) | _ ↦ None ]) (marks_in es))
    go (whenever c a) i s more = (s, more)
    go _ i s more = more

last_simple : (ms : List MarkData) (m : MarkData) → OfList IsSimpleMark ms → last_of ms ≡ Some m → IsSimpleMark m
last_simple [] m h e = absurd (cc)
last_simple (x ∷ []) m h e = let same : x ≡ m = cc in subst IsSimpleMark same h.0
last_simple (x ∷ y ∷ ms) m h e = last_simple (y ∷ ms) m h.1 e

filtered : (f : MarkData → Bool) (ms : List MarkData) → OfList IsSimpleMark ms → OfList IsSimpleMark (filter f ms)
filtered f [] h = tt
filtered f (m ∷ ms) h = go (f m) (filtered f ms h.1)
  where
    go : (b : Bool) → OfList IsSimpleMark (filter f ms) → OfList IsSimpleMark (if b then m ∷ filter f ms else filter f ms)
    go true k = (h.0, k)
    go false k = k

action_simple : (es : List EmbData) → AreSource es → (place : ℕ) (cond : Cond) (a : ActionData) → handler es place cond ≡ Some a → is_simple_action a ≡ true
action_simple es h place cond a e = go (last_of (filter (holds_at place cond) (marks_in es))) refl e
  where
    go : (m : Option MarkData) → last_of (filter (holds_at place cond) (marks_in es)) ≡ m → Rattle.std.specs.Prelude.option_map (λ x. x.2) m ≡ Some a → is_simple_action a ≡ true
    go None i e = absurd (cc)
    go (Some m) i e = let same : m.2 ≡ a = cc in subst (λ x. is_simple_action x ≡ true) same (last_simple _ m (filtered (holds_at place cond) (marks_in es) (marks_simple es h)) i)

pub are_simple_statements : (es : List EmbData) → AreSource es → AreSimple es
are_simple_statements es h = record {
  values = λ n e i. are_simple_list (references e) (statement_list Simple Bytes SimpleAction e (simple_values es h n e i));
  actions = action_simple es h;
}
