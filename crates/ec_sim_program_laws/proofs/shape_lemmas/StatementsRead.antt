-- The statements of a source, by how they are read.
use Rattle.std.proofs.Common.{◌≡◌, ◌∙◌, ℕ, zero, suc, Bool, true, false, List, [], ◌∷◌, refl, sym, ap, subst, Option, Some, None, Result, Ok, Err, if◌then◌else◌, slice_get, option_map}
use Rattle.std.specs.Prelude.{is_some}
use Rattle.std.specs.List.{filter}
use Rattle.ec_base.specs.declared.line.Line.{Line}
use Rattle.ec_base.specs.declared.stop.Stop.{Stop}
use Rattle.ec_ctypes.specs.declared.text.piece.Piece.{Piece}
use Rattle.ec_ctypes.specs.trees.Checked.{MarkData}
use Rattle.ec_ctypes.specs.trees.Embedded.{TextArgData, EmbKindData, declare_cursor, whenever, EmbData}
use Rattle.ec_ctypes.specs.trees.Units.{UnitData}
use Rattle.ec_embedded.specs.shapes.Shapes.{Judged, tree, dead, short, over}
use Rattle.ec_embedded.specs.shapes.ReadShapes.{done, stopped}
use Rattle.ec_embedded.specs.declared.shapes.failure.Failure.TheVariants as failure
use Rattle.ec_language.specs.Letters.{Text}
use Rattle.ec_language.specs.SqlTokens.{SqlToken}
use Rattle.ec_embedded.specs.Answers.{found_by, found_without, IsCursor, headless, headed, form_of, IsKind, empty, formed, without_at, cursor, cursor_behind_at, transaction, server, IsSaid, left_out, taken, IsAnswer, alone, behind_at, nameless, placed, end_line, StatementOrStop}
use Rattle.ec_embedded.specs.Directives.{cursor_name}
use Rattle.ec_embedded.specs.Findings.{Found, kind, stops, passes, found_in, StatementData, Answer, answer_of}
use Rattle.ec_embedded.specs.LeftOut.{begin_with}
use Rattle.ec_embedded.specs.References.{Of}
use Rattle.ec_embedded.specs.ServerText.{Tokens, Reading, server_at, transaction_at}
use Rattle.ec_embedded.specs.Statements.{Made, Entry, entries, chosen, declared_for, at_form, at_of}
use Rattle.ec_embedded.specs.Terminals.{Counts}
use Rattle.ec_host_defs.specs.Statements.{with_statement, with_statements}
use Rattle.ec_phases_defs.specs.Sources as source
use Rattle.ec_phases_defs.specs.Sources.{ReadsStatements, ReadsTree}
use Rattle.ec_typing_defs.specs.statement_parts.Handlers.{with_mark, marks_in, last_of, holds_at}
use Rattle.ec_typing_defs.specs.statement_parts.References.{references}
use Rattle.ec_sim_host_laws.specs.reference.Found.{AreReferences}
use Rattle.ec_sim_world_laws.specs.test.Plain.{IsPlainAction, IsPlainOption, HasPlainActions}
use Rattle.ec_sim_program_laws.specs.shape.Shapes.{IsAlone, IsRead, AllAreRead}
use Rattle.ec_sim_program_laws.proofs.shape_lemmas.Parts.{OfList, IsTextOption, IsMade, statement_list, references_make, outputs_some, items_set}
use Rattle.ec_sim_program_laws.proofs.shape_lemmas.Forms.{Makes, connect_is, set_connection_is, disconnect_is, autocommit_is, allocate_is, get_is, set_is, whenever_is, include_is, open_is, prepare_is, execute_is, deallocate_is, deallocate_at_is, connection_is}
use Rattle.ec_sim_program_laws.proofs.shape_lemmas.SentParts.{Reads, server_is, transaction_is, declared_is}

-- ---- what is done

abbrev MakesOption : Option Made → Type 0
MakesOption None = Unit {0}
MakesOption (Some m) = Makes m.form m.make

abbrev AreMade : List Entry → Type 0
AreMade [] = Unit {0}
AreMade (e ∷ es) = Makes e.alone.form e.alone.make × MakesOption e.behind_at × AreMade es

all_made : AreMade entries
all_made = (connect_is, tt, (set_connection_is, tt, (autocommit_is, autocommit_is, (set_is, tt, (disconnect_is, tt, (open_is, open_is, (execute_is, execute_is, (prepare_is, prepare_is, (deallocate_is, deallocate_at_is, (allocate_is, tt, (get_is, tt, (whenever_is, tt, (include_is, tt, tt)))))))))))))

chosen_made : (es : List Entry) (w : Tokens) (e : Entry) (at : Bool) (m : Made) → AreMade es → chosen es w ≡ Some e → form_of at e ≡ Some m → Makes m.form m.make
chosen_made [] w e at m all c f = absurd (cc)
chosen_made (x ∷ es) w e at m all c f = go (begin_with x.words w) c (λ g. chosen_made es w e at m all.2 g f)
  where
    of : (at : Bool) → form_of at x ≡ Some m → Makes m.form m.make
    of true g = subst MakesOption g all.1
    of false g = subst MakesOption g all.0

    go : (b : Bool) → elim b [ true ↦ Some x | false ↦ chosen es w ] ≡ Some e → (chosen es w ≡ Some e → Makes m.form m.make) → Makes m.form m.make
    go true g more = let same : e ≡ x = cc in of at (subst (λ y. form_of at y ≡ Some m) same f)
    go false g more = more g

found_is : (at : Bool) (w : Tokens) (o : Reading EmbKindData) (k : EmbKindData) → Reads (IsMade at) o → found_in w o ≡ kind k → IsMade at k
found_is at w (done j n []) k h e = let same : j ≡ k = cc in subst (IsMade at) same h
found_is at w (done j n (t ∷ rest)) k h e = absurd (cc)
found_is at w (stopped (failure.Dead j)) k h e = absurd (cc)
found_is at w (stopped (failure.OverLimit j)) k h e = absurd (cc)
found_is at w (stopped failure.OutOfMemory) k h e = absurd (cc)

no_kind : {A : Type 0} (b : Judged A SqlToken) (found : Found) (k : EmbKindData) → found_without b ≡ Some found → found ≡ kind k → ⊥
no_kind (tree b) found k e f = cc
no_kind (dead x after) found k e f = let same : stops (x ∷ after) ≡ found = cc in let clash : stops (x ∷ after) ≡ kind k = same ∙ f in cc
no_kind short found k e f = let same : stops [] ≡ found = cc in let clash : stops [] ≡ kind k = same ∙ f in cc
no_kind (over x after) found k e f = let same : passes ≡ found = cc in let clash : passes ≡ kind k = same ∙ f in cc

formed_is : (at : Bool) (m : Made) (j : Judged (Of m.form) SqlToken) (k : EmbKindData) → Makes m.form m.make → found_by m.make j ≡ kind k → IsMade at k
formed_is at m (tree v) k made e = let same : m.make v ≡ k = cc in subst (IsMade at) same (made at v)
formed_is at m (dead x after) k made e = absurd (cc)
formed_is at m short k made e = absurd (cc)
formed_is at m (over x after) k made e = absurd (cc)

cursor_is : (at : Bool) → at ≡ false → (n : Counts) (w : Tokens) (found : Found) (k : EmbKindData) → IsCursor n w found → found ≡ kind k → IsMade at k
cursor_is at is_alone n w found k (headless b _ s e) f = absurd (no_kind b found k e f)
cursor_is at is_alone n w _ k (headed b s) f = found_is at w (declared_for (cursor_name b.tree) w b.count b.rest) k (declared_is at is_alone (cursor_name b.tree) w b.count b.rest) f

kind_is : (at : Bool) (n : Counts) (w : Tokens) (found : Found) (k : EmbKindData) → IsKind at n w found → found ≡ kind k → IsMade at k
kind_is at n _ _ k empty f = absurd (cc)
kind_is at n _ _ k (formed w e m j c o t) f = formed_is at m j k (chosen_made entries w e at m all_made c o) f
kind_is at n _ _ k (without_at before after x e c o l) f = absurd (cc)
kind_is at n _ _ k (cursor w found a c d t) f = cursor_is at a n w found k t f
kind_is at n _ _ k (cursor_behind_at w a c d) f = absurd (cc)
kind_is at n _ _ k (transaction w c d t) f = found_is at w (transaction_at n w) k (transaction_is at n w) f
kind_is at n _ _ k (server t w c d x) f = found_is at (t ∷ w) (server_at n (t ∷ w)) k (server_is at n (t ∷ w)) f

-- ---- the answer

-- with the connection that AT names
abbrev IsFrom : StatementData → Type 0
IsFrom s = IsTextOption s.at × IsMade (is_some s.at) s.kind

record IsAnswered (at : Option TextArgData) (found : Found) (s : StatementData) : Type 0 where
  same_at : at ≡ s.at
  is_kind : found ≡ kind s.kind

answered : (end : ℕ) (at : Option TextArgData) (found : Found) (s : StatementData) → answer_of end at found ≡ Ok s → IsAnswered at found s
answered end at (kind k) s e = let same : s ≡ record { at = at; kind = k } = cc in record { same_at = ap (λ (x : StatementData). x.at) (sym same); is_kind = ap (λ (x : StatementData). kind x.kind) (sym same) }
answered end at (stops w) s e = absurd (cc)
answered end at passes s e = absurd (cc)

said_is : (end : ℕ) (at : Option TextArgData) (n : Counts) (w : Tokens) (a : Answer) (s : StatementData) → IsSaid end at n w a → IsTextOption at → a ≡ Ok s → IsFrom s
said_is end at n w _ s (left_out l) o e = absurd (cc)
said_is end at n w _ s (taken found l t) o e =
    let a = answered end at found s e in
    (subst IsTextOption a.same_at o, subst (λ x. IsMade (is_some x) s.kind) a.same_at (kind_is (is_some at) n w found s.kind t a.is_kind))

at_of_is : (v : Of at_form) → IsTextOption (Some (at_of v))
unfolding at_form
at_of_is v = connection_is v.1

answer_is : (end : ℕ) (w : Tokens) (a : Answer) (s : StatementData) → IsAnswer end w a → a ≡ Ok s → IsFrom s
answer_is end w a s (alone _ f t) e = said_is end None _ w a s t tt e
answer_is end w a s (behind_at b _ f g t) e = said_is end (Some (at_of b.tree)) b.count b.rest a s t (at_of_is b.tree) e
answer_is end w _ s (nameless b found f g t) e = absurd (no_kind b found s.kind t (answered end None found s e).is_kind)

-- ---- one statement

abbrev IsSource : EmbData → Type 0
IsSource e = IsTextOption e.at × IsMade (is_some e.at) e.kind

placed_is : (line : Line) (place : ℕ) (a : Answer) (e : EmbData) → Ok e ≡ placed line place a → ((s : StatementData) → a ≡ Ok s → IsFrom s) → IsSource e
placed_is line place (Ok s) e h k = let same : record { line = line; place = place; at = s.at; kind = s.kind } ≡ e = cc in let q = k s refl in subst IsSource same q
placed_is line place (Err stop) e h k = absurd (cc)

statement_is : (p : Piece) (place : ℕ) (e : EmbData) → StatementOrStop p place (Ok e) → IsSource e
statement_is p place e s = placed_is p.line place s.answer e s.is (λ d i. answer_is (end_line p) s.tokens s.answer d s.is_answer i)

-- ---- all

abbrev list_of : Result (List EmbData) Stop → List EmbData
list_of (Ok es) = es
list_of (Err stop) = []

abbrev AreSource : List EmbData → Type 0
AreSource es = OfList IsSource es

statements_are : (ps : List Piece) (ns : List ℕ) (a : Result (List EmbData) Stop) → ReadsStatements ps ns a → AreSource (list_of a)
statements_are [] ns a (source.end ms) = tt
statements_are (p ∷ ps) ns a (source.other q qs ms b k r) = statements_are ps ns a r
statements_are (p ∷ ps) (n ∷ ns) a (source.stops q qs m ms stop k s) = tt
statements_are (p ∷ ps) (n ∷ ns) a (source.statement q qs m ms e others b k s r is) = subst (λ x. AreSource (list_of x)) (sym is) (go others (statements_are ps ns others r))
  where
    go : (others : Result (List EmbData) Stop) → AreSource (list_of others) → AreSource (list_of (with_statement (Ok e) others))
    go (Ok es) j = (statement_is p n e s, j)
    go (Err stop) j = tt

same_statements : (u v : UnitData) (es : Result (List EmbData) Stop) → Ok v ≡ with_statements u es → v.embs ≡ list_of es
same_statements u v (Ok es) e = ap embs_in e
  where
    embs_in : Result UnitData Stop → List EmbData
    embs_in (Ok x) = x.embs
    embs_in (Err stop) = []
same_statements u v (Err stop) e = absurd (cc)

source_statements : (text : Text) (v : UnitData) → ReadsTree text (Ok v) → AreSource v.embs
source_statements text v (source.statements pieces ts u es answer l c x is r e) = subst AreSource (sym (same_statements u v es e)) (statements_are pieces _ es r)

-- ---- the actions that hold

abbrev IsPlainMark : MarkData → Type 0
IsPlainMark m = IsPlainAction m.2

marks_plain : (es : List EmbData) → AreSource es → OfList IsPlainMark (marks_in es)
marks_plain [] h = tt
marks_plain (e ∷ es) h = go (is_some e.at) e.kind h.0.1 (marks_plain es h.1)
  where
    go : (at : Bool) (k : EmbKindData) → IsMade at k → OfList IsPlainMark (marks_in es) → OfList IsPlainMark (with_mark (elim k [ whenever c a ↦ Some (e.place, c, a) | _ ↦ None ]) (marks_in es))
    go at (whenever c a) s more = (s, more)
    go at _ s more = more

filtered : (f : MarkData → Bool) (ms : List MarkData) → OfList IsPlainMark ms → OfList IsPlainMark (filter f ms)
filtered f [] h = tt
filtered f (m ∷ ms) h = go (f m) (filtered f ms h.1)
  where
    go : (b : Bool) → OfList IsPlainMark (filter f ms) → OfList IsPlainMark (if b then m ∷ filter f ms else filter f ms)
    go true k = (h.0, k)
    go false k = k

last_plain : (ms : List MarkData) → OfList IsPlainMark ms → IsPlainOption (option_map (λ m. m.2) (last_of ms))
last_plain [] h = tt
last_plain (x ∷ []) h = h.0
last_plain (x ∷ y ∷ ms) h = last_plain (y ∷ ms) h.1

actions_plain : (es : List EmbData) → AreSource es → (e : EmbData) → HasPlainActions es e
actions_plain es h e c = last_plain (filter (holds_at e.place c) (marks_in es)) (filtered (holds_at e.place c) (marks_in es) (marks_plain es h))

-- ---- a statement of the source

source_at : (es : List EmbData) → AreSource es → (n : ℕ) (e : EmbData) → slice_get es n ≡ Some e → IsSource e
source_at [] h n e i = absurd (cc)
source_at (x ∷ es) h zero e i = let same : x ≡ e = cc in subst IsSource same h.0
source_at (x ∷ es) h (suc n) e i = source_at es h.1 n e i

none_at : (o : Option TextArgData) → is_some o ≡ false → o ≡ None
none_at None e = refl
none_at (Some a) e = absurd (cc)

declared_alone : (e : EmbData) → IsMade (is_some e.at) e.kind → IsAlone e
declared_alone e h = go e.kind h
  where
    go : (k : EmbKindData) → IsMade (is_some e.at) k → IsAlone (record e { kind = k })
    go (declare_cursor name parts prepared) h = none_at e.at h.0
    go _ h = tt

is_read : (es : List EmbData) → AreSource es → (e : EmbData) → IsSource e → IsRead es e
is_read es all e h = record {
  are_references = are;
  make_nothing = references_make (references e) are;
  actions = actions_plain es all e;
  outputs = outputs_some (is_some e.at) e h.1;
  alone = declared_alone e h.1;
  items = items_set (is_some e.at) e h.1;
}
  where
    are : AreReferences (references e)
    are = statement_list (is_some e.at) e h.0 h.1

pub statements_read : (text : Text) (u : UnitData) → ReadsTree text (Ok u) → AllAreRead u.embs
statements_read text u r n e i = is_read u.embs (source_statements text u r) e (source_at u.embs (source_statements text u r) n e i)
