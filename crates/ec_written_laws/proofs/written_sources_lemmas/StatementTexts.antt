-- The texts that an embedded statement of a source holds itself are bytes, since its tokens are.
use Rattle.std.proofs.Common.{◌≡◌, ℕ, zero, suc, Bool, true, false, not, ◌&&◌, ◌||◌, ◌+◌, ◌-◌, List, [], ◌∷◌, ◌++◌, length, take, drop, refl, sym, ap, ◌∙◌, subst, inl, inr, Option, Some, None, Ok}
use Rattle.std.specs.Prelude.{codes, is_some, if◌then◌else◌}
use Rattle.std.specs.List.{concat}
use Rattle.ec_ctypes.specs.trees.Embedded.{TextArgData, PartData, bytes_part, host_part, EmbKindData, declare_cursor}
use Rattle.ec_embedded.specs.shapes.Shapes.{nothing, one, both, either, many, yield_of, tokens_of, Labelled, Judged, tree, dead, short, over, Judges}
use Rattle.ec_embedded.specs.shapes.ReadShapes.{done, stopped, and_then}
use Rattle.ec_embedded.specs.declared.shapes.failure.Failure.TheVariants as failure
use Rattle.ec_language.specs.Letters.{Text, each, is_blank, is_word_byte, begins, skip_blanks, same_word}
use Rattle.ec_language.specs.Pieces.{behind_start}
use Rattle.ec_language.specs.SqlText.{is_sql_gap, is_escaped}
use Rattle.ec_language.specs.Line.{newlines}
use Rattle.ec_language.specs.SqlTokens as sql
use Rattle.ec_language.specs.SqlTokens.{SqlToken, StatementUnits, sql_class, are_one_mark, sql_tokens_from, first_bad_line}
use Rattle.ec_language.specs.Tokens.{lines_before, refused_at, SqlTokens}
use Rattle.ec_language.proofs.Ends.{both as both_true}
use Rattle.ec_embedded.specs.Answers.{found_by, found_without, IsCursor, headless, headed, form_of, IsKind, empty, formed, without_at, cursor, cursor_behind_at, transaction, server, IsSaid, left_out, taken, IsAnswer, alone, behind_at, nameless}
use Rattle.ec_embedded.specs.Connections.{user_form, connected, user_or_none, connection, plain_tail, with_tail, parted_tail, with_parted_tail, target_form, target_of, connect_form, connect_of, set_connection_form, set_connection_of, disconnect_form, disconnect_of, autocommit_form, autocommit_of, tail_form}
use Rattle.ec_embedded.specs.Descriptors.{allocate_form, allocate_of, get_form, get_of, set_form, set_of}
use Rattle.ec_embedded.specs.Directives.{whenever_form, whenever_of, include_form, include_of, cursor_form, cursor_name}
use Rattle.ec_embedded.specs.Dynamic.{prepare_form, prepare_of, lists_form, executed, execute_form, execute_of, deallocate_form, deallocate_of, deallocate_at_form, deallocate_at_of, open_form, open_of}
use Rattle.ec_embedded.specs.Findings.{Found, kind, stops, passes, found_in, StatementData, Answer, answer_of}
use Rattle.ec_embedded.specs.LeftOut.{begin_with}
use Rattle.ec_embedded.specs.References.{Form, Of, optional, word}
use Rattle.ec_embedded.specs.ServerText.{Tokens, Reading, begins_host, Cut, token, host, into, cons_cut, cuts, blank, put, parts, server_at, plain_cuts, bytes_in, transaction_at}
use Rattle.ec_embedded.specs.Statements.{Made, Entry, entries, chosen, prepared_in, declared_for, at_form}
use Rattle.ec_embedded.specs.Terminals.{Terminal, keyword, parted_word, is, any_word, Counts, alphabet}
use Rattle.ec_writing_defs.specs.Shapes.{is_byte}
use Rattle.ec_written_laws.specs.written.Bounds.{is_written_statement}

-- ---- bytes

join : {x y : Bool} → x ≡ true → y ≡ true → (x && y) ≡ true
join p q = λ i. p i && q i

pub parted : (u w : Text) → each is_byte (u ++ w) ≡ true → (each is_byte u ≡ true) × (each is_byte w ≡ true)
parted [] w h = (refl, h)
parted (b ∷ u) w h = let p = both_true (is_byte b) (each is_byte (u ++ w)) h in let q = parted u w p.1 in (join p.0 q.0, q.1)

pub joined : (u w : Text) → each is_byte u ≡ true → each is_byte w ≡ true → each is_byte (u ++ w) ≡ true
joined [] w h k = k
joined (b ∷ u) w h k = let p = both_true (is_byte b) (each is_byte u) h in join p.0 (joined u w p.1 k)

dropped : (n : ℕ) (t : Text) → each is_byte t ≡ true → each is_byte (drop n t) ≡ true
dropped zero t h = h
dropped (suc n) [] h = refl
dropped (suc n) (b ∷ t) h = dropped n t (both_true (is_byte b) (each is_byte t) h).1

taken_bytes : (n : ℕ) (t : Text) → each is_byte t ≡ true → each is_byte (take n t) ≡ true
taken_bytes zero t h = refl
taken_bytes (suc n) [] h = refl
taken_bytes (suc n) (b ∷ t) h = let p = both_true (is_byte b) (each is_byte t) h in join p.0 (taken_bytes n t p.1)

skipped : (t : Text) → each is_byte t ≡ true → each is_byte (skip_blanks t) ≡ true
skipped [] h = refl
skipped (b ∷ t) h = go (is_blank b) (skipped t (both_true (is_byte b) (each is_byte t) h).1)
  where
    go : (x : Bool) → each is_byte (skip_blanks t) ≡ true → each is_byte (elim x [ true ↦ skip_blanks t | false ↦ b ∷ t ]) ≡ true
    go true k = k
    go false k = h

start_behind : (t u : Text) → each is_byte t ≡ true → behind_start t ≡ Some u → each is_byte u ≡ true
start_behind t u h e =
    go (same_word (take 4 t) (codes "EXEC") && begins is_blank (drop 4 t) && same_word (take 3 (skip_blanks (drop 4 t))) (codes "SQL") && not (begins is_word_byte (drop 3 (skip_blanks (drop 4 t))))) e
  where
    go : (x : Bool) → (if x then Some (drop 3 (skip_blanks (drop 4 t))) else None) ≡ Some u → each is_byte u ≡ true
    go true k = let same : drop 3 (skip_blanks (drop 4 t)) ≡ u = cc in subst (λ v. each is_byte v ≡ true) same (dropped 3 (skip_blanks (drop 4 t)) (skipped (drop 4 t) (dropped 4 t h)))
    go false k = absurd (cc)

-- ---- tokens

abbrev pub are_bytes : Tokens → Bool
are_bytes [] = true
are_bytes (t ∷ ts) = each is_byte t.bytes && are_bytes ts

tokens_from : (gap : Bool) (line : ℕ) (us : List Text) → each is_byte (concat us) ≡ true → are_bytes (sql_tokens_from gap line us) ≡ true
tokens_from gap line [] h = refl
tokens_from gap line (a ∷ []) h = go (is_sql_gap a) (is_escaped a) (parted a [] h).0
  where
    go : (x y : Bool) → each is_byte a ≡ true → are_bytes (elim x [
      | true ↦ []
      | false ↦ elim y [
        | true ↦ record { class = sql.word; bytes = take 1 a; gap = gap; line = line } ∷ record { class = sql.quoted; bytes = drop 1 a; gap = false; line = line } ∷ []
        | false ↦ record { class = sql_class a; bytes = a; gap = gap; line = line } ∷ []
      ]
    ]) ≡ true
    go true y k = refl
    go false true k = join (taken_bytes 1 a k) (join (dropped 1 a k) refl)
    go false false k = join k refl
tokens_from gap line (a ∷ b ∷ us) h =
    let p = parted a (b ++ concat us) h in
    let q = parted b (concat us) p.1 in
    go (is_sql_gap a) (is_escaped a) (are_one_mark a b) p.0 q.0 (tokens_from true (line + newlines a) (b ∷ us) p.1) (tokens_from false (line + newlines a) (b ∷ us) p.1) (tokens_from false line us q.1)
  where
    go : (x y z : Bool) → each is_byte a ≡ true → each is_byte b ≡ true → are_bytes (sql_tokens_from true (line + newlines a) (b ∷ us)) ≡ true → are_bytes (sql_tokens_from false (line + newlines a) (b ∷ us)) ≡ true → are_bytes (sql_tokens_from false line us) ≡ true
        → are_bytes (elim x [
          | true ↦ sql_tokens_from true (line + newlines a) (b ∷ us)
          | false ↦ elim y [
            | true ↦ record { class = sql.word; bytes = take 1 a; gap = gap; line = line } ∷ record { class = sql.quoted; bytes = drop 1 a; gap = false; line = line } ∷ sql_tokens_from false (line + newlines a) (b ∷ us)
            | false ↦ elim z [
              | true ↦ record { class = sql.mark; bytes = a ++ b; gap = gap; line = line } ∷ sql_tokens_from false line us
              | false ↦ record { class = sql_class a; bytes = a; gap = gap; line = line } ∷ sql_tokens_from false (line + newlines a) (b ∷ us)
            ]
          ]
        ]) ≡ true
    go true y z k l m n o = m
    go false true z k l m n o = join (taken_bytes 1 a k) (join (dropped 1 a k) n)
    go false false true k l m n o = join (joined a b k l) o
    go false false false k l m n o = join k n

-- of a statement
pub statement_tokens : (line : ℕ) (bytes : Text) (tokens : Tokens) → SqlTokens line bytes tokens → each is_byte bytes ≡ true → are_bytes tokens ≡ true
statement_tokens line bytes tokens (units, u, e) h = go (first_bad_line (line + lines_before bytes (concat units)) units) e
  where
    units_bytes : each is_byte (concat units) ≡ true
    units_bytes = (parted (concat units) (codes ";") (start_behind bytes (concat units ++ codes ";") h u.start)).0

    go : (x : Option ℕ) → Ok tokens ≡ refused_at x (sql_tokens_from false (line + lines_before bytes (concat units)) units) → are_bytes tokens ≡ true
    go None e = let same : sql_tokens_from false (line + lines_before bytes (concat units)) units ≡ tokens = cc in subst (λ t. are_bytes t ≡ true) same (tokens_from false (line + lines_before bytes (concat units)) units units_bytes)
    go (Some l) e = absurd (cc)

-- ---- forms

-- each token of a tree, but for those of repetitions
abbrev HasBytes : (s : Form) → Of s → Type 0
HasBytes nothing v = Unit {0}
HasBytes (one t) v = each is_byte v.bytes ≡ true
HasBytes (both a b) v = HasBytes a v.0 × HasBytes b v.1
HasBytes (either a b) (inl v) = HasBytes a v
HasBytes (either a b) (inr v) = HasBytes b v
HasBytes (many a) vs = Unit {0}

bytes_parted : (xs ys : Labelled Terminal SqlToken) → are_bytes (tokens_of (xs ++ ys)) ≡ true → (are_bytes (tokens_of xs) ≡ true) × (are_bytes (tokens_of ys) ≡ true)
bytes_parted [] ys h = (refl, h)
bytes_parted (x ∷ xs) ys h = let p = both_true (each is_byte x.1.bytes) (are_bytes (tokens_of (xs ++ ys))) h in let q = bytes_parted xs ys p.1 in (join p.0 q.0, q.1)

tree_bytes : (s : Form) (v : Of s) → are_bytes (tokens_of (yield_of s v)) ≡ true → HasBytes s v
tree_bytes nothing v h = tt
tree_bytes (one t) v h = (both_true (each is_byte v.bytes) true h).0
tree_bytes (both a b) v h = let p = bytes_parted (yield_of a v.0) (yield_of b v.1) h in (tree_bytes a v.0 p.0, tree_bytes b v.1 p.1)
tree_bytes (either a b) (inl v) h = tree_bytes a v h
tree_bytes (either a b) (inr v) h = tree_bytes b v h
tree_bytes (many a) vs h = tt

-- behind a list
rest_bytes : (ts rest : Tokens) → are_bytes (ts ++ rest) ≡ true → are_bytes rest ≡ true
rest_bytes [] rest h = h
rest_bytes (t ∷ ts) rest h = rest_bytes ts rest (both_true (each is_byte t.bytes) (are_bytes (ts ++ rest)) h).1

-- ---- what the forms make

abbrev Makes : (form : Form) → (Of form → EmbKindData) → Type 0
Makes form make = (v : Of form) → HasBytes form v → is_written_statement (make v) ≡ true

connected_is : (target : TextArgData) (name : Option TextArgData) (v : Of user_form) → is_written_statement (connected target name v) ≡ true
unfolding user_form
connected_is target name v = refl

user_is : (target : TextArgData) (name : Option TextArgData) (v : Of (optional (both (word (codes "USER")) user_form))) → is_written_statement (user_or_none target name v) ≡ true
user_is target name (inl v) = connected_is target name v.1
user_is target name (inr v) = refl

connection_is : (a u : Terminal) (target : TextArgData) (v : Of (tail_form a u)) → is_written_statement (connection a u target v) ≡ true
connection_is a u target (inl v) = user_is target _ v.1.1
connection_is a u target (inr (inl v)) = connected_is target None v.1
connection_is a u target (inr (inr v)) = refl

tail_is : (target : TextArgData) (v : Of plain_tail) → is_written_statement (with_tail target v) ≡ true
unfolding plain_tail
tail_is target v = connection_is (keyword (codes "AS")) (keyword (codes "USER")) target v

parted_tail_is : (target : TextArgData) (v : Of parted_tail) → is_written_statement (with_parted_tail target v) ≡ true
unfolding parted_tail
parted_tail_is target v = connection_is (parted_word (codes "AS")) (parted_word (codes "USER")) target v

target_is : (v : Of target_form) → is_written_statement (target_of v) ≡ true
unfolding target_form
target_is (inl v) = tail_is _ v.1
target_is (inr (inl (c, inl v))) = tail_is _ v.1
target_is (inr (inl (c, inr (inl v)))) = tail_is _ v.1
target_is (inr (inl (c, inr (inr v)))) = parted_tail_is _ v
target_is (inr (inr v)) = tail_is _ v.1

connect_is : Makes connect_form connect_of
unfolding connect_form
connect_is v h = target_is v.1.1

set_connection_is : Makes set_connection_form set_connection_of
unfolding set_connection_form
set_connection_is (s, (c, inl (t, inl v))) h = refl
set_connection_is (s, (c, inl (t, inr v))) h = refl
set_connection_is (s, (c, inr (inl v))) h = refl
set_connection_is (s, (c, inr (inr (inl t)))) h = refl
set_connection_is (s, (c, inr (inr (inr (inl t))))) h = refl
set_connection_is (s, (c, inr (inr (inr (inr k))))) h = refl

disconnect_is : Makes disconnect_form disconnect_of
unfolding disconnect_form
disconnect_is (d, inl v) h = refl
disconnect_is (d, inr v) h = refl

autocommit_is : Makes autocommit_form autocommit_of
unfolding autocommit_form
autocommit_is (s, (a, (t, inl v))) h = refl
autocommit_is (s, (a, (t, inr v))) h = refl

allocate_is : Makes allocate_form allocate_of
unfolding allocate_form
allocate_is (a, (d, v)) h = refl

get_is : Makes get_form get_of
unfolding get_form
get_is (g, (d, (a, inl (v, (i, l))))) h = refl
get_is (g, (d, (a, inr (k, v)))) h = refl

set_is : Makes set_form set_of
unfolding set_form
set_is (s, (d, (a, inl v))) h = refl
set_is (s, (d, (a, inr v))) h = refl

whenever_is : Makes whenever_form whenever_of
unfolding whenever_form
whenever_is v h = refl

include_is : Makes include_form include_of
include_is v h = refl

open_is : Makes open_form open_of
unfolding open_form
open_is (o, (n, v)) h = refl

prepare_is : Makes prepare_form prepare_of
unfolding prepare_form
prepare_is (p, (n, (f, v))) h = h.1.0

executed_is : (name : Text) (v : Of lists_form) → each is_byte name ≡ true → is_written_statement (executed name v) ≡ true
unfolding lists_form
executed_is name (inl v) h = h
executed_is name (inr (inl v)) h = h
executed_is name (inr (inr v)) h = h

execute_is : Makes execute_form execute_of
unfolding execute_form
execute_is (e, inl (n, inl v)) h = refl
execute_is (e, inl (n, inr v)) h = executed_is n.bytes v h.1.0
execute_is (e, inr v) h = executed_is v.0.bytes v.1 h.1.0

deallocate_is : Makes deallocate_form deallocate_of
unfolding deallocate_form
deallocate_is (d, inl (p, inl n)) h = h.1.1
deallocate_is (d, inl (p, inr v)) h = h.1.0
deallocate_is (d, inr (inl (t, inl v))) h = refl
deallocate_is (d, inr (inl (t, inr v))) h = h.1.0
deallocate_is (d, inr (inr n)) h = h.1

deallocate_at_is : Makes deallocate_at_form deallocate_at_of
unfolding deallocate_at_form
deallocate_at_is (d, inl (p, inl n)) h = h.1.1
deallocate_at_is (d, inl (p, inr v)) h = h.1.0
deallocate_at_is (d, inr n) h = h.1

-- ---- all forms that the first words decide

abbrev IsMade : Made → Type 0
IsMade m = Makes m.form m.make

abbrev IsMadeOption : Option Made → Type 0
IsMadeOption None = Unit {0}
IsMadeOption (Some m) = IsMade m

abbrev AreMade : List Entry → Type 0
AreMade [] = Unit {0}
AreMade (e ∷ es) = IsMade e.alone × IsMadeOption e.behind_at × AreMade es

all_made : AreMade entries
all_made = (connect_is, tt, (set_connection_is, tt, (autocommit_is, autocommit_is, (set_is, tt, (disconnect_is, tt, (open_is, open_is, (execute_is, execute_is, (prepare_is, prepare_is, (deallocate_is, deallocate_at_is, (allocate_is, tt, (get_is, tt, (whenever_is, tt, (include_is, tt, tt)))))))))))))

chosen_made : (es : List Entry) (w : Tokens) (e : Entry) (at : Bool) (m : Made) → AreMade es → chosen es w ≡ Some e → form_of at e ≡ Some m → IsMade m
chosen_made [] w e at m all c f = absurd (cc)
chosen_made (x ∷ es) w e at m all c f = go (begin_with x.words w) c (λ g. chosen_made es w e at m all.2 g f)
  where
    of : (at : Bool) → form_of at x ≡ Some m → IsMade m
    of true g = subst IsMadeOption g all.1
    of false g = subst IsMadeOption g all.0

    go : (b : Bool) → elim b [ true ↦ Some x | false ↦ chosen es w ] ≡ Some e → (chosen es w ≡ Some e → IsMade m) → IsMade m
    go true g more = let same : e ≡ x = cc in of at (subst (λ y. form_of at y ≡ Some m) same f)
    go false g more = more g

-- ---- DECLARE and what passes to the server

abbrev Gives : Reading EmbKindData → Type 0
Gives (done k n w) = is_written_statement k ≡ true
Gives (stopped e) = Unit {0}

gives_then : {A : Type 0} (o : Reading A) (f : A → Counts → Tokens → Reading EmbKindData) → ((v : A) (n : Counts) (w : Tokens) → o ≡ done v n w → Gives (f v n w)) → Gives (and_then o f)
gives_then (done v n w) f h = h v n w refl
gives_then (stopped e) f h = tt

found_is : (w : Tokens) (o : Reading EmbKindData) (k : EmbKindData) → Gives o → found_in w o ≡ kind k → is_written_statement k ≡ true
found_is w (done j n []) k h e = let same : j ≡ k = cc in subst (λ x. is_written_statement x ≡ true) same h
found_is w (done j n (t ∷ rest)) k h e = absurd (cc)
found_is w (stopped (failure.Dead j)) k h e = absurd (cc)
found_is w (stopped (failure.OverLimit j)) k h e = absurd (cc)
found_is w (stopped failure.OutOfMemory) k h e = absurd (cc)

prepared_bytes : (w : Tokens) (p : Text) → are_bytes w ≡ true → prepared_in w ≡ Some p → each is_byte p ≡ true
prepared_bytes [] p h e = absurd (cc)
prepared_bytes (t ∷ []) p h e = go (is any_word t) e
  where
    go : (b : Bool) → (if b then Some t.bytes else None) ≡ Some p → each is_byte p ≡ true
    go true g = let same : t.bytes ≡ p = cc in subst (λ x. each is_byte x ≡ true) same (both_true (each is_byte t.bytes) true h).0
    go false g = absurd (cc)
prepared_bytes (t ∷ u ∷ w) p h e = absurd (cc)

declared_gives : (name : Text) (all : Tokens) (n : Counts) (w : Tokens) → are_bytes w ≡ true → Gives (declared_for name all n w)
declared_gives name all n [] h = tt
declared_gives name all n (t ∷ w) h = go (prepared_in (t ∷ w)) refl
  where
    go : (p : Option Text) → prepared_in (t ∷ w) ≡ p → Gives (elim p [
      | Some p ↦ and_then (cuts (length all - 1) 0 false n all) (λ cs m r. done (declare_cursor name (bytes_part (bytes_in (parts true false cs) ++ codes " ") ∷ []) (Some p)) m [])
      | None ↦ and_then (cuts (length all) 0 false n all) (λ cs m r. done (declare_cursor name (parts true false cs) None) m r)
    ])
    go (Some p) e = gives_then (cuts (length all - 1) 0 false n all) _ (λ cs m r x. prepared_bytes (t ∷ w) p h e)
    go None e = gives_then (cuts (length all) 0 false n all) _ (λ cs m r x. refl)

server_gives : (n : Counts) (w : Tokens) → Gives (server_at n w)
unfolding server_at
server_gives n w = gives_then (cuts (length w) 0 true n w) _ (λ cs m r x. refl)

-- the cuts of transaction control are tokens
abbrev are_cut_bytes : List Cut → Bool
are_cut_bytes [] = true
are_cut_bytes (token t ∷ cs) = each is_byte t.bytes && are_cut_bytes cs
are_cut_bytes (host g h ∷ cs) = are_cut_bytes cs
are_cut_bytes (into o ∷ cs) = are_cut_bytes cs

abbrev CutsBytes : Reading (List Cut) → Type 0
CutsBytes (done cs n w) = are_cut_bytes cs ≡ true
CutsBytes (stopped e) = Unit {0}

cons_bytes : (t : SqlToken) (o : Reading (List Cut)) → each is_byte t.bytes ≡ true → CutsBytes o → CutsBytes (cons_cut (token t) o)
cons_bytes t (done cs n w) h k = join h k
cons_bytes t (stopped e) h k = tt

plain_bytes : (w : Tokens) (n : Counts) → are_bytes w ≡ true → CutsBytes (plain_cuts w n)
plain_bytes [] n h = refl
plain_bytes (t ∷ w) n h = let p = both_true (each is_byte t.bytes) (are_bytes w) h in go (begins_host (t ∷ w)) (cons_bytes t (plain_cuts w n) p.0 (plain_bytes w n p.1))
  where
    go : (b : Bool) → CutsBytes (cons_cut (token t) (plain_cuts w n)) → CutsBytes (elim b [ true ↦ stopped (failure.Dead (length (t ∷ w))) | false ↦ cons_cut (token t) (plain_cuts w n) ])
    go true k = tt
    go false k = k

abbrev are_part_bytes : List PartData → Bool
are_part_bytes [] = true
are_part_bytes (bytes_part b ∷ ps) = each is_byte b && are_part_bytes ps
are_part_bytes (host_part h ∷ ps) = are_part_bytes ps

put_bytes : (b : Text) (ps : List PartData) → each is_byte b ≡ true → are_part_bytes ps ≡ true → are_part_bytes (put b ps) ≡ true
put_bytes [] ps h k = k
put_bytes (b ∷ bs) [] h k = join h refl
put_bytes (b ∷ bs) (bytes_part c ∷ ps) h k = let p = both_true (each is_byte c) (are_part_bytes ps) k in join (joined (b ∷ bs) c h p.0) p.1
put_bytes (b ∷ bs) (host_part x ∷ ps) h k = join h k

blank_bytes : (first gap : Bool) → each is_byte (blank first gap) ≡ true
blank_bytes true true = refl
blank_bytes true false = refl
blank_bytes false true = refl
blank_bytes false false = refl

parts_bytes : (first gap : Bool) (cs : List Cut) → are_cut_bytes cs ≡ true → are_part_bytes (parts first gap cs) ≡ true
parts_bytes first gap [] h = refl
parts_bytes first gap (token t ∷ cs) h =
    let p = both_true (each is_byte t.bytes) (are_cut_bytes cs) h in
    put_bytes (blank first (t.gap || gap) ++ t.bytes) (parts false false cs) (joined (blank first (t.gap || gap)) t.bytes (blank_bytes first (t.gap || gap)) p.0) (parts_bytes false false cs p.1)
parts_bytes first gap (host g x ∷ cs) h = put_bytes (blank first (g || gap)) (host_part x ∷ parts false false cs) (blank_bytes first (g || gap)) (parts_bytes false false cs h)
parts_bytes first gap (into o ∷ cs) h = parts_bytes first true cs h

first_bytes : (ps : List PartData) → are_part_bytes ps ≡ true → each is_byte (bytes_in ps) ≡ true
first_bytes [] h = refl
first_bytes (bytes_part b ∷ ps) h = (both_true (each is_byte b) (are_part_bytes ps) h).0
first_bytes (host_part x ∷ ps) h = refl

transaction_gives : (n : Counts) (w : Tokens) → are_bytes w ≡ true → Gives (transaction_at n w)
unfolding transaction_at
transaction_gives n w h = gives_then (plain_cuts w n) _ (λ cs m r x. first_bytes (parts true false cs) (parts_bytes true false cs (subst CutsBytes x (plain_bytes w n h))))

-- ---- the answer

no_kind : {A : Type 0} (b : Judged A SqlToken) (found : Found) (k : EmbKindData) → found_without b ≡ Some found → found ≡ kind k → ⊥
no_kind (tree b) found k e f = cc
no_kind (dead x after) found k e f = let same : stops (x ∷ after) ≡ found = cc in let clash : stops (x ∷ after) ≡ kind k = same ∙ f in cc
no_kind short found k e f = let same : stops [] ≡ found = cc in let clash : stops [] ≡ kind k = same ∙ f in cc
no_kind (over x after) found k e f = let same : passes ≡ found = cc in let clash : passes ≡ kind k = same ∙ f in cc

formed_is : (m : Made) (n : Counts) (w : Tokens) (j : Judged (Of m.form) SqlToken) (k : EmbKindData) → IsMade m → are_bytes w ≡ true → Judges alphabet m.form n w j → found_by m.make j ≡ kind k → is_written_statement k ≡ true
formed_is m n w (tree v) k made h t e =
    let same : m.make v ≡ k = cc in
    subst (λ x. is_written_statement x ≡ true) same (made v (tree_bytes m.form v (subst (λ x. are_bytes x ≡ true) t.whole h)))
formed_is m n w (dead x after) k made h t e = absurd (cc)
formed_is m n w short k made h t e = absurd (cc)
formed_is m n w (over x after) k made h t e = absurd (cc)

cursor_is : (n : Counts) (w : Tokens) (found : Found) (k : EmbKindData) → IsCursor n w found → are_bytes w ≡ true → found ≡ kind k → is_written_statement k ≡ true
cursor_is n w found k (headless b _ s e) h f = absurd (no_kind b found k e f)
cursor_is n w _ k (headed b s) h f = found_is w (declared_for (cursor_name b.tree) w b.count b.rest) k (declared_gives (cursor_name b.tree) w b.count b.rest (rest_bytes (tokens_of (yield_of cursor_form b.tree)) b.rest (subst (λ x. are_bytes x ≡ true) s.whole h))) f

kind_is : (at : Bool) (n : Counts) (w : Tokens) (found : Found) (k : EmbKindData) → IsKind at n w found → are_bytes w ≡ true → found ≡ kind k → is_written_statement k ≡ true
kind_is at n _ _ k empty h f = absurd (cc)
kind_is at n _ _ k (formed w e m j c o t) h f = formed_is m n w j k (chosen_made entries w e at m all_made c o) h t f
kind_is at n _ _ k (without_at before after x e c o l) h f = absurd (cc)
kind_is at n _ _ k (cursor w found a c d t) h f = cursor_is n w found k t h f
kind_is at n _ _ k (cursor_behind_at w a c d) h f = absurd (cc)
kind_is at n _ _ k (transaction w c d t) h f = found_is w (transaction_at n w) k (transaction_gives n w h) f
kind_is at n _ _ k (server t w c d x) h f = found_is (t ∷ w) (server_at n (t ∷ w)) k (server_gives n (t ∷ w)) f

answer_kind : (end : ℕ) (at : Option TextArgData) (found : Found) (s : StatementData) → answer_of end at found ≡ Ok s → found ≡ kind s.kind
answer_kind end at (kind k) s e = let same : s ≡ record { at = at; kind = k } = cc in ap (λ (x : StatementData). kind x.kind) (sym same)
answer_kind end at (stops w) s e = absurd (cc)
answer_kind end at passes s e = absurd (cc)

said_is : (end : ℕ) (at : Option TextArgData) (n : Counts) (w : Tokens) (a : Answer) (s : StatementData) → IsSaid end at n w a → are_bytes w ≡ true → a ≡ Ok s → is_written_statement s.kind ≡ true
said_is end at n w _ s (left_out l) h e = absurd (cc)
said_is end at n w _ s (taken found l t) h e = kind_is (is_some at) n w found s.kind t h (answer_kind end at found s e)

pub answer_is : (end : ℕ) (w : Tokens) (a : Answer) (s : StatementData) → IsAnswer end w a → are_bytes w ≡ true → a ≡ Ok s → is_written_statement s.kind ≡ true
answer_is end w a s (alone _ f t) h e = said_is end None _ w a s t h e
answer_is end w a s (behind_at b _ f g t) h e = said_is end _ b.count b.rest a s t (rest_bytes (tokens_of (yield_of at_form b.tree)) b.rest (subst (λ x. are_bytes x ≡ true) g.whole h)) e
answer_is end w _ s (nameless b found f g t) h e = absurd (no_kind b found s.kind t (answer_kind end None found s e))
