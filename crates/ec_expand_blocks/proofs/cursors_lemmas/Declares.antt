-- The table of cursors grows statement by statement.
use Rattle.std.proofs.Common.{◌≡◌, ℕ, zero, suc, ◌+◌, ◌<◌, Bool, true, false, List, [], ◌∷◌, ◌++◌, map, length, take, drop, get_or, Option, Some, None, option_map, slice_get, cond, refl, sym, ap, ◌∙◌, subst, arith, add-one, drop-cons, append_assoc}
use Rattle.std.specs.Prelude.{if◌then◌else◌}
use Rattle.std.specs.Option.{option_and_then}
use Rattle.ec_ctypes.specs.declared.embedded.emb.Emb.{Emb}
use Rattle.ec_ctypes.specs.trees.Embedded.{EmbData}
use Rattle.ec_ctypes.specs.views.Embedded.{emb_view}
use Rattle.ec_language.specs.Letters.{Text, lower, same_text, same_word}
use Rattle.ec_language.proofs.Marks.{same_text_is}
use Rattle.ec_known.proofs.Tables.{same_text_sym}
use Rattle.ec_typing_defs.specs.statement_parts.Cursors.{declared_cursor, opened_cursor, declare_from, declared_above, declare_opened}
use Rattle.ec_typing_defs.specs.Tables.{Named, find, put}
use Rattle.ec_expand_blocks.specs.cursors.Declares.{declare_number, numbers_from, declare_numbers, with_first, with_cursor, found_in, Knows}

-- ---- the first of two

abbrev pub first : Option ℕ → Option ℕ → Option ℕ
first None o = o
first (Some k) o = Some k

first_none : (o : Option ℕ) → first o None ≡ o
first_none None = refl
first_none (Some k) = refl

-- what a DECLARE of this cursor says of another
abbrev pub said : ℕ → Text → Option Text → Option ℕ
said n cursor None = None
said n cursor (Some c) = if same_word c cursor then Some n else None

said_is : (n : ℕ) (cursor : Text) (o : Option Text) → elim o [ None ↦ None | Some c ↦ if same_word c cursor then Some n else None ] ≡ said n cursor o
said_is n cursor None = refl
said_is n cursor (Some c) = refl

passed : (n : ℕ) (cursor : Text) (o : Option Text) (a b r : Option ℕ) → a ≡ first b r → elim o [ None ↦ a | Some c ↦ if same_word c cursor then Some n else a ] ≡ first (elim o [ None ↦ b | Some c ↦ if same_word c cursor then Some n else b ]) r
passed n cursor None a b r e = e
passed n cursor (Some c) a b r e = by (same_word c cursor)
  where
    by : (t : Bool) → cond t (Some n) a ≡ first (cond t (Some n) b) r
    by true = refl
    by false = e

declare_behind : (n : ℕ) (cursor : Text) (es : List EmbData) (e : EmbData) → declare_from n cursor (es ++ e ∷ []) ≡ first (declare_from n cursor es) (said (n + length es) cursor (declared_cursor e))
declare_behind n cursor [] e = said_is n cursor (declared_cursor e) ∙ ap (λ m. said m cursor (declared_cursor e)) (omega arith)
declare_behind n cursor (x ∷ es) e =
    let m : n + 1 + length es ≡ n + suc (length es) = omega arith in
    passed n cursor (declared_cursor x) _ _ _ (declare_behind (n + 1) cursor es e ∙ ap (λ k. first (declare_from (n + 1) cursor es) (said k cursor (declared_cursor e))) m)

-- ---- the table

put_step : (b : Bool) (x : Text × ℕ) (name : Text) (v : ℕ) (t : Named ℕ) → (find name t ≡ None → put name v t ≡ t ++ (name, v) ∷ []) → cond b (Some x.1) (find name t) ≡ None → cond b ((x.0, v) ∷ t) (x ∷ put name v t) ≡ x ∷ t ++ (name, v) ∷ []
put_step true x name v t h e = cc
put_step false x name v t h e = ap (λ l. x ∷ l) (h e)

put_absent : (name : Text) (v : ℕ) (t : Named ℕ) → find name t ≡ None → put name v t ≡ t ++ (name, v) ∷ []
put_absent name v [] e = refl
put_absent name v (x ∷ t) e = put_step (same_text name x.0) x name v t (put_absent name v t) e

find_step : (b : Bool) (k : ℕ) (f g r : Option ℕ) → f ≡ first g r → cond b (Some k) f ≡ first (cond b (Some k) g) r
find_step true k f g r e = refl
find_step false k f g r e = e

find_behind : (x name : Text) (v : ℕ) (t : Named ℕ) → find x (t ++ (name, v) ∷ []) ≡ first (find x t) (if same_text x name then Some v else None)
find_behind x name v [] = refl
find_behind x name v (y ∷ t) = find_step (same_text x y.0) y.1 _ (find x t) (if same_text x name then Some v else None) (find_behind x name v t)

-- a cursor that is there
kept : (t : Named ℕ) (c cursor : Text) (k n : ℕ) → find (map lower c) t ≡ Some k → find (map lower cursor) t ≡ first (find (map lower cursor) t) (said n cursor (Some c))
kept t c cursor k n f = by (find (map lower cursor) t) (same_word c cursor) refl refl
  where
    by : (o : Option ℕ) (b : Bool) → find (map lower cursor) t ≡ o → same_word c cursor ≡ b → o ≡ first o (cond b (Some n) None)
    by (Some j) b e s = refl
    by None false e s = refl
    by None true e s =
        let same : map lower c ≡ map lower cursor = same_text_is (map lower c) (map lower cursor) s in
        let f' : find (map lower cursor) t ≡ Some k = ap (λ x. find x t) (sym same) ∙ f in
        cc

added : (t : Named ℕ) (c cursor : Text) (n : ℕ) → find (map lower c) t ≡ None → find (map lower cursor) (put (map lower c) n t) ≡ first (find (map lower cursor) t) (said n cursor (Some c))
added t c cursor n f =
    ap (λ l. find (map lower cursor) l) (put_absent (map lower c) n t f)
    ∙ find_behind (map lower cursor) (map lower c) n t
    ∙ ap (λ b. first (find (map lower cursor) t) (if b then Some n else None)) (same_text_sym (map lower cursor) (map lower c))

grown : (t : Named ℕ) (o : Option Text) (cursor : Text) (n : ℕ) → find (map lower cursor) (with_cursor n o t) ≡ first (find (map lower cursor) t) (said n cursor o)
grown t None cursor n = sym (first_none (find (map lower cursor) t))
grown t (Some c) cursor n = by (find (map lower c) t) refl
  where
    by : (o : Option ℕ) → find (map lower c) t ≡ o → find (map lower cursor) (with_first (map lower c) n o t) ≡ first (find (map lower cursor) t) (said n cursor (Some c))
    by None f = added t c cursor n f
    by (Some k) f = kept t c cursor k n f

-- one statement more
pub knows_more : (t : Named ℕ) (es : List EmbData) (e : EmbData) → Knows t es → Knows (with_cursor (length es) (declared_cursor e) t) (es ++ e ∷ [])
knows_more t es e h = λ cursor.
    let z : 0 + length es ≡ length es = omega arith in
    grown t (declared_cursor e) cursor (length es)
    ∙ ap (λ o. first o (said (length es) cursor (declared_cursor e))) (h cursor)
    ∙ sym (declare_behind 0 cursor es e ∙ ap (λ m. first (declare_from 0 cursor es) (said m cursor (declared_cursor e))) z)

-- ---- numbers

pub number_is : (t : Named ℕ) (all : List EmbData) (n : ℕ) (e : EmbData) → Knows t (take n all) → found_in t (opened_cursor e) ≡ declare_number all n e
number_is t all n e h = by (opened_cursor e)
  where
    by : (o : Option Text) → option_and_then (λ c. find (map lower c) t) o ≡ option_and_then (λ c. declared_above all n c) o
    by None = refl
    by (Some c) = h c

number_at : (all : List EmbData) (m : ℕ) (es : List EmbData) (i : ℕ) → slice_get (numbers_from all m es) i ≡ option_map (λ e. declare_number all (m + i) e) (slice_get es i)
number_at all m [] i = refl
number_at all m (e ∷ es) zero = ap (λ k. Some (declare_number all k e)) (omega arith)
number_at all m (e ∷ es) (suc i) =
    let k : m + 1 + i ≡ m + suc i = omega arith in
    number_at all (m + 1) es i ∙ ap (λ j. option_map (λ e. declare_number all j e) (slice_get es i)) k

abbrev pub declare_at : List EmbData → Option (Option ℕ) → Option EmbData
declare_at all None = None
declare_at all (Some None) = None
declare_at all (Some (Some k)) = slice_get all k

opened_is : (all : List EmbData) (n : ℕ) → declare_at all (slice_get (declare_numbers all) n) ≡ option_and_then (λ e. declare_opened all n e) (slice_get all n)
opened_is all n =
    let z : 0 + n ≡ n = omega arith in
    ap (declare_at all) (number_at all 0 all n ∙ ap (λ k. option_map (λ e. declare_number all k e) (slice_get all n)) z) ∙ by (slice_get all n)
  where
    further : (o : Option ℕ) → declare_at all (Some o) ≡ option_and_then (λ k. slice_get all k) o
    further None = refl
    further (Some k) = refl

    inside : (c : Option Text) → declare_at all (Some (option_and_then (λ c. declared_above all n c) c)) ≡ option_and_then (λ c. option_and_then (λ k. slice_get all k) (declared_above all n c)) c
    inside None = refl
    inside (Some c) = further (declared_above all n c)

    by : (o : Option EmbData) → declare_at all (option_map (λ e. declare_number all n e) o) ≡ option_and_then (λ e. declare_opened all n e) o
    by None = refl
    by (Some e) = inside (opened_cursor e)

get_map : (es : List Emb) (k : ℕ) → option_map emb_view (slice_get es k) ≡ slice_get (map emb_view es) k
get_map [] k = refl
get_map (e ∷ es) zero = refl
get_map (e ∷ es) (suc k) = get_map es k

abbrev pub declare_in : List Emb → Option (Option ℕ) → Option Emb
declare_in es None = None
declare_in es (Some None) = None
declare_in es (Some (Some k)) = slice_get es k

declare_map : (es : List Emb) (o : Option (Option ℕ)) → option_map emb_view (declare_in es o) ≡ declare_at (map emb_view es) o
declare_map es None = refl
declare_map es (Some None) = refl
declare_map es (Some (Some k)) = get_map es k

-- by what the table has for a statement
pub declare_found : (es : List Emb) (numbers : List (Option ℕ)) (n : ℕ) (o : Option (Option ℕ)) (r : Option Emb) → numbers ≡ declare_numbers (map emb_view es) → slice_get numbers n ≡ o → r ≡ declare_in es o → option_map emb_view r ≡ option_and_then (λ e. declare_opened (map emb_view es) n e) (slice_get (map emb_view es) n)
declare_found es numbers n o r k g e =
    ap (option_map emb_view) e ∙ declare_map es o ∙ ap (declare_at (map emb_view es)) (sym g ∙ ap (λ l. slice_get l n) k) ∙ opened_is (map emb_view es) n

-- ---- one turn

take_next : {A : Type 0} (xs : List A) (i : ℕ) (x : A) (rest : List A) → drop i xs ≡ x ∷ rest → take (suc i) xs ≡ take i xs ++ x ∷ []
take_next [] zero x rest e = cc
take_next [] (suc i) x rest e = cc
take_next (y ∷ ys) zero x rest e = cc
take_next (y ∷ ys) (suc i) x rest e = ap (λ l. y ∷ l) (take_next ys i x rest e)

take_length : {A : Type 0} (xs : List A) (i : ℕ) (x : A) (rest : List A) → drop i xs ≡ x ∷ rest → length (take i xs) ≡ i
take_length [] zero x rest e = refl
take_length [] (suc i) x rest e = cc
take_length (y ∷ ys) zero x rest e = refl
take_length (y ∷ ys) (suc i) x rest e = ap suc (take_length ys i x rest e)

drop_next : {A : Type 0} (xs : List A) (i : ℕ) (x : A) (rest : List A) → drop i xs ≡ x ∷ rest → drop (suc i) xs ≡ rest
drop_next [] zero x rest e = cc
drop_next [] (suc i) x rest e = cc
drop_next (y ∷ ys) zero x rest e = cc
drop_next (y ∷ ys) (suc i) x rest e = drop_next ys i x rest e

drop_views : (xs : List Emb) (i : ℕ) (x : Emb) (rest : List Emb) → drop i xs ≡ x ∷ rest → drop i (map emb_view xs) ≡ emb_view x ∷ map emb_view rest
drop_views [] zero x rest e = cc
drop_views [] (suc i) x rest e = cc
drop_views (y ∷ ys) zero x rest e = ap (map emb_view) e
drop_views (y ∷ ys) (suc i) x rest e = drop_views ys i x rest e

module _ (embs : List Emb) (i : ℕ) (x : Emb) (inside : i < length embs) (is : x ≡ get_or embs i x) where
  abbrev all : List EmbData
  all = map emb_view embs

  abbrev rest : List EmbData
  rest = map emb_view (drop (suc i) embs)

  item : drop i all ≡ emb_view x ∷ rest
  item = drop_views embs i x (drop (suc i) embs) (drop-cons embs i x inside ∙ ap (λ y. y ∷ drop (suc i) embs) (sym is))

  pub numbers_turn : (numbers new : List (Option ℕ)) (o : Option ℕ) (known : Named ℕ)
      → new ≡ numbers ++ o ∷ [] → o ≡ found_in known (opened_cursor (emb_view x)) → Knows known (take i (map emb_view embs))
      → numbers ++ numbers_from (map emb_view embs) i (drop i (map emb_view embs)) ≡ declare_numbers (map emb_view embs)
      → new ++ numbers_from (map emb_view embs) (i + 1) (drop (i + 1) (map emb_view embs)) ≡ declare_numbers (map emb_view embs)
  numbers_turn numbers new o known n f k w =
      ap (λ l. l ++ numbers_from all (i + 1) (drop (i + 1) all)) n
      ∙ append_assoc numbers (o ∷ []) (numbers_from all (i + 1) (drop (i + 1) all))
      ∙ ap (λ y. numbers ++ y ∷ numbers_from all (i + 1) (drop (i + 1) all)) (f ∙ number_is known all i (emb_view x) k)
      ∙ ap (λ l. numbers ++ declare_number all i (emb_view x) ∷ numbers_from all (i + 1) l) (ap (λ j. drop j all) (add-one i) ∙ drop_next all i (emb_view x) rest item)
      ∙ ap (λ l. numbers ++ numbers_from all i l) (sym item)
      ∙ w

  pub known_turn : (known new : Named ℕ) → new ≡ with_cursor i (declared_cursor (emb_view x)) known → Knows known (take i (map emb_view embs)) → Knows new (take (i + 1) (map emb_view embs))
  known_turn known new n k =
      subst (λ es. Knows new es) (sym (ap (λ j. take j all) (add-one i) ∙ take_next all i (emb_view x) rest item))
      (subst (λ t. Knows t (take i all ++ emb_view x ∷ [])) (sym n)
      (subst (λ j. Knows (with_cursor j (declared_cursor (emb_view x)) known) (take i all ++ emb_view x ∷ [])) (take_length all i (emb_view x) rest item)
      (knows_more known (take i all) (emb_view x) k)))
