-- Readings of shapes, step by step.
use Rattle.std.proofs.Common.{◌≡◌, ℕ, zero, suc, Bool, true, false, List, [], ◌∷◌, length, refl, ap, ◌∙◌, fold, inl, inr}
use Rattle.ec_embedded.specs.shapes.Shapes.{nothing, one, both, either, many}
use Rattle.ec_embedded.specs.shapes.ReadShapes.{done, stopped, and_then, turns, read, read_one, first_set, is_next_among}
use Rattle.ec_embedded.proofs.shapes_lemmas.Made.{made}
use Rattle.ec_language.specs.SqlTokens.{SqlToken}
use Rattle.ec_embedded.specs.Terminals.{Counts, Terminal, alphabet}
use Rattle.ec_embedded.specs.References.{Form, Of}
use Rattle.ec_embedded.specs.ServerText.{Tokens, Reading}
use Rattle.ec_references.specs.Readers.{Reader, turns_from}

made_twice : {A B C : Type 0} (o : Reading A) (f : A → B) (h : B → C) → made h (made f o) ≡ made (λ v. h (f v)) o
made_twice (done v n w) f h = refl
made_twice (stopped e) f h = refl

-- What is made of the trees of a form is read by this.
pub record Is {C : Type 0} (a : Form) (h : Of a → C) (p : Reader C) : Type 0 where
  pub is : (n : Counts) (w : Tokens) → made h (read alphabet a n w) ≡ p n w

-- A choice is read by the readings of its parts,
pub of_either : {C : Type 0} {a b : Form} {h : Of (either a b) → C} {p q : Reader C} → Is a (λ v. h (inl v)) p → Is b (λ v. h (inr v)) q
    → Is (either a b) h (λ n w. elim (is_next_among alphabet (first_set a) w) as (λ _. Reading C) [ true ↦ p n w | false ↦ q n w ])
of_either {C} {a} {b} {h} {p} {q} f g = record { is = λ n w. go n w (is_next_among alphabet (first_set a) w) }
  where
    go : (n : Counts) (w : Tokens) (c : Bool) → made h (elim c as (λ _. Reading (Of (either a b))) [ true ↦ and_then (read alphabet a n w) (λ v m r. done (inl v) m r) | false ↦ and_then (read alphabet b n w) (λ v m r. done (inr v) m r) ])
        ≡ elim c as (λ _. Reading C) [ true ↦ p n w | false ↦ q n w ]
    go n w true = made_twice (read alphabet a n w) (λ v. inl v) h ∙ f.is n w
    go n w false = made_twice (read alphabet b n w) (λ v. inr v) h ∙ g.is n w

made_pair : {A B C : Type 0} (o : Reading B) (v : A) (h : A × B → C) → made h (and_then o (λ u i y. done (v, u) i y)) ≡ made (λ u. h (v, u)) o
made_pair (done u i y) v h = refl
made_pair (stopped e) v h = refl

-- two, one behind the other, by the first and then the second,
pub of_both : {A C : Type 0} {a b : Form} {h : Of (both a b) → C} {f : Of a → A} {p : Reader A} (k : A → Reader C) → Is a f p → ((v : Of a) → Is b (λ u. h (v, u)) (k (f v))) → Is (both a b) h (λ n w. and_then (p n w) k)
of_both {A} {C} {a} {b} {h} {f} {p} k e g = record { is = λ n w. go (read alphabet a n w) (p n w) (e.is n w) }
  where
    go : (o : Reading (Of a)) (x : Reading A) → made f o ≡ x → made h (and_then o (λ v m r. and_then (read alphabet b m r) (λ u i y. done (v, u) i y))) ≡ and_then x k
    go (done v m r) x d = made_pair (read alphabet b m r) v h ∙ (g v).is m r ∙ ap (λ y. and_then y k) d
    go (stopped s) x d = ap (λ y. and_then y k) d

-- a terminal by its token, and nothing at once
made_same : {A : Type 0} (o : Reading A) → made (λ v. v) o ≡ o
made_same (done v n w) = refl
made_same (stopped e) = refl

pub of_one : {t : Terminal} → Is (one t) (λ v. v) (λ n w. read_one alphabet t n w)
of_one {t} = record { is = λ n w. made_same (read_one alphabet t n w) }

pub of_last : {C : Type 0} {t : Terminal} {h : SqlToken → C} → Is (one t) h (λ n w. and_then (read_one alphabet t n w) (λ v m r. done (h v) m r))
of_last = record { is = λ n w. refl }

pub of_nothing : {C : Type 0} {h : Of nothing → C} → Is nothing h (λ n w. done (h tt) n w)
of_nothing = record { is = λ n w. refl }

-- another making of what was made
pub of_made : {A C : Type 0} {a : Form} {f : Of a → A} {p : Reader A} (g : A → C) → Is a f p → Is a (λ v. g (f v)) (λ n w. and_then (p n w) (λ v m r. done (g v) m r))
of_made {A} {C} {a} {f} {p} g e = record { is = λ n w. go (read alphabet a n w) (p n w) (e.is n w) }
  where
    go : (o : Reading (Of a)) (x : Reading A) → made f o ≡ x → made (λ v. g (f v)) o ≡ and_then x (λ v m r. done (g v) m r)
    go (done v m r) x d = ap (λ y. and_then y (λ v m r. done (g v) m r)) d
    go (stopped s) x d = ap (λ y. and_then y (λ v m r. done (g v) m r)) d

made_cons : {A B : Type 0} (o : Reading (List A)) (v : A) (h : List A → B) → made h (and_then o (λ vs i y. done (v ∷ vs) i y)) ≡ made (λ vs. h (v ∷ vs)) o
made_cons (done vs i y) v h = refl
made_cons (stopped e) v h = refl

-- and a repetition by its turns.
of_turns : {A B : Type 0} (goes : Tokens → Bool) (f : Reader A) (step : B → A → B) (g : B → Reader B) → ((b : B) (n : Counts) (w : Tokens) → made (step b) (f n w) ≡ g b n w)
    → (k : ℕ) (b : B) (n : Counts) (w : Tokens) → made (λ vs. fold step b vs) (turns alphabet goes f k n w) ≡ turns_from goes g k b n w
of_turns goes f step g e zero b n w = refl
of_turns {A} {B} goes f step g e (suc k) b n w = go (λ c m r. of_turns goes f step g e k c m r) (goes w)
  where
    rest : ((c : B) (m : Counts) (r : Tokens) → made (λ vs. fold step c vs) (turns alphabet goes f k m r) ≡ turns_from goes g k c m r) → (o : Reading A) (p : Reading B) → made (step b) o ≡ p
        → made (λ vs. fold step b vs) (and_then o (λ v m r. and_then (turns alphabet goes f k m r) (λ vs i y. done (v ∷ vs) i y))) ≡ and_then p (λ c m r. turns_from goes g k c m r)
    rest again (done v m r) p d = made_cons (turns alphabet goes f k m r) v (λ vs. fold step b vs) ∙ again (step b v) m r ∙ ap (λ x. and_then x (λ c m r. turns_from goes g k c m r)) d
    rest again (stopped s) p d = ap (λ x. and_then x (λ c m r. turns_from goes g k c m r)) d

    go : ((c : B) (m : Counts) (r : Tokens) → made (λ vs. fold step c vs) (turns alphabet goes f k m r) ≡ turns_from goes g k c m r) → (c : Bool)
        → made (λ vs. fold step b vs) (elim c as (λ _. Reading (List A)) [ true ↦ and_then (f n w) (λ v m r. and_then (turns alphabet goes f k m r) (λ vs i y. done (v ∷ vs) i y)) | false ↦ done [] n w ])
        ≡ elim c as (λ _. Reading B) [ true ↦ and_then (g b n w) (λ c m r. turns_from goes g k c m r) | false ↦ done b n w ]
    go again true = rest again (f n w) (g b n w) (e b n w)
    go again false = refl

pub of_many : {B : Type 0} {a : Form} {step : B → Of a → B} {g : B → Reader B} (b : B) → ((b : B) → Is a (λ v. step b v) (g b)) → Is (many a) (λ vs. fold step b vs) (λ n w. turns_from (is_next_among alphabet (first_set a)) g (length w) b n w)
of_many {B} {a} {step} {g} b e = record { is = λ n w. of_turns (is_next_among alphabet (first_set a)) (read alphabet a) step g (λ c m r. (e c).is m r) (length w) b n w }
