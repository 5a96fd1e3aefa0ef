-- Terminals that are computed to be apart have no token in common.
use Rattle.std.proofs.Common.{◌≡◌, Bool, true, false, not, List, [], ◌∷◌, map, refl, ap, sym, ◌∙◌, subst}
use Rattle.std.proofs.lemmas.Bool.{false≢true, eqb-true}
use Rattle.std.specs.Prelude.{◌&&◌, nat_eq}
use Rattle.ec_embedded.proofs.shapes_lemmas.Firsts.{yes_first, yes_second, no_first, no_second}
use Rattle.ec_language.specs.Letters.{Text, lower, same_text, same_word}
use Rattle.ec_language.specs.SqlTokens.{SqlToken}
use Rattle.ec_embedded.specs.Terminals.{Sort, word, fitting, whole, number, character, quote, name, mark, sort_of, is_word_among, Test, none, all, among, but, passes, Terminal, is, none_among, all_among, tests_apart, sorts, apart_in, apart}

pub texts_equal : (a b : Text) → same_text a b ≡ true → a ≡ b
texts_equal [] [] e = refl
texts_equal [] (c ∷ b) e = absurd (false≢true e)
texts_equal (c ∷ a) [] e = absurd (false≢true e)
texts_equal (c ∷ a) (d ∷ b) e = go (nat_eq c d) refl (texts_equal a b) e
  where
    go : (t : Bool) → nat_eq c d ≡ t → (same_text a b ≡ true → a ≡ b) → (t && same_text a b) ≡ true → c ∷ a ≡ d ∷ b
    go true f g h = let p = eqb-true c d f in let q = g h in λ i. p i ∷ q i
    go false f g h = absurd (false≢true h)

-- a word stands for all that are the same word
like_among : (ws : List Text) (a b : Text) → map lower a ≡ map lower b → is_word_among ws a ≡ true → is_word_among ws b ≡ true
like_among [] a b e h = h
like_among (w ∷ ws) a b e h = go (same_word w a) refl (like_among ws a b e) h
  where
    go : (t : Bool) → same_word w a ≡ t → (is_word_among ws a ≡ true → is_word_among ws b ≡ true) → elim t [ true ↦ true | false ↦ is_word_among ws a ] ≡ true → elim (same_word w b) [ true ↦ true | false ↦ is_word_among ws b ] ≡ true
    go true f g k = subst (λ t. elim t [ true ↦ true | false ↦ is_word_among ws b ] ≡ true) (sym (ap (λ y. same_text (map lower w) y) (sym e) ∙ f)) refl
    go false f g k = subst (λ t. elim t [ true ↦ true | false ↦ is_word_among ws b ] ≡ true) (ap (λ y. same_text (map lower w) y) e) (subst (λ t. elim t [ true ↦ true | false ↦ is_word_among ws b ] ≡ true) (sym f) (g k))

none_sound : (ws us : List Text) (x : Text) → none_among ws us ≡ true → is_word_among ws x ≡ true → is_word_among us x ≡ true → ⊥
none_sound [] us x e h k = false≢true h
none_sound (w ∷ ws) us x e h k = go (same_word w x) refl (none_sound ws us x (no_second (is_word_among us w) (none_among ws us) e)) h
  where
    go : (t : Bool) → same_word w x ≡ t → (is_word_among ws x ≡ true → is_word_among us x ≡ true → ⊥) → elim t [ true ↦ true | false ↦ is_word_among ws x ] ≡ true → ⊥
    go true f g i = false≢true (sym (no_first (is_word_among us w) (none_among ws us) e) ∙ like_among us x w (sym (texts_equal (map lower w) (map lower x) f)) k)
    go false f g i = g i k

all_sound : (ws us : List Text) (x : Text) → all_among ws us ≡ true → is_word_among ws x ≡ true → is_word_among us x ≡ true
all_sound [] us x e h = absurd (false≢true h)
all_sound (w ∷ ws) us x e h = go (same_word w x) refl (all_sound ws us x (yes_second (is_word_among us w) (all_among ws us) e)) h
  where
    go : (t : Bool) → same_word w x ≡ t → (is_word_among ws x ≡ true → is_word_among us x ≡ true) → elim t [ true ↦ true | false ↦ is_word_among ws x ] ≡ true → is_word_among us x ≡ true
    go true f g i = like_among us w x (texts_equal (map lower w) (map lower x) f) (yes_first (is_word_among us w) (all_among ws us) e)
    go false f g i = g i

not_both : (b : Bool) → b ≡ true → not b ≡ true → ⊥
not_both true e h = false≢true h
not_both false e h = false≢true e

tests_sound : (s t : Test) (x : Text) → tests_apart s t ≡ true → passes s x ≡ true → passes t x ≡ true → ⊥
tests_sound none t x e h k = false≢true h
tests_sound all none x e h k = false≢true k
tests_sound (among ws) none x e h k = false≢true k
tests_sound (but ws) none x e h k = false≢true k
tests_sound (among ws) (among us) x e h k = none_sound ws us x e h k
tests_sound (among ws) (but us) x e h k = not_both (is_word_among us x) (all_sound ws us x e h) k
tests_sound (but ws) (among us) x e h k = not_both (is_word_among ws x) (all_sound us ws x e k) h
tests_sound all all x e h k = false≢true e
tests_sound all (among us) x e h k = false≢true e
tests_sound all (but us) x e h k = false≢true e
tests_sound (among ws) all x e h k = false≢true e
tests_sound (but ws) all x e h k = false≢true e
tests_sound (but ws) (but us) x e h k = false≢true e

abbrev At : (Sort → Bool → Test) → (Sort → Bool → Test) → Sort → Type 0
At f g s = (gap : Bool) → tests_apart (f s gap) (g s gap) ≡ true

here : (f g : Sort → Bool → Test) (s : Sort) (l : List Sort) → apart_in f g (s ∷ l) ≡ true → At f g s
here f g s l e true = yes_first (tests_apart (f s true) (g s true)) (elim (tests_apart (f s false) (g s false)) [ true ↦ apart_in f g l | false ↦ false ]) e
here f g s l e false = yes_first (tests_apart (f s false) (g s false)) (apart_in f g l) (yes_second (tests_apart (f s true) (g s true)) (elim (tests_apart (f s false) (g s false)) [ true ↦ apart_in f g l | false ↦ false ]) e)

later : (f g : Sort → Bool → Test) (s : Sort) (l : List Sort) → apart_in f g (s ∷ l) ≡ true → apart_in f g l ≡ true
later f g s l e = yes_second (tests_apart (f s false) (g s false)) (apart_in f g l) (yes_second (tests_apart (f s true) (g s true)) (elim (tests_apart (f s false) (g s false)) [ true ↦ apart_in f g l | false ↦ false ]) e)

at : (f g : Sort → Bool → Test) → apart_in f g sorts ≡ true → (s : Sort) → At f g s
at f g e word = here f g word (fitting ∷ whole ∷ number ∷ character ∷ quote ∷ name ∷ mark ∷ []) e
at f g e fitting = here f g fitting (whole ∷ number ∷ character ∷ quote ∷ name ∷ mark ∷ []) (later f g word (fitting ∷ whole ∷ number ∷ character ∷ quote ∷ name ∷ mark ∷ []) e)
at f g e whole = here f g whole (number ∷ character ∷ quote ∷ name ∷ mark ∷ []) (later f g fitting (whole ∷ number ∷ character ∷ quote ∷ name ∷ mark ∷ []) (later f g word (fitting ∷ whole ∷ number ∷ character ∷ quote ∷ name ∷ mark ∷ []) e))
at f g e number = here f g number (character ∷ quote ∷ name ∷ mark ∷ []) (later f g whole (number ∷ character ∷ quote ∷ name ∷ mark ∷ []) (later f g fitting (whole ∷ number ∷ character ∷ quote ∷ name ∷ mark ∷ []) (later f g word (fitting ∷ whole ∷ number ∷ character ∷ quote ∷ name ∷ mark ∷ []) e)))
at f g e character = here f g character (quote ∷ name ∷ mark ∷ []) (later f g number (character ∷ quote ∷ name ∷ mark ∷ []) (later f g whole (number ∷ character ∷ quote ∷ name ∷ mark ∷ []) (later f g fitting (whole ∷ number ∷ character ∷ quote ∷ name ∷ mark ∷ []) (later f g word (fitting ∷ whole ∷ number ∷ character ∷ quote ∷ name ∷ mark ∷ []) e))))
at f g e quote = here f g quote (name ∷ mark ∷ []) (later f g character (quote ∷ name ∷ mark ∷ []) (later f g number (character ∷ quote ∷ name ∷ mark ∷ []) (later f g whole (number ∷ character ∷ quote ∷ name ∷ mark ∷ []) (later f g fitting (whole ∷ number ∷ character ∷ quote ∷ name ∷ mark ∷ []) (later f g word (fitting ∷ whole ∷ number ∷ character ∷ quote ∷ name ∷ mark ∷ []) e)))))
at f g e name = here f g name (mark ∷ []) (later f g quote (name ∷ mark ∷ []) (later f g character (quote ∷ name ∷ mark ∷ []) (later f g number (character ∷ quote ∷ name ∷ mark ∷ []) (later f g whole (number ∷ character ∷ quote ∷ name ∷ mark ∷ []) (later f g fitting (whole ∷ number ∷ character ∷ quote ∷ name ∷ mark ∷ []) (later f g word (fitting ∷ whole ∷ number ∷ character ∷ quote ∷ name ∷ mark ∷ []) e))))))
at f g e mark = here f g mark [] (later f g name (mark ∷ []) (later f g quote (name ∷ mark ∷ []) (later f g character (quote ∷ name ∷ mark ∷ []) (later f g number (character ∷ quote ∷ name ∷ mark ∷ []) (later f g whole (number ∷ character ∷ quote ∷ name ∷ mark ∷ []) (later f g fitting (whole ∷ number ∷ character ∷ quote ∷ name ∷ mark ∷ []) (later f g word (fitting ∷ whole ∷ number ∷ character ∷ quote ∷ name ∷ mark ∷ []) e)))))))

pub sound : (t u : Terminal) (x : SqlToken) → apart t u ≡ true → is t x ≡ true → is u x ≡ true → ⊥
sound t u x e h k = tests_sound (t.test (sort_of x) x.gap) (u.test (sort_of x) x.gap) x.bytes (at t.test u.test e (sort_of x) x.gap) h k
