-- Which kinds the terminals of the grammar are, and that a token is what its kind says.
use Rattle.std.proofs.Common.{◌≡◌, Bool, true, false, not, List, [], ◌∷◌, refl, sym, ap, ◌∙◌, subst, codes, rules}
use Rattle.std.specs.Prelude.{◌&&◌, ◌||◌}
use Rattle.std.proofs.lemmas.Bool.{false≢true, eq-eqb}
use denote.Enum.Bare.{same_true}
use Rattle.ec_ctypes.specs.contracts.text.token.Punct.{the_type}
use Rattle.ec_ctypes.specs.declared.text.token.Punct.TheVariants as p
use Rattle.ec_ctypes.specs.trees.Tokens.{TokData, word_token, integer_token, character_token, string_token, punct_token, include_token, emb_token, section_start, section_end, end_token}
use Rattle.ec_language.specs.Letters.{Text, same_text, is_among}
use Rattle.ec_language.specs.Keywords.{type_words, varchar_words, other_keywords}
use Rattle.ec_language.specs.Productions.{Terminal, is, same_punct}
use Rattle.ec_language.specs.Productions as g
use Rattle.ec_language.proofs.Marks.{same_text_is}
use Rattle.ec_grammar.specs.declared.kind.Kind.{Kind}
use Rattle.ec_grammar.specs.declared.kind.Kind.TheVariants as k
use Rattle.ec_grammar.specs.Kinds.{Keyword, keywords, kind_among, word_kind, emb_kind, kind_of, terminal, same_kind}

-- ---- texts

pub same_self : (w : Text) → same_text w w ≡ true
same_self [] = refl
same_self (b ∷ w) = subst (λ c. (c && same_text w w) ≡ true) (sym (eq-eqb b b refl)) (same_self w)

flipped : (a b : Text) → same_text a b ≡ true → same_text b a ≡ true
flipped a b e = subst (λ c. same_text b c ≡ true) (sym (same_text_is a b e)) (same_self b)

either : (a b : Bool) → (a || b) ≡ false → (a ≡ false) × (b ≡ false)
either true b e = absurd (false≢true (sym e))
either false b e = (refl, e)

not_true : (a : Bool) → not a ≡ true → a ≡ false
not_true true e = absurd (false≢true e)
not_true false e = refl

not_both : (b : Bool) → b ≡ true → b ≡ false → ⊥
not_both b e f = false≢true (sym f ∙ e)

other_way : (a b : Text) → same_text a b ≡ false → same_text b a ≡ false
other_way a b e = go (same_text b a) refl
  where
    go : (t : Bool) → same_text b a ≡ t → t ≡ false
    go true f = absurd (not_both (same_text a b) (flipped b a f) e)
    go false f = refl

-- ---- kinds

pub kind_is : (i j : Kind) → same_kind i j ≡ true → i ≡ j
kind_is (k.Mark m) (k.Mark n) e = ap (λ x. k.Mark x) (same_true the_type (search rules) m n e)
kind_is k.Static k.Static e = refl
kind_is k.Const k.Const e = refl
kind_is k.Struct k.Struct e = refl
kind_is k.If k.If e = refl
kind_is k.Else k.Else e = refl
kind_is k.While k.While e = refl
kind_is k.Do k.Do e = refl
kind_is k.For k.For e = refl
kind_is k.Break k.Break e = refl
kind_is k.Continue k.Continue e = refl
kind_is k.Return k.Return e = refl
kind_is k.Goto k.Goto e = refl
kind_is k.Sizeof k.Sizeof e = refl
kind_is k.TypeWord k.TypeWord e = refl
kind_is k.Varchar k.Varchar e = refl
kind_is k.Name k.Name e = refl
kind_is k.Integer k.Integer e = refl
kind_is k.Character k.Character e = refl
kind_is k.Text k.Text e = refl
kind_is k.Include k.Include e = refl
kind_is k.Executable k.Executable e = refl
kind_is k.Directive k.Directive e = refl
kind_is k.Opening k.Opening e = refl
kind_is k.Closing k.Closing e = refl
kind_is k.End k.End e = refl
kind_is _ _ e = absurd (false≢true e)

same_own : (j : Kind) → same_kind j j ≡ true
same_own (k.Mark p.Arrow) = refl
same_own (k.Mark _) = refl
same_own _ = refl

pub is_kind : (i j : Kind) → i ≡ j → same_kind i j ≡ true
is_kind i j e = subst (λ x. same_kind i x ≡ true) e (same_own i)

-- the kind of the tokens that are such a terminal
abbrev pub kind_for : Terminal → Kind
kind_for (g.mark m) = k.Mark m
kind_for (g.keyword w) = word_kind w
kind_for g.type_word = k.TypeWord
kind_for g.varchar_word = k.Varchar
kind_for g.name = k.Name
kind_for g.integer_constant = k.Integer
kind_for g.character_constant = k.Character
kind_for g.string_literal = k.Text
kind_for g.include_line = k.Include
kind_for g.executable = k.Executable
kind_for g.directive = k.Directive
kind_for g.opening_mark = k.Opening
kind_for g.closing_mark = k.Closing
kind_for g.end_of_text = k.End

abbrev pub fits : Terminal → Kind → Bool
fits t j = same_kind j (kind_for t)

-- ---- words

abbrev texts : List Keyword → List Text
texts [] = []
texts (x ∷ xs) = x.text ∷ texts xs

no_keyword : (xs : List Keyword) (w : Text) → is_among (texts xs) w ≡ false → kind_among xs w ≡ k.Name
no_keyword [] w e = refl
no_keyword (x ∷ xs) w e =
    let f = either (same_text x.text w) (is_among (texts xs) w) e in
    subst (λ b. elim b [ true ↦ x.kind | false ↦ kind_among xs w ] ≡ k.Name) (sym (other_way x.text w f.0)) (no_keyword xs w f.1)

abbrev Proper : List Keyword → Type 0
Proper [] = Unit {0}
Proper (x ∷ xs) = (terminal x.kind ≡ g.keyword x.text) × Proper xs

keyword_is : (xs : List Keyword) → Proper xs → (w : Text) → (is_among (texts xs) w ≡ false → is g.name (word_token w) ≡ true) → is (terminal (kind_among xs w)) (word_token w) ≡ true
keyword_is [] h w f = f refl
keyword_is (x ∷ xs) h w f = go (keyword_is xs h.1 w) (same_text w x.text) refl
  where
    go : ((is_among (texts xs) w ≡ false → is g.name (word_token w) ≡ true) → is (terminal (kind_among xs w)) (word_token w) ≡ true) → (b : Bool) → same_text w x.text ≡ b
        → is (terminal (elim b [ true ↦ x.kind | false ↦ kind_among xs w ])) (word_token w) ≡ true
    go again true e = subst (λ t. is t (word_token w) ≡ true) (sym h.0) e
    go again false e = again (λ n. f (subst (λ b. (b || is_among (texts xs) w) ≡ false) (sym (other_way w x.text e)) n))

word_is : (w : Text) → is (terminal (word_kind w)) (word_token w) ≡ true
word_is w = go (is_among type_words w) refl (is_among varchar_words w) refl
  where
    go : (a : Bool) → is_among type_words w ≡ a → (b : Bool) → is_among varchar_words w ≡ b
        → is (terminal (elim a [ true ↦ k.TypeWord | false ↦ elim b [ true ↦ k.Varchar | false ↦ kind_among keywords w ] ])) (word_token w) ≡ true
    go true e b f = e
    go false e true f = f
    go false e false f = keyword_is keywords (refl, (refl, (refl, (refl, (refl, (refl, (refl, (refl, (refl, (refl, (refl, (refl, (refl, tt))))))))))))) w
        (λ n. λ i. not (e i || f i || n i))

-- A token is what its kind says.
own_terminal : (t : TokData) → is (terminal (kind_of t)) t ≡ true
own_terminal (word_token w) = word_is w
own_terminal (integer_token n t) = refl
own_terminal (character_token c) = refl
own_terminal (string_token s) = refl
own_terminal (punct_token m) = same_own (k.Mark m)
own_terminal (include_token bytes) = refl
own_terminal (emb_token n true) = refl
own_terminal (emb_token n false) = refl
own_terminal section_start = refl
own_terminal section_end = refl
own_terminal end_token = refl

pub kind_terminal : (t : TokData) (j : Kind) → kind_of t ≡ j → is (terminal j) t ≡ true
kind_terminal t j e = subst (λ i. is (terminal i) t ≡ true) e (own_terminal t)

-- ---- and no other

no_type_word : (w : Text) → is_among varchar_words w ≡ true → is_among type_words w ≡ false
no_type_word w e = go (same_text (codes "VARCHAR") w) refl (same_text (codes "varchar") w) refl e
  where
    go : (a : Bool) → same_text (codes "VARCHAR") w ≡ a → (b : Bool) → same_text (codes "varchar") w ≡ b → (a || (b || false)) ≡ true → is_among type_words w ≡ false
    go true f b h x = subst (λ v. is_among type_words v ≡ false) (same_text_is (codes "VARCHAR") w f) refl
    go false f true h x = subst (λ v. is_among type_words v ≡ false) (same_text_is (codes "varchar") w h) refl
    go false f false h x = absurd (false≢true x)

name_kind : (w : Text) → is g.name (word_token w) ≡ true → word_kind w ≡ k.Name
name_kind w e =
    let f = either (is_among type_words w || is_among varchar_words w) (is_among other_keywords w) (not_true (is_among type_words w || is_among varchar_words w || is_among other_keywords w) e) in
    let h = either (is_among type_words w) (is_among varchar_words w) f.0 in
    (λ i. elim (h.0 i) [ true ↦ k.TypeWord | false ↦ elim (h.1 i) [ true ↦ k.Varchar | false ↦ kind_among keywords w ] ]) ∙ no_keyword keywords w f.1

varchar_kind : (w : Text) → is_among varchar_words w ≡ true → word_kind w ≡ k.Varchar
varchar_kind w e = λ i. elim (no_type_word w e i) [ true ↦ k.TypeWord | false ↦ elim (e i) [ true ↦ k.Varchar | false ↦ kind_among keywords w ] ]

type_kind : (w : Text) → is_among type_words w ≡ true → word_kind w ≡ k.TypeWord
type_kind w e = λ i. elim (e i) [ true ↦ k.TypeWord | false ↦ elim (is_among varchar_words w) [ true ↦ k.Varchar | false ↦ kind_among keywords w ] ]

pub terminal_kind : (t : Terminal) (x : TokData) → is t x ≡ true → kind_of x ≡ kind_for t
terminal_kind (g.mark m) (punct_token n) e = ap (λ y. k.Mark y) (same_true the_type (search rules) n m e)
terminal_kind (g.keyword v) (word_token w) e = ap word_kind (same_text_is w v e)
terminal_kind g.type_word (word_token w) e = type_kind w e
terminal_kind g.varchar_word (word_token w) e = varchar_kind w e
terminal_kind g.name (word_token w) e = name_kind w e
terminal_kind g.integer_constant (integer_token n t) e = refl
terminal_kind g.character_constant (character_token c) e = refl
terminal_kind g.string_literal (string_token s) e = refl
terminal_kind g.include_line (include_token bytes) e = refl
terminal_kind g.executable (emb_token n executed) e = ap emb_kind e
terminal_kind g.directive (emb_token n executed) e = ap emb_kind (not_true executed e)
terminal_kind g.opening_mark section_start e = refl
terminal_kind g.closing_mark section_end e = refl
terminal_kind g.end_of_text end_token e = refl
terminal_kind _ _ e = absurd (false≢true e)

pub fitting : (t : Terminal) (x : TokData) → is t x ≡ true → fits t (kind_of x) ≡ true
fitting t x e = is_kind (kind_of x) (kind_for t) (terminal_kind t x e)

own_kind : (j : Kind) → kind_for (terminal j) ≡ j
own_kind k.Static = refl
own_kind _ = refl

pub terminal_own : (j : Kind) (x : TokData) → is (terminal j) x ≡ true → kind_of x ≡ j
terminal_own j x e = terminal_kind (terminal j) x e ∙ own_kind j

-- ---- terminals

abbrev pub same_terminal : Terminal → Terminal → Bool
same_terminal (g.mark m) (g.mark n) = same_punct m n
same_terminal (g.keyword v) (g.keyword w) = same_text v w
same_terminal g.type_word g.type_word = true
same_terminal g.varchar_word g.varchar_word = true
same_terminal g.name g.name = true
same_terminal g.integer_constant g.integer_constant = true
same_terminal g.character_constant g.character_constant = true
same_terminal g.string_literal g.string_literal = true
same_terminal g.include_line g.include_line = true
same_terminal g.executable g.executable = true
same_terminal g.directive g.directive = true
same_terminal g.opening_mark g.opening_mark = true
same_terminal g.closing_mark g.closing_mark = true
same_terminal g.end_of_text g.end_of_text = true
same_terminal _ _ = false

terminal_is : (s t : Terminal) → same_terminal s t ≡ true → s ≡ t
terminal_is (g.mark m) (g.mark n) e = ap (λ x. g.mark x) (same_true the_type (search rules) m n e)
terminal_is (g.keyword v) (g.keyword w) e = ap (λ x. g.keyword x) (same_text_is v w e)
terminal_is g.type_word g.type_word e = refl
terminal_is g.varchar_word g.varchar_word e = refl
terminal_is g.name g.name e = refl
terminal_is g.integer_constant g.integer_constant e = refl
terminal_is g.character_constant g.character_constant e = refl
terminal_is g.string_literal g.string_literal e = refl
terminal_is g.include_line g.include_line e = refl
terminal_is g.executable g.executable e = refl
terminal_is g.directive g.directive e = refl
terminal_is g.opening_mark g.opening_mark e = refl
terminal_is g.closing_mark g.closing_mark e = refl
terminal_is g.end_of_text g.end_of_text e = refl
terminal_is _ _ e = absurd (false≢true e)

-- The tokens of the kind are such terminals.
abbrev pub leads : Terminal → Kind → Bool
leads t j = same_terminal (terminal j) t

pub leading : (t : Terminal) (x : TokData) → leads t (kind_of x) ≡ true → is t x ≡ true
leading t x e = subst (λ s. is s x ≡ true) (terminal_is (terminal (kind_of x)) t e) (own_terminal x)
