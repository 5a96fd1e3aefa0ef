-- Declarations and functions at the top level.
use Rattle.std.proofs.Common.{◌≡◌, ℕ, zero, suc, true, false, List, [], ◌∷◌, ◌++◌, length, refl, sym, ap, ◌∙◌}
use Rattle.std.specs.Prelude.{Option, Some, None, Ok, Err, if◌then◌else◌}
use Rattle.std.proofs.lemmas.Bool.{false≢true}
use Rattle.ec_ctypes.specs.declared.text.token.Punct.TheVariants as p
use Rattle.ec_ctypes.specs.trees.Exprs.{BaseData, DeclaratorData}
use Rattle.ec_ctypes.specs.trees.Units.{TopData}
use Rattle.ec_ctypes.specs.views.Exprs.{dims_of, init_of, declarators_of}
use Rattle.ec_language.specs.Grammar.{Counts, in_declarator, behind_declarator}
use Rattle.ec_language.specs.Letters.{Text}
use Rattle.ec_language.specs.Productions.{Start, BehindName, function, object, text_of, external_named, external_top}
use Rattle.ec_language.specs.Syntax.{limits}
use Rattle.ec_grammar.specs.declared.failure.Failure.{Failure}
use Rattle.ec_grammar.specs.declared.kind.Kind.{Kind}
use Rattle.ec_grammar.specs.declared.kind.Kind.TheVariants as k
use Rattle.ec_grammar.specs.Input.{State, state, Outcome, Parser, and_then, ◌>>=◌, pure, own, expect, kind_at}
use Rattle.ec_grammar.specs.Lists.{separated, separated_from}
use Rattle.ec_grammar.specs.Starts.{is_comma, is_left_parenthesis}
use Rattle.ec_grammar.specs.ReadDeclarations.{specifiers, stars, lengths, initializer_option, declarator_part, more_declarators}
use Rattle.ec_grammar.specs.ReadStatements.{body, body_of, behind_name, behind_name_by, external, external_tail, external_tail_by}
use Rattle.ec_csyntax.specs.Tops.{top_inner, top_deeper, is_semicolon, object_declarators, named, named_function, named_object, tail, nameless, with_name}

-- what is made of what is read
abbrev made : {A B : Type 0} → (A → B) → Outcome A → Outcome B
made f o = and_then o (λ a. pure (f a))

then_made : {A B C : Type 0} (o : Outcome A) (f : A → Parser C) (g : A → Parser B) (h : B → C) → ((a : A) (j : State) → f a j ≡ made h (g a j)) → and_then o f ≡ made h (and_then o g)
then_made (Ok a) f g h each = each a.0 a.1
then_made (Err e) f g h each = refl

-- with a declarator in front
more_front : (d : DeclaratorData) (m : ℕ) (found : List DeclaratorData) (i : State)
    → separated_from (own (declarator_part limits top_inner)) m (d ∷ found) i ≡ made (λ xs. d ∷ xs) (separated_from (own (declarator_part limits top_inner)) m found i)
unfolding separated_from
more_front d zero found i = refl
more_front d (suc m) found i =
    elim (is_comma (kind_at i.tokens)) as (λ t.
    (if t then (expect (k.Mark p.Comma) >>= (λ _. own (declarator_part limits top_inner) >>= (λ x. separated_from (own (declarator_part limits top_inner)) m ((d ∷ found) ++ x ∷ [])))) else pure (d ∷ found)) i
    ≡ made (λ xs. d ∷ xs) ((if t then (expect (k.Mark p.Comma) >>= (λ _. own (declarator_part limits top_inner) >>= (λ x. separated_from (own (declarator_part limits top_inner)) m (found ++ x ∷ [])))) else pure found) i)) [
      | true ↦ then_made (expect (k.Mark p.Comma) i) _ _ _ (λ t j. then_made (own (declarator_part limits top_inner) j) _ _ _ (λ x l. more_front d m (found ++ x ∷ []) l))
      | false ↦ refl
    ]

pub declarators_front : (d : DeclaratorData) (i : State) → more_declarators limits top_inner (d ∷ []) i ≡ made (λ xs. d ∷ xs) (more_declarators limits top_inner [] i)
unfolding separated
declarators_front d i = more_front d (length i.tokens) [] i

-- what is read with stars and lengths of its own
abbrev left_by : {A : Type 0} → (Counts → Counts) → Outcome A → Outcome A
left_by f (Ok x) = Ok (x.0, state x.1.tokens (f x.1.counts))
left_by f (Err e) = Err e

own_made : {A B : Type 0} (q : Parser A) (f : A → B) (i : State) → own (λ j. made f (q j)) i ≡ made f (own q i)
unfolding own
own_made q f i =
    elim (q (state i.tokens (in_declarator i.counts))) as (λ o. left_by (behind_declarator i.counts) (made f o) ≡ made f (left_by (behind_declarator i.counts) o)) [
      | Ok a ↦ refl
      | Err e ↦ refl
    ]

own_read : {A : Type 0} (q : Parser A) (i k l : State) (a : A) → k ≡ state i.tokens (in_declarator i.counts) → q k ≡ Ok (a, l) → own q i ≡ Ok (a, state l.tokens (behind_declarator i.counts l.counts))
unfolding own
own_read q i k l a at read = ap (left_by (behind_declarator i.counts)) (ap q (sym at) ∙ read)

own_failed : {A : Type 0} (q : Parser A) (i k : State) (e : Failure) → k ≡ state i.tokens (in_declarator i.counts) → q k ≡ Err e → own q i ≡ Err e
unfolding own
own_failed q i k e at read = ap (left_by (behind_declarator i.counts)) (ap q (sym at) ∙ read)

-- what stands behind a base, with stars and lengths of its own
behind_base : (x : Start) (b : BaseData) (i j : State) → specifiers limits top_inner i ≡ Ok (b, j) → external limits top_inner top_deeper x i ≡ own (tail x b) j
unfolding external tail
behind_base x b i j e =
    ap (λ o. and_then o (λ b'. own (external_tail limits top_inner top_deeper) >>= (λ t. pure (external_top x b' t)))) e
    ∙ sym (own_made (external_tail limits top_inner top_deeper) (external_top x b) j)

-- a declaration or function, read in its steps
pub whole_external : (x : Start) (b : BaseData) (i j k l m : State) (outside : Counts) (top : TopData) → specifiers limits top_inner i ≡ Ok (b, j) → k ≡ state j.tokens (in_declarator j.counts)
    → outside ≡ j.counts → tail x b k ≡ Ok (top, l) → m ≡ state l.tokens (behind_declarator outside l.counts) → external limits top_inner top_deeper x i ≡ Ok (top, m)
whole_external x b i j k l m outside top first at out second last =
    behind_base x b i j first ∙ own_read (tail x b) j k l top at second ∙ (λ n. Ok (top, sym (last ∙ ap (λ (c : Counts). state l.tokens (behind_declarator c l.counts)) out) n))

pub no_tail : (x : Start) (b : BaseData) (i j k : State) (e : Failure) → specifiers limits top_inner i ≡ Ok (b, j) → k ≡ state j.tokens (in_declarator j.counts) → tail x b k ≡ Err e
    → external limits top_inner top_deeper x i ≡ Err e
no_tail x b i j k e first at second = behind_base x b i j first ∙ own_failed (tail x b) j k e at second

pub no_base : (x : Start) (i : State) (e : Failure) → specifiers limits top_inner i ≡ Err e → external limits top_inner top_deeper x i ≡ Err e
unfolding external
no_base x i e is = ap (λ o. and_then o (λ b'. own (external_tail limits top_inner top_deeper) >>= (λ t. pure (external_top x b' t)))) is

-- ---- behind a name

left_kind : (j : Kind) → is_left_parenthesis j ≡ true → behind_name_by limits top_inner top_deeper j ≡ behind_name_by limits top_inner top_deeper (k.Mark p.LeftParen)
left_kind (k.Mark p.LeftParen) e = refl
left_kind _ e = absurd (false≢true e)

other_kind : (j : Kind) → is_left_parenthesis j ≡ false → behind_name_by limits top_inner top_deeper j ≡ behind_name_by limits top_inner top_deeper k.End
other_kind (k.Mark p.LeftParen) e = absurd (false≢true (sym e))
other_kind _ e = refl

made_last : {A B C : Type 0} (o : Outcome A) (f : A → B) (h : B → C) → made h (and_then o (λ a. pure (f a))) ≡ and_then o (λ a. pure (h (f a)))
made_last (Ok a) f h = refl
made_last (Err e) f h = refl

made_first : {A B C : Type 0} (o : Outcome A) (f : A → Parser B) (g : A → Parser C) (h : B → C) → ((a : A) (j : State) → made h (f a j) ≡ g a j) → made h (and_then o f) ≡ and_then o g
made_first (Ok a) f g h each = each a.0 a.1
made_first (Err e) f g h each = refl

made_both : {A B C D : Type 0} (o : Outcome A) (f : A → Parser B) (u : A → Parser D) (g : D → Parser C) (h : B → C)
    → ((a : A) (j : State) → made h (f a j) ≡ and_then (u a j) g) → made h (and_then o f) ≡ and_then (and_then o u) g
made_both (Ok a) f u g h each = each a.0 a.1
made_both (Err e) f u g h each = refl

pub behind_function : (x : Start) (b : BaseData) (n : ℕ) (t : Text) (i : State) → is_left_parenthesis (kind_at i.tokens) ≡ true → named x b n t i ≡ named_function x b n t i
unfolding named named_function behind_name
behind_function x b n t i e =
    ap (λ (q : Parser BehindName). made (external_named x b n t) (q i)) (left_kind (kind_at i.tokens) e)
    ∙ made_first (top_inner.parameter_part i) _ _ (external_named x b n t) (λ ps j. made_last (body limits top_inner top_deeper j) (λ c. function ps (body_of limits top_inner top_deeper c)) (external_named x b n t))

pub behind_object : (x : Start) (b : BaseData) (n : ℕ) (t : Text) (i : State) → is_left_parenthesis (kind_at i.tokens) ≡ false → named x b n t i ≡ named_object x b n t i
unfolding named named_object object_declarators behind_name
behind_object x b n t i e =
    ap (λ (q : Parser BehindName). made (external_named x b n t) (q i)) (other_kind (kind_at i.tokens) e)
    ∙ made_both (lengths limits top_inner i) _ _ _ (external_named x b n t) (λ ds j.
    made_both (initializer_option limits top_inner j) _ _ _ (external_named x b n t) (λ y l.
    made_both (more_declarators limits top_inner [] l) _ _ _ (external_named x b n t) (λ xs m.
    made_last (expect (k.Mark p.Semicolon) m) (λ _. object (dims_of ds) (init_of y) (declarators_of xs)) (external_named x b n t))))

-- ---- behind a base

semicolon_kind : (j : Kind) → is_semicolon j ≡ true → external_tail_by limits top_inner top_deeper j ≡ external_tail_by limits top_inner top_deeper (k.Mark p.Semicolon)
semicolon_kind (k.Mark p.Semicolon) e = refl
semicolon_kind _ e = absurd (false≢true e)

named_kind : (j : Kind) → is_semicolon j ≡ false → external_tail_by limits top_inner top_deeper j ≡ external_tail_by limits top_inner top_deeper k.End
named_kind (k.Mark p.Semicolon) e = absurd (false≢true (sym e))
named_kind _ e = refl

pub tail_nameless : (x : Start) (b : BaseData) (i : State) → is_semicolon (kind_at i.tokens) ≡ true → tail x b i ≡ nameless x b i
unfolding tail nameless external_tail
tail_nameless x b i e =
    ap (λ (q : Parser (Option (ℕ × Text × BehindName))). made (external_top x b) (q i)) (semicolon_kind (kind_at i.tokens) e)
    ∙ made_last (expect (k.Mark p.Semicolon) i) (λ _. None) (external_top x b)

pub tail_with_name : (x : Start) (b : BaseData) (i : State) → is_semicolon (kind_at i.tokens) ≡ false → tail x b i ≡ with_name x b i
unfolding tail with_name named external_tail
tail_with_name x b i e =
    ap (λ (q : Parser (Option (ℕ × Text × BehindName))). made (external_top x b) (q i)) (named_kind (kind_at i.tokens) e)
    ∙ made_first (stars limits i) _ _ (external_top x b) (λ n j.
    made_first (expect k.Name j) _ _ (external_top x b) (λ t l.
    made_last (behind_name limits top_inner top_deeper l) (λ behind. Some (n, text_of t, behind)) (external_top x b)))

pub ruleset names = (behind_function, behind_object)

pub ruleset tails = (tail_nameless, tail_with_name)
