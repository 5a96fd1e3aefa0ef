-- Tokens that are taken for embedded statements are such.
use Rattle.std.proofs.Common.{◌≡◌, ℕ, Bool, true, false, List, [], ◌∷◌, length, refl, sym, ap, subst, ◌∙◌}
use Rattle.std.specs.Prelude.{Ok, Err, if◌then◌else◌}
use Rattle.std.proofs.lemmas.Bool.{false≢true}
use Rattle.ec_ctypes.specs.trees.Tokens.{TokData, word_token, emb_token}
use Rattle.ec_language.specs.Grammar.{PlacedTokens, Counts}
use Rattle.ec_language.specs.Letters.{Text, same_text, is_among}
use Rattle.ec_language.specs.Keywords.{type_words, varchar_words}
use Rattle.ec_language.specs.Productions.{Placed}
use Rattle.ec_grammar.specs.declared.kind.Kind.{Kind}
use Rattle.ec_grammar.specs.declared.kind.Kind.TheVariants as k
use Rattle.ec_grammar.specs.declared.failure.Failure.TheVariants.{Dead}
use Rattle.ec_grammar.specs.Input.{State, state, Outcome, expect}
use Rattle.ec_grammar.specs.Kinds.{Keyword, keywords, kind_among, word_kind, kind_of, same_kind}
use Rattle.ec_csyntax.specs.Texts.{IsEmbedded}

-- a token that is read is of the kind that it is read as
abbrev read_by : Bool → Placed → State → PlacedTokens → Outcome Placed
read_by b u i w = if b then Ok (u, i) else Err (Dead (length w))

-- what a test of a token gives
abbrev ok_read : Placed → State → Outcome Placed
ok_read t j = Ok (t, j)

-- the token that is read
abbrev token_in : Placed → Outcome Placed → Placed
token_in d (Ok p) = p.0
token_in d (Err e) = d

same_read : (u t : Placed) (i j : State) → read_by true u i [] ≡ Ok (t, j) → u ≡ t
same_read u t i j e = ap (token_in u) e

none_read : (t : Placed) (j : State) (n : ℕ) → Err (Dead n) ≡ ok_read t j → ⊥
none_read t j n e = cc

by_test : (kind : Kind) (b : Bool) (u t : Placed) (i j : State) (w : PlacedTokens) → b ≡ same_kind (kind_of u.token.tok) kind → read_by b u i w ≡ Ok (t, j) → same_kind (kind_of t.token.tok) kind ≡ true
by_test kind true u t i j w is same = subst (λ (x : Placed). same_kind (kind_of x.token.tok) kind ≡ true) (same_read u t i j same) (sym is)
by_test kind false u t i j w is same = absurd (none_read t j (length w) same)

is_read : (kind : Kind) (w : PlacedTokens) (c : Counts) (t : Placed) (j : State) → expect kind (state w c) ≡ Ok (t, j) → same_kind (kind_of t.token.tok) kind ≡ true
unfolding expect
is_read kind [] c t j e = absurd (none_read t j 0 e)
is_read kind (u ∷ w) c t j e = by_test kind (same_kind (kind_of u.token.tok) kind) u t (state w c) j (u ∷ w) refl e

-- no keyword of a list is of this kind
abbrev AllDiffer : Kind → List Keyword → Type 0
AllDiffer kind [] = Unit {0}
AllDiffer kind (x ∷ xs) = (same_kind x.kind kind ≡ false) × AllDiffer kind xs

among_differs : (kind : Kind) (xs : List Keyword) (w : Text) → same_kind k.Name kind ≡ false → AllDiffer kind xs → same_kind (kind_among xs w) kind ≡ false
among_differs kind [] w named differ = named
among_differs kind (x ∷ xs) w named differ =
    elim (same_text w x.text) as (λ t. same_kind (elim t [ true ↦ x.kind | false ↦ kind_among xs w ]) kind ≡ false) [
      | true ↦ differ.0
      | false ↦ among_differs kind xs w named differ.1
    ]

word_differs : (kind : Kind) (w : Text) → same_kind k.TypeWord kind ≡ false → same_kind k.Varchar kind ≡ false → same_kind (kind_among keywords w) kind ≡ false → same_kind (word_kind w) kind ≡ false
word_differs kind w typed varchar named =
    elim (is_among type_words w) as (λ t. same_kind (elim t [ true ↦ k.TypeWord | false ↦ elim (is_among varchar_words w) [ true ↦ k.Varchar | false ↦ kind_among keywords w ] ]) kind ≡ false) [
      | true ↦ typed
      | false ↦ elim (is_among varchar_words w) as (λ t. same_kind (elim t [ true ↦ k.Varchar | false ↦ kind_among keywords w ]) kind ≡ false) [
        | true ↦ varchar
        | false ↦ named
      ]
    ]

is_executable : (tok : TokData) → same_kind (kind_of tok) k.Executable ≡ true → IsEmbedded tok
is_executable (word_token w) e =
    absurd (false≢true (sym (word_differs k.Executable w refl refl (among_differs k.Executable keywords w refl (refl, (refl, (refl, (refl, (refl, (refl, (refl, (refl, (refl, (refl, (refl, (refl, (refl, tt))))))))))))))) ∙ e))
is_executable (emb_token n executed) e = tt
is_executable _ e = absurd (false≢true e)

is_directive : (tok : TokData) → same_kind (kind_of tok) k.Directive ≡ true → IsEmbedded tok
is_directive (word_token w) e =
    absurd (false≢true (sym (word_differs k.Directive w refl refl (among_differs k.Directive keywords w refl (refl, (refl, (refl, (refl, (refl, (refl, (refl, (refl, (refl, (refl, (refl, (refl, (refl, tt))))))))))))))) ∙ e))
is_directive (emb_token n executed) e = tt
is_directive _ e = absurd (false≢true e)

pub read_executable : (i j : State) (t : Placed) → expect k.Executable i ≡ Ok (t, j) → IsEmbedded t.token.tok
read_executable i j t e = is_executable t.token.tok (is_read k.Executable i.tokens i.counts t j e)

pub read_directive : (i j : State) (t : Placed) → expect k.Directive i ≡ Ok (t, j) → IsEmbedded t.token.tok
read_directive i j t e = is_directive t.token.tok (is_read k.Directive i.tokens i.counts t j e)
