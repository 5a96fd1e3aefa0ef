-- Bytes and parts are joined from the front as from the end.
use Rattle.std.proofs.Common.{◌≡◌, ◌∙◌, ℕ, Bool, true, false, List, [], ◌∷◌, ◌++◌, length, take, Result, Ok, Err, IfOk, refl, ap, append_assoc}
use Rattle.ec_meaning_defs.specs.functions.Formats as of
use Rattle.ec_printf.specs.Gathering.{plain_before, IsDirective}

-- one byte more
pub one_byte : (bs : List ℕ) (b : ℕ) (ps : List of.Part) → plain_before (bs ++ b ∷ []) ps ≡ plain_before bs (of.before_parts (of.plain (b ∷ [])) ps)
one_byte [] b ps = refl
one_byte (c ∷ cs) b [] = refl
one_byte (c ∷ cs) b (of.plain ds ∷ ps) = ap (λ xs. of.plain (c ∷ xs) ∷ ps) (append_assoc cs (b ∷ []) ds)
one_byte (c ∷ cs) b (of.integer f wide style ∷ ps) = refl
one_byte (c ∷ cs) b (of.character f ∷ ps) = refl
one_byte (c ∷ cs) b (of.text f precision ∷ ps) = refl

-- a directive behind bytes
pub directive_behind : (bs : List ℕ) (d : of.Part) (ps : List of.Part) → IsDirective d → plain_before bs (d ∷ ps) ≡ plain_before bs [] ++ d ∷ ps
directive_behind [] d ps h = refl
directive_behind (b ∷ bs) (of.plain cs) ps h = absurd h
directive_behind (b ∷ bs) (of.integer f wide style) ps h = refl
directive_behind (b ∷ bs) (of.character f) ps h = refl
directive_behind (b ∷ bs) (of.text f precision) ps h = refl

-- what is at the front of a text is the front of that length
kept : (b : ℕ) (bs fs : List ℕ) (t : Bool) → take (length fs) bs ≡ fs → take (length (elim t as (λ _. List ℕ) [ true ↦ b ∷ fs | false ↦ [] ])) (b ∷ bs) ≡ elim t as (λ _. List ℕ) [ true ↦ b ∷ fs | false ↦ [] ]
kept b bs fs true h = ap (λ xs. b ∷ xs) h
kept b bs fs false h = refl

pub front_taken : (test : ℕ → Bool) (text : List ℕ) → take (length (of.front_while test text)) text ≡ of.front_while test text
front_taken test [] = refl
front_taken test (b ∷ bs) = kept b bs (of.front_while test bs) (test b) (front_taken test bs)

-- what is so of an answer that is there is so of an equal one
pub ok_as : {A B E : Type 0} (r : Result A E) (f : A → B) {a b : B} → a ≡ b → IfOk r (λ x. f x ≡ a) → IfOk r (λ x. f x ≡ b)
ok_as (Ok x) f e p = p ∙ e
ok_as (Err x) f e p = p
