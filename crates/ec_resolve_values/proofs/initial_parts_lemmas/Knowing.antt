-- What is known of a value, step by step, and its bytes.
use Rattle.std.proofs.Common.{◌≡◌, ◌∙◌, ℕ, zero, suc, ◌+◌, ◌-◌, ◌<◌, ◌%◌, ◌/◌, List, [], ◌∷◌, ◌++◌, length, drop, get_or, map, Option, refl, sym, ap, arith, add-one, append_assoc}
use Rattle.std.proofs.Math.Seq.{drop-cons}
use Rattle.ec_code.specs.Trees.{Step, one, two, stepped, walked}
use Rattle.ec_code.specs.declared.step.Binary.TheVariants as binary
use Rattle.ec_code.specs.declared.step.Unary.TheVariants as unary
use Rattle.ec_memory_defs.specs.Memory.{ValueData, little_endian_bytes}
use Rattle.ec_meaning_defs.specs.resolved.Resolved.{Exp}
use Rattle.ec_resolving_defs.specs.Initializers.{known_value}
use Rattle.ec_resolve_values.specs.initial_parts.Known.{known_stepped, known_walked}

-- the first of what is left
pub drop_item : {A : Type 0} (xs : List A) (i : ℕ) (x : A) → i < length xs → x ≡ get_or xs i x → drop i xs ≡ x ∷ drop (i + 1) xs
drop_item xs i x lt e = drop-cons xs i x lt ∙ ap (λ y. y ∷ drop (suc i) xs) (sym e) ∙ ap (λ n. x ∷ drop n xs) (sym (add-one i))

one_known : (e : Exp) (s : Step) → known_value (stepped e s) ≡ known_stepped (known_value e) s
one_known e (one (unary.Member offset)) = refl
one_known e (one (unary.Load kind)) = refl
one_known e (one (unary.Whole size)) = refl
one_known e (one (unary.Put bytes)) = refl
one_known e (one (unary.Convert from to)) = refl
one_known e (one (unary.Negate t)) = refl
one_known e (one (unary.Flip t)) = refl
one_known e (one unary.Not) = refl
one_known e (two (binary.Store kind) a) = refl
one_known e (two (binary.Copy size) a) = refl
one_known e (two (binary.Update u) a) = refl
one_known e (two (binary.Operate op) a) = refl
one_known e (two binary.Both a) = refl
one_known e (two binary.Either a) = refl

-- what is known where an expression begins leads to what is known of it
pub walked_known : (e : Exp) (ss : List Step) → known_value (walked e ss) ≡ known_walked (known_value e) ss
walked_known e [] = refl
walked_known e (s ∷ ss) = walked_known (stepped e s) ss ∙ ap (λ v. known_walked v ss) (one_known e s)

-- one step more of those that are left
pub step_known : {S : Type 0} (view : S → Step) (ss : List S) (i : ℕ) (s : S) (v : Option ValueData) {more whole : Option ValueData}
    → i < length ss → s ≡ get_or ss i s → whole ≡ known_walked v (map view (drop i ss)) → more ≡ known_stepped v (view s)
    → whole ≡ known_walked more (map view (drop (i + 1) ss))
step_known view ss i s v lt is g e =
    g ∙ ap (λ l. known_walked v (map view l)) (drop_item ss i s lt is) ∙ ap (λ x. known_walked x (map view (drop (i + 1) ss))) (sym e)

-- one byte more of those that are left
pub byte_more : (bytes more : List ℕ) (left rest b : ℕ) {whole : List ℕ} → 0 < left → more ≡ bytes ++ b ∷ [] → b ≡ rest % 256
    → bytes ++ little_endian_bytes left rest ≡ whole → more ++ little_endian_bytes (left - 1) (rest / 256) ≡ whole
byte_more bytes more zero rest b lt put is g = absurd (omega arith)
byte_more bytes more (suc left) rest b lt put is g =
    let less : suc left - 1 ≡ left = omega arith in
    ap (λ n. more ++ little_endian_bytes n (rest / 256)) less
    ∙ ap (λ l. l ++ little_endian_bytes left (rest / 256)) put
    ∙ append_assoc bytes (b ∷ []) (little_endian_bytes left (rest / 256))
    ∙ ap (λ x. bytes ++ x ∷ little_endian_bytes left (rest / 256)) is
    ∙ g
