-- Texts that are put one after the other.
use Rattle.std.proofs.Common.{◌≡◌, ◌∙◌, ◌++◌, ◌+◌, ℕ, List, ap, sym, append_assoc, add-one, Result, Ok, Err}
use Rattle.std.specs.Prelude.{OnOk}
use Rattle.ec_generate.specs.Generated.{question, questions, opening, closing, generated}

-- three pieces behind a text, the last of them if there was memory
pub three : {T E : Type 0} (r : Result T E) (a b c d x y z : List ℕ) → x ≡ a ++ b → y ≡ x ++ c → OnOk r (z ≡ y ++ d) → OnOk r (z ≡ a ++ ((b ++ c) ++ d))
three (Ok v) a b c d x y z e f g =
    g ∙ ap (λ t. t ++ d) (f ∙ ap (λ t. t ++ c) e ∙ append_assoc a b c) ∙ append_assoc a (b ++ c) d
three (Err v) a b c d x y z e f g = tt

-- one more question
pub one_more : (asked : ℕ) (text now : List ℕ) → text ≡ opening ++ questions asked → now ≡ text ++ question (asked + 1) → now ≡ opening ++ questions (asked + 1)
one_more asked text now e f =
    f ∙ ap (λ t. t ++ question (asked + 1)) e ∙ append_assoc opening (questions asked) (question (asked + 1))
    ∙ (λ i. opening ++ (questions asked ++ question (add-one asked i))) ∙ (λ i. opening ++ questions (sym (add-one asked) i))

-- the whole
pub whole : (number : ℕ) (text now : List ℕ) → text ≡ opening ++ questions number → now ≡ text ++ closing → now ≡ generated number
whole number text now e f = f ∙ ap (λ t. t ++ closing) e ∙ append_assoc opening (questions number) closing
