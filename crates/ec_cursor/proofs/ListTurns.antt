-- Lists whose items stand behind commas: one turn.
use Rattle.std.proofs.Common.{◌≡◌, ℕ, suc, Bool, true, false, List, [], ◌∷◌, ◌++◌, Ok, Err, ap, ◌∙◌, if◌then◌else◌}
use Rattle.ec_ctypes.specs.declared.text.token.Punct.TheVariants as p
use Rattle.ec_language.specs.Productions.{Placed}
use Rattle.ec_grammar.specs.declared.failure.Failure.{Failure}
use Rattle.ec_grammar.specs.declared.kind.Kind.TheVariants as k
use Rattle.ec_grammar.specs.Input.{State, Outcome, Parser, and_then, ◌>>=◌, ◌>>◌, pure, kind_at, expect}
use Rattle.ec_grammar.specs.Lists.{separated_from}
use Rattle.ec_grammar.specs.Starts.{is_comma}

module _ {A : Type 0} (item : Parser A) (m : ℕ) (found : List A) (i : State) where
  abbrev turn : Bool → Outcome (List A)
  turn t = (if t then (expect (k.Mark p.Comma) >> (item >>= (λ x. separated_from item m (found ++ x ∷ [])))) else pure found) i

  pub no_comma : is_comma (kind_at i.tokens) ≡ false → separated_from item (suc m) found i ≡ Ok (found, i)
  unfolding separated_from
  no_comma e = ap turn e

  behind_comma : (t : Placed) (j : State) → is_comma (kind_at i.tokens) ≡ true → expect (k.Mark p.Comma) i ≡ Ok (t, j)
      → separated_from item (suc m) found i ≡ and_then (item j) (λ x. separated_from item m (found ++ x ∷ []))
  unfolding separated_from
  behind_comma t j e comma = ap turn e ∙ ap (λ (o : Outcome Placed). and_then o (λ _. item >>= (λ x. separated_from item m (found ++ x ∷ [])))) comma

  pub no_item : (t : Placed) (j : State) (f : Failure) → is_comma (kind_at i.tokens) ≡ true → expect (k.Mark p.Comma) i ≡ Ok (t, j)
      → item j ≡ Err f → separated_from item (suc m) found i ≡ Err f
  no_item t j f e comma none = behind_comma t j e comma ∙ ap (λ (o : Outcome A). and_then o (λ x. separated_from item m (found ++ x ∷ []))) none

  pub one_item : (t : Placed) (j : State) (x : A) (l : State) → is_comma (kind_at i.tokens) ≡ true → expect (k.Mark p.Comma) i ≡ Ok (t, j)
      → item j ≡ Ok (x, l) → separated_from item (suc m) found i ≡ separated_from item m (found ++ x ∷ []) l
  one_item t j x l e comma some = behind_comma t j e comma ∙ ap (λ (o : Outcome A). and_then o (λ y. separated_from item m (found ++ y ∷ []))) some
