-- Lists whose items stand behind commas.
use Rattle.std.specs.Prelude.{ℕ, zero, suc, List, [], ◌∷◌, ◌++◌, length, if◌then◌else◌}
use Rattle.ec_ctypes.specs.declared.text.token.Punct.TheVariants as p
use Rattle.ec_grammar.specs.declared.kind.Kind.TheVariants as k
use Rattle.ec_grammar.specs.Input.{Parser, ◌>>=◌, ◌>>◌, pure, peek, expect}
use Rattle.ec_grammar.specs.Starts.{is_comma}

-- Further items, each behind a comma, put behind those in `found`: so many at most, or as many as there are.
unfoldable pub separated_from : {A : Type 0} → Parser A → ℕ → List A → Parser (List A)
separated_from item zero found = pure found
separated_from item (suc m) found = do
  j ← peek
  if is_comma j
      then (do expect (k.Mark p.Comma); x ← item; separated_from item m (found ++ x ∷ []))
      else pure found

unfoldable pub separated : {A : Type 0} → Parser A → List A → Parser (List A)
separated item found = λ i. separated_from item (length i.tokens) found i
