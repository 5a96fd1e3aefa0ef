-- Lists of operands and of postfix parts grow at their ends.
use Rattle.std.proofs.Common.{◌≡◌, ℕ, zero, suc, Bool, true, false, List, [], ◌∷◌, ◌++◌, refl, ◌⊎◌, inl, inr, ap, sym, ◌∙◌, subst, append_assoc}
use Rattle.std.specs.Prelude.{codes, fold, if◌then◌else◌}
use Rattle.std.proofs.lemmas.Bool.{false≢true}
use Rattle.std.proofs.lemmas.List.{append-nil}
use Rattle.ec_ctypes.specs.declared.tree.expr.BinOp.{BinOp}
use Rattle.ec_ctypes.specs.trees.Exprs.{ExprData, ExprList, identifier, call, call_other}
use Rattle.ec_language.specs.Productions.{Rank, operators, operand_value, more_operands, more_operand, postfix, postfix_parts, postfix_part, Postfix, at_index, at_member, at_arrow, bumped, called, Primary, with_operand, with_postfix, with_postfixes, bare_name, primary, area_member, named, text_of}
use Rattle.ec_language.specs.Letters.{Text, same_text}
use Rattle.ec_language.specs.Grammar.{PlacedTokens}
use Rattle.ec_writing_defs.specs.Chunks.{Chunks, At, tokens_from, behind_all, line_behind}
use Rattle.ec_writing_defs.specs.Shapes.{is_no_name}
use Rattle.ec_language.specs.Unlimited.{UnlimitedBelow, DerivesUnlimited}
use Rattle.ec_language.proofs.Unlimited.{made as derived_by}
use Rattle.ec_readback_laws.proofs.Derivations.{On, tokens_append, line_is, line_append}

fold_more : {A B : Type 0} (f : A → B → A) (a : A) (bs : List B) (b : B) → fold f a (bs ++ b ∷ []) ≡ f (fold f a bs) b
fold_more f a [] b = refl
fold_more f a (c ∷ bs) b = fold_more f (f a c) bs b

-- ---- operands

module _ (r : Rank) (u : PlacedTokens) (y : BinOp × ExprData) (d : DerivesUnlimited (more_operand r) u y) where
  one_operand : DerivesUnlimited (more_operands r) u (y ∷ [])
  one_operand = derived_by (more_operands r) u (y ∷ [])
      (inr (inl ((y, ([], tt)), refl, (u, [], sym (append-nil u), d, ([], [], refl, derived_by (more_operands r) [] [] (inl (tt, refl, refl)), refl, inl refl), inl refl))))

  more_operands_grow : (n : ℕ) (w : PlacedTokens) (ys : List (BinOp × ExprData)) → UnlimitedBelow n (more_operands r) w ys → DerivesUnlimited (more_operands r) (w ++ u) (ys ++ y ∷ [])
  more_operands_grow zero w ys h = absurd h
  more_operands_grow (suc n) w ys (inl h) =
      subst (λ p. DerivesUnlimited (more_operands r) (p ++ u) (ys ++ y ∷ [])) (sym h.2) (subst (λ p. DerivesUnlimited (more_operands r) u (p ++ y ∷ [])) (sym h.1) one_operand)
  more_operands_grow (suc n) w ys (inr (inl h)) =
      let rest = h.2.4.0 ++ u in
      let whole : w ≡ h.2.0 ++ h.2.4.0 = h.2.2 ∙ ap (λ p. h.2.0 ++ p) (h.2.4.2 ∙ ap (λ p. h.2.4.0 ++ p) h.2.4.4 ∙ append-nil h.2.4.0) in
      derived_by (more_operands r) (w ++ u) (ys ++ y ∷ [])
      (inr (inl (
        (h.0.0, (h.0.1.0 ++ y ∷ [], tt)),
        ap (λ p. p ++ y ∷ []) h.1,
        (
          h.2.0,
          rest,
          ap (λ p. p ++ u) whole ∙ append_assoc h.2.0 h.2.4.0 u,
          (n, h.2.3),
          (rest, [], sym (append-nil rest), more_operands_grow n h.2.4.0 h.0.1.0 h.2.4.3, refl, inl refl),
          inr refl,
        ),
      )))
  more_operands_grow (suc n) w ys (inr (inr h)) = absurd h

  operators_grow : (n : ℕ) (w : PlacedTokens) (e : ExprData) → UnlimitedBelow n (operators r) w e → DerivesUnlimited (operators r) (w ++ u) (with_operand e y)
  operators_grow zero w e h = absurd h
  operators_grow (suc n) w e (inl h) =
      let rest = h.2.4.0 ++ u in
      let whole : w ≡ h.2.0 ++ h.2.4.0 = h.2.2 ∙ ap (λ p. h.2.0 ++ p) (h.2.4.2 ∙ ap (λ p. h.2.4.0 ++ p) h.2.4.4 ∙ append-nil h.2.4.0) in
      derived_by (operators r) (w ++ u) (with_operand e y)
      (inl (
        (h.0.0, (h.0.1.0 ++ y ∷ [], tt)),
        ap (λ x. with_operand x y) h.1 ∙ sym (fold_more with_operand (operand_value r h.0.0) h.0.1.0 y),
        (
          h.2.0,
          rest,
          ap (λ p. p ++ u) whole ∙ append_assoc h.2.0 h.2.4.0 u,
          (n, h.2.3),
          (rest, [], sym (append-nil rest), more_operands_grow n h.2.4.0 h.0.1.0 h.2.4.3, refl, inl refl),
          inr refl,
        ),
      ))
  operators_grow (suc n) w e (inr h) = absurd h

pub one_more_operand : {n : ℕ} {r : Rank} {cs ds : Chunks} {e : ExprData} {y : BinOp × ExprData} → On n (operators r) cs e → On n (more_operand r) ds y → On n (operators r) (cs ++ ds) (with_operand e y)
one_more_operand {n} {r} {cs} {ds} {e} {y} a b = record {
  derived = λ at l. go at (a.derived at l) (b.derived (behind_all at cs) (line_is at cs ∙ ap (λ x. line_behind x cs) l ∙ a.ends));
  ends = line_append n cs ds ∙ ap (λ x. line_behind x ds) a.ends ∙ b.ends;
}
  where
    go : (at : At) → DerivesUnlimited (operators r) (tokens_from at cs) e → DerivesUnlimited (more_operand r) (tokens_from (behind_all at cs) ds) y → DerivesUnlimited (operators r) (tokens_from at (cs ++ ds)) (with_operand e y)
    go at x z = subst (λ w. DerivesUnlimited (operators r) w (with_operand e y)) (sym (tokens_append at cs ds)) (operators_grow r (tokens_from (behind_all at cs) ds) y z x.0 (tokens_from at cs) e x.1)

-- ---- postfix parts

-- a part that is no call
abbrev pub is_no_call : Postfix → Bool
is_no_call (called es) = false
is_no_call _ = true

-- A part can stand behind this expression and go on with it: the call of a name would be another expression.
abbrev pub GoesOn : ExprData → Postfix → Type 0
GoesOn e q = (is_no_call q ≡ true) ⊎ (is_no_name e ≡ true)

-- a primary expression is only called a name if it is one
abbrev IsNamed : Primary → Type 0
IsNamed x = x.is_name ≡ true → is_no_name x.expression ≡ false

named_is : (w : Text) → IsNamed (named w)
named_is w = go (same_text w (codes "SQLCODE")) (same_text w (codes "SQLSTATE"))
  where
    go : (a b : Bool) → IsNamed (elim a [
      | true ↦ area_member "sqlcode"
      | false ↦ elim b [ true ↦ area_member "sqlstate" | false ↦ record { expression = identifier w; is_name = true } ]
    ])
    go true b h = absurd (false≢true h)
    go false true h = absurd (false≢true h)
    go false false h = refl

no_name_told : (x : Primary) → x.is_name ≡ false → IsNamed x
no_name_told x e h = absurd (false≢true (sym e ∙ h))

primary_named : (n : ℕ) (w : PlacedTokens) (x : Primary) → UnlimitedBelow n primary w x → IsNamed x
primary_named zero w x h = absurd h
primary_named (suc n) w x (inl h) = subst IsNamed (sym h.1) (named_is (text_of h.0.0))
primary_named (suc n) w x (inr (inl h)) = no_name_told x (ap (λ (y : Primary). y.is_name) h.1)
primary_named (suc n) w x (inr (inr (inl h))) = no_name_told x (ap (λ (y : Primary). y.is_name) h.1)
primary_named (suc n) w x (inr (inr (inr (inl h)))) = no_name_told x (ap (λ (y : Primary). y.is_name) h.1)
primary_named (suc n) w x (inr (inr (inr (inr (inl h))))) = no_name_told x (ap (λ (y : Primary). y.is_name) h.1)
primary_named (suc n) w x (inr (inr (inr (inr (inr h))))) = absurd h

called_more : (x : Primary) (es : ExprList) → IsNamed x → is_no_name x.expression ≡ true → with_postfixes x (called es ∷ []) ≡ call_other x.expression es
called_more x es told free = go x.is_name refl
  where
    go : (b : Bool) → x.is_name ≡ b → (if b then call (bare_name x) es else call_other x.expression es) ≡ call_other x.expression es
    go true e = absurd (false≢true (sym (told e) ∙ free))
    go false e = refl

with_more : (x : Primary) (ps : List Postfix) (q : Postfix) → IsNamed x → GoesOn (with_postfixes x ps) q → with_postfixes x (ps ++ q ∷ []) ≡ with_postfix (with_postfixes x ps) q
with_more x [] (called es) named (inl h) = absurd (false≢true h)
with_more x [] (called es) named (inr h) = called_more x es named h
with_more x [] (at_index i) named g = refl
with_more x [] (at_member i) named g = refl
with_more x [] (at_arrow i) named g = refl
with_more x [] (bumped i) named g = refl
with_more x (called es ∷ ps) q named g = fold_more with_postfix (if x.is_name then call (bare_name x) es else call_other x.expression es) ps q
with_more x (at_index i ∷ ps) q named g = fold_more with_postfix (with_postfix x.expression (at_index i)) ps q
with_more x (at_member i ∷ ps) q named g = fold_more with_postfix (with_postfix x.expression (at_member i)) ps q
with_more x (at_arrow i ∷ ps) q named g = fold_more with_postfix (with_postfix x.expression (at_arrow i)) ps q
with_more x (bumped i ∷ ps) q named g = fold_more with_postfix (with_postfix x.expression (bumped i)) ps q

module _ (u : PlacedTokens) (q : Postfix) (d : DerivesUnlimited postfix_part u q) where
  one_part : DerivesUnlimited postfix_parts u (q ∷ [])
  one_part = derived_by postfix_parts u (q ∷ [])
      (inr (inl ((q, ([], tt)), refl, (u, [], sym (append-nil u), d, ([], [], refl, derived_by postfix_parts [] [] (inl (tt, refl, refl)), refl, inl refl), inl refl))))

  parts_grow : (n : ℕ) (w : PlacedTokens) (ys : List Postfix) → UnlimitedBelow n postfix_parts w ys → DerivesUnlimited postfix_parts (w ++ u) (ys ++ q ∷ [])
  parts_grow zero w ys h = absurd h
  parts_grow (suc n) w ys (inl h) =
      subst (λ p. DerivesUnlimited postfix_parts (p ++ u) (ys ++ q ∷ [])) (sym h.2) (subst (λ p. DerivesUnlimited postfix_parts u (p ++ q ∷ [])) (sym h.1) one_part)
  parts_grow (suc n) w ys (inr (inl h)) =
      let rest = h.2.4.0 ++ u in
      let whole : w ≡ h.2.0 ++ h.2.4.0 = h.2.2 ∙ ap (λ p. h.2.0 ++ p) (h.2.4.2 ∙ ap (λ p. h.2.4.0 ++ p) h.2.4.4 ∙ append-nil h.2.4.0) in
      derived_by postfix_parts (w ++ u) (ys ++ q ∷ [])
      (inr (inl (
        (h.0.0, (h.0.1.0 ++ q ∷ [], tt)),
        ap (λ p. p ++ q ∷ []) h.1,
        (
          h.2.0,
          rest,
          ap (λ p. p ++ u) whole ∙ append_assoc h.2.0 h.2.4.0 u,
          (n, h.2.3),
          (rest, [], sym (append-nil rest), parts_grow n h.2.4.0 h.0.1.0 h.2.4.3, refl, inl refl),
          inr refl,
        ),
      )))
  parts_grow (suc n) w ys (inr (inr h)) = absurd h

  postfix_grow : (n : ℕ) (w : PlacedTokens) (e : ExprData) → GoesOn e q → UnlimitedBelow n postfix w e → DerivesUnlimited postfix (w ++ u) (with_postfix e q)
  postfix_grow zero w e g h = absurd h
  postfix_grow (suc n) w e g (inl h) =
      let rest = h.2.4.0 ++ u in
      let whole : w ≡ h.2.0 ++ h.2.4.0 = h.2.2 ∙ ap (λ p. h.2.0 ++ p) (h.2.4.2 ∙ ap (λ p. h.2.4.0 ++ p) h.2.4.4 ∙ append-nil h.2.4.0) in
      derived_by postfix (w ++ u) (with_postfix e q)
      (inl (
        (h.0.0, (h.0.1.0 ++ q ∷ [], tt)),
        ap (λ x. with_postfix x q) h.1 ∙ sym (with_more h.0.0 h.0.1.0 q (primary_named n h.2.0 h.0.0 h.2.3) (subst (λ x. GoesOn x q) h.1 g)),
        (
          h.2.0,
          rest,
          ap (λ p. p ++ u) whole ∙ append_assoc h.2.0 h.2.4.0 u,
          (n, h.2.3),
          (rest, [], sym (append-nil rest), parts_grow n h.2.4.0 h.0.1.0 h.2.4.3, refl, inl refl),
          inr refl,
        ),
      ))
  postfix_grow (suc n) w e g (inr h) = absurd h

pub one_more_part : {n : ℕ} {cs ds : Chunks} {e : ExprData} (q : Postfix) → GoesOn e q → On n postfix cs e → On n postfix_part ds q → On n postfix (cs ++ ds) (with_postfix e q)
one_more_part {n} {cs} {ds} {e} q free a b = record {
  derived = λ at l. go at (a.derived at l) (b.derived (behind_all at cs) (line_is at cs ∙ ap (λ x. line_behind x cs) l ∙ a.ends));
  ends = line_append n cs ds ∙ ap (λ x. line_behind x ds) a.ends ∙ b.ends;
}
  where
    go : (at : At) → DerivesUnlimited postfix (tokens_from at cs) e → DerivesUnlimited postfix_part (tokens_from (behind_all at cs) ds) q → DerivesUnlimited postfix (tokens_from at (cs ++ ds)) (with_postfix e q)
    go at x z = subst (λ w. DerivesUnlimited postfix w (with_postfix e q)) (sym (tokens_append at cs ds)) (postfix_grow (tokens_from (behind_all at cs) ds) q z x.0 (tokens_from at cs) e free x.1)
