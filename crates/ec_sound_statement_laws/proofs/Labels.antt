-- Each label of a body stands in its resolved form.
use Rattle.std.proofs.Common.{◌≡◌, ◌⊎◌, inl, inr, ℕ, Bool, true, false, ◌||◌, ◌&&◌, [], ◌∷◌, Option, Some, None, refl, sym, ap, subst, eq-eqb, if◌then◌else◌}
use Rattle.std.specs.Prelude.{is_some, nat_eq}
use Rattle.ec_ctypes.specs.trees.Stmts.{StmtData, stmt, StmtKindData, empty_stmt, expr_stmt, block_stmt, if_stmt, while_stmt, do_stmt, for_stmt, break_stmt, continue_stmt, return_stmt, goto_stmt, label_stmt, decl_stmt, emb_stmt, mark_stmt, StmtList, no_stmts, stmts as stmt_list, StmtOption, no_stmt, some_stmt}
use Rattle.ec_language.specs.Letters.{Text, same_text}
use Rattle.ec_language.proofs.Marks.{same_text_is}
use Rattle.ec_typing_defs.specs.Tables.{Named, find, put}
use Rattle.ec_typing_defs.specs.Worlds.{Place, World}
use Rattle.ec_typing_defs.specs.Statements.{labels_in, labels_in_kind, labels_in_all, labels_in_option}
use Rattle.ec_meaning_defs.specs.resolved.Labels.{holds, holds_any}
use Rattle.ec_meaning_defs.specs.resolved.Resolved.{Mark, named as by_number, Exp, Stm, loop}
use Rattle.ec_resolving_defs.specs.Storage.{Storage, Resolving, chain, pure, stored, arrange, in_block, inside_block}
use Rattle.ec_resolving_defs.specs.Operands.{place_in}
use Rattle.ec_resolving_defs.specs.Statements.{Around, scoped, behind_first_part, statement, statement_kind, statements, otherwise}

-- ---- names in tables

same_self : (w : Text) → same_text w w ≡ true
same_self [] = refl
same_self (b ∷ w) = subst (λ c. (c && same_text w w) ≡ true) (sym (eq-eqb b b refl)) (same_self w)

abbrev one : Unit {0}
one = tt

abbrev no_labels : Named (Unit {0})
no_labels = []

-- what is found where a name was put is this name, or was found before
found_put : (x name : Text) (ls : Named (Unit {0})) → is_some (find x (put name tt ls)) ≡ true → (x ≡ name) ⊎ (is_some (find x ls) ≡ true)
found_put x name [] e = go (same_text x name) refl e
  where
    go : (b : Bool) → same_text x name ≡ b → is_some (if b then Some one else None) ≡ true → (x ≡ name) ⊎ (is_some (find x no_labels) ≡ true)
    go true same e = inl (same_text_is x name same)
    go false other e = inr e
found_put x name (l ∷ ls) e = go (same_text name l.0) e (λ p. found_put x name ls p)
  where
    further : (b : Bool) → is_some (if b then Some l.1 else find x (put name one ls)) ≡ true → (is_some (find x (put name one ls)) ≡ true → (x ≡ name) ⊎ (is_some (find x ls) ≡ true))
        → (x ≡ name) ⊎ (is_some (if b then Some l.1 else find x ls) ≡ true)
    further true e rest = inr refl
    further false e rest = rest e

    go : (b : Bool) → is_some (find x (if b then (l.0, one) ∷ ls else l ∷ put name one ls)) ≡ true → (is_some (find x (put name one ls)) ≡ true → (x ≡ name) ⊎ (is_some (find x ls) ≡ true))
        → (x ≡ name) ⊎ (is_some (find x (l ∷ ls)) ≡ true)
    go true e rest = inr e
    go false e rest = further (same_text x l.0) e rest

-- ---- what a rule's answer passes

record Has {A : Type 0} (test : A → Bool) (m : Resolving A) : Type 0 where
  is : (s : Storage) (w : World) → test (m s w).answer ≡ true

behind : {A B : Type 0} {test : B → Bool} (m : Resolving A) {f : A → Resolving B} → ((a : A) → Has test (f a)) → Has test (chain m f)
unfolding chain
behind m h = record { is = λ s w. (h (m s w).answer).is (m s w).storage (m s w).world }

first : {A B : Type 0} (test : A → Bool) {more : B → Bool} {m : Resolving A} {f : A → Resolving B} → Has test m → ((a : A) → test a ≡ true → Has more (f a)) → Has more (chain m f)
unfolding chain
first test {m = m} h k = record { is = λ s w. (k (m s w).answer (h.is s w)).is (m s w).storage (m s w).world }

last : {A : Type 0} {test : A → Bool} (a : A) → test a ≡ true → Has test (pure a)
unfolding pure
last a e = record { is = λ s w. e }

scoped_has : {A : Type 0} {test : A → Bool} {m : Resolving A} → Has test m → Has test (scoped m)
scoped_has {test = test} h = behind _ (λ u. first test h (λ x e. behind _ (λ v. last x e)))

in_block_has : {A : Type 0} (test : A → Bool) (n : ℕ) (m : Resolving A) → Has test m → Has (λ p. test p.1) (in_block n m)
unfolding chain stored arrange pure
in_block_has test n m h = record { is = λ s w. h.is (inside_block n s) w }

-- ---- in which statements a label stands

either_left : (a b : Bool) → a ≡ true → (a || b) ≡ true
either_left a b e = ap (λ c. c || b) e

either_right : (a b : Bool) → b ≡ true → (a || b) ≡ true
either_right true b e = refl
either_right false b e = e

behind_first_holds : (l : Mark) (first : Option Exp) (x : Stm) → holds l x ≡ true → holds l (behind_first_part first x) ≡ true
behind_first_holds l None x e = e
behind_first_holds l (Some y) x e = either_left (holds l x) false e

-- a label that is found was found before, or stands in what the rule answers
abbrev Found : Text → Named (Unit {0}) → Type 0
Found l ls = is_some (find l ls) ≡ true

module _ (a : Around) (l : Text) where
  abbrev there : ℕ
  there = place_in l a.labels

  abbrev here : Mark
  here = by_number there

  labelled : (name : Text) (x : Stm) → l ≡ name → (nat_eq (place_in name a.labels) there || holds here x) ≡ true
  labelled name x e = either_left (nat_eq (place_in name a.labels) there) (holds here x) (subst (λ n. nat_eq (place_in n a.labels) there ≡ true) e (eq-eqb there there refl))

  or_before : {A B : Type 0} {C : Type 0} → (A ⊎ B) → (B → C) → A ⊎ C
  or_before (inl p) f = inl p
  or_before (inr q) f = inr (f q)

  mutual
    statement_has : (x : StmtData) (ls : Named (Unit {0})) → Found l (labels_in x ls) → Found l ls ⊎ Has (holds here) (statement a x)
    statement_has (stmt line kind) ls e = or_before (kind_has kind ls e) (λ h. behind _ (λ at. first (holds here) (h at) (λ x p. last _ p)))

    kind_has : (kind : StmtKindData) (ls : Named (Unit {0})) → Found l (labels_in_kind kind ls) → Found l ls ⊎ ((at : Place) → Has (holds here) (statement_kind a at kind))
    kind_has (block_stmt ss) ls e = or_before (statements_have ss ls e) (λ h at. first (λ p. holds_any here p.1) (in_block_has (holds_any here) _ _ (scoped_has h)) (λ b p. last _ p))
    kind_has (if_stmt e s other) ls found = go (otherwise_has other (labels_in s ls) found) (λ p. statement_has s ls p)
      where
        at_first : Found l ls ⊎ Has (holds here) (statement a s) → Found l ls ⊎ ((at : Place) → Has (holds here) (statement_kind a at (if_stmt e s other)))
        at_first p = or_before p (λ h at. scoped_has (behind _ (λ x. first (holds here) (scoped_has h) (λ y p. behind _ (λ z. last _ (either_left (holds here y) (holds here z) p))))))

        go : Found l (labels_in s ls) ⊎ Has (holds here) (otherwise a other) → (Found l (labels_in s ls) → Found l ls ⊎ Has (holds here) (statement a s))
            → Found l ls ⊎ ((at : Place) → Has (holds here) (statement_kind a at (if_stmt e s other)))
        go (inl p) rest = at_first (rest p)
        go (inr h) rest = inr (λ at. scoped_has (behind _ (λ x. behind _ (λ y. first (holds here) h (λ z p. last _ (either_right (holds here y) (holds here z) p))))))
    kind_has (while_stmt e s) ls found = or_before (statement_has s ls found) (λ h at. scoped_has (behind _ (λ x. first (holds here) (scoped_has h) (λ y p. last _ p))))
    kind_has (do_stmt s e) ls found = or_before (statement_has s ls found) (λ h at. scoped_has (first (holds here) (scoped_has h) (λ y p. behind _ (λ x. last _ p))))
    kind_has (for_stmt x y z s) ls found =
        or_before (statement_has s ls found) (λ h at. scoped_has (behind _ (λ first_part. behind _ (λ test. behind _ (λ step. first (holds here) (scoped_has h) (λ body p. last _ (behind_first_holds here first_part (loop true test step body) p)))))))
    kind_has (label_stmt name s) ls found = go (statement_has s (put name tt ls) found)
      where
        named : (l ≡ name) ⊎ Found l ls → Found l ls ⊎ ((at : Place) → Has (holds here) (statement_kind a at (label_stmt name s)))
        named (inl e) = inr (λ at. behind _ (λ u. behind _ (λ x. last _ (labelled name x e))))
        named (inr p) = inl p

        go : Found l (put name tt ls) ⊎ Has (holds here) (statement a s) → Found l ls ⊎ ((at : Place) → Has (holds here) (statement_kind a at (label_stmt name s)))
        go (inl p) = named (found_put l name ls p)
        go (inr h) = inr (λ at. behind _ (λ u. first (holds here) h (λ x p. last _ (either_right (nat_eq (place_in name a.labels) there) (holds here x) p))))
    kind_has empty_stmt ls e = inl e
    kind_has (expr_stmt x) ls e = inl e
    kind_has break_stmt ls e = inl e
    kind_has continue_stmt ls e = inl e
    kind_has (return_stmt x) ls e = inl e
    kind_has (goto_stmt name) ls e = inl e
    kind_has (decl_stmt d) ls e = inl e
    kind_has (emb_stmt n) ls e = inl e
    kind_has (mark_stmt opens) ls e = inl e

    statements_have : (xs : StmtList) (ls : Named (Unit {0})) → Found l (labels_in_all xs ls) → Found l ls ⊎ Has (holds_any here) (statements a xs)
    statements_have no_stmts ls e = inl e
    statements_have (stmt_list x xs) ls e = go (statements_have xs (labels_in x ls) e) (λ p. statement_has x ls p)
      where
        at_first : Found l ls ⊎ Has (holds here) (statement a x) → Found l ls ⊎ Has (holds_any here) (statements a (stmt_list x xs))
        at_first p = or_before p (λ h. first (holds here) h (λ y p. behind _ (λ ys. last _ (either_left (holds here y) (holds_any here ys) p))))

        go : Found l (labels_in x ls) ⊎ Has (holds_any here) (statements a xs) → (Found l (labels_in x ls) → Found l ls ⊎ Has (holds here) (statement a x))
            → Found l ls ⊎ Has (holds_any here) (statements a (stmt_list x xs))
        go (inl p) rest = at_first (rest p)
        go (inr h) rest = inr (behind _ (λ y. first (holds_any here) h (λ ys p. last _ (either_right (holds here y) (holds_any here ys) p))))

    otherwise_has : (o : StmtOption) (ls : Named (Unit {0})) → Found l (labels_in_option o ls) → Found l ls ⊎ Has (holds here) (otherwise a o)
    otherwise_has no_stmt ls e = inl e
    otherwise_has (some_stmt s) ls e = or_before (statement_has s ls e) (λ h. scoped_has h)

pub labels_stand : (a : Around) (xs : StmtList) (l : Text) → Found l (labels_in_all xs []) → (s : Storage) (w : World) → holds_any (by_number (place_in l a.labels)) (statements a xs s w).answer ≡ true
labels_stand a xs l e = go (statements_have a l xs [] e)
  where
    go : Found l [] ⊎ Has (holds_any (by_number (place_in l a.labels))) (statements a xs) → (s : Storage) (w : World) → holds_any (by_number (place_in l a.labels)) (statements a xs s w).answer ≡ true
    go (inl p) = absurd (cc)
    go (inr h) = h.is
