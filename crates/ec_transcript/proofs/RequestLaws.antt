-- The requests of lines are read as they are written, and only so.
use Rattle.std.proofs.Common.{◌≡◌, ◌∙◌, ◌++◌, ◌∷◌, [], ◌<◌, ◌≤◌, ◌+◌, ◌%◌, ◌==◌, ◌&&◌, ℕ, zero, suc, Bool, true, false, List, Option, Some, None, refl, ap, ap₂, sym, arith, append-nil, subst, cond, length, length-append}
use Rattle.std.specs.Prelude.{not, ⊤, if◌then◌else◌, codes, nat_eq}
use Rattle.std.specs.Cmp.Lexicographic.{pointwise}
use Rattle.std.proofs.lemmas.Slice.Eq.{bytes_eq-Decides}
use Rattle.std.proofs.lemmas.Bool.Decides.{nat_tests}
use Rattle.ec_link.specs.declared.request.Request.{Request}
use Rattle.ec_link.specs.declared.request.Request.TheVariants.{Connect, Text, Prepare, Exec, Deallocate, Close}
use Rattle.ec_transcript.specs.Fitting.{Small, SmallField, SmallFields, FitsRequest}
use Rattle.ec_transcript.specs.Text.{Bytes, quoted, optional, fields, request_line, numeral}
use Rattle.ec_transcript.specs.Reading.{quoted_at, optional_at, blank_at, behind, word_at, fields_at, params_at, connect_at, text_at, prepare_at, exec_at, deallocate_at, close_at, request_of, tried, end_at, ◌>>=◌}
use Rattle.ec_transcript.proofs.Numerals.{numeral_by_steps}
use Rattle.ec_transcript.proofs.NumberLaws.{bind_some}
use Rattle.ec_transcript.proofs.Letters.{quoted_again, quoted_found, optional_again, optional_found, blank_found, behind_found, quoted_small, optional_small}

pub end_some : {A : Type 0} (a b : A) (rest : Bytes) → end_at (a, rest) ≡ Some b → (a ≡ b) × (rest ≡ [])
end_some a b [] e = (some_is e, refl)
  where
    some_is : {A : Type 0} {x y : A} → Some x ≡ Some y → x ≡ y
    some_is e = cc
end_some a b (c ∷ rest) e = cc

-- ---- words

abbrev pub no_blank : Bytes → Bool
no_blank [] = true
no_blank (b ∷ t) = not (b == 32) && no_blank t

pub no_blank_last : (t : Bytes) (b : ℕ) → no_blank t ≡ true → b == 32 ≡ false → no_blank (t ++ b ∷ []) ≡ true
no_blank_last [] b e is = rw is refl
no_blank_last (c ∷ t) b e is = go (c == 32) e (no_blank_last t b)
  where
    go : (q : Bool) → (not q && no_blank t) ≡ true → (no_blank t ≡ true → b == 32 ≡ false → no_blank (t ++ b ∷ []) ≡ true) → (not q && no_blank (t ++ b ∷ [])) ≡ true
    go true e more = cc
    go false e more = more e is

digit_no_blank : (d : ℕ) → d < 10 → (48 + d) == 32 ≡ false
digit_no_blank d small = grind (arith, nat_tests)

pub numeral_no_blank : (n : ℕ) → no_blank (numeral n) ≡ true
numeral_no_blank = numeral_by_steps (λ n ds. no_blank ds ≡ true) (λ n h. rw (digit_no_blank n h) refl)
    (λ n ds le e. no_blank_last ds (48 + n % 10) e (digit_no_blank (n % 10) (omega arith)))

-- what begins with a blank, or is empty
abbrev pub Parted : Bytes → Type 0
Parted [] = ⊤
Parted (b ∷ rest) = b ≡ 32

pub word_again : (t rest : Bytes) → no_blank t ≡ true → Parted rest → word_at (t ++ rest) ≡ (t, rest)
word_again [] [] e p = refl
word_again [] (b ∷ rest) e p = rw p refl
word_again (b ∷ t) rest e p = go (b == 32) e (word_again t rest)
  where
    go : (q : Bool) → (not q && no_blank t) ≡ true → (no_blank t ≡ true → Parted rest → word_at (t ++ rest) ≡ (t, rest))
        → ◌≡◌ {A = Bytes × Bytes} (cond q ([], b ∷ (t ++ rest)) (b ∷ (word_at (t ++ rest)).0, (word_at (t ++ rest)).1)) (b ∷ t, rest)
    go true e more = cc
    go false e more = ap (λ (r : Bytes × Bytes). (b ∷ r.0, r.1)) (more e p)

pub word_found : (xs : Bytes) → xs ≡ (word_at xs).0 ++ (word_at xs).1
word_found [] = refl
word_found (b ∷ xs) = go (b == 32) (word_found xs)
  where
    go : (q : Bool) → xs ≡ (word_at xs).0 ++ (word_at xs).1
        → b ∷ xs ≡ (cond {A = Bytes × Bytes} q ([], b ∷ xs) (b ∷ (word_at xs).0, (word_at xs).1)).0 ++ (cond {A = Bytes × Bytes} q ([], b ∷ xs) (b ∷ (word_at xs).0, (word_at xs).1)).1
    go true more = refl
    go false more = ap (λ ys. b ∷ ys) more

-- ---- fields

pub fields_again : (fs : List (Option Bytes)) (left : ℕ) → SmallFields fs → length (fields fs) ≤ left → fields_at left (fields fs) ≡ Some fs
unfolding fields_at
fields_again [] zero small le = refl
fields_again [] (suc left) small le = refl
fields_again (f ∷ fs) zero small le = absurd (omega arith)
fields_again (f ∷ fs) (suc left) small le =
    let more : fields_at left (fields fs) ≡ Some fs = fields_again fs left small.1 (omega (arith, length-append (optional f) (fields fs))) in
    rw (optional_again f (fields fs) small.0, more) refl

pub fields_found : (left : ℕ) (xs : Bytes) (fs : List (Option Bytes)) → fields_at left xs ≡ Some fs → xs ≡ fields fs
unfolding fields_at
fields_found left [] fs e = go left e
  where
    go : (left : ℕ) → fields_at left [] ≡ Some fs → [] ≡ fields fs
    go zero e = let none : [] ≡ fs = cc in ap fields none
    go (suc left) e = let none : [] ≡ fs = cc in ap fields none
fields_found zero (b ∷ xs) fs e = cc
fields_found (suc left) (b ∷ xs) fs e =
    let first = bind_some _ _ _ e in
    let field = bind_some _ _ _ first.2 in
    let others = bind_some _ _ _ field.2 in
    let same : field.0.0 ∷ others.0 ≡ fs = some_is others.2 in
    blank_found (b ∷ xs) first.0 first.1
    ∙ ap (λ ys. 32 ∷ ys) (optional_found first.0 field.0.0 field.0.1 field.1 ∙ ap (λ ys. optional field.0.0 ++ ys) (fields_found left field.0.1 others.0 others.1))
    ∙ ap fields same
  where
    some_is : {A : Type 0} {x y : A} → Some x ≡ Some y → x ≡ y
    some_is e = cc

pub fields_parted : (fs : List (Option Bytes)) → Parted (fields fs)
fields_parted [] = tt
fields_parted (f ∷ fs) = refl

abbrev params : List (Option Bytes) → Bytes
params fs = 32 ∷ (numeral (length fs) ++ fields fs)

params_again : (fs : List (Option Bytes)) → SmallFields fs → params_at (params fs) ≡ Some fs
unfolding params_at
params_again fs small =
    let word = word_again (numeral (length fs)) (fields fs) (numeral_no_blank (length fs)) (fields_parted fs) in
    let all : fields_at (length (fields fs)) (fields fs) ≡ Some fs = fields_again fs (length (fields fs)) small (omega arith) in
    let same : pointwise nat_eq (numeral (length fs)) (numeral (length fs)) ≡ true = (bytes_eq-Decides (numeral (length fs)) (numeral (length fs))).1 refl in
    rw (word, all, same) refl

params_found : (xs : Bytes) (fs : List (Option Bytes)) → params_at xs ≡ Some fs → xs ≡ params fs
unfolding params_at
params_found xs fs e =
    let first = bind_some _ _ _ e in
    let all = bind_some _ _ _ first.2 in
    let tested = chosen (pointwise nat_eq (word_at first.0).0 (numeral (length all.0))) all.0 refl all.2 in
    let digits : (word_at first.0).0 ≡ numeral (length all.0) = (bytes_eq-Decides (word_at first.0).0 (numeral (length all.0))).0 tested.0 in
    blank_found xs first.0 first.1
    ∙ ap (λ ys. 32 ∷ ys) (word_found first.0 ∙ ap₂ (λ a b. a ++ b) digits (fields_found _ (word_at first.0).1 all.0 all.1))
    ∙ ap params tested.1
  where
    chosen : (b : Bool) (a : List (Option Bytes)) → {c : Bool} → c ≡ b → cond b (Some a) None ≡ Some fs → (c ≡ true) × (a ≡ fs)
    chosen true a is e = (is, cc)
    chosen false a is e = cc

-- ---- requests

pub quoted_last : (t : Bytes) → Small t → quoted_at (quoted t) ≡ Some (t, [])
quoted_last t small = ap quoted_at (sym (append-nil (quoted t))) ∙ quoted_again t [] small

pub optional_last : (f : Option Bytes) → SmallField f → optional_at (optional f) ≡ Some (f, [])
optional_last f small = ap optional_at (sym (append-nil (optional f))) ∙ optional_again f [] small

pub request_again : (r : Request) → FitsRequest r → request_of (request_line r) ≡ Some r
unfolding connect_at text_at prepare_at exec_at deallocate_at
request_again (Connect target user password) fits =
    rw (quoted_again target (32 ∷ (optional user ++ 32 ∷ optional password)) fits.0, optional_again user (32 ∷ optional password) fits.1, optional_last password fits.2) refl
request_again (Text text all) fits = rw (quoted_again text (params all) fits.0, params_again all fits.1) refl
request_again (Prepare name text) fits = rw (quoted_again name (32 ∷ quoted text) fits.0, quoted_last text fits.1) refl
request_again (Exec name all) fits = rw (quoted_again name (params all) fits.0, params_again all fits.1) refl
request_again (Deallocate name) fits = rw (quoted_last name fits) refl
request_again Close fits = refl

connect_found : (xs : Bytes) (r : Request) → connect_at xs ≡ Some r → codes "> connect " ++ xs ≡ request_line r
unfolding connect_at
connect_found xs r e =
    let target = bind_some _ _ _ e in
    let second = bind_some _ _ _ target.2 in
    let user = bind_some _ _ _ second.2 in
    let third = bind_some _ _ _ user.2 in
    let password = bind_some _ _ _ third.2 in
    let ends = end_some _ _ _ password.2 in
    ap (λ ys. codes "> connect " ++ ys)
    (quoted_found xs target.0.0 target.0.1 target.1
    ∙ ap (λ ys. quoted target.0.0 ++ ys) (blank_found target.0.1 second.0 second.1
    ∙ ap (λ ys. 32 ∷ ys) (optional_found second.0 user.0.0 user.0.1 user.1
    ∙ ap (λ ys. optional user.0.0 ++ ys) (blank_found user.0.1 third.0 third.1
    ∙ ap (λ ys. 32 ∷ ys) (optional_found third.0 password.0.0 password.0.1 password.1 ∙ ap (λ ys. optional password.0.0 ++ ys) ends.1 ∙ append-nil _)))))
    ∙ ap request_line ends.0

text_found : (xs : Bytes) (r : Request) → text_at xs ≡ Some r → codes "> text " ++ xs ≡ request_line r
unfolding text_at
text_found xs r e =
    let first = bind_some _ _ _ e in
    let all = bind_some _ _ _ first.2 in
    let same : Text first.0.0 all.0 ≡ r = some_is all.2 in
    ap (λ ys. codes "> text " ++ ys) (quoted_found xs first.0.0 first.0.1 first.1 ∙ ap (λ ys. quoted first.0.0 ++ ys) (params_found first.0.1 all.0 all.1))
    ∙ ap request_line same
  where
    some_is : {A : Type 0} {x y : A} → Some x ≡ Some y → x ≡ y
    some_is e = cc

prepare_found : (xs : Bytes) (r : Request) → prepare_at xs ≡ Some r → codes "> prepare " ++ xs ≡ request_line r
unfolding prepare_at
prepare_found xs r e =
    let name = bind_some _ _ _ e in
    let second = bind_some _ _ _ name.2 in
    let text = bind_some _ _ _ second.2 in
    let ends = end_some _ _ _ text.2 in
    ap (λ ys. codes "> prepare " ++ ys)
    (quoted_found xs name.0.0 name.0.1 name.1 ∙ ap (λ ys. quoted name.0.0 ++ ys) (blank_found name.0.1 second.0 second.1
    ∙ ap (λ ys. 32 ∷ ys) (quoted_found second.0 text.0.0 text.0.1 text.1 ∙ ap (λ ys. quoted text.0.0 ++ ys) ends.1 ∙ append-nil _)))
    ∙ ap request_line ends.0

exec_found : (xs : Bytes) (r : Request) → exec_at xs ≡ Some r → codes "> exec " ++ xs ≡ request_line r
unfolding exec_at
exec_found xs r e =
    let first = bind_some _ _ _ e in
    let all = bind_some _ _ _ first.2 in
    let same : Exec first.0.0 all.0 ≡ r = some_is all.2 in
    ap (λ ys. codes "> exec " ++ ys) (quoted_found xs first.0.0 first.0.1 first.1 ∙ ap (λ ys. quoted first.0.0 ++ ys) (params_found first.0.1 all.0 all.1))
    ∙ ap request_line same
  where
    some_is : {A : Type 0} {x y : A} → Some x ≡ Some y → x ≡ y
    some_is e = cc

deallocate_found : (xs : Bytes) (r : Request) → deallocate_at xs ≡ Some r → codes "> deallocate " ++ xs ≡ request_line r
unfolding deallocate_at
deallocate_found xs r e =
    let name = bind_some _ _ _ e in
    let ends = end_some _ _ _ name.2 in
    ap (λ ys. codes "> deallocate " ++ ys) (quoted_found xs name.0.0 name.0.1 name.1 ∙ ap (λ ys. quoted name.0.0 ++ ys) ends.1 ∙ append-nil _)
    ∙ ap request_line ends.0

close_found : (xs : Bytes) (r : Request) → close_at xs ≡ Some r → codes "> close" ++ xs ≡ request_line r
close_found xs r e =
    let ends = end_some Close r xs e in
    ap (λ ys. codes "> close" ++ ys) ends.1 ∙ ap request_line ends.0

-- one form of several
pub one_form : (front line : Bytes) (read : Bytes → Option Request) (next : Option Request) (r : Request)
    → ((xs : Bytes) → read xs ≡ Some r → front ++ xs ≡ request_line r) → (next ≡ Some r → line ≡ request_line r)
    → tried (behind front line) read next ≡ Some r → line ≡ request_line r
one_form front line read next r here later e = go (behind front line) refl e
  where
    go : (o : Option Bytes) → behind front line ≡ o → tried o read next ≡ Some r → line ≡ request_line r
    go None is e = later e
    go (Some xs) is e = behind_found front line xs is ∙ here xs e

pub request_found : (line : Bytes) (r : Request) → request_of line ≡ Some r → line ≡ request_line r
request_found line r e =
    one_form (codes "> connect ") line connect_at _ r (λ xs. connect_found xs r)
    (one_form (codes "> text ") line text_at _ r (λ xs. text_found xs r)
    (one_form (codes "> prepare ") line prepare_at _ r (λ xs. prepare_found xs r)
    (one_form (codes "> exec ") line exec_at _ r (λ xs. exec_found xs r)
    (one_form (codes "> deallocate ") line deallocate_at _ r (λ xs. deallocate_found xs r)
    (one_form (codes "> close") line close_at None r (λ xs. close_found xs r) (λ none. cc)))))) e

-- two requests with one line are equal
pub one_request : (r s : Request) → FitsRequest r → FitsRequest s → request_line r ≡ request_line s → r ≡ s
one_request r s fits_r fits_s e = some_is (sym (request_again r fits_r) ∙ ap request_of e ∙ request_again s fits_s)
  where
    some_is : {A : Type 0} {x y : A} → Some x ≡ Some y → x ≡ y
    some_is e = cc

-- ---- what is read fits

pub fields_small : (left : ℕ) (xs : Bytes) (fs : List (Option Bytes)) → fields_at left xs ≡ Some fs → SmallFields fs
unfolding fields_at
fields_small zero [] fs e = let none : [] ≡ fs = cc in subst SmallFields none tt
fields_small (suc left) [] fs e = let none : [] ≡ fs = cc in subst SmallFields none tt
fields_small zero (b ∷ xs) fs e = cc
fields_small (suc left) (b ∷ xs) fs e =
    let first = bind_some (blank_at (b ∷ xs)) (λ x. optional_at x >>= λ field. fields_at left field.1 >>= λ others. Some (field.0 ∷ others)) fs e in
    let field = bind_some (optional_at first.0) (λ field. fields_at left field.1 >>= λ others. Some (field.0 ∷ others)) fs first.2 in
    let others = bind_some (fields_at left field.0.1) (λ others. Some (field.0.0 ∷ others)) fs field.2 in
    let same : field.0.0 ∷ others.0 ≡ fs = some_is others.2 in
    subst SmallFields same (optional_small first.0 field.0.0 field.0.1 field.1, fields_small left field.0.1 others.0 others.1)
  where
    some_is : {A : Type 0} {x y : A} → Some x ≡ Some y → x ≡ y
    some_is e = cc

params_small : (xs : Bytes) (fs : List (Option Bytes)) → params_at xs ≡ Some fs → SmallFields fs
unfolding params_at
params_small xs fs e =
    let rest : Bytes → List (Option Bytes) → Option (List (Option Bytes)) = λ x all. if pointwise nat_eq (word_at x).0 (numeral (length all)) then Some all else None in
    let first = bind_some (blank_at xs) (λ x. fields_at (length (word_at x).1) (word_at x).1 >>= rest x) fs e in
    let all = bind_some (fields_at (length (word_at first.0).1) (word_at first.0).1) (rest first.0) fs first.2 in
    subst SmallFields (chosen (pointwise nat_eq (word_at first.0).0 (numeral (length all.0))) all.0 all.2) (fields_small (length (word_at first.0).1) (word_at first.0).1 all.0 all.1)
  where
    chosen : (b : Bool) (a : List (Option Bytes)) → cond b (Some a) None ≡ Some fs → a ≡ fs
    chosen true a e = cc
    chosen false a e = cc

-- a request that was read
form_fits : (front line : Bytes) (read : Bytes → Option Request) (next : Option Request) (r : Request)
    → ((xs : Bytes) → read xs ≡ Some r → FitsRequest r) → (next ≡ Some r → FitsRequest r)
    → tried (behind front line) read next ≡ Some r → FitsRequest r
form_fits front line read next r here later e = go (behind front line) refl e
  where
    go : (o : Option Bytes) → behind front line ≡ o → tried o read next ≡ Some r → FitsRequest r
    go None is e = later e
    go (Some xs) is e = here xs e

is_end : (r s : Request) (rest : Bytes) → FitsRequest r → end_at (r, rest) ≡ Some s → FitsRequest s
is_end r s rest fits e = subst FitsRequest (end_some r s rest e).0 fits

connect_fits : (xs : Bytes) (r : Request) → connect_at xs ≡ Some r → FitsRequest r
unfolding connect_at
connect_fits xs r e =
    let target = bind_some (quoted_at xs) _ r e in
    let second = bind_some (blank_at target.0.1) _ r target.2 in
    let user = bind_some (optional_at second.0) _ r second.2 in
    let third = bind_some (blank_at user.0.1) _ r user.2 in
    let password = bind_some (optional_at third.0) _ r third.2 in
    is_end (Connect target.0.0 user.0.0 password.0.0) r password.0.1
    (quoted_small xs target.0.0 target.0.1 target.1, optional_small second.0 user.0.0 user.0.1 user.1, optional_small third.0 password.0.0 password.0.1 password.1) password.2

text_fits : (xs : Bytes) (r : Request) → text_at xs ≡ Some r → FitsRequest r
unfolding text_at
text_fits xs r e =
    let first = bind_some (quoted_at xs) _ r e in
    let all = bind_some (params_at first.0.1) _ r first.2 in
    let is : Text first.0.0 all.0 ≡ r = cc in
    subst FitsRequest is (quoted_small xs first.0.0 first.0.1 first.1, params_small first.0.1 all.0 all.1)

exec_fits : (xs : Bytes) (r : Request) → exec_at xs ≡ Some r → FitsRequest r
unfolding exec_at
exec_fits xs r e =
    let first = bind_some (quoted_at xs) _ r e in
    let all = bind_some (params_at first.0.1) _ r first.2 in
    let is : Exec first.0.0 all.0 ≡ r = cc in
    subst FitsRequest is (quoted_small xs first.0.0 first.0.1 first.1, params_small first.0.1 all.0 all.1)

prepare_fits : (xs : Bytes) (r : Request) → prepare_at xs ≡ Some r → FitsRequest r
unfolding prepare_at
prepare_fits xs r e =
    let name = bind_some (quoted_at xs) _ r e in
    let second = bind_some (blank_at name.0.1) _ r name.2 in
    let text = bind_some (quoted_at second.0) _ r second.2 in
    is_end (Prepare name.0.0 text.0.0) r text.0.1 (quoted_small xs name.0.0 name.0.1 name.1, quoted_small second.0 text.0.0 text.0.1 text.1) text.2

deallocate_fits : (xs : Bytes) (r : Request) → deallocate_at xs ≡ Some r → FitsRequest r
unfolding deallocate_at
deallocate_fits xs r e =
    let name = bind_some (quoted_at xs) _ r e in
    is_end (Deallocate name.0.0) r name.0.1 (quoted_small xs name.0.0 name.0.1 name.1) name.2

pub request_fits : (line : Bytes) (r : Request) → request_of line ≡ Some r → FitsRequest r
request_fits line r e =
    form_fits (codes "> connect ") line connect_at _ r (λ xs. connect_fits xs r)
    (form_fits (codes "> text ") line text_at _ r (λ xs. text_fits xs r)
    (form_fits (codes "> prepare ") line prepare_at _ r (λ xs. prepare_fits xs r)
    (form_fits (codes "> exec ") line exec_at _ r (λ xs. exec_fits xs r)
    (form_fits (codes "> deallocate ") line deallocate_at _ r (λ xs. deallocate_fits xs r)
    (form_fits (codes "> close") line close_at None r (λ xs. is_end Close r xs tt) (λ none. cc)))))) e
