-- The lines of a transcript are read as they are written, and only so.
use Rattle.std.proofs.Common.{◌≡◌, ◌∙◌, ◌++◌, ◌∷◌, [], ◌<◌, ◌≤◌, ◌+◌, ◌%◌, ◌^◌, ◌==◌, ◌&&◌, ℕ, zero, suc, Bool, true, false, Option, Some, None, refl, ap, ap₂, sym, arith, append-nil, subst, cond, length, nat_lt}
use Rattle.std.specs.Prelude.{not, codes, option_map, ℤ, pos, negsuc, IfSome}
use Rattle.std.specs.Fmt.{decimal, signed_decimal}
use Rattle.std.specs.Str.{bytes_eq}
use Rattle.std.proofs.lemmas.Slice.Eq.{bytes_eq-Decides}
use Rattle.std.proofs.lemmas.Fmt.{decimal_by_steps}
use Rattle.std.proofs.lemmas.Bool.Decides.{nat_tests, Decides-eqb}
use Rattle.ec_transcript.specs.Fitting.{Small, SmallFields, FitsSlot, CleanState, TellsNotice, FitsTold, FitsCode, FitsCol, fitting}
use Rattle.ec_transcript.specs.Text.{Bytes, header, quoted, slot_line, at_line, place, mark, tx, reply, rows_line, col_line, row_line, fields, count, noticed, numeral}
use Rattle.ec_transcript.specs.Reading.{blank_at, word_at, fields_at, quoted_at, behind, tried}
use Rattle.ec_transcript.specs.Lines.{notice_at, count_of, clean_one, message_at, refusal, tx_at, done_at, clean_at, refused_at, rows_at, reply_of, end_told, col_at, col_of, row_of, readers, number_of, place_of, slot_of, at_of, marked, code_of, code_within, code_below}
use Rattle.ec_link.specs.declared.request.Request.TheVariants.{Close}
use Rattle.ec_link.specs.declared.reply.Reply.{Reply}
use Rattle.ec_link.specs.declared.reply.Reply.TheVariants.{Connected, NoTarget, Rows, Done, Refused, Broken}
use Rattle.ec_link.specs.declared.reply.Tx.{Tx}
use Rattle.ec_link.specs.declared.reply.Tx.TheVariants.{Idle, Active, Failed}
use Rattle.ec_link.specs.declared.table.Col.{Col}
use Rattle.ec_transcript.specs.Clean.{is_clean}
use Rattle.ec_transcript.specs.States.{Row, Told, whole, opens, is_named, is_rows, Reads, TellsAs}
use Rattle.ec_transcript.specs.declared.version.Version.{Version}
use Rattle.ec_transcript.specs.declared.version.Version.TheVariants.{One, Two}
use Rattle.ec_transcript.proofs.Numerals.{count_again, count_found, numeral_decimal}
use Rattle.ec_transcript.proofs.NumberLaws.{bind_some, number_again, number_found}
use Rattle.ec_transcript.proofs.Letters.{quoted_again, quoted_found, blank_found, behind_found, quoted_small}
use Rattle.ec_transcript.proofs.RequestLaws.{end_some, quoted_last, no_blank, word_again, word_found, fields_again, fields_found, numeral_no_blank, Parted, fields_small, request_again, request_found, request_fits}

some_is : {A : Type 0} {x y : A} → Some x ≡ Some y → x ≡ y
some_is e = cc

-- ---- the line of a slot

pub slot_again : (s : Bool × Bytes) → FitsSlot s → slot_of (slot_line s) ≡ Some s
slot_again (true, name) fits = rw (quoted_last name fits) refl
slot_again (false, name) fits = rw (quoted_last name fits) refl

-- one form of several, for any kind of value
form_of : {A : Type 0} (P : A → Bytes → Type 0) (front line : Bytes) (read : Bytes → Option A) (next : Option A) (a : A)
    → ((xs : Bytes) → read xs ≡ Some a → P a (front ++ xs)) → (next ≡ Some a → P a line) → tried (behind front line) read next ≡ Some a → P a line
form_of P front line read next a here later e = go (behind front line) refl e
  where
    go : (o : Option Bytes) → behind front line ≡ o → tried o read next ≡ Some a → P a line
    go None is e = later e
    go (Some xs) is e = subst (P a) (sym (behind_found front line xs is)) (here xs e)

marked_found : (ready : Bool) (xs : Bytes) (s : Bool × Bytes) → Small xs → marked ready xs ≡ Some s → (xs ≡ quoted s.1) × (ready ≡ s.0)
marked_found ready xs s small e =
    let name = bind_some _ _ _ e in
    let ends = end_some _ _ _ name.2 in
    (quoted_found xs name.0.0 name.0.1 name.1 ∙ ap (λ ys. quoted name.0.0 ++ ys) ends.1 ∙ append-nil _ ∙ ap (λ (p : Bool × Bytes). quoted p.1) ends.0, ap (λ (p : Bool × Bytes). p.0) ends.0)

-- ---- what is read of bytes is bytes

small_append : (xs ys : Bytes) → Small (xs ++ ys) → Small xs × Small ys
small_append [] ys s = (tt, s)
small_append (x ∷ xs) ys s = let more = small_append xs ys s.1 in ((s.0, more.0), more.1)

quoted_end : (xs t rest : Bytes) → quoted_at xs ≡ Some (t, rest) → rest ≡ [] → (xs ≡ quoted t) × Small t
quoted_end xs t rest e none = (quoted_found xs t rest e ∙ ap (λ ys. quoted t ++ ys) none ∙ append-nil (quoted t), quoted_small xs t rest e)

marked_is : (ready : Bool) (xs : Bytes) (s : Bool × Bytes) → marked ready xs ≡ Some s → ((codes "slot " ++ (mark ready ++ 32 ∷ xs)) ≡ slot_line s) × FitsSlot s
marked_is ready xs s e =
    let name = bind_some (quoted_at xs) _ s e in
    let ends = end_some (ready, name.0.0) s name.0.1 name.2 in
    let read = quoted_end xs name.0.0 name.0.1 name.1 ends.1 in
    (ap (λ ys. codes "slot " ++ (mark ready ++ 32 ∷ ys)) read.0 ∙ ap slot_line ends.0, subst FitsSlot ends.0 read.1)

pub slot_found : (l : Bytes) (s : Bool × Bytes) → slot_of l ≡ Some s → (l ≡ slot_line s) × FitsSlot s
slot_found l s e =
    form_of (λ s l. (l ≡ slot_line s) × FitsSlot s) (codes "slot ready ") l (marked true) _ s (λ xs. marked_is true xs s)
    (form_of (λ s l. (l ≡ slot_line s) × FitsSlot s) (codes "slot free ") l (marked false) None s (λ xs. marked_is false xs s) (λ none. cc)) e

-- ---- the line of a place

-- no number begins with `-`
abbrev has_digit : Bytes → Bool
has_digit [] = false
has_digit (b ∷ t) = not (b == 45)

digit_first : (n : ℕ) → n < 10 → not (48 + n == 45) ≡ true
digit_first n small = let e : 48 + n == 45 ≡ false = grind (arith, nat_tests) in rw e refl

keeps_first : (ds : Bytes) (b : ℕ) → has_digit ds ≡ true → has_digit (ds ++ b ∷ []) ≡ true
keeps_first [] b e = cc
keeps_first (d ∷ ds) b e = e

decimal_first : (n : ℕ) → n < 2 ^ 64 → has_digit (decimal n) ≡ true
decimal_first = decimal_by_steps (λ n ds. has_digit ds ≡ true) (λ n small. digit_first n small) (λ n ds le e. keeps_first ds (48 + n % 10) e)

not_dash : (ds : Bytes) → has_digit ds ≡ true → bytes_eq ds (codes "-") ≡ false
not_dash [] e = cc
not_dash (d ∷ ds) e = go (d == 45) e
  where
    go : (q : Bool) → not q ≡ true → (q && bytes_eq ds []) ≡ false
    go true e = cc
    go false e = refl

decimal_digit_first : (n : ℕ) → n < 2 ^ 64 → bytes_eq (decimal n) (codes "-") ≡ false
decimal_digit_first n fits = not_dash (decimal n) (decimal_first n fits)

pub place_again : (o : Option ℕ) → IfSome o (λ n. n < 2 ^ 64) → place_of (place o) ≡ Some o
place_again None fits = refl
place_again (Some n) fits = rw (decimal_digit_first n fits, number_again n fits) refl

pub place_found : (w : Bytes) (o : Option ℕ) → place_of w ≡ Some o → (w ≡ place o) × IfSome o (λ n. n < 2 ^ 64)
place_found w o e = go (bytes_eq w (codes "-")) refl (number_of w) refl e
  where
    go : (b : Bool) → bytes_eq w (codes "-") ≡ b → (m : Option ℕ) → number_of w ≡ m → cond b (Some None) (option_map Some m) ≡ Some o → (w ≡ place o) × IfSome o (λ n. n < 2 ^ 64)
    go true is m num e =
        let same : None ≡ o = some_is e in
        ((bytes_eq-Decides w (codes "-")).0 is ∙ ap place same, subst (λ (o : Option ℕ). IfSome o (λ n. n < 2 ^ 64)) same tt)
    go false is None num e = cc
    go false is (Some n) num e =
        let same : Some n ≡ o = some_is e in
        let read = number_found w n num in
        (read.0 ∙ ap place same, subst (λ (o : Option ℕ). IfSome o (λ n. n < 2 ^ 64)) same read.1)

named_small : (n : ℕ) (s : Option ℕ) → n ≤ 64 → is_named n s ≡ true → IfSome s (λ n. n < 2 ^ 64)
named_small n None few e = tt
named_small n (Some k) few e = let lt : k < n = grind (arith, nat_tests) in omega arith

pub at_again : (n : ℕ) (s : Option ℕ) → n ≤ 64 → is_named n s ≡ true → at_of (at_line s) ≡ Some s
at_again n s few e = place_again s (named_small n s few e)

pub at_found : (l : Bytes) (s : Option ℕ) → at_of l ≡ Some s → l ≡ at_line s
at_found l s e =
    let rest = bind_some (behind (codes "@ ") l) place_of s e in
    behind_found (codes "@ ") l rest.0 rest.1 ∙ ap (λ w. codes "@ " ++ w) (place_found rest.0 s rest.2).0

pub at_apart : (s : Option ℕ) → slot_of (at_line s) ≡ None
at_apart s = refl

-- ---- replies of one line

tx_again : (t : Tx) (rest : Bytes) → tx_at (tx t ∷ rest) ≡ Some (t, rest)
tx_again Idle rest = refl
tx_again Active rest = refl
tx_again Failed rest = refl

tx_found : (xs : Bytes) (t : Tx) (rest : Bytes) → tx_at xs ≡ Some (t, rest) → xs ≡ tx t ∷ rest
tx_found [] t rest e = cc
tx_found (b ∷ xs) t rest e = go (b == 73) (b == 65) (b == 70) refl refl refl e
  where
    made : (u : Tx) (k : ℕ) → b ≡ k → tx u ≡ k → ◌≡◌ {A = Option (Tx × Bytes)} (Some (u, xs)) (Some (t, rest)) → b ∷ xs ≡ tx t ∷ rest
    made u k is letter e =
        let same : (u, xs) ≡ (t, rest) = some_is e in
        ap (λ c. c ∷ xs) (is ∙ sym letter) ∙ ap (λ (p : Tx × Bytes). tx p.0 ∷ p.1) same

    go : (x y z : Bool) → b == 73 ≡ x → b == 65 ≡ y → b == 70 ≡ z
        → option_map {U = Tx × Bytes} (λ t. (t, xs)) (cond x (Some Idle) (cond y (Some Active) (cond z (Some Failed) None))) ≡ Some (t, rest) → b ∷ xs ≡ tx t ∷ rest
    go true y z p q w e = made Idle 73 ((Decides-eqb b 73).0 p) refl e
    go false true z p q w e = made Active 65 ((Decides-eqb b 65).0 q) refl e
    go false false true p q w e = made Failed 70 ((Decides-eqb b 70).0 w) refl e
    go false false false p q w e = cc

clean_again : (n : ℕ) (t rest : Bytes) → CleanState n t → clean_at n (t ++ rest) ≡ Some (t, rest)
clean_again zero [] rest c = refl
clean_again zero (b ∷ t) rest c = elim c [ ]
clean_again (suc n) [] rest c = elim c [ ]
clean_again (suc n) (b ∷ t) rest c = rw (c.0, clean_again n t rest c.1) refl

one_found : (xs : Bytes) (b : ℕ) (rest : Bytes) → clean_one xs ≡ Some (b, rest) → (xs ≡ b ∷ rest) × (is_clean b ≡ true)
one_found [] b rest e = cc
one_found (a ∷ xs) b rest e = go (is_clean a) refl e
  where
    go : (c : Bool) → is_clean a ≡ c → ◌≡◌ {A = Option (ℕ × Bytes)} (cond c (Some (a, xs)) None) (Some (b, rest)) → (a ∷ xs ≡ b ∷ rest) × (is_clean b ≡ true)
    go true c e =
        let same : (a, xs) ≡ (b, rest) = some_is e in
        (ap (λ (p : ℕ × Bytes). p.0 ∷ p.1) same, subst (λ k. is_clean k ≡ true) (ap (λ (p : ℕ × Bytes). p.0) same) c)
    go false c e = cc

clean_found : (n : ℕ) (xs t rest : Bytes) → clean_at n xs ≡ Some (t, rest) → (xs ≡ t ++ rest) × CleanState n t
clean_found zero xs t rest e =
    let same : ([], xs) ≡ (t, rest) = some_is e in
    (ap (λ (p : Bytes × Bytes). p.0 ++ p.1) same, subst (CleanState zero) (ap (λ (p : Bytes × Bytes). p.0) same) tt)
clean_found (suc n) xs t rest e =
    let one = bind_some (clean_one xs) _ (t, rest) e in
    let more = bind_some (clean_at n one.0.1) _ (t, rest) one.2 in
    let same : (one.0.0 ∷ more.0.0, more.0.1) ≡ (t, rest) = some_is more.2 in
    let head = one_found xs one.0.0 one.0.1 one.1 in
    let tail = clean_found n one.0.1 more.0.0 more.0.1 more.1 in
    (head.0 ∙ ap (λ ys. one.0.0 ∷ ys) tail.0 ∙ ap (λ (q : Bytes × Bytes). q.0 ++ q.1) same, subst (CleanState (suc n)) (ap (λ (q : Bytes × Bytes). q.0) same) (head.1, tail.1))

message_found : (xs t : Bytes) → message_at xs ≡ Some t → (xs ≡ 32 ∷ quoted t) × Small t
message_found xs t e =
    let rest = bind_some (blank_at xs) _ t e in
    let message = bind_some (quoted_at rest.0) _ t rest.2 in
    let ends = end_some message.0.0 t message.0.1 message.2 in
    let text = quoted_end rest.0 message.0.0 message.0.1 message.1 ends.1 in
    (blank_found xs rest.0 rest.1 ∙ ap (λ ys. 32 ∷ ys) text.0 ∙ ap (λ u. 32 ∷ quoted u) ends.0, subst Small ends.0 text.1)

-- ---- notices

noticed_parted : (notice : Bool) → Parted (noticed notice)
noticed_parted true = refl
noticed_parted false = tt

notice_again : (v : Version) (notice : Bool) → TellsNotice v notice → notice_at v (noticed notice) ≡ Some notice
notice_again One true tells = cc
notice_again Two true tells = refl
notice_again v false tells = refl

notice_found : (v : Version) (xs : Bytes) (notice : Bool) → notice_at v xs ≡ Some notice → (xs ≡ noticed notice) × TellsNotice v notice
notice_found v [] notice e =
    let same : false ≡ notice = some_is e in
    (ap noticed same, subst (TellsNotice v) same (none v))
  where
    none : (v : Version) → TellsNotice v false
    none One = refl
    none Two = tt
notice_found One (b ∷ xs) notice e = cc
notice_found Two (b ∷ xs) notice e = go (bytes_eq (b ∷ xs) (codes " notice")) refl e
  where
    go : (t : Bool) → bytes_eq (b ∷ xs) (codes " notice") ≡ t → cond t (Some true) None ≡ Some notice → (b ∷ xs ≡ noticed notice) × TellsNotice Two notice
    go true is e = ((bytes_eq-Decides (b ∷ xs) (codes " notice")).0 is ∙ ap noticed (some_is e), tt)
    go false is e = cc

-- ---- words

decimal_no_blank : (n : ℕ) → n < 2 ^ 64 → no_blank (decimal n) ≡ true
decimal_no_blank n fits = subst (λ ds. no_blank ds ≡ true) (numeral_decimal n fits) (numeral_no_blank n)

count_no_blank : (n : Option ℕ) → IfSome n (λ k. k < 2 ^ 64) → no_blank (count n) ≡ true
count_no_blank None fits = refl
count_no_blank (Some n) fits = decimal_no_blank n fits

-- the word before a notice
count_before : (n : Option ℕ) (notice : Bool) → IfSome n (λ k. k < 2 ^ 64) → word_at (count n ++ noticed notice) ≡ (count n, noticed notice)
count_before n notice fits = word_again (count n) (noticed notice) (count_no_blank n fits) (noticed_parted notice)

-- a number before a blank, or at the end of a line
digits_before : (n : ℕ) (rest : Bytes) → Parted rest → word_at (numeral n ++ rest) ≡ (numeral n, rest)
digits_before n rest parted = word_again (numeral n) rest (numeral_no_blank n) parted

pub reply_again : (v : Version) (l : Bytes) (told : Reply) → FitsTold v told → reply told ≡ l ∷ [] → is_rows told ≡ false → reply_of v l ≡ Some (whole told)
unfolding done_at refused_at
reply_again v l (Rows table t notice) fits is plain = cc
reply_again v l Connected fits is plain = subst (λ l. reply_of v l ≡ Some (whole Connected)) (head_is is) refl
  where
    head_is : {x y : Bytes} → x ∷ [] ≡ y ∷ [] → x ≡ y
    head_is e = cc
reply_again v l NoTarget fits is plain = subst (λ l. reply_of v l ≡ Some (whole NoTarget)) (head_is is) refl
  where
    head_is : {x y : Bytes} → x ∷ [] ≡ y ∷ [] → x ≡ y
    head_is e = cc
reply_again v l Broken fits is plain = subst (λ l. reply_of v l ≡ Some (whole Broken)) (head_is is) refl
  where
    head_is : {x y : Bytes} → x ∷ [] ≡ y ∷ [] → x ≡ y
    head_is e = cc
reply_again v l (Done n t notice) fits is plain =
    subst (λ l. reply_of v l ≡ Some (whole (Done n t notice))) (head_is is)
    (rw (tx_again t (32 ∷ (count n ++ noticed notice)), count_before n notice fits.0, again n fits.0, notice_again v notice fits.1) refl)
  where
    head_is : {x y : Bytes} → x ∷ [] ≡ y ∷ [] → x ≡ y
    head_is e = cc

    again : (n : Option ℕ) → IfSome n (λ k. k < 2 ^ 64) → place_of (count n) ≡ Some n
    again None fits = refl
    again (Some n) fits = place_again (Some n) fits
reply_again v l (Refused state message t) fits is plain =
    subst (λ l. reply_of v l ≡ Some (whole (Refused state message t))) (head_is is)
    (rw (tx_again t (32 ∷ (state.0 ++ 32 ∷ quoted message)), clean_again 5 state.0 (32 ∷ quoted message) fits.0, quoted_last message fits.1) refl)
  where
    head_is : {x y : Bytes} → x ∷ [] ≡ y ∷ [] → x ≡ y
    head_is e = cc

pub rows_again : (v : Version) (t : Tx) (width height : ℕ) (notice : Bool) → TellsNotice v notice
    → reply_of v (rows_line t width height notice) ≡ Some (opens t width height notice)
unfolding rows_at
rows_again v t width height notice tells =
    rw (
      tx_again t (32 ∷ (numeral width ++ 32 ∷ (numeral height ++ noticed notice))),
      digits_before width (32 ∷ (numeral height ++ noticed notice)) refl,
      count_again width,
      digits_before height (noticed notice) (noticed_parted notice),
      count_again height,
      notice_again v notice tells,
    ) refl

abbrev Tells : Version → Told → Bytes → Type 0
Tells v told l = TellsAs (fitting v) l told

end_tells : (v : Version) (told : Reply) (front : Bytes) → reply told ≡ front ∷ [] → FitsTold v told → is_rows told ≡ false → (xs : Bytes) (out : Told) → end_told told xs ≡ Some out → Tells v out (front ++ xs)
end_tells v told front is fits plain xs out e =
    let ends = end_some (whole told) out xs e in
    subst (λ out. Tells v out (front ++ xs)) ends.0 (is ∙ ap (λ l. l ∷ []) (sym (ap (λ t. front ++ t) ends.1 ∙ append-nil front)), fits, plain)

count_is : (o : Option ℕ) → place o ≡ count o
count_is None = refl
count_is (Some n) = refl

done_tells : (v : Version) (xs : Bytes) (out : Told) → done_at v xs ≡ Some out → Tells v out (codes "< done " ++ xs)
unfolding done_at
done_tells v xs out e =
    let state = bind_some (tx_at xs) _ out e in
    let rest = bind_some (blank_at state.0.1) _ out state.2 in
    let n = bind_some (place_of (word_at rest.0).0) _ out rest.2 in
    let notice = bind_some (notice_at v (word_at rest.0).1) _ out n.2 in
    let is : whole (Done n.0 state.0.0 notice.0) ≡ out = some_is notice.2 in
    let read = place_found (word_at rest.0).0 n.0 n.1 in
    let ends = notice_found v (word_at rest.0).1 notice.0 notice.1 in
    subst (λ out. Tells v out (codes "< done " ++ xs)) is (
      ap (λ ys. (codes "< done " ++ ys) ∷ [])
          (sym (tx_found xs state.0.0 state.0.1 state.1 ∙ ap (λ ys. tx state.0.0 ∷ ys) (blank_found state.0.1 rest.0 rest.1 ∙ ap (λ ys. 32 ∷ ys) (word_found rest.0 ∙ ap₂ (λ a b. a ++ b) (read.0 ∙ count_is n.0) ends.0)))),
      (read.1, ends.1),
      refl,
    )

refused_tells : (v : Version) (xs : Bytes) (out : Told) → refused_at xs ≡ Some out → Tells v out (codes "< refused " ++ xs)
unfolding refused_at
refused_tells v xs out e =
    let state = bind_some (tx_at xs) _ out e in
    let second = bind_some (blank_at state.0.1) _ out state.2 in
    let sql = bind_some (clean_at 5 second.0) _ out second.2 in
    let message = bind_some (message_at sql.0.1) _ out sql.2 in
    let is : whole (refusal sql.0.0 message.0 state.0.0) ≡ out = some_is message.2 in
    let states = clean_found 5 second.0 sql.0.0 sql.0.1 sql.1 in
    let text = message_found sql.0.1 message.0 message.1 in
    subst (λ out. Tells v out (codes "< refused " ++ xs)) is (
      ap (λ ys. (codes "< refused " ++ ys) ∷ [])
          (sym (tx_found xs state.0.0 state.0.1 state.1 ∙ ap (λ ys. tx state.0.0 ∷ ys) (blank_found state.0.1 second.0 second.1
          ∙ ap (λ ys. 32 ∷ ys) (states.0 ∙ ap (λ ys. sql.0.0 ++ ys) text.0)))),
      (states.1, text.1),
      refl,
    )

rows_tell : (v : Version) (xs : Bytes) (out : Told) → rows_at v xs ≡ Some out → Tells v out (codes "< rows " ++ xs)
unfolding rows_at
rows_tell v xs out e =
    let state = bind_some (tx_at xs) _ out e in
    let second = bind_some (blank_at state.0.1) _ out state.2 in
    let width = bind_some (count_of (word_at second.0).0) _ out second.2 in
    let third = bind_some (blank_at (word_at second.0).1) _ out width.2 in
    let height = bind_some (count_of (word_at third.0).0) _ out third.2 in
    let notice = bind_some (notice_at v (word_at third.0).1) _ out height.2 in
    let is : opens state.0.0 width.0 height.0 notice.0 ≡ out = some_is notice.2 in
    let wide = count_found (word_at second.0).0 width.0 width.1 in
    let high = count_found (word_at third.0).0 height.0 height.1 in
    let ends = notice_found v (word_at third.0).1 notice.0 notice.1 in
    subst (λ out. Tells v out (codes "< rows " ++ xs)) is (
      ap (λ ys. codes "< rows " ++ ys) (tx_found xs state.0.0 state.0.1 state.1 ∙ ap (λ ys. tx state.0.0 ∷ ys) (blank_found state.0.1 second.0 second.1
          ∙ ap (λ ys. 32 ∷ ys) (word_found second.0 ∙ ap₂ (λ a b. a ++ b) wide (blank_found (word_at second.0).1 third.0 third.1
          ∙ ap (λ ys. 32 ∷ ys) (word_found third.0 ∙ ap₂ (λ a b. a ++ b) high ends.0))))),
      ends.1,
    )

pub reply_found : (v : Version) (l : Bytes) (out : Told) → reply_of v l ≡ Some out → TellsAs (fitting v) l out
reply_found v l out e =
    form_of (Tells v) (codes "< connected") l (end_told Connected) _ out (λ xs. end_tells v Connected (codes "< connected") refl tt refl xs out)
    (form_of (Tells v) (codes "< notarget") l (end_told NoTarget) _ out (λ xs. end_tells v NoTarget (codes "< notarget") refl tt refl xs out)
    (form_of (Tells v) (codes "< broken") l (end_told Broken) _ out (λ xs. end_tells v Broken (codes "< broken") refl tt refl xs out)
    (form_of (Tells v) (codes "< done ") l (done_at v) _ out (λ xs. done_tells v xs out)
    (form_of (Tells v) (codes "< refused ") l refused_at _ out (λ xs. refused_tells v xs out)
    (form_of (Tells v) (codes "< rows ") l (rows_at v) None out (λ xs. rows_tell v xs out) (λ none. cc)))))) e

pub one_line : (told : Reply) → is_rows told ≡ false → (l : Bytes) × (reply told ≡ l ∷ [])
one_line (Rows table t notice) e = cc
one_line Connected e = (codes "< connected", refl)
one_line NoTarget e = (codes "< notarget", refl)
one_line Broken e = (codes "< broken", refl)
one_line (Done n t notice) e = (_, refl)
one_line (Refused state message t) e = (_, refl)

-- ---- rows

pub row_again : (row : Row) → SmallFields row → row_of (row_line row) ≡ Some row
row_again row fits = fields_again row (length (fields row)) fits (omega arith)

pub row_found : (l : Bytes) (row : Row) → row_of l ≡ Some row → (l ≡ row_line row) × SmallFields row
row_found [] row e = cc
row_found (b ∷ rest) row e = go (b == 114) refl e
  where
    go : (q : Bool) → b == 114 ≡ q → cond q (fields_at (length rest) rest) None ≡ Some row → (b ∷ rest ≡ row_line row) × SmallFields row
    go true is e = (ap₂ (λ c ys. c ∷ ys) ((Decides-eqb b 114).0 is) (fields_found (length rest) rest row e), fields_small (length rest) rest row e)
    go false is e = cc

pub some_row : (n : ℕ) → (row : Row) × SmallFields row × (length row ≡ n)
some_row zero = ([], tt, refl)
some_row (suc n) = let more = some_row n in (None ∷ more.0, (tt, more.1), ap suc more.2)

-- ---- columns

code_plain : (w : Bytes) → has_digit w ≡ true → code_of w ≡ code_within (number_of w)
code_plain [] e = cc
code_plain (b ∷ w) e = go (b == 45) e
  where
    go : (q : Bool) → not q ≡ true → cond q (code_below (number_of w)) (code_within (number_of (b ∷ w))) ≡ code_within (number_of (b ∷ w))
    go true e = cc
    go false e = refl

pub code_again : (z : ℤ) → FitsCode z → code_of (signed_decimal z) ≡ Some z
code_again (pos n) fits =
    let small : n < 2 ^ 64 = omega arith in
    let test : nat_lt n (2 ^ 31) ≡ true = grind (arith, nat_tests) in
    code_plain (decimal n) (decimal_first n small) ∙ rw (number_again n small, test) refl
code_again (negsuc n) fits =
    let small : suc n < 2 ^ 64 = omega arith in
    let test : nat_lt n (2 ^ 31) ≡ true = grind (arith, nat_tests) in
    rw (number_again (suc n) small, test) refl

within_is : (w : Bytes) (o : Option ℕ) (z : ℤ) → number_of w ≡ o → code_within o ≡ Some z → (w ≡ signed_decimal z) × FitsCode z
within_is w None z is e = cc
within_is w (Some n) z is e = go (nat_lt n (2 ^ 31)) refl e
  where
    go : (b : Bool) → nat_lt n (2 ^ 31) ≡ b → cond b (Some (pos n)) None ≡ Some z → (w ≡ signed_decimal z) × FitsCode z
    go true t e =
        let same : pos n ≡ z = some_is e in
        let less : n < 2 ^ 31 = grind (arith, nat_tests) in
        ((number_found w n is).0 ∙ ap signed_decimal same, subst FitsCode same less)
    go false t e = cc

below_is : (w : Bytes) (o : Option ℕ) (z : ℤ) → number_of w ≡ o → code_below o ≡ Some z → (45 ∷ w ≡ signed_decimal z) × FitsCode z
below_is w None z is e = cc
below_is w (Some zero) z is e = cc
below_is w (Some (suc n)) z is e = go (nat_lt n (2 ^ 31)) refl e
  where
    go : (b : Bool) → nat_lt n (2 ^ 31) ≡ b → cond b (Some (negsuc n)) None ≡ Some z → (45 ∷ w ≡ signed_decimal z) × FitsCode z
    go true t e =
        let same : negsuc n ≡ z = some_is e in
        let less : n < 2 ^ 31 = grind (arith, nat_tests) in
        (ap (λ ds. 45 ∷ ds) (number_found w (suc n) is).0 ∙ ap signed_decimal same, subst FitsCode same less)
    go false t e = cc

pub code_found : (w : Bytes) (z : ℤ) → code_of w ≡ Some z → (w ≡ signed_decimal z) × FitsCode z
code_found [] z e = cc
code_found (b ∷ w) z e = go (b == 45) refl e
  where
    go : (q : Bool) → b == 45 ≡ q → cond q (code_below (number_of w)) (code_within (number_of (b ∷ w))) ≡ Some z → (b ∷ w ≡ signed_decimal z) × FitsCode z
    go true is e = let read = below_is w (number_of w) z refl e in (ap (λ c. c ∷ w) ((Decides-eqb b 45).0 is) ∙ read.0, read.1)
    go false is e = within_is (b ∷ w) (number_of (b ∷ w)) z refl e

pub col_again : (c : Col) → FitsCol c → col_of (col_line c) ≡ Some c
unfolding col_at
col_again c fits = rw (quoted_again c.name (32 ∷ signed_decimal c.code) fits.0, code_again c.code fits.1) refl

col_is : (xs : Bytes) (c : Col) → col_at xs ≡ Some c → ((codes "c " ++ xs) ≡ col_line c) × FitsCol c
unfolding col_at
col_is xs c e =
    let name = bind_some (quoted_at xs) _ c e in
    let rest = bind_some (blank_at name.0.1) _ c name.2 in
    let code = bind_some (code_of rest.0) _ c rest.2 in
    let made : Col = record { name = name.0.0; code = code.0 } in
    let is : made ≡ c = some_is code.2 in
    let read = code_found rest.0 code.0 code.1 in (
      ap (λ ys. codes "c " ++ ys) (quoted_found xs name.0.0 name.0.1 name.1 ∙ ap (λ ys. quoted name.0.0 ++ ys) (blank_found name.0.1 rest.0 rest.1 ∙ ap (λ ys. 32 ∷ ys) read.0))
          ∙ ap col_line is,
      subst FitsCol is (quoted_small xs name.0.0 name.0.1 name.1, read.1),
    )

pub col_found : (l : Bytes) (c : Col) → col_of l ≡ Some c → (l ≡ col_line c) × FitsCol c
col_found l c e =
    let rest = bind_some (behind (codes "c ") l) col_at c e in
    subst (λ l. (l ≡ col_line c) × FitsCol c) (sym (behind_found (codes "c ") l rest.0 rest.1)) (col_is rest.0 c rest.2)

-- ---- all lines

pub readers_read : (v : Version) → Reads v (readers v) (fitting v)
readers_read v = record {
  header_again = (bytes_eq-Decides (header v) (header v)).1 refl;
  header_found = λ l e. (bytes_eq-Decides l (header v)).0 e;
  slot_again = slot_again;
  slot_found = slot_found;
  at_again = at_again;
  at_found = at_found;
  at_apart = at_apart;
  request_again = request_again;
  request_found = λ l q e. (request_found l q e, request_fits l q e);
  reply_again = reply_again v;
  rows_again = rows_again v;
  reply_found = reply_found v;
  one_line = one_line;
  col_again = col_again;
  col_found = col_found;
  row_again = row_again;
  row_found = row_found;
  some_col = (record { name = []; code = pos 0 }, (tt, omega arith));
  some_row = some_row;
  some_request = (Close, tt);
  some_reply = (Broken, tt, refl);
}
