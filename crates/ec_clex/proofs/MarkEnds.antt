-- The mark that begins with a byte is the longest mark there.
use Rattle.std.proofs.Common.{◌≡◌, ℕ, Bool, true, false, [], ◌∷◌, take, drop, Option, Some, None, refl, sym, subst}
use Rattle.std.specs.Prelude.{◌==◌, nat_eq, option_map, if◌then◌else◌}
use Rattle.std.proofs.lemmas.Bool.{eqb-true}
use Rattle.ec_ctypes.specs.declared.text.token.Punct.{Punct}
use Rattle.ec_ctypes.specs.declared.text.token.Punct.TheVariants as p
use Rattle.ec_language.specs.Letters.{Text}
use Rattle.ec_language.specs.Lexemes.{Class}
use Rattle.ec_language.specs.ReadTokens.{mark_class, mark_end}
use Rattle.ec_language.proofs.Ends.{turned}
use Rattle.ec_clex.specs.declared.marks.Mark.{Mark}
use Rattle.ec_clex.specs.Marks.{begins_byte, of, left, assigning, doubling, shifting, minus, point, lonely, compared, mark_of, mark_view}

-- the class of a mark, and the text behind it
abbrev seen : Text → Option Mark → Option (Class × Text)
seen text m = option_map (mark_view text) m

-- a choice, by what is tested
pub choose : {A : Type 0} (P : A → Type 0) (x : Bool) (a b : A) → (x ≡ true → P a) → (x ≡ false → P b) → P (if x then a else b)
choose P true a b f g = f refl
choose P false a b f g = g refl

-- what holds at a byte holds where a byte is it
at_byte : (P : ℕ → Type 0) (b k : ℕ) → (b == k) ≡ true → P k → P b
at_byte P b k e h = subst P (sym (eqb-true b k e)) h

abbrev IsEnd : ℕ → Text → Option Mark → Type 0
IsEnd b rest m = seen (b ∷ rest) m ≡ mark_end 3 (b ∷ rest)

-- what is found by the classes of three, two and one bytes
abbrev three : Option Class → Option Class → Option Class → Text → Text → Text → Option (Class × Text)
three x y z s t u = elim x [ Some k ↦ Some (k, s) | None ↦ elim y [ Some k ↦ Some (k, t) | None ↦ elim z [ Some k ↦ Some (k, u) | None ↦ None ] ] ]

-- marks by two bytes behind the first
pub point_far : (rest : Text) → begins_byte 46 rest ≡ true → begins_byte 46 (drop 1 rest) ≡ true → left 3 ≡ point rest
point_far rest e f = sym (λ i. if e i then (if f i then left 3 else of p.Dot 1) else of p.Dot 1)

pub point_near : (rest : Text) → begins_byte 46 rest ≡ true → begins_byte 46 (drop 1 rest) ≡ false → of p.Dot 1 ≡ point rest
point_near rest e f = sym (λ i. if e i then (if f i then left 3 else of p.Dot 1) else of p.Dot 1)

pub shift_far : (rest : Text) (byte : ℕ) (alone equal shift assigns : Punct) → begins_byte byte rest ≡ true → begins_byte 61 (drop 1 rest) ≡ true → of assigns 3 ≡ shifting rest byte alone equal shift assigns
shift_far rest byte alone equal shift assigns e f = sym (λ i. if e i then (if f i then of assigns 3 else of shift 2) else assigning rest alone equal)

pub shift_near : (rest : Text) (byte : ℕ) (alone equal shift assigns : Punct) → begins_byte byte rest ≡ true → begins_byte 61 (drop 1 rest) ≡ false → of shift 2 ≡ shifting rest byte alone equal shift assigns
shift_near rest byte alone equal shift assigns e f = sym (λ i. if e i then (if f i then of assigns 3 else of shift 2) else assigning rest alone equal)

assign_is_two : (c : ℕ) → nat_eq 61 c ≡ false → mark_class (61 ∷ c ∷ []) ≡ None
assign_is_two c m61 = rw m61 refl

assign_is_three : (c d : ℕ) → nat_eq 61 c ≡ false → mark_class (61 ∷ c ∷ d ∷ []) ≡ None
assign_is_three c d m61 = rw m61 refl

assign_is : (rest : Text) → IsEnd 61 rest (assigning rest p.Assign p.EqualEqual)
assign_is [] = refl
assign_is (c ∷ []) = choose (IsEnd 61 (c ∷ [])) (c == 61) (of p.EqualEqual 2) (of p.Assign 1) (λ e. at_byte (λ x. IsEnd 61 (x ∷ []) (of p.EqualEqual 2)) c 61 e refl) (λ n61. let m61 : nat_eq 61 c ≡ false = turned false c 61 n61 in sym (λ i. three (assign_is_two c m61 i) (assign_is_two c m61 i) (mark_class (61 ∷ [])) [] [] (c ∷ [])))
assign_is (c ∷ d ∷ s) = choose (IsEnd 61 (c ∷ d ∷ s)) (c == 61) (of p.EqualEqual 2) (of p.Assign 1) (λ e. at_byte (λ x. IsEnd 61 (x ∷ d ∷ s) (of p.EqualEqual 2)) c 61 e refl) (λ n61. let m61 : nat_eq 61 c ≡ false = turned false c 61 n61 in sym (λ i. three (assign_is_three c d m61 i) (assign_is_two c m61 i) (mark_class (61 ∷ [])) s (d ∷ s) (c ∷ d ∷ s)))

not_is_two : (c : ℕ) → nat_eq 61 c ≡ false → mark_class (33 ∷ c ∷ []) ≡ None
not_is_two c m61 = rw m61 refl

not_is_three : (c d : ℕ) → nat_eq 61 c ≡ false → mark_class (33 ∷ c ∷ d ∷ []) ≡ None
not_is_three c d m61 = rw m61 refl

not_is : (rest : Text) → IsEnd 33 rest (assigning rest p.Not p.NotEqual)
not_is [] = refl
not_is (c ∷ []) = choose (IsEnd 33 (c ∷ [])) (c == 61) (of p.NotEqual 2) (of p.Not 1) (λ e. at_byte (λ x. IsEnd 33 (x ∷ []) (of p.NotEqual 2)) c 61 e refl) (λ n61. let m61 : nat_eq 61 c ≡ false = turned false c 61 n61 in sym (λ i. three (not_is_two c m61 i) (not_is_two c m61 i) (mark_class (33 ∷ [])) [] [] (c ∷ [])))
not_is (c ∷ d ∷ s) = choose (IsEnd 33 (c ∷ d ∷ s)) (c == 61) (of p.NotEqual 2) (of p.Not 1) (λ e. at_byte (λ x. IsEnd 33 (x ∷ d ∷ s) (of p.NotEqual 2)) c 61 e refl) (λ n61. let m61 : nat_eq 61 c ≡ false = turned false c 61 n61 in sym (λ i. three (not_is_three c d m61 i) (not_is_two c m61 i) (mark_class (33 ∷ [])) s (d ∷ s) (c ∷ d ∷ s)))

star_is_two : (c : ℕ) → nat_eq 61 c ≡ false → mark_class (42 ∷ c ∷ []) ≡ None
star_is_two c m61 = rw m61 refl

star_is_three : (c d : ℕ) → nat_eq 61 c ≡ false → mark_class (42 ∷ c ∷ d ∷ []) ≡ None
star_is_three c d m61 = rw m61 refl

star_is : (rest : Text) → IsEnd 42 rest (assigning rest p.Star p.StarAssign)
star_is [] = refl
star_is (c ∷ []) = choose (IsEnd 42 (c ∷ [])) (c == 61) (of p.StarAssign 2) (of p.Star 1) (λ e. at_byte (λ x. IsEnd 42 (x ∷ []) (of p.StarAssign 2)) c 61 e refl) (λ n61. let m61 : nat_eq 61 c ≡ false = turned false c 61 n61 in sym (λ i. three (star_is_two c m61 i) (star_is_two c m61 i) (mark_class (42 ∷ [])) [] [] (c ∷ [])))
star_is (c ∷ d ∷ s) = choose (IsEnd 42 (c ∷ d ∷ s)) (c == 61) (of p.StarAssign 2) (of p.Star 1) (λ e. at_byte (λ x. IsEnd 42 (x ∷ d ∷ s) (of p.StarAssign 2)) c 61 e refl) (λ n61. let m61 : nat_eq 61 c ≡ false = turned false c 61 n61 in sym (λ i. three (star_is_three c d m61 i) (star_is_two c m61 i) (mark_class (42 ∷ [])) s (d ∷ s) (c ∷ d ∷ s)))

slash_is_two : (c : ℕ) → nat_eq 61 c ≡ false → mark_class (47 ∷ c ∷ []) ≡ None
slash_is_two c m61 = rw m61 refl

slash_is_three : (c d : ℕ) → nat_eq 61 c ≡ false → mark_class (47 ∷ c ∷ d ∷ []) ≡ None
slash_is_three c d m61 = rw m61 refl

slash_is : (rest : Text) → IsEnd 47 rest (assigning rest p.Slash p.SlashAssign)
slash_is [] = refl
slash_is (c ∷ []) = choose (IsEnd 47 (c ∷ [])) (c == 61) (of p.SlashAssign 2) (of p.Slash 1) (λ e. at_byte (λ x. IsEnd 47 (x ∷ []) (of p.SlashAssign 2)) c 61 e refl) (λ n61. let m61 : nat_eq 61 c ≡ false = turned false c 61 n61 in sym (λ i. three (slash_is_two c m61 i) (slash_is_two c m61 i) (mark_class (47 ∷ [])) [] [] (c ∷ [])))
slash_is (c ∷ d ∷ s) = choose (IsEnd 47 (c ∷ d ∷ s)) (c == 61) (of p.SlashAssign 2) (of p.Slash 1) (λ e. at_byte (λ x. IsEnd 47 (x ∷ d ∷ s) (of p.SlashAssign 2)) c 61 e refl) (λ n61. let m61 : nat_eq 61 c ≡ false = turned false c 61 n61 in sym (λ i. three (slash_is_three c d m61 i) (slash_is_two c m61 i) (mark_class (47 ∷ [])) s (d ∷ s) (c ∷ d ∷ s)))

percent_is_two : (c : ℕ) → nat_eq 61 c ≡ false → mark_class (37 ∷ c ∷ []) ≡ None
percent_is_two c m61 = rw m61 refl

percent_is_three : (c d : ℕ) → nat_eq 61 c ≡ false → mark_class (37 ∷ c ∷ d ∷ []) ≡ None
percent_is_three c d m61 = rw m61 refl

percent_is : (rest : Text) → IsEnd 37 rest (assigning rest p.Percent p.PercentAssign)
percent_is [] = refl
percent_is (c ∷ []) = choose (IsEnd 37 (c ∷ [])) (c == 61) (of p.PercentAssign 2) (of p.Percent 1) (λ e. at_byte (λ x. IsEnd 37 (x ∷ []) (of p.PercentAssign 2)) c 61 e refl) (λ n61. let m61 : nat_eq 61 c ≡ false = turned false c 61 n61 in sym (λ i. three (percent_is_two c m61 i) (percent_is_two c m61 i) (mark_class (37 ∷ [])) [] [] (c ∷ [])))
percent_is (c ∷ d ∷ s) = choose (IsEnd 37 (c ∷ d ∷ s)) (c == 61) (of p.PercentAssign 2) (of p.Percent 1) (λ e. at_byte (λ x. IsEnd 37 (x ∷ d ∷ s) (of p.PercentAssign 2)) c 61 e refl) (λ n61. let m61 : nat_eq 61 c ≡ false = turned false c 61 n61 in sym (λ i. three (percent_is_three c d m61 i) (percent_is_two c m61 i) (mark_class (37 ∷ [])) s (d ∷ s) (c ∷ d ∷ s)))

caret_is_two : (c : ℕ) → nat_eq 61 c ≡ false → mark_class (94 ∷ c ∷ []) ≡ None
caret_is_two c m61 = rw m61 refl

caret_is_three : (c d : ℕ) → nat_eq 61 c ≡ false → mark_class (94 ∷ c ∷ d ∷ []) ≡ None
caret_is_three c d m61 = rw m61 refl

caret_is : (rest : Text) → IsEnd 94 rest (assigning rest p.Caret p.CaretAssign)
caret_is [] = refl
caret_is (c ∷ []) = choose (IsEnd 94 (c ∷ [])) (c == 61) (of p.CaretAssign 2) (of p.Caret 1) (λ e. at_byte (λ x. IsEnd 94 (x ∷ []) (of p.CaretAssign 2)) c 61 e refl) (λ n61. let m61 : nat_eq 61 c ≡ false = turned false c 61 n61 in sym (λ i. three (caret_is_two c m61 i) (caret_is_two c m61 i) (mark_class (94 ∷ [])) [] [] (c ∷ [])))
caret_is (c ∷ d ∷ s) = choose (IsEnd 94 (c ∷ d ∷ s)) (c == 61) (of p.CaretAssign 2) (of p.Caret 1) (λ e. at_byte (λ x. IsEnd 94 (x ∷ d ∷ s) (of p.CaretAssign 2)) c 61 e refl) (λ n61. let m61 : nat_eq 61 c ≡ false = turned false c 61 n61 in sym (λ i. three (caret_is_three c d m61 i) (caret_is_two c m61 i) (mark_class (94 ∷ [])) s (d ∷ s) (c ∷ d ∷ s)))

plus_is_two : (c : ℕ) → nat_eq 43 c ≡ false → nat_eq 61 c ≡ false → mark_class (43 ∷ c ∷ []) ≡ None
plus_is_two c m43 m61 = rw (m43, m61) refl

plus_is_three : (c d : ℕ) → nat_eq 43 c ≡ false → nat_eq 61 c ≡ false → mark_class (43 ∷ c ∷ d ∷ []) ≡ None
plus_is_three c d m43 m61 = rw (m43, m61) refl

plus_is : (rest : Text) → IsEnd 43 rest (doubling rest 43 p.Plus p.PlusPlus p.PlusAssign)
plus_is [] = refl
plus_is (c ∷ []) = choose (IsEnd 43 (c ∷ [])) (c == 43) (of p.PlusPlus 2) (if c == 61 then of p.PlusAssign 2 else of p.Plus 1) (λ e. at_byte (λ x. IsEnd 43 (x ∷ []) (of p.PlusPlus 2)) c 43 e refl) (λ n43. choose (IsEnd 43 (c ∷ [])) (c == 61) (of p.PlusAssign 2) (of p.Plus 1) (λ e. at_byte (λ x. IsEnd 43 (x ∷ []) (of p.PlusAssign 2)) c 61 e refl) (λ n61. let m43 : nat_eq 43 c ≡ false = turned false c 43 n43 in let m61 : nat_eq 61 c ≡ false = turned false c 61 n61 in sym (λ i. three (plus_is_two c m43 m61 i) (plus_is_two c m43 m61 i) (mark_class (43 ∷ [])) [] [] (c ∷ []))))
plus_is (c ∷ d ∷ s) = choose (IsEnd 43 (c ∷ d ∷ s)) (c == 43) (of p.PlusPlus 2) (if c == 61 then of p.PlusAssign 2 else of p.Plus 1) (λ e. at_byte (λ x. IsEnd 43 (x ∷ d ∷ s) (of p.PlusPlus 2)) c 43 e refl) (λ n43. choose (IsEnd 43 (c ∷ d ∷ s)) (c == 61) (of p.PlusAssign 2) (of p.Plus 1) (λ e. at_byte (λ x. IsEnd 43 (x ∷ d ∷ s) (of p.PlusAssign 2)) c 61 e refl) (λ n61. let m43 : nat_eq 43 c ≡ false = turned false c 43 n43 in let m61 : nat_eq 61 c ≡ false = turned false c 61 n61 in sym (λ i. three (plus_is_three c d m43 m61 i) (plus_is_two c m43 m61 i) (mark_class (43 ∷ [])) s (d ∷ s) (c ∷ d ∷ s))))

and_is_two : (c : ℕ) → nat_eq 38 c ≡ false → nat_eq 61 c ≡ false → mark_class (38 ∷ c ∷ []) ≡ None
and_is_two c m38 m61 = rw (m38, m61) refl

and_is_three : (c d : ℕ) → nat_eq 38 c ≡ false → nat_eq 61 c ≡ false → mark_class (38 ∷ c ∷ d ∷ []) ≡ None
and_is_three c d m38 m61 = rw (m38, m61) refl

and_is : (rest : Text) → IsEnd 38 rest (doubling rest 38 p.And p.AndAnd p.AndAssign)
and_is [] = refl
and_is (c ∷ []) = choose (IsEnd 38 (c ∷ [])) (c == 38) (of p.AndAnd 2) (if c == 61 then of p.AndAssign 2 else of p.And 1) (λ e. at_byte (λ x. IsEnd 38 (x ∷ []) (of p.AndAnd 2)) c 38 e refl) (λ n38. choose (IsEnd 38 (c ∷ [])) (c == 61) (of p.AndAssign 2) (of p.And 1) (λ e. at_byte (λ x. IsEnd 38 (x ∷ []) (of p.AndAssign 2)) c 61 e refl) (λ n61. let m38 : nat_eq 38 c ≡ false = turned false c 38 n38 in let m61 : nat_eq 61 c ≡ false = turned false c 61 n61 in sym (λ i. three (and_is_two c m38 m61 i) (and_is_two c m38 m61 i) (mark_class (38 ∷ [])) [] [] (c ∷ []))))
and_is (c ∷ d ∷ s) = choose (IsEnd 38 (c ∷ d ∷ s)) (c == 38) (of p.AndAnd 2) (if c == 61 then of p.AndAssign 2 else of p.And 1) (λ e. at_byte (λ x. IsEnd 38 (x ∷ d ∷ s) (of p.AndAnd 2)) c 38 e refl) (λ n38. choose (IsEnd 38 (c ∷ d ∷ s)) (c == 61) (of p.AndAssign 2) (of p.And 1) (λ e. at_byte (λ x. IsEnd 38 (x ∷ d ∷ s) (of p.AndAssign 2)) c 61 e refl) (λ n61. let m38 : nat_eq 38 c ≡ false = turned false c 38 n38 in let m61 : nat_eq 61 c ≡ false = turned false c 61 n61 in sym (λ i. three (and_is_three c d m38 m61 i) (and_is_two c m38 m61 i) (mark_class (38 ∷ [])) s (d ∷ s) (c ∷ d ∷ s))))

or_is_two : (c : ℕ) → nat_eq 124 c ≡ false → nat_eq 61 c ≡ false → mark_class (124 ∷ c ∷ []) ≡ None
or_is_two c m124 m61 = rw (m124, m61) refl

or_is_three : (c d : ℕ) → nat_eq 124 c ≡ false → nat_eq 61 c ≡ false → mark_class (124 ∷ c ∷ d ∷ []) ≡ None
or_is_three c d m124 m61 = rw (m124, m61) refl

or_is : (rest : Text) → IsEnd 124 rest (doubling rest 124 p.Or p.OrOr p.OrAssign)
or_is [] = refl
or_is (c ∷ []) = choose (IsEnd 124 (c ∷ [])) (c == 124) (of p.OrOr 2) (if c == 61 then of p.OrAssign 2 else of p.Or 1) (λ e. at_byte (λ x. IsEnd 124 (x ∷ []) (of p.OrOr 2)) c 124 e refl) (λ n124. choose (IsEnd 124 (c ∷ [])) (c == 61) (of p.OrAssign 2) (of p.Or 1) (λ e. at_byte (λ x. IsEnd 124 (x ∷ []) (of p.OrAssign 2)) c 61 e refl) (λ n61. let m124 : nat_eq 124 c ≡ false = turned false c 124 n124 in let m61 : nat_eq 61 c ≡ false = turned false c 61 n61 in sym (λ i. three (or_is_two c m124 m61 i) (or_is_two c m124 m61 i) (mark_class (124 ∷ [])) [] [] (c ∷ []))))
or_is (c ∷ d ∷ s) = choose (IsEnd 124 (c ∷ d ∷ s)) (c == 124) (of p.OrOr 2) (if c == 61 then of p.OrAssign 2 else of p.Or 1) (λ e. at_byte (λ x. IsEnd 124 (x ∷ d ∷ s) (of p.OrOr 2)) c 124 e refl) (λ n124. choose (IsEnd 124 (c ∷ d ∷ s)) (c == 61) (of p.OrAssign 2) (of p.Or 1) (λ e. at_byte (λ x. IsEnd 124 (x ∷ d ∷ s) (of p.OrAssign 2)) c 61 e refl) (λ n61. let m124 : nat_eq 124 c ≡ false = turned false c 124 n124 in let m61 : nat_eq 61 c ≡ false = turned false c 61 n61 in sym (λ i. three (or_is_three c d m124 m61 i) (or_is_two c m124 m61 i) (mark_class (124 ∷ [])) s (d ∷ s) (c ∷ d ∷ s))))

minus_is_two : (c : ℕ) → nat_eq 62 c ≡ false → nat_eq 45 c ≡ false → nat_eq 61 c ≡ false → mark_class (45 ∷ c ∷ []) ≡ None
minus_is_two c m62 m45 m61 = rw (m62, m45, m61) refl

minus_is_three : (c d : ℕ) → nat_eq 62 c ≡ false → nat_eq 45 c ≡ false → nat_eq 61 c ≡ false → mark_class (45 ∷ c ∷ d ∷ []) ≡ None
minus_is_three c d m62 m45 m61 = rw (m62, m45, m61) refl

minus_is : (rest : Text) → IsEnd 45 rest (minus rest)
minus_is [] = refl
minus_is (c ∷ []) = choose (IsEnd 45 (c ∷ [])) (c == 62) (of p.Arrow 2) (if c == 45 then of p.MinusMinus 2 else if c == 61 then of p.MinusAssign 2 else of p.Minus 1) (λ e. at_byte (λ x. IsEnd 45 (x ∷ []) (of p.Arrow 2)) c 62 e refl) (λ n62. choose (IsEnd 45 (c ∷ [])) (c == 45) (of p.MinusMinus 2) (if c == 61 then of p.MinusAssign 2 else of p.Minus 1) (λ e. at_byte (λ x. IsEnd 45 (x ∷ []) (of p.MinusMinus 2)) c 45 e refl) (λ n45. choose (IsEnd 45 (c ∷ [])) (c == 61) (of p.MinusAssign 2) (of p.Minus 1) (λ e. at_byte (λ x. IsEnd 45 (x ∷ []) (of p.MinusAssign 2)) c 61 e refl) (λ n61. let m62 : nat_eq 62 c ≡ false = turned false c 62 n62 in let m45 : nat_eq 45 c ≡ false = turned false c 45 n45 in let m61 : nat_eq 61 c ≡ false = turned false c 61 n61 in sym (λ i. three (minus_is_two c m62 m45 m61 i) (minus_is_two c m62 m45 m61 i) (mark_class (45 ∷ [])) [] [] (c ∷ [])))))
minus_is (c ∷ d ∷ s) = choose (IsEnd 45 (c ∷ d ∷ s)) (c == 62) (of p.Arrow 2) (if c == 45 then of p.MinusMinus 2 else if c == 61 then of p.MinusAssign 2 else of p.Minus 1) (λ e. at_byte (λ x. IsEnd 45 (x ∷ d ∷ s) (of p.Arrow 2)) c 62 e refl) (λ n62. choose (IsEnd 45 (c ∷ d ∷ s)) (c == 45) (of p.MinusMinus 2) (if c == 61 then of p.MinusAssign 2 else of p.Minus 1) (λ e. at_byte (λ x. IsEnd 45 (x ∷ d ∷ s) (of p.MinusMinus 2)) c 45 e refl) (λ n45. choose (IsEnd 45 (c ∷ d ∷ s)) (c == 61) (of p.MinusAssign 2) (of p.Minus 1) (λ e. at_byte (λ x. IsEnd 45 (x ∷ d ∷ s) (of p.MinusAssign 2)) c 61 e refl) (λ n61. let m62 : nat_eq 62 c ≡ false = turned false c 62 n62 in let m45 : nat_eq 45 c ≡ false = turned false c 45 n45 in let m61 : nat_eq 61 c ≡ false = turned false c 61 n61 in sym (λ i. three (minus_is_three c d m62 m45 m61 i) (minus_is_two c m62 m45 m61 i) (mark_class (45 ∷ [])) s (d ∷ s) (c ∷ d ∷ s)))))

less_is_two : (c : ℕ) → nat_eq 60 c ≡ false → nat_eq 61 c ≡ false → mark_class (60 ∷ c ∷ []) ≡ None
less_is_two c x y = rw (x, y) refl

less_is_three : (c d : ℕ) → nat_eq 60 c ≡ false → nat_eq 61 c ≡ false → mark_class (60 ∷ c ∷ d ∷ []) ≡ None
less_is_three c d x y = rw (x, y) refl

less_is_shift : (d : ℕ) → nat_eq 61 d ≡ false → mark_class (60 ∷ 60 ∷ d ∷ []) ≡ None
less_is_shift d x = rw x refl

less_is : (rest : Text) → IsEnd 60 rest (shifting rest 60 p.Less p.LessEqual p.Shl p.ShlAssign)
less_is [] = refl
less_is (c ∷ []) = choose (IsEnd 60 (c ∷ [])) (c == 60) (of p.Shl 2) (if c == 61 then of p.LessEqual 2 else of p.Less 1) (λ e. at_byte (λ x. IsEnd 60 (x ∷ []) (of p.Shl 2)) c 60 e refl)
    (λ n. choose (IsEnd 60 (c ∷ [])) (c == 61) (of p.LessEqual 2) (of p.Less 1) (λ e. at_byte (λ x. IsEnd 60 (x ∷ []) (of p.LessEqual 2)) c 61 e refl)
    (λ k. let x : nat_eq 60 c ≡ false = turned false c 60 n in let y : nat_eq 61 c ≡ false = turned false c 61 k in sym (λ i. three (less_is_two c x y i) (less_is_two c x y i) (mark_class (60 ∷ [])) [] [] (c ∷ []))))
less_is (c ∷ d ∷ s) = choose (IsEnd 60 (c ∷ d ∷ s)) (c == 60) (if d == 61 then of p.ShlAssign 3 else of p.Shl 2) (if c == 61 then of p.LessEqual 2 else of p.Less 1)
    (λ e. choose (IsEnd 60 (c ∷ d ∷ s)) (d == 61) (of p.ShlAssign 3) (of p.Shl 2)
    (λ f. at_byte (λ x. IsEnd 60 (x ∷ d ∷ s) (of p.ShlAssign 3)) c 60 e (at_byte (λ x. IsEnd 60 (60 ∷ x ∷ s) (of p.ShlAssign 3)) d 61 f refl))
    (λ n. at_byte (λ x. IsEnd 60 (x ∷ d ∷ s) (of p.Shl 2)) c 60 e (let x : nat_eq 61 d ≡ false = turned false d 61 n in sym (λ i. three (less_is_shift d x i) (mark_class (60 ∷ 60 ∷ [])) (mark_class (60 ∷ [])) s (d ∷ s) (60 ∷ d ∷ s)))))
    (λ n. choose (IsEnd 60 (c ∷ d ∷ s)) (c == 61) (of p.LessEqual 2) (of p.Less 1) (λ e. at_byte (λ x. IsEnd 60 (x ∷ d ∷ s) (of p.LessEqual 2)) c 61 e refl)
    (λ k. let x : nat_eq 60 c ≡ false = turned false c 60 n in let y : nat_eq 61 c ≡ false = turned false c 61 k in sym (λ i. three (less_is_three c d x y i) (less_is_two c x y i) (mark_class (60 ∷ [])) s (d ∷ s) (c ∷ d ∷ s))))

greater_is_two : (c : ℕ) → nat_eq 62 c ≡ false → nat_eq 61 c ≡ false → mark_class (62 ∷ c ∷ []) ≡ None
greater_is_two c x y = rw (x, y) refl

greater_is_three : (c d : ℕ) → nat_eq 62 c ≡ false → nat_eq 61 c ≡ false → mark_class (62 ∷ c ∷ d ∷ []) ≡ None
greater_is_three c d x y = rw (x, y) refl

greater_is_shift : (d : ℕ) → nat_eq 61 d ≡ false → mark_class (62 ∷ 62 ∷ d ∷ []) ≡ None
greater_is_shift d x = rw x refl

greater_is : (rest : Text) → IsEnd 62 rest (shifting rest 62 p.Greater p.GreaterEqual p.Shr p.ShrAssign)
greater_is [] = refl
greater_is (c ∷ []) = choose (IsEnd 62 (c ∷ [])) (c == 62) (of p.Shr 2) (if c == 61 then of p.GreaterEqual 2 else of p.Greater 1) (λ e. at_byte (λ x. IsEnd 62 (x ∷ []) (of p.Shr 2)) c 62 e refl)
    (λ n. choose (IsEnd 62 (c ∷ [])) (c == 61) (of p.GreaterEqual 2) (of p.Greater 1) (λ e. at_byte (λ x. IsEnd 62 (x ∷ []) (of p.GreaterEqual 2)) c 61 e refl)
    (λ k. let x : nat_eq 62 c ≡ false = turned false c 62 n in let y : nat_eq 61 c ≡ false = turned false c 61 k in sym (λ i. three (greater_is_two c x y i) (greater_is_two c x y i) (mark_class (62 ∷ [])) [] [] (c ∷ []))))
greater_is (c ∷ d ∷ s) = choose (IsEnd 62 (c ∷ d ∷ s)) (c == 62) (if d == 61 then of p.ShrAssign 3 else of p.Shr 2) (if c == 61 then of p.GreaterEqual 2 else of p.Greater 1)
    (λ e. choose (IsEnd 62 (c ∷ d ∷ s)) (d == 61) (of p.ShrAssign 3) (of p.Shr 2)
    (λ f. at_byte (λ x. IsEnd 62 (x ∷ d ∷ s) (of p.ShrAssign 3)) c 62 e (at_byte (λ x. IsEnd 62 (62 ∷ x ∷ s) (of p.ShrAssign 3)) d 61 f refl))
    (λ n. at_byte (λ x. IsEnd 62 (x ∷ d ∷ s) (of p.Shr 2)) c 62 e (let x : nat_eq 61 d ≡ false = turned false d 61 n in sym (λ i. three (greater_is_shift d x i) (mark_class (62 ∷ 62 ∷ [])) (mark_class (62 ∷ [])) s (d ∷ s) (62 ∷ d ∷ s)))))
    (λ n. choose (IsEnd 62 (c ∷ d ∷ s)) (c == 61) (of p.GreaterEqual 2) (of p.Greater 1) (λ e. at_byte (λ x. IsEnd 62 (x ∷ d ∷ s) (of p.GreaterEqual 2)) c 61 e refl)
    (λ k. let x : nat_eq 62 c ≡ false = turned false c 62 n in let y : nat_eq 61 c ≡ false = turned false c 61 k in sym (λ i. three (greater_is_three c d x y i) (greater_is_two c x y i) (mark_class (62 ∷ [])) s (d ∷ s) (c ∷ d ∷ s))))

point_two : (c : ℕ) → nat_eq 46 c ≡ false → mark_class (46 ∷ c ∷ []) ≡ None
point_two c x = rw x refl

point_three : (c d : ℕ) → nat_eq 46 c ≡ false → mark_class (46 ∷ c ∷ d ∷ []) ≡ None
point_three c d x = rw x refl

point_last : (d : ℕ) → nat_eq 46 d ≡ false → mark_class (46 ∷ 46 ∷ d ∷ []) ≡ None
point_last d x = rw x refl

point_is : (rest : Text) → IsEnd 46 rest (point rest)
point_is [] = refl
point_is (c ∷ []) = choose (IsEnd 46 (c ∷ [])) (c == 46) (of p.Dot 1) (of p.Dot 1) (λ e. at_byte (λ x. IsEnd 46 (x ∷ []) (of p.Dot 1)) c 46 e refl)
    (λ n. let x : nat_eq 46 c ≡ false = turned false c 46 n in sym (λ i. three (point_two c x i) (point_two c x i) (mark_class (46 ∷ [])) [] [] (c ∷ [])))
point_is (c ∷ d ∷ s) = choose (IsEnd 46 (c ∷ d ∷ s)) (c == 46) (if d == 46 then left 3 else of p.Dot 1) (of p.Dot 1)
    (λ e. choose (IsEnd 46 (c ∷ d ∷ s)) (d == 46) (left 3) (of p.Dot 1)
    (λ f. at_byte (λ x. IsEnd 46 (x ∷ d ∷ s) (left 3)) c 46 e (at_byte (λ x. IsEnd 46 (46 ∷ x ∷ s) (left 3)) d 46 f refl))
    (λ n. at_byte (λ x. IsEnd 46 (x ∷ d ∷ s) (of p.Dot 1)) c 46 e (let x : nat_eq 46 d ≡ false = turned false d 46 n in sym (λ i. three (point_last d x i) (mark_class (46 ∷ 46 ∷ [])) (mark_class (46 ∷ [])) s (d ∷ s) (46 ∷ d ∷ s)))))
    (λ n. let x : nat_eq 46 c ≡ false = turned false c 46 n in sym (λ i. three (point_three c d x i) (point_two c x i) (mark_class (46 ∷ [])) s (d ∷ s) (c ∷ d ∷ s)))

lone_40 : (rest : Text) → IsEnd 40 rest (of p.LeftParen 1)
lone_40 [] = refl
lone_40 (c ∷ []) = refl
lone_40 (c ∷ d ∷ s) = refl

lone_41 : (rest : Text) → IsEnd 41 rest (of p.RightParen 1)
lone_41 [] = refl
lone_41 (c ∷ []) = refl
lone_41 (c ∷ d ∷ s) = refl

lone_91 : (rest : Text) → IsEnd 91 rest (of p.LeftBracket 1)
lone_91 [] = refl
lone_91 (c ∷ []) = refl
lone_91 (c ∷ d ∷ s) = refl

lone_93 : (rest : Text) → IsEnd 93 rest (of p.RightBracket 1)
lone_93 [] = refl
lone_93 (c ∷ []) = refl
lone_93 (c ∷ d ∷ s) = refl

lone_123 : (rest : Text) → IsEnd 123 rest (of p.LeftBrace 1)
lone_123 [] = refl
lone_123 (c ∷ []) = refl
lone_123 (c ∷ d ∷ s) = refl

lone_125 : (rest : Text) → IsEnd 125 rest (of p.RightBrace 1)
lone_125 [] = refl
lone_125 (c ∷ []) = refl
lone_125 (c ∷ d ∷ s) = refl

lone_59 : (rest : Text) → IsEnd 59 rest (of p.Semicolon 1)
lone_59 [] = refl
lone_59 (c ∷ []) = refl
lone_59 (c ∷ d ∷ s) = refl

lone_44 : (rest : Text) → IsEnd 44 rest (of p.Comma 1)
lone_44 [] = refl
lone_44 (c ∷ []) = refl
lone_44 (c ∷ d ∷ s) = refl

lone_126 : (rest : Text) → IsEnd 126 rest (of p.Tilde 1)
lone_126 [] = refl
lone_126 (c ∷ []) = refl
lone_126 (c ∷ d ∷ s) = refl

lone_58 : (rest : Text) → IsEnd 58 rest (of p.Colon 1)
lone_58 [] = refl
lone_58 (c ∷ []) = refl
lone_58 (c ∷ d ∷ s) = refl

lone_63 : (rest : Text) → IsEnd 63 rest (left 1)
lone_63 [] = refl
lone_63 (c ∷ []) = refl
lone_63 (c ∷ d ∷ s) = refl

-- a byte with which no mark begins
abbrev Other : ℕ → Type 0
Other b = ((b == 45) ≡ false) × ((b == 46) ≡ false) × ((b == 60) ≡ false) × ((b == 62) ≡ false) × ((b == 43) ≡ false) × ((b == 38) ≡ false) × ((b == 124) ≡ false) × ((b == 61) ≡ false) × ((b == 33) ≡ false) × ((b == 42) ≡ false) × ((b == 47) ≡ false) × ((b == 37) ≡ false) × ((b == 94) ≡ false) × ((b == 40) ≡ false) × ((b == 41) ≡ false) × ((b == 91) ≡ false) × ((b == 93) ≡ false) × ((b == 123) ≡ false) × ((b == 125) ≡ false) × ((b == 59) ≡ false) × ((b == 44) ≡ false) × ((b == 126) ≡ false) × ((b == 58) ≡ false) × ((b == 63) ≡ false)

no_class : (b : ℕ) (w : Text) → Other b → mark_class (b ∷ w) ≡ None
no_class b w h =
    let x45 : nat_eq 45 b ≡ false = turned false b 45 h.0 in
    let x46 : nat_eq 46 b ≡ false = turned false b 46 h.1 in
    let x60 : nat_eq 60 b ≡ false = turned false b 60 h.2 in
    let x62 : nat_eq 62 b ≡ false = turned false b 62 h.3 in
    let x43 : nat_eq 43 b ≡ false = turned false b 43 h.4 in
    let x38 : nat_eq 38 b ≡ false = turned false b 38 h.5 in
    let x124 : nat_eq 124 b ≡ false = turned false b 124 h.6 in
    let x61 : nat_eq 61 b ≡ false = turned false b 61 h.7 in
    let x33 : nat_eq 33 b ≡ false = turned false b 33 h.8 in
    let x42 : nat_eq 42 b ≡ false = turned false b 42 h.9 in
    let x47 : nat_eq 47 b ≡ false = turned false b 47 h.10 in
    let x37 : nat_eq 37 b ≡ false = turned false b 37 h.11 in
    let x94 : nat_eq 94 b ≡ false = turned false b 94 h.12 in
    let x40 : nat_eq 40 b ≡ false = turned false b 40 h.13 in
    let x41 : nat_eq 41 b ≡ false = turned false b 41 h.14 in
    let x91 : nat_eq 91 b ≡ false = turned false b 91 h.15 in
    let x93 : nat_eq 93 b ≡ false = turned false b 93 h.16 in
    let x123 : nat_eq 123 b ≡ false = turned false b 123 h.17 in
    let x125 : nat_eq 125 b ≡ false = turned false b 125 h.18 in
    let x59 : nat_eq 59 b ≡ false = turned false b 59 h.19 in
    let x44 : nat_eq 44 b ≡ false = turned false b 44 h.20 in
    let x126 : nat_eq 126 b ≡ false = turned false b 126 h.21 in
    let x58 : nat_eq 58 b ≡ false = turned false b 58 h.22 in
    let x63 : nat_eq 63 b ≡ false = turned false b 63 h.23 in
    rw (x45, x46, x60, x62, x43, x38, x124, x61, x33, x42, x47, x37, x94, x40, x41, x91, x93, x123, x125, x59, x44, x126, x58, x63) refl

no_end : (b : ℕ) (rest : Text) → Other b → None ≡ mark_end 3 (b ∷ rest)
no_end b rest h = sym (λ i. three (no_class b (take 2 rest) h i) (no_class b (take 1 rest) h i) (no_class b [] h i) (drop 2 rest) (drop 1 rest) rest)

lonely_is : (b : ℕ) (rest : Text) (n45 : (b == 45) ≡ false) (n46 : (b == 46) ≡ false) (n60 : (b == 60) ≡ false) (n62 : (b == 62) ≡ false) (n43 : (b == 43) ≡ false) (n38 : (b == 38) ≡ false) (n124 : (b == 124) ≡ false) (n61 : (b == 61) ≡ false) (n33 : (b == 33) ≡ false) (n42 : (b == 42) ≡ false) (n47 : (b == 47) ≡ false) (n37 : (b == 37) ≡ false) (n94 : (b == 94) ≡ false) → IsEnd b rest (lonely b)
lonely_is b rest n45 n46 n60 n62 n43 n38 n124 n61 n33 n42 n47 n37 n94 =
    choose (IsEnd b rest) (b == 40) (of p.LeftParen 1) (if b == 41 then of p.RightParen 1 else (if b == 91 then of p.LeftBracket 1 else (if b == 93 then of p.RightBracket 1 else (if b == 123 then of p.LeftBrace 1 else (if b == 125 then of p.RightBrace 1 else (if b == 59 then of p.Semicolon 1 else (if b == 44 then of p.Comma 1 else (if b == 126 then of p.Tilde 1 else (if b == 58 then of p.Colon 1 else (if b == 63 then left 1 else None)))))))))) (λ e. at_byte (λ x. IsEnd x rest (of p.LeftParen 1)) b 40 e (lone_40 rest))
    (λ n40. choose (IsEnd b rest) (b == 41) (of p.RightParen 1) (if b == 91 then of p.LeftBracket 1 else (if b == 93 then of p.RightBracket 1 else (if b == 123 then of p.LeftBrace 1 else (if b == 125 then of p.RightBrace 1 else (if b == 59 then of p.Semicolon 1 else (if b == 44 then of p.Comma 1 else (if b == 126 then of p.Tilde 1 else (if b == 58 then of p.Colon 1 else (if b == 63 then left 1 else None))))))))) (λ e. at_byte (λ x. IsEnd x rest (of p.RightParen 1)) b 41 e (lone_41 rest))
    (λ n41. choose (IsEnd b rest) (b == 91) (of p.LeftBracket 1) (if b == 93 then of p.RightBracket 1 else (if b == 123 then of p.LeftBrace 1 else (if b == 125 then of p.RightBrace 1 else (if b == 59 then of p.Semicolon 1 else (if b == 44 then of p.Comma 1 else (if b == 126 then of p.Tilde 1 else (if b == 58 then of p.Colon 1 else (if b == 63 then left 1 else None)))))))) (λ e. at_byte (λ x. IsEnd x rest (of p.LeftBracket 1)) b 91 e (lone_91 rest))
    (λ n91. choose (IsEnd b rest) (b == 93) (of p.RightBracket 1) (if b == 123 then of p.LeftBrace 1 else (if b == 125 then of p.RightBrace 1 else (if b == 59 then of p.Semicolon 1 else (if b == 44 then of p.Comma 1 else (if b == 126 then of p.Tilde 1 else (if b == 58 then of p.Colon 1 else (if b == 63 then left 1 else None))))))) (λ e. at_byte (λ x. IsEnd x rest (of p.RightBracket 1)) b 93 e (lone_93 rest))
    (λ n93. choose (IsEnd b rest) (b == 123) (of p.LeftBrace 1) (if b == 125 then of p.RightBrace 1 else (if b == 59 then of p.Semicolon 1 else (if b == 44 then of p.Comma 1 else (if b == 126 then of p.Tilde 1 else (if b == 58 then of p.Colon 1 else (if b == 63 then left 1 else None)))))) (λ e. at_byte (λ x. IsEnd x rest (of p.LeftBrace 1)) b 123 e (lone_123 rest))
    (λ n123. choose (IsEnd b rest) (b == 125) (of p.RightBrace 1) (if b == 59 then of p.Semicolon 1 else (if b == 44 then of p.Comma 1 else (if b == 126 then of p.Tilde 1 else (if b == 58 then of p.Colon 1 else (if b == 63 then left 1 else None))))) (λ e. at_byte (λ x. IsEnd x rest (of p.RightBrace 1)) b 125 e (lone_125 rest))
    (λ n125. choose (IsEnd b rest) (b == 59) (of p.Semicolon 1) (if b == 44 then of p.Comma 1 else (if b == 126 then of p.Tilde 1 else (if b == 58 then of p.Colon 1 else (if b == 63 then left 1 else None)))) (λ e. at_byte (λ x. IsEnd x rest (of p.Semicolon 1)) b 59 e (lone_59 rest))
    (λ n59. choose (IsEnd b rest) (b == 44) (of p.Comma 1) (if b == 126 then of p.Tilde 1 else (if b == 58 then of p.Colon 1 else (if b == 63 then left 1 else None))) (λ e. at_byte (λ x. IsEnd x rest (of p.Comma 1)) b 44 e (lone_44 rest))
    (λ n44. choose (IsEnd b rest) (b == 126) (of p.Tilde 1) (if b == 58 then of p.Colon 1 else (if b == 63 then left 1 else None)) (λ e. at_byte (λ x. IsEnd x rest (of p.Tilde 1)) b 126 e (lone_126 rest))
    (λ n126. choose (IsEnd b rest) (b == 58) (of p.Colon 1) (if b == 63 then left 1 else None) (λ e. at_byte (λ x. IsEnd x rest (of p.Colon 1)) b 58 e (lone_58 rest))
    (λ n58. choose (IsEnd b rest) (b == 63) (left 1) None (λ e. at_byte (λ x. IsEnd x rest (left 1)) b 63 e (lone_63 rest))
    (λ n63. no_end b rest (n45, n46, n60, n62, n43, n38, n124, n61, n33, n42, n47, n37, n94, n40, n41, n91, n93, n123, n125, n59, n44, n126, n58, n63))))))))))))

compared_is : (b : ℕ) (rest : Text) (n45 : (b == 45) ≡ false) (n46 : (b == 46) ≡ false) (n60 : (b == 60) ≡ false) (n62 : (b == 62) ≡ false) (n43 : (b == 43) ≡ false) (n38 : (b == 38) ≡ false) (n124 : (b == 124) ≡ false) → IsEnd b rest (compared b rest)
compared_is b rest n45 n46 n60 n62 n43 n38 n124 =
    choose (IsEnd b rest) (b == 61) (assigning rest p.Assign p.EqualEqual) (if b == 33 then assigning rest p.Not p.NotEqual else (if b == 42 then assigning rest p.Star p.StarAssign else (if b == 47 then assigning rest p.Slash p.SlashAssign else (if b == 37 then assigning rest p.Percent p.PercentAssign else (if b == 94 then assigning rest p.Caret p.CaretAssign else (lonely b)))))) (λ e. at_byte (λ x. IsEnd x rest (assigning rest p.Assign p.EqualEqual)) b 61 e (assign_is rest))
    (λ n61. choose (IsEnd b rest) (b == 33) (assigning rest p.Not p.NotEqual) (if b == 42 then assigning rest p.Star p.StarAssign else (if b == 47 then assigning rest p.Slash p.SlashAssign else (if b == 37 then assigning rest p.Percent p.PercentAssign else (if b == 94 then assigning rest p.Caret p.CaretAssign else (lonely b))))) (λ e. at_byte (λ x. IsEnd x rest (assigning rest p.Not p.NotEqual)) b 33 e (not_is rest))
    (λ n33. choose (IsEnd b rest) (b == 42) (assigning rest p.Star p.StarAssign) (if b == 47 then assigning rest p.Slash p.SlashAssign else (if b == 37 then assigning rest p.Percent p.PercentAssign else (if b == 94 then assigning rest p.Caret p.CaretAssign else (lonely b)))) (λ e. at_byte (λ x. IsEnd x rest (assigning rest p.Star p.StarAssign)) b 42 e (star_is rest))
    (λ n42. choose (IsEnd b rest) (b == 47) (assigning rest p.Slash p.SlashAssign) (if b == 37 then assigning rest p.Percent p.PercentAssign else (if b == 94 then assigning rest p.Caret p.CaretAssign else (lonely b))) (λ e. at_byte (λ x. IsEnd x rest (assigning rest p.Slash p.SlashAssign)) b 47 e (slash_is rest))
    (λ n47. choose (IsEnd b rest) (b == 37) (assigning rest p.Percent p.PercentAssign) (if b == 94 then assigning rest p.Caret p.CaretAssign else (lonely b)) (λ e. at_byte (λ x. IsEnd x rest (assigning rest p.Percent p.PercentAssign)) b 37 e (percent_is rest))
    (λ n37. choose (IsEnd b rest) (b == 94) (assigning rest p.Caret p.CaretAssign) (lonely b) (λ e. at_byte (λ x. IsEnd x rest (assigning rest p.Caret p.CaretAssign)) b 94 e (caret_is rest))
    (λ n94. lonely_is b rest n45 n46 n60 n62 n43 n38 n124 n61 n33 n42 n47 n37 n94))))))

pub mark_is : (b : ℕ) (rest : Text) → option_map (mark_view (b ∷ rest)) (mark_of b rest) ≡ mark_end 3 (b ∷ rest)
mark_is b rest =
    choose (IsEnd b rest) (b == 45) (minus rest) (if b == 46 then point rest else (if b == 60 then shifting rest 60 p.Less p.LessEqual p.Shl p.ShlAssign else (if b == 62 then shifting rest 62 p.Greater p.GreaterEqual p.Shr p.ShrAssign else (if b == 43 then doubling rest 43 p.Plus p.PlusPlus p.PlusAssign else (if b == 38 then doubling rest 38 p.And p.AndAnd p.AndAssign else (if b == 124 then doubling rest 124 p.Or p.OrOr p.OrAssign else (compared b rest))))))) (λ e. at_byte (λ x. IsEnd x rest (minus rest)) b 45 e (minus_is rest))
    (λ n45. choose (IsEnd b rest) (b == 46) (point rest) (if b == 60 then shifting rest 60 p.Less p.LessEqual p.Shl p.ShlAssign else (if b == 62 then shifting rest 62 p.Greater p.GreaterEqual p.Shr p.ShrAssign else (if b == 43 then doubling rest 43 p.Plus p.PlusPlus p.PlusAssign else (if b == 38 then doubling rest 38 p.And p.AndAnd p.AndAssign else (if b == 124 then doubling rest 124 p.Or p.OrOr p.OrAssign else (compared b rest)))))) (λ e. at_byte (λ x. IsEnd x rest (point rest)) b 46 e (point_is rest))
    (λ n46. choose (IsEnd b rest) (b == 60) (shifting rest 60 p.Less p.LessEqual p.Shl p.ShlAssign) (if b == 62 then shifting rest 62 p.Greater p.GreaterEqual p.Shr p.ShrAssign else (if b == 43 then doubling rest 43 p.Plus p.PlusPlus p.PlusAssign else (if b == 38 then doubling rest 38 p.And p.AndAnd p.AndAssign else (if b == 124 then doubling rest 124 p.Or p.OrOr p.OrAssign else (compared b rest))))) (λ e. at_byte (λ x. IsEnd x rest (shifting rest 60 p.Less p.LessEqual p.Shl p.ShlAssign)) b 60 e (less_is rest))
    (λ n60. choose (IsEnd b rest) (b == 62) (shifting rest 62 p.Greater p.GreaterEqual p.Shr p.ShrAssign) (if b == 43 then doubling rest 43 p.Plus p.PlusPlus p.PlusAssign else (if b == 38 then doubling rest 38 p.And p.AndAnd p.AndAssign else (if b == 124 then doubling rest 124 p.Or p.OrOr p.OrAssign else (compared b rest)))) (λ e. at_byte (λ x. IsEnd x rest (shifting rest 62 p.Greater p.GreaterEqual p.Shr p.ShrAssign)) b 62 e (greater_is rest))
    (λ n62. choose (IsEnd b rest) (b == 43) (doubling rest 43 p.Plus p.PlusPlus p.PlusAssign) (if b == 38 then doubling rest 38 p.And p.AndAnd p.AndAssign else (if b == 124 then doubling rest 124 p.Or p.OrOr p.OrAssign else (compared b rest))) (λ e. at_byte (λ x. IsEnd x rest (doubling rest 43 p.Plus p.PlusPlus p.PlusAssign)) b 43 e (plus_is rest))
    (λ n43. choose (IsEnd b rest) (b == 38) (doubling rest 38 p.And p.AndAnd p.AndAssign) (if b == 124 then doubling rest 124 p.Or p.OrOr p.OrAssign else (compared b rest)) (λ e. at_byte (λ x. IsEnd x rest (doubling rest 38 p.And p.AndAnd p.AndAssign)) b 38 e (and_is rest))
    (λ n38. choose (IsEnd b rest) (b == 124) (doubling rest 124 p.Or p.OrOr p.OrAssign) (compared b rest) (λ e. at_byte (λ x. IsEnd x rest (doubling rest 124 p.Or p.OrOr p.OrAssign)) b 124 e (or_is rest))
    (λ n124. compared_is b rest n45 n46 n60 n62 n43 n38 n124)))))))
