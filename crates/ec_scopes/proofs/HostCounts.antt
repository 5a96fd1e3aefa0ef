-- How many members hosts stand for, as far as it counts.
use Rattle.std.proofs.Common.{◌≡◌, ◌∙◌, ℕ, zero, suc, ◌+◌, ◌<◌, ◌≤◌, List, [], ◌∷◌, map, drop, length, Option, Some, None, option_map, slice_get, nat_le, refl, sym, ap, arith, add-one}
use Rattle.std.proofs.lemmas.Bool.Decides.{nat_tests}
use Rattle.std.proofs.lemmas.Option.{slice_get-map}
use Rattle.ec_ctypes.specs.declared.types.ty.Ty.{Ty}
use Rattle.ec_ctypes.specs.trees.Types.{structure}
use Rattle.ec_typing_defs.specs.Worlds.{StructInfo}
use Rattle.ec_typing_defs.specs.Expressions.{stands_for, stands_for_member, stands_for_all}
use Rattle.ec_typing_defs.specs.Embedded.{max_members}
use Rattle.ec_scopes.specs.declared.structs.StructRow.{StructRow}
use Rattle.ec_scopes.specs.Counts.{counted, member_stands}
use Rattle.ec_scopes.specs.Entries.{type_view, named_view}
use Rattle.ec_scopes.specs.Structs.{infos, IsKept}

-- one more, of which as much is known
pub counted_step : (a s r : ℕ) → counted (counted (a + counted s) + r) ≡ counted (a + (s + r))
counted_step a s r = grind (arith, nat_tests)

pub counted_kept : (a : ℕ) → a ≤ 1001 → counted (a + 0) ≡ a
counted_kept a h = grind (arith, nat_tests)

pub none_counted : (a : ℕ) → counted (0 + a) ≡ counted a
none_counted a = grind (arith, nat_tests)

pub counted_small : (a n : ℕ) → a ≡ counted n → a ≤ 1001
counted_small a n e = grind (arith, nat_tests)

pub few_counted : (n : ℕ) → nat_le (counted n) max_members ≡ nat_le n max_members
few_counted n = grind (arith, nat_tests)

abbrev pub or_zero : Option ℕ → ℕ
or_zero None = 0
or_zero (Some n) = n

counted_at : (is : List StructInfo) (k : ℕ) → counted (stands_for is (structure k)) ≡ or_zero (slice_get (map (λ s. counted s.stands_for) is) k)
counted_at [] k = refl
counted_at (s ∷ ss) zero = refl
counted_at (s ∷ ss) (suc k) = counted_at ss k

-- how many members a host of a struct stands for is what is kept of it
pub struct_count : (rows : List StructRow) (ks : List ℕ) (k : ℕ) → IsKept rows ks → or_zero (option_map (λ r. r.stands_for) (slice_get rows k)) ≡ counted (stands_for (infos rows ks) (structure k))
struct_count rows ks k kept =
    ap or_zero (sym (slice_get-map (λ r. r.stands_for) rows k) ∙ ap (λ l. slice_get l k) kept.counts) ∙ sym (counted_at (infos rows ks) k)

member_counted : (is : List StructInfo) (o : Option Ty) → member_stands is (Some o) ≡ stands_for_member is (type_view o)
member_counted is None = refl
member_counted is (Some t) = refl

-- the first of the members that are left
pub next_member : (is : List StructInfo) (ms : List (List ℕ × Option Ty)) (i : ℕ) → i < length ms
    → stands_for_all is (named_view type_view (drop i ms)) ≡ member_stands is (option_map (λ e. e.1) (slice_get ms i)) + stands_for_all is (named_view type_view (drop (suc i) ms))
next_member is [] i h = absurd (omega (arith, h))
next_member is (m ∷ ms) zero h = ap (λ n. n + stands_for_all is (named_view type_view ms)) (sym (member_counted is m.1))
next_member is (m ∷ ms) (suc i) h = next_member is ms i (omega (arith, h))

-- one member more
pub count_step : (is : List StructInfo) (ms : List (List ℕ × Option Ty)) (i all next one : ℕ) → i < length ms
    → one ≡ counted (member_stands is (option_map (λ e. e.1) (slice_get ms i))) → next ≡ counted (all + one)
    → counted (all + stands_for_all is (named_view type_view (drop i ms))) ≡ counted (stands_for_all is (named_view type_view ms))
    → counted (next + stands_for_all is (named_view type_view (drop (i + 1) ms))) ≡ counted (stands_for_all is (named_view type_view ms))
count_step is ms i all next one h e n so_far =
    let rest = stands_for_all is (named_view type_view (drop (i + 1) ms)) in
    let s = member_stands is (option_map (λ e. e.1) (slice_get ms i)) in
    ap (λ k. counted (k + rest)) (n ∙ ap (λ k. counted (all + k)) e) ∙ counted_step all s rest
    ∙ ap (λ k. counted (all + (s + stands_for_all is (named_view type_view (drop k ms))))) (add-one i) ∙ ap (λ k. counted (all + k)) (sym (next_member is ms i h)) ∙ so_far
