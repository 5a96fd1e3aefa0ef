-- Members, one after the other.
use Rattle.std.proofs.Common.{◌≡◌, ◌∙◌, ℕ, zero, suc, ◌+◌, ◌≤◌, List, [], ◌∷◌, ◌++◌, map, take, length, Option, Some, None, option_map, refl, sym, ap, slice_get, add-one, arith}
use Rattle.std.specs.Option.{option_to_list}
use Rattle.ec_ctypes.specs.declared.types.ty.Ty.{Ty}
use Rattle.ec_ctypes.specs.trees.Types.{TyData, MemberData}
use Rattle.ec_language.specs.Letters.{Text}
use Rattle.ec_typing_defs.specs.Tables.{Named}
use Rattle.ec_scopes.specs.Entries.{type_view, named_view}
use Rattle.ec_check.specs.typed.Orders.{plain_members}
use Rattle.ec_check.specs.Members.{plain_member}

taken_more : {A B : Type 0} (f : A → B) (xs : List A) (i : ℕ) → map f (take i xs) ++ map f (option_to_list (slice_get xs i)) ≡ map f (take (suc i) xs)
taken_more f [] zero = refl
taken_more f [] (suc i) = refl
taken_more f (x ∷ []) zero = refl
taken_more f (x ∷ y ∷ xs) zero = refl
taken_more f (x ∷ xs) (suc i) = ap (λ ys. f x ∷ ys) (taken_more f xs i)

take_all : {A : Type 0} (xs : List A) (n : ℕ) → length xs ≤ n → take n xs ≡ xs
take_all [] zero le = refl
take_all [] (suc n) le = refl
take_all (x ∷ xs) zero le = absurd (omega arith)
take_all (x ∷ xs) (suc n) le = ap (λ ys. x ∷ ys) (take_all xs n (omega arith))

length_map : {A B : Type 0} (f : A → B) (xs : List A) → length (map f xs) ≡ length xs
length_map f [] = refl
length_map f (x ∷ xs) = ap suc (length_map f xs)

pub listed_step : (ms : Named (Option TyData)) (i : ℕ) (all new : List MemberData) → all ≡ map plain_member (take i ms) → new ≡ all ++ map plain_member (option_to_list (slice_get ms i)) → new ≡ map plain_member (take (i + 1) ms)
listed_step ms i all new h put = put ∙ ap (λ xs. xs ++ map plain_member (option_to_list (slice_get ms i))) h ∙ taken_more plain_member ms i ∙ ap (λ n. map plain_member (take n ms)) (sym (add-one i))

pub listed_end : (ms : Named (Option Ty)) (i : ℕ) (all : List MemberData) → length ms ≤ i → all ≡ map plain_member (take i (named_view type_view ms)) → all ≡ plain_members (named_view type_view ms)
listed_end ms i all le h =
    let whole : length (named_view type_view ms) ≡ length ms = length_map (λ e. (e.0, type_view e.1)) ms in
    h ∙ ap (map plain_member) (take_all (named_view type_view ms) i (omega (arith, whole, le)))

get_map : {A B : Type 0} (f : A → B) (xs : List A) (k : ℕ) → slice_get (map f xs) k ≡ option_map f (slice_get xs k)
get_map f [] k = refl
get_map f (x ∷ xs) zero = refl
get_map f (x ∷ xs) (suc k) = get_map f xs k

pub member_read : (ms : Named (Option Ty)) (k : ℕ) (n : Text) (t : Option Ty) → Some n ≡ option_map (λ e. e.0) (slice_get ms k) → Some t ≡ option_map (λ e. e.1) (slice_get ms k)
    → Some (plain_member (n, type_view t)) ≡ option_map plain_member (slice_get (named_view type_view ms) k)
member_read ms k n t name ty = by (slice_get ms k) name ty ∙ sym (ap (option_map plain_member) (get_map (λ e. (e.0, type_view e.1)) ms k))
  where
    by : (o : Option (Text × Option Ty)) → Some n ≡ option_map (λ e. e.0) o → Some t ≡ option_map (λ e. e.1) o → Some (plain_member (n, type_view t)) ≡ option_map plain_member (option_map (λ e. (e.0, type_view e.1)) o)
    by None p q = cc
    by (Some e) p q = let a : n ≡ e.0 = cc in let b : t ≡ e.1 = cc in (λ i. Some (plain_member (a i, type_view (b i))))
