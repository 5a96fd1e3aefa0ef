-- A world as it is given.
use Rattle.std.proofs.Common.{◌≡◌, ◌∙◌, ℕ, zero, suc, ◌+◌, List, [], ◌∷◌, ◌++◌, length, map, Option, Some, None, option_map, cond, refl, sym, ap, slice_get}
use Rattle.ec_ctypes.specs.declared.types.ty.Ty.{Ty}
use Rattle.ec_ctypes.specs.declared.types.ty.StructDef.{StructDef}
use Rattle.ec_ctypes.specs.trees.Types.{TyData, MemberData, StructData}
use Rattle.ec_ctypes.specs.views.Types.{ty_view, struct_view, structs_view}
use Rattle.ec_typing_defs.specs.Worlds.{StructInfo, World, MembersData, unlisted, begun, listed}
use Rattle.ec_typing_defs.specs.Expressions.{Members}
use Rattle.ec_typing_defs.specs.Statements.{type_or_void}
use Rattle.ec_typing_defs.specs.Answers.{is_member, renumbered, unclosed, struct_order, struct_data, structs_of, struct_members, listed_members, numbered_from, names_of}
use Rattle.ec_check.specs.typed.Orders.{open_from, order_of, renumbered_member, renumbered_struct, renumbered_at, plain_members, plain_struct, members_in, names_view, Stands, IsNumbered}

open-unclosed : (closed : List ℕ) (k : ℕ) (ss : List StructInfo) → unclosed closed k ss ≡ open_from closed k (length ss)
open-unclosed closed k [] = refl
open-unclosed closed k (s ∷ ss) = ap (λ rest. cond (is_member k closed) rest (k ∷ rest)) (open-unclosed closed (k + 1) ss)

members_alike : (order : List ℕ) (ms : Members) → map (renumbered_member order) (plain_members ms) ≡ struct_members order ms
members_alike order [] = refl
members_alike order (m ∷ ms) = ap (λ rest. (m.0, renumbered order (type_or_void m.1)) ∷ rest) (members_alike order ms)

listed_alike : (order : List ℕ) (ms : MembersData) → map (renumbered_member order) (members_in ms) ≡ listed_members order ms
listed_alike order unlisted = refl
listed_alike order begun = refl
listed_alike order (listed ms) = members_alike order ms

data_alike : (order : List ℕ) (o : Option StructInfo) → renumbered_struct order (option_map plain_struct o) ≡ struct_data order o
data_alike order None = refl
data_alike order (Some s) = ap (λ ms. record { tag = s.tag; varchar = s.varchar; members = ms }) (listed_alike order s.members)

pub get-map : {A B : Type 0} (f : A → B) (xs : List A) (k : ℕ) → slice_get (map f xs) k ≡ option_map f (slice_get xs k)
get-map f [] k = refl
get-map f (x ∷ xs) zero = refl
get-map f (x ∷ xs) (suc k) = get-map f xs k

at_alike : (order : List ℕ) (ss : List StructInfo) (k : ℕ) → renumbered_at order (map plain_struct ss) k ≡ struct_data order (slice_get ss k)
at_alike order ss k = ap (renumbered_struct order) (get-map plain_struct ss k) ∙ data_alike order (slice_get ss k)

all_alike : (order : List ℕ) (ss : List StructInfo) (ks : List ℕ) → map (renumbered_at order (map plain_struct ss)) ks ≡ map (λ k. struct_data order (slice_get ss k)) ks
all_alike order ss [] = refl
all_alike order ss (k ∷ ks) = (λ i. at_alike order ss k i ∷ all_alike order ss ks i)

length-map' : {A B : Type 0} (f : A → B) (xs : List A) → length (map f xs) ≡ length xs
length-map' f [] = refl
length-map' f (x ∷ xs) = ap suc (length-map' f xs)

order_alike : (structs : List StructDef) (closed : List ℕ) (types : List Ty) (w : World) → Stands structs closed types w → order_of closed (length structs) ≡ struct_order w
order_alike structs closed types w h =
    let counts : length structs ≡ length w.structs = sym (length-map' _ structs) ∙ ap length h.structs_are ∙ length-map' plain_struct w.structs in
    ap (λ n. closed ++ open_from closed 0 n) counts
    ∙ ap (λ cs. cs ++ open_from cs 0 (length w.structs)) h.closed_are
    ∙ ap (λ rest. w.closed ++ rest) (sym (open-unclosed w.closed 0 w.structs))

pub numbered_world : (structs : List StructDef) (closed : List ℕ) (types : List Ty) (w : World) (order : List ℕ) (new : List StructDef) (names : List (ℕ × Ty))
    → Stands structs closed types w → order ≡ order_of closed (length structs)
    → structs_view new ≡ map (renumbered_at order (structs_view structs)) order → names_view names ≡ numbered_from 0 order (map ty_view types)
    → IsNumbered new names w
numbered_world structs closed types w order new names h o s n =
    let whole : order ≡ struct_order w = o ∙ order_alike structs closed types w h in record {
      structs_are = s ∙ ap (λ ds. map (renumbered_at order ds) order) h.structs_are ∙ all_alike order w.structs order ∙ ap (λ ks. map (λ k. struct_data ks (slice_get w.structs k)) ks) whole;
      names_are = n ∙ ap (numbered_from 0 order) h.types_are ∙ ap (λ ks. numbered_from 0 ks w.types) whole;
    }

pub one_alike : (order : List ℕ) (structs : List StructDef) (k : ℕ) → renumbered_struct order (option_map struct_view (slice_get structs k)) ≡ renumbered_at order (structs_view structs) k
one_alike order structs k = ap (renumbered_struct order) (sym (get-map struct_view structs k))
