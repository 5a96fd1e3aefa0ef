-- What a path through members leads to from a pointer, as an expression.
use Rattle.std.proofs.Common.{◌≡◌, ◌∙◌, ◌<◌, ℕ, ◌+◌, ◌*◌, ◌^◌, pos, true, false, List, [], ◌∷◌, length, Option, Some, None, Result, Ok, Err, option_map, option_and_then, refl, sym, ap, subst, arith}
use Rattle.ec_base.specs.declared.stop.Trap.{Trap}
use Rattle.ec_ctypes.specs.Layout.{member_of}
use Rattle.ec_ctypes.specs.trees.Types.{TyData, StructData}
use Rattle.ec_host_defs.specs.Leaves.{Path, LeafData}
use Rattle.ec_host_defs.specs.Places.{size_of}
use Rattle.ec_memory_defs.specs.Cells.{Cell}
use Rattle.ec_memory_defs.specs.Memory.{address, number, and_then, moved, object_cells, object_of, offset_of}
use Rattle.ec_meaning_defs.specs.resolved.Operations.{pointer_plus, address_worked}
use Rattle.ec_meaning_defs.specs.resolved.Resolved.{Exp, constant, member, operate, faulty}
use Rattle.ec_meaning_defs.specs.evaluation.State.{State}
use Rattle.ec_meaning_defs.specs.evaluation.Results.{Res, value, on_value, at_address, tried, worked_out}
use Rattle.ec_meaning_defs.specs.evaluation.Evaluate.{World, Context, Step, eval}
use Rattle.ec_direct_defs.specs.Leaves.{along, first_element}
use Rattle.ec_element_laws.specs.Elements.{offset_along, member_in_element, IsFound}
use Rattle.ec_element_laws.proofs.Reached.{within, moves, moves_on, in_element}

-- a number that is there
abbrev or_zero : Option ℕ → ℕ
or_zero None = 0
or_zero (Some n) = n

abbrev IsThere : Option ℕ → Type 0
IsThere None = ⊥
IsThere (Some n) = Unit {0}

nothing_more : (x : ℕ) → x ≡ x + 0
nothing_more x = omega arith

further_on : (x a b : ℕ) → (x + a * 1) + b ≡ x + (a + b)
further_on x a b = omega arith

-- as the member behind the offset of a first element
none_before : (o s k : ℕ) → (o + 0 * s) + k ≡ (o + 0 * s) + k * 1
none_before o s k = omega arith

module _ (st : Step) (w : World) (c : Context) (s : State) (structs : List StructData) (cells : List Cell) (object : ℕ)
    (there : object_cells s.memory object ≡ Ok cells) (small : length cells < 2 ^ 32) where
  abbrev told : Result ℕ Trap → Res
  told r = tried c.line r s (λ q. value (address q) s)

  -- an offset in the object
  abbrev at : ℕ → Res
  at x = told (within (length cells) object x)

  further : (r : Result ℕ Trap) (off : ℕ) → on_value (told r) (λ v t. at_address v t (λ p. tried c.line (moved t.memory p (pos off) 1) t (λ q. value (address q) t)))
      ≡ told (and_then r (λ q. moved s.memory q (pos off) 1))
  further (Ok q) off = refl
  further (Err trap) off = refl

  member_found : (e : Exp) (x off : ℕ) → eval st w c e s ≡ at x → eval st w c (member off e) s ≡ at (x + off * 1)
  member_found e x off h =
      (λ j. on_value (h j) (λ v t. at_address v t (λ p. tried c.line (moved t.memory p (pos off) 1) t (λ q. value (address q) t))))
      ∙ further (within (length cells) object x) off
      ∙ ap told (moves_on s.memory cells object there small x off 1)

  path_found : (path : Path) (e : Exp) (x k : ℕ) → offset_along structs path ≡ Some k → eval st w c e s ≡ at x → eval st w c (along structs path e) s ≡ at (x + k)
  path_found [] e x k o h = h ∙ ap at (nothing_more x ∙ ap (λ n. x + or_zero n) o)
  path_found (m ∷ path) e x k o h = go (member_of structs m.0 m.1) (offset_along structs path) refl o
      (λ e x k o h. path_found path e x k o h)
    where
      go : (found : Option (ℕ × TyData)) (inner : Option ℕ) → offset_along structs path ≡ inner
          → option_and_then (λ m. option_map (λ k. m.0 + k) inner) found ≡ Some k
          → ((e : Exp) (x k : ℕ) → offset_along structs path ≡ Some k → eval st w c e s ≡ at x → eval st w c (along structs path e) s ≡ at (x + k))
          → eval st w c (along structs path (elim found [ None ↦ faulty | Some m ↦ member m.0 e ])) s ≡ at (x + k)
      go None inner i o on = absurd (subst IsThere (sym o) tt)
      go (Some f) None i o on = absurd (subst IsThere (sym o) tt)
      go (Some f) (Some n) i o on = on (member f.0 e) (x + f.0 * 1) n i (member_found e x f.0 h)
          ∙ ap at (further_on x f.0 n ∙ ap (λ n. x + or_zero n) o)

  -- from a pointer to the first of an array
  from_first : (p size : ℕ) → object_of p ≡ object → eval st w c (operate (pointer_plus size) (constant (address p)) (constant (number (pos 0)))) s ≡ at (offset_of p + 0 * size)
  from_first p size e = by (moved s.memory p (pos 0) size) ∙ ap told (moves s.memory cells object there small p 0 size e)
    where
      by : (r : Result ℕ Trap) → worked_out c.line (address_worked r) s (λ v. value v s) ≡ told r
      by (Ok q) = refl
      by (Err trap) = refl

pub is_found : (structs : List StructData) (t : TyData) (l : LeafData) → t ≡ l.apart → IsFound structs t l
is_found structs t l e st w c s p k cells first o there small =
    (λ j. eval st w c (along structs l.path (elim (first j) [ true ↦ first_element structs l.apart (constant (address p)) | false ↦ constant (address p) ])) s)
    ∙ path_found st w c s structs cells (object_of p) there small l.path (first_element structs l.apart (constant (address p))) (offset_of p + 0 * size_of structs l.apart) k o
    (from_first st w c s structs cells (object_of p) there small p (size_of structs l.apart) refl)
    ∙ ap (at st w c s structs cells (object_of p) there small) (none_before (offset_of p) (size_of structs l.apart) k)
    ∙ sym (ap (told st w c s structs cells (object_of p) there small) (in_element s.memory cells (object_of p) there small structs l.apart p k 0 refl))
    ∙ ap (λ u. tried c.line (member_in_element structs u k s.memory p 0) s (λ q. value (address q) s)) (sym e)
