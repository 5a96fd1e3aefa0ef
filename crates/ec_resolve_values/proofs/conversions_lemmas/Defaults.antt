-- Operators that no clause of a definition names, by cases.
use Rattle.std.proofs.Common.{◌≡◌, ◌≢◌, ℕ, None, refl}
use Rattle.ec_ctypes.specs.declared.types.arith.Arith.{Arith}
use Rattle.ec_ctypes.specs.declared.tree.expr.BinOp.{BinOp}
use Rattle.ec_ctypes.specs.declared.tree.expr.BinOp.TheVariants.{Or, And, BitOr, BitXor, BitAnd, Eq, Ne, Lt, Gt, Le, Ge, Shl, Shr, Add, Sub, Mul, Div, Rem}
use Rattle.ec_meaning_defs.specs.resolved.Resolved.{Exp}
use Rattle.ec_resolving_defs.specs.Conversions as form
use Rattle.ec_resolve_values.specs.conversions.Forms.{operated_integers}

pub others : (op : BinOp) (a : Arith) (x : Exp) (b : Arith) (y : Exp) → op ≢ And → op ≢ Or → operated_integers op a x b y ≡ form.integers_exp op a x b y
others Or a x b y n0 n1 = absurd (n1 refl)
others And a x b y n0 n1 = absurd (n0 refl)
others BitOr a x b y n0 n1 = refl
others BitXor a x b y n0 n1 = refl
others BitAnd a x b y n0 n1 = refl
others Eq a x b y n0 n1 = refl
others Ne a x b y n0 n1 = refl
others Lt a x b y n0 n1 = refl
others Gt a x b y n0 n1 = refl
others Le a x b y n0 n1 = refl
others Ge a x b y n0 n1 = refl
others Shl a x b y n0 n1 = refl
others Shr a x b y n0 n1 = refl
others Add a x b y n0 n1 = refl
others Sub a x b y n0 n1 = refl
others Mul a x b y n0 n1 = refl
others Div a x b y n0 n1 = refl
others Rem a x b y n0 n1 = refl

pub other_pointers : (op : BinOp) (size : ℕ) (x y : Exp) → op ≢ And → op ≢ Or → op ≢ Sub → form.compared (form.comparison_of op) x y ≡ form.pointers_exp op size x y
other_pointers Or size x y n0 n1 n2 = absurd (n1 refl)
other_pointers And size x y n0 n1 n2 = absurd (n0 refl)
other_pointers BitOr size x y n0 n1 n2 = refl
other_pointers BitXor size x y n0 n1 n2 = refl
other_pointers BitAnd size x y n0 n1 n2 = refl
other_pointers Eq size x y n0 n1 n2 = refl
other_pointers Ne size x y n0 n1 n2 = refl
other_pointers Lt size x y n0 n1 n2 = refl
other_pointers Gt size x y n0 n1 n2 = refl
other_pointers Le size x y n0 n1 n2 = refl
other_pointers Ge size x y n0 n1 n2 = refl
other_pointers Shl size x y n0 n1 n2 = refl
other_pointers Shr size x y n0 n1 n2 = refl
other_pointers Add size x y n0 n1 n2 = refl
other_pointers Sub size x y n0 n1 n2 = absurd (n2 refl)
other_pointers Mul size x y n0 n1 n2 = refl
other_pointers Div size x y n0 n1 n2 = refl
other_pointers Rem size x y n0 n1 n2 = refl

pub other_pointer : (op : BinOp) (size : ℕ) (x : Exp) (b : Arith) (y : Exp) → op ≢ And → op ≢ Or → op ≢ Add → op ≢ Sub → form.compared (form.comparison_of op) x (form.as_pointer b y) ≡ form.pointer_exp op size x b y
other_pointer Or size x b y n0 n1 n2 n3 = absurd (n1 refl)
other_pointer And size x b y n0 n1 n2 n3 = absurd (n0 refl)
other_pointer BitOr size x b y n0 n1 n2 n3 = refl
other_pointer BitXor size x b y n0 n1 n2 n3 = refl
other_pointer BitAnd size x b y n0 n1 n2 n3 = refl
other_pointer Eq size x b y n0 n1 n2 n3 = refl
other_pointer Ne size x b y n0 n1 n2 n3 = refl
other_pointer Lt size x b y n0 n1 n2 n3 = refl
other_pointer Gt size x b y n0 n1 n2 n3 = refl
other_pointer Le size x b y n0 n1 n2 n3 = refl
other_pointer Ge size x b y n0 n1 n2 n3 = refl
other_pointer Shl size x b y n0 n1 n2 n3 = refl
other_pointer Shr size x b y n0 n1 n2 n3 = refl
other_pointer Add size x b y n0 n1 n2 n3 = absurd (n2 refl)
other_pointer Sub size x b y n0 n1 n2 n3 = absurd (n3 refl)
other_pointer Mul size x b y n0 n1 n2 n3 = refl
other_pointer Div size x b y n0 n1 n2 n3 = refl
other_pointer Rem size x b y n0 n1 n2 n3 = refl

pub other_reversed : (op : BinOp) (size : ℕ) (a : Arith) (x y : Exp) → op ≢ And → op ≢ Or → op ≢ Add → form.compared (form.comparison_of op) (form.as_pointer a x) y ≡ form.reversed_exp op size a x y
other_reversed Or size a x y n0 n1 n2 = absurd (n1 refl)
other_reversed And size a x y n0 n1 n2 = absurd (n0 refl)
other_reversed BitOr size a x y n0 n1 n2 = refl
other_reversed BitXor size a x y n0 n1 n2 = refl
other_reversed BitAnd size a x y n0 n1 n2 = refl
other_reversed Eq size a x y n0 n1 n2 = refl
other_reversed Ne size a x y n0 n1 n2 = refl
other_reversed Lt size a x y n0 n1 n2 = refl
other_reversed Gt size a x y n0 n1 n2 = refl
other_reversed Le size a x y n0 n1 n2 = refl
other_reversed Ge size a x y n0 n1 n2 = refl
other_reversed Shl size a x y n0 n1 n2 = refl
other_reversed Shr size a x y n0 n1 n2 = refl
other_reversed Add size a x y n0 n1 n2 = absurd (n2 refl)
other_reversed Sub size a x y n0 n1 n2 = refl
other_reversed Mul size a x y n0 n1 n2 = refl
other_reversed Div size a x y n0 n1 n2 = refl
other_reversed Rem size a x y n0 n1 n2 = refl

pub other_steps : (op : BinOp) (size : ℕ) → op ≢ Add → op ≢ Sub → None ≡ form.pointer_step op size
other_steps Or size n0 n1 = refl
other_steps And size n0 n1 = refl
other_steps BitOr size n0 n1 = refl
other_steps BitXor size n0 n1 = refl
other_steps BitAnd size n0 n1 = refl
other_steps Eq size n0 n1 = refl
other_steps Ne size n0 n1 = refl
other_steps Lt size n0 n1 = refl
other_steps Gt size n0 n1 = refl
other_steps Le size n0 n1 = refl
other_steps Ge size n0 n1 = refl
other_steps Shl size n0 n1 = refl
other_steps Shr size n0 n1 = refl
other_steps Add size n0 n1 = absurd (n0 refl)
other_steps Sub size n0 n1 = absurd (n1 refl)
other_steps Mul size n0 n1 = refl
other_steps Div size n0 n1 = refl
other_steps Rem size n0 n1 = refl
