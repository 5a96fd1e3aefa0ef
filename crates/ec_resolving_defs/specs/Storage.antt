-- Where the objects of a program are, and rules that find a resolved form beside what the checks find.
use Rattle.std.specs.Prelude.{ℕ, ◌+◌, Bool, true, false, List, [], ◌∷◌, ◌++◌, length, take, ◌-◌, Option, Some, None}
use Rattle.ec_ctypes.specs.declared.checked.library.LibName.{LibName}
use Rattle.ec_ctypes.specs.trees.Types.{TyData}
use Rattle.ec_arguments.specs.Arguments.{Arg}
use Rattle.ec_language.specs.Letters.{Text}
use Rattle.ec_typing_defs.specs.Tables.{Named}
use Rattle.ec_typing_defs.specs.Worlds.{World, Out, Rule}
use Rattle.ec_meaning_defs.specs.resolved.Resolved.{Exp, object, slot, faulty}
use Rattle.ec_meaning_defs.specs.resolved.Programs.{Function, Global}

-- Where a declaration's object is. A global one has a number, an object of a function its place among those in scope; a function is no object
pub data Site : Type 0 where
  numbered : ℕ → Site
  slotted : ℕ → Site
  nowhere : Site

-- a call of the library, with its arguments
abbrev pub LibraryCall : Type 0
LibraryCall = LibName × List (Arg Exp)

-- a reference of an embedded statement: its type, if it has one, and its address
pub record ReferenceForm : Type 0 where
  pub type : Option TyData
  pub place : Exp

-- What is done where the condition of a WHENEVER holds: nothing, a jump to a label by its number, the message, the end of the program, `break`, `continue`, or a call whose value isn't used
pub data ActionForm : Type 0 where
  goes_on : ActionForm
  jumps : ℕ → ActionForm
  prints : ActionForm
  stops : ActionForm
  leaves : ActionForm
  continues : ActionForm
  calls_function : Exp → ActionForm

-- the actions for NOT FOUND, SQLWARNING and SQLERROR
pub record ActionForms : Type 0 where
  pub none_found : ActionForm
  pub warning : ActionForm
  pub error : ActionForm

abbrev pub no_actions : ActionForms
no_actions = record { none_found = goes_on; warning = goes_on; error = goes_on }

-- An embedded statement by its number: its references in the order of its tree, and its actions
pub record StatementForm : Type 0 where
  pub number : ℕ
  pub references : List ReferenceForm
  pub actions : ActionForms

-- the objects of the innermost block: how many are in scope when it is entered, how many it makes, and the sizes of those that are declared so far
pub record BlockObjects : Type 0 where
  pub below : ℕ
  pub count : ℕ
  pub sizes : List ℕ

pub record Storage : Type 0 where
  -- the functions that the program defines, which have their numbers in this order
  pub defined : Named (Unit {0})
  -- how many objects stand before the first literal's: `sqlca` and the globals
  pub before_literals : ℕ
  -- where the declarations so far are, by their numbers
  pub sites : List Site
  -- the globals so far, the literals that make an object, the calls of the library, the functions so far
  pub globals : List Global
  pub literals : List Text
  pub calls : List LibraryCall
  pub functions : List Function
  -- the embedded statements so far, directives too
  pub statements : List StatementForm
  pub block : BlockObjects

-- ---- rules

pub record Reached (A : Type 0) : Type 0 where
  pub answer : A
  pub storage : Storage
  pub world : World

abbrev pub Resolving : Type 0 → Type 0
Resolving A = Storage → World → Reached A

abbrev pub reached : {A : Type 0} → A → Storage → World → Reached A
reached a s w = record { answer = a; storage = s; world = w }

abbrev pub followed : {A B : Type 0} → Reached A → (A → Resolving B) → Reached B
followed r f = f r.answer r.storage r.world

-- one rule and then another, which may use the answer of the first
unfoldable pub chain : {A B : Type 0} → Resolving A → (A → Resolving B) → Resolving B
chain m f = λ s w. followed (m s w) f

infixl 10 ◌>>=◌
abbrev pub ◌>>=◌ : {A B : Type 0} → Resolving A → (A → Resolving B) → Resolving B
m >>= f = chain m f

infixl 10 ◌>>◌
abbrev pub ◌>>◌ : {A B : Type 0} → Resolving A → Resolving B → Resolving B
m >> n = chain m (λ _. n)

unfoldable pub pure : {A : Type 0} → A → Resolving A
pure a = λ s w. reached a s w

abbrev pub beside : {A : Type 0} → Storage → Out A → Reached A
beside s o = reached o.answer s o.world

-- what the checks find, with what is known behind it
unfoldable pub checks : {A : Type 0} → Rule A → Resolving A
checks m = λ s w. beside s (m w)

-- what is known
unfoldable pub ask : {A : Type 0} → (World → A) → Resolving A
ask f = λ s w. reached (f w) s w

-- where things are
unfoldable pub stored : {A : Type 0} → (Storage → A) → Resolving A
stored f = λ s w. reached (f s) s w

unfoldable pub arrange : (Storage → Storage) → Resolving (Unit {0})
arrange f = λ s w. reached tt (f s) w

-- ---- objects

-- the object of a declaration, by its number
abbrev pub site_exp : Option Site → Exp
site_exp None = faulty
site_exp (Some (numbered n)) = object n
site_exp (Some (slotted i)) = slot i
site_exp (Some nowhere) = faulty

-- `sqlca` is the first object
abbrev pub sqlca : Exp
sqlca = object 1

-- the next global, and the next object of the innermost block
abbrev pub next_site : Bool → Storage → Site
next_site true s = numbered (length s.globals + 2)
next_site false s = slotted (s.block.below + length s.block.sizes)

abbrev pub with_site : Site → Storage → Storage
with_site site s = record s { sites = s.sites ++ site ∷ [] }

abbrev pub with_global : Global → Storage → Storage
with_global g s = record s { globals = s.globals ++ g ∷ [] }

abbrev pub with_object_of : ℕ → Storage → Storage
with_object_of size s = record s { block = record s.block { sizes = s.block.sizes ++ size ∷ [] } }

abbrev pub with_function : Function → Storage → Storage
with_function f s = record s { functions = s.functions ++ f ∷ [] }

-- a literal makes an object, in order of the text
abbrev pub literal_object : Storage → Exp
literal_object s = object (s.before_literals + length s.literals + 1)

abbrev pub with_literal : Text → Storage → Storage
with_literal text s = record s { literals = s.literals ++ text ∷ [] }

-- the last literal makes none
abbrev pub without_last_literal : Storage → Storage
without_last_literal s = record s { literals = take (length s.literals - 1) s.literals }

abbrev pub with_call : LibraryCall → Storage → Storage
with_call c s = record s { calls = s.calls ++ c ∷ [] }

abbrev pub with_statement : StatementForm → Storage → Storage
with_statement form s = record s { statements = s.statements ++ form ∷ [] }

-- a block begins, of so many objects. Those of the blocks round it are all there, declared so far or not
abbrev pub inside_block : ℕ → Storage → Storage
inside_block n s =
    record s { block = record { below = s.block.below + s.block.count; count = n; sizes = [] } }

abbrev pub back_in_block : BlockObjects → Storage → Storage
back_in_block b s = record s { block = b }

-- the rule in a block of so many objects: their sizes, and what it finds
abbrev pub in_block : {A : Type 0} → ℕ → Resolving A → Resolving (List ℕ × A)
in_block n m = do
  outer ← stored (λ s. s.block)
  arrange (inside_block n)
  x ← m
  sizes ← stored (λ s. s.block.sizes)
  arrange (back_in_block outer)
  pure (sizes, x)
