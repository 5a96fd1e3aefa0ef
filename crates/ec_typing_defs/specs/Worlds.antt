-- What is known where a part of a program stands, and rules: what a part is, with the violations that it has and what is known behind it.
use Rattle.std.specs.Prelude.{ℕ, zero, suc, ◌+◌, ◌^◌, Bool, true, false, not, ◌&&◌, List, [], ◌∷◌, ◌++◌, length, map, nat_le, slice_get, slice_set, Option, Some, None, is_some, option_map}
use Rattle.ec_base.specs.declared.line.Line.{Line}
use Rattle.ec_base.specs.declared.fault.FaultKind.{FaultKind}
use Rattle.ec_base.specs.declared.fault.FaultKind.TheVariants.{F10, F12}
use Rattle.ec_base.specs.declared.fault.LimitKind.{LimitKind}
use Rattle.ec_base.specs.declared.stop.Stop.TheVariants.{Refused, Limit}
use Rattle.ec_ctypes.specs.declared.types.sizes.Shape.{Shape}
use Rattle.ec_ctypes.specs.trees.Types.{TyData, void, arithmetic, pointer, array, structure}
use Rattle.ec_ctypes.specs.Layout.{shape_among}
use Rattle.ec_language.specs.Letters.{Text}
use Rattle.ec_language.specs.First.{Violation}
use Rattle.ec_typing_defs.specs.Tables.{Named, find, put}
use Rattle.ec_typing_defs.specs.Known.{is_reserved, is_reserved_tag}

-- the place of a function, a declaration, a declaration of members or a statement: its number in the order of the text, and its line
pub record Place : Type 0 where
  pub number : ℕ
  pub line : Line

-- What a name stands for. Where a type has a fault there is none.
pub data EntryData : Type 0 where
  -- an object or a parameter: the number of its declaration, whether it stands at file level, its type
  object : ℕ → Bool → Option TyData → EntryData
  -- a function: the number of its declaration, whether a definition stands so far, its result, and its parameters, which are not known while they are read
  function : ℕ → Bool → Option TyData → Option (List (Option TyData)) → EntryData

-- the members of a struct: not listed so far, being listed, or listed
pub data MembersData : Type 0 where
  unlisted : MembersData
  begun : MembersData
  listed : Named (Option TyData) → MembersData

-- a struct: its tag, whether it is that of a VARCHAR, its members, its shape where its members have types, the types that begin where it begins, outermost first: its first member, and what this begins with, and how many members a host of it stands for
pub record StructInfo : Type 0 where
  pub tag : Option Text
  pub varchar : Bool
  pub members : MembersData
  pub shape : Option Shape
  pub first : List TyData
  pub stands_for : ℕ

-- names, and tags with the numbers of their structs (6.2.1, 6.2.3)
pub record ScopeData : Type 0 where
  pub names : Named EntryData
  pub tags : Named ℕ

pub record World : Type 0 where
  -- whether this is written C
  pub written : Bool
  -- the innermost scope
  pub here : ScopeData
  -- those round it, innermost first
  pub outer : List ScopeData
  -- the structs, numbered as they are met
  pub structs : List StructInfo
  -- those whose members are closed, in this order
  pub closed : List ℕ
  -- the types of the declarations so far, by their numbers; void where one has none
  pub types : List TyData
  -- for each embedded statement so far, the declarations that the variables in its hosts denote, in the order of its tree
  pub denoted : List (List (Option ℕ))
  -- the functions that the program defines
  pub defined : Named (Unit {0})
  -- the labels so far in this function
  pub labels : Named (Unit {0})
  -- how many places there are so far
  pub places : ℕ

-- ---- rules

pub record Out (A : Type 0) : Type 0 where
  pub answer : A
  pub found : List Violation
  pub world : World

abbrev pub Rule : Type 0 → Type 0
Rule A = World → Out A

abbrev pub out : {A : Type 0} → A → List Violation → World → Out A
out a vs w = record { answer = a; found = vs; world = w }

abbrev pub followed : {A B : Type 0} → Out A → (A → Rule B) → Out B
followed o f =
    out (f o.answer o.world).answer
    (o.found ++ (f o.answer o.world).found) (f o.answer o.world).world

-- one rule and then another, which may use the answer of the first
unfoldable pub chain : {A B : Type 0} → Rule A → (A → Rule B) → Rule B
chain m f = λ w. followed (m w) f

infixl 10 ◌>>=◌
abbrev pub ◌>>=◌ : {A B : Type 0} → Rule A → (A → Rule B) → Rule B
m >>= f = chain m f

infixl 10 ◌>>◌
abbrev pub ◌>>◌ : {A B : Type 0} → Rule A → Rule B → Rule B
m >> n = chain m (λ _. n)

unfoldable pub pure : {A : Type 0} → A → Rule A
pure a = λ w. out a [] w

-- what is known
unfoldable pub ask : {A : Type 0} → (World → A) → Rule A
ask f = λ w. out (f w) [] w

unfoldable pub change : (World → World) → Rule (Unit {0})
change f = λ w. out tt [] (f w)

-- a fault
unfoldable pub note : Place → FaultKind → Rule (Unit {0})
note at kind = λ w. out tt (record { place = at.number; stop = Refused kind at.line } ∷ []) w

-- a fault, unless the test holds
unfoldable pub demand : Place → FaultKind → Bool → Rule (Unit {0})
demand at kind true = pure tt
demand at kind false = note at kind

-- a limit, unless the test holds
unfoldable pub keep_within : Place → LimitKind → Bool → Rule (Unit {0})
keep_within at kind true = pure tt
keep_within at kind false = λ w. out tt (record { place = at.number; stop = Limit kind } ∷ []) w

-- Whatever is found is this fault.
unfoldable pub instead : Place → FaultKind → Rule (Unit {0}) → Rule (Unit {0})
instead at kind m = λ w. out tt
    (map (λ v. record { place = at.number; stop = Refused kind at.line }) (m w).found) (m w).world

-- the next place, on this line
unfoldable pub place : Line → Rule Place
place line =
    λ w. out (record { number = w.places; line = line }) [] (record w { places = w.places + 1 })

-- ---- scopes (6.2.1)

abbrev pub or_else : {A : Type 0} → Option A → Option A → Option A
or_else (Some a) other = Some a
or_else None other = other

abbrev pub look_up_in : List ScopeData → Text → Option EntryData
look_up_in [] name = None
look_up_in (s ∷ ss) name = or_else (find name s.names) (look_up_in ss name)

-- What the name stands for: the innermost scope that has it decides (6.2.1, 4).
abbrev pub look_up : Text → World → Option EntryData
look_up name w = or_else (find name w.here.names) (look_up_in w.outer name)

abbrev pub tag_in : List ScopeData → Text → Option ℕ
tag_in [] tag = None
tag_in (s ∷ ss) tag = or_else (find tag s.tags) (tag_in ss tag)

-- the struct of the tag
abbrev pub tag_up : Text → World → Option ℕ
tag_up tag w = or_else (find tag w.here.tags) (tag_in w.outer tag)

abbrev pub no_names : ScopeData
no_names = record { names = []; tags = [] }

abbrev pub entered : World → World
entered w = record w { here = no_names; outer = w.here ∷ w.outer }

abbrev pub left_to : List ScopeData → World → World
left_to [] w = record w { here = no_names; outer = [] }
left_to (s ∷ ss) w = record w { here = s; outer = ss }

abbrev pub left : World → World
left w = left_to w.outer w

unfoldable pub enter : Rule (Unit {0})
enter = change entered

unfoldable pub leave : Rule (Unit {0})
leave = change left

-- the rule in a scope of its own
abbrev pub scoped : Rule (Unit {0}) → Rule (Unit {0})
scoped m = enter >> (m >> leave)

abbrev pub with_name : Text → EntryData → World → World
with_name name entry w =
    record w { here = record { names = put name entry w.here.names; tags = w.here.tags } }

abbrev pub with_tag : Text → ℕ → World → World
with_tag tag k w = record w { here = record { names = w.here.names; tags = put tag k w.here.tags } }

-- F12: the name of an object, a parameter, a function, a member or a label is not reserved.
unfoldable pub free_name : Place → Text → Rule (Unit {0})
free_name at name = demand at F12 (not (is_reserved name))

-- F12: the tag is not reserved.
unfoldable pub free_tag : Place → Text → Rule (Unit {0})
free_tag at tag = do
  reserved ← ask (λ w. is_reserved_tag w.written tag)
  demand at F12 (not reserved)

-- The name stands for this from here on; F10 where it stands for something in this scope already (6.7, 3). The later declaration counts then.
unfoldable pub declare : Place → Text → EntryData → Rule (Unit {0})
declare at name entry = do
  before ← ask (λ w. is_some (find name w.here.names))
  change (with_name name entry)
  demand at F10 (not before)
  free_name at name

-- what the name stands for in this scope is known better now
unfoldable pub know_better : Text → EntryData → Rule (Unit {0})
know_better name entry = change (with_name name entry)

-- The label stands in this function; F10 where it stands there already (6.8.1, 3).
unfoldable pub declare_label : Place → Text → Rule (Unit {0})
declare_label at name = do
  before ← ask (λ w. is_some (find name w.labels))
  change (λ w. record w { labels = put name tt w.labels })
  demand at F10 (not before)
  free_name at name

-- ---- declarations and structs

-- the number of the next declaration
abbrev pub next_number : World → ℕ
next_number w = length w.types

-- one declaration more, of this type
unfoldable pub number_as : TyData → Rule (Unit {0})
number_as ty = change (λ w. record w { types = w.types ++ ty ∷ [] })

-- a struct whose members are not known
abbrev pub struct_named : Option Text → MembersData → StructInfo
struct_named tag ms =
    record { tag = tag; varchar = false; members = ms; shape = None; first = []; stands_for = 0 }

-- one struct more
unfoldable pub new_struct : StructInfo → Rule ℕ
new_struct info = λ w. out (length w.structs) [] (record w { structs = w.structs ++ info ∷ [] })

unfoldable pub set_struct : ℕ → StructInfo → Rule (Unit {0})
set_struct k info = change (λ w. record w { structs = slice_set w.structs k info })

abbrev pub members_of : ℕ → World → Option MembersData
members_of k w = option_map (λ s. s.members) (slice_get w.structs k)

-- ---- shapes and complete types

abbrev pub shapes_in : World → List (Option Shape)
shapes_in w = map (λ s. s.shape) w.structs

-- the shape of a type, if it has one
abbrev pub shape_in : World → TyData → Option Shape
shape_in w t = shape_among (shapes_in w) t

abbrev pub is_listed : Option MembersData → Bool
is_listed None = false
is_listed (Some unlisted) = false
is_listed (Some begun) = false
is_listed (Some (listed ms)) = true

-- Incomplete are void, a struct whose members are not closed, and an array without a length or of incomplete elements (6.2.5, 1, 19 and 22). An array without a length has the number 0.
abbrev pub is_complete : World → TyData → Bool
is_complete w void = false
is_complete w (arithmetic a) = true
is_complete w (pointer t) = true
is_complete w (array t zero) = false
is_complete w (array t (suc n)) = is_complete w t
is_complete w (structure k) = is_listed (members_of k w)

-- the greatest size of an array or a struct
abbrev pub max_size : ℕ
max_size = 2 ^ 24

abbrev pub is_within : Option Shape → Bool
is_within None = true
is_within (Some shape) = nat_le shape.size max_size

-- No array type in this one is larger than the limit, as far as sizes are known.
abbrev pub arrays_within : World → TyData → Bool
arrays_within w (array t n) = is_within (shape_in w (array t n)) && arrays_within w t
arrays_within w void = true
arrays_within w (arithmetic a) = true
arrays_within w (pointer t) = true
arrays_within w (structure k) = true
