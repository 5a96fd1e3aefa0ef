-- The known functions without a format: the table of the checks against that of the meaning.
use Rattle.std.proofs.Common.{◌≡◌, List, [], ◌∷◌, map, Option, Some, None, Bool, true, false, ℕ, refl, sym, subst, codes}
use Rattle.std.specs.Prelude.{if◌then◌else◌}
use Rattle.ec_ctypes.specs.trees.Types.{TyData, void}
use Rattle.ec_language.specs.Letters.{Text, same_text}
use Rattle.ec_typing_defs.specs.Tables.{find}
use Rattle.ec_typing_defs.specs.Types.{int_type, size_type}
use Rattle.ec_typing_defs.specs.Known.{KnownData, plain, formatted, text_type, memory_type}
use Rattle.ec_meaning_defs.specs.functions.Functions.{Known, puts, putchar, strlen, strcmp, strncmp, memcmp, strcpy, strncpy, strcat, memcpy, memset, exit, sqlprint}
use Rattle.ec_sound_defs.specs.Sorts.{known_takes, known_gives}
use Rattle.ec_sound_defs.specs.Types.{type_sort}
use Rattle.ec_sound_form_laws.specs.Laws.{KnownAreTyped}

-- a row of both tables
record Row : Type 0 where
  name : Text
  result : TyData
  parameters : List TyData
  function : Known

record IsRow (row : Row) : Type 0 where
  takes : known_takes row.function ≡ map type_sort row.parameters
  gives : known_gives row.function ≡ type_sort row.result

abbrev AreRows : List Row → Type 0
AreRows [] = Unit {0}
AreRows (row ∷ rows) = IsRow row × AreRows rows

abbrev checked : List Row → List (Text × KnownData)
checked [] = []
checked (row ∷ rows) = (row.name, plain row.result row.parameters) ∷ checked rows

abbrev meant : List Row → List (Text × Known)
meant [] = []
meant (row ∷ rows) = (row.name, row.function) ∷ meant rows

record Both (name : Text) (rows : List Row) (r : TyData) (ps : List TyData) : Type 0 where
  function : Known
  is : find name (meant rows) ≡ Some function
  takes : known_takes function ≡ map type_sort ps
  gives : known_gives function ≡ type_sort r

abbrev result_of : Option KnownData → TyData
result_of None = void
result_of (Some (plain r ps)) = r
result_of (Some (formatted n)) = void

abbrev parameters_of : Option KnownData → List TyData
parameters_of None = []
parameters_of (Some (plain r ps)) = ps
parameters_of (Some (formatted n)) = []

same_row : (a b : TyData) (as' bs : List TyData) → Some (plain a as') ≡ Some (plain b bs) → (a ≡ b) × (as' ≡ bs)
same_row a b as' bs e = (λ i. result_of (e i), λ i. parameters_of (e i))

by : (name : Text) (row : Row) (rows : List Row) → IsRow row → (r : TyData) (ps : List TyData) → (find name (checked rows) ≡ Some (plain r ps) → Both name rows r ps)
    → (t : Bool) → same_text name row.name ≡ t → (if t then Some (plain row.result row.parameters) else find name (checked rows)) ≡ Some (plain r ps) → Both name (row ∷ rows) r ps
by name row rows h r ps rest true p e = record {
  function = row.function;
  is = subst (λ b. (if b then Some row.function else find name (meant rows)) ≡ Some row.function) (sym p) refl;
  takes = subst (λ x. known_takes row.function ≡ map type_sort x) (same_row row.result r row.parameters ps e).1 h.takes;
  gives = subst (λ x. known_gives row.function ≡ type_sort x) (same_row row.result r row.parameters ps e).0 h.gives;
}
by name row rows h r ps rest false p e =
    let b = rest e in
    record {
      function = b.function;
      is = subst (λ c. (if c then Some row.function else find name (meant rows)) ≡ Some b.function) (sym p) b.is;
      takes = b.takes;
      gives = b.gives;
    }

both : (name : Text) (rows : List Row) → AreRows rows → (r : TyData) (ps : List TyData) → find name (checked rows) ≡ Some (plain r ps) → Both name rows r ps
both name [] h r ps e = cc e
both name (row ∷ rows) h r ps e = by name row rows h.0 r ps (λ f. both name rows h.1 r ps f) (same_text name row.name) refl e

abbrev rows : List Row
rows =
    record { name = codes "puts"; result = int_type; parameters = text_type ∷ []; function = puts }
    ∷ record { name = codes "putchar"; result = int_type; parameters = int_type ∷ []; function = putchar }
    ∷ record { name = codes "strlen"; result = size_type; parameters = text_type ∷ []; function = strlen }
    ∷ record { name = codes "strcmp"; result = int_type; parameters = text_type ∷ text_type ∷ []; function = strcmp }
    ∷ record { name = codes "strncmp"; result = int_type; parameters = text_type ∷ text_type ∷ size_type ∷ []; function = strncmp }
    ∷ record { name = codes "memcmp"; result = int_type; parameters = memory_type ∷ memory_type ∷ size_type ∷ []; function = memcmp }
    ∷ record { name = codes "strcpy"; result = text_type; parameters = text_type ∷ text_type ∷ []; function = strcpy }
    ∷ record { name = codes "strncpy"; result = text_type; parameters = text_type ∷ text_type ∷ size_type ∷ []; function = strncpy }
    ∷ record { name = codes "strcat"; result = text_type; parameters = text_type ∷ text_type ∷ []; function = strcat }
    ∷ record { name = codes "memcpy"; result = memory_type; parameters = memory_type ∷ memory_type ∷ size_type ∷ []; function = memcpy }
    ∷ record { name = codes "memset"; result = memory_type; parameters = memory_type ∷ int_type ∷ size_type ∷ []; function = memset }
    ∷ record { name = codes "exit"; result = void; parameters = int_type ∷ []; function = exit }
    ∷ record { name = codes "sqlprint"; result = void; parameters = []; function = sqlprint }
    ∷ []

one : {row : Row} → known_takes row.function ≡ map type_sort row.parameters → known_gives row.function ≡ type_sort row.result → IsRow row
one e f = record { takes = e; gives = f }

are_rows : AreRows rows
are_rows = (one refl refl, (one refl refl, (one refl refl, (one refl refl, (one refl refl, (one refl refl, (one refl refl, (one refl refl, (one refl refl, (one refl refl, (one refl refl, (one refl refl, (one refl refl, tt)))))))))))))

formatted_first : (name : Text) (n : ℕ) (rest : Option KnownData) (r : TyData) (ps : List TyData) (t : Bool) → (if t then Some (formatted n) else rest) ≡ Some (plain r ps) → rest ≡ Some (plain r ps)
formatted_first name n rest r ps true e = cc e
formatted_first name n rest r ps false e = e

pub known_is : KnownAreTyped
known_is name r ps e =
    let b = both name rows are_rows r ps (formatted_first name 1 (find name (checked rows)) r ps (same_text name (codes "fprintf"))
    (formatted_first name 0 (if same_text name (codes "fprintf") then Some (formatted 1) else find name (checked rows)) r ps (same_text name (codes "printf")) e)) in
    record { function = b.function; is = b.is; takes = b.takes; gives = b.gives }
