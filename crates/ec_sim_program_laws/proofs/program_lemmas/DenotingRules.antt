-- Nothing is denoted by the rules that others are put together from, and by rules that are put together so.
use Rattle.std.proofs.Common.{◌≡◌, ◌∙◌, ℕ, Bool, true, false, List, [], ◌∷◌, ◌++◌, refl, Option, Some, None, if◌then◌else◌}
use Rattle.ec_base.specs.declared.fault.FaultKind.{FaultKind}
use Rattle.ec_base.specs.declared.fault.LimitKind.{LimitKind}
use Rattle.ec_base.specs.declared.line.Line.{Line}
use Rattle.ec_ctypes.specs.trees.Types.{TyData}
use Rattle.ec_language.specs.Letters.{Text}
use Rattle.ec_typing_defs.specs.Worlds.{Place, EntryData, StructInfo, ScopeData, World, Rule, chain, pure, ask, change, note, demand, keep_within, place, left_to, enter, leave, declare, know_better, declare_label, free_name, free_tag, number_as, new_struct}

-- a rule of the checks that is no embedded statement's
pub record DenotesNone {A : Type 0} (n : Rule A) : Type 0 where
  pub kept : (w : World) → (n w).world.denoted ≡ w.denoted

pub chained : {A B : Type 0} {m : Rule A} {f : A → Rule B} → DenotesNone m → ((a : A) → DenotesNone (f a)) → DenotesNone (chain m f)
unfolding chain
chained {m = m} {f = f} h k = record { kept = λ w. (k (m w).answer).kept (m w).world ∙ h.kept w }

pub pure_denotes : {A : Type 0} (a : A) → DenotesNone (pure a)
unfolding pure
pure_denotes a = record { kept = λ w. refl }

pub ask_denotes : {A : Type 0} (g : World → A) → DenotesNone (ask g)
unfolding ask
ask_denotes g = record { kept = λ w. refl }

pub asked : {A B : Type 0} (g : World → A) (f : A → Rule B) → ((a : A) → DenotesNone (f a)) → DenotesNone (chain (ask g) f)
asked g f k = chained (ask_denotes g) k

note_denotes : (at : Place) (kind : FaultKind) → DenotesNone (note at kind)
unfolding note
note_denotes at kind = record { kept = λ w. refl }

pub noted : {A : Type 0} (at : Place) (kind : FaultKind) (m : Rule A) → DenotesNone m → DenotesNone (chain (note at kind) (λ u. m))
noted at kind m h = chained (note_denotes at kind) (λ u. h)

pub fault : {A : Type 0} (at : Place) (kind : FaultKind) (a : A) → DenotesNone (chain (note at kind) (λ u. pure a))
fault at kind a = noted at kind (pure a) (pure_denotes a)

pub demand_denotes : (at : Place) (kind : FaultKind) (b : Bool) → DenotesNone (demand at kind b)
unfolding demand
demand_denotes at kind true = pure_denotes tt
demand_denotes at kind false = note_denotes at kind

pub keep_denotes : (at : Place) (kind : LimitKind) (b : Bool) → DenotesNone (keep_within at kind b)
unfolding keep_within
keep_denotes at kind true = pure_denotes tt
keep_denotes at kind false = record { kept = λ w. refl }

pub changed : (g : World → World) → ((w : World) → (g w).denoted ≡ w.denoted) → DenotesNone (change g)
unfolding change
changed g k = record { kept = k }

pub place_denotes : (line : Line) → DenotesNone (place line)
unfolding place
place_denotes line = record { kept = λ w. refl }

pub chosen : {A : Type 0} (b : Bool) {x y : Rule A} → DenotesNone x → DenotesNone y → DenotesNone (elim b [ true ↦ x | false ↦ y ])
chosen true h k = h
chosen false h k = k

pub decided : {A : Type 0} (b : Bool) {x y : Rule A} → DenotesNone x → DenotesNone y → DenotesNone (if b then x else y)
decided true h k = h
decided false h k = k

pub if_some : {A B : Type 0} (o : Option A) {x : Rule B} {f : A → Rule B} → DenotesNone x → ((a : A) → DenotesNone (f a)) → DenotesNone (elim o [ None ↦ x | Some a ↦ f a ])
if_some None h k = h
if_some (Some a) h k = k a

-- ---- scopes

pub enter_denotes : DenotesNone enter
unfolding enter
enter_denotes = changed _ (λ w. refl)

pub leave_denotes : DenotesNone leave
unfolding leave
leave_denotes = changed _ (λ w. go w w.outer)
  where
    go : (w : World) (ss : List ScopeData) → (left_to ss w).denoted ≡ w.denoted
    go w [] = refl
    go w (s ∷ ss) = refl

pub free_name_denotes : (at : Place) (name : Text) → DenotesNone (free_name at name)
unfolding free_name
free_name_denotes at name = demand_denotes _ _ _

pub free_tag_denotes : (at : Place) (tag : Text) → DenotesNone (free_tag at tag)
unfolding free_tag
free_tag_denotes at tag = asked _ _ (λ reserved. demand_denotes _ _ _)

pub declare_denotes : (at : Place) (name : Text) (entry : EntryData) → DenotesNone (declare at name entry)
unfolding declare
declare_denotes at name entry = asked _ _ (λ before. chained (changed _ (λ w. refl)) (λ a. chained (demand_denotes _ _ _) (λ b. free_name_denotes at name)))

pub better_denotes : (name : Text) (entry : EntryData) → DenotesNone (know_better name entry)
unfolding know_better
better_denotes name entry = changed _ (λ w. refl)

pub label_denotes : (at : Place) (name : Text) → DenotesNone (declare_label at name)
unfolding declare_label
label_denotes at name = asked _ _ (λ before. chained (changed _ (λ w. refl)) (λ a. chained (demand_denotes _ _ _) (λ b. free_name_denotes at name)))

-- ---- declarations and structs

pub number_denotes : (t : TyData) → DenotesNone (number_as t)
unfolding number_as
number_denotes t = changed _ (λ w. refl)

pub new_struct_denotes : (info : StructInfo) → DenotesNone (new_struct info)
unfolding new_struct
new_struct_denotes info = record { kept = λ w. refl }

pub close_denotes : (k : ℕ) → DenotesNone (change (λ w. record w { closed = w.closed ++ k ∷ [] }))
close_denotes k = changed _ (λ w. refl)
