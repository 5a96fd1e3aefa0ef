-- Rules of the checks that leave what is known as it is, and rules that are put together from such.
use Rattle.std.proofs.Common.{◌≡◌, ◌∙◌, Bool, true, false, refl, Option, Some, None, if◌then◌else◌}
use Rattle.ec_base.specs.declared.fault.FaultKind.{FaultKind}
use Rattle.ec_base.specs.declared.fault.LimitKind.{LimitKind}
use Rattle.ec_language.specs.Letters.{Text}
use Rattle.ec_typing_defs.specs.Worlds.{Place, World, Rule, chain, pure, ask, note, demand, keep_within, free_name, free_tag}

pub record Idle {A : Type 0} (m : Rule A) : Type 0 where
  pub world : (w : World) → (m w).world ≡ w

pub chained : {A B : Type 0} {m : Rule A} {f : A → Rule B} → Idle m → ((a : A) → Idle (f a)) → Idle (chain m f)
unfolding chain
chained {m = m} {f = f} h k = record { world = λ w. (k (m w).answer).world (m w).world ∙ h.world w }

pub pure_idle : {A : Type 0} (a : A) → Idle (pure a)
unfolding pure
pure_idle a = record { world = λ w. refl }

ask_idle : {A : Type 0} (g : World → A) → Idle (ask g)
unfolding ask
ask_idle g = record { world = λ w. refl }

pub asked : {A B : Type 0} (g : World → A) (f : A → Rule B) → ((a : A) → Idle (f a)) → Idle (chain (ask g) f)
asked g f k = chained (ask_idle g) k

note_idle : (at : Place) (kind : FaultKind) → Idle (note at kind)
unfolding note
note_idle at kind = record { world = λ w. refl }

pub fault : {A : Type 0} (at : Place) (kind : FaultKind) (a : A) → Idle (chain (note at kind) (λ u. pure a))
fault at kind a = chained (note_idle at kind) (λ u. pure_idle a)

pub demand_idle : (at : Place) (kind : FaultKind) (b : Bool) → Idle (demand at kind b)
unfolding demand
demand_idle at kind true = pure_idle tt
demand_idle at kind false = note_idle at kind

pub keep_idle : (at : Place) (kind : LimitKind) (b : Bool) → Idle (keep_within at kind b)
unfolding keep_within
keep_idle at kind true = pure_idle tt
keep_idle at kind false = record { world = λ w. refl }

pub chosen : {A : Type 0} (b : Bool) {x y : Rule A} → Idle x → Idle y → Idle (elim b [ true ↦ x | false ↦ y ])
chosen true h k = h
chosen false h k = k

pub decided : {A : Type 0} (b : Bool) {x y : Rule A} → Idle x → Idle y → Idle (if b then x else y)
decided true h k = h
decided false h k = k

pub if_some : {A B : Type 0} (o : Option A) {x : Rule B} {f : A → Rule B} → Idle x → ((a : A) → Idle (f a)) → Idle (elim o [ None ↦ x | Some a ↦ f a ])
if_some None h k = h
if_some (Some a) h k = k a

pub free_name_idle : (at : Place) (name : Text) → Idle (free_name at name)
unfolding free_name
free_name_idle at name = demand_idle _ _ _

pub free_tag_idle : (at : Place) (tag : Text) → Idle (free_tag at tag)
unfolding free_tag
free_tag_idle at tag = asked _ _ (λ reserved. demand_idle _ _ _)
