-- What names stand for, and the declarations so far, stay as they are by the rules that others are put together from, and by rules that are put together so.
use Rattle.std.proofs.Common.{◌≡◌, ◌∙◌, ℕ, Bool, true, false, [], ◌∷◌, ◌++◌, refl, Option, Some, None, if◌then◌else◌}
use Rattle.ec_base.specs.declared.fault.FaultKind.{FaultKind}
use Rattle.ec_base.specs.declared.fault.LimitKind.{LimitKind}
use Rattle.ec_base.specs.declared.line.Line.{Line}
use Rattle.ec_language.specs.Letters.{Text}
use Rattle.ec_typing_defs.specs.Worlds.{Place, StructInfo, World, Rule, chain, pure, ask, change, note, demand, keep_within, instead, place, declare_label, free_name, free_tag, new_struct}

-- the names of this scope, the scopes round it, and the declarations so far; tags of this scope may be declared
pub record NamesStay (w z : World) : Type 0 where
  pub here : z.here.names ≡ w.here.names
  pub outer : z.outer ≡ w.outer
  pub types : z.types ≡ w.types

pub stay_so : (w : World) → NamesStay w w
stay_so w = record { here = refl; outer = refl; types = refl }

pub stay_further : (w x z : World) → NamesStay w x → NamesStay x z → NamesStay w z
stay_further w x z p q = record { here = q.here ∙ p.here; outer = q.outer ∙ p.outer; types = q.types ∙ p.types }

-- by the rule, wherever it stands
pub record Staying {A : Type 0} (m : Rule A) : Type 0 where
  pub stays : (w : World) → NamesStay w (m w).world

pub chained : {A B : Type 0} {m : Rule A} {f : A → Rule B} → Staying m → ((a : A) → Staying (f a)) → Staying (chain m f)
unfolding chain
chained {m = m} {f = f} h k = record {
  stays = λ w. stay_further w (m w).world (f (m w).answer (m w).world).world (h.stays w) ((k (m w).answer).stays (m w).world);
}

pub pure_stays : {A : Type 0} (a : A) → Staying (pure a)
unfolding pure
pure_stays a = record { stays = stay_so }

pub ask_stays : {A : Type 0} (g : World → A) → Staying (ask g)
unfolding ask
ask_stays g = record { stays = stay_so }

pub asked : {A B : Type 0} (g : World → A) (f : A → Rule B) → ((a : A) → Staying (f a)) → Staying (chain (ask g) f)
asked g f k = chained (ask_stays g) k

note_stays : (at : Place) (kind : FaultKind) → Staying (note at kind)
unfolding note
note_stays at kind = record { stays = stay_so }

pub noted : {A : Type 0} (at : Place) (kind : FaultKind) (m : Rule A) → Staying m → Staying (chain (note at kind) (λ u. m))
noted at kind m h = chained (note_stays at kind) (λ u. h)

pub fault : {A : Type 0} (at : Place) (kind : FaultKind) (a : A) → Staying (chain (note at kind) (λ u. pure a))
fault at kind a = noted at kind (pure a) (pure_stays a)

pub demand_stays : (at : Place) (kind : FaultKind) (b : Bool) → Staying (demand at kind b)
unfolding demand
demand_stays at kind true = pure_stays tt
demand_stays at kind false = note_stays at kind

pub keep_stays : (at : Place) (kind : LimitKind) (b : Bool) → Staying (keep_within at kind b)
unfolding keep_within
keep_stays at kind true = pure_stays tt
keep_stays at kind false = record { stays = stay_so }

pub instead_stays : (at : Place) (kind : FaultKind) (m : Rule (Unit {0})) → Staying m → Staying (instead at kind m)
unfolding instead
instead_stays at kind m h = record { stays = h.stays }

pub changed : (g : World → World) → ((w : World) → (g w).here.names ≡ w.here.names) → ((w : World) → (g w).outer ≡ w.outer) → ((w : World) → (g w).types ≡ w.types) → Staying (change g)
unfolding change
changed g here outer types = record { stays = λ w. record { here = here w; outer = outer w; types = types w } }

pub place_stays : (line : Line) → Staying (place line)
unfolding place
place_stays line = record { stays = λ w. record { here = refl; outer = refl; types = refl } }

pub chosen : {A : Type 0} (b : Bool) {x y : Rule A} → Staying x → Staying y → Staying (elim b [ true ↦ x | false ↦ y ])
chosen true h k = h
chosen false h k = k

pub decided : {A : Type 0} (b : Bool) {x y : Rule A} → Staying x → Staying y → Staying (if b then x else y)
decided true h k = h
decided false h k = k

pub if_some : {A B : Type 0} (o : Option A) {x : Rule B} {f : A → Rule B} → Staying x → ((a : A) → Staying (f a)) → Staying (elim o [ None ↦ x | Some a ↦ f a ])
if_some None h k = h
if_some (Some a) h k = k a

pub free_name_stays : (at : Place) (name : Text) → Staying (free_name at name)
unfolding free_name
free_name_stays at name = demand_stays _ _ _

pub free_tag_stays : (at : Place) (tag : Text) → Staying (free_tag at tag)
unfolding free_tag
free_tag_stays at tag = asked _ _ (λ reserved. demand_stays _ _ _)

pub label_stays : (at : Place) (name : Text) → Staying (declare_label at name)
unfolding declare_label
label_stays at name = asked _ _ (λ before. chained (changed _ (λ w. refl) (λ w. refl) (λ w. refl)) (λ a. chained (demand_stays _ _ _) (λ b. free_name_stays at name)))

-- ---- structs

pub new_struct_stays : (info : StructInfo) → Staying (new_struct info)
unfolding new_struct
new_struct_stays info = record { stays = λ w. record { here = refl; outer = refl; types = refl } }

pub close_stays : (k : ℕ) → Staying (change (λ w. record w { closed = w.closed ++ k ∷ [] }))
close_stays k = changed _ (λ w. refl) (λ w. refl) (λ w. refl)
