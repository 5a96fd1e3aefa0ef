-- Rules of the checks that declare no object and no function, and rules that are put together from such.
use Rattle.std.proofs.Common.{◌≡◌, ◌∙◌, ℕ, Bool, List, [], ◌∷◌, refl, ap, Option, Some, None}
use Rattle.ec_base.specs.declared.fault.FaultKind.{FaultKind}
use Rattle.ec_base.specs.declared.fault.FaultKind.TheVariants.{F10}
use Rattle.ec_base.specs.declared.line.Line.{Line}
use Rattle.ec_ctypes.specs.trees.Types.{TyData}
use Rattle.ec_language.specs.Letters.{Text}
use Rattle.ec_typing_defs.specs.Embedded.{denote}
use Rattle.ec_typing_defs.specs.Expressions.{Members, type_or_fault, tag_type, tag_rule, tagged_struct, begin_again, begin_by, begin_struct, end_struct, member_named, varchar_struct, varchar_object, varchar_member}
use Rattle.ec_typing_defs.specs.Initializers.{Frames, fixed_rule, suits_rule, go_by, go_to, next_part, part_rule, slot_of, slot_rule, single_by}
use Rattle.ec_typing_defs.specs.Operands.{OperandData}
use Rattle.ec_typing_defs.specs.Programs.{result_rule, plain_param, array_param, param_type, declare_param, begin_function, know_function}
use Rattle.ec_typing_defs.specs.Statements.{object_rule, declared_tag, tag_alone}
use Rattle.ec_typing_defs.specs.Worlds.{Place, EntryData, MembersData, unlisted, begun, listed, StructInfo, ScopeData, World, Rule, chain, pure, ask, change, note, demand, place, left_to, enter, leave, declare, know_better, declare_label, new_struct, set_struct}
use Rattle.ec_sim_world_laws.proofs.known_lemmas.SitesIdle as idle
use Rattle.ec_sim_world_laws.proofs.known_lemmas.SitesIdle.{Idle, pure_idle, fault, demand_idle, keep_idle, free_name_idle, free_tag_idle}
use Rattle.ec_sim_world_laws.proofs.known_lemmas.SitesOperands.{within_idle, complete_idle}

-- ---- what leaves all as it is

pub words_idle : (at : Place) (t : Option TyData) → Idle (type_or_fault at t)
unfolding type_or_fault
words_idle at (Some t) = pure_idle _
words_idle at None = fault _ _ _

tag_type_idle : (at : Place) (k : Option ℕ) → Idle (tag_type at k)
tag_type_idle at (Some k) = pure_idle _
tag_type_idle at None = fault _ _ _

pub tag_idle : (at : Place) (t : Text) → Idle (tag_rule at t)
unfolding tag_rule
tag_idle at t = idle.asked _ _ (λ k. tag_type_idle at k)

pub named_idle : (at : Place) (name : Text) (t : Option TyData) (ms : Members) → Idle (member_named at name t ms)
unfolding member_named
named_idle at name t ms = idle.chained (within_idle at t) (λ a. idle.chained (complete_idle at t) (λ b. idle.chained (demand_idle _ _ _) (λ c. idle.chained (free_name_idle at name) (λ d. pure_idle _))))

pub object_idle : (at : Place) (has : Bool) (t : Option TyData) → Idle (object_rule at has t)
unfolding object_rule
object_idle at has None = pure_idle _
object_idle at has (Some t) = idle.asked _ _ (λ known. idle.chosen _ (pure_idle _) (complete_idle at (Some t)))

pub result_idle : (at : Place) (t : Option TyData) → Idle (result_rule at t)
unfolding result_rule
result_idle at t = idle.chained (demand_idle _ _ _) (λ a. pure_idle _)

plain_idle : (at : Place) (t : Option TyData) → Idle (plain_param at t)
unfolding plain_param
plain_idle at t = idle.chained (demand_idle _ _ _) (λ a. pure_idle _)

array_idle : (at : Place) (t : Option TyData) → Idle (array_param at t)
array_idle at t = idle.chained (within_idle at t) (λ a. idle.chained (complete_idle at t) (λ b. pure_idle _))

pub param_type_idle : (at : Place) (t : Option TyData) (stars : ℕ) (ns : List (Option ℕ)) → Idle (param_type at t stars ns)
param_type_idle at t stars [] = plain_idle at _
param_type_idle at t stars (n ∷ ns) = array_idle at _

-- ---- initializers

pub fixed_idle : (at : Place) (global : Bool) (o : OperandData) → Idle (fixed_rule at global o)
unfolding fixed_rule
fixed_idle at global o = idle.if_some o.type (pure_idle _) (λ t. demand_idle _ _ _)

suits_idle : (at : Place) (o : OperandData) (t : TyData) → Idle (suits_rule at o t)
unfolding suits_rule
suits_idle at o t = idle.if_some o.type (pure_idle _) (λ s. demand_idle _ _ _)

go_by_idle : (at : Place) (o : OperandData) (p : Option (TyData × Frames)) → Idle (go_by at o p)
go_by_idle at o None = pure_idle _
go_by_idle at o (Some p) = idle.chained (suits_idle at o p.0) (λ a. pure_idle _)

go_to_idle : (at : Place) (o : OperandData) (p : Option (Option TyData × Frames)) → Idle (go_to at o p)
go_to_idle at o None = fault _ _ _
go_to_idle at o (Some p) = idle.if_some p.0 (pure_idle _) (λ t. idle.asked _ _ (λ known. go_by_idle at o _))

pub part_idle : (at : Place) (fs : Option Frames) (o : OperandData) → Idle (part_rule at fs o)
unfolding part_rule
part_idle at None o = pure_idle _
part_idle at (Some fs) o = idle.if_some o.type (pure_idle _) (λ s. go_to_idle at o (next_part fs))

slot_of_idle : (at : Place) (p : Option (Option TyData × Frames)) → Idle (slot_of at p)
slot_of_idle at None = fault _ _ _
slot_of_idle at (Some p) = idle.if_some p.0 (pure_idle _) (λ t. pure_idle _)

pub slot_idle : (at : Place) (fs : Option Frames) → Idle (slot_rule at fs)
unfolding slot_rule
slot_idle at None = pure_idle _
slot_idle at (Some fs) = slot_of_idle at (next_part fs)

pub single_idle : (at : Place) (t : Option TyData) (o : OperandData) → Idle (single_by at t o)
single_idle at None o = pure_idle _
single_idle at (Some t) o = idle.chained (suits_idle at o t) (λ a. pure_idle _)

-- ---- what declares nothing

pub record Still {A : Type 0} (m : Rule A) : Type 0 where
  pub types : (w : World) → (m w).world.types ≡ w.types

pub idle_still : {A : Type 0} {m : Rule A} → Idle m → Still m
idle_still h = record { types = λ w. ap (λ z. z.types) (h.world w) }

chained : {A B : Type 0} {m : Rule A} {f : A → Rule B} → Still m → ((a : A) → Still (f a)) → Still (chain m f)
unfolding chain
chained {m = m} {f = f} h k = record { types = λ w. (k (m w).answer).types (m w).world ∙ h.types w }

asked : {A B : Type 0} (g : World → A) (f : A → Rule B) → ((a : A) → Still (f a)) → Still (chain (ask g) f)
unfolding chain ask
asked g f k = record { types = λ w. (k (g w)).types w }

noted : {A : Type 0} (at : Place) (kind : FaultKind) (m : Rule A) → Still m → Still (chain (note at kind) (λ u. m))
unfolding chain note
noted at kind m h = record { types = h.types }

pure_still : {A : Type 0} (a : A) → Still (pure a)
pure_still a = idle_still (pure_idle a)

demand_still : (at : Place) (kind : FaultKind) (b : Bool) → Still (demand at kind b)
demand_still at kind b = idle_still (demand_idle at kind b)

change_still : (g : World → World) → ((w : World) → (g w).types ≡ w.types) → Still (change g)
unfolding change
change_still g e = record { types = e }

pub place_still : (line : Line) → Still (place line)
unfolding place
place_still line = record { types = λ w. refl }

-- ---- scopes and names

pub enter_still : Still enter
unfolding enter
enter_still = change_still _ (λ w. refl)

pub leave_still : Still leave
unfolding leave
leave_still = change_still _ (λ w. go w w.outer)
  where
    go : (w : World) (ss : List ScopeData) → (left_to ss w).types ≡ w.types
    go w [] = refl
    go w (s ∷ ss) = refl

pub declare_still : (at : Place) (name : Text) (entry : EntryData) → Still (declare at name entry)
unfolding declare
declare_still at name entry = asked _ _ (λ before. chained (change_still _ (λ w. refl)) (λ a. chained (demand_still _ _ _) (λ b. idle_still (free_name_idle at name))))

pub better_still : (name : Text) (entry : EntryData) → Still (know_better name entry)
unfolding know_better
better_still name entry = change_still _ (λ w. refl)

pub label_still : (at : Place) (name : Text) → Still (declare_label at name)
unfolding declare_label
label_still at name = asked _ _ (λ before. chained (change_still _ (λ w. refl)) (λ a. chained (demand_still _ _ _) (λ b. idle_still (free_name_idle at name))))

pub declare_param_still : (at : Place) (defined : Bool) (name : Option Text) (k : ℕ) (t : Option TyData) → Still (declare_param at defined name k t)
declare_param_still at defined None k t = demand_still _ _ _
declare_param_still at defined (Some name) k t = declare_still at name _

pub begin_function_still : (name : Text) (entry : EntryData) → Still (begin_function name entry)
unfolding begin_function
begin_function_still name entry = change_still _ (λ w. refl)

pub know_function_still : (name : Text) (entry : EntryData) → Still (know_function name entry)
unfolding know_function
know_function_still name entry = change_still _ (λ w. refl)

pub new_labels_still : Still (change (λ w. record w { labels = [] }))
new_labels_still = change_still _ (λ w. refl)

pub denote_still : (names : List Text) → Still (denote names)
unfolding denote
denote_still names = change_still _ (λ w. refl)

-- ---- structs

new_struct_still : (info : StructInfo) → Still (new_struct info)
unfolding new_struct
new_struct_still info = record { types = λ w. refl }

set_struct_still : (k : ℕ) (info : StructInfo) → Still (set_struct k info)
unfolding set_struct
set_struct_still k info = change_still _ (λ w. refl)

tagged_still : (t : Text) (ms : MembersData) → Still (tagged_struct t ms)
unfolding tagged_struct
tagged_still t ms = chained (new_struct_still _) (λ k. chained (change_still _ (λ w. refl)) (λ a. pure_still k))

again_still : (at : Place) (t : Text) (k : ℕ) (ms : Option MembersData) → Still (begin_again at t k ms)
again_still at t k (Some unlisted) = chained (set_struct_still k _) (λ a. pure_still k)
again_still at t k (Some begun) = noted at F10 _ (tagged_still t begun)
again_still at t k (Some (listed ms)) = noted at F10 _ (tagged_still t begun)
again_still at t k None = noted at F10 _ (tagged_still t begun)

begin_by_still : (at : Place) (t : Text) (k : Option ℕ) → Still (begin_by at t k)
begin_by_still at t None = tagged_still t begun
begin_by_still at t (Some k) = asked _ _ (λ ms. again_still at t k ms)

pub begin_still : (at : Place) (t : Option Text) → Still (begin_struct at t)
unfolding begin_struct
begin_still at None = new_struct_still _
begin_still at (Some t) = chained (idle_still (free_tag_idle at t)) (λ a. asked _ _ (λ before. begin_by_still at t before))

pub end_still : (at : Place) (t : Option Text) (k : ℕ) (ms : Members) → Still (end_struct at t k ms)
unfolding end_struct
end_still at t k ms =
    asked _ _ (λ shape. asked _ _ (λ info. chained (set_struct_still k info) (λ a. chained (change_still _ (λ w. refl)) (λ b. chained (idle_still (keep_idle _ _ _)) (λ c. pure_still _)))))

varchar_still : (at : Place) (t : Option Text) (n : Option ℕ) → Still (varchar_struct at t n)
unfolding varchar_struct
varchar_still at t n = asked _ _ (λ info. chained (new_struct_still _) (λ k. chained (change_still _ (λ w. refl)) (λ a. chained (idle_still (keep_idle _ _ _)) (λ b. pure_still _))))

pub varchar_object_still : (at : Place) (name : Text) (n : Option ℕ) → Still (varchar_object at name n)
unfolding varchar_object
varchar_object_still at name n = chained (varchar_still at _ n) (λ k. asked _ _ (λ before. chained (change_still _ (λ w. refl)) (λ a. chained (demand_still _ _ _) (λ b. pure_still _))))

pub varchar_member_still : (at : Place) (n : Option ℕ) → Still (varchar_member at n)
unfolding varchar_member
varchar_member_still at n = chained (varchar_still at _ n) (λ k. pure_still _)

declared_still : (tag : Text) (k : Option ℕ) → Still (declared_tag tag k)
declared_still tag None = chained (tagged_still tag unlisted) (λ a. pure_still _)
declared_still tag (Some k) = pure_still _

pub tag_alone_still : (at : Place) (tag : Text) → Still (tag_alone at tag)
unfolding tag_alone
tag_alone_still at tag = chained (idle_still (free_tag_idle at tag)) (λ a. asked _ _ (λ before. declared_still tag before))
