-- What exchanges do to the slots, step by step.
use Rattle.std.proofs.Common.{◌≡◌, ◌≢◌, ℕ, Bool, true, false, cond, Option, Some, None, List, [], ◌∷◌, ◌++◌, All, slice_get, slice_set, get_or, refl, sym, ap, ◌∙◌, arith, subst}
use Rattle.std.proofs.lemmas.Bool.{false≢true}
use Rattle.std.proofs.lemmas.Bool.Decides.{nat_tests}
use Rattle.std.proofs.lemmas.Option.{get_or_from_slice_get}
use Rattle.std.proofs.lemmas.List.Elements.{All-head, All-tail}
use Rattle.std.proofs.lemmas.List.Quantifiers.{position-Some}
use Rattle.ec_link.specs.declared.logged.Logged.{Logged}
use Rattle.ec_link.specs.declared.request.Request.{Request}
use Rattle.ec_link.specs.declared.request.Request.TheVariants.{Connect, Text, Prepare, Exec, Deallocate, Close}
use Rattle.ec_link.specs.declared.reply.Reply.{Reply}
use Rattle.ec_link.specs.Logged.{Talk, is_slot, talk_of, IsAsk}
use Rattle.ec_link.specs.Reply.{is_connected}
use Rattle.ec_link.specs.SlotState.{SlotState, taken, dropped, is_free, free_slot, TakenAt, Exchanged, Slots}
use Rattle.ec_link.specs.Told.{SparesDropped}
use Rattle.ec_link.proofs.Places.{slice_get-slice_set_other}
use Rattle.ec_link.proofs.Talks.{talk_of-append, talk_of-cons_other}

-- one log and then another
pub Slots-append : (before between after : List SlotState) (xs ys : List Logged) → Slots before xs between → Slots between ys after → Slots before (xs ++ ys) after
Slots-append before between after [] ys e h = subst (λ (slots : List SlotState). Slots slots ys after) e h
Slots-append before between after (x ∷ xs) ys (middle, step, rest) h = (middle, step, Slots-append middle between after xs ys rest h)

-- a slot that is taken, by the number of another name
TakenAt-same : (slots : List SlotState) (i k : ℕ) → ◌≡◌ {A = Option ℕ} (Some k) (Some i) → TakenAt slots i → TakenAt slots k
TakenAt-same slots i k e t = let same : i ≡ k = cc in subst (λ (n : ℕ). TakenAt slots n) same t

-- an ask over a taken slot leaves the slots
pub Exchanged-ask : (slots : List SlotState) (slot : Option ℕ) (request : Request) (reply : Reply) (i : ℕ) → slot ≡ Some i → IsAsk request → TakenAt slots i → Exchanged slots slot request reply slots
Exchanged-ask slots None request reply i e a t = cc
Exchanged-ask slots (Some k) (Connect _ _ _) reply i e a t = absurd a
Exchanged-ask slots (Some k) Close reply i e a t = absurd a
Exchanged-ask slots (Some k) (Text _ _) reply i e a t = (TakenAt-same slots i k e t, refl)
Exchanged-ask slots (Some k) (Prepare _ _) reply i e a t = (TakenAt-same slots i k e t, refl)
Exchanged-ask slots (Some k) (Exec _ _) reply i e a t = (TakenAt-same slots i k e t, refl)
Exchanged-ask slots (Some k) (Deallocate _) reply i e a t = (TakenAt-same slots i k e t, refl)

-- asks over a taken slot leave the slots
pub Slots-asks : (slots : List SlotState) (i : ℕ) (log : List Logged) → TakenAt slots i → All (λ x. (x.slot ≡ Some i) × IsAsk x.request) log → Slots slots log slots
Slots-asks slots i [] t a = refl
Slots-asks slots i (x ∷ log) t a =
    let first = All-head (λ (y : Logged). (y.slot ≡ Some i) × IsAsk y.request) x log a in
    let rest = All-tail (λ (y : Logged). (y.slot ≡ Some i) × IsAsk y.request) x log a in
    (slots, Exchanged-ask slots x.slot x.request x.reply i first.0 first.1 t, Slots-asks slots i log t rest)

-- two numbers that differ, as the test of a slot says it
pub is_slot-other : (i k : ℕ) → i ≢ k → is_slot i (Some k) ≡ false
is_slot-other i k n = grind (arith, nat_tests)

-- another slot than one that is dropped
apart_from_dropped : (slots : List SlotState) (i k : ℕ) (name : List ℕ) (state : SlotState) → slice_get slots i ≡ Some (dropped name) → slice_get slots k ≡ Some state → state ≢ dropped name → i ≢ k
apart_from_dropped slots i k name state d s n =
    λ e. let here : slice_get slots k ≡ Some (dropped name) = subst (λ (m : ℕ). slice_get slots m ≡ Some (dropped name)) e d in n cc

-- what an exchange of another slot leaves of a dropped one
abbrev LeavesDropped : List SlotState → ℕ → List ℕ → Option ℕ → Type 0
LeavesDropped after i name slot = (slice_get after i ≡ Some (dropped name)) × (is_slot i slot ≡ false)

-- a change of another slot leaves a dropped one
change_leaves : (before after : List SlotState) (i k : ℕ) (name : List ℕ) (now : SlotState) → slice_get before i ≡ Some (dropped name) → i ≢ k → after ≡ slice_set before k now → LeavesDropped after i name (Some k)
change_leaves before after i k name now d n e =
    (ap (λ (slots : List SlotState). slice_get slots i) e ∙ slice_get-slice_set_other before k i now n ∙ d, is_slot-other i k n)

-- an exchange that changes no slot leaves a dropped one
same_leaves : (before after : List SlotState) (i k : ℕ) (name : List ℕ) → slice_get before i ≡ Some (dropped name) → i ≢ k → after ≡ before → LeavesDropped after i name (Some k)
same_leaves before after i k name d n e = (ap (λ (slots : List SlotState). slice_get slots i) e ∙ d, is_slot-other i k n)

-- an exchange over a taken slot that changes no slot leaves a dropped one
taken_leaves : (before after : List SlotState) (i k : ℕ) (name : List ℕ) → slice_get before i ≡ Some (dropped name) → TakenAt before k × (after ≡ before) → LeavesDropped after i name (Some k)
taken_leaves before after i k name d h =
    same_leaves before after i k name d (apart_from_dropped before i k name (taken h.0.0) d h.0.1 (λ e. cc)) h.1

-- a slot that is free for a target is not dropped
free_slot-apart : (slots : List SlotState) (target : List ℕ) (i k : ℕ) (name : List ℕ) → slice_get slots i ≡ Some (dropped name) → free_slot target slots ≡ Some k → i ≢ k
free_slot-apart slots target i k name d f =
    λ e. let passes = (position-Some (is_free target) slots k (dropped name) f).1 in
    let here : slice_get slots k ≡ Some (dropped name) = subst (λ (m : ℕ). slice_get slots m ≡ Some (dropped name)) e d in
    let is : get_or slots k (dropped name) ≡ dropped name = get_or_from_slice_get slots k (dropped name) (dropped name) here in
    false≢true (sym (ap (is_free target) is) ∙ passes)

-- the change that a Connect makes leaves a dropped slot
connect_leaves : (before after : List SlotState) (i k : ℕ) (name : List ℕ) (now : SlotState) (open' : Bool) → slice_get before i ≡ Some (dropped name) → i ≢ k → after ≡ cond open' (slice_set before k now) before → LeavesDropped after i name (Some k)
connect_leaves before after i k name now true d n e = change_leaves before after i k name now d n e
connect_leaves before after i k name now false d n e = same_leaves before after i k name d n e

-- an exchange leaves a dropped slot, and does not stand at it
Exchanged-dropped : (before : List SlotState) (slot : Option ℕ) (request : Request) (reply : Reply) (after : List SlotState) (i : ℕ) (name : List ℕ) → Exchanged before slot request reply after → slice_get before i ≡ Some (dropped name) → LeavesDropped after i name slot
Exchanged-dropped before None (Connect _ _ _) reply after i name h d = (ap (λ (slots : List SlotState). slice_get slots i) h.2 ∙ d, refl)
Exchanged-dropped before None (Text _ _) reply after i name h d = absurd h
Exchanged-dropped before None (Prepare _ _) reply after i name h d = absurd h
Exchanged-dropped before None (Exec _ _) reply after i name h d = absurd h
Exchanged-dropped before None (Deallocate _) reply after i name h d = absurd h
Exchanged-dropped before None Close reply after i name h d = absurd h
Exchanged-dropped before (Some k) (Connect target _ _) reply after i name h d =
    connect_leaves before after i k name (taken target) (is_connected reply) d (free_slot-apart before target i k name d h.0) h.1
Exchanged-dropped before (Some k) (Text _ _) reply after i name h d = taken_leaves before after i k name d h
Exchanged-dropped before (Some k) (Prepare _ _) reply after i name h d = taken_leaves before after i k name d h
Exchanged-dropped before (Some k) (Exec _ _) reply after i name h d = taken_leaves before after i k name d h
Exchanged-dropped before (Some k) (Deallocate _) reply after i name h d = taken_leaves before after i k name d h
Exchanged-dropped before (Some k) Close reply after i name h d =
    change_leaves before after i k name (dropped h.0) d (apart_from_dropped before i k name (taken h.0) d h.1 (λ e. cc)) h.2

-- a log spares the dropped slots
pub SparesDropped-Slots : (before : List SlotState) (log : List Logged) (after : List SlotState) → Slots before log after → SparesDropped before after log
SparesDropped-Slots before [] after h i name d = (ap (λ (slots : List SlotState). slice_get slots i) h ∙ d, refl)
SparesDropped-Slots before (x ∷ log) after h i name d =
    let step = Exchanged-dropped before x.slot x.request x.reply h.0 i name h.1 d in
    let rest = SparesDropped-Slots h.0 log after h.2 i name step.0 in
    (rest.0, talk_of-cons_other i x log step.1 ∙ rest.1)

-- one log and then another spare the dropped slots
pub SparesDropped-append : (before between after : List SlotState) (xs ys : List Logged) → SparesDropped before between xs → SparesDropped between after ys → SparesDropped before after (xs ++ ys)
SparesDropped-append before between after xs ys f g = λ i name d.
    let first = f i name d in
    let second = g i name first.0 in
    (second.0, talk_of-append i xs ys ∙ ap (λ (t : Talk). t ++ talk_of i ys) first.1 ∙ second.1)

-- a change of a slot that is not dropped spares the dropped slots
pub SparesDropped-slice_set : (slots : List SlotState) (k : ℕ) (state now : SlotState) → slice_get slots k ≡ Some state → ((name : List ℕ) → state ≢ dropped name) → SparesDropped slots (slice_set slots k now) []
SparesDropped-slice_set slots k state now s n = λ i name d.
    (slice_get-slice_set_other slots k i now (apart_from_dropped slots i k name state d s (n name)) ∙ d, refl)
