-- Two logs of one program, up to the first exchange in which they differ: there is none, where the second was said over what the first recorded.
use Rattle.std.proofs.Common.{◌≡◌, ◌≢◌, ◌⊎◌, ◌∙◌, ℕ, inl, inr, List, [], ◌∷◌, ◌++◌, length, slice_set, true, Option, Some, None, cond, unwrap_or, refl, sym, ap, subst, append_assoc, append-nil, arith}
use Rattle.std.proofs.lemmas.Bool.{eq-eqb}
use Rattle.std.proofs.lemmas.List.{append_cancel_left, length-map, map-append}
use Rattle.ec_link.specs.declared.logged.Logged.{Logged}
use Rattle.ec_link.specs.declared.reply.Reply.{Reply}
use Rattle.ec_link.specs.declared.reply.Reply.TheVariants.{NoTarget, Broken}
use Rattle.ec_link.specs.declared.request.Request.{Request}
use Rattle.ec_link.specs.declared.request.Request.TheVariants.{Connect, Text, Prepare, Exec, Deallocate, Close}
use Rattle.ec_link.specs.Logged.{Talk, IsConnect, is_slot, target_of, talk_of}
use Rattle.ec_link.specs.SlotState.{SlotState, Exchanged, Slots, free_slot, ready_slot, taken, dropped}
use Rattle.ec_link.proofs.Talks.{talk_of-append, talk_of-cons}
use Rattle.ec_meaning_defs.specs.evaluation.Agree.{IsWaiting}
use Rattle.ec_meaning_defs.specs.evaluation.State.{Answer, Ending, exited, trapped, turns_spent, waits, stuck}
use Rattle.ec_meaning_defs.specs.evaluation.Whole.{Observed}
use Rattle.ec_meaning_defs.specs.observed.Observed.{answers_in}
use Rattle.ec_meaning_defs.specs.observed.Run.{IsFront}
use Rattle.ec_replay.specs.Laws.{IsEquality, SaysAgain, requests_of}
use Rattle.ec_replay.specs.Part.{reply_to, left_after, talk_over}
use Rattle.ec_replay.specs.Same.{is_same}
use Rattle.ec_replay_laws.specs.Parts.{IsSaidOver, RepliesAsRecorded, SaysItself}
use Rattle.ec_replay_laws.specs.Runs.{Meaning, Ran, SaysTheSame, SaysAFront, AnswersAlike, taken_first}
use Rattle.ec_replay_laws.specs.Taking.{exchange_with, MayWait, replies_in, GoesOnExactly, RunsExactly, TakesExactly}

-- ---- lists

-- two lists that are joined of fronts as long as one another
same_fronts : {A : Type 0} (a b c d : List A) → length a ≡ length b → a ++ c ≡ b ++ d → (a ≡ b) × (c ≡ d)
same_fronts [] [] c d n e = (refl, e)
same_fronts [] (y ∷ b) c d n e = absurd (omega (arith, n))
same_fronts (x ∷ a) [] c d n e = absurd (omega (arith, n))
same_fronts (x ∷ a) (y ∷ b) c d n e =
    let h : x ≡ y = cc in
    let t : a ++ c ≡ b ++ d = cc in
    let m : length a ≡ length b = omega (arith, n) in
    let r = same_fronts a b c d m t in
    (λ i. h i ∷ r.0 i, r.1)

answers_over : (front : List Logged) (x : Logged) (rest : List Logged) → answers_in (front ++ x ∷ rest) ≡ answers_in front ++ (x.slot, x.reply) ∷ answers_in rest
answers_over front x rest = map-append (λ (y : Logged). (y.slot, y.reply)) front (x ∷ rest)

replies_length : (answers : List Answer) → length (replies_in answers) ≡ length answers
replies_length answers = length-map answers (λ a. a.1)

-- ---- what the slots say of an exchange

-- the slot of a Connect is the first that is free for its target, if there is one
connects_first : (slots : List SlotState) (slot : Option ℕ) (request : Request) (reply : Reply) (after : List SlotState)
    → IsConnect request → Exchanged slots slot request reply after → slot ≡ free_slot (target_of request) slots
connects_first slots None (Connect target user password) reply after c e = sym e.0
connects_first slots (Some i) (Connect target user password) reply after c e = sym e.0
connects_first slots slot (Text text params) reply after c e = absurd c
connects_first slots slot (Prepare name text) reply after c e = absurd c
connects_first slots slot (Exec name params) reply after c e = absurd c
connects_first slots slot (Deallocate name) reply after c e = absurd c
connects_first slots slot Close reply after c e = absurd c

-- what stands at no slot is answered by NoTarget
finds_none : (slots : List SlotState) (request : Request) (reply : Reply) (after : List SlotState) → Exchanged slots None request reply after → reply ≡ NoTarget
finds_none slots (Connect target user password) reply after e = e.1
finds_none slots (Text text params) reply after e = absurd e
finds_none slots (Prepare name text) reply after e = absurd e
finds_none slots (Exec name params) reply after e = absurd e
finds_none slots (Deallocate name) reply after e = absurd e
finds_none slots Close reply after e = absurd e

same_taken : (a b : List ℕ) → Some (taken a) ≡ Some (taken b) → a ≡ b
same_taken a b e = cc

-- an exchange makes one thing of the slots
same_after : (slots : List SlotState) (slot : Option ℕ) (request : Request) (reply : Reply) (after after' : List SlotState)
    → Exchanged slots slot request reply after → Exchanged slots slot request reply after' → after' ≡ after
same_after slots None (Connect target user password) reply after after' e f = f.2 ∙ sym e.2
same_after slots None (Text text params) reply after after' e f = absurd e
same_after slots None (Prepare name text) reply after after' e f = absurd e
same_after slots None (Exec name params) reply after after' e f = absurd e
same_after slots None (Deallocate name) reply after after' e f = absurd e
same_after slots None Close reply after after' e f = absurd e
same_after slots (Some i) (Connect target user password) reply after after' e f = f.1 ∙ sym e.1
same_after slots (Some i) (Text text params) reply after after' e f = f.1 ∙ sym e.1
same_after slots (Some i) (Prepare name text) reply after after' e f = f.1 ∙ sym e.1
same_after slots (Some i) (Exec name params) reply after after' e f = f.1 ∙ sym e.1
same_after slots (Some i) (Deallocate name) reply after after' e f = f.1 ∙ sym e.1
same_after slots (Some i) Close reply after after' e f =
    let n = same_taken e.0 f.0 (sym e.1 ∙ f.1) in
    f.2 ∙ sym (ap (λ name. slice_set slots i (dropped name)) n) ∙ sym e.2

-- ---- what a part says of the next reply

same_heads : (x y : Request × Reply) (xs ys : Talk) → x ∷ xs ≡ y ∷ ys → x.1 ≡ y.1
same_heads x y xs ys e =
    let h : x ≡ y = cc in
    ap (λ (z : Request × Reply). z.1) h

same_tails : (x y : Request × Reply) (xs ys : Talk) → x ∷ xs ≡ y ∷ ys → xs ≡ ys
same_tails x y xs ys e = cc

module _ (same : IsEquality) where
  same_itself : (request : Request) → is_same request request ≡ true
  same_itself request = (same request request).1 refl

  -- to the next recorded request, behind what was said as it was recorded
  next_reply : (front part said : Talk) (request : Request) (a b : Reply) → IsSaidOver (front ++ (request, a) ∷ part) (front ++ (request, b) ∷ said) → b ≡ a
  next_reply [] part said request a b e =
      same_heads (request, b) (request, reply_to ((request, a) ∷ part) request) said (talk_over (left_after ((request, a) ∷ part) request) (requests_of said)) e
      ∙ ap (λ z. unwrap_or (cond z (Some a) None) Broken) (same_itself request)
  next_reply (c ∷ front) part said request a b e =
      let all : Talk = front ++ (request, a) ∷ part in
      let more : Talk = front ++ (request, b) ∷ said in
      next_reply front part said request a b
      (same_tails c (c.0, reply_to (c ∷ all) c.0) more (talk_over (left_after (c ∷ all) c.0) (requests_of more)) e
      ∙ ap (λ z. talk_over (cond z all []) (requests_of more)) (same_itself c.0))

talk_behind : (i : ℕ) (front : List Logged) (x : Logged) (rest : List Logged) → x.slot ≡ Some i → talk_of i (front ++ x ∷ rest) ≡ talk_of i front ++ (x.request, x.reply) ∷ talk_of i rest
talk_behind i front x rest e =
    talk_of-append i front (x ∷ rest) ∙ ap (λ t. talk_of i front ++ t) (talk_of-cons i x rest (ap (is_slot i) e ∙ eq-eqb i i refl))

-- two exchanges of one request over one slot, behind the same log
same_reply : IsEquality → (front : List Logged) (x y : Logged) (rest rest' : List Logged) (i : ℕ) → x.slot ≡ Some i → y.slot ≡ Some i → x.request ≡ y.request
    → RepliesAsRecorded (front ++ x ∷ rest) (front ++ y ∷ rest') → y.reply ≡ x.reply
same_reply same front x y rest rest' i a b r h =
    let p = talk_behind i front x rest a in
    let q : talk_of i (front ++ y ∷ rest') ≡ talk_of i front ++ (x.request, y.reply) ∷ talk_of i rest' =
    talk_behind i front y rest' b ∙ ap (λ (z : Request). talk_of i front ++ (z, y.reply) ∷ talk_of i rest') (sym r) in
    next_reply same (talk_of i front) (talk_of i rest) (talk_of i rest') x.request x.reply y.reply
    (subst (λ t. IsSaidOver t (talk_of i front ++ (x.request, y.reply) ∷ talk_of i rest')) p (subst (λ t. IsSaidOver (talk_of i (front ++ x ∷ rest)) t) q (h i)))

-- ---- whatever the programs are

-- an exchange of a log stands where the slots allow it
record StandsAt (x : Logged) : Type 0 where
  before : List SlotState
  after : List SlotState
  exchanged : Exchanged before x.slot x.request x.reply after

stands : (front : List Logged) (x : Logged) (rest : List Logged) (slots after : List SlotState) → Slots slots (front ++ x ∷ rest) after → StandsAt x
stands [] x rest slots after s = record { before = slots; after = s.0; exchanged = s.1 }
stands (c ∷ front) x rest slots after s = stands front x rest s.0 after s.2

module _ (same : IsEquality) where
  replies_at : (front : List Logged) (x y : Logged) (rest rest' : List Logged) (s : Option ℕ)
      → x.slot ≡ s → y.slot ≡ s → x.request ≡ y.request → StandsAt x → StandsAt y
      → RepliesAsRecorded (front ++ x ∷ rest) (front ++ y ∷ rest') → y.reply ≡ x.reply
  replies_at front x y rest rest' (Some i) a b r e f h = same_reply same front x y rest rest' i a b r h
  replies_at front x y rest rest' None a b r e f h =
      finds_none f.before y.request y.reply f.after (subst (λ s. Exchanged f.before s y.request y.reply f.after) b f.exchanged)
      ∙ sym (finds_none e.before x.request x.reply e.after (subst (λ s. Exchanged e.before s x.request x.reply e.after) a e.exchanged))

  pub answers_alike : AnswersAlike
  answers_alike slots after after' recorded log a b h front rest rest' x y r l s q =
      let t : y.reply ≡ x.reply = replies_at front x y rest rest' x.slot refl s (sym q)
      (stands front x rest slots after (subst (λ z. Slots slots z after) r a)) (stands front y rest' slots after' (subst (λ z. Slots slots z after') l b))
      (subst (λ z. RepliesAsRecorded z (front ++ y ∷ rest')) r (subst (λ z. RepliesAsRecorded recorded z) l h)) in
      λ i. record { slot = s i; request = q i; reply = t i }

-- what was recorded is said again
pub says_itself : SaysAgain → SaysItself
says_itself again recorded i =
    let part : Talk = talk_of i recorded in
    sym (subst (λ p. talk_over p (requests_of part) ≡ part) (append-nil part) (again part []).0)

-- ---- an ending

waits_or_ends : (e : Ending) → (IsWaiting e → ⊥) ⊎ ((slot : Option ℕ) × (request : Request) × (e ≡ waits slot request))
waits_or_ends (exited n) = inl (λ w. w)
waits_or_ends (trapped trap line) = inl (λ w. w)
waits_or_ends turns_spent = inl (λ w. w)
waits_or_ends (waits slot request) = inr (slot, request, refl)
waits_or_ends stuck = inl (λ w. w)

-- an ending that is none of a run that waits
settles : (e : Ending) → ((slot : Option ℕ) (request : Request) → e ≢ waits slot request) → IsWaiting e → ⊥
settles (exited n) h w = w
settles (trapped trap line) h w = w
settles turns_spent h w = w
settles (waits slot request) h w = h slot request refl
settles stuck h w = w

-- ---- one program

module _ (same : IsEquality) (run : List Answer → Observed) (exact : RunsExactly run) where
  -- a log that is a front of what a run says over its answers
  abbrev IsPart : List Logged → Type 0
  IsPart log = IsFront log (run (answers_in log)).conversation

  -- a run over the answers of a log that says the log and waits for no more
  record IsWhole (log : List Logged) : Type 0 where
    said : (run (answers_in log)).conversation ≡ log
    ended : IsWaiting (run (answers_in log)).ending → ⊥

  part_of_whole : (log : List Logged) → IsWhole log → IsPart log
  part_of_whole log w = record { rest = []; same = w.said ∙ sym (append-nil log) }

  -- a run that waits for no answer behind a front says no more behind it
  ends_there : (front rest : List Logged) → (IsWaiting (run (answers_in front)).ending → ⊥) → run (answers_in (front ++ rest)) ≡ run (answers_in front)
  ends_there front rest ends =
      ap run (map-append (λ (y : Logged). (y.slot, y.reply)) front rest) ∙ exact.settled (answers_in front) (answers_in rest) ends

  -- two logs whose front is that of a run that waits for no answer
  both_end : (front rest rest' : List Logged) → (IsWaiting (run (answers_in front)).ending → ⊥) → IsWhole (front ++ rest) → IsPart (front ++ rest') → IsFront rest' rest
  both_end front rest rest' ends w p = record {
    rest = p.rest;
    same = append_cancel_left front rest (rest' ++ p.rest)
        (sym w.said ∙ ap (λ (o : Observed). o.conversation) (ends_there front rest ends ∙ sym (ends_there front rest' ends)) ∙ p.same ∙ append_assoc front rest' p.rest);
  }

  -- the next exchange of a run that waits behind a front
  is_next : (front : List Logged) (x : Logged) (rest : List Logged) (slot : Option ℕ) (request : Request) → GoesOnExactly run (answers_in front) slot request
      → IsPart (front ++ x ∷ rest) → exchange_with slot request (x.slot, x.reply) ≡ x
  is_next front x rest slot request g p =
      let n = g.next (x.slot, x.reply) (answers_in rest) in
      let c : (run (answers_in front)).conversation ++ exchange_with slot request (x.slot, x.reply) ∷ n.rest ≡ front ++ x ∷ (rest ++ p.rest) =
      sym n.said ∙ ap (λ a. (run a).conversation) (sym (answers_over front x rest)) ∙ p.same ∙ append_assoc front (x ∷ rest) p.rest in
      let k : length (run (answers_in front)).conversation ≡ length front =
      sym (length-map (run (answers_in front)).conversation (λ (y : Logged). y.reply)) ∙ ap length g.taken
      ∙ replies_length (answers_in front) ∙ length-map front (λ (y : Logged). (y.slot, y.reply)) in
      same_head (exchange_with slot request (x.slot, x.reply)) x n.rest (rest ++ p.rest) (same_fronts (run (answers_in front)).conversation front _ _ k c).1
    where
      same_head : (y z : Logged) (ys zs : List Logged) → y ∷ ys ≡ z ∷ zs → y ≡ z
      same_head y z ys zs e = cc

  -- the slots of two exchanges of one request
  same_slot : (slots : List SlotState) (slot : Option ℕ) (request : Request) (x y : Logged) (after after' : List SlotState) → MayWait slot request
      → exchange_with slot request (x.slot, x.reply) ≡ x → exchange_with slot request (y.slot, y.reply) ≡ y
      → Exchanged slots x.slot x.request x.reply after → Exchanged slots y.slot y.request y.reply after' → y.slot ≡ x.slot
  same_slot slots (Some i) request x y after after' m p q e f = sym (ap (λ (z : Logged). z.slot) q) ∙ ap (λ (z : Logged). z.slot) p
  same_slot slots None request x y after after' m p q e f =
      let a : request ≡ x.request = ap (λ (z : Logged). z.request) p in
      let b : request ≡ y.request = ap (λ (z : Logged). z.request) q in
      connects_first slots y.slot y.request y.reply after' (subst IsConnect b m) f
      ∙ ap (λ r. free_slot (target_of r) slots) (sym b ∙ a)
      ∙ sym (connects_first slots x.slot x.request x.reply after (subst IsConnect a m) e)

  -- where the run waits, both logs have the same exchange next
  same_next : (front : List Logged) (slots : List SlotState) (x y : Logged) (rest rest' : List Logged) (after after' : List SlotState) (slot : Option ℕ) (request : Request)
      → GoesOnExactly run (answers_in front) slot request → IsPart (front ++ x ∷ rest) → IsPart (front ++ y ∷ rest')
      → Exchanged slots x.slot x.request x.reply after → Exchanged slots y.slot y.request y.reply after'
      → RepliesAsRecorded (front ++ x ∷ rest) (front ++ y ∷ rest') → y ≡ x
  same_next front slots x y rest rest' after after' slot request g w p e f h =
      let a = is_next front x rest slot request g w in
      let b = is_next front y rest' slot request g p in
      let s : y.slot ≡ x.slot = same_slot slots slot request x y after after' g.asks a b e f in
      let r : x.request ≡ y.request = sym (ap (λ (z : Logged). z.request) a) ∙ ap (λ (z : Logged). z.request) b in
      let t : y.reply ≡ x.reply = replies_at same front x y rest rest' x.slot refl s r (record { before = slots; after = after; exchanged = e }) (record { before = slots; after = after'; exchanged = f }) h in
      sym b ∙ (λ i. exchange_with slot request (s i, t i)) ∙ a

  -- What is to be shown of the rest of a recorded log: behind a front that both have, the rest of the other is a front of it.
  abbrev FrontFrom : List Logged → Type 0
  FrontFrom rest = (front : List Logged) (slots : List SlotState) (rest' : List Logged) (after after' : List SlotState)
      → IsWhole (front ++ rest) → IsPart (front ++ rest') → Slots slots rest after → Slots slots rest' after'
      → RepliesAsRecorded (front ++ rest) (front ++ rest') → IsFront rest' rest

  -- behind an exchange that both have
  front_behind : (x : Logged) (rest : List Logged) → FrontFrom rest → (front : List Logged) (slots : List SlotState) (y : Logged) → y ≡ x → (rest' : List Logged) (after after' : List SlotState)
      → IsWhole (front ++ x ∷ rest) → IsPart (front ++ y ∷ rest') → Slots slots (x ∷ rest) after → Slots slots (y ∷ rest') after'
      → RepliesAsRecorded (front ++ x ∷ rest) (front ++ y ∷ rest') → IsFront (y ∷ rest') (x ∷ rest)
  front_behind x rest ih front slots y d rest' after after' w p e f h =
      let w1 : IsWhole ((front ++ x ∷ []) ++ rest) = subst IsWhole (sym (append_assoc front (x ∷ []) rest)) w in
      let p1 : IsPart ((front ++ x ∷ []) ++ rest') = subst IsPart (sym (append_assoc front (x ∷ []) rest')) (subst (λ z. IsPart (front ++ z ∷ rest')) d p) in
      let f1 : Slots slots (x ∷ rest') after' = subst (λ z. Slots slots (z ∷ rest') after') d f in
      let h1 : RepliesAsRecorded (front ++ x ∷ rest) (front ++ x ∷ rest') = subst (λ z. RepliesAsRecorded (front ++ x ∷ rest) (front ++ z ∷ rest')) d h in
      let h2 : RepliesAsRecorded ((front ++ x ∷ []) ++ rest) ((front ++ x ∷ []) ++ rest') =
      subst (λ l. RepliesAsRecorded l ((front ++ x ∷ []) ++ rest')) (sym (append_assoc front (x ∷ []) rest))
      (subst (λ l. RepliesAsRecorded (front ++ x ∷ rest) l) (sym (append_assoc front (x ∷ []) rest')) h1) in
      let m : f1.0 ≡ e.0 = same_after slots x.slot x.request x.reply e.0 f1.0 e.1 f1.1 in
      let r = ih (front ++ x ∷ []) e.0 rest' after after' w1 p1 e.2 (subst (λ l. Slots l rest' after') m f1.2) h2 in
      record { rest = r.rest; same = λ i. sym d i ∷ r.same i }

  -- where there is a next exchange in both
  front_or_ends : (x : Logged) (rest : List Logged) → FrontFrom rest → (front : List Logged) (slots : List SlotState) (y : Logged) (rest' : List Logged) (after after' : List SlotState)
      → IsWhole (front ++ x ∷ rest) → IsPart (front ++ y ∷ rest') → Slots slots (x ∷ rest) after → Slots slots (y ∷ rest') after'
      → RepliesAsRecorded (front ++ x ∷ rest) (front ++ y ∷ rest')
      → (IsWaiting (run (answers_in front)).ending → ⊥) ⊎ ((slot : Option ℕ) × (request : Request) × ((run (answers_in front)).ending ≡ waits slot request))
      → IsFront (y ∷ rest') (x ∷ rest)
  front_or_ends x rest ih front slots y rest' after after' w p e f h (inl ends) = both_end front (x ∷ rest) (y ∷ rest') ends w p
  front_or_ends x rest ih front slots y rest' after after' w p e f h (inr g) =
      let d : y ≡ x = same_next front slots x y rest rest' e.0 f.0 g.0 g.1 (exact.waiting (answers_in front) g.0 g.1 g.2) (part_of_whole (front ++ x ∷ rest) w) p e.1 f.1 h in
      front_behind x rest ih front slots y d rest' after after' w p e f h

  -- a log without a rest ends there
  ends_with : (front : List Logged) → IsWhole (front ++ []) → IsWaiting (run (answers_in front)).ending → ⊥
  ends_with front w = subst (λ l. IsWaiting (run (answers_in l)).ending → ⊥) (append-nil front) w.ended

  front_step : (x : Logged) (rest : List Logged) → FrontFrom rest → (front : List Logged) (slots : List SlotState) (rest' : List Logged) (after after' : List SlotState)
      → IsWhole (front ++ x ∷ rest) → IsPart (front ++ rest') → Slots slots (x ∷ rest) after → Slots slots rest' after'
      → RepliesAsRecorded (front ++ x ∷ rest) (front ++ rest') → IsFront rest' (x ∷ rest)
  front_step x rest ih front slots [] after after' w p e f h = record { rest = x ∷ rest; same = refl }
  front_step x rest ih front slots (y ∷ rest') after after' w p e f h =
      front_or_ends x rest ih front slots y rest' after after' w p e f h (waits_or_ends (run (answers_in front)).ending)

  front_from : (rest : List Logged) → FrontFrom rest
  front_from [] = λ front slots rest' after after' w p e f h. both_end front [] rest' (ends_with front w) w p
  front_from (x ∷ rest) = λ front slots rest' after after' w p e f h. front_step x rest (front_from rest) front slots rest' after after' w p e f h

  -- a front at which the run waits for no more is the whole
  whole_front : (recorded log : List Logged) → IsWhole recorded → IsWhole log → IsFront log recorded → log ≡ recorded
  whole_front recorded log w w' r =
      let e : run (answers_in recorded) ≡ run (answers_in log) = ap (λ l. run (answers_in l)) r.same ∙ ends_there log r.rest w'.ended in
      sym w'.said ∙ ap (λ (o : Observed). o.conversation) (sym e) ∙ w.said

  -- what is printed over a front of the answers is a front of what is printed over all
  prints_behind : (log : List Logged) (x : Logged) (rest : List Logged)
      → (IsWaiting (run (answers_in log)).ending → ⊥) ⊎ ((slot : Option ℕ) × (request : Request) × ((run (answers_in log)).ending ≡ waits slot request))
      → IsFront (run (answers_in log)).output (run (answers_in (log ++ x ∷ rest))).output × IsFront (run (answers_in log)).errors (run (answers_in (log ++ x ∷ rest))).errors
  prints_behind log x rest (inl ends) =
      let e = ends_there log (x ∷ rest) ends in (
        record { rest = []; same = ap (λ (o : Observed). o.output) e ∙ sym (append-nil (run (answers_in log)).output) },
        record { rest = []; same = ap (λ (o : Observed). o.errors) e ∙ sym (append-nil (run (answers_in log)).errors) },
      )
  prints_behind log x rest (inr g) =
      let n = (exact.waiting (answers_in log) g.0 g.1 g.2).next (x.slot, x.reply) (answers_in rest) in
      let a = answers_over log x rest in (
        record { rest = n.printed.rest; same = ap (λ b. (run b).output) a ∙ n.printed.same },
        record { rest = n.complained.rest; same = ap (λ b. (run b).errors) a ∙ n.complained.same },
      )

  prints_front : (log more : List Logged)
      → IsFront (run (answers_in log)).output (run (answers_in (log ++ more))).output × IsFront (run (answers_in log)).errors (run (answers_in (log ++ more))).errors
  prints_front log [] = (
    record { rest = []; same = ap (λ l. (run (answers_in l)).output) (append-nil log) ∙ sym (append-nil (run (answers_in log)).output) },
    record { rest = []; same = ap (λ l. (run (answers_in l)).errors) (append-nil log) ∙ sym (append-nil (run (answers_in log)).errors) },
  )
  prints_front log (x ∷ rest) = prints_behind log x rest (waits_or_ends (run (answers_in log)).ending)

-- a front of a front
front_on : {A : Type 0} (xs ys zs : List A) → IsFront xs ys → IsFront ys zs → IsFront xs zs
front_on xs ys zs a b = record { rest = a.rest ++ b.rest; same = b.same ∙ ap (λ l. l ++ b.rest) a.same ∙ append_assoc xs a.rest b.rest }

-- ---- runs over slots

module _ (same : IsEquality) (meaning : Meaning) (exact : TakesExactly meaning) where
  is_whole : (slots : List SlotState) (log : List Logged) (seen : Observed) → Ran meaning slots log seen
      → IsWhole same (meaning (ready_slot slots)) (exact (ready_slot slots)) log
  is_whole slots log seen r = record {
    said = ap (λ (o : Observed). o.conversation) r.means ∙ r.said;
    ended = subst (λ (o : Observed). IsWaiting o.ending → ⊥) (sym r.means) (settles seen.ending r.ended);
  }

  pub says_the_same : SaysTheSame meaning
  says_the_same slots recorded log seen seen' a b h =
      let run : List Answer → Observed = meaning (ready_slot slots) in
      let w = is_whole slots recorded seen a in
      let w' = is_whole slots log seen' b in
      let r = front_from same run (exact (ready_slot slots)) recorded [] (taken_first (ready_slot slots) slots) log a.after b.after
      w (part_of_whole same run (exact (ready_slot slots)) log w') a.exchanged b.exchanged h in
      let d : log ≡ recorded = whole_front same run (exact (ready_slot slots)) recorded log w w' r in
      record {
        same_log = d;
        same_seen = sym b.means ∙ ap (λ l. run (answers_in l)) d ∙ a.means;
      }

  pub says_a_front : SaysAFront meaning
  says_a_front slots recorded log seen printed complained a b h =
      let run : List Answer → Observed = meaning (ready_slot slots) in
      let r = front_from same run (exact (ready_slot slots)) recorded [] (taken_first (ready_slot slots) slots) log a.after b.after
      (is_whole slots recorded seen a) b.said a.exchanged b.exchanged h in
      let p = prints_front same run (exact (ready_slot slots)) log r.rest in
      let e : run (answers_in (log ++ r.rest)) ≡ seen = ap (λ l. run (answers_in l)) (sym r.same) ∙ a.means in
      record {
        said = r;
        output = subst (λ (o : Observed). IsFront printed o.output) e (front_on printed (run (answers_in log)).output (run (answers_in (log ++ r.rest))).output b.output p.0);
        errors = subst (λ (o : Observed). IsFront complained o.errors) e (front_on complained (run (answers_in log)).errors (run (answers_in (log ++ r.rest))).errors b.errors p.1);
      }
