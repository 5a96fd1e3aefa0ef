-- What links say that replay.
use Rattle.std.proofs.Common.{◌≡◌, ◌+◌, ◌∙◌, ℕ, zero, suc, Bool, true, false, cond, List, [], ◌∷◌, ◌++◌, drop, take, Option, Some, None, slice_get, refl, sym, ap, ap₂, append_assoc, add-one}
use Rattle.std.proofs.lemmas.List.{append-nil, drop-drop}
use Rattle.ec_link.specs.declared.request.Request.{Request}
use Rattle.ec_link.specs.declared.reply.Reply.{Reply}
use Rattle.ec_link.specs.declared.reply.Reply.TheVariants.{Broken}
use Rattle.ec_link.specs.Logged.{Talk}
use Rattle.ec_replay.specs.Same.{is_same}
use Rattle.ec_replay.specs.Part.{recorded, reply_to, left_after, talk_over, Replaying, after_ask}
use Rattle.ec_replay.specs.Laws.{requests_of, broken_talk, left_behind, Begins, SaysAgain, BreaksOff, TellsTalk}
use Rattle.ec_replay.proofs.Equality.{same-equal, same_own}

-- the reply that is recorded for a request, by the exchange at a place
abbrev pub next_of : Option (Request × Reply) → Request → Option Reply
next_of None request = None
next_of (Some x) request = cond (is_same x.0 request) (Some x.1) None

recorded_next : (part : Talk) (given : ℕ) (request : Request) → recorded (drop given part) request ≡ next_of (slice_get part given) request
recorded_next [] zero request = refl
recorded_next [] (suc given) request = refl
recorded_next (x ∷ part) zero request = refl
recorded_next (x ∷ part) (suc given) request = recorded_next part given request

-- a reply that is recorded for what the exchange at that place asks
recorded_at : (part : Talk) (given : ℕ) (left : Talk) (request : Request) (next : Option (Request × Reply)) (reply : Option Reply)
    → drop given part ≡ left → next ≡ slice_get part given → reply ≡ next_of next request → reply ≡ recorded left request
recorded_at part given left request next reply e at is =
    is ∙ ap (λ n. next_of n request) at ∙ sym (recorded_next part given request) ∙ ap (λ l. recorded l request) e

-- the next exchange is of the request
pub recorded_same : (part : Talk) (given : ℕ) (left : Talk) (request : Request) (x : Request × Reply) (reply : Reply)
    → drop given part ≡ left → Some x ≡ slice_get part given → is_same x.0 request ≡ true → reply ≡ x.1 → Some reply ≡ recorded left request
recorded_same part given left request x reply e at same is = recorded_at part given left request (Some x) (Some reply) e at (rw same (ap Some is))

-- it is of another request
pub recorded_other : (part : Talk) (given : ℕ) (left : Talk) (request : Request) (x : Request × Reply)
    → drop given part ≡ left → Some x ≡ slice_get part given → is_same x.0 request ≡ false → None ≡ recorded left request
recorded_other part given left request x e at other = recorded_at part given left request (Some x) None e at (rw other refl)

-- there is none
pub recorded_none : (part : Talk) (given : ℕ) (left : Talk) (request : Request)
    → drop given part ≡ left → None ≡ slice_get part given → None ≡ recorded left request
recorded_none part given left request e at = recorded_at part given left request None None e at refl

-- what a recorded reply says of the part
pub record Answered (part : Talk) (request : Request) (reply : Reply) : Type 0 where
  pub reply_is : reply ≡ reply_to part request
  pub part_is : part ≡ (request, reply) ∷ left_after part request

pub answered : (part : Talk) (request : Request) (reply : Reply) → Some reply ≡ recorded part request → Answered part request reply
answered [] request reply e = cc
answered (x ∷ part) request reply e = go (is_same x.0 request) refl
  where
    go : (same : Bool) → is_same x.0 request ≡ same → Answered (x ∷ part) request reply
    go true h =
        let f : Some reply ≡ Some x.1 = rw h at e in
        let told : reply ≡ x.1 = cc in
        record {
          reply_is = rw h told;
          part_is = rw h (ap₂ (λ (a : Request) (b : Reply). (a, b) ∷ part) (same-equal x.0 request h) (sym told));
        }
    go false h =
        let f : Some reply ≡ None = rw h at e in
        cc

-- ---- the laws

-- what is left of a part behind its first request
left_own : (x : Request × Reply) (part : Talk) → left_after (x ∷ part) x.0 ≡ part
left_own x part = rw (same_own x.0) refl

pub says_again : SaysAgain
says_again [] behind = (refl, refl)
says_again (x ∷ front) behind =
    let more = says_again front behind in (
      rw (same_own x.0) (ap (λ t. x ∷ t) more.0),
      ap (λ p. left_behind p (requests_of front)) (left_own x (front ++ behind)) ∙ more.1,
    )

-- over nothing each request is answered by Broken
over_nothing : (requests : List Request) → talk_over [] requests ≡ broken_talk requests
over_nothing [] = refl
over_nothing (request ∷ requests) = ap (λ t. (request, Broken) ∷ t) (over_nothing requests)

-- so is the first request that is not the next one
breaks_here : (behind : Talk) (request : Request) (more : List Request) → ¬ Begins behind request → talk_over behind (request ∷ more) ≡ broken_talk (request ∷ more)
breaks_here [] request more h = over_nothing (request ∷ more)
breaks_here (x ∷ behind) request more h = go (is_same x.0 request) refl
  where
    go : (same : Bool) → is_same x.0 request ≡ same → talk_over (x ∷ behind) (request ∷ more) ≡ broken_talk (request ∷ more)
    go true e = absurd (h (same-equal x.0 request e))
    go false e = rw e (over_nothing (request ∷ more))

pub breaks_off : BreaksOff
breaks_off [] behind request more h = breaks_here behind request more h
breaks_off (x ∷ front) behind request more h =
    rw (same_own x.0) (ap (λ t. x ∷ t) (breaks_off front behind request more h))

pub tells_talk : TellsTalk
tells_talk link [] = sym (append-nil link.said)
tells_talk link (request ∷ requests) =
    tells_talk (after_ask link request) requests
    ∙ append_assoc link.said ((request, reply_to link.left request) ∷ []) (talk_over (left_after link.left request) requests)

-- ---- the steps of a link

-- the front of a list with one element more
pub take_next : {A : Type 0} (xs : List A) (given : ℕ) → take (suc given) xs ≡ take given xs ++ take 1 (drop given xs)
take_next [] zero = refl
take_next [] (suc given) = refl
take_next (x ∷ xs) zero = refl
take_next (x ∷ xs) (suc given) = ap (λ t. x ∷ t) (take_next xs given)

-- a link over exchanges of which so many were said
abbrev pub link_at : Talk → Talk → ℕ → Replaying
link_at left said broke = record { left = left; said = said; broke = broke }

-- the next exchange is said
pub passed : (exchanges : Talk) (given broke : ℕ) (link : Replaying) → link_at (drop given exchanges) (take given exchanges) broke ≡ link
    → link_at (drop (given + 1) exchanges) (take (given + 1) exchanges) broke ≡ link_at (drop 1 link.left) (link.said ++ take 1 link.left) link.broke
passed exchanges given broke link e =
    let said : take (given + 1) exchanges ≡ take given exchanges ++ take 1 (drop given exchanges) = rw add-one (take_next exchanges given) in
    ap₂ (λ l s. link_at l s broke) (sym (drop-drop 1 given exchanges)) said
    ∙ ap (λ (l : Replaying). link_at (drop 1 l.left) (l.said ++ take 1 l.left) l.broke) e

-- the next exchange of a link that has a recorded reply
pub answered_link : (link : Replaying) (request : Request) (reply : Reply) → Some reply ≡ recorded link.left request
    → link ≡ link_at ((request, reply) ∷ left_after link.left request) link.said link.broke
answered_link link request reply e = ap (λ l. link_at l link.said link.broke) (answered link.left request reply e).part_is
