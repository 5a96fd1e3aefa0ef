-- Laws of links that replay.
use Rattle.std.specs.Prelude.{◌≡◌, ◌↔◌, true, List, [], ◌∷◌, ◌++◌, map}
use Rattle.ec_link.specs.declared.request.Request.{Request}
use Rattle.ec_link.specs.declared.reply.Reply.TheVariants.{Broken}
use Rattle.ec_link.specs.Logged.{Talk}
use Rattle.ec_replay.specs.Same.{is_same}
use Rattle.ec_replay.specs.Part.{Replaying, after_ask, left_after, talk_over}

-- two requests are the same exactly where they are equal
abbrev pub IsEquality : Type 0
IsEquality = (one other : Request) → (is_same one other ≡ true) ↔ (one ≡ other)

-- the requests of a talk, in order
abbrev pub requests_of : Talk → List Request
requests_of talk = map (λ x. x.0) talk

-- requests that are all answered by Broken
abbrev pub broken_talk : List Request → Talk
broken_talk requests = map (λ request. (request, Broken)) requests

-- what is left of a part behind requests
abbrev pub left_behind : Talk → List Request → Talk
left_behind part [] = part
left_behind part (request ∷ requests) = left_behind (left_after part request) requests

-- the first exchange of a part has that request
abbrev pub Begins : Talk → Request → Type 0
Begins [] request = ⊥
Begins (x ∷ part) request = x.0 ≡ request

-- The recorded requests, asked in order, get the recorded replies, and what stands behind them is left.
abbrev pub SaysAgain : Type 0
SaysAgain = (front behind : Talk) → (talk_over (front ++ behind) (requests_of front) ≡ front)
    × (left_behind (front ++ behind) (requests_of front) ≡ behind)

-- From the first request on that is not the next one recorded, each is answered by Broken.
abbrev pub BreaksOff : Type 0
BreaksOff = (front behind : Talk) (request : Request) (more : List Request) → ¬ Begins behind request
    → talk_over (front ++ behind) (requests_of front ++ request ∷ more)
    ≡ front ++ broken_talk (request ∷ more)

-- the link after these requests, asked one after another
abbrev pub asked : Replaying → List Request → Replaying
asked link [] = link
asked link (request ∷ requests) = asked (after_ask link request) requests

-- A link tells what is said over what was left of its part.
abbrev pub TellsTalk : Type 0
TellsTalk = (link : Replaying) (requests : List Request)
    → (asked link requests).said ≡ link.said ++ talk_over link.left requests
