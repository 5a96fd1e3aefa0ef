-- The part of a slot in a transcript, its exchanges in order, and what a link says that replays it.
use Rattle.std.specs.Prelude.{ℕ, if◌then◌else◌, List, [], ◌∷◌, ◌++◌, Option, Some, None, unwrap_or}
use Rattle.ec_base.specs.Causes.{one_more}
use Rattle.ec_link.specs.declared.request.Request.{Request}
use Rattle.ec_link.specs.declared.reply.Reply.{Reply}
use Rattle.ec_link.specs.declared.reply.Reply.TheVariants.{Broken}
use Rattle.ec_link.specs.Logged.{Talk}
use Rattle.ec_link.specs.Reply.{is_broken}
use Rattle.ec_replay.specs.Same.{is_same}

-- the reply that is recorded for a request: that of the first exchange, where its request is this one
abbrev pub recorded : Talk → Request → Option Reply
recorded [] request = None
recorded (x ∷ part) request = if is_same x.0 request then Some x.1 else None

-- the reply to a request: the recorded one, or Broken
abbrev pub reply_to : Talk → Request → Reply
reply_to part request = unwrap_or (recorded part request) Broken

-- What is left of a part behind a request: nothing, once a request is not the next one recorded.
abbrev pub left_after : Talk → Request → Talk
left_after [] request = []
left_after (x ∷ part) request = if is_same x.0 request then part else []

-- what is said where these requests are asked, one after another
abbrev pub talk_over : Talk → List Request → Talk
talk_over part [] = []
talk_over part (request ∷ requests) =
    (request, reply_to part request) ∷ talk_over (left_after part request) requests

-- a link that replays: the exchanges that are left, what was said, and how often it broke
pub record Replaying : Type 0 where
  pub left : Talk
  pub said : Talk
  pub broke : ℕ

-- a link over a part, before it is asked
abbrev pub replaying : Talk → Replaying
replaying part = record { left = part; said = []; broke = 0 }

-- The link after an answer. Each answer of Broken is counted, a recorded one too.
abbrev pub after_ask : Replaying → Request → Replaying
after_ask link request = record {
  left = left_after link.left request;
  said = link.said ++ (request, reply_to link.left request) ∷ [];
  broke = if is_broken (reply_to link.left request) then one_more link.broke else link.broke;
}
