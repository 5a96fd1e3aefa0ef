-- What a log says of its slots.
use Rattle.std.specs.Prelude.{◌-◌, ◌==◌, ℕ, Bool, false, Option, Some, None, option_map, List, [], map, filter, drop, length, slice_get}
use Rattle.ec_link.specs.declared.logged.Logged.{Logged}
use Rattle.ec_link.specs.declared.request.Request.{Request}
use Rattle.ec_link.specs.declared.request.Request.TheVariants.{Connect, Close}
use Rattle.ec_link.specs.declared.reply.Reply.{Reply}

-- what was said over a link: each request with its reply, in order
abbrev pub Talk : Type 0
Talk = List (Request × Reply)

-- whether that slot, if there is one, is slot i
abbrev pub is_slot : ℕ → Option ℕ → Bool
is_slot i None = false
is_slot i (Some slot) = slot == i

-- the exchanges of slot i in a log, in order, without their slot
abbrev pub talk_of : ℕ → List Logged → Talk
talk_of i log = map (λ x. (x.request, x.reply)) (filter (λ x. is_slot i x.slot) log)

-- what a log grew by: the exchanges past the end of the old one
abbrev pub growth_of : List Logged → List Logged → List Logged
growth_of old new = drop (length old) new

-- the replies of a log, in order
abbrev pub replies_of : List Logged → List Reply
replies_of log = map (λ x. x.reply) log

-- the last reply of a log
abbrev pub last_reply_of : List Logged → Option Reply
last_reply_of log = option_map (λ x. x.reply) (slice_get log (length log - 1))

-- a request over an open connection: neither a Connect nor a Close
abbrev pub IsAsk : Request → Type 0
IsAsk (Connect _ _ _) = ⊥
IsAsk Close = ⊥
IsAsk _ = Unit {0}

-- a request that opens a connection
abbrev pub IsConnect : Request → Type 0
IsConnect (Connect _ _ _) = Unit {0}
IsConnect _ = ⊥

-- the name of the server that a Connect asks for, and no byte of another request
abbrev pub target_of : Request → List ℕ
target_of (Connect target _ _) = target
target_of _ = []
