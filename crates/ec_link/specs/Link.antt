-- What an ask does to the talk that a link tells.
use Rattle.std.specs.Prelude.{Option, option_map, [], ◌∷◌, ◌++◌}
use Rattle.ec_link.specs.declared.request.Request.{Request}
use Rattle.ec_link.specs.declared.reply.Reply.{Reply}
use Rattle.ec_link.specs.Logged.{Talk}

-- the talk with some more at its end, where it is told
abbrev pub told_more : Option Talk → Talk → Option Talk
told_more talk more = option_map (λ told. told ++ more) talk

-- the talk after one more exchange, where it is told
abbrev pub talk_after : Option Talk → Request → Reply → Option Talk
talk_after talk request reply = told_more talk ((request, reply) ∷ [])
