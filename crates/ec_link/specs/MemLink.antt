-- What a link in memory shows, and what an ask makes of it.
use Rattle.std.specs.Prelude.{◌==◌, ℕ, Bool, if◌then◌else◌, List, [], ◌∷◌, ◌++◌, drop, slice_get, unwrap_or}
use Rattle.std.specs.List.{list_any}
use Rattle.ec_base.specs.Causes.{one_more}
use Rattle.ec_link.specs.declared.request.Request.{Request}
use Rattle.ec_link.specs.declared.reply.Reply.{Reply}
use Rattle.ec_link.specs.declared.reply.Reply.TheVariants.{Broken}
use Rattle.ec_link.specs.Logged.{Talk}
use Rattle.ec_link.specs.Reply.{is_broken}

-- the replies that are left, the numbers of the asks that break and of those that are refused, how many asks there
-- were, what was said, and how often the link broke
pub record Script : Type 0 where
  pub replies : List Reply
  pub breaks : List ℕ
  pub refusals : List ℕ
  pub asks : ℕ
  pub said : Talk
  pub broke : ℕ

-- whether the next ask is one of those that break
abbrev pub breaks_next : Script → Bool
breaks_next link = list_any (λ n. n == link.asks) link.breaks

-- whether the next ask is one of those that are refused, as if there were no memory
abbrev pub refuses_next : Script → Bool
refuses_next link = list_any (λ n. n == link.asks) link.refusals

-- the reply to the next ask, where it is not refused: Broken where that ask breaks, and else the next reply, or Broken where none is left
abbrev pub next_reply : Script → Reply
next_reply link = if breaks_next link then Broken else unwrap_or (slice_get link.replies 0) Broken

-- The link after an ask that found no memory, or was refused as if there were none: it is counted, and nothing else.
abbrev pub after_refusal : Script → Script
after_refusal link = record link { asks = one_more link.asks }

-- The link after an answer. An ask that breaks takes no reply, and each answer of Broken is counted.
abbrev pub after_ask : Script → Request → Script
after_ask link request = record {
  replies = if breaks_next link then link.replies else drop 1 link.replies;
  breaks = link.breaks;
  refusals = link.refusals;
  asks = one_more link.asks;
  said = link.said ++ (request, next_reply link) ∷ [];
  broke = if is_broken (next_reply link) then one_more link.broke else link.broke;
}
