-- What a reply makes of a statement.
use Rattle.std.specs.Prelude.{ℕ, zero, suc, ℤ, negsuc, Bool, true, false, codes, Option, Some, None}
use Rattle.ec_link.specs.declared.reply.Reply.{Reply}
use Rattle.ec_link.specs.declared.reply.Reply.TheVariants.{Connected, NoTarget, Rows, Done, Refused, Broken}
use Rattle.ec_link.specs.Table.{Sheet}
use Rattle.ec_transfer_defs.specs.declared.finding.Finding.TheVariants as found
use Rattle.ec_meaning_defs.specs.evaluation.State.{State}
use Rattle.ec_call_defs.specs.Outcomes.{Text, Outcome, gives, with_memory, counted_area, heard, refused, raised}
use Rattle.ec_call_defs.specs.Connections.{same_name}

-- the code of a server's refusal: -403 for a key that is there already, -404 for too many rows of a subquery, else -400
abbrev pub server_code : Text → ℤ
server_code state = elim (same_name state (codes "23505")) [
  | true ↦ negsuc 402
  | false ↦ elim (same_name state (codes "21000")) [ true ↦ negsuc 403 | false ↦ negsuc 399 ]
]

-- a statement that has no rows and no count: it was carried out, with a notice or without, or the call ends
abbrev pub taken : ℕ → Reply → State → Outcome (Unit {0})
taken line (Rows table tx notice) s = gives tt (heard notice s)
taken line (Done count tx notice) s = gives tt (heard notice s)
taken line (Refused state message tx) s = refused line (server_code state.0) state.0 message s
taken line Connected s = raised line found.ReplyOutOfPlace s
taken line NoTarget s = raised line found.ReplyOutOfPlace s
taken line Broken s = raised line found.ConnectionBroken s

abbrev pub count_of : Option ℕ → ℕ
count_of None = 0
count_of (Some n) = n

-- a statement without rows is done, with its count, where outputs are wanted or not
abbrev pub done : ℕ → Bool → Option ℕ → State → Outcome (Unit {0})
done line wanted (Some zero) s = raised line found.NoData s
done line true (Some (suc n)) s = raised line found.TooManyTargets s
done line true None s = raised line found.TooManyTargets s
done line false (Some (suc n)) s = gives tt s
done line false None s = gives tt s

-- a count is told, and the statement is done
abbrev pub count_told : ℕ → Bool → Option ℕ → State → Outcome (Unit {0})
count_told line wanted count s =
    done line wanted count (with_memory (counted_area (count_of count) s.memory) s)

-- a reply to a statement, where outputs are wanted or not, and what is done with rows
abbrev pub replied : ℕ → Bool → (Sheet → State → Outcome (Unit {0})) →
    Reply → State → Outcome (Unit {0})
replied line wanted store (Rows table tx notice) s = store table (heard notice s)
replied line wanted store (Done count tx notice) s = count_told line wanted count (heard notice s)
replied line wanted store (Refused state message tx) s =
    refused line (server_code state.0) state.0 message s
replied line wanted store Connected s = raised line found.ReplyOutOfPlace s
replied line wanted store NoTarget s = raised line found.ReplyOutOfPlace s
replied line wanted store Broken s = raised line found.ConnectionBroken s
