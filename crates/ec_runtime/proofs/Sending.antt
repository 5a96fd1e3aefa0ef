-- What is done with a request over the open connection only adds to what was said.
use Rattle.std.proofs.Common.{ℕ}
use Rattle.ec_link.specs.declared.request.Request.{Request}
use Rattle.ec_link.specs.declared.reply.Reply.{Reply}
use Rattle.ec_call_defs.specs.Growth.{Grows}
use Rattle.ec_call_defs.specs.Connections.{asked}
use Rattle.ec_call_defs.specs.Answers.{replied}
use Rattle.ec_call_defs.specs.Running.{Outputs as Going, is_wanted, table_kept}
use Rattle.ec_runtime.specs.Statements.{sent}
use Rattle.ec_runtime.proofs.Grows.{next_grows, asked_grows, replied_grows, table_grows}

pub replies_grow : (line : ℕ) (outputs : Going) (reply : Reply) → Grows (replied line (is_wanted outputs) (table_kept line outputs) reply)
replies_grow line outputs = replied_grows line (is_wanted outputs) (table_kept line outputs) (table_grows line outputs)

pub sent_grows : (line : ℕ) (request : Request) (outputs : Going) (slot : ℕ) → Grows (sent line request outputs slot)
sent_grows line request outputs slot = next_grows (asked slot request) (λ reply t. replied line (is_wanted outputs) (table_kept line outputs) reply t) (asked_grows slot request) (replies_grow line outputs)
