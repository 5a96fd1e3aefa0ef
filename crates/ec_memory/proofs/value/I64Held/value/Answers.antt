-- Eight bytes as a signed number.
use Rattle.std.proofs.Common.{ap, rules}
use mir.Val.{SFits}
use mir.Syntax.{w64}
use Rattle.ec_memory_defs.specs.Memory.{number}
use Rattle.ec_memory.proofs.Numbers.{signed_8}
use Rattle.ec_memory.proofs.value.I64Held.value.Goals as goal

pub returns : goal.returns
returns c = λ bytes all small is. let fits : SFits w64 c.args.self.0 = search rules in ap number (signed_8 bytes c.args.self.0 fits all small (ap (λ it. it.0) is))
