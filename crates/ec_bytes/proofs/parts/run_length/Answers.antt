-- The run ends before a zero byte, where all before it are set.
use Rattle.std.proofs.Common.{arith}
use Rattle.ec_bytes.proofs.Kept.{run_found}
use Rattle.ec_bytes.proofs.parts.run_length.Goals as goal

pub returns-then-all_set-clause-run : goal.returns-then-all_set-clause-run
returns-then-all_set-clause-run c =
    run_found c.args.room c.args.memory.now c.args.at c.args.n c.requires (omega (arith, c.requires.0, c.requires.1)) c.before_zero-count.result c.before_zero-count.ensures.within
    c.if-all_set.ensures c.before_zero-count.ensures.none c.before_zero-count.ensures.end
