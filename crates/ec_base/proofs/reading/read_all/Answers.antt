use Rattle.std.proofs.Common.{rules, ◌≤◌, ◌+◌, ℕ, List, ◌++◌, length, take, arith, length-append}
use Rattle.std.proofs.lemmas.List.{length-take-le}
use Rattle.std.proofs.lemmas.Result.{err_from_is_err_and}
use Rattle.ec_base.specs.Reading.{block}
use Rattle.ec_base.proofs.Transfers.{Reads-then}
use Rattle.ec_base.proofs.reading.read_all.Goals as goal

-- one read behind at most `limit` bytes
one_read : (bytes buf : List ℕ) (limit count : ℕ) → length bytes ≤ limit → length buf ≤ block → count ≤ length buf → length (bytes ++ take count buf) ≤ limit + block
one_read bytes buf limit count h k few = omega (arith, length-append bytes (take count buf), length-take-le count buf few)

pub returns-in_err-extend_from_slice-clause-err : goal.returns-in_err-extend_from_slice-clause-err
returns-in_err-extend_from_slice-clause-err g c =
    let p = err_from_is_err_and c.from_residual-in_err-extend_from_slice.result c.from_residual-in_err-extend_from_slice.ensures.1 in
    let read = c.in_ok-count.ensures in
    let reads = Reads-then c.loop-block.invariant.0 (record { taken = read.bytes.0; steady = read.cause.steady }) in
    rw (p.1, p.2)
    record {
      bytes = _;
      taken = reads.taken;
      later = search rules;
      reason = (reads.steady, one_read _ _ c.args.limit _ (search rules) (search rules) read.bound.0);
    }
