use Rattle.std.proofs.Common.{◌≡◌, length}
use Rattle.ec_cursor.specs.States.{seen, counted_by}
use Rattle.ec_cursor.proofs.Counting.{counted_token, passed_token}
use Rattle.ec_cursor.proofs.SeenTokens.{placed_length}
use Rattle.ec_cursor.proofs.cursor.Cursor.expect_counted.Goals as goal

pub returns-in-Some : goal.returns-in-Some
unfolding seen
returns-in-Some c =
    let read = rw (← c.self-2.view_is) at c.in_ok-expect.ensures in
    (_, counted_token (counted_by c.args.counted) c.args.kind _ _ _ _ _ read c.in-Some.ensures)

pub returns-in-None : goal.returns-in-None
unfolding seen
returns-in-None c =
    let read = rw (← c.self-2.view_is) at c.in_ok-expect.ensures in
    let left : length (seen c.args.self.now).tokens ≡ length c.self.inside.rest.now = rw (← c.self.view_is) (placed_length _ _) in
    λ _. rw (← left) (passed_token (counted_by c.args.counted) c.args.kind _ _ _ _ read c.in-None.ensures)
