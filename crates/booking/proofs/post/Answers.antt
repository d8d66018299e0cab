-- `booking::post` meets its contract: where the ticket is entered no test applied, and where one applies nothing is written.
-- Assumes nothing.
use native.Mathlib.Omega.{arith}
use Rattle.std.proofs.lemmas.Result.{err_from_is_err_and}
use Rattle.booking.proofs.Testing.{post_known, posted, not_posted}
use Rattle.booking.proofs.post.Goals as goal

pub get_wide-x-requires : goal.get_wide-x-requires
get_wide-x-requires c = omega (arith, (post_known _ _ _ _ _ _ _ _ _ c.test_post.ensures _ c.in_ok-test_post.was).0)

pub enter-requires : goal.enter-requires
enter-requires c =
    (post_known _ _ _ _ _ _ _ _ _ c.test_post.ensures _ c.in_ok-test_post.was).1

pub keep-requires : goal.keep-requires
keep-requires c =
    (post_known _ _ _ _ _ _ _ _ _ c.test_post.ensures _ c.in_ok-test_post.was).2

pub returns : goal.returns
returns c =
    posted _ _ _ _ _ _ _ _ _ c.test_post.ensures _ _ _ _ c.in_ok-test_post.was c.get_wide-x.ensures
    c.enter.ensures c.keep.ensures

pub returns-in_err-test_post : goal.returns-in_err-test_post
returns-in_err-test_post c =
    let p = err_from_is_err_and c.from_residual.result c.from_residual.ensures.1 in
    rw (p.1, p.2) (not_posted _ _ _ _ _ _ _ _ _ c.test_post.ensures _ c.in_err-test_post.was)
