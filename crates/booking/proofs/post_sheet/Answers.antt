-- `booking::post_sheet` meets its contract: where the tickets are entered no test applied, and where one applies nothing is written.
-- Assumes nothing.
use Rattle.std.proofs.lemmas.Result.{err_from_is_err_and}
use Rattle.booking.proofs.SheetTesting.{sheet_enterable, sheet_keepable, sheet_posted, sheet_not_posted}
use Rattle.booking.proofs.post_sheet.Goals as goal

pub enter_all-requires : goal.enter_all-requires
enter_all-requires c =
    sheet_enterable _ _ _ _ _ c.test_sheet_post.ensures _ c.in_ok-test_sheet_post.was

pub keep_all-requires : goal.keep_all-requires
keep_all-requires c =
    sheet_keepable _ _ _ _ _ c.test_sheet_post.ensures _ c.in_ok-test_sheet_post.was

pub returns : goal.returns
returns c =
    sheet_posted _ _ _ _ _ c.test_sheet_post.ensures _ _ _ c.in_ok-test_sheet_post.was c.enter_all.ensures
    c.keep_all.ensures

pub returns-in_err-test_sheet_post : goal.returns-in_err-test_sheet_post
returns-in_err-test_sheet_post c =
    let p = err_from_is_err_and c.from_residual.result c.from_residual.ensures.1 in
    rw (p.1, p.2) (sheet_not_posted _ _ _ _ _ c.test_sheet_post.ensures _ c.in_err-test_sheet_post.was)
