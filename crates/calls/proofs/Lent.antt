-- What each call says that its slices were is what the caller lends.
-- Assumes nothing.
use mathlib.Core.Path.{◌≡◌, refl}
use Rattle.series.specs.Series.{Formula}
use Rattle.run.specs.Call.{each_was}
use Rattle.ticket.specs.Work.{work_call, quote_call}
use Rattle.ledger.specs.Calls.{open_call, post_call}
use Rattle.sheet.specs.Calls.{write_call, read_call}
use Rattle.posting.specs.Calls.{sheet_post_call}
use Rattle.booking.specs.Calls.{book_post_call, book_sheet_post_call, withdraw_call}
use Rattle.standing.specs.Standing.{standing_call}
use Rattle.look.specs.Look.{look_call}
use Rattle.closing.specs.Closing.{close_by}
use Rattle.overlap.specs.Calls.{overlap_call, overlap_part_call}
use Rattle.calls.specs.Request.{Request, Work, Quote, Open, Post, WriteSheet, ReadSheet, PostSheet, BookPost, BookPostSheet, Withdraw, StandingSheet, Look, Close, Overlap, OverlapPart, call_of, lent_to_write}

pub were_lent : (F : Formula) (q : Request) → each_was (call_of F q).slices ≡ lent_to_write q
unfolding work_call quote_call open_call post_call write_call read_call sheet_post_call book_post_call book_sheet_post_call withdraw_call standing_call look_call close_by overlap_call overlap_part_call
were_lent F (Work part p C row block sum squarings) = refl
were_lent F (Quote part p C row block squarings) = refl
were_lent F (Open p C ledger) = refl
were_lent F (Post ledger p C row block sum) = refl
were_lent F (WriteSheet p C list sheet) = refl
were_lent F (ReadSheet sheet list sums) = refl
were_lent F (PostSheet ledger sheet) = refl
were_lent F (BookPost ledger book p C row block sum) = refl
were_lent F (BookPostSheet ledger book sheet) = refl
were_lent F (Withdraw ledger book p C row block) = refl
were_lent F (StandingSheet ledger book sheet) = refl
were_lent F (Look ledger sheet total) = refl
were_lent F (Close ledger digits) = refl
were_lent F (Overlap first p second q) = refl
were_lent F (OverlapPart first p second q part) = refl
