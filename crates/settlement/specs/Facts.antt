-- What else documents 01 and 02 say of every run: the smallest number that applies is given, a sheet is posted as its tickets one by one, a
-- sheet or list with more tickets than the run has is refused by 3 or 4, and the halves of a ticket make the whole.
use Rattle.std.specs.Prelude.{◌⊎◌, List, ℕ, ◌*◌, ◌/◌, ◌<◌, length}
use Rattle.series.specs.Series.{Formula, row_count}
use Rattle.run.specs.Refusal.{Test, Applies, Smallest}
use Rattle.run.specs.Run.{limits_of}
use Rattle.run.specs.Call.{refused_by}
use Rattle.sheet.specs.Sheet.{sheet_blocks, sheet_count}
use Rattle.sheet.specs.Calls.{write_call, read_call}
use Rattle.posting.specs.Calls.{sheet_post_call}
use Rattle.posting.specs.Posts.{OneByOne}
use Rattle.booking.specs.Calls.{book_sheet_post_call}
use Rattle.look.specs.Look.{look_call}
use Rattle.calls.specs.Request.{Request, call_of}
use Rattle.settlement.specs.Halves.{HalvesMakeWhole}

-- ---- e above the number of the run's tickets

-- the condition of 3 or that of 4 holds
abbrev pub ThreeOrFour : List Test → Type 0
ThreeOrFour ts = Applies ts 3 ⊎ Applies ts 4

pub record TooMany (F : Formula) : Type 0 where
  pub written : (p C : ℕ) (list out : List ℕ) → row_count F * C < length list / 2 → ThreeOrFour (write_call F p C list out).tests
  pub read : (s list sums : List ℕ) → row_count F * sheet_blocks s < sheet_count s → ThreeOrFour (read_call (limits_of F) s list sums).tests
  pub posted : (ledger s : List ℕ) → row_count F * sheet_blocks s < sheet_count s
      → ThreeOrFour (sheet_post_call (limits_of F) ledger s).tests
  pub posted_by_book : (ledger book s : List ℕ) → row_count F * sheet_blocks s < sheet_count s
      → ThreeOrFour (book_sheet_post_call (limits_of F) ledger book s).tests
  pub looked_at : (ledger s total : List ℕ) → row_count F * sheet_blocks s < sheet_count s
      → ThreeOrFour (look_call (limits_of F) ledger s total).tests

pub record Facts (F : Formula) : Type 0 where
  -- every call refuses by the smallest number that applies, and by none only where none does
  pub smallest : (q : Request) → Smallest (call_of F q).tests (refused_by (call_of F q))
  pub one_by_one : OneByOne (limits_of F)
  pub too_many : TooMany F
  pub halves : HalvesMakeWhole F
