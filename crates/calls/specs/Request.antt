-- What a caller can ask, one constructor for each call with its numbers and slices, of any value and any length; and the call that this is.
-- The contracts of the engine's functions and the demands both go by `call_of`. To add a call: a constructor, and a line in each of the three below.
use Rattle.std.specs.Prelude.{◌≡◌, List, [], ◌∷◌, ℕ, ℤ}
use Rattle.series.specs.Series.{Formula}
use Rattle.run.specs.Run.{limits_of}
use Rattle.run.specs.Call.{Call, Does}
use Rattle.ticket.specs.Work.{work_call, quote_call}
use Rattle.ticket.specs.declared.Part.{Part}
use Rattle.ledger.specs.Calls.{open_call, post_call}
use Rattle.sheet.specs.Calls.{write_call, read_call}
use Rattle.posting.specs.Calls.{sheet_post_call}
use Rattle.booking.specs.Calls.{book_post_call, book_sheet_post_call, withdraw_call}
use Rattle.standing.specs.Standing.{standing_call}
use Rattle.look.specs.Look.{look_call}
use Rattle.overlap.specs.Strings.{laid}
use Rattle.overlap.specs.Calls.{overlap_call, overlap_part_call}
use Rattle.closing.specs.Closing.{close_call}

pub data Request : Type 0 where
  Work : (part : Part) (p C row block : ℕ) (sum squarings : List ℕ) → Request
  Quote : (part : Part) (p C row block : ℕ) (squarings : List ℕ) → Request
  Open : (p C : ℕ) (ledger : List ℕ) → Request
  Post : (ledger : List ℕ) (p C row block : ℕ) (sum : List ℕ) → Request
  WriteSheet : (p C : ℕ) (list sheet : List ℕ) → Request
  ReadSheet : (sheet list sums : List ℕ) → Request
  PostSheet : (ledger sheet : List ℕ) → Request
  -- for check runs the engine has no book, no standing sheet and no look
  BookPost : (ledger book : List ℕ) (p C row block : ℕ) (sum : List ℕ) → Request
  BookPostSheet : (ledger book sheet : List ℕ) → Request
  Withdraw : (ledger book : List ℕ) (p C row block : ℕ) → Request
  StandingSheet : (ledger book sheet : List ℕ) → Request
  Look : (ledger sheet total : List ℕ) → Request
  Close : (ledger digits : List ℕ) → Request
  -- two strings of digits, each with its position; these are of no formula
  Overlap : (first : List ℕ) (p : ℕ) (second : List ℕ) (q : ℕ) → Request
  OverlapPart : (first : List ℕ) (p : ℕ) (second : List ℕ) (q : ℕ) (part : List ℕ) → Request

abbrev pub call_of : Formula → Request → Call
call_of F (Work part p C row block sum squarings) = work_call F part p C row block sum squarings
call_of F (Quote part p C row block squarings) = quote_call F part p C row block squarings
call_of F (Open p C ledger) = open_call (limits_of F) p C ledger
call_of F (Post ledger p C row block sum) = post_call (limits_of F) ledger p C row block sum
call_of F (WriteSheet p C list sheet) = write_call F p C list sheet
call_of F (ReadSheet sheet list sums) = read_call (limits_of F) sheet list sums
call_of F (PostSheet ledger sheet) = sheet_post_call (limits_of F) ledger sheet
call_of F (BookPost ledger book p C row block sum) = book_post_call (limits_of F) ledger book p C row block sum
call_of F (BookPostSheet ledger book sheet) = book_sheet_post_call (limits_of F) ledger book sheet
call_of F (Withdraw ledger book p C row block) = withdraw_call (limits_of F) ledger book p C row block
call_of F (StandingSheet ledger book sheet) = standing_call (limits_of F) ledger book sheet
call_of F (Look ledger sheet total) = look_call (limits_of F) ledger sheet total
call_of F (Close ledger digits) = close_call F ledger digits
call_of F (Overlap first p second q) = overlap_call (laid first p) (laid second q)
call_of F (OverlapPart first p second q part) = overlap_part_call (laid first p) (laid second q) part

-- the slices that a caller lends to be written, in the order of the call's arguments
abbrev pub lent_to_write : Request → List (List ℕ)
lent_to_write (Work part p C row block sum squarings) = sum ∷ squarings ∷ []
lent_to_write (Quote part p C row block squarings) = squarings ∷ []
lent_to_write (Open p C ledger) = ledger ∷ []
lent_to_write (Post ledger p C row block sum) = ledger ∷ []
lent_to_write (WriteSheet p C list sheet) = sheet ∷ []
lent_to_write (ReadSheet sheet list sums) = list ∷ sums ∷ []
lent_to_write (PostSheet ledger sheet) = ledger ∷ []
lent_to_write (BookPost ledger book p C row block sum) = ledger ∷ book ∷ []
lent_to_write (BookPostSheet ledger book sheet) = ledger ∷ book ∷ []
lent_to_write (Withdraw ledger book p C row block) = ledger ∷ book ∷ []
lent_to_write (StandingSheet ledger book sheet) = sheet ∷ []
lent_to_write (Look ledger sheet total) = total ∷ []
lent_to_write (Close ledger digits) = digits ∷ []
lent_to_write (Overlap first p second q) = []
lent_to_write (OverlapPart first p second q part) = part ∷ []

-- those that it lends to be read
abbrev pub lent_to_read : Request → List (List ℕ)
lent_to_read (Work part p C row block sum squarings) = []
lent_to_read (Quote part p C row block squarings) = []
lent_to_read (Open p C ledger) = []
lent_to_read (Post ledger p C row block sum) = sum ∷ []
lent_to_read (WriteSheet p C list sheet) = list ∷ []
lent_to_read (ReadSheet sheet list sums) = sheet ∷ []
lent_to_read (PostSheet ledger sheet) = sheet ∷ []
lent_to_read (BookPost ledger book p C row block sum) = sum ∷ []
lent_to_read (BookPostSheet ledger book sheet) = sheet ∷ []
lent_to_read (Withdraw ledger book p C row block) = []
lent_to_read (StandingSheet ledger book sheet) = ledger ∷ book ∷ []
lent_to_read (Look ledger sheet total) = ledger ∷ sheet ∷ []
lent_to_read (Close ledger digits) = ledger ∷ []
lent_to_read (Overlap first p second q) = first ∷ second ∷ []
lent_to_read (OverlapPart first p second q part) = first ∷ second ∷ []

-- What a function did serves the request: it answered r and left the slices lent to be written as the request's call does, and those lent to be
-- read as they were.
abbrev pub Serves : Formula → Request → ℤ → List (List ℕ) → List (List ℕ) → Type 0
Serves F q r written read = Does (call_of F q) r written × (read ≡ lent_to_read q)
