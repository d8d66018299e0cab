-- Runs, their blocks and their tickets. Document 01, "A run and its tickets".
-- A run is a position p and a block count C. A ticket is p, C, a row and a block. (Both are document 01's own terms.)
use Rattle.std.specs.Prelude.{Bool, ◌&&◌, ℕ, ◌+◌, ◌*◌, ◌-◌, ◌/◌, leb, ltb}
use Rattle.series.specs.Series.{Formula, row_count, row_at, term_count, range_sum}

-- A ticket of a run, with the sum that is offered for it.
pub record Entry : Type 0 where
  pub row : ℕ
  pub block : ℕ
  pub sum : ℕ

-- What a formula sets for its runs beside the terms: how many rows there are, and the last position.
pub record Limits : Type 0 where
  pub rows : ℕ
  pub last : ℕ

abbrev pub limits : ℕ → ℕ → Limits
limits rows last = record { rows = rows; last = last }

abbrev pub limits_of : Formula → Limits
limits_of F = limits (row_count F) F.last

-- p and C are those of a run
unfoldable pub in_range : Limits → ℕ → ℕ → Bool
in_range lim p C = leb 1 p && leb p lim.last && (leb 1 C && leb C 256)

-- the row and the block are those of a ticket, where there are C blocks
unfoldable pub is_ticket : Limits → ℕ → ℕ → ℕ → Bool
is_ticket lim C row block = ltb row lim.rows && ltb block C

-- of K terms, block i holds those from `bound K C i` up to, not including, `bound K C (i + 1)`
unfoldable pub bound : ℕ → ℕ → ℕ → ℕ
bound K C i = i * K / C

-- the sum of the ticket p, C, row, block
unfoldable pub ticket_sum : Formula → ℕ → ℕ → ℕ → ℕ → ℕ
ticket_sum F p C row block =
    let K = term_count F p in
    range_sum F p (row_at F row) (bound K C block) (bound K C (block + 1) - bound K C block)
