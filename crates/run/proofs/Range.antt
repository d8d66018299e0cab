-- What it means for p and C to be in range, and for a row and a block to be those of a ticket.
-- Assumes nothing.
use mathlib.Core.Path.{◌≡◌}
use mathlib.Core.Bool.{true, ◌&&◌}
use Prim.Native.Nat.{ℕ, ◌<◌, ◌≤◌}
use native.Mathlib.Omega.{arith}
use borrow.Author.Tests.{leb-true, ltb-true, lt-ltb}
use lib.Dec.{leb, ltb}
use Rattle.algebra.proofs.Booleans.{and_left, and_right, and_both}
use Rattle.series.specs.Series.{Formula}
use Rattle.series.specs.Fitting.{Position}
use Rattle.run.specs.Run.{Limits, in_range, is_ticket, limits_of}

pub record Range (lim : Limits) (p C : ℕ) : Type 0 where
  pub p_low : 1 ≤ p
  pub p_high : p ≤ lim.last
  pub c_low : 1 ≤ C
  pub c_high : C ≤ 256

pub range_of : (lim : Limits) (p C : ℕ) → in_range lim p C ≡ true → Range lim p C
unfolding in_range
range_of lim p C e =
    let l = and_left (leb 1 p && leb p lim.last) (leb 1 C && leb C 256) e in
    let r = and_right (leb 1 p && leb p lim.last) (leb 1 C && leb C 256) e in
    record {
      p_low = leb-true 1 p (and_left (leb 1 p) (leb p lim.last) l);
      p_high = leb-true p lim.last (and_right (leb 1 p) (leb p lim.last) l);
      c_low = leb-true 1 C (and_left (leb 1 C) (leb C 256) r);
      c_high = leb-true C 256 (and_right (leb 1 C) (leb C 256) r);
    }

pub ticket_row : (lim : Limits) (C row block : ℕ) → is_ticket lim C row block ≡ true → row < lim.rows
unfolding is_ticket
ticket_row lim C row block e = ltb-true row lim.rows (and_left (ltb row lim.rows) (ltb block C) e)

pub ticket_block : (lim : Limits) (C row block : ℕ) → is_ticket lim C row block ≡ true → block < C
unfolding is_ticket
ticket_block lim C row block e = ltb-true block C (and_right (ltb row lim.rows) (ltb block C) e)

-- a run has at most 256 blocks, as many as a ledger has marks in a row
pub ticket_low : (lim : Limits) (p C row block : ℕ) → in_range lim p C ≡ true → is_ticket lim C row block ≡ true → block < 256
ticket_low lim p C row block range e =
    let few = (range_of lim p C range).c_high in
    let low = ticket_block lim C row block e in
    omega arith

pub is_ticket_lem : (lim : Limits) (C row block : ℕ) → row < lim.rows → block < C → is_ticket lim C row block ≡ true
unfolding is_ticket
is_ticket_lem lim C row block h l = and_both (ltb row lim.rows) (ltb block C) (lt-ltb row lim.rows h) (lt-ltb block C l)

pub position : (F : Formula) (p C : ℕ) → in_range (limits_of F) p C ≡ true → Position F p
position F p C e = let w = range_of (limits_of F) p C e in record { low = w.p_low; high = w.p_high }
