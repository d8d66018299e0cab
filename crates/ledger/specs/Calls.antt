-- Opening a ledger and posting one ticket: the tests, the answer, and the ledger that each call leaves.
use Rattle.std.specs.Prelude.{refl, Bool, not, ◌&&◌, List, [], ◌∷◌, ◌++◌, ℕ, eqb, length}
use Rattle.words.specs.Bytes.{value_of}
use Rattle.run.specs.Refusal.{Test, ◌unless◌}
use Rattle.run.specs.Call.{Call, slice}
use Rattle.run.specs.Run.{Limits}
use Rattle.run.specs.Tests.{of_sizes, of_run, of_ticket}
use Rattle.ledger.specs.Ledger.{View, view_of, ledger_size, fresh, enter}

-- ---- what is asked of a ledger: `v` is what is seen of it

-- it is in order
abbrev pub of_order : View → List Test
of_order v = (5 unless v.ordered) ∷ []

-- it is that of the run p, C
abbrev pub of_same_run : View → ℕ → ℕ → List Test
of_same_run v p C = (6 unless (eqb p v.p && eqb C v.C)) ∷ []

-- both
abbrev pub of_ledger : View → ℕ → ℕ → List Test
of_ledger v p C = of_order v ++ of_same_run v p C

-- none of the tickets that a post names is marked
abbrev pub of_marks : Bool → List Test
of_marks new = (7 unless new) ∷ []

-- ---- opening

unfoldable pub open_call : Limits → ℕ → ℕ → List ℕ → Call
open_call lim p C s = record {
  tests = of_sizes (eqb (length s) (ledger_size lim)) ++ of_run lim p C;
  in_order = refl;
  value = 0;
  slices = slice s (fresh lim p C) ∷ [];
}

-- ---- posting one ticket

unfoldable pub post_tests : Limits → View → ℕ → ℕ → ℕ → ℕ → List ℕ → List Test
post_tests lim v p C row block sum =
    of_sizes (v.sized && eqb (length sum) 16) ++ of_ticket lim p C row block ++ of_ledger v p C ++ of_marks (not (v.marked row block))

unfoldable pub post_call : Limits → List ℕ → ℕ → ℕ → ℕ → ℕ → List ℕ → Call
unfolding post_tests
post_call lim s p C row block sum = record {
  tests = post_tests lim (view_of lim s) p C row block sum;
  in_order = refl;
  value = 0;
  slices = slice s (enter lim s row block (value_of sum)) ∷ [];
}
