-- Closing the bytes of a plain ledger: by what is seen of the plain ledger, and by the total of its sums.
-- Assumes nothing.
use mathlib.Core.Path.{◌≡◌, refl, ap₂}
use mathlib.Core.List.{List}
use Prim.Native.Nat.{ℕ, ◌<◌}
use native.Mathlib.Omega.{arith}
use Rattle.series.specs.Series.{Formula, modulus}
use Rattle.series.specs.Names.{formula_of}
use Rattle.series.specs.declared.Series.{Series}
use Rattle.series.specs.declared.Series.TheVariants.{Bellard, Check}
use Rattle.interval.specs.Interval.{Rule, is_charged}
use Rattle.run.specs.Run.{limits_of, in_range}
use Rattle.run.specs.Call.{answered, bytes_left}
use Rattle.ledger.specs.Ledger.{View, view_of, total_in, total_of}
use Rattle.ledger.specs.Plain.{Plain, plain_view, encode, full_plain}
use Rattle.ledger.proofs.Image.{Good, view_encode, total_encode}
use Rattle.closing.specs.Closing.{close_by, close_call}

module _ (F : Formula) (s : Plain) (good : Good (limits_of F) s) (out : List ℕ) where
  -- by whatever rule terms are charged
  module _ (R : Rule) where
    pub answer_by : answered (close_by R F (view_of (limits_of F) (encode (limits_of F) s)) (total_in (limits_of F) (encode (limits_of F) s)) out)
        ≡ answered (close_by R F (plain_view s) (total_of (limits_of F) s.sums) out)
    answer_by = ap₂ (λ (v : View) (t : ℕ). answered (close_by R F v t out)) (view_encode (limits_of F) s good) (total_encode (limits_of F) s good)

    pub bytes_by : bytes_left (close_by R F (view_of (limits_of F) (encode (limits_of F) s)) (total_in (limits_of F) (encode (limits_of F) s)) out) 0
        ≡ bytes_left (close_by R F (plain_view s) (total_of (limits_of F) s.sums) out) 0
    bytes_by = ap₂ (λ (v : View) (t : ℕ). bytes_left (close_by R F v t out) 0) (view_encode (limits_of F) s good) (total_encode (limits_of F) s good)

  pub answer_encoded : answered (close_call F (encode (limits_of F) s) out) ≡ answered (close_by is_charged F (plain_view s) (total_of (limits_of F) s.sums) out)
  answer_encoded = answer_by is_charged

  pub bytes_encoded : bytes_left (close_call F (encode (limits_of F) s) out) 0 ≡ bytes_left (close_by is_charged F (plain_view s) (total_of (limits_of F) s.sums) out) 0
  bytes_encoded = bytes_by is_charged

-- a ledger with every ticket of p = 1, C = 1 marked is a plain ledger's, whatever its sums
pub good_full : (f : Series) (sums : ℕ → ℕ) → ((row : ℕ) → sums row < modulus)
    → Good (limits_of (formula_of f)) (full_plain (limits_of (formula_of f)) sums)
unfolding in_range
good_full Bellard sums fit = record { fits = omega arith; range = refl; sums_in = fit; tickets_in = λ row block e. e }
good_full Check sums fit = record { fits = omega arith; range = refl; sums_in = fit; tickets_in = λ row block e. e }
