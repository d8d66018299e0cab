-- What each case of a call's answer stands for: the number of the refusal table, negated for C, or the call's value.
use Rattle.std.specs.Prelude.{ℕ, ℤ, pos, neg_ℤ, Result, Ok, Err, ⊤}
use Rattle.run.specs.declared.Refusal.{Refusal}
use Rattle.run.specs.declared.Refusal.TheVariants.{WrongSize, OutOfRange, Malformed, NoTicket, OutOfOrder, OtherRun, Marked, Unmarked, Unsettled, BadString, Apart, Different, Unposted}

abbrev pub number_of : Refusal → ℕ
number_of WrongSize = 1
number_of OutOfRange = 2
number_of Malformed = 3
number_of NoTicket = 4
number_of OutOfOrder = 5
number_of OtherRun = 6
number_of Marked = 7
number_of Unmarked = 8
number_of Unsettled = 9
number_of BadString = 10
number_of Apart = 11
number_of Different = 12
number_of Unposted = 13

-- what a call answers
abbrev pub Answer : Type 0
Answer = Result ℕ Refusal

abbrev pub answer_of : Answer → ℤ
answer_of (Ok value) = pos value
answer_of (Err r) = neg_ℤ (pos (number_of r))

-- what tests come to: 0 where none of them applies
abbrev pub Verdict : Type 0
Verdict = Result ⊤ Refusal

abbrev pub verdict_of : Verdict → ℤ
verdict_of (Ok _) = pos 0
verdict_of (Err r) = neg_ℤ (pos (number_of r))
