-- The parts of which the tests of the calls are joined. Each is written here once, with its number. Document 01, "Refusal table". What is asked
-- of a ledger is where the ledger is.
use Rattle.std.specs.Prelude.{Bool, List, [], ◌∷◌, ◌++◌, ℕ}
use Rattle.run.specs.Refusal.{Test, ◌unless◌}
use Rattle.run.specs.Run.{Limits, in_range, is_ticket}

-- sizes: every slice has one that the call takes
abbrev pub of_sizes : Bool → List Test
of_sizes right = (1 unless right) ∷ []

-- run: p and C are within their limits
abbrev pub of_run : Limits → ℕ → ℕ → List Test
of_run lim p C = (2 unless in_range lim p C) ∷ []

-- form: a list or a sheet is in its form
abbrev pub of_form : Bool → List Test
of_form formed = (3 unless formed) ∷ []

-- tickets: all that are named are tickets of a run with C blocks
abbrev pub of_tickets : Bool → List Test
of_tickets all = (4 unless all) ∷ []

-- one ticket of a run
abbrev pub of_ticket : Limits → ℕ → ℕ → ℕ → ℕ → List Test
of_ticket lim p C row block = of_run lim p C ++ of_tickets (is_ticket lim C row block)
