-- `engine::answers::to_c` meets its contract: a refusal's number, at most the table's last, is one that i64 holds, so that it can be negated.
-- Assumes nothing.
use Rattle.std.proofs.Common.{arith}
use Rattle.run.proofs.Answering.{in_table}
use Rattle.engine.proofs.answers.to_c.Goals as goal

pub overflow_cast-result : goal.overflow_cast-result
overflow_cast-result c = record { sfits = omega (arith, c.number_of.ensures, (in_table c.in-Err.r).1) }
