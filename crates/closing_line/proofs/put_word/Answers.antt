-- `closing_line::put_word` meets its contract: the text is pasted from `at` on, and the character that ends it stands behind it.
-- Assumes nothing.
use mathlib.Core.Path.{refl}
use native.Mathlib.Omega.{arith}
use Rattle.std.proofs.lemmas.Slice.{put_mid-paste}
use Rattle.closing_line.proofs.Adding.{ended}
use Rattle.closing_line.proofs.put_word.Goals as goal

pub returns : goal.returns
returns c =
    let a = c.args in
    ended a.out.now a.at a.text.now _ _ a.end (omega arith) refl
    (put_mid-paste a.at _ a.out.now _ a.text.now _ c.copy_from_slice.ensures.after (omega arith) refl)
