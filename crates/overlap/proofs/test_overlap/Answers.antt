-- `overlap::test_overlap` meets its contract: a test for each number.
-- Assumes nothing.
use Rattle.std.proofs.Common.{◌≡◌, true, false, ◌&&◌}
use Rattle.overlap.specs.Strings.{laid, in_form, share, agree}
use Rattle.overlap.proofs.Placed.{not_formed, not_shared, not_agreed, agreed, formed_fit}
use Rattle.overlap.proofs.test_overlap.Goals as goal

pub returns-then-not-formed : goal.returns-then-not-formed
returns-then-not-formed c =
    let a = laid c.args.first.now.digits.now c.args.first.now.from in
    let b = laid c.args.second.now.digits.now c.args.second.now.from in
    let formed : (in_form a && in_form b) ≡ false = cc in
    not_formed a b formed

pub returns-then-not-shared : goal.returns-then-not-shared
returns-then-not-shared c =
    let a = laid c.args.first.now.digits.now c.args.first.now.from in
    let b = laid c.args.second.now.digits.now c.args.second.now.from in
    let formed : (in_form a && in_form b) ≡ true = cc in
    let shared : share a b ≡ false = cc in
    not_shared a b formed shared

pub agree-requires : goal.agree-requires
agree-requires c =
    let a = laid c.args.first.now.digits.now c.args.first.now.from in
    let b = laid c.args.second.now.digits.now c.args.second.now.from in
    let formed : (in_form a && in_form b) ≡ true = cc in
    (formed_fit a b formed).0

pub returns-then-not-agree : goal.returns-then-not-agree
returns-then-not-agree c =
    let a = laid c.args.first.now.digits.now c.args.first.now.from in
    let b = laid c.args.second.now.digits.now c.args.second.now.from in
    let formed : (in_form a && in_form b) ≡ true = cc in
    let shared : share a b ≡ true = cc in
    let different : agree a b ≡ false = cc in
    not_agreed a b formed shared different

pub returns : goal.returns
returns c =
    let a = laid c.args.first.now.digits.now c.args.first.now.from in
    let b = laid c.args.second.now.digits.now c.args.second.now.from in
    let formed : (in_form a && in_form b) ≡ true = cc in
    let shared : share a b ≡ true = cc in
    let alike : agree a b ≡ true = cc in
    agreed a b formed shared alike
