-- `standing::put_tickets` meets its contract: at each turn the tickets of the places passed are laid over the output.
-- Assumes nothing.
use mathlib.Core.Path.{◌≡◌, refl}
use native.Mathlib.Omega.{arith}
use borrow.Author.Rules.{rules}
use Rattle.standing.proofs.Writing.{none_passed, place_left, none_there, one_there, all_passed}
use Rattle.standing.proofs.put_tickets.Goals as goal

pub loop-left-init : goal.loop-left-init
loop-left-init c = (omega arith, refl, none_passed _ _ _ _ c.requires.0 _)

pub bit_set-requires : goal.bit_set-requires
bit_set-requires c =
    let inside = place_left _ _ _ _ c.requires.0 _ _ c.loop-left.invariant.2.0 c.loop-left-test.true c.loop-left.invariant.0 in
    omega (arith, inside)

pub kept-requires : goal.kept-requires
kept-requires c =
    let inside = place_left _ _ _ _ c.requires.0 _ _ c.loop-left.invariant.2.0 c.loop-left-test.true c.loop-left.invariant.0 in
    omega (arith, inside)

pub loop-left-smaller-then-bit_set : goal.loop-left-smaller-then-bit_set
loop-left-smaller-then-bit_set c =
    let inside = place_left _ _ _ _ c.requires.0 _ _ c.loop-left.invariant.2.0 c.loop-left-test.true c.loop-left.invariant.0 in
    omega (arith, inside)

pub loop-left-preserved-then-bit_set : goal.loop-left-preserved-then-bit_set
loop-left-preserved-then-bit_set c =
    let inside = place_left _ _ _ _ c.requires.0 _ _ c.loop-left.invariant.2.0 c.loop-left-test.true c.loop-left.invariant.0 in (
      omega (arith, inside),
      search rules,
      one_there _ _ _ _ c.requires.0 _ c.requires.1 _ _ _ c.loop-left.invariant.2 _ c.bit_set.ensures _ _ _ c.loop-left-test.true inside
          c.if-bit_set.true c.kept.ensures c.put_line.ensures c.put_body.ensures,
    )

pub loop-left-smaller : goal.loop-left-smaller
loop-left-smaller c =
    let inside = place_left _ _ _ _ c.requires.0 _ _ c.loop-left.invariant.2.0 c.loop-left-test.true c.loop-left.invariant.0 in
    omega (arith, inside)

pub loop-left-preserved : goal.loop-left-preserved
loop-left-preserved c =
    let inside = place_left _ _ _ _ c.requires.0 _ _ c.loop-left.invariant.2.0 c.loop-left-test.true c.loop-left.invariant.0 in (
      omega (arith, inside),
      c.loop-left.invariant.1,
      none_there _ _ _ _ c.requires.0 _ c.requires.1 _ _ _ c.loop-left.invariant.2 _ c.bit_set.ensures c.if-bit_set.false,
    )

pub returns : goal.returns
returns c =
    let none : c.loop-left.left ≡ 0 = omega arith in
    all_passed _ _ _ _ c.requires.0 _ c.requires.1 _ _ _ none c.loop-left.invariant.2
