use mathlib.Core.Path.{◌≡◌}
use Prim.Native.Nat.{◌+◌, ◌/◌, suc}
use native.Mathlib.Omega.{arith}
use lib.ListN.{length}
use borrow.Author.Tests.{le-leb}
use Rattle.places.specs.Number.{number_bytes, with_number}
use Rattle.places.proofs.number.put_number.Goals as goal

pub returns-then-saturating_sub-ge4 : goal.returns-then-saturating_sub-ge4
unfolding number_bytes with_number
returns-then-saturating_sub-ge4 c =
    let a = c.args in
    let n = a.number in
    let second : a.at + 1 ≡ suc a.at = omega arith in
    let third : a.at + 2 ≡ suc (suc a.at) = omega arith in
    let fourth : a.at + 3 ≡ suc (suc (suc a.at)) = omega arith in
    let third_byte : n / 65536 ≡ n / 256 / 256 = omega arith in
    let fourth_byte : n / 16777216 ≡ n / 256 / 256 / 256 = omega arith in
    rw (c.to_le_bytes-bytes.ensures, third_byte, fourth_byte, second, third, fourth, le-leb (a.at + 4) (length a.buffer.now) (omega arith))
