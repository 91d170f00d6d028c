-- Tests of single bytes in fewer steps than their definitions have. Assumes nothing.
use Rattle.std.specs.Prelude.{Some}
use mathlib.Core.Path.{◌≡◌, refl}
use mathlib.Core.Bool.{true, ◌||◌}
use Prim.Native.Nat.{ℕ, ◌<◌}
use Prim.Native.Char.{code}
use native.Mathlib.Omega.{arith}
use lib.Bits.{bit_or}
use lib.Dec.{eqb, leb}
use borrow.Author.Tests.{leb-true, le-leb, lt-leb, ne_eqb}
use Rattle.base.proofs.Bytes.{at-bytes}
use Rattle.base.proofs.Tests.{and_both}
use Rattle.characters.specs.Class.{within, key_byte}
use Rattle.characters.specs.Utf8.{lead}
use Rattle.characters.specs.declared.Due.TheVariants.{Tail}

-- a letter, small or capital, by one range
pub key-folded : (b : ℕ) → b < 256 → key_byte b ≡ (within (code "a") (code "z") (bit_or b 32) || within (code "0") (code "9") b || eqb b (code "-"))
unfolding key_byte
key-folded b h = at-bytes key_byte (λ b. within (code "a") (code "z") (bit_or b 32) || within (code "0") (code "9") b || eqb b (code "-")) refl b h

-- the first byte of most characters of three bytes
pub lead-middle : (b : ℕ) → within 0xe1 0xec b ≡ true → lead b ≡ Some (Tail 1 0x80 0xbf)
unfolding lead
lead-middle b e =
    let w = and_both (leb 0xe1 b) (leb b 0xec) e in
    let l = leb-true 0xe1 b w.0 in
    let h = leb-true b 0xec w.1 in
    rw (lt-leb b 0xdf (omega arith), le-leb 0xc2 b (omega arith), ne_eqb b 0xe0 (λ z. omega arith), ne_eqb b 0xed (λ z. omega arith), le-leb 0xe1 b l, le-leb b 0xef (omega arith))
