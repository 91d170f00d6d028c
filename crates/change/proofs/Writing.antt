-- The new bytes: how many they are, and that they are written one after another. Assumes nothing.
use mathlib.Core.Path.{◌≡◌, sym, ◌∙◌}
use Prim.Native.Nat.{ℕ, ◌+◌, ◌≤◌}
use native.Mathlib.Nat.{add-zero}
use native.Mathlib.Omega.{arith}
use mathlib.Core.Bool.{Bool, true, false}
use mathlib.Core.List.{List, [], ◌++◌}
use lib.ListN.{length, length-append, take-append-drop}
use Rattle.base.specs.Over.{WroteAt}
use Rattle.base.proofs.Over.{over-then}
use Rattle.text.specs.Escape.{raw_text}
use Rattle.change.specs.Change.{entry_bytes}
use Rattle.change.specs.Target.{new_bytes}
use Rattle.change.specs.declared.Target.TheVariants.{Entry}

-- ---- how many

module _ (key text : List ℕ) where
  pub entry_length : length (entry_bytes key (raw_text text)) ≡ length key + 1 + length (raw_text text)
  entry_length = simp length-append

  pub new-entry-length : (at : ℕ) (after : Bool) → length (new_bytes key text (Entry at after)) ≡ length key + length (raw_text text) + 2
  new-entry-length at true = simp length-append (omega arith)
  new-entry-length at false = simp length-append (omega arith)

-- ---- written

-- nothing
pub write-none : (s : List ℕ) (at : ℕ) → WroteAt s at [] at s
write-none s at = record { ends = omega arith; is = rw (add-zero at) (sym (take-append-drop at s)) }

-- y right behind x
pub write_then : {s x t y u : List ℕ} {at n m : ℕ} → WroteAt s at x n t → WroteAt t n y m u → n ≤ length s → WroteAt s at (x ++ y) m u
write_then {s} {x} {t} {y} {u} {at} {n} {m} w v h =
    record {
      ends = v.ends ∙ rw (w.ends, length-append x y) (omega arith);
      is = v.is ∙ rw w.is (over-then s at x y w.ends (omega (arith, w.ends)));
    }
