-- The pieces of an argument and their faults, one after another. Assumes nothing.
use Rattle.std.specs.Prelude.{Some, Ok, Err}
use mathlib.Core.Path.{◌≡◌, refl, sym, ap, ◌∙◌}
use Prim.Native.Nat.{ℕ, zero, suc, ◌+◌, ◌-◌, ◌≤◌, ◌<◌}
use native.Mathlib.Nat.{add-zero}
use native.Mathlib.Omega.{arith}
use mathlib.Core.Bool.{Bool, true, false, ◌||◌}
use mathlib.Core.List.{List, [], ◌∷◌}
use lib.ListN.{length, drop, get_or}
use lib.Seq.{drop-drop, drop-nil}
use Rattle.base.specs.Choice.{pick, maybe}
use Rattle.base.proofs.Scan.{here, done}
use Rattle.fault.specs.declared.Fault.{Fault}
use Rattle.fault.specs.Answer.{unless}
use Rattle.fault.proofs.Answers.{unless-refused, unless-none}
use Rattle.command.specs.Command.{takes_next, piece_of, width_of, pieces_after, pieces_of, piece_fault, is_item, pieces_fault}
use Rattle.command.specs.Step.{see_piece, see_pieces, unless_fault}
use Rattle.command.specs.declared.Piece.{Piece}
use Rattle.command.specs.declared.Piece.TheVariants as piece
use Rattle.command.specs.declared.Seen.{Seen}
use Rattle.command.proofs.Parting.{first_byte}

-- a piece takes one byte or two
width-within : (q : Bool) (b : ℕ) → (0 < width_of q b) × (width_of q b ≤ 2)
unfolding width_of
width-within q b = go (takes_next q b)
  where
    go : (t : Bool) → (0 < pick t 2 1) × (pick t 2 1 ≤ 2)
    go true = (omega arith, omega arith)
    go false = (omega arith, omega arith)

pub width_fits : (q : Bool) (b : ℕ) {w : ℕ} → w ≡ width_of q b → (0 < w) × (w ≤ 2)
width_fits q b e = let h = width-within q b in (omega arith, omega arith)

-- ---- passing over bytes is dropping them

pieces-pass : (q : Bool) (s : List ℕ) (n : ℕ) → pieces_after q s n ≡ pieces_after q (drop n s) 0
unfolding pieces_after
pieces-pass q [] n = rw (drop-nil n)
pieces-pass q (b ∷ s) zero = refl
pieces-pass q (b ∷ s) (suc n) = pieces-pass q s n

faults-pass : (q p t : Bool) (s : List ℕ) (n at : ℕ) → pieces_fault q p t s n at ≡ pieces_fault q p t (drop n s) 0 (at + n)
unfolding pieces_fault
faults-pass q p t [] n at = rw (drop-nil n)
faults-pass q p t (b ∷ s) zero at = rw (add-zero at)
faults-pass q p t (b ∷ s) (suc n) at = faults-pass q p t s n (at + 1) ∙ ap (λ (k : ℕ). pieces_fault q p t (drop n s) 0 k) (omega arith)

-- ---- at a place

-- the pieces from a place on
abbrev pub pieces_at : Bool → List ℕ → ℕ → List Piece
pieces_at q s i = pieces_after q (drop i s) 0

pub pieces-done : (q : Bool) (s : List ℕ) (i : ℕ) → length s ≤ i → pieces_at q s i ≡ []
unfolding pieces_after
pieces-done q s i h = rw (done s i h)

module _ (q : Bool) (s : List ℕ) (i : ℕ) (h : i < length s) where
  next : {w : ℕ} → w ≡ width_of q (get_or s i 0) → i + 1 + (w - 1) ≡ i + w
  next {w} e = let b = width-within q (get_or s i 0) in omega arith

  pub pieces-here : {c w : ℕ} → c ≡ get_or s (i + 1) 0 → w ≡ width_of q (get_or s i 0) → pieces_at q s i ≡ piece_of q (get_or s i 0) c ∷ pieces_at q s (i + w)
  unfolding pieces_after
  pieces-here {c} {w} e f =
      rw (here s i h, first_byte s (i + 1), ← e, ← f, pieces-pass q (drop (i + 1) s) (w - 1), drop-drop (w - 1) (i + 1) s, next f)

  pub faults-here : (p t : Bool) (at : ℕ) {c w : ℕ} → c ≡ get_or s (i + 1) 0 → w ≡ width_of q (get_or s i 0)
      → pieces_fault q p t (drop i s) 0 (at + i)
      ≡ maybe (piece_fault q p t (get_or s i 0) c (at + i)) (pieces_fault q p (is_item (piece_of q (get_or s i 0) c) || t) (drop (i + w) s) 0 (at + (i + w))) Some
  unfolding pieces_fault
  faults-here p t at {c} {w} e f =
      let n = next f in
      let k : at + i + 1 + (w - 1) ≡ at + (i + w) = omega arith in
      rw (here s i h, first_byte s (i + 1), ← e, ← f, faults-pass q p _ (drop (i + 1) s) (w - 1) (at + i + 1), drop-drop (w - 1) (i + 1) s, n, k)

-- ---- a check in progress

pub see-taken : (s : Seen) (p : Piece) → (see_piece s p).taken ≡ (is_item p || s.taken)
see-taken s (piece.Byte b) = refl
see-taken s piece.Item = refl
see-taken s piece.Name = refl
see-taken s piece.Location = refl
see-taken s piece.Vanished = refl

-- the faults from the place on are all that can be found, and the codes there are all that were not seen
pub record Checking (q p : Bool) (s : List ℕ) (at : ℕ) (seen₀ : Seen) (i : ℕ) (seen : Seen) : Type 0 where
  pub faults : pieces_fault q p seen.taken (drop i s) 0 (at + i) ≡ pieces_fault q p seen₀.taken s 0 at
  pub codes : see_pieces seen (pieces_at q s i) ≡ see_pieces seen₀ (pieces_of q s)

pub checking-start : {q p : Bool} {s : List ℕ} {at : ℕ} {seen : Seen} → Checking q p s at seen 0 seen
checking-start {q} {p} {s} {at} {seen} = record { faults = ap (λ (k : ℕ). pieces_fault q p seen.taken s 0 k) (add-zero at); codes = refl }

module _ {q p : Bool} {s : List ℕ} {at : ℕ} {seen₀ : Seen} {i : ℕ} {seen : Seen} (w : Checking q p s at seen₀ i seen) where
  pub checking-end : length s ≤ i → Ok seen ≡ unless_fault (pieces_fault q p seen₀.taken s 0 at) (see_pieces seen₀ (pieces_of q s))
  unfolding pieces_fault pieces_after see_pieces
  checking-end h = rw (← w.faults, ← w.codes, done s i h)

  module _ (h : i < length s) {c : ℕ} (e : c ≡ get_or s (i + 1) 0) where
    pub checking-refused : {f : Fault} → Err f ≡ unless (piece_fault q p seen.taken (get_or s i 0) c (at + i))
        → Err f ≡ unless_fault (pieces_fault q p seen₀.taken s 0 at) (see_pieces seen₀ (pieces_of q s))
    checking-refused {f} r = rw (← w.faults, faults-here q s i h p seen.taken at e refl, unless-refused (piece_fault q p seen.taken (get_or s i 0) c (at + i)) f (sym r))

    pub checking-next : {n : ℕ} {seen₁ : Seen} {x : Piece} → Ok tt ≡ unless (piece_fault q p seen.taken (get_or s i 0) c (at + i)) → x ≡ piece_of q (get_or s i 0) c → seen₁ ≡ see_piece seen x
        → n ≡ width_of q (get_or s i 0) → Checking q p s at seen₀ (i + n) seen₁
    unfolding see_pieces
    checking-next {n} {seen₁} {x} r g y f =
        record {
          faults = rw (y, see-taken seen x, g) (rw (faults-here q s i h p seen.taken at e f, unless-none (piece_fault q p seen.taken (get_or s i 0) c (at + i)) r) at w.faults);
          codes = rw (y, g) (rw (pieces-here q s i h e f) at w.codes);
        }

-- ---- a loop over pieces

module _ (q : Bool) (s : List ℕ) (i : ℕ) {j : ℕ} (f : j ≡ i + width_of q (get_or s i 0)) where
  pub pieces-further : i < j
  pieces-further = let b = width-within q (get_or s i 0) in omega arith

  pub pieces-next : i < length s → {p : Piece} → p ≡ piece_of q (get_or s i 0) (get_or s (i + 1) 0) → pieces_at q s i ≡ p ∷ pieces_at q s j
  pieces-next h e = rw (e, f) (pieces-here q s i h refl refl)
