-- An output that is filled part by part: what is written and what is left make the whole. Assumes nothing.
use mathlib.Core.Path.{◌≡◌, refl}
use Prim.Native.Nat.{ℕ, ◌+◌, ◌≤◌, ◌<◌}
use native.Mathlib.Omega.{arith}
use mathlib.Core.Bool.{Bool}
use mathlib.Core.List.{List, [], ◌++◌}
use lib.ListN.{length, get_or, length-append, length-drop}
use Rattle.base.proofs.Tail.{lent, back, tail-lent}
use Rattle.base.proofs.Over.{over-tail}
use Rattle.base.proofs.Fill.{Fill, fill_start, fill-length, fill-as, fill-over, fill_end}
use Rattle.command.specs.Command.{pieces_of, piece_of, width_of}
use Rattle.command.specs.declared.Piece.{Piece}
use Rattle.command.proofs.Pieces.{pieces_at, pieces-done, pieces-next}
use Rattle.run.specs.Run.{Put, piece_bytes, pieces_bytes}
use Rattle.run.specs.Step.{Wrote}
use Rattle.run.proofs.Spending.{bytes-cons, bytes-none}

-- an output that has room for the whole, filled so far
pub record Filling (out₀ whole out : List ℕ) (at : ℕ) (rest : List ℕ) : Type 0 where
  pub room : length whole ≤ length out₀
  pub fill : Fill out₀ whole out at rest

pub filling-start : {out whole : List ℕ} → length whole ≤ length out → Filling out whole out 0 whole
filling-start {out} {whole} h = record { room = h; fill = fill_start out whole }

pub filling-as : {out₀ whole out : List ℕ} {at : ℕ} {rest left : List ℕ} → Filling out₀ whole out at rest → rest ≡ left → Filling out₀ whole out at left
filling-as w e = record { room = w.room; fill = fill-as w.fill e }

pub filling-end : {out₀ whole out : List ℕ} {at : ℕ} {rest : List ℕ} → Filling out₀ whole out at rest → rest ≡ [] → Wrote out₀ whole at out
filling-end w e = let f = fill_end (fill-as w.fill e) in record { long = f.0; is = f.1 }

-- the next part x, and what is left after it
module _ {out₀ whole out : List ℕ} {at : ℕ} {rest : List ℕ} (w : Filling out₀ whole out at rest) (x rest₁ : List ℕ) (e : rest ≡ x ++ rest₁) where
  pub filling-room : length x ≤ length (lent at out)
  filling-room =
      let l = fill-length (fill-as w.fill e) in
      let a = length-append x rest₁ in
      let f = w.fill.long in
      rw (tail-lent at out, length-drop at out) (omega (arith, w.room))

  pub filling-next : {n : ℕ} {t : List ℕ} → Wrote (lent at out) x n t → Filling out₀ whole (back at out t) (at + n) rest₁
  filling-next v = record { room = w.room; fill = rw (v.long, over-tail out at x v.is) (fill-over x rest₁ (fill-as w.fill e) w.room) }

-- ---- pieces

-- the bytes of the pieces before the place are written, the others are left
pub record PiecesPut (x : Put) (q : Bool) (s out₀ out : List ℕ) (i at : ℕ) : Type 0 where
  pub filling : Filling out₀ (pieces_bytes x (pieces_of q s)) out at (pieces_bytes x (pieces_at q s i))

pub pieces-start : {x : Put} {q : Bool} {s out : List ℕ} → length (pieces_bytes x (pieces_of q s)) ≤ length out → PiecesPut x q s out out 0 0
pieces-start h = record { filling = filling-start h }

module _ {x : Put} {q : Bool} {s out₀ out : List ℕ} {i at : ℕ} (w : PiecesPut x q s out₀ out i at) where
  pub pieces_end : length s ≤ i → Wrote out₀ (pieces_bytes x (pieces_of q s)) at out
  pieces_end h = filling-end w.filling (rw (pieces-done q s i h) (bytes-none x))

  module _ (h : i < length s) {p : Piece} (e : p ≡ piece_of q (get_or s i 0) (get_or s (i + 1) 0)) where
    piece-first : {j : ℕ} → j ≡ i + width_of q (get_or s i 0) → pieces_bytes x (pieces_at q s i) ≡ piece_bytes x p ++ pieces_bytes x (pieces_at q s j)
    piece-first {j} f = rw (pieces-next q s i f h e) (bytes-cons x p (pieces_at q s j))

    pub piece-room : length (piece_bytes x p) ≤ length (lent at out)
    piece-room = filling-room w.filling (piece_bytes x p) _ (piece-first refl)

    pub piece-put : {j n : ℕ} {t : List ℕ} → j ≡ i + width_of q (get_or s i 0) → Wrote (lent at out) (piece_bytes x p) n t → PiecesPut x q s out₀ (back at out t) j (at + n)
    piece-put {j} f v = record { filling = filling-next w.filling (piece_bytes x p) (pieces_bytes x (pieces_at q s j)) (piece-first f) v }
