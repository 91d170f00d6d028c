-- What the pieces of an argument take. Assumes nothing.
use Rattle.std.specs.Prelude.{Option}
use mathlib.Core.Path.{◌≡◌, refl, sym, ◌∙◌}
use Prim.Native.Nat.{ℕ, ◌+◌, ◌≤◌, ◌<◌}
use mathlib.Core.Bool.{Bool}
use mathlib.Core.List.{List, [], ◌∷◌, ◌++◌}
use lib.ListN.{length, get_or, length-append}
use Rattle.base.specs.Lists.{joined}
use Rattle.text.specs.Step.{spend}
use Rattle.text.proofs.RoomLaws.{spend-zero, spend-add}
use Rattle.command.specs.declared.Piece.{Piece}
use Rattle.command.specs.Command.{pieces_of, piece_of, width_of}
use Rattle.command.proofs.Pieces.{pieces_at, pieces-done, pieces-next}
use Rattle.run.specs.Run.{Put, piece_bytes, pieces_bytes}

-- one piece and then the others
pub bytes-cons : (x : Put) (p : Piece) (ps : List Piece) → pieces_bytes x (p ∷ ps) ≡ piece_bytes x p ++ pieces_bytes x ps
unfolding pieces_bytes joined
bytes-cons x p ps = refl

pub bytes-none : (x : Put) → pieces_bytes x [] ≡ []
unfolding pieces_bytes joined
bytes-none x = refl

-- ---- measuring pieces: the room left and what the pieces from the place on take are the whole answer

pub record Spending (x : Put) (q : Bool) (s : List ℕ) (room₀ : Option ℕ) (i : ℕ) (room : Option ℕ) : Type 0 where
  pub same : spend room (length (pieces_bytes x (pieces_at q s i))) ≡ spend room₀ (length (pieces_bytes x (pieces_of q s)))

pub spending-start : {x : Put} {q : Bool} {s : List ℕ} {room : Option ℕ} → Spending x q s room 0 room
spending-start = record { same = refl }

module _ {x : Put} {q : Bool} {s : List ℕ} {room₀ : Option ℕ} {i : ℕ} {room : Option ℕ} (w : Spending x q s room₀ i room) where
  pub spending-next : i < length s → {p : Piece} {n j : ℕ} {room₁ : Option ℕ} → p ≡ piece_of q (get_or s i 0) (get_or s (i + 1) 0) → n ≡ length (piece_bytes x p)
      → room₁ ≡ spend room n → j ≡ i + width_of q (get_or s i 0) → Spending x q s room₀ j room₁
  spending-next h {p} {n} {j} {room₁} e l r f =
      record {
        same =
            rw (r, spend-add room n (length (pieces_bytes x (pieces_at q s j))), l, ← length-append (piece_bytes x p) (pieces_bytes x (pieces_at q s j)), ← bytes-cons x p (pieces_at q s j))
            (rw (pieces-next q s i f h e) at w.same);
      }

  pub spending-end : length s ≤ i → room ≡ spend room₀ (length (pieces_bytes x (pieces_of q s)))
  spending-end h = sym (spend-zero room) ∙ rw (pieces-done q s i h, bytes-none x) at w.same
