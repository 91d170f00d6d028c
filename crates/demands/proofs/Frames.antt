-- What a command's arguments are around the files: where one code takes files, it takes them as they are, and all that stands around it is the
-- same whatever the list. Assumes nothing.
use Prim.Native.Nat.{ℕ, ◌+◌, ◌≤◌}
use native.Mathlib.Omega.{arith}
use mathlib.Core.Path.{◌≡◌, refl, ap, ap₂, ◌∙◌}
use mathlib.Core.Bool.{Bool, true, false, not, ◌&&◌, ◌||◌}
use mathlib.Core.List.{List, [], ◌∷◌, ◌++◌, append_assoc}
use lib.ListN.{length}
use borrow.Author.Tests.{ne_eqb}
use Rattle.base.specs.Choice.{pick}
use Rattle.base.specs.Lists.{any, all}
use Rattle.base.proofs.Tests.{no, or-both}
use Rattle.command.specs.declared.Piece.{Piece}
use Rattle.command.specs.declared.Piece.TheVariants as piece
use Rattle.command.specs.Command.{Argument, Files, Icon, Text, is_item, has_piece, takes_files}
use Rattle.command.specs.Laws.{item_codes, all_file_codes}
use Rattle.run.specs.Run.{Put, Run, run_of, piece_bytes, pieces_bytes, leaves_nothing, expanded, expanded_all}
use Rattle.run.specs.Step.{put_of}
use Rattle.run.proofs.Spending.{bytes-cons, bytes-none}

-- ---- files as they are

expanded-append : (r : Run) (front back : List Argument) → expanded_all r (front ++ back) ≡ expanded_all r front ++ expanded_all r back
unfolding expanded_all
expanded-append r [] back = refl
expanded-append r (a ∷ front) back = rw (append_assoc, ← expanded-append r front back)

-- F and U: each item is one whole argument, where the code stands
items-are-whole : (r : Run) (front back : List Argument) → expanded_all r (front ++ (Files ∷ back)) ≡ expanded_all r front ++ (r.items ++ expanded_all r back)
unfolding expanded_all expanded
items-are-whole r front back = expanded-append r front (Files ∷ back)

-- what a piece stands for is put into its one argument as it is
put-in-as-it-is : (x : Put) (ps : List Piece) (p : Piece) (qs : List Piece) → pieces_bytes x (ps ++ (p ∷ qs)) ≡ pieces_bytes x ps ++ (piece_bytes x p ++ pieces_bytes x qs)
put-in-as-it-is x [] p qs = rw (bytes-none x) (bytes-cons x p qs)
put-in-as-it-is x (q ∷ ps) p qs = rw (bytes-cons x q (ps ++ (p ∷ qs)), bytes-cons x q ps, put-in-as-it-is x ps p qs, append_assoc)

and-false : (a : Bool) → (a && false) ≡ false
and-false true = refl
and-false false = refl

item-bytes : (x : Put) → piece_bytes x piece.Item ≡ x.item
unfolding piece_bytes
item-bytes x = refl

-- an item keeps its argument
kept : (item : List ℕ) (ps qs : List Piece) → (length item ≡ 0 → ⊥) → all (leaves_nothing item) (ps ++ (piece.Item ∷ qs)) ≡ false
unfolding all leaves_nothing
kept item [] qs n = rw (ne_eqb (length item) 0 n)
kept item (p ∷ ps) qs n = rw (kept item ps qs n) (and-false (leaves_nothing item p))

-- f and u: where there is an item, the argument that holds the code is one argument with the item's bytes in it
item-stands-inside : (r : Run) (quoted : Bool) (ps qs : List Piece) → (length r.put.item ≡ 0 → ⊥)
    → expanded r (Text quoted (ps ++ (piece.Item ∷ qs))) ≡ (pieces_bytes r.put ps ++ (r.put.item ++ pieces_bytes r.put qs)) ∷ []
unfolding expanded
item-stands-inside r quoted ps qs n =
    rw (kept r.put.item ps qs n, and-false (not quoted), put-in-as-it-is r.put ps piece.Item qs, item-bytes r.put)

-- ---- the one code

-- where an element that passes a test stands
pub record Split {A : Type 0} (p : A → Bool) (xs : List A) : Type 0 where
  pub front : List A
  pub at : A
  pub back : List A
  pub is : xs ≡ front ++ (at ∷ back)
  pub passes : p at ≡ true

pub any-split : {A : Type 0} (p : A → Bool) (xs : List A) → any p xs ≡ true → Split p xs
unfolding any
any-split p [] e = no (cc)
any-split {A} p (x ∷ xs) e = go (p x) refl e (any-split p xs)
  where
    go : (t : Bool) → p x ≡ t → (t || any p xs) ≡ true → (any p xs ≡ true → Split p xs) → Split p (x ∷ xs)
    go true i e k = record { front = []; at = x; back = xs; is = refl; passes = i }
    go false i e k =
        let s = k e in
        record { front = x ∷ s.front; at = s.at; back = s.back; is = ap (λ (l : List A). x ∷ l) s.is; passes = s.passes }

-- a command in which f or u stands
pub record HasItem (args : List Argument) : Type 0 where
  pub front : List Argument
  pub quoted : Bool
  pub left : List Piece
  pub right : List Piece
  pub back : List Argument
  pub is : args ≡ front ++ (Text quoted (left ++ (piece.Item ∷ right)) ∷ back)

pub has-item : (args : List Argument) → any (has_piece is_item) args ≡ true → HasItem args
has-item args e = let s = any-split (has_piece is_item) args e in argument s.front s.at s.back s.is s.passes
  where
    item : (p : Piece) → is_item p ≡ true → p ≡ piece.Item
    item (piece.Byte b) i = no (cc)
    item piece.Item i = refl
    item piece.Name i = no (cc)
    item piece.Location i = no (cc)
    item piece.Vanished i = no (cc)

    argument : (front : List Argument) (a : Argument) (back : List Argument) → args ≡ front ++ (a ∷ back) → has_piece is_item a ≡ true → HasItem args
    argument front Files back i h = no (cc)
    argument front Icon back i h = no (cc)
    argument front (Text quoted ps) back i h =
        let s = any-split is_item ps h in
        let q : ps ≡ s.front ++ (piece.Item ∷ s.back) = s.is ∙ ap (λ (p : Piece). s.front ++ (p ∷ s.back)) (item s.at s.passes) in
        record { front = front; quoted = quoted; left = s.front; right = s.back; back = back; is = i ∙ ap (λ (l : List Piece). front ++ (Text quoted l ∷ back)) q }

item-codes-append : (ps qs : List Piece) → item_codes (ps ++ qs) ≡ item_codes ps + item_codes qs
item-codes-append [] qs = omega arith
item-codes-append (p ∷ ps) qs = omega (arith, item-codes-append ps qs)

file-codes-append : (xs ys : List Argument) → all_file_codes (xs ++ ys) ≡ all_file_codes xs + all_file_codes ys
file-codes-append [] ys = omega arith
file-codes-append (x ∷ xs) ys = omega (arith, file-codes-append xs ys)

no_item : (ps : List Piece) → item_codes ps ≡ 0 → any is_item ps ≡ false
unfolding any
no_item [] e = refl
no_item (p ∷ ps) e = go (is_item p) e (no_item ps)
  where
    go : (t : Bool) → pick t 1 0 + item_codes ps ≡ 0 → (item_codes ps ≡ 0 → any is_item ps ≡ false) → (t || any is_item ps) ≡ false
    go true e k = absurd (omega arith)
    go false e k = k (omega arith)

no-file : (args : List Argument) → all_file_codes args ≡ 0 → any takes_files args ≡ false
unfolding any
no-file [] e = refl
no-file (Files ∷ args) e = absurd (omega arith)
no-file (Icon ∷ args) e = no-file args (omega arith)
no-file (Text quoted ps ∷ args) e = rw (no_item ps (omega arith)) (no-file args (omega arith))

-- ---- what takes no files

module _ (name location icon : List ℕ) where
  -- a run with this item of f and u, and these items of F and U
  abbrev pub run_with : List ℕ → List (List ℕ) → Run
  run_with item items = run_of (put_of item name location) items icon

  module _ (item item' : List ℕ) where
    piece-free : (p : Piece) → is_item p ≡ false → (piece_bytes (put_of item name location) p ≡ piece_bytes (put_of item' name location) p) × (leaves_nothing item p ≡ leaves_nothing item' p)
    unfolding piece_bytes leaves_nothing
    piece-free (piece.Byte b) e = (refl, refl)
    piece-free piece.Item e = no (cc)
    piece-free piece.Name e = (refl, refl)
    piece-free piece.Location e = (refl, refl)
    piece-free piece.Vanished e = (refl, refl)

    pub pieces-free : (ps : List Piece) → any is_item ps ≡ false
        → (pieces_bytes (put_of item name location) ps ≡ pieces_bytes (put_of item' name location) ps) × (all (leaves_nothing item) ps ≡ all (leaves_nothing item') ps)
    unfolding any all
    pieces-free [] e = (bytes-none (put_of item name location) ∙ rw (bytes-none (put_of item' name location)), refl)
    pieces-free (p ∷ ps) e =
        let o = or-both (is_item p) (any is_item ps) e in
        let h = piece-free p o.0 in
        let t = pieces-free ps o.1 in
        (rw (bytes-cons (put_of item name location) p ps, bytes-cons (put_of item' name location) p ps, h.0, t.0), ap₂ ◌&&◌ h.1 t.1)

    module _ (items items' : List (List ℕ)) where
      argument-free : (a : Argument) → takes_files a ≡ false → expanded (run_with item items) a ≡ expanded (run_with item' items') a
      unfolding expanded
      argument-free Files e = no (cc)
      argument-free Icon e = refl
      argument-free (Text quoted ps) e = let h = pieces-free ps e in rw (h.0, h.1)

      pub arguments-free : (args : List Argument) → any takes_files args ≡ false → expanded_all (run_with item items) args ≡ expanded_all (run_with item' items') args
      unfolding expanded_all any
      arguments-free [] e = refl
      arguments-free (a ∷ args) e = let o = or-both (takes_files a) (any takes_files args) e in rw (argument-free a o.0, arguments-free args o.1)

  -- ---- around the one code

  module _ (item : List ℕ) (items : List (List ℕ)) (front back : List Argument) where
    -- F or U: the items between what no list changes
    pub files-framed : all_file_codes (front ++ (Files ∷ back)) ≤ 1
        → expanded_all (run_with item items) (front ++ (Files ∷ back)) ≡ expanded_all (run_with [] []) front ++ (items ++ expanded_all (run_with [] []) back)
    files-framed h =
        let c = file-codes-append front (Files ∷ back) in
        items-are-whole (run_with item items) front back
        ∙ rw (arguments-free item [] items [] front (no-file front (omega arith)), arguments-free item [] items [] back (no-file back (omega arith)))

    -- f or u: the item inside one argument, between what no list changes
    pub item-framed : (quoted : Bool) (left right : List Piece) → all_file_codes (front ++ (Text quoted (left ++ (piece.Item ∷ right)) ∷ back)) ≤ 1 → (length item ≡ 0 → ⊥)
        → expanded_all (run_with item items) (front ++ (Text quoted (left ++ (piece.Item ∷ right)) ∷ back))
        ≡ expanded_all (run_with [] []) front
        ++ ((pieces_bytes (put_of [] name location) left ++ (item ++ pieces_bytes (put_of [] name location) right)) ∷ expanded_all (run_with [] []) back)
    unfolding expanded_all
    item-framed quoted left right h n =
        let c = file-codes-append front (Text quoted (left ++ (piece.Item ∷ right)) ∷ back) in
        let d = item-codes-append left (piece.Item ∷ right) in
        expanded-append (run_with item items) front (Text quoted (left ++ (piece.Item ∷ right)) ∷ back)
        ∙ rw (
          item-stands-inside (run_with item items) quoted left right n,
          arguments-free item [] items [] front (no-file front (omega arith)),
          arguments-free item [] items [] back (no-file back (omega arith)),
          (pieces-free item [] left (no_item left (omega arith))).0,
          (pieces-free item [] right (no_item right (omega arith))).0,
        )
