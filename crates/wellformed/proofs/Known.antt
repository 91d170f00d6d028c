-- What the marks and the titles seen tell of each other while a file is checked. Assumes nothing.
use mathlib.Core.Path.{◌≡◌, refl, sym, ap, ◌∙◌}
use Prim.Native.Nat.{ℕ, ◌<◌}
use mathlib.Core.Bool.{Bool, true, false, ◌&&◌, ◌||◌, false≢true}
use mathlib.Core.List.{List, [], ◌∷◌}
use lib.ListN.{length}
use Rattle.base.specs.Lists.{same, any}
use Rattle.base.proofs.Tests.{or-both, same_refl, same_true}
use Rattle.marks.specs.Marks.{marked, with_mark}
use Rattle.marks.proofs.Table.{mark-length, mark-own, mark-kept}
use Rattle.rows.specs.Title.{Title, Group, Key, same_title}

-- A name without a mark was not seen: groups under the number 0, keys of the present group under its own, which is 0 where there is none.
pub record Known (m : List ℕ) (tag : ℕ) (group : List ℕ) (seen : List Title) : Type 0 where
  pub words : 0 < length m
  pub groups : (x : List ℕ) → marked m 0 x ≡ false → any (same_title (Group x)) seen ≡ false
  pub keys : (x : List ℕ) → marked m tag x ≡ false → any (same_title (Key group x)) seen ≡ false
  pub grouped : (g x : List ℕ) → any (same_title (Group g)) seen ≡ false → any (same_title (Key g x)) seen ≡ false
  pub begun : tag ≡ 0 → seen ≡ []
  pub current : (tag ≡ 0 → ⊥) → any (same_title (Group group)) seen ≡ true

pub known_start : (m : List ℕ) → 0 < length m → Known m 0 [] []
unfolding any
known_start m h = record { words = h; groups = λ x e. refl; keys = λ x e. refl; grouped = λ g x e. refl; begun = λ e. refl; current = λ z. absurd (z refl) }

-- a name whose mark was just set, and one that has none, are not the same
other_name : (m : List ℕ) (tag : ℕ) (name x : List ℕ) → 0 < length m → marked (with_mark m tag name) tag x ≡ false → same x name ≡ false
other_name m tag name x h q = go (same x name) refl
  where
    go : (t : Bool) → same x name ≡ t → t ≡ false
    go false e = refl
    go true e = absurd (false≢true (sym q ∙ ap (marked (with_mark m tag name) tag) (same_true x name e) ∙ mark-own m tag name h))

neither : {a b : Bool} → a ≡ false → b ≡ false → (a || b) ≡ false
neither e f = rw (e, f)

module _ {m : List ℕ} {tag : ℕ} {group : List ℕ} {seen : List Title} (k : Known m tag group seen) (name : List ℕ) where
  -- a group that was not seen, with its mark: its keys were not seen either, whatever the table says
  pub known-header : (tag' : ℕ) → (tag' ≡ 0 → ⊥) → any (same_title (Group name)) seen ≡ false → Known (with_mark m 0 name) tag' name (Group name ∷ seen)
  unfolding any same_title
  known-header tag' z new = record {
    words = rw (mark-length m 0 name) k.words;
    groups = λ x e. neither (other_name m 0 name x k.words e) (k.groups x (mark-kept m 0 name k.words 0 x e));
    keys = λ x e. k.grouped name x new;
    grouped = λ g x e. k.grouped g x (or-both (same g name) (any (same_title (Group g)) seen) e).1;
    begun = λ e. absurd (z e);
    current = λ e. rw (same_refl name);
  }

  -- a key of the present group, with its mark
  pub known-entry : (tag ≡ 0 → ⊥) → Known (with_mark m tag name) tag group (Key group name ∷ seen)
  unfolding any same_title
  known-entry z = record {
    words = rw (mark-length m tag name) k.words;
    groups = λ x e. k.groups x (mark-kept m tag name k.words 0 x e);
    keys = λ x e. rw (other_name m tag name x k.words e, same_refl group) (k.keys x (mark-kept m tag name k.words tag x e));
    grouped = λ g x e. neither (other-group g x e) (k.grouped g x e);
    begun = λ e. absurd (z e);
    current = λ e. k.current z;
  }
    where
      other-group : (g x : List ℕ) → any (same_title (Group g)) seen ≡ false → (same g group && same x name) ≡ false
      other-group g x e = go (same g group) refl
        where
          go : (t : Bool) → same g group ≡ t → (t && same x name) ≡ false
          go false q = refl
          go true q = absurd (false≢true (sym e ∙ ap (λ (h : List ℕ). any (same_title (Group h)) seen) (same_true g group q) ∙ k.current z))
