-- Bytes cut where a key's bytes, or a part of a locale, end: two that are so cut are the same if their pieces are. Assumes nothing.
use mathlib.Core.Path.{◌≡◌, refl, sym, ◌∙◌}
use Prim.Native.Nat.{ℕ, suc}
use mathlib.Core.Bool.{Bool, true, false, ◌&&◌, and_assoc, and-true}
use mathlib.Core.List.{List, [], ◌∷◌, ◌++◌}
use lib.ListN.{take, drop}
use lib.Dec.{eqb}
use borrow.Author.Tests.{eqb-true}
use Rattle.base.specs.Choice.{pick}
use Rattle.base.specs.Lists.{same, span, all}
use Rattle.base.proofs.Tests.{and_both, class-other, eqb-sym}
use Rattle.characters.specs.Class.{key_byte}
use Rattle.line.specs.Locale.{part_length}

-- ---- a key's bytes

-- no byte of a key stands at the front
abbrev pub Stops : List ℕ → Type 0
Stops [] = Unit
Stops (b ∷ s) = key_byte b ≡ false

pub front-keys : (s : List ℕ) → all key_byte (take (span key_byte s) s) ≡ true
unfolding span all
front-keys [] = refl
front-keys (b ∷ s) = go (key_byte b) refl (front-keys s)
  where
    go : (t : Bool) → key_byte b ≡ t → all key_byte (take (span key_byte s) s) ≡ true → all key_byte (take (pick t (suc (span key_byte s)) 0) (b ∷ s)) ≡ true
    go true e h = rw e h
    go false e h = refl

pub rest-stops : (s : List ℕ) → Stops (drop (span key_byte s) s)
unfolding span
rest-stops [] = tt
rest-stops (b ∷ s) = go (key_byte b) refl (rest-stops s)
  where
    go : (t : Bool) → key_byte b ≡ t → Stops (drop (span key_byte s) s) → Stops (drop (pick t (suc (span key_byte s)) 0) (b ∷ s))
    go true e h = h
    go false e h = e

pub cut-same : (x y r s : List ℕ) → all key_byte x ≡ true → all key_byte y ≡ true → Stops r → Stops s → same (x ++ r) (y ++ s) ≡ (same x y && same r s)
unfolding same all
cut-same [] [] r s i j h k = refl
cut-same [] (b ∷ y) [] s i j h k = refl
cut-same [] (b ∷ y) (a ∷ r) s i j h k = rw (eqb-sym a b ∙ class-other key_byte b a h (and_both (key_byte b) (all key_byte y) j).0)
cut-same (a ∷ x) [] r [] i j h k = refl
cut-same (a ∷ x) [] r (b ∷ s) i j h k = rw (class-other key_byte a b k (and_both (key_byte a) (all key_byte x) i).0)
cut-same (a ∷ x) (b ∷ y) r s i j h k =
    let e = cut-same x y r s (and_both (key_byte a) (all key_byte x) i).1 (and_both (key_byte b) (all key_byte y) j).1 h k in
    rw e (sym (and_assoc (eqb a b) (same x y) (same r s)))

-- ---- a part of a locale

-- a part with its mark, or none
abbrev pub Part : ℕ → List ℕ → Type 0
Part mark [] = Unit
Part mark (b ∷ s) = (b ≡ mark) × (all key_byte s ≡ true)

pub part-is : (mark : ℕ) (s : List ℕ) → Part mark (take (part_length mark s) s)
unfolding part_length
part-is mark [] = tt
part-is mark (b ∷ s) = go (eqb b mark) refl
  where
    go : (t : Bool) → eqb b mark ≡ t → Part mark (take (pick t (suc (span key_byte s)) 0) (b ∷ s))
    go true e = (eqb-true b mark e, front-keys s)
    go false e = tt

-- the mark does not stand at the front
abbrev Unmarked : ℕ → List ℕ → Type 0
Unmarked mark [] = Unit
Unmarked mark (b ∷ s) = eqb mark b ≡ false

part_same : (mark : ℕ) (x y r s : List ℕ) → Part mark x → Part mark y → Stops r → Stops s → Unmarked mark r → Unmarked mark s
    → same (x ++ r) (y ++ s) ≡ (same x y && same r s)
unfolding same
part_same mark [] [] r s i j h k u v = refl
part_same mark [] (b ∷ y) [] s i j h k u v = refl
part_same mark [] (b ∷ y) (a ∷ r) s i j h k u v = rw (j.0, eqb-sym a mark ∙ u)
part_same mark (a ∷ x) [] r [] i j h k u v = refl
part_same mark (a ∷ x) [] r (b ∷ s) i j h k u v = rw (i.0, v)
part_same mark (a ∷ x) (b ∷ y) r s i j h k u v = rw (cut-same x y r s i.1 j.1 h k) (sym (and_assoc (eqb a b) (same x y) (same r s)))

-- what follows a part, or the place where there is none, neither goes on with a key's byte nor begins with the mark of another
pub stops-part : (mark : ℕ) (x r : List ℕ) → key_byte mark ≡ false → Part mark x → Stops r → Stops (x ++ r)
stops-part mark [] r m i h = h
stops-part mark (b ∷ x) r m i h = rw i.0 m

unmarked-part : (mark other : ℕ) (x r : List ℕ) → eqb other mark ≡ false → Part mark x → Unmarked other r → Unmarked other (x ++ r)
unmarked-part mark other [] r m i u = u
unmarked-part mark other (b ∷ x) r m i u = rw i.0 m

-- ---- a locale without its encoding

-- its three parts
pub record Parted (l c m : List ℕ) : Type 0 where
  pub lang : all key_byte l ≡ true
  pub country : Part 95 c
  pub modifier : Part 64 m

-- what follows in a postfix
abbrev pub bracket : List ℕ
bracket = 93 ∷ []

-- two postfixes are the same if their parts are
pub parted-same : {l c m l₁ c₁ m₁ : List ℕ} → Parted l c m → Parted l₁ c₁ m₁
    → same (l ++ (c ++ (m ++ bracket))) (l₁ ++ (c₁ ++ (m₁ ++ bracket))) ≡ (same l l₁ && (same c c₁ && same m m₁))
unfolding key_byte same
parted-same {l} {c} {m} {l₁} {c₁} {m₁} w v =
    let a = stops-part 64 m bracket refl w.modifier refl in
    let b = stops-part 64 m₁ bracket refl v.modifier refl in
    cut-same l l₁ (c ++ (m ++ bracket)) (c₁ ++ (m₁ ++ bracket)) w.lang v.lang (stops-part 95 c (m ++ bracket) refl w.country a) (stops-part 95 c₁ (m₁ ++ bracket) refl v.country b)
    ∙ rw (
      part_same 95 c c₁ (m ++ bracket) (m₁ ++ bracket) w.country v.country a b (unmarked-part 64 95 m bracket refl w.modifier refl) (unmarked-part 64 95 m₁ bracket refl v.modifier refl),
      part_same 64 m m₁ bracket bracket w.modifier v.modifier refl refl refl refl,
      and-true (same m m₁),
    )
