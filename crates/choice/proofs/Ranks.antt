-- The rank of a line's key among those that a locale asks for. Assumes nothing.
use Rattle.std.specs.Prelude.{Result, Ok, Err}
use mathlib.Core.Path.{◌≡◌, refl, sym, ap, ◌∙◌}
use Prim.Native.Nat.{ℕ, zero, suc, ◌+◌, ◌-◌, ◌≤◌, ◌<◌}
use native.Mathlib.Omega.{arith}
use mathlib.Core.Bool.{Bool, true, false, ◌&&◌, and-false}
use mathlib.Core.List.{List, [], ◌∷◌, ◌++◌, append_assoc, append-nil, map}
use lib.Seq.{take-take, length-take-le, get_or-take, get_or-drop}
use lib.ListN.{length, take, drop, length-drop}
use lib.Dec.{eqb}
use borrow.Author.Tests.{eqb-true, eqb-false}
use Rattle.base.specs.Choice.{pick}
use Rattle.base.specs.Lists.{same, part, span, all}
use Rattle.base.proofs.Scan.{here}
use Rattle.base.proofs.Parts.{drop-take}
use Rattle.base.proofs.Span.{span-take}
use Rattle.base.proofs.Tests.{by-test, same_true}
use Rattle.characters.specs.Class.{key_byte}
use Rattle.line.specs.Locale.{part_length, parts, locale_end}
use Rattle.line.specs.Name.{byte_at, read_name, name_of}
use Rattle.line.specs.declared.Name.{Name}
use Rattle.line.proofs.Bounds.{NamedWithin, name-within}
use Rattle.line.proofs.Entries.{IsName, plain-name, postfixed, is_name_lem, name-key}
use Rattle.choice.specs.Locale.{stripped, stripped_key}
use Rattle.choice.specs.Locale as spec
use Rattle.choice.specs.Step.{all_candidates, all_keys, rank_in, rank_of, Closed}
use Rattle.choice.proofs.Cut.{Stops, front-keys, rest-stops, cut-same, bracket}
use Rattle.choice.proofs.Stripped.{behind, behind-stops, stripped-cut}

-- ---- a name with a postfix

-- what is read of a part, or of a locale, is the same of any front that holds it
marked-take : (mark n : ℕ) (s : List ℕ) → part_length mark s ≤ n → part_length mark (take n s) ≡ part_length mark s
unfolding part_length
marked-take mark zero [] h = refl
marked-take mark (suc n) [] h = refl
marked-take mark zero (b ∷ s) h = go (eqb b mark) h
  where
    go : (t : Bool) → pick t (suc (span key_byte s)) 0 ≤ 0 → 0 ≡ pick t (suc (span key_byte s)) 0
    go true h = absurd (omega arith)
    go false h = refl
marked-take mark (suc n) (b ∷ s) h = go (eqb b mark) h
  where
    go : (t : Bool) → pick t (suc (span key_byte s)) 0 ≤ suc n → pick t (suc (span key_byte (take n s))) 0 ≡ pick t (suc (span key_byte s)) 0
    go true h = ap suc (span-take key_byte n s (omega arith))
    go false h = refl

parts-take : (n : ℕ) (s : List ℕ) → locale_end (parts s) ≤ n → parts (take n s) ≡ parts s
unfolding parts
parts-take n s h =
    let l : ℕ = span key_byte s in
    let c : ℕ = part_length 95 (drop l s) in
    let e : ℕ = part_length 46 (drop (l + c) s) in
    rw (
      span-take key_byte n s (omega arith),
      drop-take l n s,
      marked-take 95 (n - l) (drop l s) (omega arith),
      drop-take (l + c) n s,
      marked-take 46 (n - (l + c)) (drop (l + c) s) (omega arith),
      drop-take (l + c + e) n s,
      marked-take 64 (n - (l + c + e)) (drop (l + c + e) s) (omega arith),
    )

-- a name that goes on behind its key has a postfix
pub record Opened (line : List ℕ) (k n : ℕ) : Type 0 where
  pub opens : part k n line ≡ 91 ∷ part (k + 1) n line
  pub closes : Closed (part (k + 1) n line)

pub name-opened : (line : List ℕ) (k n : ℕ) → read_name line ≡ Ok (name_of k n) → (n ≡ k → ⊥) → Opened line k n
name-opened line k n e i = go (is_name_lem line k n e) (rw e at (name-within line))
  where
    y : List ℕ
    y = drop (k + 1) line

    go : IsName line k n → NamedWithin (length line) (Ok (name_of k n)) → Opened line k n
    go (plain-name a b c d) w = absurd (i d)
    go (postfixed a b c d f g) w =
        let s : ℕ = locale_end (parts y) in
        let j : n - k ≡ suc (n - (k + 1)) = omega arith in
        let q : n - (k + 1) ≡ s + 1 = omega arith in
        let p : parts (take (s + 1) y) ≡ parts y = parts-take (s + 1) y (omega arith) in
        let m : k < length line = omega (arith, w) in
        record {
          opens = rw (j, here line k m, eqb-true (byte_at line k) 91 c);
          closes = rw q (record {
            ends = rw p (length-take-le (s + 1) y (omega (arith, w, length-drop (k + 1) line)));
            bracket = rw p (get_or-take (s + 1) y s 0 (omega arith) ∙ get_or-drop (k + 1) line s 0 ∙ eqb-true _ _ f);
          });
        }

-- ---- the rank of a line's key

-- each of some bytes follows a plain key
abbrev AllStop : List (List ℕ) → Type 0
AllStop [] = Unit
AllStop (v ∷ vs) = Stops v × AllStop vs

-- among keys of one plain key, what follows it decides
rank-cut : (key x u : List ℕ) → all key_byte key ≡ true → all key_byte x ≡ true → Stops u → (vs : List (List ℕ)) → AllStop vs
    → rank_in (map (λ v. key ++ v) vs) (x ++ u) ≡ pick (same key x) (rank_in vs u) (length vs)
unfolding rank_in
rank-cut key x u i j h [] k = by (same key x)
  where
    by : (t : Bool) → ◌≡◌ {A = ℕ} 0 (pick t 0 0)
    by true = refl
    by false = refl
rank-cut key x u i j h (v ∷ vs) k = rw (cut-same key x v u i j k.0 h, rank-cut key x u i j h vs k.1) (by (same key x))
  where
    by : (t : Bool) → pick (t && same v u) 0 (suc (pick t (rank_in vs u) (length vs))) ≡ pick t (pick (same v u) 0 (suc (rank_in vs u))) (suc (length vs))
    by true = refl
    by false = refl

module _ (key locale : List ℕ) (plain : all key_byte key ≡ true) where
  keys-front : (cs : List (List ℕ)) → map (spec.postfixed key) cs ++ (key ∷ []) ≡ map (λ v. key ++ v) (map (spec.postfixed []) cs ++ ([] ∷ []))
  keys-front [] = ap (λ (k : List ℕ). k ∷ []) (sym (append-nil key))
  keys-front (c ∷ cs) = rw (append_assoc (key ++ (91 ∷ [])) c bracket, append_assoc key (91 ∷ []) (c ++ bracket), keys-front cs)

  keys-stop : (cs : List (List ℕ)) → AllStop (map (spec.postfixed []) cs ++ ([] ∷ []))
  unfolding key_byte
  keys-stop [] = (tt, tt)
  keys-stop (c ∷ cs) = (refl, keys-stop cs)

  module _ (line : List ℕ) (k n : ℕ) (e : read_name line ≡ Ok (name_of k n)) where
    within : (k ≤ n) × (n ≤ length line)
    within = let w = rw e at (name-within line) in (w.1, w.2)

    rank-line : rank_in (all_keys key locale) (stripped_key (take n line)) ≡ pick (same key (take k line)) (rank_in (all_keys [] locale) (behind (part k n line))) 5
    rank-line =
        let x : List ℕ = take n line in
        let s = name-key line k n (is_name_lem line k n e) in
        let i : span key_byte x ≡ k = span-take key_byte n line (omega (arith, within.0)) ∙ sym s in
        let c : stripped_key x ≡ take k line ++ behind (part k n line) = stripped-cut x ∙ rw (i, take-take k n line within.0, drop-take k n line) in
        let d : Stops (part k n line) = rw (i, drop-take k n line) at (rest-stops x) in
        let z : all key_byte (take k line) ≡ true = rw (← s) at (front-keys line) in
        rw (c, keys-front (all_candidates locale))
        (rank-cut key (take k line) (behind (part k n line)) plain z (behind-stops (part k n line) d) (map (spec.postfixed []) (all_candidates locale) ++ ([] ∷ [])) (keys-stop (all_candidates locale)))

    -- the line begins with the key if it is as long as the line's key
    front_same : same key (take k line) ≡ (eqb k (length key) && same key (take (length key) line))
    front_same =
        by-test (eqb k (length key))
        (λ i. rw (i, eqb-true k (length key) i))
        (λ i. rw i
        (by-test (same key (take k line)) (λ t. absurd (eqb-false k (length key) i (sym (ap length (same_true key (take k line) t) ∙ length-take-le k line (omega (arith, within))))))
        (λ t. t)))

    -- it has another plain key
    pub rank-other : (eqb k (length key) && same key (take (length key) line)) ≡ false → 5 ≡ rank_in (all_keys key locale) (stripped_key (take n line))
    rank-other i = sym (rank-line ∙ rw (front_same ∙ i))

    -- it has this one
    rank-behind : k ≡ length key → same key (take (length key) line) ≡ true → rank_in (all_keys [] locale) (behind (part k n line)) ≡ rank_in (all_keys key locale) (stripped_key (take n line))
    rank-behind i j = sym (rank-line ∙ rw (i, j))

    pub rank-plain : k ≡ length key → same key (take (length key) line) ≡ true → n ≡ k → 4 ≡ rank_in (all_keys key locale) (stripped_key (take n line))
    unfolding rank_in same
    rank-plain i j m = let z : n - k ≡ 0 = omega arith in rw z at (rank-behind i j)

    pub rank-postfixed : k ≡ length key → same key (take (length key) line) ≡ true → (n ≡ k → ⊥)
        → rank_in (all_keys [] locale) (91 ∷ stripped (part (k + 1) n line)) ≡ rank_in (all_keys key locale) (stripped_key (take n line))
    rank-postfixed i j m =
        rw (name-opened line k n e m).opens at (rank-behind i j)

  -- the same of a line, whatever it names
  pub line_other : (line : List ℕ) → same key (take (length key) line) ≡ false → 5 ≡ rank_of (all_keys key locale) line (read_name line)
  line_other line f = go (read_name line) refl
    where
      go : (r : Result Name ℕ) → read_name line ≡ r → 5 ≡ rank_of (all_keys key locale) line r
      go (Ok n) e = rank-other line n.key n.name e (rw (f, and-false (eqb n.key (length key))))
      go (Err n) e = refl
