-- The place of a bad line's byte is right: after it no ending makes a good line, and before it some ending does. Assumes nothing.
use Rattle.std.specs.Prelude.{Option, Some, None, Result, Ok, Err}
use mathlib.Core.Path.{◌≡◌, refl, sym, ap, ◌∙◌}
use Prim.Native.Nat.{ℕ, suc, ◌+◌, ◌≤◌, ◌<◌}
use native.Mathlib.Omega.{arith}
use mathlib.Core.Bool.{Bool, true, false}
use mathlib.Core.List.{List, [], ◌∷◌, ◌++◌, append_assoc}
use lib.ListN.{length, take, drop, length-append, length-drop, take-append-drop}
use lib.Seq.{length-take-le, drop-append-le, get_or-append_seam}
use lib.Dec.{eqb}
use borrow.Author.Tests.{eqb-true, eq-eqb, ne_eqb}
use Rattle.base.specs.Lists.{span, all}
use Rattle.base.proofs.Tests.{no}
use Rattle.base.proofs.Span.{cut_inside, span_same, span-same-at}
use Rattle.characters.specs.Class.{group_byte, space_byte, blank_byte, value_byte}
use Rattle.characters.specs.Utf8.{text_fault}
use Rattle.characters.specs.declared.Due.TheVariants.{Start}
use Rattle.characters.proofs.Endings.{fault-inside}
use Rattle.line.specs.Name.{byte_at, read_name}
use Rattle.line.specs.Line.{entry_after, entry_of, read_entry, read_header, read_line, is_bad}
use Rattle.line.specs.Place.{BadWithin, BadByte, Mended, GoodBefore}
use Rattle.line.specs.declared.Name.{Name}
use Rattle.line.specs.declared.Line.TheVariants.{Header, Bad}
use Rattle.line.proofs.Fronts.{byte-same, name-same, after_same}
use Rattle.line.proofs.Cases.{sign_at, value_at, after_by, header_by, blank_by, first_by, line_first}
use Rattle.line.proofs.Ending.{name-closed, after-sign, sign-next, after-mended}
use Rattle.line.proofs.Bounds.{line-within}

pub bad-within : BadWithin
bad-within s n e = rw e at (line-within s)

-- ---- after the byte

module _ (w p v : List ℕ) where
  after-bad : (key name n : ℕ) → entry_after (p ++ v) key name ≡ Bad n → n < length p → (name < length p) × (entry_after (p ++ w) key name ≡ Bad n)
  unfolding entry_after
  after-bad key name n e h = go (eqb (byte_at (p ++ v) sign) 61) (text_fault value_byte Start (drop value (p ++ v))) refl refl e
    where
      sign : ℕ
      sign = sign_at (p ++ v) name

      value : ℕ
      value = value_at (p ++ v) name

      text : (m : ℕ) → value + m < length p → text_fault value_byte Start (drop value (p ++ v)) ≡ Some m → text_fault value_byte Start (drop value (p ++ w)) ≡ Some m
      text m h j =
          let l : value ≤ length p = omega arith in
          rw (drop-append-le value p w l) (fault-inside value_byte Start (drop value p) v w m (rw (drop-append-le value p v l) at j) (omega (arith, length-drop value p)))

      go : (t : Bool) (o : Option ℕ) → eqb (byte_at (p ++ v) sign) 61 ≡ t → text_fault value_byte Start (drop value (p ++ v)) ≡ o
          → after_by key name sign value t o ≡ Bad n → (name < length p) × (entry_after (p ++ w) key name ≡ Bad n)
      go false o i j e =
          let k : sign ≡ n = cc in
          let l : sign < length p = omega arith in
          (omega arith, rw (span-same-at space_byte w p v name (cut_inside (span space_byte w ≡ 0) p sign l), byte-same p v w sign l, i) e)
      go true None i j e = no (cc)
      go true (Some m) i j e =
          let k : value + m ≡ n = cc in
          (omega arith, after_same w p v key name (cut_inside (span space_byte w ≡ 0) p value (omega arith)) i ∙ rw (text m (omega arith) j) e)

  entry-bad : (n : ℕ) → read_entry (p ++ v) ≡ Bad n → n < length p → read_entry (p ++ w) ≡ Bad n
  unfolding read_entry
  entry-bad n e h = go (read_name (p ++ v)) refl e
    where
      go : (m : Result Name ℕ) → read_name (p ++ v) ≡ m → entry_of (p ++ v) m ≡ Bad n → entry_of (p ++ w) (read_name (p ++ w)) ≡ Bad n
      go (Ok m) i e = let r = after-bad m.key m.name n e h in rw (name-same w p v (rw i (cut_inside _ p m.name r.0)) ∙ i) r.1
      go (Err k) i e = let j : k ≡ n = cc in rw (name-same w p v (rw i (omega arith)) ∙ i) e

  header-bad : (n : ℕ) → read_header (p ++ v) ≡ Bad n → n < length p → read_header (p ++ w) ≡ Bad n
  unfolding read_header
  header-bad n e h = go (eqb end 1) (eqb (byte_at (p ++ v) end) 93) (eqb (end + 1) (length (p ++ v))) refl refl refl e
    where
      end : ℕ
      end = 1 + span group_byte (drop 1 (p ++ v))

      name : end < length p → span group_byte (drop 1 (p ++ w)) ≡ span group_byte (drop 1 (p ++ v))
      name h = span-same-at group_byte w p v 1 (cut_inside (span group_byte w ≡ 0) p end h)

      go : (t u x : Bool) → eqb end 1 ≡ t → eqb (byte_at (p ++ v) end) 93 ≡ u → eqb (end + 1) (length (p ++ v)) ≡ x
          → header_by end t u x ≡ Bad n → read_header (p ++ w) ≡ Bad n
      go true u x i j k e =
          let m : ◌≡◌ {A = ℕ} 1 n = cc in
          rw (name (omega (arith, eqb-true end 1 i)), i) e
      go false false x i j k e =
          let m : end ≡ n = cc in
          rw (name (omega arith), i, byte-same p v w end (omega arith), j) e
      go false true true i j k e = no (cc)
      go false true false i j k e =
          let m : end + 1 ≡ n = cc in
          rw (name (omega arith), i, byte-same p v w end (omega arith), j, ne_eqb (end + 1) (length (p ++ w)) (λ z. let l = length-append p w in omega arith)) e

pub line-bad : (w p v : List ℕ) (n : ℕ) → read_line (p ++ v) ≡ Bad n → n < length p → read_line (p ++ w) ≡ Bad n
line-bad w [] v n e h = absurd (omega arith)
line-bad w (b ∷ p) v n e h = line_first b (p ++ w) ∙ go (blank_byte b) (eqb b 35) (eqb b 91) (sym (line_first b (p ++ v)) ∙ e)
  where
    blank : (t : Bool) → blank_by (span blank_byte (p ++ v)) t ≡ Bad n → blank_by (span blank_byte (p ++ w)) (eqb (span blank_byte (p ++ w)) (length (p ++ w))) ≡ Bad n
    blank true e = no (cc)
    blank false e =
        let k : suc (span blank_byte (p ++ v)) ≡ n = cc in
        let l = length-append p w in
        rw (span_same blank_byte w p v (cut_inside _ p (span blank_byte (p ++ v)) (omega arith)), ne_eqb (span blank_byte (p ++ v)) (length (p ++ w)) (λ z. omega arith)) e

    go : (t u x : Bool) → first_by b (p ++ v) t u x ≡ Bad n → first_by b (p ++ w) t u x ≡ Bad n
    go true u x e = blank (eqb (span blank_byte (p ++ v)) (length (p ++ v))) e
    go false true x e = no (cc)
    go false false true e = header-bad w (b ∷ p) v n e h
    go false false false e = entry-bad w (b ∷ p) v n e h

pub bad-byte : BadByte
bad-byte s n e h t =
    let l = length-take-le (n + 1) s (omega arith) in
    ap is_bad (line-bad t (take (n + 1) s) (drop (n + 1) s) n (rw (take-append-drop (n + 1) s) e) (omega arith))

-- ---- before the byte

entry-mended : (p v : List ℕ) → 0 < length p → ((t : List ℕ) → read_line (p ++ t) ≡ read_entry (p ++ t)) → read_entry (p ++ v) ≡ Bad (length p) → Mended p
unfolding read_entry
entry-mended p v h f e = go (read_name (p ++ v)) refl e
  where
    go : (m : Result Name ℕ) → read_name (p ++ v) ≡ m → entry_of (p ++ v) m ≡ Bad (length p) → Mended p
    go (Ok n) i e = after-mended p v n.key n.name i (λ t a. ap is_bad (f t) ∙ rw a) e
    go (Err n) i e =
        let k : n ≡ length p = cc in
        let c = name-closed p v h (i ∙ ap Err k) in
        let q : List ℕ = p ++ c.close in
        record {
          ending = c.close ++ (61 ∷ []);
          bytes = c.bytes;
          good = ap is_bad (f (c.close ++ (61 ∷ []))) ∙ rw (c.named, ← append_assoc p c.close (61 ∷ []), ← length-append p c.close) (after-sign q c.key (length q) (sign-next q));
        }

-- a header of one byte
header-one : (p : List ℕ) → length p ≡ 1 → read_header (p ++ (97 ∷ 93 ∷ [])) ≡ Header 2
unfolding read_header span group_byte
header-one [] h = absurd (omega arith)
header-one (b ∷ c ∷ p) h = absurd (omega arith)
header-one (b ∷ []) h = refl

header-mended : (p v : List ℕ) → 0 < length p → ((t : List ℕ) → read_line (p ++ t) ≡ read_header (p ++ t)) → read_header (p ++ v) ≡ Bad (length p) → Mended p
unfolding read_header span group_byte all
header-mended p v h f e = go (eqb end 1) (eqb (byte_at (p ++ v) end) 93) (eqb (end + 1) (length (p ++ v))) refl refl refl e
  where
    end : ℕ
    end = 1 + span group_byte (drop 1 (p ++ v))

    name : (w : List ℕ) → span group_byte w ≡ 0 → end ≤ length p → span group_byte (drop 1 (p ++ w)) ≡ span group_byte (drop 1 (p ++ v))
    name w z h = span-same-at group_byte w p v 1 (h, λ _. z)

    go : (t u x : Bool) → eqb end 1 ≡ t → eqb (byte_at (p ++ v) end) 93 ≡ u → eqb (end + 1) (length (p ++ v)) ≡ x
        → header_by end t u x ≡ Bad (length p) → Mended p
    go true u x i j k e =
        let m : ◌≡◌ {A = ℕ} 1 (length p) = cc in
        record { ending = 97 ∷ 93 ∷ []; bytes = refl; good = ap is_bad (f (97 ∷ 93 ∷ []) ∙ header-one p (sym m)) }
    go false false x i j k e =
        let m : end ≡ length p = cc in
        let l = length-append p (93 ∷ []) in
        record {
          ending = 93 ∷ [];
          bytes = refl;
          good = ap is_bad (f (93 ∷ [])) ∙ rw (name (93 ∷ []) refl (omega arith), i, m, get_or-append_seam p 93 [] 0, eq-eqb (length p + 1) (length (p ++ (93 ∷ []))) (omega arith));
        }
    go false true true i j k e = no (cc)
    go false true false i j k e =
        let m : end + 1 ≡ length p = cc in
        let l = length-append p [] in
        record {
          ending = [];
          bytes = refl;
          good = ap is_bad (f []) ∙ rw (name [] refl (omega arith), i, byte-same p v [] end (omega arith), j, eq-eqb (end + 1) (length (p ++ [])) (omega arith));
        }

pub line-mended : (p v : List ℕ) → read_line (p ++ v) ≡ Bad (length p) → Mended p
unfolding read_line span all
line-mended [] v e = record { ending = []; bytes = refl; good = refl }
line-mended (b ∷ p) v e = go (blank_byte b) (eqb b 35) (eqb b 91) refl refl refl (sym (line_first b (p ++ v)) ∙ e)
  where
    blank : (t : Bool) → blank_byte b ≡ true → blank_by (span blank_byte (p ++ v)) t ≡ Bad (suc (length p)) → Mended (b ∷ p)
    blank true i e = no (cc)
    blank false i e =
        let k : suc (span blank_byte (p ++ v)) ≡ suc (length p) = cc in
        let l = length-append p [] in
        let z : span blank_byte (p ++ []) ≡ length (p ++ []) = span_same blank_byte [] p v (omega arith, λ _. refl) ∙ omega arith in
        record { ending = []; bytes = refl; good = ap is_bad (line_first b (p ++ [])) ∙ rw (i, eq-eqb (span blank_byte (p ++ [])) (length (p ++ [])) z) }

    go : (t u x : Bool) → blank_byte b ≡ t → eqb b 35 ≡ u → eqb b 91 ≡ x → first_by b (p ++ v) t u x ≡ Bad (suc (length p)) → Mended (b ∷ p)
    go true u x i j k e = blank (eqb (span blank_byte (p ++ v)) (length (p ++ v))) i e
    go false true x i j k e = no (cc)
    go false false true i j k e = header-mended (b ∷ p) v (omega arith) (λ t. line_first b (p ++ t) ∙ rw (i, j, k)) e
    go false false false i j k e = entry-mended (b ∷ p) v (omega arith) (λ t. line_first b (p ++ t) ∙ rw (i, j, k)) e

pub good-before : GoodBefore
good-before s n e =
    let l = length-take-le n s (bad-within s n e) in
    line-mended (take n s) (drop n s) (rw (take-append-drop n s) (e ∙ ap Bad (sym l)))
