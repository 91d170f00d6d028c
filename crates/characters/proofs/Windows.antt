-- Bytes of which each may follow the three before it are the text of a value, if no character is left unfinished. Assumes nothing.
use Rattle.std.specs.Prelude.{Some, None}
use mathlib.Core.Path.{◌≡◌, refl, sym, ap, ◌∙◌}
use Prim.Native.Nat.{ℕ, zero, suc, ◌+◌, ◌-◌, ◌≤◌, ◌<◌}
use native.Mathlib.Omega.{arith}
use mathlib.Core.Bool.{Bool, true, false, not, ◌&&◌, ◌||◌, false≢true}
use mathlib.Core.List.{List, [], ◌∷◌}
use lib.ListN.{length, take, drop, get_or, length-drop}
use lib.Seq.{drop-drop, take_all}
use lib.Dec.{eqb, leb, ltb}
use borrow.Author.Tests.{leb-true, leb-false, ltb-true, ltb-false, eqb-true, eqb-false, le-leb, lt-leb, ne_eqb, eq-eqb}
use Rattle.base.specs.Lists.{span, all}
use Rattle.base.proofs.Span.{span_last}
use Rattle.base.proofs.Scan.{here, done}
use Rattle.base.proofs.Tests.{no, by-test, and_both}
use Rattle.characters.specs.Class.{within, value_byte}
use Rattle.characters.specs.Utf8.{lead, step, text_fault}
use Rattle.characters.specs.Window.{due_after, goes_on, begins_one, followed, followed_at, FollowedTo, SoundFrom}
use Rattle.characters.specs.declared.Content.TheVariants.{Value}
use Rattle.characters.specs.declared.Due.{Due}
use Rattle.characters.specs.declared.Due.TheVariants.{Start, Tail}
use Rattle.characters.proofs.Utf8Laws.{fault-cons, step-plain, skip-fault}
use Rattle.characters.proofs.Characters.{lead-step, tail_step}

value-byte : (b : ℕ) → 32 ≤ b → b < 127 → value_byte b ≡ true
unfolding value_byte
value-byte b l h = rw (le-leb 32 b l, le-leb b 126 (omega arith))

-- ---- what is due after three bytes

pub data Ready (r q p : ℕ) : Due → Type 0 where
  between : r < 240 → q < 224 → p < 194 → Ready r q p Start
  two-1 : 194 ≤ p → q < 240 → p < 224 → Ready r q p (Tail 0 128 191)
  three-1 : {low high : ℕ} → 224 ≤ p → p < 240 → q < 240 → lead p ≡ Some (Tail 1 low high) → Ready r q p (Tail 1 low high)
  three-2 : 224 ≤ q → q < 240 → r < 240 → p < 194 → Ready r q p (Tail 0 128 191)
  four-1 : {low high : ℕ} → 240 ≤ p → p ≤ 244 → lead p ≡ Some (Tail 2 low high) → Ready r q p (Tail 2 low high)
  four-2 : 240 ≤ q → p < 194 → Ready r q p (Tail 1 128 191)
  four-3 : 240 ≤ r → q < 194 → p < 194 → Ready r q p (Tail 0 128 191)

module _ (r q p : ℕ) where
  due-p : 194 ≤ p → due_after r q p ≡ true
  due-p h = rw (le-leb 194 p h)

  due-q : 224 ≤ q → due_after r q p ≡ true
  due-q h = rw (le-leb 224 q h) (go (leb 194 p))
    where
      go : (t : Bool) → (t || true || leb 240 r) ≡ true
      go true = refl
      go false = refl

  due-r : 240 ≤ r → due_after r q p ≡ true
  due-r h = rw (le-leb 240 r h) (go (leb 194 p) (leb 224 q))
    where
      go : (t u : Bool) → (t || u || true) ≡ true
      go true u = refl
      go false true = refl
      go false false = refl

  due-none : r < 240 → q < 224 → p < 194 → due_after r q p ≡ false
  due-none hr hq hp = rw (lt-leb 194 p hp, lt-leb 224 q hq, lt-leb 240 r hr)

  due-not : due_after r q p ≡ false → (r < 240) × (q < 224) × (p < 194)
  due-not e =
      by-test (leb 194 p) (λ t. absurd (false≢true (sym e ∙ due-p (leb-true 194 p t))))
      (λ hp. by-test (leb 224 q) (λ t. absurd (false≢true (sym e ∙ due-q (leb-true 224 q t))))
      (λ hq. by-test (leb 240 r) (λ t. absurd (false≢true (sym e ∙ due-r (leb-true 240 r t))))
      (λ hr. (leb-false 240 r hr, leb-false 224 q hq, leb-false 194 p hp))))

-- ---- what a byte that may follow is

choose-first : (t g x : Bool) → ((t && g) || (not t && x)) ≡ true → t ≡ true → g ≡ true
choose-first true true x e q = refl
choose-first true false x e q = e
choose-first false g x e q = absurd (false≢true q)

choose-second : (t g x : Bool) → ((t && g) || (not t && x)) ≡ true → t ≡ false → x ≡ true
choose-second true g x e q = absurd (false≢true (sym q))
choose-second false true x e q = e
choose-second false false x e q = e

six : (a b c d e f : Bool) → (a && b && c && d && e && f) ≡ true → (a ≡ true) × (b ≡ true) × (c ≡ true) × (d ≡ true) × (e ≡ true) × (f ≡ true)
six true true true true true true h = (refl, refl, refl, refl, refl, refl)
six true true true true true false h = no (cc)
six true true true true false f h = no (cc)
six true true true false e f h = no (cc)
six true true false d e f h = no (cc)
six true false c d e f h = no (cc)
six false b c d e f h = no (cc)

pub not-true : (t : Bool) → not t ≡ true → t ≡ false
not-true true h = sym h
not-true false h = refl

-- a range that is narrower after one byte
narrow-low : (p x b low : ℕ) → not (eqb p x && ltb b low) ≡ true → p ≡ x → low ≤ b
narrow-low p x b low e q = ltb-false b low (not-true (ltb b low) (ap (λ (t : Bool). not (t && ltb b low)) (sym (eq-eqb p x q)) ∙ e))

narrow_high : (p x b high : ℕ) → not (eqb p x && ltb high b) ≡ true → p ≡ x → b ≤ high
narrow_high p x b high e q = ltb-false high b (not-true (ltb high b) (ap (λ (t : Bool). not (t && ltb high b)) (sym (eq-eqb p x q)) ∙ e))

-- what `goes_on` says
record Goes (p b : ℕ) : Type 0 where
  least : 128 ≤ b
  most : b ≤ 191
  after-e0 : p ≡ 224 → 160 ≤ b
  after-ed : p ≡ 237 → b ≤ 159
  after-f0 : p ≡ 240 → 144 ≤ b
  after-f4 : p ≡ 244 → b ≤ 143

goes_on_lem : (p b : ℕ) → goes_on p b ≡ true → Goes p b
goes_on_lem p b e =
    let s = six (leb 128 b) (leb b 191) (not (eqb p 224 && ltb b 160)) (not (eqb p 237 && ltb 159 b)) (not (eqb p 240 && ltb b 144)) (not (eqb p 244 && ltb 143 b)) e in
    record {
      least = leb-true 128 b s.0;
      most = leb-true b 191 s.1;
      after-e0 = narrow-low p 224 b 160 s.2;
      after-ed = narrow_high p 237 b 159 s.3;
      after-f0 = narrow-low p 240 b 144 s.4;
      after-f4 = narrow_high p 244 b 143 s.5;
    }

inside : (low high b : ℕ) → low ≤ b → b ≤ high → within low high b ≡ true
inside low high b l h = rw (le-leb low b l, le-leb b high h)

-- the first byte of a character of two, three or four bytes
lead-two : (b : ℕ) → 194 ≤ b → b < 224 → lead b ≡ Some (Tail 0 128 191)
unfolding lead
lead-two b l h = rw (inside 194 223 b l (omega arith))

lead-three : (b : ℕ) → 224 ≤ b → b < 240 → (b ≡ 224 → ⊥) → (b ≡ 237 → ⊥) → lead b ≡ Some (Tail 1 128 191)
unfolding lead
lead-three b l h n m = rw (le-leb 194 b (omega arith), lt-leb b 223 (omega arith), ne_eqb b 224 n, ne_eqb b 237 m, inside 225 239 b (omega arith) (omega arith))

lead-four : (b : ℕ) → 240 < b → b < 244 → lead b ≡ Some (Tail 2 128 191)
unfolding lead
lead-four b l h =
    rw (le-leb 194 b (omega arith), lt-leb b 223 (omega arith), ne_eqb b 224 (λ e. omega arith), ne_eqb b 237 (λ e. omega arith), le-leb 225 b (omega arith), lt-leb b 239 (omega arith), ne_eqb b 240 (λ e. omega arith), inside 241 243 b (omega arith) (omega arith))

-- the first bytes after which the range is narrower
lead-e0 : lead 224 ≡ Some (Tail 1 160 191)
unfolding lead
lead-e0 = refl

lead-ed : lead 237 ≡ Some (Tail 1 128 159)
unfolding lead
lead-ed = refl

lead-f0 : lead 240 ≡ Some (Tail 2 144 191)
unfolding lead
lead-f0 = refl

lead-f4 : lead 244 ≡ Some (Tail 2 128 143)
unfolding lead
lead-f4 = refl

-- a byte in the range that a first byte asks for
asked : (p : ℕ) {more low high : ℕ} (low' high' b : ℕ) → lead p ≡ Some (Tail more low high) → lead p ≡ Some (Tail more low' high') → low' ≤ b → b ≤ high' → within low high b ≡ true
asked p {more} {low} {high} low' high' b e f l h =
    let z : Some (Tail more low high) ≡ Some (Tail more low' high') = sym e ∙ f in
    let x : low ≡ low' = cc in
    let y : high ≡ high' = cc in
    rw (x, y) (inside low' high' b l h)

three-inside : (p b low high : ℕ) → 224 ≤ p → p < 240 → lead p ≡ Some (Tail 1 low high) → Goes p b → within low high b ≡ true
three-inside p b low high l h e g =
    by-test (eqb p 224) (λ t. let q = eqb-true p 224 t in asked p 160 191 b e (ap lead q ∙ lead-e0) (g.after-e0 q) g.most)
    (λ n. by-test (eqb p 237) (λ t. let q = eqb-true p 237 t in asked p 128 159 b e (ap lead q ∙ lead-ed) g.least (g.after-ed q))
    (λ m. asked p 128 191 b e (lead-three p l h (eqb-false p 224 n) (eqb-false p 237 m)) g.least g.most))

four-inside : (p b low high : ℕ) → 240 ≤ p → p ≤ 244 → lead p ≡ Some (Tail 2 low high) → Goes p b → within low high b ≡ true
four-inside p b low high l h e g =
    by-test (eqb p 240) (λ t. let q = eqb-true p 240 t in asked p 144 191 b e (ap lead q ∙ lead-f0) (g.after-f0 q) g.most)
    (λ n. by-test (eqb p 244) (λ t. let q = eqb-true p 244 t in asked p 128 143 b e (ap lead q ∙ lead-f4) g.least (g.after-f4 q))
    (λ m. let a = eqb-false p 240 n in let z = eqb-false p 244 m in asked p 128 191 b e (lead-four p (omega (arith, a)) (omega (arith, z))) g.least g.most))

-- ---- one byte more

-- what is due after it
pub record Then (q p b : ℕ) (d : Due) : Type 0 where
  pub next : Due
  pub is : step value_byte d b ≡ Some next
  pub ready : Ready q p b next

-- a byte that begins a character
begun : (q p b : ℕ) → q < 240 → p < 194 → begins_one b ≡ true → Then q p b Start
begun q p b hq hp e =
    let t = and_both (leb 32 b && not (eqb b 127) && (ltb b 128 || leb 194 b)) (leb b 244) e in
    let u = and_both (leb 32 b && not (eqb b 127)) (ltb b 128 || leb 194 b) t.0 in
    let v = and_both (leb 32 b) (not (eqb b 127)) u.0 in
    let most = leb-true b 244 t.1 in
    by-test (ltb b 128) (λ l. plain (leb-true 32 b v.0) v.1 (ltb-true b 128 l))
    (λ n. first (leb-true 194 b (right (ltb b 128) (leb 194 b) u.1 n)) most)
  where
    right : (x y : Bool) → (x || y) ≡ true → x ≡ false → y ≡ true
    right true y h n = absurd (false≢true (sym n))
    right false y h n = h

    plain : 32 ≤ b → not (eqb b 127) ≡ true → b < 128 → Then q p b Start
    plain l n h =
        let o : b ≡ 127 → ⊥ = λ z. false≢true (sym (ap not (eq-eqb b 127 z)) ∙ n) in
        let v : value_byte b ≡ true = value-byte b l (omega (arith, o)) in
        record { next = Start; is = step-plain value_byte b v v; ready = between hq (omega arith) (omega arith) }

    first : 194 ≤ b → b ≤ 244 → Then q p b Start
    first l h =
        let f : step value_byte Start b ≡ lead b = lead-step value_byte b (omega arith) in
        by-test (ltb b 224) (λ t. let k = ltb-true b 224 t in record { next = Tail 0 128 191; is = f ∙ lead-two b l k; ready = two-1 l (omega arith) k })
        (λ a. let la = ltb-false b 224 a in by-test (ltb b 240) (λ t. three f la (ltb-true b 240 t)) (λ n. four f (ltb-false b 240 n) h))
      where
        three : step value_byte Start b ≡ lead b → 224 ≤ b → b < 240 → Then q p b Start
        three f l h =
            by-test (eqb b 224) (λ t. let e = ap lead (eqb-true b 224 t) ∙ lead-e0 in record { next = Tail 1 160 191; is = f ∙ e; ready = three-1 l h (omega arith) e })
            (λ n. by-test (eqb b 237) (λ t. let e = ap lead (eqb-true b 237 t) ∙ lead-ed in record { next = Tail 1 128 159; is = f ∙ e; ready = three-1 l h (omega arith) e })
            (λ m. let e = lead-three b l h (eqb-false b 224 n) (eqb-false b 237 m) in record { next = Tail 1 128 191; is = f ∙ e; ready = three-1 l h (omega arith) e }))

        four : step value_byte Start b ≡ lead b → 240 ≤ b → b ≤ 244 → Then q p b Start
        four f l h =
            by-test (eqb b 240) (λ t. let e = ap lead (eqb-true b 240 t) ∙ lead-f0 in record { next = Tail 2 144 191; is = f ∙ e; ready = four-1 l h e })
            (λ n. by-test (eqb b 244) (λ t. let e = ap lead (eqb-true b 244 t) ∙ lead-f4 in record { next = Tail 2 128 143; is = f ∙ e; ready = four-1 l h e })
            (λ m. let a = eqb-false b 240 n in let z = eqb-false b 244 m in let e = lead-four b (omega (arith, a)) (omega (arith, z)) in record { next = Tail 2 128 191; is = f ∙ e; ready = four-1 l h e }))

-- a byte inside one
continued : (r q p b : ℕ) → followed r q p b ≡ true → due_after r q p ≡ true → Goes p b
continued r q p b e d = goes_on_lem p b (choose-first (due_after r q p) (goes_on p b) (begins_one b) e d)

pub one_more : (r q p b : ℕ) {d : Due} → Ready r q p d → followed r q p b ≡ true → Then q p b d
one_more r q p b (between hr hq hp) e = begun q p b (omega arith) hp (choose-second (due_after r q p) (goes_on p b) (begins_one b) e (due-none r q p hr hq hp))
one_more r q p b (two-1 l hq hp) e =
    let g = continued r q p b e (due-p r q p l) in
    let x = g.least in
    let y = g.most in
    record { next = Start; is = tail_step value_byte 0 128 191 b (inside 128 191 b x y); ready = between hq hp (omega arith) }
one_more r q p b (three-1 {low = low} {high = high} l h hq f) e =
    let g = continued r q p b e (due-p r q p (omega arith)) in
    let y = g.most in
    record { next = Tail 0 128 191; is = tail_step value_byte 1 low high b (three-inside p b low high l h f g); ready = three-2 l h hq (omega arith) }
one_more r q p b (three-2 l h hr hp) e =
    let g = continued r q p b e (due-q r q p l) in
    let x = g.least in
    let y = g.most in
    record { next = Start; is = tail_step value_byte 0 128 191 b (inside 128 191 b x y); ready = between h (omega arith) (omega arith) }
one_more r q p b (four-1 {low = low} {high = high} l h f) e =
    let g = continued r q p b e (due-p r q p (omega arith)) in
    let y = g.most in
    record { next = Tail 1 128 191; is = tail_step value_byte 2 low high b (four-inside p b low high l h f g); ready = four-2 l (omega arith) }
one_more r q p b (four-2 l hp) e =
    let g = continued r q p b e (due-q r q p (omega arith)) in
    let x = g.least in
    let y = g.most in
    record { next = Tail 0 128 191; is = tail_step value_byte 1 128 191 b (inside 128 191 b x y); ready = four-3 l hp (omega arith) }
one_more r q p b (four-3 l hq hp) e =
    let g = continued r q p b e (due-r r q p l) in
    let x = g.least in
    let y = g.most in
    record { next = Start; is = tail_step value_byte 0 128 191 b (inside 128 191 b x y); ready = between (omega arith) (omega arith) (omega arith) }

-- ---- all bytes

-- nothing is due at the end
finished : (r q p : ℕ) {d : Due} → Ready r q p d → due_after r q p ≡ false → text_fault value_byte d [] ≡ None
unfolding text_fault
finished r q p (between hr hq hp) z = refl
finished r q p (two-1 l hq hp) z = absurd (false≢true (sym z ∙ due-p r q p l))
finished r q p (three-1 l h hq f) z = absurd (false≢true (sym z ∙ due-p r q p (omega arith)))
finished r q p (three-2 l h hr hp) z = absurd (false≢true (sym z ∙ due-q r q p l))
finished r q p (four-1 l h f) z = absurd (false≢true (sym z ∙ due-p r q p (omega arith)))
finished r q p (four-2 l hp) z = absurd (false≢true (sym z ∙ due-q r q p (omega arith)))
finished r q p (four-3 l hq hp) z = absurd (false≢true (sym z ∙ due-r r q p l))

-- the places from one on, and those from another on that come before the first end
pub followed-join : (s : List ℕ) (a b c d : ℕ) → FollowedTo s a b → FollowedTo s c d → c ≤ b → FollowedTo s a d
followed-join s a b c d f g h k l m = by-test (ltb k b) (λ t. f k l (ltb-true k b t)) (λ n. let o = ltb-false k b n in g k (omega arith) m)

module _ (s : List ℕ) (at : ℕ) (w : SoundFrom s at) where
  run : (n k : ℕ) {d : Due} → at ≤ k → k + 3 + n ≡ length s → Ready (get_or s k 0) (get_or s (k + 1) 0) (get_or s (k + 2) 0) d → text_fault value_byte d (drop (k + 3) s) ≡ None
  run zero k {d} h e y =
      let a : length s - 3 ≡ k = omega arith in
      let b : length s - 2 ≡ k + 1 = omega arith in
      let c : length s - 1 ≡ k + 2 = omega arith in
      rw (done s (k + 3) (omega arith)) (finished (get_or s k 0) (get_or s (k + 1) 0) (get_or s (k + 2) 0) y (rw (a, b, c) at w.none_due))
  run (suc n) k {d} h e y =
      let t = one_more (get_or s k 0) (get_or s (k + 1) 0) (get_or s (k + 2) 0) (get_or s (k + 3) 0) y (w.all_follow k h (omega arith)) in
      let a : k + 1 + 1 ≡ k + 2 = omega arith in
      let b : k + 1 + 2 ≡ k + 3 = omega arith in
      let c : k + 1 + 3 ≡ k + 3 + 1 = omega arith in
      let ih : text_fault value_byte t.next (drop (k + 1 + 3) s) ≡ None = run n (k + 1) (omega arith) (omega arith) (rw (a, b) t.ready) in
      rw (here s (k + 3) (omega arith), fault-cons value_byte d (get_or s (k + 3) 0) (drop (k + 3 + 1) s), t.is, ← c, ih)

  -- the bytes behind the first three are a value's text, where nothing is due after these
  pub followed-sound : at + 3 ≤ length s → due_after (get_or s at 0) (get_or s (at + 1) 0) (get_or s (at + 2) 0) ≡ false → text_fault value_byte Start (drop (at + 3) s) ≡ None
  followed-sound h e =
      let b = due-not (get_or s at 0) (get_or s (at + 1) 0) (get_or s (at + 2) 0) e in
      run (length s - (at + 3)) at (omega arith) (omega arith) (between b.0 b.1 b.2)

-- ---- loops

pub followed-none : (s : List ℕ) (i k : ℕ) → k ≡ i → FollowedTo s i k
followed-none s i k e j l h = absurd (omega arith)

pub followed-more : (s : List ℕ) (i k : ℕ) → FollowedTo s i k → followed_at s k ≡ true → FollowedTo s i (k + 1)
followed-more s i k f e j l h = by-test (ltb j k) (λ t. f j l (ltb-true j k t)) (λ n. let o = ltb-false j k n in let q : j ≡ k = omega arith in rw q e)

-- no due byte is asked, where less is looked at
pub sound-less : (s : List ℕ) (a b : ℕ) → a ≤ b → SoundFrom s a → SoundFrom s b
sound-less s a b h w = record { all_follow = λ k l m. w.all_follow k (omega arith) m; none_due = w.none_due }

-- plain bytes in front change nothing
pub plain-front : (n : ℕ) (s : List ℕ) → all value_byte (take n s) ≡ true → text_fault value_byte Start (drop n s) ≡ None → text_fault value_byte Start s ≡ None
unfolding all
plain-front zero s e f = f
plain-front (suc n) [] e f = f
plain-front (suc n) (b ∷ s) e f =
    let q = and_both (value_byte b) (all value_byte (take n s)) e in
    rw (fault-cons value_byte Start b s, step-plain value_byte b q.0 q.0, plain-front n s q.1 f)

-- plain bytes to the end, as the last sixteen show
pub plain-last : (s : List ℕ) (k : ℕ) → 16 ≤ length s → k ≤ length s → length s ≤ k + 16 → all value_byte (take 16 (drop (length s - 16) s)) ≡ true → text_fault value_byte Start (drop k s) ≡ None
unfolding text_fault
plain-last s k h l m e =
    let d = length-drop (length s - 16) s in
    let t : take 16 (drop (length s - 16) s) ≡ drop (length s - 16) s = take_all 16 (drop (length s - 16) s) (omega arith) in
    let q : length s ≡ k + span value_byte (drop k s) = span_last value_byte s (length s - 16) k (omega arith) l (ap (all value_byte) (sym t) ∙ e) in
    sym (skip-fault Value (drop k s)) ∙ rw (drop-drop, ← q, done s (length s) (omega arith))

-- bytes that may follow from a place on
pub rest-sound : (s : List ℕ) (k : ℕ) → 3 ≤ k → k ≤ length s → due_after (get_or s (k - 3) 0) (get_or s (k - 2) 0) (get_or s (k - 1) 0) ≡ false → SoundFrom s (k - 3)
    → text_fault value_byte Start (drop k s) ≡ None
rest-sound s k h l d w =
    let a : k - 3 + 1 ≡ k - 2 = omega arith in
    let b : k - 3 + 2 ≡ k - 1 = omega arith in
    let c : k - 3 + 3 ≡ k = omega arith in
    rw c at (followed-sound s (k - 3) w (omega arith) (rw (a, b) d))
