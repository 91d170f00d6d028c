-- The elements of a raw value, one after another, as the loops take them. Assumes nothing.
use Rattle.std.specs.Prelude.{Option, Some, None, Ok, Err}
use mathlib.Core.Path.{◌≡◌, refl, sym, ap, ◌∙◌}
use Prim.Native.Nat.{ℕ, suc, ◌+◌, ◌-◌, ◌≤◌, ◌<◌}
use native.Mathlib.Omega.{arith}
use mathlib.Core.Bool.{Bool, true, false, false≢true}
use mathlib.Core.List.{List, [], ◌∷◌, ◌++◌}
use lib.ListN.{length, take, drop, length-append, length-drop}
use lib.Seq.{drop-drop, length-take-le}
use lib.Dec.{eqb, leb, ltb}
use borrow.Author.Tests.{leb-true, leb-false}
use Rattle.base.specs.Choice.{pick, maybe}
use Rattle.base.specs.Lists.{all, before, joined}
use Rattle.base.specs.Over.{over, at_front}
use Rattle.base.proofs.Scan.{done}
use Rattle.base.proofs.Tests.{no}
use Rattle.base.proofs.Fill.{Fill, fill_start, fill-length, fill-as, fill-over, fill_end}
use Rattle.characters.specs.Bare.{bare_length}
use Rattle.fault.specs.declared.Fault.{Fault}
use Rattle.fault.specs.declared.Fault.TheVariants.{BadEscape, NoRoom}
use Rattle.fault.specs.Answer.{Answer, ◌>>=◌, need, then, accepted}
use Rattle.fault.proofs.Answers.{given_is, then-given, then-refused, bind-then}
use Rattle.record.specs.Record.{record_length, record_bytes, list_bytes, list_of}
use Rattle.record.proofs.Sizes.{length-record, list-of-cons}
use Rattle.text.specs.Escape.{escape, text_from}
use Rattle.text.specs.Element.{raw_elements, each_read, elements_of, fits_record, read_elements}
use Rattle.text.specs.Step.{text_of, elements_in, spend, spend_record, spend_all, element_length}
use Rattle.text.specs.declared.Escapes.{Escapes}
use Rattle.text.specs.declared.Escapes.TheVariants as escapes
use Rattle.text.proofs.OutputLaws.{Leaves, leaves-refused, leaves-full, leaves-written}

-- ---- the text of some bytes does not depend on their place, and the place of a wrong escape moves with it

-- how many bytes stand where the place of a wrong escape is counted: the backslash that was passed is one of them
abbrev extent : Bool → List ℕ → ℕ
extent true s = suc (length s)
extent false s = length s

abbrev Everywhere : Escapes → List ℕ → Bool → ℕ → Answer (List ℕ) → Type 0
Everywhere k s f at (Ok t) = (m : ℕ) → text_from k s f m ≡ Ok t
Everywhere k s f at (Err g) = (p : ℕ) × (g ≡ BadEscape (at + p)) × ((m : ℕ) → text_from k s f m ≡ Err (BadEscape (m + p))) × (p ≤ extent f s)

-- w raw bytes before s stand for the byte x
before-all : (k : Escapes) (s r : List ℕ) (f : Bool) (x w at : ℕ) → ((m : ℕ) → text_from k r f m ≡ then (λ t. x ∷ t) (text_from k s false (m + w))) → w + length s ≤ extent f r
    → (a : Answer (List ℕ)) → Everywhere k s false (at + w) a → Everywhere k r f at (then (λ t. x ∷ t) a)
before-all k s r f x w at h l (Ok t) e = λ m. h m ∙ ap (then (λ u. x ∷ u)) (e (m + w))
before-all k s r f x w at h l (Err g) (p, i, e, b) =
    (w + p, i ∙ ap BadEscape (omega arith), λ m. let q : m + w + p ≡ m + (w + p) = omega arith in h m ∙ ap (then (λ u. x ∷ u)) (e (m + w)) ∙ rw q, omega arith)

wrong-all : (k : Escapes) (s : List ℕ) (f : Bool) (at : ℕ) → ((m : ℕ) → text_from k s f m ≡ Err (BadEscape m)) → Everywhere k s f at (Err (BadEscape at))
wrong-all k s f at h = (0, ap BadEscape (omega arith), λ m. let q : m + 0 ≡ m = omega arith in h m ∙ rw q, omega arith)

everywhere : (k : Escapes) (s : List ℕ) (f : Bool) (at : ℕ) → Everywhere k s f at (text_from k s f at)
unfolding text_from
everywhere k [] false at = λ m. refl
everywhere k [] true at = wrong-all k [] true at (λ m. refl)
everywhere k (b ∷ bs) true at = go (escape k b) refl (everywhere k bs false (at + 2))
  where
    go : (o : Option ℕ) → escape k b ≡ o → Everywhere k bs false (at + 2) (text_from k bs false (at + 2))
        → Everywhere k (b ∷ bs) true at (maybe o (Err (BadEscape at)) (λ x. then (λ t. x ∷ t) (text_from k bs false (at + 2))))
    go None q ih = wrong-all k (b ∷ bs) true at (λ m. rw q)
    go (Some x) q ih = before-all k bs (b ∷ bs) true x 2 at (λ m. rw q) (omega arith) (text_from k bs false (at + 2)) ih
everywhere k (b ∷ bs) false at = go (eqb b 92) refl (everywhere k bs true at) (everywhere k bs false (at + 1))
  where
    same-all : (a : Answer (List ℕ)) → eqb b 92 ≡ true → Everywhere k bs true at a → Everywhere k (b ∷ bs) false at a
    same-all (Ok t) q e = λ m. rw q (e m)
    same-all (Err g) q (p, i, e, l) = (p, i, λ m. rw q (e m), l)

    go : (t : Bool) → eqb b 92 ≡ t → Everywhere k bs true at (text_from k bs true at) → Everywhere k bs false (at + 1) (text_from k bs false (at + 1))
        → Everywhere k (b ∷ bs) false at (pick t (text_from k bs true at) (then (λ u. b ∷ u) (text_from k bs false (at + 1))))
    go true q pair single = same-all (text_from k bs true at) q pair
    go false q pair single = before-all k bs (b ∷ bs) false b 1 at (λ m. rw q) (omega arith) (text_from k bs false (at + 1)) single

module _ (k : Escapes) (s : List ℕ) (at : ℕ) where
  pub text-anywhere : accepted (text_from k s false 0) ≡ true → text_from k s false at ≡ Ok (text_of (text_from k s false 0))
  text-anywhere h = go (text_from k s false 0) h (everywhere k s false 0)
    where
      go : (a : Answer (List ℕ)) → accepted a ≡ true → Everywhere k s false 0 a → text_from k s false at ≡ Ok (text_of a)
      go (Ok t) h e = e at
      go (Err g) h e = absurd (false≢true h)

  pub wrong-anywhere : {p : ℕ} → text_from k s false 0 ≡ Err (BadEscape p) → text_from k s false at ≡ Err (BadEscape (at + p))
  wrong-anywhere {p} h = go (text_from k s false 0) h (everywhere k s false 0)
    where
      go : (a : Answer (List ℕ)) → a ≡ Err (BadEscape p) → Everywhere k s false 0 a → text_from k s false at ≡ Err (BadEscape (at + p))
      go (Ok t) h e = no (cc)
      go (Err g) h (q, i, e, l) = let y : p ≡ 0 + q = cc in let z : p ≡ q = omega arith in rw z (e at)

  -- a wrong escape stands in the value
  pub wrong-within : {p : ℕ} → text_from k s false 0 ≡ Err (BadEscape p) → p ≤ length s
  wrong-within {p} h = go (text_from k s false 0) h (everywhere k s false 0)
    where
      go : (a : Answer (List ℕ)) → a ≡ Err (BadEscape p) → Everywhere k s false 0 a → p ≤ length s
      go (Ok t) h e = no (cc)
      go (Err g) h (q, i, e, l) = let y : p ≡ 0 + q = cc in omega arith

-- ---- the first raw element, and the others

-- a list split at the end of its first element
abbrev Split : List ℕ → Bool → Type 0
Split s taken = raw_elements s taken ≡ take (element_length s taken) s ∷ raw_elements (drop (element_length s taken + 1) s) false

-- a byte before a first element
one_more : (b : ℕ) (bs : List ℕ) (taken : Bool) → (0 < length bs → Split bs taken)
    → before b (raw_elements bs taken) ≡ take (suc (element_length bs taken)) (b ∷ bs) ∷ raw_elements (drop (suc (element_length bs taken) + 1) (b ∷ bs)) false
unfolding raw_elements bare_length
one_more b [] taken ih = refl
one_more b (c ∷ cs) taken ih =
    let n : ℕ = element_length (c ∷ cs) taken in
    let k : suc n + 1 ≡ suc (n + 1) = omega arith in
    let h : 0 < length (c ∷ cs) = omega arith in
    rw (ih h, k)

first-element : (s : List ℕ) (taken : Bool) → 0 < length s → Split s taken
unfolding raw_elements bare_length
first-element [] taken h = absurd (omega arith)
first-element (b ∷ bs) true h = one_more b bs false (first-element bs false)
first-element (b ∷ bs) false h = go (eqb b 59) (first-element bs (eqb b 92))
  where
    go : (t : Bool) → (0 < length bs → Split bs (eqb b 92))
        → pick t ([] ∷ raw_elements bs false) (before b (raw_elements bs (eqb b 92)))
        ≡ take (pick t 0 (suc (element_length bs (eqb b 92)))) (b ∷ bs) ∷ raw_elements (drop (pick t 0 (suc (element_length bs (eqb b 92))) + 1) (b ∷ bs)) false
    go true ih = refl
    go false ih = one_more b bs (eqb b 92) ih

element-within : (s : List ℕ) (taken : Bool) → element_length s taken ≤ length s
unfolding bare_length
element-within [] taken = omega arith
element-within (b ∷ bs) true = let h = element-within bs false in omega arith
element-within (b ∷ bs) false = go (eqb b 59) (element-within bs (eqb b 92))
  where
    go : (t : Bool) → element_length bs (eqb b 92) ≤ length bs → pick t 0 (suc (element_length bs (eqb b 92))) ≤ suc (length bs)
    go true h = omega arith
    go false h = omega arith

-- ---- at a place of a raw value

-- the elements from a place on
abbrev pub elements_at : List ℕ → ℕ → Answer (List (List ℕ))
elements_at raw i = each_read (raw_elements (drop i raw) false) i

pub elements-done : (raw : List ℕ) (i : ℕ) → length raw ≤ i → elements_at raw i ≡ Ok []
unfolding raw_elements each_read
elements-done raw i h = rw (done raw i h)

module _ (raw : List ℕ) (i : ℕ) {e : ℕ} (h : i < length raw) (q : e ≡ i + element_length (drop i raw) false) where
  pub element-end : (i ≤ e) × (e ≤ length raw)
  element-end =
      let b = element-within (drop i raw) false in
      let d = length-drop i raw in
      (omega arith, omega arith)

  -- the raw element
  abbrev pub element : List ℕ
  element = take (e - i) (drop i raw)

  -- its text, counted from its own start
  abbrev pub own : Answer (List ℕ)
  own = text_from escapes.List element false 0

  long : length element ≡ e - i
  long = let d = length-drop i raw in length-take-le (e - i) (drop i raw) (omega (arith, element-end.1))

  pub split : raw_elements (drop i raw) false ≡ element ∷ raw_elements (drop (e + 1) raw) false
  split =
      let d : 0 < length (drop i raw) = simp length-drop (omega arith) in
      let m : e - i ≡ element_length (drop i raw) false = omega arith in
      let n : i + (element_length (drop i raw) false + 1) ≡ e + 1 = omega arith in
      rw (m, ← n, ← drop-drop (element_length (drop i raw) false + 1) i raw) (first-element (drop i raw) false d)

  next : i + length element + 1 ≡ e + 1
  next = omega (arith, long, element-end.0)

  -- its text, counted from the start of the raw value
  abbrev pub placed : Answer (List ℕ)
  placed = text_from escapes.List element false i

  pub element-wrong : {f : Fault} → placed ≡ Err f → elements_at raw i ≡ Err f
  unfolding each_read
  element-wrong w = rw (split, w)

  element-given : {t : List ℕ} → placed ≡ Ok t → elements_at raw i ≡ then (λ ts. t ∷ ts) (elements_at raw (e + 1))
  unfolding each_read
  element-given {t} g = rw (split, g, next) (bind-then (λ ts. t ∷ ts) (elements_at raw (e + 1)))

  pub element-read : accepted own ≡ true → elements_at raw i ≡ then (λ ts. text_of own ∷ ts) (elements_at raw (e + 1))
  element-read a = element-given (text-anywhere escapes.List element i a)

-- ---- the room that is left

spend-cons : (room : Option ℕ) (t : List ℕ) (a : Answer (List (List ℕ))) → then (spend_all room) (then (λ ts. t ∷ ts) a) ≡ then (spend_all (spend_record room (length t))) a
unfolding spend_all
spend-cons room t (Ok ts) = refl
spend-cons room t (Err f) = refl

pub record RoomLeft (raw : List ℕ) (room i : ℕ) (rest : Option ℕ) : Type 0 where
  pub goes : then (spend_all rest) (elements_at raw i) ≡ then (spend_all (Some room)) (elements_of raw)

pub room-start : (raw : List ℕ) (room : ℕ) → RoomLeft raw room 0 (Some room)
unfolding elements_of
room-start raw room = record { goes = refl }

module _ {raw : List ℕ} {room i : ℕ} {rest : Option ℕ} (s : RoomLeft raw room i rest) where
  pub room-end : length raw ≤ i → Ok rest ≡ then (spend_all (Some room)) (elements_of raw)
  unfolding spend_all
  room-end h = rw (elements-done raw i h) at s.goes

  module _ {e : ℕ} (h : i < length raw) (q : e ≡ i + element_length (drop i raw) false) where
    pub room-wrong : {f : Fault} → Err f ≡ then length (placed raw i h q) → Err f ≡ then (spend_all (Some room)) (elements_of raw)
    room-wrong w = rw (element-wrong raw i h q (then-refused length (placed raw i h q) w)) at s.goes

    -- its place is inside
    pub room-place : {p : ℕ} → Err (BadEscape p) ≡ then length (own raw i h q) → i + p ≤ length raw
    room-place {p} w =
        let b = wrong-within escapes.List (element raw i h q) 0 (then-refused length (own raw i h q) w) in
        omega (arith, long raw i h q, element-end raw i h q)

    pub room_next : {n : ℕ} {rest' : Option ℕ} → Ok n ≡ then length (placed raw i h q) → rest' ≡ spend_record rest n → RoomLeft raw room (e + 1) rest'
    room_next {n} w r =
        let (t, g) = then-given length (placed raw i h q) w in
        let l : n ≡ length t = given_is n (length t) (w ∙ ap (then length) g) in
        record { goes = rw (r, l) (sym (spend-cons rest t (elements_at raw (e + 1))) ∙ rw (element-given raw i h q g) at s.goes) }

-- ---- what the room that is left says

short-record : (n : ℕ) → spend_record None n ≡ None
unfolding spend_record spend
short-record n = go (ltb (6 + n) 0x100000000)
  where
    go : (t : Bool) → ◌≡◌ {A = Option ℕ} (pick t None None) None
    go true = refl
    go false = refl

short-stays : (es : List (List ℕ)) → spend_all None es ≡ None
unfolding spend_all
short-stays [] = refl
short-stays (e ∷ es) = rw (short-record (length e)) (short-stays es)

length-cons : (e : List ℕ) (es : List (List ℕ)) → length (list_of 2 (e ∷ es)) ≡ record_length e + length (list_of 2 es)
length-cons e es = rw (list-of-cons 2 e es, length-append, length-record)

-- every element has its record, and there is room for all
abbrev Enough : ℕ → List (List ℕ) → Option ℕ → Type 0
Enough room es (Some n) = (all fits_record es ≡ true) × (length (list_of 2 es) ≤ room)
Enough room es None = (all fits_record es ≡ true) → room < length (list_of 2 es)

enough : (es : List (List ℕ)) (room : ℕ) → Enough room es (spend_all (Some room) es)
unfolding spend_all spend_record spend all
enough [] room = (refl, unfold list_of list_bytes joined in omega arith)
enough (e ∷ es) room = go (fits_record e) (leb (record_length e) room) refl refl (enough es (room - record_length e))
  where
    fits_more : (x : Option ℕ) → leb (record_length e) room ≡ true → Enough (room - record_length e) es x → fits_record e ≡ true → Enough room (e ∷ es) x
    fits_more (Some n) l w f =
        let c = length-cons e es in
        let b = leb-true (record_length e) room l in
        (rw f w.0, omega (arith, w.1))
    fits_more None l w f =
        λ a.
        let c = length-cons e es in
        let b = leb-true (record_length e) room l in
        let z : room - record_length e < length (list_of 2 es) = w (rw f at a) in
        omega arith

    go : (t u : Bool) → fits_record e ≡ t → leb (record_length e) room ≡ u → Enough (room - record_length e) es (spend_all (Some (room - record_length e)) es)
        → Enough room (e ∷ es) (spend_all (pick t (pick u (Some (room - record_length e)) None) None) es)
    go true true f l ih = fits_more (spend_all (Some (room - record_length e)) es) l ih f
    go true false f l ih = rw (short-stays es) (λ a. let c = length-cons e es in let b = leb-false (record_length e) room l in omega arith)
    go false u f l ih = rw (short-stays es) (λ a. absurd (false≢true (rw f at a)))

-- ---- the whole answer

module _ (raw out : List ℕ) where
  pub list-refused : {f : Fault} → Err f ≡ then (spend_all (Some (length out))) (elements_of raw) → Leaves (read_elements raw) out (Err f) out
  unfolding read_elements
  list-refused {f} w = go (elements_of raw) w
    where
      go : (a : Answer (List (List ℕ))) → Err f ≡ then (spend_all (Some (length out))) a
          → Leaves (a >>= λ es. need (all fits_record es) NoRoom >>= λ _. Ok (list_of 2 es)) out (Err f) out
      go (Ok es) w = no (cc)
      go (Err g) w = let z : ◌≡◌ {A = Answer (List ℕ)} (Err g) (Err f) = cc in leaves-refused (Err g) f out z

  pub list-short : Ok None ≡ then (spend_all (Some (length out))) (elements_of raw) → Leaves (read_elements raw) out (Err NoRoom) out
  unfolding read_elements
  list-short w = go (elements_of raw) w
    where
      go : (a : Answer (List (List ℕ))) → Ok None ≡ then (spend_all (Some (length out))) a
          → Leaves (a >>= λ es. need (all fits_record es) NoRoom >>= λ _. Ok (list_of 2 es)) out (Err NoRoom) out
      go (Err g) w = no (cc)
      go (Ok es) w = by (all fits_record es) refl (enough es (length out))
        where
          z : spend_all (Some (length out)) es ≡ None
          z = cc

          by : (t : Bool) → all fits_record es ≡ t → Enough (length out) es (spend_all (Some (length out)) es)
              → Leaves (need t NoRoom >>= λ _. Ok (list_of 2 es)) out (Err NoRoom) out
          by true f n = leaves-full (Ok (list_of 2 es)) out refl ((rw z at n) f)
          by false f n = leaves-refused (Err NoRoom) NoRoom out refl

  module _ {n : ℕ} (w : Ok (Some n) ≡ then (spend_all (Some (length out))) (elements_of raw)) where
    fits : (a : Answer (List (List ℕ))) → Ok (Some n) ≡ then (spend_all (Some (length out))) a
        → (accepted a ≡ true) × (all fits_record (elements_in a) ≡ true) × (length (list_of 2 (elements_in a)) ≤ length out)
    fits (Err g) w = no (cc)
    fits (Ok es) w =
        let z : spend_all (Some (length out)) es ≡ Some n = cc in
        let e = rw z at (enough es (length out)) in
        (refl, e.0, e.1)

    pub list-fits : (accepted (elements_of raw) ≡ true) × (length (list_of 2 (elements_in (elements_of raw))) ≤ length out)
    list-fits = let f = fits (elements_of raw) w in (f.0, f.2)

    pub list_written : {out' : List ℕ} {r : ℕ}
        → (r ≡ length (list_of 2 (elements_in (elements_of raw)))) × (out' ≡ at_front out (list_of 2 (elements_in (elements_of raw))))
        → Leaves (read_elements raw) out (Ok r) out'
    unfolding read_elements
    list_written {out'} {r} p = go (elements_of raw) (fits (elements_of raw) w) p
      where
        go : (a : Answer (List (List ℕ))) → (accepted a ≡ true) × (all fits_record (elements_in a) ≡ true) × (length (list_of 2 (elements_in a)) ≤ length out)
            → (r ≡ length (list_of 2 (elements_in a))) × (out' ≡ at_front out (list_of 2 (elements_in a)))
            → Leaves (a >>= λ es. need (all fits_record es) NoRoom >>= λ _. Ok (list_of 2 es)) out (Ok r) out'
        go (Err g) f p = absurd (false≢true f.0)
        go (Ok es) f p = rw f.1 (leaves-written (Ok (list_of 2 es)) out refl f.2 p)

-- ---- writing: what is written and the records of the elements from the place on are the whole

pub record Listing (raw out₀ out : List ℕ) (i at : ℕ) : Type 0 where
  pub sound : accepted (elements_at raw i) ≡ true
  pub room : length (list_of 2 (elements_in (elements_of raw))) ≤ length out₀
  pub fill : Fill out₀ (list_of 2 (elements_in (elements_of raw))) out at (list_of 2 (elements_in (elements_at raw i)))

pub listing_start : (raw out : List ℕ) → (accepted (elements_of raw) ≡ true) × (length (list_of 2 (elements_in (elements_of raw))) ≤ length out) → Listing raw out out 0 0
unfolding elements_of
listing_start raw out p = record { sound = p.0; room = p.1; fill = fill_start out (list_of 2 (elements_in (elements_of raw))) }

elements-cons : (t : List ℕ) (a : Answer (List (List ℕ))) → accepted (then (λ ts. t ∷ ts) a) ≡ true
    → (elements_in (then (λ ts. t ∷ ts) a) ≡ t ∷ elements_in a) × (accepted a ≡ true)
elements-cons t (Ok ts) e = (refl, refl)
elements-cons t (Err f) e = absurd (false≢true e)

module _ {raw out₀ out : List ℕ} {i at : ℕ} (w : Listing raw out₀ out i at) where
  pub listing-end : length raw ≤ i → (at ≡ length (list_of 2 (elements_in (elements_of raw)))) × (out ≡ at_front out₀ (list_of 2 (elements_in (elements_of raw))))
  listing-end h = fill_end (fill-as w.fill (ap (λ (a : Answer (List (List ℕ))). list_of 2 (elements_in a)) (elements-done raw i h) ∙ unfold list_of list_bytes joined in refl))

  module _ {e : ℕ} (h : i < length raw) (q : e ≡ i + element_length (drop i raw) false) where
    -- an element whose escapes are all known, since the whole value's are
    pub own-sound : accepted (own raw i h q) ≡ true
    own-sound = go (own raw i h q) refl
      where
        go : (a : Answer (List ℕ)) → own raw i h q ≡ a → accepted a ≡ true
        go (Ok t) z = refl
        go (Err g) z = wrong g z (everywhere escapes.List (element raw i h q) false 0)
          where
            wrong : (g : Fault) → own raw i h q ≡ Err g → Everywhere escapes.List (element raw i h q) false 0 (own raw i h q) → false ≡ true
            wrong g z v =
                let (p, k, m, l) = rw z at v in
                sym (ap accepted (element-wrong raw i h q (m i))) ∙ w.sound

    abbrev body : List ℕ
    body = text_of (own raw i h q)

    next-elements : (elements_in (elements_at raw i) ≡ body ∷ elements_in (elements_at raw (e + 1))) × (accepted (elements_at raw (e + 1)) ≡ true)
    next-elements =
        let r = element-read raw i h q own-sound in
        let c = elements-cons body (elements_at raw (e + 1)) (rw r at w.sound) in
        (ap elements_in r ∙ c.0, c.1)

    filling : Fill out₀ (list_of 2 (elements_in (elements_of raw))) out at (record_bytes (record { kind = 2; body = body }) ++ list_of 2 (elements_in (elements_at raw (e + 1))))
    filling = fill-as w.fill (ap (list_of 2) next-elements.0 ∙ list-of-cons 2 body (elements_in (elements_at raw (e + 1))))

    pub listing-room : at + record_length (text_of (own raw i h q)) ≤ length out
    listing-room =
        let l = fill-length filling in
        let a = length-append (record_bytes (record { kind = 2; body = body })) (list_of 2 (elements_in (elements_at raw (e + 1)))) in
        let r = length-record (record { kind = 2; body = body }) in
        let f = filling.long in
        omega (arith, w.room)

    pub listing-next : {out' : List ℕ} {r : ℕ}
        → (r ≡ at + record_length (text_of (own raw i h q))) × (out' ≡ over out at (record_bytes (record { kind = 2; body = text_of (own raw i h q) })))
        → Listing raw out₀ out' (e + 1) r
    listing-next p =
        let n : at + length (record_bytes (record { kind = 2; body = body })) ≡ at + record_length body = ap (λ (m : ℕ). at + m) (length-record (record { kind = 2; body = body })) in
        record {
          sound = next-elements.1;
          room = w.room;
          fill = rw (p.0, p.1, ← n) (fill-over (record_bytes (record { kind = 2; body = body })) (list_of 2 (elements_in (elements_at raw (e + 1)))) filling w.room);
        }
