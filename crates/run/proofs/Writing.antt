-- What writes one behind another leave, and an output that is filled by the items of a list and by words. Assumes nothing.
use Rattle.std.specs.Prelude.{Option, Some, None, option_map}
use mathlib.Core.Path.{◌≡◌, refl, sym, ap, ◌∙◌}
use Prim.Native.Nat.{ℕ, ◌+◌, ◌-◌, ◌≤◌, ◌<◌}
use native.Mathlib.Nat.{zero-add}
use native.Mathlib.Omega.{arith}
use mathlib.Core.Bool.{true, false}
use mathlib.Core.List.{List, [], ◌∷◌, ◌++◌, append-nil, append_assoc}
use lib.ListN.{length, drop, get_or, length-append}
use lib.Seq.{take_at, drop_at, drop-drop}
use lib.Dec.{eqb}
use borrow.Author.Tests.{eqb-true, eqb-false, ne_eqb}
use Rattle.base.specs.Bounds.{list_most}
use Rattle.base.specs.Choice.{maybe, there}
use Rattle.base.specs.Lists.{ascii, part}
use Rattle.base.specs.Over.{over, at_front}
use Rattle.base.proofs.Over.{over-tail}
use Rattle.base.proofs.Tail.{lent, back}
use Rattle.base.proofs.Lists.{length_part}
use Rattle.base.proofs.Tests.{no, by-test}
use Rattle.record.specs.Record.{head_bytes, record_length, record_bytes, whole, list_of, read_list}
use Rattle.record.proofs.Sizes.{length-head, list-of-cons, list-of-append}
use Rattle.record.proofs.Place.{Stands}
use Rattle.record.proofs.Bodies.{bodies, list-within, bodies-done, bodies-damaged-at, bodies-other-at, bodies-at, list-sound}
use Rattle.command.specs.Words.{word_length}
use Rattle.command.specs.Command.{arguments_in}
use Rattle.command.proofs.Parting.{word-ends}
use Rattle.run.specs.Run.{Run, icon_arguments}
use Rattle.run.specs.Step.{Wrote, items_in}
use Rattle.run.proofs.Listing.{list-none, length-one}
use Rattle.run.proofs.Arguments.{records_of, records_at, word_records, records-done, records-space, records-word}
use Rattle.run.proofs.Filling.{Filling, filling-start, filling-as, filling-end, filling-room, filling-next}

pub wrote_none : (s : List ℕ) → Wrote s [] 0 s
wrote_none s = record { long = refl; is = refl }

-- x copied
pub wrote-copy : {s : List ℕ} (x : List ℕ) {n : ℕ} {t : List ℕ} → n ≡ length x → t ≡ at_front s x → Wrote s x n t
wrote-copy {s} x e f = record { long = e; is = f }

-- y written behind x, through the tail that starts there
pub wrote_then : {s x t y u : List ℕ} {n m : ℕ} → Wrote s x n t → Wrote (lent n t) y m u → Wrote s (x ++ y) (n + m) (back n t u)
wrote_then {s} {x} {t} {y} {u} {n} {m} w v =
    let l : length x ≡ n = sym w.long in
    record {
      long = rw (w.long, v.long) (sym (length-append x y));
      is =
          over-tail t n y v.is
          ∙ rw (w.is, take_at x (drop (length x) s) n l, ← drop-drop (length y) n (at_front s x), drop_at x (drop (length x) s) n l, drop-drop (length y) (length x) s, length-append x y)
          (simp append_assoc);
    }

-- ---- the record of one argument

list-one : (b : List ℕ) → list_of 3 (b ∷ []) ≡ record_bytes (record { kind = 3; body = b })
list-one b = rw (list-of-cons 3 b [], list-none 3) (append-nil (record_bytes (record { kind = 3; body = b })))

pub wrote-argument : {s : List ℕ} (b : List ℕ) {n : ℕ} {t : List ℕ} → (n ≡ 0 + record_length b) × (t ≡ over s 0 (record_bytes (record { kind = 3; body = b })))
    → Wrote s (list_of 3 (b ∷ [])) n t
wrote-argument b p = record { long = omega (arith, p.0, length-one 3 b); is = rw (list-one b) (rw zero-add at p.1) }

-- a head, and behind it the bytes whose length it tells
pub wrote-text : {s t b u : List ℕ} {n m : ℕ} → n ≡ length b → t ≡ at_front s (head_bytes (6 + n) 3) → Wrote (lent 6 t) b m u → Wrote s (list_of 3 (b ∷ [])) (6 + m) (back 6 t u)
unfolding record_bytes
wrote-text {b = b} {n = n} e f v = rw (list-one b, ← e) (wrote_then {x = head_bytes (6 + n) 3} (record { long = sym (length-head (6 + n) 3); is = f }) v)

-- ---- the Icon

pub icon-two : (icon : List ℕ) → (length icon ≡ 0 → ⊥) → list_of 3 (icon_arguments icon) ≡ list_of 3 (ascii "--icon" ∷ []) ++ list_of 3 (icon ∷ [])
unfolding icon_arguments
icon-two icon n = rw (ne_eqb (length icon) 0 n) (list-of-append 3 (ascii "--icon" ∷ []) (icon ∷ []))

-- ---- the items of a list from a place on

abbrev pub listed : Option (List (List ℕ)) → List (List ℕ)
listed o = maybe o [] (λ items. items)

abbrev pub items_at : List ℕ → ℕ → List (List ℕ)
items_at list from = listed (bodies 2 (drop from list))

-- all items from the place on are sound
pub record Items (list : List ℕ) (from : ℕ) : Type 0 where
  pub inside : from ≤ length list
  pub sound : there (bodies 2 (drop from list)) ≡ true

list-reads : (list : List ℕ) → there (read_list 2 list_most list) ≡ true → read_list 2 list_most list ≡ bodies 2 list
list-reads list = go (read_list 2 list_most list) refl
  where
    go : (o : Option (List (List ℕ))) → read_list 2 list_most list ≡ o → there o ≡ true → read_list 2 list_most list ≡ bodies 2 list
    go None e h = no (cc)
    go (Some bs) e h = list-within 2 list_most list (list-sound 2 list_most list e).short

pub items-start : (list : List ℕ) → there (read_list 2 list_most list) ≡ true → Items list 0 × (items_in list ≡ items_at list 0)
items-start list h =
    let e = list-reads list h in
    (record { inside = omega arith; sound = rw (← e) h }, ap listed e)

pub items-done : (list : List ℕ) (from : ℕ) → length list ≤ from → items_at list from ≡ []
items-done list from h = rw (bodies-done 2 list from h)

pub items-damaged {ℓ} : {X : Type ℓ} {list : List ℕ} {from : ℕ} → Items list from → from < length list → whole (drop from list) ≡ false → X
items-damaged {list = list} {from = from} w h e = let z = w.sound in let f = bodies-damaged-at 2 list from h e in no (cc)

module _ {list : List ℕ} {from : ℕ} (w : Items list from) {k end : ℕ} (r : Stands list from k end) where
  step : bodies 2 (drop from list) ≡ option_map (λ bs. part (from + 6) end list ∷ bs) (bodies 2 (drop end list))
  step =
      by-test (eqb k 2)
      (λ e. bodies-at 2 r (eqb-true k 2 e))
      (λ e. let z = w.sound in let f = bodies-other-at 2 r (eqb-false k 2 e) in no (cc))

  both : (o : Option (List (List ℕ))) (b : List ℕ) → there (option_map (λ bs. b ∷ bs) o) ≡ true → (there o ≡ true) × (listed (option_map (λ bs. b ∷ bs) o) ≡ b ∷ listed o)
  both None b h = no (cc)
  both (Some bs) b h = (refl, refl)

  next : (there (bodies 2 (drop end list)) ≡ true) × (listed (option_map (λ bs. part (from + 6) end list ∷ bs) (bodies 2 (drop end list))) ≡ part (from + 6) end list ∷ items_at list end)
  next = both (bodies 2 (drop end list)) (part (from + 6) end list) (rw step at w.sound)

  pub items-next : Items list end
  items-next = record { inside = r.inside; sound = next.0 }

  pub items-cons : items_at list from ≡ part (from + 6) end list ∷ items_at list end
  items-cons = ap listed step ∙ next.1

  pub items-here : list_of 3 (items_at list from) ≡ list_of 3 (part (from + 6) end list ∷ []) ++ list_of 3 (items_at list end)
  items-here = rw items-cons (list-of-append 3 (part (from + 6) end list ∷ []) (items_at list end))

-- ---- an output that is filled by items

pub items-begin : (list out : List ℕ) → there (read_list 2 list_most list) ≡ true → length (list_of 3 (items_in list)) ≤ length out
    → Items list 0 × Filling out (list_of 3 (items_in list)) out 0 (list_of 3 (items_at list 0))
items-begin list out h l = let s = items-start list h in (s.0, filling-as (filling-start l) (ap (λ (xs : List (List ℕ)). list_of 3 xs) s.1))

module _ {list : List ℕ} {from : ℕ} {out₀ whole out : List ℕ} {at : ℕ} (w : Items list from) (f : Filling out₀ whole out at (list_of 3 (items_at list from)))
    {k end : ℕ} (r : Stands list from k end) where
  pub items-room : record_length (part (from + 6) end list) ≤ length (lent at out)
  items-room = rw (length-one 3 (part (from + 6) end list)) at (filling-room f (list_of 3 (part (from + 6) end list ∷ [])) (list_of 3 (items_at list end)) (items-here w r))

  pub items-filled : {n : ℕ} {t : List ℕ} → Wrote (lent at out) (list_of 3 (part (from + 6) end list ∷ [])) n t → Filling out₀ whole (back at out t) (at + n) (list_of 3 (items_at list end))
  items-filled v = filling-next f (list_of 3 (part (from + 6) end list ∷ [])) (list_of 3 (items_at list end)) (items-here w r) v

pub items-end : (list : List ℕ) (from : ℕ) {out₀ whole out : List ℕ} {at : ℕ} → Filling out₀ whole out at (list_of 3 (items_at list from)) → length list ≤ from → Wrote out₀ whole at out
items-end list from f h = filling-end f (rw (items-done list from h) (list-none 3))

-- ---- an output that is filled by words

-- the records of the words before the place are written, the others are left
pub record WordsPut (r : Run) (exec out₀ out : List ℕ) (i at : ℕ) : Type 0 where
  pub filling : Filling out₀ (records_of r (arguments_in exec)) out at (records_at r exec i)

pub words-start : {r : Run} {exec out : List ℕ} → length (records_of r (arguments_in exec)) ≤ length out → WordsPut r exec out out 0 0
words-start h = record { filling = filling-start h }

module _ {r : Run} {exec out₀ out : List ℕ} {i at : ℕ} (w : WordsPut r exec out₀ out i at) where
  pub words-over : i < length exec → get_or exec i 0 ≡ 32 → WordsPut r exec out₀ out (i + 1) at
  words-over h b = record { filling = filling-as w.filling (records-space r exec i h b) }

  pub words-end : length exec ≤ i → Wrote out₀ (records_of r (arguments_in exec)) at out
  words-end h = filling-end w.filling (records-done r exec i h)

  module _ (h : i < length exec) {e : ℕ} (n : get_or exec i 0 ≡ 32 → ⊥) (q : e ≡ i + word_length (drop i exec)) where
    pub words_inside : (i < e) × (e ≤ length exec) × (length (part i e exec) ≡ e - i)
    words_inside = let b = word-ends exec i h n q in (b.0, b.1, length_part i e exec b.1)

    pub words-room : length (word_records r (part i e exec)) ≤ length (lent at out)
    words-room = filling-room w.filling (word_records r (part i e exec)) (records_at r exec e) (records-word r exec i h n q)

    pub words-next : {k : ℕ} {t : List ℕ} → Wrote (lent at out) (word_records r (part i e exec)) k t → WordsPut r exec out₀ (back at out t) e (at + k)
    words-next v = record { filling = filling-next w.filling (word_records r (part i e exec)) (records_at r exec e) (records-word r exec i h n q) v }
