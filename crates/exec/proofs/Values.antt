-- The raw values that an expansion reads, and their texts. Assumes nothing.
use Rattle.std.specs.Prelude.{Option, Some, None, Ok, Err}
use mathlib.Core.Path.{◌≡◌, refl, sym, ◌∙◌}
use Prim.Native.Nat.{ℕ, suc, ◌+◌, ◌≤◌}
use native.Mathlib.Omega.{arith}
use mathlib.Core.Bool.{Bool, true, false}
use mathlib.Core.List.{List, [], ◌∷◌}
use lib.ListN.{length, take, drop, length-append, length-drop}
use lib.Seq.{take_at}
use lib.Dec.{eqb}
use borrow.Author.Tests.{le-leb}
use Rattle.base.specs.Choice.{pick, maybe}
use Rattle.base.specs.Lists.{ascii, part}
use Rattle.base.proofs.Lists.{length_part}
use Rattle.base.proofs.Tests.{no}
use Rattle.fault.specs.declared.Fault.{Fault}
use Rattle.fault.specs.declared.Fault.TheVariants.{BadEscape, Missing}
use Rattle.fault.specs.Answer.{Answer, ◌>>=◌, some_or, then}
use Rattle.text.proofs.OutputLaws.{Leaves}
use Rattle.text.specs.Escape.{escape, text_from, read_text}
use Rattle.text.specs.Step.{text_of}
use Rattle.text.specs.declared.Escapes.{Escapes}
use Rattle.rows.specs.Rows.{Row, read_rows, raw_value}
use Rattle.rows.specs.Title.{Title, find_row, desktop_entry}
use Rattle.rows.specs.Find.{found_of}
use Rattle.rows.specs.declared.Row as told
use Rattle.rows.proofs.Told.{Told, told-row}
use Rattle.choice.specs.Locale.{chosen}
use Rattle.entry.specs.Lookup as ends
use Rattle.entry.specs.Choose.{chosen_ends}
use Rattle.entry.specs.declared.Ends.{Ends}
use Rattle.entry.proofs.Lookups.{row_inside, row-stands, chosen-inside, chosen-stands}
use Rattle.exec.specs.Expand.{name_in, name_text, icon_text}
use Rattle.exec.specs.Step.{ReadTo}

-- ---- a text is no longer than its raw value

cons-le : (x n : ℕ) (a : Answer (List ℕ)) → length (text_of a) ≤ n → length (text_of (then (λ t. x ∷ t) a)) ≤ suc n
cons-le x n (Ok t) h = omega arith
cons-le x n (Err f) h = omega arith

text-le : (k : Escapes) (s : List ℕ) (t : Bool) (at : ℕ) → length (text_of (text_from k s t at)) ≤ length s
unfolding text_from
text-le k [] true at = omega arith
text-le k [] false at = omega arith
text-le k (b ∷ s) false at = go (eqb b 92) (text-le k s true at) (text-le k s false (at + 1))
  where
    go : (t : Bool) → length (text_of (text_from k s true at)) ≤ length s → length (text_of (text_from k s false (at + 1))) ≤ length s
        → length (text_of (pick t (text_from k s true at) (then (λ u. b ∷ u) (text_from k s false (at + 1))))) ≤ suc (length s)
    go true h g = omega arith
    go false h g = cons-le b (length s) (text_from k s false (at + 1)) g
text-le k (b ∷ s) true at = go (escape k b) (text-le k s false (at + 2))
  where
    go : (o : Option ℕ) → length (text_of (text_from k s false (at + 2))) ≤ length s
        → length (text_of (maybe o (Err (BadEscape at)) (λ x. then (λ u. x ∷ u) (text_from k s false (at + 2))))) ≤ suc (length s)
    go None h = omega arith
    go (Some x) h = cons-le x (length s) (text_from k s false (at + 2)) h

pub read-le : (raw : List ℕ) → length (text_of (read_text raw)) ≤ length raw
unfolding read_text
read-le raw = text-le _ raw false 0

-- ---- a text that was read to a buffer

-- where there is room, the whole text is told and held
pub read-room : (a : Answer (List ℕ)) (s : List ℕ) {r : Answer ℕ} {t : List ℕ} → length (text_of a) ≤ length s → Leaves a s r t → ReadTo a s r t
read-room (Ok x) s h p = record { tells = p.answer ∙ rw (le-leb (length x) (length s) h); is = p.output ∙ rw (le-leb (length x) (length s) h); fits = h }
read-room (Err f) s h p = record { tells = p.answer; is = p.output; fits = h }

-- the text is the buffer's front, as long as was told; or the refusal is the text's
pub read-given : (a : Answer (List ℕ)) {s t : List ℕ} {n : ℕ} → ReadTo a s (Ok n) t → (a ≡ Ok (take n t)) × (n ≤ length t)
read-given (Ok x) {s} {t} {n} w =
    let i = w.tells in
    let l : n ≡ length x = cc in
    let d = length-drop (length x) s in
    (rw (w.is, take_at x (drop (length x) s) n (sym l)), rw (w.is, length-append x (drop (length x) s)) (omega arith))
read-given (Err f) w = let i = w.tells in no (cc)

pub read-refuses : (a : Answer (List ℕ)) {s t : List ℕ} {f : Fault} → ReadTo a s (Err f) t → a ≡ Err f
read-refuses (Ok x) w = let i = w.tells in no (cc)
read-refuses (Err g) w = let i = w.tells in cc

-- nothing is read, or nothing could be
pub read_none : (s : List ℕ) → ReadTo (Ok []) s (Ok 0) s
read_none s = record { tells = refl; is = refl; fits = omega arith }

pub read-refused : {f : Fault} {r : Answer ℕ} (s : List ℕ) → r ≡ Err f → ReadTo (Err f) s r s
read-refused s e = record { tells = e; is = refl; fits = omega arith }

-- ---- the value of a row that was found

part-short : (from to : ℕ) (file : List ℕ) → to ≤ length file → length (part from to file) ≤ length file
part-short from to file h = omega (arith, length_part from to file h)

pub record Value (o : Option Row) (file : List ℕ) (from to : ℕ) : Type 0 where
  pub row : Row
  pub is : o ≡ Some row
  pub ordered : from ≤ to
  pub inside : to ≤ length file
  pub bytes : part from to file ≡ raw_value row

pub value-short : {o : Option Row} {file : List ℕ} {from to : ℕ} → Value o file from to → length (part from to file) ≤ length file
value-short {file = file} {from = from} {to = to} w = part-short from to file w.inside

row-value : (file : List ℕ) (t : Title) (r : Row) → find_row (read_rows file) t ≡ Some r → {w : told.Row} → Told r w → Value (find_row (read_rows file) t) file w.value w.end
unfolding ends.value_ends
row-value file t r i w =
    let b = row_inside file t r i in
    record {
      row = r;
      is = i;
      ordered = rw (w.end_is, w.value-is) b.0;
      inside = rw w.end_is b.1;
      bytes = rw (w.end_is, w.value-is) (row-stands file t r i);
    }

pub key-value : (file : List ℕ) (t : Title) {w : told.Row} → found_of (find_row (read_rows file) t) ≡ Some w → Value (find_row (read_rows file) t) file w.value w.end
key-value file t {w} i =
    let a = told-row (find_row (read_rows file) t) w i in
    row-value file t a.0 a.1 a.2

-- its text, read to a buffer
pub text-given : {o : Option Row} {file : List ℕ} {v e : ℕ} → Value o file v e → {s t : List ℕ} {n : ℕ} → ReadTo (read_text (part v e file)) s (Ok n) t
    → (read_text (part v e file) ≡ Ok (take n t)) × (n ≤ length t)
text-given {file = file} {v = v} {e = e} w r = read-given (read_text (part v e file)) r

-- ---- Name and Icon

-- the ends that a choice told lie in the file, and what stands between them is no longer
pub chosen-within : (file group key locale : List ℕ) {r : Answer Ends} {x : Ends} → r ≡ chosen_ends (read_rows file) group key locale → r ≡ Ok x
    → (x.from ≤ x.to) × (x.to ≤ length file) × (length (part x.from x.to file) ≤ length file)
chosen-within file group key locale {x = x} e i =
    let w = rw (← e, i) at (chosen-inside file group key locale) in
    (w.0, w.1, part-short x.from x.to file w.1)

module _ (file locale : List ℕ) where
  -- a group's Name is the text of the value chosen, or the choice's refusal
  pub name-in-chosen : (group : List ℕ) → name_in (read_rows file) group locale
      ≡ (then (λ e. part e.from e.to file) (chosen_ends (read_rows file) group (ascii "Name") locale) >>= read_text)
  name-in-chosen group = rw (chosen-stands file group (ascii "Name") locale) (by (chosen (read_rows file) group (ascii "Name") locale))
    where
      by : (o : Option Row) → (some_or o Missing >>= λ r. read_text (raw_value r)) ≡ (then raw_value (some_or o Missing) >>= read_text)
      by None = refl
      by (Some r) = refl

  -- the application's is Desktop Entry's
  pub name-chosen : name_text (read_rows file) locale true
      ≡ (then (λ e. part e.from e.to file) (chosen_ends (read_rows file) desktop_entry (ascii "Name") locale) >>= read_text)
  unfolding name_text
  name-chosen = name-in-chosen desktop_entry

  pub name-unasked : name_text (read_rows file) locale false ≡ Ok []
  unfolding name_text
  name-unasked = refl

  module _ (group : List ℕ) where
    -- Icon is the text of the value chosen, and none where the choice is refused
    pub icon-chosen : icon_text (read_rows file) group locale true
        ≡ read_text (text_of (then (λ e. part e.from e.to file) (chosen_ends (read_rows file) group (ascii "Icon") locale)))
    unfolding icon_text read_text text_from
    icon-chosen = rw (chosen-stands file group (ascii "Icon") locale) (by (chosen (read_rows file) group (ascii "Icon") locale))
      where
        by : (o : Option Row) → maybe o (Ok []) (λ r. read_text (raw_value r)) ≡ read_text (text_of (then raw_value (some_or o Missing)))
        by None = refl
        by (Some r) = refl

    pub icon-unasked : icon_text (read_rows file) group locale false ≡ Ok []
    unfolding icon_text
    icon-unasked = refl
