-- The calls that read and write text, and those to which the journal alone is lent, are never refused with 2, so the byte of their refusals is 0.
-- Assumes nothing.
use Rattle.std.specs.Prelude.{Option, Some, None, Ok, Err, slice_get}
use mathlib.Core.Path.{◌≡◌, refl}
use Prim.Native.Nat.{ℕ, ◌+◌}
use Prim.Native.Char.{code}
use mathlib.Core.Bool.{Bool, true, false}
use mathlib.Core.List.{List, [], ◌∷◌}
use lib.ListN.{length}
use lib.Dec.{eqb, leb}
use Rattle.base.specs.Choice.{pick, maybe}
use Rattle.base.specs.Lists.{all}
use Rattle.fault.specs.declared.Fault.TheVariants.{BadEscape, UnfitText, NoRoom, NothingLeft, Damaged}
use Rattle.fault.specs.Answer.{Answer, some_or, then}
use Rattle.fault.proofs.Refusals.{IfRefused, if-then, if-bind, if-need, if-or, Not2, byte-zero}
use Rattle.record.specs.Record.{list_of}
use Rattle.text.specs.Escape.{escape, text_from, read_text, raw_text, fit_text, write_text}
use Rattle.text.specs.Element.{raw_elements, each_read, elements_of, fits_record, read_elements}
use Rattle.text.specs.Output.{written_length}
use Rattle.text.specs.declared.Escapes.{Escapes}
use Rattle.text.specs.declared.Escapes.TheVariants as escapes
use Rattle.journal.specs.Journal.{Authored, person_of, in_order, read_journal}
use Rattle.journal.specs.Lent.{Lent, used_of, numbers_fit, journal_in, opened, person_in, person, forget}
use Rattle.splice.specs.Edit.{Edit}
use Rattle.abi.specs.Abi.{byte_in}

-- ---- their refusals

from-not2 : (k : Escapes) (s : List ℕ) (taken : Bool) (at : ℕ) → IfRefused Not2 (text_from k s taken at)
unfolding text_from
from-not2 k [] false at = tt
from-not2 k [] true at = refl
from-not2 k (b ∷ bs) false at = go (eqb b (code "\\")) (from-not2 k bs true at) (from-not2 k bs false (at + 1))
  where
    go : (t : Bool) → IfRefused Not2 (text_from k bs true at) → IfRefused Not2 (text_from k bs false (at + 1))
        → IfRefused Not2 (pick t (text_from k bs true at) (then (λ s. b ∷ s) (text_from k bs false (at + 1))))
    go true pair single = pair
    go false pair single = if-then Not2 (λ s. b ∷ s) (text_from k bs false (at + 1)) single
from-not2 k (b ∷ bs) true at = go (escape k b) (from-not2 k bs false (at + 2))
  where
    go : (o : Option ℕ) → IfRefused Not2 (text_from k bs false (at + 2)) → IfRefused Not2 (maybe o (Err (BadEscape at)) (λ x. then (λ s. x ∷ s) (text_from k bs false (at + 2))))
    go None rest = refl
    go (Some x) rest = if-then Not2 (λ s. x ∷ s) (text_from k bs false (at + 2)) rest

pub read-not2 : (raw : List ℕ) → IfRefused Not2 (read_text raw)
unfolding read_text
read-not2 raw = from-not2 escapes.Text raw false 0

write-not2 : (text : List ℕ) → IfRefused Not2 (write_text text)
unfolding write_text
write-not2 text = if-need Not2 (fit_text text) UnfitText (λ _. Ok (raw_text text)) refl (λ _. tt)

pub each-not2 : (es : List (List ℕ)) (at : ℕ) → IfRefused Not2 (each_read es at)
unfolding each_read
each-not2 [] at = tt
each-not2 (e ∷ es) at =
    if-bind Not2 (text_from escapes.List e false at) _ (from-not2 escapes.List e false at)
    (λ t. if-bind Not2 (each_read es (at + length e + 1)) _ (each-not2 es (at + length e + 1)) (λ ts. tt))

list-not2 : (raw : List ℕ) → IfRefused Not2 (read_elements raw)
unfolding read_elements elements_of
list-not2 raw = if-bind Not2 (elements_of raw) _ (each-not2 (raw_elements raw false) 0) (λ es. if-need Not2 (all fits_record es) NoRoom (λ _. Ok (list_of 2 es)) refl (λ _. tt))

opened-not2 : (s : Lent) → IfRefused Not2 (opened s)
unfolding opened
opened-not2 s = if-need Not2 (numbers_fit s) Damaged (λ _. journal_in s) refl (λ _. if-or Not2 (read_journal (used_of s) s.standing) Damaged refl)

person-not2 : (s : Lent) (n : ℕ) → IfRefused Not2 (person s n)
unfolding person
person-not2 s n =
    if-bind Not2 (opened s) (λ j. person_in (in_order j) n) (opened-not2 s)
    (λ j. if-then Not2 (λ (e : Authored Edit). person_of e.author) (some_or (slice_get (in_order j) n) NothingLeft) (if-or Not2 (slice_get (in_order j) n) NothingLeft refl))

pub forget-not2 : (s : Lent) (k : ℕ) → IfRefused Not2 (forget s k)
unfolding forget
forget-not2 s k = if-bind Not2 (opened s) _ (opened-not2 s) (λ j. if-need Not2 (leb k (length j.stand)) NothingLeft _ refl (λ _. tt))

-- ---- their bytes

told-zero : (a : Answer (List ℕ)) (out : List ℕ) → IfRefused Not2 a → byte_in (written_length a out) ≡ 0
told-zero (Ok s) out n = go (leb (length s) (length out))
  where
    go : (t : Bool) → byte_in (pick t (Ok (length s)) (Err NoRoom)) ≡ 0
    go true = refl
    go false = refl
told-zero (Err f) out n = byte-zero f n

pub read-zero : (raw out : List ℕ) → byte_in (written_length (read_text raw) out) ≡ 0
read-zero raw out = told-zero (read_text raw) out (read-not2 raw)

pub write-zero : (text out : List ℕ) → byte_in (written_length (write_text text) out) ≡ 0
write-zero text out = told-zero (write_text text) out (write-not2 text)

pub list-zero : (raw out : List ℕ) → byte_in (written_length (read_elements raw) out) ≡ 0
list-zero raw out = told-zero (read_elements raw) out (list-not2 raw)

answer-zero : {A : Type 0} (a : Answer A) → IfRefused Not2 a → byte_in a ≡ 0
answer-zero (Ok x) h = refl
answer-zero (Err f) h = byte-zero f h

pub person-zero : (s : Lent) (n : ℕ) → byte_in (person s n) ≡ 0
person-zero s n = answer-zero (person s n) (person-not2 s n)

pub forget-zero : (s : Lent) (k : ℕ) → byte_in (forget s k) ≡ 0
forget-zero s k = answer-zero (forget s k) (forget-not2 s k)
