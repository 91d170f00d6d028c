-- The records of what arguments become, word after word. Assumes nothing.
use Rattle.std.specs.Prelude.{Option}
use mathlib.Core.Path.{◌≡◌, refl, sym, ◌∙◌}
use Prim.Native.Nat.{ℕ, ◌+◌, ◌-◌, ◌≤◌, ◌<◌}
use native.Mathlib.Omega.{arith}
use mathlib.Core.Bool.{true, false}
use mathlib.Core.List.{List, [], ◌∷◌, ◌++◌, map}
use lib.ListN.{length, drop, get_or, length-append}
use borrow.Author.Tests.{eq-eqb, ne_eqb}
use Rattle.base.specs.Lists.{part, all}
use Rattle.record.specs.Record.{list_of}
use Rattle.record.proofs.Sizes.{list-of-append}
use Rattle.command.specs.declared.Form.TheVariants as form
use Rattle.command.specs.Words.{word_length, inside_length}
use Rattle.command.specs.Command.{Argument, pieces_of, form_of, argument_as, argument_of, arguments_in}
use Rattle.command.proofs.Parting.{words_at, words-done, words-space, words-word}
use Rattle.run.specs.Run.{Run, pieces_bytes, leaves_nothing, icon_arguments, expanded, expanded_all}
use Rattle.text.specs.Step.{spend}
use Rattle.run.proofs.Listing.{list-none, length-cons, length-one}
use Rattle.text.proofs.RoomLaws.{spend-zero, spend-add}

-- the records of what arguments become
abbrev pub records_of : Run → List Argument → List ℕ
records_of r args = list_of 3 (expanded_all r args)

-- of those of the words from a place on
abbrev pub records_at : Run → List ℕ → ℕ → List ℕ
records_at r s i = records_of r (map argument_of (words_at s i))

-- of one word
abbrev pub word_records : Run → List ℕ → List ℕ
word_records r word = list_of 3 (expanded r (argument_as (form_of word) word))

-- ---- by the form of a word

module _ (r : Run) (word : List ℕ) where
  pub files-records : form.Files ≡ form_of word → word_records r word ≡ list_of 3 r.items
  unfolding expanded
  files-records e = rw (← e)

  pub icon-records : form.Icon ≡ form_of word → word_records r word ≡ list_of 3 (icon_arguments r.icon)
  unfolding expanded
  icon-records e = rw (← e)

  -- between the quotes, which close at c
  pub quoted-records : {c : ℕ} → form.Quoted ≡ form_of word → c ≡ 1 + inside_length word → word_records r word ≡ list_of 3 (pieces_bytes r.put (pieces_of true (part 1 c word)) ∷ [])
  unfolding expanded
  quoted-records {c} e q = let k : inside_length word ≡ c - 1 = omega arith in rw (← e, k)

  pub dropped-records : form.Bare ≡ form_of word → all (leaves_nothing r.put.item) (pieces_of false word) ≡ true → word_records r word ≡ []
  unfolding expanded
  dropped-records e d = rw (← e, d) (list-none 3)

  pub bare-records : form.Bare ≡ form_of word → all (leaves_nothing r.put.item) (pieces_of false word) ≡ false → word_records r word ≡ list_of 3 (pieces_bytes r.put (pieces_of false word) ∷ [])
  unfolding expanded
  bare-records e d = rw (← e, d)

-- ---- word by word

pub records-done : (r : Run) (s : List ℕ) (i : ℕ) → length s ≤ i → records_at r s i ≡ []
unfolding expanded_all
records-done r s i h = rw (words-done s i h) (list-none 3)

module _ (r : Run) (s : List ℕ) (i : ℕ) (h : i < length s) where
  pub records-space : get_or s i 0 ≡ 32 → records_at r s i ≡ records_at r s (i + 1)
  records-space b = rw (words-space s i h b)

  pub records-word : {e : ℕ} → (get_or s i 0 ≡ 32 → ⊥) → e ≡ i + word_length (drop i s) → records_at r s i ≡ word_records r (part i e s) ++ records_at r s e
  unfolding expanded_all argument_of
  records-word {e} n q = rw (words-word s i h n q) (list-of-append 3 (expanded r (argument_as (form_of (part i e s)) (part i e s))) (expanded_all r (map argument_of (words_at s e))))

-- ---- the Icon

pub icon-none : (icon : List ℕ) → length icon ≡ 0 → icon_arguments icon ≡ []
unfolding icon_arguments
icon-none icon e = rw (eq-eqb (length icon) 0 e)

pub icon-some : (icon : List ℕ) → (length icon ≡ 0 → ⊥) → length (list_of 3 (icon_arguments icon)) ≡ 18 + length icon
unfolding icon_arguments
icon-some icon n = rw (ne_eqb (length icon) 0 n, length-cons 3 _ (icon ∷ []), length-one 3 icon) (omega arith)

-- ---- measuring: the room left and what the words from the place on take are the whole answer

pub record Measuring (r : Run) (s : List ℕ) (room₀ : Option ℕ) (i : ℕ) (room : Option ℕ) : Type 0 where
  pub inside : i ≤ length s
  pub same : spend room (length (records_at r s i)) ≡ spend room₀ (length (records_of r (arguments_in s)))

pub measuring-start : {r : Run} {s : List ℕ} {room : Option ℕ} → Measuring r s room 0 room
measuring-start = record { inside = omega arith; same = refl }

module _ {r : Run} {s : List ℕ} {room₀ : Option ℕ} {i : ℕ} {room : Option ℕ} (w : Measuring r s room₀ i room) where
  pub measuring-space : i < length s → get_or s i 0 ≡ 32 → Measuring r s room₀ (i + 1) room
  measuring-space h b = record { inside = omega arith; same = rw (← records-space r s i h b) w.same }

  pub measuring-next : i < length s → {e : ℕ} {room₁ : Option ℕ} → (get_or s i 0 ≡ 32 → ⊥) → e ≡ i + word_length (drop i s) → (i < e) × (e ≤ length s)
      → room₁ ≡ spend room (length (word_records r (part i e s))) → Measuring r s room₀ e room₁
  measuring-next h {e} n q b f =
      record {
        inside = b.1;
        same =
            rw (f, spend-add room (length (word_records r (part i e s))) (length (records_at r s e)), ← length-append (word_records r (part i e s)) (records_at r s e))
            (rw (records-word r s i h n q) at w.same);
      }

  pub measuring-end : length s ≤ i → room ≡ spend room₀ (length (records_of r (arguments_in s)))
  measuring-end h = sym (spend-zero room) ∙ rw (records-done r s i h) at w.same
