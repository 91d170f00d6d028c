-- How long the arguments of an accepted expansion are: each fits a record, so that the output reads back. Assumes nothing.
use Rattle.std.specs.Prelude.{Option, Some, None, Ok}
use Prim.Native.Nat.{ℕ, zero, suc, ◌+◌, ◌-◌, ◌*◌, ◌≤◌, ◌<◌}
use native.Mathlib.Omega.{arith}
use mathlib.Core.Path.{◌≡◌, refl}
use mathlib.Core.Bool.{Bool, true, false, not, ◌&&◌}
use mathlib.Core.List.{List, [], ◌∷◌, ◌++◌, map}
use lib.ListN.{length, take, drop, get_or, length-append, length-take, length-drop}
use lib.Dec.{eqb, leb}
use borrow.Author.Tests.{leb-true}
use Rattle.base.specs.Bounds.{file_most, list_most}
use Rattle.base.specs.Choice.{pick, maybe}
use Rattle.base.specs.Lists.{ascii, all, first}
use Rattle.base.proofs.Lists.{length_part}
use Rattle.base.proofs.Tests.{and_both}
use Rattle.fault.specs.declared.Fault.TheVariants.{Missing}
use Rattle.fault.specs.Answer.{unless}
use Rattle.fault.proofs.Answers.{bind-given, need-given, some-given, given_is}
use Rattle.record.specs.Record.{read_list, list_of}
use Rattle.record.proofs.Sizes.{records_of}
use Rattle.record.proofs.Back.{FitsAll, no_record, one_more, fits}
use Rattle.record.proofs.Bodies.{list-sound, list_back}
use Rattle.text.specs.Escape.{read_text}
use Rattle.rows.specs.Rows.{Row, read_rows, raw_value}
use Rattle.rows.specs.Title.{Title, title, same_title, find_row, desktop_entry}
use Rattle.wellformed.specs.Check.{check_as, checked_rows}
use Rattle.choice.specs.Locale.{chosen}
use Rattle.command.specs.declared.Piece.{Piece}
use Rattle.command.specs.declared.Piece.TheVariants as piece
use Rattle.command.specs.declared.Form.{Form}
use Rattle.command.specs.declared.Form.TheVariants as form
use Rattle.command.specs.Words.{Word, word_length, words_after, words, not_space, inside_length}
use Rattle.command.specs.Command.{Argument, Files, Icon, Text, pieces_after, width_of, inside, form_of, argument_as, argument_of, arguments_in, words_fault, read_command}
use Rattle.run.specs.Run.{Put, Run, run_of, piece_bytes, pieces_bytes, leaves_nothing, icon_arguments, expanded, expanded_all}
use Rattle.exec.specs.Expand.{fit_location, no_zero, name_in, name_text, icon_text}
use Rattle.run.specs.Step.{put_of, items_in}
use Rattle.run.proofs.Spending.{bytes-cons, bytes-none}
use Rattle.run.proofs.Listing.{length-cons, length-one, items-length}
use Rattle.entry.specs.Lookup.{value_ends}
use Rattle.entry.proofs.Lookups.{first-inside, first-stands, chosen-found}
use Rattle.exec.proofs.Values.{read-le}
use Rattle.demands.specs.Commands.{Expander}
use Rattle.demands.proofs.Expansions.{Known, Sound, Listed, arguments_of}

-- every element is so
pub data Each {A : Type 0} (P : A → Type 0) : List A → Type 0 where
  none_is : Each P []
  one-is : (x : A) {xs : List A} → P x → Each P xs → Each P (x ∷ xs)

each_append : {A : Type 0} {P : A → Type 0} {xs ys : List A} → Each P xs → Each P ys → Each P (xs ++ ys)
each_append none_is k = k
each_append (one-is x p h) k = one-is x p (each_append h k)

each_map : {A B : Type 0} {P : B → Type 0} (f : A → B) {xs : List A} → Each (λ x. P (f x)) xs → Each P (map f xs)
each_map f none_is = none_is
each_map f (one-is x p h) = one-is (f x) p (each_map f h)

each-weaker : {A : Type 0} {P Q : A → Type 0} → ((x : A) → P x → Q x) → {xs : List A} → Each P xs → Each Q xs
each-weaker w none_is = none_is
each-weaker w (one-is x p h) = one-is x (w x p) (each-weaker w h)

pub each_at : {P : List ℕ → Type 0} {xs : List (List ℕ)} → Each P xs → (n : ℕ) → n < length xs → P (get_or xs n [])
each_at none_is n h = absurd (omega arith)
each_at (one-is x p k) zero h = p
each_at (one-is x p k) (suc n) h = each_at k n (omega arith)

-- ---- how many pieces an argument has

pieces-few : (q : Bool) (s : List ℕ) (n : ℕ) → length (pieces_after q s n) ≤ length s
unfolding pieces_after
pieces-few q [] n = omega arith
pieces-few q (b ∷ s) zero = omega (arith, pieces-few q s (width_of q b - 1))
pieces-few q (b ∷ s) (suc n) = omega (arith, pieces-few q s n)

-- an argument of so many pieces at most
abbrev Few : ℕ → Argument → Type 0
Few n Files = Unit
Few n Icon = Unit
Few n (Text quoted ps) = length ps ≤ n

take-le : (n : ℕ) (s : List ℕ) → length (take n s) ≤ length s
take-le n s = omega (arith, length-take n s)

argument-few : (w : Word) (n : ℕ) → length w.bytes ≤ n → Few n (argument_of w)
unfolding argument_of
argument-few w n h = go (form_of w.bytes)
  where
    go : (f : Form) → Few n (argument_as f w.bytes)
    go form.Quoted = omega (arith, pieces-few true (inside w.bytes) 0, take-le (inside_length w.bytes) (drop 1 w.bytes), length-drop 1 w.bytes)
    go form.Files = tt
    go form.Icon = tt
    go form.Bare = omega (arith, pieces-few false w.bytes 0)

words-short : (s : List ℕ) (n at : ℕ) {m : ℕ} → length s ≤ m → Each (λ w. length w.bytes ≤ m) (words_after s n at)
unfolding words_after
words-short [] n at h = none_is
words-short (b ∷ s) (suc n) at h = words-short s n (at + 1) (omega arith)
words-short (b ∷ s) zero at {m} h = go (not_space b) (words-short s (word_length (b ∷ s) - 1) (at + 1) (omega arith)) (words-short s 0 (at + 1) (omega arith))
  where
    go : (t : Bool) → Each (λ w. length w.bytes ≤ m) (words_after s (word_length (b ∷ s) - 1) (at + 1)) → Each (λ w. length w.bytes ≤ m) (words_after s 0 (at + 1))
        → Each (λ w. length w.bytes ≤ m) (pick t (record { start = at; bytes = take (word_length (b ∷ s)) (b ∷ s) } ∷ words_after s (word_length (b ∷ s) - 1) (at + 1)) (words_after s 0 (at + 1)))
    go true k l = one-is (record { start = at; bytes = take (word_length (b ∷ s)) (b ∷ s) }) (omega (arith, take-le (word_length (b ∷ s)) (b ∷ s))) k
    go false k l = l

pub command-few : (exec : List ℕ) (command : List Argument) → read_command exec ≡ Ok command → Each (Few (length exec)) command
unfolding read_command
command-few exec command e =
    let a = bind-given (unless (words_fault true false (words exec))) _ command e in
    let i : arguments_in exec ≡ command = given_is _ _ a.2 in
    rw (← i) (each_map {P = Few (length exec)} argument_of (each-weaker (λ w h. argument-few w (length exec) h) (words-short exec 0 0 (omega arith))))

-- ---- how long an argument is

-- what is put in is short
record Brief (x : Put) : Type 0 where
  item : length x.item ≤ 65536
  name : length x.name ≤ 65536
  location : length x.location ≤ 65536

piece-brief : (x : Put) → Brief x → (p : Piece) → length (piece_bytes x p) ≤ 65536
unfolding piece_bytes
piece-brief x w (piece.Byte b) = omega arith
piece-brief x w piece.Item = w.item
piece-brief x w piece.Name = w.name
piece-brief x w piece.Location = w.location
piece-brief x w piece.Vanished = omega arith

pieces-brief : (x : Put) → Brief x → (ps : List Piece) → length (pieces_bytes x ps) ≤ length ps * 65536
pieces-brief x w [] = rw (bytes-none x) (omega arith)
pieces-brief x w (p ∷ ps) = rw (bytes-cons x p ps, length-append (piece_bytes x p) (pieces_bytes x ps)) (omega (arith, piece-brief x w p, pieces-brief x w ps))

-- an argument whose record's length fits 4 bytes
abbrev Fit : List ℕ → Type 0
Fit a = length a ≤ 2147483648

module _ (r : Run) (w : Brief r.put) (h : Each (λ i. length i ≤ 65536) r.items) (k : length r.icon ≤ 65536) where
  argument-fits : (a : Argument) → Few 32768 a → Each Fit (expanded r a)
  unfolding expanded icon_arguments
  argument-fits Files f = each-weaker (λ i l. omega arith) h
  argument-fits Icon f = go (eqb (length r.icon) 0)
    where
      go : (t : Bool) → Each Fit (pick t [] (ascii "--icon" ∷ r.icon ∷ []))
      go true = none_is
      go false = one-is (ascii "--icon") (omega arith) (one-is r.icon (omega arith) none_is)
  argument-fits (Text quoted ps) f = go (not quoted && all (leaves_nothing r.put.item) ps)
    where
      go : (t : Bool) → Each Fit (pick t [] (pieces_bytes r.put ps ∷ []))
      go true = none_is
      go false = one-is (pieces_bytes r.put ps) (omega (arith, pieces-brief r.put w ps)) none_is

  arguments-fit : {args : List Argument} → Each (Few 32768) args → Each Fit (expanded_all r args)
  unfolding expanded_all
  arguments-fit none_is = none_is
  arguments-fit (one-is a f fs) = each_append (argument-fits a f) (arguments-fit fs)

fits_all : {bs : List (List ℕ)} → Each Fit bs → FitsAll (records_of 3 bs)
fits_all none_is = no_record
fits_all (one-is b p h) = one_more (fits (record { kind = 3; body = b }) (omega arith) (omega arith)) (fits_all h)

-- ---- how long the texts are

-- the raw value of a row that was found is no longer than the file
raw-short : (file : List ℕ) (p : Row → Bool) (r : Row) → first p (read_rows file) ≡ Some r → length (raw_value r) ≤ length file
raw-short file p r i =
    let e = value_ends r in
    let h : e.to ≤ length file = (first-inside file p r i).1 in
    rw (← first-stands file p r i) (omega (arith, length_part e.from e.to file h))

text-short : (file : List ℕ) (p : Row → Bool) (r : Row) → first p (read_rows file) ≡ Some r → {s : List ℕ} → read_text (raw_value r) ≡ Ok s → length s ≤ length file
text-short file p r i e = omega (arith, rw e at (read-le (raw_value r)), raw-short file p r i)

-- the same of one that was found by its title
titled-short : (file : List ℕ) (t : Title) (r : Row) → find_row (read_rows file) t ≡ Some r → {s : List ℕ} → read_text (raw_value r) ≡ Ok s → length s ≤ length file
unfolding find_row
titled-short file t r i e = text-short file (λ s. same_title t (title s)) r i e

module _ (file locale : List ℕ) where
  chosen-short : (group key : List ℕ) (r : Row) → chosen (read_rows file) group key locale ≡ Some r → {s : List ℕ} → read_text (raw_value r) ≡ Ok s → length s ≤ length file
  chosen-short group key r i e = let w = chosen-found file group key locale r i in text-short file w.0 r w.1 e

  pub name-in-short : (group : List ℕ) {name : List ℕ} → name_in (read_rows file) group locale ≡ Ok name → length name ≤ length file
  name-in-short group {name} e = let a = some-given (chosen (read_rows file) group (ascii "Name") locale) Missing (λ r. read_text (raw_value r)) name e in chosen-short group (ascii "Name") a.0 a.1 a.2

  name-short : (asked : Bool) {name : List ℕ} → name_text (read_rows file) locale asked ≡ Ok name → length name ≤ length file
  unfolding name_text
  name-short false {name} e = let i : [] ≡ name = given_is _ _ e in rw (← i) (omega arith)
  name-short true {name} e = name-in-short desktop_entry e

  icon-short : (group : List ℕ) (asked : Bool) {icon : List ℕ} → icon_text (read_rows file) group locale asked ≡ Ok icon → length icon ≤ length file
  unfolding icon_text
  icon-short group false {icon} e = let i : [] ≡ icon = given_is _ _ e in rw (← i) (omega arith)
  icon-short group true {icon} e = go (chosen (read_rows file) group (ascii "Icon") locale) refl e
    where
      go : (o : Option Row) → chosen (read_rows file) group (ascii "Icon") locale ≡ o → maybe o (Ok []) (λ r. read_text (raw_value r)) ≡ Ok icon → length icon ≤ length file
      go None i e = let j : [] ≡ icon = given_is _ _ e in rw (← j) (omega arith)
      go (Some r) i e = chosen-short group (ascii "Icon") r i e

pub file-short : (file : List ℕ) → check_as desktop_entry file ≡ Ok tt → length file ≤ 32768
unfolding check_as
file-short file e = leb-true (length file) file_most (need-given _ _ (λ _. checked_rows desktop_entry (read_rows file)) tt e).0

location-short : (s : List ℕ) → fit_location s ≡ true → length s ≤ 4096
unfolding fit_location
location-short s e = leb-true (length s) 4096 (and_both (leb (length s) 4096) (no_zero s) e).0

-- ---- how long the items are

items-each : (bs : List (List ℕ)) {n : ℕ} → length (list_of 2 bs) ≤ n → Each (λ b. 6 + length b ≤ n) bs
items-each [] h = none_is
items-each (b ∷ bs) h = let l = length-cons 2 b bs in one-is b (omega arith) (items-each bs (omega arith))

-- an item's record is no longer than the list
pub items-short : (list : List ℕ) (items : List (List ℕ)) → read_list 2 list_most list ≡ Some items → Each (λ b. 6 + length b ≤ 65536) items
items-short list items e =
    let i : items_in list ≡ items = rw e in
    let l = items-length 2 list (rw e) in
    items-each items (omega (arith, rw i at l, (list-sound 2 list_most list e).short))

-- the item of a run, where there is one or none
item-short : {items : List (List ℕ)} → Each (λ b. 6 + length b ≤ 65536) items → (n : ℕ) → length (get_or items n []) ≤ 65536
item-short none_is n = omega arith
item-short (one-is b p h) zero = omega arith
item-short (one-is b p h) (suc n) = item-short h n

-- ---- read back

-- the records of an accepted expansion's arguments fit
pub arguments-short : {by : Expander} {k : Known by} {file locale location list : List ℕ} (s : Sound k file locale location) (items : List (List ℕ)) → Listed list items → (run : ℕ) → FitsAll (records_of 3 (arguments_of s items run))
arguments-short {by} {k} {file} {locale} {location} {list} s items w run =
    let f = file-short file s.checks in
    let h = items-short list items w.reads in
    fits_all
    (arguments-fit (run_of (put_of (get_or items run []) s.name location) items s.icon)
    (record {
      item = item-short h run;
      name = omega (arith, name-short file locale _ s.named);
      location = omega (arith, location-short location s.placed);
    })
    (each-weaker (λ b l. omega arith) h)
    (omega (arith, icon-short file locale by.group _ s.icon-read))
    (each-weaker (few-more (omega (arith, titled-short file _ s.row s.found s.unescaped))) (command-few s.exec s.command s.read)))
  where
    few-more : {n : ℕ} → n ≤ 32768 → (a : Argument) → Few n a → Few 32768 a
    few-more h Files f = tt
    few-more h Icon f = tt
    few-more h (Text quoted ps) f = omega arith

-- the output reads back as the arguments
pub output-back : {by : Expander} {k : Known by} {file locale location list : List ℕ} (s : Sound k file locale location) (items : List (List ℕ)) → Listed list items → (run : ℕ) {out : List ℕ} → out ≡ list_of 3 (arguments_of s items run)
    → read_list 3 (length out) out ≡ Some (arguments_of s items run)
output-back s items w run {out} e = rw e (list_back 3 (length (list_of 3 (arguments_of s items run))) (arguments_of s items run) (arguments-short s items w run) (omega arith))

-- a list of one item reads
pub one-reads : (item : List ℕ) → 6 + length item ≤ 65536 → read_list 2 list_most (list_of 2 (item ∷ [])) ≡ Some (item ∷ [])
one-reads item h = list_back 2 list_most (item ∷ []) (one_more (fits (record { kind = 2; body = item }) (omega arith) (omega arith)) no_record) (omega (arith, length-one 2 item))
