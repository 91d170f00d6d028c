-- Checking, lookup and choice together. Assumes nothing.
use Rattle.std.specs.Prelude.{Option, Some, None, Ok, Err}
use mathlib.Core.Path.{◌≡◌, refl, sym, ap, ◌∙◌}
use Prim.Native.Nat.{ℕ}
use mathlib.Core.Bool.{Bool, true, false, not, ◌&&◌, ◌||◌, false≢true}
use mathlib.Core.List.{List, [], ◌∷◌, ◌++◌, append_assoc}
use lib.ListN.{length}
use lib.Seq.{take-append_seam}
use lib.Dec.{eqb, leb}
use borrow.Author.Tests.{eqb-true}
use Rattle.base.specs.Choice.{pick, maybe, there}
use Rattle.base.specs.Lists.{all, any, first}
use Rattle.base.proofs.Tests.{no, none-there as no_row, and_both, or-both}
use Rattle.base.proofs.Search.{any-as, there-first, first-none, first_passes}
use Rattle.base.proofs.Search as search
use Rattle.fault.specs.declared.Fault.TheVariants.{BadArgument, Missing}
use Rattle.fault.specs.Answer.{Answer, ◌>>=◌, need, some_or, accepted}
use Rattle.characters.specs.Class.{key_byte}
use Rattle.line.specs.Line.{is_bad}
use Rattle.line.specs.Form.{group_form, key_form, plain_form, locale_form}
use Rattle.rows.specs.Rows.{Row, read_rows}
use Rattle.rows.specs.Title.{desktop_entry, Title, Nameless, Group, Key, title, titles, find_row, has}
use Rattle.rows.proofs.Titles.{same_title-true}
use Rattle.wellformed.specs.Check.{check, plain_of, plain_title, wanted, no_plain}
use Rattle.wellformed.specs.WellFormed.{leads, distinct, well_formed_as, well_formed}
use Rattle.wellformed.proofs.Accepts.{checks}
use Rattle.choice.specs.Locale.{candidates, postfixed, stripped_key, stripped_title, find_stripped, first_key, keys_of, chosen}
use Rattle.choice.proofs.Stripped.{span-cut, stripped-plain, encoding_of, stripped-same, plain-found}
use Rattle.choice.proofs.Chosen.{has_stripped, there-key, chosen-there}
use Rattle.choice.proofs.Choices.{first-append}
use Rattle.entry.specs.Lookup.{value_ends, lookup}
use Rattle.entry.specs.Choose.{chosen_ends, choose}
use Rattle.demands.specs.Files.{LookupMisses, ChoiceMisses, names, ChoiceTakesFirst, first_whole, choose_whole, has_encoding, ChoiceWithoutEncodings}

-- ---- each postfixed key of a well-formed file stands plain too

all_plain : (file : List ℕ) → well_formed file ≡ true → any (no_plain (read_rows file)) (read_rows file) ≡ false
unfolding well_formed_as
all_plain file w =
    let rs : List Row = read_rows file in
    not-true (any (no_plain rs) rs)
    (and_both
    (leb (length file) 32768 && not (any (λ r. is_bad r.reading) rs) && leads desktop_entry (titles rs) && distinct (titles rs)) (not (any (no_plain rs) rs)) w).1
  where
    not-true : (t : Bool) → not t ≡ true → t ≡ false
    not-true true e = sym e
    not-true false e = refl

-- what no element of a list is, one that was found is not
none_is : (p q : Row → Bool) (rs : List Row) (r : Row) → any p rs ≡ false → first q rs ≡ Some r → p r ≡ false
unfolding any first
none_is p q [] r h e = no (cc)
none_is p q (x ∷ rs) r h e = by (q x) e (or-both (p x) (any p rs) h) (none_is p q rs r)
  where
    by : (t : Bool) → pick t (Some x) (first q rs) ≡ Some r → (p x ≡ false) × (any p rs ≡ false) → (any p rs ≡ false → first q rs ≡ Some r → p r ≡ false) → p r ≡ false
    by true e h f = let i : x ≡ r = cc in rw i at h.0
    by false e h f = f h.1 e

-- a key that is there, encodings apart, stands plain too
stands_plain : (file group x : List ℕ) → well_formed file ≡ true → has_stripped (read_rows file) (Key group x) ≡ true → has (read_rows file) (Key group (plain_of x)) ≡ true
unfolding no_plain find_stripped plain_of
stands_plain file group x w y = by (find_stripped (read_rows file) (Key group x)) refl y
  where
    not-not : (t : Bool) → not t ≡ false → t ≡ true
    not-not true e = refl
    not-not false e = sym e

    named : (t : Title) → Key group x ≡ stripped_title t → wanted (read_rows file) (plain_title t) ≡ false → has (read_rows file) (Key group (plain_of x)) ≡ true
    named Nameless i n = no (cc)
    named (Group g) i n = no (cc)
    named (Key g k) i n =
        let a : group ≡ g = cc in
        let b : x ≡ stripped_key k = cc in
        rw (a, b, stripped-plain k) (not-not (has (read_rows file) (Key g (plain_of k))) n)

    by : (o : Option Row) → find_stripped (read_rows file) (Key group x) ≡ o → there o ≡ true → has (read_rows file) (Key group (plain_of x)) ≡ true
    by None q y = absurd (false≢true y)
    by (Some r) q y =
        named (title r) (same_title-true (Key group x) (stripped_title (title r)) (first_passes (names group x) (read_rows file) r q))
        (none_is (no_plain (read_rows file)) (names group x) (read_rows file) r (all_plain file w) q)

-- ---- the plain key of a key with a postfix

plain-postfixed : (key l : List ℕ) → plain_form key ≡ true → plain_of (postfixed key l) ≡ key
unfolding plain_of plain_form key_byte
plain-postfixed key l f =
    let k = (and_both (not (eqb (length key) 0)) (all key_byte key) f).1 in
    let e : postfixed key l ≡ key ++ (91 ∷ (l ++ (93 ∷ []))) = simp append_assoc in
    rw (e, span-cut key (91 ∷ (l ++ (93 ∷ []))) k refl) (take-append_seam key (91 ∷ (l ++ (93 ∷ []))))

-- ---- the laws

answers : {A : Type 0} (t : Bool) (k : Answer A) → t ≡ true → (need t BadArgument >>= λ _. k) ≡ k
answers true k e = refl
answers false k e = absurd (false≢true e)

-- a value that is there is told by its ends, and one that is not by 8
missing : (o : Option Row) → ((some_or o Missing >>= λ r. Ok (value_ends r)) ≡ Err Missing → there o ≡ false)
    × (there o ≡ false → (some_or o Missing >>= λ r. Ok (value_ends r)) ≡ Err Missing)
missing None = (λ e. refl, λ e. refl)
missing (Some r) = (λ e. no (cc), λ e. no (cc))

present : (o : Option Row) → there o ≡ true → accepted (some_or o Missing >>= λ r. Ok (value_ends r)) ≡ true
present (Some r) e = refl
present None e = absurd (false≢true e)

pub lookup-is : (file group key : List ℕ) → well_formed file ≡ true → (group_form group && key_form key) ≡ true
    → lookup file group key ≡ (some_or (find_row (read_rows file) (Key group key)) Missing >>= λ r. Ok (value_ends r))
unfolding lookup
lookup-is file group key w f = rw (checks file w) (answers (group_form group && key_form key) (some_or (find_row (read_rows file) (Key group key)) Missing >>= λ r. Ok (value_ends r)) f)

pub choose-is : (file group key locale : List ℕ) → check file ≡ Ok tt → (group_form group && plain_form key && locale_form locale) ≡ true
    → choose file group key locale ≡ chosen_ends (read_rows file) group key locale
unfolding choose
choose-is file group key locale c f = rw c (answers (group_form group && plain_form key && locale_form locale) (chosen_ends (read_rows file) group key locale) f)

pub lookup-misses : LookupMisses
unfolding LookupMisses
lookup-misses file group key w f =
    let o = find_row (read_rows file) (Key group key) in
    let i = lookup-is file group key w f in
    (λ e. rw i (present o e), λ e. i ∙ (missing o).1 e)

-- an entry that lookup finds is there
pub lookup-has : (file group key : List ℕ) → accepted (lookup file group key) ≡ true → has (read_rows file) (Key group key) ≡ true
unfolding lookup
lookup-has file group key e = by (check file) (group_form group && key_form key) (find_row (read_rows file) (Key group key)) e
  where
    by : (a : Answer (Unit {0})) (t : Bool) (o : Option Row) → accepted (a >>= λ _. (need t BadArgument >>= λ _. (some_or o Missing >>= λ r. Ok (value_ends r)))) ≡ true
        → there o ≡ true
    by (Err f) t o e = absurd (false≢true e)
    by (Ok tt) false o e = absurd (false≢true e)
    by (Ok tt) true None e = absurd (false≢true e)
    by (Ok tt) true (Some r) e = refl

-- where the plain key is absent, so is each candidate
none-there : (file group key : List ℕ) (ls : List (List ℕ)) → well_formed file ≡ true → plain_form key ≡ true → has (read_rows file) (Key group key) ≡ false
    → any (λ l. has_stripped (read_rows file) (Key group (postfixed key l))) ls ≡ false
unfolding any
none-there file group key [] w f h = refl
none-there file group key (l ∷ ls) w f h = by (has_stripped (read_rows file) (Key group (postfixed key l))) refl (none-there file group key ls w f h)
  where
    by : (t : Bool) → has_stripped (read_rows file) (Key group (postfixed key l)) ≡ t → any (λ l. has_stripped (read_rows file) (Key group (postfixed key l))) ls ≡ false
        → (t || any (λ l. has_stripped (read_rows file) (Key group (postfixed key l))) ls) ≡ false
    by false q e = e
    by true q e =
        absurd (false≢true (sym h ∙ ap (λ (k : List ℕ). has (read_rows file) (Key group k)) (sym (plain-postfixed key l f)) ∙ stands_plain file group (postfixed key l) w q))

pub choice-misses : ChoiceMisses
unfolding ChoiceMisses plain_form
choice-misses file group key locale w f =
    let rs : List Row = read_rows file in
    let m = missing (chosen rs group key locale) in
    let i = choose-is file group key locale (checks file w) f in
    let t = chosen-there rs group key locale in
    let p = (and_both (group_form group) (plain_form key) (and_both (group_form group && plain_form key) (locale_form locale) f).0).1 in
    let own = ap there (plain-found key (and_both (not (eqb (length key) 0)) (all key_byte key) p).1 rs group) in (
      λ e. sym own ∙ (or-both (any (λ l. has_stripped rs (Key group (postfixed key l))) (candidates locale)) (has_stripped rs (Key group key)) (sym t ∙ m.0 (sym i ∙ e))).1,
      λ e. i ∙ m.1 (t ∙ rw (none-there file group key (candidates locale) w p e, own, e)),
    )

-- ---- the first that is there

-- no row names one of some keys, so none is found
no_key : (rs : List Row) (group : List ℕ) (ks : List (List ℕ)) → any (λ k. any (names group k) rs) ks ≡ false → first_key rs group ks ≡ None
unfolding find_stripped
no_key rs group ks e =
    no_row (first_key rs group ks) (there-key rs group ks ∙ any-as (λ k. has_stripped rs (Key group k)) (λ k. any (names group k) rs) (λ k. there-first (names group k) rs) ks ∙ e)

-- the first row that names a key is found
first_found : (group k : List ℕ) (above below : List Row) (r : Row) → any (names group k) above ≡ false → names group k r ≡ true
    → find_stripped (above ++ (r ∷ below)) (Key group k) ≡ Some r
unfolding find_stripped first
first_found group k above below r e i = search.first-append (names group k) above (r ∷ below) ∙ rw (first-none (names group k) above e, i)

pub choice-takes-first : ChoiceTakesFirst
unfolding ChoiceTakesFirst chosen first_key
choice-takes-first file group key locale k before after above below r w f i b is e n =
    let rs : List Row = read_rows file in
    let y : find_stripped rs (Key group k) ≡ Some r = rw is (first_found group k above below r e n) in
    let z : maybe (first_key rs group before) (first_key rs group (k ∷ after)) Some ≡ Some r = rw (no_key rs group before b, y) in
    let c : chosen rs group key locale ≡ Some r = ap (first_key rs group) i ∙ first-append rs group before (k ∷ after) ∙ z in
    choose-is file group key locale (checks file w) f ∙ rw c

-- ---- a file without encodings

title-whole : (t : Title) → has_encoding t ≡ false → stripped_title t ≡ t
title-whole Nameless e = refl
title-whole (Group g) e = refl
title-whole (Key g k) e = ap (Key g) (stripped-same k (eqb-true (encoding_of k) 0 (by (eqb (encoding_of k) 0) e)))
  where
    by : (t : Bool) → not t ≡ false → t ≡ true
    by true e = refl
    by false e = sym e

found-whole : (rs : List Row) (t : Title) → any (λ r. has_encoding (title r)) rs ≡ false → find_stripped rs t ≡ find_row rs t
unfolding find_stripped find_row first any
found-whole [] t e = refl
found-whole (r ∷ rs) t e =
    let b = or-both (has_encoding (title r)) (any (λ r. has_encoding (title r)) rs) e in
    rw (title-whole (title r) b.0, found-whole rs t b.1)

first-whole : (rs : List Row) (group : List ℕ) (ks : List (List ℕ)) → any (λ r. has_encoding (title r)) rs ≡ false → first_key rs group ks ≡ first_whole rs group ks
unfolding first_key first_whole
first-whole rs group [] e = refl
first-whole rs group (k ∷ ks) e = rw (found-whole rs (Key group k) e, first-whole rs group ks e)

pub choice-without-encodings : ChoiceWithoutEncodings
unfolding ChoiceWithoutEncodings choose choose_whole chosen
choice-without-encodings file group key locale e = rw (first-whole (read_rows file) group (keys_of key locale) e)
