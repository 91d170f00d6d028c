-- The first pass over a file: after some rows, what the titles seen, the rows before and the marks tell of each other. Assumes nothing.
use Rattle.std.specs.Prelude.{Some, None, Ok, Err}
use mathlib.Core.Path.{◌≡◌, refl, sym, ap, ◌∙◌}
use Prim.Native.Nat.{ℕ, ◌+◌, ◌%◌, ◌≤◌, ◌<◌}
use native.Mathlib.Omega.{arith}
use mathlib.Core.Bool.{Bool, true, false, not, ◌||◌, false≢true}
use mathlib.Core.List.{List, [], ◌∷◌}
use lib.ListN.{length, take, drop}
use lib.Dec.{eqb}
use borrow.Author.Tests.{eq-eqb, ne_eqb, eqb-true, eqb-false}
use Rattle.base.specs.Choice.{pick, maybe}
use Rattle.base.specs.Lists.{part, any}
use Rattle.base.proofs.Tests.{no, by-test}
use Rattle.fault.specs.declared.Fault.{Fault}
use Rattle.fault.specs.declared.Fault.TheVariants.{FirstGroup, RepeatedGroup, RepeatedKey}
use Rattle.fault.specs.Answer.{need, unless}
use Rattle.fault.proofs.Answers.{unless-refused, unless-none}
use Rattle.line.specs.Line.{read_line, is_bad}
use Rattle.line.specs.declared.Line.{Line}
use Rattle.line.specs.declared.Line.TheVariants.{Blank, Comment, Header, Entry, Bad}
use Rattle.marks.proofs.Table.{mark-length}
use Rattle.rows.specs.Rows.{Row, rows, group_after, rows_from, read_rows}
use Rattle.rows.specs.Title.{Title, Nameless, Group, Key, title_of, title, same_title, seeing, find_row, has}
use Rattle.rows.specs.Find.{line_length, none_bad}
use Rattle.base.proofs.Search.{there-first}
use Rattle.rows.proofs.Titles.{nameless}
use Rattle.rows.proofs.Step.{row_at, group_next, title_at, no_row, title-at, row_step, Prefix, prefix-start, prefix-end, prefix-read, prefix-next}
use Rattle.wellformed.specs.Check.{title_fault, row_fault, earliest, is_group, titled_as}
use Rattle.wellformed.specs.Pass.{title_after, row_after, MarksTell, marks_with}
use Rattle.wellformed.proofs.Lists.{or-false, or-true, or_comm, any_last}
use Rattle.wellformed.proofs.Places.{tag_after}
use Rattle.wellformed.proofs.Known.{Known, known_start, known-header, known-entry}

-- what a fault that is asked by a test is told as
told_none : (b : Bool) (f : Fault) → unless (pick b None (Some f)) ≡ need b f
told_none true f = refl
told_none false f = refl

told-some : (b : Bool) (f : Fault) → unless (pick b (Some f) None) ≡ need (not b) f
told-some true f = refl
told-some false f = refl

-- a title without fault is new, and the first is no key's
fault-new : (leading : List ℕ) (seen : List Title) (t : Title) (n : ℕ) (again : Fault) → title_fault leading seen t n again ≡ None → any (same_title t) seen ≡ false
unfolding title_fault any
fault-new leading [] t n again e = refl
fault-new leading (s ∷ seen) t n again e = by-test (any (same_title t) (s ∷ seen)) (λ y. let z : Some again ≡ None = rw y at e in no (cc)) (λ f. f)

key-later : (leading g k : List ℕ) (n : ℕ) (again : Fault) → title_fault leading [] (Key g k) n again ≡ None → ⊥
unfolding title_fault same_title
key-later leading g k n again e = no (cc)

-- some row has this title
abbrev seen_in : List Row → Title → Bool
seen_in rs t = any (λ r. same_title t (title r)) rs

pub record Checking (leading file m : List ℕ) (p n tag : ℕ) (group : List ℕ) : Type 0 where
  pub seen : List Title
  pub known : Known m tag group seen
  pub prefix : Prefix file p n group
  pub good : any (λ r. is_bad r.reading) (read_rows (take p file)) ≡ false
  pub as_seen : (t : Title) → any (same_title t) seen ≡ seen_in (read_rows (take p file)) t
  pub headed : any (λ r. is_group (title r)) (read_rows (take p file)) ≡ not (eqb tag 0)
  pub goes : earliest leading seen (rows_from n p group (rows (drop p file))) ≡ earliest leading [] (read_rows file)

pub checking-start : (leading file m : List ℕ) → 0 < length m → Checking leading file m 0 1 0 []
unfolding read_rows rows rows_from any
checking-start leading file m h =
    record { seen = []; known = known_start m h; prefix = prefix-start file; good = refl; as_seen = λ t. refl; headed = refl; goes = refl }

pub marks-length : (m : List ℕ) (tag : ℕ) (t : Title) → length (marks_with m tag t) ≡ length m
marks-length m tag Nameless = refl
marks-length m tag (Group g) = mark-length m 0 g
marks-length m tag (Key g k) = mark-length m tag k

-- ---- one title more

seeing-any : (t u : Title) (seen : List Title) → any (same_title t) (seeing u seen) ≡ (any (same_title t) seen || same_title t u)
unfolding any
seeing-any t Nameless seen = sym (ap (λ (b : Bool). any (same_title t) seen || b) (nameless t) ∙ or-false (any (same_title t) seen))
seeing-any t (Group h) seen = or_comm (same_title t (Group h)) (any (same_title t) seen)
seeing-any t (Key h l) seen = or_comm (same_title t (Key h l)) (any (same_title t) seen)

-- ---- the row at a place

module _ {leading file m : List ℕ} {p n tag : ℕ} {group : List ℕ} (c : Checking leading file m p n tag group) where
  -- a title was seen exactly if a row before has it
  has-seen : (t : Title) → has (read_rows (take p file)) t ≡ any (same_title t) c.seen
  unfolding find_row
  has-seen t = there-first (λ r. same_title t (title r)) (read_rows (take p file)) ∙ sym (c.as_seen t)

  -- what the marks tell
  pub marks-tell : MarksTell m tag group (read_rows (take p file))
  marks-tell = record {
    words = c.known.words;
    groups = λ x e. has-seen (Group x) ∙ c.known.groups x e;
    keys = λ x e. has-seen (Key group x) ∙ c.known.keys x e;
  }

  -- what a title is told, by the rows before
  title-told : (t : Title) (again : Fault) → unless (title_fault leading c.seen t n again) ≡ title_after (eqb tag 0) leading (read_rows (take p file)) t n again
  unfolding title_fault title_after any
  title-told t again =
      by-test (eqb tag 0)
      (λ y. rw (y, c.known.begun (eqb-true tag 0 y)) (told_none (same_title t (Group leading)) (FirstGroup n)))
      (λ z. rw (z, has-seen t) (later c.seen (c.known.current (eqb-false tag 0 z))))
    where
      later : (seen : List Title) → any (same_title (Group group)) seen ≡ true → unless (title_fault leading seen t n again) ≡ need (not (any (same_title t) seen)) again
      later [] y = absurd (false≢true y)
      later (s ∷ seen) y = told-some (any (same_title t) (s ∷ seen)) again

  pub none-bad : none_bad (take p file) ≡ true
  unfolding none_bad
  none-bad = rw c.good

  module _ {e : ℕ} (h : p < length file) (q : e ≡ p + line_length (drop p file)) where
    abbrev named : Line → Title
    named r = title_of (group_after group (part p e file) r) (part p e file) r

    earliest-at : earliest leading c.seen (rows_from n p group (rows (drop p file)))
        ≡ maybe (row_fault leading c.seen (title_at file p e group) n (read_line (part p e file))) (earliest leading (seeing (title_at file p e group) c.seen) (rows_from (n + 1) (e + 1) (group_next file p e group) (rows (drop (e + 1) file)))) Some
    unfolding earliest
    earliest-at = rw (row_step file h q n group, title-at file h q n group)

    going : (m' : List ℕ) (tag' : ℕ) → row_fault leading c.seen (title_at file p e group) n (read_line (part p e file)) ≡ None → is_bad (read_line (part p e file)) ≡ false
        → Known m' tag' (group_next file p e group) (seeing (title_at file p e group) c.seen) → (not (eqb tag 0) || is_group (title_at file p e group)) ≡ not (eqb tag' 0)
        → Checking leading file m' (e + 1) (n + 1) tag' (group_next file p e group)
    going m' tag' w g k t = record {
      seen = seeing (title_at file p e group) c.seen;
      known = k;
      prefix = prefix-next c.prefix h q;
      good = rw (prefix-read c.prefix h q, any_last (λ r. is_bad r.reading) (read_rows (take p file)) (row_at file n p e group), c.good) g;
      as_seen =
          λ u.
          seeing-any u (title_at file p e group) c.seen
          ∙ rw (prefix-read c.prefix h q, any_last (λ r. same_title u (title r)) (read_rows (take p file)) (row_at file n p e group), title-at file h q n group, c.as_seen u);
      headed = rw (prefix-read c.prefix h q, any_last (λ r. is_group (title r)) (read_rows (take p file)) (row_at file n p e group), title-at file h q n group, c.headed) t;
      goes = sym (earliest-at ∙ rw w) ∙ c.goes;
    }

    -- ---- by what the line is

    -- what a row is told, by the rows before
    row_told : (r : Line) → unless (row_fault leading c.seen (named r) n r) ≡ row_after (eqb tag 0) leading (read_rows (take p file)) (named r) n r
    row_told Blank = refl
    row_told Comment = refl
    row_told (Header end) = title-told (Group (part 1 end (part p e file))) (RepeatedGroup n)
    row_told (Entry key name value) = title-told (Key group (take name (part p e file))) (RepeatedKey n)
    row_told (Bad b) = refl

    pub checking-fault : {r : Line} {f : Fault} → r ≡ read_line (part p e file) → Err f ≡ row_after (eqb tag 0) leading (read_rows (take p file)) (named r) n r
        → Err f ≡ titled_as leading (read_rows file)
    unfolding titled_as
    checking-fault {r} {f} x v =
        let w = rw x at (unless-refused (row_fault leading c.seen (named r) n r) f (row_told r ∙ sym v)) in
        let z : earliest leading [] (read_rows file) ≡ Some f = sym c.goes ∙ earliest-at ∙ rw w in
        rw z

    pub checking-next : {m' : List ℕ} (r : Line) → r ≡ read_line (part p e file) → Ok tt ≡ row_after (eqb tag 0) leading (read_rows (take p file)) (named r) n r → m' ≡ marks_with m tag (named r)
        → Checking leading file m' (e + 1) (n + 1) (tag_after tag r) (group_after group (part p e file) r)
    checking-next {m'} r x v i = by r x (unless-none (row_fault leading c.seen (named r) n r) (v ∙ sym (row_told r))) i
      where
        step : (r : Line) (tag' : ℕ) → r ≡ read_line (part p e file) → row_fault leading c.seen (named r) n r ≡ None → is_bad r ≡ false
            → Known m' tag' (group_after group (part p e file) r) (seeing (named r) c.seen) → (not (eqb tag 0) || is_group (named r)) ≡ not (eqb tag' 0)
            → Checking leading file m' (e + 1) (n + 1) tag' (group_after group (part p e file) r)
        step r tag' x w g k t = rw (← x) at (going m' tag' (rw (← x) w) (rw (← x) g) (rw (← x) k) (rw (← x) t))

        by : (r : Line) → r ≡ read_line (part p e file) → row_fault leading c.seen (named r) n r ≡ None → m' ≡ marks_with m tag (named r)
            → Checking leading file m' (e + 1) (n + 1) (tag_after tag r) (group_after group (part p e file) r)
        by Blank x w i = step Blank tag x w refl (rw i c.known) (or-false (not (eqb tag 0)))
        by Comment x w i = step Comment tag x w refl (rw i c.known) (or-false (not (eqb tag 0)))
        by (Header end) x w i =
            let g : List ℕ = part 1 end (part p e file) in
            let z : tag % 65535 + 1 ≡ 0 → ⊥ = λ j. omega arith in
            step (Header end) (tag % 65535 + 1) x w refl
            (rw i (known-header c.known g (tag % 65535 + 1) z (fault-new leading c.seen (Group g) n (RepeatedGroup n) w)))
            (rw (ne_eqb (tag % 65535 + 1) 0 z) (or-true (not (eqb tag 0))))
        by (Entry key name value) x w i =
            let k : List ℕ = take name (part p e file) in
            step (Entry key name value) tag x w refl
            (rw i (known-entry c.known k (λ z. key-later leading group k n (RepeatedKey n) (rw (c.known.begun z) at w))))
            (or-false (not (eqb tag 0)))
        by (Bad b) x w i = no (cc)

  -- ---- at the end

  all_read : length file ≤ p → earliest leading [] (read_rows file) ≡ None
  unfolding earliest rows_from
  all_read h = sym c.goes ∙ rw (no_row file p h)

  pub end_none : length file ≤ p → tag ≡ 0 → Err (FirstGroup 0) ≡ titled_as leading (read_rows file)
  unfolding titled_as
  end_none h z = rw (all_read h, prefix-end c.prefix h, c.headed, eq-eqb tag 0 z)

  pub end-some : length file ≤ p → (tag ≡ 0 → ⊥) → Ok tt ≡ titled_as leading (read_rows file)
  unfolding titled_as
  end-some h z = rw (all_read h, prefix-end c.prefix h, c.headed, ne_eqb tag 0 z)
