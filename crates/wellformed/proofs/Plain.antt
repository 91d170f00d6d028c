-- The rule of plain keys: what the state tells of the rows before, and the second pass row by row. Assumes nothing.
use Rattle.std.specs.Prelude.{Option, Ok, Err}
use mathlib.Core.Path.{◌≡◌, refl, sym, ap, ◌∙◌}
use Prim.Native.Nat.{ℕ, ◌+◌, ◌≤◌, ◌<◌}
use native.Mathlib.Omega.{arith}
use mathlib.Core.Bool.{Bool, true, false, not, ◌||◌}
use mathlib.Core.List.{List}
use lib.ListN.{length, take, drop}
use lib.Seq.{take-take}
use lib.Dec.{eqb}
use borrow.Author.Tests.{eqb-true, not-false}
use Rattle.base.specs.Choice.{pick, maybe}
use Rattle.base.specs.Lists.{same, part, any, first}
use Rattle.base.proofs.Tests.{no, by-test, same_refl, same_true}
use Rattle.base.proofs.Search.{there-first, any_append, first-none}
use Rattle.fault.specs.declared.Fault.{Fault}
use Rattle.fault.specs.declared.Fault.TheVariants.{NoPlainKey}
use Rattle.fault.specs.Answer.{Answer, need}
use Rattle.line.specs.Line.{read_line}
use Rattle.line.specs.declared.Line.{Line}
use Rattle.line.specs.declared.Line.TheVariants.{Blank, Comment, Header, Entry, Bad}
use Rattle.line.proofs.Entries.{entry_key}
use Rattle.rows.specs.Rows.{Row, rows, group_after, rows_from, read_rows}
use Rattle.rows.specs.Title.{Title, Key, title_of, title, same_title, find_row, has}
use Rattle.rows.specs.Find.{line_length}
use Rattle.rows.proofs.Step.{row_at, title_at, no_row, title-at, row_step, Prefix, prefix-start, prefix-end, prefix-rest, prefix-read, prefix-next}
use Rattle.wellformed.specs.declared.Part.{Part}
use Rattle.wellformed.specs.declared.State.{State}
use Rattle.wellformed.specs.Check.{plain_of, plain_title, wanted, no_plain, plain_all}
use Rattle.wellformed.specs.Pass.{bytes, Lies, Within, start, after, LastThere, plain_at}
use Rattle.wellformed.proofs.Lists.{or-true, any_last, pick-by}
use Rattle.wellformed.proofs.Places.{bytes-length, reads-within, tag_after, reads, name-lies, name-bytes, key-lies, key-bytes}

-- the same bytes are there under either part
pub there-as : (file group : List ℕ) (y x : Part) → Lies file y → Lies file x → 0 < x.len → same (bytes file y) (bytes file x) ≡ true
    → (0 < y.len → has (read_rows file) (Key group (bytes file y)) ≡ true) → has (read_rows file) (Key group (bytes file x)) ≡ true
there-as file group y x j k z t f =
    let i : bytes file y ≡ bytes file x = same_true (bytes file y) (bytes file x) t in
    rw (← i) (f (omega (arith, bytes-length file y j, bytes-length file x k, ap length i)))

-- what a row without its plain key is told as
abbrev pub told : Option Row → Answer (Unit {0})
told o = maybe o (Ok tt) (λ r. Err (NoPlainKey r.line))

module _ (file : List ℕ) where
  -- ---- the row at a place

  module _ {p n : ℕ} {group : List ℕ} (w : Prefix file p n group) {e : ℕ} (h : p < length file) (q : e ≡ p + line_length (drop p file)) where
    asks : no_plain (read_rows file) (row_at file n p e group) ≡ wanted (read_rows file) (plain_title (title_at file p e group))
    unfolding no_plain
    asks = ap (λ (t : Title). wanted (read_rows file) (plain_title t)) (title-at file h q n group)

    -- a row of the file is among its rows
    has-own : (t : Title) → same_title t (title (row_at file n p e group)) ≡ true → has (read_rows file) t ≡ true
    unfolding find_row any
    has-own t y =
        there-first (λ r. same_title t (title r)) (read_rows file)
        ∙ rw (prefix-rest w, any_append (λ r. same_title t (title r)) (read_rows (take p file)) (rows_from n p group (rows (drop p file))), row_step file h q n group, y) (or-true (any (λ r. same_title t (title r)) (read_rows (take p file))))

    module _ {key name value : ℕ} (x : Entry key name value ≡ read_line (part p e file)) where
      plain-front : plain_of (take name (part p e file)) ≡ take key (part p e file)
      unfolding plain_of
      plain-front =
          let b = reads-within (reads file h q x) in
          rw (entry_key (part p e file) key name value (sym x), take-take key name (part p e file) b.1)

      -- an entry asks for its plain key
      entry-asks : no_plain (read_rows file) (row_at file n p e group) ≡ not (has (read_rows file) (Key group (bytes file (record { from = p; len = key }))))
      entry-asks = asks ∙ rw (← x, plain-front, key-bytes file h q x)

      -- a plain key is there itself
      plain-there : eqb key name ≡ true → has (read_rows file) (Key group (bytes file (record { from = p; len = key }))) ≡ true
      unfolding same_title
      plain-there t =
          has-own (Key group (bytes file (record { from = p; len = key })))
          (rw (title-at file h q n group, ← x, key-bytes file h q x, eqb-true key name t, same_refl group, same_refl (take name (part p e file))))

    other-asks : (r : Line) → r ≡ read_line (part p e file) → wanted (read_rows file) (plain_title (title_of (group_after group (part p e file) r) (part p e file) r)) ≡ false
        → no_plain (read_rows file) (row_at file n p e group) ≡ false
    other-asks r x y = asks ∙ rw (← x) y

  -- ---- the state after the rows before p: unless there is doubt, only the plain key that is still to come can be missing

  pub record Held (p : ℕ) (s : State) : Type 0 where
    pub within : Within file s
    pub last-there : LastThere file s
    pub settled : s.doubt ≡ false → (0 < s.want.len → has (read_rows file) (Key (bytes file s.group) (bytes file s.want)) ≡ true)
        → any (no_plain (read_rows file)) (read_rows (take p file)) ≡ false

  pub held_start : Held 0 start
  unfolding read_rows rows rows_from any
  held_start = record { within = record { group = omega arith; last = omega arith; want = omega arith }; last-there = λ z. absurd (omega arith); settled = λ d z. refl }

  pub held-end : {p n : ℕ} {s : State} → Prefix file p n (bytes file s.group) → Held p s → s.doubt ≡ false → s.want.len ≡ 0 → length file ≤ p → Ok tt ≡ plain_all (read_rows file)
  unfolding plain_all
  held-end w k d i h =
      rw (first-none (no_plain (read_rows file)) (read_rows file) (ap (any (no_plain (read_rows file))) (prefix-end w h) ∙ k.settled d (λ z. absurd (omega arith))))

  module _ {p n : ℕ} {s : State} (w : Prefix file p n (bytes file s.group)) (k : Held p s) {e : ℕ} (h : p < length file) (q : e ≡ p + line_length (drop p file)) where
    more : any (no_plain (read_rows file)) (read_rows (take p file)) ≡ false → no_plain (read_rows file) (row_at file n p e (bytes file s.group)) ≡ false
        → any (no_plain (read_rows file)) (read_rows (take (e + 1) file)) ≡ false
    more i y = rw (prefix-read w h q, any_last (no_plain (read_rows file)) (read_rows (take p file)) (row_at file n p e (bytes file s.group)), i, y)

    -- the state stays
    stays : ((0 < s.want.len → has (read_rows file) (Key (bytes file s.group) (bytes file s.want)) ≡ true) → no_plain (read_rows file) (row_at file n p e (bytes file s.group)) ≡ false)
        → Held (e + 1) s
    stays f = record { within = k.within; last-there = k.last-there; settled = λ d z. more (k.settled d z) (f z) }

    -- what a row leaves: the group and its number, and the state
    pub record Next (r : Line) (t : State) : Type 0 where
      pub tag : t.tag ≡ tag_after s.tag r
      pub group : bytes file t.group ≡ group_after (bytes file s.group) (part p e file) r
      pub held : Held (e + 1) t

    -- after an entry: the same group, with another last key, key still to come or doubt
    entered : {key name value : ℕ} {last want : Part} {doubt : Bool} → Lies file last → Lies file want
        → (0 < last.len → has (read_rows file) (Key (bytes file s.group) (bytes file last)) ≡ true)
        → (doubt ≡ false → (0 < want.len → has (read_rows file) (Key (bytes file s.group) (bytes file want)) ≡ true) → any (no_plain (read_rows file)) (read_rows (take (e + 1) file)) ≡ false)
        → Next (Entry key name value) (record { tag = s.tag; group = s.group; last = last; want = want; doubt = doubt })
    entered i j t f = record { tag = refl; group = refl; held = record { within = record { group = k.within.group; last = i; want = j }; last-there = t; settled = f } }

    -- where the flag says so, the plain key of an entry is there
    pub held_next : (t : Bool) (r : Line) → r ≡ read_line (part p e file)
        → (t ≡ true → (key name value : ℕ) → Entry key name value ≡ r → has (read_rows file) (Key (bytes file s.group) (bytes file (record { from = p; len = key }))) ≡ true)
        → Next r (after file p t s r)
    held_next t Blank x o = record { tag = refl; group = refl; held = stays (λ z. other-asks w h q Blank x refl) }
    held_next t Comment x o = record { tag = refl; group = refl; held = stays (λ z. other-asks w h q Comment x refl) }
    held_next t (Bad b) x o = record { tag = refl; group = refl; held = stays (λ z. other-asks w h q (Bad b) x refl) }
    held_next t (Header end) x o =
        let g = name-lies file h q x in
        let y = name-bytes file h q x in
        pick-by (Next (Header end)) (eqb s.want.len 0)
        (λ i. record {
          tag = refl;
          group = y;
          held = record {
            within = record { group = g; last = omega arith; want = k.within.want };
            last-there = λ z. absurd (omega arith);
            settled = λ d z. more (k.settled d (λ l. absurd (omega (arith, eqb-true s.want.len 0 i)))) (other-asks w h q (Header end) x refl);
          };
        })
        (λ i. record { tag = refl; group = y; held = record { within = record { group = g; last = omega arith; want = omega arith }; last-there = λ z. absurd (omega arith); settled = λ d z. no (cc) } })
    held_next t (Entry key name value) x o =
        let x' : Part = record { from = p; len = key } in
        let l : Lies file x' = key-lies (reads file h q x) in
        let y : 0 < key = (reads-within (reads file h q x)).0 in
        let v : has (read_rows file) (Key (bytes file s.group) (bytes file x')) ≡ true → no_plain (read_rows file) (row_at file n p e (bytes file s.group)) ≡ false = λ i. entry-asks w h q x ∙ rw i in
        let own : (t || eqb key name) ≡ true → has (read_rows file) (Key (bytes file s.group) (bytes file x')) ≡ true = λ i. by-test t (λ j. o j key name value refl) (λ j. plain-there w h q x (rw j at i)) in
        pick-by (Next (Entry key name value)) (t || eqb key name)
        (λ i. pick-by (Next (Entry key name value)) (same (bytes file s.want) (bytes file x'))
        (λ j. entered l (omega arith) (λ z. own i) (λ d z. more (k.settled d (λ _. rw (same_true (bytes file s.want) (bytes file x') j) (own i))) (v (own i))))
        (λ j. entered l k.within.want (λ z. own i) (λ d z. more (k.settled d z) (v (own i)))))
        (λ i. pick-by (Next (Entry key name value)) (same (bytes file s.last) (bytes file x'))
        (λ j. record { tag = refl; group = refl; held = stays (λ z. v (there-as file (bytes file s.group) s.last x' k.within.last l y j k.last-there)) })
        (λ _. pick-by (Next (Entry key name value)) (same (bytes file s.want) (bytes file x'))
        (λ j. record { tag = refl; group = refl; held = stays (λ z. v (there-as file (bytes file s.group) s.want x' k.within.want l y j z)) })
        (λ _. pick-by (Next (Entry key name value)) (eqb s.want.len 0)
        (λ j. entered k.within.last l k.last-there (λ d z. more (k.settled d (λ i. absurd (omega (arith, eqb-true s.want.len 0 j)))) (v (z y))))
        (λ j. entered k.within.last k.within.want k.last-there (λ d z. no (cc))))))

  -- ---- the second pass

  pub record Asking (p n : ℕ) (s : State) : Type 0 where
    pub prefix : Prefix file p n (bytes file s.group)
    pub held : Held p s
    pub goes : told (first (no_plain (read_rows file)) (rows_from n p (bytes file s.group) (rows (drop p file)))) ≡ plain_all (read_rows file)

  pub asking-start : Asking 0 1 start
  unfolding plain_all read_rows
  asking-start = record { prefix = prefix-start file; held = held_start; goes = refl }

  module _ {p n : ℕ} {s : State} (a : Asking p n s) where
    pub asking-end : length file ≤ p → Ok tt ≡ plain_all (read_rows file)
    unfolding rows_from first
    asking-end h = rw (no_row file p h) at a.goes

    module _ {e : ℕ} (h : p < length file) (q : e ≡ p + line_length (drop p file)) {r : Line} (x : r ≡ read_line (part p e file)) where
      row-lacks : Bool
      row-lacks = no_plain (read_rows file) (row_at file n p e (bytes file s.group))

      -- what is asked of the row is whether it lacks its plain key
      lack-is : plain_at file p s n r ≡ pick row-lacks (Err (NoPlainKey n)) (Ok tt)
      unfolding row-lacks
      lack-is = by r x
        where
          other : (b : Bool) → need b (NoPlainKey n) ≡ pick (not b) (Err (NoPlainKey n)) (Ok tt)
          other true = refl
          other false = refl

          by : (r : Line) → r ≡ read_line (part p e file) → plain_at file p s n r ≡ pick row-lacks (Err (NoPlainKey n)) (Ok tt)
          by Blank x = rw (other-asks a.prefix h q Blank x refl)
          by Comment x = rw (other-asks a.prefix h q Comment x refl)
          by (Header end) x = rw (other-asks a.prefix h q (Header end) x refl)
          by (Entry key name value) x =
              rw (entry-asks a.prefix h q x)
              (by-test (eqb key name) (λ t. rw (t, plain-there a.prefix h q x t) refl) (λ f. rw f (other (has (read_rows file) (Key (bytes file s.group) (bytes file (record { from = p; len = key })))))))
          by (Bad b) x = rw (other-asks a.prefix h q (Bad b) x refl)

      pub asking-missing : {f : Fault} → Err f ≡ plain_at file p s n r → Err f ≡ plain_all (read_rows file)
      unfolding first row-lacks
      asking-missing {f} y = by-test row-lacks (λ t. y ∙ lack-is ∙ rw t (rw (row_step file h q n (bytes file s.group), t) at a.goes)) (λ i. let z : Err f ≡ Ok tt = y ∙ lack-is ∙ rw i in no (cc))

      pub asking-next : Ok tt ≡ plain_at file p s n r → Asking (e + 1) (n + 1) (after file p true s r)
      unfolding first row-lacks
      asking-next y =
          let i : row-lacks ≡ false = by-test row-lacks (λ t. let z : Ok tt ≡ Err (NoPlainKey n) = y ∙ lack-is ∙ rw t in no (cc)) (λ f. f) in
          let t = held_next a.prefix a.held h q true r x (λ _ key name value j. not-false (has (read_rows file) (Key (bytes file s.group) (bytes file (record { from = p; len = key })))) (sym (entry-asks a.prefix h q (j ∙ x)) ∙ i)) in
          let m = t.group ∙ ap (group_after (bytes file s.group) (part p e file)) x in
          record { prefix = rw m (prefix-next a.prefix h q); held = t.held; goes = rw m (rw (row_step file h q n (bytes file s.group), i) at a.goes) }
