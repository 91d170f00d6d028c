-- What the check tells of a bad line is so. Assumes nothing.
use Rattle.std.specs.Prelude.{Option, Some, None, Err}
use Prim.Native.Nat.{ℕ, suc, ◌+◌, ◌-◌}
use native.Mathlib.Omega.{arith}
use mathlib.Core.Path.{◌≡◌, refl, ap, ◌∙◌}
use mathlib.Core.Bool.{Bool, true, false}
use mathlib.Core.List.{List, [], ◌∷◌, ◌++◌}
use lib.ListN.{length, get_or, length-append}
use lib.Seq.{take_at, get_or-append_seam}
use lib.Dec.{leb}
use Rattle.base.specs.Bounds.{file_most}
use Rattle.base.specs.Choice.{pick, maybe}
use Rattle.base.specs.Lists.{any, first}
use Rattle.base.proofs.Tests.{no}
use Rattle.fault.specs.declared.Fault.{Fault}
use Rattle.fault.specs.declared.Fault.TheVariants.{TooLong, BadLine, FirstGroup, RepeatedGroup, RepeatedKey, NoPlainKey}
use Rattle.fault.specs.Answer.{unless}
use Rattle.fault.proofs.Answers.{unless-refused}
use Rattle.fault.proofs.Refusals.{IfRefused, if-test, if_none, Not2, came-later, came-first}
use Rattle.line.specs.declared.Line.{Line}
use Rattle.line.specs.declared.Line.TheVariants.{Blank, Comment, Header, Entry, Bad}
use Rattle.line.specs.Line.{read_line, is_bad}
use Rattle.line.proofs.Bounds.{line-within}
use Rattle.line.proofs.Place.{bad-byte, good-before}
use Rattle.rows.specs.Rows.{Row, rows, line_of, group_after, rows_from, read_rows}
use Rattle.rows.specs.Title.{desktop_entry, Title, Group, title, same_title, seeing}
use Rattle.rows.proofs.Rows.{row_of}
use Rattle.rows.proofs.Sight.{bad_line}
use Rattle.wellformed.specs.Check.{title_fault, row_fault, earliest, is_group, no_plain, titled_as, plain_all, check_as}
use Rattle.demands.specs.BadLine.{line_at, BadAt, BadLineTold}

-- ---- 2 comes from the earliest row with a fault

plain-not2 : (rs : List Row) → IfRefused Not2 (plain_all rs)
unfolding plain_all
plain-not2 rs = if_none Not2 (first (no_plain rs) rs) (λ r. NoPlainKey r.line) (λ r. refl)

earliest-told : (leading file : List ℕ) (line byte : ℕ) → check_as leading file ≡ Err (BadLine line byte) → earliest leading [] (read_rows file) ≡ Some (BadLine line byte)
unfolding check_as titled_as
earliest-told leading file line byte e =
    let rs : List Row = read_rows file in
    let titled : titled_as leading rs ≡ Err (BadLine line byte) =
    came-first (titled_as leading rs) _ line byte (λ _. plain-not2 rs) (came-later (leb (length file) file_most) TooLong _ line byte refl e) in
    unless-refused (earliest leading [] rs) (BadLine line byte)
    (came-first (unless (earliest leading [] rs)) _ line byte (λ _. if-test Not2 (any (λ r. is_group (title r)) rs) (FirstGroup 0) refl) titled)

-- ---- that row

-- the first bad line of rows that are numbered from n on
record Stands (n : ℕ) (rs : List (List ℕ)) (line byte : ℕ) : Type 0 where
  xs : List (List ℕ)
  row : List ℕ
  ys : List (List ℕ)
  is : rs ≡ xs ++ (row ∷ ys)
  number : line ≡ n + length xs
  reads : read_line (line_of row) ≡ Bad byte
  before : any (λ r. bad_line (line_of r)) xs ≡ false

-- a row's title is never the cause
not-title : (leading : List ℕ) (seen : List Title) (t : Title) (n : ℕ) (again : Fault) (later : Option Fault) (line byte : ℕ) → (again ≡ BadLine line byte → ⊥)
    → maybe (title_fault leading seen t n again) later Some ≡ Some (BadLine line byte) → later ≡ Some (BadLine line byte)
unfolding title_fault
not-title leading [] t n again later line byte k e = go (same_title t (Group leading)) e
  where
    go : (x : Bool) → maybe (pick x None (Some (FirstGroup n))) later Some ≡ Some (BadLine line byte) → later ≡ Some (BadLine line byte)
    go true e = e
    go false e = no (cc)
not-title leading (s ∷ seen) t n again later line byte k e = go (any (same_title t) (s ∷ seen)) e
  where
    go : (x : Bool) → maybe (pick x (Some again) None) later Some ≡ Some (BadLine line byte) → later ≡ Some (BadLine line byte)
    go true e = absurd (k (cc))
    go false e = e

module _ (leading : List ℕ) (line byte : ℕ) where
  after : (n : ℕ) (r : List ℕ) (rs : List (List ℕ)) → bad_line (line_of r) ≡ false → Stands (suc n) rs line byte → Stands n (r ∷ rs) line byte
  unfolding any
  after n r rs g w =
      record {
        xs = r ∷ w.xs;
        row = w.row;
        ys = w.ys;
        is = ap (λ (l : List (List ℕ)). r ∷ l) w.is;
        number = omega (arith, w.number);
        reads = w.reads;
        before = rw (g, w.before);
      }

  stands : (rs : List (List ℕ)) (n at : ℕ) (g : List ℕ) (seen : List Title) → earliest leading seen (rows_from n at g rs) ≡ Some (BadLine line byte) → Stands n rs line byte
  unfolding earliest rows_from any
  stands [] n at g seen e = no (cc)
  stands (r ∷ rs) n at g seen e = go (read_line (line_of r)) refl e (stands rs (suc n) (at + length r) (group_after g (line_of r) (read_line (line_of r))) (seeing t seen))
    where
      t : Title
      t = title (row_of n at g r)

      later : Option Fault
      later = earliest leading (seeing t seen) (rows_from (suc n) (at + length r) (group_after g (line_of r) (read_line (line_of r))) rs)

      go : (l : Line) → read_line (line_of r) ≡ l → maybe (row_fault leading seen t n l) later Some ≡ Some (BadLine line byte)
          → (later ≡ Some (BadLine line byte) → Stands (suc n) rs line byte) → Stands n (r ∷ rs) line byte
      go Blank i e k = after n r rs (ap is_bad i) (k e)
      go Comment i e k = after n r rs (ap is_bad i) (k e)
      go (Header h) i e k = after n r rs (ap is_bad i) (k (not-title leading seen t n (RepeatedGroup n) later line byte (λ z. no (cc)) e))
      go (Entry key name value) i e k = after n r rs (ap is_bad i) (k (not-title leading seen t n (RepeatedKey n) later line byte (λ z. no (cc)) e))
      go (Bad m) i e k =
          let a : n ≡ line = cc in
          let b : m ≡ byte = cc in
          record { xs = []; row = r; ys = rs; is = refl; number = omega arith; reads = i ∙ ap Bad b; before = refl }

-- what that row is in its file
bad-at : (file : List ℕ) (line byte : ℕ) → Stands 1 (rows file) line byte → BadAt file line byte
bad-at file line byte w =
    let m : line - 1 ≡ length w.xs = omega (arith, w.number) in
    let l = length-append w.xs (w.row ∷ w.ys) in
    let r : get_or (rows file) (line - 1) [] ≡ w.row = rw (m, w.is) (get_or-append_seam w.xs w.row w.ys []) in
    let i : line_at file line ≡ line_of w.row = ap line_of r in
    let b : read_line (line_at file line) ≡ Bad byte = ap read_line i ∙ w.reads in
    record {
      numbered = (omega (arith, w.number), omega (arith, w.number, ap length w.is));
      bad = ap is_bad b;
      earliest = rw (m, w.is, take_at w.xs (w.row ∷ w.ys) (length w.xs) refl) w.before;
      within = rw b at (line-within (line_at file line));
      hopeless = λ h t. bad-byte (line_at file line) byte b h t;
      hopeful = good-before (line_at file line) byte b;
    }

pub bad-line-told : BadLineTold
unfolding BadLineTold read_rows
bad-line-told file line byte e = bad-at file line byte (stands desktop_entry line byte (rows file) 1 0 [] [] (earliest-told desktop_entry file line byte e))
