-- The check accepts exactly the well-formed files. Assumes nothing.
use Rattle.std.specs.Prelude.{Option, Some, None, Ok, Err}
use mathlib.Core.Path.{◌≡◌, refl, sym, ap, ap₂, ◌∙◌}
use Prim.Native.Nat.{ℕ, ◌≤◌}
use mathlib.Core.Bool.{Bool, true, false, not, ◌&&◌, ◌||◌, and-false, and-true}
use mathlib.Core.List.{List, [], ◌∷◌}
use lib.ListN.{length, take}
use lib.Dec.{leb}
use borrow.Author.Tests.{leb-true}
use Rattle.base.specs.Choice.{pick, maybe, there}
use Rattle.base.specs.Lists.{same, any, all, first}
use Rattle.fault.specs.declared.Fault.{Fault}
use Rattle.fault.specs.declared.Fault.TheVariants.{TooLong, FirstGroup, RepeatedGroup, RepeatedKey, NoPlainKey}
use Rattle.fault.specs.Answer.{Answer, ◌>>=◌, need, unless, accepted}
use Rattle.fault.proofs.Answers.{accepted-given}
use Rattle.line.specs.declared.Line.{Line}
use Rattle.line.specs.declared.Line.TheVariants.{Blank, Comment, Header, Entry, Bad}
use Rattle.line.specs.Line.{is_bad}
use Rattle.rows.specs.Rows.{Row, line_of, read_rows}
use Rattle.rows.specs.Title.{desktop_entry, Title, Group, Key, title_of, title, same_title, seeing, titles}
use Rattle.base.proofs.Search.{there-first}
use Rattle.rows.proofs.Titles.{same_title-sym}
use Rattle.wellformed.specs.Check.{title_fault, row_fault, earliest, is_group, no_plain, titled_as, plain_all, checked_rows, check_as, check}
use Rattle.rows.specs.Find.{none_bad}
use Rattle.base.proofs.Tests.{no}
use Rattle.wellformed.specs.WellFormed.{leads, distinct, well_formed_as, well_formed, CheckAccepts}

-- no title of a list was seen
fresh : List Title → List Title → Bool
fresh seen ts = all (λ t. not (any (same_title t) seen)) ts

swap : (a b c d : Bool) → not (a || b) && (c && not d) ≡ (not b && c) && not (a || d)
swap true b c d = sym (and-false (not b && c))
swap false true c d = refl
swap false false c d = refl

fresh-cons : (t : Title) (seen ts : List Title) → fresh (t ∷ seen) ts ≡ (fresh seen ts && not (any (same_title t) ts))
unfolding fresh all any
fresh-cons t seen [] = refl
fresh-cons t seen (u ∷ ts) =
    ap₂ (λ (a : Bool) (r : Bool). not (a || any (same_title u) seen) && r) (same_title-sym u t) (fresh-cons t seen ts)
    ∙ swap (same_title t u) (any (same_title u) seen) (fresh seen ts) (any (same_title t) ts)

and_assoc : (a b c : Bool) → ((a && b) && c) ≡ (a && (b && c))
and_assoc true b c = refl
and_assoc false b c = refl

-- the row is bad
abbrev bad_row : Row → Bool
bad_row r = is_bad r.reading

-- a row with a title that is m: seen before
named-row : (m bad new d : Bool) (f : Bool) (again : Fault) (later : Option Fault)
    → not (there later) ≡ (not bad && ((f && new) && d))
    → not (there (maybe (pick m (Some again) None) later Some)) ≡ (not bad && ((not m && f) && (new && d)))
named-row true bad new d f again later e = sym (and-false (not bad))
named-row false bad new d f again later e = e ∙ ap (λ (x : Bool). not bad && x) (and_assoc f new d)

-- after a title: no row is bad, none of the titles was seen, and they are distinct
abbrev After : List ℕ → List Row → Type 0
After leading rs = (s : Title) (seen : List Title)
    → not (there (earliest leading (s ∷ seen) rs)) ≡ (not (any bad_row rs) && (fresh (s ∷ seen) (titles rs) && distinct (titles rs)))

titled-after : (leading : List ℕ) (rs : List Row) → After leading rs → (s : Title) (seen : List Title) (t : Title) (again : Fault)
    → not (there (maybe (pick (any (same_title t) (s ∷ seen)) (Some again) None) (earliest leading (t ∷ s ∷ seen) rs) Some))
    ≡ (not (any bad_row rs) && ((not (any (same_title t) (s ∷ seen)) && fresh (s ∷ seen) (titles rs)) && (not (any (same_title t) (titles rs)) && distinct (titles rs))))
titled-after leading rs ih s seen t again =
    named-row (any (same_title t) (s ∷ seen)) (any bad_row rs) (not (any (same_title t) (titles rs))) (distinct (titles rs)) (fresh (s ∷ seen) (titles rs)) again (earliest leading (t ∷ s ∷ seen) rs)
    (ih t (s ∷ seen) ∙ ap (λ (x : Bool). not (any bad_row rs) && (x && distinct (titles rs))) (fresh-cons t (s ∷ seen) (titles rs)))

row-after : (leading : List ℕ) (rs : List Row) → After leading rs → (s : Title) (seen : List Title) (line : ℕ) (group row : List ℕ) (l : Line)
    → not (there (maybe (row_fault leading (s ∷ seen) (title_of group row l) line l) (earliest leading (seeing (title_of group row l) (s ∷ seen)) rs) Some))
    ≡ (not (is_bad l || any bad_row rs) && (fresh (s ∷ seen) (seeing (title_of group row l) (titles rs)) && distinct (seeing (title_of group row l) (titles rs))))
unfolding fresh all distinct title_fault
row-after leading rs ih s seen line group row Blank = ih s seen
row-after leading rs ih s seen line group row Comment = ih s seen
row-after leading rs ih s seen line group row (Header e) = titled-after leading rs ih s seen (Group group) (RepeatedGroup line)
row-after leading rs ih s seen line group row (Entry key name value) = titled-after leading rs ih s seen (Key group (take name row)) (RepeatedKey line)
row-after leading rs ih s seen line group row (Bad n) = refl

earliest-after : (leading : List ℕ) (rs : List Row) → After leading rs
unfolding earliest any fresh all titles distinct title
earliest-after leading [] s seen = refl
earliest-after leading (r ∷ rs) s seen = row-after leading rs (earliest-after leading rs) s seen r.line r.group (line_of r.bytes) r.reading

-- a header of any group
abbrev group_row : Row → Bool
group_row r = is_group (title r)

-- from the start: the first title is the group's too
abbrev Whole : List ℕ → List Row → Type 0
Whole leading rs = (not (there (earliest leading [] rs)) && any group_row rs) ≡ (not (any bad_row rs) && (leads leading (titles rs) && distinct (titles rs)))

first-title : (m bad new d : Bool) (f : Fault) (later : Option Fault)
    → not (there later) ≡ (not bad && (new && d))
    → (not (there (maybe (pick m None (Some f)) later Some)) && true) ≡ (not bad && (m && (new && d)))
first-title true bad new d f later e = and-true _ ∙ e
first-title false bad new d f later e = sym (and-false (not bad))

fresh-none : (us : List Title) → fresh [] us ≡ true
unfolding fresh all any
fresh-none [] = refl
fresh-none (u ∷ us) = fresh-none us

fresh-one : (t : Title) (ts : List Title) → fresh (t ∷ []) ts ≡ not (any (same_title t) ts)
fresh-one t ts = fresh-cons t [] ts ∙ ap (λ (x : Bool). x && not (any (same_title t) ts)) (fresh-none ts)

row-whole : (leading : List ℕ) (rs : List Row) → Whole leading rs → (line : ℕ) (group row : List ℕ) (l : Line)
    → (not (there (maybe (row_fault leading [] (title_of group row l) line l) (earliest leading (seeing (title_of group row l) []) rs) Some)) && (is_group (title_of group row l) || any group_row rs))
    ≡ (not (is_bad l || any bad_row rs) && (leads leading (seeing (title_of group row l) (titles rs)) && distinct (seeing (title_of group row l) (titles rs))))
unfolding distinct title_fault same_title
row-whole leading rs ih line group row Blank = ih
row-whole leading rs ih line group row Comment = ih
row-whole leading rs ih line group row (Header e) =
    first-title (same group leading) (any bad_row rs) (not (any (same_title (Group group)) (titles rs))) (distinct (titles rs)) (FirstGroup line) (earliest leading (Group group ∷ []) rs)
    (earliest-after leading rs (Group group) [] ∙ ap (λ (x : Bool). not (any bad_row rs) && (x && distinct (titles rs))) (fresh-one (Group group) (titles rs)))
row-whole leading rs ih line group row (Entry key name value) = sym (and-false (not (any bad_row rs)))
row-whole leading rs ih line group row (Bad n) = refl

earliest-whole : (leading : List ℕ) (rs : List Row) → Whole leading rs
unfolding earliest any titles title
earliest-whole leading [] = refl
earliest-whole leading (r ∷ rs) = row-whole leading rs (earliest-whole leading rs) r.line r.group (line_of r.bytes) r.reading

-- what a do block accepts
accepted-need : {A : Type 0} (t : Bool) (f : Fault) (k : Unit {0} → Answer A) → accepted (need t f >>= k) ≡ (t && accepted (k tt))
accepted-need true f k = refl
accepted-need false f k = refl

accepted-unless : {A : Type 0} (o : Option Fault) (k : Unit {0} → Answer A) → accepted (unless o >>= k) ≡ (not (there o) && accepted (k tt))
accepted-unless None k = refl
accepted-unless (Some f) k = refl

accepted-none : {A : Type 0} (o : Option A) (g : A → Fault) → accepted (maybe {B = Answer (Unit {0})} o (Ok tt) (λ x. Err (g x))) ≡ not (there o)
accepted-none None g = refl
accepted-none (Some a) g = refl

regroup : (a b c d e g x : Bool) → (b && g) ≡ (c && (d && e)) → (a && (b && (g && x))) ≡ ((((a && c) && d) && e) && x)
regroup a b c d e g x h =
    ap (λ (y : Bool). a && y) (sym (and_assoc b g x) ∙ ap (λ (y : Bool). y && x) h)
    ∙ simp and_assoc

-- 2 to 5 and 6, one after another
two_steps : (o : Option Fault) (t : Bool) (f : Fault) (a : Answer (Unit {0}))
    → (unless o >>= λ _. (need t f >>= λ _. a)) ≡ ((unless o >>= λ _. need t f) >>= λ _. a)
two_steps None t f a = refl
two_steps (Some g) t f a = refl

-- the check accepts exactly the well-formed files
pub check-accepts : CheckAccepts
unfolding CheckAccepts check_as titled_as plain_all well_formed_as
check-accepts leading file =
    let rs : List Row = read_rows file in
    accepted-need (leb (length file) 32768) TooLong _
    ∙ ap (λ (y : Bool). leb (length file) 32768 && y)
    (sym (ap accepted (two_steps (earliest leading [] rs) (any group_row rs) (FirstGroup 0) (maybe (first (no_plain rs) rs) (Ok tt) (λ r. Err (NoPlainKey r.line)))))
    ∙ accepted-unless (earliest leading [] rs) _
    ∙ ap (λ (y : Bool). not (there (earliest leading [] rs)) && y)
    (accepted-need (any group_row rs) (FirstGroup 0) _
    ∙ ap (λ (y : Bool). any group_row rs && y) (accepted-none (first (no_plain rs) rs) (λ (r : Row). NoPlainKey r.line) ∙ ap not (there-first (no_plain rs) rs))))
    ∙ regroup (leb (length file) 32768) (not (there (earliest leading [] rs))) (not (any bad_row rs)) (leads leading (titles rs)) (distinct (titles rs)) (any group_row rs) (not (any (no_plain rs) rs))
    (earliest-whole leading rs)

-- 1, then 2 to 6
pub check-rows : (leading file : List ℕ) → check_as leading file ≡ (need (leb (length file) 32768) TooLong >>= λ _. checked_rows leading (read_rows file))
unfolding check_as
check-rows leading file = refl

-- where 2 to 5 are no fault, no row is bad
pub titled-good : (leading file : List ℕ) → Ok tt ≡ titled_as leading (read_rows file) → none_bad file ≡ true
unfolding titled_as none_bad
titled-good leading file e =
    let rs : List Row = read_rows file in
    by (earliest leading [] rs) (any group_row rs) (any bad_row rs) (leads leading (titles rs)) (distinct (titles rs)) e (earliest-whole leading rs)
  where
    by : (o : Option Fault) (g b l d : Bool) → Ok tt ≡ (unless o >>= λ _. need g (FirstGroup 0)) → (not (there o) && g) ≡ (not b && (l && d)) → not b ≡ true
    by None true true l d e w = sym w
    by None true false l d e w = refl
    by None false b l d e w = no (cc)
    by (Some f) g b l d e w = no (cc)

-- an accepted file is not too long, and none of its rows is bad
pub check-good : (leading file : List ℕ) → Ok tt ≡ check_as leading file → (none_bad file ≡ true) × (length file ≤ 32768)
check-good leading file e = by (leb (length file) 32768) (titled_as leading (read_rows file)) refl refl (e ∙ check-rows leading file)
  where
    by : (t : Bool) (a : Answer (Unit {0})) → leb (length file) 32768 ≡ t → titled_as leading (read_rows file) ≡ a
        → Ok tt ≡ (need t TooLong >>= λ _. (a >>= λ _. plain_all (read_rows file))) → (none_bad file ≡ true) × (length file ≤ 32768)
    by true (Ok tt) l q e = (titled-good leading file (sym q), leb-true (length file) 32768 l)
    by true (Err f) l q e = no (cc)
    by false a l q e = no (cc)

-- a well-formed file passes the check
pub checks : (file : List ℕ) → well_formed file ≡ true → check file ≡ Ok tt
unfolding CheckAccepts
checks file w = (accepted-given (check file) (check-accepts desktop_entry file ∙ w)).1
