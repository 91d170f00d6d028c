-- Well-formed lines stay so when an entry gets another value, comes in, or goes. Assumes nothing.
use mathlib.Core.Path.{◌≡◌, refl, sym, ap, ◌∙◌, subst}
use Prim.Native.Nat.{ℕ}
use mathlib.Core.Bool.{true, false, ◌||◌, false≢true}
use mathlib.Core.List.{List, [], ◌∷◌, ◌++◌, append_assoc, append-nil}
use lib.ListN.{length, take}
use Rattle.base.specs.Lists.{any, span}
use Rattle.base.proofs.Search.{any-middle}
use Rattle.base.proofs.Tests.{or-both, same_true}
use Rattle.line.specs.Line.{read_line, is_bad}
use Rattle.line.specs.declared.Line.{Line}
use Rattle.line.specs.declared.Line.TheVariants.{Blank, Comment, Header, Entry, Bad}
use Rattle.rows.specs.Title.{Title, Key, title_of, same_title, seeing}
use Rattle.rows.proofs.Sight.{group_in, title_in, groups_in, titles_in, bad_line, titles-in-append}
use Rattle.wellformed.specs.Check.{plain_of}
use Rattle.wellformed.specs.WellFormed.{leads}
use Rattle.change.specs.Change.{is_plain, of_group, postfix_of}
use Rattle.wellformed.proofs.ByLines.{WellTitled, WellLines}
use Rattle.change.proofs.Titles.{one-more-title, one-less-title}

-- ---- an entry among lines

-- its title, and then those of the lines after it
entry-titles : (g l : List ℕ) (ys : List (List ℕ)) (key name value : ℕ) → read_line l ≡ Entry key name value → titles_in g (l ∷ ys) ≡ Key g (take name l) ∷ titles_in g ys
entry-titles g l ys key name value e = rw e

pub titles-with : (xs : List (List ℕ)) (l : List ℕ) (ys : List (List ℕ)) (key name value : ℕ) → read_line l ≡ Entry key name value
    → titles_in [] (xs ++ (l ∷ ys)) ≡ titles_in [] xs ++ (Key (groups_in [] xs) (take name l) ∷ titles_in (groups_in [] xs) ys)
titles-with xs l ys key name value e =
    titles-in-append [] xs (l ∷ ys) ∙ ap (λ (ts : List Title). titles_in [] xs ++ ts) (entry-titles (groups_in [] xs) l ys key name value e)

entry-good : (l : List ℕ) (key name value : ℕ) → read_line l ≡ Entry key name value → bad_line l ≡ false
entry-good l key name value e = ap is_bad e

-- ---- another value

pub lines-replace : (leading : List ℕ) (xs : List (List ℕ)) (l m : List ℕ) (ys : List (List ℕ)) (key name value value₁ : ℕ)
    → read_line l ≡ Entry key name value → read_line m ≡ Entry key name value₁
    → take name l ≡ take name m → WellLines leading (xs ++ (l ∷ ys)) → WellLines leading (xs ++ (m ∷ ys))
lines-replace leading xs l m ys key name value value₁ e f s h =
    let p = or-both (bad_line l) (any bad_line (xs ++ ys)) (sym (any-middle bad_line xs l ys) ∙ h.good) in
    let t : titles_in [] (xs ++ (l ∷ ys)) ≡ titles_in [] (xs ++ (m ∷ ys)) = titles-with xs l ys key name value e ∙ rw s (sym (titles-with xs m ys key name value₁ f)) in
    record { good = any-middle bad_line xs m ys ∙ rw (entry-good m key name value₁ f, p.1); titled = subst (WellTitled leading) t h.titled }

-- ---- an entry more

-- a line of the group has a title, and the group goes on after it
pub record Owned (group h row : List ℕ) (l : Line) : Type 0 where
  pub group-is : group ≡ h
  pub seen : (ts : List Title) → seeing (title_of h row l) ts ≡ title_of h row l ∷ ts

pub owned : (group h row : List ℕ) (l : Line) → of_group group (title_of h row l) ≡ true → Owned group h row l
owned group h row Blank e = absurd (false≢true e)
owned group h row Comment e = absurd (false≢true e)
owned group h row (Header n) e = record { group-is = same_true group h e; seen = λ ts. refl }
owned group h row (Entry k n v) e = record { group-is = same_true group h e; seen = λ ts. refl }
owned group h row (Bad n) e = absurd (false≢true e)

leads-on : (leading : List ℕ) (a : List Title) (x t : Title) (b : List Title) → leads leading (a ++ (x ∷ b)) ≡ true → leads leading (a ++ (x ∷ t ∷ b)) ≡ true
leads-on leading [] x t b e = e
leads-on leading (y ∷ a) x t b e = e

owned-titles : (xs : List (List ℕ)) (l group : List ℕ) (zs : List (List ℕ)) → of_group group (title_in (groups_in [] xs) l) ≡ true
    → titles_in [] (xs ++ (l ∷ zs)) ≡ (titles_in [] xs ++ (title_in (groups_in [] xs) l ∷ [])) ++ titles_in group zs
owned-titles xs l group zs o =
    let g : List ℕ = groups_in [] xs in
    let w = owned group (group_in g l) l (read_line l) o in
    titles-in-append [] xs (l ∷ zs)
    ∙ ap (λ (ts : List Title). titles_in [] xs ++ ts) (w.seen (titles_in (group_in g l) zs) ∙ ap (λ (h : List ℕ). title_in g l ∷ titles_in h zs) (sym w.group-is))
    ∙ sym (append_assoc (titles_in [] xs) (title_in g l ∷ []) (titles_in group zs))

pub lines-insert : (leading : List ℕ) (xs : List (List ℕ)) (l n : List ℕ) (ys : List (List ℕ)) (group key : List ℕ) (key-end value : ℕ)
    → of_group group (title_in (groups_in [] xs) l) ≡ true → read_line n ≡ Entry key-end (length key) value → take (length key) n ≡ key
    → any (same_title (Key group key)) (titles_in [] (xs ++ (l ∷ ys))) ≡ false
    → (is_plain key || any (same_title (Key group (plain_of key))) (titles_in [] (xs ++ (l ∷ ys)))) ≡ true
    → WellLines leading (xs ++ (l ∷ ys)) → WellLines leading (xs ++ (l ∷ n ∷ ys))
lines-insert leading xs l n ys group key key-end value o e s new plain h =
    let x : Title = title_in (groups_in [] xs) l in
    let a : List Title = titles_in [] xs in
    let b : List Title = titles_in group ys in
    let i : titles_in [] (xs ++ (l ∷ ys)) ≡ (a ++ (x ∷ [])) ++ b = owned-titles xs l group ys o in
    let j : titles_in [] (xs ++ (l ∷ n ∷ ys)) ≡ (a ++ (x ∷ [])) ++ (Key group key ∷ b) =
    owned-titles xs l group (n ∷ ys) o ∙ ap (λ (ts : List Title). (a ++ (x ∷ [])) ++ ts) (entry-titles group n ys key-end (length key) value e ∙ ap (λ (k : List ℕ). Key group k ∷ b) s) in
    let w : WellTitled leading ((a ++ (x ∷ [])) ++ b) = subst (WellTitled leading) i h.titled in
    let f : leads leading ((a ++ (x ∷ [])) ++ (Key group key ∷ b)) ≡ true =
    ap (leads leading) (append_assoc a (x ∷ []) (Key group key ∷ b)) ∙ leads-on leading a x (Key group key) b (ap (leads leading) (sym (append_assoc a (x ∷ []) b)) ∙ w.leader) in
    let p = or-both (bad_line l) (any bad_line (xs ++ ys)) (sym (any-middle bad_line xs l ys) ∙ h.good) in
    record {
      good = any-middle bad_line xs l (n ∷ ys) ∙ rw (p.0, any-middle bad_line xs n ys, entry-good n key-end (length key) value e, p.1);
      titled = subst (WellTitled leading) (sym j) (one-more-title leading (a ++ (x ∷ [])) b group key w f (rw i at new) (rw i at plain));
    }

-- ---- an entry less

pub lines-remove : (leading : List ℕ) (xs : List (List ℕ)) (l : List ℕ) (ys : List (List ℕ)) (key-end name value : ℕ) → read_line l ≡ Entry key-end name value
    → any (postfix_of (groups_in [] xs) (take name l)) (titles_in [] (xs ++ (l ∷ ys))) ≡ false → WellLines leading (xs ++ (l ∷ ys)) → WellLines leading (xs ++ ys)
lines-remove leading xs l ys key-end name value e none_left h =
    let g : List ℕ = groups_in [] xs in
    let i = titles-with xs l ys key-end name value e in
    let p = or-both (bad_line l) (any bad_line (xs ++ ys)) (sym (any-middle bad_line xs l ys) ∙ h.good) in
    record {
      good = p.1;
      titled =
          subst (WellTitled leading) (sym (titles-in-append [] xs ys))
          (one-less-title leading (titles_in [] xs) (titles_in g ys) g (take name l) (subst (WellTitled leading) i h.titled) (rw i at none_left));
    }

-- an empty last line
blank-titles : (g : List ℕ) → titles_in g ([] ∷ []) ≡ []
unfolding read_line span
blank-titles g = refl

pub lines-blank : (leading : List ℕ) (xs : List (List ℕ)) → WellLines leading (xs ++ ([] ∷ [])) → WellLines leading xs
lines-blank leading xs h =
    let p = or-both (bad_line []) (any bad_line (xs ++ [])) (sym (any-middle bad_line xs [] []) ∙ h.good) in
    record {
      good = rw (append-nil xs) at p.1;
      titled =
          subst (WellTitled leading)
          (titles-in-append [] xs ([] ∷ []) ∙ ap (λ (ts : List Title). titles_in [] xs ++ ts) (blank-titles (groups_in [] xs)) ∙ append-nil (titles_in [] xs)) h.titled;
    }
