-- Lists of titles: one more, or one less, among those of a well-formed file. Assumes nothing.
use mathlib.Core.Path.{◌≡◌, refl, sym, ap, ◌∙◌}
use Prim.Native.Nat.{ℕ}
use mathlib.Core.Bool.{Bool, true, false, not, ◌||◌, false≢true, or-true}
use mathlib.Core.List.{List, [], ◌∷◌, ◌++◌}
use borrow.Author.Tests.{not-true, not-false}
use Rattle.base.specs.Lists.{same, any}
use Rattle.base.proofs.Search.{any-middle, any_none}
use Rattle.base.proofs.Tests.{and_both, or-both, same_refl, same_true}
use Rattle.rows.specs.Title.{Title, Nameless, Group, Key, same_title}
use Rattle.wellformed.specs.Check.{plain_of}
use Rattle.wellformed.specs.WellFormed.{leads, distinct}
use Rattle.change.specs.Change.{is_plain, postfix_of}
use Rattle.wellformed.proofs.ByLines.{lacking, WellTitled, distinct-middle}

-- ---- one title more

lacking-more : (a : List Title) (t : Title) (b : List Title) (u : Title) → lacking (a ++ b) u ≡ false → lacking (a ++ (t ∷ b)) u ≡ false
lacking-more a t b Nameless e = refl
lacking-more a t b (Group g) e = refl
lacking-more a t b (Key g k) e =
    rw (any-middle (same_title (Key g (plain_of k))) a t b, not-false (any (same_title (Key g (plain_of k))) (a ++ b)) e, or-true (same_title (Key g (plain_of k)) t))

own-plain : (a b : List Title) (group key : List ℕ) → (is_plain key || any (same_title (Key group (plain_of key))) (a ++ b)) ≡ true
    → any (same_title (Key group (plain_of key))) (a ++ (Key group key ∷ b)) ≡ true
unfolding same_title
own-plain a b group key e = any-middle (same_title (Key group (plain_of key))) a (Key group key) b ∙ rw (same_refl group) e

-- a new key, not first, with its plain key there
pub one-more-title : (leading : List ℕ) (a b : List Title) (group key : List ℕ) → WellTitled leading (a ++ b)
    → leads leading (a ++ (Key group key ∷ b)) ≡ true → any (same_title (Key group key)) (a ++ b) ≡ false
    → (is_plain key || any (same_title (Key group (plain_of key))) (a ++ b)) ≡ true → WellTitled leading (a ++ (Key group key ∷ b))
one-more-title leading a b group key h first new plain =
    let ts : List Title = a ++ b in
    let more : List Title = a ++ (Key group key ∷ b) in
    record {
      leader = first;
      apart = distinct-middle a (Key group key) b ∙ rw (new, h.apart);
      plains =
          any-middle (lacking more) a (Key group key) b
          ∙ rw (own-plain a b group key plain) (any_none (lacking ts) (lacking ts) (lacking ts) (lacking more) (λ u e _ _. lacking-more a (Key group key) b u e) ts h.plains h.plains h.plains);
    }

-- ---- one title less

own_key : (group key h l : List ℕ) → same_title (Key h (plain_of l)) (Key group key) ≡ true → postfix_of group key (Key h l) ≡ false → same_title (Key group key) (Key h l) ≡ false → ⊥
unfolding same_title
own_key group key h l t f g =
    let p = and_both (same h group) (same (plain_of l) key) t in
    let i : group ≡ h = sym (same_true h group p.0) in
    let j : key ≡ plain_of l = sym (same_true (plain_of l) key p.1) in
    let m : is_plain l ≡ true = not-false (is_plain l) (rw (i, j, same_refl h, same_refl (plain_of l)) at f) in
    false≢true (sym g ∙ rw (i, j, same_refl h) m)

-- a key that asked for the plain key that goes was that key, or one of its postfixed ones
lacking-less : (a b : List Title) (group key : List ℕ) (u : Title) → lacking (a ++ (Key group key ∷ b)) u ≡ false → postfix_of group key u ≡ false
    → same_title (Key group key) u ≡ false → lacking (a ++ b) u ≡ false
lacking-less a b group key Nameless e f g = refl
lacking-less a b group key (Group h) e f g = refl
lacking-less a b group key (Key h l) e f g =
    by (same_title (Key h (plain_of l)) (Key group key)) refl (sym (any-middle (same_title (Key h (plain_of l))) a (Key group key) b) ∙ not-false _ e)
  where
    by : (t : Bool) → same_title (Key h (plain_of l)) (Key group key) ≡ t → (t || any (same_title (Key h (plain_of l))) (a ++ b)) ≡ true → not (any (same_title (Key h (plain_of l))) (a ++ b)) ≡ false
    by true t i = absurd (own_key group key h l t f g)
    by false t i = ap not i

leads-less : (leading : List ℕ) (a b : List Title) (group key : List ℕ) → leads leading (a ++ (Key group key ∷ b)) ≡ true → leads leading (a ++ b) ≡ true
unfolding same_title
leads-less leading [] b group key e = absurd (false≢true e)
leads-less leading (x ∷ a) b group key e = e

pub one-less-title : (leading : List ℕ) (a b : List Title) (group key : List ℕ) → WellTitled leading (a ++ (Key group key ∷ b))
    → any (postfix_of group key) (a ++ (Key group key ∷ b)) ≡ false → WellTitled leading (a ++ b)
one-less-title leading a b group key h none_left =
    let ts : List Title = a ++ (Key group key ∷ b) in
    let d = and_both (not (any (same_title (Key group key)) (a ++ b))) (distinct (a ++ b)) (sym (distinct-middle a (Key group key) b) ∙ h.apart) in
    let p = or-both (lacking ts (Key group key)) (any (lacking ts) (a ++ b)) (sym (any-middle (lacking ts) a (Key group key) b) ∙ h.plains) in
    let q = or-both (postfix_of group key (Key group key)) (any (postfix_of group key) (a ++ b)) (sym (any-middle (postfix_of group key) a (Key group key) b) ∙ none_left) in
    record {
      leader = leads-less leading a b group key h.leader;
      apart = d.1;
      plains = any_none (lacking ts) (postfix_of group key) (same_title (Key group key)) (lacking (a ++ b)) (lacking-less a b group key) (a ++ b) p.1 q.1 (not-true _ d.0);
    }
