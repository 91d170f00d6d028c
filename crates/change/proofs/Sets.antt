-- A set of an entry that is there gives its row another value and leaves the other rows as they are; so two sets of different entries can be
-- made in either order. Assumes nothing.
use Rattle.std.specs.Prelude.{Option, Some, None}
use mathlib.Core.Path.{◌≡◌, refl, sym, ap, ap₂, ◌∙◌}
use Prim.Native.Nat.{ℕ}
use mathlib.Core.Bool.{Bool, true, false, false≢true}
use mathlib.Core.List.{List, [], ◌∷◌, ◌++◌, map, map-append}
use lib.ListN.{take}
use Rattle.base.specs.Choice.{pick, maybe, there}
use Rattle.base.specs.Lists.{any}
use Rattle.base.proofs.Search.{any_append}
use Rattle.base.proofs.Tests.{no, or-both}
use Rattle.text.specs.Escape.{raw_text}
use Rattle.line.specs.Line.{read_line}
use Rattle.line.specs.declared.Line.TheVariants.{Entry}
use Rattle.line.proofs.Written.{Value}
use Rattle.rows.specs.Rows.{Row, rows, line_of, read_rows, value_start}
use Rattle.rows.specs.Title.{Title, Key, same_title, find_row, has}
use Rattle.rows.proofs.Rows.{RowBefore, full, open-end, IsRows, group_end, clean_line}
use Rattle.rows.proofs.Titles.{nameless, same_key, same_title-true, any-seeing}
use Rattle.rows.proofs.Sight.{group_in, title_in, groups_in, titles_in, titles-in-append}
use Rattle.rows.proofs.Told.{found-row}
use Rattle.wellformed.specs.WellFormed.{distinct, well_formed_as}
use Rattle.wellformed.proofs.ByLines.{well-lines}
use Rattle.splice.specs.Edit.{Edit, spliced}
use Rattle.change.specs.Change.{replacing, inserting}
use Rattle.change.proofs.LineValues.{own-title}
use Rattle.change.proofs.Accepted.{SetOf, keyed, keyed-row, replacing-is}
use Rattle.change.proofs.Kept.{with_line, row-with, revalued, rows-value, value_of, key-title}

-- ---- rows with another value

-- a row with another value: its line up to the value, the value, and what ends the row
abbrev with_value : List ℕ → List ℕ → List ℕ
with_value v r = with_line r (take (value_start (read_line (line_of r))) (line_of r) ++ v)

-- rows of which those with a title get another value
abbrev pub valued : Title → List ℕ → List ℕ → List (List ℕ) → List (List ℕ)
valued t v g [] = []
valued t v g (r ∷ rs) = pick (same_title t (title_in g (line_of r))) (with_value v r) r ∷ valued t v (group_in g (line_of r)) rs

-- where no row has it, all stay
valued-none : (t : Title) (v g : List ℕ) (rs : List (List ℕ)) → any (same_title t) (titles_in g (map line_of rs)) ≡ false → valued t v g rs ≡ rs
valued-none t v g [] e = refl
valued-none t v g (r ∷ rs) e =
    let p = or-both (same_title t (title_in g (line_of r))) _ (sym (any-seeing (same_title t) (nameless t) (title_in g (line_of r)) (titles_in (group_in g (line_of r)) (map line_of rs))) ∙ e) in
    rw (p.0, valued-none t v (group_in g (line_of r)) rs p.1)

valued-append : (t : Title) (v g : List ℕ) (xs ys : List (List ℕ)) → valued t v g (xs ++ ys) ≡ valued t v g xs ++ valued t v (groups_in g (map line_of xs)) ys
valued-append t v g [] ys = refl
valued-append t v g (x ∷ xs) ys = ap (λ (rs : List (List ℕ)). pick (same_title t (title_in g (line_of x))) (with_value v x) x ∷ rs) (valued-append t v (group_in g (line_of x)) xs ys)

-- ---- in either order

-- a row with another value is a row, and names what it named, in the group that it stood in
record Kept (g r s : List ℕ) (rs : List (List ℕ)) : Type 0 where
  is_row : RowBefore s rs
  title-is : title_in g (line_of s) ≡ title_in g (line_of r)
  group-is : group_in g (line_of s) ≡ group_in g (line_of r)

kept_entry : (v g r : List ℕ) (rs : List (List ℕ)) (key name value : ℕ) → RowBefore r rs → Value v → read_line (line_of r) ≡ Entry key name value → Kept g r (with_value v r) rs
kept_entry v g r rs key name value b h e =
    let w = revalued (line_of r) v key name value e h in
    let m : List ℕ = take value (line_of r) ++ v in
    let x = row-with r m rs b (w.clean (clean_line r)) w.longer in
    let i : line_of (with_value v r) ≡ m = rw e x.line-is in
    record { is_row = rw e x.is_row; title-is = rw (i, w.reads, e, w.named); group-is = rw (i, w.reads, e) }

kept : (group key v g r : List ℕ) (rs : List (List ℕ)) → RowBefore r rs → Value v → same_title (Key group key) (title_in g (line_of r)) ≡ true → Kept g r (with_value v r) rs
kept group key v g r rs b h t =
    let k = keyed group key (group_in g (line_of r)) (line_of r) (read_line (line_of r)) t in
    kept_entry v g r rs k.key-end k.name k.value b h k.entry

-- rows of which some have another value are rows
pub valued-rows : (group key v g : List ℕ) (rs : List (List ℕ)) → Value v → IsRows rs → IsRows (valued (Key group key) v g rs)
valued-rows group key v g [] h a = tt
valued-rows group key v g (r ∷ rs) h a = (by (same_title (Key group key) (title_in g (line_of r))) refl, valued-rows group key v (group_in g (line_of r)) rs h a.1)
  where
    follow : (s : List ℕ) → RowBefore s rs → RowBefore s (valued (Key group key) v (group_in g (line_of r)) rs)
    follow s (full w) = full w
    follow s (open-end c l n) = open-end c l (ap (valued (Key group key) v (group_in g (line_of r))) n)

    by : (x : Bool) → same_title (Key group key) (title_in g (line_of r)) ≡ x → RowBefore (pick x (with_value v r) r) (valued (Key group key) v (group_in g (line_of r)) rs)
    by true e = follow (with_value v r) (kept group key v g r rs a.0 h e).is_row
    by false e = follow r a.0

-- a row with the one title, and then those after it
one-first : (group key v g r : List ℕ) (rs : List (List ℕ)) (u : Title) (w : List ℕ) → RowBefore r rs → Value v
    → same_title (Key group key) (title_in g (line_of r)) ≡ true → same_title u (title_in g (line_of r)) ≡ false
    → valued (Key group key) v (group_in g (line_of r)) (valued u w (group_in g (line_of r)) rs) ≡ valued u w (group_in g (line_of r)) (valued (Key group key) v (group_in g (line_of r)) rs)
    → valued (Key group key) v g (valued u w g (r ∷ rs)) ≡ valued u w g (valued (Key group key) v g (r ∷ rs))
one-first group key v g r rs u w b h x y ih =
    let k = kept group key v g r rs b h x in
    rw (x, y, x, k.title-is, y, k.group-is) (ap (λ (ss : List (List ℕ)). with_value v r ∷ ss) ih)

module _ (g₁ k₁ v g₂ k₂ w : List ℕ) (apart : same_title (Key g₁ k₁) (Key g₂ k₂) ≡ false) (hv : Value v) (hw : Value w) where
  pub valued-twice : (g : List ℕ) (rs : List (List ℕ)) → IsRows rs → valued (Key g₁ k₁) v g (valued (Key g₂ k₂) w g rs) ≡ valued (Key g₂ k₂) w g (valued (Key g₁ k₁) v g rs)
  valued-twice g [] a = refl
  valued-twice g (r ∷ rs) a = by (same_title (Key g₁ k₁) (title_in g (line_of r))) (same_title (Key g₂ k₂) (title_in g (line_of r))) refl refl (valued-twice (group_in g (line_of r)) rs a.1)
    where
      by : (x y : Bool) → same_title (Key g₁ k₁) (title_in g (line_of r)) ≡ x → same_title (Key g₂ k₂) (title_in g (line_of r)) ≡ y
          → valued (Key g₁ k₁) v (group_in g (line_of r)) (valued (Key g₂ k₂) w (group_in g (line_of r)) rs) ≡ valued (Key g₂ k₂) w (group_in g (line_of r)) (valued (Key g₁ k₁) v (group_in g (line_of r)) rs)
          → valued (Key g₁ k₁) v g (valued (Key g₂ k₂) w g (r ∷ rs)) ≡ valued (Key g₂ k₂) w g (valued (Key g₁ k₁) v g (r ∷ rs))
      by true true x y ih = absurd (false≢true (sym apart ∙ rw (same_title-true (Key g₂ k₂) (title_in g (line_of r)) y) x))
      by true false x y ih = one-first g₁ k₁ v g r rs (Key g₂ k₂) w a.0 hv x y ih
      by false true x y ih = sym (one-first g₂ k₂ w g r rs (Key g₁ k₁) v a.0 hw y x (sym ih))
      by false false x y ih = rw (x, y, x) (ap (λ (ss : List (List ℕ)). r ∷ ss) ih)

-- ---- sets of entries that are there

-- the row of a title of distinct ones gets the value
valued_row : (v : List ℕ) (xs : List (List ℕ)) (r : List ℕ) (ys : List (List ℕ)) (key name value : ℕ) → read_line (line_of r) ≡ Entry key name value
    → distinct (titles_in [] (map line_of (xs ++ (r ∷ ys)))) ≡ true
    → valued (Key (groups_in [] (map line_of xs)) (take name (line_of r))) v [] (xs ++ (r ∷ ys)) ≡ xs ++ (with_line r (take value (line_of r) ++ v) ∷ ys)
valued_row v xs r ys key name value e d =
    let g : List ℕ = groups_in [] (map line_of xs) in
    let t : Title = Key g (take name (line_of r)) in
    let o = own-title (map line_of xs) (line_of r) (map line_of ys) key name value e (rw (map-append line_of xs (r ∷ ys)) at d) in
    let p = or-both (any (same_title t) (titles_in [] (map line_of xs))) (any (same_title t) (titles_in g (map line_of ys)))
    (sym (any_append (same_title t) (titles_in [] (map line_of xs)) (titles_in g (map line_of ys))) ∙ rw (titles-in-append [] (map line_of xs) (map line_of ys)) at o) in
    valued-append t v [] xs (r ∷ ys) ∙ rw (valued-none t v [] xs p.0, e, same_key g (take name (line_of r)), valued-none t v g ys p.1)

-- the rows after such a set
pub set-rows : (leading f group key text : List ℕ) (e : Edit) → well_formed_as leading f ≡ true → has (read_rows f) (Key group key) ≡ true → SetOf f group key text e
    → rows (spliced e f) ≡ valued (Key group key) (raw_text text) [] (rows f)
set-rows leading f group key text e h p s = by (find_row (read_rows f) (Key group key)) refl p s.is
  where
    v : List ℕ
    v = raw_text text

    by : (o : Option Row) → find_row (read_rows f) (Key group key) ≡ o → there o ≡ true → maybe o (inserting s.end key v) (λ r. replacing r v) ≡ e
        → rows (spliced e f) ≡ valued (Key group key) v [] (rows f)
    by None z i j = no (cc)
    by (Some r) z i j =
        let w = found-row f (Key group key) r z in
        let k = keyed-row group key 0 [] (rows f) r w in
        let u = revalued (line_of w.bytes) v k.key-end k.name k.value k.entry (value_of text s.fit) in
        let n = sym j ∙ ap (λ (r : Row). replacing r v) w.row ∙ replacing-is f w.xs w.bytes w.ys w.is w.number (group_end [] w.xs) v k.key-end k.name k.value k.entry in
        ap (λ (d : Edit). rows (spliced d f)) n
        ∙ rows-value leading f w.xs w.bytes w.ys w.is h v u
        ∙ sym (valued_row v w.xs w.bytes w.ys k.key-end k.name k.value k.entry (rw w.is at (well-lines leading f h).1.titled.apart))
        ∙ ap₂ (λ (t : Title) (rs : List (List ℕ)). valued t v [] rs) (sym (key-title group key w.xs w.bytes k)) (sym w.is)
