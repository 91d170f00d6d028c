-- Well formed, in 01's words. The law `CheckAccepts`: the check accepts exactly these files. Assumes nothing.
use Rattle.std.specs.Prelude.{◌≡◌, ℕ, Bool, true, false, not, ◌&&◌, List, [], ◌∷◌, length, leb}
use Rattle.base.specs.Bounds.{file_most}
use Rattle.base.specs.Lists.{any}
use Rattle.fault.specs.Answer.{accepted}
use Rattle.line.specs.Line.{is_bad}
use Rattle.rows.specs.Rows.{Row, read_rows}
use Rattle.rows.specs.Title.{desktop_entry, Title, Group, same_title, titles}
use Rattle.wellformed.specs.Check.{no_plain, check_as}

-- the first title is this group's
abbrev pub leads : List ℕ → List Title → Bool
leads leading [] = false
leads leading (t ∷ ts) = same_title t (Group leading)

-- no title comes twice
unfoldable pub distinct : List Title → Bool
distinct [] = true
distinct (t ∷ ts) = not (any (same_title t) ts) && distinct ts

-- No line is bad; the first line that is neither blank nor comment is the group's header; no group comes twice, and no key with the same
-- postfix twice in a group; each postfixed key stands without postfix too. And the file is not too long.
unfoldable pub well_formed_as : List ℕ → List ℕ → Bool
well_formed_as leading file =
    let rs : List Row = read_rows file in
    leb (length file) file_most
    && not (any (λ r. is_bad r.reading) rs)
    && leads leading (titles rs)
    && distinct (titles rs)
    && not (any (no_plain rs) rs)

-- a well-formed file
abbrev pub well_formed : List ℕ → Bool
well_formed file = well_formed_as desktop_entry file

-- the check accepts exactly the well-formed files
unfoldable pub CheckAccepts : Type 0
CheckAccepts = (leading file : List ℕ) → accepted (check_as leading file) ≡ well_formed_as leading file
