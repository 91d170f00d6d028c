-- Readings by the tests that they make, for proofs by cases on what these say. Assumes nothing.
use Rattle.std.specs.Prelude.{Option, Some, None, Result, Ok, Err}
use mathlib.Core.Path.{◌≡◌, refl}
use Prim.Native.Nat.{ℕ, suc, ◌+◌}
use mathlib.Core.Bool.{Bool, true, false}
use mathlib.Core.List.{List, ◌∷◌}
use lib.ListN.{length, drop}
use lib.Dec.{eqb, eqb-zero-suc, eqb-suc-zero, eqb-suc-suc}
use Rattle.base.specs.Choice.{pick, maybe}
use Rattle.base.specs.Lists.{span}
use Rattle.base.proofs.Tests.{class-other}
use Rattle.characters.specs.Class.{key_byte, space_byte, blank_byte}
use Rattle.line.specs.Locale.{part_length}
use Rattle.line.specs.Line.{read_entry, read_header, read_line}
use Rattle.line.specs.declared.Line.{Line}
use Rattle.line.specs.declared.Line.TheVariants.{Blank, Comment, Header, Entry, Bad}

-- the parts of a locale, as `parts` has them: 95 is `_`, 46 `.` and 64 `@`
abbrev pub lang_of : List ℕ → ℕ
lang_of s = span key_byte s

abbrev pub country_of : List ℕ → ℕ
country_of s = part_length 95 (drop (lang_of s) s)

abbrev pub encoding_of : List ℕ → ℕ
encoding_of s = part_length 46 (drop (lang_of s + country_of s) s)

abbrev pub modifier_of : List ℕ → ℕ
modifier_of s = part_length 64 (drop (lang_of s + country_of s + encoding_of s) s)

-- a locale by the lengths of its parts, and which is empty
abbrev pub locale_by : (l n e m : ℕ) (t₁ t₂ t₃ t₄ : Bool) → Result ℕ ℕ
locale_by l n e m t₁ t₂ t₃ t₄ =
    maybe (pick t₁ (Some 0) (pick t₂ (Some (l + 1)) (pick t₃ (Some (l + n + 1)) (pick t₄ (Some (l + n + e + 1)) None)))) (Ok (l + n + e + m)) Err

-- after a name: where `=` is looked for, and where the value starts
abbrev pub sign_at : List ℕ → ℕ → ℕ
sign_at s name = name + span space_byte (drop name s)

abbrev pub value_at : List ℕ → ℕ → ℕ
value_at s name = sign_at s name + 1 + span space_byte (drop (sign_at s name + 1) s)

-- an entry by `=` there and a fault in the value
abbrev pub after_by : (key name sign value : ℕ) → Bool → Option ℕ → Line
after_by key name sign value t o = pick t (maybe o (Entry key name value) (λ n. Bad (value + n))) (Bad sign)

-- a header by the end of its name: no name, `]` after it, nothing after that
abbrev pub header_by : ℕ → Bool → Bool → Bool → Line
header_by end t u x = pick t (Bad 1) (pick u (pick x (Header end) (Bad (end + 1))) (Bad end))

-- a line of a blank and n more, by whether it ends there
abbrev pub blank_by : ℕ → Bool → Line
blank_by n t = pick t Blank (Bad (suc n))

-- a line by its first byte: a blank, `#`, `[`
abbrev pub first_by : ℕ → List ℕ → Bool → Bool → Bool → Line
first_by b s t u x = pick t (blank_by (span blank_byte s) (eqb (span blank_byte s) (length s))) (pick u Comment (pick x (read_header (b ∷ s)) (read_entry (b ∷ s))))

pub line_first : (b : ℕ) (s : List ℕ) → read_line (b ∷ s) ≡ first_by b s (blank_byte b) (eqb b 35) (eqb b 91)
unfolding read_line span
line_first b s = go (blank_byte b) refl
  where
    n : ℕ
    n = span blank_byte s

    go : (t : Bool) → blank_byte b ≡ t
        → pick (eqb (pick t (suc n) 0) (suc (length s))) Blank
        (pick (eqb b 35) Comment (pick (eqb b 91) (read_header (b ∷ s)) (pick (eqb (pick t (suc n) 0) 0) (read_entry (b ∷ s)) (Bad (pick t (suc n) 0)))))
        ≡ first_by b s t (eqb b 35) (eqb b 91)
    go true i = rw (eqb-suc-suc n (length s), class-other blank_byte b 35 (unfold blank_byte in refl) i, class-other blank_byte b 91 (unfold blank_byte in refl) i, eqb-suc-zero n)
    go false i = rw (eqb-zero-suc (length s))
