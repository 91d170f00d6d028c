-- UTF-8 (RFC 3629, section 4), one byte after another. Assumes nothing.
use Rattle.std.specs.Prelude.{ℕ, zero, suc, Bool, not, List, [], ◌∷◌, eqb, ltb, Option, Some, None, option_map}
use Rattle.base.specs.Choice.{pick, maybe, there}
use Rattle.characters.specs.Class.{within}
use Rattle.characters.specs.declared.Due.{Due}
use Rattle.characters.specs.declared.Due.TheVariants.{Start, Tail}

-- what a first byte over 0x7F asks for: a byte from low to high, and after it so many from 0x80 to 0xBF; none begins no character
unfoldable pub lead : ℕ → Option Due
lead b =
    pick (within 0xc2 0xdf b) (Some (Tail 0 0x80 0xbf))
    (pick (eqb b 0xe0) (Some (Tail 1 0xa0 0xbf))
    (pick (eqb b 0xed) (Some (Tail 1 0x80 0x9f))
    (pick (within 0xe1 0xef b) (Some (Tail 1 0x80 0xbf))
    (pick (eqb b 0xf0) (Some (Tail 2 0x90 0xbf))
    (pick (within 0xf1 0xf3 b) (Some (Tail 2 0x80 0xbf))
    (pick (eqb b 0xf4) (Some (Tail 2 0x80 0x8f)) None))))))

-- what is due when so many tail bytes are left
abbrev pub tails : ℕ → Due
tails zero = Start
tails (suc n) = Tail n 0x80 0xbf

-- what is due after a byte, or none: no text goes on so. `plain` says which ASCII bytes may stand.
unfoldable pub step : (ℕ → Bool) → Due → ℕ → Option Due
step plain Start b = pick (ltb b 0x80) (pick (plain b) (Some Start) None) (lead b)
step plain (Tail more low high) b = pick (within low high b) (Some (tails more)) None

-- The first byte after which no ending makes a text, or the length where the text is only unfinished; none: it is a text.
unfoldable pub text_fault : (ℕ → Bool) → Due → List ℕ → Option ℕ
text_fault plain Start [] = None
text_fault plain (Tail more low high) [] = Some 0
text_fault plain due (b ∷ bs) = maybe (step plain due b) (Some 0) (λ next. option_map suc (text_fault plain next bs))

-- UTF-8 whose ASCII bytes may all stand
abbrev pub is_text : (ℕ → Bool) → List ℕ → Bool
is_text plain s = not (there (text_fault plain Start s))
