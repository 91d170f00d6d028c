-- A locale: lang, then perhaps _COUNTRY, .ENCODING, @MODIFIER in that order (01, "Lines of a file"). Assumes nothing.
use Rattle.std.specs.Prelude.{ℕ, suc, ◌+◌, Bool, false, List, [], ◌∷◌, length, drop, eqb, Option, Some, None, Result, Ok, Err}
use Prim.Native.Char.{code}
use Rattle.base.specs.Choice.{pick, maybe}
use Rattle.base.specs.Lists.{span}
use Rattle.characters.specs.Class.{key_byte}
use Rattle.line.specs.declared.Parts.{Parts}

-- a part's length with its mark, if the mark stands at the front
unfoldable pub part_length : ℕ → List ℕ → ℕ
part_length mark [] = 0
part_length mark (b ∷ bs) = pick (eqb b mark) (suc (span key_byte bs)) 0

-- the lengths of a locale's parts at the front, in their order, each but the first with its mark; 0: no such part
unfoldable pub parts : List ℕ → Parts
parts s =
    let l : ℕ = span key_byte s in
    let c : ℕ = part_length (code "_") (drop l s) in
    let e : ℕ = part_length (code ".") (drop (l + c) s) in
    let m : ℕ = part_length (code "@") (drop (l + c + e) s) in
    record { lang = l; country = c; encoding = e; modifier = m }

-- where a locale at the front ends
abbrev pub locale_end : Parts → ℕ
locale_end p = p.lang + p.country + p.encoding + p.modifier

-- the place of the first part's byte that is missing: no lang, or a mark with nothing after it
unfoldable pub empty_part : Parts → Option ℕ
empty_part p =
    pick (eqb p.lang 0) (Some 0)
    (pick (eqb p.country 1) (Some (p.lang + 1))
    (pick (eqb p.encoding 1) (Some (p.lang + p.country + 1))
    (pick (eqb p.modifier 1) (Some (p.lang + p.country + p.encoding + 1)) None)))

-- a locale at the front: where it ends, or the byte that is missing
unfoldable pub locale_at : List ℕ → Result ℕ ℕ
locale_at s = maybe (empty_part (parts s)) (Ok (locale_end (parts s))) Err

-- the whole list is a locale
unfoldable pub is_locale : List ℕ → Bool
is_locale s = maybe (empty_part (parts s)) (eqb (locale_end (parts s)) (length s)) (λ n. false)
