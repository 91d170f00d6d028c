-- The words of an unescaped Exec: its arguments as they are written (01, "Building a command"). Assumes nothing.
use Rattle.std.specs.Prelude.{ℕ, zero, suc, ◌+◌, ◌-◌, Bool, false, not, List, [], ◌∷◌, take, drop, eqb}
use Prim.Native.Char.{code}
use Rattle.base.specs.Choice.{pick}
use Rattle.base.specs.Lists.{span}
use Rattle.characters.specs.Bare.{bare_length}
use Rattle.line.specs.Name.{byte_at}

-- how many bytes stand behind an opening quote before the next bare one, or before the end
abbrev pub inside_length : List ℕ → ℕ
inside_length s = bare_length (code "\"") (drop 1 s) false

-- a quote stands at the front
abbrev pub opens : List ℕ → Bool
opens s = eqb (byte_at s 0) (code "\"")

-- a byte that is no parting space
abbrev pub not_space : ℕ → Bool
not_space b = not (eqb b (code " "))

-- how many bytes at the front no space parts: up to a closing quote, or to the end where it is not closed
abbrev pub quoted_length : List ℕ → ℕ
quoted_length s = pick (opens s) (1 + inside_length s) 0

-- the length of the word at the front: to the next space that stands in no quotes
unfoldable pub word_length : List ℕ → ℕ
word_length s = quoted_length s + span not_space (drop (quoted_length s) s)

-- a word: where it starts, and its bytes, quotes and all
pub record Word : Type 0 where
  pub start : ℕ
  pub bytes : List ℕ

-- the words from a place on, after so many bytes that belong to a word found before
unfoldable pub words_after : List ℕ → ℕ → ℕ → List Word
words_after [] n at = []
words_after (b ∷ bs) (suc n) at = words_after bs n (at + 1)
words_after (b ∷ bs) zero at =
    let n : ℕ = word_length (b ∷ bs) in
    let here : List Word = record { start = at; bytes = take n (b ∷ bs) } ∷ words_after bs (n - 1) (at + 1) in
    let later : List Word = words_after bs 0 (at + 1) in
    pick (not_space b) here later

-- the words of a whole value
abbrev pub words : List ℕ → List Word
words exec = words_after exec 0 0
