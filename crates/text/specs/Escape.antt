-- Text read from a raw value and written as one (01, "Language, escapes, lists"). Assumes nothing.
use Rattle.std.specs.Prelude.{ℕ, ◌+◌, Bool, true, false, List, [], ◌∷◌, ◌++◌, eqb, Option, Some, None, Ok, Err}
use Prim.Native.Char.{code}
use Rattle.base.specs.Choice.{pick, maybe}
use Rattle.base.specs.Lists.{ascii}
use Rattle.fault.specs.declared.Fault.TheVariants.{BadEscape, UnfitText}
use Rattle.fault.specs.Answer.{Answer, ◌>>=◌, need, then}
use Rattle.characters.specs.Class.{text_byte}
use Rattle.characters.specs.Utf8.{is_text}
use Rattle.text.specs.declared.Escapes.{Escapes}
use Rattle.text.specs.declared.Escapes.TheVariants as escapes

-- what a backslash with this byte stands for in text
unfoldable pub text_escape : ℕ → Option ℕ
text_escape c =
    pick (eqb c (code "s")) (Some (code " "))
    (pick (eqb c (code "n")) (Some (code "\n"))
    (pick (eqb c (code "t")) (Some (code "\t"))
    (pick (eqb c (code "r")) (Some (code "\r"))
    (pick (eqb c (code "\\")) (Some (code "\\")) None))))

-- what it stands for in text, and in a list's element, which knows `\;` too
unfoldable pub escape : Escapes → ℕ → Option ℕ
escape escapes.Text c = text_escape c
escape escapes.List c = pick (eqb c (code ";")) (Some (code ";")) (text_escape c)

-- The text of raw bytes from a place on. The flag: the backslash at the place stands before the first byte; else the first byte is at the place.
unfoldable pub text_from : Escapes → List ℕ → Bool → ℕ → Answer (List ℕ)
text_from k [] false at = Ok []
text_from k [] true at = Err (BadEscape at)
text_from k (b ∷ bs) false at =
    let pair : Answer (List ℕ) = text_from k bs true at in
    let single : Answer (List ℕ) = then (λ t. b ∷ t) (text_from k bs false (at + 1)) in
    pick (eqb b (code "\\")) pair single
text_from k (b ∷ bs) true at = maybe (escape k b) (Err (BadEscape at)) (λ x. then (λ t. x ∷ t) (text_from k bs false (at + 2)))

-- reading text: the text of a raw value, or 9
unfoldable pub read_text : List ℕ → Answer (List ℕ)
read_text raw = text_from escapes.Text raw false 0

-- a byte as it stands in a raw value
unfoldable pub escaped : ℕ → List ℕ
escaped b =
    pick (eqb b (code "\\")) (ascii "\\\\")
    (pick (eqb b (code "\n")) (ascii "\\n")
    (pick (eqb b (code "\t")) (ascii "\\t")
    (pick (eqb b (code "\r")) (ascii "\\r") (b ∷ []))))

-- bytes as they stand in a raw value
unfoldable pub escaped_all : List ℕ → List ℕ
escaped_all [] = []
escaped_all (b ∷ bs) = escaped b ++ escaped_all bs

-- the raw value of a text: a space is escaped only if it is the first byte
unfoldable pub raw_text : List ℕ → List ℕ
raw_text [] = []
raw_text (b ∷ bs) = pick (eqb b (code " ")) (ascii "\\s") (escaped b) ++ escaped_all bs

-- text that can be set
unfoldable pub fit_text : List ℕ → Bool
fit_text t = is_text text_byte t

-- writing text: its raw value, or 10
unfoldable pub write_text : List ℕ → Answer (List ℕ)
write_text t = do
  _ ← need (fit_text t) UnfitText
  Ok (raw_text t)
