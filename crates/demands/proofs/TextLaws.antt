-- Name and Icon in an expansion are those of the public choice. Assumes nothing.
use Rattle.std.specs.Prelude.{Option, Some, None, Ok}
use mathlib.Core.Path.{◌≡◌, refl, ◌∙◌}
use Prim.Native.Nat.{ℕ}
use mathlib.Core.Bool.{true, ◌&&◌}
use mathlib.Core.List.{List}
use Rattle.base.specs.Lists.{ascii, part, all}
use Rattle.fault.specs.declared.Fault.TheVariants.{Missing}
use Rattle.fault.specs.Answer.{◌>>=◌, some_or, then}
use Rattle.characters.specs.Class.{key_byte}
use Rattle.text.specs.Escape.{read_text}
use Rattle.text.specs.Step.{text_of}
use Rattle.line.specs.Form.{group_form, plain_form, locale_form}
use Rattle.rows.specs.Rows.{Row, read_rows}
use Rattle.choice.specs.Locale.{chosen}
use Rattle.entry.specs.Lookup.{value_ends}
use Rattle.exec.proofs.Values.{name-in-chosen, icon-chosen}
use Rattle.demands.specs.Texts.{or_none, NameIsChosen, IconIsChosen}
use Rattle.demands.proofs.FileLaws.{choose-is}

name-forms : (group locale : List ℕ) → group_form group ≡ true → locale_form locale ≡ true → (group_form group && plain_form (ascii "Name") && locale_form locale) ≡ true
unfolding plain_form all key_byte
name-forms group locale g l = rw (g, l)

icon-forms : (group locale : List ℕ) → group_form group ≡ true → locale_form locale ≡ true → (group_form group && plain_form (ascii "Icon") && locale_form locale) ≡ true
unfolding plain_form all key_byte
icon-forms group locale g l = rw (g, l)

pub name-is-chosen : NameIsChosen
unfolding NameIsChosen
name-is-chosen file group locale c g l = rw (choose-is file group (ascii "Name") locale c (name-forms group locale g l)) (name-in-chosen file locale group)

pub icon-is-chosen : IconIsChosen
unfolding IconIsChosen
icon-is-chosen file group locale c g l =
    rw (choose-is file group (ascii "Icon") locale c (icon-forms group locale g l))
    (icon-chosen file locale group ∙ by (chosen (read_rows file) group (ascii "Icon") locale))
  where
    by : (o : Option Row) → read_text (text_of (then (λ e. part e.from e.to file) (some_or o Missing >>= λ r. Ok (value_ends r))))
        ≡ (or_none (then (λ e. part e.from e.to file) (some_or o Missing >>= λ r. Ok (value_ends r))) >>= read_text)
    by None = refl
    by (Some r) = refl
