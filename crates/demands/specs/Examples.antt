-- The examples of 01 that are marked P, in its order, and its record as A9 has it: one table, under the one claim `ExamplesHold`. Assumes
-- nothing.
use Rattle.std.specs.Prelude.{ℕ, ◌≡◌, List, [], ◌∷◌, ◌++◌, map, length, take, replicate, Ok, Err}
use Rattle.base.specs.Lists.{ascii}
use Rattle.fault.specs.Table.{number_of, place_of, byte_of}
use Rattle.fault.specs.Answer.{Answer}
use Rattle.text.specs.Escape.{read_text, write_text}
use Rattle.text.specs.Element.{read_elements}
use Rattle.wellformed.specs.Check.{check}
use Rattle.entry.specs.Lookup.{lookup, part_of}
use Rattle.entry.specs.declared.Ends.{Ends}
use Rattle.entry.specs.Choose.{choose}
use Rattle.exec.specs.Expand.{expand}
use Rattle.change.specs.Change.{Set}
use Rattle.journal.specs.Journal.{Author, NoPerson, Person, by}
use Rattle.edit.specs.Calls.{request}
use Rattle.demands.specs.Demand3.{start_state}

-- what an example shows: some lists of bytes, or a refusal's number, place and byte
pub data Shown : Type 0 where
  Gives : List (List ℕ) → Shown
  Refuses : ℕ → ℕ → ℕ → Shown

-- what an answer shows
abbrev pub shown : {A : Type 0} → (A → List (List ℕ)) → Answer A → Shown
shown f (Ok a) = Gives (f a)
shown f (Err e) = Refuses (number_of e) (place_of e) (byte_of e)

-- a row of the table
pub record Example : Type 0 where
  pub asked : Shown
  pub expected : Shown

-- a file of lines, each with its LF
abbrev pub file : List (List ℕ) → List ℕ
file [] = []
file (l ∷ ls) = l ++ (ascii "\n" ++ file ls)

-- file T
abbrev pub file_t : List ℕ
file_t = file (ascii "[Desktop Entry]" ∷ ascii "Type=Application" ∷ ascii "Name=Lesen" ∷ ascii "Name[fr]=Lire" ∷ ascii "Exec=view %F" ∷ [])

-- whether a file is well formed
abbrev pub checks : List ℕ → Shown
checks f = shown (λ u. []) (check f)

-- the value of Name in a file with this line
abbrev pub name_in : List ℕ → Shown
name_in line =
    let f : List ℕ = file (ascii "[Desktop Entry]" ∷ line ∷ []) in
    shown (λ (e : Ends). part_of f (Ok e) ∷ []) (lookup f (ascii "Desktop Entry") (ascii "Name"))

-- the value that a locale takes among these entries
abbrev pub name_for : List ℕ → List (List ℕ) → Shown
name_for locale entries =
    let f : List ℕ = file (ascii "[Desktop Entry]" ∷ entries) in
    shown (λ (e : Ends). part_of f (Ok e) ∷ []) (choose f (ascii "Desktop Entry") (ascii "Name") locale)

-- the elements of a raw value, as records
abbrev pub elements : List ℕ → Shown
elements raw = shown (λ out. out ∷ []) (read_elements raw)

-- the text of a raw value, and the raw value of a text
abbrev pub reads : List ℕ → Shown
reads raw = shown (λ s. s ∷ []) (read_text raw)

abbrev pub writes : List ℕ → Shown
writes text = shown (λ s. s ∷ []) (write_text text)

-- T with Name set to Les by an author, and a journal of so many bytes: the length of the file, its buffer, and the journal's used bytes
abbrev pub sets_les : Author → ℕ → Shown
sets_les author room =
    shown (λ t. (t.size ∷ []) ∷ t.file ∷ take t.used t.journal ∷ [])
    (request (start_state file_t [] (replicate room 0)) (by author (Set (ascii "Desktop Entry") (ascii "Name") (ascii "Les"))))

-- what that shows, where the record starts with these bytes
abbrev pub les_set : List ℕ → Shown
les_set front = Gives (
    (69 ∷ [])
    ∷ (file (ascii "[Desktop Entry]" ∷ ascii "Type=Application" ∷ ascii "Name=Les" ∷ ascii "Name[fr]=Lire" ∷ ascii "Exec=view %F" ∷ []) ++ (0 ∷ 0 ∷ []))
    ∷ (front ++ (0x26 ∷ 0 ∷ 0 ∷ 0 ∷ 5 ∷ 0 ∷ 0 ∷ 0 ∷ 3 ∷ 0 ∷ 0 ∷ 0 ∷ 0x4c ∷ 0x65 ∷ 0x73 ∷ 0x65 ∷ 0x6e ∷ 0x4c ∷ 0x65 ∷ 0x73 ∷ []))
    ∷ [])

-- the arguments of run 0 of an Exec with this raw value, without files, as records
abbrev pub expands : List ℕ → Shown
expands raw = shown (λ out. out ∷ []) (expand (file (ascii "[Desktop Entry]" ∷ (ascii "Exec=" ++ raw) ∷ [])) [] [] [] 0)

-- the bytes of a record under 256 bytes: its whole length, its kind, its own bytes
abbrev pub record_of : ℕ → ℕ → List ℕ → List ℕ
record_of size kind body = size ∷ 0 ∷ 0 ∷ 0 ∷ kind ∷ 0 ∷ body

-- the table
abbrev pub examples : List Example
examples =
    record { asked = checks []; expected = Refuses 3 0 0 }
    ∷ record { asked = checks file_t; expected = Gives [] }
    ∷ record { asked = Gives ((length file_t ∷ []) ∷ []); expected = Gives ((71 ∷ []) ∷ []) }
    ∷ record { asked = name_in (ascii "Name = X"); expected = Gives (ascii "X" ∷ []) }
    ∷ record { asked = name_in (ascii "Name="); expected = Gives ([] ∷ []) }
    ∷ record { asked = elements (ascii "a\\;b;;"); expected = Gives ((record_of 9 2 (ascii "a;b") ++ record_of 6 2 []) ∷ []) }
    ∷ record { asked = elements (ascii ";"); expected = Gives (record_of 6 2 [] ∷ []) }
    ∷ record { asked = elements []; expected = Gives ([] ∷ []) }
    ∷ record {
      asked = name_for (ascii "sr_YU@Latn") (ascii "Name=Foo" ∷ ascii "Name[sr_YU]=a" ∷ ascii "Name[sr@Latn]=b" ∷ ascii "Name[sr]=c" ∷ []);
      expected = Gives (ascii "a" ∷ []);
    }
    ∷ record { asked = writes (ascii " x"); expected = Gives (ascii "\\sx" ∷ []) }
    ∷ record { asked = reads (ascii "a\\q"); expected = Refuses 9 1 0 }
    ∷ record { asked = sets_les NoPerson 26; expected = les_set (0x1a ∷ 0 ∷ 0 ∷ 0 ∷ 1 ∷ 0 ∷ []) }
    ∷ record { asked = sets_les (Person 0x102) 28; expected = les_set (0x1c ∷ 0 ∷ 0 ∷ 0 ∷ 4 ∷ 0 ∷ 2 ∷ 1 ∷ []) }
    ∷ record { asked = expands (ascii "view \"%f\""); expected = Refuses 16 6 0 }
    ∷ record { asked = expands (ascii "view %f %u"); expected = Refuses 16 8 0 }
    ∷ record { asked = expands (ascii "view \"a\\\\$b\""); expected = Gives ((record_of 10 3 (ascii "view") ++ record_of 9 3 (ascii "a$b")) ∷ []) }
    ∷ record { asked = expands (ascii "view --x=%f"); expected = Gives ((record_of 10 3 (ascii "view") ++ record_of 10 3 (ascii "--x=")) ∷ []) }
    ∷ record { asked = expands (ascii "view %f"); expected = Gives (record_of 10 3 (ascii "view") ∷ []) }
    ∷ []

-- the claim: what is asked is what is expected, row by row
abbrev pub ExamplesHold : Type 0
ExamplesHold = map (λ (e : Example). e.asked) examples ≡ map (λ (e : Example). e.expected) examples
