-- Pupils' files reach the program as they are. Assumes nothing.
use Rattle.std.proofs.lemmas.Option.{same_Some}
use Rattle.std.specs.Prelude.{Ok, Err}
use Prim.Native.Nat.{ℕ, zero, suc, ◌≤◌, ◌<◌}
use native.Mathlib.Omega.{arith}
use mathlib.Core.Path.{◌≡◌, refl, sym, ap, ◌∙◌}
use mathlib.Core.Bool.{Bool, true, false, not, ◌&&◌}
use mathlib.Core.List.{List, [], ◌∷◌, ◌++◌}
use lib.ListN.{length, get_or}
use lib.Dec.{eqb, eqb-suc-zero}
use Rattle.base.specs.Choice.{pick}
use Rattle.base.specs.Lists.{ascii, any, all}
use Rattle.fault.specs.declared.Fault.TheVariants.{Missing}
use Rattle.fault.specs.Answer.{◌>>=◌, accepted}
use Rattle.fault.proofs.Answers.{bind-given, some-given, given_is}
use Rattle.record.specs.Record.{list_of}
use Rattle.text.specs.Escape.{read_text}
use Rattle.text.specs.Step.{text_of}
use Rattle.rows.specs.Rows.{read_rows, raw_value}
use Rattle.rows.specs.Title.{Key, find_row}
use Rattle.command.specs.Command.{Argument, Files, Text, is_name, is_icon, has_piece, read_command}
use Rattle.command.specs.Laws.{all_file_codes}
use Rattle.command.specs.declared.Piece.{Piece}
use Rattle.command.specs.declared.Piece.TheVariants as piece
use Rattle.command.proofs.Takers.{one_takes_files}
use Rattle.run.specs.Run.{Run, pieces_bytes, expanded_all, runs, runs_of}
use Rattle.exec.specs.Expand.{fit_item, name_text, icon_text}
use Rattle.demands.specs.Commands.{Expander, command_in, Expansion, takes_item, run_count, FilesReach, FilesReachTheProgram, FilesReachTheAction}
use Rattle.demands.proofs.Expansions.{Known, application-known, action-known, Sound, Listed, arguments_of, passed, accepts, refuses, all-at, fit-some}
use Rattle.demands.proofs.Frames.{run_with, files-framed, item-framed, has-item}
use Rattle.demands.proofs.Lengths.{output-back, items-short, each_at, one-reads}

module _ {by : Expander} (w : Known by) where
  -- ---- the command

  sound-command : {file locale location : List ℕ} (s : Sound w file locale location) → command_in by.group file ≡ Ok s.command
  sound-command s = rw (s.found, s.unescaped, s.read)

  one_code : (file : List ℕ) (command : List Argument) → command_in by.group file ≡ Ok command → all_file_codes command ≤ 1
  one_code file command e =
      let a = some-given (find_row (read_rows file) (Key by.group (ascii "Exec"))) Missing (λ r. (read_text (raw_value r) >>= read_command)) command e in
      let b = bind-given (read_text (raw_value a.0)) read_command command a.2 in
      one_takes_files b.0 command b.2

  -- ---- the arguments

  -- what an accepted expansion passed
  record Seen {file locale location list : List ℕ} {run : ℕ} {out : List ℕ} (x : Expansion by file locale location list run out) : Type 0 where
    sound : Sound w file locale location
    commanded : sound.command ≡ x.command
    listed : Listed list x.files
    written : out ≡ list_of 3 (arguments_of sound x.files run)
    is : x.args ≡ arguments_of sound x.files run

  seen : {file locale location list : List ℕ} {run : ℕ} {out : List ℕ} (x : Expansion by file locale location list run out) → Seen x
  seen {file} {locale} {location} {list} {run} {out} x =
      let p = passed w file locale location list run out x.is in
      let s = p.sound in
      let c : s.command ≡ x.command = given_is _ _ (sym (sound-command s) ∙ x.commanded) in
      let f : p.items ≡ x.files = same_Some _ _ (sym p.listed.reads ∙ x.listed) in
      let w : Listed list x.files = rw (← f) p.listed in
      let e : out ≡ list_of 3 (arguments_of s x.files run) = rw (← f) p.written in
      record {
        sound = s;
        commanded = c;
        listed = w;
        written = e;
        is = same_Some _ _ (sym x.reads_back ∙ output-back s x.files w run e);
      }

  read_back : (file locale location list : List ℕ) (run : ℕ) (out : List ℕ) → by.expansion file locale location list run ≡ Ok out → Expansion by file locale location list run out
  read_back file locale location list run out e =
      let p = passed w file locale location list run out e in
      let s = p.sound in
      record {
        command = s.command;
        files = p.items;
        args = arguments_of s p.items run;
        commanded = sound-command s;
        listed = p.listed.reads;
        is = e;
        reads_back = output-back s p.items p.listed run p.written;
      }

  -- ---- around the files

  module _ (file locale location : List ℕ) (command : List Argument) where
    -- a run of the command with this file of f and u, and these of F and U: Name and Icon are the file's
    abbrev run_in : List ℕ → List (List ℕ) → Run
    run_in item items =
        run_with (text_of (name_text (read_rows file) locale (any (has_piece is_name) command))) location (text_of (icon_text (read_rows file) by.group locale (any is_icon command))) item items

    expansion-is : {list : List ℕ} {run : ℕ} {out : List ℕ} (x : Expansion by file locale location list run out) → x.command ≡ command
        → x.args ≡ expanded_all (run_in (get_or x.files run []) x.files) command
    expansion-is x c = let k = seen x in let s = k.sound in let d : s.command ≡ command = k.commanded ∙ c in k.is ∙ rw (← d, s.named, s.icon-read)

  module _ (file locale location : List ℕ) (front back : List Argument) where
    whole : (r : Run) × ((list : List ℕ) (run : ℕ) (out : List ℕ) (x : Expansion by file locale location list run out) → x.command ≡ front ++ (Files ∷ back)
        → x.args ≡ expanded_all r front ++ (x.files ++ expanded_all r back))
    whole =
        let command : List Argument = front ++ (Files ∷ back) in (
          run_in file locale location command [] [],
          λ list run out x c.
              expansion-is file locale location command x c
              ∙ files-framed _ location _ (get_or x.files run []) x.files front back (one_code file command (x.commanded ∙ ap Ok c)),
        )

    module _ (quoted : Bool) (left right : List Piece) where
      inside : (r : Run) × ((list : List ℕ) (run : ℕ) (out : List ℕ) (x : Expansion by file locale location list run out)
          → x.command ≡ front ++ (Text quoted (left ++ (piece.Item ∷ right)) ∷ back) → run < length x.files
          → x.args ≡ expanded_all r front ++ ((pieces_bytes r.put left ++ (get_or x.files run [] ++ pieces_bytes r.put right)) ∷ expanded_all r back))
      inside =
          let command : List Argument = front ++ (Text quoted (left ++ (piece.Item ∷ right)) ∷ back) in (
            run_in file locale location command [] [],
            λ list run out x c h.
                expansion-is file locale location command x c
                ∙ item-framed _ location _ (get_or x.files run []) x.files front back quoted left right (one_code file command (x.commanded ∙ ap Ok c))
                (fit-some (get_or x.files run []) (all-at fit_item x.files run (seen x).listed.fit h)),
          )

  -- ---- its own file alone

  some-run : (t : Bool) (n : ℕ) → 0 < n → 0 < runs_of t n
  some-run t zero h = omega arith
  some-run true (suc n) h = omega arith
  some-run false (suc n) h = omega arith

  alone : (file locale location list : List ℕ) (run : ℕ) (out : List ℕ) (x : Expansion by file locale location list run out)
      → takes_item x.command ≡ true → run < length x.files
      → by.expansion file locale location (list_of 2 (get_or x.files run [] ∷ [])) 0 ≡ Ok out
  unfolding runs all
  alone file locale location list run out x i h =
      let k = seen x in
      let s = k.sound in
      let item : List ℕ = get_or x.files run [] in
      let v = has-item x.command i in
      let f = (inside file locale location v.front v.back v.quoted v.left v.right).1 in
      let one : Listed (list_of 2 (item ∷ [])) (item ∷ []) =
      record { reads = one-reads item (each_at (items-short list x.files k.listed.reads) run h); fit = rw (all-at fit_item x.files run k.listed.fit h) } in
      let a = accepts w file locale location (list_of 2 (item ∷ [])) 0 s (item ∷ []) one (some-run (takes_item s.command) 1 (omega arith)) in
      let y : Expansion by file locale location (list_of 2 (item ∷ [])) 0 (list_of 3 (arguments_of s (item ∷ []) 0)) =
      record { command = s.command; files = item ∷ []; args = arguments_of s (item ∷ []) 0; commanded = sound-command s; listed = one.reads; is = a; reads_back = output-back s (item ∷ []) one 0 refl } in
      let same = f (list_of 2 (item ∷ [])) 0 (list_of 3 (arguments_of s (item ∷ []) 0)) y (k.commanded ∙ v.is) (omega arith) ∙ sym (f list run out x v.is h) in
      a ∙ ap (λ (l : List (List ℕ)). Ok (list_of 3 l)) (same ∙ k.is) ∙ ap Ok (sym k.written)

  -- ---- the runs

  runs_by : (item : Bool) (n : ℕ) → runs_of item n ≡ pick (item && not (eqb n 0)) n 1
  runs_by true zero = refl
  runs_by false zero = refl
  runs_by true (suc n) = rw (eqb-suc-zero n)
  runs_by false (suc n) = refl

  numbered : (file locale location list : List ℕ) (run : ℕ) (out : List ℕ) (x : Expansion by file locale location list run out) (n : ℕ)
      → (n < run_count x.command (length x.files) → accepted (by.expansion file locale location list n) ≡ true)
      × (run_count x.command (length x.files) ≤ n → by.expansion file locale location list n ≡ Err Missing)
  unfolding runs
  numbered file locale location list run out x n =
      let k = seen x in
      let s = k.sound in
      let r : runs s.command (length x.files) ≡ run_count x.command (length x.files) = rw k.commanded (runs_by (takes_item x.command) (length x.files)) in (
        λ h. ap accepted (accepts w file locale location list n s x.files k.listed (omega arith)),
        λ h. refuses w file locale location list n s x.files k.listed (omega arith),
      )

  pub files-reach : FilesReach by
  files-reach = record {
    arguments_read_back = read_back;
    one_takes_files = one_code;
    files_are_whole = whole;
    file_stands_inside = inside;
    no_other_file = alone;
    runs_are_numbered = numbered;
  }

pub files-reach-the-program : FilesReachTheProgram
files-reach-the-program = files-reach application-known

pub files-reach-the-action : FilesReachTheAction
files-reach-the-action id = files-reach (action-known id)
