-- An expansion, way by way: which answer the definition has, and what is told and left. Assumes nothing.
use Rattle.std.specs.Prelude.{Option, Some, None, Ok, Err}
use mathlib.Core.Path.{◌≡◌, refl, ap}
use Prim.Native.Nat.{ℕ, ◌≤◌}
use native.Mathlib.Omega.{arith}
use mathlib.Core.Bool.{true, false}
use mathlib.Core.List.{List, []}
use lib.ListN.{length, get_or}
use lib.Dec.{ltb}
use Rattle.base.specs.Lists.{ascii, part, any}
use Rattle.base.proofs.Tests.{no}
use Rattle.fault.specs.declared.Fault.{Fault}
use Rattle.fault.specs.declared.Fault.TheVariants.{Missing}
use Rattle.fault.specs.Answer.{Answer, ◌>>=◌, unless, then}
use Rattle.fault.proofs.Answers.{then-refused, bind-then}
use Rattle.record.specs.Record.{list_of}
use Rattle.text.specs.Escape.{read_text}
use Rattle.text.proofs.OutputLaws.{Leaves, leaves-refused}
use Rattle.rows.specs.Rows.{Row, read_rows}
use Rattle.rows.specs.Title.{Key, find_row, desktop_entry}
use Rattle.rows.specs.Find.{found_of}
use Rattle.rows.proofs.Told.{told-nothing}
use Rattle.command.specs.Words.{words}
use Rattle.command.specs.Command.{Argument, has_piece, is_item, is_name, is_icon, words_fault, arguments_in, read_command}
use Rattle.command.specs.Step.{codes_in}
use Rattle.command.specs.declared.Seen.{Seen}
use Rattle.run.specs.Run.{run_of, expanded_all, runs_of, runs}
use Rattle.exec.specs.Expand.{name_text, icon_text, run_arguments, group_arguments, asked_items, expand}
use Rattle.run.specs.Step.{put_of, items_in}
use Rattle.exec.specs.Step.{ReadTo}
use Rattle.exec.proofs.Values.{read-refuses, read-le, Value, value-short}
use Rattle.exec.proofs.Asking.{Granted}

-- a refusal, with the arguments as records or not
pub refused-leaves : {a : Answer (List (List ℕ))} {f : Fault} (out : List ℕ) → a ≡ Err f → Leaves (then (list_of 3) a) out (Err f) out
refused-leaves {a} {f} out e = leaves-refused (then (list_of 3) a) f out (ap (then (list_of 3)) e)

-- ---- a run of a command

module _ (args : List Argument) (rs : List Row) (group locale location : List ℕ) (items : List (List ℕ)) (run : ℕ) {seen : Seen} (e : seen ≡ codes_in args)
    {count : ℕ} (k : count ≡ length items) where
  abbrev answer : Answer (List (List ℕ))
  answer = run_arguments args rs group locale location items run

  item-seen : seen.item ≡ any (has_piece is_item) args
  unfolding codes_in
  item-seen = ap (λ (x : Seen). x.item) e

  name-seen : seen.name ≡ any (has_piece is_name) args
  unfolding codes_in
  name-seen = ap (λ (x : Seen). x.name) e

  icon-seen : seen.icon ≡ any is_icon args
  unfolding codes_in
  icon-seen = ap (λ (x : Seen). x.icon) e

  pub run_past : ltb run (runs_of seen.item count) ≡ false → answer ≡ Err Missing
  unfolding run_arguments runs
  run_past t = rw (← item-seen, ← k, t)

  module _ (t : ltb run (runs_of seen.item count) ≡ true) where
    pub run-no-name : {s u : List ℕ} {f : Fault} → ReadTo (name_text rs locale seen.name) s (Err f) u → answer ≡ Err f
    unfolding run_arguments runs
    run-no-name w = rw (← item-seen, ← k, t, ← name-seen, read-refuses (name_text rs locale seen.name) w)

    module _ {name : List ℕ} (n : name_text rs locale seen.name ≡ Ok name) where
      pub run-no-icon : {s u : List ℕ} {f : Fault} → ReadTo (icon_text rs group locale seen.icon) s (Err f) u → answer ≡ Err f
      unfolding run_arguments runs
      run-no-icon w = rw (← item-seen, ← k, t, ← name-seen, n, ← icon-seen, read-refuses (icon_text rs group locale seen.icon) w)

      pub run-given : {icon : List ℕ} → icon_text rs group locale seen.icon ≡ Ok icon → answer ≡ Ok (expanded_all (run_of (put_of (get_or items run []) name location) items icon) args)
      unfolding run_arguments runs
      run-given i = rw (← item-seen, ← k, t, ← name-seen, n, ← icon-seen, i)

-- ---- the Exec of a group

-- what a check of a command says of its reading
command-wrong : (x : List ℕ) {f : Fault} → Err f ≡ then codes_in (read_command x) → read_command x ≡ Err f
command-wrong x = then-refused codes_in (read_command x)

command-right : (x : List ℕ) {s : Seen} → Ok s ≡ then codes_in (read_command x) → (read_command x ≡ Ok (arguments_in x)) × (s ≡ codes_in (arguments_in x))
unfolding read_command
command-right x {s} = go (words_fault true false (words x))
  where
    go : (o : Option Fault) → Ok s ≡ then codes_in (unless o >>= λ _. Ok (arguments_in x)) → ((unless o >>= λ _. Ok (arguments_in x)) ≡ Ok (arguments_in x)) × (s ≡ codes_in (arguments_in x))
    go None e = (refl, cc)
    go (Some f) e = no (cc)

module _ (file group locale location : List ℕ) (items : List (List ℕ)) (run : ℕ) where
  abbrev of_group : Answer (List (List ℕ))
  of_group = group_arguments (read_rows file) group locale location items run

  abbrev exec_row : Option Row
  exec_row = find_row (read_rows file) (Key group (ascii "Exec"))

  pub group-missing : found_of exec_row ≡ None → of_group ≡ Err Missing
  unfolding group_arguments
  group-missing i = rw (told-nothing exec_row i)

  module _ {v e : ℕ} (w : Value exec_row file v e) where
    pub group-unread : {s u : List ℕ} {f : Fault} → ReadTo (read_text (part v e file)) s (Err f) u → of_group ≡ Err f
    unfolding group_arguments
    group-unread r = rw (w.is, ← w.bytes, read-refuses (read_text (part v e file)) r)

    module _ {text : List ℕ} (t : read_text (part v e file) ≡ Ok text) where
      pub group-short : length text ≤ length file
      group-short = omega (arith, rw t at (read-le (part v e file)), value-short w)

      pub group-wrong : {f : Fault} → Err f ≡ then codes_in (read_command text) → of_group ≡ Err f
      unfolding group_arguments
      group-wrong c = rw (w.is, ← w.bytes, t, command-wrong text c)

      pub group-right : {s : Seen} → Ok s ≡ then codes_in (read_command text)
          → (of_group ≡ run_arguments (arguments_in text) (read_rows file) group locale location items run) × (s ≡ codes_in (arguments_in text))
      unfolding group_arguments
      group-right c = let g = command-right text c in (rw (w.is, ← w.bytes, t, g.0), g.1)

-- ---- the whole

module _ (file locale location list : List ℕ) (run : ℕ) where
  pub expand-refused : {f : Fault} → Err f ≡ then length (asked_items file locale location list) → expand file locale location list run ≡ Err f
  unfolding expand
  expand-refused e = rw (then-refused length (asked_items file locale location list) e)

  pub expand-granted : {n : ℕ} → Granted file locale location list n
      → expand file locale location list run ≡ then (list_of 3) (group_arguments (read_rows file) desktop_entry locale location (items_in list) run)
  unfolding expand
  expand-granted g = rw g.is (bind-then (list_of 3) (group_arguments (read_rows file) desktop_entry locale location (items_in list) run))
