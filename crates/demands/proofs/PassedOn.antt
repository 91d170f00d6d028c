-- Every call on a file asks the check first, and nothing that it asks later tells a bad line. Assumes nothing.
use Rattle.std.specs.Prelude.{Option, Some, None, Ok, Err}
use mathlib.Core.Path.{◌≡◌, refl, sym, ap, ◌∙◌}
use Prim.Native.Nat.{ℕ, zero, suc, ◌+◌, ◌-◌}
use Prim.Native.Char.{code}
use mathlib.Core.Bool.{Bool, true, false, ◌&&◌, ◌||◌, false≢true}
use mathlib.Core.List.{List, [], ◌∷◌}
use lib.ListN.{length, take}
use lib.Dec.{eqb, ltb}
use Rattle.base.specs.Bounds.{list_most}
use Rattle.base.specs.Choice.{pick, maybe}
use Rattle.base.specs.Lists.{ascii, same, any, all, first}
use Rattle.base.proofs.Tests.{no}
use Rattle.fault.specs.declared.Fault.{Fault}
use Rattle.fault.specs.declared.Fault.TheVariants.{BadLine, BadArgument, Missing, UnfitText, NoRoom, NothingLeft, JournalFull, Damaged, BadExec, BadCode, Incomplete}
use Rattle.fault.specs.Answer.{Answer, ◌>>=◌, unless, then}
use Rattle.fault.proofs.Answers.{unless-refused}
use Rattle.fault.proofs.Refusals.{IfRefused, if-then, if-bind, if-need, if-or, if_some, if_none, of-refusal, Not2, came-later, came-first}
use Rattle.text.specs.Escape.{read_text}
use Rattle.text.specs.Element.{raw_elements, elements_of}
use Rattle.line.specs.Name.{byte_at}
use Rattle.line.specs.Form.{group_form, key_form, plain_form, locale_form}
use Rattle.record.specs.Record.{read_list, list_of}
use Rattle.requests.specs.Requests.{read_requests}
use Rattle.rows.specs.Rows.{Row, read_rows, raw_value}
use Rattle.rows.specs.Title.{Key, find_row, has, desktop_entry}
use Rattle.wellformed.specs.Check.{check}
use Rattle.wellformed.specs.WellFormed.{well_formed}
use Rattle.wellformed.proofs.Accepts.{checks}
use Rattle.choice.specs.Locale.{chosen}
use Rattle.complete.specs.Complete.{main, known_type, exec_where_due, url_where_due, bad_boolean, booleans, complete_rows}
use Rattle.entry.specs.Complete.{complete}
use Rattle.entry.specs.Lookup.{lookup}
use Rattle.entry.specs.Choose.{choose}
use Rattle.splice.specs.Edit.{Edit, spliced, turned, stands}
use Rattle.change.specs.Change.{Request, edit_of}
use Rattle.journal.specs.Journal.{Author, by, edit_length, read_journal, next_of}
use Rattle.journal.specs.Lent.{forget}
use Rattle.edit.specs.Calls.{State, content, journal_of, lengths_fit, file_checked, file_fits, record_fits, opened, applied, request, replayed_in, with_file, replayed, undo, redo}
use Rattle.batch.specs.Batch.{listed, begun, batch}
use Rattle.command.specs.Words.{Word, words, inside_length}
use Rattle.command.specs.Codes.{code_in, needs_backslash, stands_in}
use Rattle.command.specs.Command.{takes_next, piece_of, width_of, is_item, piece_fault, pieces_fault, inside, unfit, quoted_fault, fault_as, form_of, word_fault, takes_files, argument_of, words_fault, read_command, has_piece, is_name, is_icon}
use Rattle.command.specs.declared.Form.{Form}
use Rattle.command.specs.declared.Form.TheVariants as form
use Rattle.run.specs.Run.{runs}
use Rattle.exec.specs.Expand.{fit_item, fit_location, asked_items, name_in, name_text, icon_text, run_arguments, group_arguments, expand}
use Rattle.actions.specs.Actions as spec
use Rattle.abi.proofs.NoByte.{read-not2, each-not2, forget-not2}
use Rattle.demands.specs.Book.{Call, Do, Undo, Redo, Forget}
use Rattle.demands.specs.Demand3.{with_journal, state_call}
use Rattle.demands.specs.Edits.{EditKeepsWellFormed}
use Rattle.demands.specs.BadLine.{BadAt, lends_file, BadLineTold, BadLineToldByCalls, CheckPassedOn}
use Rattle.demands.proofs.BookLaws.{request-refusals}
use Rattle.demands.proofs.EditLaws.{edit-keeps-well-formed}
use Rattle.demands.proofs.BatchLaws.{in-turn}
use Rattle.demands.proofs.BadLines.{bad-line-told}

-- ---- the check's refusal ends every call

edit-refuses : (s : State) (f : Fault) (c : Call) → lends_file c ≡ true → lengths_fit s ≡ true → check (content s) ≡ Err f → state_call s c ≡ Err f
unfolding request undo redo opened file_checked
edit-refuses s f (Do q) c l e = rw (l, e)
edit-refuses s f Undo c l e = rw (l, e)
edit-refuses s f Redo c l e = rw (l, e)
edit-refuses s f (Forget k) c l e = absurd (false≢true c)

pub check-passed-on : CheckPassedOn
unfolding CheckPassedOn file_checked complete lookup choose asked_items expand spec.actions spec.expand_action batch listed opened
check-passed-on file f e =
    record {
      complete_refuses = rw e;
      lookup_refuses = λ group key. rw e;
      choose_refuses = λ group key locale. rw e;
      expand_refuses = λ locale location list run. rw e;
      actions_refuses = λ locale. rw e;
      expand_action_refuses = λ action locale location list run. rw e;
      edits_refuse = λ s c h l i. edit-refuses s f c h l (ap check i ∙ e);
      batch_refuses = λ s author list l i. rw (l, i, e);
    }

-- ---- what the calls ask after the check

booleans-not2 : (rs : List Row) → IfRefused Not2 (booleans rs)
unfolding booleans
booleans-not2 rs = if_none Not2 (first bad_boolean rs) (λ r. Incomplete r.line) (λ r. refl)

complete-not2 : (rs : List Row) → IfRefused Not2 (complete_rows rs)
unfolding complete_rows
complete-not2 rs =
    if_some Not2 (find_row rs (main (ascii "Type"))) (Incomplete 0) _ refl
    (λ type. if-need Not2 (known_type (raw_value type)) (Incomplete type.line) _ refl
    (λ _. if-need Not2 (has rs (main (ascii "Name"))) (Incomplete 0) _ refl
    (λ _. if-need Not2 (exec_where_due rs) (Incomplete 0) _ refl
    (λ _. if-need Not2 (url_where_due rs) (Incomplete 0) _ refl
    (λ _. booleans-not2 rs)))))

replayed-not2 : (s : State) (e : Edit) (standing : ℕ) → IfRefused Not2 (replayed s e standing)
unfolding replayed replayed_in
replayed-not2 s e standing =
    let file : List ℕ = spliced e (content s) in
    if-then Not2 (with_file s standing) (replayed_in (length s.file) (content s) e)
    (if-need Not2 (stands e (content s)) Damaged _ refl
    (λ _. if-need Not2 (file_fits (length s.file) file) NoRoom _ refl (λ _. if-need Not2 (well_formed file) Damaged _ refl (λ _. tt))))

-- ---- the calls that edit

opened-tells : (s : State) (line byte : ℕ) → opened s ≡ Err (BadLine line byte) → check (content s) ≡ Err (BadLine line byte)
unfolding opened file_checked
opened-tells s line byte e =
    came-later (lengths_fit s) Damaged _ line byte refl
    (came-first (file_checked s) _ line byte (λ _. if-or Not2 (read_journal (take s.used s.journal) s.standing) Damaged refl) e)

edit-tells : (s : State) (c : Call) (line byte : ℕ) → state_call s c ≡ Err (BadLine line byte) → check (content s) ≡ Err (BadLine line byte)
unfolding request applied undo redo
edit-tells s (Do q) line byte e =
    opened-tells s line byte
    (came-first (opened s) _ line byte
    (λ _. if-bind Not2 (edit_of (content s) q.what) _ (request-refusals Not2 refl refl refl refl refl (content s) q.what) (λ d. if-need Not2 (file_fits (length s.file) (spliced d (content s))) NoRoom _ refl (λ _. if-need Not2 (record_fits (length s.journal) s.standing (by q.author d)) JournalFull _ refl (λ _. tt)))) e)
edit-tells s Undo line byte e = opened-tells s line byte (came-first (opened s) _ line byte (λ j. if_some Not2 (next_of j.stand) NothingLeft _ refl (λ d. replayed-not2 s (turned d.what) (s.standing - edit_length d))) e)
edit-tells s Redo line byte e = opened-tells s line byte (came-first (opened s) _ line byte (λ j. if_some Not2 (next_of j.wait) NothingLeft _ refl (λ d. replayed-not2 s d.what (s.standing + edit_length d))) e)
edit-tells s (Forget k) line byte e =
    let n : true ≡ false = of-refusal Not2 (then (with_journal s) (forget (journal_of s) k)) (BadLine line byte) (if-then Not2 (with_journal s) (forget (journal_of s) k) (forget-not2 (journal_of s) k)) e in
    absurd (false≢true (sym n))

-- ---- a batch

-- 2 comes from what it asks first: an accepted request leaves a well-formed file
batch_tells : (s : State) (author : Author) (list : List ℕ) (line byte : ℕ) → (batch s author list).stopped ≡ Some (BadLine line byte)
    → check (content s) ≡ Err (BadLine line byte)
unfolding batch listed EditKeepsWellFormed
batch_tells s author list line byte = go (listed s list) refl
  where
    go : (a : Answer (List Request)) → listed s list ≡ a → (begun s author a).stopped ≡ Some (BadLine line byte) → check (content s) ≡ Err (BadLine line byte)
    go (Err f) h e = opened-tells s line byte (came-first (opened s) _ line byte (λ _. if_some Not2 (read_requests list) Damaged _ refl (λ _. tt)) (h ∙ ap Err (cc)))
    go (Ok qs) h e =
        in-turn author (λ qs s b. b.stopped ≡ Some (BadLine line byte) → check (content s) ≡ Err (BadLine line byte))
        (λ s e. no (cc))
        (λ q qs s f i e. edit-tells s (Do (by author q)) line byte (i ∙ ap Err (cc)))
        (λ q qs s t b i w e.
        let bad = w e in
        let good = checks (content t) (edit-keeps-well-formed s t (by author q) i) in
        no (cc))
        qs s e

-- ---- the expansion

piece-not2 : (quoted program taken : Bool) (b c at : ℕ) → IfRefused Not2 (unless (piece_fault quoted program taken b c at))
unfolding piece_fault
piece-not2 quoted program taken b c at = go (eqb b (code "%")) (code_in quoted program taken c) (pick (takes_next quoted b) (needs_backslash c) (stands_in quoted program b))
  where
    go : (x y z : Bool) → IfRefused Not2 (unless (pick x (pick y None (Some (BadCode at))) (pick z None (Some (BadExec at)))))
    go true true z = tt
    go true false z = refl
    go false y true = tt
    go false y false = refl

later-not2 : (o later : Option Fault) → IfRefused Not2 (unless o) → IfRefused Not2 (unless later) → IfRefused Not2 (unless (maybe o later Some))
later-not2 None later h g = g
later-not2 (Some f) later h g = h

pieces-not2 : (quoted program taken : Bool) (s : List ℕ) (n at : ℕ) → IfRefused Not2 (unless (pieces_fault quoted program taken s n at))
unfolding pieces_fault
pieces-not2 quoted program taken [] n at = tt
pieces-not2 quoted program taken (b ∷ bs) (suc n) at = pieces-not2 quoted program taken bs n (at + 1)
pieces-not2 quoted program taken (b ∷ bs) zero at =
    let c : ℕ = byte_at bs 0 in
    let t : Bool = is_item (piece_of quoted b c) || taken in
    later-not2 (piece_fault quoted program taken b c at) (pieces_fault quoted program t bs (width_of quoted b - 1) (at + 1)) (piece-not2 quoted program taken b c at) (pieces-not2 quoted program t bs (width_of quoted b - 1) (at + 1))

quoted-not2 : (program taken : Bool) (w : Word) → IfRefused Not2 (unless (quoted_fault program taken w))
unfolding quoted_fault
quoted-not2 program taken w = go (unfit program (length w.bytes) n) (eqb (length w.bytes) (n + 2))
  where
    n : ℕ
    n = inside_length w.bytes

    behind : (y : Bool) → IfRefused Not2 (unless (pick y None (Some (BadExec (w.start + n + 2)))))
    behind true = tt
    behind false = refl

    go : (x y : Bool)
        → IfRefused Not2 (unless (pick x (Some (BadExec w.start)) (maybe (pieces_fault true program taken (inside w.bytes) 0 (w.start + 1)) (pick y None (Some (BadExec (w.start + n + 2)))) Some)))
    go true y = refl
    go false y = later-not2 (pieces_fault true program taken (inside w.bytes) 0 (w.start + 1)) (pick y None (Some (BadExec (w.start + n + 2)))) (pieces-not2 true program taken (inside w.bytes) 0 (w.start + 1)) (behind y)

word-not2 : (program taken : Bool) (w : Word) → IfRefused Not2 (unless (word_fault program taken w))
unfolding word_fault
word-not2 program taken w = go (form_of w.bytes)
  where
    whole : (t : Bool) → IfRefused Not2 (unless (pick t (Some (BadCode w.start)) None))
    whole true = refl
    whole false = tt

    go : (f : Form) → IfRefused Not2 (unless (fault_as f program taken w))
    go form.Quoted = quoted-not2 program taken w
    go form.Files = whole (program || taken)
    go form.Icon = whole program
    go form.Bare = pieces-not2 false program taken w.bytes 0 w.start

words-not2 : (program taken : Bool) (ws : List Word) → IfRefused Not2 (unless (words_fault program taken ws))
unfolding words_fault
words-not2 true taken [] = refl
words-not2 false taken [] = tt
words-not2 program taken (w ∷ ws) =
    let t : Bool = takes_files (argument_of w) || taken in
    later-not2 (word_fault program taken w) (words_fault false t ws) (word-not2 program taken w) (words-not2 false t ws)

name-in-not2 : (rs : List Row) (group locale : List ℕ) → IfRefused Not2 (name_in rs group locale)
name-in-not2 rs group locale = if_some Not2 (chosen rs group (ascii "Name") locale) Missing _ refl (λ r. read-not2 (raw_value r))

name-not2 : (rs : List Row) (locale : List ℕ) (t : Bool) → IfRefused Not2 (name_text rs locale t)
unfolding name_text
name-not2 rs locale false = tt
name-not2 rs locale true = name-in-not2 rs desktop_entry locale

icon-not2 : (rs : List Row) (group locale : List ℕ) (t : Bool) → IfRefused Not2 (icon_text rs group locale t)
unfolding icon_text
icon-not2 rs group locale false = tt
icon-not2 rs group locale true = go (chosen rs group (ascii "Icon") locale)
  where
    go : (o : Option Row) → IfRefused Not2 (maybe o (Ok []) (λ r. read_text (raw_value r)))
    go None = tt
    go (Some r) = read-not2 (raw_value r)

group-not2 : (rs : List Row) (group locale location : List ℕ) (items : List (List ℕ)) (run : ℕ) → IfRefused Not2 (group_arguments rs group locale location items run)
unfolding group_arguments read_command run_arguments
group-not2 rs group locale location items run =
    if_some Not2 (find_row rs (Key group (ascii "Exec"))) Missing _ refl
    (λ exec. if-bind Not2 (read_text (raw_value exec)) _ (read-not2 (raw_value exec))
    (λ text. if-bind Not2 (read_command text) _ (if-bind Not2 (unless (words_fault true false (words text))) _ (words-not2 true false (words text)) (λ _. tt))
    (λ args. if-need Not2 (ltb run (runs args (length items))) Missing _ refl
    (λ _. if-bind Not2 (name_text rs locale (any (has_piece is_name) args)) _ (name-not2 rs locale (any (has_piece is_name) args))
    (λ name. if-bind Not2 (icon_text rs group locale (any is_icon args)) _ (icon-not2 rs group locale (any is_icon args)) (λ icon. tt))))))

asked-tells : (file locale location list : List ℕ) (line byte : ℕ) → asked_items file locale location list ≡ Err (BadLine line byte) → check file ≡ Err (BadLine line byte)
unfolding asked_items
asked-tells file locale location list line byte =
    came-first (check file) _ line byte
    (λ _. if_some Not2 (read_list 2 list_most list) Damaged _ refl
    (λ items. if-need Not2 (locale_form locale) BadArgument _ refl (λ _. if-need Not2 (all fit_item items && fit_location location) UnfitText _ refl (λ _. tt))))

-- the arguments of a group's Exec as records
records-not2 : (rs : List Row) (group locale location : List ℕ) (items : List (List ℕ)) (run : ℕ)
    → IfRefused Not2 (group_arguments rs group locale location items run >>= λ args. Ok (list_of 3 args))
records-not2 rs group locale location items run = if-bind Not2 (group_arguments rs group locale location items run) _ (group-not2 rs group locale location items run) (λ args. tt)

expand_tells : (file locale location list : List ℕ) (run line byte : ℕ) → expand file locale location list run ≡ Err (BadLine line byte) → check file ≡ Err (BadLine line byte)
unfolding expand
expand_tells file locale location list run line byte e =
    asked-tells file locale location list line byte
    (came-first (asked_items file locale location list) _ line byte (λ items. records-not2 (read_rows file) desktop_entry locale location items run) e)

listed-not2 : (rs : List Row) → IfRefused Not2 (spec.listed rs)
unfolding spec.listed spec.identifiers elements_of
listed-not2 rs = if-then Not2 (spec.listed_from rs []) (elements_of (spec.actions_value rs)) (each-not2 (raw_elements (spec.actions_value rs) false) 0)

labelled-not2 : (rs : List Row) (locale : List ℕ) (ids : List (List ℕ)) → IfRefused Not2 (spec.labelled rs locale ids)
unfolding spec.labelled
labelled-not2 rs locale [] = tt
labelled-not2 rs locale (id ∷ ids) =
    if-bind Not2 (name_in rs (spec.action_group id) locale) _ (name-in-not2 rs (spec.action_group id) locale)
    (λ label. if-bind Not2 (spec.labelled rs locale ids) _ (labelled-not2 rs locale ids) (λ later. tt))

actions_tells : (file locale : List ℕ) (line byte : ℕ) → spec.actions file locale ≡ Err (BadLine line byte) → check file ≡ Err (BadLine line byte)
unfolding spec.actions
actions_tells file locale line byte =
    came-first (check file) _ line byte
    (λ _. if-need Not2 (locale_form locale) BadArgument _ refl
    (λ _. if-bind Not2 (spec.listed (read_rows file)) _ (listed-not2 (read_rows file))
    (λ ids. if-bind Not2 (spec.labelled (read_rows file) locale ids) _ (labelled-not2 (read_rows file) locale ids) (λ bodies. tt))))

expand_action_tells : (file action locale location list : List ℕ) (run line byte : ℕ) → spec.expand_action file action locale location list run ≡ Err (BadLine line byte)
    → check file ≡ Err (BadLine line byte)
unfolding spec.expand_action
expand_action_tells file action locale location list run line byte e =
    asked-tells file locale location list line byte
    (came-first (asked_items file locale location list) _ line byte
    (λ items. if-bind Not2 (spec.listed (read_rows file)) _ (listed-not2 (read_rows file))
    (λ ids. if-need Not2 (any (same action) ids) Missing _ refl (λ _. records-not2 (read_rows file) (spec.action_group action) locale location items run))) e)

-- ---- so what every call tells of a bad line is so

pub bad-line-told-by-calls : BadLineToldByCalls
unfolding BadLineToldByCalls BadLineTold complete lookup choose
bad-line-told-by-calls file =
    record {
      complete_tells = λ line byte e. so line byte (came-first (check file) _ line byte (λ _. complete-not2 (read_rows file)) e);
      lookup_tells = λ group key line byte e. so line byte (came-first (check file) _ line byte (λ _. if-need Not2 (group_form group && key_form key) BadArgument _ refl (λ _. if_some Not2 (find_row (read_rows file) (Key group key)) Missing _ refl (λ r. tt))) e);
      choose_tells = λ group key locale line byte e. so line byte (came-first (check file) _ line byte (λ _. if-need Not2 (group_form group && plain_form key && locale_form locale) BadArgument _ refl (λ _. if_some Not2 (chosen (read_rows file) group key locale) Missing _ refl (λ r. tt))) e);
      expand_tells = λ locale location list run line byte e. so line byte (expand_tells file locale location list run line byte e);
      actions_tells = λ locale line byte e. so line byte (actions_tells file locale line byte e);
      expand_action_tells = λ action locale location list run line byte e. so line byte (expand_action_tells file action locale location list run line byte e);
      edits_tell = λ s c i line byte e. so line byte (ap check (sym i) ∙ edit-tells s c line byte e);
      batch_tells = λ s author list i line byte e. so line byte (ap check (sym i) ∙ batch_tells s author list line byte (unless-refused (batch s author list).stopped (BadLine line byte) e));
    }
  where
    so : (line byte : ℕ) → check file ≡ Err (BadLine line byte) → BadAt file line byte
    so line byte e = bad-line-told file line byte e
