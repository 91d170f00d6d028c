-- The book's refusals have place 0 and byte 0. Assumes nothing.
use mathlib.Core.Path.{◌≡◌, refl}
use Prim.Native.Nat.{ℕ}
use mathlib.Core.Bool.{not, ◌&&◌, ◌||◌}
use mathlib.Core.List.{List, [], ◌∷◌}
use lib.ListN.{length}
use lib.Dec.{leb}
use Rattle.base.specs.Lists.{any, last}
use Rattle.fault.specs.declared.Fault.{Fault}
use Rattle.fault.specs.declared.Fault.TheVariants.{NoPlainKey, BadArgument, Missing, UnfitText, NoRoom, NothingLeft, JournalFull, PostfixesRemain}
use Rattle.fault.specs.Table.{place_of, byte_of}
use Rattle.fault.proofs.Refusals.{IfRefused, if-bind, if-need, if_some, of-refusal}
use Rattle.text.specs.Escape.{fit_text}
use Rattle.line.specs.Form.{group_form, key_form}
use Rattle.rows.specs.Rows.{Row, read_rows}
use Rattle.rows.specs.Title.{Key, title, find_row, has}
use Rattle.wellformed.specs.Check.{plain_of}
use Rattle.splice.specs.Edit.{spliced}
use Rattle.change.specs.Change.{Request, Set, Remove, is_plain, of_group, postfix_of, set_edit, remove_edit, edit_of}
use Rattle.journal.specs.Journal.{Authored, by}
use Rattle.edit.specs.Calls.{file_fits, record_fits}
use Rattle.demands.specs.Book.{Call, Do, Undo, Redo, Forget, Book, book_file, book_standing, book_request, book_undo, book_redo, book_forget, book_call, BookRefusesAtZero}

-- what holds of these five holds of every refusal of a request's edit
pub request-refusals : (P : Fault → Type 0) → P BadArgument → P UnfitText → P Missing → P (NoPlainKey 0) → P PostfixesRemain → (file : List ℕ) (q : Request) → IfRefused P (edit_of file q)
unfolding edit_of set_edit remove_edit
request-refusals P form text missing plain postfixes file (Set group key value) =
    let rs : List Row = read_rows file in
    if-need P (group_form group && key_form key) BadArgument _ form
    (λ _. if-need P (fit_text value) UnfitText _ text
    (λ _. if_some P (last (λ r. of_group group (title r)) rs) Missing _ missing
    (λ r. if-need P (is_plain key || has rs (Key group (plain_of key))) (NoPlainKey 0) _ plain (λ _. tt))))
request-refusals P form text missing plain postfixes file (Remove group key) =
    let rs : List Row = read_rows file in
    if-need P (group_form group && key_form key) BadArgument _ form
    (λ _. if_some P (find_row rs (Key group key)) Missing _ missing
    (λ r. if-need P (not (any (λ s. postfix_of group key (title s)) rs)) PostfixesRemain _ postfixes (λ _. tt)))

-- told without a place and a byte
abbrev AtZero : Fault → Type 0
AtZero f = (place_of f ≡ 0) × (byte_of f ≡ 0)

undo-zero : (b : Book) (qs : List (Authored Request)) → IfRefused AtZero (book_undo b qs)
undo-zero b [] = (refl, refl)
undo-zero b (q ∷ qs) = tt

redo-zero : (b : Book) (qs : List (Authored Request)) → IfRefused AtZero (book_redo b qs)
redo-zero b [] = (refl, refl)
redo-zero b (q ∷ qs) = tt

call-zero : (b : Book) (c : Call) → IfRefused AtZero (book_call b c)
unfolding book_request book_forget
call-zero b (Do q) =
    let zero : (◌≡◌ {A = ℕ} 0 0) × (◌≡◌ {A = ℕ} 0 0) = (refl, refl) in
    if-bind AtZero (edit_of (book_file b) q.what) _ (request-refusals AtZero zero zero zero zero zero (book_file b) q.what)
    (λ e. if-need AtZero (file_fits b.file_room (spliced e (book_file b))) NoRoom _ zero
    (λ _. if-need AtZero (record_fits b.journal_room (book_standing b) (by q.author e)) JournalFull _ zero (λ _. tt)))
call-zero b Undo = undo-zero b b.standing
call-zero b Redo = redo-zero b b.waiting
call-zero b (Forget k) = if-need AtZero (leb k (length b.standing)) NothingLeft _ (refl, refl) (λ _. tt)

pub book-refuses-at-zero : BookRefusesAtZero
unfolding BookRefusesAtZero
book-refuses-at-zero b c f e = of-refusal AtZero (book_call b c) f (call-zero b c) e
