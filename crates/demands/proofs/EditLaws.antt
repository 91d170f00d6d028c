-- An accepted set or remove leaves a well-formed file, is read back, and changes what no other key reads. Assumes nothing.
use Rattle.std.specs.Prelude.{Option, Some, None, option_map, Ok, Err}
use mathlib.Core.Path.{◌≡◌, refl, sym, ap, ◌∙◌}
use Prim.Native.Nat.{ℕ}
use mathlib.Core.Bool.{true, false, ◌&&◌}
use mathlib.Core.List.{List, []}
use Rattle.base.specs.Lists.{part}
use Rattle.base.proofs.Tests.{no, by-test}
use Rattle.fault.specs.declared.Fault.TheVariants.{BadArgument, Missing}
use Rattle.fault.specs.Answer.{Answer, ◌>>=◌, some_or, then}
use Rattle.text.specs.Escape.{raw_text}
use Rattle.text.proofs.ReadBack.{read_back}
use Rattle.line.specs.Form.{group_form, key_form}
use Rattle.rows.specs.Rows.{Row, read_rows, raw_value}
use Rattle.rows.specs.Title.{desktop_entry, Title, Key, same_title, find_row}
use Rattle.rows.proofs.Titles.{nameless}
use Rattle.rows.proofs.Sight.{lines_of}
use Rattle.wellformed.specs.WellFormed.{well_formed}
use Rattle.wellformed.proofs.Accepts.{checks}
use Rattle.entry.specs.Lookup.{value_ends, lookup}
use Rattle.entry.specs.declared.Ends.{Ends}
use Rattle.entry.proofs.Lookups.{row-stands}
use Rattle.splice.specs.Edit.{Edit}
use Rattle.change.specs.Change.{Request, Set, Remove, edit_of}
use Rattle.change.proofs.LineValues.{value_in, AlikeBut, value-file}
use Rattle.change.proofs.Accepted.{set-of, remove-of, edit-undone}
use Rattle.change.proofs.Kept.{After, after-set, after-remove}
use Rattle.journal.specs.Journal.{Authored, by}
use Rattle.edit.specs.Calls.{State, content, request}
use Rattle.edit.proofs.Requested.{Done, done, done-left, most}
use Rattle.demands.specs.Files.{handed}
use Rattle.demands.specs.Edits.{asked_entry, EditKeepsWellFormed, OthersReadAsBefore, SetIsReadBack, RemovedIsMissing, TurnedRound}
use Rattle.demands.proofs.FileLaws.{lookup-is}

-- ---- lookup by the lines of a file

-- lookup in a well-formed file hands back the value by its lines
lookup-reads : (f group key : List ℕ) → well_formed f ≡ true → (group_form group && key_form key) ≡ true
    → handed f group key ≡ some_or (value_in (Key group key) [] (lines_of f)) Missing
lookup-reads f group key h k =
    ap (then (λ e. part e.from e.to f)) (lookup-is f group key h k) ∙ rw (← value-file f (Key group key)) (by_row (find_row (read_rows f) (Key group key)) refl)
  where
    by_row : (o : Option Row) → find_row (read_rows f) (Key group key) ≡ o
        → then (λ e. part e.from e.to f) (some_or o Missing >>= (λ r. Ok (value_ends r))) ≡ some_or (option_map raw_value o) Missing
    by_row None z = refl
    by_row (Some r) z = ap Ok (row-stands f (Key group key) r z)

-- with arguments of another form it is refused
lookup-formless : (f group key : List ℕ) → well_formed f ≡ true → (group_form group && key_form key) ≡ false → handed f group key ≡ Err BadArgument
unfolding lookup
lookup-formless f group key h k = rw (checks f h, k)

-- what lookup of another entry hands back in files that are alike but for one
lookup-alike : (t : Title) (f h group key : List ℕ) → well_formed f ≡ true → well_formed h ≡ true → AlikeBut t (lines_of f) (lines_of h)
    → same_title (Key group key) t ≡ false → handed f group key ≡ handed h group key
lookup-alike t f h group key u w a n =
    by-test (group_form group && key_form key)
    (λ c.
    lookup-reads f group key u c
    ∙ ap (λ (o : Option (List ℕ)). some_or o Missing) (a (same_title (Key group key)) (nameless (Key group key)) n)
    ∙ sym (lookup-reads h group key w c))
    (λ c. lookup-formless f group key u c ∙ sym (lookup-formless h group key w c))

-- ---- after an edit

-- the value that the entry of a request then has
abbrev new_value : Request → Option (List ℕ)
new_value (Set group key text) = Some (raw_text text)
new_value (Remove group key) = None

-- what an accepted request leaves
pub record Leaves (s t : State) (q : Request) : Type 0 where
  pub well-before : well_formed (content s) ≡ true
  pub well : well_formed (content t) ≡ true
  pub own : value_in (asked_entry q) [] (lines_of (content t)) ≡ new_value q
  pub others : AlikeBut (asked_entry q) (lines_of (content t)) (lines_of (content s))

pub leaves : (s t : State) (q : Authored Request) → request s q ≡ Ok t → Leaves s t q.what
leaves s t q h = let d = done s t q h in left_by_lem d (after q.what d.edit d.edits d.well)
  where
    after : (q : Request) (e : Edit) → edit_of (content s) q ≡ Ok e → well_formed (content s) ≡ true → After desktop_entry e (content s) (asked_entry q) (new_value q)
    after (Set group key text) e i w = after-set desktop_entry (content s) group key text e w (set-of (content s) group key text e i)
    after (Remove group key) e i w = after-remove desktop_entry (content s) group key e w (remove-of (content s) group key e i)

    left_by_lem : (d : Done s t q) → After desktop_entry d.edit (content s) (asked_entry q.what) (new_value q.what) → Leaves s t q.what
    left_by_lem d a = record { well-before = d.well; well = rw (done-left d) (a.well (most d)); own = rw (done-left d) a.own; others = rw (done-left d) a.others }

-- ---- the laws

pub edit-keeps-well-formed : EditKeepsWellFormed
unfolding EditKeepsWellFormed
edit-keeps-well-formed s t q h = (leaves s t q h).well

pub others-read-as-before : OthersReadAsBefore
unfolding OthersReadAsBefore
others-read-as-before s t q group key h n =
    let l = leaves s t q h in
    lookup-alike (asked_entry q.what) (content t) (content s) group key l.well l.well-before l.others n

-- what lookup of its own entry hands back
own-reads : (s t : State) (q : Authored Request) (group key : List ℕ) → asked_entry q.what ≡ Key group key → (group_form group && key_form key) ≡ true → request s q ≡ Ok t
    → handed (content t) group key ≡ some_or (new_value q.what) Missing
own-reads s t q group key i c h =
    let l = leaves s t q h in
    lookup-reads (content t) group key l.well c ∙ ap (λ (o : Option (List ℕ)). some_or o Missing) (rw i at l.own)

pub set-is-read-back : SetIsReadBack
unfolding SetIsReadBack
set-is-read-back s t author group key text h =
    let q : Authored Request = by author (Set group key text) in
    let d = done s t q h in
    let c = (set-of (content s) group key text d.edit d.edits).form in
    rw (own-reads s t q group key refl c h) (read_back text)

pub removed-is-missing : RemovedIsMissing
unfolding RemovedIsMissing
removed-is-missing s t author group key h =
    let q : Authored Request = by author (Remove group key) in
    let d = done s t q h in
    let c = (remove-of (content s) group key d.edit d.edits).form in
    by_answer (lookup (content t) group key) (own-reads s t q group key refl c h)
  where
    by_answer : (a : Answer Ends) → then (λ e. part e.from e.to (content t)) a ≡ Err Missing → a ≡ Err Missing
    by_answer (Ok e) i = no (cc)
    by_answer (Err f) i = ap Err (cc)

pub turned_round : TurnedRound
unfolding TurnedRound
turned_round file q e h = edit-undone file q e h
