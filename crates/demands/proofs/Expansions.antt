-- What an accepted expansion passed: every question of its definition, in order; and what passed them is accepted. Assumes nothing.
use Rattle.std.specs.Prelude.{Some, Ok, Err}
use Prim.Native.Nat.{ℕ, zero, suc, ◌≤◌, ◌<◌}
use native.Mathlib.Omega.{arith}
use mathlib.Core.Path.{◌≡◌, refl, sym, ◌∙◌}
use mathlib.Core.Bool.{Bool, true}
use mathlib.Core.List.{List, [], ◌∷◌}
use lib.ListN.{length, get_or}
use borrow.Author.Tests.{ltb-true, lt-ltb, le-ltb, eq-eqb}
use Rattle.base.specs.Bounds.{list_most}
use Rattle.base.specs.Lists.{ascii, same, any, all}
use Rattle.base.proofs.Tests.{no, and_both}
use Rattle.fault.specs.declared.Fault.TheVariants.{Missing}
use Rattle.fault.specs.Answer.{Answer, ◌>>=◌, need}
use Rattle.fault.proofs.Answers.{bind-given, need-given, some-given, given_is}
use Rattle.record.specs.Record.{read_list, list_of}
use Rattle.text.specs.Escape.{read_text}
use Rattle.line.specs.Form.{locale_form}
use Rattle.rows.specs.Rows.{Row, read_rows, raw_value}
use Rattle.rows.specs.Title.{Key, find_row}
use Rattle.wellformed.specs.Check.{check}
use Rattle.command.specs.Command.{Argument, read_command, has_piece, is_name, is_icon}
use Rattle.run.specs.Run.{run_of, expanded_all, runs}
use Rattle.exec.specs.Expand.{fit_item, fit_location, asked_items, name_text, icon_text, run_arguments, group_arguments, expand}
use Rattle.run.specs.Step.{put_of}
use Rattle.actions.specs.Actions.{action_group, listed, expand_action}
use Rattle.demands.specs.Commands.{Expander, of_application, of_action}

-- an expansion asks what every expansion does, then perhaps more of the file, and then for the arguments of its group's Exec
pub record Known (by : Expander) : Type 0 where
  pub asks : List ℕ → Answer (Unit {0})
  pub is : (file locale location list : List ℕ) (run : ℕ) → by.expansion file locale location list run
      ≡ (asked_items file locale location list >>= λ items. (asks file >>= λ _. (group_arguments (read_rows file) by.group locale location items run >>= λ args. Ok (list_of 3 args))))

pub application-known : Known of_application
unfolding expand
application-known = record { asks = λ file. Ok tt; is = λ file locale location list run. refl }

-- an action's asks whether it is listed
pub action-known : (id : List ℕ) → Known (of_action id)
unfolding expand_action
action-known id =
    record {
      asks = λ file. (listed (read_rows file) >>= λ ids. need (any (same id) ids) Missing);
      is = λ file locale location list run. go file locale location run (asked_items file locale location list) (listed (read_rows file));
    }
  where
    go : (file locale location : List ℕ) (run : ℕ) (a b : Answer (List (List ℕ)))
        → (a >>= λ items. (b >>= λ ids. (need (any (same id) ids) Missing >>= λ _. (group_arguments (read_rows file) (action_group id) locale location items run >>= λ args. Ok (list_of 3 args)))))
        ≡ (a >>= λ items. ((b >>= λ ids. need (any (same id) ids) Missing) >>= λ _. (group_arguments (read_rows file) (action_group id) locale location items run >>= λ args. Ok (list_of 3 args))))
    go file locale location run (Err f) b = refl
    go file locale location run (Ok items) (Err f) = refl
    go file locale location run (Ok items) (Ok ids) = refl

-- the file, the locale and the location are in order, and so is the command with its texts, whatever the list
pub record Sound {by : Expander} (k : Known by) (file locale location : List ℕ) : Type 0 where
  pub checks : check file ≡ Ok tt
  pub form : locale_form locale ≡ true
  pub placed : fit_location location ≡ true
  pub allowed : k.asks file ≡ Ok tt
  pub row : Row
  pub found : find_row (read_rows file) (Key by.group (ascii "Exec")) ≡ Some row
  pub exec : List ℕ
  pub unescaped : read_text (raw_value row) ≡ Ok exec
  pub command : List Argument
  pub read : read_command exec ≡ Ok command
  pub name : List ℕ
  pub named : name_text (read_rows file) locale (any (has_piece is_name) command) ≡ Ok name
  pub icon : List ℕ
  pub icon-read : icon_text (read_rows file) by.group locale (any is_icon command) ≡ Ok icon

-- a list whose items are in order
pub record Listed (list : List ℕ) (items : List (List ℕ)) : Type 0 where
  pub reads : read_list 2 list_most list ≡ Some items
  pub fit : all fit_item items ≡ true

-- an item of it, which is not empty
pub all-at : (p : List ℕ → Bool) (xs : List (List ℕ)) (n : ℕ) → all p xs ≡ true → n < length xs → p (get_or xs n []) ≡ true
unfolding all
all-at p [] n e h = absurd (omega arith)
all-at p (x ∷ xs) zero e h = (and_both (p x) (all p xs) e).0
all-at p (x ∷ xs) (suc n) e h = all-at p xs n (and_both (p x) (all p xs) e).1 (omega arith)

pub fit-some : (s : List ℕ) → fit_item s ≡ true → length s ≡ 0 → ⊥
unfolding fit_item
fit-some s e z = let f = rw (eq-eqb (length s) 0 z) at e in no (cc)

-- the arguments of a run over some items
abbrev pub arguments_of : {by : Expander} {k : Known by} {file locale location : List ℕ} → Sound k file locale location → List (List ℕ) → ℕ → List (List ℕ)
arguments_of {location = location} s items run = expanded_all (run_of (put_of (get_or items run []) s.name location) items s.icon) s.command

-- what an accepted expansion passed
pub record Passed {by : Expander} (k : Known by) (file locale location list : List ℕ) (run : ℕ) (out : List ℕ) : Type 0 where
  pub sound : Sound k file locale location
  pub items : List (List ℕ)
  pub listed : Listed list items
  pub among : run < runs sound.command (length items)
  pub written : out ≡ list_of 3 (arguments_of sound items run)

module _ {by : Expander} (w : Known by) (file locale location list : List ℕ) (run : ℕ) where
  pub passed : (out : List ℕ) → by.expansion file locale location list run ≡ Ok out → Passed w file locale location list run out
  unfolding asked_items group_arguments run_arguments
  passed out e =
      let a = bind-given (asked_items file locale location list) _ out (sym (w.is file locale location list run) ∙ e) in
      let items : List (List ℕ) = a.0 in
      let b = bind-given (check file) _ items a.1 in
      let c = some-given _ _ _ items b.2 in
      let d = need-given _ _ _ items c.2 in
      let f = need-given _ _ _ items d.1 in
      let i : c.0 ≡ items = given_is _ _ f.1 in
      let g = and_both (all fit_item c.0) (fit_location location) f.0 in
      let z = bind-given (w.asks file) _ out a.2 in
      let h = bind-given (group_arguments (read_rows file) by.group locale location items run) _ out z.2 in
      let args : List (List ℕ) = h.0 in
      let j = some-given _ _ _ args h.1 in
      let k = bind-given (read_text (raw_value j.0)) _ args j.2 in
      let l = bind-given (read_command k.0) _ args k.2 in
      let m = need-given _ _ _ args l.2 in
      let n = bind-given (name_text (read_rows file) locale (any (has_piece is_name) l.0)) _ args m.1 in
      let o = bind-given (icon_text (read_rows file) by.group locale (any is_icon l.0)) _ args n.2 in
      record {
        sound =
            record {
              checks = b.1;
              form = d.0;
              placed = g.1;
              allowed = z.1;
              row = j.0;
              found = j.1;
              exec = k.0;
              unescaped = k.1;
              command = l.0;
              read = l.1;
              name = n.0;
              named = n.1;
              icon = o.0;
              icon-read = o.1;
            };
        items = items;
        listed = record { reads = c.1 ∙ rw i; fit = rw (← i) g.0 };
        among = ltb-true run (runs l.0 (length items)) m.0;
        written = sym (rw (given_is _ _ o.2) (given_is _ _ h.2));
      }

  pub accepts : (s : Sound w file locale location) (items : List (List ℕ)) → Listed list items → run < runs s.command (length items)
      → by.expansion file locale location list run ≡ Ok (list_of 3 (arguments_of s items run))
  unfolding asked_items group_arguments run_arguments
  accepts s items l h =
      w.is file locale location list run
      ∙ rw (s.checks, l.reads, s.form, l.fit, s.placed, s.allowed, s.found, s.unescaped, s.read, lt-ltb run (runs s.command (length items)) h, s.named, s.icon-read)

  pub refuses : (s : Sound w file locale location) (items : List (List ℕ)) → Listed list items → runs s.command (length items) ≤ run
      → by.expansion file locale location list run ≡ Err Missing
  unfolding asked_items group_arguments run_arguments
  refuses s items l h =
      w.is file locale location list run
      ∙ rw (s.checks, l.reads, s.form, l.fit, s.placed, s.allowed, s.found, s.unescaped, s.read, le-ltb run (runs s.command (length items)) h)
