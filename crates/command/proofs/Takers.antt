-- A command that is read has one code at most that takes files. Assumes nothing.
use Rattle.std.specs.Prelude.{Option, Some, None, Ok}
use mathlib.Core.Path.{◌≡◌, refl}
use Prim.Native.Nat.{ℕ, zero, suc, ◌+◌, ◌-◌, ◌≤◌}
use native.Mathlib.Omega.{arith}
use mathlib.Core.Bool.{Bool, true, false, not, ◌&&◌, ◌||◌}
use mathlib.Core.List.{List, [], ◌∷◌, map}
use lib.ListN.{length}
use lib.Dec.{eqb}
use Rattle.base.specs.Choice.{pick, maybe}
use Rattle.base.specs.Lists.{any}
use Rattle.base.proofs.Tests.{no}
use Rattle.fault.specs.declared.Fault.{Fault}
use Rattle.fault.specs.declared.Fault.TheVariants.{BadExec, BadCode}
use Rattle.fault.specs.Answer.{◌>>=◌, unless}
use Rattle.line.specs.Name.{byte_at}
use Rattle.command.specs.declared.Piece.{Piece}
use Rattle.command.specs.declared.Piece.TheVariants as piece
use Rattle.command.specs.declared.Form.{Form}
use Rattle.command.specs.declared.Form.TheVariants as form
use Rattle.command.specs.Words.{Word, words, inside_length}
use Rattle.command.specs.Codes.{item_code, one_of, vanished_code, code_piece, code_in, needs_backslash, stands_in}
use Rattle.command.specs.Command.{Argument, Files, Icon, Text, takes_next, piece_of, width_of, pieces_after, inside, form_of, argument_as, argument_of, is_item, piece_fault, pieces_fault, unfit, quoted_fault, fault_as, word_fault, takes_files, words_fault, arguments_in, read_command}
use Rattle.command.specs.Laws.{item_codes, file_codes, all_file_codes, OneTakesFiles}

-- ---- one piece

-- `%` with a byte of f or u may stand only where nothing was taken
code-item : (q p t : Bool) (c : ℕ) → code_in q p t c ≡ true → is_item (code_piece c) ≡ true → t ≡ false
unfolding code_in code_piece
code-item q p t c = go (eqb c 37) (item_code c) q p t
  where
    go : (x i q p t : Bool) → (x || (not q && not p && pick i (not t) (one_of (99 ∷ 107 ∷ []) c || vanished_code c))) ≡ true
        → is_item (pick x (piece.Byte c) (pick i piece.Item (pick (eqb c 99) piece.Name (pick (eqb c 107) piece.Location piece.Vanished)))) ≡ true → t ≡ false
    go true i q p t e f = no (cc)
    go false true true p t e f = no (cc)
    go false true false true t e f = no (cc)
    go false true false false true e f = no (cc)
    go false true false false false e f = refl
    go false false q p t e f = other (eqb c 99) (eqb c 107) f
      where
        other : (y z : Bool) → is_item (pick y piece.Name (pick z piece.Location piece.Vanished)) ≡ true → t ≡ false
        other true z f = no (cc)
        other false true f = no (cc)
        other false false f = no (cc)

piece-item : (q p t : Bool) (b c at : ℕ) → piece_fault q p t b c at ≡ None → is_item (piece_of q b c) ≡ true → t ≡ false
unfolding piece_fault piece_of
piece-item q p t b c at = go (eqb b 37)
  where
    go : (x : Bool) → pick x (pick (code_in q p t c) None (Some (BadCode at))) (pick (pick (takes_next q b) (needs_backslash c) (stands_in q p b)) None (Some (BadExec at))) ≡ None
        → is_item (pick x (code_piece c) (piece.Byte (pick (takes_next q b) c b))) ≡ true → t ≡ false
    go false e f = no (cc)
    go true e f = code-item q p t c (sound (code_in q p t c) e) f
      where
        sound : (y : Bool) → pick y None (Some (BadCode at)) ≡ None → y ≡ true
        sound true e = refl
        sound false e = no (cc)

-- ---- pieces

both-none : (o later : Option Fault) → maybe o later Some ≡ None → (o ≡ None) × (later ≡ None)
both-none None later e = (refl, e)
both-none (Some f) later e = no (cc)

-- what may still be taken
abbrev free : Bool → ℕ
free t = pick t 0 1

pieces-one : (q p t : Bool) (s : List ℕ) (n at : ℕ) → pieces_fault q p t s n at ≡ None → item_codes (pieces_after q s n) ≤ free t
unfolding pieces_fault pieces_after
pieces-one q p t [] n at e = omega arith
pieces-one q p t (b ∷ s) (suc n) at e = pieces-one q p t s n (at + 1) e
pieces-one q p t (b ∷ s) zero at e =
    let f = both-none (piece_fault q p t b (byte_at s 0) at) (pieces_fault q p (is_item (piece_of q b (byte_at s 0)) || t) s (width_of q b - 1) (at + 1)) e in
    go (is_item (piece_of q b (byte_at s 0))) t (item_codes (pieces_after q s (width_of q b - 1))) (piece-item q p t b (byte_at s 0) at f.0)
    (pieces-one q p (is_item (piece_of q b (byte_at s 0)) || t) s (width_of q b - 1) (at + 1) f.1)
  where
    go : (x t : Bool) (m : ℕ) → (x ≡ true → t ≡ false) → m ≤ free (x || t) → pick x 1 0 + m ≤ free t
    go true true m i h = let z = i refl in no (cc)
    go true false m i h = omega arith
    go false true m i h = omega arith
    go false false m i h = omega arith

none-taken : (ps : List Piece) → any is_item ps ≡ false → item_codes ps ≡ 0
unfolding any
none-taken [] e = refl
none-taken (p ∷ ps) e = go (is_item p) e (none-taken ps)
  where
    go : (x : Bool) → (x || any is_item ps) ≡ false → (any is_item ps ≡ false → item_codes ps ≡ 0) → pick x 1 0 + item_codes ps ≡ 0
    go true e f = no (cc)
    go false e f = let z = f e in omega arith

-- ---- words

quoted-inside : (program taken : Bool) (w : Word) → quoted_fault program taken w ≡ None → pieces_fault true program taken (inside w.bytes) 0 (w.start + 1) ≡ None
unfolding quoted_fault
quoted-inside program taken w = go (unfit program (length w.bytes) (inside_length w.bytes))
  where
    behind : Option Fault
    behind = pick (eqb (length w.bytes) (inside_length w.bytes + 2)) None (Some (BadExec (w.start + inside_length w.bytes + 2)))

    go : (u : Bool) → pick u (Some (BadExec w.start)) (maybe (pieces_fault true program taken (inside w.bytes) 0 (w.start + 1)) behind Some) ≡ None
        → pieces_fault true program taken (inside w.bytes) 0 (w.start + 1) ≡ None
    go true e = no (cc)
    go false e = (both-none (pieces_fault true program taken (inside w.bytes) 0 (w.start + 1)) behind e).0

word-as : (k : Form) (program taken : Bool) (w : Word) → fault_as k program taken w ≡ None → file_codes (argument_as k w.bytes) ≤ free taken
word-as form.Quoted program taken w e = pieces-one true program taken (inside w.bytes) 0 (w.start + 1) (quoted-inside program taken w e)
word-as form.Files program taken w e = go program taken e
  where
    go : (p t : Bool) → pick (p || t) (Some (BadCode w.start)) None ≡ None → 1 ≤ free t
    go true t e = no (cc)
    go false true e = no (cc)
    go false false e = omega arith
word-as form.Icon program taken w e = omega arith
word-as form.Bare program taken w e = pieces-one false program taken w.bytes 0 w.start e

none_of : (a : Argument) → takes_files a ≡ false → file_codes a ≡ 0
none_of Files e = no (cc)
none_of Icon e = refl
none_of (Text q ps) e = none-taken ps e

words-next : (program taken : Bool) (w : Word) (ws : List Word) → maybe (word_fault program taken w) (words_fault false (takes_files (argument_of w) || taken) ws) Some ≡ None
    → (words_fault false (takes_files (argument_of w) || taken) ws ≡ None → all_file_codes (map argument_of ws) ≤ free (takes_files (argument_of w) || taken))
    → file_codes (argument_of w) + all_file_codes (map argument_of ws) ≤ free taken
unfolding word_fault argument_of
words-next program taken w ws e f =
    let b = both-none (word_fault program taken w) (words_fault false (takes_files (argument_of w) || taken) ws) e in
    go (takes_files (argument_of w)) (none_of (argument_of w)) (word-as (form_of w.bytes) program taken w b.0) (f b.1)
  where
    go : (x : Bool) → (x ≡ false → file_codes (argument_of w) ≡ 0) → file_codes (argument_of w) ≤ free taken → all_file_codes (map argument_of ws) ≤ free (x || taken)
        → file_codes (argument_of w) + all_file_codes (map argument_of ws) ≤ free taken
    go true z h l = omega arith
    go false z h l = let y = z refl in omega arith

words-one : (program taken : Bool) (ws : List Word) → words_fault program taken ws ≡ None → all_file_codes (map argument_of ws) ≤ free taken
unfolding words_fault
words-one program taken [] e = omega arith
words-one true taken (w ∷ ws) e = words-next true taken w ws e (words-one false (takes_files (argument_of w) || taken) ws)
words-one false taken (w ∷ ws) e = words-next false taken w ws e (words-one false (takes_files (argument_of w) || taken) ws)

pub one_takes_files : OneTakesFiles
unfolding read_command
one_takes_files exec args = go (words_fault true false (words exec)) refl
  where
    go : (o : Option Fault) → words_fault true false (words exec) ≡ o → (unless o >>= λ _. Ok (arguments_in exec)) ≡ Ok args → all_file_codes args ≤ 1
    go None f e = let a : arguments_in exec ≡ args = cc in rw (← a) (words-one true false (words exec) f)
    go (Some x) f e = no (cc)
