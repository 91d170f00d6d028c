-- The check of a word and of a command, way by way. Assumes nothing.
use Rattle.std.specs.Prelude.{Option, Some, None, Ok, Err}
use mathlib.Core.Path.{◌≡◌, refl, ap, ◌∙◌}
use Prim.Native.Nat.{ℕ, ◌+◌, ◌≤◌, ◌<◌}
use native.Mathlib.Omega.{arith}
use mathlib.Core.Bool.{Bool, true, false, ◌||◌, or-true, or-false}
use mathlib.Core.List.{List, [], ◌∷◌, map}
use lib.ListN.{length, take, drop, get_or}
use lib.Dec.{eqb}
use Rattle.base.specs.Lists.{any, part}
use Rattle.base.proofs.Tests.{no}
use Rattle.fault.specs.declared.Fault.{Fault}
use Rattle.fault.specs.declared.Fault.TheVariants.{BadExec}
use Rattle.fault.specs.Answer.{Answer, ◌>>=◌, unless, then}
use Rattle.command.specs.Words.{Word, words, inside_length, word_length}
use Rattle.command.specs.Command.{Argument, Files, Icon, Text, argument_of, inside, pieces_of, pieces_fault, unfit, quoted_fault, word_fault, takes_files, has_piece, is_item, is_name, is_icon, words_fault, arguments_in, read_command}
use Rattle.command.specs.Step.{see_piece, see_pieces, see_argument, see_arguments, unless_fault, unseen, codes_in}
use Rattle.command.specs.declared.Piece.{Piece}
use Rattle.command.specs.declared.Piece.TheVariants as piece
use Rattle.command.specs.declared.Seen.{Seen}
use Rattle.command.proofs.Parting.{words_at, words-done, words-space, words-word, word-ends}

-- what an answer says of the fault
pub unless-given : (o : Option Fault) (s : Seen) {k : Seen} → Ok k ≡ unless_fault o s → (o ≡ None) × (k ≡ s)
unless-given None s e = (refl, cc)
unless-given (Some f) s e = no (cc)

pub unless-refused : (o : Option Fault) (s : Seen) {f : Fault} → Err f ≡ unless_fault o s → o ≡ Some f
unless-refused None s e = no (cc)
unless-refused (Some g) s e = cc

-- ---- a quoted word

module _ (program taken : Bool) (start : ℕ) (word : List ℕ) (seen : Seen) {n : ℕ} (e : n ≡ inside_length word) where
  abbrev w : Word
  w = record { start = start; bytes = word }

  -- the answer for a quoted word, and for what stands in its quotes
  abbrev whole : Answer Seen
  whole = unless_fault (quoted_fault program taken w) (see_pieces seen (pieces_of true (inside word)))

  abbrev found : Option Fault
  found = pieces_fault true program taken (take n (drop 1 word)) 0 (start + 1)

  abbrev codes : Seen
  codes = see_pieces seen (pieces_of true (take n (drop 1 word)))

  abbrev within : Answer Seen
  within = unless_fault found codes

  pub quoted-unfit : unfit program (length word) n ≡ true → Err (BadExec start) ≡ whole
  unfolding quoted_fault
  quoted-unfit u = rw (← e, u)

  module _ (u : unfit program (length word) n ≡ false) where
    pub quoted-refused : {f : Fault} → Err f ≡ within → Err f ≡ whole
    unfolding quoted_fault
    quoted-refused r = rw (← e, u, unless-refused found codes r)

    pub quoted-sound : {k : Seen} → Ok k ≡ within → eqb (length word) (n + 2) ≡ true → Ok k ≡ whole
    unfolding quoted_fault
    quoted-sound r z = let g = unless-given found codes r in rw (← e, u, g.0, z, g.1)

    pub quoted-behind : {k : Seen} → Ok k ≡ within → eqb (length word) (n + 2) ≡ false → Err (BadExec (start + n + 2)) ≡ whole
    unfolding quoted_fault
    quoted-behind r z = let g = unless-given found codes r in rw (← e, u, g.0, z)

-- ---- words

-- what was seen, and four answers more
abbrev also : Seen → Bool → Bool → Bool → Bool → Seen
also s t i n c = record { taken = t || s.taken; item = i || s.item; name = n || s.name; icon = c || s.icon }

pieces-seen : (s : Seen) (ps : List Piece) → see_pieces s ps ≡ also s (any is_item ps) (any is_item ps) (any is_name ps) false
unfolding see_pieces any
pieces-seen s [] = refl
pieces-seen s (p ∷ ps) = pieces-seen (see_piece s p) ps ∙ go p
  where
    go : (p : Piece)
        → also (see_piece s p) (any is_item ps) (any is_item ps) (any is_name ps) false
        ≡ also s (is_item p || any is_item ps) (is_item p || any is_item ps) (is_name p || any is_name ps) false
    go (piece.Byte b) = refl
    go piece.Item = rw (or-true (any is_item ps))
    go piece.Name = rw (or-true (any is_name ps))
    go piece.Location = refl
    go piece.Vanished = refl

argument-seen : (s : Seen) (a : Argument) → see_argument s a ≡ also s (takes_files a) (has_piece is_item a) (has_piece is_name a) (is_icon a)
argument-seen s Files = refl
argument-seen s Icon = refl
argument-seen s (Text q ps) = pieces-seen s ps

argument-taken : (s : Seen) (a : Argument) → (see_argument s a).taken ≡ (takes_files a || s.taken)
argument-taken s a = ap (λ (x : Seen). x.taken) (argument-seen s a)

arguments-seen : (s : Seen) (args : List Argument)
    → see_arguments s args ≡ also s (any takes_files args) (any (has_piece is_item) args) (any (has_piece is_name) args) (any is_icon args)
unfolding see_arguments any
arguments-seen s [] = refl
arguments-seen s (a ∷ args) =
    arguments-seen (see_argument s a) args
    ∙ rw (
      argument-seen s a,
      later (any takes_files args) (takes_files a) s.taken,
      later (any (has_piece is_item) args) (has_piece is_item a) s.item,
      later (any (has_piece is_name) args) (has_piece is_name a) s.name,
      later (any is_icon args) (is_icon a) s.icon,
    )
  where
    later : (u v x : Bool) → (u || (v || x)) ≡ ((v || u) || x)
    later true true x = refl
    later true false x = refl
    later false true x = refl
    later false false x = refl

-- all that is seen in some arguments
pub codes-seen : (args : List Argument) → see_arguments unseen args ≡ codes_in args
unfolding codes_in
codes-seen args =
    arguments-seen unseen args
    ∙ rw (or-false (any takes_files args), or-false (any (has_piece is_item) args), or-false (any (has_piece is_name) args), or-false (any is_icon args))

-- the answer for a whole command
pub command-answer : (s : List ℕ) → unless_fault (words_fault true false (words s)) (see_arguments unseen (arguments_in s)) ≡ then codes_in (read_command s)
unfolding read_command
command-answer s = rw (codes-seen (arguments_in s)) (go (words_fault true false (words s)))
  where
    go : (o : Option Fault) → unless_fault o (codes_in (arguments_in s)) ≡ then codes_in (unless o >>= λ _. Ok (arguments_in s))
    go None = refl
    go (Some f) = refl

-- the faults from the place on are all that can be found, and the codes there are all that were not seen
pub record Commanding (s : List ℕ) (i : ℕ) (program : Bool) (seen : Seen) : Type 0 where
  pub inside : i ≤ length s
  pub faults : words_fault program seen.taken (words_at s i) ≡ words_fault true false (words s)
  pub codes : see_arguments seen (map argument_of (words_at s i)) ≡ see_arguments unseen (arguments_in s)

pub commanding-start : {s : List ℕ} → Commanding s 0 true unseen
commanding-start = record { inside = omega arith; faults = refl; codes = refl }

module _ {s : List ℕ} {i : ℕ} {program : Bool} {seen : Seen} (w : Commanding s i program seen) where
  pub commanding-space : i < length s → get_or s i 0 ≡ 32 → Commanding s (i + 1) program seen
  commanding-space h b =
      record {
        inside = omega arith;
        faults = rw (← words-space s i h b) w.faults;
        codes = rw (← words-space s i h b) w.codes;
      }

  module _ (h : i < length s) {e : ℕ} (n : get_or s i 0 ≡ 32 → ⊥) (q : e ≡ i + word_length (drop i s)) where
    abbrev this : Word
    this = record { start = i; bytes = part i e s }

    abbrev fault : Option Fault
    fault = word_fault program seen.taken this

    abbrev known : Seen
    known = see_argument seen (argument_of this)

    abbrev said : Answer Seen
    said = unless_fault fault known

    pub commanding-refused : {f : Fault} → Err f ≡ said → Err f ≡ unless_fault (words_fault true false (words s)) (see_arguments unseen (arguments_in s))
    unfolding words_fault
    commanding-refused r = rw (← w.faults, words-word s i h n q, unless-refused fault known r)

    pub commanding-next : {k : Seen} → Ok k ≡ said → Commanding s e false k
    unfolding words_fault see_arguments
    commanding-next {k} r =
        let g = unless-given fault known r in
        let d = words-word s i h n q in
        record {
          inside = (word-ends s i h n q).1;
          faults = rw (g.1, argument-taken seen (argument_of this)) (rw (d, g.0) at w.faults);
          codes = rw g.1 (rw d at w.codes);
        }

pub commanding-none : {s : List ℕ} {i : ℕ} {seen : Seen} → Commanding s i true seen → length s ≤ i
    → Err (BadExec 0) ≡ unless_fault (words_fault true false (words s)) (see_arguments unseen (arguments_in s))
unfolding words_fault
commanding-none {s} {i} w h = rw (← w.faults, words-done s i h)

pub commanding-end : {s : List ℕ} {i : ℕ} {seen : Seen} → Commanding s i false seen → length s ≤ i
    → Ok seen ≡ unless_fault (words_fault true false (words s)) (see_arguments unseen (arguments_in s))
unfolding words_fault see_arguments
commanding-end {s} {i} w h = rw (← w.faults, ← w.codes, words-done s i h)
