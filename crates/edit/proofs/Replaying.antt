-- An edit from the journal: what its result is, step by step. Assumes nothing.
use Rattle.std.specs.Prelude.{Ok, Err, is_ok}
use mathlib.Core.Path.{◌≡◌, refl, sym, ap, ◌∙◌}
use mathlib.Core.Bool.{true, false}
use mathlib.Core.List.{List}
use Prim.Native.Nat.{ℕ, ◌+◌, ◌-◌, ◌≤◌, ◌<◌}
use native.Mathlib.Omega.{arith}
use lib.ListN.{length, take}
use lib.Dec.{leb}
use borrow.Author.Tests.{le-leb, lt-leb, leb-true}
use Rattle.base.specs.Lists.{same, part}
use Rattle.base.specs.Over.{over}
use Rattle.base.proofs.Tests.{no, and_both}
use Rattle.fault.specs.declared.Fault.{Fault}
use Rattle.fault.specs.declared.Fault.TheVariants.{Damaged, NoRoom}
use Rattle.fault.specs.Answer.{Answer, ◌>>=◌, need, then, accepted}
use Rattle.fault.proofs.Answers.{need-given}
use Rattle.rows.specs.Title.{desktop_entry}
use Rattle.wellformed.specs.Check.{check}
use Rattle.wellformed.specs.WellFormed.{well_formed, CheckAccepts}
use Rattle.wellformed.proofs.Accepts.{check-accepts}
use Rattle.splice.specs.Edit.{Edit, replaced, spliced, stands_at, stands, buffer_with}
use Rattle.splice.proofs.Built.{replaced-length, built}
use Rattle.edit.specs.Calls.{file_fits, replayed_in}
use Rattle.edit.specs.Step.{became}

-- an answer that is no refusal is accepted
ok_accepted : {A : Type 0} (a : Answer A) → is_ok a ≡ accepted a
ok_accepted (Ok x) = refl
ok_accepted (Err f) = refl

-- the check of a file that was copied to a space and edited there
pub built-checked : (space file new : List ℕ) (place old : ℕ) → place + old ≤ length file → {s t : List ℕ}
    → s ≡ over space 0 file
    → t ≡ buffer_with s (length file) (replaced place old new (take (length file) s))
    → {a : Answer (Unit {0})}
    → a ≡ check (take (length file - old + length new) t)
    → is_ok a ≡ well_formed (replaced place old new file)
unfolding CheckAccepts
built-checked space file new place old h {s} {t} e f {a} g =
    let b : take (length file - old + length new) t ≡ replaced place old new file = rw (f, e) (built space file new place old _ h refl) in
    ok_accepted a ∙ ap accepted (rw b at g) ∙ check-accepts desktop_entry (replaced place old new file)

-- ---- what is decided before anything is changed

pub stands-inside : (place : ℕ) (old file : List ℕ) → stands_at place old file ≡ true → place + length old ≤ length file
unfolding stands_at
stands-inside place old file h =
    leb-true (place + length old) (length file) (and_both (leb (place + length old) (length file)) (same (part place (place + length old) file) old) h).0

-- the length of an edit's result
abbrev pub length_after : List ℕ → Edit → ℕ
length_after file e = length file - length e.old + length e.new

module _ (room : ℕ) (file : List ℕ) (e : Edit) where
  pub not_there : stands_at e.place e.old file ≡ false → Err Damaged ≡ then length (replayed_in room file e)
  unfolding replayed_in stands
  not_there h = rw h

  module _ (h : stands_at e.place e.old file ≡ true) where
    spliced-length : length (spliced e file) ≡ length_after file e
    unfolding spliced
    spliced-length = replaced-length e.place (length e.old) e.new file (stands-inside e.place e.old file h)

    pub over-room : room < length_after file e → Err NoRoom ≡ then length (replayed_in room file e)
    unfolding replayed_in stands
    over-room k = let l = spliced-length in rw (h, lt-leb (length (spliced e file)) room (omega arith))

    module _ (m : length_after file e ≤ room) where
      pub over-most : 32768 < length_after file e → Err NoRoom ≡ then length (replayed_in room file e)
      unfolding replayed_in stands
      over-most k =
          let l = spliced-length in
          rw (h, le-leb (length (spliced e file)) room (omega arith), lt-leb (length (spliced e file)) 32768 (omega arith))

      module _ (k : length_after file e ≤ 32768) where
        fits : file_fits room (spliced e file) ≡ true
        fits = let l = spliced-length in rw (le-leb (length (spliced e file)) room (omega arith), le-leb (length (spliced e file)) 32768 (omega arith))

        pub ill-formed : false ≡ well_formed (replaced e.place (length e.old) e.new file) → Err Damaged ≡ then length (replayed_in room file e)
        unfolding replayed_in stands spliced
        ill-formed w = rw (h, fits, ← w)

        pub made : true ≡ well_formed (replaced e.place (length e.old) e.new file) → Ok (length_after file e) ≡ then length (replayed_in room file e)
        unfolding replayed_in stands spliced
        made w = rw (h, fits, ← w, ← spliced-length)

-- ---- what was decided

-- an edit that can be made: its old bytes stand in the file, and there is room for the result
pub record Makes (room : ℕ) (file : List ℕ) (e : Edit) : Type 0 where
  pub inside : e.place + length e.old ≤ length file
  pub room_for : length_after file e ≤ room
  pub is : replayed_in room file e ≡ Ok (replaced e.place (length e.old) e.new file)

then-given : {A B : Type 0} (h : A → B) (x : Answer A) (b : B) → Ok b ≡ then h x → (a : A) × (x ≡ Ok a)
then-given h (Ok a) b e = (a, refl)
then-given h (Err f) b e = no (cc)

pub makes : (room : ℕ) (file : List ℕ) (e : Edit) (n : ℕ) → Ok n ≡ then length (replayed_in room file e) → Makes room file e
unfolding replayed_in stands spliced
makes room file e n h =
    let f : List ℕ = spliced e file in
    let last : Answer (List ℕ) = need (well_formed f) Damaged >>= λ _. Ok f in
    let g = then-given length (replayed_in room file e) n h in
    let a = need-given (stands e file) Damaged (λ _. need (file_fits room f) NoRoom >>= λ _. last) g.0 g.1 in
    let b = need-given (file_fits room f) NoRoom (λ _. last) g.0 a.1 in
    let d = need-given (well_formed f) Damaged (λ _. Ok f) g.0 b.1 in
    let r = leb-true (length f) room (and_both (leb (length f) room) (leb (length f) 32768) b.0).0 in
    record {
      inside = stands-inside e.place e.old file a.0;
      room_for = omega (arith, r, spliced-length room file e a.0);
      is = g.1 ∙ sym d.1;
    }

-- a refusal leaves the buffer
pub unmade : (buffer : List ℕ) (size room : ℕ) (file : List ℕ) (e : Edit) {f : Fault}
    → Err f ≡ then length (replayed_in room file e)
    → buffer ≡ became buffer size (replayed_in room file e)
unmade buffer size room file e {f} = go (replayed_in room file e)
  where
    go : (a : Answer (List ℕ)) → Err f ≡ then length a → buffer ≡ became buffer size a
    go (Ok g) h = no (cc)
    go (Err g) h = refl
