-- What a C program sees of a call, from what the call answers and leaves. Assumes nothing.
use Rattle.std.specs.Prelude.{Ok, Err}
use mathlib.Core.Path.{◌≡◌, refl, sym, ap, ◌∙◌}
use Prim.Native.Nat.{ℕ}
use mathlib.Core.List.{List}
use Rattle.fault.specs.declared.Fault.{Fault}
use Rattle.fault.specs.Table.{number_of, place_of}
use Rattle.fault.specs.Answer.{Answer, then, at_exit}
use Rattle.entry.specs.declared.Ends.{Ends}
use Rattle.journal.specs.Lent.{Lent, lent, forget, Forgets}
use Rattle.journal.specs.declared.Forgot.{Forgot}
use Rattle.edit.specs.Calls.{State, Made, numbers_of}
use Rattle.edit.specs.declared.Edited.{Edited}
use Rattle.batch.specs.Batch as batch
use Rattle.batch.specs.Batch.{Batch}
use Rattle.batch.specs.declared.Batched.{Batched}
use Rattle.abi.proofs.NoByte.{forget-zero}
use Rattle.abi.specs.Abi.{code_of, place_in, byte_in, written_in, Returned, ReturnedNumber, ReturnedEnds, ReturnedNumbers, Called, CalledBatch, CalledOnJournal}

-- ---- the same is seen of equal answers

pub same-returned : {A : Type 0} {a b : Answer A} {code place byte : ℕ} → a ≡ b → Returned a code place byte → Returned b code place byte
same-returned e t = rw e at t

pub same_number : {a b : Answer ℕ} {code place byte number₀ number : ℕ} → a ≡ b → ReturnedNumber a code place byte number₀ number → ReturnedNumber b code place byte number₀ number
same_number e t = rw e at t

-- a call that tells no byte is one whose byte is 0
pub same-no-byte : {a b : Answer ℕ} {code place byte number₀ number : ℕ} → a ≡ b → byte_in b ≡ 0 → ReturnedNumber a code place byte number₀ number → ReturnedNumber b code place 0 number₀ number
same-no-byte e z t =
    let r = same_number e t in
    let q = r.returned in
    record { returned = record { code_is = q.code_is; place_is = q.place_is; byte_is = sym z }; number_is = r.number_is }

pub same_ends : {a b : Answer Ends} {code place byte from₀ from to₀ to : ℕ} → a ≡ b → ReturnedEnds a code place byte from₀ from to₀ to → ReturnedEnds b code place byte from₀ from to₀ to
same_ends e t = rw e at t

-- ---- a call that edits

-- an answer's numbers tell the same code, place and byte
code-told : (a : Answer State) → code_of (then numbers_of a) ≡ code_of a
code-told (Ok s) = refl
code-told (Err f) = refl

place-told : (a : Answer State) → place_in (then numbers_of a) ≡ place_in a
place-told (Ok s) = refl
place-told (Err f) = refl

byte-told : (a : Answer State) → byte_in (then numbers_of a) ≡ byte_in a
byte-told (Ok s) = refl
byte-told (Err f) = refl

size-told : (s : State) (a : Answer State) → written_in (λ n. n.size) (then numbers_of a) s.size ≡ (at_exit s a).size
size-told s (Ok t) = refl
size-told s (Err f) = refl

used-told : (s : State) (a : Answer State) → written_in (λ n. n.used) (then numbers_of a) s.used ≡ (at_exit s a).used
used-told s (Ok t) = refl
used-told s (Err f) = refl

standing-told : (s : State) (a : Answer State) → written_in (λ n. n.standing) (then numbers_of a) s.standing ≡ (at_exit s a).standing
standing-told s (Ok t) = refl
standing-told s (Err f) = refl

pub called : {s : State} {a : Answer State} {e : Answer Edited} {code place byte size used standing : ℕ} {file journal : List ℕ} → Made s a e file journal
    → ReturnedNumbers e code place byte s.size size s.used used s.standing standing → Called s a code place byte size used standing file journal
called {s} {a} {e} {code} {place} {byte} {size} {used} {standing} m t =
    let n : ReturnedNumbers (then numbers_of a) code place byte s.size size s.used used s.standing standing = rw m.answer at t in
    record {
      returned = record { code_is = n.returned.code_is ∙ code-told a; place_is = n.returned.place_is ∙ place-told a; byte_is = n.returned.byte_is ∙ byte-told a };
      size_is = n.size_is ∙ size-told s a;
      used_is = n.used_is ∙ used-told s a;
      standing_is = n.standing_is ∙ standing-told s a;
      file_is = m.file_is;
      journal_is = m.journal_is;
    }

-- ---- many requests

pub called_batch : {b : Batch} {r : Batched} {code place byte done size used standing : ℕ} {file journal : List ℕ} → batch.Made b r file journal
    → ((file journal : List ℕ) → CalledBatch (batch.batch_of r file journal) code place byte done size used standing file journal)
    → CalledBatch b code place byte done size used standing file journal
called_batch {file = file} {journal = journal} m t = rw m.is at (t file journal)

-- ---- forgetting

module _ {s : Lent} {k : ℕ} {journal : List ℕ} where
  pub forgot-done : {n : Forgot} → Forgets s k (Ok n) journal → CalledOnJournal s (forget s k) 0 0 (lent journal n.used n.standing)
  forgot-done m = rw (← m.answer) (record { returned = record { code_is = refl; place_is = refl; byte_is = refl }; left = refl })

  pub forgot-refused : {f : Fault} {code place : ℕ} → Forgets s k (Err f) journal → code ≡ number_of f → place ≡ place_of f
      → CalledOnJournal s (forget s k) code place (lent journal s.used s.standing)
  forgot-refused m c p =
      let e = m.answer in
      record { returned = record { code_is = c ∙ ap code_of e; place_is = p ∙ ap place_in e; byte_is = sym (forget-zero s k) }; left = rw (← e, m.journal_is, ← e) }
