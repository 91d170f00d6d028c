-- A batch is the single calls tried, and the number done is by how many the standing records grew. Assumes nothing.
use Rattle.std.specs.Prelude.{Some, None, Ok, Err}
use mathlib.Core.Path.{◌≡◌, refl, sym, ap, ◌∙◌}
use Prim.Native.Nat.{ℕ, suc, ◌+◌}
use native.Mathlib.Omega.{arith}
use mathlib.Core.List.{List, [], ◌∷◌, ◌++◌}
use lib.ListN.{length}
use Rattle.base.proofs.Tests.{no}
use Rattle.fault.specs.declared.Fault.{Fault}
use Rattle.fault.specs.Answer.{Answer, unless, at_exit}
use Rattle.change.specs.Change.{Request}
use Rattle.journal.specs.Journal.{Author, by, Journal}
use Rattle.edit.specs.Calls.{State, opened, request}
use Rattle.edit.proofs.Requested.{request-stands}
use Rattle.batch.specs.Batch.{Batch, nothing, one_more, after, in_turn, listed, begun, batch}
use Rattle.demands.specs.Book.{Call}
use Rattle.demands.specs.Demand3.{state_call, Told, Accepted, Refused, told, told_over, left_by}
use Rattle.demands.specs.Batches.{each_told, batch_told, tried, read, unread, AsTheCalls, BatchIsCalls, BatchDoesAll, BatchRefusedAtFirst, BatchGrew}

-- ---- calls in turn

-- one of them
pub single-call : {s t : State} {c : Call} {x : Told} → x ≡ told (state_call s c) → t ≡ at_exit s (state_call s c) → AsTheCalls s (c ∷ []) (x ∷ []) t
unfolding told_over left_by
single-call e f = record { tells = rw e; leaves = f }

-- some, and then others
pub more-calls : {s t u : State} {cs ds : List Call} {xs ys : List Told} → AsTheCalls s cs xs t → AsTheCalls t ds ys u → AsTheCalls s (cs ++ ds) (xs ++ ys) u
unfolding told_over left_by
more-calls {s} {cs = cs} {ds = ds} v w =
    record {
      tells = rw (v.tells, w.tells, v.leaves) (sym (told-append cs s));
      leaves = w.leaves ∙ ap (λ (t : State). left_by state_call t ds) v.leaves ∙ sym (left-append cs s);
    }
  where
    told-append : (cs : List Call) (s : State) → told_over state_call s (cs ++ ds) ≡ told_over state_call s cs ++ told_over state_call (left_by state_call s cs) ds
    told-append [] s = refl
    told-append (c ∷ cs) s = ap (λ (ts : List Told). told (state_call s c) ∷ ts) (told-append cs (at_exit s (state_call s c)))

    left-append : (cs : List Call) (s : State) → left_by state_call s (cs ++ ds) ≡ left_by state_call (left_by state_call s cs) ds
    left-append [] s = refl
    left-append (c ∷ cs) s = left-append cs (at_exit s (state_call s c))

-- ---- the single calls of a batch

-- what holds of no request, of a refused one, and of one more that is done, holds of requests in turn
module _ (author : Author) (Holds : List Request → State → Batch → Type 0) (of_none : (s : State) → Holds [] s (nothing s None))
    (of-refused : (q : Request) (qs : List Request) (s : State) (f : Fault) → request s (by author q) ≡ Err f → Holds (q ∷ qs) s (nothing s (Some f)))
    (of-done : (q : Request) (qs : List Request) (s t : State) (b : Batch) → request s (by author q) ≡ Ok t → Holds qs t b → Holds (q ∷ qs) s (one_more b)) where
  pub in-turn : (qs : List Request) (s : State) → Holds qs s (in_turn author qs s)
  unfolding in_turn
  in-turn [] s = of_none s
  in-turn (q ∷ qs) s = go (request s (by author q)) refl (in-turn qs)
    where
      go : (a : Answer State) → request s (by author q) ≡ a → ((t : State) → Holds qs t (in_turn author qs t)) → Holds (q ∷ qs) s (after s a (in_turn author qs))
      go (Err f) e h = of-refused q qs s f e
      go (Ok t) e h = of-done q qs s t (in_turn author qs t) e (h t)

-- one more is told of
one_more_lem : (n : ℕ) (t : Told) → each_told (suc n) t ≡ Accepted ∷ each_told n t
one_more_lem n Accepted = refl
one_more_lem n (Refused number place byte) = refl

pub batch-is-calls : BatchIsCalls
unfolding BatchIsCalls batch told_over left_by
batch-is-calls s author list _ _ (read {qs} h) =
    rw h
    (in-turn author (λ qs s b. AsTheCalls s (tried author qs (batch_told b)) (batch_told b) b.state)
    (λ s. record { tells = refl; leaves = refl })
    (λ q qs s f e. single-call (ap told (sym e)) (ap (at_exit s) (sym e)))
    (λ q qs s t b e w.
    rw (one_more_lem b.done (told (unless b.stopped)))
    (more-calls (single-call (ap told (sym e)) (ap (at_exit s) (sym e))) w))
    qs s)
batch-is-calls s author list _ _ (unread h) = rw h (record { tells = refl; leaves = refl })

pub batch-does-all : BatchDoesAll
unfolding BatchDoesAll batch
batch-does-all s author list qs h =
    rw h
    (in-turn author (λ qs s b. b.stopped ≡ None → b.done ≡ length qs) (λ s i. refl) (λ q qs s f e i. no (cc)) (λ q qs s t b e w i. ap suc (w i)) qs s)

pub batch-refused-at-first : BatchRefusedAtFirst
unfolding BatchRefusedAtFirst batch
batch-refused-at-first s author list f h = rw h

-- ---- how many more stand

-- what is left opens again, and so many more stand
abbrev Grew : Batch → Journal → Type 0
Grew b j = (k : Journal) × (opened b.state ≡ Ok k) × (length k.stand ≡ length j.stand + b.done)

pub batch-grew : BatchGrew
unfolding BatchGrew batch
batch-grew s author list j p h = go (listed s list)
  where
    go : (a : Answer (List Request)) → Grew (begun s author a) j
    go (Err f) = (j, h, omega arith)
    go (Ok qs) =
        in-turn author (λ qs s b. (j : Journal) → opened s ≡ Ok j → Grew b j)
        (λ s j h. (j, h, omega arith))
        (λ q qs s f e j h. (j, h, omega arith))
        (λ q qs s t b e w j h.
        let r = request-stands s t (by author q) j p h e in
        let k = w (record { stand = by author r.0 ∷ j.stand; wait = [] }) r.1 in
        (k.0, k.1, omega (arith, k.2)))
        qs s j h
