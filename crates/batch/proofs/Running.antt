-- The requests of a list in turn: those before a place are done, and those from there on decide. Assumes nothing.
use Rattle.std.specs.Prelude.{Option, Some, None, Ok, Err}
use mathlib.Core.Path.{◌≡◌, refl, sym, ap, ◌∙◌}
use Prim.Native.Nat.{ℕ, suc, ◌+◌, ◌≤◌, ◌<◌}
use native.Mathlib.Omega.{arith}
use mathlib.Core.Bool.{Bool, true, false}
use mathlib.Core.List.{List, [], ◌∷◌, map}
use lib.ListN.{length, drop}
use lib.Dec.{leb}
use Rattle.base.specs.Choice.{pick, there}
use Rattle.base.specs.Lists.{part}
use Rattle.base.proofs.Tests.{no, some-there, none-there, mapped}
use Rattle.fault.specs.declared.Fault.{Fault}
use Rattle.fault.specs.declared.Fault.TheVariants.{Damaged}
use Rattle.fault.specs.Answer.{Answer, ◌>>=◌, some_or}
use Rattle.record.specs.Record.{whole, read_records}
use Rattle.record.proofs.Place.{Stands}
use Rattle.record.proofs.Each.{each-done, each-damaged, each_step, at_none, at-record}
use Rattle.requests.specs.Requests.{Asked, read_request, read_requests}
use Rattle.journal.specs.Journal.{Author, by, person_of, Journal}
use Rattle.edit.specs.Calls.{State, opened, request, lent}
use Rattle.edit.specs.Step.{passed}
use Rattle.edit.specs.Calls as edit
use Rattle.edit.specs.declared.Edited.{Edited}
use Rattle.edit.proofs.Applying.{was-opened, made-done, made-refused}
use Rattle.edit.proofs.Requested.{request-stands}
use Rattle.batch.specs.Batch.{request_of, listed, Batch, nothing, after, in_turn, begun, batch}
use Rattle.batch.specs.Step.{MadeOf}

-- so many done before
abbrev behind : ℕ → Batch → Batch
behind n b = record { done = n + b.done; stopped = b.stopped; state = b.state }

-- the requests before a place are done, so many, and left t; those from there on decide
pub record Running (s : State) (author : Author) (list : List ℕ) (at n : ℕ) (t : State) : Type 0 where
  pub inside : at ≤ length list
  pub few : n ≤ at
  pub left : List Asked
  pub reads : read_records read_request (drop at list) ≡ Some left
  pub journal : Journal
  pub opens : opened t ≡ Ok journal
  pub same : batch s author list ≡ behind n (in_turn author (map request_of left) t)

-- ---- at first

opened_some : (a : Answer Journal) → Ok tt ≡ passed a → (j : Journal) × (a ≡ Ok j)
opened_some (Ok j) e = (j, refl)
opened_some (Err f) e = no (cc)

requests-within : (list : List ℕ) {xs : List Asked} → read_requests list ≡ Some xs → read_records read_request list ≡ Some xs
unfolding read_requests
requests-within list {xs} = go (leb (length list) 65536)
  where
    go : (t : Bool) → pick t (read_records read_request list) None ≡ Some xs → read_records read_request list ≡ Some xs
    go true e = e
    go false e = no (cc)

-- a list that is read, once file and journal are opened
begins : (s : State) (author : Author) (list : List ℕ) (j : Journal) (xs : List Asked) → opened s ≡ Ok j → read_requests list ≡ Some xs
    → batch s author list ≡ behind 0 (in_turn author (map request_of xs) s)
unfolding batch listed
begins s author list j xs e h = rw (e, h) (none_before (in_turn author (map request_of xs) s))
  where
    none_before : (b : Batch) → b ≡ behind 0 b
    none_before b = let z : b.done ≡ 0 + b.done = omega arith in λ i. record { done = z i; stopped = b.stopped; state = b.state }

pub run-begin : (s : State) (author : Author) (list : List ℕ) → Ok tt ≡ passed (opened s) → there (read_requests list) ≡ true → Running s author list 0 0 s
run-begin s author list e h =
    let o = opened_some (opened s) e in
    let x = some-there (read_requests list) h in
    record {
      inside = omega arith;
      few = omega arith;
      left = x.0;
      reads = requests-within list x.1;
      journal = o.0;
      opens = o.1;
      same = begins s author list o.0 x.0 o.1 x.1;
    }

-- ---- further

module _ {s : State} {author : Author} {list : List ℕ} {at n : ℕ} {t : State} (w : Running s author list at n t) where
  pub run-damaged {ℓ} : {X : Type ℓ} → at < length list → whole (drop at list) ≡ false → X
  run-damaged h e = let z = each-damaged read_request list at h (at_none read_request list at e) in let r = w.reads in no (cc)

  pub run-done : length list ≤ at → record { done = n; stopped = None; state = t } ≡ batch s author list
  unfolding in_turn
  run-done h =
      let r = w.reads in
      let z : w.left ≡ [] = cc (each-done read_request list at h) in
      let k : n + 0 ≡ n = omega arith in
      sym (w.same ∙ rw (z, k))

  module _ {kind end : ℕ} (r : Stands list at kind end) where
    -- the request of the record that stands at the place
    record Here : Type 0 where
      asked : Asked
      reads_here : read_request (record { kind = kind; body = part (at + 6) end list }) ≡ Some asked
      others : List Asked
      left_is : w.left ≡ asked ∷ others
      reads-others : read_records read_request (drop end list) ≡ Some others

    here : Here
    here = go (read_request (record { kind = kind; body = part (at + 6) end list })) refl
      where
        go : (o : Option Asked) → read_request (record { kind = kind; body = part (at + 6) end list }) ≡ o → Here
        go None e =
            let z = each-damaged read_request list at (omega arith) (at-record read_request list at r ∙ e) in
            let q = w.reads in
            no (cc)
        go (Some a) e =
            let z = each_step read_request list at (at-record read_request list at r ∙ e) in
            let x = mapped (λ xs. a ∷ xs) (read_records read_request (drop end list)) (rw (← r.ends) at (sym z ∙ w.reads)) in
            record { asked = a; reads_here = e; others = x.0; left_is = sym x.2; reads-others = x.1 }

    module _ {e : Answer Edited} {file journal : List ℕ} (m : MadeOf kind (part (at + 6) end list) author t.file t.size t.journal t.standing e file journal) where
      -- it is made as the single call would make it
      single : edit.Made t (request t (by author (request_of here.asked))) e file journal
      single = was-opened t (by author (request_of here.asked)) (rw w.opens) (m here.asked here.reads_here)

      turn : batch s author list ≡ behind n (after t (request t (by author (request_of here.asked))) (in_turn author (map request_of here.others)))
      unfolding in_turn
      turn = w.same ∙ ap (λ (xs : List Asked). behind n (in_turn author (map request_of xs) t)) here.left_is

    pub run-stopped : {f : Fault} {file journal : List ℕ}
        → MadeOf kind (part (at + 6) end list) author t.file t.size t.journal t.standing (Err f) file journal
        → record { done = n; stopped = Some f; state = lent file t.size journal t.used t.standing } ≡ batch s author list
    run-stopped {f} {file} {journal} m =
        let x = made-refused (single m) in
        let k : n ≡ n + 0 = omega arith in
        let y : behind n (after t (request t (by author (request_of here.asked))) (in_turn author (map request_of here.others))) ≡ behind n (nothing t (Some f)) = rw x.0 in
        let z : record { done = n; stopped = Some f; state = lent file t.size journal t.used t.standing } ≡ behind n (nothing t (Some f)) =
        λ i. record { done = k i; stopped = Some f; state = lent (x.1 i) t.size (x.2 i) t.used t.standing } in
        z ∙ sym (turn m ∙ y)

    pub run-next : person_of author < 65536 → {next : Edited} {file journal : List ℕ}
        → MadeOf kind (part (at + 6) end list) author t.file t.size t.journal t.standing (Ok next) file journal
        → Running s author list end (n + 1) (lent file next.size journal next.used next.standing)
    run-next p {next} {file} {journal} m =
        let u : State = lent file next.size journal next.used next.standing in
        let x = made-done (single m) in
        let o = request-stands t u (by author (request_of here.asked)) w.journal p w.opens x in
        let rest : Batch = in_turn author (map request_of here.others) u in
        let k : n + suc rest.done ≡ n + 1 + rest.done = omega arith in
        let y : behind n (after t (request t (by author (request_of here.asked))) (in_turn author (map request_of here.others))) ≡ record { done = n + suc rest.done; stopped = rest.stopped; state = rest.state } = rw x in
        record {
          inside = r.inside;
          few = omega (arith, r.head-inside, w.few);
          left = here.others;
          reads = here.reads-others;
          journal = record { stand = by author o.0 ∷ w.journal.stand; wait = [] };
          opens = o.1;
          same = turn m ∙ y ∙ (λ i. record { done = k i; stopped = rest.stopped; state = rest.state });
        }

-- ---- nothing done

module _ (s : State) (author : Author) (list : List ℕ) where
  -- lengths, file or journal
  pub not_opened : {f : Fault} → Err f ≡ passed (opened s) → nothing s (Some f) ≡ batch s author list
  unfolding batch listed
  not_opened {f} e = go (opened s) e
    where
      go : (a : Answer Journal) → Err f ≡ passed a
          → nothing s (Some f) ≡ begun s author (a >>= λ _. (some_or (read_requests list) Damaged >>= λ asked. Ok (map request_of asked)))
      go (Ok j) h = no (cc)
      go (Err g) h = let z : f ≡ g = cc in rw z

  -- the list
  pub not-read : Ok tt ≡ passed (opened s) → there (read_requests list) ≡ false → nothing s (Some Damaged) ≡ batch s author list
  unfolding batch listed
  not-read e h = rw ((opened_some (opened s) e).1, none-there (read_requests list) h)
