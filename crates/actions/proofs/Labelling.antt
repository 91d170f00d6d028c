-- The records of the listed actions: what they take, and how they are written one after another. Assumes nothing.
use Rattle.std.specs.Prelude.{Option, Some, None, Ok, Err}
use mathlib.Core.Path.{◌≡◌, refl, sym, ap, ◌∙◌}
use Prim.Native.Nat.{ℕ, ◌+◌, ◌-◌, ◌≤◌, ◌<◌}
use native.Mathlib.Nat.{add-zero}
use native.Mathlib.Omega.{arith}
use mathlib.Core.Bool.{true, false, not, false≢true}
use mathlib.Core.List.{List, [], ◌∷◌, ◌++◌, append-nil}
use lib.ListN.{length, take, drop, length-append, take-append-drop}
use Rattle.base.specs.Choice.{maybe}
use Rattle.base.specs.Lists.{ascii, same, part, any}
use Rattle.base.specs.Over.{over, at_front}
use Rattle.base.proofs.Fill.{Fill, fill_start, fill-length, fill-as, fill-over, fill_end}
use Rattle.base.proofs.Lists.{length_part}
use Rattle.base.proofs.Over.{length_over, over-then}
use Rattle.base.proofs.Tests.{no, and_both, some-there}
use Rattle.fault.specs.declared.Fault.{Fault}
use Rattle.fault.specs.declared.Fault.TheVariants.{Missing, NoRoom}
use Rattle.fault.specs.Answer.{Answer, ◌>>=◌, some_or, then, accepted}
use Rattle.record.specs.Record.{Rec, record_length, record_bytes, list_of}
use Rattle.record.proofs.Sizes.{length-record, list-of-cons, list-of-append}
use Rattle.text.specs.Escape.{read_text}
use Rattle.text.specs.Element.{raw_elements}
use Rattle.text.specs.Step.{text_of, elements_in, spend, element_length}
use Rattle.text.proofs.Elements.{split}
use Rattle.text.proofs.OutputLaws.{Leaves, leaves-refused, leaves-full, leaves-written}
use Rattle.text.proofs.RoomLaws.{spend-zero, spend-add, spend-was, spend-lacks}
use Rattle.rows.specs.Rows.{Row, read_rows, raw_value}
use Rattle.choice.specs.Locale.{chosen}
use Rattle.entry.specs.Choose.{chosen_ends}
use Rattle.entry.proofs.Lookups.{chosen-stands}
use Rattle.exec.specs.Expand.{name_in}
use Rattle.run.proofs.Listing.{list-none, length-cons}
use Rattle.actions.specs.Actions.{action_group, is_action, listed_from, labelled}
use Rattle.actions.specs.Step.{elements, is_listed_at, listed_at, spend_list}
use Rattle.actions.proofs.Elements.{Parted, parted-start, parted-next, seen_next, elements-done}
use Rattle.actions.proofs.Listing.{listed_next, action-labelled}

-- ---- one answer and then another

abbrev joint : Answer (List (List ℕ)) → Answer (List (List ℕ)) → Answer (List (List ℕ))
joint a b = a >>= λ xs. (b >>= λ ys. Ok (xs ++ ys))

joint-none : (b : Answer (List (List ℕ))) → b ≡ joint (Ok []) b
joint-none (Ok ys) = refl
joint-none (Err f) = refl

joint-given : (a b : Answer (List (List ℕ))) → accepted (joint a b) ≡ true
    → (accepted a ≡ true) × (accepted b ≡ true) × (elements_in (joint a b) ≡ elements_in a ++ elements_in b)
joint-given (Err f) b e = absurd (false≢true e)
joint-given (Ok xs) (Err f) e = absurd (false≢true e)
joint-given (Ok xs) (Ok ys) e = (refl, refl, refl)

-- what was spent for the first is spent
joint-spent : (room : Option ℕ) (a b : Answer (List (List ℕ))) {rest : Option ℕ} → Ok rest ≡ then (spend_list room) a → then (spend_list room) (joint a b) ≡ then (spend_list rest) b
joint-spent room (Err f) b e = no (cc)
joint-spent room (Ok xs) (Err f) e = refl
joint-spent room (Ok xs) (Ok ys) {rest} e =
    let z : rest ≡ spend_list room xs = cc in
    rw (z, list-of-append 2 xs ys, length-append (list_of 2 xs) (list_of 2 ys)) (ap Ok (sym (spend-add room (length (list_of 2 xs)) (length (list_of 2 ys)))))

joint-wrong : (room : Option ℕ) (a b : Answer (List (List ℕ))) {f : Fault} → Err f ≡ then (spend_list room) a → then (spend_list room) (joint a b) ≡ Err f
joint-wrong room (Ok xs) b e = no (cc)
joint-wrong room (Err g) b e = sym e

module _ (rs : List Row) (locale : List ℕ) where
  labelled-none : labelled rs locale [] ≡ Ok []
  unfolding labelled
  labelled-none = refl

  labelled-append : (xs ys : List (List ℕ)) → labelled rs locale (xs ++ ys) ≡ joint (labelled rs locale xs) (labelled rs locale ys)
  unfolding labelled
  labelled-append [] ys = joint-none (labelled rs locale ys)
  labelled-append (x ∷ xs) ys = rw (labelled-append xs ys) (go (name_in rs (action_group x) locale) (labelled rs locale xs) (labelled rs locale ys))
    where
      go : (n : Answer (List ℕ)) (a b : Answer (List (List ℕ)))
          → (n >>= λ l. (joint a b >>= λ later. Ok (x ∷ l ∷ later))) ≡ joint (n >>= λ l. (a >>= λ later. Ok (x ∷ l ∷ later))) b
      go (Err f) a b = refl
      go (Ok l) (Err f) b = refl
      go (Ok l) (Ok xs) (Err f) = refl
      go (Ok l) (Ok xs) (Ok ys) = refl

  -- ---- one action

  -- the raw value of its label
  abbrev pub label_value : List ℕ → List ℕ
  label_value group = maybe (chosen rs group (ascii "Name") locale) [] raw_value

  -- an action's label is there: only its text can be refused
  label-read : (id : List ℕ) → is_action rs id ≡ true → name_in rs (action_group id) locale ≡ read_text (label_value (action_group id))
  label-read id h = let w = some-there (chosen rs (action_group id) (ascii "Name") locale) (action-labelled rs locale id h) in rw w.1

  one-given : (id : List ℕ) (a : Answer (List ℕ)) → name_in rs (action_group id) locale ≡ a → labelled rs locale (id ∷ []) ≡ then (λ t. id ∷ t ∷ []) a
  unfolding labelled
  one-given id (Ok t) e = rw e
  one-given id (Err f) e = rw e

  -- its identifier and its label's text
  pub one-labelled : (id : List ℕ) → is_action rs id ≡ true → labelled rs locale (id ∷ []) ≡ then (λ t. id ∷ t ∷ []) (read_text (label_value (action_group id)))
  one-labelled id h = one-given id (read_text (label_value (action_group id))) (label-read id h)

  -- both records, spent one part after another
  spend-pair : (room : Option ℕ) (id t : List ℕ) → spend (spend (spend room 12) (length id)) (length t) ≡ spend_list room (id ∷ t ∷ [])
  spend-pair room id t =
      let n : 12 + length id + length t ≡ length (list_of 2 (id ∷ t ∷ [])) = omega (arith, length-cons 2 id (t ∷ []), length-cons 2 t [], ap length (list-none 2)) in
      spend-add (spend room 12) (length id) (length t) ∙ spend-add room 12 (length id + length t) ∙ ap (spend room) (omega (arith, n))

  pair_left : (room : Option ℕ) (id : List ℕ) (a : Answer (List ℕ)) {n : ℕ} → Ok n ≡ then length a
      → Ok (spend (spend (spend room 12) (length id)) n) ≡ then (spend_list room) (then (λ t. id ∷ t ∷ []) a)
  pair_left room id (Err f) w = no (cc)
  pair_left room id (Ok t) {n} w = let z : n ≡ length t = cc in rw z (ap Ok (spend-pair room id t))

  -- ---- the element at a place, if it is listed

  module _ (raw : List ℕ) (i e : ℕ) where
    abbrev here : Answer (List (List ℕ))
    here = labelled rs locale (listed_at rs raw i e)

    pub left_out : is_listed_at rs raw i e ≡ false → (room : Option ℕ) → Ok room ≡ then (spend_list room) here
    left_out f room = rw (f, labelled-none, list-none 2) (ap Ok (sym (spend-zero room)))

    pub nothing_put : is_listed_at rs raw i e ≡ false → (out : List ℕ) (at : ℕ)
        → (at ≡ at + length (list_of 2 (elements_in here))) × (out ≡ over out at (list_of 2 (elements_in here)))
    nothing_put f out at = rw (f, labelled-none, list-none 2, add-zero at) (refl, sym (take-append-drop at out))

    module _ (h : is_listed_at rs raw i e ≡ true) where
      abbrev label : Answer (List ℕ)
      label = read_text (label_value (action_group (part i e raw)))

      pub here-is : here ≡ then (λ t. part i e raw ∷ t ∷ []) label
      here-is = rw h (one-labelled (part i e raw) (and_both (is_action rs (part i e raw)) (not (any (same (part i e raw)) (elements (take i raw)))) h).0)

      pub label-wrong : {f : Fault} (room : Option ℕ) → label ≡ Err f → Err f ≡ then (spend_list room) here
      label-wrong room w = rw (here-is, w)

      pub label-left : (room : Option ℕ) {n m : ℕ} {l k rest : Option ℕ} → e ≤ length raw → m ≡ e - i → Ok n ≡ then length label
          → l ≡ spend room 12 → k ≡ spend l m → rest ≡ spend k n → Ok rest ≡ then (spend_list room) here
      label-left room {m = m} b c w x y z =
          let own : m ≡ length (part i e raw) = c ∙ sym (length_part i e raw b) in
          rw (here-is, z, y, x, own) (pair_left room (part i e raw) label w)

      -- written: first the identifier, then the label behind it
      pub label-sound : accepted here ≡ true → accepted label ≡ true
      label-sound a = go label (rw here-is at a)
        where
          go : (x : Answer (List ℕ)) → accepted (then (λ t. part i e raw ∷ t ∷ []) x) ≡ true → accepted x ≡ true
          go (Ok t) a = refl
          go (Err f) a = absurd (false≢true a)

      pub label-bytes : accepted here ≡ true
          → list_of 2 (elements_in here) ≡ record_bytes (record { kind = 2; body = part i e raw }) ++ record_bytes (record { kind = 2; body = text_of label })
      label-bytes a = rw here-is (go label (label-sound a))
        where
          go : (x : Answer (List ℕ)) → accepted x ≡ true → list_of 2 (elements_in (then (λ t. part i e raw ∷ t ∷ []) x))
              ≡ record_bytes (record { kind = 2; body = part i e raw }) ++ record_bytes (record { kind = 2; body = text_of x })
          go (Ok t) a = rw (list-of-cons 2 (part i e raw) (t ∷ []), list-of-cons 2 t [], list-none 2, append-nil (record_bytes (record { kind = 2; body = t })))
          go (Err f) a = absurd (false≢true a)

      -- the two records, the label's right behind the identifier's
      abbrev id : Rec
      id = record { kind = 2; body = part i e raw }

      abbrev text : Rec
      text = record { kind = 2; body = text_of label }

      module _ (a : accepted here ≡ true) where
        both_long : length (list_of 2 (elements_in here)) ≡ record_length (part i e raw) + record_length (text_of label)
        both_long = rw (label-bytes a, length-append (record_bytes id) (record_bytes text), length-record id, length-record text)

        module _ (out : List ℕ) (at : ℕ) (f : at + length (list_of 2 (elements_in here)) ≤ length out) where
          pub id-fits : at + record_length (part i e raw) ≤ length out
          id-fits = omega (arith, both_long)

          module _ {out₁ : List ℕ} {next : ℕ} (p : (next ≡ at + record_length (part i e raw)) × (out₁ ≡ over out at (record_bytes id))) where
            pub label-fits : next + record_length (text_of label) ≤ length out₁
            label-fits = rw (p.1, length_over out at (record_bytes id) (omega (arith, length-record id, id-fits))) (omega (arith, p.0, both_long))

            pub both-put : {r : ℕ} {out₂ : List ℕ} → (r ≡ next + record_length (text_of label)) × (out₂ ≡ over out₁ next (record_bytes text))
                → (r ≡ at + length (list_of 2 (elements_in here))) × (out₂ ≡ over out at (list_of 2 (elements_in here)))
            both-put q = (
              omega (arith, p.0, q.0, both_long),
              q.1
                  ∙ ap (λ (s : List ℕ). over s next (record_bytes text)) p.1
                  ∙ over-then out at (record_bytes id) (record_bytes text) {n = next} (omega (arith, p.0, length-record id)) (omega (arith, length-record id, id-fits))
                  ∙ ap (over out at) (sym (label-bytes a)),
            )

-- ---- from a place on

-- those listed from a place on
abbrev later_at : List Row → List ℕ → ℕ → List (List ℕ)
later_at rs raw i = listed_from rs (elements (take i raw)) (elements (drop i raw))

later-start : (rs : List Row) (raw : List ℕ) → later_at rs raw 0 ≡ listed_from rs [] (elements raw)
unfolding raw_elements
later-start rs raw = refl

later-end : (rs : List Row) (raw : List ℕ) (i : ℕ) → length raw ≤ i → later_at rs raw i ≡ []
unfolding listed_from
later-end rs raw i h = rw (elements-done raw i h)

module _ (rs : List Row) (raw locale : List ℕ) where
  abbrev whole : Answer (List (List ℕ))
  whole = labelled rs locale (listed_from rs [] (elements raw))

  abbrev from : ℕ → Answer (List (List ℕ))
  from i = labelled rs locale (later_at rs raw i)

  -- the element at a place, and then those behind it
  from_next : {i e : ℕ} → Parted raw i → i < length raw → e ≡ i + element_length (drop i raw) false
      → from i ≡ joint (labelled rs locale (listed_at rs raw i e)) (from (e + 1))
  from_next {i} {e} w h q =
      ap (λ (ids : List (List ℕ)). labelled rs locale (listed_from rs (elements (take i raw)) ids)) (split raw i h q)
      ∙ ap (labelled rs locale) (listed_next rs (elements (take i raw)) (part i e raw) (elements (drop (e + 1) raw)))
      ∙ ap (λ (seen : List (List ℕ)). labelled rs locale (listed_at rs raw i e ++ listed_from rs seen (elements (drop (e + 1) raw)))) (sym (seen_next w h q))
      ∙ labelled-append rs locale (listed_at rs raw i e) (later_at rs raw (e + 1))

  -- ---- measuring: the room left and what those from the place on take are the whole answer

  pub record RoomLeft (room i : ℕ) (rest : Option ℕ) : Type 0 where
    pub parted : Parted raw i
    pub goes : then (spend_list rest) (from i) ≡ then (spend_list (Some room)) whole

  pub room-start : (room : ℕ) → RoomLeft room 0 (Some room)
  room-start room = record { parted = parted-start raw; goes = ap (λ (ids : List (List ℕ)). then (spend_list (Some room)) (labelled rs locale ids)) (later-start rs raw) }

  module _ {room i : ℕ} {rest : Option ℕ} (s : RoomLeft room i rest) where
    pub room-end : length raw ≤ i → Ok rest ≡ then (spend_list (Some room)) whole
    room-end h = sym (rw (later-end rs raw i h, labelled-none rs locale, list-none 2, spend-zero rest)) ∙ s.goes

    module _ {e : ℕ} (h : i < length raw) (q : e ≡ i + element_length (drop i raw) false) where
      abbrev own : Answer (List (List ℕ))
      own = labelled rs locale (listed_at rs raw i e)

      pub room-wrong : {f : Fault} → Err f ≡ then (spend_list rest) own → Err f ≡ then (spend_list (Some room)) whole
      room-wrong w = sym (joint-wrong rest own (from (e + 1)) w) ∙ sym (ap (then (spend_list rest)) (from_next s.parted h q)) ∙ s.goes

      pub room_next : {rest' : Option ℕ} → Ok rest' ≡ then (spend_list rest) own → RoomLeft room (e + 1) rest'
      room_next w =
          record {
            parted = parted-next s.parted h q;
            goes = sym (joint-spent rest own (from (e + 1)) w) ∙ sym (ap (then (spend_list rest)) (from_next s.parted h q)) ∙ s.goes;
          }

  -- ---- writing: what is written and the records of those from the place on are the whole

  abbrev bytes : Answer (List (List ℕ)) → List ℕ
  bytes a = list_of 2 (elements_in a)

  pub record Filling (out₀ out : List ℕ) (i at : ℕ) : Type 0 where
    pub parted : Parted raw i
    pub sound : accepted (from i) ≡ true
    pub room : length (bytes whole) ≤ length out₀
    pub fill : Fill out₀ (bytes whole) out at (bytes (from i))

  pub fill-all : (out : List ℕ) → accepted whole ≡ true → length (bytes whole) ≤ length out → Filling out out 0 0
  fill-all out a l =
      let z = ap (labelled rs locale) (sym (later-start rs raw)) in
      record { parted = parted-start raw; sound = rw (← z) a; room = l; fill = fill-as (fill_start out (bytes whole)) (ap bytes z) }

  module _ {out₀ out : List ℕ} {i at : ℕ} (w : Filling out₀ out i at) where
    pub filled : length raw ≤ i → (at ≡ length (bytes whole)) × (out ≡ at_front out₀ (bytes whole))
    filled h = fill_end (fill-as w.fill (rw (later-end rs raw i h, labelled-none rs locale) (list-none 2)))

    module _ {e : ℕ} (h : i < length raw) (q : e ≡ i + element_length (drop i raw) false) where
      abbrev next : Answer (List (List ℕ))
      next = labelled rs locale (listed_at rs raw i e)

      both : (accepted next ≡ true) × (accepted (from (e + 1)) ≡ true) × (elements_in (from i) ≡ elements_in next ++ elements_in (from (e + 1)))
      both =
          let z = from_next w.parted h q in
          let j = joint-given next (from (e + 1)) (rw z at w.sound) in
          (j.0, j.1, ap elements_in z ∙ j.2)

      pub next-sound : accepted next ≡ true
      next-sound = both.0

      to_fill : Fill out₀ (bytes whole) out at (bytes next ++ bytes (from (e + 1)))
      to_fill = fill-as w.fill (ap (list_of 2) both.2 ∙ list-of-append 2 (elements_in next) (elements_in (from (e + 1))))

      pub next-room : at + length (bytes next) ≤ length out
      next-room = omega (arith, fill-length to_fill, length-append (bytes next) (bytes (from (e + 1))), to_fill.long, w.room)

      pub fill-next : {r : ℕ} {out' : List ℕ} → (r ≡ at + length (bytes next)) × (out' ≡ over out at (bytes next)) → Filling out₀ out' (e + 1) r
      fill-next p =
          record {
            parted = parted-next w.parted h q;
            sound = both.1;
            room = w.room;
            fill = rw (p.0, p.1) (fill-over (bytes next) (bytes (from (e + 1))) to_fill w.room);
          }

-- ---- the value of a label

-- what stands between the ends that are chosen; nothing where none are
pub label-chosen : (file group locale : List ℕ) → label_value (read_rows file) locale group
    ≡ text_of (then (λ e. part e.from e.to file) (chosen_ends (read_rows file) group (ascii "Name") locale))
label-chosen file group locale = rw (chosen-stands file group (ascii "Name") locale) (by (chosen (read_rows file) group (ascii "Name") locale))
  where
    by : (o : Option Row) → maybe o [] raw_value ≡ text_of (then raw_value (some_or o Missing))
    by None = refl
    by (Some r) = refl

-- ---- the whole answer

module _ (a : Answer (List (List ℕ))) (out : List ℕ) where
  pub records-wrong : {f : Fault} → Err f ≡ then (spend_list (Some (length out))) a → Leaves (then (list_of 2) a) out (Err f) out
  records-wrong {f} w = go a w
    where
      go : (a : Answer (List (List ℕ))) → Err f ≡ then (spend_list (Some (length out))) a → Leaves (then (list_of 2) a) out (Err f) out
      go (Ok xs) w = no (cc)
      go (Err g) w = let z : ◌≡◌ {A = Answer (List ℕ)} (Err g) (Err f) = cc in leaves-refused (Err g) f out z

  pub records-short : Ok None ≡ then (spend_list (Some (length out))) a → Leaves (then (list_of 2) a) out (Err NoRoom) out
  records-short w = go a w
    where
      go : (a : Answer (List (List ℕ))) → Ok None ≡ then (spend_list (Some (length out))) a → Leaves (then (list_of 2) a) out (Err NoRoom) out
      go (Err g) w = no (cc)
      go (Ok xs) w = let z : None ≡ spend_list (Some (length out)) xs = cc in leaves-full (Ok (list_of 2 xs)) out refl (spend-lacks z)

  module _ {n : ℕ} (w : Ok (Some n) ≡ then (spend_list (Some (length out))) a) where
    pub records-fit : (accepted a ≡ true) × (length (list_of 2 (elements_in a)) ≤ length out)
    records-fit = go a w
      where
        go : (a : Answer (List (List ℕ))) → Ok (Some n) ≡ then (spend_list (Some (length out))) a
            → (accepted a ≡ true) × (length (list_of 2 (elements_in a)) ≤ length out)
        go (Err g) w = no (cc)
        go (Ok xs) w = let z : Some n ≡ spend_list (Some (length out)) xs = cc in (refl, spend-was z)

    pub records-put : {r : ℕ} {out' : List ℕ} → (r ≡ length (list_of 2 (elements_in a))) × (out' ≡ at_front out (list_of 2 (elements_in a)))
        → Leaves (then (list_of 2) a) out (Ok r) out'
    records-put {r} {out'} p = go a records-fit p
      where
        go : (a : Answer (List (List ℕ))) → (accepted a ≡ true) × (length (list_of 2 (elements_in a)) ≤ length out)
            → (r ≡ length (list_of 2 (elements_in a))) × (out' ≡ at_front out (list_of 2 (elements_in a))) → Leaves (then (list_of 2) a) out (Ok r) out'
        go (Err g) f p = absurd (false≢true f.0)
        go (Ok xs) f p = leaves-written (Ok (list_of 2 xs)) out refl f.1 p
