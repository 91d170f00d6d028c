-- The fields of a record's body, one after another. Assumes nothing.
use Rattle.std.specs.Prelude.{Option, Some, None}
use mathlib.Core.Path.{◌≡◌, ◌∙◌}
use Prim.Native.Nat.{ℕ, ◌+◌, ◌-◌, ◌≤◌, ◌<◌}
use native.Mathlib.Omega.{arith}
use mathlib.Core.List.{List}
use lib.ListN.{length, drop, length-drop}
use lib.Seq.{drop-drop}
use borrow.Author.Tests.{le-leb, lt-leb, eq-eqb, ne_eqb}
use Rattle.base.specs.Lists.{part}
use Rattle.requests.specs.Requests.{Asked, field_end, field, ending, asked_by, read_request}
use Rattle.requests.specs.Places.{Ends}

module _ {A : Type 0} (s : List ℕ) (at : ℕ) (next : List ℕ → List ℕ → Option A) where
  -- a whole field at a place
  field-whole : (e : ℕ) → Ends s at (Some e) → field (drop at s) next ≡ next (part (at + 4) e s) (drop e s)
  unfolding field
  field-whole e h =
      let n : ℕ = field_end (drop at s) in
      let k : at + n - (at + 4) ≡ n - 4 = omega arith in
      rw (le-leb n (length (drop at s)) (simp length-drop (omega arith)), h.0, k, ← drop-drop 4 at s, ← drop-drop n at s)

  -- one that is not whole
  field-short : Ends s at None → at ≤ length s → field (drop at s) next ≡ None
  unfolding field
  field-short h k = rw (lt-leb (field_end (drop at s)) (length (drop at s)) (simp length-drop (omega arith)))

module _ {A : Type 0} (s : List ℕ) (a : A) (e : ℕ) where
  -- the last field ends with the body, or bytes follow it
  ending_there : length s ≤ e → ending (drop e s) a ≡ Some a
  ending_there h = rw (eq-eqb (length (drop e s)) 0 (simp length-drop (omega arith)))

  ending-not : e < length s → ending (drop e s) a ≡ None
  ending-not h = rw (ne_eqb (length (drop e s)) 0 (λ z. absurd (omega (arith, length-drop e s))))

module _ (kind : ℕ) (s : List ℕ) where
  pub group-short : Ends s 0 None → read_request (record { kind = kind; body = s }) ≡ None
  unfolding read_request
  group-short h = field-short s 0 (λ group t. field t (λ key u. asked_by kind group key u)) h (omega arith)

  module _ {g : ℕ} (h : Ends s 0 (Some g)) where
    behind-group : read_request (record { kind = kind; body = s }) ≡ field (drop g s) (λ key u. asked_by kind (part 4 g s) key u)
    unfolding read_request
    behind-group = field-whole s 0 (λ group t. field t (λ key u. asked_by kind group key u)) g h

    pub key-short : Ends s g None → read_request (record { kind = kind; body = s }) ≡ None
    key-short i = behind-group ∙ field-short s g (λ key u. asked_by kind (part 4 g s) key u) i h.1

    module _ {k : ℕ} (i : Ends s g (Some k)) where
      behind-key : read_request (record { kind = kind; body = s }) ≡ asked_by kind (part 4 g s) (part (g + 4) k s) (drop k s)
      behind-key = behind-group ∙ field-whole s g (λ key u. asked_by kind (part 4 g s) key u) k i

      -- of kind 6
      pub two-more : kind ≡ 6 → k < length s → read_request (record { kind = kind; body = s }) ≡ None
      two-more e l = behind-key ∙ rw (eq-eqb kind 6 e) (ending-not s _ k l)

      pub two : kind ≡ 6 → length s ≤ k → read_request (record { kind = kind; body = s }) ≡ Some (record { group = part 4 g s; key = part (g + 4) k s; text = None })
      two e l = behind-key ∙ rw (eq-eqb kind 6 e) (ending_there s _ k l)

      -- of another kind
      pub no_kind : (kind ≡ 6 → ⊥) → (kind ≡ 5 → ⊥) → read_request (record { kind = kind; body = s }) ≡ None
      no_kind e f = behind-key ∙ rw (ne_eqb kind 6 e, ne_eqb kind 5 f)

      -- of kind 5
      module _ (f : kind ≡ 5) where
        abbrev with-text : Option Asked
        with-text = field (drop k s) (λ text t. ending t (record { group = part 4 g s; key = part (g + 4) k s; text = Some text }))

        three-is : read_request (record { kind = kind; body = s }) ≡ with-text
        three-is = behind-key ∙ rw (ne_eqb kind 6 (λ z. absurd (omega arith)), eq-eqb kind 5 f)

        pub text-short : Ends s k None → read_request (record { kind = kind; body = s }) ≡ None
        text-short j = three-is ∙ field-short s k (λ text t. ending t (record { group = part 4 g s; key = part (g + 4) k s; text = Some text })) j i.1

        module _ {e : ℕ} (j : Ends s k (Some e)) where
          behind-text : with-text ≡ ending (drop e s) (record { group = part 4 g s; key = part (g + 4) k s; text = Some (part (k + 4) e s) })
          behind-text = field-whole s k (λ text t. ending t (record { group = part 4 g s; key = part (g + 4) k s; text = Some text })) e j

          pub three-more : e < length s → read_request (record { kind = kind; body = s }) ≡ None
          three-more l = three-is ∙ behind-text ∙ ending-not s _ e l

          pub three : length s ≤ e
              → read_request (record { kind = kind; body = s }) ≡ Some (record { group = part 4 g s; key = part (g + 4) k s; text = Some (part (k + 4) e s) })
          three l = three-is ∙ behind-text ∙ ending_there s _ e l
