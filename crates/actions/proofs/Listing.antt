-- Which actions are listed: those of the list that are actions, each once, each with a label. Assumes nothing.
use Rattle.std.specs.Prelude.{Ok}
use mathlib.Core.Path.{◌≡◌, refl, sym, ap, ◌∙◌}
use Prim.Native.Nat.{ℕ}
use mathlib.Core.Bool.{Bool, true, false, ◌&&◌, ◌||◌, and-false, and-true, or-true}
use mathlib.Core.List.{List, [], ◌∷◌, ◌++◌, append-nil}
use Rattle.base.specs.Choice.{pick, there}
use Rattle.base.specs.Lists.{ascii, same, any, all}
use Rattle.base.proofs.Tests.{by-test, and_both, same_refl, same_true}
use Rattle.base.proofs.Search.{any-middle}
use Rattle.characters.specs.Class.{key_byte}
use Rattle.text.specs.Element.{elements_of}
use Rattle.line.specs.Form.{plain_form}
use Rattle.rows.specs.Rows.{Row}
use Rattle.rows.specs.Title.{Group, Key, has}
use Rattle.choice.specs.Locale.{candidates, postfixed, chosen}
use Rattle.choice.proofs.Stripped.{plain-found}
use Rattle.choice.proofs.Chosen.{has_stripped, chosen-there}
use Rattle.actions.specs.Actions.{action_group, is_action, is_new, listed_from}
use Rattle.actions.specs.Step.{elements}
use Rattle.actions.proofs.Identifiers.{Alike, AllAlike, alike_same, all_alike}

-- one more in front of a list, or not
own-front : (id : List ℕ) (a : Bool) (later : List (List ℕ)) → any (same id) later ≡ false → any (same id) (pick a (id ∷ later) later) ≡ a
unfolding any
own-front id true later e = rw (same_refl id)
own-front id false later e = e

other-front : (id x : List ℕ) (a : Bool) (later : List (List ℕ)) → same id x ≡ false → any (same id) (pick a (x ∷ later) later) ≡ any (same id) later
unfolding any
other-front id x true later f = rw f
other-front id x false later f = refl

module _ (rs : List Row) where
  -- ---- which are listed

  -- those that stand in the list, are actions and were not seen
  listed-among : (seen ids : List (List ℕ)) (id : List ℕ)
      → any (same id) (listed_from rs seen ids) ≡ (any (same id) ids && is_new rs seen id)
  unfolding listed_from any
  listed-among seen [] id = refl
  listed-among seen (x ∷ ids) id =
      by-test (same id x)
      (λ e. let i : x ≡ id = sym (same_true id x e) in
      rw (i, same_refl id)
      (own-front id (is_new rs seen id) (listed_from rs (id ∷ seen) ids)
      (listed-among (id ∷ seen) ids id ∙ rw (same_refl id, and-false (is_action rs id)) (and-false (any (same id) ids)))))
      (λ f. other-front id x (is_new rs seen x) (listed_from rs (x ∷ seen) ids) f ∙ listed-among (x ∷ seen) ids id ∙ rw f)

  -- an identifier is listed exactly if it stands in the list and is an action's
  pub listed-exactly : (ids : List (List ℕ)) (id : List ℕ) → any (same id) (listed_from rs [] ids) ≡ (any (same id) ids && is_action rs id)
  unfolding any
  listed-exactly ids id = listed-among [] ids id ∙ rw (and-true (is_action rs id))

  -- one that was seen is not listed again
  pub not-again : (seen ids : List (List ℕ)) (id : List ℕ) → any (same id) (listed_from rs (id ∷ seen) ids) ≡ false
  unfolding any
  not-again seen ids id = listed-among (id ∷ seen) ids id ∙ rw (same_refl id, and-false (is_action rs id)) (and-false (any (same id) ids))

  -- in which order others were seen is no matter
  listed-seen : (seen seen' ids : List (List ℕ)) → ((id : List ℕ) → any (same id) seen ≡ any (same id) seen') → listed_from rs seen ids ≡ listed_from rs seen' ids
  unfolding listed_from any
  listed-seen seen seen' [] k = refl
  listed-seen seen seen' (x ∷ ids) k =
      rw (k x, listed-seen (x ∷ seen) (x ∷ seen') ids (λ id. ap (λ (b : Bool). same id x || b) (k id)))

  -- the first of some identifiers, if it is listed, and those after it
  pub listed_next : (seen : List (List ℕ)) (x : List ℕ) (ids : List (List ℕ))
      → listed_from rs seen (x ∷ ids) ≡ pick (is_new rs seen x) (x ∷ []) [] ++ listed_from rs (seen ++ (x ∷ [])) ids
  unfolding listed_from any
  listed_next seen x ids = rw (listed-seen (x ∷ seen) (seen ++ (x ∷ [])) ids last) (go (is_new rs seen x) (listed_from rs (seen ++ (x ∷ [])) ids))
    where
      last : (id : List ℕ) → any (same id) (x ∷ seen) ≡ any (same id) (seen ++ (x ∷ []))
      last id = sym (any-middle (same id) seen x [] ∙ ap (λ (y : List (List ℕ)). same id x || any (same id) y) (append-nil seen))

      go : (a : Bool) (later : List (List ℕ)) → pick a (x ∷ later) later ≡ pick a (x ∷ []) [] ++ later
      go true later = refl
      go false later = refl

  -- ---- by the raw elements

  alike-action : {t e : List ℕ} → Alike t e → is_action rs t ≡ is_action rs e
  unfolding is_action
  alike-action {t} {e} w =
      by-test (plain_form e) (λ p. ap (is_action rs) (w.same_text p)) (λ f. rw (w.form, f))

  listed-alike : (seen seen' ts es : List (List ℕ)) → ((id : List ℕ) → plain_form id ≡ true → any (same id) seen ≡ any (same id) seen') → AllAlike ts es
      → listed_from rs seen ts ≡ listed_from rs seen' es
  unfolding listed_from any
  listed-alike seen seen' [] [] k w = refl
  listed-alike seen seen' [] (e ∷ es) k w = absurd w
  listed-alike seen seen' (t ∷ ts) [] k w = absurd w
  listed-alike seen seen' (t ∷ ts) (e ∷ es) k w =
      let later : listed_from rs (t ∷ seen) ts ≡ listed_from rs (e ∷ seen') es
      = listed-alike (t ∷ seen) (e ∷ seen') ts es (λ id p. rw (alike_same w.0 id p, k id p)) w.1 in
      by-test (plain_form e)
      (λ p. rw (later, w.0.same_text p, k e p))
      (λ f. rw (later, alike-action w.0, no-action e f))
    where
      no-action : (id : List ℕ) → plain_form id ≡ false → is_action rs id ≡ false
      no-action id f = unfold is_action in rw f

  module _ (raw : List ℕ) {ts : List (List ℕ)} (r : elements_of raw ≡ Ok ts) where
    alike : AllAlike ts (elements raw)
    unfolding elements_of
    alike = all_alike (elements raw) 0 ts r

    pub listed-raw : listed_from rs [] ts ≡ listed_from rs [] (elements raw)
    listed-raw = listed-alike [] [] ts (elements raw) (λ id p. refl) alike

    pub asked-raw : (id : List ℕ) → any (same id) (listed_from rs [] ts) ≡ (any (same id) (elements raw) && is_action rs id)
    asked-raw id = ap (any (same id)) listed-raw ∙ listed-exactly (elements raw) id

  -- ---- labels

  -- an action has a label, in any language
  pub action-labelled : (locale id : List ℕ) → is_action rs id ≡ true → there (chosen rs (action_group id) (ascii "Name") locale) ≡ true
  unfolding is_action all key_byte
  action-labelled locale id h =
      let g : List ℕ = action_group id in
      let named = (and_both (plain_form id && has rs (Group g)) (has rs (Key g (ascii "Name"))) h).1 in
      chosen-there rs g (ascii "Name") locale
      ∙ rw (plain-found (ascii "Name") refl rs g, named) (or-true (any (λ l. has_stripped rs (Key g (postfixed (ascii "Name") l))) (candidates locale)))
