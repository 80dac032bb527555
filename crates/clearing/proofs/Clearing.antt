-- A loop that rewrites every slot in its place: what it has made by slot i, and one step; and a slot where a set is cleared. Assumes nothing.
use Prim.Native.Nat.{ℕ, suc, ◌+◌, ◌≤◌, ◌<◌}
use native.Mathlib.Numerals.{add-one}
use mathlib.Core.Path.{◌≡◌, sym, ap, ◌∙◌}
use mathlib.Core.List.{List, [], ◌∷◌, ◌++◌, append_assoc, append-nil}
use lib.ListN.{length, drop, set, drop_of_length-le}
use lib.Seq.{drop-cons, set_at, get_or_at, set-get_or}
use mathlib.Core.Bool.{true, false}
use Rattle.children.specs.Below.{list_of}
use Rattle.children.specs.Marks.{marked, without}
use Rattle.children.proofs.Below.{length-list_of}
use Rattle.context.specs.declared.Context.{Context}
use Rattle.table.specs.declared.state.State.{State}
use Rattle.context.specs.Context.{slot_of, no_context, destroyed, with_children}
use Rattle.table.specs.State.{with_contexts, with_slot}
use Rattle.clearing.specs.Clearing.{cleared_slot}

module _ (f : ℕ → Context → Context) where
  -- the slots below i rewritten, and the others as they were
  abbrev pub mix : ℕ → List Context → List Context
  mix i cs = list_of (λ j. f j (slot_of cs j)) i ++ drop i cs

  module _ (i : ℕ) (cs : List Context) (h : i < length cs) where
    here : mix i cs ≡ list_of (λ j. f j (slot_of cs j)) i ++ (slot_of cs i ∷ drop (suc i) cs)
    here = rw (drop-cons cs i no_context h)

    read : slot_of (mix i cs) i ≡ slot_of cs i
    read =
        ap (λ (l : List Context). slot_of l i) here
        ∙ get_or_at (list_of (λ j. f j (slot_of cs j)) i) (slot_of cs i) (drop (suc i) cs) no_context i (length-list_of _ i)

    write : set (mix i cs) i (f i (slot_of cs i)) ≡ mix (i + 1) cs
    unfolding list_of
    write =
        ap (λ (l : List Context). set l i (f i (slot_of cs i))) here
        ∙ set_at (list_of (λ j. f j (slot_of cs j)) i) (slot_of cs i) (drop (suc i) cs) (f i (slot_of cs i)) i (length-list_of _ i)
        ∙ sym (append_assoc (list_of (λ j. f j (slot_of cs j)) i) (f i (slot_of cs i) ∷ []) (drop (suc i) cs))
        ∙ ap (λ (k : ℕ). mix k cs) (sym (add-one i))

  pub mix_end : (i : ℕ) (cs : List Context) → length cs ≤ i → mix i cs ≡ list_of (λ j. f j (slot_of cs j)) i
  mix_end i cs h = rw (drop_of_length-le cs h) (append-nil (list_of (λ j. f j (slot_of cs j)) i))

  -- the same at the contexts of a table
  pub slot_step : (t u : State) (i : ℕ) (c : Context) → i < length t.contexts → u ≡ with_contexts t (mix i t.contexts) → c ≡ f i (slot_of u.contexts i)
      → with_contexts u (set u.contexts i c) ≡ with_contexts t (mix (i + 1) t.contexts)
  slot_step t u i c h e q =
      ap (λ (x : State). with_contexts x (set x.contexts i c)) e
      ∙ ap (λ (x : Context). with_contexts t (set (mix i t.contexts) i x)) (q ∙ ap (λ (x : State). f i (slot_of x.contexts i)) e ∙ ap (f i) (read i t.contexts h))
      ∙ ap (with_contexts t) (write i t.contexts h)

-- ---- a slot where a set is cleared

module _ (set i : ℕ) (c : Context) where
  pub cleared_in : marked set i ≡ true → cleared_slot set i c ≡ destroyed c
  unfolding cleared_slot
  cleared_in e = rw e

  pub cleared_out : marked set i ≡ false → cleared_slot set i c ≡ with_children c (without c.children set)
  unfolding cleared_slot
  cleared_out e = rw e

-- the marks that a slot has are written for nothing
pub marks_kept : (t : State) (i m : ℕ) → m ≡ (slot_of t.contexts i).children → with_slot t i (with_children (slot_of t.contexts i) m) ≡ t
marks_kept t i m e = ap (λ (x : ℕ). with_slot t i (with_children (slot_of t.contexts i) x)) e ∙ ap (with_contexts t) (set-get_or t.contexts i no_context)
