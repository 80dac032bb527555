-- What a destroy clears, and what it promises of the links. Assumes nothing: these are definitions.
use Rattle.std.specs.Prelude.{◌≡◌, ◌↔◌, Bool, true, false, cond, not, ◌&&◌, ℕ, ◌<◌}
use Rattle.children.specs.Below.{count}
use Rattle.children.specs.Marks.{marked, with, joined}
use Rattle.context.specs.Context.{no_parent}
use Rattle.forest.specs.Links.{Table, Linked, Below, Rooted}
use Rattle.forest.specs.Walk.{ok, walk_down}
use Rattle.forest.specs.Run.{single_in, Run, climb}

-- the table with the slots of `dead` cleared, and their marks taken from every slot
abbrev pub clear : (ℕ → Bool) → Table → Table
clear dead t = record {
  live = λ x. cond (dead x) false (t.live x);
  retired = λ x. cond (dead x) false (t.retired x);
  parent = λ x. cond (dead x) no_parent (t.parent x);
  mark = λ p c. cond (dead p) false (cond (dead c) false (t.mark p c));
}

-- what goes with s: s itself, what is below it, and the run above it
pub data Doomed (n : ℕ) (t : Table) (s : ℕ) : ℕ → Type 0 where
  self : Doomed n t s s
  under : {x : ℕ} → Below t x s → Doomed n t s x
  above : {x : ℕ} → Run n t (t.parent s) x → Doomed n t s x

-- all that a destroy of s promises of the links, where the slots of `dead` are cleared
pub record Destroyed (n : ℕ) (t : Table) (s : ℕ) (dead : ℕ → Bool) : Type 0 where
  pub linked : Linked n (clear dead t)
  pub rooted : Rooted n (clear dead t)
  pub gone : (x : ℕ) → Doomed n t s x → ((clear dead t).live x ≡ false) × ((clear dead t).parent x ≡ no_parent) × ((c : ℕ) → (clear dead t).mark x c ≡ false)
  pub stay : (x : ℕ) → dead x ≡ false → ((clear dead t).live x ≡ t.live x) × ((clear dead t).retired x ≡ t.retired x) × ((clear dead t).parent x ≡ t.parent x)
  pub loses : (x c : ℕ) → dead x ≡ false → (clear dead t).mark x c ≡ (not (dead c) && t.mark x c)
  pub dangling : (p : ℕ) → t.retired p ≡ true → dead p ≡ false → 0 < count (t.mark p) n → 0 < count ((clear dead t).mark p) n

-- the cleared set as a word: what is below s, s, and the run above
abbrev pub doomed_word : ℕ → ℕ → ℕ → ℕ
doomed_word down s run_set = joined (with down s) run_set

-- the two walks end well, and what they found is just what goes with s
pub record Destruction (n : ℕ) (t : Table) (live retired : ℕ → Bool) (parent kids : ℕ → ℕ) (s : ℕ) : Type 0 where
  pub down : ℕ
  pub down_is : walk_down n live kids n 0 s ≡ ok down
  pub run_set : ℕ
  pub run_is : climb n (single_in n retired kids) parent n 0 (parent s) ≡ ok run_set
  pub exact : (x : ℕ) → (marked (doomed_word down s run_set) x ≡ true) ↔ Doomed n t s x
  pub after : Destroyed n t s (marked (doomed_word down s run_set))
