-- The links of a table of n slots, and what they say. Assumes nothing: these are definitions.
use Rattle.std.specs.Prelude.{◌≡◌, ◌≢◌, Bool, true, false, cond, ◌&&◌, ℕ, zero, suc, ◌≤◌, ◌<◌, ltb}
use Rattle.context.specs.Context.{no_parent}
use Rattle.children.specs.Marks.{mark_count, marked}

-- live and retired slots, the parent of each, and which slot marks which
pub record Table : Type 0 where
  pub live : ℕ → Bool
  pub retired : ℕ → Bool
  pub parent : ℕ → ℕ
  pub mark : ℕ → ℕ → Bool

-- the links of functions of the slot: of slots below n and marks of a word; a slot that is not live has no parent
abbrev pub links_in : ℕ → (ℕ → Bool) → (ℕ → Bool) → (ℕ → ℕ) → (ℕ → ℕ) → Table
links_in n live retired parent kids = record {
  live = λ i. ltb i n && live i;
  retired = λ i. ltb i n && retired i;
  parent = λ i. cond (ltb i n && live i) (parent i) no_parent;
  mark = λ p c. ltb p n && (ltb c mark_count && marked (kids p) c);
}

-- functions of the slot say of every slot below n what the table says
pub record Reads (n : ℕ) (t : Table) (live retired : ℕ → Bool) (parent kids : ℕ → ℕ) : Type 0 where
  pub live_is : (i : ℕ) → i < n → live i ≡ t.live i
  pub retired_is : (i : ℕ) → i < n → retired i ≡ t.retired i
  pub parent_is : (i : ℕ) → i < n → t.live i ≡ true → parent i ≡ t.parent i
  pub kids_is : (p c : ℕ) → p < n → marked (kids p) c ≡ t.mark p c

-- parents and marks agree, and lead from live slots to live slots
pub record Linked (n : ℕ) (t : Table) : Type 0 where
  pub few : n ≤ mark_count
  pub small : (i : ℕ) → t.live i ≡ true → i < n
  pub old : (i : ℕ) → t.retired i ≡ true → t.live i ≡ true
  pub idle : (i : ℕ) → t.live i ≡ false → t.parent i ≡ no_parent
  pub high : (i : ℕ) → t.live i ≡ true → t.parent i ≢ no_parent → (t.live (t.parent i) ≡ true) × (t.mark (t.parent i) i ≡ true)
  pub low : (p c : ℕ) → t.mark p c ≡ true → (t.live p ≡ true) × (t.live c ≡ true) × (t.parent c ≡ p)

-- k parent steps
unfoldable pub up : Table → ℕ → ℕ → ℕ
up t zero x = x
up t (suc k) x = t.parent (up t k x)

-- one parent step or more lead from x to y
pub record Below (t : Table) (x y : ℕ) : Type 0 where
  pub steps : ℕ
  pub ends : up t (suc steps) x ≡ y
  pub alive : t.live y ≡ true

-- marks lead from y down to x
pub data Chain (t : Table) : ℕ → ℕ → Type 0 where
  one : {y x : ℕ} → t.mark y x ≡ true → Chain t y x
  more : {y z x : ℕ} → t.mark y z ≡ true → Chain t z x → Chain t y x

-- fewer than n parent steps lead from x to a live slot that has no parent
pub record Near (n : ℕ) (t : Table) (x : ℕ) : Type 0 where
  pub steps : ℕ
  pub few : steps < n
  pub alive : t.live (up t steps x) ≡ true
  pub root : t.parent (up t steps x) ≡ no_parent

-- n parent steps lead from every live slot past its root
abbrev pub Rooted : ℕ → Table → Type 0
Rooted n t = (x : ℕ) → t.live x ≡ true → up t n x ≡ no_parent

-- parent steps lead from no live slot back to it
abbrev pub Ringless : Table → Type 0
Ringless t = (x k : ℕ) → t.live x ≡ true → up t (suc k) x ≢ x
