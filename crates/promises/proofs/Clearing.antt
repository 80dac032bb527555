-- A yes of which a slot is cleared, with what goes with it, is a yes; for any number of slots up to 64. Assumes nothing.
use mathlib.Core.Path.{◌≡◌, refl, sym, ap, ◌∙◌}
use mathlib.Core.Logic.{◌≢◌, ◌↔◌, inl, inr}
use mathlib.Core.Bool.{true, false}
use Prim.Native.Nat.{ℕ, ◌≤◌, ◌<◌}
use native.Mathlib.Omega.{arith}
use borrow.Author.Tests.{lt-ltb}
use Rattle.children.specs.Below.{count}
use Rattle.children.specs.Marks.{mark_count, marked, without}
use Rattle.children.proofs.Cases.{two, clash, and-true, and_both, not-true}
use Rattle.children.proofs.Below.{count-some}
use Rattle.children.proofs.Marks.{marked_none, marked-without, without-word}
use Rattle.context.specs.declared.ContextState.TheVariants.{Retired}
use Rattle.context.specs.declared.Context.{Context}
use Rattle.context.specs.Context.{no_parent, destroyed, with_children, is_live, is_retired}
use Rattle.forest.specs.Links.{Linked, Rooted}
use Rattle.forest.specs.Destroy.{clear, Doomed}
use Rattle.forest.proofs.Slots.{clear_in, again}
use Rattle.links.specs.Summary.{live_at, retired_at, parent_at, kids_at, table_of, Words}
use Rattle.clearing.specs.Clearing.{cleared_slot}
use Rattle.verdict.specs.Tests.{Header}
use Rattle.verdict.specs.Rule.{Live, HasChild, ActiveIn, NormalRoot, ForestRule}
use Rattle.verdict.proofs.Trees.{live_is, parent_is}
use Rattle.promises.specs.Keeps.{Cleared, Unmarked}
use Rattle.promises.proofs.Rule.{Own, active-apart, retired-apart, mark_same, own, rule-of, links, roots, dangles}
use Rattle.promises.proofs.Steps.{cleared_iff}

-- ---- one context

-- what is cleared says nothing amiss of itself
own-gone : (n : ℕ) (h : Header) (c : Context) → Own n h c → Own n h (destroyed c)
own-gone n h c o = record {
  supported = record {
    simulation = o.supported.simulation;
    dice = λ ne. absurd (ne refl);
    info = λ ne. absurd (ne refl);
    x509 = λ ne. absurd (ne refl);
  };
  idle = λ e. record { parent = refl; children = refl; tci = refl; dice = refl; x509 = refl; info = refl };
  initialized = λ e. active-apart (sym e);
  child = λ e. retired-apart (sym e);
  locality = refl;
}

own_less : (n : ℕ) (h : Header) (c : Context) (m : ℕ) → Own n h c → (c.children ≡ 0 → m ≡ 0) → (c.state ≡ Retired → HasChild n (with_children c m))
    → Own n h (with_children c m)
own_less n h c m o none some = record {
  supported = record {
    simulation = o.supported.simulation;
    dice = o.supported.dice;
    info = o.supported.info;
    x509 = o.supported.x509;
  };
  idle = λ e.
      let i = o.idle e in
      record { parent = i.parent; children = none i.children; tci = i.tci; dice = i.dice; x509 = i.x509; info = i.info };
  initialized = o.initialized;
  child = some;
  locality = o.locality;
}

-- ---- a table of which the set d is cleared

module _ (n : ℕ) (h : Header) (s : ℕ → Context) (few : n ≤ mark_count) (F : ForestRule n h s) (i : ℕ) (v : Live n s i)
    (d : ℕ) (exact : (x : ℕ) → (marked d x ≡ true) ↔ Doomed n (table_of n s) i x)
    (s' : ℕ → Context) (is : (x : ℕ) → x < n → s' x ≡ cleared_slot d x (s x)) where
  gone-is : (x : ℕ) → x < n → marked d x ≡ true → s' x ≡ destroyed (s x)
  unfolding cleared_slot
  gone-is x lt e = is x lt ∙ rw e

  stay-is : (x : ℕ) → x < n → marked d x ≡ false → s' x ≡ with_children (s x) (without (s x).children d)
  unfolding cleared_slot
  stay-is x lt e = is x lt ∙ rw e

  -- ---- its links

  L : Linked n (table_of n s)
  L = links n h s few F

  cleared-links : table_of n s' ≡ clear (marked d) (table_of n s)
  cleared-links = clear_in n (live_at s) (live_at s') (retired_at s) (retired_at s') (parent_at s) (parent_at s') (kids_at s) (kids_at s') d
      (λ x lt e.
      let q = stay-is x lt e in (
        ap (λ (c : Context). is_live c.state) q,
        ap (λ (c : Context). is_retired c.state) q,
        ap (λ (c : Context). c.parent_idx) q,
        λ k l. ap (λ (c : Context). marked c.children k) q ∙ marked-without (s x).children d k l,
      ))
      (λ x lt e.
      let q = gone-is x lt e in (
        ap (λ (c : Context). is_live c.state) q,
        ap (λ (c : Context). is_retired c.state) q,
        λ k l. ap (λ (c : Context). marked c.children k) q ∙ marked_none k,
      ))

  after : Linked n (table_of n s') × Rooted n (table_of n s') × ((p : ℕ) → (table_of n s').retired p ≡ true → 0 < count ((table_of n s').mark p) n)
  after = again n (table_of n s) L (roots n h s few F) i ((live_is n s i).1 v) (marked d) exact (dangles n h s few F) (table_of n s') cleared-links

  -- ---- its slots

  child : (x : ℕ) → x < n → (s' x).state ≡ Retired → HasChild n (s' x)
  child x lt e =
      let r = count-some ((table_of n s').mark x) n (after.2 x (and_both (lt-ltb x n lt) (rw e))) in
      let k = r.1 in
      (r.0, k, mark_same n s' x r.0 lt (omega arith) ∙ r.2)

  none : (m : ℕ) → m ≡ 0 → without m d ≡ 0
  none m e = rw e

  owns : (x : ℕ) → x < n → Own n h (s' x)
  owns x lt =
      let o = own n s h x (F.sound x lt) in
      elim (two (marked d x)) [
        | inl e ↦ rw (gone-is x lt e) (own-gone n h (s x) o)
        | inr e ↦
            let q = stay-is x lt e in
            rw q (own_less n h (s x) (without (s x).children d) o (none (s x).children) (rw q at (child x lt)))
      ]

  type_same : (x : ℕ) → x < n → (s' x).context_type ≡ (s x).context_type
  type_same x lt = elim (two (marked d x)) [ inl e ↦ rw (gone-is x lt e) | inr e ↦ rw (stay-is x lt e) ]

  -- a live slot is as it was, but for its marks
  kept : (x : ℕ) → Live n s' x → s' x ≡ with_children (s x) (without (s x).children d)
  kept x l = elim (two (marked d x)) [
    | inl e ↦ absurd (l.live (rw (gone-is x l.slot e)))
    | inr e ↦ stay-is x l.slot e
  ]

  was-live : (x : ℕ) → Live n s' x → Live n s x
  was-live x l = record { slot = l.slot; live = rw (kept x l) at l.live }

  active-live : (x : ℕ) → ActiveIn n s' x → Live n s' x
  active-live x a = record { slot = a.slot; live = λ q. active-apart (sym a.active ∙ q) }

  was-active : (x : ℕ) → ActiveIn n s' x → ActiveIn n s x
  was-active x a = record { slot = a.slot; active = rw (kept x (active-live x a)) at a.active }

  pub rule_again : ForestRule n h s'
  rule_again = rule-of n s' few after.0 after.1 h F.marker F.version owns
      (λ a b p q ne e.
      let x = kept a (active-live a p) in
      let y = kept b (active-live b q) in
      rw x (F.alone a b (was-active a p) (was-active b q) ne (rw (x, y) at e)))
      (λ x l ne.
      let q = kept x l in
      let w = was-live x l in
      let a = (live_is n s x).1 w in
      let u : (s x).parent_idx ≢ no_parent = rw q at ne in
      let p = L.small _ (L.high x a (λ z. u (sym (parent_is n s x a) ∙ z))).0 in
      type_same x l.slot ∙ F.alike x w u ∙ sym (type_same (s x).parent_idx (rw (parent_is n s x a) at p))
      ∙ ap (λ (c : Context). (s' c.parent_idx).context_type) (sym q))
      (λ a b p q. F.one_normal a b (was-root a p) (was-root b q))
    where
      was-root : (x : ℕ) → NormalRoot n s' x → NormalRoot n s x
      was-root x r =
          let q = kept x r.live in
          record { live = was-live x r.live; root = rw q at r.root; normal = rw q at r.normal }

  -- ---- what is promised of each slot

  pub gone_at : (x : ℕ) → x < n → Cleared n s i x → s' x ≡ destroyed (s x)
  gone_at x lt c = gone-is x lt ((exact x).1 ((cleared_iff n s few L i v x).1 c))

  not_cleared : (x : ℕ) → (marked d x ≡ false) ↔ (¬ Cleared n s i x)
  not_cleared x = (
    λ e c. clash ((exact x).1 ((cleared_iff n s few L i v x).1 c)) e,
    λ f. elim (two (marked d x)) [ inr e ↦ e | inl e ↦ absurd (f ((cleared_iff n s few L i v x).0 ((exact x).0 e))) ],
  )

  pub other_at_lem : Words n s → (x : ℕ) → x < n → ¬ Cleared n s i x → Unmarked n s i (s x) (s' x)
  other_at_lem W x lt f = record {
    marks = without (s x).children d;
    is = stay-is x lt ((not_cleared x).1 f);
    word = without-word mark_count (s x).children d (W x lt);
    left = λ k l.
        let q = marked-without (s x).children d k l in (
          λ m. let a = and-true (marked (s x).children k) _ (sym q ∙ m) in (a.0, (not_cleared k).0 (not-true _ a.1)),
          λ r. q ∙ and_both r.0 (rw ((not_cleared k).1 r.1)),
        );
  }
