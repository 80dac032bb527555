-- Initialise from a yes gives a yes exactly where the caller's locality does not end with an active default beside another active context.
-- Assumes nothing.
use mathlib.Core.Path.{◌≡◌, refl, sym, ap, subst, ◌∙◌}
use mathlib.Core.List.{List}
use mathlib.Core.Logic.{◌≢◌, ◌↔◌, inl, inr}
use mathlib.Core.Bool.{Bool, true, false, cond, ◌&&◌}
use Prim.Native.Nat.{ℕ, ◌≤◌, ◌<◌}
use native.Mathlib.Decide.{ℕ_discrete}
use native.Mathlib.Omega.{arith}
use lib.Dec.{ltb}
use lib.ListN.{set}
use lib.Seq.{get_or-set_same, get_or-set_other}
use borrow.Author.Tests.{lt-ltb, eq-eqb, ne_eqb}
use Rattle.children.specs.Marks.{slot_count, mark_count, marked}
use Rattle.children.proofs.Cases.{two, clash, and_right, not-false, eqb-true}
use Rattle.children.proofs.Marks.{marked_none}
use Rattle.context.specs.declared.ContextState.{ContextState}
use Rattle.context.specs.declared.ContextState.TheVariants.{Inactive, Active, Retired}
use Rattle.context.specs.declared.ContextType.{ContextType}
use Rattle.context.specs.declared.ContextType.TheVariants.{Normal, Simulation}
use Rattle.context.specs.declared.Context.{Context}
use Rattle.table.specs.declared.state.State.{State}
use Rattle.handle.specs.Handle.{default_handle}
use Rattle.context.specs.Bytes.{is_on}
use Rattle.table.specs.Flags.{simulation_bit}
use Rattle.context.specs.Context.{no_parent, no_context, active_context, is_live, is_inactive, is_retired, slot_of}
use Rattle.forest.specs.Links.{Table, Linked, Rooted}
use Rattle.forest.proofs.Slots.{table_ext}
use Rattle.links.specs.Summary.{table_of}
use Rattle.initialize_context.specs.Initialize.{root_args, initialized_of}
use Rattle.initialize_context.proofs.Initialize.{Free, nothing_made, default_made, simulation_made, ended}
use Rattle.verdict.specs.Tests.{Header, header_of}
use Rattle.verdict.specs.Rule.{Live, ActiveIn, NormalRoot, Alone, Alike, OneNormal, ForestRule, Forest}
use Rattle.verdict.proofs.Trees.{live_is, parent_is}
use Rattle.promises.specs.Keeps.{Crowded}
use Rattle.promises.proofs.Rule.{Own, active-retired, active-apart, own, rule-of, links, roots, few, long}
use Rattle.promises.proofs.Normal.{none_normal}
use Rattle.promises.proofs.Growing.{grown, grown-linked, grown-rooted}

-- where no active context is beside a default, no locality is crowded
not_crowded : (n : ℕ) (s : ℕ → Context) (l : ℕ) → Alone n s → ¬ Crowded n s l
not_crowded n s l a c = a c.one c.other c.active_one c.active_other c.apart (c.place_one ∙ sym c.place_other) c.default

-- ---- a yes in which the inactive slot i is activated as a root

module _ (n : ℕ) (h : Header) (s : ℕ → Context) (small : n ≤ mark_count) (F : ForestRule n h s) (i : ℕ) (lt : i < n) (idle : (s i).state ≡ Inactive)
    (k : ContextType) (new : List ℕ) (l : ℕ) (rec : Bool) (init : ℕ) (stays : h.initialized ≢ 0 → init ≢ 0)
    (supported : k ≡ Simulation → marked h.support simulation_bit ≡ true) (first : k ≡ Normal → (init ≢ 0) × (h.initialized ≡ 0))
    (s' : ℕ → Context) (at : s' i ≡ active_context (root_args k new l rec)) (other : (j : ℕ) → j ≢ i → s' j ≡ s j) where
  abbrev h' : Header
  h' = record { marker = h.marker; version = h.version; support = h.support; initialized = init }

  L : Linked n (table_of n s)
  L = links n h s small F

  off : (table_of n s).live i ≡ false
  off = rw idle (and_right (ltb i n) refl)

  -- ---- its links

  parent_new : (table_of n s').parent i ≡ no_parent
  parent_new = ap (λ (c : Context). cond (ltb i n && is_live c.state) c.parent_idx no_parent) at ∙ rw (lt-ltb i n lt)

  mark_new : (c : ℕ) → (table_of n s').mark i c ≡ false
  mark_new c =
      ap (λ (b : Context). ltb i n && (ltb c mark_count && marked b.children c)) at ∙ and_right (ltb i n) (and_right (ltb c mark_count) (marked_none c))

  mark-old : (c : ℕ) → (table_of n s).mark i c ≡ false
  mark-old c = elim (two ((table_of n s).mark i c)) [ inl m ↦ clash (L.low i c m).0 off | inr e ↦ e ]

  grows : table_of n s' ≡ grown (table_of n s) i
  grows = table_ext
      (λ x. elim (ℕ_discrete x i) [
        | yes e ↦ rw (e, eq-eqb i i refl, at, lt-ltb i n lt)
        | no ne ↦ rw (ne_eqb x i ne) (ap (λ (c : Context). ltb x n && is_live c.state) (other x ne))
      ])
      (λ x. elim (ℕ_discrete x i) [
        | yes e ↦ rw (e, at, idle)
        | no ne ↦ ap (λ (c : Context). ltb x n && is_retired c.state) (other x ne)
      ])
      (λ x. elim (ℕ_discrete x i) [
        | yes e ↦ rw e (parent_new ∙ sym (L.idle i off))
        | no ne ↦ ap (λ (c : Context). cond (ltb x n && is_live c.state) c.parent_idx no_parent) (other x ne)
      ])
      (λ x c. elim (ℕ_discrete x i) [
        | yes e ↦ rw e (mark_new c ∙ sym (mark-old c))
        | no ne ↦ ap (λ (b : Context). ltb x n && (ltb c mark_count && marked b.children c)) (other x ne)
      ])

  linked' : Linked n (table_of n s')
  linked' = rw grows (grown-linked n (table_of n s) L i lt off)

  rooted' : Rooted n (table_of n s')
  rooted' = subst (λ (u : Table). Rooted n u) (sym grows) (grown-rooted n (table_of n s) L i lt off (roots n h s small F))

  -- ---- its slots

  own_new : Own n h' (active_context (root_args k new l rec))
  own_new = record {
    supported = record { simulation = supported; dice = λ ne. absurd (ne refl); info = λ ne. absurd (ne refl); x509 = λ ne. absurd (ne refl) };
    idle = λ e. active-apart e;
    initialized = λ e q. (first q).0;
    child = λ e. active-retired e;
    locality = refl;
  }

  own_old : (x : ℕ) → x < n → Own n h' (s x)
  own_old x b =
      let o = own n s h x (F.sound x b) in
      record {
        supported = record {
          simulation = o.supported.simulation;
          dice = o.supported.dice;
          info = o.supported.info;
          x509 = o.supported.x509;
        };
        idle = o.idle;
        initialized = λ e q. stays (o.initialized e q);
        child = o.child;
        locality = o.locality;
      }

  owns : (x : ℕ) → x < n → Own n h' (s' x)
  owns x b = elim (ℕ_discrete x i) [ yes e ↦ rw (e, at) own_new | no ne ↦ rw (other x ne) (own_old x b) ]

  was-live : (x : ℕ) → x ≢ i → Live n s' x → Live n s x
  was-live x ne v = record { slot = v.slot; live = rw (other x ne) at v.live }

  was-active : (x : ℕ) → x ≢ i → ActiveIn n s' x → ActiveIn n s x
  was-active x ne v = record { slot = v.slot; active = rw (other x ne) at v.active }

  was-root : (x : ℕ) → x ≢ i → NormalRoot n s' x → NormalRoot n s x
  was-root x ne r = record { live = was-live x ne r.live; root = rw (other x ne) at r.root; normal = rw (other x ne) at r.normal }

  alike : Alike n s'
  alike x v ne = elim (ℕ_discrete x i) [
    | yes e ↦ absurd (ne (rw (e, at)))
    | no nx ↦
        let w = was-live x nx v in
        let a = (live_is n s x).1 w in
        let q = parent_is n s x a in
        let u : (s x).parent_idx ≢ no_parent = rw (other x nx) at ne in
        let p = (L.high x a (λ y. u (sym q ∙ y))).0 in
        let np : (s x).parent_idx ≢ i = λ y. clash p (rw (q ∙ y) off) in
        rw (other x nx) (F.alike x w u ∙ ap (λ (c : Context). c.context_type) (sym (other (s x).parent_idx np)))
  ]

  -- a Normal root is new only where there was none
  both_roots : (x : ℕ) → x ≢ i → NormalRoot n s' x → NormalRoot n s' i → ⊥
  both_roots x ne r r' =
      let w = was-root x ne r in
      none_normal n h s small F (first (rw at at r'.normal)).1 x w.live w.normal

  one_normal : OneNormal n s'
  one_normal a b p q = elim (ℕ_discrete a i) [
    | yes x ↦ elim (ℕ_discrete b i) [ yes y ↦ x ∙ sym y | no ny ↦ absurd (both_roots b ny q (rw x at p)) ]
    | no nx ↦ elim (ℕ_discrete b i) [ yes y ↦ absurd (both_roots a nx p (rw y at q)) | no ny ↦ F.one_normal a b (was-root a nx p) (was-root b ny q) ]
  ]

  alone : ¬ Crowded n s' l → Alone n s'
  alone f a b p q ne e d = elim (ℕ_discrete (s' a).locality l) [
    | yes w ↦ f (record { one = a; other = b; active_one = p; active_other = q; apart = ne; place_one = w; place_other = sym e ∙ w; default = d })
    | no nw ↦
        let na : a ≢ i = λ y. nw (rw (y, at)) in
        let nb : b ≢ i = λ y. nw (e ∙ rw (y, at)) in
        F.alone a b (was-active a na p) (was-active b nb q) ne (rw (other a na, other b nb) at e) (rw (other a na) at d)
  ]

  pub activated : ForestRule n h' s' ↔ (¬ Crowded n s' l)
  activated = (
    λ r. not_crowded n s' l r.alone,
    λ f. rule-of n s' small linked' rooted' h' F.marker F.version owns (alone f) alike one_normal,
  )

-- ---- of a table

zero_of : (b : ℕ) → is_on b ≡ false → b ≡ 0
zero_of b e = eqb-true b 0 (not-false _ e)

inactive-is : (x : ContextState) → is_inactive x ≡ true → x ≡ Inactive
inactive-is Inactive e = refl
inactive-is Active e = clash e refl
inactive-is Retired e = clash e refl

simulation-apart : {A : Type 0} → Simulation ≡ Normal → A
simulation-apart e = absurd (cc)

module _ (t : State) (F : Forest t) (i : ℕ) (free : Free slot_count (slot_of t.contexts) i) (k : ContextType) (new : List ℕ) (l : ℕ) (rec : Bool) where
  made : (init : ℕ) → (t.has_initialized ≢ 0 → init ≢ 0) → (k ≡ Simulation → marked t.support simulation_bit ≡ true)
      → (k ≡ Normal → (init ≢ 0) × (t.has_initialized ≡ 0))
      → ForestRule slot_count (record { marker = t.marker; version = t.version; support = t.support; initialized = init })
      (slot_of (set t.contexts i (active_context (root_args k new l rec))))
      ↔ (¬ Crowded slot_count (slot_of (set t.contexts i (active_context (root_args k new l rec)))) l)
  made init stays supported first =
      let w = long t F in
      let b = free.below in
      activated slot_count (header_of t) (slot_of t.contexts) few F i b (inactive-is _ free.idle) k new l rec init stays supported first _
      (get_or-set_same t.contexts i _ no_context (omega arith)) (λ j ne. get_or-set_other t.contexts i j _ no_context ne)

pub initialize_keeps : (t : State) → Forest t → (flags l : ℕ) (b : List ℕ)
    → Forest (initialized_of t flags l b).state ↔ (¬ Crowded slot_count (slot_of (initialized_of t flags l b).state.contexts) l)
initialize_keeps t F flags l b = elim (ended t flags l b) [
  | nothing_made e q ↦ rw q (λ r. not_crowded slot_count (slot_of t.contexts) l F.alone, λ f. F)
  | default_made d ↦ rw d.is (made t F d.slot d.free Normal default_handle l true 1 (λ ne q. omega arith) (λ e. simulation-apart (sym e)) (λ e. (λ q. omega arith, zero_of t.has_initialized d.first)))
  | simulation_made d ↦ rw d.is (made t F d.slot d.free Simulation d.handle l false t.has_initialized (λ ne. ne) (λ e. d.supported) (λ e. simulation-apart e))
]
