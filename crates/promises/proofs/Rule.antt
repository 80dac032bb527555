-- The rule of a table, slot by slot and over its links: what each slot says of itself, and that parents and marks agree. Assumes nothing.
use mathlib.Core.Path.{◌≡◌, refl, sym, ◌∙◌}
use mathlib.Core.Logic.{◌≢◌}
use mathlib.Core.Bool.{true}
use Prim.Native.Nat.{ℕ, ◌≤◌, ◌<◌}
use native.Mathlib.Decide.{dec_lt}
use native.Mathlib.Omega.{arith}
use lib.Dec.{ltb}
use lib.ListN.{length, get_or-eq_default}
use Rattle.children.specs.Below.{count}
use Rattle.children.specs.Marks.{slot_count, mark_count, marked}
use Rattle.children.proofs.Cases.{clash, and-true}
use Rattle.children.proofs.Below.{count_pos}
use Rattle.context.specs.declared.ContextState.{ContextState}
use Rattle.context.specs.declared.ContextState.TheVariants.{Inactive, Active, Retired}
use Rattle.context.specs.declared.ContextType.TheVariants.{Normal}
use Rattle.context.specs.declared.Context.{Context}
use Rattle.table.specs.declared.state.State.{State}
use Rattle.context.specs.Context.{no_context, is_retired, slot_of}
use Rattle.table.specs.State.{magic, version_number}
use Rattle.forest.specs.Links.{Linked, Rooted}
use Rattle.forest.proofs.Slots.{fits_in}
use Rattle.links.specs.Summary.{live_at, retired_at, parent_at, kids_at, table_of}
use Rattle.verdict.specs.Tests.{Header, header_of}
use Rattle.verdict.specs.Rule.{Supported, Idle, Live, Tied, HasChild, InState, Sound, Alone, Alike, OneNormal, ForestRule, Forest}
use Rattle.verdict.proofs.Trees.{live_is, parent_is, linked, rooted_iff}

-- what the rule says of a context by itself
pub record Own (n : ℕ) (h : Header) (c : Context) : Type 0 where
  pub supported : Supported h c
  pub idle : c.state ≡ Inactive → Idle c
  pub initialized : c.state ≡ Active → c.context_type ≡ Normal → h.initialized ≢ 0
  pub child : c.state ≡ Retired → HasChild n c
  pub locality : c.locality ≡ c.tci.locality

-- a state is not another
pub active-apart : {A : Type 0} → Active ≡ Inactive → A
active-apart e = absurd (cc)

pub retired-apart : {A : Type 0} → Retired ≡ Inactive → A
retired-apart e = absurd (cc)

pub active-retired : {A : Type 0} → Active ≡ Retired → A
active-retired e = absurd (cc)

pub retired_is : (x : ContextState) → is_retired x ≡ true → x ≡ Retired
retired_is Inactive e = clash e refl
retired_is Active e = clash e refl
retired_is Retired e = refl

module _ (n : ℕ) (s : ℕ → Context) where
  -- the marks of a slot are those of its links
  pub mark_same : (p c : ℕ) → p < n → c < mark_count → marked (s p).children c ≡ (table_of n s).mark p c
  mark_same p c h k = fits_in n (live_at s) (retired_at s) (parent_at s) (kids_at s) p c h k

  pub own : (h : Header) (i : ℕ) → Sound n h s i → Own n h (s i)
  own h i r = record {
    supported = r.supported;
    idle = λ e. rw e at r.in_state;
    initialized = λ e. let q : InState Active n h s i = rw e at r.in_state in q.0;
    child = λ e. let q : InState Retired n h s i = rw e at r.in_state in q.1;
    locality = r.locality;
  }

  module _ (few : n ≤ mark_count) (L : Linked n (table_of n s)) where
    tied : (i : ℕ) → Live n s i → Tied n s i
    tied i v =
        let l = (live_is n s i).1 v in
        let lt = v.slot in
        record {
          parent = λ ne.
              let e = parent_is n s i l in
              let r = L.high i l (λ q. ne (sym e ∙ q)) in
              let p = (live_is n s (parent_at s i)).0 (rw e at r.0) in
              (p, mark_same (parent_at s i) i p.slot (omega arith) ∙ (rw e at r.1));
          children = λ c k m.
              let r = L.low i c (sym (mark_same i c lt k) ∙ m) in
              ((live_is n s c).0 r.1, sym (parent_is n s c r.1) ∙ r.2);
        }

    in_state : (x : ContextState) (h : Header) (i : ℕ) → (s i).state ≡ x → i < n → Own n h (s i) → InState x n h s i
    in_state Inactive h i e lt o = o.idle e
    in_state Active h i e lt o = (o.initialized e, tied i (record { slot = lt; live = λ q. active-apart (sym e ∙ q) }))
    in_state Retired h i e lt o = (tied i (record { slot = lt; live = λ q. retired-apart (sym e ∙ q) }), o.child e)

    -- the rule, from what each slot says of itself and the links
    pub rule-of : Rooted n (table_of n s) → (h : Header) → h.marker ≡ magic → h.version ≡ version_number → ((i : ℕ) → i < n → Own n h (s i))
        → Alone n s → Alike n s → OneNormal n s → ForestRule n h s
    rule-of R h m v o a k u = record {
      marker = m;
      version = v;
      sound = λ i lt. record { supported = (o i lt).supported; in_state = in_state (s i).state h i refl lt (o i lt); locality = (o i lt).locality };
      alone = a;
      alike = k;
      one_normal = u;
      rooted = (rooted_iff n s L).0 R;
    }

-- ---- and back

module _ (n : ℕ) (h : Header) (s : ℕ → Context) (few : n ≤ mark_count) (F : ForestRule n h s) where
  pub links : Linked n (table_of n s)
  links = linked n s h few F.sound

  pub roots : Rooted n (table_of n s)
  roots = (rooted_iff n s links).1 F.rooted

  -- a retired slot has a child
  pub dangles : (p : ℕ) → (table_of n s).retired p ≡ true → 0 < count ((table_of n s).mark p) n
  dangles p e =
      let lt = links.small p (links.old p e) in
      let c = (own n s h p (F.sound p lt)).child (retired_is (s p).state (and-true (ltb p n) _ e).1) in
      let k = c.1 in
      count_pos ((table_of n s).mark p) n c.0 k (sym (mark_same n s p c.0 lt (omega arith)) ∙ c.2)

-- ---- of a table

pub few : slot_count ≤ mark_count
few = omega arith

-- a yes has a context for every slot: past the end stands none that is sound
pub long : (t : State) → Forest t → slot_count ≤ length t.contexts
long t F = elim (dec_lt (length t.contexts) slot_count) [
  | no nl ↦ omega arith
  | yes lt ↦
      let q : slot_of t.contexts (length t.contexts) ≡ no_context = get_or-eq_default t.contexts no_context (omega arith) in
      let o : Own slot_count (header_of t) no_context = rw q at (own slot_count (slot_of t.contexts) (header_of t) (length t.contexts) (F.sound _ lt)) in
      let z = (o.idle refl).parent in
      absurd (omega arith)
]
