-- Laws of the choice: what a candidate that was taken satisfies, what each refusal says, and that only the slots below n count. Assumes nothing.
use Rattle.std.specs.Prelude.{Result, Ok, Err}
use mathlib.Core.Path.{◌≡◌, refl, sym, ap, ◌∙◌}
use mathlib.Core.Logic.{◌⊎◌, inl, inr}
use mathlib.Core.Bool.{Bool, true, false, cond, not, ◌&&◌}
use mathlib.Core.List.{List}
use Prim.Native.Nat.{ℕ, ◌+◌, ◌*◌, ◌-◌, ◌≤◌, ◌<◌}
use native.Mathlib.Decide.{dec_lt}
use native.Mathlib.Numerals.{add-one}
use native.Mathlib.Omega.{arith}
use borrow.Author.Tests.{lt-ltb, le-ltb, le-leb, lt-leb}
use lib.Dec.{ltb}
use lib.ListN.{length, take, drop, get_or, set, length-take, length-drop}
use lib.Seq.{take-suc, take-suc-set, get_or-drop}
use Rattle.error.specs.declared.DpeErrorCode.{DpeErrorCode}
use Rattle.error.specs.declared.DpeErrorCode.TheVariants.{InternalError, Added}
use Rattle.error.specs.declared.InternalErrorCode.TheVariants.{HandleGenerationExhausted}
use Rattle.error.specs.declared.AddedErrorCode.TheVariants.{CandidatesShort}
use Rattle.children.specs.Below.{some, lowest_from, lowest}
use Rattle.children.proofs.Cases.{clash, order, and-true, and_both, and_right, not-true, leb-true}
use Rattle.children.proofs.Below.{low-here, low_on, low_end, low_bare, low_passes, low_ge, low_same, none-at, some_same}
use Rattle.context.specs.declared.Context.{Context}
use Rattle.handle.specs.Handle.{handle_size, same_bytes, default_handle, is_default}
use Rattle.context.proofs.Bytes.{same_iff}
use Rattle.candidates.specs.Candidates.{attempts, candidate_at, holds, has_handle, usable, usable_at, none_usable, chosen_in}

-- one byte more is copied from place a on
pub copy-next : (h b : List ℕ) (a i : ℕ) → i < length h → a + i < length b → take i h ≡ take i (drop a b)
    → take (i + 1) (set h i (get_or b (a + i) 0)) ≡ take (i + 1) (drop a b)
copy-next h b a i hh hb e =
    let hd : i < length (drop a b) = simp length-drop (omega arith) in
    rw (add-one i, take-suc-set h i _ hh, take-suc (drop a b) i 0 hd, get_or-drop a b i 0, e)

-- ---- usable, by what is known of the handle

module _ (n : ℕ) (s : ℕ → Context) (h : List ℕ) where
  pub unusable-default : is_default h ≡ true → usable n s h ≡ false
  unfolding usable
  unusable-default e = rw e

  pub unusable_held : some (has_handle s h) n ≡ true → usable n s h ≡ false
  unfolding usable
  unusable_held e = and_right (not (is_default h)) (rw e)

  pub usable_free : is_default h ≡ false → some (has_handle s h) n ≡ false → usable n s h ≡ true
  unfolding usable
  usable_free e f = rw (e, f)

  usable_tells : usable n s h ≡ true → (is_default h ≡ false) × (some (has_handle s h) n ≡ false)
  unfolding usable
  usable_tells e = let x = and-true _ _ e in (not-true _ x.0, not-true _ x.1)

module _ (n : ℕ) (s : ℕ → Context) (b : List ℕ) where
  -- ---- the ways out of the search

  pub chosen_at : (k : ℕ) → lowest (usable_at n s b) attempts ≡ k → k < attempts → Ok (candidate_at b k) ≡ chosen_in n s b
  unfolding chosen_in
  chosen_at k e l = rw (e, lt-ltb k attempts l)

  pub chosen_exhausted : attempts ≤ lowest (usable_at n s b) attempts → attempts * handle_size ≤ length b
      → Err (InternalError HandleGenerationExhausted) ≡ chosen_in n s b
  unfolding chosen_in
  chosen_exhausted l f = rw (le-ltb _ _ l, le-leb _ _ f)

  pub chosen_short : attempts ≤ lowest (usable_at n s b) attempts → length b < attempts * handle_size
      → Err (Added CandidatesShort) ≡ chosen_in n s b
  unfolding chosen_in
  chosen_short l f = rw (le-ltb _ _ l, lt-leb _ _ f)

  -- where candidate k is absent, no later one is usable
  absent : (g k : ℕ) → length b < (k + 1) * handle_size → k + g ≤ lowest_from (usable_at n s b) g k
  absent g k l = elim (dec_lt (lowest_from (usable_at n s b) g k) (k + g)) [
    | no nl ↦ omega arith
    | yes m ↦
        let j = lowest_from (usable_at n s b) g k in
        let w : (j + 1) * handle_size ≤ length b = leb-true _ _ (and-true _ _ (low_passes (usable_at n s b) g k m)).0 in
        absurd (omega (arith, low_ge (usable_at n s b) g k))
  ]

  -- ---- a turn of the search, at candidate k

  module _ (k : ℕ) (on : lowest_from (usable_at n s b) (attempts - k) k ≡ lowest (usable_at n s b) attempts) where
    pub turn_short : k < attempts → length b < (k + 1) * handle_size → Err (Added CandidatesShort) ≡ chosen_in n s b
    turn_short l f = let a = absent (attempts - k) k f in chosen_short (omega arith) (omega arith)

    pub turn_on : k < attempts → usable n s (candidate_at b k) ≡ false
        → lowest_from (usable_at n s b) (attempts - (k + 1)) (k + 1) ≡ lowest (usable_at n s b) attempts
    turn_on l u = sym (low_on (usable_at n s b) attempts k l (and_right (holds b (k + 1)) u)) ∙ on

    pub turn_taken : k < attempts → (k + 1) * handle_size ≤ length b → usable n s (candidate_at b k) ≡ true → Ok (candidate_at b k) ≡ chosen_in n s b
    turn_taken l f u = chosen_at k (sym on ∙ low-here (usable_at n s b) attempts k l (and_both (le-leb _ _ f) u)) l

    pub turn_end : k ≡ attempts → k * handle_size ≤ length b → Err (InternalError HandleGenerationExhausted) ≡ chosen_in n s b
    turn_end e f = let z = low_end (usable_at n s b) attempts k (omega arith) in chosen_exhausted (omega arith) (omega arith)

-- ---- what the choice tells

-- h was taken: it is one of the first eight parts of b, 16 bytes long, not all zero, unequal to the handle of every slot, and no earlier part is usable
pub record Taken (n : ℕ) (s : ℕ → Context) (b h : List ℕ) : Type 0 where
  pub place : ℕ
  pub tried : place < attempts
  pub there : (place + 1) * handle_size ≤ length b
  pub is : h ≡ candidate_at b place
  pub sized : length h ≡ handle_size
  pub nonzero : h ≡ default_handle → ⊥
  pub unheld : (i : ℕ) → i < n → (s i).handle ≡ h → ⊥
  pub first : (j : ℕ) → j < place → usable_at n s b j ≡ false

-- none was taken: no part of the eight is usable, and e says whether the buffer holds eight
pub record Untaken (n : ℕ) (s : ℕ → Context) (b : List ℕ) (e : DpeErrorCode) : Type 0 where
  pub bare : (k : ℕ) → k < attempts → usable_at n s b k ≡ false
  pub why : ((e ≡ InternalError HandleGenerationExhausted) × (attempts * handle_size ≤ length b)) ⊎ ((e ≡ Added CandidatesShort) × (length b < attempts * handle_size))

differ : {a b : List ℕ} → same_bytes a b ≡ false → a ≡ b → ⊥
differ {a} {b} f e = clash ((same_iff a b).1 e) f

pub same_refused : {T : Type 0} {e f : DpeErrorCode} → ◌≡◌ {A = Result T DpeErrorCode} (Err e) (Err f) → e ≡ f
same_refused p = cc

pub never_done : {A T : Type 0} {x : T} {e : DpeErrorCode} → ◌≡◌ {A = Result T DpeErrorCode} (Ok x) (Err e) → A
never_done p = absurd (let z : ◌≡◌ {A = ℕ} 0 1 = cc in omega arith)

same_taken : {h h' : List ℕ} → ◌≡◌ {A = Result (List ℕ) DpeErrorCode} (Ok h) (Ok h') → h ≡ h'
same_taken p = cc

module _ (n : ℕ) (s : ℕ → Context) (b : List ℕ) where
  at_low : (k : ℕ) → lowest (usable_at n s b) attempts ≡ k → k < attempts → Taken n s b (candidate_at b k)
  at_low k e l =
      let x = and-true _ _ (rw e at (low_passes (usable_at n s b) attempts 0 (omega arith))) in
      let f : (k + 1) * handle_size ≤ length b = leb-true _ _ x.0 in
      let u = usable_tells n s (candidate_at b k) x.1 in
      record {
        place = k;
        tried = l;
        there = f;
        is = refl;
        sized = simp (length-take, length-drop) (omega arith);
        nonzero = differ u.0;
        unheld = λ i h. differ (none-at (has_handle s (candidate_at b k)) n i u.1 h);
        first = λ j h. low_bare (usable_at n s b) attempts 0 j (omega arith) (omega arith);
      }

  -- a candidate was taken, or none of the eight is usable
  ways : {A : Type 0}
      → ((k : ℕ) → Taken n s b (candidate_at b k) → chosen_in n s b ≡ Ok (candidate_at b k) → A)
      → (((k : ℕ) → k < attempts → usable_at n s b k ≡ false) → attempts * handle_size ≤ length b → chosen_in n s b ≡ Err (InternalError HandleGenerationExhausted) → A)
      → (((k : ℕ) → k < attempts → usable_at n s b k ≡ false) → length b < attempts * handle_size → chosen_in n s b ≡ Err (Added CandidatesShort) → A)
      → A
  ways f g r = elim (dec_lt (lowest (usable_at n s b) attempts) attempts) [
    | yes l ↦ f (lowest (usable_at n s b) attempts) (at_low _ refl l) (sym (chosen_at n s b _ refl l))
    | no nl ↦
        let a : attempts ≤ lowest (usable_at n s b) attempts = omega arith in
        let bare : (k : ℕ) → k < attempts → usable_at n s b k ≡ false = λ k h. low_bare (usable_at n s b) attempts 0 k (omega arith) (omega arith) in
        elim (dec_lt (length b) (attempts * handle_size)) [
          | yes h ↦ r bare h (sym (chosen_short n s b a h))
          | no nh ↦ g bare (omega arith) (sym (chosen_exhausted n s b a (omega arith)))
        ]
  ]

  pub taken : (h : List ℕ) → chosen_in n s b ≡ Ok h → Taken n s b h
  taken h e = ways (λ k t q. rw (same_taken (sym q ∙ e)) at t) (λ f l q. never_done (sym e ∙ q)) (λ f l q. never_done (sym e ∙ q))

  pub untaken : (e : DpeErrorCode) → chosen_in n s b ≡ Err e → Untaken n s b e
  untaken e p =
      ways
      (λ k t q. never_done (sym q ∙ p))
      (λ f l q. record { bare = f; why = inl (same_refused (sym p ∙ q), l) })
      (λ f l q. record { bare = f; why = inr (same_refused (sym p ∙ q), l) })

  -- and back: the first usable candidate of the eight is the one taken
  pub first_taken : (k : ℕ) → k < attempts → usable_at n s b k ≡ true → ((j : ℕ) → j < k → usable_at n s b j ≡ false)
      → chosen_in n s b ≡ Ok (candidate_at b k)
  first_taken k l u f = elim (order (lowest (usable_at n s b) attempts) k) [
    | inl a ↦ clash (low_passes (usable_at n s b) attempts 0 (omega arith)) (f _ a)
    | inr (inl e) ↦ sym (chosen_at n s b k e l)
    | inr (inr a) ↦ clash u (low_bare (usable_at n s b) attempts 0 k (omega arith) a)
  ]

  pub none_taken : ((k : ℕ) → k < attempts → usable_at n s b k ≡ false) → chosen_in n s b ≡ none_usable b
  unfolding chosen_in
  none_taken f = elim (dec_lt (lowest (usable_at n s b) attempts) attempts) [
    | yes l ↦ clash (low_passes (usable_at n s b) attempts 0 (omega arith)) (f _ l)
    | no nl ↦ rw (le-ltb (lowest (usable_at n s b) attempts) attempts (omega arith))
  ]

-- only the handles of the slots below n count
module _ (n : ℕ) (s s' : ℕ → Context) (same : (i : ℕ) → i < n → (s i).handle ≡ (s' i).handle) where
  pub usable_same : (h : List ℕ) → usable n s h ≡ usable n s' h
  unfolding usable
  usable_same h =
      ap (λ (x : Bool). not (is_default h) && not x)
      (some_same (has_handle s h) (has_handle s' h) n (λ i b. ap (λ (x : List ℕ). same_bytes x h) (same i b)))

  pub chosen_same : (b : List ℕ) → chosen_in n s b ≡ chosen_in n s' b
  unfolding chosen_in
  chosen_same b =
      ap (λ (k : ℕ). cond (ltb k attempts) (Ok (candidate_at b k)) (none_usable b))
      (low_same (usable_at n s b) (usable_at n s' b) attempts 0 (λ k l m. ap (λ (x : Bool). holds b (k + 1) && x) (usable_same (candidate_at b k))))

-- ---- what the attribute of generate_new_handle cites

pub ruleset usables = (unusable-default)
