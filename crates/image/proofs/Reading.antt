-- Laws of reading a whole image. Assumes nothing.
use Rattle.std.specs.Prelude.{Result, Ok, Err}
use Rattle.std.specs.Result.{result_and}
use mathlib.Core.Path.{◌≡◌, refl, sym, ap, ◌∙◌}
use mathlib.Core.List.{List}
use Prim.Native.Nat.{ℕ, zero, suc, ◌+◌, ◌≤◌, ◌<◌}
use native.Mathlib.Decide.{ℕ_discrete}
use native.Mathlib.Numerals.{add-one}
use native.Mathlib.Omega.{arith}
use borrow.Author.Tests.{eq-eqb, ne_eqb}
use lib.ListN.{length, take, get_or, replicate}
use lib.Seq.{take_all}
use Rattle.error.specs.Numbers.{done}
use Rattle.error.specs.declared.DpeErrorCode.{DpeErrorCode}
use Rattle.error.specs.declared.DpeErrorCode.TheVariants.{Added}
use Rattle.error.specs.declared.AddedErrorCode.TheVariants.{BadLength}
use mathlib.Core.Bool.{true, false}
use Rattle.children.proofs.Cases.{clash, and-true, and_both, eqb-true}
use Rattle.children.specs.Below.{every, list_of}
use Rattle.children.specs.Marks.{slot_count}
use Rattle.children.proofs.Below.{every-at, at_every, list_of-at}
use Rattle.wire.specs.Le.{part, le}
use Rattle.context.specs.declared.Context.{Context}
use Rattle.table.specs.declared.state.State.{State}
use Rattle.context.specs.Context.{slot_of, no_context}
use Rattle.image_kinds.specs.Kinds.{context_answer}
use Rattle.image_kinds.proofs.Answers.{first_done, good_done, done_good}
use Rattle.image.specs.State.{support_at, state_size, slot_bytes, slot_in, decode_state, slots_answer, readable_of, good_slot, is_readable, read_state}

-- ---- the sizes and offsets that document 01 names

pub image-size : state_size ≡ 4624
image-size = refl

pub tail_offsets : (support_at ≡ 4616) × (support_at + 4 ≡ 4620) × (support_at + 6 ≡ 4622) × (support_at + 7 ≡ 4623)
tail_offsets = (refl, refl, refl, refl)

-- ---- the slots of an image

-- slot i of the table read is slot i of the image
pub state-slot : (l : List ℕ) (i : ℕ) → i < slot_count → slot_of (decode_state l).contexts i ≡ slot_in l i
unfolding decode_state
state-slot l i h = list_of-at (slot_in l) slot_count i no_context h

-- ---- what reading answers

module _ (l : List ℕ) where
  -- one slot more that is read, and one that refuses
  pub slots_on : (i : ℕ) → slots_answer i l ≡ done → context_answer (slot_bytes l i) ≡ done → slots_answer (i + 1) l ≡ done
  unfolding slots_answer
  slots_on i p q = rw (add-one i, slots_answer, p) q

  stay : (e : DpeErrorCode) (i n : ℕ) → i ≤ n → slots_answer i l ≡ Err e → slots_answer n l ≡ Err e
  unfolding slots_answer
  stay e i zero h p = let z : i ≡ 0 = omega arith in rw z at p
  stay e i (suc n) h p = elim (ℕ_discrete i (suc n)) [
    | yes q ↦ rw q at p
    | no ne ↦ rw (stay e i n (omega arith) p)
  ]

  pub slots_stop : (e : DpeErrorCode) (i n : ℕ) → i < n → slots_answer i l ≡ done → context_answer (slot_bytes l i) ≡ Err e → slots_answer n l ≡ Err e
  unfolding slots_answer
  slots_stop e i n h p q = stay e (suc i) n h (rw p q)

  -- every slot of an image that reads is good, and an image of good slots reads
  pub slots_good : (n : ℕ) → slots_answer n l ≡ done → (i : ℕ) → i < n → context_answer (slot_bytes l i) ≡ done
  unfolding slots_answer
  slots_good zero p i h = absurd (omega arith)
  slots_good (suc n) p i h =
      let w = first_done (slots_answer n l) (context_answer (slot_bytes l n)) p in
      elim (ℕ_discrete i n) [ yes q ↦ rw q w.1 | no ne ↦ slots_good n w.0 i (omega arith) ]

  pub good-slots : (n : ℕ) → ((i : ℕ) → i < n → context_answer (slot_bytes l i) ≡ done) → slots_answer n l ≡ done
  unfolding slots_answer
  good-slots zero f = refl
  good-slots (suc n) f = rw (good-slots n (λ i h. f i (omega arith))) (f n (omega arith))

  pub read_short : (length l ≡ state_size → ⊥) → Err (Added BadLength) ≡ readable_of l
  unfolding readable_of
  read_short h = rw (ne_eqb _ _ h)

  pub read-slots : length l ≡ state_size → slots_answer slot_count l ≡ readable_of l
  unfolding readable_of
  read-slots h = rw (eq-eqb _ _ h)

  -- an image reads where it is as long as one and every slot is good
  pub readable-size : readable_of l ≡ done → length l ≡ state_size
  readable-size p = elim (ℕ_discrete (length l) state_size) [
    | yes q ↦ q
    | no ne ↦ let r = read_short ne in absurd (let z : ◌≡◌ {A = ℕ} 0 1 = cc in omega arith)
  ]

  pub readable_good : readable_of l ≡ done → (i : ℕ) → i < slot_count → context_answer (slot_bytes l i) ≡ done
  readable_good p = slots_good slot_count (read-slots (readable-size p) ∙ p)

  pub good_readable : length l ≡ state_size → ((i : ℕ) → i < slot_count → context_answer (slot_bytes l i) ≡ done) → readable_of l ≡ done
  good_readable n f = sym (read-slots n) ∙ good-slots slot_count f

-- ---- whether it reads, in one pass

module _ (l : List ℕ) where
  pub is_short : (length l ≡ state_size → ⊥) → false ≡ is_readable l
  unfolding is_readable
  is_short h = rw (ne_eqb _ _ h)

  pub is_whole : length l ≡ state_size → every (good_slot l) slot_count ≡ is_readable l
  unfolding is_readable
  is_whole h = rw (eq-eqb _ _ h)

  pub readable_done : is_readable l ≡ true → readable_of l ≡ done
  unfolding is_readable
  readable_done e =
      let w = and-true _ _ e in
      good_readable l (eqb-true _ _ w.0) (λ i h. good_done (slot_bytes l i) (every-at (good_slot l) slot_count w.1 i h))

  done_readable : readable_of l ≡ done → is_readable l ≡ true
  unfolding is_readable
  done_readable p = and_both (eq-eqb _ _ (readable-size l p)) (at_every (good_slot l) slot_count (λ i h. done_good (slot_bytes l i) (readable_good l p i h)))

  by_answer : (o : Result Unit DpeErrorCode) → readable_of l ≡ o → is_readable l ≡ false → (x : DpeErrorCode) × (readable_of l ≡ Err x)
  by_answer (Ok tt) p e = clash (done_readable p) e
  by_answer (Err x) p e = (x, p)

  -- where it does not, a refusal says why
  pub not_readable : is_readable l ≡ false → (x : DpeErrorCode) × (readable_of l ≡ Err x)
  not_readable = by_answer (readable_of l) refl

-- ---- what reading gives

module _ (l : List ℕ) where
  pub read_done : readable_of l ≡ done → read_state l ≡ Ok (decode_state l)
  unfolding read_state
  read_done p = rw p

  pub read_refused : (e : DpeErrorCode) → readable_of l ≡ Err e → read_state l ≡ Err e
  unfolding read_state
  read_refused e p = rw p

  by_read : (o : Result Unit DpeErrorCode) (t : State) → result_and o (Ok (decode_state l)) ≡ Ok t → (o ≡ done) × (decode_state l ≡ t)
  by_read (Ok tt) t p = (refl, cc)
  by_read (Err e) t p = let q : ◌≡◌ {A = Result State DpeErrorCode} (Err e) (Ok t) = p in cc

  -- what is read is the table of an image that reads
  pub read_tells : (t : State) → read_state l ≡ Ok t → (readable_of l ≡ done) × (decode_state l ≡ t)
  unfolding read_state
  read_tells t p = by_read (readable_of l) t p

-- ---- what the code makes

pub slots_made : (l : List ℕ) (cs : List Context) (i : ℕ) → i ≡ slot_count → length cs ≡ slot_count → take i cs ≡ list_of (slot_in l) i → cs ≡ list_of (slot_in l) slot_count
slots_made l cs i e n t = sym (take_all slot_count cs (omega arith)) ∙ ap (λ (k : ℕ). take k cs) (sym e) ∙ t ∙ ap (list_of (slot_in l)) e

pub state_made : (l : List ℕ) {m v : ℕ} {cs : List Context} {p f : ℕ} → m ≡ le (part 0 4 l) → v ≡ le (part 4 4 l) → cs ≡ list_of (slot_in l) slot_count
    → p ≡ le (part support_at 4 l) → f ≡ le (part (support_at + 4) 2 l)
    → record { marker = m; version = v; contexts = cs; support = p; flags = f; has_initialized = get_or l (support_at + 6) 0; reserved = get_or l (support_at + 7) 0 } ≡ decode_state l
unfolding decode_state
state_made l em ev ec ep ef = cc
