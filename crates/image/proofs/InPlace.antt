-- Bytes put into an image in place, and the table that it then holds. Assumes nothing.
use mathlib.Core.Path.{◌≡◌, refl, sym, ap, ◌∙◌}
use mathlib.Core.Logic.{◌⊎◌, inl, inr}
use mathlib.Core.List.{List, [], ◌∷◌}
use Prim.Native.Nat.{ℕ, ◌+◌, ◌*◌, ◌^◌, ◌≤◌, ◌<◌}
use native.Mathlib.Decide.{ℕ_discrete}
use native.Mathlib.Nat.{add-zero}
use native.Mathlib.Omega.{arith}
use lib.ListN.{length, get_or, set, length-set}
use lib.Seq.{ext_get_or, get_or-set_same, get_or-set_other}
use Rattle.error.specs.Numbers.{done}
use Rattle.children.specs.Below.{list_of}
use Rattle.children.specs.Marks.{slot_count, mark_count}
use Rattle.children.proofs.Below.{list_of-at, list_of_same, length-list_of}
use Rattle.children.proofs.Cases.{order}
use Rattle.wire.specs.Le.{part, put, le, le_bytes, Bytes}
use Rattle.wire.proofs.Part.{length_part}
use Rattle.wire.proofs.Put.{length-put, put_all, part-put_own, part-put-other, get_or-put_own, get_or-put-other, part-put_in}
use Rattle.wire.proofs.Le.{bytes_none, bytes-cons, bytes-append, bytes-put, bytes-le_bytes, length-le_bytes, le-le_bytes}
use Rattle.handle.specs.Handle.{handle_size}
use Rattle.context.specs.Context.{slot_of, no_context, with_handle, with_children}
use Rattle.table.specs.State.{with_slot, with_initialized}
use Rattle.context.specs.declared.tci.TciNodeData.{TciNodeData}
use Rattle.context.specs.declared.Context.{Context}
use Rattle.table.specs.declared.state.State.{State}
use Rattle.image_context.specs.Fits.{Run, FitsTci, FitsContext}
use Rattle.image_kinds.specs.Kinds.{context_size, context_answer}
use Rattle.image_context.specs.Context.{decode_tci, decode_context, encode_tci, encode_last, encode_context}
use Rattle.image_context.proofs.Fields.{byte_type, byte_state}
use Rattle.image_context.proofs.Writing.{length_context}
use Rattle.image.specs.State.{contexts_at, support_at, state_size, slot_bytes, slot_in, decode_state, readable_of, encode_state}
use Rattle.image.proofs.Reading.{state-slot, readable-size, readable_good, good_readable}
use Rattle.image.proofs.RoundTrip.{state_back, context_again, context_reads}

-- ---- bytes put into slot j, from its byte k on

module _ (l : List ℕ) (n : length l ≡ state_size) (j k : ℕ) (v : List ℕ) (hj : j < slot_count) (hk : k + length v ≤ context_size) where
  abbrev there : ℕ
  there = contexts_at + context_size * j + k

  pub slot-put_own : slot_bytes (put there v l) j ≡ put k v (slot_bytes l j)
  slot-put_own = part-put_in (contexts_at + context_size * j) context_size k v l hk (omega arith)

  pub slot-put-other : (i : ℕ) → (i ≡ j → ⊥) → slot_bytes (put there v l) i ≡ slot_bytes l i
  slot-put-other i ne = part-put-other there v l (omega arith) (contexts_at + context_size * i) context_size (sides (order i j))
    where
      sides : (i < j) ⊎ (i ≡ j) ⊎ (j < i) → (contexts_at + context_size * i + context_size ≤ there) ⊎ (there + length v ≤ contexts_at + context_size * i)
      sides (inl u) = inl (omega arith)
      sides (inr (inl e)) = absurd (ne e)
      sides (inr (inr u)) = inr (omega arith)

  slots-put : list_of (slot_in (put there v l)) slot_count ≡ set (list_of (slot_in l) slot_count) j (decode_context (put k v (slot_bytes l j)))
  slots-put =
      let s = slot_in l in
      let s' = slot_in (put there v l) in
      let m : length (list_of s slot_count) ≡ slot_count = length-list_of s slot_count in
      let m' : length (list_of s' slot_count) ≡ slot_count = length-list_of s' slot_count in
      ext_get_or no_context (list_of s' slot_count) (set (list_of s slot_count) j _) (m' ∙ sym (length-set (list_of s slot_count) j _ ∙ m))
      (λ i u. list_of-at s' slot_count i no_context (omega arith) ∙ elim (ℕ_discrete i j) [
        | yes e ↦ rw e (ap decode_context slot-put_own ∙ sym (get_or-set_same (list_of s slot_count) j _ no_context (omega arith)))
        | no ne ↦ ap decode_context (slot-put-other i ne) ∙ sym (get_or-set_other (list_of s slot_count) j i _ no_context ne ∙ list_of-at s slot_count i no_context (omega arith))
      ])

  -- the table: slot j is what its new bytes say, and all else is as it was
  pub state-put-slot : decode_state (put there v l) ≡ with_slot (decode_state l) j (decode_context (put k v (slot_bytes l j)))
  unfolding decode_state
  state-put-slot =
      let h : there + length v ≤ length l = omega arith in
      let head : (a m : ℕ) → a + m ≤ contexts_at → part a m (put there v l) ≡ part a m l = λ a m u. part-put-other there v l h a m (inl (omega arith)) in
      let tail : (a m : ℕ) → support_at ≤ a → part a m (put there v l) ≡ part a m l = λ a m u. part-put-other there v l h a m (inr (omega arith)) in
      let byte : (a : ℕ) → support_at ≤ a → get_or (put there v l) a 0 ≡ get_or l a 0 = λ a u. get_or-put-other there v l h a (inr (omega arith)) in
      rw (
        slots-put,
        head 0 4 (omega arith),
        head 4 4 (omega arith),
        tail support_at 4 (omega arith),
        tail (support_at + 4) 2 (omega arith),
        byte (support_at + 6) (omega arith),
        byte (support_at + 7) (omega arith),
      )

-- ---- bytes put into one context

module _ (x : List ℕ) (n : length x ≡ context_size) where
  -- what is put before the type and the state byte changes no answer
  answer-put : (k : ℕ) (v : List ℕ) → k + length v ≤ 137 → context_answer (put k v x) ≡ context_answer x
  unfolding context_answer
  answer-put k v h = rw (get_or-put-other k v x (omega arith) 137 (inr (omega arith)), get_or-put-other k v x (omega arith) 138 (inr (omega arith)))

  handle-put : (h : List ℕ) → length h ≡ handle_size → decode_context (put 0 h x) ≡ with_handle (decode_context x) h
  unfolding decode_context decode_tci
  handle-put h e =
      let u : 0 + length h ≤ length x = omega arith in
      let own : part 0 16 (put 0 h x) ≡ h = ap (λ (m : ℕ). part 0 m (put 0 h x)) (sym e) ∙ part-put_own 0 h x u in
      let run : (a m : ℕ) → 16 ≤ a → part a m (put 0 h x) ≡ part a m x = λ a m g. part-put-other 0 h x u a m (inr (omega arith)) in
      let byte : (a : ℕ) → 16 ≤ a → get_or (put 0 h x) a 0 ≡ get_or x a 0 = λ a g. get_or-put-other 0 h x u a (inr (omega arith)) in
      rw (
        own,
        run 16 4 (omega arith),
        run 20 48 (omega arith),
        run 68 48 (omega arith),
        run 116 4 (omega arith),
        run 120 4 (omega arith),
        run 124 8 (omega arith),
        run 132 4 (omega arith),
        byte 136 (omega arith),
        byte 137 (omega arith),
        byte 138 (omega arith),
        byte 139 (omega arith),
        byte 140 (omega arith),
        byte 141 (omega arith),
        byte 142 (omega arith),
        byte 143 (omega arith),
      )

  children-put : (m : ℕ) → m < 2 ^ mark_count → decode_context (put 124 (le_bytes 8 m) x) ≡ with_children (decode_context x) m
  unfolding decode_context decode_tci
  children-put m g =
      let v = le_bytes 8 m in
      let e : length v ≡ 8 = length-le_bytes 8 m in
      let u : 124 + length v ≤ length x = omega arith in
      let own : le (part 124 8 (put 124 v x)) ≡ m = ap le (ap (λ (i : ℕ). part 124 i (put 124 v x)) (sym e) ∙ part-put_own 124 v x u) ∙ le-le_bytes 8 m g in
      let before : (a i : ℕ) → a + i ≤ 124 → part a i (put 124 v x) ≡ part a i x = λ a i g. part-put-other 124 v x u a i (inl g) in
      let byte : (a : ℕ) → 132 ≤ a → get_or (put 124 v x) a 0 ≡ get_or x a 0 = λ a g. get_or-put-other 124 v x u a (inr (omega arith)) in
      rw (
        before 0 16 (omega arith),
        before 16 4 (omega arith),
        before 20 48 (omega arith),
        before 68 48 (omega arith),
        before 116 4 (omega arith),
        before 120 4 (omega arith),
        own,
        part-put-other 124 v x u 132 4 (inr (omega arith)),
        byte 136 (omega arith),
        byte 137 (omega arith),
        byte 138 (omega arith),
        byte 139 (omega arith),
        byte 140 (omega arith),
        byte 141 (omega arith),
        byte 142 (omega arith),
        byte 143 (omega arith),
      )

bytes-tci : (t : TciNodeData) → FitsTci t → Bytes (encode_tci t)
unfolding encode_tci
bytes-tci t f =
    bytes-append (bytes-append (bytes-append (bytes-append (bytes-le_bytes 4 t.tci_type) f.cumulative.bytes) f.current.bytes) (bytes-le_bytes 4 t.locality))
    (bytes-le_bytes 4 t.svn)

bytes_last : (c : Context) → FitsContext c → Bytes (encode_last c)
unfolding encode_last
bytes_last c f =
    let t = byte_type c.context_type in
    let s = byte_state c.state in
    bytes-cons f.parent (bytes-cons (omega arith) (bytes-cons (omega arith) (bytes-cons f.info (bytes-cons f.dice
    (bytes-cons f.x509 (bytes-cons f.export (bytes-cons f.recursive bytes_none)))))))

pub bytes_context : (c : Context) → FitsContext c → Bytes (encode_context c)
unfolding encode_context
bytes_context c f =
    bytes-append (bytes-append (bytes-append (bytes-append f.handle.bytes (bytes-tci c.tci f.tci)) (bytes-le_bytes 8 c.children)) (bytes-le_bytes 4 c.locality))
    (bytes_last c f)

-- ---- an image and its table

-- the bytes l are an image that reads, and its table is t
pub record ImageOf (l : List ℕ) (t : State) : Type 0 where
  pub reads : readable_of l ≡ done
  pub bytes : Bytes l
  pub table : decode_state l ≡ t

-- an image that reads is that of its table, and it is what writing that table gives
pub image-of : (l : List ℕ) → Bytes l → readable_of l ≡ done → ImageOf l (decode_state l)
image-of l b r = record { reads = r; bytes = b; table = refl }

pub image-written : (l : List ℕ) (t : State) → ImageOf l t → encode_state t ≡ l
image-written l t o = ap encode_state (sym o.table) ∙ state_back l o.bytes o.reads

pub image-slot : (l : List ℕ) (t : State) → ImageOf l t → (i : ℕ) → i < slot_count → slot_in l i ≡ slot_of t.contexts i
image-slot l t o i h = sym (state-slot l i h) ∙ ap (λ (x : State). slot_of x.contexts i) o.table

module _ (l : List ℕ) (t : State) (o : ImageOf l t) (j : ℕ) (hj : j < slot_count) where
  -- bytes put into slot j, where the slot still reads
  pub slot_in-place : (k : ℕ) (v : List ℕ) → k + length v ≤ context_size → Bytes v → context_answer (put k v (slot_bytes l j)) ≡ done
      → ImageOf (put (contexts_at + context_size * j + k) v l) (with_slot t j (decode_context (put k v (slot_bytes l j))))
  slot_in-place k v hk b a =
      let n = readable-size l o.reads in record {
        reads = good_readable _ (length-put _ v l (omega arith) ∙ n) (λ i h. elim (ℕ_discrete i j) [
          | yes e ↦ rw e (ap context_answer (slot-put_own l n j k v hj hk) ∙ a)
          | no ne ↦ ap context_answer (slot-put-other l n j k v hj hk i ne) ∙ readable_good l o.reads i h
        ]);
        bytes = bytes-put _ b o.bytes;
        table = state-put-slot l n j k v hj hk ∙ ap (λ (x : State). with_slot x j (decode_context (put k v (slot_bytes l j)))) o.table;
      }

  sized : length (slot_bytes l j) ≡ context_size
  sized = let n = readable-size l o.reads in length_part (contexts_at + context_size * j) context_size l (omega arith)

  good : context_answer (slot_bytes l j) ≡ done
  good = readable_good l o.reads j hj

  -- the offset of a slot's first byte
  at_first : (v : List ℕ) {s : State} → ImageOf (put (contexts_at + context_size * j + 0) v l) s → ImageOf (put (contexts_at + context_size * j) v l) s
  at_first v i = rw add-zero at i

  -- another handle
  pub handle_in-place : (h : List ℕ) → Run handle_size h → ImageOf (put (contexts_at + context_size * j) h l) (with_slot t j (with_handle (slot_of t.contexts j) h))
  handle_in-place h r =
      let e = r.size in
      let i = slot_in-place 0 h (omega arith) r.bytes (answer-put (slot_bytes l j) sized 0 h (omega arith) ∙ good) in
      let q = handle-put (slot_bytes l j) sized h e in
      at_first h (rw (q, image-slot l t o j hj) at i)

  -- other children
  pub children_in-place : (m : ℕ) → m < 2 ^ mark_count → ImageOf (put (contexts_at + context_size * j + 124) (le_bytes 8 m) l) (with_slot t j (with_children (slot_of t.contexts j) m))
  children_in-place m g =
      let e = length-le_bytes 8 m in
      let i = slot_in-place 124 (le_bytes 8 m) (omega arith) (bytes-le_bytes 8 m) (answer-put (slot_bytes l j) sized 124 (le_bytes 8 m) (omega arith) ∙ good) in
      let q = children-put (slot_bytes l j) sized m g in
      rw (q, image-slot l t o j hj) at i

  -- another context
  pub context_in-place : (c : Context) → FitsContext c → ImageOf (put (contexts_at + context_size * j) (encode_context c) l) (with_slot t j c)
  context_in-place c f =
      let e = length_context c f in
      let w : put 0 (encode_context c) (slot_bytes l j) ≡ encode_context c = put_all (encode_context c) (slot_bytes l j) (e ∙ sym sized) in
      let i = slot_in-place 0 (encode_context c) (omega arith) (bytes_context c f) (ap context_answer w ∙ context_reads c f) in
      at_first (encode_context c) (rw (w, context_again c f) at i)

-- the table marked as initialised
pub initialized_in-place : (l : List ℕ) (t : State) → ImageOf l t → ImageOf (put (support_at + 6) (1 ∷ []) l) (with_initialized t)
unfolding decode_state
initialized_in-place l t o =
    let n = readable-size l o.reads in
    let v : List ℕ = 1 ∷ [] in
    let l' = put (support_at + 6) v l in
    let h : support_at + 6 + length v ≤ length l = omega arith in
    let own : get_or l' (support_at + 6) 0 ≡ 1 = get_or-put_own (support_at + 6) v l h 0 (omega arith) in
    let run : (a m : ℕ) → a + m ≤ support_at + 6 → part a m l' ≡ part a m l = λ a m u. part-put-other (support_at + 6) v l h a m (inl u) in
    let slot : (i : ℕ) → i < slot_count → slot_bytes l' i ≡ slot_bytes l i = λ i u. run (contexts_at + context_size * i) context_size (omega arith) in record {
      reads = good_readable l' (length-put (support_at + 6) v l h ∙ n) (λ i u. ap context_answer (slot i u) ∙ readable_good l o.reads i u);
      bytes = bytes-put (support_at + 6) (bytes-cons (omega arith) bytes_none) o.bytes;
      table =
          rw (
            list_of_same (slot_in l') (slot_in l) slot_count (λ i u. ap decode_context (slot i u)),
            run 0 4 (omega arith),
            run 4 4 (omega arith),
            run support_at 4 (omega arith),
            run (support_at + 4) 2 (omega arith),
            own,
            get_or-put-other (support_at + 6) v l h (support_at + 7) (inr (omega arith)),
          ) (ap with_initialized o.table);
    }
