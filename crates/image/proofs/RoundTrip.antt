-- Read then write gives the same bytes, and write then read the same table. Assumes nothing.
use mathlib.Core.Path.{◌≡◌, refl, sym, ap, ◌∙◌}
use mathlib.Core.List.{List, [], ◌∷◌, ◌++◌, append_assoc}
use Prim.Native.Nat.{ℕ, zero, suc, ◌+◌, ◌*◌, ◌≤◌, ◌<◌}
use native.Mathlib.Nat.{add-zero}
use native.Mathlib.Omega.{arith}
use lib.ListN.{length, drop}
use mir.Val.{Val}
use denote.Laws.{Is}
use lib.Seq.{take_all, ext_get_or}
use Rattle.std.specs.Prelude.{Ok}
use Rattle.error.specs.Numbers.{done}
use Rattle.children.specs.Below.{list_of}
use Rattle.children.specs.Marks.{slot_count}
use Rattle.children.proofs.Below.{list_of-at, length-list_of}
use Rattle.wire.specs.Le.{part, le_bytes, Bytes}
use Rattle.wire.proofs.Part.{length_part, part_on, byte_on, next_run, next_byte}
use Rattle.wire.proofs.Le.{bytes-part, length-le_bytes, le-le_bytes, number_back}
use Rattle.context.specs.Context.{slot_of, no_context}
use Rattle.table.specs.contracts.state.State.{the_row}
use Rattle.context.specs.declared.tci.TciNodeData.{TciNodeData}
use Rattle.context.specs.declared.Context.{Context}
use Rattle.table.specs.declared.state.State.{State}
use Rattle.image_context.specs.Fits.{FitsTci, FitsContext}
use Rattle.image_kinds.specs.Kinds.{context_size, type_byte_in, state_byte_in, context_answer}
use Rattle.image_context.specs.Context.{decode_tci, decode_context, encode_tci, encode_last, encode_context}
use Rattle.image_kinds.proofs.Answers.{done-bytes, bytes_done}
use Rattle.image_context.proofs.Fields.{type_byte_lem, state_byte_lem, byte_type, byte_state}
use Rattle.image_context.proofs.Writing.{length_context}
use Rattle.image.specs.Fits.{Fits}
use Rattle.image.specs.State.{contexts_at, support_at, state_size, slot_bytes, slot_in, decode_state, readable_of, read_state, encode_slots, encode_state, written}
use Rattle.image.proofs.Owned.{owned_fits}
use Rattle.image.proofs.Reading.{readable-size, readable_good, good_readable, read_done, read_tells}
use Rattle.image.proofs.Writing.{encode_slots_snoc, length_all, length_state, write_whole}

-- ---- read, then write

module _ (l : List ℕ) (n : length l ≡ context_size) (b : Bytes l) where
  tci_back : encode_tci (decode_tci l) ≡ part 16 108 l
  unfolding encode_tci decode_tci
  tci_back =
      part_on l 16 104 4
      (part_on l 16 100 4
      (part_on l 16 52 48
      (part_on l 16 4 48 (number_back l 16 4 b (omega arith)) refl)
      refl)
      (number_back l 116 4 b (omega arith)))
      (number_back l 120 4 b (omega arith))

  last_back : type_byte_in l < 2 → state_byte_in l < 3 → encode_last (decode_context l) ≡ part 136 8 l
  unfolding encode_last decode_context
  last_back t s =
      rw (type_byte_lem (type_byte_in l) t, state_byte_lem (state_byte_in l) s)
      (byte_on l 136 7 (omega arith) (byte_on l 137 6 (omega arith) (byte_on l 138 5 (omega arith) (byte_on l 139 4 (omega arith)
      (byte_on l 140 3 (omega arith) (byte_on l 141 2 (omega arith) (byte_on l 142 1 (omega arith) (byte_on l 143 0 (omega arith) refl))))))))

  -- a context that was read is written as the bytes that it was read from
  pub context_back : context_answer l ≡ done → encode_context (decode_context l) ≡ l
  unfolding encode_context decode_context
  context_back h =
      let w = done-bytes l h in
      part_on l 0 136 8
      (part_on l 0 132 4
      (part_on l 0 124 8
      (part_on l 0 16 108 refl tci_back)
      (number_back l 124 8 b (omega arith)))
      (number_back l 132 4 b (omega arith)))
      (last_back w.1 w.0)
      ∙ take_all context_size l (omega arith)

module _ (l : List ℕ) (b : Bytes l) where
  slots_back : (n : ℕ) → contexts_at + context_size * n ≤ length l → ((i : ℕ) → i < n → context_answer (slot_bytes l i) ≡ done)
      → encode_slots (list_of (slot_in l) n) ≡ part contexts_at (context_size * n) l
  unfolding list_of encode_slots
  slots_back zero h f = refl
  slots_back (suc n) h f =
      let at : ℕ = contexts_at + context_size * n in
      let e : context_size * n + context_size ≡ context_size * suc n = omega arith in
      encode_slots_snoc (list_of (slot_in l) n) (slot_in l n)
      ∙ part_on l contexts_at (context_size * n) context_size (slots_back n (omega arith) (λ i u. f i (omega arith)))
      (context_back (slot_bytes l n) (length_part at context_size l (omega arith)) (bytes-part at context_size b) (f n (omega arith)))
      ∙ ap (λ (k : ℕ). part contexts_at k l) e

  -- a table that was read is written as the image that it was read from
  pub state_back : readable_of l ≡ done → encode_state (decode_state l) ≡ l
  unfolding encode_state decode_state
  state_back h =
      let n = readable-size l h in
      part_on l 0 (support_at + 6) 2
      (part_on l 0 (support_at + 4) 2
      (part_on l 0 support_at 4
      (part_on l 0 contexts_at (context_size * slot_count)
      (part_on l 0 4 4 (number_back l 0 4 b (omega arith)) (number_back l 4 4 b (omega arith)))
      (slots_back slot_count (omega arith) (readable_good l h)))
      (number_back l support_at 4 b (omega arith)))
      (number_back l (support_at + 4) 2 b (omega arith)))
      (byte_on l (support_at + 6) 1 (omega arith) (byte_on l (support_at + 7) 0 (omega arith) refl))
      ∙ take_all state_size l (omega arith)

  -- READ THEN WRITE: what is left in any buffer of an image's length is the image that was read
  pub read_write : (t : State) → read_state l ≡ Ok t → (out : List ℕ) → length out ≡ state_size → written t out ≡ l
  read_write t h out n = let r = read_tells l t h in sym (write_whole t out n).1 ∙ ap encode_state (sym r.1) ∙ state_back r.0

-- ---- write, then read

tci_again : (t : TciNodeData) → FitsTci t → (l r : List ℕ) → drop 16 l ≡ encode_tci t ++ r → (decode_tci l ≡ t) × (drop 124 l ≡ r)
unfolding encode_tci decode_tci
tci_again t f l r h =
    let h₁ = next_run l 16 4 (le_bytes 4 t.tci_type) _ (length-le_bytes 4 _) (simp append_assoc at h) in
    let h₂ = next_run l 20 48 t.tci_cumulative _ f.cumulative.size h₁.1 in
    let h₃ = next_run l 68 48 t.tci_current _ f.current.size h₂.1 in
    let h₄ = next_run l 116 4 (le_bytes 4 t.locality) _ (length-le_bytes 4 _) h₃.1 in
    let h₅ = next_run l 120 4 (le_bytes 4 t.svn) _ (length-le_bytes 4 _) h₄.1 in
    (rw (h₁.0, h₂.0, h₃.0, h₄.0, h₅.0, le-le_bytes 4 _ f.kind, le-le_bytes 4 _ f.locality, le-le_bytes 4 _ f.svn), h₅.1)

module _ (c : Context) (f : FitsContext c) where
  bytes_again : (l : List ℕ) → l ≡ encode_context c → (decode_context l ≡ c) × (context_answer l ≡ done)
  unfolding decode_context encode_context encode_last
  bytes_again l e =
      let h₁ = next_run l 0 16 c.handle _ f.handle.size (simp append_assoc at e) in
      let h₂ = tci_again c.tci f.tci l _ h₁.1 in
      let h₃ = next_run l 124 8 (le_bytes 8 c.children) _ (length-le_bytes 8 _) h₂.1 in
      let h₄ = next_run l 132 4 (le_bytes 4 c.locality) _ (length-le_bytes 4 _) h₃.1 in
      let k₁ = next_byte l 136 h₄.1 in
      let k₂ = next_byte l 137 k₁.1 in
      let k₃ = next_byte l 138 k₂.1 in
      let k₄ = next_byte l 139 k₃.1 in
      let k₅ = next_byte l 140 k₄.1 in
      let k₆ = next_byte l 141 k₅.1 in
      let k₇ = next_byte l 142 k₆.1 in
      let k₈ = next_byte l 143 k₇.1 in
      let t = byte_type c.context_type in
      let s = byte_state c.state in
      (rw (h₁.0, h₂.0, h₃.0, h₄.0, k₁.0, k₂.0, k₃.0, k₄.0, k₅.0, k₆.0, k₇.0, k₈.0, t.0, s.0, le-le_bytes 8 _ f.children, le-le_bytes 4 _ f.locality), bytes_done l (rw k₃.0 s.1) (rw k₂.0 t.1))

  -- a context that fits comes back from its bytes, and they read
  pub context_again : decode_context (encode_context c) ≡ c
  context_again = (bytes_again (encode_context c) refl).0

  pub context_reads : context_answer (encode_context c) ≡ done
  context_reads = (bytes_again (encode_context c) refl).1

slot_again : (cs : List Context) (at i : ℕ) (l r : List ℕ) → ((j : ℕ) → j < length cs → FitsContext (slot_of cs j)) → i < length cs
    → drop at l ≡ encode_slots cs ++ r → part (at + context_size * i) context_size l ≡ encode_context (slot_of cs i)
unfolding encode_slots
slot_again [] at i l r f h e = absurd (omega arith)
slot_again (c ∷ cs) at zero l r f h e =
    ap (λ (j : ℕ). part j context_size l) (add-zero at)
    ∙ (next_run l at context_size (encode_context c) _ (length_context c (f 0 (omega arith))) (simp append_assoc at e)).0
slot_again (c ∷ cs) at (suc i) l r f h e =
    let k : at + context_size * suc i ≡ at + context_size + context_size * i = omega arith in
    let n = next_run l at context_size (encode_context c) _ (length_context c (f 0 (omega arith))) (simp append_assoc at e) in
    ap (λ (j : ℕ). part j context_size l) k
    ∙ slot_again cs (at + context_size) i l r (λ j u. f (suc j) (omega arith)) (omega arith) n.1

module _ (t : State) (f : Fits t) where
  fields_again : (l : List ℕ) → l ≡ encode_state t → (decode_state l ≡ t) × (readable_of l ≡ done)
  unfolding decode_state encode_state
  fields_again l e =
      let k = f.slots in
      let h₁ = next_run l 0 4 (le_bytes 4 t.marker) _ (length-le_bytes 4 _) (simp append_assoc at e) in
      let h₂ = next_run l 4 4 (le_bytes 4 t.version) _ (length-le_bytes 4 _) h₁.1 in
      let h₃ = next_run l contexts_at (context_size * slot_count) (encode_slots t.contexts) _ (length_all t f) h₂.1 in
      let h₄ = next_run l support_at 4 (le_bytes 4 t.support) _ (length-le_bytes 4 _) h₃.1 in
      let h₅ = next_run l (support_at + 4) 2 (le_bytes 2 t.flags) _ (length-le_bytes 2 _) h₄.1 in
      let k₁ = next_byte l (support_at + 6) h₅.1 in
      let k₂ = next_byte l (support_at + 7) k₁.1 in
      let slot : (i : ℕ) → i < slot_count → slot_bytes l i ≡ encode_context (slot_of t.contexts i) =
      λ i h. slot_again t.contexts contexts_at i l _ (λ j u. f.contexts j (omega arith)) (omega arith) h₂.1 in
      let cs : list_of (slot_in l) slot_count ≡ t.contexts =
      ext_get_or no_context (list_of (slot_in l) slot_count) t.contexts (length-list_of (slot_in l) slot_count ∙ sym k)
      (λ i u. let h : i < slot_count = omega (arith, length-list_of (slot_in l) slot_count) in
      list_of-at (slot_in l) slot_count i no_context h ∙ ap decode_context (slot i h) ∙ context_again (slot_of t.contexts i) (f.contexts i h)) in (
        rw (h₁.0, h₂.0, h₄.0, h₅.0, k₁.0, k₂.0, cs, le-le_bytes 4 _ f.marker, le-le_bytes 4 _ f.version, le-le_bytes 4 _ f.support, le-le_bytes 2 _ f.flags),
        good_readable l (ap length e ∙ length_state t f) (λ i h. ap context_answer (slot i h) ∙ context_reads (slot_of t.contexts i) (f.contexts i h)),
      )

  -- a table that fits comes back from its image
  pub state_again : decode_state (encode_state t) ≡ t
  state_again = (fields_again (encode_state t) refl).0

  -- WRITE THEN READ: the same table, and no refusal
  pub write_read : read_state (encode_state t) ≡ Ok t
  write_read = let w = fields_again (encode_state t) refl in read_done (encode_state t) w.1 ∙ ap Ok w.0

-- and code owns no table for which it could fail
pub owned_write_read : (t : State) (vs : List Val) → Is the_row t vs → read_state (encode_state t) ≡ Ok t
owned_write_read t vs g = write_read t (owned_fits t vs g)
