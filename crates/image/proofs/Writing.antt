-- Laws of writing a whole table: how long what is written is, and that fields written one after the other are the whole. Assumes nothing.
use Rattle.std.specs.Prelude.{Result, Ok, Err}
use mathlib.Core.Path.{◌≡◌, refl, sym, ap, ◌∙◌}
use mathlib.Core.List.{List, [], ◌∷◌, ◌++◌, append_assoc, append-nil}
use Prim.Native.Nat.{ℕ, zero, suc, ◌+◌, ◌*◌, ◌≤◌, ◌<◌}
use native.Mathlib.Numerals.{add-one}
use native.Mathlib.Omega.{arith}
use borrow.Author.Tests.{eq-eqb, ne_eqb}
use borrow.Rule.Slice.PartMut.{put_mid}
use lib.ListN.{length, take, set, length-append}
use lib.Seq.{take-suc, take-length}
use Rattle.std.specs.Result.{IsOk}
use Rattle.error.specs.declared.DpeErrorCode.{DpeErrorCode}
use Rattle.error.specs.declared.DpeErrorCode.TheVariants.{Added}
use Rattle.error.specs.declared.AddedErrorCode.TheVariants.{BadLength}
use Rattle.children.specs.Marks.{slot_count}
use Rattle.wire.specs.Le.{le_bytes, put}
use Rattle.wire.proofs.Put.{Wrote, wrote-more, length-put, put-nil, put_mid_lem, put_next, put_sets, put_all}
use Rattle.wire.proofs.Le.{length-le_bytes}
use Rattle.context.specs.Context.{slot_of, no_context}
use Rattle.context.specs.declared.Context.{Context}
use Rattle.table.specs.declared.state.State.{State}
use Rattle.image_context.specs.Fits.{FitsContext}
use Rattle.image_kinds.specs.Kinds.{context_size}
use Rattle.image_context.specs.Context.{encode_context}
use Rattle.image_context.proofs.Writing.{length_context}
use Rattle.image.specs.Fits.{Fits}
use Rattle.image.specs.State.{contexts_at, support_at, state_size, encode_slots, encode_state, write_answer, written}

-- ---- lengths

pub length-slots : (cs : List Context) (i : ℕ) → i ≤ length cs → ((j : ℕ) → j < length cs → FitsContext (slot_of cs j)) → length (encode_slots (take i cs)) ≡ context_size * i
unfolding encode_slots
length-slots cs zero h f = refl
length-slots [] (suc i) h f = absurd (omega arith)
length-slots (c ∷ cs) (suc i) h f =
    length-append (encode_context c) (encode_slots (take i cs))
    ∙ omega (arith, length_context c (f 0 (omega arith)), length-slots cs i (omega arith) (λ j u. f (suc j) (omega arith)))

pub length_all : (t : State) → Fits t → length (encode_slots t.contexts) ≡ context_size * slot_count
length_all t f =
    ap (λ (cs : List Context). length (encode_slots cs)) (sym (take-length t.contexts))
    ∙ length-slots t.contexts (length t.contexts) (omega arith) (λ j h. f.contexts j (omega (arith, f.slots)))
    ∙ ap (λ (n : ℕ). context_size * n) f.slots

-- a table that fits is written as an image
pub length_state : (t : State) → Fits t → length (encode_state t) ≡ state_size
unfolding encode_state
length_state t f = simp (length-append, length-le_bytes) (omega (arith, length_all t f))

-- ---- the contexts

pub encode_slots_snoc : (cs : List Context) (c : Context) → encode_slots (cs ++ (c ∷ [])) ≡ encode_slots cs ++ encode_context c
unfolding encode_slots
encode_slots_snoc [] c = append-nil (encode_context c)
encode_slots_snoc (x ∷ cs) c = ap (λ (r : List ℕ). encode_context x ++ r) (encode_slots_snoc cs c) ∙ sym (append_assoc (encode_context x) (encode_slots cs) (encode_context c))

pub slots_none : (cs : List Context) (l : List ℕ) → l ≡ put contexts_at (encode_slots (take 0 cs)) l
unfolding encode_slots
slots_none cs l = sym (put-nil contexts_at l)

-- one context more, written into its own part
pub slot-put : (t : State) (l : List ℕ) (i : ℕ) {l' v : List ℕ} → Fits t → i < slot_count → length l ≡ state_size
    → l' ≡ put contexts_at (encode_slots (take i t.contexts)) l → v ≡ encode_context (slot_of t.contexts i)
    → put_mid (contexts_at + context_size * i) context_size l' v ≡ put contexts_at (encode_slots (take (i + 1) t.contexts)) l
slot-put t l i {l'} {v} f h n p q =
    let cs = t.contexts in
    let k = f.slots in
    let m : length v ≡ context_size = ap length q ∙ length_context (slot_of cs i) (f.contexts i h) in
    let e : encode_slots (take (i + 1) cs) ≡ encode_slots (take i cs) ++ v =
    ap (λ (j : ℕ). encode_slots (take j cs)) (add-one i) ∙ ap encode_slots (take-suc cs i no_context (omega arith)) ∙ encode_slots_snoc (take i cs) (slot_of cs i)
    ∙ ap (λ (x : List ℕ). encode_slots (take i cs) ++ x) (sym q) in
    put_mid_lem (contexts_at + context_size * i) context_size v l' m
    ∙ put_next contexts_at (context_size * i) (encode_slots (take i cs)) v l (length-slots cs i (omega arith) (λ j u. f.contexts j (omega arith))) (omega arith) p refl
    ∙ ap (λ (w : List ℕ). put contexts_at w l) (sym e)

pub length-slots-put : (t : State) (l : List ℕ) (i : ℕ) → Fits t → i ≤ slot_count → length l ≡ state_size → length (put contexts_at (encode_slots (take i t.contexts)) l) ≡ state_size
length-slots-put t l i f h n =
    let k = f.slots in
    length-put contexts_at (encode_slots (take i t.contexts)) l (omega (arith, length-slots t.contexts i (omega arith) (λ j u. f.contexts j (omega arith)))) ∙ n

pub slots-put : (t : State) (l : List ℕ) (i : ℕ) {l' : List ℕ} → Fits t → i ≡ slot_count
    → l' ≡ put contexts_at (encode_slots (take i t.contexts)) l → l' ≡ put contexts_at (encode_slots t.contexts) l
slots-put t l i f e p =
    p ∙ ap (λ (cs : List Context). put contexts_at (encode_slots cs) l) (ap (λ (n : ℕ). take n t.contexts) (e ∙ sym f.slots) ∙ take-length t.contexts)

-- ---- the whole

pub state-put : (t : State) (l : List ℕ) {l₁ l₂ l₃ l₄ l₅ : List ℕ} → Fits t → length l ≡ state_size → length l₅ ≡ state_size
    → l₁ ≡ put 0 (le_bytes 4 t.marker) l → l₂ ≡ put 4 (le_bytes 4 t.version) l₁ → l₃ ≡ put contexts_at (encode_slots t.contexts) l₂
    → l₄ ≡ put support_at (le_bytes 4 t.support) l₃ → l₅ ≡ put (support_at + 4) (le_bytes 2 t.flags) l₄
    → set (set l₅ (support_at + 6) t.has_initialized) (support_at + 7) t.reserved ≡ encode_state t
unfolding encode_state
state-put t l {l₅ = l₅} f n n₅ p₁ p₂ p₃ p₄ p₅ =
    let last = t.has_initialized ∷ t.reserved ∷ [] in
    let w₁ : Wrote 0 4 (le_bytes 4 t.marker) l _ = record { size = length-le_bytes 4 _; bytes = p₁ } in
    let w₂ = wrote-more 0 4 4 (le_bytes 4 t.version) (omega arith) w₁ (length-le_bytes 4 _) p₂ in
    let w₃ = wrote-more 0 contexts_at (context_size * slot_count) (encode_slots t.contexts) (omega arith) w₂ (length_all t f) p₃ in
    let w₄ = wrote-more 0 support_at 4 (le_bytes 4 t.support) (omega arith) w₃ (length-le_bytes 4 _) p₄ in
    let w₅ = wrote-more 0 (support_at + 4) 2 (le_bytes 2 t.flags) (omega arith) w₄ (length-le_bytes 2 _) p₅ in
    let w₆ = wrote-more 0 (support_at + 6) 2 last (omega arith) w₅ refl (put_sets (support_at + 6) last l₅ (omega arith)) in
    w₆.bytes ∙ put_all _ l (w₆.size ∙ sym n)

module _ (t : State) (l : List ℕ) where
  pub write_short : (length l ≡ state_size → ⊥) → (Err (Added BadLength) ≡ write_answer l) × (l ≡ written t l)
  unfolding write_answer written
  write_short h = (rw (ne_eqb _ _ h), rw (ne_eqb _ _ h))

  pub write_whole : length l ≡ state_size → (Ok tt ≡ write_answer l) × (encode_state t ≡ written t l)
  unfolding write_answer written
  write_whole e = (rw (eq-eqb _ _ e), rw (eq-eqb _ _ e))

-- a buffer of an image's length is never refused
pub writes : (l : List ℕ) {a : Result (Unit {0}) DpeErrorCode} → a ≡ write_answer l → length l ≡ state_size → IsOk a
unfolding write_answer
writes l p n = rw (p, eq-eqb _ _ n) refl
