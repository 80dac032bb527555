-- Fields written one after the other are the whole. Assumes nothing.
use mathlib.Core.Path.{◌≡◌, refl, sym, ◌∙◌}
use mathlib.Core.List.{List}
use Prim.Native.Nat.{ℕ}
use native.Mathlib.Omega.{arith}
use lib.ListN.{length}
use Rattle.wire.specs.Le.{le_bytes, put}
use Rattle.wire.proofs.Put.{Wrote, wrote-more, put_all}
use Rattle.wire.proofs.Le.{length-le_bytes}
use Rattle.context.specs.declared.tci.TciNodeData.{TciNodeData}
use Rattle.context.specs.declared.Context.{Context}
use Rattle.image_kinds.specs.Kinds.{context_size}
use Rattle.image_context.specs.Fits.{FitsTci, FitsContext}
use Rattle.image_context.specs.Context.{encode_tci, encode_last, encode_context}
use Rattle.image_context.proofs.Writing.{length-tci}

pub tci-put : (t : TciNodeData) (l : List ℕ) {l₁ l₂ l₃ l₄ l₅ : List ℕ} → FitsTci t → length l ≡ context_size
    → l₁ ≡ put 16 (le_bytes 4 t.tci_type) l → l₂ ≡ put 20 t.tci_cumulative l₁ → l₃ ≡ put 68 t.tci_current l₂
    → l₄ ≡ put 116 (le_bytes 4 t.locality) l₃ → l₅ ≡ put 120 (le_bytes 4 t.svn) l₄ → l₅ ≡ put 16 (encode_tci t) l
unfolding encode_tci
tci-put t l f n p₁ p₂ p₃ p₄ p₅ =
    let w₁ : Wrote 16 4 (le_bytes 4 t.tci_type) l _ = record { size = length-le_bytes 4 _; bytes = p₁ } in
    let w₂ = wrote-more 16 4 48 t.tci_cumulative (omega arith) w₁ f.cumulative.size p₂ in
    let w₃ = wrote-more 16 52 48 t.tci_current (omega arith) w₂ f.current.size p₃ in
    let w₄ = wrote-more 16 100 4 (le_bytes 4 t.locality) (omega arith) w₃ (length-le_bytes 4 _) p₄ in
    (wrote-more 16 104 4 (le_bytes 4 t.svn) (omega arith) w₄ (length-le_bytes 4 _) p₅).bytes

pub context-put : (c : Context) (l : List ℕ) {l₁ l₂ l₃ l₄ l₅ : List ℕ} → FitsContext c → length l ≡ context_size
    → l₁ ≡ put 0 c.handle l → l₂ ≡ put 16 (encode_tci c.tci) l₁ → l₃ ≡ put 124 (le_bytes 8 c.children) l₂
    → l₄ ≡ put 132 (le_bytes 4 c.locality) l₃ → l₅ ≡ put 136 (encode_last c) l₄ → l₅ ≡ encode_context c
unfolding encode_context encode_last
context-put c l f n p₁ p₂ p₃ p₄ p₅ =
    let w₁ : Wrote 0 16 c.handle l _ = record { size = f.handle.size; bytes = p₁ } in
    let w₂ = wrote-more 0 16 108 (encode_tci c.tci) (omega arith) w₁ (length-tci c.tci f.tci) p₂ in
    let w₃ = wrote-more 0 124 8 (le_bytes 8 c.children) (omega arith) w₂ (length-le_bytes 8 _) p₃ in
    let w₄ = wrote-more 0 132 4 (le_bytes 4 c.locality) (omega arith) w₃ (length-le_bytes 4 _) p₄ in
    let w₅ = wrote-more 0 136 8 (encode_last c) (omega arith) w₄ refl p₅ in
    w₅.bytes ∙ put_all _ l (w₅.size ∙ sym n)
