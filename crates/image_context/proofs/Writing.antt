-- How long what is written of a context is. Assumes nothing.
use mathlib.Core.Path.{◌≡◌}
use native.Mathlib.Omega.{arith}
use lib.ListN.{length, length-append}
use Rattle.wire.proofs.Le.{length-le_bytes}
use Rattle.context.specs.declared.tci.TciNodeData.{TciNodeData}
use Rattle.context.specs.declared.Context.{Context}
use Rattle.image_kinds.specs.Kinds.{context_size}
use Rattle.image_context.specs.Fits.{FitsTci, FitsContext}
use Rattle.image_context.specs.Context.{encode_tci, encode_last, encode_context}

pub length-tci : (t : TciNodeData) → FitsTci t → length (encode_tci t) ≡ 108
unfolding encode_tci
length-tci t f = simp (length-append, length-le_bytes) (omega (arith, f.cumulative.size, f.current.size))

pub length_context : (c : Context) → FitsContext c → length (encode_context c) ≡ context_size
unfolding encode_context encode_last
length_context c f = simp (length-append, length-le_bytes) (omega (arith, f.handle.size, length-tci c.tci f.tci))
